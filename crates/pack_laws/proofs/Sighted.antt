-- What the sectors of a pack show, when a record is written.
use Rattle.std.proofs.Common.{◌≡◌, ℕ, zero, suc, ◌+◌, ◌<◌, ◌≤◌, Bool, true, false, cond, List, [], ◌∷◌, length, get_or, set, take, refl, sym, ap, ◌∙◌, arith, leb-true, min}
use Rattle.std.specs.Prelude.{◌&&◌}
use Rattle.std.proofs.lemmas.List.{set-get_or, length-take}
use Rattle.pack_model.specs.alto_words.specs.declared.fid.Fid.{Fid}
use Rattle.pack_model.specs.disk_records.specs.declared.shape.Shape.{Shape}
use Rattle.pack_model.specs.disk_records.specs.declared.records.Sector.{Sector}
use Rattle.pack_model.specs.disk_records.specs.declared.records.Event.TheVariants.{Wrote}
use Rattle.pack_model.specs.disk_records.specs.Labels.{Tag, tag, in_range, is_free}
use Rattle.pack_model.specs.disk_records.specs.Packs.{Pack, after, sector_at, with_part, no_sector, is_usable}
use Rattle.pack_model.specs.reading.Bytes.{bytes_of}
use Rattle.pack_model.specs.reading.Sights.{Sight, sight, sights, sights_from, tag_sight, page_sight}
use Rattle.pack_model.specs.reading.Sights.Sight.{hidden, free, stray, holds}

-- ---- sights and sectors
module _ (shape : Shape) where
  -- a sight for each sector
  length-sights_from : (at : ℕ) (ss : List Sector) → length (sights_from shape at ss) ≡ length ss
  unfolding sights_from
  length-sights_from at [] = refl
  length-sights_from at (s ∷ ss) = ap suc (length-sights_from (suc at) ss)

  -- each sector's at its place
  sights_from-get : (at : ℕ) (ss : List Sector) (i : ℕ) (d : Sector) (e : Sight) → i < length ss → get_or (sights_from shape at ss) i e ≡ sight shape (at + i) (get_or ss i d)
  unfolding sights_from
  sights_from-get at [] i d e l = absurd (omega arith)
  sights_from-get at (s ∷ ss) zero d e l = let z : at + 0 ≡ at = omega arith in rw z refl
  sights_from-get at (s ∷ ss) (suc i) d e l = let z : at + suc i ≡ suc at + i = omega arith in rw z (sights_from-get (suc at) ss i d e (omega arith))

  -- one sector changes
  sights_from-set : (at : ℕ) (ss : List Sector) (i : ℕ) (s : Sector) → sights_from shape at (set ss i s) ≡ set (sights_from shape at ss) i (sight shape (at + i) s)
  unfolding sights_from
  sights_from-set at [] i s = refl
  sights_from-set at (x ∷ ss) zero s = let z : at + 0 ≡ at = omega arith in rw z refl
  sights_from-set at (x ∷ ss) (suc i) s = let z : at + suc i ≡ suc at + i = omega arith in rw z (ap (λ r. sight shape at x ∷ r) (sights_from-set (suc at) ss i s))

-- a sight for each sector
pub length-sights : (p : Pack) → length (sights p) ≡ length p.sectors
length-sights p = length-sights_from p.shape 0 p.sectors

-- the sight at an address is that of the sector there
pub sights-get : (p : Pack) (at : ℕ) (d : Sight) → at < length p.sectors → get_or (sights p) at d ≡ sight p.shape at (sector_at p at)
sights-get p at d l = let z : 0 + at ≡ at = omega arith in sights_from-get p.shape 0 p.sectors at no_sector d l ∙ ap (λ k. sight p.shape k (sector_at p at)) z

-- a record write changes one sight
pub sights-write : (p : Pack) (at part : ℕ) (words : List ℕ) → sights (after p (Wrote at part words ∷ [])) ≡ set (sights p) at (sight p.shape at (with_part part words (sector_at p at)))
sights-write p at part words =
    let z : 0 + at ≡ at = omega arith in
    sights_from-set p.shape 0 p.sectors at (with_part part words (sector_at p at)) ∙ ap (λ k. set (sights p) at (sight p.shape k (with_part part words (sector_at p at)))) z

-- a record write after which its sector shows what it showed
pub sights_same : (p : Pack) (at part : ℕ) (words : List ℕ) → at < length p.sectors → sight p.shape at (with_part part words (sector_at p at)) ≡ sight p.shape at (sector_at p at) → sights (after p (Wrote at part words ∷ [])) ≡ sights p
sights_same p at part words l e =
    sights-write p at part words ∙ ap (set (sights p) at) (e ∙ sym (sights-get p at hidden l)) ∙ set-get_or (sights p) at hidden

-- ---- what a sector has to be to show a page
pub record ShowsPage (shape : Shape) (at : ℕ) (s : Sector) (f : Fid) (n : ℕ) (bytes : List ℕ) : Type 0 where
  pub usable : is_usable shape at s ≡ true
  pub ranged : in_range (tag s.label) ≡ true
  pub fid : (tag s.label).fid ≡ f
  pub number : (tag s.label).page ≡ suc n
  pub bytes_are : bytes ≡ take (tag s.label).bytes (bytes_of s.value)

-- a data page is shown by a usable sector whose label names it
pub shows_page : (shape : Shape) (at : ℕ) (s : Sector) (f : Fid) (n : ℕ) (bytes : List ℕ) → sight shape at s ≡ holds f n bytes → ShowsPage shape at s f n bytes
unfolding sight
shows_page shape at s f n bytes e = by (is_usable shape at s) (in_range (tag s.label)) (is_free (tag s.label)) (tag s.label).page refl refl refl e
  where
    by : (u r f0 : Bool) (k : ℕ) → is_usable shape at s ≡ u → in_range (tag s.label) ≡ r → (tag s.label).page ≡ k → cond u (cond r (page_sight (tag s.label).fid k (tag s.label).bytes s.value) (cond f0 free stray)) hidden ≡ holds f n bytes → ShowsPage shape at s f n bytes
    by false r f0 k a b c e = absurd cc
    by true false true k a b c e = absurd cc
    by true false false k a b c e = absurd cc
    by true true f0 zero a b c e = absurd cc
    by true true f0 (suc k) a b c e =
        let same : k ≡ n = cc in
        record { usable = a; ranged = b; fid = cc; number = c ∙ ap suc same; bytes_are = cc }

-- and what such a sector shows
pub page_shown : (shape : Shape) (at : ℕ) (s : Sector) (f : Fid) (n : ℕ) → is_usable shape at s ≡ true → in_range (tag s.label) ≡ true → (tag s.label).fid ≡ f → (tag s.label).page ≡ suc n → sight shape at s ≡ holds f n (take (tag s.label).bytes (bytes_of s.value))
unfolding sight
page_shown shape at s f n u r is number =
    ap (λ b. cond b (tag_sight (tag s.label) s.value) hidden) u
    ∙ ap (λ b. cond b (page_sight (tag s.label).fid (tag s.label).page (tag s.label).bytes s.value) (cond (is_free (tag s.label)) free stray)) r
    ∙ ap (λ k. page_sight (tag s.label).fid k (tag s.label).bytes s.value) number
    ∙ ap (λ g. holds g n (take (tag s.label).bytes (bytes_of s.value))) is

-- with another value it shows other bytes of the same page
pub value_shown : (shape : Shape) (at : ℕ) (s : Sector) (f : Fid) (n : ℕ) (bytes words : List ℕ) → ShowsPage shape at s f n bytes → sight shape at (with_part 2 words s) ≡ holds f n (take (tag s.label).bytes (bytes_of words))
value_shown shape at s f n bytes words h = page_shown shape at (with_part 2 words s) f n h.usable h.ranged h.fid h.number

-- the first of two
and_true : (a b : Bool) → (a && b) ≡ true → a ≡ true
and_true true b e = refl
and_true false b e = e

-- a label in range counts at most 512 bytes
pub counted : (t : Tag) → in_range t ≡ true → t.bytes ≤ 512
unfolding in_range
counted t r = leb-true t.bytes 512 (and_true _ _ (and_true _ _ (and_true _ _ (and_true _ _ r))))

-- no page has more than 512 bytes
pub page_size : (shape : Shape) (at : ℕ) (s : Sector) (f : Fid) (n : ℕ) (bytes : List ℕ) → sight shape at s ≡ holds f n bytes → length bytes ≤ 512
page_size shape at s f n bytes e =
    let h = shows_page shape at s f n bytes e in
    let most : (tag s.label).bytes ≤ 512 = counted (tag s.label) h.ranged in
    let size : length bytes ≡ min (tag s.label).bytes (length (bytes_of s.value)) = ap length h.bytes_are ∙ length-take (tag s.label).bytes (bytes_of s.value) in
    omega arith
