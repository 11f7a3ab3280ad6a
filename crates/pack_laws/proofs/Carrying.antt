-- Sectors that carry a page, by their labels and by what they show.
use Rattle.std.proofs.Common.{◌≡◌, ℕ, zero, suc, ◌<◌, Bool, true, false, cond, length, get_or, take, Some, None, refl, sym, ap, ◌∙◌}
use Rattle.pack_model.specs.alto_words.specs.declared.fid.Fid.{Fid}
use Rattle.pack_model.specs.disk_records.specs.declared.shape.Shape.{Shape}
use Rattle.pack_model.specs.disk_records.specs.declared.records.Sector.{Sector}
use Rattle.pack_model.specs.disk_records.specs.declared.records.Page.{Page}
use Rattle.pack_model.specs.disk_records.specs.Labels.{tag, in_range, is_free, page_of}
use Rattle.pack_model.specs.disk_records.specs.Packs.{Pack, sector_at, is_usable, carried}
use Rattle.pack_model.specs.reading.Bytes.{bytes_of}
use Rattle.pack_model.specs.reading.Leaders.{leader_of, leader_words, is_readable}
use Rattle.pack_model.specs.reading.Sights.{Sight, sight, sights, tag_sight, page_sight}
use Rattle.pack_model.specs.reading.Sights.Sight.{hidden, free, stray, leads}
use Rattle.pack_model.specs.reading.Files.{carries_page}
use Rattle.pack_laws.proofs.Keys.{is_fid-itself, same_fid}
use Rattle.pack_laws.proofs.Sighted.{page_shown, sights-get}
use Rattle.pack_laws.proofs.Placing.{both_test, carries-holds}

-- a usable sector whose label is in range and names this page
pub record Names (shape : Shape) (at : ℕ) (s : Sector) (f : Fid) (n : ℕ) : Type 0 where
  pub usable : is_usable shape at s ≡ true
  pub ranged : in_range (tag s.label) ≡ true
  pub fid : (tag s.label).fid ≡ f
  pub number : (tag s.label).page ≡ n

-- a sector that carries a page, by what it shows, names it
pub names_of_sight : (shape : Shape) (at : ℕ) (s : Sector) (f : Fid) (n : ℕ) → carries_page f n (sight shape at s) ≡ true → Names shape at s f n
unfolding sight
names_of_sight shape at s f n e = by n (is_usable shape at s) (in_range (tag s.label)) (is_free (tag s.label)) (tag s.label).page refl refl refl e
  where
    by : (n : ℕ) (u r v : Bool) (k : ℕ) → is_usable shape at s ≡ u → in_range (tag s.label) ≡ r → (tag s.label).page ≡ k → carries_page f n (cond u (cond r (page_sight (tag s.label).fid k (tag s.label).bytes s.value) (cond v free stray)) hidden) ≡ true → Names shape at s f n
    by n false r v k a b c e = absurd cc
    by n true false true k a b c e = absurd cc
    by n true false false k a b c e = absurd cc
    by zero true true v zero a b c e = record { usable = a; ranged = b; fid = sym (same_fid f (tag s.label).fid e); number = c }
    by zero true true v (suc k) a b c e = absurd cc
    by (suc n) true true v zero a b c e = absurd cc
    by (suc n) true true v (suc k) a b c e =
        let same = both_test f (tag s.label).fid n k e in
        record { usable = a; ranged = b; fid = same.0; number = c ∙ ap suc same.1 }

-- a usable sector whose label names a leader page shows the leader
pub leader_shown : (shape : Shape) (at : ℕ) (s : Sector) (f : Fid) → Names shape at s f 0 → sight shape at s ≡ leads f (is_readable (leader_words s.value)) (leader_of f s.value)
unfolding sight
leader_shown shape at s f h =
    ap (λ b. cond b (tag_sight (tag s.label) s.value) hidden) h.usable
    ∙ ap (λ b. cond b (page_sight (tag s.label).fid (tag s.label).page (tag s.label).bytes s.value) (cond (is_free (tag s.label)) free stray)) h.ranged
    ∙ ap (λ k. page_sight (tag s.label).fid k (tag s.label).bytes s.value) h.number
    ∙ ap (λ g. leads g (is_readable (leader_words s.value)) (leader_of g s.value)) h.fid

-- a sector that names a page carries it, by what it shows
pub sight_of_names : (shape : Shape) (at : ℕ) (s : Sector) (f : Fid) (n : ℕ) → Names shape at s f n → carries_page f n (sight shape at s) ≡ true
sight_of_names shape at s f zero h = ap (carries_page f 0) (leader_shown shape at s f h) ∙ is_fid-itself f
sight_of_names shape at s f (suc n) h =
    ap (carries_page f (suc n)) (page_shown shape at s f n h.usable h.ranged h.fid h.number) ∙ carries-holds f n (take (tag s.label).bytes (bytes_of s.value))

-- what the label of a sector says that is carried
names_of_carried : (shape : Shape) (at : ℕ) (s : Sector) (page : Page) → cond (is_usable shape at s) (page_of s.label) None ≡ Some page → Names shape at s page.fid page.number
names_of_carried shape at s page e = by (is_usable shape at s) (in_range (tag s.label)) refl refl e
  where
    by : (u r : Bool) → is_usable shape at s ≡ u → in_range (tag s.label) ≡ r → cond u (cond r (Some (record { fid = (tag s.label).fid; number = (tag s.label).page })) None) None ≡ Some page → Names shape at s page.fid page.number
    by false r a b e = absurd cc
    by true false a b e = absurd cc
    by true true a b e =
        let same : ◌≡◌ {A = Page} (record { fid = (tag s.label).fid; number = (tag s.label).page }) page = cc in
        record { usable = a; ranged = b; fid = ap (λ x. x.fid) same; number = ap (λ x. x.number) same }

carried_of_names : (shape : Shape) (at : ℕ) (s : Sector) (page : Page) → Names shape at s page.fid page.number → cond (is_usable shape at s) (page_of s.label) None ≡ Some page
carried_of_names shape at s page h =
    ap (λ b. cond b (page_of s.label) None) h.usable
    ∙ ap (λ b. cond b (Some (record { fid = (tag s.label).fid; number = (tag s.label).page })) None) h.ranged
    ∙ (λ i. Some (record { fid = h.fid i; number = h.number i }))

-- ---- on a pack
-- The sector at an address carries a page, by its label, if and only if what it shows carries it.
pub sight_carries : (p : Pack) (at : ℕ) (page : Page) (d : Sight) → at < length p.sectors → carried p at ≡ Some page → carries_page page.fid page.number (get_or (sights p) at d) ≡ true
sight_carries p at page d l e =
    ap (carries_page page.fid page.number) (sights-get p at d l)
    ∙ sight_of_names p.shape at (sector_at p at) page.fid page.number (names_of_carried p.shape at (sector_at p at) page e)

-- and the other way
pub carried_shown : (p : Pack) (at : ℕ) (page : Page) (d : Sight) → at < length p.sectors → carries_page page.fid page.number (get_or (sights p) at d) ≡ true → carried p at ≡ Some page
carried_shown p at page d l e =
    carried_of_names p.shape at (sector_at p at) page
    (names_of_sight p.shape at (sector_at p at) page.fid page.number (ap (carries_page page.fid page.number) (sym (sights-get p at d l)) ∙ e))
