-- Writes after which a sector shows what it showed, or a leader page with the same leader.
use Rattle.std.proofs.Common.{◌+◌, ◌<◌, ◌∙◌, ◌∷◌, ◌≡◌, List, [], ap, arith, cond, drop, get_or, get_or-drop, refl, set, suc, sym, take, zero, ℕ}
use Rattle.pack_laws.specs.alto_words.specs.declared.fid.Fid.{Fid}
use Rattle.pack_laws.specs.disk_records.specs.Labels.{tag}
use Rattle.pack_laws.specs.disk_records.specs.Packs.{Pack, after, is_usable, no_sector, sector_at, with_part}
use Rattle.pack_laws.specs.disk_records.specs.Words.{double, word}
use Rattle.pack_laws.specs.disk_records.specs.declared.records.Event.TheVariants.{Wrote}
use Rattle.pack_laws.specs.disk_records.specs.declared.records.Sector.{Sector}
use Rattle.pack_laws.specs.disk_records.specs.declared.shape.Shape.{Shape}
use Rattle.pack_laws.specs.pack_model.specs.reading.Bytes.{bytes_of}
use Rattle.pack_laws.specs.pack_model.specs.reading.Leaders.{is_readable, leader_name, leader_of, leader_words}
use Rattle.pack_laws.specs.pack_model.specs.reading.Sights.{page_sight, sight, sights, sights_from, tag_sight}
use Rattle.pack_laws.specs.pack_model.specs.reading.Sights.Sight.{hidden, holds, leads}
use Rattle.pack_laws.proofs.Guarding.{carried_parts, free_parts, free_shown, named_shown}
use Rattle.laws_record.proofs.Staying.{Stays, stay_sights}
use Rattle.laws_record.specs.QuietLaws.{EqualValue, FreeValue, LeaderHints, OtherLinks, PastCount, with_label, with_value}

-- ---- one sector changes
module _ (shape : Shape) where
  -- a sector that shows what it showed changes nothing, also past the end of the pack
  same_from : (at : ℕ) (ss : List Sector) (i : ℕ) (s d : Sector) → sight shape (at + i) s ≡ sight shape (at + i) (get_or ss i d) → sights_from shape at (set ss i s) ≡ sights_from shape at ss
  unfolding sights_from
  same_from at [] i s d e = refl
  same_from at (x ∷ ss) zero s d e = let z : at + 0 ≡ at = omega arith in ap (λ r. r ∷ sights_from shape (suc at) ss) (rw z at e)
  same_from at (x ∷ ss) (suc i) s d e = let z : at + suc i ≡ suc at + i = omega arith in ap (λ r. sight shape at x ∷ r) (same_from (suc at) ss i s d (rw z at e))

-- a record write after which its sector shows what it showed
pub sights_kept : (p : Pack) (at part : ℕ) (words : List ℕ) → sight p.shape at (with_part part words (sector_at p at)) ≡ sight p.shape at (sector_at p at) → sights (after p (Wrote at part words ∷ [])) ≡ sights p
sights_kept p at part words e =
    let z : 0 + at ≡ at = omega arith in
    same_from p.shape 0 p.sectors at (with_part part words (sector_at p at)) no_sector (ap (λ k. sight p.shape k (with_part part words (sector_at p at))) z ∙ e ∙ sym (ap (λ k. sight p.shape k (sector_at p at)) z))

-- a write of the words that stand there
equal_part : (p : Pack) (at : ℕ) → Stays p (with_value p at (sector_at p at).value)
equal_part p at = stay_sights p (with_value p at (sector_at p at).value) refl (sights_kept p at 2 (sector_at p at).value refl)

-- another value under the same label
value_quiet : (p : Pack) (at : ℕ) (value : List ℕ) → tag_sight (tag (sector_at p at).label) value ≡ tag_sight (tag (sector_at p at).label) (sector_at p at).value → Stays p (with_value p at value)
unfolding sight
value_quiet p at value e = stay_sights p (with_value p at value) refl (sights_kept p at 2 value (ap (λ s. cond (is_usable p.shape at (sector_at p at)) s hidden) e))

-- another label over the same value
label_quiet : (p : Pack) (at : ℕ) (label : List ℕ) → tag label ≡ tag (sector_at p at).label → Stays p (with_label p at label)
unfolding sight
label_quiet p at label e = stay_sights p (with_label p at label) refl (sights_kept p at 1 label (ap (λ t. cond (is_usable p.shape at (sector_at p at)) (tag_sight t (sector_at p at).value) hidden) e))

-- ---- the kinds
-- any value of a free sector
pub free_value : FreeValue Stays
free_value p at value e =
    let parts = free_parts p at e in
    value_quiet p at value (free_shown (tag (sector_at p at).label) value parts.1 ∙ sym (free_shown (tag (sector_at p at).label) (sector_at p at).value parts.1))

-- the value that stands there
pub equal_value : EqualValue Stays
equal_value p at = equal_part p at

-- a word of a label is one of those after its first three
word_behind : (label : List ℕ) (k : ℕ) → word label (3 + k) ≡ word (drop 3 label) k
word_behind label k = sym (get_or-drop 3 label k 0)

-- the same words after the first three say the same
pub tag_after : (a b : List ℕ) → drop 3 b ≡ drop 3 a → tag b ≡ tag a
tag_after a b e =
    let same : (k : ℕ) → word b (3 + k) ≡ word a (3 + k) = λ k. word_behind b k ∙ ap (λ x. word x k) e ∙ sym (word_behind a k) in
    λ i. record { fid = record { high = same 3 i; low = same 4 i; version = same 2 i }; page = same 1 i; bytes = same 0 i }

-- a label with other links
pub other_links : OtherLinks Stays
other_links p at label e = label_quiet p at label (tag_after (sector_at p at).label label e)

-- the same counted bytes of a data page
past_same : (f : Fid) (n count : ℕ) (a b : List ℕ) → 0 < n → take count (bytes_of a) ≡ take count (bytes_of b) → page_sight f n count a ≡ page_sight f n count b
past_same f zero count a b l e = absurd (omega arith)
past_same f (suc n) count a b l e = ap (holds f n) e

-- bytes past a count
pub past_count : PastCount Stays
past_count p at page value is some e =
    let parts = carried_parts p at page is in
    value_quiet p at value (named_shown (sector_at p at).label value page parts.1 ∙ past_same page.fid page.number _ value (sector_at p at).value some e ∙ sym (named_shown (sector_at p at).label (sector_at p at).value page parts.1))

-- the same words of a leader before the hints
pub hints_same : (f : Fid) (n count : ℕ) (a b : List ℕ) → n ≡ 0 → leader_words a ≡ leader_words b → page_sight f n count a ≡ page_sight f n count b
unfolding leader_of
hints_same f zero count a b z e = λ i. leads f (is_readable (e i)) (record { created = double (e i) 0; written = double (e i) 2; read = double (e i) 4; name = leader_name f (e i); rest = drop 26 (e i) })
hints_same f (suc n) count a b z e = absurd (omega arith)

-- a leader's hints
pub leader_hints : LeaderHints Stays
leader_hints p at page value is first e =
    let parts = carried_parts p at page is in
    value_quiet p at value (named_shown (sector_at p at).label value page parts.1 ∙ hints_same page.fid page.number _ value (sector_at p at).value first e ∙ sym (named_shown (sector_at p at).label (sector_at p at).value page parts.1))
