-- What the record writes of the guarded sector commands mean.
use Rattle.std.proofs.Common.{◌≡◌, ◌≢◌, ℕ, zero, suc, ◌<◌, ◌⊎◌, inl, inr, Bool, true, false, cond, nat_lt, List, [], ◌∷◌, length, get_or, set, Option, Some, None, refl, sym, ap, ◌∙◌, arith}
use Rattle.std.specs.Prelude.{◌&&◌}
use Rattle.std.proofs.lemmas.List.{get_or-set_same, get_or-set_other}
use Rattle.std.proofs.lemmas.Option.{cond_some}
use Rattle.std.proofs.lemmas.Bool.Decides.{nat_tests}
use Rattle.pack_model.specs.disk_records.specs.declared.shape.Shape.{Shape}
use Rattle.pack_model.specs.disk_records.specs.declared.records.Page.{Page}
use Rattle.pack_model.specs.disk_records.specs.declared.records.Sector.{Sector}
use Rattle.pack_model.specs.disk_records.specs.declared.records.Event.TheVariants.{Wrote}
use Rattle.pack_model.specs.disk_records.specs.Addresses.{is_right_header}
use Rattle.pack_model.specs.disk_records.specs.Commands.{ones}
use Rattle.pack_model.specs.disk_records.specs.Labels.{Tag, tag, in_range, is_free, page_of}
use Rattle.pack_model.specs.disk_records.specs.Packs.{Pack, after, sector_at, no_sector, with_part, is_usable, carried, is_free_at}
use Rattle.pack_model.specs.disk_records.proofs.Reals.{real_of-above}
use Rattle.pack_model.specs.reading.Sights.{sight, tag_sight, page_sight}
use Rattle.pack_model.specs.reading.Sights.Sight.{hidden, free, stray}

-- ---- labels
-- a label in range isn't free, and the other way
pub in_range_taken : (t : Tag) → in_range t ≡ true → is_free t ≡ false
unfolding in_range is_free
in_range_taken t ranged = grind (arith, nat_tests)

pub free_out_of_range : (t : Tag) → is_free t ≡ true → in_range t ≡ false
unfolding in_range is_free
free_out_of_range t none = grind (arith, nat_tests)

-- what a label that names a page shows
pub named_shown : (label value : List ℕ) (page : Page) → page_of label ≡ Some page → tag_sight (tag label) value ≡ page_sight page.fid page.number (tag label).bytes value
named_shown label value page names =
    let parts = cond_some (in_range (tag label)) _ page names in
    ap (λ b. cond b (page_sight (tag label).fid (tag label).page (tag label).bytes value) (cond (is_free (tag label)) free stray)) parts.0
    ∙ ap (λ (x : Page). page_sight x.fid x.number (tag label).bytes value) parts.1

pub named_taken : (label : List ℕ) (page : Page) → page_of label ≡ Some page → is_free (tag label) ≡ false
named_taken label page names = in_range_taken (tag label) (cond_some (in_range (tag label)) _ page names).0

pub free_shown : (t : Tag) (value : List ℕ) → is_free t ≡ true → tag_sight t value ≡ free
free_shown t value none =
    ap (λ b. cond b (page_sight t.fid t.page t.bytes value) (cond (is_free t) free stray)) (free_out_of_range t none) ∙ ap (λ b. cond b free stray) none

pub free_unnamed : (label : List ℕ) → is_free (tag label) ≡ true → page_of label ≡ None
free_unnamed label none = ap (λ b. cond b (Some (record { fid = (tag label).fid; number = (tag label).page })) None) (free_out_of_range (tag label) none)

-- ---- usable sectors
-- an address is within a list of sectors, or there is none
within_or_none : (sectors : List Sector) (at : ℕ) → (at < length sectors) ⊎ (get_or sectors at no_sector ≡ no_sector)
within_or_none [] at = inr refl
within_or_none (s ∷ sectors) zero = inl (omega arith)
within_or_none (s ∷ sectors) (suc at) = elim (within_or_none sectors at) [ inl l ↦ inl (omega arith) | inr e ↦ inr e ]

-- a usable sector is one of the pack's
pub usable_within : (p : Pack) (at : ℕ) → is_usable p.shape at (sector_at p at) ≡ true → at < length p.sectors
usable_within p at usable = elim (within_or_none p.sectors at) [ inl l ↦ l | inr e ↦ absurd (none p.shape (ap (is_usable p.shape at) (sym e) ∙ usable)) ]
  where
    none : (shape : Shape) → is_usable shape at no_sector ≡ true → ⊥
    none shape usable = let above = real_of-above shape at in grind (arith, nat_tests)

-- what a usable sector shows
pub usable_shown : (shape : Shape) (at : ℕ) (s : Sector) → is_usable shape at s ≡ true → sight shape at s ≡ tag_sight (tag s.label) s.value
unfolding sight
usable_shown shape at s usable = ap (λ b. cond b (tag_sight (tag s.label) s.value) hidden) usable

-- a sector that carries a page is usable and its label names the page; likewise a free one
usable_page : (usable : Bool) (page : Option Page) (x : Page) → cond usable page None ≡ Some x → (usable ≡ true) × (page ≡ Some x)
usable_page true page x is = (refl, is)
usable_page false page x is = cc

usable_free : (usable none : Bool) → cond usable none false ≡ true → (usable ≡ true) × (none ≡ true)
usable_free true none is = (refl, is)
usable_free false none is = cc

pub carried_parts : (p : Pack) (at : ℕ) (page : Page) → carried p at ≡ Some page → (is_usable p.shape at (sector_at p at) ≡ true) × (page_of (sector_at p at).label ≡ Some page)
carried_parts p at page is = usable_page (is_usable p.shape at (sector_at p at)) (page_of (sector_at p at).label) page is

pub free_parts : (p : Pack) (at : ℕ) → is_free_at p at ≡ true → (is_usable p.shape at (sector_at p at) ≡ true) × (is_free (tag (sector_at p at).label) ≡ true)
free_parts p at is = usable_free (is_usable p.shape at (sector_at p at)) (is_free (tag (sector_at p at).label)) is

-- ---- one record write
module _ (p : Pack) (at part : ℕ) (words : List ℕ) where
  pub other_kept : (i : ℕ) → i ≢ at → sector_at (after p (Wrote at part words ∷ [])) i ≡ sector_at p i
  other_kept i other = get_or-set_other p.sectors at i (with_part part words (sector_at p at)) no_sector other

  pub here_written : at < length p.sectors → sector_at (after p (Wrote at part words ∷ [])) at ≡ with_part part words (sector_at p at)
  here_written l = get_or-set_same p.sectors at (with_part part words (sector_at p at)) no_sector l

-- the page and the freedom of a sector, by its header and its label
abbrev pub page_on : Shape → ℕ → List ℕ → List ℕ → Option Page
page_on shape at header label = cond (nat_lt 0 at && is_right_header shape at header) (page_of label) None

abbrev pub free_on : Shape → ℕ → List ℕ → List ℕ → Bool
free_on shape at header label = cond (nat_lt 0 at && is_right_header shape at header) (is_free (tag label)) false

-- a value write leaves headers and labels
pub front_from : (sectors : List Sector) (at i : ℕ) (value : List ℕ) → let s = get_or (set sectors at (with_part 2 value (get_or sectors at no_sector))) i no_sector in (s.header ≡ (get_or sectors i no_sector).header) × (s.label ≡ (get_or sectors i no_sector).label)
front_from [] at i value = (refl, refl)
front_from (s ∷ sectors) zero zero value = (refl, refl)
front_from (s ∷ sectors) zero (suc i) value = (refl, refl)
front_from (s ∷ sectors) (suc at) zero value = (refl, refl)
front_from (s ∷ sectors) (suc at) (suc i) value = front_from sectors at i value

module _ (p : Pack) (at : ℕ) (value : List ℕ) where
  pub value_page : (i : ℕ) → carried (after p (Wrote at 2 value ∷ [])) i ≡ carried p i
  value_page i = let front = front_from p.sectors at i value in λ j. page_on p.shape i (front.0 j) (front.1 j)

-- ---- the laws
pub ones_free : is_free (tag (ones 8)) ≡ true
unfolding is_free
ones_free = refl
