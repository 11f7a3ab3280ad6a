-- What sectors show before and after a record is written, by what they carry.
use Rattle.std.proofs.Common.{◌<◌, ◌∙◌, ◌≡◌, List, Some, ap, get_or, length, ltb-true, nat_lt, set, subst, sym, true, ℕ}
use Rattle.std.proofs.lemmas.Option.{cond_some}
use Rattle.pack_laws.specs.disk_records.specs.Labels.{Tag, in_range, is_free, page_of, tag}
use Rattle.pack_laws.specs.disk_records.specs.Packs.{Pack, carried, is_free_at, is_usable, sector_at, with_part}
use Rattle.pack_laws.specs.disk_records.specs.declared.records.Page.{Page}
use Rattle.pack_laws.specs.pack_model.specs.reading.Sights.{page_sight, sights}
use Rattle.pack_laws.specs.pack_model.specs.reading.Sights.Sight.{free, hidden}
use Rattle.pack_laws.proofs.Guarding.{carried_parts, free_parts, free_shown, named_shown, usable_shown, usable_within}
use Rattle.pack_laws.proofs.Sighted.{length-sights, sights-get, sights-write}
use Rattle.laws_record.specs.QuietLaws.{with_label, with_value}
use Rattle.laws_record.proofs.Heads.{and_right}

-- a page number is a word
numbered_below : (t : Tag) → in_range t ≡ true → t.page < 65536
unfolding in_range
numbered_below t e = ltb-true t.page 65536 (and_right _ (nat_lt t.page 65536) e)

-- also in a label
pub number_below : (label : List ℕ) (page : Page) → page_of label ≡ Some page → page.number < 65536
number_below label page names =
    let h = cond_some (in_range (tag label)) _ page names in
    subst (λ n. n < 65536) (ap (λ (x : Page). x.number) h.1) (numbered_below (tag label) h.0)

module _ (p : Pack) (at : ℕ) where
  -- what a sector shows that carries a page
  pub carried_sight : (x : Page) → carried p at ≡ Some x → get_or (sights p) at hidden ≡ page_sight x.fid x.number (tag (sector_at p at).label).bytes (sector_at p at).value
  carried_sight x is =
      let parts = carried_parts p at x is in
      sights-get p at hidden (usable_within p at parts.0) ∙ usable_shown p.shape at (sector_at p at) parts.0 ∙ named_shown (sector_at p at).label (sector_at p at).value x parts.1

  -- a free one
  pub free_sight : is_free_at p at ≡ true → get_or (sights p) at hidden ≡ free
  free_sight is =
      let parts = free_parts p at is in
      sights-get p at hidden (usable_within p at parts.0) ∙ usable_shown p.shape at (sector_at p at) parts.0 ∙ free_shown (tag (sector_at p at).label) (sector_at p at).value parts.1

  -- a label that names a page is written
  pub label_sights : (x : Page) (label : List ℕ) → is_usable p.shape at (sector_at p at) ≡ true → page_of label ≡ Some x → sights (with_label p at label) ≡ set (sights p) at (page_sight x.fid x.number (tag label).bytes (sector_at p at).value)
  label_sights x label usable names =
      sights-write p at 1 label
      ∙ ap (set (sights p) at) (usable_shown p.shape at (with_part 1 label (sector_at p at)) usable ∙ named_shown label (sector_at p at).value x names)

  -- a free label is written
  pub freed_sights : (label : List ℕ) → is_usable p.shape at (sector_at p at) ≡ true → is_free (tag label) ≡ true → sights (with_label p at label) ≡ set (sights p) at free
  freed_sights label usable none =
      sights-write p at 1 label
      ∙ ap (set (sights p) at) (usable_shown p.shape at (with_part 1 label (sector_at p at)) usable ∙ free_shown (tag label) (sector_at p at).value none)

  -- a value is written in a sector that carries a page
  pub value_sights : (x : Page) (value : List ℕ) → carried p at ≡ Some x → sights (with_value p at value) ≡ set (sights p) at (page_sight x.fid x.number (tag (sector_at p at).label).bytes value)
  value_sights x value is =
      let parts = carried_parts p at x is in
      sights-write p at 2 value
      ∙ ap (set (sights p) at) (usable_shown p.shape at (with_part 2 value (sector_at p at)) parts.0 ∙ named_shown (sector_at p at).label value x parts.1)

  -- the address is one of the pack's
  pub carried_within : (x : Page) → carried p at ≡ Some x → at < length (sights p)
  carried_within x is = subst (λ n. at < n) (sym (length-sights p)) (usable_within p at (carried_parts p at x is).0)

  -- that of a free one too
  pub free_within : is_free_at p at ≡ true → at < length (sights p)
  free_within is = subst (λ n. at < n) (sym (length-sights p)) (usable_within p at (free_parts p at is).0)
