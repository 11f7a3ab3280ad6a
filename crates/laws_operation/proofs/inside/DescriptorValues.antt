-- The values of DiskDescriptor: the mark is opened, a new serial, and closing.
use Rattle.std.proofs.Common.{Bool, List, Some, [], ap, cond, false, refl, reverse, subst, suc, sym, take, true, zero, ℕ, ◌∷◌, ◌≡◌}
use Rattle.std.specs.Prelude.{◌==◌}
use mathlib.Core.List.{reverse-cons}
use Rattle.laws_contents.specs.alto_words.specs.Fid.{disk_descriptor}
use Rattle.laws_contents.specs.disk_records.specs.Packs.{Pack, after, crash, sector_at}
use Rattle.laws_contents.specs.disk_records.specs.declared.records.Event.TheVariants.{Wrote}
use Rattle.laws_contents.specs.pack_model.specs.operations.Commands.{values_writes}
use Rattle.laws_contents.specs.pack_model.specs.sessions.Descriptor.{closed_values, descriptor_value, opened_value, serial_value}
use Rattle.laws_contents.specs.pack_model.specs.reading.Files.{place}
use Rattle.laws_contents.specs.pack_model.specs.hints.Links.{LinksTrue}
use Rattle.laws_contents.specs.pack_model.specs.reading.Model.{read_as}
use Rattle.laws_contents.specs.pack_model.specs.operations.PageWords.{page_number}
use Rattle.laws_contents.specs.pack_model.specs.reading.Sights.{sights}
use Rattle.laws_contents.specs.pack_model.specs.states.Sound.{mark_clean, mark_of, mark_open}
use Rattle.laws_contents.specs.pack_model.specs.operations.Step.Operation.{drop_file}
use Rattle.laws_contents.specs.pack_model.specs.states.Whole.{Tidy, Whole}
use Rattle.laws_contents.specs.laws_record.proofs.Copying.{place_carried}
use Rattle.laws_operation.proofs.CloseLaw.{close_carries_out}
use Rattle.laws_operation.proofs.inside.OpeningMark.{open_carries_out, serial_carries_out}
use Rattle.laws_operation.specs.ByteLaws.{Bear}
use Rattle.laws_operation.specs.DescriptorLaws.{KeepsSound}
use Rattle.laws_operation.proofs.inside.links.FileValues.{file_values}
use Rattle.laws_operation.proofs.inside.links.Values.{AllOf, of_carried, of_join}
use Rattle.laws_operation.specs.DescriptorLinkLaws.{CloseKeepsLinks, OpenKeepsLinks, SerialKeepsLinks}

-- its first data page
of_first : (p : Pack) (at : ℕ) (value : List ℕ) → place (sights p) disk_descriptor 1 ≡ Some at → AllOf disk_descriptor p ((at, value) ∷ [])
of_first p at value e = (of_carried disk_descriptor 1 p at (place_carried p (page_number disk_descriptor 1) at e), tt)

-- values of it, where they leave the pack whole and tidy
descriptor_values : (vs : List (ℕ × List ℕ)) (p : Pack) → Whole p → Tidy p → KeepsSound p (after p (values_writes vs)) → AllOf disk_descriptor p vs → LinksTrue p → LinksTrue (after p (values_writes vs))
descriptor_values vs p w t keeps of links = file_values vs p disk_descriptor w t keeps.whole keeps.tidy refl of links

-- the mark is opened
pub open_keeps_links : OpenKeepsLinks
open_keeps_links p at w t e links = by (mark_of (sights p) == mark_open) (open_carries_out p at (drop_file disk_descriptor) [] w t e).keeps
  where
    by : (c : Bool) → KeepsSound p (after p (cond c [] (values_writes ((at, opened_value (sector_at p at).value) ∷ [])))) → LinksTrue (after p (cond c [] (values_writes ((at, opened_value (sector_at p at).value) ∷ []))))
    by true keeps = links
    by false keeps = descriptor_values ((at, opened_value (sector_at p at).value) ∷ []) p w t keeps (of_first p at (opened_value (sector_at p at).value) e) links

-- a new serial
pub serial_keeps_links : SerialKeepsLinks
serial_keeps_links p at last w t e more links =
    descriptor_values ((at, serial_value last (sector_at p at).value) ∷ []) p w t (serial_carries_out p at last w t e more).keeps (of_first p at (serial_value last (sector_at p at).value) e) links

-- ---- closing
-- some first values
take_values : (k : ℕ) (vs : List (ℕ × List ℕ)) → take k (values_writes vs) ≡ values_writes (take k vs)
take_values zero vs = refl
take_values (suc k) [] = refl
take_values (suc k) (v ∷ vs) = ap (λ r. Wrote v.0 2 v.1 ∷ r) (take_values k vs)

-- are of the file
of_take : (k : ℕ) (vs : List (ℕ × List ℕ)) (p : Pack) → AllOf disk_descriptor p vs → AllOf disk_descriptor p (take k vs)
of_take zero vs p h = tt
of_take (suc k) [] p h = tt
of_take (suc k) (v ∷ vs) p h = (h.0, of_take k vs p h.1)

-- its pages, from the last to the first
of_pages : (p : Pack) (last : ℕ) (busy : List Bool) (n : ℕ) (pages : List ℕ) → Bear (sights p) disk_descriptor (suc n) pages → AllOf disk_descriptor p (reverse (closed_values p.shape last busy n pages))
of_pages p last busy n [] h = tt
of_pages p last busy n (at ∷ pages) h =
    let v : ℕ × List ℕ = (at, descriptor_value p.shape last mark_clean busy n) in
    let vs : List (ℕ × List ℕ) = closed_values p.shape last busy (suc n) pages in
    subst (AllOf disk_descriptor p) (sym (reverse-cons v vs)) (of_join disk_descriptor p (reverse vs) (v ∷ []) (of_pages p last busy (suc n) pages h.1) (of_carried disk_descriptor (suc n) p at (place_carried p (page_number disk_descriptor (suc n)) at h.0), tt))

-- each crash of closing
pub close_keeps_links : CloseKeepsLinks
close_keeps_links p busy pages k w t h links = by (mark_of (sights p) == mark_clean) ((close_carries_out p busy pages w t h).keeps k)
  where
    by : (c : Bool) → KeepsSound p (crash p (cond c [] (values_writes (reverse (closed_values p.shape (read_as p).last busy 0 pages)))) k) → LinksTrue (crash p (cond c [] (values_writes (reverse (closed_values p.shape (read_as p).last busy 0 pages)))) k)
    by true keeps = nothing k
      where
        nothing : (k : ℕ) → LinksTrue (crash p [] k)
        nothing zero = links
        nothing (suc k) = links
    by false keeps =
        let some : List (ℕ × List ℕ) = take k (reverse (closed_values p.shape (read_as p).last busy 0 pages)) in
        let e : crash p (values_writes (reverse (closed_values p.shape (read_as p).last busy 0 pages))) k ≡ after p (values_writes some) = ap (after p) (take_values k (reverse (closed_values p.shape (read_as p).last busy 0 pages))) in
        subst LinksTrue (sym e) (descriptor_values some p w t (subst (KeepsSound p) e keeps) (of_take k (reverse (closed_values p.shape (read_as p).last busy 0 pages)) p (of_pages p (read_as p).last busy 0 pages h.pages_are)) links)
