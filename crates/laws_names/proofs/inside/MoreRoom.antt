-- A page more for SysDir, where the next entry has no room.
use Rattle.std.proofs.Common.{◌<◌, ◌∙◌, ◌∷◌, ◌≡◌, List, None, ap, arith, false, refl, suc, sym, true, ℕ, cond, inl, inr, length, zero, Some}
use Rattle.std.proofs.lemmas.Bool.{cases_eq}
use Rattle.laws_mend.specs.alto_words.specs.Fid.{sys_dir}
use Rattle.laws_mend.specs.alto_words.specs.declared.fid.Fid.{Fid}
use Rattle.laws_mend.specs.disk_records.specs.Labels.{is_free, tag}
use Rattle.laws_mend.specs.disk_records.specs.Packs.{Pack, after, is_free_at, is_usable, sector_at}
use Rattle.laws_mend.specs.disk_records.specs.declared.records.Sector.{Sector}
use Rattle.laws_mend.specs.pack_model.specs.hints.Links.{dir_words}
use Rattle.laws_mend.specs.pack_model.specs.operations.Rooms.{find_room, placed}
use Rattle.laws_mend.specs.pack_model.specs.reading.Files.{place}
use Rattle.laws_mend.specs.pack_model.specs.reading.Sights.{page_sight, sights}
use Rattle.laws_mend.specs.pack_model.specs.reading.Model.{root_items}
use Rattle.laws_mend.specs.pack_model.specs.reading.Slots.{Item, slots, entry_length}
use Rattle.laws_mend.specs.pack_model.specs.reading.Slots.Item.{entry, space}
use Rattle.laws_mend.specs.pack_model.specs.scavenger.Mended.{lacking, on_room, widens, with_page}
use Rattle.laws_mend.specs.pack_model.specs.scavenger.Needed.{needed}
use Rattle.laws_mend.specs.pack_model.specs.states.InUse.{is_free_sight}
use Rattle.laws_mend.specs.laws_record.proofs.slots.Laws.{found_is_placed}
use Rattle.laws_mend.specs.laws_record.proofs.Copying.{place_carried}
use Rattle.laws_mend.specs.laws_record.proofs.Recording.{carried_sight}
use Rattle.laws_mend.specs.laws_room.proofs.Found.{found_shown}
use Rattle.laws_mend.specs.laws_room.proofs.Standing.{page_places}
use Rattle.laws_mend.specs.laws_room.specs.NextLaws.{mended_pack}
use Rattle.laws_mend.proofs.numbers.Laws.{needed_is_free}
use Rattle.laws_mend.proofs.widening.Laws.{root_widening_tends, widening_keeps_pages}
use Rattle.laws_mend.specs.WidenLaws.{last_number, widening_writes}
use Rattle.laws_names.proofs.inside.Joining.{tending_keeps_open}
use Rattle.laws_names.proofs.inside.Models.{tidy_mended_is_read}
use Rattle.laws_names.proofs.inside.Parted.{mended_has_parts}
use Rattle.laws_names.proofs.inside.Rooms.{root_live}
use Rattle.laws_names.proofs.inside.Staying.{widening_keeps_entries}
use Rattle.laws_names.specs.LackingLaws.{NoRoomIsNone, RootWideningLeaves, WidenedHasRoom, WideningHasItsSector}

pub no_room_is_none : NoRoomIsNone
no_room_is_none p f name m t none = ap (placed (entry f name)) (tidy_mended_is_read p m t sys_dir (root_live p m) refl) ∙ (found_is_placed (entry f name) (slots (dir_words p sys_dir))).neither.0 none

-- an entry that is placed nowhere needs a page
widens_some : (is : List Item) (f : Fid) (name : List ℕ) (rest : List (Fid × List ℕ)) → placed (entry f name) is ≡ None → 0 < widens is ((f, name) ∷ rest)
unfolding widens
widens_some is f name rest none =
    let e : widens is ((f, name) ∷ rest) ≡ suc (on_room (placed (entry f name) (with_page is)) (λ js. widens js rest) 0) = ap (λ o. on_room o (λ js. widens js rest) (suc (on_room (placed (entry f name) (with_page is)) (λ js. widens js rest) 0))) none in
    omega arith

pub widening_has_its_sector : WideningHasItsSector
unfolding needed
widening_has_its_sector p f name rest s m next none =
    let w : 0 < widens (root_items (mended_pack p)) ((f, name) ∷ rest) = widens_some (root_items (mended_pack p)) f name rest none in
    let e : widens (root_items (mended_pack p)) (lacking (mended_pack p)) ≡ widens (root_items (mended_pack p)) ((f, name) ∷ rest) = ap (widens (root_items (mended_pack p))) next in
    let free = needed_is_free p (mended_has_parts p m).rooted.used s (omega arith) in
    (free.0, λ one. (let c : true ≡ false = sym free.1 ∙ ap (is_free_at p) one ∙ found_shown p 1 ∙ ap is_free_sight m.pages.root.2 in cc), free.1)

pub widened_has_room : WidenedHasRoom
widened_has_room p at fresh n m h small none =
    let w = widening_keeps_pages p sys_dir at fresh m h in
    page_places (space n) (slots (dir_words p sys_dir)) small ((found_is_placed (space n) (with_page (slots (dir_words p sys_dir)))).neither.0 (sym (ap (find_room n) w.slots_are.are) ∙ none))

-- ---- all of it
-- a sector with a page isn't free
not_free : (p : Pack) (f : Fid) (n i : ℕ) → place (sights p) f n ≡ Some i → is_free_at p i ≡ true → ⊥
not_free p f n i e free =
    let shown = carried_sight p i (record { fid = f; number = n }) (place_carried p (record { fid = f; number = n }) i e) in
    (let c : true ≡ false = sym free ∙ found_shown p i ∙ ap is_free_sight shown ∙ page n in cc)
  where
    page : (k : ℕ) → is_free_sight (page_sight f k (tag (sector_at p i).label).bytes (sector_at p i).value) ≡ false
    page zero = refl
    page (suc k) = refl

pub root_widening_leaves : RootWideningLeaves
root_widening_leaves p at fresh f name rest m t h next none small =
    let q : Pack = after p (widening_writes p sys_dir at fresh) in
    let w = widening_keeps_pages p sys_dir at fresh m h in
    let k = root_widening_tends p at fresh f name rest m h next (no_room_is_none p f name m t none) small in
    record {
      keeps = tending_keeps_open p (widening_writes p sys_dir at fresh) k.0;
      widened = w;
      tidy = w.tidy t;
      lacking_is = k.1;
      stay = widening_keeps_entries p q sys_dir at fresh w;
      room = widened_has_room p at fresh (entry_length (length name)) m h small;
      free = λ i free. elim (cases_eq i fresh) [
        | inl same ↦ absurd (not_free q sys_dir (suc (last_number p sys_dir)) i (w.here ∙ ap Some (sym same)) free)
        | inr other ↦ elim (cases_eq i at) [
          | inl same ↦ absurd (not_free q sys_dir (last_number p sys_dir) i (w.places_are sys_dir (last_number p sys_dir) (λ own later. omega arith) ∙ h.sector ∙ ap Some (sym same)) free)
          | inr apart ↦ ap (λ (s : Sector). cond (is_usable p.shape i s) (is_free (tag s.label)) false) (sym (w.sectors i apart other)) ∙ free
        ]
      ];
    }
