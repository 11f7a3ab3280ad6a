use Rattle.std.proofs.Common.{◌≡◌, ◌+◌, ◌∷◌, [], drop, length, true, false, not, Some, refl, sym, ap, subst, ◌∙◌, arith}
use Rattle.std.specs.Option.{is_some}
use Rattle.alto_words.specs.Fid.{is_fid, sys_dir}
use Rattle.pack_model.specs.reading.Files.{lives}
use Rattle.pack_model.specs.reading.Sights.{sights}
use Rattle.pack_model.specs.reading.Slots.{entry_length}
use Rattle.kept_names.proofs.Tests.{fid_eq}
use Rattle.scav_names.specs.Catalogues.{root_slots}
use Rattle.scav_names.specs.Living.{Rises, living_in}
use Rattle.scav_names.specs.Parting.{unkept_entries}
use Rattle.scav_names.specs.Rooms.{HasSlots, freed_at}
use Rattle.scav_names.proofs.Growing.{have_words}
use Rattle.scav_names.proofs.LivingFiles.{living_found, living_rise}
use Rattle.scav_names.proofs.RootItems.{IsFreeing, free_all, freeing_begins, freeing_ends, freeing_other, freeing_root, fresh_then, next_left, none_then, root_then}
use Rattle.scav_names.proofs.freed.root_rooms.Goals as goal
use Rattle.scav_names.proofs.freed.root_rooms.Goals.{then-eq+in_ok-free, else-eq}

pub loop-entry-init : goal.loop-entry-init
loop-entry-init c = record {
  living = refl;
  entries_are = refl;
  pages = refl;
  rooms = λ p has parted. freeing_begins c.args.names.now.rooms p c.as_slice-entry-items.result.now has.rooms (c.as_slice-entry-items.ensures ∙ parted.unkept);
}

pub loop-entry-preserved : goal.loop-entry-preserved
loop-entry-preserved c =
    let all = c.as_slice-entry-items.result.now in
    let e = c.entry-item.result in
    elim c.if-eq.branch [
      | then-eq+in_ok-free w ↦ record {
        living = ap (λ x. x.living) w.names-is ∙ c.loop-entry.invariant.living;
        entries_are = ap (λ x. x.entries) w.names-is ∙ c.loop-entry.invariant.entries_are;
        pages = ap (λ x. x.root_pages) w.names-is ∙ c.loop-entry.invariant.pages;
        rooms = λ p has parted.
            let final = free_all (unkept_entries p) (root_slots p) in
            let root : is_fid e.dir sys_dir ≡ true = fid_eq e.dir sys_dir ∙ sym c.eq.ensures ∙ w.if-eq.true in
            let f : IsFreeing c.loop-entry.names.rooms (e ∷ drop (c.loop-entry.entry-index + 1) all) final = subst (λ l. IsFreeing c.loop-entry.names.rooms l final) (next_left all c.loop-entry.entry-index e c.loop-entry-test.true c.entry-item.is) (c.loop-entry.invariant.rooms p has parted) in
            let size = w.words.ensures.words in
            let freed : HasSlots w.free.new.self (freed_at e.place (entry_length (length e.name)) f.items) = subst (λ n. HasSlots w.free.new.self (freed_at e.place n f.items)) size (w.in_ok-free.ensures f.items f.has (f.stand.0 root ∙ ap Some (sym size)) (omega (arith, w.words.ensures.most))) in
            subst (λ x. IsFreeing x.rooms (drop (c.loop-entry.entry-index + 1) all) final) (sym w.names-is) (freeing_root c.loop-entry.names.rooms w.free.new.self e (drop (c.loop-entry.entry-index + 1) all) final root f freed);
      }
      | else-eq w ↦ record {
        living = ap (λ x. x.living) w.names-is ∙ c.loop-entry.invariant.living;
        entries_are = ap (λ x. x.entries) w.names-is ∙ c.loop-entry.invariant.entries_are;
        pages = ap (λ x. x.root_pages) w.names-is ∙ c.loop-entry.invariant.pages;
        rooms = λ p has parted.
            let final = free_all (unkept_entries p) (root_slots p) in
            let other : is_fid e.dir sys_dir ≡ false = fid_eq e.dir sys_dir ∙ sym c.eq.ensures ∙ w.if-eq.false in
            let f : IsFreeing c.loop-entry.names.rooms (e ∷ drop (c.loop-entry.entry-index + 1) all) final = subst (λ l. IsFreeing c.loop-entry.names.rooms l final) (next_left all c.loop-entry.entry-index e c.loop-entry-test.true c.entry-item.is) (c.loop-entry.invariant.rooms p has parted) in
            subst (λ x. IsFreeing x.rooms (drop (c.loop-entry.entry-index + 1) all) final) (sym w.names-is) (freeing_other c.loop-entry.names.rooms e (drop (c.loop-entry.entry-index + 1) all) final other f);
      }
    ]

pub returns-in_ok-push-clause-rooms : goal.returns-in_ok-push-clause-rooms
returns-in_ok-push-clause-rooms c = λ p has parted.
    let living = c.as_slice.ensures ∙ c.loop-entry.invariant.living ∙ has.living in
    let rises : Rises c.as_slice.result.now = subst Rises (sym living) (living_rise p) in
    let found = c.find_living.ensures.found rises ∙ ap (λ l. living_in l sys_dir) living in
    let h = c.is_none.ensures in
    let dead : lives (sights p) sys_dir ≡ false = sym (living_found p sys_dir) ∙ ap is_some (sym found) ∙ (h ∙ ap not c.if-is_none.true) in
    let slots = freeing_ends c.loop-entry.names.rooms c.as_slice-entry-items.result.now c.loop-entry.entry-index (free_all (unkept_entries p) (root_slots p)) c.loop-entry-test.false (c.loop-entry.invariant.rooms p has parted) in
    let none : HasSlots c.loop-entry.names.rooms [] = subst (HasSlots c.loop-entry.names.rooms) (none_then p dead) slots in
    subst (HasSlots c.push.new.self) (fresh_then p dead) (c.in_ok-push.ensures.slots [] none (omega arith))

pub returns-else-is_none-clause-rooms : goal.returns-else-is_none-clause-rooms
returns-else-is_none-clause-rooms c = λ p has parted.
    let living = c.as_slice.ensures ∙ c.loop-entry.invariant.living ∙ has.living in
    let rises : Rises c.as_slice.result.now = subst Rises (sym living) (living_rise p) in
    let found = c.find_living.ensures.found rises ∙ ap (λ l. living_in l sys_dir) living in
    let h = c.is_none.ensures in
    let alive : lives (sights p) sys_dir ≡ true = sym (living_found p sys_dir) ∙ ap is_some (sym found) ∙ (h ∙ ap not c.if-is_none.false) in
    let slots = freeing_ends c.loop-entry.names.rooms c.as_slice-entry-items.result.now c.loop-entry.entry-index (free_all (unkept_entries p) (root_slots p)) c.loop-entry-test.false (c.loop-entry.invariant.rooms p has parted) in
    subst (HasSlots c.loop-entry.names.rooms) (root_then p alive (have_words (root_slots p) has.rooms.rooms_are.sizes)) slots
