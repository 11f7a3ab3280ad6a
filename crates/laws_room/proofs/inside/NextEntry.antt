-- The next entry that is lacking comes in its room, on any pack.
use Rattle.std.proofs.Common.{Bool, List, Some, [], ap, arith, false, length, refl, sym, true, ℕ, ◌&&◌, ◌++◌, ◌+◌, ◌-◌, ◌∙◌, ◌∷◌, ◌≡◌}
use Rattle.std.specs.FinMap.{entries, get, insert}
use Rattle.std.specs.List.{list_any}
use Rattle.laws_operation.specs.alto_words.specs.Fid.{sys_dir}
use Rattle.laws_operation.specs.alto_words.specs.declared.fid.Fid.{Fid}
use Rattle.laws_operation.specs.disk_records.specs.Packs.{Pack}
use Rattle.laws_operation.specs.pack_model.specs.reading.Bodies.{Files, described}
use Rattle.laws_operation.specs.pack_model.specs.reading.Bytes.{put_at}
use Rattle.laws_operation.specs.pack_model.specs.reading.Files.{lives}
use Rattle.laws_operation.specs.pack_model.specs.reading.Leaders.{Leader}
use Rattle.laws_operation.specs.pack_model.specs.hints.Links.{dir_words}
use Rattle.laws_operation.specs.pack_model.specs.scavenger.Mended.{mended, rooted, with_system}
use Rattle.laws_operation.specs.pack_model.specs.reading.Namings.{clashes, files_kept, is_kept, may_stand, namings, tidied}
use Rattle.laws_operation.specs.pack_model.specs.operations.Rooms.{find_room, left_over, placed}
use Rattle.laws_operation.specs.pack_model.specs.reading.Sights.{sights}
use Rattle.laws_operation.specs.pack_model.specs.reading.Slots.{Item, all_words, entry_length, slots}
use Rattle.laws_operation.specs.pack_model.specs.reading.Slots.Item.{entry, space}
use Rattle.laws_room.proofs.inside.DirRooted.{rooted_was, same_count, zeros}
use Rattle.laws_room.proofs.inside.RootEntries.{RootScan, root_found, root_turns}
use Rattle.laws_room.proofs.inside.RootStanding.{root_may}
use Rattle.laws_room.proofs.inside.RootTurns.{root_was, turn_enters}
use Rattle.laws_room.specs.NextLaws.{MayBeEntered, NextEntryKeeps}
use Rattle.laws_record.proofs.DirReads.{has_leader}
use Rattle.laws_record.proofs.DirWords.{dir_change}
use Rattle.laws_record.proofs.EnterScan.{back_items, enter_scan, front_items, kept_was, length-items_kept}
use Rattle.laws_record.proofs.EnterSlots.{slots_entered}
use Rattle.laws_record.proofs.Entered.{directory}
use Rattle.laws_record.proofs.Mending.{entries-tidied}
use Rattle.laws_record.proofs.Roomy.{placed_there}
use Rattle.laws_record.proofs.Scanned.{kept_before, tidied_items}
use Rattle.laws_record.proofs.Slotwise.{words-append}
use Rattle.laws_record.proofs.SystemEntries.{left_words}
use Rattle.laws_record.specs.DirLaws.{entered}

-- ---- the next entry
-- the scan of it
next_scan : (v : Fid → Bool) (files : Files) (l : Leader) (is js a b : List Item) (f : Fid) (name : List ℕ) (left : ℕ) → get files sys_dir ≡ Some (directory l is) → is ≡ a ++ space (entry_length (length name) + left) ∷ b → js ≡ a ++ entry f name ∷ left_over left b
    → may_stand v (record { dir = sys_dir; name = name; fid = f }) ≡ true → list_any (clashes (record { dir = sys_dir; name = name; fid = f })) (namings (files_kept (is_kept v) [] (entries files))) ≡ false
    → (s : RootScan v files l js) × (find_room (entry_length (length name)) s.ins ≡ Some (record { first = length a; place = all_words a; total = entry_length (length name) + left }) → placed (entry f name) s.ins ≡ Some s.outs)
next_scan v files l is js a b f name left here was now stands apart =
    let n : ℕ = entry_length (length name) in
    let at : get files sys_dir ≡ Some (directory l (a ++ space (n + left) ∷ b)) = here ∙ ap (λ is. Some (directory l is)) was in
    let front : List Item = front_items v files sys_dir l a b (n + left) f name left at stands apart in
    let back : List Item = back_items v files sys_dir l a b (n + left) f name left at stands apart in
    let as_many : length front ≡ length a = length-items_kept (is_kept v) sys_dir (kept_before v files sys_dir l (a ++ space (n + left) ∷ b) at) a in
    let z : n + left - n ≡ left = omega arith in (
      record {
        ins = front ++ space (n + left) ∷ back;
        outs = front ++ entry f name ∷ left_over left back;
        was = tidied_items v files sys_dir l (a ++ space (n + left) ∷ b) at ∙ ap (λ is. Some (directory l is)) (kept_was v files sys_dir l a b (n + left) f name left at stands apart);
        now = ap (λ is. tidied v (insert files sys_dir (directory l is))) now ∙ enter_scan v files sys_dir l a b (n + left) f name left at stands apart;
      },
      λ found. placed_there (entry f name) 0 0 front back (n + left) (record { first = length a; place = all_words a; total = n + left }) found (omega arith) refl ∙ ap (λ m. Some (front ++ entry f name ∷ left_over m back)) z,
    )

-- it clashes with none that the scan keeps
mended_apart : (p : Pack) (f : Fid) (name : List ℕ) → MayBeEntered p f name → list_any (clashes (record { dir = sys_dir; name = name; fid = f })) (namings (files_kept (is_kept (with_system (lives (sights p)))) [] (entries (rooted (described (sights p)))))) ≡ false
unfolding mended
mended_apart p f name may = sym (ap (λ es. list_any (clashes (record { dir = sys_dir; name = name; fid = f })) (namings es)) (entries-tidied (with_system (lives (sights p))) (rooted (described (sights p))))) ∙ may.apart

-- it comes in its room
pub next_entry_keeps : NextEntryKeeps
next_entry_keeps p at new a b f name left rest h next may room =
    let q : Pack = entered p at a new in
    let n : ℕ = entry_length (length name) in
    let words : List ℕ = put_at (all_words a) new (dir_words p sys_dir) in
    let l = has_leader (sights p) sys_dir h.write.lives in
    let c = dir_change p sys_dir (all_words a) at new h.write in
    let now : slots words ≡ a ++ entry f name ∷ left_over left b = slots_entered p sys_dir at new a b f name left h in
    let s = next_scan (with_system (lives (sights p))) (rooted (described (sights p))) zeros (slots (dir_words p sys_dir)) (slots words) a b f name left (rooted_was p q sys_dir words c refl l.0 l.1) h.slots_are now (λ i. may.lives i && may.fits i) (mended_apart p f name may) in
    let t = root_turns p q words c l.0 l.1 s.0 in
    let there : placed (entry f name) s.0.ins ≡ Some s.0.outs = s.1 (root_found p n s.0.ins (root_was p q s.0.ins s.0.outs t) room) in
    let w = left_words left b in
    let middle : all_words a + (n + all_words (left_over left b)) ≡ all_words a + (n + left + all_words b) = omega arith in
    let size : all_words (slots words) ≡ all_words (slots (dir_words p sys_dir)) = ap all_words now ∙ words-append a (entry f name ∷ left_over left b) ∙ middle ∙ sym (words-append a (space (n + left) ∷ b)) ∙ ap all_words (sym h.slots_are) in
    let r = turn_enters p q s.0.ins s.0.outs t f name rest next there in
    (λ may. r.0 (root_may p q (same_count p q sys_dir words c refl l.0 l.1 size) may), r.1)
