-- Record writes of directories when entries are entered, on any pack.
use Rattle.std.proofs.Common.{Bool, List, None, Option, Some, [], ap, arith, cond, get_or, length, refl, sym, ℕ, ◌++◌, ◌+◌, ◌∙◌, ◌∷◌, ◌≡◌}
use Rattle.std.specs.FinMap.{entries, find, from_entries, get, get-from_entries, get-insert, insert, same_map}
use Rattle.laws_operation.specs.alto_words.specs.Fid.{fid_cmp, is_fid, sys_dir}
use Rattle.laws_operation.specs.alto_words.specs.declared.fid.Fid.{Fid}
use Rattle.laws_operation.specs.disk_records.specs.Packs.{Pack}
use Rattle.laws_operation.specs.pack_model.specs.reading.Bodies.{File, Files, described, items_in}
use Rattle.laws_operation.specs.pack_model.specs.reading.Bytes.{put_at}
use Rattle.laws_operation.specs.pack_model.specs.reading.Files.{leader, lives}
use Rattle.laws_operation.specs.pack_model.specs.reading.Leaders.{Leader}
use Rattle.laws_operation.specs.pack_model.specs.hints.Links.{dir_words}
use Rattle.laws_operation.specs.pack_model.specs.scavenger.Mended.{mended, rooted, with_page, with_system}
use Rattle.laws_operation.specs.pack_model.specs.reading.Model.{root_items}
use Rattle.laws_operation.specs.pack_model.specs.reading.Namings.{Naming, files_kept, is_kept, items_kept, kept_after, namings_in, tidied}
use Rattle.laws_operation.specs.pack_model.specs.operations.Rooms.{Room, find_room, placed}
use Rattle.laws_operation.specs.pack_model.specs.reading.Sights.{sights}
use Rattle.laws_operation.specs.pack_model.specs.reading.Slots.{Item, all_words, item_words, slots}
use Rattle.laws_operation.specs.pack_model.specs.reading.Slots.Item.{entry, space}
use Rattle.laws_room.proofs.inside.Balancing.{mended_keeps}
use Rattle.laws_room.proofs.inside.DirRooted.{dir_leader, files, living, mended_now, rooted_was, same_count, turned_stay, zeros}
use Rattle.laws_room.proofs.inside.Needing.{items_words}
use Rattle.laws_room.proofs.inside.RootStanding.{root_may}
use Rattle.laws_room.proofs.inside.RootTurns.{RootTurns, root_now, root_was, turn_joins, turn_widens}
use Rattle.laws_room.specs.NextLaws.{FreeSlotsMadeOneKeeps, MoreRoomKeeps, SlotThatIsNotKeptKeeps}
use Rattle.laws_operation.specs.pack_laws.proofs.Keys.{fid_same, fid_total}
use Rattle.laws_record.proofs.Around.{around}
use Rattle.laws_record.proofs.DirKinds.{spaces_in}
use Rattle.laws_record.proofs.DirReads.{has_leader, insert_same}
use Rattle.laws_record.proofs.DirSteps.{scan_more, widen_change, widen_slots}
use Rattle.laws_record.proofs.DirWords.{DirChange, dir_change}
use Rattle.laws_record.proofs.EnterScan.{find_replaced}
use Rattle.laws_record.proofs.Entered.{directory}
use Rattle.laws_record.proofs.Scanned.{kept_before, kept_none, none_in_front, not_kept, scan_at, scan_tidied, tidied_items}
use Rattle.laws_record.proofs.Slotwise.{one_word, slots_freed, words-append}
use Rattle.laws_record.proofs.Unkept.{unkept_items}
use Rattle.laws_record.specs.DirLaws.{freed}
use Rattle.laws_record.specs.QuietLaws.{with_label}

-- ---- the scan
-- other slots of a directory after which the scan knows the same entries: the directory gets what it leaves of them, and all else stays
scan_turns : (v : Fid → Bool) (files : Files) (d : Fid) (l : Leader) (is js : List Item) (here : get files d ≡ Some (directory l is))
    → kept_after (is_kept v) d (kept_before v files d l is here) js ≡ kept_after (is_kept v) d (kept_before v files d l is here) is
    → tidied v (insert files d (directory l js)) ≡ insert (tidied v files) d (directory l (items_kept (is_kept v) d (kept_before v files d l is here) js))
unfolding tidied
scan_turns v files d l is js here same =
    let before : List Naming = kept_before v files d l is here in
    let r = around fid_total fid_same files d (directory l is) here in
    let front_files : List (Fid × File) = files_kept (is_kept v) [] r.front in
    let back_files : List (Fid × File) = files_kept (is_kept v) (kept_after (is_kept v) d before is) r.back in
    let old : File = directory l (items_kept (is_kept v) d before is) in
    let new : File = directory l (items_kept (is_kept v) d before js) in
    let now : files_kept (is_kept v) [] (entries (insert files d (directory l js))) ≡ front_files ++ (d, new) ∷ back_files =
    scan_at v files d l is js here ∙ ap (λ k. front_files ++ ((d, new) ∷ files_kept (is_kept v) k r.back)) same in
    let was : files_kept (is_kept v) [] (entries files) ≡ front_files ++ (d, old) ∷ back_files =
    ap (λ m. files_kept (is_kept v) [] (entries m)) (sym (insert_same files d (directory l is) here)) ∙ scan_at v files d l is is here in
    let alone = kept_none (is_kept v) d [] r.front (none_in_front files d (directory l is) r) in
    same_map fid_total fid_same _ _ (λ g.
    get-from_entries fid_total (files_kept (is_kept v) [] (entries (insert files d (directory l js)))) g
    ∙ ap (find fid_cmp g) now
    ∙ find_replaced g d new old front_files back_files alone
    ∙ ap (λ es. cond (is_fid g d) (Some new) (find fid_cmp g es)) (sym was)
    ∙ ap (cond (is_fid g d) (Some new)) (sym (get-from_entries fid_total (files_kept (is_kept v) [] (entries files)) g))
    ∙ sym (get-insert fid_total (from_entries {R = fid_cmp} (files_kept (is_kept v) [] (entries files))) d new g))

-- ---- an entry that isn't kept
-- the scan leaves it out
unkept_scan : (v : Fid → Bool) (files : Files) (d : Fid) (l : Leader) (is js a b : List Item) (f : Fid) (name : List ℕ) → get files d ≡ Some (directory l is) → is ≡ a ++ entry f name ∷ b → js ≡ a ++ space (item_words (entry f name)) ∷ b
    → get_or (items_in (get (tidied v files) d)) (length a) (entry f name) ≡ space (item_words (entry f name)) → tidied v (insert files d (directory l js)) ≡ tidied v files
unkept_scan v files d l is js a b f name here was now unkept =
    let before : List Naming = kept_before v files d l is here in
    let e = not_kept (is_kept v) d before a b f name
    (ap (λ is. get_or (items_kept (is_kept v) d before is) (length a) (entry f name)) (sym was) ∙ ap (λ r. get_or (items_in r) (length a) (entry f name)) (sym (tidied_items v files d l is here)) ∙ unkept) in
    let s = unkept_items (is_kept v) d before a b f name e in
    scan_tidied v files d l is js here (
      ap (items_kept (is_kept v) d before) now ∙ sym s.0 ∙ ap (items_kept (is_kept v) d before) (sym was),
      ap (kept_after (is_kept v) d before) now ∙ sym s.1 ∙ ap (kept_after (is_kept v) d before) (sym was),
    )

-- it goes
pub slot_that_is_not_kept_keeps : SlotThatIsNotKeptKeeps
unfolding mended
slot_that_is_not_kept_keeps p d at a b f name h unkept may =
    let q : Pack = freed p at a (entry f name ∷ []) in
    let n : ℕ = all_words (entry f name ∷ []) in
    let words : List ℕ = put_at (all_words a) (n ∷ []) (dir_words p d) in
    let l = has_leader (sights p) d h.write.lives in
    let dir = h.write.directory in
    let c = dir_change p d (all_words a) at (n ∷ []) h.write in
    let z : n ≡ item_words (entry f name) = one_word f name in
    let now : slots words ≡ a ++ space (item_words (entry f name)) ∷ b = slots_freed (dir_words p d) a (entry f name ∷ []) b h.slots_are h.some (let m = h.most in omega arith) ∙ ap (λ k. a ++ space k ∷ b) z in
    let stays = turned_stay p q d words c dir l.0 l.1
    (unkept_scan (living p q d words c dir l.0 l.1) (files p q d words c dir l.0 l.1) d (dir_leader p q d words c dir l.0 l.1) (slots (dir_words p d)) (slots words) a b f name (rooted_was p q d words c dir l.0 l.1) h.slots_are now unkept) in
    let size : all_words (slots words) ≡ all_words (slots (dir_words p d)) = ap all_words now ∙ words-append a (space (item_words (entry f name)) ∷ b) ∙ sym (words-append a (entry f name ∷ b)) ∙ ap all_words (sym h.slots_are) in
    mended_keeps p q stays (root_may p q (same_count p q d words c dir l.0 l.1 size) may)

-- ---- slots of SysDir
-- These are its slots as the scan leaves them, before and after, and all else stays.
pub record RootScan (v : Fid → Bool) (files : Files) (l : Leader) (js : List Item) : Type 0 where
  pub ins : List Item
  pub outs : List Item
  pub was : get (tidied v files) sys_dir ≡ Some (directory l ins)
  pub now : tidied v (insert files sys_dir (directory l js)) ≡ insert (tidied v files) sys_dir (directory l outs)

-- so they turn in the files as the Scavenger will find them
pub root_turns : (p q : Pack) (words : List ℕ) (c : DirChange p q sys_dir words) (l : Leader) (lead : leader (sights p) sys_dir ≡ Some l) → (s : RootScan (with_system (lives (sights p))) (rooted (described (sights p))) zeros (slots words)) → RootTurns p q s.ins s.outs
root_turns p q words c l lead s = record { shape = c.shape; good = c.good; was = s.was; now = mended_now p q sys_dir words c refl l lead ∙ s.now }

-- where an item is placed among them
root_placed : (p : Pack) (i : Item) (is : List Item) (r : Option (List Item)) → get (mended p.shape (sights p)).files sys_dir ≡ Some (directory zeros is) → placed i (root_items (mended p.shape (sights p))) ≡ r → placed i is ≡ r
root_placed p i is r was e = sym (ap (λ x. placed i (items_in x)) was) ∙ e

-- and its room
pub root_found : (p : Pack) (n : ℕ) (is : List Item) {r : Option Room} → get (mended p.shape (sights p)).files sys_dir ≡ Some (directory zeros is) → find_room n (root_items (mended p.shape (sights p))) ≡ r → find_room n is ≡ r
root_found p n is was e = sym (ap (λ x. find_room n (items_in x)) was) ∙ e

-- ---- free slots of SysDir are made one
-- they have as many words, and the same entries
record SpacesMeet (v : Fid → Bool) (files : Files) (l : Leader) (js : List Item) : Type 0 where
  scan : RootScan v files l js
  words : all_words scan.outs ≡ all_words scan.ins
  names : namings_in sys_dir scan.outs ≡ namings_in sys_dir scan.ins

-- the scan of them
spaces_meet : (v : Fid → Bool) (files : Files) (l : Leader) (is js a old b : List Item) → get files sys_dir ≡ Some (directory l is) → is ≡ a ++ (old ++ b) → js ≡ a ++ space (all_words old) ∷ b → all_words js ≡ all_words is → namings_in sys_dir old ≡ [] → SpacesMeet v files l js
spaces_meet v files l is js a old b here was now size bare =
    let before : List Naming = kept_before v files sys_dir l is here in
    let s = spaces_in (is_kept v) sys_dir before a old (all_words old) b bare in
    record {
      scan = record {
        ins = items_kept (is_kept v) sys_dir before is;
        outs = items_kept (is_kept v) sys_dir before js;
        was = tidied_items v files sys_dir l is here;
        now = scan_turns v files sys_dir l is js here (ap (kept_after (is_kept v) sys_dir before) now ∙ s.1 ∙ ap (kept_after (is_kept v) sys_dir before) (sym was));
      };
      words = items_words (is_kept v) sys_dir before js ∙ size ∙ sym (items_words (is_kept v) sys_dir before is);
      names = ap (λ is. namings_in sys_dir (items_kept (is_kept v) sys_dir before is)) now ∙ s.0 ∙ ap (λ is. namings_in sys_dir (items_kept (is_kept v) sys_dir before is)) (sym was);
    }

-- the next entry is placed as before
pub free_slots_made_one_keeps : FreeSlotsMadeOneKeeps
free_slots_made_one_keeps p at a old b f name rest ks h bare next room room_now =
    let q : Pack = freed p at a old in
    let words : List ℕ = put_at (all_words a) (all_words old ∷ []) (dir_words p sys_dir) in
    let l = has_leader (sights p) sys_dir h.write.lives in
    let c = dir_change p sys_dir (all_words a) at (all_words old ∷ []) h.write in
    let now : slots words ≡ a ++ space (all_words old) ∷ b = slots_freed (dir_words p sys_dir) a old b h.slots_are h.some (let m = h.most in omega arith) in
    let size : all_words (slots words) ≡ all_words (slots (dir_words p sys_dir)) = ap all_words now ∙ words-append a (space (all_words old) ∷ b) ∙ ap (λ k. all_words a + k) (sym (words-append old b)) ∙ sym (words-append a (old ++ b)) ∙ ap all_words (sym h.slots_are) in
    let s = spaces_meet (with_system (lives (sights p))) (rooted (described (sights p))) zeros (slots (dir_words p sys_dir)) (slots words) a old b (rooted_was p q sys_dir words c refl l.0 l.1) h.slots_are now size bare in
    let t = root_turns p q words c l.0 l.1 s.scan in
    let r = turn_joins p q s.scan.ins s.scan.outs t f name rest ks next (root_placed p (entry f name) s.scan.ins (Some ks) (root_was p q s.scan.ins s.scan.outs t) room) (root_placed q (entry f name) s.scan.outs (Some ks) (root_now p q s.scan.ins s.scan.outs t) room_now) s.words s.names in
    (λ may. r.0 (root_may p q (same_count p q sys_dir words c refl l.0 l.1 size) may), r.1)

-- ---- SysDir gets a free slot of 256 words more
-- the scan of it
wider : (v : Fid → Bool) (files : Files) (l : Leader) (is js : List Item) → get files sys_dir ≡ Some (directory l is) → js ≡ is ++ space 256 ∷ []
    → (ins : List Item) × ((get (tidied v files) sys_dir ≡ Some (directory l ins)) × (tidied v (insert files sys_dir (directory l js)) ≡ insert (tidied v files) sys_dir (directory l (with_page ins))))
wider v files l is js here now = (
  items_kept (is_kept v) sys_dir (kept_before v files sys_dir l is here) is,
  (tidied_items v files sys_dir l is here, ap (λ js. tidied v (insert files sys_dir (directory l js))) now ∙ scan_more v files sys_dir l is (space 256 ∷ []) here refl),
)

-- where the next entry has no room
pub more_room_keeps : MoreRoomKeeps
more_room_keeps p at label fresh f name rest live bears names ends more one next none small =
    let q : Pack = with_label p at label in
    let words : List ℕ = dir_words p sys_dir ++ fresh in
    let l = has_leader (sights p) sys_dir live in
    let c = widen_change p at sys_dir label fresh bears names more in
    let s = wider (with_system (lives (sights p))) (rooted (described (sights p))) zeros (slots (dir_words p sys_dir)) (slots words) (rooted_was p q sys_dir words c refl l.0 l.1) (widen_slots p sys_dir fresh ends one) in
    let t : RootTurns p q s.0 (with_page s.0) = record { shape = c.shape; good = c.good; was = s.1.0; now = mended_now p q sys_dir words c refl l.0 l.1 ∙ s.1.1 } in
    turn_widens p q s.0 t f name rest next (root_placed p (entry f name) s.0 None (root_was p q s.0 (with_page s.0) t) none) small
