-- The room for the next entry: its free slots are made one, and words are written in it.
use Rattle.std.proofs.Common.{◌++◌, ◌+◌, ◌-◌, ◌/◌, ◌<◌, ◌∙◌, ◌∷◌, ◌≡◌, ◌≤◌, List, None, Option, Some, [], ap, arith, get_or, inr, length, refl, subst, sym, true, ℕ}
use Rattle.std.proofs.lemmas.List.{length-append}
use Rattle.std.proofs.lemmas.List.Elements.{Contains-append_right}
use Rattle.std.specs.FinMap.{entries}
use Rattle.std.specs.Option.{is_some, unwrap_or}
use Rattle.std.specs.Prelude.{Contains}
use Rattle.laws_mend.specs.alto_words.specs.Fid.{is_directory, sys_dir}
use Rattle.laws_mend.specs.alto_words.specs.declared.fid.Fid.{Fid}
use Rattle.laws_mend.specs.disk_records.specs.Packs.{Pack}
use Rattle.laws_mend.specs.disk_records.specs.Words.{word}
use Rattle.laws_mend.specs.pack_model.specs.hints.Links.{dir_words}
use Rattle.laws_mend.specs.pack_model.specs.operations.Rooms.{items_entered, left_over, placed, run}
use Rattle.laws_mend.specs.pack_model.specs.reading.Bodies.{described}
use Rattle.laws_mend.specs.pack_model.specs.reading.Bytes.{put_at, words_of}
use Rattle.laws_mend.specs.pack_model.specs.reading.Files.{lives, place}
use Rattle.laws_mend.specs.pack_model.specs.reading.Model.{root_items}
use Rattle.laws_mend.specs.pack_model.specs.reading.Namings.{AllKept, IsTidy, is_kept, namings, namings_in}
use Rattle.laws_mend.specs.pack_model.specs.reading.Sights.{sights}
use Rattle.laws_mend.specs.pack_model.specs.reading.SlotWords.{slots_at}
use Rattle.laws_mend.specs.pack_model.specs.reading.Slots.{Item, all_words, entry_length, item_words, slots}
use Rattle.laws_mend.specs.pack_model.specs.reading.Slots.Item.{entry, space}
use Rattle.laws_mend.specs.pack_model.specs.scavenger.Reports.{PagesMended}
use Rattle.laws_mend.specs.pack_model.specs.states.Whole.{Tidy}
use Rattle.laws_mend.specs.laws_record.proofs.Addressing.{entry_words_many}
use Rattle.laws_mend.specs.laws_record.proofs.DirReads.{dir_files, dir_lives, dir_was, has_leader}
use Rattle.laws_mend.specs.laws_record.proofs.DirWords.{DirChange, dir_change}
use Rattle.laws_mend.specs.laws_record.proofs.Entered.{namings_in-append}
use Rattle.laws_mend.specs.laws_record.proofs.Heads.{all_within}
use Rattle.laws_mend.specs.laws_record.proofs.Roomy.{run_enough, run_one}
use Rattle.laws_mend.specs.laws_record.proofs.slots.Laws.{found_is_placed}
use Rattle.laws_mend.specs.laws_record.proofs.Slotwise.{put_after, put_before, words-append}
use Rattle.laws_mend.specs.laws_record.specs.DirLaws.{Frees, dir_written, freed}
use Rattle.laws_mend.specs.laws_record.specs.DirLaws.IsLooseWord.{in_space}
use Rattle.laws_mend.specs.laws_lookup.proofs.own.Laws.{freeing_replaces_slots}
use Rattle.laws_mend.specs.laws_lookup.proofs.Replacing.{split_at}
use Rattle.laws_mend.specs.laws_lookup.specs.OwnLaws.{ReplacesSlots}
use Rattle.laws_mend.specs.laws_operation.proofs.Concerning.{run_bare}
use Rattle.laws_mend.specs.laws_operation.proofs.EnterMoves.{first_slot}
use Rattle.laws_mend.specs.laws_operation.proofs.OneDirectory.{slots_namings}
use Rattle.laws_mend.specs.laws_operation.proofs.Rejoining.{Parted, enough_words, entered_there, parted, room_again}
use Rattle.laws_mend.specs.laws_operation.specs.NameLaws.{IsRoom}
use Rattle.laws_mend.specs.laws_room.proofs.entering.Laws.{free_slots_made_one_keeps}
use Rattle.laws_mend.specs.laws_room.proofs.SystemFiles.{leader_shown}
use Rattle.laws_mend.specs.laws_room.specs.NextLaws.{LackingNext, mended_pack}
use Rattle.laws_names.proofs.inside.Freed.{as_many, loose_words_leave}
use Rattle.laws_names.proofs.inside.Models.{tidy_mended_is_read}
use Rattle.laws_names.proofs.inside.Staying.{free_is_true, new_slots_keep_entries}
use Rattle.laws_names.proofs.inside.Written.{names_written, pages_mended, root_may}
use Rattle.laws_names.specs.WriteLaws.{RoomIsFound, RoomIsMadeOne, RoomWordsLeave}

-- ---- the room that was found
-- where its first slot has all its words, it is the only one
alone : (n t : ℕ) (old b : List Item) → run n (old ++ b) ≡ Some (t, b) → t ≡ all_words old → item_words (get_or old 0 (space 0)) ≡ t → 1 ≤ t → old ≡ space t ∷ []
alone n t [] b runs total first some = absurd (omega arith)
alone n t (entry f name ∷ old) b runs total first some = absurd cc
alone n t (space k ∷ old) b runs total first some =
    let z : t ≡ k = sym first in
    let same : b ≡ old ++ b = run_one n k (old ++ b) (t, b) runs z in
    let l : length b ≡ length old + length b = ap length same ∙ length-append old b in
    none old (omega arith)
  where
    none : (xs : List Item) → length xs ≡ 0 → space k ∷ xs ≡ space t ∷ []
    none [] e = ap (λ j. space j ∷ []) first
    none (x ∷ xs) e = absurd (omega arith)

pub room_is_found : RoomIsFound
room_is_found n is r some e =
    let b : Parted n 0 0 is r = parted n 0 0 is r e in
    let first : r.first ≡ length b.before = b.first_is ∙ omega arith in
    let begin : r.place ≡ all_words b.before = b.place_is ∙ omega arith in
    let total : r.total ≡ all_words b.old = b.total in
    let enough : n ≤ r.total = run_enough n (b.old ++ b.behind) (r.total, b.behind) b.runs in
    record {
      before = b.before;
      old = b.old;
      behind = b.behind;
      room = record {
        split = b.split;
        found = e ∙ (λ i. Some (record { first = first i; place = begin i; total = total i }));
        run_is = b.runs ∙ (λ i. Some (total i, b.behind));
        most = let l = b.most in omega arith;
      };
      first = first;
      place = begin;
      total = total;
      alone = λ h. alone n r.total b.old b.behind b.runs total (ap item_words (sym ((λ i. get_or (b.split i) (first i) (space 0)) ∙ first_slot b.before b.old b.behind (omega arith))) ∙ h) (omega arith);
    }

-- ---- where an item goes
-- it is placed in its room
pub placed_there : (i : Item) (is a old b : List Item) → IsRoom (item_words i) is a old b → placed i is ≡ Some (items_entered i is)
placed_there i is a old b h = by (placed i is) refl
  where
    by : (r : Option (List Item)) → placed i is ≡ r → placed i is ≡ Some (items_entered i is)
    by None e = absurd (let n : None ≡ Some (record { first = length a; place = all_words a; total = all_words old }) = sym ((found_is_placed i is).neither.1 e) ∙ h.found in cc)
    by (Some js) e = e ∙ ap Some (sym (ap (λ r. unwrap_or r is) e))

-- ---- a directory with the same entries stays tidy
pub tidy_names : (p q : Pack) (d : Fid) (words : List ℕ) → DirChange p q d words → is_directory d ≡ true → lives (sights p) d ≡ true → namings_in d (slots words) ≡ namings_in d (slots (dir_words p d)) → Tidy p → Tidy q
tidy_names p q d words c dir live same t =
    let l = has_leader (sights p) d live in
    let names : namings (entries (described (sights q))) ≡ namings (entries (described (sights p))) =
    ap (λ fs. namings (entries fs)) (dir_files p q d words c dir l.0 l.1) ∙ slots_namings (described (sights p)) d l.0 (slots (dir_words p d)) (slots words) (dir_was p q d words c dir l.0 l.1) same in
    subst (λ v. IsTidy v (described (sights q))) (sym (dir_lives p q d words c dir l.0 l.1)) (subst (AllKept (is_kept (lives (sights p))) []) (sym names) t)

-- SysDir lives
pub root_live : (p : Pack) → PagesMended p → lives (sights p) sys_dir ≡ true
root_live p m = leader_shown (sights p) sys_dir 1 m.pages.root.1 m.pages.root.0 m.pages.root.2

-- ---- free slots made one
module _ (p : Pack) (at : ℕ) (a old b : List Item) (f : Fid) (name : List ℕ) (rest : List (Fid × List ℕ)) (m : PagesMended p) (t : Tidy p) (next : LackingNext p f name rest)
    (sector : place (sights p) sys_dir (all_words a / 256 + 1) ≡ Some at) (room : IsRoom (entry_length (length name)) (slots (dir_words p sys_dir)) a old b) where
  abbrev q : Pack
  q = freed p at a old

  live : lives (sights p) sys_dir ≡ true
  live = root_live p m

  some : 0 < all_words old
  some = let l = enough_words (entry_length (length name)) (slots (dir_words p sys_dir)) a old b room in let k = entry_words_many (length name) in omega arith

  frees : Frees p sys_dir at a old b
  frees =
      let all = all_within (a ++ (old ++ b)) (dir_words p sys_dir) room.split in
      let x = words-append a (old ++ b) in
      let y = words-append old b in
      let s = some in
      let one : length (all_words old ∷ []) ≡ 1 = refl in
      record {
        slots_are = room.split;
        some = s;
        most = room.most;
        write = record { directory = refl; lives = live; sector = sector; some = omega arith; one_page = omega arith; within = omega arith };
      }

  bare : namings_in sys_dir old ≡ []
  bare = run_bare sys_dir (entry_length (length name)) old b (all_words old) room.run_is

  replaced : ReplacesSlots p q sys_dir a old (space (all_words old) ∷ []) b
  replaced = freeing_replaces_slots p sys_dir at a old b frees

  size : all_words (slots (dir_words q sys_dir)) ≡ all_words (slots (dir_words p sys_dir))
  size = let z : all_words (space (all_words old) ∷ []) ≡ all_words old = omega arith in as_many p q sys_dir a old (space (all_words old) ∷ []) b replaced z

  mended : PagesMended q
  mended = pages_mended p sys_dir (all_words a) at (all_words old ∷ []) frees.write m size

  tidy : Tidy q
  tidy =
      let c = dir_change p sys_dir (all_words a) at (all_words old ∷ []) frees.write in
      tidy_names p q sys_dir (put_at (all_words a) (all_words old ∷ []) (dir_words p sys_dir)) c refl live (
      ap (λ ws. namings_in sys_dir (slots ws)) (sym c.words_are) ∙ ap (namings_in sys_dir) replaced.are
      ∙ namings_in-append sys_dir a (space (all_words old) ∷ b)
      ∙ ap (λ x. namings_in sys_dir a ++ x) (sym (namings_in-append sys_dir old b ∙ ap (λ x. x ++ namings_in sys_dir b) bare))
      ∙ sym (namings_in-append sys_dir a (old ++ b)) ∙ ap (namings_in sys_dir) (sym room.split)
      ) t

  again : IsRoom (entry_length (length name)) (slots (dir_words q sys_dir)) a (space (all_words old) ∷ []) b
  again = subst (λ is. IsRoom (entry_length (length name)) is a (space (all_words old) ∷ []) b) (sym replaced.are) (room_again (entry_length (length name)) (slots (dir_words p sys_dir)) a old b room)

  same : items_entered (entry f name) (slots (dir_words q sys_dir)) ≡ items_entered (entry f name) (slots (dir_words p sys_dir))
  same =
      let z : all_words (space (all_words old) ∷ []) ≡ all_words old = omega arith in
      entered_there (entry f name) (slots (dir_words q sys_dir)) a (space (all_words old) ∷ []) b again
      ∙ ap (λ k. a ++ entry f name ∷ left_over (k - entry_length (length name)) b) z
      ∙ sym (entered_there (entry f name) (slots (dir_words p sys_dir)) a old b room)

  kept : placed (entry f name) (root_items (mended_pack p)) ≡ Some (items_entered (entry f name) (slots (dir_words p sys_dir)))
  kept = ap (placed (entry f name)) (tidy_mended_is_read p m t sys_dir live refl) ∙ placed_there (entry f name) (slots (dir_words p sys_dir)) a old b room

  kept_now : placed (entry f name) (root_items (mended_pack q)) ≡ Some (items_entered (entry f name) (slots (dir_words p sys_dir)))
  kept_now = ap (placed (entry f name)) (tidy_mended_is_read q mended tidy sys_dir (root_live q mended) refl) ∙ placed_there (entry f name) (slots (dir_words q sys_dir)) a (space (all_words old) ∷ []) b again ∙ ap Some same

pub room_is_made_one : RoomIsMadeOne
room_is_made_one p at a old b f name rest m t next sector room =
    let q : Pack = freed p at a old in
    let h = frees p at a old b f name rest m t next sector room in
    let r = replaced p at a old b f name rest m t next sector room in
    let k = free_slots_made_one_keeps p at a old b f name rest (items_entered (entry f name) (slots (dir_words p sys_dir))) h (bare p at a old b f name rest m t next sector room) next
    (kept p at a old b f name rest m t next sector room) (kept_now p at a old b f name rest m t next sector room) in
    let w = names_written p sys_dir (all_words a) at (all_words old ∷ []) h.write m (size p at a old b f name rest m t next sector room) (k.0 (root_may p sys_dir (all_words a) at (all_words old ∷ []) h.write)) in
    record {
      written = w;
      tidy = tidy p at a old b f name rest m t next sector room;
      lacking_is = k.1;
      slots_are = r.are;
      room = again p at a old b f name rest m t next sector room;
      same = same p at a old b f name rest m t next sector room;
      stay = new_slots_keep_entries p q sys_dir a old (space (all_words old) ∷ []) b r (bare p at a old b f name rest m t next sector room)
          (λ s here. free_is_true q (dir_words q sys_dir) (all_words a) (all_words old) s here) (λ e other. ap words_of (w.others e other)) (λ g. w.places_are g 0);
    }

-- ---- words in the room
-- the slot that it is
slot_there : (words : List ℕ) (a b : List Item) (k : ℕ) → slots words ≡ a ++ space k ∷ b → Contains (slots_at words 0 (slots words)) (record { place = all_words a; item = space k; address = 0 })
unfolding slots_at
slot_there words a b k e =
    let z : 0 + all_words a ≡ all_words a = omega arith in
    subst (λ ss. Contains ss (record { place = all_words a; item = space k; address = 0 })) (sym (ap (slots_at words 0) e ∙ split_at words 0 a (space k ∷ b)))
    (Contains-append_right (slots_at words 0 a) (slots_at words (0 + all_words a) (space k ∷ b)) (record { place = all_words a; item = space k; address = 0 })
    (subst (λ n. Contains (slots_at words n (space k ∷ b)) (record { place = all_words a; item = space k; address = 0 })) (sym z) (0, omega arith, refl)))

pub room_words_leave : RoomWordsLeave
room_words_leave p d w at new a b k m h is low high =
    let q : Pack = dir_written p w at new in
    let there = slot_there (dir_words p d) a b k is in
    let x = loose_words_leave p d w at new m h (λ j from to. in_space (record { place = all_words a; item = space k; address = 0 }) k there refl (omega arith) (omega arith)) in
    let all = all_within (a ++ space k ∷ b) (dir_words p d) is in
    let n = words-append a (space k ∷ b) in
    let within = h.within in
    let r : ReplacesSlots p q d a (space k ∷ []) (space k ∷ []) b = record {
      living = ap is_some (x.written.leaders_are d);
      were = is;
      are = x.slots_are d ∙ is;
      size = inr refl;
      before = λ j l. ap (λ ws. word ws j) x.written.words_are ∙ put_before w new (dir_words p d) j h.within (omega arith);
      later = λ j l o. ap (λ ws. word ws j) x.written.words_are ∙ put_after w new (dir_words p d) j h.within (omega arith);
    } in
    record {
      loose = x;
      stay = new_slots_keep_entries p q d a (space k ∷ []) (space k ∷ []) b r refl (λ s here. free_is_true q (dir_words q d) (all_words a) k s here) (λ e other. ap words_of (x.written.others e other)) (λ g. x.written.places_are g 0);
    }
