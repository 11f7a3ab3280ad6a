-- The entry that is lacking next comes in its room, on a pack whose pages are mended.
use Rattle.std.proofs.Common.{◌&&◌, ◌++◌, ◌+◌, ◌-◌, ◌∙◌, ◌∷◌, ◌≡◌, ◌⊎◌, List, Some, [], ap, append_assoc, arith, drop, false, get_or-drop, inl, inr, length, refl, subst, suc, sym, true, zero, ℕ}
use Rattle.std.proofs.lemmas.List.{take-append-drop}
use Rattle.std.proofs.lemmas.List.Elements.{Contains-append_cases, Contains-push_cases}
use Rattle.std.specs.FinMap.{entries, get, insert}
use Rattle.std.specs.List.{list_any}
use Rattle.std.specs.Option.{is_some}
use Rattle.std.specs.Prelude.{Contains}
use Rattle.laws_mend.specs.alto_words.specs.Fid.{sys_dir}
use Rattle.laws_mend.specs.alto_words.specs.declared.fid.Fid.{Fid}
use Rattle.laws_mend.specs.disk_records.specs.Packs.{Pack}
use Rattle.laws_mend.specs.disk_records.specs.Words.{word}
use Rattle.laws_mend.specs.pack_model.specs.hints.Links.{IsTrueAddress, dir_words}
use Rattle.laws_mend.specs.pack_model.specs.operations.PageWords.{entered_words}
use Rattle.laws_mend.specs.pack_model.specs.operations.Rooms.{find_room, items_entered, left_over}
use Rattle.laws_mend.specs.pack_model.specs.reading.Bodies.{described}
use Rattle.laws_mend.specs.pack_model.specs.reading.Bytes.{put_at, words_of}
use Rattle.laws_mend.specs.pack_model.specs.reading.Files.{lives}
use Rattle.laws_mend.specs.pack_model.specs.reading.Model.{dir_items}
use Rattle.laws_mend.specs.pack_model.specs.reading.Namings.{IsTidy, clashes, may_stand, namings}
use Rattle.laws_mend.specs.pack_model.specs.reading.Sights.{sights}
use Rattle.laws_mend.specs.pack_model.specs.reading.SlotWords.{SlotAt, address_word, slots_at}
use Rattle.laws_mend.specs.pack_model.specs.reading.Slots.{Item, all_words, entry_length, slots}
use Rattle.laws_mend.specs.pack_model.specs.reading.Slots.Item.{entry, space}
use Rattle.laws_mend.specs.pack_model.specs.scavenger.Reports.{PagesMended}
use Rattle.laws_mend.specs.pack_model.specs.states.Whole.{Tidy}
use Rattle.laws_mend.specs.laws_record.proofs.DirReads.{dir_files, dir_lives, dir_was, has_leader}
use Rattle.laws_mend.specs.laws_record.proofs.DirWords.{dir_change}
use Rattle.laws_mend.specs.laws_record.proofs.Entered.{directory}
use Rattle.laws_mend.specs.laws_record.proofs.EnterSlots.{slots_entered}
use Rattle.laws_mend.specs.laws_record.proofs.SystemEntries.{left_words}
use Rattle.laws_mend.specs.laws_record.specs.DirLaws.{Enters, entered}
use Rattle.laws_mend.specs.laws_lookup.specs.OwnLaws.{ReplacesSlots}
use Rattle.laws_mend.specs.laws_operation.proofs.enter.Laws.{entry_words_fit}
use Rattle.laws_mend.specs.laws_operation.proofs.EntryKept.{entry_tidy}
use Rattle.laws_mend.specs.laws_operation.proofs.EntryWrite.{enters_of, put_drop, read_files}
use Rattle.laws_mend.specs.laws_operation.proofs.places.Laws.{file_lives_in_a_place}
use Rattle.laws_mend.specs.laws_operation.proofs.Rejoining.{entered_there}
use Rattle.laws_mend.specs.laws_room.proofs.entering.Laws.{next_entry_keeps}
use Rattle.laws_mend.specs.laws_room.specs.KeepLaws.{KeepsAside}
use Rattle.laws_mend.specs.laws_room.specs.NextLaws.{Lacking, LackingNext, mended_pack}
use Rattle.laws_mend.proofs.slots.Laws.{enters_replaces_slots}
use Rattle.laws_names.proofs.inside.Freed.{as_many}
use Rattle.laws_names.proofs.inside.Models.{mended_is_read, tidy_mended_is_read}
use Rattle.laws_names.proofs.inside.Rooms.{root_live}
use Rattle.laws_names.proofs.inside.Staying.{free_is_true, new_slots_keep_entries}
use Rattle.laws_names.proofs.inside.Written.{names_written, root_may}
use Rattle.laws_names.specs.WriteLaws.{CanBeEntered, NamesWritten, NextEntryIsEntered}

module _ (p : Pack) (f : Fid) (name : List ℕ) (rest : List (Fid × List ℕ)) (a b : List Item) (left address at : ℕ) (new over : List ℕ) (m : PagesMended p) (t : Tidy p) (next : LackingNext p f name rest) (h : CanBeEntered p f name a b left address at new over) where
  abbrev q : Pack
  q = entered p at a new

  abbrev n : ℕ
  n = entry_length (length name)

  abbrev words : List ℕ
  words = entered_words f address name left

  was : slots (dir_words p sys_dir) ≡ a ++ space (n + left) ∷ b
  was = h.room.split

  enters : Enters p sys_dir at new a b f name left
  enters = enters_of p sys_dir at new over words a b f name left (entry_words_fit f address name left h.full_name h.stored) h.words_are was h.write h.stand

  replaced : ReplacesSlots p q sys_dir a (space (n + left) ∷ []) (entry f name ∷ left_over left []) b
  replaced = enters_replaces_slots p sys_dir at new a b f name left enters

  size : all_words (slots (dir_words q sys_dir)) ≡ all_words (slots (dir_words p sys_dir))
  size = let l = left_words left [] in let z : all_words (entry f name ∷ left_over left []) ≡ all_words (space (n + left) ∷ []) = omega arith in as_many p q sys_dir a (space (n + left) ∷ []) (entry f name ∷ left_over left []) b replaced z

  found : find_room n (slots (dir_words p sys_dir)) ≡ Some (record { first = length a; place = all_words a; total = n + left })
  found = let z : all_words (space (n + left) ∷ []) ≡ n + left = omega arith in h.room.found ∙ ap (λ k. Some (record { first = length a; place = all_words a; total = k })) z

  items : dir_items (mended_pack p) sys_dir ≡ slots (dir_words p sys_dir)
  items = tidy_mended_is_read p m t sys_dir (root_live p m) refl

  next_keeps : KeepsAside p q × Lacking q rest
  next_keeps = next_entry_keeps p at new a b f name left rest enters next h.may (ap (find_room n) items ∙ found)

  -- ---- its slots
  slots_now : slots (dir_words q sys_dir) ≡ a ++ entry f name ∷ left_over left b
  slots_now = ap slots (dir_change p sys_dir (all_words a) at new h.write).words_are ∙ slots_entered p sys_dir at new a b f name left enters

  entered_now : slots (dir_words q sys_dir) ≡ items_entered (entry f name) (slots (dir_words p sys_dir))
  entered_now =
      let z : all_words (space (n + left) ∷ []) - n ≡ left = omega arith in
      slots_now ∙ ap (λ k. a ++ entry f name ∷ left_over k b) (sym z) ∙ sym (entered_there (entry f name) (slots (dir_words p sys_dir)) a (space (n + left) ∷ []) b h.room)

  -- ---- tidy
  tidy : Tidy q
  tidy =
      let c = dir_change p sys_dir (all_words a) at new h.write in
      let l = has_leader (sights p) sys_dir (root_live p m) in
      let files = described (sights p) in
      let here : get files sys_dir ≡ Some (directory l.0 (a ++ space (n + left) ∷ b)) = dir_was p q sys_dir _ c refl l.0 l.1 ∙ ap (λ is. Some (directory l.0 is)) was in
      let clear : list_any (clashes (record { dir = sys_dir; name = name; fid = f })) (namings (entries files)) ≡ false = ap (λ fs. list_any (clashes (record { dir = sys_dir; name = name; fid = f })) (namings (entries fs))) (sym (read_files p t)) ∙ ap (list_any (clashes (record { dir = sys_dir; name = name; fid = f }))) (sym (mended_is_read p m).names_are) ∙ h.may.apart in
      let stands : may_stand (lives (sights p)) (record { dir = sys_dir; name = name; fid = f }) ≡ true = λ i. (file_lives_in_a_place p f ∙ ap is_some h.address_is) i && h.may.fits i in
      let still : IsTidy (lives (sights p)) (insert files sys_dir (directory l.0 (a ++ entry f name ∷ left_over left b))) = entry_tidy (lives (sights p)) files sys_dir l.0 a b (n + left) left here f name t stands clear in
      subst (λ v. IsTidy v (described (sights q))) (sym (dir_lives p q sys_dir _ c refl l.0 l.1))
      (subst (IsTidy (lives (sights p))) (sym (dir_files p q sys_dir _ c refl l.0 l.1 ∙ ap (λ is. insert files sys_dir (directory l.0 is)) (slots_entered p sys_dir at new a b f name left enters))) still)

  -- ---- its address
  address_now : word (dir_words q sys_dir) (address_word (all_words a)) ≡ address
  address_now =
      let ws : List ℕ = dir_words p sys_dir in
      let begin : ℕ = all_words a in
      let behind : List ℕ = drop (begin + length new) ws in
      let tail : List ℕ = drop (length over) behind in
      let shape : drop begin (put_at begin new ws) ≡ words ++ tail =
      put_drop begin new ws h.write.within ∙ ap (λ x. new ++ x) (sym (take-append-drop (length over) behind) ∙ ap (λ x. x ++ tail) h.stand) ∙ sym (append_assoc new over tail) ∙ ap (λ x. x ++ tail) (sym h.words_are) in
      ap (λ x. word x (begin + 5)) (dir_change p sys_dir (all_words a) at new h.write).words_are ∙ sym (get_or-drop begin (put_at begin new ws) 5 0) ∙ ap (λ x. word x 5) shape

  written : NamesWritten p q sys_dir (all_words a) new
  written = names_written p sys_dir (all_words a) at new h.write m size (next_keeps.0 (root_may p sys_dir (all_words a) at new h.write))

  -- the slots that come have true addresses
  true_new : (s : SlotAt) → Contains (slots_at (dir_words q sys_dir) (all_words a) (entry f name ∷ left_over left [])) s → IsTrueAddress (sights q) s.item s.address
  unfolding slots_at
  true_new s here = elim (Contains-append_cases (record { place = all_words a; item = entry f name; address = word (dir_words q sys_dir) (address_word (all_words a)) } ∷ []) (slots_at (dir_words q sys_dir) (all_words a + n) (left_over left [])) s here) [
    | inl first ↦ own (Contains-push_cases [] (record { place = all_words a; item = entry f name; address = word (dir_words q sys_dir) (address_word (all_words a)) }) s first)
    | inr more ↦ spare left more
  ]
    where
      own : Contains [] s ⊎ (record { place = all_words a; item = entry f name; address = word (dir_words q sys_dir) (address_word (all_words a)) } ≡ s) → IsTrueAddress (sights q) s.item s.address
      own (inl none) = absurd (let l = none.1 in omega arith)
      own (inr e) = subst (λ (x : SlotAt). IsTrueAddress (sights q) x.item x.address) e (written.places_are f 0 ∙ h.address_is ∙ ap Some (sym address_now))

      spare : (k : ℕ) → Contains (slots_at (dir_words q sys_dir) (all_words a + n) (left_over k [])) s → IsTrueAddress (sights q) s.item s.address
      spare zero none = absurd (let l = none.1 in omega arith)
      spare (suc k) one = free_is_true q (dir_words q sys_dir) (all_words a + n) (suc k) s one

pub next_entry_is_entered : NextEntryIsEntered
next_entry_is_entered p f name rest a b left address at new over m t next h =
    let w = written p f name rest a b left address at new over m t next h in
    record {
      written = w;
      tidy = tidy p f name rest a b left address at new over m t next h;
      lacking_are = (next_keeps p f name rest a b left address at new over m t next h).1;
      slots_are = entered_now p f name rest a b left address at new over m t next h;
      stay = new_slots_keep_entries p (entered p at a new) sys_dir a (space (entry_length (length name) + left) ∷ []) (entry f name ∷ left_over left []) b (replaced p f name rest a b left address at new over m t next h) refl
          (true_new p f name rest a b left address at new over m t next h) (λ e other. ap words_of (w.others e other)) (λ g. w.places_are g 0);
    }
