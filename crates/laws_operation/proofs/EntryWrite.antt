-- The write of an entry's first words, which commits its entering.
use Rattle.std.proofs.Common.{List, Some, [], add-one, ap, append_assoc, arith, drop, false, get_or-drop, inl, inr, length, refl, suc, sym, take, true, zero, ℕ, ◌%◌, ◌&&◌, ◌++◌, ◌+◌, ◌/◌, ◌<◌, ◌∙◌, ◌∷◌, ◌≡◌, ◌≤◌}
use Rattle.std.proofs.lemmas.List.{get_or-take, get_or_append_left, length-append, length-take-le, take-append-drop, take-append-le}
use Rattle.std.specs.FinMap.{entries, get, insert}
use Rattle.std.specs.List.{list_any}
use Rattle.laws_contents.specs.alto_words.specs.Fid.{is_system}
use Rattle.laws_contents.specs.alto_words.specs.declared.fid.Fid.{Fid}
use Rattle.laws_contents.specs.disk_records.specs.Commands.{value_writes}
use Rattle.laws_contents.specs.disk_records.specs.Packs.{Pack, after, sector_at}
use Rattle.laws_contents.specs.disk_records.specs.Words.{word}
use Rattle.laws_contents.specs.disk_records.specs.declared.records.Event.{Event}
use Rattle.laws_contents.specs.pack_model.specs.reading.Bodies.{Files, described}
use Rattle.laws_contents.specs.pack_model.specs.reading.Bytes.{put_at}
use Rattle.laws_contents.specs.pack_model.specs.operations.Committing.{page_of_word, room_place}
use Rattle.laws_contents.specs.pack_model.specs.reading.Files.{lives, place}
use Rattle.laws_contents.specs.pack_model.specs.reading.Leaders.{Leader}
use Rattle.laws_contents.specs.pack_model.specs.hints.Links.{dir_words}
use Rattle.laws_contents.specs.pack_model.specs.sessions.Meanings.{reading}
use Rattle.laws_contents.specs.pack_model.specs.reading.Model.{dir_items, read_as, read_sights}
use Rattle.laws_contents.specs.pack_model.specs.sessions.Moves.{Obeys, rest, write}
use Rattle.laws_contents.specs.pack_model.specs.reading.Namings.{IsTidy, Naming, clashes, may_stand, namings}
use Rattle.laws_contents.specs.pack_model.specs.operations.Operations.{one_move}
use Rattle.laws_contents.specs.pack_model.specs.operations.PageWords.{in_page}
use Rattle.laws_contents.specs.pack_model.specs.operations.Rooms.{find_room, left_over}
use Rattle.laws_contents.specs.pack_model.specs.reading.Sights.{Sight, sights}
use Rattle.laws_contents.specs.pack_model.specs.reading.Slots.{Item, all_words, entry_length, item_words, slot_of, slots}
use Rattle.laws_contents.specs.pack_model.specs.reading.Slots.Item.{entry, space}
use Rattle.laws_contents.specs.pack_model.specs.operations.Step.{Operation}
use Rattle.laws_contents.specs.pack_model.specs.operations.Step.Operation.{enter}
use Rattle.laws_contents.specs.pack_model.specs.states.Whole.{Tidy, Whole}
use Rattle.laws_contents.specs.pack_laws.proofs.Bytes.{put_at-later}
use Rattle.laws_contents.specs.laws_record.proofs.Addressing.{LooseIn}
use Rattle.laws_contents.specs.laws_record.proofs.Addressing.{entry_words_many}
use Rattle.laws_contents.specs.laws_record.proofs.EnterSlots.{slots_entered}
use Rattle.laws_contents.specs.laws_record.proofs.Entered.{directory}
use Rattle.laws_contents.specs.laws_record.proofs.Slotwise.{words-append}
use Rattle.laws_contents.specs.laws_record.proofs.SystemEntries.{left_words}
use Rattle.laws_contents.specs.laws_record.proofs.Tidying.{tidy_same}
use Rattle.laws_contents.specs.laws_record.specs.DirLaws.{DirWrite, Enters}
use Rattle.laws_contents.specs.laws_record.specs.EnterLaws.{IsItsRoom, MayEnter}
use Rattle.laws_operation.proofs.DirValue.{dir_before, dir_lead, value_same, value_tidy, value_whole}
use Rattle.laws_operation.proofs.inside.Elsewhere.{SameBut}
use Rattle.laws_operation.proofs.EntryKept.{entry_names, entry_tidy}
use Rattle.laws_operation.specs.NameLaws.{EntryWords}
use Rattle.laws_contents.specs.laws_record.proofs.entries.Laws.{entry_is_the_step}

-- a tidy pack is read as it stands
pub read_files : (p : Pack) → Tidy p → (read_as p).files ≡ described (sights p)
unfolding read_sights
read_files p t = tidy_same (lives (sights p)) (described (sights p)) t

-- what the last record write does
pub record EntersLast (p : Pack) (d : Fid) (events : List Event) (o : Operation) : Type 0 where
  pub obeys : Obeys reading (read_as p) p events (one_move o)
  pub whole : Whole (after p events)
  pub tidy : Tidy (after p events)
  pub same : SameBut d (sights p) (sights (after p events))

-- so it is
pub last_stage : (p : Pack) (w : Whole p) → Tidy p → (d : Fid) (at : ℕ) (new : List ℕ) (a b : List Item) (f : Fid) (name : List ℕ) (left : ℕ) → Enters p d at new a b f name left → MayEnter p d f name → IsItsRoom p d a name left → is_system f ≡ false
    → EntersLast p d (value_writes at (put_at (in_page (all_words a)) new (sector_at p at).value)) (enter d name f)
last_stage p w t d at new a b f name left h may room other =
    let ss : List Sight = sights p in
    let n : ℕ = entry_length (length name) in
    let k : ℕ = n + left in
    let js : List Item = a ++ entry f name ∷ left_over left b in
    let now : slots (put_at (all_words a) new (dir_words p d)) ≡ js = slots_entered p d at new a b f name left h in
    let sum : all_words js ≡ all_words (slots (dir_words p d)) =
    let x : all_words js ≡ all_words a + (n + all_words (left_over left b)) = words-append a (entry f name ∷ left_over left b) in
    let y : all_words (left_over left b) ≡ left + all_words b = left_words left b in
    let z : all_words (a ++ space k ∷ b) ≡ all_words a + (k + all_words b) = words-append a (space k ∷ b) in
    let q : all_words js ≡ all_words (a ++ space k ∷ b) = omega arith in
    q ∙ ap all_words (sym h.slots_are) in
    let l : Leader = dir_lead p w d (all_words a) at new h.write in
    let files : Files = described ss in
    let here : get files d ≡ Some (directory l (a ++ space k ∷ b)) = dir_before p w d (all_words a) at new h.write js now sum ∙ ap (λ x. Some (directory l x)) h.slots_are in
    let e : Naming = record { dir = d; name = name; fid = f } in
    let clear : list_any (clashes e) (namings (entries files)) ≡ false = ap (λ m. list_any (clashes e) (namings (entries m))) (sym (read_files p t)) ∙ may.apart in
    let stands : may_stand (lives ss) e ≡ true = λ i. may.lives i && may.fits i in
    let still : IsTidy (lives ss) (insert files d (directory l js)) = entry_tidy (lives ss) files d l a b k left here f name t stands clear in
    let step_is = entry_is_the_step p d at new a b f name left h may room in
    let sector : place ss d (page_of_word (room_place (find_room n (dir_items (read_as p) d)))) ≡ Some at = ap (λ r. place ss d (page_of_word (room_place r))) room ∙ ap (place ss d) (sym (add-one (all_words a / 256))) ∙ h.write.sector in
    record {
      obeys = write refl (record { part_is = refl; bears = sector }) (rest step_is);
      whole = value_whole p w d (all_words a) at new h.write js now sum t still (λ g system. entry_names (lives ss) files d l a b k left here f name g system other);
      tidy = value_tidy p w d (all_words a) at new h.write js now sum t still;
      same = value_same p w d (all_words a) at new h.write;
    }

-- ---- the words that are written
pub put_drop : (at : ℕ) (new old : List ℕ) → at + length new ≤ length old → drop at (put_at at new old) ≡ new ++ drop (at + length new) old
put_drop zero new old l = let z : 0 + length new ≡ length new = omega arith in rw z refl
put_drop (suc at) new [] l = absurd (omega arith)
put_drop (suc at) new (x ∷ old) l = let z : suc at + length new ≡ suc (at + length new) = omega arith in ap (drop (suc at)) (put_at-later at x new old) ∙ put_drop at new old (omega arith) ∙ ap (λ k. new ++ drop k (x ∷ old)) (sym z)

-- the words of an entry, of which the last ones stand there already
pub enters_of : (p : Pack) (d : Fid) (at : ℕ) (new over words : List ℕ) (a b : List Item) (f : Fid) (name : List ℕ) (left : ℕ) → EntryWords f name left words → words ≡ new ++ over → slots (dir_words p d) ≡ a ++ space (entry_length (length name) + left) ∷ b
    → DirWrite p d (all_words a) at new → take (length over) (drop (all_words a + length new) (dir_words p d)) ≡ over → Enters p d at new a b f name left
enters_of p d at new over words a b f name left es split slots_are h stands =
    let n : ℕ = entry_length (length name) in
    let begin : ℕ = all_words a in
    let ys : List ℕ = put_at begin new (dir_words p d) in
    let behind : List ℕ = drop (begin + length new) (dir_words p d) in
    let tail : List ℕ = drop (length over) behind in
    let shape : drop begin ys ≡ words ++ tail = put_drop begin new (dir_words p d) h.within ∙ ap (λ x. new ++ x) (sym (take-append-drop (length over) behind) ∙ ap (λ x. x ++ tail) stands) ∙ sym (append_assoc new over tail) ∙ ap (λ x. x ++ tail) (sym split) in
    let size = es.size in
    let long : n ≤ length words = omega arith in
    let many : 7 ≤ n = entry_words_many (length name) in
    let first : take n (drop begin ys) ≡ take n words = ap (take n) shape ∙ take-append-le n words tail long in
    let parts : length words ≡ length new + length over = ap length split ∙ length-append new over in
    let took : length (take n words) ≡ n = length-take-le n words long in
    let word0 : word (drop begin ys) 0 ≡ word (take n words) 0 = ap (λ x. word x 0) shape ∙ get_or_append_left words tail 0 0 (omega arith) ∙ sym (get_or-take n words 0 0 (omega arith)) in
    record {
      slots_are = slots_are;
      write = h;
      extent = omega arith;
      entry_is = ap slot_of first ∙ es.slot.reads;
      first_is = ap (λ x. x % 1024) word0 ∙ es.slot.first ∙ took;
      left_is = λ some. let z : n < length words = omega arith in sym (get_or-drop begin ys n 0) ∙ ap (λ x. word x n) shape ∙ get_or_append_left words tail 0 n z ∙ es.left_is some;
    }

-- words of a free slot after its first one
pub loose_in : (from : ℕ) (a b : List Item) (t k : ℕ) → from + all_words a < k → k < from + all_words a + t → LooseIn from (a ++ space t ∷ b) k
loose_in from [] b t k low high = inl (omega arith, (omega arith, omega arith))
loose_in from (i ∷ a) b t k low high = inr (loose_in (from + item_words i) a b t k (omega arith) (omega arith))
