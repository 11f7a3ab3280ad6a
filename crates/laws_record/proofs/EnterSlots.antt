-- An entry in the place of a free slot.
use Rattle.std.proofs.Common.{◌++◌, ◌+◌, ◌<◌, ◌∙◌, ◌∷◌, ◌≡◌, ◌≤◌, List, Some, ap, arith, drop, get_or-drop, length, length-drop, suc, sym, zero, ℕ}
use Rattle.std.proofs.lemmas.List.{drop-drop}
use Rattle.pack_laws.specs.alto_words.specs.declared.fid.Fid.{Fid}
use Rattle.pack_laws.specs.disk_records.specs.Packs.{Pack}
use Rattle.pack_laws.specs.disk_records.specs.Words.{word}
use Rattle.pack_laws.specs.pack_model.specs.reading.Bytes.{put_at}
use Rattle.pack_laws.specs.pack_model.specs.hints.Links.{dir_words}
use Rattle.pack_laws.specs.pack_model.specs.operations.Rooms.{left_over}
use Rattle.pack_laws.specs.pack_model.specs.reading.Slots.{Item, all_words, entry_length, slot_at, slots}
use Rattle.pack_laws.specs.pack_model.specs.reading.Slots.Item.{entry, space}
use Rattle.laws_record.proofs.Addressing.{drop_same}
use Rattle.pack_laws.proofs.Bytes.{length-put_at}
use Rattle.laws_record.proofs.Heads.{head_of, head_reads, slots_cons, slots_some}
use Rattle.laws_record.proofs.Slotwise.{free_head, put_before, put_after, slots_before, slots_behind}
use Rattle.laws_record.specs.DirLaws.{Enters}

-- a free slot for the words left over, if any
left_slots : (left : ℕ) (words : List ℕ) (b : List Item) → left < 1024 → left ≤ length words → (0 < left → word words 0 ≡ left) → slots (drop left words) ≡ b → slots words ≡ left_over left b
left_slots zero words b most within first rest = rest
left_slots (suc n) words b most within first rest = slots_some words (space (suc n)) (free_head words (suc n) (omega arith) most within (first (omega arith))) ∙ ap (λ r. space (suc n) ∷ r) rest

-- the slots then
pub slots_entered : (p : Pack) (d : Fid) (at : ℕ) (new : List ℕ) (a b : List Item) (f : Fid) (name : List ℕ) (left : ℕ) → Enters p d at new a b f name left → slots (put_at (all_words a) new (dir_words p d)) ≡ a ++ entry f name ∷ left_over left b
slots_entered p d at new a b f name left h =
    let n : ℕ = entry_length (length name) in
    let place : ℕ = all_words a in
    let xs : List ℕ = dir_words p d in
    let ys : List ℕ = put_at place new xs in
    let w = h.write.within in
    let extent = h.extent in
    let size : length ys ≡ length xs = length-put_at place new xs w in
    let z : 0 + place ≡ place = omega arith in
    let after_a : slots (drop place xs) ≡ space (n + left) ∷ b = ap (λ k. slots (drop k xs)) (sym z) ∙ slots_behind 0 xs a (space (n + left) ∷ b) h.slots_are in
    let s = slots_cons (drop place xs) (space (n + left)) b after_a in
    let old = head_of (drop place xs) (space (n + left)) s.0 in
    let within = old.within in
    let most = old.most in
    let sx = length-drop place xs in
    let sy = length-drop place ys in
    let behind : slots (drop (place + (n + left)) xs) ≡ b = ap slots (sym (drop-drop (n + left) place xs)) ∙ s.1 in
    let after_new : slots (drop (place + (n + left)) ys) ≡ b = ap slots (drop_same xs ys (place + (n + left)) size (λ k l m. put_after place new xs k w (omega arith))) ∙ behind in
    let here : slot_at (drop place ys) ≡ Some (entry f name) = head_reads (drop place ys) (entry f name) (record {
      some = omega arith;
      within = omega arith;
      most = omega arith;
      first = h.first_is;
      reads = h.entry_is;
    }) in
    let q : place + n + left ≡ place + (n + left) = omega arith in
    let rest : slots (drop (place + n) ys) ≡ left_over left b =
    left_slots left (drop (place + n) ys) b (omega arith) (let t = length-drop (place + n) ys in omega arith)
    (λ some. let k : place + n + 0 ≡ place + n = omega arith in get_or-drop (place + n) ys 0 0 ∙ ap (word ys) k ∙ h.left_is some)
    (ap slots (drop-drop left (place + n) ys) ∙ ap (λ k. slots (drop k ys)) q ∙ after_new) in
    slots_before 0 xs ys a (space (n + left) ∷ b) size h.slots_are (λ k l m. put_before place new xs k w (omega arith))
    ∙ ap (λ k. a ++ slots (drop k ys)) z
    ∙ ap (λ x. a ++ x) (slots_some (drop place ys) (entry f name) here ∙ ap (λ r. entry f name ∷ r) (ap slots (drop-drop n place ys) ∙ rest))
