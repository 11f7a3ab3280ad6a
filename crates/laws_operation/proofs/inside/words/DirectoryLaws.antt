-- The words of a widening and of a freed slot.
use Rattle.std.proofs.Common.{List, [], ap, arith, drop, length, refl, subst, ℕ, ◌++◌, ◌+◌, ◌/◌, ◌∙◌, ◌∷◌, ◌≡◌, ◌≤◌}
use Rattle.laws_contents.specs.pack_model.specs.operations.Committing.{page_of_word}
use Rattle.laws_contents.specs.pack_model.specs.reading.Files.{place}
use Rattle.laws_contents.specs.pack_model.specs.hints.Links.{dir_words}
use Rattle.laws_contents.specs.pack_model.specs.operations.PageWords.{widening_bytes}
use Rattle.laws_contents.specs.pack_model.specs.reading.Sights.{sights}
use Rattle.laws_contents.specs.pack_model.specs.reading.SlotWords.{space_words}
use Rattle.laws_contents.specs.pack_model.specs.reading.Slots.{IsSlot, Item, all_words, entry_length, slots}
use Rattle.laws_contents.specs.pack_model.specs.reading.Slots.Item.{entry, space}
use Rattle.laws_contents.specs.laws_record.proofs.Heads.{all_within, head_of, slots_cons}
use Rattle.laws_contents.specs.laws_record.proofs.Slotwise.{slots_behind, words-append}
use Rattle.laws_operation.proofs.inside.words.GrownPages.{grows}
use Rattle.laws_operation.specs.DirectoryWords.{LeaveWordsFit, SlotWordsFit, WidenWordsFit}

-- ---- widen
-- a page's words as one free slot
page_slot : IsSlot (space_words 256) (space 256)
page_slot = record { some = omega arith; most = omega arith; first = refl; reads = refl; size = refl }

pub widen_words_fit : WidenWordsFit
widen_words_fit p d b past fresh at w dir h =
    let g = grows p d b widening_bytes past fresh at w h in
    record { directory = dir; sector = g.at_last; claimable = g.claimable; kept = g.counted_still; page = g.page; laid = g.laid; bytes = g.bytes; slot = page_slot }

-- ---- a slot that is made free
pub slot_words_fit : SlotWordsFit
slot_words_fit p d at a b f own h =
    let words : List ℕ = dir_words p d in
    let old : List Item = entry f own ∷ [] in
    let one : all_words old ≡ entry_length (length own) = omega arith in
    let z : 0 + all_words a ≡ all_words a = omega arith in
    let there : slots (drop (all_words a) words) ≡ entry f own ∷ b = subst (λ n. slots (drop n words) ≡ entry f own ∷ b) z (slots_behind 0 words a (entry f own ∷ b) h.slots_are) in
    let head = head_of (drop (all_words a) words) (entry f own) (slots_cons (drop (all_words a) words) (entry f own) b there).0 in
    let fit : all_words (a ++ entry f own ∷ b) ≤ length words = all_within (a ++ entry f own ∷ b) words h.slots_are in
    let parts : all_words (a ++ entry f own ∷ b) ≡ all_words a + all_words (entry f own ∷ b) = words-append a (entry f own ∷ b) in
    record {
      slots_are = h.slots_are;
      some = let l = head.some in omega arith;
      most = let l = head.most in omega arith;
      write = record {
        directory = h.directory;
        lives = h.living;
        sector = (let z : all_words a / 256 + 1 ≡ page_of_word (all_words a) = omega arith in ap (place (sights p) d) z) ∙ h.sector;
        some = omega arith;
        one_page = omega arith;
        within = let l = head.some in omega arith;
      };
    }

pub leave_words_fit : LeaveWordsFit
leave_words_fit p d name at a b f own h same other = record { frees = slot_words_fit p d at a b f own h; same = same; no_system = other }
