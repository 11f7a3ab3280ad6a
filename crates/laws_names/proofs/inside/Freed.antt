-- The slot of an entry that isn't kept is made free; words that say nothing are written.
use Rattle.std.proofs.Common.{◌++◌, ◌∙◌, ◌∷◌, ◌≡◌, List, [], ap, arith, get_or, length, subst, sym}
use Rattle.std.specs.Option.{is_some}
use Rattle.laws_mend.specs.alto_words.specs.declared.fid.Fid.{Fid}
use Rattle.laws_mend.specs.disk_records.specs.Packs.{Pack}
use Rattle.laws_mend.specs.pack_model.specs.hints.Links.{dir_words}
use Rattle.laws_mend.specs.pack_model.specs.reading.Model.{Model, dir_items, read_as}
use Rattle.laws_mend.specs.pack_model.specs.reading.Slots.{Item, all_words, item_words, slots}
use Rattle.laws_mend.specs.pack_model.specs.reading.Slots.Item.{entry, space}
use Rattle.laws_mend.specs.pack_model.specs.scavenger.Mended.{rooted}
use Rattle.laws_mend.specs.pack_model.specs.scavenger.Reports.{PagesMended}
use Rattle.laws_mend.specs.laws_record.proofs.directories.Laws.{loose_words_reads_same, slot_that_is_not_kept}
use Rattle.laws_mend.specs.laws_record.proofs.Slotwise.{one_word, words-append}
use Rattle.laws_mend.specs.laws_record.specs.DirLaws.{dir_written, freed}
use Rattle.laws_mend.specs.laws_lookup.proofs.own.Laws.{freeing_replaces_slots}
use Rattle.laws_mend.specs.laws_lookup.specs.OwnLaws.{ReplacesSlots}
use Rattle.laws_mend.specs.laws_room.proofs.entering.Laws.{slot_that_is_not_kept_keeps}
use Rattle.laws_mend.specs.laws_room.proofs.keeping.Laws.{loose_words_keeps_aside}
use Rattle.laws_mend.specs.laws_room.specs.NextLaws.{mended_pack}
use Rattle.laws_mend.proofs.slots.Laws.{loose_words_keep_slots}
use Rattle.laws_names.proofs.inside.Models.{all_kept_is_tidy, mended_is_read, tidy_mended_is_read}
use Rattle.laws_names.proofs.inside.Written.{names_written, root_may}
use Rattle.laws_names.specs.WriteLaws.{LooseWordsLeave, UnkeptSlotIsFreed}

-- packs that are read the same are found the same, where pages are mended
pub found_same : (p q : Pack) → PagesMended p → PagesMended q → read_as q ≡ read_as p → mended_pack q ≡ mended_pack p
found_same p q m n e = (mended_is_read q n).model ∙ ap (λ (x : Model). record x { files = rooted x.files }) e ∙ sym (mended_is_read p m).model

-- slots in the place of as many words have as many words
pub as_many : (p q : Pack) (d : Fid) (a old new b : List Item) → ReplacesSlots p q d a old new b → all_words new ≡ all_words old → all_words (slots (dir_words q d)) ≡ all_words (slots (dir_words p d))
as_many p q d a old new b r same =
    let x = words-append a (new ++ b) in
    let y = words-append new b in
    let z = words-append a (old ++ b) in
    let v = words-append old b in
    let n = ap all_words r.are in
    let o = ap all_words r.were in
    omega arith

pub unkept_slot_is_freed : UnkeptSlotIsFreed
unkept_slot_is_freed p d at a b f name m h unkept =
    let q : Pack = freed p at a (entry f name ∷ []) in
    let n : all_words (entry f name ∷ []) ≡ item_words (entry f name) = one_word f name in
    let r : ReplacesSlots p q d a (entry f name ∷ []) (space (item_words (entry f name)) ∷ []) b = subst (λ k. ReplacesSlots p q d a (entry f name ∷ []) (space k ∷ []) b) n (freeing_replaces_slots p d at a (entry f name ∷ []) b h) in
    let size : all_words (space (item_words (entry f name)) ∷ []) ≡ all_words (entry f name ∷ []) = omega arith in
    let w = names_written p d (all_words a) at (all_words (entry f name ∷ []) ∷ []) h.write m (as_many p q d a (entry f name ∷ []) (space (item_words (entry f name)) ∷ []) b r size)
    (slot_that_is_not_kept_keeps p d at a b f name h unkept (root_may p d (all_words a) at (all_words (entry f name ∷ []) ∷ []) h.write)) in
    let read : read_as q ≡ read_as p = slot_that_is_not_kept p d at a b f name h (ap (λ is. get_or is (length a) (entry f name)) (sym ((mended_is_read p m).items_are d)) ∙ unkept) in
    record { written = w; read = read; mended_is = found_same p q m w.mended read; slots_are = r }

-- ---- words that say nothing
pub loose_words_leave : LooseWordsLeave
loose_words_leave p d w at new m h loose =
    let q : Pack = dir_written p w at new in
    let s = loose_words_keep_slots p d w at new h loose in
    let x = names_written p d w at new h m (ap all_words (s d)) (loose_words_keeps_aside p d w at new h loose (root_may p d w at new h)) in
    let read : read_as q ≡ read_as p = loose_words_reads_same p d w at new h loose in
    let found : mended_pack q ≡ mended_pack p = found_same p q m x.mended read in
    record {
      written = x;
      read = read;
      mended_is = found;
      slots_are = s;
      tidy = λ t. all_kept_is_tidy q x.mended (λ e live dir. ap (λ k. dir_items k e) found ∙ tidy_mended_is_read p m t e (ap is_some (sym (x.leaders_are e)) ∙ live) dir ∙ sym (s e));
    }
