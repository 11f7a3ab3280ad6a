-- What the visitors of rows and of all slots have once they have met those of a directory.
use Rattle.std.proofs.Common.{◌≡◌, ℕ, suc, ◌-◌, ◌/◌, ◌^◌, ◌<◌, ◌≤◌, Bool, true, false, nat_lt, min, max, List, [], ◌∷◌, ◌++◌, length, refl, sym, ◌∙◌, ap, arith}
use Rattle.std.specs.Prelude.{map}
use Rattle.std.specs.List.{FoldsTo}
use Rattle.std.proofs.lemmas.Bool.Decides.{nat_tests}
use Rattle.std.proofs.lemmas.Fn.{chained_keeps}
use Rattle.std.proofs.lemmas.List.{map_push}
use Rattle.std.proofs.lemmas.List.Sums.{fold_push}
use Rattle.alto_words.specs.declared.fid.Fid.{Fid}
use Rattle.dir_slots.specs.Items.{address_of, items_of}
use Rattle.dir_slots.proofs.Hands.{slots_within}
use Rattle.disk_records.specs.Packs.{Pack}
use Rattle.disk_records.proofs.Bytes.{length-words_of}
use Rattle.file_pages.specs.laws_contents.proofs.ends.Laws.{each_file_has_its_end}
use Rattle.file_pages.specs.laws_contents.proofs.pages.Laws.{page_numbers_are_words}
use Rattle.file_pages.specs.laws_midway.proofs.rooms.Laws.{most_words_go_on}
use Rattle.file_pages.specs.laws_midway.specs.RoomLaws.{row_words, words_at_end}
use Rattle.pack_model.specs.hints.Links.{dir_slots, dir_words}
use Rattle.pack_model.specs.operations.Rooms.{largest_run, words_free}
use Rattle.pack_model.specs.reading.Files.{file_bytes}
use Rattle.pack_model.specs.reading.Sights.{sights}
use Rattle.pack_model.specs.reading.Slots.{Item, all_words, slots}
use Rattle.pack_model.specs.reading.Slots.Item.{entry, space}
use Rattle.pack_model.specs.reading.SlotWords.{SlotAt}
use Rattle.directory.specs.declared.slots.Slots.{Slots}
use Rattle.directory.specs.declared.runs.Runs.{Runs}
use Rattle.directory.specs.Inside.{MeetsRow, MeetsSlot}
use Rattle.directory.proofs.Items.{items_at, items_met}

-- ---- how many words there are
-- a directory has fewer than 2^25 words
few_words : (p : Pack) (d : Fid) → length (dir_words p d) < 33554432
few_words p d =
    let size = length-words_of (file_bytes (sights p) d) in
    let end = each_file_has_its_end p d in
    let n : ℕ = length (file_bytes (sights p) d) / 512 in
    let few : n < 65536 = by (nat_lt n 65536) refl in
    omega (arith, size, few)
  where
    by : (t : Bool) → nat_lt (length (file_bytes (sights p) d) / 512) 65536 ≡ t → length (file_bytes (sights p) d) / 512 < 65536
    by true e = grind (arith, nat_tests)
    by false e =
        let many : 65535 < length (file_bytes (sights p) d) / 512 = grind (arith, nat_tests) in
        let page = (each_file_has_its_end p d).before.each 65535 many in
        let low = page_numbers_are_words p d (suc 65535) page.at page.sector in
        absurd (omega (arith, low))

free_within : (is : List Item) → words_free is ≤ all_words is
free_within [] = omega arith
free_within (space n ∷ is) = let h = free_within is in omega (arith, h)
free_within (entry f name ∷ is) = omega arith

pub run_within : (is : List Item) → largest_run is ≤ all_words is
run_within [] = omega arith
run_within (i ∷ is) = let h = run_within is in let g = free_within (i ∷ is) in omega (arith, h, g)

-- ---- free words in a row
-- what is counted up to the greatest number of 32 bits
pub record HasRow (met : List SlotAt) (u : Runs) : Type 0 where
  pub row : u.row ≡ min (words_at_end (items_met met)) (2 ^ 32 - 1)
  pub largest : u.largest ≡ min (largest_run (items_met met)) (2 ^ 32 - 1)

row_counted : (i : Item) (row end : ℕ) → row ≡ min end (2 ^ 32 - 1) → min (row_words row i) (2 ^ 32 - 1) ≡ min (row_words end i) (2 ^ 32 - 1)
row_counted (space n) row end is = omega (arith, is)
row_counted (entry f name) row end is = refl

row_more : (met : List SlotAt) (u : Runs) (s : SlotAt) (v : Runs) → HasRow met u → MeetsRow u s v → HasRow (met ++ s ∷ []) v
row_more met u s v so_far step =
    let items = map_push (λ (x : SlotAt). x.item) met s in
    let end : words_at_end (items_met (met ++ s ∷ [])) ≡ row_words (words_at_end (items_met met)) s.item = ap words_at_end items ∙ fold_push row_words 0 (items_met met) s.item in
    let most : largest_run (items_met (met ++ s ∷ [])) ≡ max (largest_run (items_met met)) (row_words (words_at_end (items_met met)) s.item) = ap largest_run items ∙ most_words_go_on (items_met met) s.item in
    let row : v.row ≡ min (row_words (words_at_end (items_met met)) s.item) (2 ^ 32 - 1) = step.row ∙ row_counted s.item u.row (words_at_end (items_met met)) so_far.row in
    let before = so_far.largest in
    let now = step.largest in
    record {
      row = row ∙ ap (λ n. min n (2 ^ 32 - 1)) (sym end);
      largest = omega (arith, most, row, before, now);
    }

pub all_rows : (p : Pack) (d : Fid) (u v : Runs) → u.row ≡ 0 → u.largest ≡ 0 → FoldsTo MeetsRow u (dir_slots p d) v → v.largest ≡ largest_run (slots (dir_words p d))
all_rows p d u v none least folds =
    let all = chained_keeps MeetsRow HasRow row_more (dir_slots p d) u v (record { row = none; largest = least }) folds in
    let most = all.largest ∙ ap (λ is. min (largest_run is) (2 ^ 32 - 1)) (items_at (dir_words p d) 0 (slots (dir_words p d))) in
    let within = run_within (slots (dir_words p d)) in
    let words = slots_within (dir_words p d) in
    let few = few_words p d in
    omega (arith, most, within, words, few)

-- ---- all slots
pub record HasSlots (met : List SlotAt) (u : Slots) : Type 0 where
  pub items : items_of u.slots.items ≡ items_met met
  pub addresses : map address_of u.slots.items ≡ map (λ (s : SlotAt). s.address) met

slot_more : (met : List SlotAt) (u : Slots) (s : SlotAt) (v : Slots) → HasSlots met u → MeetsSlot u s v → HasSlots (met ++ s ∷ []) v
slot_more met u s v so_far step = record {
  items = step.items ∙ ap (λ l. l ++ s.item ∷ []) so_far.items ∙ sym (map_push (λ (x : SlotAt). x.item) met s);
  addresses = step.addresses ∙ ap (λ l. l ++ s.address ∷ []) so_far.addresses ∙ sym (map_push (λ (x : SlotAt). x.address) met s);
}

pub all_slots : (p : Pack) (d : Fid) (u v : Slots) → u.slots.items ≡ [] → FoldsTo MeetsSlot u (dir_slots p d) v → HasSlots (dir_slots p d) v
all_slots p d u v none folds = chained_keeps MeetsSlot HasSlots slot_more (dir_slots p d) u v (record { items = ap items_of none; addresses = ap (map address_of) none }) folds
