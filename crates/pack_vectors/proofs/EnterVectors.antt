-- The values that enterings write, in order, with all their words.
use Rattle.std.proofs.Common.{◌≡◌, ℕ, zero, suc, ◌+◌, List, [], ◌∷◌, ◌++◌, Some, refl, ap}
use Rattle.std.specs.Prelude.{codes, length, replicate, take}
use Rattle.std.specs.Option.{option_map}
use Rattle.pack_laws.specs.alto_words.specs.Fid.{sys_dir, disk_descriptor, ordinary_fid}
use Rattle.pack_laws.specs.alto_words.specs.Names.{is_stored_name}
use Rattle.pack_laws.specs.disk_records.specs.declared.records.Event.TheVariants.{Wrote}
use Rattle.pack_laws.specs.disk_records.specs.Addresses.{real_of}
use Rattle.pack_laws.specs.disk_records.specs.Packs.{Pack, sector_at, crash}
use Rattle.pack_laws.specs.pack_model.specs.reading.Slots.{Item, slots, slots_after, slot_at, is_entry}
use Rattle.pack_laws.specs.pack_model.specs.reading.Slots.Item.{space, entry}
use Rattle.pack_laws.specs.pack_model.specs.reading.SlotWords.{entry_words, space_words}
use Rattle.pack_laws.specs.pack_model.specs.reading.Namings.{sys_dir_name, descriptor_name}
use Rattle.pack_laws.specs.pack_model.specs.operations.Rooms.{find_room}
use Rattle.pack_laws.specs.pack_model.specs.operations.PageWords.{entered_words}
use Rattle.pack_laws.specs.pack_model.specs.operations.Commands.{values_writes}
use Rattle.pack_laws.specs.pack_model.specs.operations.Committing.{values_before}
use Rattle.pack_laws.specs.pack_model.specs.operations.Operations.{enter_writes}
use Rattle.pack_laws.specs.pack_model.specs.operations.Entering.{EntryRoom, found_room, values_first, entry_value, entered_values}
use Rattle.pack_laws.specs.pack_model.specs.sessions.Format.{Written}
use Rattle.pack_vectors.proofs.SmallPacks.{pack_of, system, root_words, its_words, file_in, page_in}

-- ---- a SysDir that was widened
-- Eight files, whose names are 38 letters a, 38 letters b and so on, have their entries of 26 words after the system files'; 23 words
-- are left in page 1, and the slot of 256 words begins with its last word. Page 2 is in sector 21.
abbrev letters : ℕ → List ℕ
letters c = replicate 38 c ++ codes "."

abbrev eight_words : ℕ → ℕ → ℕ → ℕ → List ℕ
eight_words zero serial at c = []
eight_words (suc n) serial at c = entry_words (ordinary_fid serial) at (letters c) ++ eight_words n (suc serial) (at + 2) (suc c)

abbrev eight_files : ℕ → ℕ → ℕ → ℕ → List Written
eight_files zero serial at c = []
eight_files (suc n) serial at c = file_in at (ordinary_fid serial) (letters c) [] ++ eight_files n (suc serial) (at + 2) (suc c)

abbrev eight_items : ℕ → ℕ → ℕ → List Item
eight_items zero serial c = []
eight_items (suc n) serial c = entry (ordinary_fid serial) (letters c) ∷ eight_items n (suc serial) (suc c)

-- the words of page 1 before its last 24; the pack with these after them
abbrev front : List ℕ
front = root_words (eight_words 8 3 5 97)

abbrev crowd : List ℕ → Pack
crowd words = pack_of 26 (system (eight_words 8 3 5 97 ++ words) (its_words 10 2) (eight_files 8 3 5 97 ++ page_in 2 sys_dir 2 (replicate 510 0) ∷ []))

abbrev widened : Pack
widened = crowd (space_words 23 ++ 256 ∷ [])

abbrev items_with : List Item → List Item
items_with is = entry sys_dir sys_dir_name ∷ entry disk_descriptor descriptor_name ∷ (eight_items 8 3 97 ++ is)

-- an entry of 26 words for a ninth file finds its room there: 23 words, and the 256 after them
abbrev new_words : List ℕ
new_words = entered_words (ordinary_fid 11) 22 (letters 105) 253

room_found : find_room 26 (items_with (space 23 ∷ space 256 ∷ [])) ≡ Some (record { first = 10; place = 232; total = 279 })
room_found = refl

abbrev two_slots : EntryRoom
two_slots = record { place = 232; first_words = 23; total = 279; at = 2; next_at = 21 }

-- it begins with the slot of index 10, which has 23 words; its pages are in sectors 2 and 21
room_of_entry : option_map (λ r. found_room r (items_with (space 23 ∷ space 256 ∷ [])) 2 21) (find_room 26 (items_with (space 23 ∷ space 256 ∷ []))) ≡ Some two_slots
room_of_entry = refl

-- the entry's words that lie in page 1, and those that lie in page 2, with the number of words left over
abbrev near_words : List ℕ
near_words = 1050 ∷ 0 ∷ 11 ∷ 1 ∷ 0 ∷ 22 ∷ 10089 ∷ replicate 17 26985

abbrev later_words : List ℕ
later_words = 26985 ∷ 26926 ∷ 253 ∷ []

-- three values: both slots are made one; the words that lie over the end of page 1 come into page 2; and then page 1 gets its own
three_values : entered_values widened two_slots new_words
    ≡ (2, front ++ 279 ∷ (replicate 22 0 ++ 256 ∷ []))
    ∷ (21, later_words ++ replicate 253 0)
    ∷ (2, front ++ near_words)
    ∷ []
unfolding real_of
three_values = refl

-- the slots at each crash: one free slot, the same with other words inside it, and last the entry
abbrev slots_at_cut : ℕ → List Item
slots_at_cut k =
    let q : Pack = crash widened (values_writes (entered_values widened two_slots new_words)) k in
    slots (take 511 ((sector_at q 2).value ++ (sector_at q 21).value))

slots_between :
    (slots_at_cut 0 ≡ items_with (space 23 ∷ space 256 ∷ []))
    × (slots_at_cut 1 ≡ items_with (space 279 ∷ []))
    × (slots_at_cut 2 ≡ items_with (space 279 ∷ []))
    × (slots_at_cut 3 ≡ items_with (entry (ordinary_fid 11) (letters 105) ∷ space 253 ∷ []))
unfolding real_of slots_after slot_at is_entry is_stored_name
slots_between = (refl, refl, refl, refl)

-- ---- other rooms
-- one slot of 279 words there isn't joined
abbrev merged : Pack
merged = crowd (279 ∷ (replicate 22 0 ++ 256 ∷ []))

abbrev one_slot : EntryRoom
one_slot = record { place = 232; first_words = 279; total = 279; at = 2; next_at = 21 }

over_alone : entered_values merged one_slot new_words ≡ (21, later_words ++ replicate 253 0) ∷ (2, front ++ near_words) ∷ []
unfolding real_of
over_alone = refl

-- an entry of 24 words there ends with page 1; with words left over, their number alone lies in page 2
abbrev name_35 : List ℕ
name_35 = replicate 34 105 ++ codes "."

abbrev words_24 : ℕ → List ℕ
words_24 left = entered_words (ordinary_fid 11) 22 name_35 left

abbrev near_24 : List ℕ
near_24 = 1048 ∷ 0 ∷ 11 ∷ 1 ∷ 0 ∷ 22 ∷ 9065 ∷ (replicate 16 26985 ++ 26926 ∷ [])

abbrev full_slot : EntryRoom
full_slot = record { place = 232; first_words = 24; total = 24; at = 2; next_at = 21 }

at_the_end :
    (entered_values (crowd (space_words 24)) full_slot (words_24 0) ≡ (2, front ++ near_24) ∷ [])
    × (entered_values merged one_slot (words_24 255) ≡ (21, 255 ∷ replicate 255 0) ∷ (2, front ++ near_24) ∷ [])
unfolding real_of
at_the_end = (refl, refl)

-- SysDir with two free slots alone: an entry of 26 words takes both, one of 8 words the first; words left over follow it, where there
-- are some
abbrev two_free : ℕ → ℕ → Pack
two_free m n = pack_of 43 (system (space_words m ++ space_words n) (its_words 2 2) [])

abbrev room_at_24 : ℕ → ℕ → EntryRoom
room_at_24 first total = record { place = 24; first_words = first; total = total; at = 2; next_at = 0 }

abbrev long_words : List ℕ
long_words = entered_words (ordinary_fid 3) 5 (letters 105) 205

abbrev short_words : ℕ → List ℕ
short_words left = entered_words (ordinary_fid 3) 5 (codes "A.") left

join_alone : entered_values (two_free 10 221) (room_at_24 10 231) long_words
    ≡ (2, root_words (231 ∷ (replicate 9 0 ++ 221 ∷ replicate 221 0)))
    ∷ (2, root_words (1050 ∷ 0 ∷ 3 ∷ 1 ∷ 0 ∷ 5 ∷ 10089 ∷ (replicate 18 26985 ++ 26926 ∷ 205 ∷ replicate 205 0)))
    ∷ []
unfolding real_of
join_alone = refl

own_alone :
    (entered_values (two_free 10 221) (room_at_24 10 10) (short_words 2) ≡ (2, root_words (1032 ∷ 0 ∷ 3 ∷ 1 ∷ 0 ∷ 5 ∷ 577 ∷ 11776 ∷ 2 ∷ 0 ∷ 221 ∷ replicate 221 0)) ∷ [])
    × (entered_values (two_free 8 223) (room_at_24 8 8) (short_words 0) ≡ (2, root_words (1032 ∷ 0 ∷ 3 ∷ 1 ∷ 0 ∷ 5 ∷ 577 ∷ 11776 ∷ 223 ∷ replicate 223 0)) ∷ [])
unfolding real_of
own_alone = (refl, refl)

-- ---- how many there are
-- one more than come before the one that commits, which the model says by the slots
abbrev number : Pack → EntryRoom → List ℕ → ℕ
number p r words = length (entered_values p r words)

abbrev before : ℕ → List Item → ℕ
before n is = values_before is n (find_room n is)

abbrev root_items : List Item → List Item
root_items is = entry sys_dir sys_dir_name ∷ entry disk_descriptor descriptor_name ∷ is

values_counted :
    (before 26 (items_with (space 23 ∷ space 256 ∷ [])) + 1 ≡ number widened two_slots new_words)
    × (before 26 (items_with (space 279 ∷ [])) + 1 ≡ number merged one_slot new_words)
    × (before 24 (items_with (space 24 ∷ [])) + 1 ≡ number (crowd (space_words 24)) full_slot (words_24 0))
    × (before 24 (items_with (space 279 ∷ [])) + 1 ≡ number merged one_slot (words_24 255))
    × (before 26 (root_items (space 10 ∷ space 221 ∷ [])) + 1 ≡ number (two_free 10 221) (room_at_24 10 231) long_words)
    × (before 8 (root_items (space 10 ∷ space 221 ∷ [])) + 1 ≡ number (two_free 10 221) (room_at_24 10 10) (short_words 2))
    × (before 8 (root_items (space 8 ∷ space 223 ∷ [])) + 1 ≡ number (two_free 8 223) (room_at_24 8 8) (short_words 0))
unfolding real_of
values_counted = (refl, refl, refl, refl, refl, refl, refl)

-- their record writes are those of the entering, on any pack
values_append : (vs ws : List (ℕ × List ℕ)) → values_writes (vs ++ ws) ≡ values_writes vs ++ values_writes ws
values_append [] ws = refl
values_append (v ∷ vs) ws = ap (λ events. Wrote v.0 2 v.1 ∷ events) (values_append vs ws)

writes_of_values : (p : Pack) (r : EntryRoom) (words : List ℕ) → values_writes (entered_values p r words) ≡ enter_writes (values_first p r words) r.at (entry_value p r words)
writes_of_values p r words = values_append (values_first p r words) ((r.at, entry_value p r words) ∷ [])
