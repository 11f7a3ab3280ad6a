-- Small cases of the words that record writes leave.
use Rattle.std.proofs.Common.{◌≡◌, ℕ, List, [], ◌∷◌, ◌++◌, refl}
use Rattle.std.specs.Prelude.{codes, map, replicate, take}
use Rattle.pack_laws.specs.alto_words.specs.Fid.{directory_fid}
use Rattle.pack_laws.specs.alto_words.specs.Names.{is_stored_name}
use Rattle.pack_laws.specs.disk_records.specs.declared.records.Event.{Event}
use Rattle.pack_laws.specs.disk_records.specs.declared.records.Event.TheVariants.{Wrote, Shown}
use Rattle.pack_laws.specs.disk_records.specs.Addresses.{real_of}
use Rattle.pack_laws.specs.pack_model.specs.reading.Slots.{slots, slots_after, slot_at, is_entry}
use Rattle.pack_laws.specs.pack_model.specs.reading.Slots.Item.{space, entry}
use Rattle.pack_laws.specs.pack_model.specs.reading.SlotWords.{space_words}
use Rattle.pack_laws.specs.pack_model.specs.reading.Bytes.{put_at}
use Rattle.pack_laws.specs.pack_model.specs.operations.PageWords.{leader_value, titled_value, stamped_value, freed_value, entered_words, put_value, first_page_value, new_leader_value, widening_bytes, near, later}
use Rattle.pack_laws.specs.pack_model.specs.operations.Operations.{make_writes, grow_writes, cut_writes, drop_writes, enter_writes}
use Rattle.pack_laws.specs.pack_model.specs.operations.Commands.{Claim, claims_of, all_claimed, grown_claims, grown_label, grown_value, cut_label}
use Rattle.pack_laws.specs.pack_model.specs.sessions.Descriptor.{opened_value, serial_value}
use Rattle.pack_vectors.proofs.Shapes.{small}
use Rattle.pack_vectors.proofs.SmallPacks.{file_3, leader_a}

abbrev old_value : List ℕ
old_value = leader_value leader_a (replicate 10 7)

-- ---- leader pages
-- another name; another written date, and the last page's address, number and bytes; all else stays
titled : titled_value (codes "BB.") old_value ≡ leader_value (record leader_a { name = codes "BB." }) (replicate 10 7)
titled = refl

stamped : stamped_value 70000 6 1 5 old_value ≡ leader_value (record leader_a { written = 70000 }) (replicate 7 7 ++ 6 ∷ 1 ∷ 5 ∷ [])
stamped = refl

-- a new file's leader has the moment as each date, and its first page as its last
new : new_leader_value file_3 (codes "A.") 1000 6 ≡ leader_value leader_a (replicate 7 0 ++ 6 ∷ 1 ∷ 0 ∷ [])
new = refl

-- ---- directories
-- a new one has one free slot of 255 words, and no word more
new_slots : slots (take 255 (first_page_value (directory_fid 4))) ≡ space 255 ∷ []
unfolding slots_after slot_at
new_slots = refl

-- an entry in the place of a free slot, and that slot's other words; and then free again
abbrev with_entry : List ℕ
with_entry = put_at 0 (entered_words file_3 5 (codes "A.") 3) (space_words 11)

entry_put : slots with_entry ≡ entry file_3 (codes "A.") ∷ space 3 ∷ []
unfolding slots_after slot_at is_entry is_stored_name
entry_put = refl

entry_freed : slots (freed_value 0 8 with_entry) ≡ space 8 ∷ space 3 ∷ []
unfolding slots_after slot_at
entry_freed = refl

-- none left over: what follows stays
entry_fits : slots (put_at 0 (entered_words file_3 5 (codes "A.") 0) (space_words 8 ++ space_words 4)) ≡ entry file_3 (codes "A.") ∷ space 4 ∷ []
unfolding slots_after slot_at is_entry is_stored_name
entry_fits = refl

-- words from word 254 of a directory on: two lie in page 1, the others begin page 2
over_the_end : (near 254 (1 ∷ 2 ∷ 3 ∷ []) ≡ 1 ∷ 2 ∷ []) × (later 254 (1 ∷ 2 ∷ 3 ∷ []) ≡ 3 ∷ []) × (near 510 (1 ∷ 2 ∷ 3 ∷ []) ≡ 1 ∷ 2 ∷ [])
over_the_end = (refl, refl, refl)

-- ---- data pages
-- bytes in place, and words after them
bytes_put : put_value 1 (codes "BBB") (9 ∷ []) (16706 ∷ 17220 ∷ 17734 ∷ 1 ∷ []) ≡ 16706 ∷ 16962 ∷ 9 ∷ 1 ∷ []
bytes_put = refl

-- 688 bytes after page 1 in sector 6, on sectors 7 and 9: a full page and 176 bytes, each linked to its neighbours
grown : claims_of small file_3 2 6 (replicate 688 17) [] (7 ∷ 9 ∷ [])
    ≡ record { at = 7; label = 36864 ∷ 24576 ∷ 0 ∷ 512 ∷ 2 ∷ 1 ∷ 0 ∷ 3 ∷ []; value = replicate 256 4369 }
    ∷ record { at = 9; label = 65535 ∷ 28672 ∷ 0 ∷ 176 ∷ 3 ∷ 1 ∷ 0 ∷ 3 ∷ []; value = replicate 88 4369 ++ replicate 168 0 }
    ∷ []
unfolding real_of
grown = refl

grown_bytes : all_claimed (claims_of small file_3 2 6 (replicate 688 17) (5 ∷ []) (7 ∷ 9 ∷ [])) ≡ (7, replicate 512 17) ∷ (9, replicate 176 17) ∷ []
unfolding real_of
grown_bytes = refl

-- 100 bytes after 500 of a file whose last page, page 1, is in sector 6: twelve in place, the others in a new page; the label has
-- its previous link, a blank word of 0, 512 bytes, and a next link to the new page
abbrev old_label : List ℕ
old_label = 65535 ∷ 20480 ∷ 9 ∷ 500 ∷ 1 ∷ 1 ∷ 0 ∷ 3 ∷ []

grown_page :
    (grown_label small 500 (replicate 100 17) (7 ∷ []) old_label ≡ 28672 ∷ 20480 ∷ 0 ∷ 512 ∷ 1 ∷ 1 ∷ 0 ∷ 3 ∷ [])
    × (grown_value 500 (replicate 100 17) [] (7 ∷ []) (replicate 256 1) ≡ replicate 250 1 ++ replicate 6 4369)
    × (grown_claims small file_3 500 6 (replicate 100 17) [] (7 ∷ []) ≡ record { at = 7; label = 65535 ∷ 24576 ∷ 0 ∷ 88 ∷ 2 ∷ 1 ∷ 0 ∷ 3 ∷ []; value = replicate 44 4369 ++ replicate 212 0 } ∷ [])
unfolding real_of
grown_page = (refl, refl, refl)

-- bytes that fit: no new page, no next link, and what follows them stays
grown_in_place :
    (grown_label small 500 (replicate 10 17) [] old_label ≡ 65535 ∷ 20480 ∷ 0 ∷ 510 ∷ 1 ∷ 1 ∷ 0 ∷ 3 ∷ [])
    × (grown_value 500 (replicate 10 17) [] [] (replicate 256 1) ≡ replicate 250 1 ++ replicate 5 4369 ++ 1 ∷ [])
    × (grown_claims small file_3 500 6 (replicate 10 17) [] [] ≡ [])
grown_in_place = (refl, refl, refl)

-- a page that comes to be full, and a directory that is widened, whose last page has 510 bytes: its slot of 256 words begins there
grown_full :
    (grown_claims small file_3 500 6 (replicate 12 17) [] (7 ∷ []) ≡ record { at = 7; label = 65535 ∷ 24576 ∷ 0 ∷ 0 ∷ 2 ∷ 1 ∷ 0 ∷ 3 ∷ []; value = replicate 256 0 } ∷ [])
    × (grown_value 510 widening_bytes [] (7 ∷ []) (replicate 256 1) ≡ replicate 255 1 ++ 256 ∷ [])
    × (grown_claims small (directory_fid 4) 510 6 widening_bytes [] (7 ∷ []) ≡ record { at = 7; label = 65535 ∷ 24576 ∷ 0 ∷ 510 ∷ 2 ∷ 1 ∷ 32768 ∷ 4 ∷ []; value = replicate 256 0 } ∷ [])
unfolding real_of
grown_full = (refl, refl, refl)

-- a page that becomes the last one has no next link, and its bytes up to the end
cut_page : (cut_label 600 (28672 ∷ 20480 ∷ 9 ∷ 512 ∷ 2 ∷ 1 ∷ 0 ∷ 3 ∷ []) ≡ 65535 ∷ 20480 ∷ 0 ∷ 88 ∷ 2 ∷ 1 ∷ 0 ∷ 3 ∷ [])
    × (cut_label 512 (28672 ∷ 20480 ∷ 9 ∷ 512 ∷ 2 ∷ 1 ∷ 0 ∷ 3 ∷ []) ≡ 65535 ∷ 20480 ∷ 0 ∷ 0 ∷ 2 ∷ 1 ∷ 0 ∷ 3 ∷ [])
cut_page = (refl, refl)

-- ---- DiskDescriptor
descriptor_changed :
    (opened_value (1 ∷ 2 ∷ 2 ∷ 12 ∷ 0 ∷ 2 ∷ 1 ∷ 43 ∷ []) ≡ 1 ∷ 2 ∷ 2 ∷ 12 ∷ 0 ∷ 2 ∷ 2 ∷ 43 ∷ [])
    × (serial_value 65539 (1 ∷ 2 ∷ 2 ∷ 12 ∷ 0 ∷ 2 ∷ 1 ∷ 43 ∷ []) ≡ 1 ∷ 2 ∷ 2 ∷ 12 ∷ 1 ∷ 3 ∷ 1 ∷ 43 ∷ [])
descriptor_changed = (refl, refl)

-- ---- the order of record writes, as sectors and parts: 1 is a label, 2 a value
abbrev place_of : Event → ℕ × ℕ
place_of (Wrote at part words) = (at, part)
place_of (Shown byte) = (0, 0)

abbrev places_of : List Event → List (ℕ × ℕ)
places_of = map place_of

abbrev some_claim : ℕ → Claim
some_claim at = record { at = at; label = []; value = [] }

-- make takes page 1 and then the leader, whose label is the fifth; grow takes the new pages, rising, and then writes the old last one's
-- value, label and value; widening does the same
orders_of_claims :
    (places_of (make_writes (some_claim 6) (some_claim 5)) ≡ (6, 2) ∷ (6, 1) ∷ (6, 2) ∷ (5, 2) ∷ (5, 1) ∷ (5, 2) ∷ [])
    × (places_of (grow_writes (some_claim 7 ∷ some_claim 9 ∷ []) 6 [] []) ≡ (7, 2) ∷ (7, 1) ∷ (7, 2) ∷ (9, 2) ∷ (9, 1) ∷ (9, 2) ∷ (6, 2) ∷ (6, 1) ∷ (6, 2) ∷ [])
orders_of_claims = (refl, refl)

-- cut writes the label of the page that becomes the last, and then releases the later ones, rising; drop releases the leader first;
-- an entering writes its own page last
orders_of_others :
    (places_of (cut_writes 6 [] [] (7 ∷ 9 ∷ [])) ≡ (6, 1) ∷ (6, 2) ∷ (7, 1) ∷ (7, 2) ∷ (9, 1) ∷ (9, 2) ∷ [])
    × (places_of (drop_writes 5 (6 ∷ 7 ∷ []) 2 []) ≡ (5, 1) ∷ (5, 2) ∷ (6, 1) ∷ (6, 2) ∷ (7, 1) ∷ (7, 2) ∷ (2, 2) ∷ [])
    × (places_of (enter_writes ((2, []) ∷ (8, []) ∷ []) 2 []) ≡ (2, 2) ∷ (8, 2) ∷ (2, 2) ∷ [])
orders_of_others = (refl, refl, refl)
