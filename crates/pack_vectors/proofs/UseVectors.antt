-- Small cases of sectors in use, and of pages that are lacking.
use Rattle.std.proofs.Common.{◌≡◌, true, List, [], ◌∷◌, refl}
use Rattle.std.specs.Prelude.{codes, replicate}
use Rattle.pack_laws.specs.alto_words.specs.Fid.{ordinary_fid, disk_descriptor}
use Rattle.pack_laws.specs.pack_model.specs.reading.Sights.{Sight}
use Rattle.pack_laws.specs.pack_model.specs.reading.Sights.Sight.{hidden, free, stray, leads, holds}
use Rattle.pack_laws.specs.pack_model.specs.reading.Files.{first, joined, most_pages, file_bytes}
use Rattle.pack_laws.specs.pack_model.specs.reading.Slots.{slots_after, slot_at}
use Rattle.pack_laws.specs.pack_model.specs.reading.Slots.Item.{space}
use Rattle.pack_laws.specs.pack_model.specs.reading.Bodies.Body.{data_of, items_of}
use Rattle.pack_laws.specs.pack_model.specs.reading.Model.{good_sectors}
use Rattle.pack_laws.specs.pack_model.specs.states.InUse.{end_of, last_page, available, bad_sectors}
use Rattle.pack_laws.specs.pack_model.specs.scavenger.Needed.{file_lacks, root_lacks, descriptor_lacks}
use Rattle.pack_laws.proofs.Uses.{available_is}
use Rattle.pack_vectors.proofs.Shapes.{model_31, small}
use Rattle.pack_vectors.proofs.SmallPacks.{dir_4, file_3, leader_a}

-- the leader and both pages are in use; a second copy, a page after the last one, a page of a file that doesn't live, a free
-- sector and a stray label are available
abbrev some : List Sight
some = hidden ∷ leads file_3 true leader_a ∷ holds file_3 0 (replicate 512 7) ∷ holds file_3 1 (codes "B") ∷ holds file_3 1 (codes "C") ∷ holds file_3 2 (codes "D") ∷ holds (ordinary_fid 4) 0 [] ∷ free ∷ stray ∷ hidden ∷ []

five_available : available small some ≡ 5
unfolding file_bytes joined most_pages first
five_available = available_is small some

abbrev short_dir : List Sight
short_dir = hidden ∷ leads dir_4 true leader_a ∷ holds dir_4 0 (0 ∷ 2 ∷ 0 ∷ 0 ∷ replicate 508 0) ∷ holds dir_4 1 (codes "B") ∷ []

-- a directory ends with its slots: these are one of 2 words, and so page 1 is its last
short_available : available small short_dir ≡ 1
unfolding file_bytes joined most_pages first slots_after slot_at
short_available = available_is small short_dir

-- ---- DiskDescriptor ends by the shape, whatever its bytes are: with its page 1 on 48 sectors, with its page 2 on model 31
abbrev three_pages : List Sight
three_pages = hidden ∷ leads disk_descriptor true leader_a ∷ holds disk_descriptor 0 [] ∷ holds disk_descriptor 1 [] ∷ holds disk_descriptor 2 [] ∷ []

ends :
    (end_of small disk_descriptor (data_of []) ≡ 38)
    × (end_of model_31 disk_descriptor (data_of (replicate 2000 7)) ≡ 642)
    × (last_page model_31 disk_descriptor (data_of []) ≡ 2)
    × (end_of small file_3 (data_of (replicate 600 7)) ≡ 600)
    × (end_of small dir_4 (items_of (space 255 ∷ space 2 ∷ [])) ≡ 514)
ends = (refl, refl, refl, refl, refl)

two_available : available small three_pages ≡ 2
unfolding file_bytes joined most_pages first
two_available = available_is small three_pages

one_available : available model_31 three_pages ≡ 1
unfolding file_bytes joined most_pages first
one_available = available_is model_31 three_pages

-- a file whose last page is missing lacks it, and no page in the middle; DiskDescriptor lacks each of its data pages, of which there
-- are two on model 31, also those before one that is there; sector 0 isn't bad
lacking_pages :
    (file_lacks small some file_3 (data_of (replicate 513 7)) ≡ 0)
    × (file_lacks small (holds file_3 0 (replicate 512 7) ∷ []) file_3 (data_of (replicate 512 7)) ≡ 1)
    × (file_lacks small (holds file_3 1 (codes "B") ∷ []) file_3 (data_of []) ≡ 1)
    × (file_lacks small some dir_4 (items_of (space 255 ∷ [])) ≡ 1)
    × (file_lacks small some disk_descriptor (data_of []) ≡ 1)
    × (file_lacks model_31 some disk_descriptor (data_of []) ≡ 2)
    × (file_lacks model_31 (holds disk_descriptor 1 [] ∷ []) disk_descriptor (data_of []) ≡ 1)
    × (file_lacks model_31 some (ordinary_fid 4) (data_of (replicate 600 7)) ≡ 1)
    × (file_lacks small (holds file_3 2 (codes "C") ∷ []) file_3 (data_of (replicate 1100 7)) ≡ 0)
    × (good_sectors (hidden ∷ hidden ∷ free ∷ stray ∷ []) ≡ 2)
    × (bad_sectors (hidden ∷ hidden ∷ free ∷ stray ∷ []) ≡ 1)
    × (root_lacks some ≡ 2)
    × (descriptor_lacks small some ≡ 2)
    × (descriptor_lacks model_31 some ≡ 3)
    × (descriptor_lacks model_31 (holds disk_descriptor 0 [] ∷ holds disk_descriptor 1 [] ∷ []) ≡ 3)
    × (descriptor_lacks small three_pages ≡ 0)
unfolding first
lacking_pages = (refl, refl, refl, refl, refl, refl, refl, refl, refl, refl, refl, refl, refl, refl, refl, refl)
