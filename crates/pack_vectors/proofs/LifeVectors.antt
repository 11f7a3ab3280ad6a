-- All record writes of a make and of a drop, and what they leave of small packs.
use Rattle.std.proofs.Common.{◌≡◌, ℕ, List, [], ◌∷◌, ◌++◌, refl}
use Rattle.std.specs.Prelude.{codes, length, replicate}
use Rattle.pack_laws.specs.alto_words.specs.declared.fid.Fid.{Fid}
use Rattle.pack_laws.specs.alto_words.specs.Fid.{sys_dir, disk_descriptor, directory_fid}
use Rattle.pack_laws.specs.disk_records.specs.declared.shape.Shape.{Shape}
use Rattle.pack_laws.specs.disk_records.specs.declared.records.Event.TheVariants.{Wrote}
use Rattle.pack_laws.specs.disk_records.specs.Addresses.{real_of}
use Rattle.pack_laws.specs.disk_records.specs.Packs.{Pack, sector_at, after, crash}
use Rattle.pack_laws.specs.pack_model.specs.reading.Bytes.{put_at}
use Rattle.pack_laws.specs.pack_model.specs.reading.SlotWords.{entry_words, space_words}
use Rattle.pack_laws.specs.pack_model.specs.reading.Namings.{sys_dir_name, descriptor_name}
use Rattle.pack_laws.specs.pack_model.specs.operations.PageWords.{freed_value}
use Rattle.pack_laws.specs.pack_model.specs.operations.Commands.{Claim, claims_writes, first_page_claim, leader_claim, make_claims}
use Rattle.pack_laws.specs.pack_model.specs.operations.Operations.{make_writes, drop_writes, drop_moves}
use Rattle.pack_laws.specs.pack_model.specs.operations.Committing.{units}
use Rattle.pack_laws.specs.pack_model.specs.operations.Step.Operation.{drop_file}
use Rattle.pack_vectors.proofs.Shapes.{small}
use Rattle.pack_vectors.proofs.SmallPacks.{pack_of, system, its_words, words_a, made_6, made_7, appended_9, file_3}

-- ---- make
-- page 1 first, with no bytes, and then the leader; each has the other one's address in its label: the leader's next link, the
-- page's previous one; the leader's last words are the address, the number and the bytes of page 1
abbrev claims_a : List Claim
claims_a = make_claims small file_3 (codes "A.") 1000 5 6

claims_of_a_file : claims_a
    ≡ record { at = 6; label = 65535 ∷ 20480 ∷ 0 ∷ 0 ∷ 1 ∷ 1 ∷ 0 ∷ 3 ∷ []; value = replicate 256 0 }
    ∷ record { at = 5; label = 24576 ∷ 65535 ∷ 0 ∷ 512 ∷ 0 ∷ 1 ∷ 0 ∷ 3 ∷ []; value = 0 ∷ 1000 ∷ 0 ∷ 1000 ∷ 0 ∷ 1000 ∷ 577 ∷ 11776 ∷ (replicate 245 0 ++ 6 ∷ 1 ∷ 0 ∷ []) }
    ∷ []
unfolding real_of
claims_of_a_file = refl

-- page 1 of a directory has 510 bytes, a free slot of 255 words; its leader is in sector 7 and its page in sector 9
claims_of_a_directory : make_claims small (directory_fid 4) (codes "D.") 70000 7 9
    ≡ record { at = 9; label = 65535 ∷ 28672 ∷ 0 ∷ 510 ∷ 1 ∷ 1 ∷ 32768 ∷ 4 ∷ []; value = 255 ∷ replicate 255 0 }
    ∷ record { at = 7; label = 36864 ∷ 65535 ∷ 0 ∷ 512 ∷ 0 ∷ 1 ∷ 32768 ∷ 4 ∷ []; value = 1 ∷ 4464 ∷ 1 ∷ 4464 ∷ 1 ∷ 4464 ∷ 580 ∷ 11776 ∷ (replicate 245 0 ++ 9 ∷ 1 ∷ 510 ∷ []) }
    ∷ []
unfolding real_of
claims_of_a_directory = refl

-- their record writes are those of the make
writes_of_claims : (shape : Shape) (f : Fid) (name : List ℕ) (moment leader_at page_at : ℕ)
    → claims_writes (make_claims shape f name moment leader_at page_at) ≡ make_writes (first_page_claim shape f leader_at page_at) (leader_claim shape f name moment leader_at page_at)
writes_of_claims shape f name moment leader_at page_at = refl

-- before the fifth the file isn't there, with it it is, and the sixth is an equal value
abbrev unmade : Pack
unmade = pack_of 43 (system (space_words 231) (its_words 3 2) [])

makes : (crash unmade (claims_writes claims_a) 4 ≡ made_6) × (crash unmade (claims_writes claims_a) 5 ≡ made_7) × (after unmade (claims_writes claims_a) ≡ made_7)
unfolding real_of
makes = (refl, refl, refl)

-- ---- drop
-- the leader, in sector 5, and then the data pages of 1,200 bytes, in sectors 6 to 8; last the value of SysDir's page, in sector 2, in
-- which the slot from word 24 on is a free one: its first word alone is another
abbrev freed : List ℕ
freed = freed_value 24 8 (sector_at appended_9 2).value

abbrev freed_words : List ℕ
freed_words = entry_words sys_dir 1 sys_dir_name ++ entry_words disk_descriptor 3 descriptor_name ++ 8 ∷ 0 ∷ 3 ∷ 1 ∷ 0 ∷ 5 ∷ 577 ∷ 11776 ∷ 223 ∷ replicate 223 0

drop_in_order : drop_writes 5 (6 ∷ 7 ∷ 8 ∷ []) 2 freed
    ≡ Wrote 5 1 (replicate 8 65535) ∷ Wrote 5 2 (replicate 256 65535)
    ∷ Wrote 6 1 (replicate 8 65535) ∷ Wrote 6 2 (replicate 256 65535)
    ∷ Wrote 7 1 (replicate 8 65535) ∷ Wrote 7 2 (replicate 256 65535)
    ∷ Wrote 8 1 (replicate 8 65535) ∷ Wrote 8 2 (replicate 256 65535)
    ∷ Wrote 2 2 freed_words
    ∷ []
unfolding real_of
drop_in_order = refl

-- as many as the moves; they leave a pack whose sectors after the system files are free; before the last one the slot is still there
drop_leaves :
    (length (drop_writes 5 (6 ∷ 7 ∷ 8 ∷ []) 2 freed) ≡ length (drop_moves (drop_file file_3) (units 3)))
    × (crash appended_9 (drop_writes 5 (6 ∷ 7 ∷ 8 ∷ []) 2 freed) 8 ≡ pack_of 43 (system words_a (its_words 3 2) []))
    × (after appended_9 (drop_writes 5 (6 ∷ 7 ∷ 8 ∷ []) 2 freed) ≡ pack_of 43 (system (put_at 0 (8 ∷ []) words_a) (its_words 3 2) []))
unfolding real_of
drop_leaves = (refl, refl, refl)
