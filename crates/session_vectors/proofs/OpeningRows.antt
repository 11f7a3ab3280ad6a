-- Rows of packs that open, and of packs that don't: the first test that fails, and what is shown then.
use Rattle.std.proofs.Common.{◌≡◌, ℕ, List, [], ◌∷◌, ◌++◌, Some, None, refl}
use Rattle.std.specs.Prelude.{codes}
use Rattle.std.specs.Fmt.{digits}
use Rattle.laws_format.specs.alto_words.specs.Fid.{sys_dir, disk_descriptor, ordinary_fid}
use Rattle.laws_format.specs.alto_words.specs.Names.{is_stored_name}
use Rattle.laws_format.specs.disk_records.specs.Addresses.{real_of}
use Rattle.laws_format.specs.disk_records.specs.Commands.{ones}
use Rattle.laws_format.specs.disk_records.specs.Labels.{in_range, is_free}
use Rattle.laws_format.specs.disk_records.specs.Packs.{Pack}
use Rattle.laws_format.specs.pack_model.specs.reading.Bytes.{bytes_of, put_at}
use Rattle.laws_format.specs.pack_model.specs.reading.Files.{first, joined, most_pages, file_bytes}
use Rattle.laws_format.specs.pack_model.specs.reading.Leaders.{leader_of, leader_name, is_readable}
use Rattle.laws_format.specs.pack_model.specs.reading.Namings.{sys_dir_name, descriptor_name}
use Rattle.laws_format.specs.pack_model.specs.reading.Sights.{sight, sights_from}
use Rattle.laws_format.specs.pack_model.specs.reading.SlotWords.{entry_words, space_words}
use Rattle.laws_format.specs.pack_model.specs.reading.Slots.{is_entry, slot_at, slots_after}
use Rattle.session_model.specs.Opening.{unready, unready_text}
use Rattle.session_model.specs.Opening.Unready.{no_root, no_descriptor, wrong_length, bad_descriptor, not_clean}
use Rattle.pack_vectors.proofs.SmallPacks.{described_by_words, its_words, root_header, root_label, pack_of, file_in}

-- ---- a pack with a file, DiskDescriptor with the last serial 3, and this mark
abbrev marked : ℕ → Pack
marked mark = described_by_words (its_words 3 mark)

opens : unready (marked 1) ≡ None
unfolding sights_from sight real_of in_range is_free leader_of leader_name is_readable is_stored_name file_bytes joined most_pages first slots_after slot_at is_entry
opens = refl

-- a session that didn't end left the mark open; any other word isn't the clean mark either
left_open : unready (marked 2) ≡ Some (not_clean 2)
unfolding sights_from sight real_of in_range is_free leader_of leader_name is_readable is_stored_name file_bytes joined most_pages first slots_after slot_at is_entry
left_open = refl

no_mark : unready (marked 0) ≡ Some (not_clean 0)
unfolding sights_from sight real_of in_range is_free leader_of leader_name is_readable is_stored_name file_bytes joined most_pages first slots_after slot_at is_entry
no_mark = refl

-- ---- one word of DiskDescriptor says another shape; its words are looked at before its mark, and the lowest is told
abbrev with_word : ℕ → ℕ → ℕ → Pack
with_word n word mark = described_by_words (put_at n (word ∷ []) (its_words 3 mark))

two_drives : unready (with_word 0 2 2) ≡ Some (bad_descriptor 0 2)
unfolding sights_from sight real_of in_range is_free leader_of leader_name is_readable is_stored_name file_bytes joined most_pages first slots_after slot_at is_entry
two_drives = refl

other_map : unready (with_word 8 65535 1) ≡ Some (bad_descriptor 8 65535)
unfolding sights_from sight real_of in_range is_free leader_of leader_name is_readable is_stored_name file_bytes joined most_pages first slots_after slot_at is_entry
other_map = refl

lowest_word : unready (described_by_words (put_at 2 (3 ∷ 0 ∷ []) (its_words 3 1))) ≡ Some (bad_descriptor 2 3)
unfolding sights_from sight real_of in_range is_free leader_of leader_name is_readable is_stored_name file_bytes joined most_pages first slots_after slot_at is_entry
lowest_word = refl

-- a word of the map is a hint, and so is the number of free sectors
other_hints : unready (described_by_words (put_at 16 (7 ∷ []) (put_at 7 (9 ∷ []) (its_words 3 1)))) ≡ None
unfolding sights_from sight real_of in_range is_free leader_of leader_name is_readable is_stored_name file_bytes joined most_pages first slots_after slot_at is_entry
other_hints = refl

-- ---- its length is looked at before its words: 38 bytes among 48 sectors
longer : unready (described_by_words (put_at 0 (2 ∷ []) (its_words 3 1) ++ 0 ∷ [])) ≡ Some (wrong_length 40)
unfolding sights_from sight real_of in_range is_free leader_of leader_name is_readable is_stored_name file_bytes joined most_pages first slots_after slot_at is_entry
longer = refl

empty : unready (described_by_words []) ≡ Some (wrong_length 0)
unfolding sights_from sight real_of in_range is_free leader_of leader_name is_readable is_stored_name file_bytes joined most_pages first slots_after slot_at is_entry
empty = refl

-- ---- SysDir has no entry of that name, or another file has it
abbrev rooted : List ℕ → Pack
rooted words = pack_of 41 (file_in 1 sys_dir sys_dir_name (bytes_of words) ++ file_in 3 disk_descriptor descriptor_name (bytes_of (its_words 3 1)) ++ file_in 5 (ordinary_fid 3) (codes "A.") [])

no_entry : unready (rooted (entry_words sys_dir 1 sys_dir_name ++ space_words 246)) ≡ Some no_descriptor
unfolding sights_from sight real_of in_range is_free leader_of leader_name is_readable is_stored_name file_bytes joined most_pages first slots_after slot_at is_entry
no_entry = refl

other_file : unready (rooted (entry_words sys_dir 1 sys_dir_name ++ entry_words (ordinary_fid 3) 5 descriptor_name ++ entry_words disk_descriptor 3 descriptor_name ++ space_words 218)) ≡ Some no_descriptor
unfolding sights_from sight real_of in_range is_free leader_of leader_name is_readable is_stored_name file_bytes joined most_pages first slots_after slot_at is_entry
other_file = refl

-- ---- sector 1 doesn't bear SysDir's leader: it is free, or its header is another
free_root : unready (root_label (ones 8) (marked 1)) ≡ Some (no_root (Some (ones 8)))
unfolding sights_from sight real_of in_range is_free leader_of leader_name is_readable is_stored_name file_bytes joined most_pages first slots_after slot_at is_entry
free_root = refl

moved_root : unready (root_header (1 ∷ 65535 ∷ []) (marked 1)) ≡ Some (no_root None)
unfolding sights_from sight real_of in_range is_free leader_of leader_name is_readable is_stored_name file_bytes joined most_pages first slots_after slot_at is_entry
moved_root = refl

-- ---- what is shown
texts : (unready_text (not_clean 2) ≡ codes "pack not clean: mark 2\n")
    × (unready_text (bad_descriptor 8 65535) ≡ codes "bad descriptor: word 8 is 65535\n")
    × (unready_text (wrong_length 40) ≡ codes "wrong descriptor length 40\n")
    × (unready_text no_descriptor ≡ codes "no descriptor\n")
unfolding digits
texts = (refl, refl, refl, refl)
