-- Packs that differ in hints alone, and packs that differ in more.
use Rattle.std.proofs.Common.{◌≡◌, ◌⊎◌, ℕ, ◌+◌, ◌/◌, ◌%◌, Bool, true, false, cond, List, [], ◌∷◌, length, get_or, Some, None, refl, sym, ap, subst, ◌∙◌, arith, inl, inr, add-one}
use Rattle.std.specs.Prelude.{◌&&◌, ◌==◌}
use Rattle.std.specs.Option.{option_or}
use Rattle.pack_laws.specs.alto_words.specs.declared.fid.Fid.{Fid}
use Rattle.pack_laws.specs.alto_words.specs.Fid.{is_fid, is_directory, sys_dir, disk_descriptor}
use Rattle.pack_laws.specs.alto_words.specs.Names.{is_stored_name}
use Rattle.pack_laws.specs.disk_records.specs.Addresses.{real_of}
use Rattle.pack_laws.specs.disk_records.specs.Labels.{in_range, is_free}
use Rattle.pack_laws.specs.disk_records.specs.Packs.{sector_at}
use Rattle.pack_laws.specs.pack_model.specs.reading.Leaders.{leader_of, leader_name, is_readable}
use Rattle.pack_laws.specs.pack_model.specs.reading.Sights.{Sight, sight, sights, sights_from}
use Rattle.pack_laws.specs.pack_model.specs.reading.Sights.Sight.{hidden, free, stray, leads, holds}
use Rattle.pack_laws.specs.pack_model.specs.reading.Files.{first, joined, most_pages, file_bytes, place}
use Rattle.pack_laws.specs.pack_model.specs.reading.Slots.{slots_after, slot_at, is_entry}
use Rattle.pack_laws.specs.pack_model.specs.reading.Slots.Item.{entry}
use Rattle.pack_laws.specs.pack_model.specs.reading.SlotWords.{slots_at}
use Rattle.pack_laws.specs.pack_model.specs.reading.Namings.{sys_dir_name}
use Rattle.pack_laws.specs.pack_model.specs.reading.Model.{descriptor_words}
use Rattle.pack_laws.specs.pack_model.specs.states.InUse.{is_free_sight}
use Rattle.pack_laws.specs.pack_model.specs.hints.HintWords.{IsAddressWord, IsHintByte, SameButHints}
use Rattle.pack_laws.specs.pack_model.specs.hints.HintWords.IsHintByte.{of_free, of_leader, past_count, of_entry, of_map}
use Rattle.pack_laws.proofs.Placing.{both_test}
use Rattle.pack_vectors.proofs.ChangedHints.{with_sector, with_word, with_links, changed, linked, itself}
use Rattle.pack_vectors.proofs.SmallPacks.{formatted_pack, some_or}

-- ---- the formatted pack, with one word of each kind changed: of a free sector; of SysDir's leader from word 246 on; after the
-- 510 bytes of its page; the address in its first entry; DiskDescriptor's number of free sectors, and the map; a label's links
-- and blank word
hint_free : (k : ℕ) → IsHintByte formatted_pack 10 k
unfolding sights_from sight real_of in_range is_free leader_of leader_name is_readable is_stored_name
hint_free k = of_free refl

hint_leader : (k : ℕ) → k / 2 ≡ 246 → IsHintByte formatted_pack 1 k
unfolding sights_from sight real_of in_range is_free leader_of leader_name is_readable is_stored_name first
hint_leader k e = of_leader sys_dir refl (omega arith)

hint_past : (k : ℕ) → k / 2 ≡ 255 → IsHintByte formatted_pack 2 k
unfolding sights_from sight real_of in_range is_free leader_of leader_name is_readable is_stored_name
hint_past k e = past_count sys_dir 0 _ refl (omega arith)

root_slot : IsAddressWord formatted_pack sys_dir 5
unfolding sights_from sight real_of in_range is_free leader_of leader_name is_readable is_stored_name first joined most_pages file_bytes slots_after slot_at is_entry slots_at
root_slot = record {
  lives = refl;
  directory = refl;
  slot = record { place = 0; item = entry sys_dir sys_dir_name; address = 1 };
  fid = sys_dir;
  name = sys_dir_name;
  stands = (0, omega arith, refl);
  item = refl;
  word = refl;
}

hint_entry : (k : ℕ) → k / 2 ≡ 5 → IsHintByte formatted_pack 2 k
unfolding sights_from sight real_of in_range is_free leader_of leader_name is_readable is_stored_name first
hint_entry k e = of_entry sys_dir 5 root_slot (record { sector = refl; within = e })

its_length : length (descriptor_words (sights formatted_pack)) ≡ 19
unfolding sights_from sight real_of in_range is_free leader_of leader_name is_readable is_stored_name first joined most_pages file_bytes
its_length = refl

hint_number : (k : ℕ) → k / 2 ≡ 7 → IsHintByte formatted_pack 4 k
unfolding sights_from sight real_of in_range is_free leader_of leader_name is_readable is_stored_name first
hint_number k e = let n = its_length in of_map 7 (record { within = omega arith; word = inl refl }) (record { sector = refl; within = e })

hint_map : (k : ℕ) → k / 2 ≡ 16 → IsHintByte formatted_pack 4 k
unfolding sights_from sight real_of in_range is_free leader_of leader_name is_readable is_stored_name first
hint_map k e = let n = its_length in of_map 16 (record { within = omega arith; word = inr (omega arith) }) (record { sector = refl; within = e })

hints_differ : SameButHints formatted_pack (with_links 2 1 2 3 (with_word 4 16 0 (with_word 4 7 9 (with_word 2 5 44 (with_word 2 255 9 (with_word 1 246 9 (with_word 10 3 9 formatted_pack)))))))
hints_differ =
    linked formatted_pack _ 2 1 2 3
    (changed formatted_pack _ 4 16 0 hint_map
    (changed formatted_pack _ 4 7 9 hint_number
    (changed formatted_pack _ 2 5 44 hint_entry
    (changed formatted_pack _ 2 255 9 hint_past
    (changed formatted_pack _ 1 246 9 hint_leader
    (changed formatted_pack formatted_pack 10 3 9 (λ k e. hint_free k) (itself formatted_pack)))))))

-- ---- words that are no hints: the mark, word 6 of DiskDescriptor, and the last word of a leader before its hints
abbrev has_bytes : Sight → Bool
has_bytes hidden = false
has_bytes free = false
has_bytes stray = false
has_bytes (leads f readable l) = false
has_bytes (holds f n bytes) = true

abbrev bytes_in : Sight → List ℕ
bytes_in hidden = []
bytes_in free = []
bytes_in stray = []
bytes_in (leads f readable l) = []
bytes_in (holds f n bytes) = bytes

-- data pages are in sectors 2 and 4
data_place : (f : Fid) (n at : ℕ) → place (sights formatted_pack) f (n + 1) ≡ Some at → (at ≡ 2) ⊎ ((at ≡ 4) × (disk_descriptor ≡ f))
unfolding sights_from sight real_of in_range is_free leader_of leader_name is_readable is_stored_name first
data_place f n at e = by (is_fid f sys_dir && n == 0) (is_fid f disk_descriptor && n == 0) refl (subst (λ k. place (sights formatted_pack) f k ≡ Some at) (add-one n) e)
  where
    by : (a b : Bool) → (is_fid f disk_descriptor && n == 0) ≡ b → option_or (cond a (Some 2) None) (option_or (cond b (Some 4) None) None) ≡ Some at → (at ≡ 2) ⊎ ((at ≡ 4) × (disk_descriptor ≡ f))
    by true b q e = inl (sym (ap some_or e))
    by false true q e = inr (sym (ap some_or e), (both_test f disk_descriptor n 0 q).0)
    by false false q e = cc

mark_no_hint : IsHintByte formatted_pack 4 13 → ⊥
unfolding sights_from sight real_of in_range is_free leader_of leader_name is_readable is_stored_name first
mark_no_hint (of_free e) = let no : false ≡ true = ap is_free_sight e in cc
mark_no_hint (of_leader f e late) = omega arith
mark_no_hint (past_count f n bytes e late) = let size : ◌≡◌ {A = ℕ} 38 (length bytes) = ap (λ s. length (bytes_in s)) e in omega arith
mark_no_hint (of_entry d w is at) = elim (data_place d (w / 256) 4 at.sector) [
  | inl two ↦ let no : ◌≡◌ {A = ℕ} 4 2 = two in omega arith
  | inr four ↦ let no : false ≡ true = ap is_directory four.1 ∙ is.directory in cc
]
mark_no_hint (of_map w is at) =
    let n = its_length in
    let size = is.within in
    let six : ◌≡◌ {A = ℕ} 6 (w % 256) = at.within in
    elim is.word [ inl seven ↦ omega arith | inr late ↦ omega arith ]

rest_no_hint : IsHintByte formatted_pack 1 491 → ⊥
unfolding sights_from sight real_of in_range is_free leader_of leader_name is_readable is_stored_name first
rest_no_hint (of_free e) = let no : false ≡ true = ap is_free_sight e in cc
rest_no_hint (of_leader f e late) = omega arith
rest_no_hint (past_count f n bytes e late) = let no : false ≡ true = ap has_bytes e in cc
rest_no_hint (of_entry d w is at) = elim (data_place d (w / 256) 1 at.sector) [
  | inl two ↦ let no : ◌≡◌ {A = ℕ} 1 2 = two in omega arith
  | inr four ↦ let no : ◌≡◌ {A = ℕ} 1 4 = four.0 in omega arith
]
rest_no_hint (of_map w is at) = elim (data_place disk_descriptor (w / 256) 1 at.sector) [
  | inl two ↦ let no : ◌≡◌ {A = ℕ} 1 2 = two in omega arith
  | inr four ↦ let no : ◌≡◌ {A = ℕ} 1 4 = four.0 in omega arith
]

mark_differs : SameButHints formatted_pack (with_word 4 6 2 formatted_pack) → ⊥
mark_differs h = elim (h.values 4 13) [ inl same ↦ let no : ◌≡◌ {A = ℕ} 2 1 = same in omega arith | inr hint ↦ mark_no_hint hint ]

rest_differs : SameButHints formatted_pack (with_word 1 245 9 formatted_pack) → ⊥
rest_differs h = elim (h.values 1 491) [ inl same ↦ let no : ◌≡◌ {A = ℕ} 9 0 = same in omega arith | inr hint ↦ rest_no_hint hint ]

-- nor is a count, word 3 of a label
count_differs : SameButHints formatted_pack (with_sector 2 (record (sector_at formatted_pack 2) { label = 65535 ∷ 4096 ∷ 0 ∷ 509 ∷ 1 ∷ 1 ∷ 32768 ∷ 1 ∷ [] }) formatted_pack) → ⊥
count_differs h = let no : ◌≡◌ {A = ℕ} 509 510 = ap (λ words. get_or words 0 0) (h.labels 2) in omega arith
