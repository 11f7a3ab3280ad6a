-- What the Scavenger needs of small packs, what it finds there, what it refuses, and what it reports.
use Rattle.std.proofs.Common.{◌≡◌, ℕ, List, [], ◌∷◌, ◌++◌, Some, None}
use Rattle.std.specs.Prelude.{codes, replicate, take}
use Rattle.std.specs.Fmt.{digits}
use Rattle.std.specs.FinMap.{entries}
use Rattle.pack_laws.specs.alto_words.specs.declared.fid.Fid.{Fid}
use Rattle.pack_laws.specs.alto_words.specs.Fid.{sys_dir, disk_descriptor, ordinary_fid}
use Rattle.pack_laws.specs.alto_words.specs.Names.{is_stored_name, suffixed}
use Rattle.pack_laws.specs.disk_records.specs.Addresses.{real_of}
use Rattle.pack_laws.specs.disk_records.specs.Labels.{in_range, is_free}
use Rattle.pack_laws.specs.disk_records.specs.Packs.{Pack}
use Rattle.pack_laws.specs.pack_model.specs.reading.Bytes.{put_at}
use Rattle.pack_laws.specs.pack_model.specs.reading.Leaders.{leader_of, leader_name, is_readable}
use Rattle.pack_laws.specs.pack_model.specs.reading.Sights.{sight, sights, sights_from}
use Rattle.pack_laws.specs.pack_model.specs.reading.Files.{first, joined, most_pages, file_bytes}
use Rattle.pack_laws.specs.pack_model.specs.reading.Slots.{slots_after, slot_at, is_entry}
use Rattle.pack_laws.specs.pack_model.specs.reading.Slots.Item.{space, entry}
use Rattle.pack_laws.specs.pack_model.specs.reading.Bodies.Body.{data_of, items_of}
use Rattle.pack_laws.specs.pack_model.specs.reading.Namings.{sys_dir_name, descriptor_name, keeps_system}
use Rattle.pack_laws.specs.pack_model.specs.showing.Settling.{most_suffixes}
use Rattle.pack_laws.specs.pack_model.specs.operations.Rooms.{placed}
use Rattle.pack_laws.specs.pack_model.specs.operations.Step.{new_leader}
use Rattle.pack_laws.specs.pack_model.specs.states.InUse.{available}
use Rattle.pack_laws.specs.pack_model.specs.scavenger.Mended.{mended, root_file, lacking, widens, needs}
use Rattle.pack_laws.specs.pack_model.specs.scavenger.Needed.{needed}
use Rattle.pack_laws.specs.pack_model.specs.scavenger.Scavenging.{first_refusal}
use Rattle.pack_laws.specs.pack_model.specs.scavenger.Scavenging.Refusal.{root_bad, root_taken, pack_full}
use Rattle.pack_laws.specs.pack_model.specs.scavenger.Reports.{Report, report_of, mended_serial}
use Rattle.pack_laws.proofs.Uses.{available_is}
use Rattle.pack_laws.proofs.MendedByLists.{mended_list, lacking_list, needed_is, needs_is, refusal_is, report_is, serial_is}
use Rattle.pack_vectors.proofs.Shapes.{small}
use Rattle.pack_vectors.proofs.SmallPacks.{copied, unread, three_x, made_6, made_7, appended_8, appended_9, no_end, no_leader, crowded, crowded_alive, name_26, described_by_words, words_of_9, nameless_alone, all_free, good_up_to, root_header, root_label, zeros}

abbrev file_3 : Fid
file_3 = ordinary_fid 3

-- ---- the files as they will be when names are entered
-- DiskDescriptor has no leader here, and its entry is kept; a SysDir that doesn't live is one free slot
mended_files :
    (entries (mended small (sights crowded)).files
    ≡ (file_3, record { leader = new_leader (codes "A.") 1000; body = data_of [] })
    ∷ (ordinary_fid 4, record { leader = new_leader name_26 1000; body = data_of [] })
    ∷ (sys_dir, root_file (items_of (entry sys_dir sys_dir_name ∷ space 20 ∷ entry file_3 (codes "A.") ∷ entry disk_descriptor descriptor_name ∷ [])))
    ∷ [])
    × (entries (mended small (sights all_free)).files ≡ (sys_dir, root_file (items_of (space 255 ∷ []))) ∷ [])
unfolding sights_from sight real_of in_range is_free leader_of leader_name is_readable is_stored_name first joined most_pages file_bytes slots_after slot_at is_entry keeps_system
mended_files = (mended_list small (sights crowded), mended_list small (sights all_free))

-- the system files are entered first, and then the nameless ones by rising full name
lacking_entries :
    (lacking (mended small (sights crowded)) ≡ (ordinary_fid 4, name_26) ∷ [])
    × (lacking (mended small (sights all_free)) ≡ (sys_dir, sys_dir_name) ∷ (disk_descriptor, descriptor_name) ∷ [])
    × (lacking (mended small (sights three_x)) ≡ (ordinary_fid 4, codes "X.$1.") ∷ (ordinary_fid 6, codes "X.$2.") ∷ [])
    × (take 3 (lacking (mended small (sights (nameless_alone 2)))) ≡ (sys_dir, sys_dir_name) ∷ (disk_descriptor, descriptor_name) ∷ (file_3, replicate 38 97 ++ codes ".") ∷ [])
unfolding sights_from sight real_of in_range is_free leader_of leader_name is_readable is_stored_name first joined most_pages file_bytes slots_after slot_at is_entry keeps_system most_suffixes suffixed digits
lacking_entries = (lacking_list small (sights crowded), lacking_list small (sights all_free), lacking_list small (sights three_x), λ i. take 3 (lacking_list small (sights (nameless_alone 2)) i))

abbrev mended_needs : Pack → ℕ
mended_needs p = needs (mended small (sights p))

-- ---- numbers
-- nothing; SysDir's page for an entry that has no room; a last page; two pages each for SysDir and DiskDescriptor; both pages of
-- DiskDescriptor, and no page for an entry, since the one that stands is kept
pages_needed :
    (needed small (sights copied) ≡ 0)
    × (needed small (sights unread) ≡ 1)
    × (needed small (sights no_end) ≡ 1)
    × (needed small (sights no_leader) ≡ 0)
    × (needed small (sights all_free) ≡ 4)
    × (needed small (sights crowded) ≡ 2)
    × (needed small (sights crowded_alive) ≡ 0)
unfolding sights_from sight real_of in_range is_free leader_of leader_name is_readable is_stored_name first joined most_pages file_bytes slots_after slot_at is_entry keeps_system widens most_suffixes placed suffixed digits
pages_needed = (needed_is small (sights copied), needed_is small (sights unread), needed_is small (sights no_end), needed_is small (sights no_leader), needed_is small (sights all_free), needed_is small (sights crowded), needed_is small (sights crowded_alive))

-- all pages of the mended files, those of DiskDescriptor aside: two for each file here, and SysDir's page for an entry
all_needs :
    (mended_needs copied ≡ 4)
    × (mended_needs unread ≡ 5)
    × (mended_needs crowded ≡ 6)
    × (mended_needs all_free ≡ 2)
unfolding sights_from sight real_of in_range is_free leader_of leader_name is_readable is_stored_name first joined most_pages file_bytes slots_after slot_at is_entry keeps_system widens most_suffixes placed suffixed digits
all_needs = (needs_is small (sights copied), needs_is small (sights unread), needs_is small (sights crowded), needs_is small (sights all_free))

-- good, and not in use
available_numbers :
    (available small (sights copied) ≡ 41)
    × (available small (sights appended_8) ≡ 41)
    × (available small (sights no_leader) ≡ 43)
    × (available small (sights crowded) ≡ 41)
    × (available small (sights all_free) ≡ 47)
    × (available small (sights (good_up_to 7 copied)) ≡ 0)
unfolding sights_from sight real_of in_range is_free leader_of leader_name is_readable is_stored_name first joined most_pages file_bytes slots_after slot_at is_entry keeps_system
available_numbers = (available_is small (sights copied), available_is small (sights appended_8), available_is small (sights no_leader), available_is small (sights crowded), available_is small (sights all_free), available_is small (sights (good_up_to 7 copied)))

-- ---- refusals
-- sector 1 has a wrong header, whatever else is wrong
abbrev leader_label_3 : List ℕ
leader_label_3 = 65535 ∷ 65535 ∷ 0 ∷ 512 ∷ 0 ∷ 1 ∷ 0 ∷ 3 ∷ []

roots_bad :
    (first_refusal zeros ≡ Some (root_bad (0 ∷ 0 ∷ [])))
    × (first_refusal (root_header (1 ∷ 9 ∷ []) (root_label leader_label_3 copied)) ≡ Some (root_bad (1 ∷ 9 ∷ [])))
    × (first_refusal (root_header (2 ∷ 4096 ∷ []) copied) ≡ None)
unfolding sights_from sight real_of in_range is_free leader_of leader_name is_readable is_stored_name first joined most_pages file_bytes slots_after slot_at is_entry keeps_system widens most_suffixes placed suffixed digits
roots_bad = (refusal_is zeros, refusal_is (root_header (1 ∷ 9 ∷ []) (root_label leader_label_3 copied)), refusal_is (root_header (2 ∷ 4096 ∷ []) copied))

-- it has another leader, whether or not sectors are lacking, or a page of DiskDescriptor; one past its end isn't in use, nor is one
-- of a file that doesn't live, or a stray label
abbrev its_label : ℕ → List ℕ
its_label n = 8192 ∷ 0 ∷ 0 ∷ 0 ∷ n ∷ 1 ∷ 0 ∷ 2 ∷ []

roots_taken :
    (first_refusal (root_label leader_label_3 (good_up_to 5 all_free)) ≡ Some (root_taken leader_label_3))
    × (first_refusal (root_label leader_label_3 (good_up_to 2 all_free)) ≡ Some (root_taken leader_label_3))
    × (first_refusal (root_label (its_label 1) copied) ≡ Some (root_taken (its_label 1)))
    × (first_refusal (root_label (its_label 2) copied) ≡ None)
    × (first_refusal (root_label (0 ∷ 0 ∷ 0 ∷ 0 ∷ 1 ∷ 1 ∷ 0 ∷ 9 ∷ []) copied) ≡ None)
    × (first_refusal (root_label (replicate 8 0) copied) ≡ None)
unfolding sights_from sight real_of in_range is_free leader_of leader_name is_readable is_stored_name first joined most_pages file_bytes slots_after slot_at is_entry keeps_system widens most_suffixes placed suffixed digits
roots_taken = (
  refusal_is (root_label leader_label_3 (good_up_to 5 all_free)),
  refusal_is (root_label leader_label_3 (good_up_to 2 all_free)),
  refusal_is (root_label (its_label 1) copied),
  refusal_is (root_label (its_label 2) copied),
  refusal_is (root_label (0 ∷ 0 ∷ 0 ∷ 0 ∷ 1 ∷ 1 ∷ 0 ∷ 9 ∷ []) copied),
  refusal_is (root_label (replicate 8 0) copied),
)

-- the sectors are too few, and these just enough; nine entries of 26 words go into SysDir's first page beside the system's, eight do
packs_full :
    (first_refusal (good_up_to 7 unread) ≡ Some (pack_full 1 0))
    × (first_refusal (good_up_to 7 copied) ≡ None)
    × (first_refusal (good_up_to 7 no_end) ≡ Some (pack_full 1 0))
    × (first_refusal (good_up_to 8 no_end) ≡ None)
    × (first_refusal (good_up_to 4 all_free) ≡ Some (pack_full 4 3))
    × (first_refusal (good_up_to 5 all_free) ≡ None)
    × (first_refusal (good_up_to 10 (nameless_alone 8)) ≡ Some (pack_full 12 1))
    × (first_refusal (good_up_to 11 (nameless_alone 9)) ≡ Some (pack_full 14 1))
unfolding sights_from sight real_of in_range is_free leader_of leader_name is_readable is_stored_name first joined most_pages file_bytes slots_after slot_at is_entry keeps_system widens most_suffixes placed suffixed digits
packs_full = (
  refusal_is (good_up_to 7 unread),
  refusal_is (good_up_to 7 copied),
  refusal_is (good_up_to 7 no_end),
  refusal_is (good_up_to 8 no_end),
  refusal_is (good_up_to 4 all_free),
  refusal_is (good_up_to 5 all_free),
  refusal_is (good_up_to 10 (nameless_alone 8)),
  refusal_is (good_up_to 11 (nameless_alone 9)),
)

-- ---- the report
abbrev counted : ℕ → ℕ → ℕ → ℕ → Report
counted files freed bad adopted = record { files = files; freed = freed; bad = bad; adopted = adopted }

reports :
    (report_of copied ≡ counted 3 1 0 0)
    × (report_of unread ≡ counted 3 0 0 1)
    × (report_of three_x ≡ counted 7 0 0 2)
    × (report_of made_6 ≡ counted 2 1 0 0)
    × (report_of made_7 ≡ counted 3 0 0 1)
    × (report_of appended_8 ≡ counted 3 2 0 0)
    × (report_of appended_9 ≡ counted 3 0 0 0)
    × (report_of no_end ≡ counted 3 0 0 0)
    × (report_of no_leader ≡ counted 2 2 0 0)
    × (report_of all_free ≡ counted 2 0 0 0)
    × (report_of (good_up_to 5 all_free) ≡ counted 2 0 43 0)
    × (report_of (good_up_to 9 crowded) ≡ counted 4 1 39 1)
unfolding sights_from sight real_of in_range is_free leader_of leader_name is_readable is_stored_name first joined most_pages file_bytes slots_after slot_at is_entry keeps_system most_suffixes suffixed digits
reports = (report_is copied, report_is unread, report_is three_x, report_is made_6, report_is made_7, report_is appended_8, report_is appended_9, report_is no_end, report_is no_leader, report_is all_free, report_is (good_up_to 5 all_free), report_is (good_up_to 9 crowded))

-- ---- the last serial that it writes: DiskDescriptor's, also where it has no leader, but not where it says another shape or has
-- another length; and no less than that of a living file
serials :
    (mended_serial copied ≡ 3)
    × (mended_serial all_free ≡ 2)
    × (mended_serial crowded ≡ 9)
    × (mended_serial (described_by_words words_of_9) ≡ 9)
    × (mended_serial (described_by_words (put_at 1 (3 ∷ []) words_of_9)) ≡ 3)
    × (mended_serial (described_by_words (put_at 8 (4 ∷ []) words_of_9)) ≡ 3)
    × (mended_serial (described_by_words (take 18 words_of_9)) ≡ 3)
    × (mended_serial (described_by_words (put_at 5 (1 ∷ []) words_of_9)) ≡ 3)
unfolding sights_from sight real_of in_range is_free leader_of leader_name is_readable is_stored_name first joined most_pages file_bytes slots_after slot_at is_entry
serials = (
  serial_is copied,
  serial_is all_free,
  serial_is crowded,
  serial_is (described_by_words words_of_9),
  serial_is (described_by_words (put_at 1 (3 ∷ []) words_of_9)),
  serial_is (described_by_words (put_at 8 (4 ∷ []) words_of_9)),
  serial_is (described_by_words (take 18 words_of_9)),
  serial_is (described_by_words (put_at 5 (1 ∷ []) words_of_9)),
)
