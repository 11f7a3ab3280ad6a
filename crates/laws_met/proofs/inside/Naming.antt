-- The pack whose SysDir has two pages, while its names are mended.
use Rattle.std.proofs.Common.{◌&&◌, ◌++◌, ◌<◌, ◌||◌, ◌∙◌, ◌∷◌, ◌≡◌, Bool, List, [], ap, arith, eqb, eqb-true, false, get_or, inl, inr, length, refl, subst, suc, sym, true, zero, ℕ}
use Rattle.std.proofs.lemmas.Bool.{cases_eq, cases_lt}
use Rattle.std.proofs.lemmas.List.{get_or_past, take-append-drop}
use Rattle.std.specs.FinMap.{find, get-entries}
use Rattle.std.specs.Option.{is_some}
use Rattle.std.specs.Prelude.{◌==◌}
use Rattle.laws_steps.specs.alto_words.specs.Fid.{fid_cmp, ordinary_fid, sys_dir}
use Rattle.laws_steps.specs.alto_words.specs.Names.{is_stored_name}
use Rattle.laws_steps.specs.disk_records.specs.Addresses.{real_of}
use Rattle.laws_steps.specs.disk_records.specs.Labels.{in_range, is_free}
use Rattle.laws_steps.specs.disk_records.specs.Packs.{Pack, sector_at}
use Rattle.laws_steps.specs.disk_records.specs.Words.{word}
use Rattle.laws_steps.specs.pack_laws.proofs.ByLists.{read_by, read_list}
use Rattle.laws_steps.specs.pack_laws.proofs.MendedByLists.{lacking_list}
use Rattle.laws_steps.specs.pack_model.specs.hints.Links.{PageLinks, dir_words, next_link, previous_link}
use Rattle.laws_steps.specs.pack_model.specs.operations.PageWords.{later, near}
use Rattle.laws_steps.specs.pack_model.specs.operations.Rooms.{find_room}
use Rattle.laws_steps.specs.pack_model.specs.reading.Files.{file_bytes, first, joined, lives, most_pages, place}
use Rattle.laws_steps.specs.pack_model.specs.reading.Leaders.{is_readable, leader_name, leader_of}
use Rattle.laws_steps.specs.pack_model.specs.reading.Model.{dir_items, read_as}
use Rattle.laws_steps.specs.pack_model.specs.reading.Bodies.{items_in}
use Rattle.laws_steps.specs.pack_model.specs.reading.Namings.{keeps_system}
use Rattle.laws_steps.specs.pack_model.specs.reading.Sights.{Sight, sight, sights, sights_from}
use Rattle.laws_steps.specs.pack_model.specs.reading.Sights.Sight.{free, hidden, holds, leads, stray}
use Rattle.laws_steps.specs.pack_model.specs.reading.Slots.{all_words, is_entry, item_words, slot_at, slots, slots_after}
use Rattle.laws_steps.specs.pack_model.specs.reading.Slots.Item.{entry, space}
use Rattle.laws_steps.specs.pack_model.specs.scavenger.Mended.{lacking}
use Rattle.laws_steps.specs.pack_model.specs.scavenger.Reports.{PagesMended}
use Rattle.laws_steps.specs.pack_model.specs.showing.Settling.{most_suffixes}
use Rattle.laws_steps.specs.pack_model.specs.states.InUse.{in_use}
use Rattle.laws_steps.specs.laws_record.proofs.Heads.{all_within, and_left, and_right}
use Rattle.laws_steps.specs.laws_record.proofs.sentences.Laws.{sentences_hold}
use Rattle.laws_steps.specs.laws_record.specs.DirLaws.{DirWrite, Frees}
use Rattle.laws_steps.specs.laws_operation.proofs.drop.Laws.{slot_words_fit}
use Rattle.laws_steps.specs.laws_operation.proofs.places.Laws.{file_lives_in_a_place}
use Rattle.laws_steps.specs.laws_operation.specs.NameLaws.{IsRoom}
use Rattle.laws_steps.specs.laws_room.specs.NextLaws.{LackingNext, mended_pack}
use Rattle.laws_names.specs.laws_mend.proofs.slots.Laws.{dir_write_keeps_pages, dir_write_reaches_its_end}
use Rattle.laws_names.specs.laws_mend.specs.SlotLaws.{DirectoryIsWritten}
use Rattle.laws_names.proofs.lacking.Laws.{next_may_be_entered}
use Rattle.laws_names.proofs.models.Laws.{mended_is_read}
use Rattle.laws_names.proofs.writes.Laws.{next_entry_is_entered, room_is_made_one, room_words_leave, unkept_slot_is_freed, written_words_stand}
use Rattle.laws_names.specs.WriteLaws.{CanBeEntered, RoomIsOne, RoomIsWritten}
use Rattle.laws_met.proofs.inside.Crowded.{looks_up, slots_are, stored_i, tidy}
use Rattle.laws_met.proofs.inside.CrowdedWhole.{shown, shown_are, whole}
use Rattle.laws_met.specs.Crowded.{before_i, crowded, file_i, free_i, letters, name_i, words_i}
use Rattle.laws_met.specs.Naming.{FreeingIsMet, NamingIsMet, doubled_i, joined_i, later_i, nine_i}
use Rattle.laws_met.specs.Peopled.{small}

-- ---- links of pages
-- a sector without a page, or with true links
abbrev no_page : Sight → Bool
no_page hidden = true
no_page free = true
no_page stray = true
no_page (leads f readable l) = false
no_page (holds f n bytes) = false

abbrev is_linked : ℕ → Bool
is_linked i = (word (sector_at crowded i).label 0 == next_link small shown (get_or shown i hidden)) && (word (sector_at crowded i).label 1 == previous_link small shown (get_or shown i hidden))

abbrev fine : ℕ → Bool
fine i = no_page (get_or shown i hidden) || is_linked i

abbrev all_fine : ℕ → Bool
all_fine zero = true
all_fine (suc n) = fine n && all_fine n

are_fine : all_fine 48 ≡ true
unfolding first real_of
are_fine = refl

each_fine : (n i : ℕ) → all_fine n ≡ true → i < n → fine i ≡ true
each_fine zero i all l = absurd (omega arith)
each_fine (suc n) i all l = elim (cases_eq i n) [
  | inl same ↦ ap fine same ∙ and_left (fine n) (all_fine n) all
  | inr other ↦ each_fine n i (and_right (fine n) (all_fine n) all) (omega arith)
]

-- the links of a sector, by what sectors show
abbrev Linked : List Sight → Type 0
Linked ss = (i : ℕ) → in_use small ss (i, get_or ss i hidden) ≡ true → (word (sector_at crowded i).label 0 ≡ next_link small ss (get_or ss i hidden)) × (word (sector_at crowded i).label 1 ≡ previous_link small ss (get_or ss i hidden))

unused : (ss : List Sight) (i : ℕ) (s : Sight) → no_page s ≡ true → in_use small ss (i, s) ≡ true → ⊥
unused ss i hidden e u = cc
unused ss i free e u = cc
unused ss i stray e u = cc
unused ss i (leads f readable l) e u = cc
unused ss i (holds f n bytes) e u = cc

linked : Linked shown
linked i used = elim (cases_lt i 48) [
  | inl within ↦ by (no_page (get_or shown i hidden)) refl (each_fine 48 i are_fine within)
  | inr past ↦ absurd (let c : in_use small shown (i, hidden) ≡ true = sym (ap (λ s. in_use small shown (i, s)) (get_or_past shown i hidden past)) ∙ used in cc)
]
  where
    by : (b : Bool) → no_page (get_or shown i hidden) ≡ b → (b || is_linked i) ≡ true → (word (sector_at crowded i).label 0 ≡ next_link small shown (get_or shown i hidden)) × (word (sector_at crowded i).label 1 ≡ previous_link small shown (get_or shown i hidden))
    by true bare e = absurd (unused shown i (get_or shown i hidden) bare used)
    by false paged e = (
      eqb-true (word (sector_at crowded i).label 0) (next_link small shown (get_or shown i hidden)) (and_left (eqb (word (sector_at crowded i).label 0) (next_link small shown (get_or shown i hidden))) _ e),
      eqb-true (word (sector_at crowded i).label 1) (previous_link small shown (get_or shown i hidden)) (and_right (eqb (word (sector_at crowded i).label 0) (next_link small shown (get_or shown i hidden))) _ e),
    )

links : PageLinks crowded
links i used = let l = subst Linked (sym shown_are) linked i used in record { next = l.0; previous = l.1 }

pages : PagesMended crowded
pages = record { pages = (sentences_hold crowded whole).pages; links = links }

-- ---- the entry that is lacking
next : LackingNext crowded file_i name_i []
unfolding sights_from sight real_of in_range is_free leader_of leader_name is_readable is_stored_name first joined most_pages file_bytes slots_after slot_at is_entry keeps_system most_suffixes
next = lacking_list small (sights crowded)

-- ---- its room
room : IsRoom 26 (slots (dir_words crowded sys_dir)) before_i free_i []
room = record { split = slots_are; found = ap (find_room 26) slots_are; run_is = refl; most = omega arith }

one : RoomIsOne crowded joined_i before_i free_i [] file_i name_i []
one = room_is_made_one crowded 2 before_i free_i [] file_i name_i [] pages tidy next looks_up.at_1 room

living : (p : Pack) → place (sights p) sys_dir 0 ≡ place (sights crowded) sys_dir 0 → lives (sights p) sys_dir ≡ true
living p e = file_lives_in_a_place p sys_dir ∙ ap is_some e ∙ sym (file_lives_in_a_place crowded sys_dir) ∙ looks_up.living

-- ---- the words in SysDir's second page
later_write : DirWrite joined_i sys_dir 256 21 (later 232 words_i)
later_write =
    let three : length (later 232 words_i) ≡ 3 = refl in
    let all = all_within (slots (dir_words joined_i sys_dir)) (dir_words joined_i sys_dir) refl in
    let many : all_words (slots (dir_words joined_i sys_dir)) ≡ 511 = ap all_words one.slots_are in
    record { directory = refl; lives = living joined_i (one.written.places_are sys_dir 0); sector = one.written.places_are sys_dir 2 ∙ looks_up.at_2; some = omega arith; one_page = omega arith; within = omega arith }

written : RoomIsWritten joined_i later_i sys_dir 256 (later 232 words_i)
written = let three : length (later 232 words_i) ≡ 3 = refl in room_words_leave joined_i sys_dir 256 21 (later 232 words_i) before_i [] 279 one.written.mended later_write one.slots_are (omega arith) (omega arith)

-- ---- the entry's first words
first_write : DirWrite later_i sys_dir 232 2 (near 232 words_i)
first_write =
    let many : length (near 232 words_i) ≡ 24 = refl in
    let all = all_within (slots (dir_words later_i sys_dir)) (dir_words later_i sys_dir) refl in
    let words : all_words (slots (dir_words later_i sys_dir)) ≡ 511 = ap all_words (written.loose.slots_are sys_dir ∙ one.slots_are) in
    record {
      directory = refl;
      lives = living later_i (written.loose.written.places_are sys_dir 0 ∙ one.written.places_are sys_dir 0);
      sector = written.loose.written.places_are sys_dir 1 ∙ one.written.places_are sys_dir 1 ∙ looks_up.at_1;
      some = omega arith;
      one_page = omega arith;
      within = omega arith;
    }

next_then : LackingNext later_i file_i name_i []
next_then = ap lacking written.loose.mended_is ∙ one.lacking_is

can : CanBeEntered later_i file_i name_i before_i [] 253 22 2 (near 232 words_i) (later 232 words_i)
can = record {
  may = next_may_be_entered later_i file_i name_i [] written.loose.written.mended next_then;
  full_name = refl;
  stored = stored_i;
  address_is = written.loose.written.places_are file_i 0 ∙ one.written.places_are file_i 0 ∙ looks_up.at_i;
  room = subst (λ is. IsRoom 26 is before_i (space 279 ∷ []) []) (sym (written.loose.slots_are sys_dir)) one.room;
  words_are = sym (take-append-drop 24 words_i);
  write = first_write;
  stand = written_words_stand joined_i sys_dir 256 21 (later 232 words_i) later_write;
}

pub naming_is_met : NamingIsMet
naming_is_met = record {
  pages = pages;
  tidy = tidy;
  next = next;
  joined = one;
  written = written;
  can = can;
  last = next_entry_is_entered later_i file_i name_i [] before_i [] 253 22 2 (near 232 words_i) (later 232 words_i) written.loose.written.mended (written.loose.tidy one.tidy) next_then can;
}

-- ---- an entry that isn't kept
double_write : DirWrite crowded sys_dir 208 2 (9 ∷ [])
double_write =
    let all = all_within (slots (dir_words crowded sys_dir)) (dir_words crowded sys_dir) refl in
    let many : all_words (slots (dir_words crowded sys_dir)) ≡ 511 = ap all_words slots_are in
    let one : length {A = ℕ} (9 ∷ []) ≡ 1 = refl in
    record { directory = refl; lives = looks_up.living; sector = looks_up.at_1; some = omega arith; one_page = omega arith; within = omega arith }

doubled_slots : slots (dir_words doubled_i sys_dir) ≡ nine_i ++ entry (ordinary_fid 9) (letters 104) ∷ free_i
unfolding sights_from sight real_of in_range is_free leader_of leader_name is_readable is_stored_name first joined most_pages file_bytes slots_after slot_at is_entry
doubled_slots = refl

doubled_words : all_words (slots (dir_words doubled_i sys_dir)) ≡ all_words (slots (dir_words crowded sys_dir))
doubled_words = ap all_words doubled_slots ∙ sym (ap all_words slots_are)

doubled : DirectoryIsWritten crowded doubled_i sys_dir
doubled = dir_write_keeps_pages crowded sys_dir 208 2 (9 ∷ []) double_write pages (dir_write_reaches_its_end crowded sys_dir 208 2 (9 ∷ []) double_write pages doubled_words)

doubled_frees : Frees doubled_i sys_dir 2 nine_i (entry (ordinary_fid 9) (letters 104) ∷ []) free_i
doubled_frees = slot_words_fit doubled_i sys_dir 2 nine_i free_i (ordinary_fid 9) (letters 104) (record { directory = refl; living = doubled.lives_are sys_dir ∙ looks_up.living; slots_are = doubled_slots; sector = doubled.places_are sys_dir 1 ∙ looks_up.at_1 })

items_by_lists : items_in (find fid_cmp sys_dir (read_by (sights doubled_i))) ≡ nine_i ++ space 26 ∷ free_i
unfolding sights_from sight real_of in_range is_free leader_of leader_name is_readable is_stored_name first joined most_pages file_bytes slots_after slot_at is_entry keeps_system
items_by_lists = refl

unkept : get_or (dir_items (mended_pack doubled_i) sys_dir) (length nine_i) (entry (ordinary_fid 9) (letters 104)) ≡ space (item_words (entry (ordinary_fid 9) (letters 104)))
unkept =
    ap (λ is. get_or is (length nine_i) (entry (ordinary_fid 9) (letters 104)))
    ((mended_is_read doubled_i doubled.mended).items_are sys_dir ∙ ap items_in (get-entries (read_as doubled_i).files sys_dir ∙ ap (find fid_cmp sys_dir) (read_list small (sights doubled_i))) ∙ items_by_lists)

pub freeing_is_met : FreeingIsMet
freeing_is_met = record {
  pages = doubled.mended;
  frees = doubled_frees;
  unkept = unkept;
  freed = unkept_slot_is_freed doubled_i sys_dir 2 nine_i free_i (ordinary_fid 9) (letters 104) doubled.mended doubled_frees unkept;
}
