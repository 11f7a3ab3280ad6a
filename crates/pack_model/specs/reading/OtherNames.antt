-- What a pack is by another rule of stored names: the readings of leader pages and of directories, and what stands on them.
-- It serves one law: that packs which were sound before names had versions are sound still, and are read as before.
use Rattle.std.specs.Prelude.{◌≡◌, ℕ, zero, suc, ◌+◌, ◌-◌, ◌<◌, ◌≤◌, ◌==◌, ◌&&◌, Bool, true, cond, nat_le, List, [], ◌∷◌, ◌++◌, length, take, drop, get_or, Option, Some, None}
use Rattle.std.specs.List.{list_all}
use Rattle.std.specs.FinMap.{retain_keys}
use Rattle.disk_records.specs.alto_words.specs.declared.fid.Fid.{Fid}
use Rattle.disk_records.specs.alto_words.specs.Fid.{is_directory, is_full_name, serial_of, sys_dir, disk_descriptor}
use Rattle.disk_records.specs.alto_words.specs.Names.{lost}
use Rattle.disk_records.specs.declared.shape.Shape.{Shape}
use Rattle.disk_records.specs.declared.records.Sector.{Sector}
use Rattle.disk_records.specs.Labels.{tag, in_range, is_free}
use Rattle.disk_records.specs.Packs.{Pack, is_usable}
use Rattle.disk_records.specs.Words.{word, double}
use Rattle.pack_model.specs.reading.Bytes.{bytes_of, words_of}
use Rattle.pack_model.specs.reading.Leaders.{Leader, name_bytes, spelled_name, leader_words}
use Rattle.pack_model.specs.reading.Sights.{Sight}
use Rattle.pack_model.specs.reading.Sights.Sight.{hidden, free, stray, leads, holds}
use Rattle.pack_model.specs.reading.Files.{lives, file_bytes}
use Rattle.pack_model.specs.sessions.Maps.{map_values}
use Rattle.pack_model.specs.reading.Stored.{StoredFile, files_shown}
use Rattle.pack_model.specs.reading.Slots.{Item, item_words, entry_length, slot_bytes, slot_name, slot_pad, slot_fid, first_length, and_then, IsEven}
use Rattle.pack_model.specs.reading.Slots.Item.{space, entry}
use Rattle.pack_model.specs.reading.Bodies.{File, Files, is_described}
use Rattle.pack_model.specs.reading.Bodies.Body.{data_of, items_of}
use Rattle.pack_model.specs.reading.Namings.{tidied, IsTidy}
use Rattle.pack_model.specs.reading.Model.{Model, IsNamed, good_sectors, descriptor_words, last_serial}
use Rattle.pack_model.specs.states.Whole.{FileWhole, Fits}

-- a rule of stored names
abbrev pub Rule : Type 0
Rule = List ℕ → Bool

-- ---- leader pages
abbrev pub is_readable_by : Rule → List ℕ → Bool
is_readable_by rule value = length (spelled_name value) == word (name_bytes value) 0 && rule (spelled_name value)

abbrev pub leader_by : Rule → Fid → List ℕ → Leader
leader_by rule f value =
    let words = leader_words value in
    record {
      created = double words 0;
      written = double words 2;
      read = double words 4;
      name = cond (is_readable_by rule words) (spelled_name words) (lost (serial_of f));
      rest = drop 26 words;
    }

abbrev pub page_sight_by : Rule → Fid → ℕ → ℕ → List ℕ → Sight
page_sight_by rule f zero bytes value = leads f (is_readable_by rule (leader_words value)) (leader_by rule f value)
page_sight_by rule f (suc n) bytes value = holds f n (take bytes (bytes_of value))

abbrev pub sight_by : Rule → Shape → ℕ → Sector → Sight
sight_by rule shape at s =
    cond (is_usable shape at s)
    (cond (in_range (tag s.label)) (page_sight_by rule (tag s.label).fid (tag s.label).page (tag s.label).bytes s.value) (cond (is_free (tag s.label)) free stray))
    hidden

abbrev pub sights_from_by : Rule → Shape → ℕ → List Sector → List Sight
sights_from_by rule shape at [] = []
sights_from_by rule shape at (s ∷ sectors) = sight_by rule shape at s ∷ sights_from_by rule shape (suc at) sectors

abbrev pub sights_by : Rule → Pack → List Sight
sights_by rule p = sights_from_by rule p.shape 0 p.sectors

-- ---- directories
abbrev pub is_entry_by : Rule → List ℕ → Bool
is_entry_by rule words =
    let name = slot_name words in
    word words 0 == 1024 + length words
    && length words == entry_length (length name)
    && length name == word (slot_bytes words) 0
    && rule name
    && list_all (λ b. b == 0) (slot_pad words)
    && word words 4 == 0
    && is_full_name (slot_fid words)

abbrev pub slot_of_by : Rule → List ℕ → Option Item
slot_of_by rule words =
    cond (word words 0 == length words) (Some (space (length words)))
    (cond (is_entry_by rule words) (Some (entry (slot_fid words) (slot_name words))) None)

abbrev pub slot_at_by : Rule → List ℕ → Option Item
slot_at_by rule words = cond (nat_le 1 (first_length words) && nat_le (first_length words) (length words)) (slot_of_by rule (take (first_length words) words)) None

abbrev pub slots_after_by : Rule → ℕ → List ℕ → List Item
slots_after_by rule skip [] = []
slots_after_by rule zero (w ∷ words) = and_then (slot_at_by rule (w ∷ words)) (λ n. slots_after_by rule (n - 1) words)
slots_after_by rule (suc k) (w ∷ words) = slots_after_by rule k words

abbrev pub slots_by : Rule → List ℕ → List Item
slots_by rule = slots_after_by rule 0

pub record IsSlotBy (rule : Rule) (words : List ℕ) (i : Item) : Type 0 where
  pub some : 0 < length words
  pub most : length words < 1024
  pub first : first_length words ≡ length words
  pub reads : slot_of_by rule words ≡ Some i
  pub size : item_words i ≡ length words

pub data ReadsBy (rule : Rule) : List ℕ → List Item → Type 0 where
  none : ReadsBy rule [] []
  next : {words w rest : List ℕ} {i : Item} {is : List Item} → words ≡ w ++ rest → IsSlotBy rule w i → ReadsBy rule rest is → ReadsBy rule words (i ∷ is)

pub record SlotsReachEndBy (rule : Rule) (bytes : List ℕ) : Type 0 where
  pub even : IsEven bytes
  pub items : List Item
  pub reads : ReadsBy rule (words_of bytes) items

-- ---- files and models
abbrev pub file_by : Rule → Fid → StoredFile → File
file_by rule f x = record { leader = x.leader; body = cond (is_directory f) (items_of (slots_by rule (words_of x.bytes))) (data_of x.bytes) }

abbrev pub described_by : Rule → List Sight → Files
described_by rule ss = retain_keys (map_values (file_by rule) (files_shown ss)) is_described

abbrev pub read_sights_by : Rule → Shape → List Sight → Model
read_sights_by rule shape ss = record {
  shape = shape;
  good = good_sectors ss;
  last = last_serial (descriptor_words ss);
  files = tidied (lives ss) (described_by rule ss);
}

abbrev pub read_by : Rule → Pack → Model
read_by rule p = read_sights_by rule p.shape (sights_by rule p)

-- ---- sound packs
pub record WholeSightsBy (rule : Rule) (shape : Shape) (ss : List Sight) : Type 0 where
  pub files : (f : Fid) → FileWhole ss f
  pub used : (i : ℕ) → get_or ss i hidden ≡ stray → ⊥
  pub directories : (d : Fid) → lives ss d ≡ true → is_directory d ≡ true → SlotsReachEndBy rule (file_bytes ss d)
  pub root : (l : Leader) × (get_or ss 1 hidden ≡ leads sys_dir true l)
  pub root_named : IsNamed (read_sights_by rule shape ss) sys_dir
  pub descriptor_named : IsNamed (read_sights_by rule shape ss) disk_descriptor
  pub descriptor_lives : lives ss disk_descriptor ≡ true
  pub descriptor_fits : Fits shape (file_bytes ss disk_descriptor)
  pub last : (f : Fid) → lives ss f ≡ true → serial_of f ≤ (read_sights_by rule shape ss).last

-- Sound, where names are stored names by this rule.
pub record SoundBy (rule : Rule) (p : Pack) : Type 0 where
  pub whole : WholeSightsBy rule p.shape (sights_by rule p)
  pub tidy : IsTidy (lives (sights_by rule p)) (described_by rule (sights_by rule p))
  pub named : (f : Fid) → lives (sights_by rule p) f ≡ true → IsNamed (read_by rule p) f
