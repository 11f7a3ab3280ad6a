-- Opening a pack: when it opens, what is shown if it doesn't, and what a session keeps as it begins or goes on after a scavenge.
-- When a pack opens is this project's choice.
use Rattle.std.specs.Prelude.{◌≡◌, ℕ, ◌==◌, ◌&&◌, Bool, false, cond, codes, List, [], ◌∷◌, ◌++◌, length, Option, Some, None}
use Rattle.std.specs.Option.{option_map}
use Rattle.exec_words.specs.alto_words.specs.declared.fid.Fid.{Fid}
use Rattle.exec_words.specs.alto_words.specs.Fid.{is_fid, sys_dir, disk_descriptor}
use Rattle.exec_words.specs.disk_records.specs.declared.records.Page.{Page}
use Rattle.exec_words.specs.disk_records.specs.Addresses.{disks_of, cylinders_of, table_words, descriptor_length}
use Rattle.exec_words.specs.disk_records.specs.Packs.{Pack, carried, label_found}
use Rattle.exec_words.specs.disk_records.specs.Words.{word}
use Rattle.exec_words.specs.pack_model.specs.hints.Tables.{HintsTrue}
use Rattle.exec_words.specs.pack_model.specs.hints.Truth.{Truthful}
use Rattle.exec_words.specs.pack_model.specs.reading.Bytes.{words_of}
use Rattle.exec_words.specs.pack_model.specs.reading.Files.{first, file_bytes}
use Rattle.exec_words.specs.pack_model.specs.reading.Model.{read_as, descriptor_words}
use Rattle.exec_words.specs.pack_model.specs.reading.Namings.{descriptor_name}
use Rattle.exec_words.specs.pack_model.specs.reading.Sights.{sights}
use Rattle.exec_words.specs.pack_model.specs.reading.Slots.{Item, slots}
use Rattle.exec_words.specs.pack_model.specs.reading.Versions.{exact}
use Rattle.exec_words.specs.pack_model.specs.sessions.Tallies.{no_tally}
use Rattle.exec_words.specs.pack_model.specs.states.Sound.{mark_clean, mark_of}
use Rattle.exec_words.specs.Texts.{line_of, with_number, found_text}
use Rattle.session_model.specs.Worlds.{mended_world}
use Rattle.session_model.specs.Turning.{State, opening}
use Rattle.session_model.specs.Keeping.{Kept, world_of, Keeping}

-- Why a pack isn't entered: the label in sector 1; DiskDescriptor has no entry; its length; a word of it that says another shape, and what
-- it says; the mark.
pub data Unready : Type 0 where
  no_root : Option (List ℕ) → Unready
  no_descriptor : Unready
  wrong_length : ℕ → Unready
  bad_descriptor : ℕ → ℕ → Unready
  not_clean : ℕ → Unready

-- ---- the tests, by labels and words alone: no link, no address and no map is looked at
abbrev pub unless_so : Bool → Unready → Option Unready
unless_so b u = cond b None (Some u)

abbrev pub is_root : Option Page → Bool
is_root None = false
is_root (Some page) = is_fid page.fid sys_dir && page.number == 0

abbrev pub slots_of_root : Pack → List Item
slots_of_root p = slots (words_of (file_bytes (sights p) sys_dir))

abbrev pub is_descriptor : Option Fid → Bool
is_descriptor None = false
is_descriptor (Some f) = is_fid f disk_descriptor

-- the first entry of the name in SysDir, whatever file it is of
abbrev pub descriptor_entry : Pack → Option Fid
descriptor_entry p = option_map (λ e. e.0) (exact descriptor_name (slots_of_root p))

abbrev pub descriptor_bytes : Pack → List ℕ
descriptor_bytes p = file_bytes (sights p) disk_descriptor

-- a word of DiskDescriptor, and what the shape says it is
abbrev pub shape_word : Pack → ℕ → ℕ → Option Unready
shape_word p n expected = unless_so (word (descriptor_words (sights p)) n == expected) (bad_descriptor n (word (descriptor_words (sights p)) n))

-- in the order in which they are made
abbrev pub unready_tests : Pack → List (Option Unready)
unready_tests p =
    unless_so (is_root (carried p 1)) (no_root (label_found p 1))
    ∷ unless_so (is_descriptor (descriptor_entry p)) no_descriptor
    ∷ unless_so (length (descriptor_bytes p) == descriptor_length p.shape) (wrong_length (length (descriptor_bytes p)))
    ∷ shape_word p 0 (disks_of p.shape)
    ∷ shape_word p 1 (cylinders_of p.shape)
    ∷ shape_word p 2 2
    ∷ shape_word p 3 12
    ∷ shape_word p 8 (table_words p.shape)
    ∷ unless_so (mark_of (sights p) == mark_clean) (not_clean (mark_of (sights p)))
    ∷ []

-- why a pack that carries no page twice isn't entered; none where it opens, unless a hint misleads on the way
abbrev pub unready : Pack → Option Unready
unready p = first (λ u. u) (unready_tests p)

-- ---- the text that is shown then
abbrev pub unready_text : Unready → List ℕ
unready_text (no_root found) = line_of (codes "no root: found" ++ found_text found)
unready_text no_descriptor = line_of (codes "no descriptor")
unready_text (wrong_length size) = line_of (with_number (codes "wrong descriptor length ") size)
unready_text (bad_descriptor n found) = line_of (with_number (codes "bad descriptor: word ") n ++ with_number (codes " is ") found)
unready_text (not_clean mark) = line_of (with_number (codes "pack not clean: mark ") mark)

-- the files whose hints are followed on the way
abbrev pub system_files : List Fid
system_files = sys_dir ∷ disk_descriptor ∷ []

-- ---- what is kept
-- As a session begins: it stands as it opens, nothing is counted, and hints that are true are true of what is kept.
pub record Begun (p : Pack) (k : Kept) (moment limit : ℕ) : Type 0 where
  pub keeping : Keeping p k (opening p moment)
  pub tally : k.tally ≡ no_tally limit
  pub truthful : HintsTrue p → Truthful p k.busy

-- it goes on, from a state before a scavenge, with the model of the mended pack
abbrev pub goes_on : Pack → State → State
goes_on p s = record { model = read_as p; world = mended_world s.world; over = false }

-- After a scavenge that a session asked for: the world stays, the tally too, every hint is true, and no address is kept.
pub record Renewed (p : Pack) (one two : Kept) : Type 0 where
  pub keeping : (s : State) → s.world ≡ world_of one → s.world.streams ≡ [] → Keeping p two (goes_on p s)
  pub tally : two.tally ≡ one.tally
  pub truthful : Truthful p two.busy
  pub cache : two.cache ≡ []
