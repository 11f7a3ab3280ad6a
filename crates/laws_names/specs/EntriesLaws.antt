-- Entries that stand where they stood while names are mended, and those that come.
use Rattle.std.specs.Prelude.{◌≡◌, ◌⊎◌, ◌++◌, ◌∷◌, ℕ, false, true, All, List, [], Contains}
use Rattle.std.specs.FinMap.{entries}
use Rattle.laws_mend.specs.alto_words.specs.declared.fid.Fid.{Fid}
use Rattle.laws_mend.specs.alto_words.specs.Fid.{is_directory, is_fid}
use Rattle.laws_mend.specs.disk_records.specs.Packs.{Pack}
use Rattle.laws_mend.specs.pack_model.specs.hints.Links.{IsTrueAddress, dir_slots, dir_words}
use Rattle.laws_mend.specs.pack_model.specs.reading.Bodies.{File, found}
use Rattle.laws_mend.specs.pack_model.specs.reading.Files.{leader, lives, place}
use Rattle.laws_mend.specs.pack_model.specs.reading.Leaders.{Leader}
use Rattle.laws_mend.specs.pack_model.specs.reading.Model.{IsNamed, read_as}
use Rattle.laws_mend.specs.pack_model.specs.reading.Namings.{namings_in}
use Rattle.laws_mend.specs.pack_model.specs.reading.Sights.{sights}
use Rattle.laws_mend.specs.pack_model.specs.reading.SlotWords.{SlotAt, slots_at}
use Rattle.laws_mend.specs.pack_model.specs.reading.Slots.{Item, all_words, slots}
use Rattle.laws_mend.specs.pack_model.specs.reading.Slots.Item.{entry}
use Rattle.laws_mend.specs.pack_model.specs.scavenger.Reports.{NamesMended, PagesMended}
use Rattle.laws_mend.specs.pack_model.specs.sessions.Maps.{map_entries}
use Rattle.laws_mend.specs.pack_model.specs.states.Whole.{Tidy}
use Rattle.laws_mend.specs.laws_lookup.specs.OwnLaws.{ReplacesSlots}
use Rattle.laws_mend.specs.WidenLaws.{DirectoryIsWidened}

-- Each leader page has its place, each entry of p stands where it stood with the same address, and each other one has a true address.
pub record EntriesStay (p q : Pack) : Type 0 where
  pub leaders_are : (f : Fid) → place (sights q) f 0 ≡ place (sights p) f 0
  pub stay : (d : Fid) (s : SlotAt) (f : Fid) (name : List ℕ) → lives (sights p) d ≡ true → is_directory d ≡ true → Contains (dir_slots p d) s → s.item ≡ entry f name → Contains (dir_slots q d) s
  pub come : (d : Fid) (s : SlotAt) → lives (sights q) d ≡ true → is_directory d ≡ true → Contains (dir_slots q d) s → Contains (dir_slots p d) s ⊎ IsTrueAddress (sights q) s.item s.address

-- so it is with no record write, and from one pack to the next and on
abbrev pub NothingKeepsEntries : Type 0
NothingKeepsEntries = (p : Pack) → EntriesStay p p

abbrev pub EntriesStayOn : Type 0
EntriesStayOn = (p q r : Pack) → EntriesStay p q → EntriesStay q r → EntriesStay p r

-- of the slots of one directory free ones go alone, and the entries that come in their place have true addresses
abbrev pub NewSlotsKeepEntries : Type 0
NewSlotsKeepEntries = (p q : Pack) (d : Fid) (a old new b : List Item) → ReplacesSlots p q d a old new b → namings_in d old ≡ [] → ((s : SlotAt) → Contains (slots_at (dir_words q d) (all_words a) new) s → IsTrueAddress (sights q) s.item s.address)
    → ((e : Fid) → is_fid e d ≡ false → dir_words q e ≡ dir_words p e) → ((f : Fid) → place (sights q) f 0 ≡ place (sights p) f 0) → EntriesStay p q

-- a directory gets a page more
abbrev pub WideningKeepsEntries : Type 0
WideningKeepsEntries = (p q : Pack) (d : Fid) (at fresh : ℕ) → DirectoryIsWidened p q d at fresh → EntriesStay p q

-- ---- slots where they stand
-- A slot of a directory by those before it and those after it.
pub record SplitsAt (p : Pack) (d : Fid) (s : SlotAt) : Type 0 where
  pub before : List Item
  pub behind : List Item
  pub slots_are : slots (dir_words p d) ≡ before ++ s.item ∷ behind
  pub place : s.place ≡ all_words before

abbrev pub SlotSplits : Type 0
SlotSplits = (p : Pack) (d : Fid) (s : SlotAt) → Contains (dir_slots p d) s → SplitsAt p d s

-- ---- files with the same leaders
-- the living files in their order, with their leaders, are the same
abbrev pub LeadersAreListed : Type 0
LeadersAreListed = (p q : Pack) → ((f : Fid) → leader (sights q) f ≡ leader (sights p) f) → map_entries {X = File} {Y = Leader} (λ f x. x.leader) (entries (found (sights q))) ≡ map_entries {X = File} {Y = Leader} (λ f x. x.leader) (entries (found (sights p)))

-- ---- the end
-- pages are mended: if each entry is kept and has a true address, and each living file has one, names are mended
abbrev pub NamesAreMended : Type 0
NamesAreMended = (p : Pack) → PagesMended p → Tidy p → ((f : Fid) → lives (sights p) f ≡ true → IsNamed (read_as p) f) → ((d : Fid) → lives (sights p) d ≡ true → is_directory d ≡ true → All (λ s. IsTrueAddress (sights p) s.item s.address) (dir_slots p d)) → NamesMended p
