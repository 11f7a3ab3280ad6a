-- What holds of a pack after each part of a mending of its names.
use Rattle.std.specs.Prelude.{◌≡◌, ◌⊎◌, ℕ, ◌<◌, true, List, [], ◌∷◌, All, Contains, Some}
use Rattle.std.specs.Option.{option_map}
use Rattle.std.specs.declared.cmp.Ordering.TheVariants.{Less}
use Rattle.alto_words.specs.declared.fid.Fid.{Fid}
use Rattle.alto_words.specs.Fid.{fid_cmp, is_directory}
use Rattle.disk_records.specs.Packs.{Pack}
use Rattle.laws_room.specs.NextLaws.{Lacking, mended_pack}
use Rattle.pack_model.specs.hints.Links.{IsTrueAddress, dir_slots}
use Rattle.pack_model.specs.reading.Files.{lives, place}
use Rattle.pack_model.specs.reading.Model.{root_items}
use Rattle.pack_model.specs.reading.Sights.{sights}
use Rattle.pack_model.specs.reading.SlotWords.{SlotAt}
use Rattle.pack_model.specs.reading.Slots.Item.{entry}
use Rattle.pack_model.specs.scavenger.Mended.{lacking}
use Rattle.pack_model.specs.scavenger.Reports.{NamesMended, PagesMended, adopted_files}
use Rattle.pack_model.specs.scavenger.Scavenging.{Scavengeable}
use Rattle.pack_model.specs.states.Whole.{Tidy}
use Rattle.scav_names.specs.declared.living.Living.{Living}
use Rattle.scav_names.specs.declared.placed.PlacedEntry.{PlacedEntry}
use Rattle.scav_names.specs.Living.{Rises, living_files, living_in}
use Rattle.scav_names.specs.Parting.{kept_entries}

-- ---- before
-- the pack can be scavenged, and its pages are mended
pub record MayBeNamed (p : Pack) : Type 0 where
  pub scavengeable : Scavengeable p
  pub pages : PagesMended p

-- ---- between two packs
-- every page stays where it is
abbrev pub PlacesStay : Pack → Pack → Type 0
PlacesStay p q = (f : Fid) (n : ℕ) → place (sights q) f n ≡ place (sights p) f n

-- ---- entries that aren't kept
-- none is left; those that are kept, those that are lacking, and SysDir's slots as names will be entered in them, are as before
pub record UnkeptFreed (p q : Pack) (done : Unit {0}) : Type 0 where
  pub named : MayBeNamed q
  pub tidy : Tidy q
  pub kept : kept_entries q ≡ kept_entries p
  pub lacking_is : lacking (mended_pack q) ≡ lacking (mended_pack p)
  pub root : root_items (mended_pack q) ≡ root_items (mended_pack p)
  pub places : PlacesStay p q
  pub living : living_files q ≡ living_files p
  pub adopted : adopted_files q ≡ adopted_files p

-- ---- addresses
-- an entry as a slot where it stands
abbrev pub slot_of : PlacedEntry → SlotAt
slot_of e = record { place = e.place; item = entry e.fid e.name; address = e.leader_at }

-- a slot's address is true, or it is one of these entries
abbrev pub IsTrueBut : Pack → List PlacedEntry → Fid → SlotAt → Type 0
IsTrueBut p kept d s = ((e : PlacedEntry) → Contains kept e → e.dir ≡ d → e.place ≡ s.place → ⊥) → IsTrueAddress (sights p) s.item s.address

-- it is one of a living directory, and stands where it says
pub record StandsThere (p : Pack) (e : PlacedEntry) : Type 0 where
  pub living : lives (sights p) e.dir ≡ true
  pub directory : is_directory e.dir ≡ true
  pub stands : Contains (dir_slots p e.dir) (slot_of e)

-- an entry comes before another: by directory, and then by place
abbrev pub StandsBefore : PlacedEntry → PlacedEntry → Type 0
StandsBefore e f = (fid_cmp e.dir f.dir ≡ Less) ⊎ ((e.dir ≡ f.dir) × (e.place < f.place))

-- each before those after it
abbrev pub AreInOrder : List PlacedEntry → Type 0
AreInOrder [] = Unit {0}
AreInOrder (e ∷ es) = All (StandsBefore e) es × AreInOrder es

-- the file that it names is one of these
abbrev pub IsAlive : List Living → PlacedEntry → Type 0
IsAlive files e = (x : Living) × (living_in files e.fid ≡ Some x)

-- All entries are kept, and none is lacking. These ones stand where they say, in order, each of a file in memory, which has the sectors of
-- all leader pages; all others have true addresses.
pub record MayBeAddressed (p : Pack) (files : List Living) (kept : List PlacedEntry) : Type 0 where
  pub pages : PagesMended p
  pub tidy : Tidy p
  pub lacking_none : Lacking p []
  pub rises : Rises files
  pub leaders : (f : Fid) → option_map (λ x. x.leader_at) (living_in files f) ≡ place (sights p) f 0
  pub alive : All (IsAlive files) kept
  pub stand : All (StandsThere p) kept
  pub order : AreInOrder kept
  pub others : (d : Fid) → lives (sights p) d ≡ true → is_directory d ≡ true → All (IsTrueBut p kept d) (dir_slots p d)

-- and all addresses are true
abbrev pub AddressesTrue : Pack → Pack → Unit {0} → Type 0
AddressesTrue p q done = NamesMended q
