-- Files that were found, by where the addresses of their leaders came from: they stay found, and a leader that isn't there shows that the
-- hint misleads.
use Rattle.std.specs.Prelude.{List, Some, false, true, ℕ, ◌+◌, ◌<◌, ◌≡◌, ◌≤◌, ◌⊎◌}
use Rattle.laws_operation.specs.alto_words.specs.Fid.{is_directory, is_fid}
use Rattle.laws_operation.specs.alto_words.specs.declared.fid.Fid.{Fid}
use Rattle.laws_operation.specs.alto_words.specs.declared.wanted.Wanted.{Wanted}
use Rattle.laws_operation.specs.disk_records.specs.Packs.{Pack, after, carried, label_found}
use Rattle.laws_operation.specs.disk_records.specs.declared.records.Event.{Event}
use Rattle.laws_operation.specs.disk_records.specs.declared.records.Place.{Place}
use Rattle.laws_operation.specs.disk_records.specs.declared.records.Place.TheVariants.{Entry, Held, Next, Root}
use Rattle.laws_operation.specs.pack_model.specs.hints.Links.{dir_slots}
use Rattle.laws_operation.specs.pack_model.specs.hints.Misled.{AnswersMisled, leader_page}
use Rattle.laws_operation.specs.pack_model.specs.hints.Sources.{IsFrom}
use Rattle.laws_operation.specs.pack_model.specs.reading.Files.{lives}
use Rattle.laws_operation.specs.pack_model.specs.reading.Lookup.{EntryAt, entry_at}
use Rattle.laws_operation.specs.pack_model.specs.reading.SlotWords.{address_word}
use Rattle.laws_operation.specs.pack_model.specs.reading.Sights.{sights}
use Rattle.laws_operation.specs.pack_model.specs.reading.Slots.{Item, all_words}
use Rattle.laws_operation.specs.pack_model.specs.states.Whole.{Whole}
use Rattle.laws_lookup.specs.OtherLaws.{KeepsPages, LeavesOthers}
use Rattle.laws_lookup.specs.OwnLaws.{ReplacesSlots}

-- ---- found
-- an entry that was looked up is where its file was found
abbrev pub LookedUpFileIsFound : Type 0
LookedUpFileIsFound = (p : Pack) (d : Fid) (w : Wanted) (e : EntryAt) → lives (sights p) d ≡ true → is_directory d ≡ true → entry_at w (dir_slots p d) ≡ Some e → IsFrom p e.fid e.address (Entry d (address_word e.place))

-- if the sector with this address doesn't carry the file's leader, the hint misleads, and what is found is the label there, if there is one
abbrev pub LeaderThatIsNotThereMisleads : Type 0
LeaderThatIsNotThereMisleads = (p : Pack) (events : List Event) (f : Fid) (at : ℕ) (place : Place) → IsFrom p f at place → (carried p at ≡ Some (leader_page f) → ⊥) → AnswersMisled p events place at (leader_page f) (label_found (after p events) at)

-- ---- over an operation
-- the place isn't an entry of this directory
abbrev pub IsElsewhere : Fid → Place → Type 0
IsElsewhere f Root = Unit {0}
IsElsewhere f (Entry d w) = is_fid d f ≡ false
IsElsewhere f (Next i) = Unit {0}
IsElsewhere f (Held i) = Unit {0}

-- on another file, or on this one where its leader stays in its place: a put, a growth, a cut, a title, a stamp, a make, the releases of
-- a drop, a new serial, opening
abbrev pub FoundFileStaysFound : Type 0
FoundFileStaysFound = (f : Fid) (p : Pack) (events : List Event) (g : Fid) (at : ℕ) (place : Place) → Whole p → LeavesOthers f p (after p events) → IsElsewhere f place → (is_fid g f ≡ false) ⊎ KeepsPages f 0 p (after p events) → IsFrom p g at place → IsFrom (after p events) g at place

-- it isn't an address word of these slots
abbrev pub IsBeside : Fid → ℕ → ℕ → Place → Type 0
IsBeside d from to Root = Unit {0}
IsBeside d from to (Entry e w) = is_fid e d ≡ true → (w < from) ⊎ (to ≤ w)
IsBeside d from to (Next i) = Unit {0}
IsBeside d from to (Held i) = Unit {0}

-- on the slots of a directory: an entering, a leaving, a widening, the last value of a drop
abbrev pub FoundFileStaysFoundBesideSlots : Type 0
FoundFileStaysFoundBesideSlots = (p : Pack) (events : List Event) (d : Fid) (a old new b : List Item) (g : Fid) (at : ℕ) (place : Place) → Whole p → LeavesOthers d p (after p events) → KeepsPages d 0 p (after p events) → ReplacesSlots p (after p events) d a old new b
    → IsBeside d (all_words a) (all_words a + all_words old) place → IsFrom p g at place → IsFrom (after p events) g at place
