-- No page is carried twice, at any cut of an operation on a whole pack.
use Rattle.std.specs.Prelude.{Bool, List, Some, ℕ, ◌≡◌}
use Rattle.laws_contents.specs.alto_words.specs.declared.fid.Fid.{Fid}
use Rattle.laws_contents.specs.disk_records.specs.Packs.{Pack, carried}
use Rattle.laws_contents.specs.disk_records.specs.declared.records.Event.{Event}
use Rattle.laws_contents.specs.disk_records.specs.declared.records.Page.{Page}
use Rattle.laws_contents.specs.disk_records.specs.declared.shape.Shape.{Shape}
use Rattle.laws_contents.specs.pack_model.specs.operations.Commands.{Claim, values_writes}
use Rattle.laws_contents.specs.pack_model.specs.sessions.Descriptor.{close_writes, open_writes}
use Rattle.laws_contents.specs.pack_model.specs.operations.Operations.{cut_writes, drop_writes, enter_writes, release_file_writes, grow_writes, make_writes}
use Rattle.laws_contents.specs.pack_model.specs.scavenger.Scavenging.{Throughout}
use Rattle.laws_contents.specs.pack_model.specs.states.Whole.{Whole}
use Rattle.laws_operation.specs.ByteLaws.{MayCut, MayGrow}
use Rattle.laws_operation.specs.LifeLaws.{MayMake}
use Rattle.laws_operation.specs.NameLaws.{MayWiden}

-- two sectors carry two pages
abbrev pub CarriedOnce : Pack → Type 0
CarriedOnce p = (i j : ℕ) (page : Page) → carried p i ≡ Some page → carried p j ≡ Some page → i ≡ j

-- at each crash point of these record writes
abbrev pub StaysOnce : Pack → List Event → Type 0
StaysOnce p events = Throughout CarriedOnce p events

-- a whole pack
abbrev pub WholePackCarriesOnce : Type 0
WholePackCarriesOnce = (p : Pack) → Whole p → CarriedOnce p

-- any values in any sectors: a put, a title, a stamp, a leaving, a freed slot, a new serial
abbrev pub ValuesCarryOnce : Type 0
ValuesCarryOnce = (p : Pack) (values : List (ℕ × List ℕ)) → Whole p → StaysOnce p (values_writes values)

-- opening and closing
abbrev pub OpenCarriesOnce : Type 0
OpenCarriesOnce = (p : Pack) (mark at : ℕ) (value : List ℕ) → Whole p → StaysOnce p (open_writes mark at value)

abbrev pub CloseCarriesOnce : Type 0
CloseCarriesOnce = (p : Pack) (mark : ℕ) (shape : Shape) (last : ℕ) (busy : List Bool) (pages : List ℕ) → Whole p → StaysOnce p (close_writes mark shape last busy pages)

-- an entering
abbrev pub EnterCarriesOnce : Type 0
EnterCarriesOnce = (p : Pack) (before : List (ℕ × List ℕ)) (at : ℕ) (value : List ℕ) → Whole p → StaysOnce p (enter_writes before at value)

-- a growth
abbrev pub GrowCarriesOnce : Type 0
GrowCarriesOnce = (p : Pack) (f : Fid) (new : List ℕ) (claims : List Claim) (at : ℕ) (label value : List ℕ) → Whole p → MayGrow p f new claims at label value → StaysOnce p (grow_writes claims at label value)

-- a widening
abbrev pub WidenCarriesOnce : Type 0
WidenCarriesOnce = (p : Pack) (d : Fid) (added : List ℕ) (claims : List Claim) (at : ℕ) (label value : List ℕ) → Whole p → MayWiden p d added claims at label value → StaysOnce p (grow_writes claims at label value)

-- a cut, with any value
abbrev pub CutCarriesOnce : Type 0
CutCarriesOnce = (p : Pack) (f : Fid) (n at : ℕ) (label value later : List ℕ) → Whole p → MayCut p f n at label later → StaysOnce p (cut_writes at label value later)

-- a make
abbrev pub MakeCarriesOnce : Type 0
MakeCarriesOnce = (p : Pack) (f : Fid) (name : List ℕ) (moment : ℕ) (page leader : Claim) → Whole p → MayMake p f name moment page leader → StaysOnce p (make_writes page leader)

-- a drop, of any sectors
abbrev pub DropCarriesOnce : Type 0
DropCarriesOnce = (p : Pack) (at : ℕ) (pages : List ℕ) (slot_at : ℕ) (value : List ℕ) → Whole p → StaysOnce p (drop_writes at pages slot_at value)

-- except its entry's slot
abbrev pub ReleaseCarriesOnce : Type 0
ReleaseCarriesOnce = (p : Pack) (at : ℕ) (pages : List ℕ) → Whole p → StaysOnce p (release_file_writes at pages)
