-- Files that were found, over several operations of a line, by the model.
use Rattle.std.specs.List.{list_any}
use Rattle.std.specs.Prelude.{Bool, List, Ok, OnOk, Result, Some, [], false, true, ℕ, ◌++◌, ◌∷◌, ◌≡◌, ◌≤◌}
use Rattle.laws_call.specs.alto_words.specs.Fid.{disk_descriptor, is_fid}
use Rattle.laws_call.specs.alto_words.specs.declared.fid.Fid.{Fid}
use Rattle.laws_call.specs.disk_records.specs.Packs.{Pack, after, sector_at}
use Rattle.laws_call.specs.disk_records.specs.Tapes.{added, pack}
use Rattle.laws_call.specs.disk_records.specs.declared.records.Event.{Event}
use Rattle.laws_call.specs.disk_records.specs.declared.records.Place.{Place}
use Rattle.laws_call.specs.Acting.{Around, Operates}
use Rattle.laws_call.specs.Going.{Goes}
use Rattle.laws_call.specs.Several.{Done}
use Rattle.laws_call.specs.Writing.{Written}
use Rattle.laws_call.specs.laws_line.specs.CrashLaws.{with_serial}
use Rattle.laws_call.specs.laws_line.specs.Ready.{steps_of}
use Rattle.laws_call.specs.laws_line.specs.SoundLines.{IsKindOfLine}
use Rattle.laws_call.specs.pack_model.specs.hints.Sources.{IsFrom}
use Rattle.laws_call.specs.pack_model.specs.operations.Step.Operation.{cut, drop_file, enter, grow, leave, make, put, stamp, title, widen}
use Rattle.laws_call.specs.pack_model.specs.operations.Step.{Operation, step}
use Rattle.laws_call.specs.pack_model.specs.reading.Files.{place}
use Rattle.laws_call.specs.pack_model.specs.reading.Model.{Model, dir_items, read_as}
use Rattle.laws_call.specs.pack_model.specs.reading.Sights.{sights}
use Rattle.laws_call.specs.pack_model.specs.reading.Versions.{Entered, exact}
use Rattle.laws_call.specs.pack_model.specs.scavenger.Scavenging.{Unmarked}
use Rattle.laws_call.specs.pack_model.specs.sessions.Descriptor.{serial_writes}
use Rattle.laws_call.specs.pack_model.specs.states.Whole.{Tidy, Whole}
use Rattle.laws_steps.specs.KeepingLaws.{IfByEntry, StaysEntered}

-- ---- by the model
-- as `StaysEntered`, by the entries of the model
abbrev pub StaysFound : Model → Operation → Fid → Place → Type 0
StaysFound m (make f name moment) g from = Unit {0}
StaysFound m (put f offset new) g from = Unit {0}
StaysFound m (grow f new) g from = Unit {0}
StaysFound m (cut f n) g from = Unit {0}
StaysFound m (title f name) g from = Unit {0}
StaysFound m (stamp f moment) g from = Unit {0}
StaysFound m (drop_file f) g from = is_fid g f ≡ false
StaysFound m (leave d name) g from = IfByEntry from ((e : Entered) → exact name (dir_items m d) ≡ Some e → is_fid g e.0 ≡ false)
StaysFound m (enter d name f) g from = Unit {0}
StaysFound m (widen d) g from = Unit {0}

-- on a tidy pack the pack's follows from it, for what is written of an operation
abbrev pub ModelsFoundStaysEntered : Type 0
ModelsFoundStaysEntered = (p : Pack) (o : Operation) (claimed released : List ℕ) (writes : List Event) (g : Fid) (from : Place) → Tidy p → Written p o claimed released writes → StaysFound (read_as p) o g from → StaysEntered p o g from

-- ---- over several operations
-- so it is of each of these operations, on the model before it
abbrev pub StaysFoundOver : Model → List Operation → Fid → Place → Type 0
StaysFoundOver m [] g from = Unit {0}
StaysFoundOver m (o ∷ ops) g from = StaysFound m o g from × StaysFoundOver (step m o) ops g from

-- files that were found on the first pack are found on the second, by the same address from the same place, if they stay found over these
-- operations
abbrev pub KeepsFound : Pack → Pack → List Operation → Type 0
KeepsFound p q ops = (g : Fid) (at : ℕ) (from : Place) → StaysFoundOver (read_as p) ops g from → IsFrom p g at from → IsFrom q g at from

-- no operation does
abbrev pub NoneKeepsFound : Type 0
NoneKeepsFound = (p : Pack) → KeepsFound p p []

-- what is written of one on a whole and tidy pack does
abbrev pub OneKeepsFound : Type 0
OneKeepsFound = (p : Pack) (o : Operation) (claimed released : List ℕ) (writes : List Event) → Whole p → Tidy p → Written p o claimed released writes → KeepsFound p (after p writes) (o ∷ [])

-- so does a call that is to do one, at Ok
abbrev pub OneCallKeepsFound : Type 0 → Type 0 → Type 0
OneCallKeepsFound T E = (fault memory : E) (o : Operation) (claimed : List ℕ) (old new : Around) (result : Result T E)
    → Whole (pack old.tape) → Tidy (pack old.tape) → Operates fault memory o claimed old new result → OnOk result (KeepsFound (pack old.tape) (after (pack old.tape) (added old.tape new.tape)) (o ∷ []))

-- so does a make with its new serial
abbrev pub MakeKeepsFound : Type 0
MakeKeepsFound = (p : Pack) (at last : ℕ) (f : Fid) (name : List ℕ) (moment : ℕ) (claimed released : List ℕ) (writes : List Event) → Whole p → Tidy p → place (sights p) disk_descriptor 1 ≡ Some at → (read_as p).last ≤ last
    → Written (with_serial p at last) (make f name moment) claimed released writes → KeepsFound p (after (with_serial p at last) writes) (make f name moment ∷ [])

-- one after the other do
abbrev pub LaterKeepsFound : Type 0
LaterKeepsFound = (p q r : Pack) (ops more : List Operation) → read_as q ≡ steps_of (read_as p) ops → KeepsFound p q ops → KeepsFound q r more → KeepsFound p r (ops ++ more)

-- so do operations that are done one after another, from a whole and tidy pack
abbrev pub DoneKeepsFound : Type 0 → Type 0
DoneKeepsFound E = (fault memory : E) (old : Around) (ops : List Operation) (claimed : List ℕ) (new : Around) → Whole (pack old.tape) → Tidy (pack old.tape) → Done fault memory old ops claimed new → KeepsFound (pack old.tape) (pack new.tape) ops

-- ---- by the operations alone
-- it drops a file, or takes an entry out
abbrev pub takes_out : Operation → Bool
takes_out (make f name moment) = false
takes_out (put f offset new) = false
takes_out (grow f new) = false
takes_out (cut f n) = false
takes_out (title f name) = false
takes_out (stamp f moment) = false
takes_out (drop_file f) = true
takes_out (leave d name) = true
takes_out (enter d name f) = false
takes_out (widen d) = false

-- over operations of which none does each file stays found, however it was
abbrev pub NoLeaveKeepsFound : Type 0
NoLeaveKeepsFound = (m : Model) (ops : List Operation) (g : Fid) (from : Place) → list_any takes_out ops ≡ false → StaysFoundOver m ops g from

-- it drops this file, or gives its leader a name
abbrev pub drops_or_titles : Fid → Operation → Bool
drops_or_titles g (make f name moment) = false
drops_or_titles g (put f offset new) = false
drops_or_titles g (grow f new) = false
drops_or_titles g (cut f n) = false
drops_or_titles g (title f name) = is_fid g f
drops_or_titles g (stamp f moment) = false
drops_or_titles g (drop_file f) = is_fid g f
drops_or_titles g (leave d name) = false
drops_or_titles g (enter d name f) = false
drops_or_titles g (widen d) = false

-- over a line that drops or renames another file, and over each line that drops and renames none, this one stays found
abbrev pub OtherFilesStayFound : Type 0
OtherFilesStayFound = (m : Model) (ops : List Operation) (g : Fid) (from : Place) → IsKindOfLine m ops → list_any (drops_or_titles g) ops ≡ false → StaysFoundOver m ops g from

-- ---- over calls
-- calls on a whole, tidy and unmarked pack that did operations over which such files are found, and then what is written of one more
abbrev pub WrittenKeepsFoundOver : Type 0 → Type 0 → Type 0
WrittenKeepsFoundOver U F = (p : Pack) (ops : List Operation) (events : List Event) (x : U) (o : Operation) (claimed released : List ℕ) (writes : List Event)
    → Whole p → Tidy p → Unmarked p → Goes {E = F} p ops events (Ok x) → KeepsFound p (after p events) ops → Written (after p events) o claimed released writes → KeepsFound p (after p (events ++ writes)) (ops ++ o ∷ [])

-- or a call that is to do one more
abbrev pub CallKeepsFound : Type 0 → Type 0 → Type 0 → Type 0 → Type 0
CallKeepsFound T U E F = (p : Pack) (ops : List Operation) (events : List Event) (x : U) (fault memory : E) (o : Operation) (claimed : List ℕ) (old new : Around) (result : Result T E)
    → Whole p → Tidy p → Unmarked p → Goes {E = F} p ops events (Ok x) → KeepsFound p (after p events) ops → pack old.tape ≡ after p events → Operates fault memory o claimed old new result
    → OnOk result (KeepsFound p (after p (events ++ added old.tape new.tape)) (ops ++ o ∷ []))

-- or a new serial and a call that is to do its make
abbrev pub SerialAndMakeKeepFound : Type 0 → Type 0 → Type 0 → Type 0 → Type 0
SerialAndMakeKeepFound T U E F = (p : Pack) (ops : List Operation) (events : List Event) (x : U) (f : Fid) (name : List ℕ) (moment at last : ℕ) (fault memory : E) (claimed : List ℕ) (old new : Around) (result : Result T E)
    → Whole p → Tidy p → Unmarked p → Goes {E = F} p ops events (Ok x) → KeepsFound p (after p events) ops → place (sights (after p events)) disk_descriptor 1 ≡ Some at → (read_as (after p events)).last ≤ last
    → pack old.tape ≡ with_serial (after p events) at last → Operates fault memory (make f name moment) claimed old new result
    → OnOk result (KeepsFound p (after p (events ++ (serial_writes at last (sector_at (after p events) at).value ++ added old.tape new.tape))) (ops ++ make f name moment ∷ []))
