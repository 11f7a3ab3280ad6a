-- How calls join to a line: a call that does an operation, one that writes nothing, a new serial with its make, and an end.
use Rattle.std.specs.Prelude.{Err, List, Ok, OnOk, Result, Some, [], ℕ, ◌++◌, ◌∷◌, ◌≡◌, ◌≤◌}
use Rattle.laws_hint.specs.alto_words.specs.Fid.{disk_descriptor}
use Rattle.laws_hint.specs.alto_words.specs.declared.fid.Fid.{Fid}
use Rattle.laws_hint.specs.disk_records.specs.Events.{IsFirstOf}
use Rattle.laws_hint.specs.disk_records.specs.Packs.{Pack, after, sector_at}
use Rattle.laws_hint.specs.disk_records.specs.Tapes.{added, pack}
use Rattle.laws_hint.specs.disk_records.specs.declared.records.Event.{Event}
use Rattle.laws_hint.specs.pack_model.specs.operations.Committing.{serial_moves}
use Rattle.laws_hint.specs.pack_model.specs.operations.Step.Operation.{make}
use Rattle.laws_hint.specs.pack_model.specs.operations.Step.{Operation}
use Rattle.laws_hint.specs.pack_model.specs.reading.Files.{place}
use Rattle.laws_hint.specs.pack_model.specs.reading.Model.{read_as}
use Rattle.laws_hint.specs.pack_model.specs.reading.Sights.{sights}
use Rattle.laws_hint.specs.pack_model.specs.sessions.Descriptor.{serial_writes}
use Rattle.laws_call.specs.Acting.{Around, Operates}
use Rattle.laws_call.specs.Going.{Goes}
use Rattle.laws_hint.specs.laws_line.specs.CrashLaws.{StaysMendable, with_serial}

-- no call yet
abbrev pub NoCallYet : Type 0 → Type 0 → Type 0
NoCallYet T E = (p : Pack) (result : Result T E) → Goes p [] [] result

-- Such calls, and then a prefix of the record writes of an operation which needs no serial, whichever calls make them: so a drop is one
-- operation, though one call releases the file's sectors and another frees its entry's slot.
abbrev pub OperationJoins : Type 0 → Type 0 → Type 0 → Type 0 → Type 0
OperationJoins T U E F = (p : Pack) (ops : List Operation) (events : List Event) (x : U) (o : Operation) (writes some : List Event) (result : Result T E)
    → Goes {E = F} p ops events (Ok x) → serial_moves o ≡ [] → StaysMendable (after p events) writes o → IsFirstOf writes some → OnOk result (some ≡ writes) → Goes p (ops ++ o ∷ []) (events ++ some) result

-- such calls, and then one that is to do an operation which needs no serial
abbrev pub CallJoins : Type 0 → Type 0 → Type 0 → Type 0 → Type 0
CallJoins T U E F = (p : Pack) (ops : List Operation) (events : List Event) (x : U) (fault memory : E) (o : Operation) (claimed : List ℕ) (old new : Around) (result : Result T E)
    → Goes {E = F} p ops events (Ok x) → pack old.tape ≡ after p events → serial_moves o ≡ [] → Operates fault memory o claimed old new result
    → Goes p (ops ++ o ∷ []) (events ++ added old.tape new.tape) result

-- such calls, and then one that writes nothing, whatever it answers
abbrev pub SilentCallJoins : Type 0 → Type 0 → Type 0 → Type 0 → Type 0
SilentCallJoins T U E F = (p : Pack) (ops : List Operation) (events : List Event) (x : U) (result : Result T E) → Goes {E = F} p ops events (Ok x) → Goes p ops events result

-- calls after which the line ends with an error do a prefix of it
abbrev pub LineStops : Type 0 → Type 0 → Type 0 → Type 0 → Type 0
LineStops T U E F = (p : Pack) (ops more : List Operation) (events : List Event) (before : Result U F) (error : E) → Goes p ops events before → Goes {T = T} p (ops ++ more) events (Err error)

-- ---- a serial and its make are one step
-- Such calls, then a new serial, and record writes of a make on the pack with it: a prefix of the serial's; and then a call that is to
-- do the make, which may write nothing.
pub record MakeJoins (T E : Type 0) (p : Pack) (ops : List Operation) (events : List Event) (f : Fid) (name : List ℕ) (moment at last : ℕ) : Type 0 where
  pub serial_breaks : (some : List Event) (error : E) → IsFirstOf (serial_writes at last (sector_at (after p events) at).value) some → Goes {T = T} p (ops ++ make f name moment ∷ []) (events ++ some) (Err error)
  pub make_joins : (fault memory : E) (claimed : List ℕ) (old new : Around) (result : Result T E) → pack old.tape ≡ with_serial (after p events) at last → Operates fault memory (make f name moment) claimed old new result
      → Goes p (ops ++ make f name moment ∷ []) (events ++ (serial_writes at last (sector_at (after p events) at).value ++ added old.tape new.tape)) result

abbrev pub SerialAndMakeJoin : Type 0 → Type 0 → Type 0 → Type 0 → Type 0
SerialAndMakeJoin T U E F = (p : Pack) (ops : List Operation) (events : List Event) (x : U) (f : Fid) (name : List ℕ) (moment at last : ℕ) (writes : List Event)
    → Goes {E = F} p ops events (Ok x) → place (sights (after p events)) disk_descriptor 1 ≡ Some at → (read_as (after p events)).last ≤ last
    → StaysMendable (with_serial (after p events) at last) writes (make f name moment) → MakeJoins T E p ops events f name moment at last
