-- What a machine holds and what has happened to it.
use Rattle.std.specs.Prelude.{◌≡◌, ◌≢◌, ℕ, ◌+◌, ◌-◌, ◌^◌, ◌<◌, ◌≤◌, ◌↔◌, min, Bool, IsTrue, List, [], ◌∷◌, ◌++◌, length, take, drop, Some, None, Result, Ok, Err, IsErrOf, OnOk, OnErr, IfOk}
use Rattle.disk_records.specs.declared.records.Sector.{Sector}
use Rattle.disk_records.specs.declared.records.Plan.{Plan}
use Rattle.disk_records.specs.declared.records.Front.{Front}
use Rattle.disk_records.specs.declared.records.Event.{Event}
use Rattle.disk_records.specs.declared.shape.Shape.{Shape}
use Rattle.disk_records.specs.declared.traits.DiskError.{DiskError}
use Rattle.disk_records.specs.declared.traits.DiskError.TheVariants.{Mismatch, Failed, Memory}
use Rattle.disk_records.specs.declared.traits.ConsoleError.{ConsoleError}
use Rattle.disk_records.specs.declared.traits.ConsoleError.TheVariants as console
use Rattle.disk_records.specs.Packs.{Pack, sector_at, after}
use Rattle.disk_records.specs.Checks.{mismatch as first_mismatch, memory_after, writes_of}
use Rattle.disk_records.specs.Events.{IsFirstOf, shown_events, shown_bytes}

-- One machine: its shape, the sectors that it began with, the events since then, the keys that are left, the counts of
-- its faults, of its sector commands and of its record writes, and the events for which memory is kept ready. Of a machine that isn't told
-- only the shape, the counts of faults and `writes` mean anything.
pub record Taped : Type 0 where
  pub form : Shape
  pub base : List Sector
  pub events : List Event
  pub keys : List ℕ
  pub disk_faults : ℕ
  pub key_faults : ℕ
  pub show_faults : ℕ
  pub runs : ℕ
  pub writes : ℕ
  pub spare : ℕ

-- the pack that a machine began with, and the pack now
abbrev pub first_pack : Taped → Pack
first_pack t = record { shape = t.form; sectors = t.base }

abbrev pub pack : Taped → Pack
pack t = after (first_pack t) t.events

-- the events of a call
abbrev pub added : Taped → Taped → List Event
added old new = drop (length old.events) new.events

-- a count stands at its type's end
abbrev pub capped : ℕ → ℕ
capped n = min n (2 ^ 64 - 1)

-- a count has risen, or stands at its end
abbrev pub Rose : ℕ → ℕ → Type 0
Rose before now = capped (before + 1) ≤ now

-- ---- what a call leaves as it is
-- what no call changes or takes back
pub record Grown (old new : Taped) : Type 0 where
  pub form : new.form ≡ old.form
  pub base : new.base ≡ old.base
  pub events : new.events ≡ old.events ++ added old new
  pub disk_faults : old.disk_faults ≤ new.disk_faults
  pub key_faults : old.key_faults ≤ new.key_faults
  pub show_faults : old.show_faults ≤ new.show_faults
  pub runs : old.runs ≤ new.runs
  pub writes : old.writes ≤ new.writes
  pub spare : old.spare ≤ new.spare + length (added old new)

-- a call that is given a disk and no console
pub record DiskAlone (old new : Taped) : Type 0 where
  pub grown : Grown old new
  pub keys : new.keys ≡ old.keys
  pub key_faults : new.key_faults ≡ old.key_faults
  pub show_faults : new.show_faults ≡ old.show_faults
  pub shown : shown_bytes (added old new) ≡ []

-- A call that only looks at a disk: where the machine is modelled nothing is written, in at most so many sector commands.
pub record Looks (told : Bool) (most : ℕ) (old new : Taped) : Type 0 where
  pub alone : DiskAlone old new
  pub silent : IsTrue told → added old new ≡ []
  pub runs : IsTrue told → new.runs ≤ old.runs + most

-- reading keys
pub record KeysAlone (old new : Taped) : Type 0 where
  pub grown : Grown old new
  pub events : new.events ≡ old.events
  pub disk_faults : new.disk_faults ≡ old.disk_faults
  pub show_faults : new.show_faults ≡ old.show_faults
  pub runs : new.runs ≡ old.runs
  pub writes : new.writes ≡ old.writes

-- showing bytes
pub record ShowAlone (old new : Taped) : Type 0 where
  pub grown : Grown old new
  pub keys : new.keys ≡ old.keys
  pub disk_faults : new.disk_faults ≡ old.disk_faults
  pub key_faults : new.key_faults ≡ old.key_faults
  pub runs : new.runs ≡ old.runs
  pub writes : new.writes ≡ old.writes

-- ---- what a modelled machine says of its calls
-- the sector stood as checked, the buffer has it, and all record writes are done
pub record RanWhole (at : ℕ) (plan : Plan) (memory buffer : Sector) (p : Pack) (events : List Event) : Type 0 where
  pub matches : first_mismatch plan memory (sector_at p at) ≡ None
  pub read : buffer ≡ memory_after plan memory (sector_at p at)
  pub wrote : events ≡ writes_of at plan memory

-- a checked word differs, and nothing was written
pub record RanAgainst (at : ℕ) (plan : Plan) (memory : Sector) (p : Pack) (events : List Event) (part word : ℕ) : Type 0 where
  pub differs : first_mismatch plan memory (sector_at p at) ≡ Some (part, word)
  pub silent : events ≡ []

-- no memory was left for the record writes of a sector that stood as checked: nothing was written, and fewer events were
-- kept ready than the plan has record writes
pub record RanShort (at : ℕ) (plan : Plan) (memory : Sector) (old new : Taped) : Type 0 where
  pub matches : first_mismatch plan memory (sector_at (pack old) at) ≡ None
  pub silent : added old new ≡ []
  pub less : old.spare < length (writes_of at plan memory)

abbrev pub IfMismatch : {T : Type 0} → Result T DiskError → (ℕ → ℕ → Type 0) → Type 0
IfMismatch (Ok x) P = Unit {0}
IfMismatch (Err (Mismatch part word)) P = P part word
IfMismatch (Err Failed) P = Unit {0}
IfMismatch (Err Memory) P = Unit {0}

-- this holds, unless the answer is a fault of the disk
abbrev pub UnlessFailed : {T : Type 0} → Result T DiskError → Type 0 → Type 0
UnlessFailed (Ok x) P = P
UnlessFailed (Err (Mismatch part word)) P = P
UnlessFailed (Err Failed) P = Unit {0}
UnlessFailed (Err Memory) P = P

-- this holds, unless the answer is a fault of the keyboard or the display
abbrev pub UnlessBroken : {T : Type 0} → Result T ConsoleError → Type 0 → Type 0
UnlessBroken (Ok x) P = P
UnlessBroken (Err console.Failed) P = Unit {0}
UnlessBroken (Err console.Memory) P = P

-- one sector command: for every answer its record writes are a prefix of the plan's, and none where a checked word differs
pub record Ran (at : ℕ) (plan : Plan) (memory buffer : Sector) (old new : Taped) (result : Result (Unit {0}) DiskError) : Type 0 where
  pub some : IsFirstOf (writes_of at plan memory) (added old new)
  pub checked : added old new ≢ [] → first_mismatch plan memory (sector_at (pack old) at) ≡ None
  pub ok : OnOk result (RanWhole at plan memory buffer (pack old) (added old new))
  pub mismatch : IfMismatch result (RanAgainst at plan memory (pack old) (added old new))
  pub want : IsErrOf result Memory → RanShort at plan memory old new
  pub runs : new.runs ≡ capped (old.runs + 1)

-- the command that reads a sector whole, of which header and label alone are handed on: nothing is written, and it takes no memory
pub record RanFront (at : ℕ) (front : Front) (old new : Taped) (result : Result (Unit {0}) DiskError) : Type 0 where
  pub silent : added old new ≡ []
  pub header : OnOk result (front.header ≡ (sector_at (pack old) at).header)
  pub label : OnOk result (front.label ≡ (sector_at (pack old) at).label)
  pub want : IsErrOf result Memory → ⊥
  pub runs : new.runs ≡ capped (old.runs + 1)

-- no key of these ends a line: none is the byte 10
abbrev pub IsUnbroken : List ℕ → Type 0
IsUnbroken [] = Unit {0}
IsUnbroken (key ∷ keys) = (key ≢ 10) × IsUnbroken keys

-- Ok(n) moves the first n keys to the front of the buffer; n is 0 exactly at the end of input
pub record ReadKeys (after : List ℕ) (old new : Taped) (n : ℕ) : Type 0 where
  pub moved : old.keys ≡ take n after ++ new.keys
  pub end_of_keys : (n ≡ 0) ↔ (old.keys ≡ [])

pub record HasRead (before after : List ℕ) (old new : Taped) (result : Result ℕ ConsoleError) : Type 0 where
  pub ok : IfOk result (ReadKeys after old new)
  pub err : OnErr result ((new.keys ≡ old.keys) × (after ≡ before))
  pub want : IsErrOf result console.Memory → new.key_faults ≡ old.key_faults

-- for every answer the shown bytes are a prefix of them
pub record HasShown (bytes : List ℕ) (old new : Taped) (result : Result (Unit {0}) ConsoleError) : Type 0 where
  pub some : IsFirstOf (shown_events bytes) (added old new)
  pub ok : OnOk result (added old new ≡ shown_events bytes)
  pub want : IsErrOf result console.Memory → (added old new ≡ []) × (new.show_faults ≡ old.show_faults)
