-- Calls of the program one after another, each on a modelled machine of its own, over one pack.
-- How calls are put together is this project's choice.
use Rattle.std.specs.Prelude.{◌≡◌, ℕ, List, [], ◌∷◌, codes, take, Option}
use Rattle.disk_records.specs.declared.records.Event.{Event}
use Rattle.disk_records.specs.declared.records.Tally.{Tally}
use Rattle.disk_records.specs.Events.{shown_bytes, writes_in}
use Rattle.disk_records.specs.Packs.{AreFormed, Pack, crash}
use Rattle.disk_records.specs.Tapes.{Rose, Taped, added, pack}
use Rattle.pack_model.specs.operations.Operations.{Move, weight_of}
use Rattle.pack_model.specs.reading.Model.{Model, read_as}
use Rattle.pack_model.specs.sessions.Turns.{Turn, acknowledged, ruler}
use Rattle.session_model.specs.Ending.{CanStop, EndsBy, SessionOf, Stop}
use Rattle.session_model.specs.Histories.{model_after}
use Rattle.session_model.specs.Turning.{State}
use Rattle.session_boot.specs.Boots.{EndsAs}
use Rattle.session_boot.specs.Faults.{HasStatusCause}
use Rattle.session_boot.specs.declared.status.Status.{Status}
use Rattle.session_boot.specs.declared.status.Status.TheVariants as status
use Rattle.alto_top.specs.Top.{DoesAsAsked}

-- ---- one call
-- The moment at which the program is called, the machine before and after the call, and the answer.
pub record Call : Type 0 where
  pub moment : ℕ
  pub before : Taped
  pub now : Taped
  pub answer : Status

-- the pack that it finds, the one that it leaves, and its events
abbrev pub found : Call → Pack
found c = pack c.before

abbrev pub left : Call → Pack
left c = pack c.now

abbrev pub events_of : Call → List Event
events_of c = added c.before c.now

-- What the contract of `alto` says of a call with these words: it does as asked, and a fault has its cause. And what each modelled machine
-- says: its records have as many words as those of a disk.
pub record Called (words : List (List ℕ)) (c : Call) : Type 0 where
  pub formed : AreFormed (found c)
  pub does : DoesAsAsked words c.moment c.before c.now c.answer
  pub cause : HasStatusCause c.before c.now c.answer

abbrev pub boot : List (List ℕ)
boot = codes "boot" ∷ []

abbrev pub scavenge : List (List ℕ)
scavenge = codes "scavenge" ∷ []

-- ---- how it ends
-- It is done; or a device failed, whose count rose; or no memory was left.
abbrev pub DoneUnlessStopped : Call → Status → Type 0
DoneUnlessStopped c status.Done = Unit {0}
DoneUnlessStopped c status.Usage = ⊥
DoneUnlessStopped c status.NeedsScavenge = ⊥
DoneUnlessStopped c status.DiskFault = Rose c.before.disk_faults c.now.disk_faults
DoneUnlessStopped c status.KeyFault = Rose c.before.key_faults c.now.key_faults
DoneUnlessStopped c status.DisplayFault = Rose c.before.show_faults c.now.show_faults
DoneUnlessStopped c status.Memory = Unit {0}
DoneUnlessStopped c status.CannotScavenge = ⊥

-- ---- a session
-- The pack was opened, and this is the session: its history over the typed bytes, from what is read of the pack, and how it ends.
pub record HasSession (c : Call) : Type 0 where
  pub given : Tally
  pub tally : Tally
  pub stop : Stop
  pub end : Option State
  pub session : SessionOf c.moment c.before c.now given tally stop end
  pub ends : EndsBy stop c.before c.now end
  pub answer : EndsAs c.answer (λ s. s ≡ stop)

-- A fault of the disk, or out of memory, came before the pack was opened: nothing was written or shown, and no key taken.
pub record StopsBefore (c : Call) : Type 0 where
  pub silent : events_of c ≡ []
  pub keys : c.now.keys ≡ c.before.keys
  pub answer : EndsAs c.answer CanStop

-- The pack wasn't opened: no record was written, and no key taken.
pub record Unopened (c : Call) : Type 0 where
  pub unwritten : writes_in (events_of c) ≡ 0
  pub keys : c.now.keys ≡ c.before.keys

-- The turns of a call: those of its session; or none, where the pack wasn't opened.
pub data HasTurns (c : Call) : List (Turn Move) → Type 0 where
  opened : (s : HasSession c) → HasTurns c s.session.turns
  unopened : Unopened c → HasTurns c []

-- ---- at a crash point
-- the operations that are done by then, and the model after them
abbrev pub done_at : Call → List (Turn Move) → ℕ → ℕ
done_at c turns k = ruler weight_of turns (events_of c) k

abbrev pub model_at : Call → List (Turn Move) → ℕ → Model
model_at c turns k = model_after (read_as (found c)) turns (done_at c turns k)

-- the operations of the lines whose whole replies are shown by then
abbrev pub acknowledged_at : Call → List (Turn Move) → ℕ → ℕ
acknowledged_at c turns k = acknowledged weight_of turns (shown_bytes (take k (events_of c)))

-- ---- scavenges that were stopped, each of what the one before it left: none, or any number
pub data Leads (p : Pack) : Pack → Type 0 where
  at_once : Leads p p
  stopped : (c : Call) → Leads p (found c) → Called scavenge c → (j : ℕ) → Leads p (crash (found c) (events_of c) j)
