-- One turn of a session: a line or the end of the keys, and then its text.
use Rattle.std.specs.Prelude.{◌≡◌, ◌≢◌, ◌⊎◌, ◌<◌, ℕ, Bool, true, false, List, [], Option, Some, None, Result, Ok, Err}
use Rattle.disk_records.specs.declared.records.Event.{Event}
use Rattle.disk_records.specs.Packs.{Pack}
use Rattle.disk_records.specs.Tapes.{Taped, KeysAlone, added, pack}
use Rattle.exec_words.specs.declared.reply.Reply.{Reply}
use Rattle.exec_words.specs.declared.reply.Reply.TheVariants as reply
use Rattle.executive.specs.pack_model.specs.hints.Tables.{HintsTrue}
use Rattle.executive.specs.pack_model.specs.hints.Truth.{Truthful}
use Rattle.executive.specs.pack_model.specs.operations.Operations.{Move}
use Rattle.executive.specs.pack_model.specs.sessions.Tallies.{counted}
use Rattle.executive.specs.pack_model.specs.sessions.Turns.{Turn}
use Rattle.session_model.specs.Answering.{count_end}
use Rattle.session_model.specs.Ending.{cue_of}
use Rattle.session_model.specs.Histories.{BrokenTurn, WholeTurn, aloud}
use Rattle.session_model.specs.Keeping.{Kept, Keeping}
use Rattle.session_model.specs.Turning.{Cue, IsTakenUp, State}
use Rattle.session_boot.specs.declared.line.Next.{Next}
use Rattle.session_boot.specs.declared.line.Next.TheVariants.{More, Over}
use Rattle.session_boot.specs.declared.status.Fault.{Fault}
use Rattle.session_boot.specs.declared.status.Fault.TheVariants.{Disk, Key, Display, Memory}
use Rattle.session_boot.specs.Faults.{KeyFaultCause}
use Rattle.session_boot.specs.Keys.{TookPart, TookRest, TookWhole}

-- ---- what comes after a reply
abbrev pub next_after : Reply → Result Next Fault
next_after (reply.Done text) = Ok More
next_after (reply.Refused r) = Ok More
next_after reply.Quit = Ok Over
next_after reply.Scavenge = Ok More
next_after reply.DiskFault = Err Disk
next_after reply.Memory = Err Memory

abbrev pub is_over : Next → Bool
is_over More = false
is_over Over = true

-- ---- a turn, from the pack p and the state s by these events, on a machine that had so many record writes before
-- A whole one. Unless the session is over, what is kept is right for the state after it; the tally counts its moves; hints that were true
-- stay true, and all are true where the session is over and needs no scavenge.
pub record TurnTaken (p : Pack) (events : List Event) (writes : ℕ) (new : Taped) (one two : Kept) (s : State) (cue : Cue) (over : Bool) : Type 0 where
  pub made : Turn Move
  pub state : State
  pub whole : WholeTurn aloud p s cue events made state
  pub over_is : state.over ≡ over
  pub need : two.need ≡ state.world.need
  pub keeping : state.over ≡ false → Keeping (pack new) two state
  pub tally : two.tally ≡ counted writes made.ops one.tally
  pub truthful : Truthful p one.busy → state.over ≡ false → Truthful (pack new) two.busy
  pub closed : Truthful p one.busy → state.over ≡ true → state.world.need ≡ false → HintsTrue (pack new)

abbrev pub cut_turn : List Move → List ℕ → Turn Move
cut_turn ops text = record { ops = ops; text = text; counts = false }

-- One that broke off. Only where the display failed some of its text is shown, after all of its moves; the disk fails at no line that is
-- refused by itself. The tally counts the moves that it made, unless the disk failed with the count of record writes at its end.
pub record TurnBroke (p : Pack) (events : List Event) (writes : ℕ) (new : Taped) (one two : Kept) (s : State) (cue : Cue) (fault : Fault) : Type 0 where
  pub ops : List Move
  pub text : List ℕ
  pub turn : BrokenTurn aloud p s cue events (cut_turn ops text)
  pub shows : fault ≡ Display → ops ≡ turn.wanted.ops
  pub silent : fault ≢ Display → text ≡ []
  pub reaches : fault ≡ Disk → IsTakenUp s cue
  pub tally : (fault ≡ Disk → new.writes < count_end) → two.tally ≡ counted writes ops one.tally

abbrev pub TurnOf : {T : Type 0} → (T → Bool) → Pack → List Event → ℕ → Taped → Kept → Kept → State → Cue → Result T Fault → Type 0
TurnOf over p events writes new one two s cue (Ok x) = TurnTaken p events writes new one two s cue (over x)
TurnOf over p events writes new one two s cue (Err fault) = TurnBroke p events writes new one two s cue fault

-- from each state for which what is kept is right
abbrev pub TurnsFrom : {T : Type 0} → (T → Bool) → Pack → List Event → ℕ → Taped → Kept → Kept → Cue → Result T Fault → Type 0
TurnsFrom over p events writes new one two cue result = (s : State) → Keeping p one s → TurnOf over p events writes new one two s cue result

abbrev pub TakesTurnBy : Taped → Taped → Kept → Kept → Cue → Result Next Fault → Type 0
TakesTurnBy old new one two cue result = TurnsFrom is_over (pack old) (added old new) old.writes new one two cue result

abbrev pub ends_all : Unit {0} → Bool
ends_all u = true

abbrev pub EndsTurnBy : Taped → Taped → Kept → Kept → Cue → Result (Unit {0}) Fault → Type 0
EndsTurnBy old new one two cue result = TurnsFrom ends_all (pack old) (added old new) old.writes new one two cue result

-- ---- the next line of the keys, of which `before` counted and `after` still do
-- its keys are taken, and it has its turn
pub record LineTaken (old new : Taped) (one two : Kept) (before after : ℕ) (result : Result Next Fault) : Type 0 where
  pub text : List ℕ
  pub took : TookWhole old.keys new.keys before after text
  pub turn : TakesTurnBy old new one two (cue_of text) result

-- none was taken to its end, and nothing else happened
pub record LineMissed (old new : Taped) (one two : Kept) (before : ℕ) (fault : Fault) : Type 0 where
  pub alone : KeysAlone old new
  pub part : TookPart old.keys new.keys before
  pub cause : KeyFaultCause old new fault
  pub same : two ≡ one

-- no key is left that counts
pub record KeysSpent (old new : Taped) (one two : Kept) (before after : ℕ) : Type 0 where
  pub alone : KeysAlone old new
  pub rest : TookRest old.keys new.keys before after []
  pub same : two ≡ one

abbrev pub NextTurn : Taped → Taped → Kept → Kept → ℕ → ℕ → Result (Option Next) Fault → Type 0
NextTurn old new one two before after (Ok (Some next)) = LineTaken old new one two before after (Ok next)
NextTurn old new one two before after (Ok None) = KeysSpent old new one two before after
NextTurn old new one two before after (Err fault) = LineMissed old new one two before fault ⊎ (LineTaken old new one two before after (Err fault) × (fault ≢ Key))
