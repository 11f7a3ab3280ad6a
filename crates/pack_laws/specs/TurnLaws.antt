-- The laws of moves and turns, of any meaning of moves.
use Rattle.std.specs.Prelude.{Bool, Err, List, Ok, OnOk, Result, Some, [], cond, drop, false, length, slice_get, sum_by, take, true, ℕ, ◌&&◌, ◌++◌, ◌+◌, ◌∷◌, ◌≡◌, ◌≤◌}
use Rattle.pack_model.specs.disk_records.specs.declared.records.Event.{Event}
use Rattle.pack_model.specs.disk_records.specs.declared.records.Event.TheVariants.{Shown, Wrote}
use Rattle.pack_model.specs.disk_records.specs.Events.{IsFirstOf, shown_bytes, shown_events, writes_in}
use Rattle.pack_model.specs.disk_records.specs.Packs.{Pack, after, crash}
use Rattle.pack_model.specs.disk_records.specs.Tapes.{Grown, Taped, added, pack}
use Rattle.pack_model.specs.sessions.Moves.{Does, IsStartOf, Meaning, Obeys, steps}
use Rattle.pack_model.specs.sessions.Turns.{BreaksAt, CutAt, IsTurn, Talks, Turn, is_whole, moves_at, ops_of, ruler, texts_of}
use Rattle.pack_laws.specs.Made.{AllMade}

-- ---- runs of writes
-- Two runs, the second from where the first ends, are one.
abbrev pub RunsJoin : {M O : Type 0} → Meaning M O → Type 0
RunsJoin {M} {O} means = (m : M) (p : Pack) (a b : List Event) (ops more : List O) → Obeys means m p a ops → Obeys means (steps means m ops) (after p a) b more → Obeys means m p (a ++ b) (ops ++ more)

-- The pack crash after k writes of a run stands for the model after its first k moves.
abbrev pub CrashOfRun : {M O : Type 0} → Meaning M O → Type 0
CrashOfRun {M} {O} means = (m : M) (p : Pack) (events : List Event) (ops : List O) → Obeys means m p events ops → (k : ℕ) → means.Stands (steps means m (take k ops)) (crash p events k)

-- Some first ones of a run's writes make a prefix of its moves.
pub record MakesFirst {M O : Type 0} (means : Meaning M O) (m : M) (p : Pack) (events : List Event) (wanted : List O) : Type 0 where
  pub moves : List O
  pub start : IsStartOf moves wanted
  pub each : Obeys means m p events moves

abbrev pub RunBreaksOff : {M O : Type 0} → Meaning M O → Type 0
RunBreaksOff {M} {O} means = (m : M) (p : Pack) (writes events : List Event) (moves : List O) → Obeys means m p writes moves → IsFirstOf writes events → MakesFirst means m p events moves

-- ---- calls
-- Where a call has made all its moves, it and the next one are a call that is to make the moves of both.
abbrev pub CallsJoin : {M O : Type 0} → Type 0 → Type 0 → Type 0 → Type 0 → Meaning M O → Type 0
CallsJoin {M} {O} T U E F means = (p : Pack) (a b : List Event) (wanted more : List O) (x : U) (result : Result T E) → Does {E = F} means p a wanted (Ok x) → Does means (after p a) b more result → Does means p (a ++ b) (wanted ++ more) result

-- A call that names its record writes, which make the moves that are wanted, may do a prefix of them at an error: then it
-- has made a prefix of the moves, and each crash stands for a model on the way.
abbrev pub FaultsLeaveAPrefix : {M O : Type 0} → Type 0 → Type 0 → Meaning M O → Type 0
FaultsLeaveAPrefix {M} {O} T E means =
    (p : Pack) (writes events : List Event) (wanted : List O) (result : Result T E) → Obeys means (means.read p) p writes wanted → means.read (after p writes) ≡ steps means (means.read p) wanted → IsFirstOf writes events → OnOk result (events ≡ writes) → Does means p events wanted result

-- ---- turns
-- Two runs of turns, the second from where the first ends, are one.
abbrev pub TurnsJoin : {M O : Type 0} → Meaning M O → Type 0
TurnsJoin {M} {O} means = (m n l : M) (p : Pack) (a b : List Event) (turns more : List (Turn O)) → Talks means m p a turns n → Talks means n (after p a) b more l → Talks means m p (a ++ b) (turns ++ more) l

-- The shown bytes are the texts; there are as many record writes as moves; and the model left is the one after all of them.
pub record SaysTurns {M O : Type 0} (means : Meaning M O) (m n : M) (events : List Event) (turns : List (Turn O)) : Type 0 where
  pub shown : shown_bytes events ≡ texts_of turns
  pub writes : writes_in events ≡ length (ops_of turns)
  pub model : n ≡ steps means m (ops_of turns)

abbrev pub TurnsAreShown : {M O : Type 0} → Meaning M O → Type 0
TurnsAreShown {M} {O} means = (m n : M) (p : Pack) (events : List Event) (turns : List (Turn O)) → Talks means m p events turns n → SaysTurns means m n events turns

-- ---- calls that are turns
-- A call that is to be this turn broke off: what it made of it, and whether it was the display that failed.
pub record BrokenCalls {M O T E : Type 0} (means : Meaning M O) (m : M) (p : Pack) (events : List Event) (wanted : Turn O) (result : Result T E) (display : Bool) : Type 0 where
  pub turn : IsTurn means m p events wanted result
  pub breaks : BreaksAt display turn.made wanted

-- A call from x to y that makes the moves of a turn, and then its text, shown from y to z. All of both is the turn; where the display
-- failed all moves are made and a prefix is shown; where the moves broke off nothing is shown.
pub record TurnOfCalls {M O : Type 0} (T E F : Type 0) (means : Meaning M O) (x y z : Taped) (t : Turn O) : Type 0 where
  pub whole : (u : T) → Grown x y → Grown y z → Does {E = E} means (pack x) (added x y) t.ops (Ok u) → added y z ≡ shown_events t.text → IsTurn {T = Unit {0}} {E = F} means (means.read (pack x)) (pack x) (added x z) t (Ok tt)
  pub shown : (u : T) (fault : F) → Grown x y → Grown y z → Does {E = E} means (pack x) (added x y) t.ops (Ok u) → IsFirstOf (shown_events t.text) (added y z)
      → BrokenCalls {T = Unit {0}} means (means.read (pack x)) (pack x) (added x z) t (Err fault) true
  pub broken : (e : E) (fault : F) → Does {T = T} means (pack x) (added x y) t.ops (Err e) → BrokenCalls {T = Unit {0}} means (means.read (pack x)) (pack x) (added x y) t (Err fault) false

abbrev pub CallsAreTurns : {M O : Type 0} → Type 0 → Type 0 → Type 0 → Meaning M O → Type 0
CallsAreTurns {M} {O} T E F means = (x y z : Taped) (t : Turn O) → TurnOfCalls T E F means x y z t

-- ---- crash points
-- Each crash stands for the model after the moves so far, and no operation that was acknowledged is missing.
abbrev pub CrashOfTurns : {M O : Type 0} → (O → ℕ) → Meaning M O → Type 0
CrashOfTurns {M} {O} weight means = (m n : M) (p : Pack) (events : List Event) (turns : List (Turn O)) → Talks means m p events turns n → (k : ℕ) → CutAt weight means m p events turns k

-- the moves of those turns, from the first on, whose whole texts stand in the bytes
abbrev pub acknowledged_moves : {O : Type 0} → List (Turn O) → List ℕ → List O
acknowledged_moves [] bytes = []
acknowledged_moves (t ∷ turns) bytes = cond (t.counts && is_whole t.text bytes) (t.ops ++ acknowledged_moves turns (drop (length t.text) bytes)) []

-- The moves that the shown bytes of a crash acknowledge are the first of those that the crash has made.
abbrev pub AcknowledgedAreDone : {M O : Type 0} → Meaning M O → Type 0
AcknowledgedAreDone {M} {O} means = (m n : M) (p : Pack) (events : List Event) (turns : List (Turn O)) → Talks means m p events turns n → (k : ℕ) → IsStartOf (acknowledged_moves turns (shown_bytes (take k events))) (moves_at turns events k)

-- Each record write of the turns makes its move on the pack before it, one after another, and no others.
abbrev pub WritesAreMade : {M O : Type 0} → Meaning M O → Type 0
WritesAreMade {M} {O} means = (m n : M) (p : Pack) (events : List Event) (turns : List (Turn O)) → Talks means m p events turns n → AllMade means p events (ops_of turns)

-- ---- the ruler
-- Event k, a write of these words, makes the next move of the turns on the pack there, and the ruler rises by the weight of this
-- move.
pub record RisesByMove {M O : Type 0} (weight : O → ℕ) (means : Meaning M O) (p : Pack) (events : List Event) (turns : List (Turn O)) (k at part : ℕ) (words : List ℕ) : Type 0 where
  pub move : O
  pub next : slice_get (ops_of turns) (writes_in (take k events)) ≡ Some move
  pub made : means.Makes (crash p events k) (Wrote at part words) move
  pub risen : ruler weight turns events (k + 1) ≡ ruler weight turns events k + weight move

-- The ruler starts at 0 and never falls; an event more adds at most the weight of one move, a shown byte adds nothing, and a
-- record write adds the weight of the move that it makes; at the end of the turns it stands at all their operations.
pub record RulerLaws {M O : Type 0} (weight : O → ℕ) (means : Meaning M O) : Type 0 where
  pub starts : (turns : List (Turn O)) (events : List Event) → ruler weight turns events 0 ≡ 0
  pub rises : (turns : List (Turn O)) (events : List Event) (k : ℕ) → ruler weight turns events k ≤ ruler weight turns events (k + 1)
  pub adds : (turns : List (Turn O)) (events : List Event) (k most : ℕ) → ((o : O) → weight o ≤ most) → ruler weight turns events (k + 1) ≤ ruler weight turns events k + most
  pub rests : (turns : List (Turn O)) (events : List Event) (k byte : ℕ) → slice_get events k ≡ Some (Shown byte) → ruler weight turns events (k + 1) ≡ ruler weight turns events k
  pub makes : (m n : M) (p : Pack) (events : List Event) (turns : List (Turn O)) → Talks means m p events turns n → (k at part : ℕ) (words : List ℕ) → slice_get events k ≡ Some (Wrote at part words) → RisesByMove weight means p events turns k at part words
  pub ends : (m n : M) (p : Pack) (events : List Event) (turns : List (Turn O)) → Talks means m p events turns n → ruler weight turns events (length events) ≡ sum_by weight (ops_of turns)
