-- How tallies add up, and what a caller finds out by the machine's count of record writes.
use Rattle.std.specs.Prelude.{◌≡◌, ℕ, suc, ◌+◌, ◌-◌, ◌<◌, ◌^◌, cond, nat_le, nat_lt, List, ◌∷◌, ◌++◌, length, take, sum_by}
use Rattle.pack_model.specs.disk_records.specs.declared.records.Event.{Event}
use Rattle.pack_model.specs.disk_records.specs.declared.records.Tally.{Tally}
use Rattle.pack_model.specs.disk_records.specs.Events.{place_of_write, writes_in}
use Rattle.pack_model.specs.disk_records.specs.Packs.{Pack}
use Rattle.pack_model.specs.disk_records.specs.Tapes.{Grown, Taped, added, capped}
use Rattle.pack_model.specs.operations.Operations.{Move, weight_of}
use Rattle.pack_model.specs.operations.Operations.Move.{commits}
use Rattle.pack_model.specs.operations.Step.{Operation}
use Rattle.pack_model.specs.reading.Model.{Model}
use Rattle.pack_model.specs.sessions.Moves.{Meaning}
use Rattle.pack_model.specs.sessions.Tallies.{counted, is_among, no_tally, took_effect}
use Rattle.pack_model.specs.sessions.Turns.{Talks, Turn, ops_of, ruler}

-- the number of operations among some moves
abbrev pub operations_in : List Move → ℕ
operations_in moves = sum_by weight_of moves

-- ---- one after another
-- Moves and then more of them, on a machine that had w record writes before the first: all of them, and where only k of the later ones
-- were made.
pub record TalliesAddUp (w : ℕ) (a b : List Move) (t : Tally) : Type 0 where
  pub whole : counted w (a ++ b) t ≡ counted (w + length a) b (counted w a t)
  pub broken : (k : ℕ) → counted w (take (length a + k) (a ++ b)) t ≡ counted (w + length a) (take k b) (counted w a t)

abbrev pub TalliesJoin : Type 0
TalliesJoin = (w : ℕ) (a b : List Move) (t : Tally) → TalliesAddUp w a b t

-- so it is for turns and then more of them
abbrev pub TalliesOfTurnsJoin : Type 0
TalliesOfTurnsJoin = (w : ℕ) (turns more : List (Turn Move)) (t : Tally) → counted w (ops_of (turns ++ more)) t ≡ counted (w + length (ops_of turns)) (ops_of more) (counted w (ops_of turns) t)

-- ---- what counts
-- moves that are no operations leave the tally, as those of the mark, of a new serial and of closing do
abbrev pub QuietMovesAreNotCounted : Type 0
QuietMovesAreNotCounted = (w : ℕ) (moves : List Move) (t : Tally) → operations_in moves ≡ 0 → counted w moves t ≡ t

-- of an operation's record writes k were made: it is counted where the one that commits it is among them
abbrev pub OneCommitIsCounted : Type 0
OneCommitIsCounted = (w k : ℕ) (before later : List Move) (o : Operation) (t : Tally) → operations_in before ≡ 0 → operations_in later ≡ 0
    → counted w (take k (before ++ commits o ∷ later)) t ≡ cond (nat_lt (length before) k) (took_effect (w + suc (length before)) t) t

-- The tally in numbers, as a machine keeps it: all operations, and those among its first `limit` record writes.
pub record InNumbers (w : ℕ) (moves : List Move) (t : Tally) : Type 0 where
  pub limit : (counted w moves t).limit ≡ t.limit
  pub all : (counted w moves t).all ≡ capped (t.all + operations_in moves)
  pub passed : (counted w moves t).passed ≡ capped (t.passed + operations_in (take (t.limit - w) moves))

abbrev pub TallyInNumbers : Type 0
TallyInNumbers = (w : ℕ) (moves : List Move) (t : Tally) → t.all < 2 ^ 64 → t.passed < 2 ^ 64 → InNumbers w moves t

-- ---- the machine's count
-- a machine's count of record writes may stand for their number: where it stands at its end, no later one is among the first that count
abbrev pub TallyByTheCount : Type 0
TallyByTheCount = (w : ℕ) (moves : List Move) (t : Tally) → t.limit < 2 ^ 64 → counted (capped w) moves t ≡ counted w moves t

-- where a modelled machine's count doesn't stand at its end, it says whether the nth record write of a call was made
abbrev pub CountTellsWhatWasWritten : Type 0
CountTellsWhatWasWritten = (a b : Taped) (nth : ℕ) → Grown a b → a.writes ≡ capped (writes_in a.events) → b.writes ≡ capped (writes_in b.events) → b.writes < 2 ^ 64 - 1
    → is_among a.writes nth b.writes ≡ nat_le nth (writes_in (added a b))

-- ---- sessions
-- From nothing, over turns on a machine that had no record write before: `all` is the number of their operations, and `passed` the ruler
-- at the shortest prefix of the events with `limit` record writes, or at all of them.
pub record RulesTurns (events : List Event) (turns : List (Turn Move)) (limit : ℕ) : Type 0 where
  pub all : (counted 0 (ops_of turns) (no_tally limit)).all ≡ capped (operations_in (ops_of turns))
  pub passed : (counted 0 (ops_of turns) (no_tally limit)).passed ≡ capped (ruler weight_of turns events (place_of_write events limit))

abbrev pub TallyIsTheRuler : Meaning Model Move → Type 0
TallyIsTheRuler means = (m n : Model) (p : Pack) (events : List Event) (turns : List (Turn Move)) (limit : ℕ) → Talks means m p events turns n → RulesTurns events turns limit
