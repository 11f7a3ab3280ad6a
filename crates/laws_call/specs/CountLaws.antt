-- The tally over the calls of a line.
use Rattle.std.specs.Prelude.{List, Result, length, take, ℕ, ◌++◌, ◌+◌, ◌<◌, ◌^◌, ◌≡◌}
use Rattle.laws_hint.specs.alto_words.specs.declared.fid.Fid.{Fid}
use Rattle.laws_hint.specs.disk_records.specs.Events.{writes_in}
use Rattle.laws_hint.specs.disk_records.specs.Tapes.{Grown, Taped, added, capped, pack}
use Rattle.laws_hint.specs.disk_records.specs.declared.records.Tally.{Tally}
use Rattle.laws_hint.specs.pack_model.specs.operations.Committing.{moves_of}
use Rattle.laws_hint.specs.pack_model.specs.operations.Operations.{Move}
use Rattle.laws_hint.specs.pack_model.specs.operations.Step.{Operation}
use Rattle.laws_hint.specs.pack_model.specs.reading.Model.{read_as}
use Rattle.laws_hint.specs.pack_model.specs.sessions.Tallies.{Tells, counted}
use Rattle.laws_call.specs.Acting.{Around, Operates, Releases}
use Rattle.laws_hint.specs.laws_operation.specs.LifeLaws.{first_moves}
use Rattle.laws_hint.specs.pack_laws.specs.TallyLaws.{operations_in}
use Rattle.laws_hint.specs.pack_model.specs.states.Whole.{Tidy, Whole}

-- A machine had w record writes and the tally t as a line began, and has made these moves of it since: its count and its tally say so.
pub record CountedSoFar (w : ℕ) (t : Tally) (moves : List Move) (now : Around) : Type 0 where
  pub writes : now.tape.writes ≡ capped (w + length moves)
  pub tally : now.tally ≡ counted w moves t

-- A call that is to do the next operation of the line: at each of its answers at which the count tells it, the tally is that of the line's
-- moves so far and of as many moves of the operation as the call made record writes.
abbrev pub CallIsCounted : Type 0 → Type 0 → Type 0
CallIsCounted T E = (w : ℕ) (t : Tally) (moves : List Move) (fault memory : E) (o : Operation) (claimed : List ℕ) (old new : Around) (result : Result T E)
    → t.limit < 2 ^ 64 → CountedSoFar w t moves old → Operates fault memory o claimed old new result → Tells fault new.tape result
    → new.tally ≡ counted w (moves ++ take (length (added old.tape new.tape)) (moves_of (read_as (pack old.tape)) o)) t

-- ---- from call to call
-- The machine counted the record writes of a call.
abbrev pub CountsOn : Taped → Taped → Type 0
CountsOn a b = b.writes ≡ capped (a.writes + writes_in (added a b))

-- so it is where the count of each machine is that of its events, as a modelled one's is
abbrev pub CountOfACall : Type 0
CountOfACall = (a b : Taped) → Grown a b → a.writes ≡ capped (writes_in a.events) → b.writes ≡ capped (writes_in b.events) → CountsOn a b

-- After a call that is to do the next operation of the line the count and the tally are those of the line's moves so far again, with as
-- many of the operation as the call made record writes.
abbrev pub CallIsCountedOn : Type 0 → Type 0 → Type 0
CallIsCountedOn T E = (w : ℕ) (t : Tally) (moves : List Move) (fault memory : E) (o : Operation) (claimed : List ℕ) (old new : Around) (result : Result T E)
    → t.limit < 2 ^ 64 → CountedSoFar w t moves old → CountsOn old.tape new.tape → Operates fault memory o claimed old new result → Tells fault new.tape result
    → CountedSoFar w t (moves ++ take (length (added old.tape new.tape)) (moves_of (read_as (pack old.tape)) o)) new

-- so they are after a call that is to release a file's sectors
abbrev pub ReleasesAreCounted : Type 0 → Type 0 → Type 0
ReleasesAreCounted T E = (w : ℕ) (t : Tally) (moves : List Move) (fault memory : E) (f : Fid) (old new : Around) (result : Result T E)
    → t.limit < 2 ^ 64 → CountedSoFar w t moves old → CountsOn old.tape new.tape → Whole (pack old.tape) → Tidy (pack old.tape) → Releases fault memory f old new result → Tells fault new.tape result
    → CountedSoFar w t (moves ++ take (length (added old.tape new.tape)) (first_moves (pack old.tape) f)) new

-- and after one whose record writes are quiet moves: the slot of a drop, the mark, a new serial
abbrev pub QuietCallIsCounted : Type 0
QuietCallIsCounted = (w : ℕ) (t : Tally) (moves quiet : List Move) (old new : Around) → CountedSoFar w t moves old → CountsOn old.tape new.tape → new.tally ≡ old.tally → operations_in quiet ≡ 0 → length quiet ≡ writes_in (added old.tape new.tape)
    → CountedSoFar w t (moves ++ quiet) new
