-- How the calls count the operations that took effect.
use Rattle.std.specs.Prelude.{Bool, Err, Ok, Result, cond, false, true, ℕ, ◌+◌}
use Rattle.disk_records.specs.declared.records.Tally.{Tally}
use Rattle.label_check.specs.declared.errors.GuardError.{GuardError}
use Rattle.label_check.specs.declared.errors.GuardError.TheVariants.{DiskFault, Memory, Wrong}
use Rattle.pack_model.specs.sessions.Tallies.{is_among, took_effect}

-- A guarded call began after so many record writes and ended after so many, and its nth one, which its last sector command writes, commits
-- an operation: whether this was written.
abbrev pub is_done : ℕ → ℕ → ℕ → Result (Unit {0}) GuardError → Bool
is_done before nth now (Ok x) = true
is_done before nth now (Err (Wrong found)) = false
is_done before nth now (Err DiskFault) = is_among before nth now
is_done before nth now (Err Memory) = false

abbrev pub counted_after : ℕ → ℕ → ℕ → Result (Unit {0}) GuardError → Tally → Tally
counted_after before nth now result t = cond (is_done before nth now result) (took_effect (before + nth) t) t
