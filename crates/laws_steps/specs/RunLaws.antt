-- Record writes in lockstep with moves.
use Rattle.std.specs.Prelude.{List, length, ◌≡◌}
use Rattle.laws_call.specs.disk_records.specs.Packs.{Pack}
use Rattle.laws_call.specs.disk_records.specs.declared.records.Event.{Event}
use Rattle.laws_call.specs.pack_model.specs.sessions.Moves.{Meaning, Obeys}

-- a run has as many record writes as moves
abbrev pub ObeysMany : {M O : Type 0} → Meaning M O → Type 0
ObeysMany {M} {O} means = (m : M) (p : Pack) (writes : List Event) (moves : List O) → Obeys means m p writes moves → length writes ≡ length moves
