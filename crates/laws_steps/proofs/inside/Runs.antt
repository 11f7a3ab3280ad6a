-- Record writes and moves, as many of one as of the other.
use Rattle.std.proofs.Common.{List, ap, length, refl, suc, ◌≡◌}
use Rattle.laws_call.specs.disk_records.specs.Packs.{Pack}
use Rattle.laws_call.specs.disk_records.specs.declared.records.Event.{Event}
use Rattle.laws_steps.specs.RunLaws.{ObeysMany}
use Rattle.laws_call.specs.pack_model.specs.sessions.Moves.{Meaning, Obeys, rest, write}

many : {M O : Type 0} {means : Meaning M O} {m : M} {p : Pack} {writes : List Event} {moves : List O} → Obeys means m p writes moves → length writes ≡ length moves
many (rest here) = refl
many (write here makes later) = ap suc (many later)

pub obeys_many : {M O : Type 0} (means : Meaning M O) → ObeysMany means
obeys_many means m p writes moves obeys = many obeys
