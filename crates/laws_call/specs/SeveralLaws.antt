-- What several operations leave that are done one after another.
use Rattle.std.specs.Prelude.{List, ℕ, ◌≡◌}
use Rattle.laws_hint.specs.disk_records.specs.Packs.{Pack}
use Rattle.laws_hint.specs.disk_records.specs.Tapes.{added, pack}
use Rattle.laws_hint.specs.laws_line.specs.Ready.{steps_of}
use Rattle.laws_hint.specs.laws_lookup.specs.StayLaws.{MisledBefore}
use Rattle.laws_hint.specs.pack_model.specs.operations.Step.{Operation}
use Rattle.laws_hint.specs.pack_model.specs.reading.Model.{read_as}
use Rattle.laws_hint.specs.pack_model.specs.states.Whole.{Tidy, Whole}
use Rattle.laws_call.specs.Acting.{Around}
use Rattle.laws_call.specs.Several.{Done}

-- The second pack is whole and tidy, and read as the model of the first after these operations.
pub record StandsAfter (p q : Pack) (ops : List Operation) : Type 0 where
  pub whole : Whole q
  pub tidy : Tidy q
  pub reads : read_as q ≡ steps_of (read_as p) ops

-- so it is of the packs before and after operations that are done, if the first is whole and tidy
abbrev pub DoneStands : Type 0 → Type 0
DoneStands E = (fault memory : E) (old : Around) (ops : List Operation) (claimed : List ℕ) (new : Around) → Whole (pack old.tape) → Tidy (pack old.tape) → Done fault memory old ops claimed new → StandsAfter (pack old.tape) (pack new.tape) ops

-- and then each hint that misleads afterwards misled before the first of them
abbrev pub DoneMisledBefore : Type 0 → Type 0
DoneMisledBefore E = (fault memory : E) (old : Around) (ops : List Operation) (claimed : List ℕ) (new : Around) → Whole (pack old.tape) → Tidy (pack old.tape) → Done fault memory old ops claimed new → MisledBefore (pack old.tape) (added old.tape new.tape)
