-- Hints in the middle of a line.
use Rattle.std.specs.Prelude.{List, Option, ℕ, ◌++◌}
use Rattle.laws_hint.specs.disk_records.specs.Packs.{Pack, after}
use Rattle.laws_hint.specs.disk_records.specs.declared.records.Event.{Event}
use Rattle.laws_hint.specs.disk_records.specs.declared.records.Page.{Page}
use Rattle.laws_hint.specs.disk_records.specs.declared.records.Place.{Place}
use Rattle.laws_hint.specs.laws_lookup.specs.StayLaws.{MisledBefore}
use Rattle.laws_hint.specs.pack_model.specs.hints.Misled.{AnswersMisled}
use Rattle.laws_hint.specs.pack_model.specs.states.Whole.{Whole}

-- each hint that misleads after two lists of record writes misled before both, if it did so over each of them
abbrev pub LaterMisledBefore : Type 0
LaterMisledBefore = (p : Pack) (a b : List Event) → MisledBefore p a → MisledBefore (after p a) b → MisledBefore p (a ++ b)

-- a call that answers after the record writes of earlier ones that a hint misled answers so for the line as a whole
abbrev pub LaterAnswerMisledBefore : Type 0
LaterAnswerMisledBefore = (p : Pack) (a b : List Event) (place : Place) (at : ℕ) (wanted : Page) (found : Option (List ℕ)) → MisledBefore p a → Whole (after p a) → AnswersMisled (after p a) b place at wanted found → AnswersMisled p (a ++ b) place at wanted found
