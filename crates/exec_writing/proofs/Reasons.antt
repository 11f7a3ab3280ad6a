-- What lines are refused for, in order: by their operands, and by what comes after these.
use Rattle.std.proofs.Common.{◌≡◌, List, [], ◌∷◌, Option, Some, None, refl}
use Rattle.std.specs.Option.{option_or}
use Rattle.exec_words.specs.declared.line.Line.{Line}
use Rattle.exec_words.specs.declared.reply.Refusal.{Refusal}
use Rattle.exec_words.specs.declared.reply.Refusal.TheVariants as refusal
use Rattle.exec_session.specs.laws_session.proofs.refused.Laws.{refused_in_order}
use Rattle.exec_session.specs.laws_session.specs.RefusedLaws.{IsRefusedInOrder, first_of}
use Rattle.pack_model.specs.operations.Step.{Operation}
use Rattle.pack_model.specs.reading.Files.{first}
use Rattle.pack_model.specs.reading.Model.{Model}
use Rattle.session_model.specs.Effects.{effect}
use Rattle.session_model.specs.Refusals.{beyond, by_memory, by_operands, by_room, by_world, meets_stream, no_such_stream, spent, too_many, when}
use Rattle.session_model.specs.Replies.{refusal as refusal_to}
use Rattle.session_model.specs.Worlds.{World}
use Rattle.exec_session.specs.Meant.{IsTakenUpBy}

-- ---- a line that isn't refused by itself
-- what is tested after the operands
abbrev pub later_reasons : Line → Model → World → List Operation → List (Option Refusal)
later_reasons l m w ops =
    no_such_stream l w
    ∷ beyond l m w
    ∷ too_many l w
    ∷ when (meets_stream l m w) refusal.StreamsOpen
    ∷ by_memory l w
    ∷ by_world l m
    ∷ spent l m
    ∷ by_room m ops
    ∷ []

in_order : (l : Line) (m : Model) (w : World) → IsTakenUpBy w l → IsRefusedInOrder l m w (by_operands l m) (later_reasons l m w (effect l m w).ops)
in_order l m w taken = refused_in_order l m w (by_operands l m) (later_reasons l m w (effect l m w).ops) taken refl

-- its operands refuse it
pub refused_by_operands : (l : Line) (m : Model) (w : World) (r : Refusal) → IsTakenUpBy w l → first_of (by_operands l m) ≡ Some r → refusal_to l m w ≡ Some r
refused_by_operands l m w r taken e = (in_order l m w taken).here r e

-- or pass
pub refused_later : (l : Line) (m : Model) (w : World) → IsTakenUpBy w l → first_of (by_operands l m) ≡ None → refusal_to l m w ≡ first_of (later_reasons l m w (effect l m w).ops)
refused_later l m w taken e = (in_order l m w taken).later e

-- the last two alone
pub last_two : (a b : Option Refusal) → first_of (None ∷ None ∷ None ∷ None ∷ None ∷ None ∷ a ∷ b ∷ []) ≡ option_or a b
unfolding first
last_two None None = refl
last_two None (Some r) = refl
last_two (Some r) b = refl
