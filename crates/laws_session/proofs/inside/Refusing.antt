-- What a line is refused for, by the tests that it made.
use Rattle.std.proofs.Common.{List, None, Option, Some, [], ap, refl, ◌++◌, ◌∙◌, ◌∷◌, ◌≡◌}
use Rattle.session_model.specs.exec_words.specs.declared.line.Line.{Line}
use Rattle.session_model.specs.exec_words.specs.declared.reply.Refusal.{Refusal}
use Rattle.laws_line.specs.pack_model.specs.reading.Files.{first}
use Rattle.laws_line.specs.pack_model.specs.reading.Model.{Model}
use Rattle.session_model.specs.Effects.{effect}
use Rattle.session_model.specs.Refusals.{by_line, by_room, reasons}
use Rattle.session_model.specs.Replies.{refusal}
use Rattle.session_model.specs.Worlds.{World}
use Rattle.laws_session.specs.RefusedLaws.{RefusedByTests, RefusedForRoom, RefusedInOrder, first_of}

-- ---- the first of two lists of tests
-- one of the first ones holds
comes : (tests more : List (Option Refusal)) (r : Refusal) → first_of tests ≡ Some r → first_of (tests ++ more) ≡ Some r
unfolding first
comes [] more r e = absurd cc
comes (None ∷ tests) more r e = comes tests more r e
comes (Some x ∷ tests) more r e = e

-- none of them does
skip : (tests more : List (Option Refusal)) → first_of tests ≡ None → first_of (tests ++ more) ≡ first_of more
unfolding first
skip [] more e = refl
skip (None ∷ tests) more e = skip tests more e
skip (Some r ∷ tests) more e = absurd cc

-- none of the others does
ends : (tests more : List (Option Refusal)) → first_of more ≡ None → first_of (tests ++ more) ≡ first_of tests
unfolding first
ends [] more e = e
ends (None ∷ tests) more e = ends tests more e
ends (Some r ∷ tests) more e = refl

-- one alone
alone : (test : Option Refusal) → first_of (test ∷ []) ≡ test
unfolding first
alone None = refl
alone (Some r) = refl

-- ---- the laws
-- of a line that is taken up
by_all : (l : Line) (m : Model) (w : World) (all : List (Option Refusal)) → first_of (by_line l w) ≡ None → reasons l m w (effect l m w).ops ≡ by_line l w ++ all → refusal l m w ≡ first_of all
by_all l m w all taken are = ap first_of are ∙ skip (by_line l w) all taken

pub refused_in_order : RefusedInOrder
refused_in_order l m w tests more taken are = record {
  here = λ r e. by_all l m w (tests ++ more) taken are ∙ comes tests more r e;
  later = λ none. by_all l m w (tests ++ more) taken are ∙ skip tests more none;
}

pub refused_by_tests : RefusedByTests
refused_by_tests l m w tests more taken are none = by_all l m w (tests ++ more) taken are ∙ ends tests more none

pub refused_for_room : RefusedForRoom
refused_for_room l m w tests taken are none =
    let room : Option Refusal = by_room m (effect l m w).ops in
    (refused_in_order l m w tests (room ∷ []) taken are).later none ∙ alone room
