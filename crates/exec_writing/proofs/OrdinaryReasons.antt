-- What lines with one operand that has to be an ordinary file are refused for: the tests of the operand, and then their own.
use Rattle.std.proofs.Common.{◌≡◌, ◌<◌, ◌≤◌, ◌∙◌, ℕ, Bool, List, [], ◌∷◌, ◌++◌, Option, Some, None, refl, ap}
use Rattle.std.proofs.lemmas.Bool.{le-ltb, lt-ltb}
use Rattle.alto_words.specs.declared.fid.Fid.{Fid}
use Rattle.exec_words.specs.declared.line.Line.{Line}
use Rattle.exec_words.specs.declared.line.Target.{Target}
use Rattle.exec_words.specs.declared.line.Target.TheVariants.{ByPath, BySerial}
use Rattle.exec_words.specs.declared.reply.Refusal.{Refusal}
use Rattle.exec_words.specs.declared.reply.Refusal.TheVariants as refusal
use Rattle.exec_session.specs.laws_session.proofs.refused.Laws.{refused_in_order}
use Rattle.exec_session.specs.laws_session.specs.RefusedLaws.{IsRefusedInOrder, first_of}
use Rattle.pack_model.specs.operations.Committing.{pages_for_operations}
use Rattle.pack_model.specs.operations.Step.{Operation}
use Rattle.pack_model.specs.reading.Files.{first}
use Rattle.pack_model.specs.reading.Model.{Model, room}
use Rattle.session_model.specs.Effects.{effect}
use Rattle.session_model.specs.Finding.{file_at}
use Rattle.session_model.specs.Operands.{no_directory}
use Rattle.session_model.specs.Refusals.{by_line, by_room, is_streamed, left_in, not_empty, of_taken_name, reasons, taken_target, when, when_beyond, when_found}
use Rattle.session_model.specs.Replies.{refusal as refusal_to}
use Rattle.session_model.specs.Worlds.{World}
use Rattle.exec_session.specs.Found.{operand, operand_tests}
use Rattle.exec_session.specs.Meant.{IsTakenUpBy}

-- ---- the tests of the operand
abbrev pub tests_of : Model → Target → List (Option Refusal)
tests_of m target = operand_tests m (operand target no_directory)

-- neither a new name nor an entry in it is looked at
taken_none : (m : Model) (target : Target) → taken_target m no_directory target ≡ None
taken_none m (ByPath path) = refl
taken_none m (BySerial n) = refl

empty_none : (m : Model) (r : Option Fid) → when_found r (left_in m no_directory) ≡ None
empty_none m None = refl
empty_none m (Some f) = refl

two_none : (a b : Option Refusal) (more : List (Option Refusal)) → a ≡ None → b ≡ None → first_of (a ∷ b ∷ more) ≡ first_of more
unfolding first
two_none None None more e f = refl
two_none (Some r) b more e f = absurd (let n : Some r ≡ None = e in cc)
two_none None (Some r) more e f = absurd (let n : Some r ≡ None = f in cc)

-- ---- of a line with this operand, and these tests after it: of lengths, of streams, and of room
module _ (l : Line) (m : Model) (w : World) (target : Target) (beyond streams : Option Refusal) (taken : IsTakenUpBy w l)
    (are : reasons l m w (effect l m w).ops ≡ by_line l w ++ (tests_of m target ++ (of_taken_name m (operand target no_directory) ∷ not_empty m (operand target no_directory) ∷ None ∷ beyond ∷ None ∷ streams ∷ None ∷ None ∷ None ∷ by_room m (effect l m w).ops ∷ [])))
  where
    in_order : IsRefusedInOrder l m w (tests_of m target) (of_taken_name m (operand target no_directory) ∷ not_empty m (operand target no_directory) ∷ None ∷ beyond ∷ None ∷ streams ∷ None ∷ None ∷ None ∷ by_room m (effect l m w).ops ∷ [])
    in_order = refused_in_order l m w (tests_of m target) (of_taken_name m (operand target no_directory) ∷ not_empty m (operand target no_directory) ∷ None ∷ beyond ∷ None ∷ streams ∷ None ∷ None ∷ None ∷ by_room m (effect l m w).ops ∷ []) taken are

    pub operand_refused : (r : Refusal) → first_of (tests_of m target) ≡ Some r → refusal_to l m w ≡ Some r
    operand_refused r e = in_order.here r e

    pub operand_taken : first_of (tests_of m target) ≡ None → refusal_to l m w ≡ first_of (None ∷ beyond ∷ None ∷ streams ∷ None ∷ None ∷ None ∷ by_room m (effect l m w).ops ∷ [])
    operand_taken e =
        in_order.later e
        ∙ two_none (of_taken_name m (operand target no_directory)) (not_empty m (operand target no_directory)) (None ∷ beyond ∷ None ∷ streams ∷ None ∷ None ∷ None ∷ by_room m (effect l m w).ops ∷ []) (taken_none m target) (empty_none m (file_at m target))

-- ---- the tests after it
-- that of lengths
pub beyond_comes : (r : Refusal) (beyond streams by_room : Option Refusal) → beyond ≡ Some r → first_of (None ∷ beyond ∷ None ∷ streams ∷ None ∷ None ∷ None ∷ by_room ∷ []) ≡ Some r
unfolding first
beyond_comes r (Some x) streams by_room e = e
beyond_comes r None streams by_room e = absurd (let n : None ≡ Some r = e in cc)

-- that of streams, after it
pub streams_come : (beyond streams by_room : Option Refusal) (r : Refusal) → beyond ≡ None → streams ≡ Some r → first_of (None ∷ beyond ∷ None ∷ streams ∷ None ∷ None ∷ None ∷ by_room ∷ []) ≡ Some r
unfolding first
streams_come None (Some x) by_room r e f = f
streams_come None None by_room r e f = absurd (let n : None ≡ Some r = f in cc)
streams_come (Some x) streams by_room r e f = absurd (let n : Some x ≡ None = e in cc)

-- that of room, after the others
pub room_comes : (beyond streams by_room : Option Refusal) → beyond ≡ None → streams ≡ None → first_of (None ∷ beyond ∷ None ∷ streams ∷ None ∷ None ∷ None ∷ by_room ∷ []) ≡ by_room
unfolding first
room_comes None None None e f = refl
room_comes None None (Some r) e f = refl
room_comes (Some r) streams by_room e f = absurd (let n : Some r ≡ None = e in cc)
room_comes None (Some r) by_room e f = absurd (let n : Some r ≡ None = f in cc)

-- whether a stream has the file that is meant
pub is_open : (w : World) (r : Option Fid) (f : Fid) (b : Bool) → r ≡ Some f → is_streamed w (Some f) ≡ b → when (is_streamed w r) refusal.StreamsOpen ≡ when b refusal.StreamsOpen
is_open w r f b is e = ap (λ x. when (is_streamed w x) refusal.StreamsOpen) is ∙ ap (λ x. when x refusal.StreamsOpen) e

-- lengths
pub is_beyond : (size last : ℕ) → size < last → when_beyond size last ≡ Some (refusal.Beyond size)
is_beyond size last less = ap (λ b. when b (refusal.Beyond size)) (lt-ltb size last less)

pub is_within : (size last : ℕ) → last ≤ size → when_beyond size last ≡ None
is_within size last most = ap (λ b. when b (refusal.Beyond size)) (le-ltb size last most)

-- room
pub has_room : (m : Model) (ops : List Operation) → pages_for_operations m ops ≤ room m → by_room m ops ≡ None
has_room m ops most = ap (λ b. when b (refusal.Full (pages_for_operations m ops) (room m))) (le-ltb (room m) (pages_for_operations m ops) most)

pub lacks_room : (m : Model) (ops : List Operation) → room m < pages_for_operations m ops → by_room m ops ≡ Some (refusal.Full (pages_for_operations m ops) (room m))
lacks_room m ops less = ap (λ b. when b (refusal.Full (pages_for_operations m ops) (room m))) (lt-ltb (room m) (pages_for_operations m ops) less)
