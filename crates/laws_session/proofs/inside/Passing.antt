-- What is so where a line isn't refused: none of its reasons holds.
use Rattle.std.proofs.Common.{◌≡◌, ◌≤◌, ℕ, Bool, true, false, not, nat_lt, List, [], ◌∷◌, ◌++◌, Option, Some, None, map, refl, ap, arith}
use Rattle.std.specs.Option.{option_or}
use Rattle.laws_line.specs.pack_model.specs.operations.Committing.{pages_for_operations}
use Rattle.laws_line.specs.pack_model.specs.operations.Step.{Operation}
use Rattle.laws_line.specs.pack_model.specs.reading.Files.{first}
use Rattle.laws_line.specs.pack_model.specs.reading.Model.{Model, read_as, room}
use Rattle.session_model.specs.exec_words.specs.declared.line.Line.{Line}
use Rattle.session_model.specs.exec_words.specs.declared.reply.Refusal.{Refusal}
use Rattle.session_model.specs.exec_words.specs.declared.reply.Refusal.TheVariants as refusal_is
use Rattle.session_model.specs.exec_words.specs.Typed.{is_typed}
use Rattle.session_model.specs.Effects.{effect}
use Rattle.session_model.specs.Operands.{Operand, operands}
use Rattle.session_model.specs.Refusals.{beyond, by_line, by_memory, by_operands, by_world, is_bad, meets_stream, missing, no_such_stream, not_empty, of_system, of_taken_name, of_wrong_kind, reasons, spent, when}
use Rattle.session_model.specs.Replies.{ops, refusal, unless_refused}
use Rattle.session_model.specs.Worlds.{World}
use Rattle.laws_line.specs.laws_room.proofs.rooms.Laws.{free_is_the_room}
use Rattle.laws_session.specs.UnrefusedLaws.{UnrefusedLinesHaveTheirPages}

-- ---- lists of tests
abbrev pub EachNone : List (Option Refusal) → Type 0
EachNone [] = Unit {0}
EachNone (r ∷ rs) = (r ≡ None) × EachNone rs

each_none : (rs : List (Option Refusal)) → first (λ r. r) rs ≡ None → EachNone rs
unfolding first
each_none [] e = tt
each_none (None ∷ rs) e = (refl, each_none rs e)
each_none (Some r ∷ rs) e = absurd cc

-- of two lists one after another
both_none : (a b : List (Option Refusal)) → EachNone (a ++ b) → EachNone a × EachNone b
both_none [] b h = (tt, h)
both_none (r ∷ a) b h = let s = both_none a b h.1 in ((h.0, s.0), s.1)

-- ---- one test
pub when_not : (b : Bool) (r : Refusal) → when b r ≡ None → b ≡ false
when_not true r e = absurd cc
when_not false r e = refl

-- neither of two
pub neither : {X : Type 0} (a b : Option X) → option_or a b ≡ None → (a ≡ None) × (b ≡ None)
neither None b e = (refl, e)
neither (Some x) b e = absurd cc

-- ---- all of them
-- The line can be typed, no test of an operand holds, its stream is open, its last byte is within, it meets no stream, no test of the
-- memory or of a world holds, there is a serial for it, and there is room.
pub record Passes (l : Line) (m : Model) (w : World) (os : List Operation) : Type 0 where
  pub typed : is_typed l ≡ true
  pub there : EachNone (map (missing m) (operands l))
  pub kinds : EachNone (map (of_wrong_kind m) (operands l))
  pub systems : EachNone (map (of_system m) (operands l))
  pub names : EachNone (map (of_taken_name m) (operands l))
  pub empty : EachNone (map (not_empty m) (operands l))
  pub streams : no_such_stream l w ≡ None
  pub within : beyond l m w ≡ None
  pub meets : meets_stream l m w ≡ false
  pub memory : by_memory l w ≡ None
  pub worlds : by_world l m ≡ None
  pub serials : spent l m ≡ None
  pub pages : pages_for_operations m os ≤ room m

not_bad : (b : Bool) → not b ≡ false → b ≡ true
not_bad true e = refl
not_bad false e = absurd cc

enough : (a b : ℕ) → nat_lt a b ≡ false → b ≤ a
enough a b e = grind arith

passes_by : (l : Line) (m : Model) (w : World) (all_ops : List Operation) → first (λ r. r) (reasons l m w all_ops) ≡ None → Passes l m w all_ops
passes_by l m w all_ops e =
    let all = each_none (reasons l m w all_ops) e in
    let lines = both_none (by_line l w) _ all in
    let named = both_none (by_operands l m) _ lines.1 in
    let os : List Operand = operands l in
    let kinds : List (Option Refusal) = map (missing m) os ++ map (of_wrong_kind m) os in
    let systems : List (Option Refusal) = kinds ++ map (of_system m) os in
    let d = both_none (systems ++ map (of_taken_name m) os) (map (not_empty m) os) named.0 in
    let c = both_none systems (map (of_taken_name m) os) d.0 in
    let b = both_none kinds (map (of_system m) os) c.0 in
    let a = both_none (map (missing m) os) (map (of_wrong_kind m) os) b.0 in
    let rest = named.1 in
    record {
      typed = not_bad (is_typed l) (when_not (is_bad l) refusal_is.BadLine lines.0.0);
      there = a.0;
      kinds = a.1;
      systems = b.1;
      names = c.1;
      empty = d.1;
      streams = rest.0;
      within = rest.1.0;
      meets = when_not (meets_stream l m w) refusal_is.StreamsOpen rest.1.1.1.0;
      memory = rest.1.1.1.1.0;
      worlds = rest.1.1.1.1.1.0;
      serials = rest.1.1.1.1.1.1.0;
      pages = enough (room m) (pages_for_operations m all_ops) (when_not _ _ rest.1.1.1.1.1.1.1.0);
    }

pub passes : (l : Line) (m : Model) (w : World) → refusal l m w ≡ None → Passes l m w (effect l m w).ops
passes l m w e = passes_by l m w (effect l m w).ops e

-- its operations are those of its effect
pub ops_done : (l : Line) (m : Model) (w : World) → refusal l m w ≡ None → ops l m w ≡ (effect l m w).ops
ops_done l m w e = ap (λ r. unless_refused r (effect l m w).ops []) e

pub unrefused_lines_have_their_pages : UnrefusedLinesHaveTheirPages
unrefused_lines_have_their_pages p w l whole none =
    let m : Model = read_as p in
    let t = passes l m w none in
    let done = ops_done l m w none in
    let free = (free_is_the_room p whole).room_is in
    let least = t.pages in
    let same = ap (pages_for_operations m) done in
    record { done = done; pages = omega (arith, free, least, same) }
