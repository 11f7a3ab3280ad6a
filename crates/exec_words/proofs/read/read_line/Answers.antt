use Rattle.std.proofs.Common.{◌≡◌, ◌<◌, ◌≤◌, ◌+◌, ℕ, List, length, Option, None, true, false, refl, subst, arith}
use Rattle.std.proofs.lemmas.Bool.{le-leb, lt-leb}
use Rattle.pack_model.specs.sessions.Lines.{is_too_long, longest_line}
use Rattle.exec_words.specs.declared.line.Line.{Line}
use Rattle.exec_words.specs.declared.operand.Unread.{Unread}
use Rattle.exec_words.specs.declared.operand.Unread.TheVariants as unread
use Rattle.exec_words.specs.Reading.{Misreads}
use Rattle.exec_words.specs.Grammar.{line_in, grammar, read_by, words_in}
use Rattle.exec_words.proofs.read.read_line.Goals as goal

is_long : (text : List ℕ) → 4096 < length text → is_too_long text ≡ true
unfolding longest_line
is_long text h = le-leb (4096 + 1) (length text) (omega (arith, h))

is_short : (text : List ℕ) → length text ≤ 4096 → is_too_long text ≡ false
unfolding longest_line
is_short text h = lt-leb (4096 + 1) (length text) (omega (arith, h))

nothing : (e : Unread) → e ≡ unread.Bad → (o : Option Line) → Misreads e o → o ≡ None
nothing e is o reads = subst (λ f. Misreads f o) is reads

pub returns-then-text-gt-LONGEST_LINE : goal.returns-then-text-gt-LONGEST_LINE
unfolding line_in
returns-then-text-gt-LONGEST_LINE c = rw (is_long c.args.text.now c.if-text-gt-LONGEST_LINE.true) refl

pub returns-in-Ok : goal.returns-in-Ok
unfolding line_in
returns-in-Ok c = rw (is_short c.args.text.now c.if-text-gt-LONGEST_LINE.false, c.in-Ok.ensures) refl

pub returns-in-Err-Bad : goal.returns-in-Err-Bad
unfolding line_in
returns-in-Err-Bad c =
    let none = nothing c.in-Err-Bad.field-0 c.in-Err-Bad.field-0-is (read_by grammar (words_in c.args.text.now)) c.in-Err-Bad.ensures in
    rw (is_short c.args.text.now c.if-text-gt-LONGEST_LINE.false, none) refl
