use Rattle.std.proofs.Common.{◌≡◌, ◌<◌, ◌++◌, [], ◌∷◌, length, sym, ◌∙◌, ap, append_assoc, append-nil, arith}
use Rattle.std.proofs.lemmas.Bool.Decides.{nat_tests}
use Rattle.alto_words.specs.Numbers.{hex_of}
use Rattle.exec_words.specs.Texts.{line_of}
use Rattle.exec_words.proofs.HexLines.{no_line, last_line, lines_done}
use Rattle.exec_words.proofs.texts.push_hex_lines.Goals as goal

pub returns-then-is_empty : goal.returns-then-is_empty
returns-then-is_empty c =
    let rest = c.as_chunks.result.1.now in
    let none : length rest ≡ 0 = grind (arith, nat_tests) in
    sym (append-nil c.loop-line.out.items)
    ∙ lines_done c.loop-line.out.items c.args.out.now.items c.args.bytes.now rest [] c.as_chunks.result.0.now c.loop-line.line-index c.loop-line-test.false c.loop-line.invariant
    c.as_chunks.ensures.front c.as_chunks.ensures.back (no_line rest none)

pub returns : goal.returns
returns c =
    let rest = c.as_chunks.result.1.now in
    let some : 0 < length rest = grind (arith, nat_tests) in
    let short : length rest < 32 = omega arith in
    c.in_ok-push.ensures
    ∙ ap (λ t. t ++ 10 ∷ []) c.in_ok-push_hex.ensures.ok
    ∙ append_assoc c.loop-line.out.items (hex_of rest) (10 ∷ [])
    ∙ lines_done c.loop-line.out.items c.args.out.now.items c.args.bytes.now rest (line_of (hex_of rest)) c.as_chunks.result.0.now c.loop-line.line-index c.loop-line-test.false c.loop-line.invariant
    c.as_chunks.ensures.front c.as_chunks.ensures.back (last_line rest short some)
