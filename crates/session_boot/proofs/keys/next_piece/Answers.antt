use Rattle.std.proofs.Common.{arith}
use Rattle.session_boot.proofs.Typing.{piece_part, unbroken_part}
use Rattle.session_boot.proofs.keys.next_piece.Goals as goal

pub returns-in-Ok-2-clause-piece : goal.returns-in-Ok-2-clause-piece
returns-in-Ok-2-clause-piece g c told =
    let n = c.in-Ok.n in
    piece_part c.read_piece.new.buf n (omega arith) (omega (arith, c.in-Ok.ensures.fits, c.read_piece.auto.buf)) c.if-buf-n-eq-LINE_END.false (c.in-Ok.ensures.read told).ok.moved c.in-Ok.ensures.unbroken

pub returns-in-Ok-2-clause-goes_on : goal.returns-in-Ok-2-clause-goes_on
returns-in-Ok-2-clause-goes_on g c =
    let n = c.in-Ok.n in
    c.in-Ok.ensures.goes_on (unbroken_part c.read_piece.new.buf n (omega arith) (omega (arith, c.in-Ok.ensures.fits, c.read_piece.auto.buf)) c.if-buf-n-eq-LINE_END.false c.in-Ok.ensures.unbroken)
