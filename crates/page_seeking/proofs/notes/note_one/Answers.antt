use Rattle.std.proofs.Common.{arith}
use Rattle.page_seeking.proofs.Noting.{note_made}
use Rattle.page_seeking.proofs.notes.note_one.Goals as goal

pub returns : goal.returns
returns c = record { noted = note_made c.note.result (omega (arith, c.refused-refused.ensures)) c.note.ensures.ok c.note.ensures.err }
