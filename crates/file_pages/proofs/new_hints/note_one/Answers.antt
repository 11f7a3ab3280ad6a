use Rattle.std.proofs.Common.{arith}
use Rattle.page_seeking.proofs.Noting.{note_made}
use Rattle.file_pages.proofs.new_hints.note_one.Goals as goal

pub returns : goal.returns
returns c = let notes = note_made c.note.result (omega (arith, c.refused-refused.ensures)) c.note.ensures.ok c.note.ensures.err in record { each = notes.each; entries = notes.here; grows = notes.grows }
