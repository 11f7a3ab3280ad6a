-- Files of open streams stay found over the lines of a session.
use Rattle.std.specs.Prelude.{All, List, map, ◌≡◌}
use Rattle.laws_call.specs.laws_line.specs.SoundLines.{IsKindOfLine}
use Rattle.laws_call.specs.pack_model.specs.reading.Model.{Model}
use Rattle.session_model.specs.Keeping.{OpenFile, StreamFormed, stream_of}
use Rattle.session_model.specs.Replies.{ops}
use Rattle.session_model.specs.Worlds.{World}
use Rattle.session_model.specs.exec_words.specs.declared.line.Line.{Line}
use Rattle.laws_steps.specs.LineKeepingLaws.{StaysFoundOver}

-- over a line of a world with these streams, which drops or renames no file of a stream, or is refused
abbrev pub StreamedFilesStayFound : Type 0
StreamedFilesStayFound = (l : Line) (m : Model) (w : World) (streams : List OpenFile) → IsKindOfLine m (ops l m w) → w.streams ≡ map stream_of streams → All StreamFormed streams → All (λ o. StaysFoundOver m (ops l m w) o.ref.fid o.ref.place) streams
