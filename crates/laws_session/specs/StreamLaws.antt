-- From a line on a stream that isn't refused, and from the end of a session, to what the laws of lines ask for; and what lines leave of
-- open streams.
use Rattle.std.specs.Prelude.{◌≡◌, ℕ, false, All, List, Some}
use Rattle.laws_line.specs.alto_words.specs.Fid.{is_fid}
use Rattle.laws_line.specs.disk_records.specs.declared.shape.Shape.{Shape}
use Rattle.laws_line.specs.disk_records.specs.Packs.{Pack}
use Rattle.laws_line.specs.pack_model.specs.reading.Model.{Model, read_as}
use Rattle.laws_line.specs.pack_model.specs.states.Sound.{Sound}
use Rattle.laws_line.specs.laws_operation.specs.ByteLaws.{IsOrdinary}
use Rattle.laws_line.specs.Ready.{steps_of}
use Rattle.laws_line.specs.SoundLines.{IsKindOfLine}
use Rattle.session_model.specs.exec_words.specs.declared.line.Line.{Line}
use Rattle.session_model.specs.Effects.{ending_ops}
use Rattle.session_model.specs.Keeping.{AreApart, Formed, Keeping, Kept, StreamFits}
use Rattle.session_model.specs.Refusals.{stream_named}
use Rattle.session_model.specs.Replies.{next}
use Rattle.session_model.specs.Streams.{Stream, stream_at, with_stream, without_stream}
use Rattle.session_model.specs.Turning.{State}
use Rattle.session_model.specs.Worlds.{World}
use Rattle.laws_session.specs.UnrefusedLaws.{IsUnrefused, ops_on}

-- the pending bytes of each stream begin within its file, as `Keeping` says of what a session keeps
abbrev pub StreamsFit : Model → World → Type 0
StreamsFit m w = All (StreamFits m) w.streams

-- then a `get`, `putb`, `seek` or `close` that isn't refused is a line
abbrev pub StreamLineMayBegin : Type 0
StreamLineMayBegin = (p : Pack) (w : World) (l : Line) (n : ℕ) → IsUnrefused p w l → stream_named l ≡ Some n → StreamsFit (read_as p) w → IsKindOfLine (read_as p) (ops_on p w l)

-- and so are the last operations of a session, at a `quit` or at the end of the keys: each stream has a file of its own
abbrev pub EndingIsALine : Type 0
EndingIsALine = (m : Model) (w : World) → StreamsFit m w → AreApart w.streams → IsKindOfLine m (ending_ops m w)

-- ---- what lines leave of streams
-- Each stream is of an ordinary file, in which its pending bytes begin; they stand by rising number, each of a file of its own.
pub record StreamsStand (m : Model) (w : World) : Type 0 where
  pub fits : StreamsFit m w
  pub ordinary : All (λ s. IsOrdinary s.fid) w.streams
  pub apart : AreApart w.streams

-- so it is of what a session keeps
abbrev pub KeptStreamsStand : Type 0
KeptStreamsStand = (p : Pack) (form : Shape) (k : Kept) (s : State) → Formed form k → Keeping p k s → StreamsStand s.model s.world

-- and after each line on a sound pack, refused or not, if it was before
abbrev pub StreamsStayFit : Type 0
StreamsStayFit = (p : Pack) (w : World) (l : Line) → Sound p → StreamsStand (read_as p) w → StreamsStand (steps_of (read_as p) (ops_on p w l)) (next l (read_as p) w)

-- ---- on every machine
-- Streams are by rising number, each of a file of its own, where one comes in the place of that of its number, over the same file; where
-- one comes over a file that none has; and where one goes.
pub record StayApart (ss : List Stream) : Type 0 where
  pub put : (n : ℕ) (s u : Stream) → stream_at n ss ≡ Some s → u.number ≡ s.number → u.fid ≡ s.fid → AreApart (with_stream u ss)
  pub come : (u : Stream) → All (λ t. is_fid t.fid u.fid ≡ false) ss → AreApart (with_stream u ss)
  pub go : (n : ℕ) → AreApart (without_stream n ss)

-- if they were before
abbrev pub StreamsStayApart : Type 0
StreamsStayApart = (ss : List Stream) → AreApart ss → StayApart ss
