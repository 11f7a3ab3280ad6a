-- The files that a line touches: those whose hints may be followed for it.
-- Which files a line touches is this project's choice.
use Rattle.std.specs.Prelude.{ℕ, map, List, [], ◌∷◌, ◌++◌, Option, Some, None}
use Rattle.std.specs.List.{flat_map}
use Rattle.exec_words.specs.alto_words.specs.declared.fid.Fid.{Fid}
use Rattle.exec_words.specs.alto_words.specs.Fid.{sys_dir}
use Rattle.exec_words.specs.pack_model.specs.reading.Files.{first}
use Rattle.exec_words.specs.pack_model.specs.reading.Model.{Model}
use Rattle.exec_words.specs.declared.line.Target.{Target}
use Rattle.exec_words.specs.declared.line.Target.TheVariants.{ByPath, BySerial}
use Rattle.exec_words.specs.declared.line.Line.{Line}
use Rattle.exec_words.specs.declared.line.Line.TheVariants as line
use Rattle.session_model.specs.Finding.{dir_of, file_at}
use Rattle.session_model.specs.Streams.{Stream, stream_at}
use Rattle.session_model.specs.Worlds.{World}
use Rattle.session_model.specs.Operands.{Operand, operands}
use Rattle.session_model.specs.Refusals.{by_line}
use Rattle.session_model.specs.Replies.{unless_refused}

abbrev pub one_of : {X : Type 0} → Option X → List X
one_of None = []
one_of (Some x) = x ∷ []

-- ---- by operands: SysDir, and the directories and files that are named
abbrev pub dir_named : Model → Target → List Fid
dir_named m (ByPath path) = one_of (dir_of m path.dir)
dir_named m (BySerial serial) = []

abbrev pub operand_files : Model → Operand → List Fid
operand_files m o = dir_named m o.target ++ one_of (file_at m o.target)

abbrev pub files_named : Line → Model → List Fid
files_named l m = sys_dir ∷ flat_map (operand_files m) (operands l)

-- ---- by streams
abbrev pub stream_files : List Stream → List Fid
stream_files ss = map (λ s. s.fid) ss

abbrev pub stream_file : World → ℕ → List Fid
stream_file w n = stream_files (one_of (stream_at n w.streams))

-- ---- of a line that may begin
abbrev pub files_touched : Line → Model → World → List Fid
files_touched line.Free m w = []
files_touched (line.SetTime moment) m w = []
files_touched (line.Store at word) m w = []
files_touched (line.Fetch at) m w = []
files_touched (line.Block n) m w = []
files_touched (line.Unblock at) m w = []
files_touched (line.Junta level) m w = []
files_touched line.CounterJunta m w = []
files_touched line.Scavenge m w = []
files_touched (line.Get stream count) m w = stream_file w stream
files_touched (line.PutBytes stream bytes) m w = stream_file w stream
files_touched (line.Seek stream to) m w = stream_file w stream
files_touched (line.Close stream) m w = stream_file w stream
files_touched line.Quit m w = stream_files w.streams
files_touched l m w = files_named l m

-- none of a line that is refused by itself
abbrev pub touched : Line → Model → World → List Fid
touched l m w = unless_refused (first (λ r. r) (by_line l w)) (files_touched l m w) []
