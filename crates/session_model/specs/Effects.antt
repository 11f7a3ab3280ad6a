-- What each line does that isn't refused: its operations, its text, and the world after it.
-- The lines, and what each does, are this project's choice.
use Rattle.std.specs.Prelude.{ℕ, ◌+◌, ◌==◌, cond, map, List, [], ◌∷◌, ◌++◌, length, take, drop, Option, Some, None}
use Rattle.std.specs.Option.{unwrap_or}
use Rattle.std.specs.FinMap.{get}
use Rattle.exec_words.specs.alto_words.specs.declared.fid.Fid.{Fid}
use Rattle.exec_words.specs.alto_words.specs.Fid.{sys_dir, ordinary_fid, directory_fid}
use Rattle.exec_words.specs.pack_model.specs.reading.Bytes.{words_of}
use Rattle.exec_words.specs.pack_model.specs.reading.Bodies.{File}
use Rattle.exec_words.specs.pack_model.specs.reading.Leaders.{Leader}
use Rattle.exec_words.specs.pack_model.specs.reading.Model.{Model, room}
use Rattle.exec_words.specs.pack_model.specs.operations.Committing.{length_of}
use Rattle.exec_words.specs.pack_model.specs.operations.Step.{Operation, spare_widening, room_widening, new_leader}
use Rattle.exec_words.specs.pack_model.specs.operations.Step.Operation.{make, put, cut, title, stamp, drop_file, leave, enter}
use Rattle.exec_words.specs.declared.line.Path.{Path}
use Rattle.exec_words.specs.declared.line.Target.TheVariants.{ByPath}
use Rattle.exec_words.specs.declared.line.Line.{Line}
use Rattle.exec_words.specs.declared.line.Line.TheVariants as line
use Rattle.exec_words.specs.declared.reply.Stat.{Stat}
use Rattle.exec_words.specs.Texts.{done_text, made_text, length_text, at_text, level_text, stream_text, free_text, word_text, got_text, written_text, not_written_text, type_text, list_text, stat_text}
use Rattle.world_model.specs.Zones.{Taken, size_for, taken, given_back}
use Rattle.world_model.specs.ZoneWords.{zone_start}
use Rattle.world_model.specs.Levels.{all_levels, level_kept}
use Rattle.world_model.specs.StateFiles.{mark_whole, mark_begun, message_bytes}
use Rattle.session_model.specs.Finding.{entries_of, the_file, the_dir, dir_of, is_there, own_name, name_given}
use Rattle.session_model.specs.Streams.{Stream, new_stream, bytes_in, puts, grows, stream_length, next_bytes, flush_ops, flushed_at, put_ops, put_stream, close_ops, closing_ops, free_number}
use Rattle.session_model.specs.Worlds.{World, memory_word, world_with_zone, with_word, junta_world, full_world, world_bytes, loaded_world, the_stream, stream_to, stream_gone}

pub record Effect : Type 0 where
  pub ops : List Operation
  pub text : List ℕ
  pub world : World

-- no operation, and the world is this then
abbrev pub says : World → List ℕ → Effect
says w text = record { ops = []; text = text; world = w }

abbrev pub does : World → List Operation → List ℕ → Effect
does w ops text = record { ops = ops; text = text; world = w }

-- ---- files
-- the full name of the next file, and of the next directory
abbrev pub next_file : Model → Fid
next_file m = ordinary_fid (m.last + 1)

abbrev pub next_directory : Model → Fid
next_directory m = directory_fid (m.last + 1)

-- before a new name: a page more for SysDir if a long entry would find no room there, and one for another directory if this entry
-- would find none
abbrev pub widenings : Model → Fid → List ℕ → List Operation
widenings m d name = spare_widening m ++ room_widening m d name

-- a new file and its entry
abbrev pub new_file_ops : Model → Fid → List ℕ → Fid → ℕ → List Operation
new_file_ops m d name f moment = widenings m d name ++ make f name moment ∷ enter d name f ∷ []

abbrev pub made_ops : Model → World → Path → List Operation
made_ops m w path = new_file_ops m (the_dir m path) (name_given m path) (next_file m) w.moment

-- bytes and a date
abbrev pub appended_ops : Fid → List ℕ → ℕ → List Operation
appended_ops f bytes moment = grows f bytes ++ stamp f moment ∷ []

abbrev pub cut_ops : Model → Fid → ℕ → ℕ → List Operation
cut_ops m f n moment = cond (n == length_of m f) [] (cut f n ∷ []) ++ stamp f moment ∷ []

-- of a copy, if there are bytes
abbrev pub copied_ops : Fid → List ℕ → ℕ → List Operation
copied_ops f [] moment = []
copied_ops f (b ∷ bytes) moment = appended_ops f (b ∷ bytes) moment

abbrev pub rename_ops : Model → Path → Path → List Operation
rename_ops m old new =
    widenings m (the_dir m new) (name_given m new)
    ++ title (the_file m (ByPath old)) (name_given m new)
    ∷ leave (the_dir m old) (own_name m old)
    ∷ enter (the_dir m new) (name_given m new) (the_file m (ByPath old))
    ∷ []

abbrev pub leader_in : Option File → Leader
leader_in None = new_leader [] 0
leader_in (Some x) = x.leader

abbrev pub stat_by : Model → Fid → Leader → Stat
stat_by m f l = record { fid = f; length = length_of m f; created = l.created; written = l.written; read = l.read; name = l.name }

abbrev pub stat_of : Model → Fid → Stat
stat_of m f = stat_by m f (leader_in (get m.files f))

abbrev pub names_in : Model → Fid → List (List ℕ)
names_in m d = map (λ n. n.name) (entries_of m d)

abbrev pub listed_dir : Model → Option (List ℕ) → Fid
listed_dir m dir = unwrap_or (dir_of m dir) sys_dir

-- ---- the file of a world: into a file without a byte all of them; over a world the first page with the mark that says it has begun,
-- the other pages, and the first page with its own mark
abbrev pub world_puts : Fid → List ℕ → List ℕ → List Operation
world_puts f begun whole = put f 0 (take 512 begun) ∷ puts f 512 (drop 512 whole) ++ put f 0 (take 512 whole) ∷ []

abbrev pub world_ops : Model → World → Fid → List Operation
world_ops m w f = cond (length_of m f == 0) (grows f (world_bytes w mark_whole)) (world_puts f (world_bytes w mark_begun) (world_bytes w mark_whole))

abbrev pub outload_ops : Model → World → Path → List Operation
outload_ops m w path =
    cond (is_there m path)
    (world_ops m w (the_file m (ByPath path)) ++ stamp (the_file m (ByPath path)) w.moment ∷ [])
    (made_ops m w path ++ appended_ops (next_file m) (world_bytes w mark_whole) w.moment)

abbrev pub inload_effect : World → List ℕ → List ℕ → Effect
inload_effect w bytes message = says (loaded_world w (words_of bytes) message) (not_written_text (message_bytes message))

-- ---- streams
abbrev pub open_effect : World → ℕ → Fid → Effect
open_effect w n f = says (stream_to w (new_stream n f)) (stream_text n)

abbrev pub get_effect : Model → World → Stream → List ℕ → Effect
get_effect m w s bytes = does (stream_to w (flushed_at (s.position + length bytes) s)) (flush_ops m s) (got_text bytes)

abbrev pub put_effect : Model → World → Stream → List ℕ → Effect
put_effect m w s bytes = does (stream_to w (put_stream s bytes)) (put_ops m s bytes) (at_text (put_stream s bytes).position)

abbrev pub seek_effect : Model → World → Stream → ℕ → Effect
seek_effect m w s to = does (stream_to w (flushed_at to s)) (flush_ops m s) (at_text to)

abbrev pub close_effect : Model → World → Stream → Effect
close_effect m w s = does (stream_gone w s) (close_ops w.moment m s) (length_text (stream_length m s))

-- ---- the memory; a line without its block, or its word, is refused
abbrev pub block_effect : World → Option Taken → Effect
block_effect w None = says w []
block_effect w (Some t) = says (world_with_zone w t.blocks) (at_text t.at)

-- ---- the end of a session closes its streams, and does nothing if a scavenge is needed
abbrev pub ending_ops : Model → World → List Operation
ending_ops m w = cond w.need [] (closing_ops w.moment m w.streams)

abbrev pub closed_world : World → World
closed_world w = record w { streams = [] }

-- ---- each line
abbrev pub effect : Line → Model → World → Effect
effect (line.ListNames dir) m w = says w (list_text (names_in m (listed_dir m dir)))
effect (line.TypeOut file) m w = says w (type_text (bytes_in m (the_file m file)))
effect (line.Stat file) m w = says w (stat_text (stat_of m (the_file m file)))
effect (line.Make path) m w = does w (made_ops m w path) (made_text (next_file m))
effect (line.Append file bytes) m w = does w (appended_ops (the_file m file) bytes w.moment) (length_text (length_of m (the_file m file) + length bytes))
effect (line.Patch file offset bytes) m w = does w (puts (the_file m file) offset bytes) done_text
effect (line.Cut file n) m w = does w (cut_ops m (the_file m file) n w.moment) (length_text n)
effect (line.Copy file path) m w = does w (made_ops m w path ++ copied_ops (next_file m) (bytes_in m (the_file m file)) w.moment) (made_text (next_file m))
effect (line.Rename old new) m w = does w (rename_ops m old new) done_text
effect (line.Delete path) m w = does w (drop_file (the_file m (ByPath path)) ∷ []) done_text
effect (line.MakeDir name) m w = does w (new_file_ops m sys_dir name (next_directory m) w.moment) (made_text (next_directory m))
effect (line.RemoveDir name) m w = does w (drop_file (listed_dir m (Some name)) ∷ []) done_text
effect line.Free m w = says w (free_text (room m))
effect (line.SetTime moment) m w = says (record w { moment = moment }) done_text
effect (line.OpenStream file) m w = open_effect w (free_number 0 w.streams) (the_file m file)
effect (line.Get stream count) m w = get_effect m w (the_stream stream w) (next_bytes m (the_stream stream w) count)
effect (line.PutBytes stream bytes) m w = put_effect m w (the_stream stream w) bytes
effect (line.Seek stream to) m w = seek_effect m w (the_stream stream w) to
effect (line.Close stream) m w = close_effect m w (the_stream stream w)
effect (line.Store at word) m w = says (with_word w at word) done_text
effect (line.Fetch at) m w = says w (word_text (unwrap_or (memory_word w at) 0))
effect (line.Block n) m w = block_effect w (taken zone_start (size_for n) w.zone)
effect (line.Unblock at) m w = says (world_with_zone w (unwrap_or (given_back zone_start at w.zone) [])) done_text
effect (line.Junta level) m w = says (junta_world w level) (level_text (level_kept w.level level))
effect line.CounterJunta m w = says (full_world w) (level_text all_levels)
effect (line.OutLoad path) m w = does w (outload_ops m w path) written_text
effect (line.InLoad path message) m w = inload_effect w (bytes_in m (the_file m (ByPath path))) message
effect line.Scavenge m w = says w []
effect line.Quit m w = does (closed_world w) (ending_ops m w) done_text
effect line.Bad m w = says w []
