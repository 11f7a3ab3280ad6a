-- What a line is refused for: the first of a list of reasons, which stand in the order in which they are tested.
-- The refusals and their order are this project's choice.
use Rattle.std.specs.Prelude.{ℕ, ◌+◌, ◌==◌, ◌&&◌, ◌||◌, Bool, true, false, cond, not, nat_le, nat_lt, List, [], ◌∷◌, ◌++◌, length, map, Option, Some, None}
use Rattle.std.specs.Option.{option_map, option_or}
use Rattle.std.specs.List.{list_any}
use Rattle.exec_words.specs.alto_words.specs.declared.fid.Fid.{Fid}
use Rattle.exec_words.specs.alto_words.specs.Fid.{is_fid, is_directory, sys_dir, disk_descriptor}
use Rattle.exec_words.specs.alto_words.specs.declared.wanted.Wanted.{Wanted}
use Rattle.exec_words.specs.alto_words.specs.declared.wanted.Wanted.TheVariants.{Exact, Newest}
use Rattle.exec_words.specs.pack_model.specs.reading.Files.{first}
use Rattle.exec_words.specs.pack_model.specs.reading.Model.{Model, room}
use Rattle.exec_words.specs.pack_model.specs.operations.Committing.{length_of, pages_for_operations}
use Rattle.exec_words.specs.pack_model.specs.operations.Step.{Operation}
use Rattle.exec_words.specs.declared.line.Path.{Path}
use Rattle.exec_words.specs.declared.line.Target.{Target}
use Rattle.exec_words.specs.declared.line.Target.TheVariants.{ByPath, BySerial}
use Rattle.exec_words.specs.declared.line.Line.{Line}
use Rattle.exec_words.specs.declared.line.Line.TheVariants as line
use Rattle.exec_words.specs.declared.reply.Refusal.{Refusal}
use Rattle.exec_words.specs.declared.reply.Refusal.TheVariants as refusal
use Rattle.exec_words.specs.Typed.{is_typed}
use Rattle.world_model.specs.Zones.{size_for, taken, largest_gap, given_back}
use Rattle.world_model.specs.ZoneWords.{zone_start}
use Rattle.world_model.specs.Levels.{used_by_levels}
use Rattle.world_model.specs.StateFiles.{Fault, not_a_world, not_whole, spoilt, fault_of, state_length}
use Rattle.session_model.specs.Finding.{dir_of, has_entry, file_at, is_there, is_path_taken, is_dir_taken}
use Rattle.session_model.specs.Streams.{bytes_in, stream_length, stream_at}
use Rattle.session_model.specs.Worlds.{World, memory_word}
use Rattle.session_model.specs.Operands.{Use, some_file, no_directory, listed, removed, new_file, new_directory, world, must_be_there, Operand, operands, level_of}

-- ---- a refusal with its test
abbrev pub when : Bool → Refusal → Option Refusal
when b r = cond b (Some r) None

-- that of what is found, if anything is
abbrev pub when_found : {X : Type 0} → Option X → (X → Option Refusal) → Option Refusal
when_found None test = None
when_found (Some x) test = test x

abbrev pub when_missing : {X : Type 0} → Option X → Refusal → Option Refusal
when_missing None r = Some r
when_missing (Some x) r = None

-- ---- 1 to 3: the line itself
-- no text is read as it, or the text isn't in the grammar
abbrev pub is_bad : Line → Bool
is_bad l = not (is_typed l)

-- it is obeyed though a scavenge is needed
abbrev pub is_obeyed_in_need : Line → Bool
is_obeyed_in_need line.Scavenge = true
is_obeyed_in_need line.CounterJunta = true
is_obeyed_in_need line.Quit = true
is_obeyed_in_need l = false

abbrev pub by_line : Line → World → List (Option Refusal)
by_line l w =
    when (is_bad l) refusal.BadLine
    ∷ when (w.need && not (is_obeyed_in_need l)) refusal.NeedsScavenge
    ∷ when (nat_lt w.level (level_of l)) (refusal.NoService (level_of l))
    ∷ []

-- ---- 4 to 8: operands
-- the directory that an operand stands in; SysDir's for a serial
abbrev pub dir_at : Model → Target → Option Fid
dir_at m (ByPath path) = dir_of m path.dir
dir_at m (BySerial serial) = Some sys_dir

-- 4: the directory isn't there, or a file that must be there
abbrev pub missing_file : Model → Operand → Option Refusal
missing_file m o = cond (must_be_there o.used) (when_missing (file_at m o.target) refusal.NoSuchName) None

abbrev pub missing : Model → Operand → Option Refusal
missing m o = option_or (when_missing (dir_at m o.target) refusal.NoSuchName) (missing_file m o)

-- 5: no directory where one is wanted, or a directory where a file is
abbrev pub wrong_kind : Use → Fid → Option Refusal
wrong_kind some_file f = None
wrong_kind no_directory f = when (is_directory f) refusal.IsADirectory
wrong_kind world f = when (is_directory f) refusal.IsADirectory
wrong_kind listed f = when (not (is_directory f)) refusal.NotADirectory
wrong_kind removed f = when (not (is_directory f)) refusal.NotADirectory
wrong_kind new_file f = None
wrong_kind new_directory f = None

abbrev pub no_dir : Model → Operand → Option Refusal
no_dir m o = when_found (dir_at m o.target) (λ d. when (not (is_directory d)) refusal.NotADirectory)

abbrev pub of_wrong_kind : Model → Operand → Option Refusal
of_wrong_kind m o = option_or (no_dir m o) (when_found (file_at m o.target) (wrong_kind o.used))

-- 6: a system file, which the line doesn't take
abbrev pub wrong_system : Use → Fid → Option Refusal
wrong_system some_file f = when (is_fid f disk_descriptor) refusal.SystemFile
wrong_system no_directory f = when (is_fid f disk_descriptor) refusal.SystemFile
wrong_system world f = when (is_fid f disk_descriptor) refusal.SystemFile
wrong_system removed f = when (is_fid f disk_descriptor || is_fid f sys_dir) refusal.SystemFile
wrong_system listed f = None
wrong_system new_file f = None
wrong_system new_directory f = None

abbrev pub of_system : Model → Operand → Option Refusal
of_system m o = when_found (file_at m o.target) (wrong_system o.used)

-- 7: a new name that is taken; the file of a world is new if it isn't there
abbrev pub taken_dir : Model → Wanted → Option Refusal
taken_dir m (Exact name) = when (is_dir_taken m name) refusal.NameTaken
taken_dir m (Newest base) = None

abbrev pub taken_path : Model → Use → Path → Option Refusal
taken_path m new_file path = when (is_path_taken m path) refusal.NameTaken
taken_path m world path = when (not (is_there m path) && is_path_taken m path) refusal.NameTaken
taken_path m some_file path = None
taken_path m no_directory path = None
taken_path m listed path = None
taken_path m removed path = None
taken_path m new_directory path = taken_dir m path.wanted

-- no operand of this use is a serial
abbrev pub taken_target : Model → Use → Target → Option Refusal
taken_target m used (ByPath path) = taken_path m used path
taken_target m used (BySerial serial) = None

abbrev pub of_taken_name : Model → Operand → Option Refusal
of_taken_name m o = taken_target m o.used o.target

-- 8: a directory that is to go has an entry
abbrev pub left_in : Model → Use → Fid → Option Refusal
left_in m removed f = when (has_entry m f) refusal.NotEmpty
left_in m used f = None

abbrev pub not_empty : Model → Operand → Option Refusal
not_empty m o = when_found (file_at m o.target) (left_in m o.used)

-- number by number, and within a number from left to right
abbrev pub by_operands : Line → Model → List (Option Refusal)
by_operands l m =
    map (missing m) (operands l)
    ++ map (of_wrong_kind m) (operands l)
    ++ map (of_system m) (operands l)
    ++ map (of_taken_name m) (operands l)
    ++ map (not_empty m) (operands l)

-- ---- 9 and 10: lengths and streams; that a stream isn't open is tested before lengths
abbrev pub stream_named : Line → Option ℕ
stream_named (line.Get stream count) = Some stream
stream_named (line.PutBytes stream bytes) = Some stream
stream_named (line.Seek stream to) = Some stream
stream_named (line.Close stream) = Some stream
stream_named l = None

abbrev pub no_such_stream : Line → World → Option Refusal
no_such_stream l w = when_found (stream_named l) (λ n. when_missing (stream_at n w.streams) refusal.NoStream)

-- the line would end after so many bytes of a length
abbrev pub when_beyond : ℕ → ℕ → Option Refusal
when_beyond size last = when (nat_lt size last) (refusal.Beyond size)

abbrev pub beyond : Line → Model → World → Option Refusal
beyond (line.Patch file offset bytes) m w = when_found (file_at m file) (λ f. when_beyond (length_of m f) (offset + length bytes))
beyond (line.Cut file n) m w = when_found (file_at m file) (λ f. when_beyond (length_of m f) n)
beyond (line.Seek stream to) m w = when_found (stream_at stream w.streams) (λ s. when_beyond (stream_length m s) to)
beyond l m w = None

abbrev pub most_streams : ℕ
most_streams = 8

abbrev pub too_many : Line → World → Option Refusal
too_many (line.OpenStream file) w = when (nat_le most_streams (length w.streams)) refusal.TooManyStreams
too_many l w = None

-- a stream has the file
abbrev pub is_streamed : World → Option Fid → Bool
is_streamed w None = false
is_streamed w (Some f) = list_any (λ s. is_fid s.fid f) w.streams

abbrev pub is_any_open : World → Bool
is_any_open w = nat_lt 0 (length w.streams)

-- the line leaves its first file, or all files, to open streams
abbrev pub meets_stream : Line → Model → World → Bool
meets_stream (line.Append file bytes) m w = is_streamed w (file_at m file)
meets_stream (line.Patch file offset bytes) m w = is_streamed w (file_at m file)
meets_stream (line.Cut file n) m w = is_streamed w (file_at m file)
meets_stream (line.Rename old new) m w = is_streamed w (file_at m (ByPath old))
meets_stream (line.Delete path) m w = is_streamed w (file_at m (ByPath path))
meets_stream (line.OpenStream file) m w = is_streamed w (file_at m file)
meets_stream (line.OutLoad path) m w = is_any_open w
meets_stream (line.InLoad path message) m w = is_any_open w
meets_stream line.Scavenge m w = is_any_open w
meets_stream (line.Junta level) m w = nat_lt level 6 && is_any_open w
meets_stream l m w = false

-- ---- 11: the memory
abbrev pub by_memory : Line → World → Option Refusal
by_memory (line.Block n) w = when_missing (taken zone_start (size_for n) w.zone) (refusal.NoRoom (largest_gap w.zone))
by_memory (line.Unblock at) w = when_missing (given_back zone_start at w.zone) refusal.NotABlock
by_memory (line.Store at word) w = when_missing (memory_word w at) refusal.NotABlock
by_memory (line.Fetch at) w = when_missing (memory_word w at) refusal.NotABlock
by_memory line.CounterJunta w = option_map refusal.InUse (used_by_levels w.zone)
by_memory l w = None

-- ---- 12: worlds
-- what the bytes of a file have against them that is to be a world
abbrev pub refusal_of_fault : Fault → Refusal
refusal_of_fault (not_a_world size) = refusal.NotAWorld size
refusal_of_fault (not_whole mark) = refusal.NotWhole mark
refusal_of_fault (spoilt at) = refusal.Spoilt at

abbrev pub no_world : List ℕ → Option Refusal
no_world bytes = option_map refusal_of_fault (fault_of bytes)

-- a world is written over a world, or into a file without a byte
abbrev pub takes_world : ℕ → Option Refusal
takes_world size = when (not (size == 0 || size == state_length)) (refusal.NotAWorld size)

abbrev pub by_world : Line → Model → Option Refusal
by_world (line.OutLoad path) m = when_found (file_at m (ByPath path)) (λ f. takes_world (length_of m f))
by_world (line.InLoad path message) m = when_found (file_at m (ByPath path)) (λ f. no_world (bytes_in m f))
by_world l m = None

-- ---- 13: serials
abbrev pub makes_file : Line → Model → Bool
makes_file (line.Make path) m = true
makes_file (line.Copy file path) m = true
makes_file (line.MakeDir name) m = true
makes_file (line.OutLoad path) m = not (is_there m path)
makes_file l m = false

-- so many serials are given out at most
unfoldable pub most_serials : ℕ
most_serials = 2147483646

abbrev pub spent : Line → Model → Option Refusal
spent l m = when (makes_file l m && nat_le most_serials m.last) (refusal.SerialsSpent m.last)

-- ---- 14: room for the pages that its operations add
abbrev pub by_room : Model → List Operation → Option Refusal
by_room m ops = when (nat_lt (room m) (pages_for_operations m ops)) (refusal.Full (pages_for_operations m ops) (room m))

-- ---- all reasons in order, for a line that would do these operations
abbrev pub reasons : Line → Model → World → List Operation → List (Option Refusal)
reasons l m w ops =
    by_line l w
    ++ by_operands l m
    ++ no_such_stream l w
    ∷ beyond l m w
    ∷ too_many l w
    ∷ when (meets_stream l m w) refusal.StreamsOpen
    ∷ by_memory l w
    ∷ by_world l m
    ∷ spent l m
    ∷ by_room m ops
    ∷ []

-- the first that holds
abbrev pub refusal_of : Line → Model → World → List Operation → Option Refusal
refusal_of l m w ops = first (λ r. r) (reasons l m w ops)
