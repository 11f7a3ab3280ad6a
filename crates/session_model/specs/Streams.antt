-- Open streams over the files of a model: what they read, and what they write when.
-- Streams of bytes over disk files are those of the SOSP 1979 paper; when pending bytes are written is this project's choice.
use Rattle.std.specs.Prelude.{ℕ, zero, suc, ◌+◌, ◌-◌, ◌*◌, ◌/◌, ◌%◌, ◌==◌, ◌||◌, Bool, true, false, cond, nat_le, nat_lt, min, max, List, [], ◌∷◌, ◌++◌, length, take, drop, Option, Some, None}
use Rattle.std.specs.FinMap.{get}
use Rattle.exec_words.specs.alto_words.specs.declared.fid.Fid.{Fid}
use Rattle.exec_words.specs.pack_model.specs.reading.Bytes.{put_at}
use Rattle.exec_words.specs.pack_model.specs.reading.Bodies.{Body, File}
use Rattle.exec_words.specs.pack_model.specs.reading.Bodies.Body.{data_of, items_of}
use Rattle.exec_words.specs.pack_model.specs.reading.Model.{Model}
use Rattle.exec_words.specs.pack_model.specs.operations.Committing.{length_of}
use Rattle.exec_words.specs.pack_model.specs.operations.Step.{Operation}
use Rattle.exec_words.specs.pack_model.specs.operations.Step.Operation.{put, grow, stamp}

-- ---- bytes of files
abbrev pub body_data : Body → List ℕ
body_data (data_of bytes) = bytes
body_data (items_of is) = []

abbrev pub data_in : Option File → List ℕ
data_in None = []
data_in (Some x) = body_data x.body

-- the bytes of an ordinary file
abbrev pub bytes_in : Model → Fid → List ℕ
bytes_in m f = data_in (get m.files f)

-- bytes in the place of others: one put a page, rising
abbrev pub puts_from : ℕ → Fid → ℕ → List ℕ → List Operation
puts_from zero f at bytes = []
puts_from (suc fuel) f at [] = []
puts_from (suc fuel) f at (b ∷ bytes) = put f at (take (512 - at % 512) (b ∷ bytes)) ∷ puts_from fuel f (at + (512 - at % 512)) (drop (512 - at % 512) (b ∷ bytes))

abbrev pub puts : Fid → ℕ → List ℕ → List Operation
puts f at bytes = puts_from (length bytes) f at bytes

-- bytes after the last one, if there are some
abbrev pub grows : Fid → List ℕ → List Operation
grows f [] = []
grows f (b ∷ bytes) = grow f (b ∷ bytes) ∷ []

-- ---- streams
-- Its number and file; the position; the bytes that are put and not yet written, and the byte of the file where they begin; and whether
-- any were put. Where none are pending the base means nothing.
pub record Stream : Type 0 where
  pub number : ℕ
  pub fid : Fid
  pub position : ℕ
  pub base : ℕ
  pub pending : List ℕ
  pub put : Bool

abbrev pub new_stream : ℕ → Fid → Stream
new_stream n f = record { number = n; fid = f; position = 0; base = 0; pending = []; put = false }

-- where the pending bytes begin: they end at the position
abbrev pub pending_from : Stream → ℕ
pending_from s = s.position - length s.pending

-- the file's length and bytes, with those that are pending
abbrev pub stream_length : Model → Stream → ℕ
stream_length m s = max (length_of m s.fid) s.position

abbrev pub stream_bytes : Model → Stream → List ℕ
stream_bytes m s = put_at (pending_from s) s.pending (bytes_in m s.fid)

-- the next bytes, at most so many
abbrev pub next_bytes : Model → Stream → ℕ → List ℕ
next_bytes m s n = take n (drop s.position (stream_bytes m s))

-- ---- pending bytes are written: the part below the file's length by puts, the rest by one growth
abbrev pub written_ops : Model → Stream → ℕ → List Operation
written_ops m s n =
    let below = min n (length_of m s.fid - pending_from s) in
    puts s.fid (pending_from s) (take below s.pending) ++ grows s.fid (drop below (take n s.pending))

abbrev pub written_stream : Stream → ℕ → Stream
written_stream s n = record s { base = pending_from s + n; pending = drop n s.pending }

-- all of them
abbrev pub flush_ops : Model → Stream → List Operation
flush_ops m s = written_ops m s (length s.pending)

-- nothing is pending, and the position is this
abbrev pub flushed_at : ℕ → Stream → Stream
flushed_at to s = record s { position = to; base = to; pending = [] }

-- ---- bytes are put: they are pending first
abbrev pub is_some_byte : List ℕ → Bool
is_some_byte [] = false
is_some_byte (b ∷ bytes) = true

abbrev pub appended_stream : Stream → List ℕ → Stream
appended_stream s bytes = record s { base = pending_from s; position = s.position + length bytes; pending = s.pending ++ bytes; put = s.put || is_some_byte bytes }

-- where the position lies in a later page then, all up to the last page end at or below it are written
abbrev pub full_bytes : Stream → ℕ
full_bytes s = cond (nat_le (s.position / 512) (pending_from s / 512)) 0 (s.position / 512 * 512 - pending_from s)

abbrev pub put_ops : Model → Stream → List ℕ → List Operation
put_ops m s bytes = written_ops m (appended_stream s bytes) (full_bytes (appended_stream s bytes))

abbrev pub put_stream : Stream → List ℕ → Stream
put_stream s bytes = written_stream (appended_stream s bytes) (full_bytes (appended_stream s bytes))

-- ---- closing: what is pending, and a date where anything was put
abbrev pub close_ops : ℕ → Model → Stream → List Operation
close_ops moment m s = flush_ops m s ++ cond s.put (stamp s.fid moment ∷ []) []

-- all open streams, by rising number; each has a file of its own
abbrev pub closing_ops : ℕ → Model → List Stream → List Operation
closing_ops moment m [] = []
closing_ops moment m (s ∷ ss) = close_ops moment m s ++ closing_ops moment m ss

-- ---- the open streams of a session, by rising number
abbrev pub stream_at : ℕ → List Stream → Option Stream
stream_at n [] = None
stream_at n (s ∷ ss) = cond (s.number == n) (Some s) (stream_at n ss)

-- the lowest number that isn't open, from this one on
abbrev pub free_number : ℕ → List Stream → ℕ
free_number n [] = n
free_number n (s ∷ ss) = cond (s.number == n) (free_number (n + 1) ss) n

-- a stream in the place of the one with its number, or a new one
abbrev pub with_stream : Stream → List Stream → List Stream
with_stream s [] = s ∷ []
with_stream s (t ∷ ts) = cond (t.number == s.number) (s ∷ ts) (cond (nat_lt s.number t.number) (s ∷ t ∷ ts) (t ∷ with_stream s ts))

abbrev pub without_stream : ℕ → List Stream → List Stream
without_stream n [] = []
without_stream n (s ∷ ss) = cond (s.number == n) ss (s ∷ without_stream n ss)
