-- DiskDescriptor's pages, and the record writes of opening the mark, of a new serial and of closing.
-- A descriptor with the shape, and the map as a hint, is that of the SOSP 1979 paper; its layout, the mark and the last serial are
-- this project's choice.
use Rattle.std.specs.Prelude.{◌≡◌, ℕ, suc, ◌+◌, ◌*◌, ◌/◌, ◌<◌, ◌==◌, Bool, true, false, cond, not, List, [], ◌∷◌, ◌++◌, length, slice_get, take, drop, replicate, reverse}
use Rattle.disk_records.specs.alto_words.specs.Fid.{disk_descriptor}
use Rattle.disk_records.specs.declared.shape.Shape.{Shape}
use Rattle.disk_records.specs.declared.records.Event.{Event}
use Rattle.disk_records.specs.Addresses.{disks_of, cylinders_of, table_words, descriptor_length}
use Rattle.disk_records.specs.Commands.{value_writes}
use Rattle.disk_records.specs.Packs.{Pack}
use Rattle.pack_model.specs.reading.Bytes.{put_at}
use Rattle.pack_model.specs.reading.Sights.{sights}
use Rattle.pack_model.specs.reading.Files.{place}
use Rattle.pack_model.specs.reading.Model.{Model, read_as}
use Rattle.pack_model.specs.states.InUse.{how_many}
use Rattle.pack_model.specs.hints.Tables.{words_of_bits}
use Rattle.pack_model.specs.states.Sound.{mark_clean, mark_open, mark_of}
use Rattle.pack_model.specs.operations.PageWords.{halves, filled}
use Rattle.pack_model.specs.operations.Commands.{values_writes}
use Rattle.pack_model.specs.operations.Step.{Operation}
use Rattle.pack_model.specs.operations.Operations.{Move, quiet_moves}
use Rattle.pack_model.specs.operations.Committing.{units, line_moves}

-- the number of its data pages
abbrev pub data_pages : Shape → ℕ
data_pages shape = suc (descriptor_length shape / 512)

-- ---- the file: the shape; the last serial; the mark; the number of free sectors; the number of map words; zeros; the map
abbrev pub descriptor_text : Shape → ℕ → ℕ → List Bool → List ℕ
descriptor_text shape last mark busy =
    (disks_of shape ∷ cylinders_of shape ∷ 2 ∷ 12 ∷ [])
    ++ halves last
    ++ (mark ∷ how_many not busy ∷ table_words shape ∷ replicate 7 0)
    ++ words_of_bits (table_words shape) busy

-- the value of its data page n, counted from 0; zeros past the length
abbrev pub descriptor_value : Shape → ℕ → ℕ → List Bool → ℕ → List ℕ
descriptor_value shape last mark busy n = filled 256 (take 256 (drop (256 * n) (descriptor_text shape last mark busy)))

-- ---- words of its first data page that change alone
abbrev pub opened_value : List ℕ → List ℕ
opened_value value = put_at 6 (mark_open ∷ []) value

-- the value of DiskDescriptor's first page with another last serial
abbrev pub serial_value : ℕ → List ℕ → List ℕ
serial_value last value = put_at 4 (halves last) value

-- ---- record writes
-- the mark is opened before the first write of a session, where it isn't open
abbrev pub open_writes : ℕ → ℕ → List ℕ → List Event
open_writes mark at value = cond (mark == mark_open) [] (value_writes at (opened_value value))

-- a serial is on the disk before a label bears it; this write changes nothing that is viewed or shown, and so it is quiet there;
-- read as a model, the pack has a greater last serial after it
abbrev pub serial_writes : ℕ → ℕ → List ℕ → List Event
serial_writes at last value = value_writes at (serial_value last value)

-- these sectors are its data pages from page n on, counted from 0
abbrev pub closed_values : Shape → ℕ → List Bool → ℕ → List ℕ → List (ℕ × List ℕ)
closed_values shape last busy n [] = []
closed_values shape last busy n (at ∷ pages) = (at, descriptor_value shape last mark_clean busy n) ∷ closed_values shape last busy (suc n) pages

-- closing writes nothing where the mark is clean, and else each data page, from the last to the first, and so the clean mark last
abbrev pub close_writes : ℕ → Shape → ℕ → List Bool → List ℕ → List Event
close_writes mark shape last busy pages = cond (mark == mark_clean) [] (values_writes (reverse (closed_values shape last busy 0 pages)))

-- each of these record writes is quiet: a move says no more of it, and its place and words are those of `close_writes`
abbrev pub close_moves : {X : Type 0} → ℕ → List X → List Move
close_moves mark pages = cond (mark == mark_clean) [] (quiet_moves pages)

-- the mark that closing finds, once the last operations are done: open where there are some
abbrev pub mark_after : ℕ → List Operation → ℕ
mark_after mark [] = mark
mark_after mark (o ∷ ops) = mark_open

-- The moves of the end of a session, one a record write: none where it needs scavenging, and else those of its last operations and of
-- closing. At a line `quit` they come before `done` is shown, as the record writes of every line come before its text; at the end of the
-- keys there is no text.
abbrev pub ending_moves : Bool → ℕ → Model → List Operation → List Move
ending_moves true mark m ops = []
ending_moves false mark m ops = line_moves mark m ops ++ close_moves (mark_after mark ops) (units (data_pages m.shape))

-- ---- what a session keeps of it
-- It is so on the pack: the shape, the last serial, the mark, and the sectors that bear its data pages, in order.
pub record DescriptorFits (p : Pack) (shape : Shape) (last mark : ℕ) (pages : List ℕ) : Type 0 where
  pub shape_is : p.shape ≡ shape
  pub last_is : (read_as p).last ≡ last
  pub mark_is : mark_of (sights p) ≡ mark
  pub size : length pages ≡ data_pages shape
  pub bears : (n : ℕ) → n < length pages → place (sights p) disk_descriptor (n + 1) ≡ slice_get pages n
