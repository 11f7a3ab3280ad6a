-- How many record writes an operation has, which one commits, and in which part of which page: by the model alone.
-- Which record write commits an operation is this project's choice.
use Rattle.std.specs.Prelude.{◌≡◌, ℕ, suc, ◌+◌, ◌-◌, ◌/◌, ◌==◌, cond, not, List, [], ◌∷◌, ◌++◌, length, replicate, get_or, Option, Some, None}
use Rattle.std.specs.FinMap.{get}
use Rattle.disk_records.specs.alto_words.specs.declared.fid.Fid.{Fid}
use Rattle.disk_records.specs.alto_words.specs.Names.{is_same_name}
use Rattle.disk_records.specs.declared.records.Event.{Event}
use Rattle.disk_records.specs.declared.records.Event.TheVariants.{Wrote, Shown}
use Rattle.disk_records.specs.Packs.{Pack, after}
use Rattle.pack_model.specs.reading.Sights.{sights}
use Rattle.pack_model.specs.reading.Files.{place}
use Rattle.pack_model.specs.reading.Slots.{Item, item_words, entry_length}
use Rattle.pack_model.specs.reading.Slots.Item.{space, entry}
use Rattle.pack_model.specs.reading.Bodies.{File, body_length}
use Rattle.pack_model.specs.reading.Model.{Model, dir_items, read_as}
use Rattle.pack_model.specs.showing.View.{view}
use Rattle.pack_model.specs.showing.Settling.{show}
use Rattle.pack_model.specs.operations.Rooms.{Room, find_room}
use Rattle.pack_model.specs.operations.Step.{Operation, step}
use Rattle.pack_model.specs.operations.Step.Operation.{make, put, grow, cut, title, stamp, drop_file, leave, enter, widen}
use Rattle.pack_model.specs.states.InUse.{one_if}
use Rattle.pack_model.specs.states.Sound.{Sound, Clean, mark_open}
use Rattle.pack_model.specs.operations.Operations.Move.{quiet, commits, mends}
use Rattle.pack_model.specs.operations.Operations.{Move, one_move, make_moves, grow_moves, cut_moves, drop_moves, enter_moves}

-- ---- numbers of pages
abbrev pub length_in : Option File → ℕ
length_in None = 0
length_in (Some x) = body_length x.body

-- the length in bytes of a file of a model
abbrev pub length_of : Model → Fid → ℕ
length_of m f = length_in (get m.files f)

-- the number of the page that byte n lies in; of a file of n bytes it is the last page
abbrev pub page_of_byte : ℕ → ℕ
page_of_byte n = suc (n / 512)

-- the pages that come where a file of length b gets n bytes more, or go where its first n bytes are kept
abbrev pub pages_added : ℕ → ℕ → ℕ
pages_added b n = (b + n) / 512 - b / 512

-- how many pages go where a file of b bytes is cut to n
abbrev pub pages_cut : ℕ → ℕ → ℕ
pages_cut b n = b / 512 - n / 512

-- the pages that an operation adds
abbrev pub pages_for_operation : Model → Operation → ℕ
pages_for_operation m (make f name moment) = 2
pages_for_operation m (put f offset new) = 0
pages_for_operation m (grow f new) = pages_added (length_of m f) (length new)
pages_for_operation m (cut f n) = 0
pages_for_operation m (title f name) = 0
pages_for_operation m (stamp f moment) = 0
pages_for_operation m (drop_file f) = 0
pages_for_operation m (leave d name) = 0
pages_for_operation m (enter d name f) = 0
pages_for_operation m (widen d) = 1

-- and those of a line, each on the model that the ones before it leave
abbrev pub pages_for_operations : Model → List Operation → ℕ
pages_for_operations m [] = 0
pages_for_operations m (o ∷ ops) = pages_for_operation m o + pages_for_operations (step m o) ops

-- ---- places in a directory
-- the first word of the entry with this name, the slots beginning with this word
abbrev pub entry_place : List ℕ → ℕ → List Item → ℕ
entry_place name at [] = at
entry_place name at (space n ∷ is) = entry_place name (at + n) is
entry_place name at (entry f own ∷ is) = cond (is_same_name own name) at (entry_place name (at + item_words (entry f own)) is)

abbrev pub room_place : Option Room → ℕ
room_place None = 0
room_place (Some r) = r.place

-- the number of the page that a directory's word lies in
abbrev pub page_of_word : ℕ → ℕ
page_of_word place = suc (place / 256)

-- the words that an entry of n words has written in its room: its own, and the first one of a free slot for words left over
abbrev pub written_words : ℕ → Room → ℕ
written_words n r = n + one_if (not (r.total == n))

-- how many values come before the one that commits: one where the room is several slots, one where the words that are written lie over
-- a page's end
abbrev pub values_before : List Item → ℕ → Option Room → ℕ
values_before is n None = 0
values_before is n (Some r) =
    one_if (not (item_words (get_or is r.first (space 0)) == r.total))
    + one_if (not (page_of_word (r.place + written_words n r - 1) == page_of_word r.place))

-- ---- the record writes of an operation on this model, as the moves that they make, one each
abbrev pub units : ℕ → List (Unit {0})
units n = replicate n (tt {0})

-- the moves of an operation on a model
abbrev pub moves_of : Model → Operation → List Move
moves_of m (make f name moment) = make_moves (make f name moment)
moves_of m (put f offset new) = one_move (put f offset new)
moves_of m (grow f new) = grow_moves (units (pages_added (length_of m f) (length new))) (grow f new)
moves_of m (cut f n) = cut_moves (cut f n) (units (pages_cut (length_of m f) n))
moves_of m (title f name) = one_move (title f name)
moves_of m (stamp f moment) = one_move (stamp f moment)
moves_of m (drop_file f) = drop_moves (drop_file f) (units (page_of_byte (length_of m f)))
moves_of m (leave d name) = one_move (leave d name)
moves_of m (enter d name f) = enter_moves (units (values_before (dir_items m d) (entry_length (length name)) (find_room (entry_length (length name)) (dir_items m d)))) (enter d name f)
moves_of m (widen d) = grow_moves (units (pages_added (length_of m d) 512)) (widen d)

-- the number of its record writes
abbrev pub writes_of_operation : Model → Operation → ℕ
writes_of_operation m o = length (moves_of m o)

-- ---- the record writes of a line, as moves
-- a new file's serial is on the disk before any of its pages: one record write, after the widenings of the line
abbrev pub serial_moves : Operation → List Move
serial_moves (make f name moment) = quiet ∷ []
serial_moves (put f offset new) = []
serial_moves (grow f new) = []
serial_moves (cut f n) = []
serial_moves (title f name) = []
serial_moves (stamp f moment) = []
serial_moves (drop_file f) = []
serial_moves (leave d name) = []
serial_moves (enter d name f) = []
serial_moves (widen d) = []

-- those of several operations, each on the model that the ones before it leave
abbrev pub moves_of_all : Model → List Operation → List Move
moves_of_all m [] = []
moves_of_all m (o ∷ ops) = serial_moves o ++ moves_of m o ++ moves_of_all (step m o) ops

-- the mark is opened before the first of them, unless it is open
abbrev pub open_moves : ℕ → List Operation → List Move
open_moves mark [] = []
open_moves mark (o ∷ ops) = cond (mark == mark_open) [] (quiet ∷ [])

-- all record writes of a line with these operations, which finds this mark
abbrev pub line_moves : ℕ → Model → List Operation → List Move
line_moves mark m ops = open_moves mark ops ++ moves_of_all m ops

-- ---- the record that commits
-- Its part, 1 a label and 2 a value, and the page whose sector it is in, by the number in the label.
pub record CommitRecord : Type 0 where
  pub part : ℕ
  pub fid : Fid
  pub page : ℕ

-- the label of a file's page
abbrev pub label_record : Fid → ℕ → CommitRecord
label_record f n = record { part = 1; fid = f; page = n }

-- the value of a file's page
abbrev pub value_record : Fid → ℕ → CommitRecord
value_record f n = record { part = 2; fid = f; page = n }

-- the record whose write is the operation
abbrev pub commit_of : Model → Operation → CommitRecord
commit_of m (make f name moment) = label_record f 0
commit_of m (put f offset new) = value_record f (page_of_byte offset)
commit_of m (grow f new) = label_record f (page_of_byte (length_of m f))
commit_of m (cut f n) = label_record f (page_of_byte n)
commit_of m (title f name) = value_record f 0
commit_of m (stamp f moment) = value_record f 0
commit_of m (drop_file f) = label_record f 0
commit_of m (leave d name) = value_record d (page_of_word (entry_place name 0 (dir_items m d)))
commit_of m (enter d name f) = value_record d (page_of_word (room_place (find_room (entry_length (length name)) (dir_items m d))))
commit_of m (widen d) = label_record d (page_of_byte (length_of m d))

-- the pack in which the sector bears that page: once its label is written where it is a new file's leader, and else before the write
abbrev pub bearing : Operation → Pack → Pack → Pack
bearing (make f name moment) p q = q
bearing (put f offset new) p q = p
bearing (grow f new) p q = p
bearing (cut f n) p q = p
bearing (title f name) p q = p
bearing (stamp f moment) p q = p
bearing (drop_file f) p q = p
bearing (leave d name) p q = p
bearing (enter d name f) p q = p
bearing (widen d) p q = p

-- The record write that leaves q of p is of that part, in the sector that bears that page.
pub record IsCommitting (o : Operation) (c : CommitRecord) (p q : Pack) (at part : ℕ) : Type 0 where
  pub part_is : part ≡ c.part
  pub bears : place (sights (bearing o p q)) c.fid c.page ≡ Some at

-- The last record write of a scavenge: q, which it leaves of p, is sound and clean and read as the model, whose files have the names
-- under which p shows them, each of them as an entry.
pub record EndsScavenge (p q : Pack) (n : Model) : Type 0 where
  pub reads : read_as q ≡ n
  pub views : view n ≡ show p
  pub sound : Sound q
  pub clean : Clean q

-- which record writes make a move: any one is quiet; an operation has the one that commits it; a scavenge its last one
abbrev pub MakesMove : Pack → Event → Move → Type 0
MakesMove p (Shown byte) o = ⊥
MakesMove p (Wrote at part words) quiet = Unit {0}
MakesMove p (Wrote at part words) (commits o) = IsCommitting o (commit_of (read_as p) o) p (after p (Wrote at part words ∷ [])) at part
MakesMove p (Wrote at part words) (mends n) = EndsScavenge p (after p (Wrote at part words ∷ [])) n
