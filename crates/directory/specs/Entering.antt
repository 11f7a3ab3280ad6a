-- What a caller sees of an entry that comes into a directory.
use Rattle.std.specs.Prelude.{◌≡◌, ◌⊎◌, ℕ, suc, ◌+◌, ◌*◌, ◌-◌, ◌<◌, ◌≤◌, ◌==◌, Bool, true, false, cond, min, nat_lt, List, [], ◌++◌, length, take, Some, Result, OnOk, IsErrOf}
use Rattle.alto_words.specs.declared.fid.Fid.{Fid}
use Rattle.alto_words.specs.declared.wanted.Wanted.TheVariants.{Exact}
use Rattle.disk_records.specs.Commands.{value_writes}
use Rattle.disk_records.specs.Events.{IsFirstOf}
use Rattle.disk_records.specs.Packs.{Pack}
use Rattle.disk_records.specs.Tapes.{Taped, added}
use Rattle.disk_records.specs.declared.records.Event.{Event}
use Rattle.disk_records.specs.declared.records.Page.{Page}
use Rattle.hint_cache.specs.Caches.{Cached}
use Rattle.laws_call.specs.Acting.{Around}
use Rattle.laws_call.specs.Writing.{entering_writes}
use Rattle.laws_operation.specs.DirectoryWords.{left_in}
use Rattle.file_pages.specs.laws_lookup.specs.EnteringLaws.{IsEnterable}
use Rattle.pack_model.specs.hints.Links.{dir_words}
use Rattle.pack_model.specs.operations.Committing.{page_of_byte, page_of_word}
use Rattle.pack_model.specs.operations.Entering.{found_room}
use Rattle.pack_model.specs.operations.Operations.{enter_moves}
use Rattle.pack_model.specs.operations.PageWords.{entered_words, freed_value, in_page, later, near}
use Rattle.pack_model.specs.operations.Rooms.{Room}
use Rattle.pack_model.specs.operations.Step.Operation.{enter}
use Rattle.pack_model.specs.operations.Step.{Operation}
use Rattle.pack_model.specs.reading.Bytes.{put_at}
use Rattle.pack_model.specs.reading.Files.{lives, place}
use Rattle.pack_model.specs.reading.Model.{is_named, read_as}
use Rattle.pack_model.specs.reading.Sights.{sights}
use Rattle.pack_model.specs.reading.Slots.{entry_length, slots}
use Rattle.pack_model.specs.sessions.Tallies.{CountsMoves}
use Rattle.page_seeking.specs.Seeking.{Refused, file_length}
use Rattle.directory.specs.declared.errors.DirError.{DirError}
use Rattle.directory.specs.declared.place.RoomFound.{RoomFound}
use Rattle.directory.specs.Errors.{disk_fault, out_of_memory}
use Rattle.directory.specs.Found.{IsAbsent}
use Rattle.directory.specs.Leaving.{IsUnwritten, Wrote}
use Rattle.directory.specs.Places.{room_for}

abbrev pub to_enter : Fid → List ℕ → Fid → Operation
to_enter d name f = enter d name f

-- ---- what is asked
-- The file lives and has no entry, may have one in this directory, and its leader is in this sector.
pub record MayBeEntered (p : Pack) (d f : Fid) (leader_at : ℕ) : Type 0 where
  pub living : lives (sights p) f ≡ true
  pub enterable : IsEnterable d f
  pub nameless : is_named (read_as p) f ≡ false
  pub leader : place (sights p) f 0 ≡ Some leader_at

-- ---- the words, and the values with them
-- those of the entry, and the first one of a free slot for the words of the room that are left over
abbrev pub words_for : Fid → ℕ → List ℕ → RoomFound → List ℕ
words_for f leader_at name room = entered_words f leader_at name (room.words.total - entry_length (length name))

-- the page after one; numbers end at 65,535
abbrev pub next_page : Page → Page
next_page page = record { fid = page.fid; number = min (page.number + 1) 65535 }

-- whether words come to lie in the page after that of the room's first word
abbrev pub has_later : RoomFound → List ℕ → Bool
has_later room words = nat_lt (256 - in_page room.place) (length words)

-- the value of the room's page in which its free slots are one, where they are several
abbrev pub joined_value : RoomFound → List ℕ → List ℕ
joined_value room value = cond (room.words.first == room.words.total) value (freed_value room.place room.words.total value)

-- and with the words that lie in this page
abbrev pub room_value : RoomFound → List ℕ → List ℕ → List ℕ
room_value room words value = put_at (in_page room.place) (near room.place words) (joined_value room value)

-- the record write that makes the free slots one, where they are several
abbrev pub joining_writes : RoomFound → ℕ → List ℕ → List Event
joining_writes room at value = cond (room.words.first == room.words.total) [] (value_writes at (freed_value room.place room.words.total value))

-- the one of the page after, where words come to lie there
abbrev pub next_writes : RoomFound → List ℕ → ℕ → List ℕ → List Event
next_writes room words next_at value = cond (has_later room words) (value_writes next_at (put_at 0 (later room.place words) value)) []

-- ---- the record writes
-- A call was to make these record writes, of which the last commits this operation, and to count it. For every answer it made a prefix of them,
-- and the tally counts the operation if it made the last; at Ok it did. Out of memory comes only if fewer events were kept ready.
pub record WroteEntry {T : Type 0} (first last : List Event) (o : Operation) (old new : Around) (result : Result T DirError) : Type 0 where
  pub some : IsFirstOf (first ++ last) (added old.tape new.tape)
  pub all : OnOk result (added old.tape new.tape ≡ first ++ last)
  pub table : new.bits ≡ old.bits
  pub counts : CountsMoves disk_fault old.tape new.tape (take (length (added old.tape new.tape)) (enter_moves first o)) old.tally new.tally result
  pub out_of_memory : IsErrOf result out_of_memory → old.tape.spare < length (first ++ last)

-- ---- the exact record writes, of any file
-- the words of the entry in this room
abbrev pub words_in : Fid → ℕ → List ℕ → Room → List ℕ
words_in f leader_at name r = entered_words f leader_at name (left_in r name)

-- No entry has the name; this is the room for it; and the page in which that begins is in this sector, and so is the page after it in that one,
-- where some of these words come to lie there.
pub record IsRoomNamed (p : Pack) (d : Fid) (name : List ℕ) (r : Room) (words : List ℕ) (at next_at : ℕ) : Type 0 where
  pub absent : IsAbsent p d (Exact name)
  pub room : room_for p d name ≡ Some r
  pub sector : place (sights p) d (page_of_word r.place) ≡ Some at
  pub next_sector : 0 < length (later r.place words) → place (sights p) d (suc (page_of_word r.place)) ≡ Some next_at

-- For every answer: nothing was written; or the values were to be written with which the words of the entry come into the first room for it.
pub data EntersWords {T : Type 0} (p : Pack) (d : Fid) (name : List ℕ) (f : Fid) (leader_at : ℕ) (old new : Taped) (result : Result T DirError) : Type 0 where
  unentered : IsUnwritten old new result → EntersWords p d name f leader_at old new result
  enters_at : {r : Room} {at next_at : ℕ} → IsRoomNamed p d name r (words_in f leader_at name r) at next_at
      → Wrote (entering_writes p (found_room r (slots (dir_words p d)) at next_at) (words_in f leader_at name r)) old new result → EntersWords p d name f leader_at old new result

-- ---- few sector commands
-- three for each data page and ten more, unless a note was refused
abbrev pub IsQuickThrice : Pack → Fid → ℕ → Cached → Cached → Taped → Taped → Type 0
IsQuickThrice p d more before now old new = (new.runs ≤ old.runs + (3 * page_of_byte (file_length p d) + more)) ⊎ Refused before now
