-- Entries that SysDir lacks, entered one after another.
use Rattle.std.proofs.Common.{◌≡◌, ℕ, ◌+◌, ◌<◌, ◌≤◌, List, [], ◌∷◌, length, drop, get_or, add-one, drop-cons, None, Ok, refl, sym, ap, subst, ◌∙◌}
use Rattle.std.proofs.lemmas.List.Elements.{All-tail}
use Rattle.alto_words.specs.Fid.{sys_dir}
use Rattle.disk_records.specs.Packs.{Pack}
use Rattle.disk_records.specs.Tapes.{Grown, Taped, pack}
use Rattle.laws_names.specs.EntriesLaws.{EntriesStay}
use Rattle.laws_names.proofs.entries.Laws.{entries_stay_on, nothing_keeps_entries}
use Rattle.pack_model.specs.hints.Links.{dir_words}
use Rattle.pack_model.specs.operations.Rooms.{find_room, items_entered}
use Rattle.pack_model.specs.reading.Slots.{entry_length, slots}
use Rattle.pack_model.specs.reading.Slots.Item.{entry}
use Rattle.scav_pages.specs.Free.{NoneFreeBelow}
use Rattle.scav_names.specs.declared.living.Living.{Living}
use Rattle.scav_names.specs.declared.rooms.EntryRoom.{EntryRoom}
use Rattle.scav_names.specs.declared.root.Root.{Root}
use Rattle.scav_names.specs.Catalogues.{ArePagesOf}
use Rattle.scav_names.specs.Does.{Does}
use Rattle.scav_names.specs.Rooms.{HasRooms, IsFirstRoom}
use Rattle.scav_names.specs.Roots.{AllEntered, Entered, IsLed, EntryWritten, MayBeEntered, MayBeWidened, RoomMade, Widened}
use Rattle.scav_names.proofs.Going.{SoFar, so_far_does, so_far_here}

-- ---- room for the next one
-- it is there
pub room_there : {p : Pack} {root : Root} {next : Living} {todo : List Living} (n : ℕ) (room : EntryRoom) → n ≡ entry_length (length next.name) → MayBeEntered p root (next ∷ todo) → IsFirstRoom n (slots (dir_words p sys_dir)) room → RoomMade root next todo p p room
room_there {p} n room is may first = record { may = record { may = may; first = subst (λ k. IsFirstRoom k (slots (dir_words p sys_dir)) room) is first }; stay = nothing_keeps_entries p }

-- it isn't
pub none_there : {p : Pack} {root : Root} {next : Living} {todo : List Living} (n : ℕ) → n ≡ entry_length (length next.name) → n ≤ 256 → MayBeEntered p root (next ∷ todo) → find_room n (slots (dir_words p sys_dir)) ≡ None → MayBeWidened p root (next ∷ todo)
none_there {p} {root} {next} {todo} n is short may none = record {
  may = may;
  next = next;
  rest = todo;
  todo_is = refl;
  none = subst (λ k. find_room k (slots (dir_words p sys_dir)) ≡ None) is none;
  short = subst (λ k. k ≤ 256) is short;
}

-- and comes with a page more
pub room_then : {p q : Pack} {old root : Root} {next : Living} {todo : List Living} (n : ℕ) (room : EntryRoom) → n ≡ entry_length (length next.name) → Widened old root (next ∷ todo) p q tt → IsFirstRoom n (slots (dir_words q sys_dir)) room → RoomMade root next todo p q room
room_then {q = q} n room is wide first = record { may = record { may = wide.may; first = subst (λ k. IsFirstRoom k (slots (dir_words q sys_dir)) room) is first }; stay = wide.stay }

pub room_comes : {p q : Pack} {old root : Root} {next : Living} {todo : List Living} (n : ℕ) → n ≡ entry_length (length next.name) → Widened old root (next ∷ todo) p q tt → find_room n (slots (dir_words q sys_dir)) ≡ None → ⊥
room_comes {q = q} {next = next} {todo = todo} n is wide none = wide.room next todo refl (subst (λ k. find_room k (slots (dir_words q sys_dir)) ≡ None) is none)

-- ---- it is entered
pub entered : {p q : Pack} {root new : Root} {next : Living} {todo : List Living} {room : EntryRoom} → MayBeEntered p root (next ∷ todo) → EntryWritten root next todo room p q tt
    → new.pages ≡ root.pages → new.from ≡ root.from → HasRooms new.rooms (items_entered (entry next.fid next.name) (slots (dir_words p sys_dir))) → Entered new todo p q tt
entered {p} {q} {root} {new} {next} {todo} may wrote pages from rooms = record {
  may = record {
    scavengeable = wrote.scavengeable;
    pages = wrote.pages;
    tidy = wrote.tidy;
    known = record {
      pages = subst (λ l. ArePagesOf q sys_dir l) (sym pages) wrote.known.pages;
      page_count = ap length pages ∙ wrote.known.page_count;
      none_below = subst (NoneFreeBelow q) (sym from) wrote.known.none_below;
    };
    rooms = subst (HasRooms new.rooms) (sym wrote.slots_are) rooms;
    lacking_are = wrote.lacking_are;
    led = λ k z within. wrote.places (get_or todo k z).fid 0 ∙ All-tail (IsLed p) next todo may.led k z within;
  };
  stay = wrote.stay;
}

-- after a page more
pub entered_after : {p q r : Pack} {new : Root} {todo : List Living} → EntriesStay p q → Entered new todo q r tt → Entered new todo p r tt
entered_after {p} {q} {r} stay x = record { may = x.may; stay = entries_stay_on p q r stay x.stay }

-- ---- all of them
pub all_entered : {p q : Pack} {root : Root} → EntriesStay p q → MayBeEntered q root [] → AllEntered p q tt
all_entered stay may = record { pages = may.pages; tidy = may.tidy; lacking_are = may.lacking_are; stay = stay }

-- ---- one after another
-- the files before these are entered
pub record EnteredTo (a b : Taped) (root : Root) (todo : List Living) : Type 0 where
  pub so_far : SoFar a b
  pub stay : EntriesStay (pack a) (pack b)
  pub may : MayBeEntered (pack b) root todo

pub none_entered : {root : Root} {todo : List Living} (a : Taped) → MayBeEntered (pack a) root todo → EnteredTo a a root todo
none_entered a may = record { so_far = so_far_here a; stay = nothing_keeps_entries (pack a); may = may }

pub entered_more : {a b c : Taped} {root new : Root} {now todo : List Living} → EnteredTo a b root now → Grown b c → Does {T = Unit {0}} (Entered new todo) b c (Ok tt) → EnteredTo a c new todo
entered_more {a} {b} {c} x grown d = record { so_far = so_far_does x.so_far grown d; stay = entries_stay_on (pack a) (pack b) (pack c) x.stay d.leaves.stay; may = d.leaves.may }

-- the next one is the first that is left
pub first_left : (files : List Living) (k : ℕ) (file : Living) → k < length files → file ≡ get_or files k file → drop k files ≡ file ∷ drop (k + 1) files
first_left files k file l is = drop-cons files k file l ∙ (λ i. sym is i ∷ drop (sym (add-one k) i) files)
