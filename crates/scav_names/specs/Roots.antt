-- SysDir while the entries that it lacks are entered.
use Rattle.std.specs.Prelude.{◌≡◌, ◌≢◌, ℕ, ◌+◌, ◌-◌, ◌/◌, ◌≤◌, true, List, [], ◌∷◌, ◌++◌, drop, length, map, take, All, None, Some}
use Rattle.alto_words.specs.declared.fid.Fid.{Fid}
use Rattle.alto_words.specs.Fid.{is_full_name, sys_dir}
use Rattle.alto_words.specs.Names.{is_stored_name}
use Rattle.disk_records.specs.declared.records.Event.{Event}
use Rattle.disk_records.specs.declared.records.Page.{Page}
use Rattle.disk_records.specs.Commands.{relabel_writes}
use Rattle.disk_records.specs.Labels.{label_of}
use Rattle.disk_records.specs.Packs.{Pack, sector_at}
use Rattle.disk_records.specs.Words.{word}
use Rattle.laws_names.specs.EntriesLaws.{EntriesStay}
use Rattle.scav_pages.specs.laws_operation.specs.NameLaws.{IsRoom}
use Rattle.laws_room.specs.NextLaws.{Lacking, LackingNext}
use Rattle.pack_model.specs.hints.Links.{dir_words}
use Rattle.pack_model.specs.operations.PageWords.{entered_words, filled}
use Rattle.pack_model.specs.operations.Rooms.{find_room, items_entered}
use Rattle.pack_model.specs.reading.Files.{place}
use Rattle.pack_model.specs.reading.Sights.{sights}
use Rattle.pack_model.specs.reading.Slots.{Item, all_words, entry_length, slots}
use Rattle.pack_model.specs.reading.Slots.Item.{entry, space}
use Rattle.pack_model.specs.scavenger.Reports.{PagesMended}
use Rattle.pack_model.specs.scavenger.Scavenging.{Scavengeable}
use Rattle.pack_model.specs.states.Whole.{Tidy}
use Rattle.scav_pages.specs.Free.{NoneFreeBelow}
use Rattle.scav_names.specs.declared.living.Living.{Living}
use Rattle.scav_names.specs.declared.rooms.EntryRoom.{EntryRoom}
use Rattle.scav_names.specs.declared.root.Root.{Root}
use Rattle.scav_names.specs.Catalogues.{ArePagesOf}
use Rattle.scav_names.specs.Lacking.{entry_for}
use Rattle.scav_names.specs.Rooms.{HasRooms, IsFirstRoom}
use Rattle.scav_names.specs.Words.{changed_writes}

-- ---- what is known of it
-- in memory are the sectors of all its data pages, and a sector below which none is free
pub record KnowsPages (p : Pack) (root : Root) : Type 0 where
  pub pages : ArePagesOf p sys_dir root.pages
  pub page_count : length root.pages ≡ length (dir_words p sys_dir) / 256 + 1
  pub none_below : NoneFreeBelow p root.from

-- a file's leader page is in this sector
abbrev pub IsLed : Pack → Living → Type 0
IsLed p x = place (sights p) x.fid 0 ≡ Some x.leader_at

-- The pack can be scavenged, its pages are mended and all its entries kept, and these are lacking; SysDir's slots are in memory.
pub record MayBeEntered (p : Pack) (root : Root) (todo : List Living) : Type 0 where
  pub scavengeable : Scavengeable p
  pub pages : PagesMended p
  pub tidy : Tidy p
  pub known : KnowsPages p root
  pub rooms : HasRooms root.rooms (slots (dir_words p sys_dir))
  pub lacking_are : Lacking p (map entry_for todo)
  pub led : All (IsLed p) todo

-- ---- one entry
-- the first one that is lacking has no room, and is no longer than a page
pub record MayBeWidened (p : Pack) (root : Root) (todo : List Living) : Type 0 where
  pub may : MayBeEntered p root todo
  pub next : Living
  pub rest : List Living
  pub todo_is : todo ≡ next ∷ rest
  pub none : find_room (entry_length (length next.name)) (slots (dir_words p sys_dir)) ≡ None
  pub short : entry_length (length next.name) ≤ 256

-- and it has room
pub record Widened (old new : Root) (todo : List Living) (p q : Pack) (done : Unit {0}) : Type 0 where
  pub may : MayBeEntered q new todo
  pub stay : EntriesStay p q
  pub room : (next : Living) (rest : List Living) → todo ≡ next ∷ rest → find_room (entry_length (length next.name)) (slots (dir_words q sys_dir)) ≢ None

-- the value of a page of whose words so many count, with the first word of a free slot of 256 words after them, and zeros after that
abbrev pub lengthened_value : ℕ → List ℕ → List ℕ
lengthened_value used value = filled 256 (take used value ++ 256 ∷ [])

-- A last page, of whose words so many count, gets a free slot of 256 words after them: that value, unless it stands there already, and then a
-- label that counts all words and names this next page, with the equal value again.
abbrev pub lengthening_writes : Pack → ℕ → Page → ℕ → ℕ → List Event
lengthening_writes p at page used next =
    let value : List ℕ = lengthened_value used (sector_at p at).value in
    changed_writes at (sector_at p at).value value ++ relabel_writes at (label_of page 512 next (word (sector_at p at).label 1)) value

-- a room was found for the first one that is lacking
pub record MayBeWritten (p : Pack) (root : Root) (next : Living) (todo : List Living) (room : EntryRoom) : Type 0 where
  pub may : MayBeEntered p root (next ∷ todo)
  pub first : IsFirstRoom (entry_length (length next.name)) (slots (dir_words p sys_dir)) room

-- it was there, or came with a page more
pub record RoomMade (root : Root) (next : Living) (todo : List Living) (p q : Pack) (room : EntryRoom) : Type 0 where
  pub may : MayBeWritten q root next todo room
  pub stay : EntriesStay p q

-- it is one free slot
pub record MayBeFilled (p : Pack) (root : Root) (next : Living) (todo : List Living) (room : EntryRoom) : Type 0 where
  pub scavengeable : Scavengeable p
  pub pages : PagesMended p
  pub tidy : Tidy p
  pub known : KnowsPages p root
  pub lacking_is : LackingNext p next.fid next.name (map entry_for todo)
  pub led : IsLed p next
  pub before : List Item
  pub behind : List Item
  pub room_is : IsRoom (entry_length (length next.name)) (slots (dir_words p sys_dir)) before (space room.total ∷ []) behind
  pub place : room.place ≡ all_words before

-- it became one
pub record RoomMadeOne (root : Root) (next : Living) (todo : List Living) (room : EntryRoom) (p q : Pack) (done : Unit {0}) : Type 0 where
  pub may : MayBeFilled q root next todo room
  pub places : (f : Fid) (n : ℕ) → place (sights q) f n ≡ place (sights p) f n
  pub same : items_entered (entry next.fid next.name) (slots (dir_words q sys_dir)) ≡ items_entered (entry next.fid next.name) (slots (dir_words p sys_dir))
  pub stay : EntriesStay p q

-- these words come to stand in it, so many words after its first one
pub record IsLater (room : EntryRoom) (place near : ℕ) (later : List ℕ) : Type 0 where
  pub place_is : place ≡ room.place
  pub some : 1 ≤ near
  pub fits : near + length later ≤ room.total

-- they stand there
pub record LaterWritten (root : Root) (next : Living) (todo : List Living) (room : EntryRoom) (near : ℕ) (later : List ℕ) (p q : Pack) (done : Unit {0}) : Type 0 where
  pub may : MayBeFilled q root next todo room
  pub places : (f : Fid) (n : ℕ) → place (sights q) f n ≡ place (sights p) f n
  pub slots_are : slots (dir_words q sys_dir) ≡ slots (dir_words p sys_dir)
  pub stand : take (length later) (drop (room.place + near) (dir_words q sys_dir)) ≡ later
  pub stay : EntriesStay p q

-- the words of an entry, and of a free slot for what its room leaves over
pub record AreEntryWords (next : Living) (room : EntryRoom) (words : List ℕ) : Type 0 where
  pub words_are : words ≡ entered_words next.fid next.leader_at next.name (room.total - entry_length (length next.name))
  pub some : 1 ≤ length words
  pub most : length words ≤ room.total
  pub full_name : is_full_name next.fid ≡ true
  pub stored : is_stored_name next.name ≡ true

-- it stands there, and the others are lacking
pub record EntryWritten (root : Root) (next : Living) (todo : List Living) (room : EntryRoom) (p q : Pack) (done : Unit {0}) : Type 0 where
  pub scavengeable : Scavengeable q
  pub pages : PagesMended q
  pub tidy : Tidy q
  pub known : KnowsPages q root
  pub slots_are : slots (dir_words q sys_dir) ≡ items_entered (entry next.fid next.name) (slots (dir_words p sys_dir))
  pub places : (f : Fid) (n : ℕ) → place (sights q) f n ≡ place (sights p) f n
  pub lacking_are : Lacking q (map entry_for todo)
  pub stay : EntriesStay p q

-- the others are lacking, and are to be entered next
pub record Entered (root : Root) (todo : List Living) (p q : Pack) (done : Unit {0}) : Type 0 where
  pub may : MayBeEntered q root todo
  pub stay : EntriesStay p q

-- ---- all of them
pub record AllEntered (p q : Pack) (done : Unit {0}) : Type 0 where
  pub pages : PagesMended q
  pub tidy : Tidy q
  pub lacking_are : Lacking q []
  pub stay : EntriesStay p q
