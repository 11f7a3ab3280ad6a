-- The premises of the laws of operations and of lines are met.
use Rattle.std.specs.Prelude.{◌≡◌, ◌≤◌, List, [], ◌∷◌, ◌++◌, Some}
use Rattle.laws_steps.specs.alto_words.specs.Fid.{disk_descriptor, sys_dir}
use Rattle.laws_steps.specs.disk_records.specs.Packs.{Pack, after, sector_at}
use Rattle.laws_steps.specs.disk_records.specs.declared.records.Event.{Event}
use Rattle.laws_steps.specs.pack_model.specs.hints.Links.{LinksTrue}
use Rattle.laws_steps.specs.pack_model.specs.hints.Tables.{true_table}
use Rattle.laws_steps.specs.pack_model.specs.operations.Committing.{pages_for_operations}
use Rattle.laws_steps.specs.pack_model.specs.operations.PageWords.{entered_words, widening_bytes}
use Rattle.laws_steps.specs.pack_model.specs.operations.Rooms.{Room}
use Rattle.laws_steps.specs.pack_model.specs.operations.Step.{Operation}
use Rattle.laws_steps.specs.pack_model.specs.operations.Step.Operation.{cut, drop_file, enter, grow, leave, make, put, stamp, title, widen}
use Rattle.laws_steps.specs.pack_model.specs.reading.Files.{file_bytes, place}
use Rattle.laws_steps.specs.pack_model.specs.reading.Model.{dir_items, read_as}
use Rattle.laws_steps.specs.pack_model.specs.reading.Namings.{descriptor_name, sys_dir_name}
use Rattle.laws_steps.specs.pack_model.specs.reading.Sights.{sights}
use Rattle.laws_steps.specs.pack_model.specs.reading.Slots.{Item}
use Rattle.laws_steps.specs.pack_model.specs.reading.Slots.Item.{entry, space}
use Rattle.laws_steps.specs.pack_model.specs.sessions.Descriptor.{serial_writes}
use Rattle.laws_steps.specs.pack_model.specs.states.InUse.{free_sector_count}
use Rattle.laws_steps.specs.pack_model.specs.states.Sound.{Sound, mark_of, mark_open}
use Rattle.laws_steps.specs.laws_operation.specs.ByteLaws.{Bear}
use Rattle.laws_steps.specs.laws_operation.specs.DescriptorLaws.{MayClose}
use Rattle.laws_steps.specs.laws_operation.specs.DirectoryWords.{CanEnter, HasEntry, left_in}
use Rattle.laws_steps.specs.laws_operation.specs.FileWords.{ArePastTheEnd, CanCut, CanGrow, CanMake, CanPut, CanWriteLeader}
use Rattle.laws_steps.specs.laws_operation.specs.LifeLaws.{MayDrop}
use Rattle.laws_steps.specs.laws_line.specs.CrashLaws.{Batch}
use Rattle.laws_steps.specs.laws_line.specs.SoundLines.{IsKindOfLine, LineOnSound}
use Rattle.laws_steps.specs.laws_hint.specs.ClosingLaws.{ClosedTrue, closing_writes}
use Rattle.laws_steps.specs.laws_hint.specs.LineLinks.{EachKeepsLinks}
use Rattle.laws_met.specs.Peopled.{bytes_a, bytes_more, after_cut, cutting, dir_d, dropping, entered_a, entered_d, entering, file_a, file_b, formatted_pack, after_growth, grown_a, growing, leaving, left, left_b, made_a, made_b, made_d, making, name_a, name_b, name_c, name_d, name_e, name_z, numbered_a, numbered_b, numbered_d, opened, opening, peopled, after_put, putting, retitled, retitled_b, room_a, room_b, room_c, room_d, room_e, after_stamp, stamping, after_title, titling}

-- ---- one pack
abbrev pub found_b : Room
found_b = record { first = 0; place = 0; total = 255 }

abbrev pub found_c : Room
found_c = record { first = 1; place = 8; total = 247 }

-- the slots of SysDir before the first file's
abbrev pub system_items : List Item
system_items = entry sys_dir sys_dir_name ∷ entry disk_descriptor descriptor_name ∷ []

-- A sound pack with true links in a session, with an ordinary file of two pages and a directory with an entry, and what a caller knows
-- before each operation on a file or a directory that is there.
pub record MeetsPremises (p : Pack) : Type 0 where
  pub sound : Sound p
  pub links : LinksTrue p
  pub mark : mark_of (sights p) ≡ mark_open
  pub pages : Bear (sights p) file_a 0 (5 ∷ 6 ∷ 7 ∷ [])
  pub bytes : file_bytes (sights p) file_a ≡ bytes_a
  pub items : dir_items (read_as p) dir_d ≡ entry file_b name_b ∷ space 247 ∷ []
  pub can_put : CanPut p file_a 510 (1 ∷ 2 ∷ []) 6
  pub can_put_last : CanPut p file_a 598 (1 ∷ 2 ∷ []) 7
  pub past_the_end : ArePastTheEnd p file_a 598 (1 ∷ 2 ∷ []) (7 ∷ []) 7
  pub can_grow : CanGrow p file_a 600 bytes_more (7 ∷ []) (12 ∷ []) 7
  pub can_widen : CanGrow p dir_d 510 widening_bytes [] (12 ∷ []) 9
  pub can_cut : CanCut p file_a 100 6 (7 ∷ [])
  pub can_write_leader : CanWriteLeader p file_a 5
  pub has_entry : HasEntry p dir_d 9 [] (space 247 ∷ []) file_b name_b
  pub may_drop : MayDrop p file_a 5 (6 ∷ 7 ∷ [])
  pub may_close : MayClose p (4 ∷ [])

-- so the pack is on which three lines were run
abbrev pub PremisesAreMet : Type 0
PremisesAreMet = MeetsPremises peopled

-- What a caller knows within lines: before a make, after its new serial; before an entering, after the make, and after an entry that went,
-- in another directory and in its own, where free slots are joined.
pub record MeetsInLines : Type 0 where
  pub can_make : CanMake numbered_b file_b name_b 10 11
  pub can_enter : CanEnter made_b dir_d name_b file_b found_b (entered_words file_b 10 name_b (left_in found_b name_b)) 9 0
  pub can_enter_elsewhere : CanEnter left dir_d name_c file_a found_c (entered_words file_a 5 name_c (left_in found_c name_c)) 9 0
  pub can_enter_joined : CanEnter left_b dir_d name_e file_b found_b (entered_words file_b 10 name_e (left_in found_b name_e)) 9 0

abbrev pub PremisesAreMetInLines : Type 0
PremisesAreMetInLines = MeetsInLines

-- ---- lines
-- A line of the operating system on a sound pack with true links, with these record writes: those of its operations after the opening of
-- the mark, whose words are those that a caller knows; what laws say of it then.
pub record LineRuns (p : Pack) (events : List Event) (ops : List Operation) : Type 0 where
  pub sound : Sound p
  pub links : LinksTrue p
  pub placed : place (sights p) disk_descriptor 1 ≡ Some 4
  pub is_line : IsKindOfLine (read_as p) ops
  pub enough : pages_for_operations (read_as p) ops ≤ free_sector_count (sights p)
  pub batch : Batch (after p (opening p)) events ops
  pub each_keeps : EachKeepsLinks batch
  pub line : LineOnSound p (opening p ++ events) ops
  pub keeps : LinksTrue (after p (opening p ++ events))

-- a file is made, entered in SysDir and grows, from the formatted pack; a directory is made; a file is made in it
abbrev pub file_line : List Operation
file_line = make file_a name_a 1000 ∷ enter sys_dir name_a file_a ∷ grow file_a bytes_a ∷ []

abbrev pub file_events : List Event
file_events = serial_writes 4 3 (sector_at opened 4).value ++ (making numbered_a file_a name_a 5 6 ++ (entering made_a room_a file_a 5 name_a ++ (growing entered_a file_a 0 bytes_a (7 ∷ []) 6 ++ [])))

abbrev pub directory_line : List Operation
directory_line = make dir_d name_d 1000 ∷ enter sys_dir name_d dir_d ∷ []

abbrev pub directory_events : List Event
directory_events = serial_writes 4 4 (sector_at grown_a 4).value ++ (making numbered_d dir_d name_d 8 9 ++ (entering made_d room_d dir_d 8 name_d ++ []))

abbrev pub inner_line : List Operation
inner_line = make file_b name_b 1000 ∷ enter dir_d name_b file_b ∷ []

abbrev pub inner_events : List Event
inner_events = serial_writes 4 5 (sector_at entered_d 4).value ++ (making numbered_b file_b name_b 10 11 ++ (entering made_b room_b file_b 10 name_b ++ []))

-- then files are changed, or one goes, or is renamed
abbrev pub changing_line : List Operation
changing_line = put file_a 510 (1 ∷ 2 ∷ []) ∷ grow file_a bytes_more ∷ cut file_a 100 ∷ title file_a name_z ∷ stamp file_a 2000 ∷ widen dir_d ∷ []

abbrev pub changing_events : List Event
changing_events = putting peopled 510 (1 ∷ 2 ∷ []) 6 ++ (growing after_put file_a 600 bytes_more (12 ∷ []) 7 ++ (cutting after_growth 100 6 (7 ∷ 12 ∷ []) ++ (titling after_cut name_z 5 ++ (stamping after_title 2000 6 1 100 5 ++ (growing after_stamp dir_d 510 widening_bytes (7 ∷ []) 9 ++ [])))))

abbrev pub drop_line : List Operation
drop_line = drop_file file_a ∷ []

abbrev pub drop_events : List Event
drop_events = dropping peopled 5 (6 ∷ 7 ∷ []) 2 24 8 ++ []

abbrev pub renaming_line : List Operation
renaming_line = title file_a name_c ∷ leave sys_dir name_a ∷ enter dir_d name_c file_a ∷ []

abbrev pub renaming_events : List Event
renaming_events = titling peopled name_c 5 ++ (leaving retitled 2 24 8 ++ (entering left room_c file_a 5 name_c ++ []))

abbrev pub inner_renaming_line : List Operation
inner_renaming_line = title file_b name_e ∷ leave dir_d name_b ∷ enter dir_d name_e file_b ∷ []

abbrev pub inner_renaming_events : List Event
inner_renaming_events = titling peopled name_e 10 ++ (leaving retitled_b 9 0 8 ++ (entering left_b room_e file_b 10 name_e ++ []))

-- Each of these lines runs.
pub record EachLineRuns : Type 0 where
  pub new_file : LineRuns formatted_pack file_events file_line
  pub new_directory : LineRuns grown_a directory_events directory_line
  pub new_inner : LineRuns entered_d inner_events inner_line
  pub changes : LineRuns peopled changing_events changing_line
  pub goes : LineRuns peopled drop_events drop_line
  pub renames : LineRuns peopled renaming_events renaming_line
  pub renames_inside : LineRuns peopled inner_renaming_events inner_renaming_line

abbrev pub LinesOfEachKindRun : Type 0
LinesOfEachKindRun = EachLineRuns

-- and the session can be closed, which leaves all hints true
abbrev pub SessionCloses : Type 0
SessionCloses = ClosedTrue peopled (after peopled (closing_writes peopled (true_table peopled) (4 ∷ [])))
