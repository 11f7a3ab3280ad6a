-- A line that makes a file and enters it, by what a caller knows on each pack of it.
use Rattle.std.proofs.Common.{◌≡◌, ◌≢◌, ℕ, ◌≤◌, true, false, List, [], ◌∷◌, ◌++◌, Some, length, refl, ap, subst, ◌∙◌, arith}
use Rattle.std.specs.List.{list_any}
use Rattle.std.specs.Prelude.{◌||◌, nat_le}
use Rattle.laws_steps.specs.alto_words.specs.declared.fid.Fid.{Fid}
use Rattle.laws_steps.specs.alto_words.specs.Fid.{disk_descriptor, is_directory, is_fid, is_full_name, is_system, serial_of, sys_dir}
use Rattle.laws_steps.specs.alto_words.specs.Names.{is_stored_name}
use Rattle.laws_steps.specs.disk_records.proofs.Growing.{after-append}
use Rattle.laws_steps.specs.disk_records.specs.Packs.{Pack, after, is_free_at, sector_at}
use Rattle.laws_steps.specs.disk_records.specs.declared.records.Event.{Event}
use Rattle.laws_steps.specs.pack_model.specs.hints.Links.{dir_words}
use Rattle.laws_steps.specs.pack_model.specs.operations.Committing.{page_of_word}
use Rattle.laws_steps.specs.pack_model.specs.operations.Entering.{EntryRoom, found_room}
use Rattle.laws_steps.specs.pack_model.specs.operations.PageWords.{entered_words, later}
use Rattle.laws_steps.specs.pack_model.specs.operations.Rooms.{Room, find_room, largest_run}
use Rattle.laws_steps.specs.pack_model.specs.operations.Step.{Operation, longest_entry}
use Rattle.laws_steps.specs.pack_model.specs.operations.Step.Operation.{enter, make}
use Rattle.laws_steps.specs.pack_model.specs.reading.Files.{lives, place}
use Rattle.laws_steps.specs.pack_model.specs.reading.Model.{dir_items, read_as}
use Rattle.laws_steps.specs.pack_model.specs.reading.Namings.{fits}
use Rattle.laws_steps.specs.pack_model.specs.reading.Sights.{sights}
use Rattle.laws_steps.specs.pack_model.specs.reading.Slots.{Item, entry_length, slots}
use Rattle.laws_steps.specs.pack_model.specs.sessions.Descriptor.{serial_writes}
use Rattle.laws_steps.specs.laws_operation.specs.DirectoryWords.{CanEnter, left_in}
use Rattle.laws_steps.specs.laws_operation.specs.EntryLaws.{is_of_another}
use Rattle.laws_steps.specs.laws_operation.specs.FileWords.{CanMake}
use Rattle.laws_steps.specs.laws_line.specs.CrashLaws.{with_serial}
use Rattle.laws_steps.specs.laws_line.specs.LineLaws.{LeaveNames, with_new_file}
use Rattle.laws_steps.specs.laws_line.specs.SoundLines.{IsKindOfLine}
use Rattle.laws_steps.specs.laws_line.specs.SoundLines.IsKindOfLine.{comes}
use Rattle.laws_steps.specs.laws_line.proofs.after.Laws.{directories_are_read}
use Rattle.laws_met.specs.Peopled.{entering, making}
use Rattle.laws_met.proofs.inside.Lines.{is_in_model, items_of_words, may_enter_made, not_in_model, plain_line}
use Rattle.laws_met.proofs.inside.Operating.{Done, LineDone, Stands, done_make, done_more, entered, made, stands_after, stands_numbered}

-- What is known of the names alone: a new file under this name, and the room for its entry among a directory's slots.
pub record NamesFit (d f : Fid) (name : List ℕ) (items : List Item) (found : Room) (r : EntryRoom) : Type 0 where
  pub directory : is_directory d ≡ true
  pub no_descriptor : is_fid f disk_descriptor ≡ false
  pub dir_no_descriptor : is_fid d disk_descriptor ≡ false
  pub no_system : is_system f ≡ false
  pub full_name : is_full_name f ≡ true
  pub stored : is_stored_name name ≡ true
  pub fitting : fits (record { dir = d; name = name; fid = f }) ≡ true
  pub clear : list_any (is_of_another f name) items ≡ false
  pub found_is : find_room (entry_length (length name)) items ≡ Some found
  pub room_is : found_room found items r.at r.next_at ≡ r
  pub in_page : (address : ℕ) → later found.place (entered_words f address name (left_in found name)) ≡ []

-- A directory that lives, with these slots.
pub record DirectoryIs (p : Pack) (d : Fid) (items : List Item) : Type 0 where
  pub living : lives (sights p) d ≡ true
  pub slots_are : slots (dir_words p d) ≡ items

-- With its serial: the file isn't there, and two sectors are free.
pub record Numbered (n : Pack) (f : Fid) (leader_at page_at : ℕ) : Type 0 where
  pub dead : lives (sights n) f ≡ false
  pub last : (read_as n).last ≡ serial_of f
  pub leader_free : is_free_at n leader_at ≡ true
  pub page_free : is_free_at n page_at ≡ true

-- Once it is made: where the directory's page and the new leader are.
pub record Made (m : Pack) (d f : Fid) (found : Room) (at leader_at : ℕ) : Type 0 where
  pub living : lives (sights m) f ≡ true
  pub sector : place (sights m) d (page_of_word found.place) ≡ Some at
  pub leader : place (sights m) f 0 ≡ Some leader_at

module _ (q : Pack) (d f : Fid) (name : List ℕ) (leader_at page_at : ℕ) (items : List Item) (found : Room) (r : EntryRoom) where
  -- the packs of the line
  abbrev pub with_number : Pack
  with_number = with_serial q 4 (serial_of f)

  abbrev pub with_file : Pack
  with_file = after with_number (making with_number f name leader_at page_at)

  abbrev pub with_entry : Pack
  with_entry = after with_file (entering with_file r f leader_at name)

  -- ---- the make and the entering
  module _ (s : Stands q) (names : NamesFit d f name items found r) (placed : place (sights q) disk_descriptor 1 ≡ Some 4) (below : (read_as q).last ≤ serial_of f) (before : DirectoryIs with_number d items) (numbered : Numbered with_number f leader_at page_at) (two : leader_at ≢ page_at) where
    stands_n : Stands with_number
    stands_n = stands_numbered q 4 (serial_of f) s placed below

    pub can_make : CanMake with_number f name leader_at page_at
    can_make = record {
      no_descriptor = names.no_descriptor;
      full_name = names.full_name;
      not_there = numbered.dead;
      last = numbered.last;
      stored = names.stored;
      leader_free = numbered.leader_free;
      page_free = numbered.page_free;
      two = two;
    }

    pub is_made : Done with_number (making with_number f name leader_at page_at) (make f name 1000)
    is_made = made with_number stands_n f name leader_at page_at can_make

    pub stands_made : Stands with_file
    stands_made = stands_after with_number (making with_number f name leader_at page_at) (make f name 1000) stands_n is_made

    module _ (between : DirectoryIs with_file d items) (is : Made with_file d f found r.at leader_at) where
      items_then : dir_items (read_as with_file) d ≡ items
      items_then = items_of_words with_file d items stands_made between.living names.directory between.slots_are

      pub can_enter : CanEnter with_file d name f found (entered_words f leader_at name (left_in found name)) r.at r.next_at
      can_enter =
          let none : length (later found.place (entered_words f leader_at name (left_in found name))) ≡ 0 = ap length (names.in_page leader_at) in
          record {
            directory = names.directory;
            living = between.living;
            no_system = names.no_system;
            entry_is = may_enter_made with_number d f name leader_at page_at items is_made numbered.dead (items_of_words with_number d items stands_n before.living names.directory before.slots_are) names.clear is.living names.fitting;
            stored = names.stored;
            found = ap (find_room (entry_length (length name))) items_then ∙ names.found_is;
            sector = is.sector;
            next_sector = λ l. absurd (omega arith);
          }

      pub is_entered : Done with_file (entering with_file r f leader_at name) (enter d name f)
      is_entered = entered with_file stands_made d name f leader_at found r.at r.next_at r can_enter (ap (λ is. found_room found is r.at r.next_at) items_then ∙ names.room_is) is.leader

      pub stands_entered : Stands with_entry
      stands_entered = stands_after with_file (entering with_file r f leader_at name) (enter d name f) stands_made is_entered

      -- ---- the line
      pub new_file_done : (later : List Event) (rest : List Operation) → LineDone with_entry later rest
          → LineDone q (serial_writes 4 (serial_of f) (sector_at q 4).value ++ (making with_number f name leader_at page_at ++ (entering with_file r f leader_at name ++ later))) (make f name 1000 ∷ enter d name f ∷ rest)
      new_file_done later rest more =
          done_make q 4 (serial_of f) (making with_number f name leader_at page_at) (entering with_file r f leader_at name ++ later) f name 1000 (enter d name f ∷ rest) placed below is_made
          (done_more with_file (entering with_file r f leader_at name) later (enter d name f) rest refl is_entered more)

  -- and the pack that it leaves
  pub after_new_file : (later : List Event) → after q (serial_writes 4 (serial_of f) (sector_at q 4).value ++ (making with_number f name leader_at page_at ++ (entering with_file r f leader_at name ++ later))) ≡ after with_entry later
  after_new_file later =
      after-append q (serial_writes 4 (serial_of f) (sector_at q 4).value) (making with_number f name leader_at page_at ++ (entering with_file r f leader_at name ++ later))
      ∙ after-append with_number (making with_number f name leader_at page_at) (entering with_file r f leader_at name ++ later)
      ∙ after-append with_file (entering with_file r f leader_at name) later

-- it is a line of the operating system, by the model before it
pub is_new_file : (p : Pack) (d f : Fid) (name : List ℕ) (rest : List Operation) (roots items : List Item) → Stands p → DirectoryIs p sys_dir roots → DirectoryIs p d items → is_directory d ≡ true → is_fid d disk_descriptor ≡ false → is_fid f disk_descriptor ≡ false → lives (sights p) f ≡ false
    → nat_le longest_entry (largest_run roots) ≡ true → (is_fid d sys_dir || nat_le (entry_length (length name)) (largest_run items)) ≡ true → length name ≤ 39 → LeaveNames (with_new_file (read_as p) d name f 1000) rest
    → IsKindOfLine (read_as p) (make f name 1000 ∷ enter d name f ∷ rest)
is_new_file p d f name rest roots items s root dir is no_descriptor f_no_descriptor dead long room short leaves =
    subst (IsKindOfLine (read_as p))
    (plain_line (read_as p) d name f rest roots items (items_of_words p sys_dir roots s root.living refl root.slots_are) (items_of_words p d items s dir.living is dir.slots_are) long room)
    (comes d name f 1000 rest (directories_are_read p d is (is_in_model p d no_descriptor dir.living)) short (not_in_model p f f_no_descriptor dead) leaves)
