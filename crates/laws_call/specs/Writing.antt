-- All record writes of each operation by the words of `pack_model`, with the sectors that it claims and releases.
use Rattle.std.specs.Prelude.{List, Some, [], false, length, true, ℕ, ◌%◌, ◌∷◌, ◌≡◌}
use Rattle.laws_hint.specs.alto_words.specs.Fid.{is_directory, is_system}
use Rattle.laws_hint.specs.alto_words.specs.Names.{is_same_name, is_stored_name}
use Rattle.laws_hint.specs.alto_words.specs.declared.fid.Fid.{Fid}
use Rattle.laws_hint.specs.disk_records.specs.Commands.{value_writes}
use Rattle.laws_hint.specs.disk_records.specs.Packs.{Pack, sector_at}
use Rattle.laws_hint.specs.disk_records.specs.declared.records.Event.{Event}
use Rattle.laws_hint.specs.laws_operation.specs.ByteLaws.{IsOrdinary}
use Rattle.laws_hint.specs.laws_operation.specs.DirectoryWords.{CanEnter, HasEntry, left_in}
use Rattle.laws_hint.specs.laws_operation.specs.FileWords.{ArePastTheEnd, CanCut, CanGrow, CanMake, CanPut, CanWriteLeader}
use Rattle.laws_hint.specs.laws_operation.specs.LifeLaws.{MayDrop}
use Rattle.laws_hint.specs.pack_model.specs.operations.Commands.{cut_label, first_page_claim, grown_claims, grown_label, grown_value, leader_claim}
use Rattle.laws_hint.specs.pack_model.specs.operations.Committing.{page_of_byte}
use Rattle.laws_hint.specs.pack_model.specs.operations.Entering.{EntryRoom, entry_value, found_room, values_first}
use Rattle.laws_hint.specs.pack_model.specs.operations.Operations.{cut_writes, drop_writes, enter_writes, grow_writes, make_writes}
use Rattle.laws_hint.specs.pack_model.specs.operations.PageWords.{entered_words, freed_value, put_value, stamped_value, titled_value, widening_bytes}
use Rattle.laws_hint.specs.pack_model.specs.operations.Rooms.{Room}
use Rattle.laws_hint.specs.pack_model.specs.operations.Step.Operation.{cut, drop_file, enter, grow, leave, make, put, stamp, title, widen}
use Rattle.laws_hint.specs.pack_model.specs.operations.Step.{Operation}
use Rattle.laws_hint.specs.pack_model.specs.reading.Files.{file_bytes, place}
use Rattle.laws_hint.specs.pack_model.specs.reading.Model.{dir_items, read_as}
use Rattle.laws_hint.specs.pack_model.specs.reading.Sights.{sights}
use Rattle.laws_hint.specs.pack_model.specs.reading.Slots.Item.{entry}
use Rattle.laws_hint.specs.pack_model.specs.reading.Slots.{Item, all_words, item_words}

-- the words of a growth of a file of b bytes: its claims, and the label and the value of the old last page
abbrev pub grown_writes : Pack → Fid → ℕ → ℕ → List ℕ → List ℕ → List ℕ → List Event
grown_writes p f b at new past fresh = grow_writes (grown_claims p.shape f b at new past fresh) at (grown_label p.shape b new fresh (sector_at p at).label) (grown_value b new past fresh (sector_at p at).value)

-- the values of an entering with these words, in the room that was found
abbrev pub entering_writes : Pack → EntryRoom → List ℕ → List Event
entering_writes p r words = enter_writes (values_first p r words) r.at (entry_value p r words)

-- the value in which the slot of an entry after these items is a free one
abbrev pub entry_freed : Pack → ℕ → List Item → Fid → List ℕ → List ℕ
entry_freed p at a f own = freed_value (all_words a) (item_words (entry f own)) (sector_at p at).value

-- These are all record writes of the operation on that pack, which claim these sectors and release those. What a caller can know is with
-- each: a put and a growth have any words past the end that fit, and no other words are free.
pub data Written (p : Pack) : Operation → List ℕ → List ℕ → List Event → Type 0 where
  puts : {f : Fid} {offset at : ℕ} {new past : List ℕ} → CanPut p f offset new at → ArePastTheEnd p f offset new past at → Written p (put f offset new) [] [] (value_writes at (put_value (offset % 512) new past (sector_at p at).value))
  grows : {f : Fid} {new past fresh : List ℕ} {b at : ℕ} → IsOrdinary f → CanGrow p f b new past fresh at → Written p (grow f new) fresh [] (grown_writes p f b at new past fresh)
  cuts : {f : Fid} {n at : ℕ} {later : List ℕ} → CanCut p f n at later → Written p (cut f n) [] later (cut_writes at (cut_label n (sector_at p at).label) (sector_at p at).value later)
  titles : {f : Fid} {name : List ℕ} {at : ℕ} → CanWriteLeader p f at → is_stored_name name ≡ true → Written p (title f name) [] [] (value_writes at (titled_value name (sector_at p at).value))
  stamps : {f : Fid} {moment at last_at b : ℕ} → CanWriteLeader p f at → b ≡ length (file_bytes (sights p) f) → place (sights p) f (page_of_byte b) ≡ Some last_at
      → Written p (stamp f moment) [] [] (value_writes at (stamped_value moment last_at (page_of_byte b) (b % 512) (sector_at p at).value))
  makes : {f : Fid} {name : List ℕ} {moment leader_at page_at : ℕ} → CanMake p f name leader_at page_at
      → Written p (make f name moment) (page_at ∷ leader_at ∷ []) [] (make_writes (first_page_claim p.shape f leader_at page_at) (leader_claim p.shape f name moment leader_at page_at))
  drops : {f d : Fid} {at slot_at : ℕ} {pages own : List ℕ} {a b : List Item} → MayDrop p f at pages → HasEntry p d slot_at a b f own → Written p (drop_file f) [] (at ∷ pages) (drop_writes at pages slot_at (entry_freed p slot_at a f own))
  leaves : {f d : Fid} {name own : List ℕ} {at : ℕ} {a b : List Item} → HasEntry p d at a b f own → is_same_name own name ≡ true → is_system f ≡ false → Written p (leave d name) [] [] (value_writes at (entry_freed p at a f own))
  enters : {f d : Fid} {name : List ℕ} {r : Room} {leader_at at next_at : ℕ} → CanEnter p d name f r (entered_words f leader_at name (left_in r name)) at next_at → place (sights p) f 0 ≡ Some leader_at
      → Written p (enter d name f) [] [] (entering_writes p (found_room r (dir_items (read_as p) d) at next_at) (entered_words f leader_at name (left_in r name)))
  widens : {d : Fid} {past fresh : List ℕ} {b at : ℕ} → is_directory d ≡ true → CanGrow p d b widening_bytes past fresh at → Written p (widen d) fresh [] (grown_writes p d b at widening_bytes past fresh)
