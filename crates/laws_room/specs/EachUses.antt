-- Each operation, by the record writes that its own law names: it may be done, and takes as many sectors into use as the model says.
use Rattle.std.specs.Prelude.{List, [], ℕ, ◌+◌, ◌∷◌, ◌≡◌}
use Rattle.laws_operation.specs.alto_words.specs.declared.fid.Fid.{Fid}
use Rattle.laws_operation.specs.disk_records.specs.Commands.{value_writes}
use Rattle.laws_operation.specs.disk_records.specs.Packs.{Pack, after, sector_at}
use Rattle.laws_operation.specs.disk_records.specs.declared.records.Event.{Event}
use Rattle.laws_operation.specs.pack_model.specs.operations.Commands.{Claim}
use Rattle.laws_operation.specs.pack_model.specs.operations.Committing.{pages_for_operation}
use Rattle.laws_operation.specs.pack_model.specs.operations.Entering.{entry_value, values_first}
use Rattle.laws_operation.specs.pack_model.specs.reading.Model.{read_as}
use Rattle.laws_operation.specs.pack_model.specs.operations.Operations.{cut_writes, drop_writes, enter_writes, release_file_writes, grow_writes, make_writes}
use Rattle.laws_operation.specs.pack_model.specs.operations.PageWords.{freed_value}
use Rattle.laws_operation.specs.pack_model.specs.reading.Slots.{Item, all_words, item_words}
use Rattle.laws_operation.specs.pack_model.specs.reading.Slots.Item.{entry}
use Rattle.laws_operation.specs.pack_model.specs.operations.Step.{Operation}
use Rattle.laws_operation.specs.pack_model.specs.operations.Step.Operation.{cut, drop_file, enter, grow, leave, make, put, stamp, title, widen}
use Rattle.laws_operation.specs.pack_model.specs.states.Whole.{Tidy, Whole}
use Rattle.laws_record.specs.DirLaws.{Frees}
use Rattle.laws_operation.specs.ByteLaws.{MayCut, MayGrow, MayPut}
use Rattle.laws_operation.specs.LeaderLaws.{MayWriteLeader, stamped, titled}
use Rattle.laws_operation.specs.LifeLaws.{MayDrop, MayMake}
use Rattle.laws_operation.specs.NameLaws.{MayEnterAt, MayLeave, MayWiden, entry_room}
use Rattle.laws_room.specs.UseLaws.{MayBeDone, pages_freed, sectors_in_use}

-- It may be done on what p is read as, and after these record writes the sectors in use are more by the pages that it adds and fewer
-- by those that it frees.
pub record TakesIntoUse (p : Pack) (events : List Event) (o : Operation) : Type 0 where
  pub may : MayBeDone (read_as p) o
  pub in_use : sectors_in_use (after p events) + pages_freed (read_as p) o ≡ sectors_in_use p + pages_for_operation (read_as p) o

-- The bytes of a file, its leader, a file that comes or goes, the entries of a directory, and a wider one. A file has gone before the
-- slot of its entry is a free one.
pub record EachTakes (p : Pack) : Type 0 where
  pub puts : (f : Fid) (offset : ℕ) (new : List ℕ) (at : ℕ) (value : List ℕ) → MayPut p f offset new at value → TakesIntoUse p (value_writes at value) (put f offset new)
  pub grows : (f : Fid) (new : List ℕ) (claims : List Claim) (at : ℕ) (label value : List ℕ) → MayGrow p f new claims at label value → TakesIntoUse p (grow_writes claims at label value) (grow f new)
  pub cuts : (f : Fid) (n at : ℕ) (label later : List ℕ) → MayCut p f n at label later → TakesIntoUse p (cut_writes at label (sector_at p at).value later) (cut f n)
  pub titles : (f : Fid) (name : List ℕ) (at : ℕ) (value : List ℕ) → MayWriteLeader p f (titled name) at value → TakesIntoUse p (value_writes at value) (title f name)
  pub stamps : (f : Fid) (moment : ℕ) (at : ℕ) (value : List ℕ) → MayWriteLeader p f (stamped moment) at value → TakesIntoUse p (value_writes at value) (stamp f moment)
  pub makes : (f : Fid) (name : List ℕ) (moment : ℕ) (page leader : Claim) → MayMake p f name moment page leader → TakesIntoUse p (make_writes page leader) (make f name moment)
  pub goes : (f : Fid) (at : ℕ) (pages : List ℕ) → MayDrop p f at pages → TakesIntoUse p (release_file_writes at pages) (drop_file f)
  pub drops : (f : Fid) (at : ℕ) (pages : List ℕ) (d : Fid) (slot_at : ℕ) (a b : List Item) (own : List ℕ) → MayDrop p f at pages → Frees p d slot_at a (entry f own ∷ []) b
      → TakesIntoUse p (drop_writes at pages slot_at (freed_value (all_words a) (item_words (entry f own)) (sector_at p slot_at).value)) (drop_file f)
  pub leaves : (d : Fid) (name : List ℕ) (at : ℕ) (a b : List Item) (f : Fid) (own : List ℕ) → MayLeave p d name at a b f own
      → TakesIntoUse p (value_writes at (freed_value (all_words a) (item_words (entry f own)) (sector_at p at).value)) (leave d name)
  pub enters : (d : Fid) (name : List ℕ) (f : Fid) (a old b : List Item) (left : ℕ) (words : List ℕ) (at next_at : ℕ) → MayEnterAt p d name f a old b left words at next_at
      → TakesIntoUse p (enter_writes (values_first p (entry_room a old at next_at) words) at (entry_value p (entry_room a old at next_at) words)) (enter d name f)
  pub widens : (d : Fid) (added : List ℕ) (claims : List Claim) (at : ℕ) (label value : List ℕ) → MayWiden p d added claims at label value → TakesIntoUse p (grow_writes claims at label value) (widen d)

abbrev pub EachOperationTakesItsPages : Type 0
EachOperationTakesItsPages = (p : Pack) → Whole p → Tidy p → EachTakes p
