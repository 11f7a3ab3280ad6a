-- Each operation of a line, by the record writes that its own law names: every cut of it can be scavenged.
use Rattle.std.specs.Prelude.{List, [], ℕ, ◌∷◌}
use Rattle.laws_room.specs.alto_words.specs.declared.fid.Fid.{Fid}
use Rattle.disk_records.specs.Commands.{value_writes}
use Rattle.disk_records.specs.Packs.{Pack, sector_at}
use Rattle.pack_model.specs.operations.Commands.{Claim}
use Rattle.pack_model.specs.operations.Operations.{cut_writes, drop_writes, grow_writes, make_writes}
use Rattle.pack_model.specs.operations.PageWords.{freed_value}
use Rattle.pack_model.specs.reading.Slots.{Item, all_words, item_words}
use Rattle.pack_model.specs.reading.Slots.Item.{entry}
use Rattle.pack_model.specs.operations.Step.Operation.{cut, drop_file, grow, leave, make, put, stamp, title, widen}
use Rattle.pack_model.specs.states.Whole.{Tidy, Whole}
use Rattle.laws_room.specs.laws_record.specs.DirLaws.{Frees}
use Rattle.laws_room.specs.laws_operation.specs.ByteLaws.{MayCut, MayGrow, MayPut}
use Rattle.laws_room.specs.laws_operation.specs.LeaderLaws.{MayWriteLeader, stamped, titled}
use Rattle.laws_room.specs.laws_operation.specs.LifeLaws.{MayDrop, MayMake}
use Rattle.laws_room.specs.laws_operation.specs.NameLaws.{MayLeave, MayWiden}
use Rattle.laws_line.specs.CrashLaws.{StaysMendable}

-- The bytes of a file, its leader, a file that comes or goes, an entry that leaves, and a wider directory.
pub record EachStays (p : Pack) : Type 0 where
  pub puts : (f : Fid) (offset : ℕ) (new : List ℕ) (at : ℕ) (value : List ℕ) → MayPut p f offset new at value → StaysMendable p (value_writes at value) (put f offset new)
  pub grows : (f : Fid) (new : List ℕ) (claims : List Claim) (at : ℕ) (label value : List ℕ) → MayGrow p f new claims at label value → StaysMendable p (grow_writes claims at label value) (grow f new)
  pub cuts : (f : Fid) (n at : ℕ) (label later : List ℕ) → MayCut p f n at label later → StaysMendable p (cut_writes at label (sector_at p at).value later) (cut f n)
  pub titles : (f : Fid) (name : List ℕ) (at : ℕ) (value : List ℕ) → MayWriteLeader p f (titled name) at value → StaysMendable p (value_writes at value) (title f name)
  pub stamps : (f : Fid) (moment : ℕ) (at : ℕ) (value : List ℕ) → MayWriteLeader p f (stamped moment) at value → StaysMendable p (value_writes at value) (stamp f moment)
  pub makes : (f : Fid) (name : List ℕ) (moment : ℕ) (page leader : Claim) → MayMake p f name moment page leader → StaysMendable p (make_writes page leader) (make f name moment)
  pub drops : (f : Fid) (at : ℕ) (pages : List ℕ) (d : Fid) (slot_at : ℕ) (a b : List Item) (own : List ℕ) → MayDrop p f at pages → Frees p d slot_at a (entry f own ∷ []) b
      → StaysMendable p (drop_writes at pages slot_at (freed_value (all_words a) (item_words (entry f own)) (sector_at p slot_at).value)) (drop_file f)
  pub leaves : (d : Fid) (name : List ℕ) (at : ℕ) (a b : List Item) (f : Fid) (own : List ℕ) → MayLeave p d name at a b f own
      → StaysMendable p (value_writes at (freed_value (all_words a) (item_words (entry f own)) (sector_at p at).value)) (leave d name)
  pub widens : (d : Fid) (added : List ℕ) (claims : List Claim) (at : ℕ) (label value : List ℕ) → MayWiden p d added claims at label value → StaysMendable p (grow_writes claims at label value) (widen d)

abbrev pub CrashesOfEachOperation : Type 0
CrashesOfEachOperation = (p : Pack) → Whole p → Tidy p → EachStays p
