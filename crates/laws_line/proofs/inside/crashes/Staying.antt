-- Each operation by its own law: every cut of it can be scavenged.
use Rattle.std.proofs.Common.{[], ◌∷◌}
use Rattle.disk_records.specs.Commands.{value_writes}
use Rattle.disk_records.specs.Packs.{sector_at}
use Rattle.pack_model.specs.operations.Operations.{cut_writes, drop_writes, grow_writes, make_writes}
use Rattle.pack_model.specs.operations.PageWords.{freed_value}
use Rattle.pack_model.specs.reading.Slots.{all_words, item_words}
use Rattle.pack_model.specs.reading.Slots.Item.{entry}
use Rattle.pack_model.specs.operations.Step.Operation.{cut, drop_file, grow, leave, make, put, stamp, title, widen}
use Rattle.laws_room.specs.laws_operation.proofs.Cutting.{cut_law}
use Rattle.laws_room.specs.laws_operation.proofs.Grown.{grow_law}
use Rattle.laws_room.specs.laws_operation.proofs.Leaving.{leave_law}
use Rattle.laws_room.specs.laws_operation.proofs.Making.{make_law}
use Rattle.laws_room.specs.laws_operation.proofs.OneValue.{put_law, stamp_law, title_law}
use Rattle.laws_room.specs.laws_operation.proofs.Widening.{widen_law}
use Rattle.laws_room.specs.laws_operation.specs.LeaderLaws.{stamped, titled}
use Rattle.laws_line.proofs.inside.crashes.Cutting.{crashes_of_an_operation}
use Rattle.laws_line.proofs.inside.crashes.Spared.{cut_leaves_the_system, drop_leaves_the_system, grow_leaves_the_system, leader_leaves_the_system, make_leaves_the_system, put_leaves_the_system, slot_leaves_the_system, widen_leaves_the_system}
use Rattle.laws_line.specs.EachLaws.{CrashesOfEachOperation}
use Rattle.laws_room.specs.laws_operation.proofs.drop.Laws.{drop_carries_out}

pub crashes_of_each_operation : CrashesOfEachOperation
crashes_of_each_operation p w t = record {
  puts = λ f offset new at value h. crashes_of_an_operation p (value_writes at value) (put f offset new) w (put_law p w t f h.file offset new at value h) (put_leaves_the_system p f offset new at value w h);
  grows = λ f new claims at label value h. crashes_of_an_operation p (grow_writes claims at label value) (grow f new) w (grow_law p w t f h.file new claims at label value h) (grow_leaves_the_system p f new claims at label value w h);
  cuts = λ f n at label later h. crashes_of_an_operation p (cut_writes at label (sector_at p at).value later) (cut f n) w (cut_law p w t f h.file n at label later h) (cut_leaves_the_system p f n at label later w h);
  titles = λ f name at value h. crashes_of_an_operation p (value_writes at value) (title f name) w (title_law p w t f h.file name at value h) (leader_leaves_the_system p f (titled name) at value w h);
  stamps = λ f moment at value h. crashes_of_an_operation p (value_writes at value) (stamp f moment) w (stamp_law p w t f h.file moment at value h) (leader_leaves_the_system p f (stamped moment) at value w h);
  makes = λ f name moment page leader h. crashes_of_an_operation p (make_writes page leader) (make f name moment) w (make_law p w t f name moment page leader h) (make_leaves_the_system p f name moment page leader w h);
  drops = λ f at pages d slot_at a b own h frees. crashes_of_an_operation p (drop_writes at pages slot_at (freed_value (all_words a) (item_words (entry f own)) (sector_at p slot_at).value)) (drop_file f) w
      (drop_carries_out p f at pages d slot_at a b own w t h frees) (drop_leaves_the_system p f at pages d slot_at a (entry f own ∷ []) b (freed_value (all_words a) (item_words (entry f own)) (sector_at p slot_at).value) w h frees);
  leaves = λ d name at a b f own h. crashes_of_an_operation p (value_writes at (freed_value (all_words a) (item_words (entry f own)) (sector_at p at).value)) (leave d name) w (leave_law p w t d name at a b f own h)
      (slot_leaves_the_system p d at a (entry f own ∷ []) b (freed_value (all_words a) (item_words (entry f own)) (sector_at p at).value) w h.frees);
  widens = λ d added claims at label value h. crashes_of_an_operation p (grow_writes claims at label value) (widen d) w (widen_law p w t d added claims at label value h) (widen_leaves_the_system p d added claims at label value w h);
}
