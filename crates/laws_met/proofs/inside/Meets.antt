-- The laws of premises.
use Rattle.std.proofs.Common.{arith}
use Rattle.laws_met.specs.Peopled.{dir_d, entered_d, file_b, name_b, room_b}
use Rattle.laws_met.specs.Premises.{LinesOfEachKindRun, PremisesAreMetInLines, found_b}
use Rattle.laws_met.proofs.inside.Changing.{changing_runs, drop_runs}
use Rattle.laws_met.proofs.inside.FactsD.{entered_session, items_of_d, made_dir, made_is_b, names_fit_b, numbered_dir, numbered_is_b}
use Rattle.laws_met.proofs.inside.LineA.{ran_a}
use Rattle.laws_met.proofs.inside.LineD.{ran_b, ran_d, stands_d}
use Rattle.laws_met.proofs.inside.NewFile.{can_enter, can_make}
use Rattle.laws_met.proofs.inside.Renaming.{can_enter_c, renaming_runs}
use Rattle.laws_met.proofs.inside.RenamingInside.{can_enter_e, inner_renaming_runs}

pub premises_are_met_in_lines : PremisesAreMetInLines
premises_are_met_in_lines = record {
  can_make = can_make entered_d dir_d file_b name_b 10 11 items_of_d found_b room_b stands_d names_fit_b entered_session.placed (let e = entered_session.last_is in omega arith) numbered_dir numbered_is_b (omega arith);
  can_enter = can_enter entered_d dir_d file_b name_b 10 11 items_of_d found_b room_b stands_d names_fit_b entered_session.placed (let e = entered_session.last_is in omega arith) numbered_dir numbered_is_b (omega arith) made_dir made_is_b;
  can_enter_elsewhere = can_enter_c;
  can_enter_joined = can_enter_e;
}

pub lines_of_each_kind_run : LinesOfEachKindRun
lines_of_each_kind_run = record {
  new_file = ran_a;
  new_directory = ran_d;
  new_inner = ran_b;
  changes = changing_runs;
  goes = drop_runs;
  renames = renaming_runs;
  renames_inside = inner_renaming_runs;
}
