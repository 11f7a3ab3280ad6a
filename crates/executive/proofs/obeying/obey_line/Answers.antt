use Rattle.std.proofs.Common.{sym, subst, ◌∙◌, ap}
use Rattle.disk_records.proofs.Framing.{usable_here, writes_silent}
use Rattle.disk_records.proofs.Growing.{alone_here, nothing_added}
use Rattle.exec_session.specs.Meant.{kept}
use Rattle.session_model.specs.Keeping.{Formed}
use Rattle.exec_words.specs.declared.line.Line.TheVariants as line
use Rattle.exec_session.proofs.Stopping.{if_refused}
use Rattle.exec_memory.proofs.LinesAlone.{cause_alone, may_take}
use Rattle.executive.proofs.obeying.obey_line.Goals as goal

-- ---- each call may be made
pub list_names-requires : goal.list_names-requires
list_names-requires g c = record { obeys = rw c.in-ListNames.is at c.requires.obeys }

pub type_file-requires : goal.type_file-requires
type_file-requires g c = record { obeys = rw c.in-TypeOut.is at c.requires.obeys }

pub stat_file-requires : goal.stat_file-requires
stat_file-requires g c = record { obeys = rw c.in-Stat.is at c.requires.obeys }

pub make_file-requires : goal.make_file-requires
make_file-requires g c = record { obeys = rw c.in-Make.is at c.requires.obeys }

pub append_bytes-requires : goal.append_bytes-requires
append_bytes-requires g c = record { obeys = rw (c.in-Append.is ∙ ap (line.Append c.in-Append.file) (sym c.as_slice.ensures)) at c.requires.obeys }

pub patch_bytes-requires : goal.patch_bytes-requires
patch_bytes-requires g c = record { obeys = rw (c.in-Patch.is ∙ ap (line.Patch c.in-Patch.file c.in-Patch.offset) (sym c.as_slice-in-Patch.ensures)) at c.requires.obeys }

pub cut_file-requires : goal.cut_file-requires
cut_file-requires g c = record { obeys = rw c.in-Cut.is at c.requires.obeys }

pub copy_file-requires : goal.copy_file-requires
copy_file-requires g c = record { obeys = rw c.in-Copy.is at c.requires.obeys }

pub rename_file-requires : goal.rename_file-requires
rename_file-requires g c = record { obeys = rw c.in-Rename.is at c.requires.obeys }

pub delete_file-requires : goal.delete_file-requires
delete_file-requires g c = record { obeys = rw c.in-Delete.is at c.requires.obeys }

pub make_dir-requires : goal.make_dir-requires
make_dir-requires g c = record { obeys = rw c.in-MakeDir.is at c.requires.obeys }

pub remove_dir-requires : goal.remove_dir-requires
remove_dir-requires g c = record { obeys = rw c.in-RemoveDir.is at c.requires.obeys }

pub free_pages-requires : goal.free_pages-requires
free_pages-requires g c = record { obeys = rw c.in-Free.is at c.requires.obeys }

pub set_time-requires : goal.set_time-requires
set_time-requires g c = record { may = may_take (rw c.in-SetTime.is at c.requires.obeys) }

pub store_word-requires : goal.store_word-requires
store_word-requires g c = record { may = may_take (rw c.in-Store.is at c.requires.obeys) }

pub fetch_word-requires : goal.fetch_word-requires
fetch_word-requires g c = record { may = may_take (rw c.in-Fetch.is at c.requires.obeys) }

pub take_block-requires : goal.take_block-requires
take_block-requires g c = record { may = may_take (rw c.in-Block.is at c.requires.obeys) }

pub return_block-requires : goal.return_block-requires
return_block-requires g c = record { may = may_take (rw c.in-Unblock.is at c.requires.obeys) }

pub remove_levels-requires : goal.remove_levels-requires
remove_levels-requires g c = record { may = may_take (rw c.in-Junta.is at c.requires.obeys) }

pub restore_levels-requires : goal.restore_levels-requires
restore_levels-requires g c = record { may = may_take (rw c.in-CounterJunta.is at c.requires.obeys) }

-- ---- what each line owes, the call that has it ensures
pub returns-in-ListNames : goal.returns-in-ListNames
returns-in-ListNames g c = record {
  turns = rw c.in-ListNames.is c.list_names.ensures.turns;
  unwritten = λ told. if_refused _ c.list_names.result (c.list_names.ensures.silent told);
  formed = c.list_names.ensures.stays.formed;
  cause = c.list_names.ensures.cause;
  frame = λ told. writes_silent _ _ (c.list_names.ensures.silent told);
  alone = c.list_names.ensures.alone;
}

pub returns-in-TypeOut : goal.returns-in-TypeOut
returns-in-TypeOut g c = record {
  turns = rw c.in-TypeOut.is c.type_file.ensures.turns;
  unwritten = λ told. if_refused _ c.type_file.result (c.type_file.ensures.silent told);
  formed = c.type_file.ensures.stays.formed;
  cause = c.type_file.ensures.cause;
  frame = λ told. writes_silent _ _ (c.type_file.ensures.silent told);
  alone = c.type_file.ensures.alone;
}

pub returns-in-Stat : goal.returns-in-Stat
returns-in-Stat g c = record {
  turns = rw c.in-Stat.is c.stat_file.ensures.turns;
  unwritten = λ told. if_refused _ c.stat_file.result (c.stat_file.ensures.silent told);
  formed = c.stat_file.ensures.stays.formed;
  cause = c.stat_file.ensures.cause;
  frame = λ told. writes_silent _ _ (c.stat_file.ensures.silent told);
  alone = c.stat_file.ensures.alone;
}

pub returns-in-Make : goal.returns-in-Make
returns-in-Make g c = record {
  turns = rw c.in-Make.is c.make_file.ensures.turns;
  unwritten = c.make_file.ensures.unwritten;
  formed = c.make_file.ensures.stays.formed;
  cause = c.make_file.ensures.cause;
  frame = c.make_file.ensures.frame;
  alone = c.make_file.ensures.alone;
}

pub returns-in-Append : goal.returns-in-Append
returns-in-Append g c = record {
  turns = rw (c.in-Append.is ∙ ap (line.Append c.in-Append.file) (sym c.as_slice.ensures)) c.append_bytes.ensures.turns;
  unwritten = c.append_bytes.ensures.unwritten;
  formed = c.append_bytes.ensures.stays.formed;
  cause = c.append_bytes.ensures.cause;
  frame = c.append_bytes.ensures.frame;
  alone = c.append_bytes.ensures.alone;
}

pub returns-in-Patch : goal.returns-in-Patch
returns-in-Patch g c = record {
  turns = rw (c.in-Patch.is ∙ ap (line.Patch c.in-Patch.file c.in-Patch.offset) (sym c.as_slice-in-Patch.ensures)) c.patch_bytes.ensures.turns;
  unwritten = c.patch_bytes.ensures.unwritten;
  formed = c.patch_bytes.ensures.stays.formed;
  cause = c.patch_bytes.ensures.cause;
  frame = c.patch_bytes.ensures.frame;
  alone = c.patch_bytes.ensures.alone;
}

pub returns-in-Cut : goal.returns-in-Cut
returns-in-Cut g c = record {
  turns = rw c.in-Cut.is c.cut_file.ensures.turns;
  unwritten = c.cut_file.ensures.unwritten;
  formed = c.cut_file.ensures.stays.formed;
  cause = c.cut_file.ensures.cause;
  frame = c.cut_file.ensures.frame;
  alone = c.cut_file.ensures.alone;
}

pub returns-in-Copy : goal.returns-in-Copy
returns-in-Copy g c = record {
  turns = rw c.in-Copy.is c.copy_file.ensures.turns;
  unwritten = c.copy_file.ensures.unwritten;
  formed = c.copy_file.ensures.stays.formed;
  cause = c.copy_file.ensures.cause;
  frame = c.copy_file.ensures.frame;
  alone = c.copy_file.ensures.alone;
}

pub returns-in-Rename : goal.returns-in-Rename
returns-in-Rename g c = record {
  turns = rw c.in-Rename.is c.rename_file.ensures.turns;
  unwritten = c.rename_file.ensures.unwritten;
  formed = c.rename_file.ensures.stays.formed;
  cause = c.rename_file.ensures.cause;
  frame = c.rename_file.ensures.frame;
  alone = c.rename_file.ensures.alone;
}

pub returns-in-Delete : goal.returns-in-Delete
returns-in-Delete g c = record {
  turns = rw c.in-Delete.is c.delete_file.ensures.turns;
  unwritten = c.delete_file.ensures.unwritten;
  formed = c.delete_file.ensures.stays.formed;
  cause = c.delete_file.ensures.cause;
  frame = c.delete_file.ensures.frame;
  alone = c.delete_file.ensures.alone;
}

pub returns-in-MakeDir : goal.returns-in-MakeDir
returns-in-MakeDir g c = record {
  turns = rw c.in-MakeDir.is c.make_dir.ensures.turns;
  unwritten = c.make_dir.ensures.unwritten;
  formed = c.make_dir.ensures.stays.formed;
  cause = c.make_dir.ensures.cause;
  frame = c.make_dir.ensures.frame;
  alone = c.make_dir.ensures.alone;
}

pub returns-in-RemoveDir : goal.returns-in-RemoveDir
returns-in-RemoveDir g c = record {
  turns = rw c.in-RemoveDir.is c.remove_dir.ensures.turns;
  unwritten = c.remove_dir.ensures.unwritten;
  formed = c.remove_dir.ensures.stays.formed;
  cause = c.remove_dir.ensures.cause;
  frame = c.remove_dir.ensures.frame;
  alone = c.remove_dir.ensures.alone;
}

pub returns-in-Free : goal.returns-in-Free
returns-in-Free g c = record {
  turns = rw c.in-Free.is c.free_pages.ensures.turns;
  unwritten = λ told. if_refused _ c.free_pages.result (c.free_pages.ensures.silent told);
  formed = subst (λ f. Formed f (kept c.args.session.now)) (sym c.free_pages.ensures.alone.grown.form) c.requires.obeys.formed;
  cause = c.free_pages.ensures.cause;
  frame = λ told. writes_silent _ _ (c.free_pages.ensures.silent told);
  alone = c.free_pages.ensures.alone;
}

pub returns-in-SetTime : goal.returns-in-SetTime
returns-in-SetTime g c = record {
  turns = rw c.in-SetTime.is (λ told. c.set_time.ensures.turns (g.D.Tape.tape c.args.disk.now));
  unwritten = λ told. if_refused _ c.set_time.result (nothing_added (g.D.Tape.tape c.args.disk.now).events);
  formed = c.set_time.ensures.formed (g.D.Tape.tape c.args.disk.now).form c.requires.obeys.formed;
  cause = cause_alone (g.D.Tape.tape c.args.disk.now) c.set_time.result c.set_time.ensures.stops;
  frame = usable_here (g.D.Tape.tape c.args.disk.now);
  alone = alone_here (g.D.Tape.tape c.args.disk.now);
}

pub returns-in-Store : goal.returns-in-Store
returns-in-Store g c = record {
  turns = rw c.in-Store.is (λ told. c.store_word.ensures.turns (g.D.Tape.tape c.args.disk.now));
  unwritten = λ told. if_refused _ c.store_word.result (nothing_added (g.D.Tape.tape c.args.disk.now).events);
  formed = c.store_word.ensures.formed (g.D.Tape.tape c.args.disk.now).form c.requires.obeys.formed;
  cause = cause_alone (g.D.Tape.tape c.args.disk.now) c.store_word.result c.store_word.ensures.stops;
  frame = usable_here (g.D.Tape.tape c.args.disk.now);
  alone = alone_here (g.D.Tape.tape c.args.disk.now);
}

pub returns-in-Fetch : goal.returns-in-Fetch
returns-in-Fetch g c = record {
  turns = rw c.in-Fetch.is (λ told. c.fetch_word.ensures.turns (g.D.Tape.tape c.args.disk.now));
  unwritten = λ told. if_refused _ c.fetch_word.result (nothing_added (g.D.Tape.tape c.args.disk.now).events);
  formed = c.requires.obeys.formed;
  cause = cause_alone (g.D.Tape.tape c.args.disk.now) c.fetch_word.result c.fetch_word.ensures.stops;
  frame = usable_here (g.D.Tape.tape c.args.disk.now);
  alone = alone_here (g.D.Tape.tape c.args.disk.now);
}

pub returns-in-Block : goal.returns-in-Block
returns-in-Block g c = record {
  turns = rw c.in-Block.is (λ told. c.take_block.ensures.turns (g.D.Tape.tape c.args.disk.now));
  unwritten = λ told. if_refused _ c.take_block.result (nothing_added (g.D.Tape.tape c.args.disk.now).events);
  formed = c.take_block.ensures.formed (g.D.Tape.tape c.args.disk.now).form c.requires.obeys.formed;
  cause = cause_alone (g.D.Tape.tape c.args.disk.now) c.take_block.result c.take_block.ensures.stops;
  frame = usable_here (g.D.Tape.tape c.args.disk.now);
  alone = alone_here (g.D.Tape.tape c.args.disk.now);
}

pub returns-in-Unblock : goal.returns-in-Unblock
returns-in-Unblock g c = record {
  turns = rw c.in-Unblock.is (λ told. c.return_block.ensures.turns (g.D.Tape.tape c.args.disk.now));
  unwritten = λ told. if_refused _ c.return_block.result (nothing_added (g.D.Tape.tape c.args.disk.now).events);
  formed = c.return_block.ensures.formed (g.D.Tape.tape c.args.disk.now).form c.requires.obeys.formed;
  cause = cause_alone (g.D.Tape.tape c.args.disk.now) c.return_block.result c.return_block.ensures.stops;
  frame = usable_here (g.D.Tape.tape c.args.disk.now);
  alone = alone_here (g.D.Tape.tape c.args.disk.now);
}

pub returns-in-Junta : goal.returns-in-Junta
returns-in-Junta g c = record {
  turns = rw c.in-Junta.is (λ told. c.remove_levels.ensures.turns (g.D.Tape.tape c.args.disk.now));
  unwritten = λ told. if_refused _ c.remove_levels.result (nothing_added (g.D.Tape.tape c.args.disk.now).events);
  formed = c.remove_levels.ensures.formed (g.D.Tape.tape c.args.disk.now).form c.requires.obeys.formed;
  cause = cause_alone (g.D.Tape.tape c.args.disk.now) c.remove_levels.result c.remove_levels.ensures.stops;
  frame = usable_here (g.D.Tape.tape c.args.disk.now);
  alone = alone_here (g.D.Tape.tape c.args.disk.now);
}

pub returns-in-CounterJunta : goal.returns-in-CounterJunta
returns-in-CounterJunta g c = record {
  turns = rw c.in-CounterJunta.is (λ told. c.restore_levels.ensures.turns (g.D.Tape.tape c.args.disk.now));
  unwritten = λ told. if_refused _ c.restore_levels.result (nothing_added (g.D.Tape.tape c.args.disk.now).events);
  formed = c.restore_levels.ensures.formed (g.D.Tape.tape c.args.disk.now).form c.requires.obeys.formed;
  cause = cause_alone (g.D.Tape.tape c.args.disk.now) c.restore_levels.result c.restore_levels.ensures.stops;
  frame = usable_here (g.D.Tape.tape c.args.disk.now);
  alone = alone_here (g.D.Tape.tape c.args.disk.now);
}
