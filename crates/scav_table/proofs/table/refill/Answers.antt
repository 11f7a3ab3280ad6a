use Rattle.std.proofs.Common.{◌≡◌, replicate, OnErr, subst, ◌∙◌}
use Rattle.scav_table.specs.Rows.{no_row}
use Rattle.scav_table.proofs.Given.{window_of, none_of, filled_of}
use Rattle.scav_table.proofs.table.refill.Goals as goal

pub returns-clause-window : goal.returns-clause-window
returns-clause-window g c = window_of g.D.Tape.told (g.D.Tape.tape c.args.disk.now) c.args.above 1024 c.fill_items.new.items c.fill_items.result (c.fill_items.ensures.size ∙ c.requires) c.fill_items.ensures.filled (subst (λ n. OnErr c.fill_items.result (c.fill_items.new.items ≡ replicate n no_row)) c.requires c.fill_items.ensures.empty)

pub returns-clause-filled : goal.returns-clause-filled
returns-clause-filled g c = filled_of g.D.Tape.told (g.D.Tape.tape c.args.disk.now) c.args.above c.fill_items.new.items c.fill_items.result (c.fill_items.ensures.size ∙ c.requires) c.fill_items.ensures.filled

pub returns-clause-empty : goal.returns-clause-empty
returns-clause-empty g c = none_of 1024 c.fill_items.new.items c.fill_items.result (subst (λ n. OnErr c.fill_items.result (c.fill_items.new.items ≡ replicate n no_row)) c.requires c.fill_items.ensures.empty)
