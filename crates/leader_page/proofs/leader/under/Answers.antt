use Rattle.std.proofs.Common.{◌∙◌, arith}
use Rattle.leader_page.proofs.Decoding.{under_name, hints_whole}
use Rattle.leader_page.proofs.leader.under.Goals as goal

pub returns-clause-leader : goal.returns-clause-leader
returns-clause-leader c = under_name c.args.value.now (record { created = c.double.result; written = c.double-2.result; read = c.double-3.result; name = c.args.name; rest = c.copy_from_slice.new.self; hints = c.copy_from_slice-2.new.self }) c.double.ensures c.double-2.ensures c.double-3.ensures c.copy_from_slice.ensures.after

pub returns-clause-hints : goal.returns-clause-hints
returns-clause-hints c = c.copy_from_slice-2.ensures.after ∙ hints_whole c.args.value.now (omega arith)
