use Rattle.std.proofs.Common.{sym, ◌∙◌}
use Rattle.pack_reading.proofs.Tests.{fid_kept}
use Rattle.pack_reading.proofs.swept.Leaders.keep.Goals as goal

pub returns : goal.returns
returns c = fid_kept c.args.self.now.kept c.insert.new.self c.args.fid c.args.leader (sym c.contains_key.ensures ∙ c.if-contains_key.false) c.in_ok-insert.ensures.updates.0
