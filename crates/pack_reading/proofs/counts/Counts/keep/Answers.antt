use Rattle.std.proofs.Common.{sym, ◌∙◌, suc}
use Rattle.pack_reading.proofs.Tests.{page_kept_new}
use Rattle.pack_reading.proofs.counts.Counts.keep.Goals as goal

pub returns : goal.returns
returns c = λ f n. page_kept_new c.args.self.now.kept c.insert.new.self c.args.page c.args.bytes (sym c.contains_key.ensures ∙ c.if-contains_key.false) c.in_ok-insert.ensures.updates.0 f (suc n)
