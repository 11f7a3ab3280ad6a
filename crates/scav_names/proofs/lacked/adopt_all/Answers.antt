use Rattle.scav_names.proofs.Adopting.{adopting_all, adopting_more, adopting_none}
use Rattle.scav_names.proofs.lacked.adopt_all.Goals as goal

pub loop-file-init : goal.loop-file-init
loop-file-init c = λ homes stands. adopting_none c.args.files.now.items c.args.names.now c.new-passed.result c.args.living.now homes stands (c.new-passed.ensures homes)

pub loop-file-preserved : goal.loop-file-preserved
loop-file-preserved c = λ homes stands.
    let a = c.loop-file.invariant homes stands in
    adopting_more _ _ _ _ _ _ c.args.living.now c.loop-file.file-index c.file-item.result _ a c.loop-file-test.true c.file-item.is (c.in_ok-adopt_file.ensures.files a.homes a.knows) (c.in_ok-adopt_file.ensures.names a.homes a.knows)

pub returns : goal.returns
returns c = λ homes stands. adopting_all _ _ _ c.args.living.now c.loop-file.file-index _ c.loop-file-test.false (c.loop-file.invariant homes stands)
