use Rattle.std.proofs.Common.{◌≡◌, [], ◌∷◌, ◌++◌, ◌∙◌, arith}
use Rattle.std.proofs.lemmas.Grind.{common_steps}
use Rattle.pack_reading.proofs.Measuring.{lengths_more}
use Rattle.pack_reading.proofs.lengths.lengths_of.Goals as goal

pub loop-file-preserved : goal.loop-file-preserved
loop-file-preserved c = λ ss counted.
    let pushed : c.push.new.self.items ≡ c.loop-file.lengths.items ++ c.length_of.result ∷ [] = grind (arith, common_steps) in
    pushed ∙ lengths_more ss c.args.files.now c.loop-file.file-index c.file-item.result c.loop-file.lengths.items c.length_of.result c.loop-file-test.true c.file-item.is (c.length_of.ensures ss counted) (c.loop-file.invariant ss counted)
