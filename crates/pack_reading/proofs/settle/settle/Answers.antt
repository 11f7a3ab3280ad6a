use Rattle.std.proofs.Common.{map, take, refl, subst}
use Rattle.std.specs.FinMap.{FinMap}
use Rattle.alto_words.specs.Fid.{fid_cmp}
use Rattle.pack_model.specs.showing.View.{Home}
use Rattle.pack_model.specs.showing.Settling.{settled}
use Rattle.kept_names.specs.Homes.{StandsFor}
use Rattle.kept_names.specs.Passed.{IsPassed}
use Rattle.pack_reading.specs.Shows.{seen_file}
use Rattle.pack_reading.proofs.Settling.{settled_more}
use Rattle.pack_reading.proofs.settle.settle.Goals as goal

pub loop-file-init : goal.loop-file-init
loop-file-init c = record {
  names = λ homes stands. stands;
  passed = λ homes stands. c.new-passed.ensures homes;
}

pub loop-file-preserved : goal.loop-file-preserved
loop-file-preserved c =
    let so_far = λ (homes : FinMap fid_cmp Home). settled homes (map seen_file (take c.loop-file.file-index c.args.files.now)) in
    let more = λ (homes : FinMap fid_cmp Home). settled_more homes c.args.files.now c.loop-file.file-index c.file-item.result c.loop-file-test.true c.file-item.is in
    let seen = (seen_file c.file-item.result).1 in
    record {
      names = λ homes stands. subst (StandsFor c.adopt.new.names) (more homes) (c.in_ok-adopt.ensures.names (so_far homes) seen refl (c.loop-file.invariant.names homes stands) (c.loop-file.invariant.passed homes stands));
      passed = λ homes stands.
          subst (λ h. IsPassed h c.adopt.new.passed) (more homes)
          (c.in_ok-adopt.ensures.passed (so_far homes) seen refl (c.loop-file.invariant.names homes stands) (c.loop-file.invariant.passed homes stands));
    }
