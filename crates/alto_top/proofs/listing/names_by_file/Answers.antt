use Rattle.std.specs.BTreeMap.{get}
use Rattle.alto_words.specs.Fid.{fid_cmp}
use Rattle.alto_top.proofs.Looking.{looked}
use Rattle.alto_top.proofs.listing.names_by_file.Goals as goal

pub loop-named-preserved : goal.loop-named-preserved
loop-named-preserved c = looked (λ n. n.fid) (λ n. n.name) (get fid_cmp c.loop-named.map) (get fid_cmp c.keep.new.map) c.loop-named.named-index c.named-item.result c.args.names.now c.loop-named-test.true c.named-item.is c.in_ok-keep.ensures c.loop-named.invariant
