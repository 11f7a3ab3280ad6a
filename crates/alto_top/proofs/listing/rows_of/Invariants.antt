use Rattle.std.specs.Iterator.Adapters.{rev_source}
use Rattle.std.specs.Slice.Iter.{iter_rest}
use Rattle.std.specs.BTreeMap.{get}
use Rattle.alto_words.specs.Fid.{fid_cmp}
use Rattle.pack_model.specs.showing.View.{View}
use Rattle.alto_top.specs.Looking.{Knows}
use Rattle.alto_top.proofs.Rows.{Listing}
use Rattle.alto_top.proofs.listing.rows_of.Given as goal

abbrev pub invariant-loop-named : goal.invariant-loop-named
invariant-loop-named l = (v : View) → Knows (get fid_cmp l.by_file) l.files v → Listing v l.rows.keys (iter_rest (rev_source l.named-iterator)) l.names
