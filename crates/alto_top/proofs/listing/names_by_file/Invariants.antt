use Rattle.std.proofs.Common.{◌≡◌, take}
use Rattle.std.specs.BTreeMap.{get}
use Rattle.alto_words.specs.declared.fid.Fid.{Fid}
use Rattle.alto_words.specs.Fid.{fid_cmp}
use Rattle.alto_top.specs.Looking.{first_of}
use Rattle.alto_top.proofs.listing.names_by_file.Given as goal

abbrev pub invariant-loop-named : goal.invariant-loop-named
invariant-loop-named l = (f : Fid) → get fid_cmp l.map f ≡ first_of (λ n. n.fid) (λ n. n.name) (take l.named-index l.names) f
