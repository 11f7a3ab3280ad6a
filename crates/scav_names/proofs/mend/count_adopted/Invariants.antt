use Rattle.std.proofs.Common.{◌≡◌, ◌+◌, ◌^◌, ◌<◌, drop, length}
use Rattle.scav_names.specs.Lacking.{adopted_among}
use Rattle.scav_names.proofs.mend.count_adopted.Given as goal

abbrev pub invariant-loop-file : goal.invariant-loop-file
invariant-loop-file l = record {
  so_far : length l.files < 2 ^ 32 → l.adopted + adopted_among (drop l.file-index l.files) ≡ adopted_among l.files;
}
