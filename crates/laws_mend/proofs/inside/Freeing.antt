-- Sectors that become free one after another.
use Rattle.std.proofs.Common.{◌∙◌, arith}
use Rattle.laws_mend.specs.NumberLaws.{FreesJoin}

pub frees_join : FreesJoin
frees_join p q r m n a b = record {
  free = (let x = a.free in let y = b.free in omega arith);
  available_is = b.available_is ∙ a.available_is;
}
