use Rattle.std.proofs.Common.{ap, ◌∙◌, arith}
use Rattle.std.specs.Prelude.{length}
use Rattle.std.proofs.lemmas.List.FromFn.{length-map-range_with_len}
use Rattle.hint_cache.specs.Bits.{bit_in}
use Rattle.hint_cache.proofs.table.BitTable.from_words.Goals as goal

pub invariant_of-result : goal.invariant_of-result
invariant_of-result c = omega (arith, ap length c.in_ok-bits.ensures ∙ length-map-range_with_len (bit_in c.args.words.now) 0 c.args.pages)

pub returns-clause-sized : goal.returns-clause-sized
returns-clause-sized c = ap length c.in_ok-bits.ensures ∙ length-map-range_with_len (bit_in c.args.words.now) 0 c.args.pages
