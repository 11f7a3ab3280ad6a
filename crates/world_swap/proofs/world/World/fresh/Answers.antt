use Rattle.std.proofs.Common.{arith, sym, ◌∙◌}
use Rattle.world_swap.proofs.FreshWords.{all_of_it, base_after_start, fresh_words}
use Rattle.world_swap.proofs.world.World.fresh.Goals as goal

pub put_gap-requires-clause-order : goal.put_gap-requires-clause-order
put_gap-requires-clause-order c = let after = base_after_start in let is = c.base_of.ensures in omega (arith, after, is)

pub returns-clause-memory : goal.returns-clause-memory
returns-clause-memory c = c.from_vec.ensures ∙ all_of_it _ _ _ c.in_ok-words.ensures.len (fresh_words _ _ _ _ c.from.ensures (c.from-2.ensures ∙ c.base_of.ensures) (c.deref_mut.ensures.value ∙ c.in_ok-words.ensures.items_if_clones_equal (λ y same. same)) c.put_gap.ensures)
