use Rattle.std.proofs.Common.{◌+◌, ◌∙◌, ap, arith}
use Rattle.zones.proofs.Returning.{gap_first, gap_past_top}
use Rattle.zones.proofs.giving.end_of_gap.Goals as goal

pub returns-then-top-at : goal.returns-then-top-at
returns-then-top-at c before rest zone place = let none = gap_past_top c.args.top c.args.memory.now c.args.at before rest c.requires.top c.requires.memory zone place c.if-top-at.true in omega (arith, none)

pub returns : goal.returns
returns c before rest zone place = ap (λ k. c.args.at + k) (c.from.ensures ∙ c.gap_size.ensures ∙ gap_first c.args.top c.args.memory.now c.args.at before rest c.requires.top c.requires.memory zone place c.if-top-at.false)
