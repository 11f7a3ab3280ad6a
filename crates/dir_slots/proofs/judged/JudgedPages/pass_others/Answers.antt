use Rattle.std.proofs.Common.{◌++◌, ℕ, take, sym, subst}
use Rattle.dir_slots.specs.Others.{Passes}
use Rattle.dir_slots.specs.Walks.{Walking}
use Rattle.dir_slots.proofs.PassedOver.{passes_both}
use Rattle.dir_slots.proofs.judged.JudgedPages.pass_others.Goals as goal

pub returns-clause-passes : goal.returns-clause-passes
returns-clause-passes c = λ given walked.
    let page = c.args.page.now in
    let from : ℕ = c.pass_hand.new.from in
    let end : ℕ = c.others_end-end.result in
    let between = c.if-not-is_between_slots.false in
    let hand = c.pass_hand.ensures.passes given walked in
    passes_both c.args.passing.now (given ++ take c.args.from.now page) (given ++ take from page) (given ++ take end page) c.pass_hand.new.self c.pass.new.self hand
    (subst (λ (walk : Walking). Passes c.args.passing.now (given ++ take from page) (given ++ take end page) walk) (sym c.pass.ensures)
    (c.others_end-end.ensures.passes given c.pass_hand.new.self (c.is_between_slots.ensures.none between) (c.is_between_slots.ensures.going between) hand.walked))

pub returns-in_default-clause-passes : goal.returns-in_default-clause-passes
returns-in_default-clause-passes c = λ given walked.
    let page = c.args.page.now in
    let from : ℕ = c.pass_hand.new.from in
    let end : ℕ = c.pass_others-in_default.new.from in
    let hand = c.pass_hand.ensures.passes given walked in
    passes_both c.args.passing.now (given ++ take c.args.from.now page) (given ++ take from page) (given ++ take end page) c.pass_hand.new.self c.pass_others-in_default.new.self hand
    (c.pass_others-in_default.ensures.passes given hand.walked)
