use Rattle.std.proofs.Common.{◌++◌, ◌-◌, ℕ, take, sym, subst, arith}
use Rattle.dir_slots.specs.Inside.{further}
use Rattle.dir_slots.specs.Walks.{Walked}
use Rattle.dir_slots.proofs.PassedOver.{passes_both}
use Rattle.dir_slots.proofs.Stepping.{walking}
use Rattle.dir_slots.proofs.walk.Walk.pass_others.Goals as goal

pub returns-clause-passes : goal.returns-clause-passes
returns-clause-passes c = λ given walked.
    let page = c.args.page.now in
    let from : ℕ = c.pass_hand.new.from in
    let at : ℕ = c.others_end-at.result in
    let hand = c.pass_hand.ensures.passes given walked in
    let now = walking c.self.inside.place c.self.inside.held c.self.inside.front c.self.inside.ended in
    passes_both c.args.passing.now (given ++ take c.args.from.now page) (given ++ take from page) (given ++ take at page) c.pass_hand.new.self (further now (at - from)) hand
    (c.others_end-at.ensures.passes given now (omega (arith, c.if-self-ne0.false)) c.if-self.false (subst (Walked (given ++ take from page)) (sym c.self.view_is) hand.walked))
