use Rattle.std.proofs.Common.{◌≡◌, ◌∙◌, List, ℕ, [], ◌∷◌, ◌++◌, false, refl, sym, ap, subst}
use Rattle.dir_slots.specs.Walks.{Walked}
use Rattle.dir_slots.proofs.Hands.{hand_of}
use Rattle.dir_slots.proofs.Stepping.{long_now, front_read, step_goes, step_ends, step_meets}
use Rattle.dir_slots.proofs.walk.Walk.step.Goals as goal

pub returns-then-self-clause-meets : goal.returns-then-self-clause-meets
returns-then-self-clause-meets c = λ given walked.
    let was = subst (Walked given) (sym c.self.view_is) walked in
    let going : c.self.inside.ended ≡ false = ap (λ k. k.ended) c.self.view_is ∙ c.requires.going in
    step_goes given c.args.word c.self.inside.place c.self.inside.held c.self.inside.front c.hold.new.front c.self.inside.ended was going c.hold.ensures c.if-self.true

pub returns-in_default-clause-meets : goal.returns-in_default-clause-meets
returns-in_default-clause-meets c = λ given walked.
    let was = subst (Walked given) (sym c.self.view_is) walked in
    let going : c.self.inside.ended ≡ false = ap (λ k. k.ended) c.self.view_is ∙ c.requires.going in
    let long = long_now given c.args.word c.self.inside.place c.self.inside.held c.self.inside.front c.hold.new.front c.self.inside.ended was going c.hold.ensures in
    let front = front_read given c.args.word c.self.inside.place c.self.inside.held c.self.inside.front c.hold.new.front c.self.inside.ended was going c.hold.ensures c.min.result c.min.ensures in
    let none = c.in_default.ensures.item (hand_of given ++ c.args.word ∷ []) (sym long) front in
    step_ends given c.args.word c.self.inside.place c.self.inside.held c.self.inside.front c.hold.new.front c.self.inside.ended was going c.hold.ensures c.if-self.false none

pub returns-clause-meets : goal.returns-clause-meets
returns-clause-meets c = λ given walked.
    let was = subst (Walked given) (sym c.self.view_is) walked in
    let going : c.self.inside.ended ≡ false = ap (λ k. k.ended) c.self.view_is ∙ c.requires.going in
    let hand : List ℕ = hand_of given ++ c.args.word ∷ [] in
    let long = long_now given c.args.word c.self.inside.place c.self.inside.held c.self.inside.front c.hold.new.front c.self.inside.ended was going c.hold.ensures in
    let front = front_read given c.args.word c.self.inside.place c.self.inside.held c.self.inside.front c.hold.new.front c.self.inside.ended was going c.hold.ensures c.min.result c.min.ensures in
    let some = c.in-Some.ensures.item hand (sym long) front in
    let address = c.in-Some.ensures.address hand (sym long) front in
    step_meets given c.args.word c.self.inside.place c.self.inside.held c.self.inside.front c.hold.new.front c.self.inside.ended was going c.hold.ensures (record { place = c.self.inside.place; slot = c.in-Some.slot }) refl some address
