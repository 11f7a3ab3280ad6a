use Rattle.std.proofs.Common.{ap, ◌∙◌}
use Rattle.disk_image.proofs.Holds.{takes_beside, takes_alone, takes_none}
use Rattle.disk_image.proofs.placed.Placed.put.Goals as goal
use Rattle.disk_image.proofs.placed.Placed.put.Goals.{then-not-put+in_ok-hand_on+then-not-put-2+in_ok-write_at_once, then-not-put+in_ok-hand_on+else-not-put-2, else-not-put}

pub returns-clause-ok : goal.returns-clause-ok
returns-clause-ok g c =
    let at = c.args.self.now.at in
    let sector = c.args.sector.now in
    let old = c.args.self.now.held in
    elim c.if-not-put.branch [
      | then-not-put+in_ok-hand_on+then-not-put-2+in_ok-write_at_once w ↦ takes_none at w.hand_on.new.self.at sector old w.hand_on.new.self.held c.if-not-put.self.held w.hand_on.ensures.place (ap (λ p. p.held) w.self-is ∙ w.write_at_once.ensures.same_held ∙ w.put-then-not-put.ensures.refused w.if-not-put-2.true) (c.put.ensures.why w.if-not-put.true) w.in_ok-hand_on.ensures.ok (w.put-then-not-put.ensures.why w.if-not-put-2.true)
      | then-not-put+in_ok-hand_on+else-not-put-2 w ↦ takes_alone at w.hand_on.new.self.at sector old w.hand_on.new.self.held w.put-then-not-put.new.self c.if-not-put.self.held w.hand_on.ensures.place (ap (λ p. p.held) w.self-is) (c.put.ensures.why w.if-not-put.true) w.in_ok-hand_on.ensures.ok (w.put-then-not-put.ensures.taken w.if-not-put-2.false)
      | else-not-put w ↦ takes_beside at sector old c.put.new.self c.if-not-put.self.held (ap (λ p. p.held) w.self-is) (c.put.ensures.later w.if-not-put.false) (c.put.ensures.taken w.if-not-put.false)
    ]
