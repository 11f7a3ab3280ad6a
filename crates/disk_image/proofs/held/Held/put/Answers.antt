use Rattle.std.proofs.Common.{◌≡◌, ◌+◌, ◌*◌, ap, ◌∙◌, rules, arith}
use Rattle.std.proofs.lemmas.List.{with_items_is}
use Rattle.disk_image.specs.Holding.{held_at}
use Rattle.disk_image.specs.Images.{sector_bytes}
use Rattle.disk_image.proofs.Inverses.{length-sector_bytes}
use Rattle.disk_image.proofs.Holds.{puts_first, puts_more}
use Rattle.disk_image.proofs.held.Held.put.Goals as goal
use Rattle.disk_image.proofs.held.Held.put.Goals.{then-is_first, else-is_first, then-is_first-2, else-is_first-2+then-joins}

pub returns-clause-taken : goal.returns-clause-taken
returns-clause-taken c = λ taken k.
    let place : c.args.at ≡ c.if-is_first.number * 4096 + c.in-Some.ahead = omega (arith, c.in-Some.ensures) in
    let old = c.args.self.now in
    let long = length-sector_bytes c.args.sector.now c.write_sector.ensures.whole in
    elim c.if-is_first-2.branch [
      | then-is_first-2 w ↦ puts_first old.buffer.items (sector_bytes c.args.sector.now) _ c.write_sector.new.bytes _ 532 (c.if-is_first.number * 4096) c.in-Some.ahead c.args.at _ _ k (held_at old k) long (omega arith) (c.deref_mut.ensures.value ∙ ap (λ s. s.1.0.items) w.self-is) c.write_sector.ensures.bytes (with_items_is c.if-is_first-2.self.1.0 _ (search rules)) (ap (λ s. s.1.1.1.0) w.self-is) (ap (λ s. s.1.1.1.1.0) w.self-is) place (c.is_empty-is_first.ensures.none w.if-is_first-2.true k)
      | else-is_first-2+then-joins w ↦
          let joins = w.joins.ensures.joins w.if-joins.true in
          elim c.if-is_first.branch [
            | then-is_first v ↦ cc
            | else-is_first v ↦ rw v.number-is (puts_more old.buffer.items (sector_bytes c.args.sector.now) _ c.write_sector.new.bytes _ 532 (old.number * 4096) c.in-Some.ahead c.args.at old.from old.end _ _ k long (omega arith) (omega arith) (c.deref_mut.ensures.value ∙ ap (λ s. s.1.0.items) w.self-is) c.write_sector.ensures.bytes (with_items_is c.if-is_first-2.self.1.0 _ (search rules)) (ap (λ s. s.1.1.1.0) w.self-is ∙ w.min-self.ensures) (ap (λ s. s.1.1.1.1.0) w.self-is ∙ w.max-self.ensures) (omega arith) joins.0 joins.1)
          ]
    ]

pub returns-clause-later : goal.returns-clause-later
returns-clause-later c = λ taken.
    elim c.if-is_first-2.branch [
      | then-is_first-2 w ↦ grind (arith, c.is_empty-is_first.ensures.empty w.if-is_first-2.true)
      | else-is_first-2+then-joins w ↦ elim c.if-is_first.branch [
        | then-is_first v ↦ cc
        | else-is_first v ↦ grind arith
      ]
    ]

pub invariant_of-self-2-clause-in_file : goal.invariant_of-self-2-clause-in_file
invariant_of-self-2-clause-in_file c =
    elim c.if-is_first.branch [
      | then-is_first v ↦ omega arith
      | else-is_first v ↦ omega arith
    ]

pub invariant_of-self-2-clause-in_first_page : goal.invariant_of-self-2-clause-in_first_page
invariant_of-self-2-clause-in_first_page c =
    elim c.if-is_first-2.branch [
      | then-is_first-2 w ↦ elim c.if-is_first.branch [
        | then-is_first v ↦ grind arith
        | else-is_first v ↦ cc
      ]
      | else-is_first-2+then-joins w ↦ grind arith
    ]
