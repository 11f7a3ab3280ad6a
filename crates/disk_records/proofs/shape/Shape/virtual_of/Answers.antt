use Rattle.std.proofs.Common.{ℕ, ap, Some, arith}
use Rattle.disk_records.proofs.Reals.{arm_of, parts_of, at_of-within, at_of-real, at_of-back}
use Rattle.disk_records.proofs.shape.Shape.virtual_of.Goals as goal
use Rattle.disk_records.proofs.shape.Shape.virtual_of.Goals.{else-sector-lt12-via-then-sector-lt12+then-cylinder-self+then-disk-self+else-real-eq0, else-sector-lt12-via-then-sector-lt12+then-cylinder-self+else-disk-self, else-sector-lt12-via-then-sector-lt12+else-cylinder-self, else-sector-lt12-via-else-sector-lt12}

pub returns-then-real-eq0-clause-some : goal.returns-then-real-eq0-clause-some
returns-then-real-eq0-clause-some c =
    let shape = c.args.self.now in
    let real = c.args.real in
    (at_of-within shape real (omega arith) (omega arith) (omega arith), at_of-real shape real (omega arith) (omega arith) (omega arith))

pub returns-then-real-eq0-clause-back : goal.returns-then-real-eq0-clause-back
returns-then-real-eq0-clause-back c = λ at within is. ap (λ (x : ℕ). Some x) (at_of-back c.args.self.now at c.args.real within is)

pub returns-else-sector-lt12-clause-none : goal.returns-else-sector-lt12-clause-none
returns-else-sector-lt12-clause-none c = λ at within is.
    let parts = parts_of c.args.self.now at c.args.real within is in
    let arm = arm_of c.args.self.now at within in
    elim c.else-sector-lt12.branch [
      | else-sector-lt12-via-then-sector-lt12+then-cylinder-self+then-disk-self+else-real-eq0 w ↦ w.if-real-eq0.false parts.rest
      | else-sector-lt12-via-then-sector-lt12+then-cylinder-self+else-disk-self w ↦ omega (arith, parts.disk, arm.disk, w.if-disk-self.false)
      | else-sector-lt12-via-then-sector-lt12+else-cylinder-self w ↦ omega (arith, parts.cylinder, arm.cylinder, w.if-cylinder-self.false)
      | else-sector-lt12-via-else-sector-lt12 w ↦ omega (arith, parts.sector, w.if-sector-lt12.false)
    ]

pub returns-else-sector-lt12-clause-back : goal.returns-else-sector-lt12-clause-back
returns-else-sector-lt12-clause-back c = λ at within is.
    let none = returns-else-sector-lt12-clause-none c at within is in
    absurd none
