-- Shapes.
use Rattle.std.proofs.Common.{◌≡◌, ◌≤◌, ◌*◌}
use Rattle.std.proofs.Math.Bridge.{le_prop}
use mathlib.Core.HLevel.{is_prop→PathP}
use Rattle.disk_records.specs.declared.shape.Shape.{Shape}

-- shapes of as many disks and cylinders are the same
pub shape_same : (a b : Shape) → a.disks ≡ b.disks → a.cylinders ≡ b.cylinders → a ≡ b
shape_same a b disks same = λ i. record {
  disks = disks i;
  cylinders = same i;
  some_disk = is_prop→PathP (λ j. 1 ≤ disks j) (λ j. le_prop) a.some_disk b.some_disk i;
  two_disks = is_prop→PathP (λ j. disks j ≤ 2) (λ j. le_prop) a.two_disks b.two_disks i;
  least = is_prop→PathP (λ j. 2 ≤ same j) (λ j. le_prop) a.least b.least i;
  most = is_prop→PathP (λ j. same j ≤ 406) (λ j. le_prop) a.most b.most i;
  least_pages = is_prop→PathP (λ j. 48 ≤ disks j * same j * 24) (λ j. le_prop) a.least_pages b.least_pages i;
  most_pages = is_prop→PathP (λ j. disks j * same j * 24 ≤ 19488) (λ j. le_prop) a.most_pages b.most_pages i;
}
