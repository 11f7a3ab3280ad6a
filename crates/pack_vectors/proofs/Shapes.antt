-- Shapes of one drive and of two: the small one, models 31 and 44.
use Rattle.std.proofs.Common.{ℕ, arith}
use Rattle.std.specs.Prelude.{◌≤◌}
use Rattle.pack_laws.specs.disk_records.specs.declared.shape.Shape.{Shape}

-- one drive of so many cylinders, and two of as many
abbrev pub one_of : (cylinders : ℕ) → 2 ≤ cylinders → cylinders ≤ 406 → Shape
one_of cylinders least most = record {
  disks = 1;
  cylinders = cylinders;
  some_disk = omega arith;
  two_disks = omega arith;
  least = least;
  most = most;
  least_pages = omega (arith, least);
  most_pages = omega (arith, most);
}

abbrev pub two_of : (cylinders : ℕ) → 2 ≤ cylinders → cylinders ≤ 406 → Shape
two_of cylinders least most = record {
  disks = 2;
  cylinders = cylinders;
  some_disk = omega arith;
  two_disks = omega arith;
  least = least;
  most = most;
  least_pages = omega (arith, least);
  most_pages = omega (arith, most);
}

-- 48 sectors
abbrev pub small : Shape
small = one_of 2 (omega arith) (omega arith)

abbrev pub model_31 : Shape
model_31 = one_of 203 (omega arith) (omega arith)

abbrev pub model_44 : Shape
model_44 = one_of 406 (omega arith) (omega arith)

-- two drives of these
abbrev pub two_31 : Shape
two_31 = two_of 203 (omega arith) (omega arith)

abbrev pub two_44 : Shape
two_44 = two_of 406 (omega arith) (omega arith)
