-- Real addresses.
use Rattle.std.proofs.Common.{◌≡◌, ◌≢◌, ℕ, ◌+◌, ◌*◌, ◌/◌, ◌%◌, ◌<◌, ◌≤◌, ap, ◌∙◌, arith}
use Rattle.std.proofs.Math.Nat.{mod-lt, div-add-mod, div-lt_iff_lt-mul, mul-le-mul_right}
use Rattle.std.proofs.lemmas.Nat.{div-mul-add, mod-mul-add}
use Rattle.disk_records.specs.declared.shape.Shape.{Shape}
use Rattle.disk_records.specs.Addresses.{pages_of, real_of}

-- so many disks of so many cylinders have 48 to 19,488 sectors
pub pages_few : (disks cylinders : ℕ) → disks ≤ 2 → cylinders ≤ 406 → disks * cylinders * 24 ≤ 19488
pages_few disks cylinders two most = let one : disks * cylinders ≤ 2 * cylinders = mul-le-mul_right cylinders two in omega (arith, one, most)

pub pages_some : (disks cylinders : ℕ) → 1 ≤ disks → 2 ≤ cylinders → 48 ≤ disks * cylinders * 24
pages_some disks cylinders some least = let one : 1 * cylinders ≤ disks * cylinders = mul-le-mul_right cylinders some in omega (arith, one, least)

-- the cylinder on its disk, and the disk, of a sector
pub record Arm (shape : Shape) (at : ℕ) : Type 0 where
  pub cylinder : at / 24 % shape.cylinders < shape.cylinders
  pub disk : at / 24 / shape.cylinders < shape.disks
  pub both : shape.cylinders * (at / 24 / shape.cylinders) + at / 24 % shape.cylinders ≡ at / 24
  pub few : shape.cylinders ≤ 406
  pub two : shape.disks ≤ 2

pub arm_of : (shape : Shape) (at : ℕ) → at < pages_of shape → Arm shape at
arm_of shape at within =
    let least = shape.least in
    let low : at / 24 < shape.disks * shape.cylinders = omega arith in
    record {
      cylinder = mod-lt (at / 24) (omega arith);
      disk = (div-lt_iff_lt-mul {k = shape.cylinders} {x = at / 24} {y = shape.disks} (omega arith)).1 low;
      both = div-add-mod (at / 24) shape.cylinders;
      few = shape.most;
      two = shape.two_disks;
    }

-- the sector, the cylinder, the head and the disk of a real address
pub record Parts (shape : Shape) (at real : ℕ) : Type 0 where
  pub sector : real / 4096 ≡ at % 12
  pub cylinder : real / 8 % 512 ≡ at / 24 % shape.cylinders
  pub head : real / 4 % 2 ≡ at / 12 % 2
  pub disk : real / 2 % 2 ≡ at / 24 / shape.cylinders
  pub rest : real % 2 ≡ 0

pub parts_of : (shape : Shape) (at real : ℕ) → at < pages_of shape → real_of shape at ≡ real → Parts shape at real
unfolding real_of
parts_of shape at real within is =
    let arm = arm_of shape at within in
    let c = arm.cylinder in
    let d = arm.disk in
    let few = arm.few in
    let two = arm.two in
    record {
      sector = omega (arith, is, c, d, few, two);
      cylinder = omega (arith, is, c, d, few, two);
      head = omega (arith, is, c, d, few, two);
      disk = omega (arith, is, c, d, few, two);
      rest = omega (arith, is);
    }

-- a real address is a word
pub real_of-most : (shape : Shape) (at : ℕ) → at < pages_of shape → real_of shape at < 65535
unfolding real_of
real_of-most shape at within = let arm = arm_of shape at within in omega (arith, arm.cylinder, arm.disk, arm.few, arm.two)

-- from sector 1 on a real address isn't 0
pub real_of-above : (shape : Shape) (at : ℕ) → 1 ≤ at → at < pages_of shape → real_of shape at ≢ 0
real_of-above shape at first within = λ is.
    let arm = arm_of shape at within in
    let parts = parts_of shape at 0 within is in
    let none : shape.cylinders * (at / 24 / shape.cylinders) ≡ 0 = mul_none shape.cylinders (at / 24 / shape.cylinders) (omega (arith, parts.disk)) in
    omega (arith, first, none, arm.both, parts.sector, parts.cylinder, parts.head)
  where
    mul_none : (c d : ℕ) → d ≡ 0 → c * d ≡ 0
    mul_none c d z = rw z (omega arith)

-- ---- the sector with a real address
-- the address that its parts give
abbrev pub at_of : Shape → ℕ → ℕ
at_of shape real = (real / 2 % 2 * shape.cylinders + real / 8 % 512) * 24 + real / 4 % 2 * 12 + real / 4096

-- it is a sector's, where each part is in range
pub at_of-within : (shape : Shape) (real : ℕ) → real / 4096 < 12 → real / 8 % 512 < shape.cylinders → real / 2 % 2 < shape.disks → at_of shape real < pages_of shape
at_of-within shape real sector cylinder disk =
    let next : real / 2 % 2 + 1 ≤ shape.disks = omega (arith, disk) in
    let row : (real / 2 % 2 + 1) * shape.cylinders ≤ shape.disks * shape.cylinders = mul-le-mul_right shape.cylinders next in
    omega (arith, row, sector, cylinder)

-- and its real address is this one
pub at_of-real : (shape : Shape) (real : ℕ) → real / 4096 < 12 → real / 8 % 512 < shape.cylinders → real % 2 ≡ 0 → real_of shape (at_of shape real) ≡ real
unfolding real_of
at_of-real shape real sector cylinder rest =
    let c = shape.cylinders in
    let q : at_of shape real / 24 ≡ real / 2 % 2 * c + real / 8 % 512 = omega (arith, sector) in
    let low : at_of shape real % 12 ≡ real / 4096 = omega (arith, sector) in
    let head : at_of shape real / 12 % 2 ≡ real / 4 % 2 = omega (arith, sector) in
    let on : at_of shape real / 24 % c ≡ real / 8 % 512 = ap (λ n. n % c) q ∙ mod-mul-add (real / 2 % 2) c (real / 8 % 512) cylinder in
    let disk : at_of shape real / 24 / c ≡ real / 2 % 2 = ap (λ n. n / c) q ∙ div-mul-add (real / 2 % 2) c (real / 8 % 512) cylinder in
    (λ i. low i * 4096 + on i * 8 + head i * 4 + disk i * 2) ∙ omega (arith, rest)

-- no other sector has it
pub at_of-back : (shape : Shape) (at real : ℕ) → at < pages_of shape → real_of shape at ≡ real → at_of shape real ≡ at
at_of-back shape at real within is =
    let parts = parts_of shape at real within is in
    let c = shape.cylinders in
    let arm = arm_of shape at within in
    let up : real / 2 % 2 * c ≡ c * (at / 24 / c) = ap (λ n. n * c) parts.disk ∙ omega arith in
    omega (arith, up, parts.cylinder, parts.head, parts.sector, arm.both)
