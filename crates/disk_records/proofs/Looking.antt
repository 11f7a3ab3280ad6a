-- Calls that only look at a disk, one after another.
use Rattle.std.proofs.Common.{◌≡◌, ℕ, ◌+◌, ◌≤◌, Bool, IsTrue, ap, arith}
use Rattle.disk_records.specs.Addresses.{pages_of}
use Rattle.disk_records.specs.Tapes.{Taped, Looks, pack}
use Rattle.disk_records.proofs.Growing.{alone_here, alone_twice, nothing_added, pack-silent, silent_twice}

-- nothing was done
pub looks_none : {told : Bool} (most : ℕ) (t : Taped) → Looks told most t t
looks_none most t = record { alone = alone_here t; silent = λ h. nothing_added t.events; runs = λ h. omega arith }

-- two calls take at most so many sector commands together
pub looks_twice : {told : Bool} {first next : ℕ} {x y z : Taped} (most : ℕ) → Looks told first x y → Looks told next y z → first + next ≤ most → Looks told most x z
looks_twice {told} {first} {next} {x} {y} {z} most a b few =
    record {
      alone = alone_twice a.alone b.alone;
      silent = λ h. silent_twice a.alone.grown b.alone.grown (a.silent h) (b.silent h);
      runs = λ h. omega (arith, a.runs h, b.runs h, few);
    }

-- one look more
pub looks_more : {told : Bool} {count : ℕ} {x y z : Taped} → Looks told count x y → Looks told 1 y z → Looks told (count + 1) x z
looks_more {count = count} a b = looks_twice (count + 1) a b (omega arith)

-- a weaker bound
pub looks_within : {told : Bool} {few : ℕ} {x y : Taped} (most : ℕ) → Looks told few x y → few ≤ most → Looks told most x y
looks_within most a few = record { alone = a.alone; silent = a.silent; runs = λ h. omega (arith, a.runs h, few) }

-- the pack stays, and so does the number of sectors
pub looks_pack : {told : Bool} {most : ℕ} {x y : Taped} → Looks told most x y → IsTrue told → pack y ≡ pack x
looks_pack a h = pack-silent a.alone.grown (a.silent h)

pub looks_pages : {told : Bool} {most : ℕ} {x y : Taped} → Looks told most x y → pages_of y.form ≡ pages_of x.form
looks_pages a = ap pages_of a.alone.grown.form
