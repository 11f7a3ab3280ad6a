-- Calls that write nothing, one after another.
use Rattle.std.proofs.Common.{◌≡◌, ℕ, ◌+◌, ◌-◌, ◌<◌, ◌≤◌, Bool, true, false, cond, List, length, sym, ◌∙◌, ap, arith}
use Rattle.disk_records.specs.Addresses.{pages_of}
use Rattle.disk_records.specs.Tapes.{Looks, Taped}
use Rattle.disk_records.proofs.Looking.{looks_twice, looks_within, looks_pages}
use Rattle.hint_cache.specs.Bits.{busy_at}
use Rattle.page_alloc.specs.Free.{below, is_offered, offered_sectors}
use Rattle.page_alloc.specs.Inside.{is_left}
use Rattle.page_alloc.proofs.FreeLists.{length-below-le, length-below-more, offer_here, offered_or_left, offers_passed_over}

-- ---- looks at those addresses that pass a test
pub looks_step : {told : Bool} {x y z : Taped} (test : ℕ → Bool) (at most : ℕ) → most ≡ cond (test at) 1 0 → Looks told (length (below test at)) x y → Looks told most y z → Looks told (length (below test (at + 1))) x z
looks_step test at most is a b = let more = length-below-more test at in looks_twice (length (below test (at + 1))) a b (omega (arith, more, is))

-- the next offer, after sectors that aren't offered
pub looks_next : {told : Bool} {x y z : Taped} (bits : List Bool) (from at : ℕ) → 1 ≤ at → from ≤ at → ((k : ℕ) → from ≤ k → k < at → busy_at bits k ≡ true) → busy_at bits at ≡ false → Looks told (length (below (is_offered bits) from)) x y → Looks told 1 y z → Looks told (length (below (is_offered bits) (at + 1))) x z
looks_next bits from at first low busy free a b =
    let more = length-below-more (is_offered bits) at in
    let same = ap length (offers_passed_over bits from at low busy) in
    let here = ap (λ busy. cond {A = ℕ} busy 0 1) (sym free) ∙ offer_here bits at first in
    looks_twice (length (below (is_offered bits) (at + 1))) a b (omega (arith, more, same, here))

pub looks_below : {told : Bool} {x y : Taped} (test : ℕ → Bool) (at end : ℕ) → at ≤ end → Looks told (length (below test at)) x y → Looks told (length (below test end)) x y
looks_below test at end h a = looks_within (length (below test end)) a (length-below-le test at end h)

-- the offers, and then the sectors that are left
pub looks_both : {told : Bool} {x y z : Taped} (bits offers : List Bool) → offers ≡ bits → length bits ≡ pages_of x.form → Looks told (length (offered_sectors bits)) x y → Looks told (length (below (is_left offers) (pages_of y.form))) y z → Looks told (pages_of x.form - 1) x z
looks_both {told} {x} {y} {z} bits offers same sized a b =
    let pages = looks_pages a in
    let left = ap (λ (n : ℕ). length (below (is_left offers) n)) (pages ∙ sym sized) ∙ ap (λ l. length (below (is_left l) (length bits))) same in
    let all = offered_or_left bits (length bits) in
    looks_twice (pages_of x.form - 1) a b (omega (arith, left, all, sized))

pub looks_offered : {told : Bool} {x y : Taped} (bits : List Bool) → length bits ≡ pages_of x.form → Looks told (length (offered_sectors bits)) x y → Looks told (pages_of x.form - 1) x y
looks_offered {told} {x} {y} bits sized a = let all = offered_or_left bits (length bits) in looks_within (pages_of x.form - 1) a (omega (arith, all, sized))
