use Rattle.std.proofs.Common.{◌≡◌, ℕ, ◌+◌, ◌<◌, ◌≤◌, ◌++◌, ◌∷◌, [], true, not, cond, length, refl, sym, ◌∙◌, ap, subst, arith}
use Rattle.disk_records.specs.Addresses.{pages_of}
use Rattle.disk_records.specs.Tapes.{pack}
use Rattle.hint_cache.specs.Bits.{busy_at}
use Rattle.page_alloc.specs.Free.{is_offered, is_offered_free, IsRising}
use Rattle.page_alloc.proofs.Silent.{looks_next, looks_below}
use Rattle.page_alloc.proofs.FreeLists.{take-below, listed_short, length-more, most_one, rising_within, rising_listed, all_more, all_offers_of_true, all_found, free_passed_over}
use Rattle.page_alloc.proofs.Tables.{corrected_twice, corrected_here, checked_step, free_then, offer_then}
use Rattle.page_alloc.proofs.offers.gather_offered.Goals as goal

pub returns-in_default-clause-looks : goal.returns-in_default-clause-looks
returns-in_default-clause-looks g c = let inv = c.loop-alloc.invariant in looks_below (is_offered c.args.table.now) c.loop-alloc.from _ (omega (arith, inv.within, inv.sized)) inv.looks

pub returns-in_default-clause-found : goal.returns-in_default-clause-found
returns-in_default-clause-found g c = λ told.
    let first = g.D.Tape.tape c.args.disk.now in
    let inv = c.loop-alloc.invariant in
    all_found (pack first) c.args.table.now c.args.wanted c.loop-alloc.from (pages_of first.form) c.loop-alloc.offered.found.items (omega (arith, inv.within, inv.sized, c.requires.sized)) (λ k later before. sym (inv.rest k later) ∙ c.in_default.ensures.none k later (omega (arith, inv.sized, c.requires.sized))) inv.most (inv.found told)

pub returns-in_default-clause-soon : goal.returns-in_default-clause-soon
returns-in_default-clause-soon g c = λ told is_true.
    let first = g.D.Tape.tape c.args.disk.now in
    let inv = c.loop-alloc.invariant in
    let same = ap length (all_offers_of_true (pack first) c.args.table.now c.loop-alloc.from (omega (arith, inv.within, inv.sized, c.requires.sized)) is_true) in
    let long = ap length (inv.found told) in
    omega (arith, inv.looks.runs told, same, long)

pub returns-clause-looks : goal.returns-clause-looks
returns-clause-looks g c = let inv = c.loop-alloc.invariant in looks_below (is_offered c.args.table.now) c.loop-alloc.from _ (omega (arith, inv.within, inv.sized)) inv.looks

pub returns-clause-rising : goal.returns-clause-rising
returns-clause-rising g c = let inv = c.loop-alloc.invariant in rising_within c.loop-alloc.from _ c.loop-alloc.offered.found.items (omega (arith, inv.within, inv.sized, c.requires.sized)) inv.rising

pub returns-clause-found : goal.returns-clause-found
returns-clause-found g c = λ told.
    let first = g.D.Tape.tape c.args.disk.now in
    let inv = c.loop-alloc.invariant in
    let all = inv.found told in
    let long = ap length all in
    all ∙ sym (take-below (is_offered_free (pack first) c.args.table.now) c.args.wanted c.loop-alloc.from (pages_of first.form) (omega (arith, inv.within, inv.sized, c.requires.sized)) (omega (arith, long, inv.most)))

pub returns-clause-soon : goal.returns-clause-soon
returns-clause-soon g c = λ told is_true.
    let first = g.D.Tape.tape c.args.disk.now in
    let inv = c.loop-alloc.invariant in
    let same = ap length (all_offers_of_true (pack first) c.args.table.now c.loop-alloc.from (omega (arith, inv.within, inv.sized, c.requires.sized)) is_true) in
    let long = ap length (inv.found told) in
    omega (arith, inv.looks.runs told, same, long)

pub returns-in_err-free-clause-looks : goal.returns-in_err-free-clause-looks
returns-in_err-free-clause-looks g c =
    let inv = c.loop-alloc.invariant in
    let bits = c.args.table.now in
    let at = c.in-Some.at in
    let offer = c.in-Some.ensures.free in
    let more = looks_next bits c.loop-alloc.from at (omega (arith, inv.first, offer.0)) offer.0 (λ k later before. sym (inv.rest k later) ∙ c.in-Some.ensures.first k later before) (sym (inv.rest at offer.0) ∙ offer.2) inv.looks c.in_err-free.ensures.looks in
    looks_below (is_offered bits) (at + 1) _ (omega (arith, offer.1, inv.sized)) more

pub returns-in_err-settle-clause-looks : goal.returns-in_err-settle-clause-looks
returns-in_err-settle-clause-looks g c =
    let inv = c.loop-alloc.invariant in
    let bits = c.args.table.now in
    let at = c.in-Some.at in
    let offer = c.in-Some.ensures.free in
    let more = looks_next bits c.loop-alloc.from at (omega (arith, inv.first, offer.0)) offer.0 (λ k later before. sym (inv.rest k later) ∙ c.in-Some.ensures.first k later before) (sym (inv.rest at offer.0) ∙ offer.2) inv.looks c.in_ok-free.ensures.looks in
    looks_below (is_offered bits) (at + 1) _ (omega (arith, offer.1, inv.sized)) more

pub loop-alloc-preserved : goal.loop-alloc-preserved
loop-alloc-preserved g c =
    let first = g.D.Tape.tape c.args.disk.now in
    let inv = c.loop-alloc.invariant in
    let from = c.loop-alloc.from in
    let at = c.in-Some.at in
    let bits = c.args.table.now in
    let free = c.in_ok-free.free in
    let found = c.loop-alloc.offered.found.items in
    let offer = c.in-Some.ensures.free in
    let settled = c.in_ok-settle.ensures in
    let busy : (k : ℕ) → from ≤ k → k < at → busy_at bits k ≡ true = λ k later before. sym (inv.rest k later) ∙ c.in-Some.ensures.first k later before in
    let offered = sym (inv.rest at offer.0) ∙ offer.2 in
    let few : length found < c.args.wanted = omega arith in
    let is : c.settle.new.offered.found.items ≡ found ++ cond free (at ∷ []) [] = settled.found in
    let long : length c.settle.new.offered.found.items ≡ length found + cond free 1 0 = ap length is ∙ length-more found at free in
    let one = most_one free in
    record {
      looks = looks_next bits from at (omega (arith, inv.first, offer.0)) offer.0 busy offered inv.looks c.in_ok-free.ensures.looks;
      unfailed = c.in_ok-free.ensures.cause ∙ inv.unfailed;
      end = inv.end;
      sized = settled.sized ∙ inv.sized;
      offers = settled.offers ∙ inv.offers;
      first = omega arith;
      within = omega (arith, offer.1, settled.sized);
      rest = λ k later. settled.others k (omega (arith, later)) ∙ inv.rest k (omega (arith, later, offer.0));
      rising = subst (IsRising (at + 1)) (listed_short c.args.wanted at free found _ few refl ∙ sym is) (rising_listed c.args.wanted at free found (omega (arith, inv.first, offer.0)) (rising_within from at found offer.0 inv.rising));
      most = omega (arith, few, long, one);
      corrected = λ told. corrected_twice (pack first) bits c.loop-alloc.table c.settle.new.table (inv.corrected told) (corrected_here (pack first) c.loop-alloc.table c.settle.new.table at settled.others (settled.here ∙ ap not (free_then at free inv.looks told (c.in_ok-free.ensures.free told))));
      checked = λ told. checked_step (pack first) bits c.loop-alloc.table c.settle.new.table from at busy (inv.checked told) settled.others (settled.here ∙ ap not (free_then at free inv.looks told (c.in_ok-free.ensures.free told)));
      found = λ told. is ∙ all_more (is_offered_free (pack first) bits) at free found (inv.found told ∙ sym (free_passed_over (pack first) bits from at offer.0 busy)) (offer_then bits at free inv.looks told offered (c.in_ok-free.ensures.free told));
    }
