use Rattle.std.proofs.Common.{◌≡◌, Err, arith, sym, subst, refl, ◌∙◌, inl, inr}
use Rattle.page_seeking.specs.declared.links.Below.{Below}
use Rattle.page_seeking.specs.Seeking.{page_number}
use Rattle.page_seeking.specs.Inside.{Confirmed}
use Rattle.page_seeking.proofs.Ending.{same_or_less}
use Rattle.page_seeking.proofs.Erring.{if_misled_map}
use Rattle.page_seeking.proofs.Seeking.{confirmed_before, known_before, known_later, known_of, misled_before, sought_here, sought_more, sought_twice}
use Rattle.page_seeking.proofs.ends.climb_to_end.Goals as goal

pub loop-number-init : goal.loop-number-init
loop-number-init g c = record { unfailed = refl; sought = sought_more (omega arith) (sought_here (g.D.Tape.tape c.args.disk.now) c.args.cache.now); known = λ told k. k; start = λ is. (refl, (refl, refl)); found = λ less. absurd (omega arith) }

pub returns-in-Err-clause-sought : goal.returns-in-Err-clause-sought
returns-in-Err-clause-sought g c = sought_more (omega arith) (sought_twice c.loop-number.invariant.sought c.follow.ensures.sought)

pub returns-in-Err-clause-misled : goal.returns-in-Err-clause-misled
returns-in-Err-clause-misled g c told known =
    let inv = c.loop-number.invariant in
    let full = c.goes_on.ensures.full c.if-not-goes_on.false in
    if_misled_map {T = Below} (Err c.in-Err.error) (c.in-Err.ensures.misled told (known_later inv.sought.looks (inv.known told known)) full) (λ place at wanted found x. misled_before inv.sought.looks told x)

pub returns-then-not-goes_on-clause-ends : goal.returns-then-not-goes_on-clause-ends
returns-then-not-goes_on-clause-ends g c = let short = c.goes_on.ensures.short c.if-not-goes_on.true in record { first = short.0; ends = inl short.1 }

pub returns-then-not-goes_on-clause-found : goal.returns-then-not-goes_on-clause-found
returns-then-not-goes_on-clause-found g c =
    let inv = c.loop-number.invariant in
    elim (same_or_less c.args.below.number c.loop-number.number c.loop-number.auto.number) [
      | inl same ↦ let start = inv.start same in inl (record { answer = λ i. record { number = same i; found = start.0 i }; buffer_is = start.1.0; cache_is = start.1.1 })
      | inr more ↦ inr (inv.found more)
    ]

pub returns-clause-ends : goal.returns-clause-ends
returns-clause-ends g c = record { first = omega arith; ends = inr refl }

pub returns-clause-found : goal.returns-clause-found
returns-clause-found g c =
    let inv = c.loop-number.invariant in
    let end = c.loop-number.auto.number-end (omega arith) in
    let top : c.loop-number.number ≡ 65535 = omega (arith, end) in
    elim (same_or_less c.args.below.number c.loop-number.number c.loop-number.auto.number) [
      | inl same ↦ let start = inv.start same in inl (record { answer = λ i. record { number = (sym top ∙ same) i; found = start.0 i }; buffer_is = start.1.0; cache_is = start.1.1 })
      | inr more ↦ inr (subst (λ n. Confirmed g.D.Tape.told (page_number c.args.fid n) (g.D.Tape.tape c.args.disk.now) c.args.cache.now c.loop-number.cache c.loop-number.buf c.loop-number.here) top (inv.found more))
    ]

pub loop-number-preserved : goal.loop-number-preserved
loop-number-preserved g c =
    let inv = c.loop-number.invariant in
    let next = c.in-Ok.ensures in
    record {
      unfailed = c.in-Ok.ensures.cause ∙ c.loop-number.invariant.unfailed;
      sought = sought_more (omega arith) (sought_twice inv.sought c.follow.ensures.sought);
      known = λ told k. known_before inv.sought.looks (known_of next.found);
      start = λ is. absurd (omega (arith, is));
      found = λ less. confirmed_before inv.sought.looks inv.sought.refused next.found;
    }

pub returns-then-not-goes_on-clause-climbs : goal.returns-then-not-goes_on-clause-climbs
returns-then-not-goes_on-clause-climbs g c told =
    let runs = c.loop-number.invariant.sought.looks.runs told in
    let from = c.loop-number.auto.number in
    omega (arith, runs, from)

pub returns-clause-climbs : goal.returns-clause-climbs
returns-clause-climbs g c told =
    let runs = c.loop-number.invariant.sought.looks.runs told in
    let from = c.loop-number.auto.number in
    let end = c.loop-number.auto.number-end (omega arith) in
    omega (arith, runs, from, end)
