use Rattle.std.proofs.Common.{◌≡◌, Err, arith, subst, refl, ◌∙◌}
use Rattle.page_seeking.specs.declared.seek.Found.{Found}
use Rattle.page_seeking.specs.Seeking.{page_number}
use Rattle.page_seeking.specs.Inside.{Confirmed}
use Rattle.page_seeking.proofs.Ending.{end_of}
use Rattle.page_seeking.proofs.Erring.{if_misled_map}
use Rattle.page_seeking.proofs.Seeking.{confirmed_before, known_before, known_later, known_of, misled_before, sought_here, sought_more, sought_twice}
use Rattle.page_seeking.proofs.links.climb.Goals as goal

pub loop-lower-init : goal.loop-lower-init
loop-lower-init g c = record { unfailed = refl; sought = sought_more (omega arith) (sought_here (g.D.Tape.tape c.args.disk.now) c.args.cache.now); known = λ k. k; found = λ less. absurd (omega arith) }

pub returns-then-not-goes_on-clause-sought : goal.returns-then-not-goes_on-clause-sought
returns-then-not-goes_on-clause-sought g c = sought_more (omega arith) c.loop-lower.invariant.sought

pub returns-then-not-goes_on-clause-ends : goal.returns-then-not-goes_on-clause-ends
returns-then-not-goes_on-clause-ends g c = λ told known.
    let short = c.goes_on.ensures.short c.if-not-goes_on.true in
    end_of (c.loop-lower.invariant.known known) told short.0 (omega arith) short.1 c.length_at.ensures

pub returns-then-not-goes_on-clause-never_beyond : goal.returns-then-not-goes_on-clause-never_beyond
returns-then-not-goes_on-clause-never_beyond g c few = let first = (c.goes_on.ensures.short c.if-not-goes_on.true).0 in absurd (omega (arith, few, first))

pub returns-in-Err-clause-sought : goal.returns-in-Err-clause-sought
returns-in-Err-clause-sought g c = sought_more (omega arith) (sought_twice c.loop-lower.invariant.sought c.follow.ensures.sought)

pub returns-in-Err-clause-misled : goal.returns-in-Err-clause-misled
returns-in-Err-clause-misled g c told known =
    let inv = c.loop-lower.invariant in
    let full = c.goes_on.ensures.full c.if-not-goes_on.false in
    if_misled_map {T = Found} (Err c.in-Err.error) (c.in-Err.ensures.misled told (known_later inv.sought.looks (inv.known known)) full) (λ place at wanted found x. misled_before inv.sought.looks told x)

pub loop-lower-preserved : goal.loop-lower-preserved
loop-lower-preserved g c =
    let inv = c.loop-lower.invariant in
    let next = c.in-Ok.ensures in
    record {
      unfailed = c.in-Ok.ensures.cause ∙ c.loop-lower.invariant.unfailed;
      sought = sought_more (omega arith) (sought_twice inv.sought c.follow.ensures.sought);
      known = λ k. known_before inv.sought.looks (known_of next.found);
      found = λ less. confirmed_before inv.sought.looks inv.sought.refused next.found;
    }

pub returns-clause-sought : goal.returns-clause-sought
returns-clause-sought g c = sought_more (omega arith) c.loop-lower.invariant.sought

pub returns-clause-found : goal.returns-clause-found
returns-clause-found g c =
    let end = c.loop-lower.auto.lower-end (omega arith) in
    let same : c.loop-lower.lower ≡ c.args.number = omega (arith, end) in
    let old = g.D.Tape.tape c.args.disk.now in
    subst (λ n. Confirmed g.D.Tape.told (page_number c.args.fid n) old c.args.cache.now c.loop-lower.cache c.loop-lower.buf c.loop-lower.here) same (c.loop-lower.invariant.found (omega arith))
