use Rattle.std.proofs.Common.{arith, inl, ◌∙◌}
use Rattle.page_seeking.proofs.Lasting.{known_full}
use Rattle.page_seeking.proofs.Seeking.{known_of, sought_more, sought_twice}
use Rattle.page_seeking.specs.Inside.Near.{after_full}
use Rattle.page_seeking.proofs.ends.near_end.Goals as goal

pub returns-in_err-higher-in-Some-clause-sought : goal.returns-in_err-higher-in-Some-clause-sought
returns-in_err-higher-in-Some-clause-sought g c = sought_more (omega arith) (sought_twice c.try_hint.ensures.sought c.try_higher.ensures.sought)

pub returns-in_err-higher-in-None-clause-sought : goal.returns-in_err-higher-in-None-clause-sought
returns-in_err-higher-in-None-clause-sought g c = sought_more (omega arith) (sought_twice c.try_hint.ensures.sought c.try_higher-in-None.ensures.sought)

pub returns-in-Some-2-clause-sought : goal.returns-in-Some-2-clause-sought
returns-in-Some-2-clause-sought g c = sought_more (omega arith) (sought_twice c.try_hint.ensures.sought c.try_higher.ensures.sought)

pub returns-in-None-2-clause-sought : goal.returns-in-None-2-clause-sought
returns-in-None-2-clause-sought g c = sought_more (omega arith) (sought_twice c.try_hint.ensures.sought c.try_higher.ensures.sought)

pub returns-in-Some-3-clause-sought : goal.returns-in-Some-3-clause-sought
returns-in-Some-3-clause-sought g c = sought_more (omega arith) (sought_twice c.try_hint.ensures.sought c.try_higher-in-None.ensures.sought)

pub returns-in-None-3-clause-sought : goal.returns-in-None-3-clause-sought
returns-in-None-3-clause-sought g c = sought_more (omega arith) (sought_twice (sought_twice c.try_hint.ensures.sought c.try_higher-in-None.ensures.sought) c.nearest_below.ensures.sought)

pub returns-in-Some-2-clause-named : goal.returns-in-Some-2-clause-named
returns-in-Some-2-clause-named g c n told names =
    let is = c.last_number-number.ensures ∙ names.number in
    let found = rw c.in-Some.is at c.in_ok-found.ensures.found in
    let full = known_full names.first is (c.goes_on.ensures.full c.if-not-goes_on.false) (known_of found) in
    let higher = rw c.in-Some-2.is at c.in_ok-higher-in-Some.ensures.higher in
    let one = c.try_hint.ensures.sought.looks.runs told in
    let two = c.try_higher.ensures.sought.looks.runs told in
    after_full c.in-Some.found full.0 full.1 (omega (arith, is, higher)) (omega (arith, one, two))

pub returns-in-None-2-clause-named : goal.returns-in-None-2-clause-named
returns-in-None-2-clause-named g c n told names =
    let is = c.last_number-number.ensures ∙ names.number in
    let found = rw c.in-Some.is at c.in_ok-found.ensures.found in
    let full = known_full names.first is (c.goes_on.ensures.full c.if-not-goes_on.false) (known_of found) in
    let one = c.try_hint.ensures.sought.looks.runs told in
    let two = c.try_higher.ensures.sought.looks.runs told in
    after_full c.in-Some.found full.0 full.1 (omega (arith, is)) (omega (arith, one, two))

pub returns-in-Some-2-clause-near : goal.returns-in-Some-2-clause-near
returns-in-Some-2-clause-near g c entry told highest first carries =
    let same = rw c.in-Some-2.is at (c.in_ok-higher-in-Some.ensures.is entry highest) in
    let one = c.try_hint.ensures.sought.looks.runs told in
    let two = c.try_higher.ensures.sought.looks.runs told in
    (inl (omega (arith, same)), omega (arith, one, two))

pub returns-in-Some-3-clause-near : goal.returns-in-Some-3-clause-near
returns-in-Some-3-clause-near g c entry told highest first carries =
    let same = rw c.in-Some-3.is at (c.in_ok-higher-in-None.ensures.is entry highest) in
    let one = c.try_hint.ensures.sought.looks.runs told in
    let two = c.try_higher-in-None.ensures.sought.looks.runs told in
    (inl (omega (arith, same)), omega (arith, one, two))
