use Rattle.std.proofs.Common.{arith, ap, ◌∙◌}
use Rattle.disk_records.specs.Packs.{Pack, carried}
use Rattle.disk_records.proofs.Looking.{looks_pack}
use Rattle.page_seeking.proofs.Easing.{free_or, missed_or}
use Rattle.page_seeking.proofs.Erring.{if_found_map}
use Rattle.page_seeking.proofs.Seeking.{confirmed_before, sought_twice}
use Rattle.page_seeking.proofs.leader.try_leader_hints.Goals as goal

pub returns-in-None-clause-sought : goal.returns-in-None-clause-sought
returns-in-None-clause-sought g c = sought_twice c.try_hint.ensures.sought c.try_hint-in-None.ensures.sought

pub returns-in-None-clause-found : goal.returns-in-None-clause-found
returns-in-None-clause-found g c = let first = c.try_hint.ensures.sought in if_found_map c.try_hint-in-None.result c.try_hint-in-None.ensures.found (λ f x. confirmed_before first.looks first.refused x)

pub returns-in-None-clause-quick : goal.returns-in-None-clause-quick
returns-in-None-clause-quick g c at told carries leads =
    let row = c.row_address-row.ensures.right at leads.small leads.lies in
    let none = free_or c.row_address-row.result at row (c.try_hint.ensures.unlisted told) (λ is. rw c.in-None.is at (c.in_ok-found.ensures.here at told is carries)) in
    omega (arith, none, c.try_hint-in-None.ensures.sought.looks.runs told)

pub returns-in-None-clause-passed : goal.returns-in-None-clause-passed
returns-in-None-clause-passed g c at told carries leads =
    let row = c.row_address-row.ensures.right at leads.small leads.lies in
    let last = c.last_address-last.ensures.right at leads.ends in
    let none = free_or c.row_address-row.result at row (c.try_hint.ensures.unlisted told) (λ is. rw c.in-None.is at (c.in_ok-found.ensures.here at told is carries)) in
    let same = looks_pack c.try_hint.ensures.sought.looks told in
    missed_or c.try_hint-in-None.result c.last_address-last.result at last (λ is. omega (arith, none, c.try_hint-in-None.ensures.unlisted told is)) (λ is. c.try_hint-in-None.ensures.here at told is (ap (λ (p : Pack). carried p at) same ∙ carries))

pub returns-in-None-clause-in_a_row : goal.returns-in-None-clause-in_a_row
returns-in-None-clause-in_a_row g c at told carries leads set = absurd (rw c.in-None.is at (c.in_ok-found.ensures.here at told (c.row_address-row.ensures.set at leads.small leads.lies set) carries))
