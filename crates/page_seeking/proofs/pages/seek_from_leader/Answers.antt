use Rattle.std.proofs.Common.{arith, sym, subst, inr}
use Rattle.disk_records.specs.Packs.{Pack}
use Rattle.page_seeking.proofs.Erring.{if_ok_map, if_misled_map, if_beyond_map, on_ok}
use Rattle.disk_records.proofs.Looking.{looks_pack}
use Rattle.page_seeking.proofs.Easing.{eases_later, eases_leader, finds_eased, leads_to, row_set}
use Rattle.page_seeking.proofs.Seeking.{confirmed_before, end_before, known_later, known_of, misled_before, sought_more, sought_twice}
use Rattle.disk_records.specs.Tapes.{pack}
use Rattle.laws_lookup.specs.laws_record.proofs.Copying.{place_carried}
use Rattle.page_seeking.specs.Seeking.{Stands, page_number}
use Rattle.page_seeking.proofs.pages.seek_from_leader.Goals as goal

pub returns-in_err-found-clause-sought : goal.returns-in_err-found-clause-sought
returns-in_err-found-clause-sought g c = sought_more (omega arith) (sought_twice c.in_ok-leader.ensures.sought c.in_err-found.ensures.sought)

pub returns-in_err-below-in-None-clause-sought : goal.returns-in_err-below-in-None-clause-sought
returns-in_err-below-in-None-clause-sought g c = sought_more (omega arith) (sought_twice (sought_twice c.in_ok-leader.ensures.sought c.try_leader_hints.ensures.sought) c.nearest_below.ensures.sought)

pub returns-in-Some-clause-sought : goal.returns-in-Some-clause-sought
returns-in-Some-clause-sought g c = sought_more (omega arith) (sought_twice c.in_ok-leader.ensures.sought c.try_leader_hints.ensures.sought)

pub returns-in_ok-below-in-None-clause-sought : goal.returns-in_ok-below-in-None-clause-sought
returns-in_ok-below-in-None-clause-sought g c = sought_more (omega arith) (sought_twice (sought_twice (sought_twice c.in_ok-leader.ensures.sought c.try_leader_hints.ensures.sought) c.nearest_below.ensures.sought) c.climb.ensures.sought)

pub returns-in_ok-below-in-None-clause-found : goal.returns-in_ok-below-in-None-clause-found
returns-in_ok-below-in-None-clause-found g c =
    let first = sought_twice (sought_twice c.in_ok-leader.ensures.sought c.try_leader_hints.ensures.sought) c.nearest_below.ensures.sought in
    if_ok_map c.climb.result c.climb.ensures.found (λ f x. confirmed_before first.looks first.refused x)

pub returns-in_ok-below-in-None-clause-misled : goal.returns-in_ok-below-in-None-clause-misled
returns-in_ok-below-in-None-clause-misled g c = λ told stands.
    let leader = c.in_ok-leader.ensures in
    let hints = c.try_leader_hints.ensures in
    let below = c.in_ok-below-in-None.ensures in
    let first = sought_twice (sought_twice leader.sought hints.sought) below.sought in
    let known = known_later below.sought.looks (below.known told (known_later (sought_twice leader.sought hints.sought).looks (known_of leader.found))) in
    if_misled_map c.climb.result (c.climb.ensures.misled told known) (λ place at wanted found x. misled_before first.looks told x)

pub returns-in_ok-below-in-None-clause-ends : goal.returns-in_ok-below-in-None-clause-ends
returns-in_ok-below-in-None-clause-ends g c = λ told.
    let leader = c.in_ok-leader.ensures in
    let hints = c.try_leader_hints.ensures in
    let below = c.in_ok-below-in-None.ensures in
    let first = sought_twice (sought_twice leader.sought hints.sought) below.sought in
    let known = known_later below.sought.looks (below.known told (known_later (sought_twice leader.sought hints.sought).looks (known_of leader.found))) in
    if_beyond_map c.climb.result (c.climb.ensures.ends told known) (λ n x. end_before first.looks told x)

pub returns-in-Some-clause-found : goal.returns-in-Some-clause-found
returns-in-Some-clause-found g c =
    let first = c.in_ok-leader.ensures.sought in
    let found = rw c.in-Some.is at c.in_ok-found.ensures.found in
    confirmed_before first.looks first.refused found

pub returns-in-Some-clause-quick : goal.returns-in-Some-clause-quick
returns-in-Some-clause-quick g c at told eases =
    let low = eases_leader c.requires.first eases in
    let leader = c.locate_leader.ensures.quick low.0 told (finds_eased low.1) in
    let stands = subst (λ (p : Pack). Stands p (page_number c.args.file.now.fid 0) c.in_ok-leader.leader.at c.locate_leader.new.buf) (sym (looks_pack c.locate_leader.ensures.sought.looks told)) (c.in_ok-leader.ensures.found.stands told) in
    let here = eases_later c.locate_leader.ensures.sought told eases in
    let hints = c.try_leader_hints.ensures.quick at told (place_carried (pack (g.D.Tape.tape c.locate_leader.new.disk)) (page_number c.args.file.now.fid c.args.number) at here.placed) (leads_to c.requires.first here stands) in
    let first = c.requires.first in
    omega (arith, leader, hints, first)

pub returns-in_ok-below-in-None-clause-quick : goal.returns-in_ok-below-in-None-clause-quick
returns-in_ok-below-in-None-clause-quick g c at told eases =
    let low = eases_leader c.requires.first eases in
    let leader = c.locate_leader.ensures.quick low.0 told (finds_eased low.1) in
    let stands = subst (λ (p : Pack). Stands p (page_number c.args.file.now.fid 0) c.in_ok-leader.leader.at c.locate_leader.new.buf) (sym (looks_pack c.locate_leader.ensures.sought.looks told)) (c.in_ok-leader.ensures.found.stands told) in
    let here = eases_later c.locate_leader.ensures.sought told eases in
    let hints = rw c.in-None.is at (c.in_ok-found.ensures.passed at told (place_carried (pack (g.D.Tape.tape c.locate_leader.new.disk)) (page_number c.args.file.now.fid c.args.number) at here.placed) (leads_to c.requires.first here stands)) in
    let below = c.in_ok-below-in-None.ensures.quick at told (eases_later c.try_leader_hints.ensures.sought told here) in
    let climbed = c.climb.ensures.sought.looks.runs told in
    let first = c.requires.first in
    on_ok c.climb.result (omega (arith, leader, hints, below, climbed, first))

pub returns-in_ok-below-in-None-clause-on_disk : goal.returns-in_ok-below-in-None-clause-on_disk
returns-in_ok-below-in-None-clause-on_disk g c = λ told stands. c.climb.ensures.on_disk

pub returns-in_ok-below-in-None-clause-hint : goal.returns-in_ok-below-in-None-clause-hint
returns-in_ok-below-in-None-clause-hint g c = if_misled_map c.climb.result c.climb.ensures.link (λ place at wanted found x. inr x)

pub returns-in-Some-clause-row : goal.returns-in-Some-clause-row
returns-in-Some-clause-row g c at told eases row =
    let low = eases_leader c.requires.first eases in
    let leader = c.locate_leader.ensures.quick low.0 told (finds_eased low.1) in
    let stands = subst (λ (p : Pack). Stands p (page_number c.args.file.now.fid 0) c.in_ok-leader.leader.at c.locate_leader.new.buf) (sym (looks_pack c.locate_leader.ensures.sought.looks told)) (c.in_ok-leader.ensures.found.stands told) in
    let here = eases_later c.locate_leader.ensures.sought told eases in
    let hints = c.try_leader_hints.ensures.quick at told (place_carried (pack (g.D.Tape.tape c.locate_leader.new.disk)) (page_number c.args.file.now.fid c.args.number) at here.placed) (leads_to c.requires.first here stands) in
    omega (arith, leader, hints)

pub returns-in_ok-below-in-None-clause-row : goal.returns-in_ok-below-in-None-clause-row
returns-in_ok-below-in-None-clause-row g c at told eases row =
    let found = c.in_ok-leader.ensures.found.stands told in
    let stands = subst (λ (p : Pack). Stands p (page_number c.args.file.now.fid 0) c.in_ok-leader.leader.at c.locate_leader.new.buf) (sym (looks_pack c.locate_leader.ensures.sought.looks told)) found in
    let here = eases_later c.locate_leader.ensures.sought told eases in
    absurd (rw c.in-None.is at (c.in_ok-found.ensures.in_a_row at told (place_carried (pack (g.D.Tape.tape c.locate_leader.new.disk)) (page_number c.args.file.now.fid c.args.number) at here.placed) (leads_to c.requires.first here stands) (row_set eases.whole found row)))
