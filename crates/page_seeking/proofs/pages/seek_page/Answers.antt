use Rattle.std.proofs.Common.{arith, sym, subst, inl}
use Rattle.disk_records.specs.Packs.{Pack}
use Rattle.page_seeking.specs.Refs.{FileIsFrom, FileIsRooted}
use Rattle.disk_records.specs.Tapes.{pack}
use Rattle.page_seeking.proofs.Erring.{if_ok_map, if_misled_map, if_beyond_map, on_ok, on_ok_map}
use Rattle.disk_records.proofs.Looking.{looks_pack}
use Rattle.page_seeking.proofs.Easing.{eases_later, finds_eased, passed_free}
use Rattle.page_seeking.proofs.Seeking.{confirmed_before, end_before, misled_before, sought_more, sought_twice}
use Rattle.page_seeking.specs.Inside.{Eases}
use Rattle.page_seeking.specs.Seeking.{IsInARow}
use Rattle.page_seeking.proofs.pages.seek_page.Goals as goal

pub returns-in-None-clause-sought : goal.returns-in-None-clause-sought
returns-in-None-clause-sought g c = sought_more (omega arith) (sought_twice c.try_cached.ensures.sought c.seek_from_leader.ensures.sought)

pub returns-in-None-clause-found : goal.returns-in-None-clause-found
returns-in-None-clause-found g c = let first = c.try_cached.ensures.sought in if_ok_map c.seek_from_leader.result c.seek_from_leader.ensures.found (λ f x. confirmed_before first.looks first.refused x)

pub returns-in-None-clause-misled : goal.returns-in-None-clause-misled
returns-in-None-clause-misled g c = λ told stands.
    let looks = c.try_cached.ensures.sought.looks in
    if_misled_map c.seek_from_leader.result (c.seek_from_leader.ensures.misled told (subst (λ (p : Pack). FileIsFrom p c.args.file.now) (sym (looks_pack looks told)) stands)) (λ place at wanted found x. misled_before looks told x)

pub returns-in-None-clause-ends : goal.returns-in-None-clause-ends
returns-in-None-clause-ends g c = λ told.
    let looks = c.try_cached.ensures.sought.looks in
    if_beyond_map c.seek_from_leader.result (c.seek_from_leader.ensures.ends told) (λ n x. end_before looks told x)

pub returns-in-None-clause-quick : goal.returns-in-None-clause-quick
returns-in-None-clause-quick g c at told eases =
    let here = rw c.in-None.is at c.in_ok-found.ensures.here in
    let none = passed_free (pack (g.D.Tape.tape c.args.disk.now)) c.args.file.now.fid c.args.number at c.args.cache.now (finds_eased eases) (c.try_cached.ensures.unlisted told) (λ i. here i told) in
    on_ok_map c.seek_from_leader.result (λ h. omega (arith, none, h)) (c.seek_from_leader.ensures.quick at told (eases_later c.try_cached.ensures.sought told eases))

pub returns-then-number-eq0-clause-quick : goal.returns-then-number-eq0-clause-quick
returns-then-number-eq0-clause-quick g c at told eases =
    let old = pack (g.D.Tape.tape c.args.disk.now) in
    let few = c.locate_leader.ensures.quick at told (finds_eased (subst (λ n. Eases old c.args.file.now.fid n at c.args.cache.now) c.if-number-eq0.true eases)) in
    on_ok c.locate_leader.result (omega (arith, few))

pub returns-then-number-eq0-clause-leader : goal.returns-then-number-eq0-clause-leader
returns-then-number-eq0-clause-leader g c at told zeroth finds = c.locate_leader.ensures.quick at told finds

pub returns-in-None-clause-on_disk : goal.returns-in-None-clause-on_disk
returns-in-None-clause-on_disk g c = λ told stands. c.seek_from_leader.ensures.on_disk told (subst (λ (p : Pack). FileIsRooted p c.args.file.now) (sym (looks_pack c.try_cached.ensures.sought.looks told)) stands)

pub returns-then-number-eq0-clause-hint : goal.returns-then-number-eq0-clause-hint
returns-then-number-eq0-clause-hint g c = if_misled_map c.locate_leader.result c.locate_leader.ensures.hint (λ place at wanted found x. inl x)

pub returns-in-None-clause-row : goal.returns-in-None-clause-row
returns-in-None-clause-row g c at told eases row =
    let here = rw c.in-None.is at c.in_ok-found.ensures.here in
    let none = passed_free (pack (g.D.Tape.tape c.args.disk.now)) c.args.file.now.fid c.args.number at c.args.cache.now (finds_eased eases) (c.try_cached.ensures.unlisted told) (λ i. here i told) in
    let looks = c.try_cached.ensures.sought.looks in
    on_ok_map c.seek_from_leader.result (λ h. omega (arith, none, h)) (c.seek_from_leader.ensures.row at told (eases_later c.try_cached.ensures.sought told eases) (subst (λ (p : Pack). IsInARow p c.args.file.now.fid) (sym (looks_pack looks told)) row))

pub returns-then-number-eq0-clause-row : goal.returns-then-number-eq0-clause-row
returns-then-number-eq0-clause-row g c at told eases row =
    let old = pack (g.D.Tape.tape c.args.disk.now) in
    let few = c.locate_leader.ensures.quick at told (finds_eased (subst (λ n. Eases old c.args.file.now.fid n at c.args.cache.now) c.if-number-eq0.true eases)) in
    on_ok c.locate_leader.result (omega (arith, few))
