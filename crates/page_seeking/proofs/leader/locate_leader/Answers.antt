use Rattle.std.proofs.Common.{arith, sym, subst}
use Rattle.disk_records.specs.Packs.{Pack}
use Rattle.disk_records.specs.Tapes.{pack}
use Rattle.disk_records.proofs.Looking.{looks_pack}
use Rattle.page_seeking.specs.Refs.{FileIsFrom, FileIsRooted}
use Rattle.page_seeking.proofs.Easing.{passed_free}
use Rattle.page_seeking.proofs.Erring.{if_ok_map, if_misled_map}
use Rattle.page_seeking.proofs.Seeking.{confirmed_before, misled_before, sought_twice}
use Rattle.page_seeking.proofs.leader.locate_leader.Goals as goal

pub returns-in-None-clause-sought : goal.returns-in-None-clause-sought
returns-in-None-clause-sought g c = sought_twice c.try_cached.ensures.sought c.look_at_leader.ensures.sought

pub returns-in-None-clause-found : goal.returns-in-None-clause-found
returns-in-None-clause-found g c = let first = c.try_cached.ensures.sought in if_ok_map c.look_at_leader.result c.look_at_leader.ensures.found (λ f x. confirmed_before first.looks first.refused x)

pub returns-in-None-clause-misled : goal.returns-in-None-clause-misled
returns-in-None-clause-misled g c told stands =
    let looks = c.try_cached.ensures.sought.looks in
    if_misled_map c.look_at_leader.result (c.look_at_leader.ensures.misled told (subst (λ (p : Pack). FileIsFrom p c.args.file.now) (sym (looks_pack looks told)) stands)) (λ place at wanted found x. misled_before looks told x)

pub returns-in-None-clause-quick : goal.returns-in-None-clause-quick
returns-in-None-clause-quick g c at told finds =
    let here = rw c.in-None.is at c.in_ok-found.ensures.here in
    let none = passed_free (pack (g.D.Tape.tape c.args.disk.now)) c.args.file.now.fid 0 at c.args.cache.now finds (c.try_cached.ensures.unlisted told) (λ i. here i told) in
    omega (arith, none, c.look_at_leader.ensures.sought.looks.runs told)

pub returns-in-None-clause-on_disk : goal.returns-in-None-clause-on_disk
returns-in-None-clause-on_disk g c = λ told stands. c.look_at_leader.ensures.on_disk told (subst (λ (p : Pack). FileIsRooted p c.args.file.now) (sym (looks_pack c.try_cached.ensures.sought.looks told)) stands)
