use Rattle.std.proofs.Common.{Err, arith, inl, inr, refl, subst, ◌-◌, ◌+◌, ◌≡◌, ◌∙◌}
use Rattle.disk_records.proofs.Looking.{looks_none, looks_twice, looks_within}
use Rattle.disk_records.specs.Tapes.{pack}
use Rattle.page_seeking.proofs.Erring.{if_misled_map}
use Rattle.page_seeking.proofs.Parting.{few_bytes}
use Rattle.page_seeking.specs.declared.ends.LastPage.{LastPage}
use Rattle.file_pages.proofs.CutFiles.{known_read}
use Rattle.file_pages.proofs.FileEnds.{follows_itself, misled_then, page_after_looks, page_before}
use Rattle.file_pages.specs.Ends.{IsDataPage}
use Rattle.file_pages.proofs.ends.climb_to_end.Goals as goal

pub loop-number-init : goal.loop-number-init
loop-number-init g c = record { looks = looks_none _ (g.D.Tape.tape c.args.disk.now); unfailed = refl; page = c.requires.page }

pub loop-number-preserved : goal.loop-number-preserved
loop-number-preserved g c =
    let inv = c.loop-number.invariant in
    let next = c.in-Ok.ensures in
    record {
      looks = looks_twice (c.loop-number.number + 1 - c.args.from.number) inv.looks c.read_after.ensures.looks (omega (arith, c.loop-number.auto.number));
      unfailed = c.in-Ok.ensures.cause ∙ inv.unfailed;
      page = page_before inv.looks (record { first = omega arith; most = few_bytes next.seen; known = λ told. known_read (record { seen = next.seen; stands = next.stands told }) });
    }

pub returns-then-not-goes_on-clause-ends : goal.returns-then-not-goes_on-clause-ends
returns-then-not-goes_on-clause-ends g c = let short = c.goes_on.ensures.short c.if-not-goes_on.true in record { first = short.0; ends = inl short.1 }

pub returns-then-not-goes_on-clause-looks : goal.returns-then-not-goes_on-clause-looks
returns-then-not-goes_on-clause-looks g c = looks_within _ c.loop-number.invariant.looks (omega arith)

pub returns-then-not-goes_on-clause-climbs : goal.returns-then-not-goes_on-clause-climbs
returns-then-not-goes_on-clause-climbs g c told =
    let runs = c.loop-number.invariant.looks.runs told in
    let from = c.loop-number.auto.number in
    omega (arith, runs, from)

pub returns-in-Err-clause-misled : goal.returns-in-Err-clause-misled
returns-in-Err-clause-misled g c told =
    let inv = c.loop-number.invariant in
    let mid = pack (g.D.Tape.tape c.loop-number.disk) in
    let full = c.goes_on.ensures.full c.if-not-goes_on.false in
    if_misled_map {T = LastPage} (Err c.in-Err.error) (c.in-Err.ensures.misled mid told (follows_itself ((page_after_looks inv.looks inv.page).known told)) full) (λ place at wanted found x. misled_then c.args.fid place at wanted found inv.looks told x)

pub returns-in-Err-clause-looks : goal.returns-in-Err-clause-looks
returns-in-Err-clause-looks g c = looks_twice _ c.loop-number.invariant.looks c.read_after.ensures.looks (omega (arith, c.loop-number.auto.number))

pub returns-clause-ends : goal.returns-clause-ends
returns-clause-ends g c = record { first = omega arith; ends = inr refl }

pub returns-clause-page : goal.returns-clause-page
returns-clause-page g c =
    let end = c.loop-number.auto.number-end (omega arith) in
    let top : c.loop-number.number ≡ 65535 = omega (arith, end) in
    subst (λ n. IsDataPage g.D.Tape.told (pack (g.D.Tape.tape c.args.disk.now)) c.args.fid n c.loop-number.at c.loop-number.info) top c.loop-number.invariant.page

pub returns-clause-looks : goal.returns-clause-looks
returns-clause-looks g c = looks_within _ c.loop-number.invariant.looks (omega arith)

pub returns-clause-climbs : goal.returns-clause-climbs
returns-clause-climbs g c told =
    let runs = c.loop-number.invariant.looks.runs told in
    let from = c.loop-number.auto.number in
    let end = c.loop-number.auto.number-end (omega arith) in
    omega (arith, runs, from, end)
