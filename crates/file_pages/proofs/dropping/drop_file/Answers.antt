use Rattle.std.proofs.Common.{Bool, List, OnOk, arith, false, refl, subst, ℕ, ◌+◌, ◌*◌, ◌∷◌, ◌≡◌, ◌≤◌, Err, [], inl, inr}
use Rattle.disk_records.proofs.Growing.{alone_twice, grown_twice}
use Rattle.disk_records.proofs.Looking.{looks_pack}
use Rattle.disk_records.specs.Tapes.{pack, added}
use Rattle.label_check.specs.declared.errors.PageInfo.{PageInfo}
use Rattle.laws_hint.specs.MapChanges.{marked}
use Rattle.page_seeking.proofs.Erring.{if_misled_map, on_ok, on_ok_map}
use Rattle.page_seeking.specs.Seeking.{file_length, page_number}
use Rattle.pack_model.specs.operations.Committing.{page_of_byte}
use Rattle.pack_model.specs.reading.Sights.{sights}
use Rattle.file_pages.proofs.CommitFirst.{look_before}
use Rattle.file_pages.proofs.CutFiles.{fewer_pages, known_read}
use Rattle.file_pages.proofs.DroppedFiles.{drop_begun, drop_does, drop_here, drop_not_begun}
use Rattle.file_pages.proofs.Erring.{never_past, own_or_found}
use Rattle.file_pages.proofs.Going.{handy_still, misled_by}
use Rattle.file_pages.specs.Cutting.{IsRead}
use Rattle.page_seeking.proofs.TrueLinks.{never_led}
use Rattle.file_pages.proofs.Gone.{looked_only}
use Rattle.disk_records.proofs.Framing.{writes_after_look, writes_silent}
use Rattle.disk_records.specs.Frames.{IsPageOf}
use Rattle.file_pages.proofs.Freed.{keeps_bits}
use Rattle.file_pages.specs.Releasing.{KeepsOrFrees}
use Rattle.file_pages.specs.Dropping.{dropping}
use Rattle.file_pages.proofs.dropping.drop_file.Goals as goal

pub returns-in-Ok-clause-alone : goal.returns-in-Ok-clause-alone
returns-in-Ok-clause-alone g c = alone_twice c.locate.ensures.looks.alone c.drop_pages.ensures.alone

pub returns-in-Ok-clause-releases : goal.returns-in-Ok-clause-releases
returns-in-Ok-clause-releases g c told stands dropped =
    let a = g.D.Tape.tape c.args.disk.now in
    let looks = c.locate.ensures.looks in
    let read : IsRead (pack a) (page_number c.args.file.now.fid 0) c.in-Ok.at c.in-Ok.info c.locate.new.buf = record { seen = c.in-Ok.ensures.seen; stands = c.in-Ok.ensures.stands told } in
    let here = drop_here (pack a) c.args.file.now c.in-Ok.at c.in-Ok.info stands dropped (known_read read) in
    let same = looks_pack looks told in
    let writes = c.drop_pages.ensures.drops (pack a) here.pages told same read here.left in
    let table = subst (λ (l : List Bool). OnOk c.drop_pages.result (c.drop_pages.new.hints.table ≡ marked false (c.in-Ok.at ∷ here.pages) l)) c.locate.ensures.table (c.drop_pages.ensures.table (pack a) here.pages told same read here.left) in
    drop_begun c.args.file.now.fid c.in-Ok.at here.pages c.drop_pages.result here.may
    (look_before looks.alone.grown c.drop_pages.ensures.alone.grown (looks.silent told) (g.met.D.Disk.counted c.args.disk.now told) (g.met.D.Disk.counted c.locate.new.disk told) writes) table

pub returns-in-Ok-clause-goes : goal.returns-in-Ok-clause-goes
returns-in-Ok-clause-goes g c told stands dropped =
    let a = g.D.Tape.tape c.args.disk.now in
    let looks = c.locate.ensures.looks in
    let read : IsRead (pack a) (page_number c.args.file.now.fid 0) c.in-Ok.at c.in-Ok.info c.locate.new.buf = record { seen = c.in-Ok.ensures.seen; stands = c.in-Ok.ensures.stands told } in
    let here = drop_here (pack a) c.args.file.now c.in-Ok.at c.in-Ok.info stands dropped (known_read read) in
    let writes = c.drop_pages.ensures.drops (pack a) here.pages told (looks_pack looks told) read here.left in
    drop_does c.args.file.now.fid c.in-Ok.at here.pages c.drop_pages.result stands.whole stands.tidy here.may
    (look_before looks.alone.grown c.drop_pages.ensures.alone.grown (looks.silent told) (g.met.D.Disk.counted c.args.disk.now told) (g.met.D.Disk.counted c.locate.new.disk told) writes)

pub returns-in-Err-clause-goes : goal.returns-in-Err-clause-goes
returns-in-Err-clause-goes g c told stands dropped = drop_not_begun (pack (g.D.Tape.tape c.args.disk.now)) c.args.file.now _ c.in-Err.error stands dropped (c.locate.ensures.looks.silent told)

pub returns-in-Ok-clause-misled : goal.returns-in-Ok-clause-misled
returns-in-Ok-clause-misled g c told stands =
    let a = g.D.Tape.tape c.args.disk.now in
    let looks = c.locate.ensures.looks in
    let read : IsRead (pack a) (page_number c.args.file.now.fid 0) c.in-Ok.at c.in-Ok.info c.locate.new.buf = record { seen = c.in-Ok.ensures.seen; stands = c.in-Ok.ensures.stands told } in
    if_misled_map c.drop_pages.result (c.drop_pages.ensures.misled (pack a) told (looks_pack looks told) read) (λ place at wanted found x. misled_by c.args.file.now.fid place at wanted found (grown_twice looks.alone.grown c.drop_pages.ensures.alone.grown) x)

pub returns-in-Ok-clause-handy : goal.returns-in-Ok-clause-handy
returns-in-Ok-clause-handy g c told stands =
    let a = g.D.Tape.tape c.args.disk.now in
    let d = g.D.Tape.tape c.drop_pages.new.disk in
    let looks = c.locate.ensures.looks in
    let read : IsRead (pack a) (page_number c.args.file.now.fid 0) c.in-Ok.at c.in-Ok.info c.locate.new.buf = record { seen = c.in-Ok.ensures.seen; stands = c.in-Ok.ensures.stands told } in
    on_ok_map c.drop_pages.result (λ only whole links f handy. handy_still (pack a) (pack d) f _ whole only (c.drop_pages.ensures.handy (sights (pack a)) f (c.locate.ensures.handy told whole links f handy))) (c.drop_pages.ensures.only (pack a) told (looks_pack looks told) read)

pub returns-in-Ok-clause-forgotten : goal.returns-in-Ok-clause-forgotten
returns-in-Ok-clause-forgotten g c told stands =
    let a = g.D.Tape.tape c.args.disk.now in
    let read : IsRead (pack a) (page_number c.args.file.now.fid 0) c.in-Ok.at c.in-Ok.info c.locate.new.buf = record { seen = c.in-Ok.ensures.seen; stands = c.in-Ok.ensures.stands told } in
    c.drop_pages.ensures.forgotten (pack a) told (looks_pack c.locate.ensures.looks told) read stands.whole (fewer_pages (pack a) c.args.file.now stands)

pub returns-in-Err-clause-cause : goal.returns-in-Err-clause-cause
returns-in-Err-clause-cause g c = never_past (ℕ × PageInfo) (g.D.Tape.tape c.args.disk.now) (g.D.Tape.tape c.locate.new.disk) c.in-Err.error c.in-Err.ensures.cause (c.in-Err.ensures.never_beyond (omega arith))

pub returns-in-Ok-clause-true_links : goal.returns-in-Ok-clause-true_links
returns-in-Ok-clause-true_links g c told stands links =
    never_led {T = Unit {0}} (pack (g.D.Tape.tape c.args.disk.now)) (added (g.D.Tape.tape c.args.disk.now) (g.D.Tape.tape c.drop_pages.new.disk)) c.args.file.now.fid c.args.file.now c.drop_pages.result (g.met.D.Disk.formed c.args.disk.now told) stands links (returns-in-Ok-clause-misled g c told stands)

pub returns-in-Err-clause-true_links : goal.returns-in-Err-clause-true_links
returns-in-Err-clause-true_links g c told stands links =
    never_led {T = Unit {0}} (pack (g.D.Tape.tape c.args.disk.now)) [] c.args.file.now.fid c.args.file.now (Err c.in-Err.error) (g.met.D.Disk.formed c.args.disk.now told) stands links (c.in-Err.ensures.misled told stands.from)

pub returns-in-Ok-clause-gone : goal.returns-in-Ok-clause-gone
returns-in-Ok-clause-gone g c told =
    let a = g.D.Tape.tape c.args.disk.now in
    let read : IsRead (pack a) (page_number c.args.file.now.fid 0) c.in-Ok.at c.in-Ok.info c.locate.new.buf = record { seen = c.in-Ok.ensures.seen; stands = c.in-Ok.ensures.stands told } in
    c.drop_pages.ensures.gone (pack a) told (looks_pack c.locate.ensures.looks told) read

pub returns-in-Err-clause-gone : goal.returns-in-Err-clause-gone
returns-in-Err-clause-gone g c told = looked_only c.locate.new.hints.cache c.locate.ensures.looks told

pub returns-in-Ok-clause-hint : goal.returns-in-Ok-clause-hint
returns-in-Ok-clause-hint g c told =
    let a = g.D.Tape.tape c.args.disk.now in
    let looks = c.locate.ensures.looks in
    let read : IsRead (pack a) (page_number c.args.file.now.fid 0) c.in-Ok.at c.in-Ok.info c.locate.new.buf = record { seen = c.in-Ok.ensures.seen; stands = c.in-Ok.ensures.stands told } in
    if_misled_map c.drop_pages.result (c.drop_pages.ensures.misled (pack a) told (looks_pack looks told) read) (λ place at wanted found x. inr x.link)

pub returns-in-Ok-clause-given : goal.returns-in-Ok-clause-given
returns-in-Ok-clause-given g c = if_misled_map c.drop_pages.result c.drop_pages.ensures.given (own_or_found c.args.file.now)

pub returns-in-Err-clause-given : goal.returns-in-Err-clause-given
returns-in-Err-clause-given g c = if_misled_map {T = Unit {0}} (Err c.in-Err.error) c.in-Err.ensures.hint (λ place at wanted found x. inl x)

pub returns-in-Err-clause-frame : goal.returns-in-Err-clause-frame
returns-in-Err-clause-frame g c told = writes_silent (IsPageOf c.args.file.now.fid (pack (g.D.Tape.tape c.args.disk.now))) (added (g.D.Tape.tape c.args.disk.now) (g.D.Tape.tape c.locate.new.disk)) (c.locate.ensures.looks.silent told)

pub returns-in-Err-clause-bits : goal.returns-in-Err-clause-bits
returns-in-Err-clause-bits g c told = keeps_bits (pack (g.D.Tape.tape c.locate.new.disk)) c.locate.ensures.table

pub returns-in-Ok-clause-frame : goal.returns-in-Ok-clause-frame
returns-in-Ok-clause-frame g c told =
    let looks = c.locate.ensures.looks in
    writes_after_look (IsPageOf c.args.file.now.fid) looks.alone.grown c.drop_pages.ensures.alone.grown (looks.silent told) (c.drop_pages.ensures.frame told)

pub returns-in-Ok-clause-bits : goal.returns-in-Ok-clause-bits
returns-in-Ok-clause-bits g c told = subst (λ (l : List Bool). KeepsOrFrees (pack (g.D.Tape.tape c.drop_pages.new.disk)) l c.drop_pages.new.hints.table) c.locate.ensures.table (c.drop_pages.ensures.bits told)

pub returns-in-Ok-clause-drops : goal.returns-in-Ok-clause-drops
returns-in-Ok-clause-drops g c pages told left =
    let a = g.D.Tape.tape c.args.disk.now in
    let looks = c.locate.ensures.looks in
    let read : IsRead (pack a) (page_number c.args.file.now.fid 0) c.in-Ok.at c.in-Ok.info c.locate.new.buf = record { seen = c.in-Ok.ensures.seen; stands = c.in-Ok.ensures.stands told } in
    let same = looks_pack looks told in
    let writes = c.drop_pages.ensures.drops (pack a) pages told same read left in
    let table = subst (λ (l : List Bool). OnOk c.drop_pages.result (c.drop_pages.new.hints.table ≡ marked false (c.in-Ok.at ∷ pages) l)) c.locate.ensures.table (c.drop_pages.ensures.table (pack a) pages told same read left) in
    dropping (c.in-Ok.ensures.stands told).carries
    (look_before looks.alone.grown c.drop_pages.ensures.alone.grown (looks.silent told) (g.met.D.Disk.counted c.args.disk.now told) (g.met.D.Disk.counted c.locate.new.disk told) writes) table

pub returns-in-Ok-clause-runs : goal.returns-in-Ok-clause-runs
returns-in-Ok-clause-runs g c told whole =
    let a = pack (g.D.Tape.tape c.args.disk.now) in
    let read : IsRead a (page_number c.args.file.now.fid 0) c.in-Ok.at c.in-Ok.info c.locate.new.buf = record { seen = c.in-Ok.ensures.seen; stands = c.in-Ok.ensures.stands told } in
    let found = c.locate.ensures.looks.runs told in
    let rest = c.drop_pages.ensures.runs a told (looks_pack c.locate.ensures.looks told) read whole in
    omega (arith, found, rest)

pub returns-in-Err-clause-runs : goal.returns-in-Err-clause-runs
returns-in-Err-clause-runs g c told whole = let found = c.locate.ensures.looks.runs told in omega (arith, found)

pub returns-in-Ok-clause-soon : goal.returns-in-Ok-clause-soon
returns-in-Ok-clause-soon g c at told whole listed there =
    let a = pack (g.D.Tape.tape c.args.disk.now) in
    let read : IsRead a (page_number c.args.file.now.fid 0) c.in-Ok.at c.in-Ok.info c.locate.new.buf = record { seen = c.in-Ok.ensures.seen; stands = c.in-Ok.ensures.stands told } in
    let found = c.locate.ensures.soon at told listed there in
    let rest = c.drop_pages.ensures.runs a told (looks_pack c.locate.ensures.looks told) read whole in
    omega (arith, found, rest)

pub returns-in-Err-clause-soon : goal.returns-in-Err-clause-soon
returns-in-Err-clause-soon g c at told whole listed there = let found = c.locate.ensures.soon at told listed there in omega (arith, found)

pub returns-in-Ok-clause-quick : goal.returns-in-Ok-clause-quick
returns-in-Ok-clause-quick g c told quick =
    let a = g.D.Tape.tape c.args.disk.now in
    let f = c.args.file.now.fid in
    let read : IsRead (pack a) (page_number f 0) c.in-Ok.at c.in-Ok.info c.locate.new.buf = record { seen = c.in-Ok.ensures.seen; stands = c.in-Ok.ensures.stands told } in
    let found = c.in-Ok.ensures.leader told refl quick in
    let rest = c.drop_pages.ensures.runs (pack a) told (looks_pack c.locate.ensures.looks told) read quick.whole in
    let few : (g.D.Tape.tape c.drop_pages.new.disk).runs ≤ a.runs + (3 * page_of_byte (file_length (pack a) f) + 3) = omega (arith, found, rest) in
    on_ok c.drop_pages.result few
