use Rattle.std.proofs.Common.{Bool, List, OnOk, arith, false, refl, subst, ◌+◌, ◌*◌, ◌≡◌, ◌≤◌, Err, [], ◌⊎◌, ℕ, inl, inr, Some, ap, sym, ◌∙◌}
use Rattle.disk_records.proofs.Growing.{alone_twice, grown_twice}
use Rattle.disk_records.proofs.Looking.{looks_pack}
use Rattle.disk_records.specs.Tapes.{pack, added}
use Rattle.laws_call.specs.Acting.{refused}
use Rattle.laws_hint.specs.MapChanges.{marked}
use Rattle.page_seeking.proofs.Erring.{if_misled_map, on_ok, on_ok_map}
use Rattle.page_seeking.specs.Seeking.{file_length, page_number, Refused}
use Rattle.pack_model.specs.reading.Sights.{sights}
use Rattle.file_pages.proofs.CommitFirst.{look_before}
use Rattle.file_pages.proofs.CutFiles.{cut_begun, cut_here, cut_is_at_the_end, cut_is_past, cut_is_within, far_past, fewer_pages, known_read}
use Rattle.file_pages.proofs.Erring.{memory_too, own_or_found}
use Rattle.file_pages.proofs.Going.{handy_still, misled_by}
use Rattle.file_pages.specs.Cutting.{IsRead, cutting, later_pages, uncut}
use Rattle.file_pages.specs.Releasing.{AreAfter, Forgotten, KeepsOrFrees}
use Rattle.pack_model.specs.operations.Committing.{page_of_byte}
use Rattle.page_seeking.proofs.TrueLinks.{never_led}
use Rattle.page_seeking.proofs.Listing.{is_listed}
use Rattle.page_seeking.specs.Parts.{IsListed}
use Rattle.file_pages.proofs.Gone.{listed_still, looked_only}
use Rattle.disk_records.proofs.Framing.{writes_after_look, writes_silent}
use Rattle.disk_records.specs.Frames.{IsPageOf}
use Rattle.file_pages.proofs.Freed.{keeps_bits}
use Rattle.file_pages.proofs.cutting.cut.Goals as goal

pub returns-in-Ok-clause-beyond : goal.returns-in-Ok-clause-beyond
returns-in-Ok-clause-beyond g c told stands = far_past (pack (g.D.Tape.tape c.args.disk.now)) c.args.file.now c.args.length _ stands c.in_default.ensures.none (c.in-Ok.ensures.length told stands.whole)

pub returns-then-info-bytes-clause-beyond : goal.returns-then-info-bytes-clause-beyond
returns-then-info-bytes-clause-beyond g c told stands =
    let a = pack (g.D.Tape.tape c.args.disk.now) in
    let read : IsRead a (page_number c.args.file.now.fid c.in-Some.number) c.in-Ok-locate.at c.in-Ok-locate.info c.locate.new.buf = record { seen = c.in-Ok-locate.ensures.seen; stands = c.in-Ok-locate.ensures.stands told } in
    cut_is_past a c.args.file.now.fid c.args.length c.in-Some.number c.in-Ok-locate.at c.in-Ok-locate.info stands.whole (known_read read) c.in-Some.ensures.some (omega (arith, c.if-info-bytes.true)) _ c.length_at.ensures

pub returns-in-Err-clause-operates : goal.returns-in-Err-clause-operates
returns-in-Err-clause-operates g c told stands ordinary other =
    refused (record { silent = c.length.ensures.looks.silent told; bits = c.length.ensures.table; tally = refl }) tt (λ memory. c.in-Err.ensures.want told (memory_too ℕ c.in-Err.error memory))

pub returns-else-info-bytes-2-clause-operates : goal.returns-else-info-bytes-2-clause-operates
returns-else-info-bytes-2-clause-operates g c told stands ordinary other =
    let a = g.D.Tape.tape c.args.disk.now in
    let looks = c.locate.ensures.looks in
    let at = c.in-Ok-locate.at in
    let read : IsRead (pack a) (page_number c.args.file.now.fid c.in-Some.number) at c.in-Ok-locate.info c.locate.new.buf = record { seen = c.in-Ok-locate.ensures.seen; stands = c.in-Ok-locate.ensures.stands told } in
    let known = known_read read in
    let is = c.in-Some.ensures.some in
    let not_less = c.if-info-bytes.false in
    let not_same = c.if-info-bytes-2.false in
    let within = cut_is_within (pack a) c.args.file.now.fid c.args.length c.in-Some.number at c.in-Ok-locate.info stands.whole known is (omega (arith, not_less, not_same)) in
    let here = cut_here (pack a) c.args.file.now c.args.length c.in-Some.number at c.in-Ok-locate.info stands ordinary known is (omega (arith, within)) in
    let same = looks_pack looks told in
    let writes = c.end_in_page.ensures.cuts (pack a) here.later told same read here.left in
    let table = subst (λ (l : List Bool). OnOk c.end_in_page.result (c.end_in_page.new.hints.table ≡ marked false here.later l)) c.locate.ensures.table (c.end_in_page.ensures.table (pack a) here.later told same read here.left) in
    cut_begun c.args.file.now.fid c.args.length _ at here.later c.end_in_page.result stands.whole stands.tidy here.can refl
    (look_before looks.alone.grown c.end_in_page.ensures.alone.grown (looks.silent told) (g.met.D.Disk.counted c.args.disk.now told) (g.met.D.Disk.counted c.locate.new.disk told) writes) table

pub returns-else-info-bytes-2-clause-own_length : goal.returns-else-info-bytes-2-clause-own_length
returns-else-info-bytes-2-clause-own_length g c told stands own =
    let a = pack (g.D.Tape.tape c.args.disk.now) in
    let read : IsRead a (page_number c.args.file.now.fid c.in-Some.number) c.in-Ok-locate.at c.in-Ok-locate.info c.locate.new.buf = record { seen = c.in-Ok-locate.ensures.seen; stands = c.in-Ok-locate.ensures.stands told } in
    let not_less = c.if-info-bytes.false in
    let not_same = c.if-info-bytes-2.false in
    let within = cut_is_within a c.args.file.now.fid c.args.length c.in-Some.number c.in-Ok-locate.at c.in-Ok-locate.info stands.whole (known_read read) c.in-Some.ensures.some (omega (arith, not_less, not_same)) in
    absurd (omega (arith, within, own))

pub returns-else-info-bytes-2-clause-want : goal.returns-else-info-bytes-2-clause-want
returns-else-info-bytes-2-clause-want g c told stands own memory =
    let a = pack (g.D.Tape.tape c.args.disk.now) in
    let read : IsRead a (page_number c.args.file.now.fid c.in-Some.number) c.in-Ok-locate.at c.in-Ok-locate.info c.locate.new.buf = record { seen = c.in-Ok-locate.ensures.seen; stands = c.in-Ok-locate.ensures.stands told } in
    let not_less = c.if-info-bytes.false in
    let not_same = c.if-info-bytes-2.false in
    let within = cut_is_within a c.args.file.now.fid c.args.length c.in-Some.number c.in-Ok-locate.at c.in-Ok-locate.info stands.whole (known_read read) c.in-Some.ensures.some (omega (arith, not_less, not_same)) in
    absurd (omega (arith, within, own))

pub returns-then-info-bytes-2-clause-operates : goal.returns-then-info-bytes-2-clause-operates
returns-then-info-bytes-2-clause-operates g c told stands ordinary other =
    let a = pack (g.D.Tape.tape c.args.disk.now) in
    let read : IsRead a (page_number c.args.file.now.fid c.in-Some.number) c.in-Ok-locate.at c.in-Ok-locate.info c.locate.new.buf = record { seen = c.in-Ok-locate.ensures.seen; stands = c.in-Ok-locate.ensures.stands told } in
    let same = c.if-info-bytes-2.true in
    absurd (other (cut_is_at_the_end a c.args.file.now.fid c.args.length c.in-Some.number c.in-Ok-locate.at c.in-Ok-locate.info stands.whole (known_read read) c.in-Some.ensures.some (omega (arith, same))))

pub returns-then-info-bytes-2-clause-within : goal.returns-then-info-bytes-2-clause-within
returns-then-info-bytes-2-clause-within g c told stands =
    let a = pack (g.D.Tape.tape c.args.disk.now) in
    let read : IsRead a (page_number c.args.file.now.fid c.in-Some.number) c.in-Ok-locate.at c.in-Ok-locate.info c.locate.new.buf = record { seen = c.in-Ok-locate.ensures.seen; stands = c.in-Ok-locate.ensures.stands told } in
    let same = c.if-info-bytes-2.true in
    let end = cut_is_at_the_end a c.args.file.now.fid c.args.length c.in-Some.number c.in-Ok-locate.at c.in-Ok-locate.info stands.whole (known_read read) c.in-Some.ensures.some (omega (arith, same)) in
    omega (arith, end)

pub returns-else-info-bytes-2-clause-within : goal.returns-else-info-bytes-2-clause-within
returns-else-info-bytes-2-clause-within g c told stands =
    let a = pack (g.D.Tape.tape c.args.disk.now) in
    let read : IsRead a (page_number c.args.file.now.fid c.in-Some.number) c.in-Ok-locate.at c.in-Ok-locate.info c.locate.new.buf = record { seen = c.in-Ok-locate.ensures.seen; stands = c.in-Ok-locate.ensures.stands told } in
    let not_less = c.if-info-bytes.false in
    let not_same = c.if-info-bytes-2.false in
    let less = cut_is_within a c.args.file.now.fid c.args.length c.in-Some.number c.in-Ok-locate.at c.in-Ok-locate.info stands.whole (known_read read) c.in-Some.ensures.some (omega (arith, not_less, not_same)) in
    let most : c.args.length ≤ file_length a c.args.file.now.fid = omega (arith, less) in
    on_ok c.end_in_page.result most

pub returns-else-info-bytes-2-clause-misled : goal.returns-else-info-bytes-2-clause-misled
returns-else-info-bytes-2-clause-misled g c told stands =
    let a = g.D.Tape.tape c.args.disk.now in
    let looks = c.locate.ensures.looks in
    let read : IsRead (pack a) (page_number c.args.file.now.fid c.in-Some.number) c.in-Ok-locate.at c.in-Ok-locate.info c.locate.new.buf = record { seen = c.in-Ok-locate.ensures.seen; stands = c.in-Ok-locate.ensures.stands told } in
    if_misled_map c.end_in_page.result (c.end_in_page.ensures.misled (pack a) told (looks_pack looks told) read) (λ place at wanted found x. misled_by c.args.file.now.fid place at wanted found (grown_twice looks.alone.grown c.end_in_page.ensures.alone.grown) x)

pub returns-else-info-bytes-2-clause-handy : goal.returns-else-info-bytes-2-clause-handy
returns-else-info-bytes-2-clause-handy g c told stands =
    let a = g.D.Tape.tape c.args.disk.now in
    let d = g.D.Tape.tape c.end_in_page.new.disk in
    let looks = c.locate.ensures.looks in
    let read : IsRead (pack a) (page_number c.args.file.now.fid c.in-Some.number) c.in-Ok-locate.at c.in-Ok-locate.info c.locate.new.buf = record { seen = c.in-Ok-locate.ensures.seen; stands = c.in-Ok-locate.ensures.stands told } in
    on_ok_map c.end_in_page.result (λ only whole links f handy. handy_still (pack a) (pack d) f _ whole only (c.end_in_page.ensures.handy (sights (pack a)) f (c.locate.ensures.handy told whole links f handy))) (c.end_in_page.ensures.only (pack a) told (looks_pack looks told) read)

pub returns-else-info-bytes-2-clause-alone : goal.returns-else-info-bytes-2-clause-alone
returns-else-info-bytes-2-clause-alone g c = alone_twice c.locate.ensures.looks.alone c.end_in_page.ensures.alone

pub returns-then-info-bytes-2-clause-forgotten : goal.returns-then-info-bytes-2-clause-forgotten
returns-then-info-bytes-2-clause-forgotten g c told stands =
    let a = pack (g.D.Tape.tape c.args.disk.now) in
    let read : IsRead a (page_number c.args.file.now.fid c.in-Some.number) c.in-Ok-locate.at c.in-Ok-locate.info c.locate.new.buf = record { seen = c.in-Ok-locate.ensures.seen; stands = c.in-Ok-locate.ensures.stands told } in
    let same = c.if-info-bytes-2.true in
    let end = cut_is_at_the_end a c.args.file.now.fid c.args.length c.in-Some.number c.in-Ok-locate.at c.in-Ok-locate.info stands.whole (known_read read) c.in-Some.ensures.some (omega (arith, same)) in
    λ n above within. absurd (omega (arith, end, above, within))

pub returns-else-info-bytes-2-clause-forgotten : goal.returns-else-info-bytes-2-clause-forgotten
returns-else-info-bytes-2-clause-forgotten g c told stands =
    let a = pack (g.D.Tape.tape c.args.disk.now) in
    let f = c.args.file.now.fid in
    let read : IsRead a (page_number f c.in-Some.number) c.in-Ok-locate.at c.in-Ok-locate.info c.locate.new.buf = record { seen = c.in-Ok-locate.ensures.seen; stands = c.in-Ok-locate.ensures.stands told } in
    subst (λ k. OnOk c.end_in_page.result (Forgotten c.end_in_page.new.hints.cache f k (page_of_byte (file_length a f)))) c.in-Some.ensures.some
    (c.end_in_page.ensures.forgotten a told (looks_pack c.locate.ensures.looks told) read stands.whole (fewer_pages a c.args.file.now stands))

pub returns-else-info-bytes-2-clause-true_links : goal.returns-else-info-bytes-2-clause-true_links
returns-else-info-bytes-2-clause-true_links g c told stands links =
    never_led {T = Unit {0}} (pack (g.D.Tape.tape c.args.disk.now)) (added (g.D.Tape.tape c.args.disk.now) (g.D.Tape.tape c.end_in_page.new.disk)) c.args.file.now.fid c.args.file.now c.end_in_page.result (g.met.D.Disk.formed c.args.disk.now told) stands links (returns-else-info-bytes-2-clause-misled g c told stands)

pub returns-in-Err-clause-true_links : goal.returns-in-Err-clause-true_links
returns-in-Err-clause-true_links g c told stands links =
    never_led {T = Unit {0}} (pack (g.D.Tape.tape c.args.disk.now)) [] c.args.file.now.fid c.args.file.now (Err c.in-Err.error) (g.met.D.Disk.formed c.args.disk.now told) stands links (c.in-Err.ensures.misled told stands.from)

pub returns-in-Err-locate-clause-true_links : goal.returns-in-Err-locate-clause-true_links
returns-in-Err-locate-clause-true_links g c told stands links =
    never_led {T = Unit {0}} (pack (g.D.Tape.tape c.args.disk.now)) [] c.args.file.now.fid c.args.file.now (Err c.in-Err-locate.error) (g.met.D.Disk.formed c.args.disk.now told) stands links (c.in-Err-locate.ensures.misled told stands.from)

pub returns-in-Ok-clause-gone : goal.returns-in-Ok-clause-gone
returns-in-Ok-clause-gone g c told = looked_only c.length.new.hints.cache c.length.ensures.looks told

pub returns-in-Err-clause-gone : goal.returns-in-Err-clause-gone
returns-in-Err-clause-gone g c told = looked_only c.length.new.hints.cache c.length.ensures.looks told

pub returns-then-info-bytes-clause-gone : goal.returns-then-info-bytes-clause-gone
returns-then-info-bytes-clause-gone g c told = looked_only c.locate.new.hints.cache c.locate.ensures.looks told

pub returns-then-info-bytes-2-clause-gone : goal.returns-then-info-bytes-2-clause-gone
returns-then-info-bytes-2-clause-gone g c told = looked_only c.locate.new.hints.cache c.locate.ensures.looks told

pub returns-in-Err-locate-clause-gone : goal.returns-in-Err-locate-clause-gone
returns-in-Err-locate-clause-gone g c told = looked_only c.locate.new.hints.cache c.locate.ensures.looks told

pub returns-else-info-bytes-2-clause-gone : goal.returns-else-info-bytes-2-clause-gone
returns-else-info-bytes-2-clause-gone g c told =
    let a = g.D.Tape.tape c.args.disk.now in
    let read : IsRead (pack a) (page_number c.args.file.now.fid c.in-Some.number) c.in-Ok-locate.at c.in-Ok-locate.info c.locate.new.buf = record { seen = c.in-Ok-locate.ensures.seen; stands = c.in-Ok-locate.ensures.stands told } in
    c.end_in_page.ensures.gone (pack a) told (looks_pack c.locate.ensures.looks told) read

pub returns-then-info-bytes-2-clause-listed : goal.returns-then-info-bytes-2-clause-listed
returns-then-info-bytes-2-clause-listed g c =
    let p = pack (g.D.Tape.tape c.args.disk.now) in
    let here = is_listed g.D.Tape.told (pack (g.D.Tape.tape c.args.disk.now)) c.in-Ok-locate.ensures.listed (λ told. (c.in-Ok-locate.ensures.stands told).carries) in
    subst (λ n. IsListed g.D.Tape.told p (page_number c.args.file.now.fid n) c.locate.new.hints.cache ⊎ Refused c.args.hints.now.cache c.locate.new.hints.cache) c.in-Some.ensures.some here

pub returns-else-info-bytes-2-clause-listed : goal.returns-else-info-bytes-2-clause-listed
returns-else-info-bytes-2-clause-listed g c =
    let p = pack (g.D.Tape.tape c.args.disk.now) in
    let here = is_listed g.D.Tape.told (pack (g.D.Tape.tape c.args.disk.now)) c.in-Ok-locate.ensures.listed (λ told. (c.in-Ok-locate.ensures.stands told).carries) in
    let still = listed_still c.args.hints.now.cache c.locate.new.hints.cache c.end_in_page.new.hints.cache c.end_in_page.ensures.here c.end_in_page.ensures.refused here in
    on_ok c.end_in_page.result (subst (λ n. IsListed g.D.Tape.told p (page_number c.args.file.now.fid n) c.end_in_page.new.hints.cache ⊎ Refused c.args.hints.now.cache c.end_in_page.new.hints.cache) c.in-Some.ensures.some still)

pub returns-else-info-bytes-2-clause-hint : goal.returns-else-info-bytes-2-clause-hint
returns-else-info-bytes-2-clause-hint g c told =
    let a = g.D.Tape.tape c.args.disk.now in
    let looks = c.locate.ensures.looks in
    let read : IsRead (pack a) (page_number c.args.file.now.fid c.in-Some.number) c.in-Ok-locate.at c.in-Ok-locate.info c.locate.new.buf = record { seen = c.in-Ok-locate.ensures.seen; stands = c.in-Ok-locate.ensures.stands told } in
    if_misled_map c.end_in_page.result (c.end_in_page.ensures.misled (pack a) told (looks_pack looks told) read) (λ place at wanted found x. inr x.link)

pub returns-in-Err-clause-given : goal.returns-in-Err-clause-given
returns-in-Err-clause-given g c = if_misled_map {T = Unit {0}} (Err c.in-Err.error) c.in-Err.ensures.hint (λ place at wanted found x. inl x)

pub returns-in-Err-locate-clause-given : goal.returns-in-Err-locate-clause-given
returns-in-Err-locate-clause-given g c = if_misled_map {T = Unit {0}} (Err c.in-Err-locate.error) c.in-Err-locate.ensures.hint (λ place at wanted found x. inl x)

pub returns-else-info-bytes-2-clause-given : goal.returns-else-info-bytes-2-clause-given
returns-else-info-bytes-2-clause-given g c = if_misled_map c.end_in_page.result c.end_in_page.ensures.given (own_or_found c.args.file.now)

pub returns-in-Ok-clause-frame : goal.returns-in-Ok-clause-frame
returns-in-Ok-clause-frame g c told = writes_silent (IsPageOf c.args.file.now.fid (pack (g.D.Tape.tape c.args.disk.now))) (added (g.D.Tape.tape c.args.disk.now) (g.D.Tape.tape c.length.new.disk)) (c.length.ensures.looks.silent told)

pub returns-in-Ok-clause-bits : goal.returns-in-Ok-clause-bits
returns-in-Ok-clause-bits g c told = keeps_bits (pack (g.D.Tape.tape c.length.new.disk)) c.length.ensures.table

pub returns-in-Err-clause-frame : goal.returns-in-Err-clause-frame
returns-in-Err-clause-frame g c told = writes_silent (IsPageOf c.args.file.now.fid (pack (g.D.Tape.tape c.args.disk.now))) (added (g.D.Tape.tape c.args.disk.now) (g.D.Tape.tape c.length.new.disk)) (c.length.ensures.looks.silent told)

pub returns-in-Err-clause-bits : goal.returns-in-Err-clause-bits
returns-in-Err-clause-bits g c told = keeps_bits (pack (g.D.Tape.tape c.length.new.disk)) c.length.ensures.table

pub returns-then-info-bytes-clause-frame : goal.returns-then-info-bytes-clause-frame
returns-then-info-bytes-clause-frame g c told = writes_silent (IsPageOf c.args.file.now.fid (pack (g.D.Tape.tape c.args.disk.now))) (added (g.D.Tape.tape c.args.disk.now) (g.D.Tape.tape c.locate.new.disk)) (c.locate.ensures.looks.silent told)

pub returns-then-info-bytes-clause-bits : goal.returns-then-info-bytes-clause-bits
returns-then-info-bytes-clause-bits g c told = keeps_bits (pack (g.D.Tape.tape c.locate.new.disk)) c.locate.ensures.table

pub returns-then-info-bytes-2-clause-frame : goal.returns-then-info-bytes-2-clause-frame
returns-then-info-bytes-2-clause-frame g c told = writes_silent (IsPageOf c.args.file.now.fid (pack (g.D.Tape.tape c.args.disk.now))) (added (g.D.Tape.tape c.args.disk.now) (g.D.Tape.tape c.locate.new.disk)) (c.locate.ensures.looks.silent told)

pub returns-then-info-bytes-2-clause-bits : goal.returns-then-info-bytes-2-clause-bits
returns-then-info-bytes-2-clause-bits g c told = keeps_bits (pack (g.D.Tape.tape c.locate.new.disk)) c.locate.ensures.table

pub returns-in-Err-locate-clause-frame : goal.returns-in-Err-locate-clause-frame
returns-in-Err-locate-clause-frame g c told = writes_silent (IsPageOf c.args.file.now.fid (pack (g.D.Tape.tape c.args.disk.now))) (added (g.D.Tape.tape c.args.disk.now) (g.D.Tape.tape c.locate.new.disk)) (c.locate.ensures.looks.silent told)

pub returns-in-Err-locate-clause-bits : goal.returns-in-Err-locate-clause-bits
returns-in-Err-locate-clause-bits g c told = keeps_bits (pack (g.D.Tape.tape c.locate.new.disk)) c.locate.ensures.table

pub returns-else-info-bytes-2-clause-frame : goal.returns-else-info-bytes-2-clause-frame
returns-else-info-bytes-2-clause-frame g c told =
    let looks = c.locate.ensures.looks in
    writes_after_look (IsPageOf c.args.file.now.fid) looks.alone.grown c.end_in_page.ensures.alone.grown (looks.silent told) (c.end_in_page.ensures.frame told)

pub returns-else-info-bytes-2-clause-bits : goal.returns-else-info-bytes-2-clause-bits
returns-else-info-bytes-2-clause-bits g c told = subst (λ (l : List Bool). KeepsOrFrees (pack (g.D.Tape.tape c.end_in_page.new.disk)) l c.end_in_page.new.hints.table) c.locate.ensures.table (c.end_in_page.ensures.bits told)

pub returns-in-Err-clause-cuts : goal.returns-in-Err-clause-cuts
returns-in-Err-clause-cuts g c later told other left =
    uncut (record { silent = c.length.ensures.looks.silent told; bits = c.length.ensures.table; tally = refl }) tt (λ memory. c.in-Err.ensures.want told (memory_too ℕ c.in-Err.error memory))

pub returns-then-info-bytes-2-clause-cuts : goal.returns-then-info-bytes-2-clause-cuts
returns-then-info-bytes-2-clause-cuts g c later told other left =
    let a = pack (g.D.Tape.tape c.args.disk.now) in
    let read : IsRead a (page_number c.args.file.now.fid c.in-Some.number) c.in-Ok-locate.at c.in-Ok-locate.info c.locate.new.buf = record { seen = c.in-Ok-locate.ensures.seen; stands = c.in-Ok-locate.ensures.stands told } in
    let same = c.if-info-bytes-2.true in
    absurd (other (cut_is_at_the_end a c.args.file.now.fid c.args.length c.in-Some.number c.in-Ok-locate.at c.in-Ok-locate.info left.whole (known_read read) c.in-Some.ensures.some (omega (arith, same))))

pub returns-else-info-bytes-2-clause-cuts : goal.returns-else-info-bytes-2-clause-cuts
returns-else-info-bytes-2-clause-cuts g c later told other left =
    let a = g.D.Tape.tape c.args.disk.now in
    let fid = c.args.file.now.fid in
    let looks = c.locate.ensures.looks in
    let at = c.in-Ok-locate.at in
    let read : IsRead (pack a) (page_number fid c.in-Some.number) at c.in-Ok-locate.info c.locate.new.buf = record { seen = c.in-Ok-locate.ensures.seen; stands = c.in-Ok-locate.ensures.stands told } in
    let is = c.in-Some.ensures.some in
    let same = looks_pack looks told in
    let left_here = subst (λ k. AreAfter (pack a) fid k later) (sym is) left in
    let writes = c.end_in_page.ensures.cuts (pack a) later told same read left_here in
    let table = subst (λ (l : List Bool). OnOk c.end_in_page.result (c.end_in_page.new.hints.table ≡ marked false later l)) c.locate.ensures.table (c.end_in_page.ensures.table (pack a) later told same read left_here) in
    cutting ((c.in-Ok-locate.ensures.stands told).carries ∙ ap (λ k. Some (page_number fid k)) is)
    (look_before looks.alone.grown c.end_in_page.ensures.alone.grown (looks.silent told) (g.met.D.Disk.counted c.args.disk.now told) (g.met.D.Disk.counted c.locate.new.disk told) writes) table

pub returns-in-Ok-clause-runs : goal.returns-in-Ok-clause-runs
returns-in-Ok-clause-runs g c told whole = let runs = c.length.ensures.looks.runs told in omega (arith, runs, c.in_default.ensures.none)

pub returns-in-Err-clause-runs : goal.returns-in-Err-clause-runs
returns-in-Err-clause-runs g c told whole = let runs = c.length.ensures.looks.runs told in omega (arith, runs, c.in_default.ensures.none)

pub returns-then-info-bytes-clause-runs : goal.returns-then-info-bytes-clause-runs
returns-then-info-bytes-clause-runs g c told whole = let runs = c.locate.ensures.looks.runs told in omega (arith, runs, c.in-Some.ensures.some)

pub returns-then-info-bytes-2-clause-runs : goal.returns-then-info-bytes-2-clause-runs
returns-then-info-bytes-2-clause-runs g c told whole = let runs = c.locate.ensures.looks.runs told in omega (arith, runs, c.in-Some.ensures.some)

pub returns-in-Err-locate-clause-runs : goal.returns-in-Err-locate-clause-runs
returns-in-Err-locate-clause-runs g c told whole = let runs = c.locate.ensures.looks.runs told in omega (arith, runs, c.in-Some.ensures.some)

pub returns-then-info-bytes-2-clause-soon : goal.returns-then-info-bytes-2-clause-soon
returns-then-info-bytes-2-clause-soon g c at told whole listed there =
    let number = c.in-Some.ensures.some in
    let runs = c.locate.ensures.soon at told (rw (sym number) at listed) (rw (sym number) at there) in
    omega (arith, runs)

pub returns-then-info-bytes-2-clause-quick : goal.returns-then-info-bytes-2-clause-quick
returns-then-info-bytes-2-clause-quick g c told quick = let runs = c.in-Ok-locate.ensures.quick told quick in omega (arith, runs, c.in-Some.ensures.some)

pub returns-else-info-bytes-2-clause-runs : goal.returns-else-info-bytes-2-clause-runs
returns-else-info-bytes-2-clause-runs g c told whole =
    let a = pack (g.D.Tape.tape c.args.disk.now) in
    let read : IsRead a (page_number c.args.file.now.fid c.in-Some.number) c.in-Ok-locate.at c.in-Ok-locate.info c.locate.new.buf = record { seen = c.in-Ok-locate.ensures.seen; stands = c.in-Ok-locate.ensures.stands told } in
    let found = c.locate.ensures.looks.runs told in
    let rest = c.end_in_page.ensures.runs a told (looks_pack c.locate.ensures.looks told) read whole in
    omega (arith, found, rest, c.in-Some.ensures.some)

pub returns-else-info-bytes-2-clause-soon : goal.returns-else-info-bytes-2-clause-soon
returns-else-info-bytes-2-clause-soon g c at told whole listed there =
    let a = g.D.Tape.tape c.args.disk.now in
    let number = c.in-Some.ensures.some in
    let read : IsRead (pack a) (page_number c.args.file.now.fid c.in-Some.number) c.in-Ok-locate.at c.in-Ok-locate.info c.locate.new.buf = record { seen = c.in-Ok-locate.ensures.seen; stands = c.in-Ok-locate.ensures.stands told } in
    let found = c.locate.ensures.soon at told (rw (sym number) at listed) (rw (sym number) at there) in
    let rest = c.end_in_page.ensures.runs (pack a) told (looks_pack c.locate.ensures.looks told) read whole in
    let few : (g.D.Tape.tape c.end_in_page.new.disk).runs ≤ a.runs + (3 * later_pages (pack a) c.args.file.now.fid c.args.length + 3) = omega (arith, found, rest, number) in
    on_ok c.end_in_page.result few

pub returns-else-info-bytes-2-clause-quick : goal.returns-else-info-bytes-2-clause-quick
returns-else-info-bytes-2-clause-quick g c told quick =
    let a = g.D.Tape.tape c.args.disk.now in
    let read : IsRead (pack a) (page_number c.args.file.now.fid c.in-Some.number) c.in-Ok-locate.at c.in-Ok-locate.info c.locate.new.buf = record { seen = c.in-Ok-locate.ensures.seen; stands = c.in-Ok-locate.ensures.stands told } in
    let found = c.in-Ok-locate.ensures.quick told quick in
    let rest = c.end_in_page.ensures.runs (pack a) told (looks_pack c.locate.ensures.looks told) read quick.whole in
    let few : (g.D.Tape.tape c.end_in_page.new.disk).runs ≤ a.runs + (page_of_byte c.args.length + (3 * later_pages (pack a) c.args.file.now.fid c.args.length + 3)) = omega (arith, found, rest, c.in-Some.ensures.some) in
    on_ok c.end_in_page.result few
