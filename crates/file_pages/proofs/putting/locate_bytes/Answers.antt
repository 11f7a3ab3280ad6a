use Rattle.std.proofs.Common.{Some, ap, arith, length, sym, ℕ, ◌+◌, ◌∙◌, ◌≡◌, subst}
use Rattle.disk_records.specs.Packs.{Pack, carried, sector_at}
use Rattle.pack_model.specs.states.Whole.{Whole}
use Rattle.disk_records.specs.Tapes.{pack}
use Rattle.disk_records.specs.Words.{word}
use Rattle.disk_records.specs.declared.records.Sector.{Sector}
use Rattle.laws_midway.proofs.growing.Laws.{last_page_has_a_number}
use Rattle.label_check.specs.declared.errors.PageInfo.{PageInfo}
use Rattle.page_seeking.specs.Seeking.{file_length, length_at, page_number}
use Rattle.pack_model.specs.operations.Committing.{page_of_byte}
use Rattle.file_pages.proofs.WithinFile.{below_is_no_end, ends_file, later_end, not_at_is_no_end, other_end, past_file, past_is_no_end, within_file}
use Rattle.file_pages.proofs.Valued.{keeps_handy_twice}
use Rattle.disk_records.proofs.Looking.{looks_pack, looks_twice}
use Rattle.file_pages.proofs.putting.locate_bytes.Goals as goal

pub returns-in-Ok-clause-beyond : goal.returns-in-Ok-clause-beyond
returns-in-Ok-clause-beyond g c told whole =
    let size = c.in-Ok.ensures.length told whole in
    let most = last_page_has_a_number (pack (g.D.Tape.tape c.args.disk.now)) c.args.file.now.fid whole in
    let none = c.in_default.ensures.none in
    past_is_no_end c.args.ends (pack (g.D.Tape.tape c.args.disk.now)) c.args.file.now.fid (c.args.offset + c.args.count) _ (record { is = size; past = omega (arith, size, most, none) })

pub returns-then-from-count-clause-beyond : goal.returns-then-from-count-clause-beyond
returns-then-from-count-clause-beyond g c told whole =
    let p = pack (g.D.Tape.tape c.args.disk.now) in
    let f = c.args.file.now.fid in
    let offset = c.args.offset in
    let at = c.in-Ok-locate.found.0 in
    let seen = c.in-Ok-locate.ensures.seen in
    let there = c.in-Ok-locate.ensures.stands told in
    let carries : carried p at ≡ Some (page_number f (page_of_byte offset)) = there.carries ∙ ap (λ n. Some (page_number f n)) c.in-Some.ensures.some in
    let sized : length (sector_at p at).value ≡ 256 = ap (λ (s : Sector). length s.value) (sym there.holds) ∙ seen.sized in
    let count : c.in-Ok-locate.found.1.bytes ≡ word (sector_at p at).label 3 = ap (λ (i : PageInfo). i.bytes) seen.tells ∙ ap (λ (s : Sector). word s.label 3) there.holds in
    let is : c.length_at.result ≡ length_at (page_of_byte offset) (word (sector_at p at).label 3) = c.length_at.ensures ∙ ap (λ n. length_at n c.in-Ok-locate.found.1.bytes) c.in-Some.ensures.some ∙ ap (length_at (page_of_byte offset)) count in
    past_is_no_end c.args.ends p f (offset + c.args.count) c.length_at.result (past_file p f offset at c.args.count whole carries sized c.length_at.result is c.requires.one_page (omega (arith, count, c.from.ensures, c.if-from-count.true)))

pub returns-then-not-goes_on_after-clause-within : goal.returns-then-not-goes_on_after-clause-within
returns-then-not-goes_on_after-clause-within g c told whole =
    let p = pack (g.D.Tape.tape c.args.disk.now) in
    let f = c.args.file.now.fid in
    let offset = c.args.offset in
    let at = c.in-Ok-locate.found.0 in
    let seen = c.in-Ok-locate.ensures.seen in
    let there = c.in-Ok-locate.ensures.stands told in
    let carries : carried p at ≡ Some (page_number f (page_of_byte offset)) = there.carries ∙ ap (λ n. Some (page_number f n)) c.in-Some.ensures.some in
    let sized : length (sector_at p at).value ≡ 256 = ap (λ (s : Sector). length s.value) (sym there.holds) ∙ seen.sized in
    let count : c.in-Ok-locate.found.1.bytes ≡ word (sector_at p at).label 3 = ap (λ (i : PageInfo). i.bytes) seen.tells ∙ ap (λ (s : Sector). word s.label 3) there.holds in
    within_file p f offset at c.args.count whole carries sized (omega (arith, count, c.from.ensures, c.if-from-count.false))

pub returns-then-not-goes_on_after-clause-last_bytes : goal.returns-then-not-goes_on_after-clause-last_bytes
returns-then-not-goes_on_after-clause-last_bytes g c told whole last =
    let p = pack (g.D.Tape.tape c.args.disk.now) in
    let f = c.args.file.now.fid in
    let offset = c.args.offset in
    let at = c.in-Ok-locate.found.0 in
    let seen = c.in-Ok-locate.ensures.seen in
    let there = c.in-Ok-locate.ensures.stands told in
    let carries : carried p at ≡ Some (page_number f (page_of_byte offset)) = there.carries ∙ ap (λ n. Some (page_number f n)) c.in-Some.ensures.some in
    let sized : length (sector_at p at).value ≡ 256 = ap (λ (s : Sector). length s.value) (sym there.holds) ∙ seen.sized in
    let count : c.in-Ok-locate.found.1.bytes ≡ word (sector_at p at).label 3 = ap (λ (i : PageInfo). i.bytes) seen.tells ∙ ap (λ (s : Sector). word s.label 3) there.holds in
    let same = c.goes_on_after.ensures.no c.if-not-goes_on_after.true last in
    ends_file p f offset at c.args.count whole carries sized (c.requires.room last) (omega (arith, same, c.from.ensures, count))

pub returns-then-bytes-lt-PAGE_BYTES-clause-beyond : goal.returns-then-bytes-lt-PAGE_BYTES-clause-beyond
returns-then-bytes-lt-PAGE_BYTES-clause-beyond g c told whole =
    let p = pack (g.D.Tape.tape c.args.disk.now) in
    let f = c.args.file.now.fid in
    let offset = c.args.offset in
    let at = c.in-Ok-locate.found.0 in
    let seen = c.in-Ok-locate.ensures.seen in
    let there = c.in-Ok-locate.ensures.stands told in
    let carries : carried p at ≡ Some (page_number f (page_of_byte offset)) = there.carries ∙ ap (λ n. Some (page_number f n)) c.in-Some.ensures.some in
    let sized : length (sector_at p at).value ≡ 256 = ap (λ (s : Sector). length s.value) (sym there.holds) ∙ seen.sized in
    let count : c.in-Ok-locate.found.1.bytes ≡ word (sector_at p at).label 3 = ap (λ (i : PageInfo). i.bytes) seen.tells ∙ ap (λ (s : Sector). word s.label 3) there.holds in
    let goes = c.goes_on_after.ensures.yes c.if-not-goes_on_after.false in
    let is : c.length_at-then-bytes-lt-PAGE_BYTES.result ≡ length_at (page_of_byte offset) (word (sector_at p at).label 3) = c.length_at-then-bytes-lt-PAGE_BYTES.ensures ∙ ap (λ n. length_at n c.in-Ok-locate.found.1.bytes) c.in-Some.ensures.some ∙ ap (length_at (page_of_byte offset)) count in
    not_at_is_no_end c.args.ends p f (offset + c.args.count) _ goes.0 (other_end p f offset at c.args.count whole carries sized _ is (omega (arith, count, c.if-bytes-lt-PAGE_BYTES.true)) (λ same. goes.1 (omega (arith, same, count, c.from.ensures))))

pub returns-in-Err-locate-clause-beyond : goal.returns-in-Err-locate-clause-beyond
returns-in-Err-locate-clause-beyond g c told whole =
    below_is_no_end (ℕ × PageInfo) (ℕ × ℕ) c.args.ends (pack (g.D.Tape.tape c.args.disk.now)) c.args.file.now.fid c.args.offset c.args.count c.in-Some.number c.in-Err-locate.error c.in-Some.ensures.some (c.in-Err-locate.ensures.beyond told whole)

pub returns-in-Ok-length-clause-beyond : goal.returns-in-Ok-length-clause-beyond
returns-in-Ok-length-clause-beyond g c told whole =
    let p = pack (g.D.Tape.tape c.args.disk.now) in
    let f = c.args.file.now.fid in
    let offset = c.args.offset in
    let at = c.in-Ok-locate.found.0 in
    let seen = c.in-Ok-locate.ensures.seen in
    let there = c.in-Ok-locate.ensures.stands told in
    let carries : carried p at ≡ Some (page_number f (page_of_byte offset)) = there.carries ∙ ap (λ n. Some (page_number f n)) c.in-Some.ensures.some in
    let sized : length (sector_at p at).value ≡ 256 = ap (λ (s : Sector). length s.value) (sym there.holds) ∙ seen.sized in
    let count : c.in-Ok-locate.found.1.bytes ≡ word (sector_at p at).label 3 = ap (λ (i : PageInfo). i.bytes) seen.tells ∙ ap (λ (s : Sector). word s.label 3) there.holds in
    let goes = c.goes_on_after.ensures.yes c.if-not-goes_on_after.false in
    let same = looks_pack c.locate.ensures.looks told in
    let is = c.in-Ok-length.ensures.length told (subst (λ (q : Pack). Whole q) (sym same) whole) ∙ ap (λ (q : Pack). file_length q f) same in
    not_at_is_no_end c.args.ends p f (offset + c.args.count) _ goes.0 (later_end p f offset at c.args.count whole carries sized _ is (c.requires.room goes.0) (omega (arith, count, c.if-bytes-lt-PAGE_BYTES.false)))

pub returns-in-Ok-length-clause-looks : goal.returns-in-Ok-length-clause-looks
returns-in-Ok-length-clause-looks g c =
    looks_twice 131174 c.locate.ensures.looks c.length-2.ensures.looks (omega (arith, c.in-Some.ensures.most))

pub returns-in-Ok-length-clause-handy : goal.returns-in-Ok-length-clause-handy
returns-in-Ok-length-clause-handy g c told =
    keeps_handy_twice c.args.hints.now.cache c.locate.new.hints.cache c.length-2.new.hints.cache c.locate.ensures.looks told (c.locate.ensures.handy told) (c.length-2.ensures.handy told)

pub returns-in-Err-length-clause-looks : goal.returns-in-Err-length-clause-looks
returns-in-Err-length-clause-looks g c =
    looks_twice 131174 c.locate.ensures.looks c.length-2.ensures.looks (omega (arith, c.in-Some.ensures.most))

pub returns-in-Err-length-clause-handy : goal.returns-in-Err-length-clause-handy
returns-in-Err-length-clause-handy g c told =
    keeps_handy_twice c.args.hints.now.cache c.locate.new.hints.cache c.length-2.new.hints.cache c.locate.ensures.looks told (c.locate.ensures.handy told) (c.length-2.ensures.handy told)
