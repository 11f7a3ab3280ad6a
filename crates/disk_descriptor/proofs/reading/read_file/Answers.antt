use Rattle.std.proofs.Common.{◌+◌, ◌<◌, ◌∙◌, Err, [], ℕ, arith, refl, subst, sym}
use Rattle.disk_records.proofs.Looking.{looks_none, looks_pack, looks_twice}
use Rattle.disk_records.specs.Addresses.{pages_of}
use Rattle.disk_records.specs.Packs.{Pack}
use Rattle.disk_records.specs.Tapes.{pack}
use Rattle.disk_records.specs.declared.shape.Shape.{Shape}
use Rattle.label_check.specs.declared.errors.PageInfo.{PageInfo}
use Rattle.pack_model.specs.hints.Misled.{IsOnDisk}
use Rattle.page_seeking.proofs.Erring.{if_misled_map}
use Rattle.page_seeking.proofs.Seeking.{misled_before}
use Rattle.page_seeking.specs.Refs.{FileIsFrom, FileIsRooted, IfBeyond, MisledBy}
use Rattle.page_seeking.specs.Seeking.{IsEnd, Stands, page_number}
use Rattle.disk_descriptor.proofs.FirstPage.{first_goes_on}
use Rattle.disk_descriptor.proofs.PagesRead.{cause_before, handy_twice, misled_as, never_past, read_all_pages, read_last, read_more, read_none, sectors_kept}
use Rattle.disk_descriptor.proofs.reading.read_file.Goals as goal

pub loop-full-init : goal.loop-full-init
loop-full-init g c =
    let first = g.D.Tape.tape c.args.disk.now in
    record {
      many = omega arith;
      room = omega arith;
      sectors = c.requires.sectors;
      looks = looks_none _ first;
      unfailed = refl;
      first_page = λ told some. absurd (omega (arith, some));
      table = refl;
      refused = omega arith;
      handy = λ told whole links f handy. handy;
      read = λ told once. read_none (pack first) c.args.file.now.fid c.args.words.now c.args.pages.now;
    }

pub returns-then-info-ne-PAGE_BYTES-clause-read : goal.returns-then-info-ne-PAGE_BYTES-clause-read
returns-then-info-ne-PAGE_BYTES-clause-read g c = λ told once.
    let inv = c.loop-full.invariant in
    let p = pack (g.D.Tape.tape c.args.disk.now) in
    let f = c.args.file.now.fid in
    let kept = c.keep_page.ensures in
    let stands = subst (λ (q : Pack). Stands q (page_number f (c.loop-full.full + 1)) c.in-Ok.at c.locate.new.buf) (looks_pack inv.looks told) (c.in-Ok.ensures.stands told) in
    read_last p f c.loop-full.full c.in-Ok.at (g.D.Tape.tape c.loop-full.disk).form c.in-Ok.info c.locate.new.buf c.loop-full.words c.loop-full.pages c.keep_page.new.words c.keep_page.new.pages once c.in-Ok.ensures.seen stands (inv.read told once) inv.many inv.room kept.words kept.pages kept.others c.if-info-ne-PAGE_BYTES.true

pub returns-then-info-ne-PAGE_BYTES-clause-first_page : goal.returns-then-info-ne-PAGE_BYTES-clause-first_page
returns-then-info-ne-PAGE_BYTES-clause-first_page g c = λ told.
    let inv = c.loop-full.invariant in
    let kept = c.keep_page.ensures in
    let f = c.args.file.now.fid in
    let stands = subst (λ (q : Pack). Stands q (page_number f (c.loop-full.full + 1)) c.in-Ok.at c.locate.new.buf) (looks_pack inv.looks told) (c.in-Ok.ensures.stands told) in
    first_goes_on (pack (g.D.Tape.tape c.args.disk.now)) f c.loop-full.full c.in-Ok.at (g.D.Tape.tape c.loop-full.disk).form c.in-Ok.info c.locate.new.buf c.loop-full.words c.keep_page.new.words c.in-Ok.ensures.seen stands inv.many kept.words kept.other_words (inv.first_page told)

pub returns-then-info-ne-PAGE_BYTES-clause-sectors : goal.returns-then-info-ne-PAGE_BYTES-clause-sectors
returns-then-info-ne-PAGE_BYTES-clause-sectors g c =
    let inv = c.loop-full.invariant in
    let seen = c.in-Ok.ensures.seen in
    let kept = c.keep_page.ensures in
    sectors_kept (g.D.Tape.tape c.args.disk.now).form c.loop-full.full c.in-Ok.at c.loop-full.pages c.keep_page.new.pages inv.sectors seen.first (subst (λ (s : Shape). c.in-Ok.at < pages_of s) inv.looks.alone.grown.form seen.last) kept.pages kept.others

pub returns-then-info-ne-PAGE_BYTES-clause-looks : goal.returns-then-info-ne-PAGE_BYTES-clause-looks
returns-then-info-ne-PAGE_BYTES-clause-looks g c = looks_twice _ c.loop-full.invariant.looks c.locate.ensures.looks (omega arith)

pub returns-then-info-ne-PAGE_BYTES-clause-handy : goal.returns-then-info-ne-PAGE_BYTES-clause-handy
returns-then-info-ne-PAGE_BYTES-clause-handy g c = λ told. handy_twice (pack (g.D.Tape.tape c.args.disk.now)) (pack (g.D.Tape.tape c.loop-full.disk)) c.args.hints.now.cache c.loop-full.hints.cache c.locate.new.hints.cache (looks_pack c.loop-full.invariant.looks told) (c.loop-full.invariant.handy told) (c.locate.ensures.handy told)

pub returns-in-Err-clause-misled : goal.returns-in-Err-clause-misled
returns-in-Err-clause-misled g c = λ told found.
    let inv = c.loop-full.invariant in
    let f = c.args.file.now.fid in
    let from : FileIsFrom (pack (g.D.Tape.tape c.loop-full.disk)) c.args.file.now = subst (λ (q : Pack). FileIsFrom q c.args.file.now) (sym (looks_pack inv.looks told)) found in
    misled_as (ℕ × PageInfo) ℕ (MisledBy (pack (g.D.Tape.tape c.args.disk.now)) [] f) c.in-Err.error
    (if_misled_map {T = ℕ × PageInfo} (Err c.in-Err.error) (c.in-Err.ensures.misled told from) (λ place at wanted found x. misled_before inv.looks told x))

pub returns-in-Err-clause-on_disk : goal.returns-in-Err-clause-on_disk
returns-in-Err-clause-on_disk g c = λ told found.
    let from : FileIsRooted (pack (g.D.Tape.tape c.loop-full.disk)) c.args.file.now = subst (λ (q : Pack). FileIsRooted q c.args.file.now) (sym (looks_pack c.loop-full.invariant.looks told)) found in
    misled_as (ℕ × PageInfo) ℕ (λ place at wanted label. IsOnDisk place) c.in-Err.error (c.in-Err.ensures.on_disk told from)

pub returns-in-Err-clause-beyond : goal.returns-in-Err-clause-beyond
returns-in-Err-clause-beyond g c = λ told once.
    let inv = c.loop-full.invariant in
    let p = pack (g.D.Tape.tape c.args.disk.now) in
    let f = c.args.file.now.fid in
    never_past (ℕ × PageInfo) ℕ p f c.loop-full.full c.in-Err.error once (inv.read told once).before
    (subst (λ (q : Pack). IfBeyond {T = ℕ × PageInfo} (Err c.in-Err.error) (IsEnd q f (c.loop-full.full + 1))) (looks_pack inv.looks told) (c.in-Err.ensures.ends told))

pub returns-in-Err-clause-cause : goal.returns-in-Err-clause-cause
returns-in-Err-clause-cause g c = cause_before (g.D.Tape.tape c.args.disk.now) (g.D.Tape.tape c.loop-full.disk) (g.D.Tape.tape c.locate.new.disk) c.in-Err.error c.loop-full.invariant.unfailed c.in-Err.ensures.cause

pub returns-in-Err-clause-looks : goal.returns-in-Err-clause-looks
returns-in-Err-clause-looks g c = looks_twice _ c.loop-full.invariant.looks c.locate.ensures.looks (omega arith)

pub returns-in-Err-clause-handy : goal.returns-in-Err-clause-handy
returns-in-Err-clause-handy g c = λ told. handy_twice (pack (g.D.Tape.tape c.args.disk.now)) (pack (g.D.Tape.tape c.loop-full.disk)) c.args.hints.now.cache c.loop-full.hints.cache c.locate.new.hints.cache (looks_pack c.loop-full.invariant.looks told) (c.loop-full.invariant.handy told) (c.locate.ensures.handy told)

pub loop-full-preserved : goal.loop-full-preserved
loop-full-preserved g c =
    let inv = c.loop-full.invariant in
    let old = g.D.Tape.tape c.args.disk.now in
    let here = g.D.Tape.tape c.loop-full.disk in
    let p = pack old in
    let f = c.args.file.now.fid in
    let seen = c.in-Ok.ensures.seen in
    let kept = c.keep_page.ensures in
    record {
      many = kept.many;
      room = kept.room;
      sectors = sectors_kept old.form c.loop-full.full c.in-Ok.at c.loop-full.pages c.keep_page.new.pages inv.sectors seen.first (subst (λ (s : Shape). c.in-Ok.at < pages_of s) inv.looks.alone.grown.form seen.last) kept.pages kept.others;
      looks = looks_twice _ inv.looks c.locate.ensures.looks (omega arith);
      unfailed = c.in-Ok.ensures.cause ∙ inv.unfailed;
      first_page = λ told some.
          first_goes_on p f c.loop-full.full c.in-Ok.at here.form c.in-Ok.info c.locate.new.buf c.loop-full.words c.keep_page.new.words seen (subst (λ (q : Pack). Stands q (page_number f (c.loop-full.full + 1)) c.in-Ok.at c.locate.new.buf) (looks_pack inv.looks told) (c.in-Ok.ensures.stands told)) inv.many kept.words kept.other_words (inv.first_page told);
      table = c.locate.ensures.table ∙ inv.table;
      refused = let a = inv.refused in let b = c.locate.ensures.refused in omega (arith, a, b);
      handy = λ told. handy_twice p (pack here) c.args.hints.now.cache c.loop-full.hints.cache c.locate.new.hints.cache (looks_pack inv.looks told) (inv.handy told) (c.locate.ensures.handy told);
      read = λ told once.
          let stands = subst (λ (q : Pack). Stands q (page_number f (c.loop-full.full + 1)) c.in-Ok.at c.locate.new.buf) (looks_pack inv.looks told) (c.in-Ok.ensures.stands told) in
          read_more p f c.loop-full.full c.in-Ok.at here.form c.in-Ok.info c.locate.new.buf c.loop-full.words c.loop-full.pages c.keep_page.new.words c.keep_page.new.pages once seen stands (inv.read told once) inv.many inv.room kept.words kept.pages kept.others c.if-info-ne-PAGE_BYTES.false;
    }

pub returns-clause-read : goal.returns-clause-read
returns-clause-read g c = λ told once. read_all_pages (pack (g.D.Tape.tape c.args.disk.now)) c.args.file.now.fid c.loop-full.full c.loop-full.words c.loop-full.pages (omega arith) (c.loop-full.invariant.read told once)

pub returns-clause-first_page : goal.returns-clause-first_page
returns-clause-first_page g c = λ told. c.loop-full.invariant.first_page told (omega arith)
