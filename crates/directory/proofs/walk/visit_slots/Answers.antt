use Rattle.std.proofs.Common.{◌≡◌, ◌≤◌, ◌⊎◌, ◌+◌, ◌/◌, ◌∙◌, Err, [], ℕ, Some, inl, inr, refl, sym, take, ap, subst, arith}
use Rattle.std.specs.List.{FoldsTo}
use Rattle.disk_records.proofs.Looking.{looks_none, looks_pack, looks_twice}
use Rattle.disk_records.specs.Packs.{Pack, carried}
use Rattle.disk_records.specs.Tapes.{pack}
use Rattle.hint_cache.specs.Caches.{Cached}
use Rattle.file_pages.specs.label_check.specs.declared.errors.PageInfo.{PageInfo}
use Rattle.pack_model.specs.hints.Links.{LinksTrue, dir_slots}
use Rattle.pack_model.specs.hints.Misled.{IsOnDisk}
use Rattle.page_seeking.specs.Refs.{FileIsFrom, FileIsRooted, FileStands, IfBeyond, IsOwnHint, MisledBy}
use Rattle.page_seeking.specs.Parts.{IsListed}
use Rattle.page_seeking.specs.Seeking.{IsEnd, KeepsHandy, Quick, Refused, Stands, page_number}
use Rattle.page_seeking.proofs.Erring.{if_misled_map}
use Rattle.page_seeking.proofs.Listing.{is_listed, listed_since}
use Rattle.page_seeking.proofs.Parting.{few_bytes}
use Rattle.page_seeking.proofs.Seeking.{misled_before}
use Rattle.directory.specs.Found.{IsQuick, ListsLastPage}
use Rattle.directory.proofs.Paging.{ends_full, take_short, visited_all, visited_none}
use Rattle.directory.proofs.Quickly.{IsAhead, ahead_first, handy_twice}
use Rattle.directory.proofs.Reading.{carries_next, no_page_more, one_page_more}
use Rattle.directory.proofs.Standing.{once_of_whole}
use Rattle.directory.proofs.Walking.{ended_cause, ended_memory, ended_misled, ended_within, last_number, ok_of_beyond, page_last, page_more, quick_end, quick_last, quick_more}
use Rattle.directory.proofs.walk.visit_slots.Goals as goal

pub loop-full-init : goal.loop-full-init
loop-full-init g c =
    let first = g.D.Tape.tape c.args.disk.now in
    let place = c.new-walk.ensures.place in
    let held = c.new-walk.ensures.held in
    record {
      unfailed = refl;
      walks = ([], c.new-walk.ensures.start);
      taken = omega (arith, place, held);
      looks = looks_none _ first;
      runs = λ told. omega arith;
      carries = λ told n some none. absurd (omega (arith, some, none));
      table = refl;
      refused = omega arith;
      handy = λ told whole links f handy. handy;
      visited = λ told once. visited_none g.V.Visit.step (pack first) c.args.dir.now.fid c.new-walk.result c.args.visitor.now c.new-walk.ensures.start c.new-walk.ensures.none;
      listed = λ some. absurd (omega (arith, some));
      ahead = λ told quick. ahead_first (pack first) c.args.dir.now.fid _ c.args.hints.now.cache first refl;
    }

pub shared_ref_as_front-words : goal.shared_ref_as_front-words
shared_ref_as_front-words g c = let few = few_bytes c.in-Ok.ensures.seen in let same = c.from.ensures in omega (arith, few, same)

pub visit_words-requires-clause-walks : goal.visit_words-requires-clause-walks
visit_words-requires-clause-walks g c = c.loop-full.invariant.walks

pub returns-in-Err-visit_words-clause-looks : goal.returns-in-Err-visit_words-clause-looks
returns-in-Err-visit_words-clause-looks g c = looks_twice _ c.loop-full.invariant.looks c.locate.ensures.looks (omega arith)

pub returns-in-Err-visit_words-clause-handy : goal.returns-in-Err-visit_words-clause-handy
returns-in-Err-visit_words-clause-handy g c = λ told.
    subst (λ (k : Cached). KeepsHandy (pack (g.D.Tape.tape c.args.disk.now)) c.args.hints.now.cache k) (sym c.visit_words.ensures.same)
    (handy_twice (pack (g.D.Tape.tape c.args.disk.now)) (pack (g.D.Tape.tape c.loop-full.disk)) c.args.hints.now.cache c.loop-full.hints.cache c.locate.new.hints.cache (looks_pack c.loop-full.invariant.looks told) (c.loop-full.invariant.handy told) (c.locate.ensures.handy told))

pub returns-then-info-ne-PAGE_BYTES-clause-looks : goal.returns-then-info-ne-PAGE_BYTES-clause-looks
returns-then-info-ne-PAGE_BYTES-clause-looks g c = looks_twice _ c.loop-full.invariant.looks c.locate.ensures.looks (omega arith)

pub returns-then-info-ne-PAGE_BYTES-clause-handy : goal.returns-then-info-ne-PAGE_BYTES-clause-handy
returns-then-info-ne-PAGE_BYTES-clause-handy g c = λ told.
    subst (λ (k : Cached). KeepsHandy (pack (g.D.Tape.tape c.args.disk.now)) c.args.hints.now.cache k) (sym c.visit_words.ensures.same)
    (handy_twice (pack (g.D.Tape.tape c.args.disk.now)) (pack (g.D.Tape.tape c.loop-full.disk)) c.args.hints.now.cache c.loop-full.hints.cache c.locate.new.hints.cache (looks_pack c.loop-full.invariant.looks told) (c.loop-full.invariant.handy told) (c.locate.ensures.handy told))

pub returns-then-info-ne-PAGE_BYTES-clause-visited : goal.returns-then-info-ne-PAGE_BYTES-clause-visited
returns-then-info-ne-PAGE_BYTES-clause-visited g c = λ told found.
    let inv = c.loop-full.invariant in
    let p = pack (g.D.Tape.tape c.args.disk.now) in
    let f = c.args.dir.now.fid in
    let once = found.once in
    let stands = subst (λ (q : Pack). Stands q (page_number f (c.loop-full.full + 1)) c.in-Ok.field-0-0 c.locate.new.buf) (looks_pack inv.looks told) (c.in-Ok.ensures.stands told) in
    page_last p f c.loop-full.full c.in-Ok.field-0-0 (g.D.Tape.tape c.loop-full.disk).form c.in-Ok.info c.locate.new.buf once c.in-Ok.ensures.seen stands g.V.Visit.step _ c.loop-full.walk c.visit_words.new.walk c.args.visitor.now c.loop-full.visitor c.visit_words.new.visitor
    (ap (λ n. take (n / 2) c.locate.new.buf.value) c.from.ensures) (inv.visited told once) c.in-Ok-visit_words.ensures.visits c.if-info-ne-PAGE_BYTES.true

pub returns-then-info-ne-PAGE_BYTES-clause-quick : goal.returns-then-info-ne-PAGE_BYTES-clause-quick
returns-then-info-ne-PAGE_BYTES-clause-quick g c = λ told quick.
    let inv = c.loop-full.invariant in
    let old = g.D.Tape.tape c.args.disk.now in
    let here = g.D.Tape.tape c.loop-full.disk in
    let f = c.args.dir.now.fid in
    let same = looks_pack inv.looks told in
    let once = once_of_whole (pack old) quick.whole in
    let stands = subst (λ (q : Pack). Stands q (page_number f (c.loop-full.full + 1)) c.in-Ok.field-0-0 c.locate.new.buf) same (c.in-Ok.ensures.stands told) in
    subst (λ (k : Cached). IsQuick (pack old) f c.args.hints.now.cache k old (g.D.Tape.tape c.locate.new.disk)) (sym c.visit_words.ensures.same)
    (quick_last (pack old) f c.loop-full.full c.in-Ok.field-0-0 here.form c.in-Ok.info c.locate.new.buf once c.in-Ok.ensures.seen stands c.args.hints.now.cache c.loop-full.hints.cache c.locate.new.hints.cache old here (g.D.Tape.tape c.locate.new.disk) (inv.ahead told quick) c.locate.ensures.refused
    (λ first. c.in-Ok.ensures.quick told (subst (λ (q : Pack). Quick q f c.loop-full.hints.cache) (sym same) (subst (λ (k : Cached). Quick (pack old) f k) (sym first) quick)))
    (λ i listed carries. c.locate.ensures.soon i told listed (subst (λ (q : Pack). carried q i ≡ Some (page_number f (c.loop-full.full + 1))) (sym same) carries))
    (inv.visited told once).before c.if-info-ne-PAGE_BYTES.true)

pub returns-in-Err-clause-visited : goal.returns-in-Err-clause-visited
returns-in-Err-clause-visited g c = λ told found.
    let inv = c.loop-full.invariant in
    let same = looks_pack inv.looks told in
    let old = g.D.Tape.tape c.args.disk.now in
    let f = c.args.dir.now.fid in
    ok_of_beyond (FoldsTo g.V.Visit.step c.args.visitor.now (dir_slots (pack old) f) c.loop-full.visitor) (ℕ × PageInfo) (pack old) f c.loop-full.full c.in-Err.error c.ended.result c.ended.ensures found.once (inv.visited told found.once).before
    (subst (λ (q : Pack). IfBeyond {T = ℕ × PageInfo} (Err c.in-Err.error) (IsEnd q f (c.loop-full.full + 1))) same (c.in-Err.ensures.ends told))

pub returns-in-Err-clause-misled : goal.returns-in-Err-clause-misled
returns-in-Err-clause-misled g c = λ told found.
    let inv = c.loop-full.invariant in
    let same = looks_pack inv.looks told in
    let f = c.args.dir.now.fid in
    let from : FileIsFrom (pack (g.D.Tape.tape c.loop-full.disk)) c.args.dir.now = subst (λ (q : Pack). FileIsFrom q c.args.dir.now) (sym same) found.from in
    ended_misled (ℕ × PageInfo) (MisledBy (pack (g.D.Tape.tape c.args.disk.now)) [] f) c.in-Err.error c.ended.result c.ended.ensures
    (if_misled_map {T = ℕ × PageInfo} (Err c.in-Err.error) (c.in-Err.ensures.misled told from) (λ place at wanted found x. misled_before inv.looks told x))

pub returns-in-Err-clause-on_disk : goal.returns-in-Err-clause-on_disk
returns-in-Err-clause-on_disk g c = λ told rooted.
    let same = looks_pack c.loop-full.invariant.looks told in
    ended_misled (ℕ × PageInfo) (λ place at wanted found. IsOnDisk place) c.in-Err.error c.ended.result c.ended.ensures
    (c.in-Err.ensures.on_disk told (subst (λ (q : Pack). FileIsRooted q c.args.dir.now) (sym same) rooted))

pub returns-in-Err-clause-hint : goal.returns-in-Err-clause-hint
returns-in-Err-clause-hint g c = ended_misled (ℕ × PageInfo) (IsOwnHint c.args.dir.now) c.in-Err.error c.ended.result c.ended.ensures c.in-Err.ensures.hint

pub returns-in-Err-clause-true_links : goal.returns-in-Err-clause-true_links
returns-in-Err-clause-true_links g c = λ told stands links.
    let same = looks_pack c.loop-full.invariant.looks told in
    ended_misled (ℕ × PageInfo) (λ place at wanted found. ⊥) c.in-Err.error c.ended.result c.ended.ensures
    (c.in-Err.ensures.true_links told (subst (λ (q : Pack). FileStands q c.args.dir.now) (sym same) stands.stands) (subst LinksTrue (sym same) links))

pub returns-in-Err-clause-listed : goal.returns-in-Err-clause-listed
returns-in-Err-clause-listed g c = λ told found.
    let inv = c.loop-full.invariant in
    let same = looks_pack inv.looks told in
    let old = g.D.Tape.tape c.args.disk.now in
    let f = c.args.dir.now.fid in
    ok_of_beyond (ListsLastPage g.D.Tape.told (pack old) f c.args.hints.now.cache c.locate.new.hints.cache) (ℕ × PageInfo) (pack old) f c.loop-full.full c.in-Err.error c.ended.result c.ended.ensures found.once (inv.visited told found.once).before
    (subst (λ (q : Pack). IfBeyond {T = ℕ × PageInfo} (Err c.in-Err.error) (IsEnd q f (c.loop-full.full + 1))) same (c.in-Err.ensures.ends told))

pub returns-then-info-ne-PAGE_BYTES-clause-listed : goal.returns-then-info-ne-PAGE_BYTES-clause-listed
returns-then-info-ne-PAGE_BYTES-clause-listed g c = λ told found.
    let inv = c.loop-full.invariant in
    let p = pack (g.D.Tape.tape c.args.disk.now) in
    let f = c.args.dir.now.fid in
    let stands = subst (λ (q : Pack). Stands q (page_number f (c.loop-full.full + 1)) c.in-Ok.field-0-0 c.locate.new.buf) (looks_pack inv.looks told) (c.in-Ok.ensures.stands told) in
    subst (λ (k : Cached). ListsLastPage g.D.Tape.told p f c.args.hints.now.cache k) (sym c.visit_words.ensures.same)
    (record {
      number = c.loop-full.full + 1;
      is = inl (last_number p f c.loop-full.full c.in-Ok.field-0-0 (g.D.Tape.tape c.loop-full.disk).form c.in-Ok.info c.locate.new.buf found.once c.in-Ok.ensures.seen stands (inv.visited told found.once).before c.if-info-ne-PAGE_BYTES.true);
      listed = listed_since c.args.hints.now.cache c.loop-full.hints.cache c.locate.new.hints.cache c.loop-full.invariant.looks c.loop-full.invariant.refused (is_listed g.D.Tape.told (pack (g.D.Tape.tape c.loop-full.disk)) c.in-Ok.ensures.listed (λ told. (c.in-Ok.ensures.stands told).carries));
    })

pub returns-clause-listed : goal.returns-clause-listed
returns-clause-listed g c = λ told found.
    let inv = c.loop-full.invariant in
    let p = pack (g.D.Tape.tape c.args.disk.now) in
    let f = c.args.dir.now.fid in
    let top : c.loop-full.full ≡ 65535 = omega arith in
    let end = ends_full p f c.loop-full.full (inv.visited told found.once).before top in
    record { number = c.loop-full.full; is = inr (top, omega (arith, top, end)); listed = inv.listed (omega (arith, top)) }

pub returns-in-Err-clause-never_beyond : goal.returns-in-Err-clause-never_beyond
returns-in-Err-clause-never_beyond g c = ended_within c.in-Err.error c.ended.result c.ended.ensures

pub returns-in-Err-clause-cause : goal.returns-in-Err-clause-cause
returns-in-Err-clause-cause g c = ended_cause (g.D.Tape.tape c.args.disk.now) (g.D.Tape.tape c.loop-full.disk) (g.D.Tape.tape c.locate.new.disk) c.in-Err.error c.ended.result c.ended.ensures c.loop-full.invariant.unfailed c.in-Err.ensures.cause

pub returns-in-Err-clause-want : goal.returns-in-Err-clause-want
returns-in-Err-clause-want g c = λ told memory. absurd (c.in-Err.ensures.want told (ended_memory (ℕ × PageInfo) c.in-Err.error c.ended.result c.ended.ensures memory))

pub returns-in-Err-clause-looks : goal.returns-in-Err-clause-looks
returns-in-Err-clause-looks g c = looks_twice _ c.loop-full.invariant.looks c.locate.ensures.looks (omega arith)

pub returns-in-Err-clause-handy : goal.returns-in-Err-clause-handy
returns-in-Err-clause-handy g c = λ told. handy_twice (pack (g.D.Tape.tape c.args.disk.now)) (pack (g.D.Tape.tape c.loop-full.disk)) c.args.hints.now.cache c.loop-full.hints.cache c.locate.new.hints.cache (looks_pack c.loop-full.invariant.looks told) (c.loop-full.invariant.handy told) (c.locate.ensures.handy told)

pub returns-in-Err-clause-quick : goal.returns-in-Err-clause-quick
returns-in-Err-clause-quick g c = λ told quick.
    let inv = c.loop-full.invariant in
    let same = looks_pack inv.looks told in
    let old = g.D.Tape.tape c.args.disk.now in
    let f = c.args.dir.now.fid in
    ok_of_beyond (IsQuick (pack old) f c.args.hints.now.cache c.locate.new.hints.cache old (g.D.Tape.tape c.locate.new.disk)) (ℕ × PageInfo) (pack old) f c.loop-full.full c.in-Err.error c.ended.result c.ended.ensures (once_of_whole (pack old) quick.whole) (inv.visited told (once_of_whole (pack old) quick.whole)).before
    (subst (λ (q : Pack). IfBeyond {T = ℕ × PageInfo} (Err c.in-Err.error) (IsEnd q f (c.loop-full.full + 1))) same (c.in-Err.ensures.ends told))

pub loop-full-preserved : goal.loop-full-preserved
loop-full-preserved g c =
    let inv = c.loop-full.invariant in
    let old = g.D.Tape.tape c.args.disk.now in
    let here = g.D.Tape.tape c.loop-full.disk in
    let p = pack old in
    let f = c.args.dir.now.fid in
    let k = c.loop-full.full in
    let few = few_bytes c.in-Ok.ensures.seen in
    let same_bytes = c.from.ensures in
    let taken = c.in-Ok-visit_words.ensures.taken in
    let kept = sym c.visit_words.ensures.same in
    record {
      unfailed = c.in-Ok.ensures.cause ∙ inv.unfailed;
      walks = let w = inv.walks in (_, (c.in-Ok-visit_words.ensures.visits w.0 w.1).walked);
      taken = let more = take_short (c.from.result / 2) c.locate.new.buf.value in let before = inv.taken in omega (arith, before, taken, more, few, same_bytes);
      looks = looks_twice _ inv.looks c.locate.ensures.looks (omega arith);
      runs = λ told. one_page_more _ k (inv.runs told) (c.locate.ensures.looks.runs told);
      carries = λ told. carries_next p f k c.in-Ok.field-0-0 (ap (λ (q : Pack). carried q c.in-Ok.field-0-0) (sym (looks_pack inv.looks told)) ∙ (c.in-Ok.ensures.stands told).carries) (inv.carries told);
      table = c.locate.ensures.table ∙ inv.table;
      refused = let a = inv.refused in let b = c.locate.ensures.refused in subst (λ (k : Cached). c.args.hints.now.cache.refused ≤ k.refused) kept (omega (arith, a, b));
      handy = λ told. subst (λ (k : Cached). KeepsHandy p c.args.hints.now.cache k) kept (handy_twice p (pack here) c.args.hints.now.cache c.loop-full.hints.cache c.locate.new.hints.cache (looks_pack inv.looks told) (inv.handy told) (c.locate.ensures.handy told));
      visited = λ told once.
          let stands = subst (λ (q : Pack). Stands q (page_number f (k + 1)) c.in-Ok.field-0-0 c.locate.new.buf) (looks_pack inv.looks told) (c.in-Ok.ensures.stands told) in
          page_more p f k c.in-Ok.field-0-0 here.form c.in-Ok.info c.locate.new.buf once c.in-Ok.ensures.seen stands g.V.Visit.step _ c.loop-full.walk c.visit_words.new.walk c.args.visitor.now c.loop-full.visitor c.visit_words.new.visitor
          (ap (λ n. take (n / 2) c.locate.new.buf.value) c.from.ensures) (inv.visited told once) c.in-Ok-visit_words.ensures.visits c.if-info-ne-PAGE_BYTES.false;
      listed = λ some. subst (λ (x : Cached). IsListed g.D.Tape.told p (page_number f (k + 1)) x ⊎ Refused c.args.hints.now.cache x) kept
          (listed_since c.args.hints.now.cache c.loop-full.hints.cache c.locate.new.hints.cache c.loop-full.invariant.looks c.loop-full.invariant.refused (is_listed g.D.Tape.told (pack (g.D.Tape.tape c.loop-full.disk)) c.in-Ok.ensures.listed (λ told. (c.in-Ok.ensures.stands told).carries)));
      ahead = λ told quick.
          let same = looks_pack inv.looks told in
          let once = once_of_whole p quick.whole in
          let stands = subst (λ (q : Pack). Stands q (page_number f (k + 1)) c.in-Ok.field-0-0 c.locate.new.buf) same (c.in-Ok.ensures.stands told) in
          subst (λ (x : Cached). IsAhead p f (k + 1 + 1) c.args.hints.now.cache x old (g.D.Tape.tape c.locate.new.disk)) kept
          (quick_more p f k c.in-Ok.field-0-0 here.form c.in-Ok.info c.locate.new.buf once c.in-Ok.ensures.seen stands c.args.hints.now.cache c.loop-full.hints.cache c.locate.new.hints.cache old here (g.D.Tape.tape c.locate.new.disk) (inv.ahead told quick) c.locate.ensures.refused
          (λ first. c.in-Ok.ensures.quick told (subst (λ (q : Pack). Quick q f c.loop-full.hints.cache) (sym same) (subst (λ (x : Cached). Quick p f x) (sym first) quick)))
          (λ i listed carries. c.locate.ensures.soon i told listed (subst (λ (q : Pack). carried q i ≡ Some (page_number f (c.loop-full.full + 1))) (sym same) carries))
          quick.whole quick.links c.if-info-ne-PAGE_BYTES.false inv.refused (sym inv.looks.alone.grown.form) c.in-Ok.ensures.listed);
    }

pub returns-clause-visited : goal.returns-clause-visited
returns-clause-visited g c = λ told found.
    let p = pack (g.D.Tape.tape c.args.disk.now) in
    visited_all g.V.Visit.step p c.args.dir.now.fid c.loop-full.full c.loop-full.walk c.args.visitor.now c.loop-full.visitor (omega arith) (c.loop-full.invariant.visited told (found.once))

pub returns-clause-quick : goal.returns-clause-quick
returns-clause-quick g c = λ told quick.
    let p = pack (g.D.Tape.tape c.args.disk.now) in
    let inv = c.loop-full.invariant in
    quick_end p c.args.dir.now.fid c.loop-full.full c.args.hints.now.cache c.loop-full.hints.cache (g.D.Tape.tape c.args.disk.now) (g.D.Tape.tape c.loop-full.disk) (inv.visited told (once_of_whole p quick.whole)).before (omega arith) (inv.ahead told quick)

-- ---- pages that were read
pub returns-in-Err-clause-pages : goal.returns-in-Err-clause-pages
returns-in-Err-clause-pages g c = λ told. let inv = c.loop-full.invariant in record { last = c.loop-full.full; carries = inv.carries told; runs = one_page_more _ c.loop-full.full (inv.runs told) (c.locate.ensures.looks.runs told) }

pub returns-in-Err-visit_words-clause-pages : goal.returns-in-Err-visit_words-clause-pages
returns-in-Err-visit_words-clause-pages g c = λ told. let inv = c.loop-full.invariant in record { last = c.loop-full.full; carries = inv.carries told; runs = one_page_more _ c.loop-full.full (inv.runs told) (c.locate.ensures.looks.runs told) }

pub returns-then-info-ne-PAGE_BYTES-clause-pages : goal.returns-then-info-ne-PAGE_BYTES-clause-pages
returns-then-info-ne-PAGE_BYTES-clause-pages g c = λ told. let inv = c.loop-full.invariant in record { last = c.loop-full.full; carries = inv.carries told; runs = one_page_more _ c.loop-full.full (inv.runs told) (c.locate.ensures.looks.runs told) }

pub returns-clause-pages : goal.returns-clause-pages
returns-clause-pages g c = λ told. let inv = c.loop-full.invariant in record { last = c.loop-full.full; carries = inv.carries told; runs = no_page_more _ c.loop-full.full (inv.runs told) }
