use Rattle.std.proofs.Common.{◌≡◌, ◌≢◌, ℕ, Err, ◌+◌, ◌-◌, ◌/◌, ◌%◌, inl, refl, take, drop, Some, subst, sym, ap, ◌∙◌, arith, IfOk}
use Rattle.disk_records.specs.Packs.{Pack, carried}
use Rattle.disk_records.specs.Tapes.{pack}
use Rattle.disk_records.proofs.Looking.{looks_pack}
use Rattle.hint_cache.specs.Caches.{address_in}
use Rattle.laws_contents.specs.PageLaws.{FullBefore}
use Rattle.pack_model.specs.reading.Files.{file_bytes}
use Rattle.pack_model.specs.reading.Sights.{sights}
use Rattle.pack_model.specs.states.Sentences.{EachOnce}
use Rattle.page_seeking.specs.Parts.{IsReadTo, IsWithinPart}
use Rattle.page_seeking.specs.Seeking.{page_number}
use Rattle.page_seeking.proofs.Easing.{eases_of}
use Rattle.page_seeking.proofs.Erring.{if_beyond_map, if_ok_map, on_ok}
use Rattle.page_seeking.proofs.Ending.{end_is_length}
use Rattle.page_seeking.proofs.Lasting.{ends_at, most_length}
use Rattle.page_seeking.proofs.Once.{end_once, full_before_known, full_before_less, length_of_all, length_once}
use Rattle.page_seeking.proofs.Parting.{few_bytes, page_bytes, read_more}
use Rattle.page_seeking.proofs.Stopping.{last_before, stops_before}
use Rattle.page_seeking.proofs.Seeking.{ends_of, known_later, known_of, sought_more, sought_twice}
use Rattle.page_seeking.proofs.read.read_pages.Goals as goal

pub returns-in-Ok-clause-beyond : goal.returns-in-Ok-clause-beyond
returns-in-Ok-clause-beyond g c told whole =
    let ends = ends_of c.in-Ok.ensures.ends c.in-Ok.ensures.found in
    let size = c.length_at.ensures ∙ ends_at whole told ends in
    let most = most_length whole told ends in
    let none = c.in_default.ensures.none in
    record { is = size; past = omega (arith, size, most, none) }

pub returns-in-Ok-clause-beyond_once : goal.returns-in-Ok-clause-beyond_once
returns-in-Ok-clause-beyond_once g c told once before = c.length_at.ensures ∙ length_of_all (c.args.offset / 512) once told before c.in_default.ensures.none (ends_of c.in-Ok.ensures.ends c.in-Ok.ensures.found)

pub returns-in-Ok-clause-never_beyond : goal.returns-in-Ok-clause-never_beyond
returns-in-Ok-clause-never_beyond g c zeroth = let none = c.in_default.ensures.none in absurd (omega (arith, zeroth, none))

pub returns-then-from-found-clause-beyond_once : goal.returns-then-from-found-clause-beyond_once
returns-then-from-found-clause-beyond_once g c told once before =
    let over = c.if-from-found.true in
    let some = c.in-Some.ensures.some.0 in
    let short : c.in-Ok-seek_page.found.info.bytes ≢ 512 = λ full. omega (arith, full, over) in
    let number : c.args.offset / 512 ≡ c.in-Some.number - 1 = omega (arith, some) in
    c.length_at-then-from-found.ensures ∙ length_once once told (subst (FullBefore (pack (g.D.Tape.tape c.args.disk.now)) c.args.file.now.fid) number before) (record { first = omega (arith, some); known = known_of c.in-Ok-seek_page.ensures.found; ends = inl short })

pub returns-then-from-found-clause-never_beyond : goal.returns-then-from-found-clause-never_beyond
returns-then-from-found-clause-never_beyond g c zeroth = let over = c.if-from-found.true in absurd (omega (arith, zeroth, over))

pub returns-then-from-found-clause-beyond : goal.returns-then-from-found-clause-beyond
returns-then-from-found-clause-beyond g c told whole =
    let over = c.if-from-found.true in
    let some = c.in-Some.ensures.some.0 in
    let short : c.in-Ok-seek_page.found.info.bytes ≢ 512 = λ full. omega (arith, full, over) in
    let length = c.length_at-then-from-found.ensures in
    record {
      is = length ∙ ends_at whole told (record { first = omega (arith, some); known = known_of c.in-Ok-seek_page.ensures.found; ends = inl short });
      past = omega (arith, length, some, over);
    }

pub returns-in-Err-seek_page-clause-beyond : goal.returns-in-Err-seek_page-clause-beyond
returns-in-Err-seek_page-clause-beyond g c told whole =
    let some = c.in-Some.ensures.some.0 in
    if_beyond_map {T = ℕ} (Err c.in-Err-seek_page.error) (c.in-Err-seek_page.ensures.ends told) (λ n x.
    let end = end_is_length (pack (g.D.Tape.tape c.args.disk.now)) c.args.file.now.fid c.in-Some.number n whole x in
    let below = end.below in
    record { is = end.is; past = omega (arith, below, some) })

pub returns-in-Err-seek_page-clause-beyond_once : goal.returns-in-Err-seek_page-clause-beyond_once
returns-in-Err-seek_page-clause-beyond_once g c told once before =
    let some = c.in-Some.ensures.some.0 in
    if_beyond_map {T = ℕ} (Err c.in-Err-seek_page.error) (c.in-Err-seek_page.ensures.ends told) (λ n x.
    let below = x.below in
    end_once x once (full_before_less (x.last - 1) (omega (arith, below, some)) before))

pub returns-in-Err-seek_page-clause-never_beyond : goal.returns-in-Err-seek_page-clause-never_beyond
returns-in-Err-seek_page-clause-never_beyond g c zeroth = let some = c.in-Some.ensures.some.0 in c.in-Err-seek_page.ensures.never_beyond (omega (arith, zeroth, some))

pub returns-clause-reached : goal.returns-clause-reached
returns-clause-reached g c told whole =
    let some = c.in-Some.ensures.some.0 in
    let number : c.in-Some.number - 1 ≡ c.args.offset / 512 = omega (arith, some) in
    on_ok c.read_on.result (subst (FullBefore (pack (g.D.Tape.tape c.args.disk.now)) c.args.file.now.fid) number (full_before_known whole told (omega (arith, some)) (known_of c.in-Ok-seek_page.ensures.found)))

pub put_part-front-requires-clause-page : goal.put_part-front-requires-clause-page
put_part-front-requires-clause-page g c = let few = few_bytes c.in-Ok-seek_page.ensures.found.seen in omega (arith, c.from.ensures, few)

pub returns-clause-sought : goal.returns-clause-sought
returns-clause-sought g c = let most = c.in-Some.ensures.some.1 in sought_more (omega (arith, most)) (sought_twice c.seek_page.ensures.sought c.read_on.ensures.sought)

pub returns-clause-quick : goal.returns-clause-quick
returns-clause-quick g c told quick =
    let sought = c.in-Ok-seek_page.ensures.quick c.in-Ok-seek_page.found.at told (eases_of quick (c.in-Ok-seek_page.ensures.found.stands told).carries) in
    if_ok_map c.read_on.result (c.read_on.ensures.quick told) (λ n h. omega (arith, h, sought))

pub returns-clause-stops : goal.returns-clause-stops
returns-clause-stops g c =
    let some = c.in-Some.ensures.some.0 in
    let sought = c.seek_page.ensures.sought in
    if_ok_map c.read_on.result c.read_on.ensures.stops (λ n x. stops_before sought.looks sought.refused (omega (arith, some)) c.in-Ok-seek_page.ensures.found x)

pub returns-clause-last : goal.returns-clause-last
returns-clause-last g c =
    let some = c.in-Some.ensures.some.0 in
    let sought = c.seek_page.ensures.sought in
    let found = c.in-Ok-seek_page.ensures.found in
    let few = few_bytes found.seen in
    if_ok_map c.read_on.result (c.read_on.ensures.last (omega (arith, some)) few) (λ n x least. last_before (record { number = c.in-Some.number; found = c.in-Ok-seek_page.found }) (c.args.offset + n) c.read_on.new.cache sought.looks sought.refused c.read_on.ensures.sought.refused found (x least))

pub returns-clause-filled : goal.returns-clause-filled
returns-clause-filled g c at told listed carries =
    let some = c.in-Some.ensures.some.0 in
    let number = sym some in
    let f = c.args.file.now.fid in
    let old = g.D.Tape.tape c.args.disk.now in
    let sought = c.seek_page.ensures.soon at told (subst (λ n. address_in c.args.cache.now.entries (page_number f n) ≡ Some at) number listed) (subst (λ n. carried (pack old) at ≡ Some (page_number f n)) number carries) in
    let size = c.put_part-front.auto.out in
    if_ok_map c.read_on.result (c.read_on.ensures.filled told (omega (arith, some))) (λ n few least all. let runs = few least (omega (arith, all, size)) in omega (arith, runs, sought, some))

pub returns-clause-read : goal.returns-clause-read
returns-clause-read g c told once before =
    let old = pack (g.D.Tape.tape c.args.disk.now) in
    let f = c.args.file.now.fid in
    let offset = c.args.offset in
    let first = c.args.out.now in
    let count = c.put_part-front.result in
    let found = c.in-Ok-seek_page.ensures.found in
    let looks = c.seek_page.ensures.sought.looks in
    let same = looks_pack looks told in
    let known = known_of found in
    let some = c.in-Some.ensures.some.0 in
    let under = c.if-from-found.false in
    let many = c.put_part-front.ensures.count in
    let word = c.from.ensures in
    let number : offset / 512 ≡ c.in-Some.number - 1 = omega (arith, some) in
    let full = subst (FullBefore old f) number before in
    let part = page_bytes offset (offset % 512) count once full told (omega (arith, some)) known (found.stands told).holds (omega (arith, some)) (omega arith) (omega (arith, many, under, word)) in
    let bytes = file_bytes (sights old) f in
    let there = part.1 in
    let start : IsReadTo bytes offset 0 first first = record { there = omega (arith, there); most = omega arith; read = refl } in
    let on : offset ≡ offset + 0 = omega arith in
    let none : 0 + count ≡ count = omega arith in
    let more = read_more bytes first first _ offset 0 count start (part.0 ∙ ap (λ k. take count (drop k bytes)) on) (omega (arith, there)) (omega (arith, many)) in
    let put : IsReadTo bytes offset (0 + count) first c.put_part-front.new.out = subst (IsReadTo bytes offset (0 + count) first) (sym c.put_part-front.ensures.put) more in
    let front = subst (λ n. IsReadTo bytes offset n first c.put_part-front.new.out) none put in
    subst (λ (p : Pack). IfOk c.read_on.result (IsWithinPart (file_bytes (sights p) f) offset first c.read_on.new.out)) same
    (c.read_on.ensures.read first told (subst (λ (p : Pack). EachOnce (sights p)) (sym same) once) (subst (λ (p : Pack). FullBefore p f (c.in-Some.number - 1)) (sym same) full) (known_later looks known) (subst (λ (p : Pack). IsReadTo (file_bytes (sights p) f) offset count first c.put_part-front.new.out) (sym same) front))
