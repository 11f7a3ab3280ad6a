use Rattle.std.proofs.Common.{Bool, Err, List, Some, [], ap, inl, inr, refl, subst, sym, ℕ, ◌∙◌, ◌≡◌}
use Rattle.disk_records.proofs.Framing.{writes_after_look, writes_silent}
use Rattle.disk_records.proofs.Growing.{alone_twice}
use Rattle.disk_records.proofs.Looking.{looks_pack}
use Rattle.disk_records.specs.Causes.{never, other}
use Rattle.disk_records.specs.Frames.{IsPageOf}
use Rattle.disk_records.specs.Packs.{Pack, carried}
use Rattle.disk_records.specs.Tapes.{pack}
use Rattle.file_pages.proofs.Valued.{look_leaves_handy, value_after_look, value_leaves_handy, value_operates}
use Rattle.file_pages.specs.Values.{WroteValue}
use Rattle.laws_call.specs.Acting.{IsQuiet, Operates, around}
use Rattle.laws_call.specs.Writing.{entry_freed}
use Rattle.pack_model.specs.operations.Step.Operation.{leave}
use Rattle.page_seeking.specs.Seeking.{page_number}
use Rattle.page_seeking.proofs.Erring.{if_misled_map, on_ok}
use Rattle.directory.specs.Errors.{disk_fault, out_of_memory}
use Rattle.directory.specs.Inside.{found_at}
use Rattle.directory.proofs.Answering.{cause_in, misled_in, not_absent, not_by_slots, on_ok_in, operates_in}
use Rattle.directory.proofs.LeavingEntry.{entry_is_there, freed_is, left_once, quick_written, slot_freed}
use Rattle.directory.proofs.Misleading.{misled_any, misled_map, was_found}
use Rattle.directory.proofs.leaving.free_entry.Goals as goal

pub returns-in-Ok-clause-alone : goal.returns-in-Ok-clause-alone
returns-in-Ok-clause-alone g c = alone_twice c.locate_entry.ensures.looks.alone c.write_page.ensures.alone

pub returns-in-Ok-clause-operates : goal.returns-in-Ok-clause-operates
returns-in-Ok-clause-operates g c told whole tidy found ordinary =
    let a = g.D.Tape.tape c.args.disk.now in
    let d = g.D.Tape.tape c.write_page.new.disk in
    let f = c.args.dir.now.fid in
    let name = c.args.name.now in
    let at = c.in-Ok.at in
    let e = found_at c.in-Ok.entry in
    let looks = c.locate_entry.ensures.looks in
    let bits = c.locate_entry.new.hints.table in
    let stands = c.in-Ok.ensures.stands told in
    let there = entry_is_there (pack a) c.args.dir.now name at e c.locate_entry.new.buf found (c.in-Ok.ensures.named told found) stands in
    let value = freed_is (pack a) f name at there.before there.later e c.locate_entry.new.buf c.put_free.new.value there.named stands.holds c.put_free.ensures in
    let writes = value_after_look bits c.args.tally.now c.write_page.new.tally looks.alone c.write_page.ensures.alone (looks.silent told) (g.met.D.Disk.counted c.args.disk.now told) (g.met.D.Disk.counted c.locate_entry.new.disk told) (c.write_page.ensures.writes (leave f name) bits told) in
    let wrote : WroteValue {T = Unit {0}} at (entry_freed (pack a) at there.before e.fid e.name) (leave f name) (around a bits c.args.tally.now) (around d bits c.write_page.new.tally) c.write_page.result =
    subst (λ (v : List ℕ). WroteValue {T = Unit {0}} at v (leave f name) (around a bits c.args.tally.now) (around d bits c.write_page.new.tally) c.write_page.result) value writes in
    subst (λ (l : List Bool). Operates {T = Unit {0}} disk_fault out_of_memory (leave f name) [] (around a l c.args.tally.now) (around d bits c.write_page.new.tally) c.in_directory.result) c.locate_entry.ensures.table
    (operates_in c.write_page.result c.in_directory.result c.in_directory.ensures (value_operates (left_once (pack a) f name at there.before there.later e whole tidy ordinary there.named) wrote))

pub returns-in-Ok-clause-frees : goal.returns-in-Ok-clause-frees
returns-in-Ok-clause-frees g c told found =
    let a = g.D.Tape.tape c.args.disk.now in
    let d = g.D.Tape.tape c.write_page.new.disk in
    let f = c.args.dir.now.fid in
    let name = c.args.name.now in
    let at = c.in-Ok.at in
    let e = found_at c.in-Ok.entry in
    let looks = c.locate_entry.ensures.looks in
    let bits = c.locate_entry.new.hints.table in
    let stands = c.in-Ok.ensures.stands told in
    let there = entry_is_there (pack a) c.args.dir.now name at e c.locate_entry.new.buf found (c.in-Ok.ensures.named told found) stands in
    let value = freed_is (pack a) f name at there.before there.later e c.locate_entry.new.buf c.put_free.new.value there.named stands.holds c.put_free.ensures in
    let writes = value_after_look bits c.args.tally.now c.write_page.new.tally looks.alone c.write_page.ensures.alone (looks.silent told) (g.met.D.Disk.counted c.args.disk.now told) (g.met.D.Disk.counted c.locate_entry.new.disk told) (c.write_page.ensures.writes (leave f name) bits told) in
    let wrote : WroteValue {T = Unit {0}} at (entry_freed (pack a) at there.before e.fid e.name) (leave f name) (around a bits c.args.tally.now) (around d bits c.write_page.new.tally) c.write_page.result =
    subst (λ (v : List ℕ). WroteValue {T = Unit {0}} at v (leave f name) (around a bits c.args.tally.now) (around d bits c.write_page.new.tally) c.write_page.result) value writes in
    slot_freed c.write_page.result c.in_directory.result c.in_directory.ensures there.named wrote

pub returns-in-Ok-clause-absent : goal.returns-in-Ok-clause-absent
returns-in-Ok-clause-absent g c told whole found none = absurd (not_absent c.write_page.result c.in_directory.result c.in_directory.ensures none)

pub returns-in-Ok-clause-unwritten : goal.returns-in-Ok-clause-unwritten
returns-in-Ok-clause-unwritten g c told = not_by_slots _ c.write_page.result c.in_directory.result c.in_directory.ensures

pub returns-in-Ok-clause-misled : goal.returns-in-Ok-clause-misled
returns-in-Ok-clause-misled g c told found =
    let f = c.args.dir.now.fid in
    let same = looks_pack c.locate_entry.ensures.looks told in
    let carries : carried (pack (g.D.Tape.tape c.locate_entry.new.disk)) c.in-Ok.at ≡ Some (page_number f c.page_of_word.result) =
    subst (λ (q : Pack). carried q c.in-Ok.at ≡ Some (page_number f c.page_of_word.result)) (sym same) ((c.in-Ok.ensures.stands told).carries ∙ ap (λ n. Some (page_number f n)) (sym c.page_of_word.ensures)) in
    misled_in _ c.write_page.result c.in_directory.result c.in_directory.ensures (if_misled_map c.write_page.result (c.write_page.ensures.misled told carries) (λ place at wanted found nothing. absurd nothing))

pub returns-in-Ok-clause-hint : goal.returns-in-Ok-clause-hint
returns-in-Ok-clause-hint g c told =
    let f = c.args.dir.now.fid in
    let same = looks_pack c.locate_entry.ensures.looks told in
    let carries : carried (pack (g.D.Tape.tape c.locate_entry.new.disk)) c.in-Ok.at ≡ Some (page_number f c.page_of_word.result) =
    subst (λ (q : Pack). carried q c.in-Ok.at ≡ Some (page_number f c.page_of_word.result)) (sym same) ((c.in-Ok.ensures.stands told).carries ∙ ap (λ n. Some (page_number f n)) (sym c.page_of_word.ensures)) in
    misled_in _ c.write_page.result c.in_directory.result c.in_directory.ensures (if_misled_map c.write_page.result (c.write_page.ensures.misled told carries) (λ place at wanted found nothing. absurd nothing))

pub returns-in-Ok-clause-given : goal.returns-in-Ok-clause-given
returns-in-Ok-clause-given g c =
    let f = c.args.dir.now.fid in
    misled_in _ c.write_page.result c.in_directory.result c.in_directory.ensures
    (if_misled_map c.write_page.result c.write_page.ensures.held (λ place at wanted found x. inr (was_found f c.in-Ok.at (page_number f c.page_of_word.result) refl place at wanted found x)))

pub returns-in-Err-clause-given : goal.returns-in-Err-clause-given
returns-in-Err-clause-given g c = misled_map {T = Unit {0}} (Err c.in-Err.error) c.in-Err.ensures.hint (λ place at wanted found x. inl x)

pub returns-in-Ok-clause-quiet : goal.returns-in-Ok-clause-quiet
returns-in-Ok-clause-quiet g c told =
    let f = c.args.dir.now.fid in
    let same = looks_pack c.locate_entry.ensures.looks told in
    let carries : carried (pack (g.D.Tape.tape c.locate_entry.new.disk)) c.in-Ok.at ≡ Some (page_number f c.page_of_word.result) =
    subst (λ (q : Pack). carried q c.in-Ok.at ≡ Some (page_number f c.page_of_word.result)) (sym same) ((c.in-Ok.ensures.stands told).carries ∙ ap (λ n. Some (page_number f n)) (sym c.page_of_word.ensures)) in
    misled_in _ c.write_page.result c.in_directory.result c.in_directory.ensures (if_misled_map c.write_page.result (c.write_page.ensures.misled told carries) (λ place at wanted found nothing. absurd nothing))

pub returns-in-Err-clause-quiet : goal.returns-in-Err-clause-quiet
returns-in-Err-clause-quiet g c told =
    misled_any {T = Unit {0}} (IsQuiet (around (g.D.Tape.tape c.args.disk.now) c.args.hints.now.table c.args.tally.now) (around (g.D.Tape.tape c.locate_entry.new.disk) c.locate_entry.new.hints.table c.args.tally.now)) (Err c.in-Err.error)
    (record { silent = c.locate_entry.ensures.looks.silent told; bits = c.locate_entry.ensures.table; tally = refl })

pub returns-in-Ok-clause-cause : goal.returns-in-Ok-clause-cause
returns-in-Ok-clause-cause g c = cause_in other never never (g.D.Tape.tape c.args.disk.now) (g.D.Tape.tape c.locate_entry.new.disk) (g.D.Tape.tape c.write_page.new.disk) c.write_page.result c.in_directory.result c.in_directory.ensures c.in-Ok.ensures.cause c.write_page.ensures.cause

pub returns-in-Ok-clause-quick : goal.returns-in-Ok-clause-quick
returns-in-Ok-clause-quick g c told found quick =
    on_ok_in _ c.write_page.result c.in_directory.result c.in_directory.ensures
    (on_ok c.write_page.result (quick_written (pack (g.D.Tape.tape c.args.disk.now)) c.args.dir.now.fid c.args.hints.now.cache c.locate_entry.new.hints.cache (g.D.Tape.tape c.args.disk.now) (g.D.Tape.tape c.locate_entry.new.disk) (g.D.Tape.tape c.write_page.new.disk) (c.in-Ok.ensures.quick told found quick) (c.write_page.ensures.runs told)))

pub returns-in-Ok-clause-handy : goal.returns-in-Ok-clause-handy
returns-in-Ok-clause-handy g c told = value_leaves_handy (g.D.Tape.tape c.write_page.new.disk) c.args.hints.now.cache c.locate_entry.new.hints.cache c.locate_entry.ensures.looks told (c.locate_entry.ensures.handy told) (c.write_page.ensures.places told)

pub returns-in-Err-clause-handy : goal.returns-in-Err-clause-handy
returns-in-Err-clause-handy g c told = look_leaves_handy c.args.hints.now.cache c.locate_entry.new.hints.cache c.locate_entry.ensures.looks told (c.locate_entry.ensures.handy told)

pub returns-in-Ok-clause-frame : goal.returns-in-Ok-clause-frame
returns-in-Ok-clause-frame g c told =
    writes_after_look (IsPageOf c.args.dir.now.fid) c.locate_entry.ensures.looks.alone.grown c.write_page.ensures.alone.grown (c.locate_entry.ensures.looks.silent told) (c.write_page.ensures.frame told)

pub returns-in-Err-clause-frame : goal.returns-in-Err-clause-frame
returns-in-Err-clause-frame g c told = writes_silent (IsPageOf c.args.dir.now.fid (pack (g.D.Tape.tape c.args.disk.now))) _ (c.locate_entry.ensures.looks.silent told)
