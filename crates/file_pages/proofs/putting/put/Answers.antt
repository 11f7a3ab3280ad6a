use Rattle.std.proofs.Common.{not, Bool, List, ap, length, refl, subst, sym, ℕ, ◌%◌, ◌∙◌, ◌≡◌, Err, [], inl, inr}
use Rattle.disk_records.proofs.Growing.{alone_twice}
use Rattle.disk_records.specs.Tapes.{pack}
use Rattle.disk_records.specs.declared.records.Sector.{Sector}
use Rattle.laws_call.specs.Acting.{around}
use Rattle.pack_model.specs.operations.PageWords.{put_value}
use Rattle.pack_model.specs.operations.Step.Operation.{put}
use Rattle.file_pages.specs.Putting.{value_put}
use Rattle.file_pages.specs.Values.{WroteValue}
use Rattle.file_pages.proofs.PutOnce.{Fits, put_operates, put_puts}
use Rattle.file_pages.proofs.Valued.{look_leaves_handy, value_after_look, value_leaves_handy}
use Rattle.file_pages.proofs.WithinFile.{ends_before, last_only, never_beyond}
use Rattle.page_seeking.proofs.TrueLinks.{never_led}
use Rattle.page_seeking.proofs.Erring.{on_ok}
use Rattle.disk_records.specs.declared.records.Page.{Page}
use Rattle.page_seeking.proofs.Erring.{if_misled_map}
use Rattle.file_pages.proofs.Erring.{was_found}
use Rattle.disk_records.proofs.Framing.{writes_after_look, writes_silent}
use Rattle.disk_records.specs.Frames.{IsPageOf, WritesIn}
use Rattle.disk_records.specs.Tapes.{added}
use Rattle.file_pages.proofs.putting.put.Goals as goal

pub returns-in-Ok-clause-alone : goal.returns-in-Ok-clause-alone
returns-in-Ok-clause-alone g c = alone_twice c.locate_bytes.ensures.looks.alone c.write_page.ensures.alone

pub returns-in-Ok-clause-operates : goal.returns-in-Ok-clause-operates
returns-in-Ok-clause-operates g c told stands ordinary may =
    let a = g.D.Tape.tape c.args.disk.now in
    let d = g.D.Tape.tape c.write_page.new.disk in
    let f = c.args.file.now.fid in
    let offset = c.args.offset in
    let new = c.args.bytes.now in
    let past = c.args.past.now in
    let at = c.in-Ok.at in
    let there = c.in-Ok.ensures.stands told in
    let looks = c.locate_bytes.ensures.looks in
    let bits = c.locate_bytes.new.hints.table in
    let fits : Fits (pack a) f offset new past at = record { carries = there.carries; sized = ap (λ (s : Sector). length s.value) (sym there.holds) ∙ c.in-Ok.ensures.sized; one_page = c.requires.one_page; within = c.in-Ok.ensures.within told stands.whole; bytes = c.put_in_value.ensures.bytes; words = c.put_in_value.ensures.words } in
    let value : c.put_in_value.new.value ≡ value_put (pack a) at offset new past = c.put_in_value.ensures.value ∙ ap (λ (s : Sector). put_value (offset % 512) new past s.value) there.holds in
    let writes = value_after_look bits c.args.tally.now c.write_page.new.tally looks.alone c.write_page.ensures.alone (looks.silent told) (g.met.D.Disk.counted c.args.disk.now told) (g.met.D.Disk.counted c.locate_bytes.new.disk told) (c.write_page.ensures.writes (put f offset new) bits told) in
    let wrote : WroteValue {T = Unit {0}} at (value_put (pack a) at offset new past) (put f offset new) (around a c.args.hints.now.table c.args.tally.now) (around d bits c.write_page.new.tally) c.write_page.result =
    subst (λ (l : List Bool). WroteValue {T = Unit {0}} at (value_put (pack a) at offset new past) (put f offset new) (around a l c.args.tally.now) (around d bits c.write_page.new.tally) c.write_page.result) c.locate_bytes.ensures.table
    (subst (λ (v : List ℕ). WroteValue {T = Unit {0}} at v (put f offset new) (around a bits c.args.tally.now) (around d bits c.write_page.new.tally) c.write_page.result) value writes) in
    put_operates stands.whole stands.tidy ordinary may fits wrote

pub returns-in-Ok-clause-puts : goal.returns-in-Ok-clause-puts
returns-in-Ok-clause-puts g c told whole =
    let a = g.D.Tape.tape c.args.disk.now in
    let d = g.D.Tape.tape c.write_page.new.disk in
    let f = c.args.file.now.fid in
    let offset = c.args.offset in
    let new = c.args.bytes.now in
    let past = c.args.past.now in
    let at = c.in-Ok.at in
    let there = c.in-Ok.ensures.stands told in
    let looks = c.locate_bytes.ensures.looks in
    let bits = c.locate_bytes.new.hints.table in
    let fits : Fits (pack a) f offset new past at = record { carries = there.carries; sized = ap (λ (s : Sector). length s.value) (sym there.holds) ∙ c.in-Ok.ensures.sized; one_page = c.requires.one_page; within = c.in-Ok.ensures.within told whole; bytes = c.put_in_value.ensures.bytes; words = c.put_in_value.ensures.words } in
    let value : c.put_in_value.new.value ≡ value_put (pack a) at offset new past = c.put_in_value.ensures.value ∙ ap (λ (s : Sector). put_value (offset % 512) new past s.value) there.holds in
    let writes = value_after_look bits c.args.tally.now c.write_page.new.tally looks.alone c.write_page.ensures.alone (looks.silent told) (g.met.D.Disk.counted c.args.disk.now told) (g.met.D.Disk.counted c.locate_bytes.new.disk told) (c.write_page.ensures.writes (put f offset new) bits told) in
    let wrote : WroteValue {T = Unit {0}} at (value_put (pack a) at offset new past) (put f offset new) (around a c.args.hints.now.table c.args.tally.now) (around d bits c.write_page.new.tally) c.write_page.result =
    subst (λ (l : List Bool). WroteValue {T = Unit {0}} at (value_put (pack a) at offset new past) (put f offset new) (around a l c.args.tally.now) (around d bits c.write_page.new.tally) c.write_page.result) c.locate_bytes.ensures.table
    (subst (λ (v : List ℕ). WroteValue {T = Unit {0}} at v (put f offset new) (around a bits c.args.tally.now) (around d bits c.write_page.new.tally) c.write_page.result) value writes) in
    put_puts whole fits wrote

pub returns-in-Ok-clause-beyond : goal.returns-in-Ok-clause-beyond
returns-in-Ok-clause-beyond g c told whole = never_beyond _ (g.D.Tape.tape c.locate_bytes.new.disk) (g.D.Tape.tape c.write_page.new.disk) c.write_page.result c.write_page.ensures.cause

pub returns-in-Err-clause-beyond : goal.returns-in-Err-clause-beyond
returns-in-Err-clause-beyond g c told whole =
    let a = g.D.Tape.tape c.args.disk.now in
    let b = g.D.Tape.tape c.locate_bytes.new.disk in
    ends_before (ℕ × ℕ) (Unit {0}) (pack a) c.args.file.now.fid _ c.args.past.now _ (around a c.args.hints.now.table c.args.tally.now) (around b c.locate_bytes.new.hints.table c.args.tally.now) c.in-Err.error (ap not c.is_empty-ends.ensures)
    (record { silent = c.locate_bytes.ensures.looks.silent told; bits = c.locate_bytes.ensures.table; tally = refl }) (c.in-Err.ensures.beyond told whole)

pub returns-in-Ok-clause-handy : goal.returns-in-Ok-clause-handy
returns-in-Ok-clause-handy g c told = value_leaves_handy (g.D.Tape.tape c.write_page.new.disk) c.args.hints.now.cache c.locate_bytes.new.hints.cache c.locate_bytes.ensures.looks told (c.locate_bytes.ensures.handy told) (c.write_page.ensures.places told)

pub returns-in-Err-clause-handy : goal.returns-in-Err-clause-handy
returns-in-Err-clause-handy g c told = look_leaves_handy c.args.hints.now.cache c.locate_bytes.new.hints.cache c.locate_bytes.ensures.looks told (c.locate_bytes.ensures.handy told)

pub returns-in-Err-clause-true_links : goal.returns-in-Err-clause-true_links
returns-in-Err-clause-true_links g c told stands links =
    never_led {T = Unit {0}} (pack (g.D.Tape.tape c.args.disk.now)) [] c.args.file.now.fid c.args.file.now (Err c.in-Err.error) (g.met.D.Disk.formed c.args.disk.now told) stands links (c.in-Err.ensures.misled told stands)

pub returns-in-Ok-clause-listed : goal.returns-in-Ok-clause-listed
returns-in-Ok-clause-listed g c = on_ok c.write_page.result c.in-Ok.ensures.listed

pub returns-in-Ok-clause-unwritten : goal.returns-in-Ok-clause-unwritten
returns-in-Ok-clause-unwritten g c told unless =
    let looks = c.locate_bytes.ensures.looks in
    let bits = c.locate_bytes.new.hints.table in
    let writes = value_after_look bits c.args.tally.now c.write_page.new.tally looks.alone c.write_page.ensures.alone (looks.silent told) (g.met.D.Disk.counted c.args.disk.now told) (g.met.D.Disk.counted c.locate_bytes.new.disk told) (c.write_page.ensures.writes (put c.args.file.now.fid c.args.offset c.args.bytes.now) bits told) in
    writes.unwritten unless

pub returns-in-Err-clause-unwritten : goal.returns-in-Err-clause-unwritten
returns-in-Err-clause-unwritten g c told unless = c.locate_bytes.ensures.looks.silent told

pub returns-in-Ok-clause-given : goal.returns-in-Ok-clause-given
returns-in-Ok-clause-given g c = if_misled_map c.write_page.result c.write_page.ensures.held (λ place at wanted found x. inr (was_found c.args.file.now.fid c.in-Ok.at c.page_of_file.result (ap (λ (p : Page). p.fid) c.page_of_file.ensures) place at wanted found x))

pub returns-in-Err-clause-given : goal.returns-in-Err-clause-given
returns-in-Err-clause-given g c = if_misled_map {T = Unit {0}} (Err c.in-Err.error) c.in-Err.ensures.hint (λ place at wanted found x. inl x)

pub returns-in-Err-clause-frame : goal.returns-in-Err-clause-frame
returns-in-Err-clause-frame g c told = writes_silent (IsPageOf c.args.file.now.fid (pack (g.D.Tape.tape c.args.disk.now))) (added (g.D.Tape.tape c.args.disk.now) (g.D.Tape.tape c.locate_bytes.new.disk)) (c.locate_bytes.ensures.looks.silent told)

pub returns-in-Ok-clause-frame : goal.returns-in-Ok-clause-frame
returns-in-Ok-clause-frame g c told =
    let b = g.D.Tape.tape c.locate_bytes.new.disk in
    let d = g.D.Tape.tape c.write_page.new.disk in
    let looks = c.locate_bytes.ensures.looks in
    writes_after_look (IsPageOf c.args.file.now.fid) looks.alone.grown c.write_page.ensures.alone.grown (looks.silent told)
    (subst (λ (x : Page). WritesIn (IsPageOf x.fid (pack b)) (added b d)) c.page_of_file.ensures (c.write_page.ensures.frame told))

pub returns-in-Ok-clause-last : goal.returns-in-Ok-clause-last
returns-in-Ok-clause-last g c told whole some = last_only (pack (g.D.Tape.tape c.args.disk.now)) c.args.file.now.fid c.args.offset c.args.bytes.now c.args.past.now _ (ap not c.is_empty-ends.ensures) (c.in-Ok.ensures.last_bytes told whole)

pub returns-in-Err-clause-last : goal.returns-in-Err-clause-last
returns-in-Err-clause-last g c told whole some = absurd (some (c.locate_bytes.ensures.looks.silent told))
