use Rattle.std.proofs.Common.{refl, ◌∙◌, ◌≡◌, Bool, List, [], ap, arith, subst, ℕ, Err, inl, inr}
use Rattle.disk_records.proofs.Growing.{alone_twice}
use Rattle.disk_records.proofs.Framing.{writes_after_look, writes_silent}
use Rattle.disk_records.specs.Frames.{IsPageOf, WritesIn}
use Rattle.disk_records.specs.Tapes.{added, pack}
use Rattle.disk_records.specs.declared.records.Sector.{Sector}
use Rattle.label_check.specs.declared.errors.PageInfo.{PageInfo}
use Rattle.pack_model.specs.operations.Step.Operation.{title}
use Rattle.laws_call.specs.Acting.{Operates, around}
use Rattle.page_seeking.specs.declared.refs.FileError.TheVariants as error
use Rattle.file_pages.proofs.Erring.{never_past}
use Rattle.file_pages.proofs.Titling.{titled_once}
use Rattle.file_pages.proofs.Valued.{look_leaves_handy, value_after_look, value_leaves_handy, value_operates}
use Rattle.page_seeking.proofs.TrueLinks.{never_led}
use Rattle.page_seeking.proofs.Listing.{is_listed}
use Rattle.page_seeking.proofs.Erring.{on_ok}
use Rattle.disk_records.specs.declared.records.Page.{Page}
use Rattle.page_seeking.proofs.Erring.{if_misled_map}
use Rattle.file_pages.proofs.Erring.{was_found}
use Rattle.disk_records.specs.Packs.{sector_at}
use Rattle.pack_model.specs.operations.PageWords.{titled_value}
use Rattle.file_pages.specs.Values.{WroteValue, titling, untitled}
use Rattle.file_pages.proofs.Erring.{memory_too}
use Rattle.file_pages.proofs.leaders.title.Goals as goal

pub returns-in-Ok-clause-alone : goal.returns-in-Ok-clause-alone
returns-in-Ok-clause-alone g c = alone_twice c.locate.ensures.looks.alone c.write_page.ensures.alone

pub returns-in-Ok-clause-operates : goal.returns-in-Ok-clause-operates
returns-in-Ok-clause-operates g c told stands ordinary =
    let a = g.D.Tape.tape c.args.disk.now in
    let d = g.D.Tape.tape c.write_page.new.disk in
    let fid = c.args.file.now.fid in
    let there = c.in-Ok.ensures.stands told in
    let looks = c.locate.ensures.looks in
    let bits = c.locate.new.hints.table in
    let is = titled_once (pack a) fid c.args.name.now c.in-Ok.at c.put_name.new.value c.locate.new.buf.value stands.whole stands.tidy ordinary there.carries (ap (λ (s : Sector). s.value) there.holds) c.in-Ok.ensures.seen.sized c.put_name.ensures.stored c.put_name.ensures.value in
    let writes = value_after_look bits c.args.tally.now c.write_page.new.tally looks.alone c.write_page.ensures.alone (looks.silent told) (g.met.D.Disk.counted c.args.disk.now told) (g.met.D.Disk.counted c.locate.new.disk told) (c.write_page.ensures.writes (title fid c.args.name.now) bits told) in
    subst (λ (l : List Bool). Operates {T = Unit {0}} error.DiskFault error.Memory (title fid c.args.name.now) [] (around a l c.args.tally.now) (around d bits c.write_page.new.tally) c.write_page.result) c.locate.ensures.table (value_operates is writes)

pub returns-in-Ok-clause-handy : goal.returns-in-Ok-clause-handy
returns-in-Ok-clause-handy g c told = value_leaves_handy (g.D.Tape.tape c.write_page.new.disk) c.args.hints.now.cache c.locate.new.hints.cache c.locate.ensures.looks told (c.locate.ensures.handy told) (c.write_page.ensures.places told)

pub returns-in-Err-clause-handy : goal.returns-in-Err-clause-handy
returns-in-Err-clause-handy g c told = look_leaves_handy c.args.hints.now.cache c.locate.new.hints.cache c.locate.ensures.looks told (c.locate.ensures.handy told)

pub returns-in-Err-clause-misled : goal.returns-in-Err-clause-misled
returns-in-Err-clause-misled g c told stands = c.in-Err.ensures.misled told stands.from

pub returns-in-Err-clause-cause : goal.returns-in-Err-clause-cause
returns-in-Err-clause-cause g c = never_past (ℕ × PageInfo) (g.D.Tape.tape c.args.disk.now) (g.D.Tape.tape c.locate.new.disk) c.in-Err.error c.in-Err.ensures.cause (c.in-Err.ensures.never_beyond (omega arith))

pub returns-in-Err-clause-true_links : goal.returns-in-Err-clause-true_links
returns-in-Err-clause-true_links g c told stands links =
    never_led {T = Unit {0}} (pack (g.D.Tape.tape c.args.disk.now)) [] c.args.file.now.fid c.args.file.now (Err c.in-Err.error) (g.met.D.Disk.formed c.args.disk.now told) stands links (c.in-Err.ensures.misled told stands.from)

pub returns-in-Ok-clause-listed : goal.returns-in-Ok-clause-listed
returns-in-Ok-clause-listed g c = on_ok c.write_page.result (is_listed g.D.Tape.told (pack (g.D.Tape.tape c.args.disk.now)) c.in-Ok.ensures.listed (λ told. (c.in-Ok.ensures.stands told).carries))

pub returns-in-Ok-clause-unwritten : goal.returns-in-Ok-clause-unwritten
returns-in-Ok-clause-unwritten g c told unless =
    let looks = c.locate.ensures.looks in
    let bits = c.locate.new.hints.table in
    let writes = value_after_look bits c.args.tally.now c.write_page.new.tally looks.alone c.write_page.ensures.alone (looks.silent told) (g.met.D.Disk.counted c.args.disk.now told) (g.met.D.Disk.counted c.locate.new.disk told) (c.write_page.ensures.writes (title c.args.file.now.fid c.args.name.now) bits told) in
    writes.unwritten unless

pub returns-in-Err-clause-unwritten : goal.returns-in-Err-clause-unwritten
returns-in-Err-clause-unwritten g c told unless = c.locate.ensures.looks.silent told

pub returns-in-Ok-clause-given : goal.returns-in-Ok-clause-given
returns-in-Ok-clause-given g c = if_misled_map c.write_page.result c.write_page.ensures.held (λ place at wanted found x. inr (was_found c.args.file.now.fid c.in-Ok.at c.page_of_file.result (ap (λ (p : Page). p.fid) c.page_of_file.ensures) place at wanted found x))

pub returns-in-Err-clause-given : goal.returns-in-Err-clause-given
returns-in-Err-clause-given g c = if_misled_map {T = Unit {0}} (Err c.in-Err.error) c.in-Err.ensures.hint (λ place at wanted found x. inl x)

pub returns-in-Ok-clause-frame : goal.returns-in-Ok-clause-frame
returns-in-Ok-clause-frame g c told =
    let b = g.D.Tape.tape c.locate.new.disk in
    let d = g.D.Tape.tape c.write_page.new.disk in
    let looks = c.locate.ensures.looks in
    writes_after_look (IsPageOf c.args.file.now.fid) looks.alone.grown c.write_page.ensures.alone.grown (looks.silent told)
    (subst (λ (p : Page). WritesIn (IsPageOf p.fid (pack b)) (added b d)) c.page_of_file.ensures (c.write_page.ensures.frame told))

pub returns-in-Err-clause-frame : goal.returns-in-Err-clause-frame
returns-in-Err-clause-frame g c told = writes_silent (IsPageOf c.args.file.now.fid (pack (g.D.Tape.tape c.args.disk.now))) _ (c.locate.ensures.looks.silent told)

pub returns-in-Ok-clause-titles : goal.returns-in-Ok-clause-titles
returns-in-Ok-clause-titles g c told =
    let a = g.D.Tape.tape c.args.disk.now in
    let d = g.D.Tape.tape c.write_page.new.disk in
    let fid = c.args.file.now.fid in
    let at = c.in-Ok.at in
    let there = c.in-Ok.ensures.stands told in
    let looks = c.locate.ensures.looks in
    let bits = c.locate.new.hints.table in
    let value : c.put_name.new.value ≡ titled_value c.args.name.now (sector_at (pack a) at).value = c.put_name.ensures.value ∙ ap (λ (s : Sector). titled_value c.args.name.now s.value) there.holds in
    let writes = value_after_look bits c.args.tally.now c.write_page.new.tally looks.alone c.write_page.ensures.alone (looks.silent told) (g.met.D.Disk.counted c.args.disk.now told) (g.met.D.Disk.counted c.locate.new.disk told) (c.write_page.ensures.writes (title fid c.args.name.now) bits told) in
    titling there.carries
    (subst (λ (l : List Bool). WroteValue {T = Unit {0}} at (titled_value c.args.name.now (sector_at (pack a) at).value) (title fid c.args.name.now) (around a l c.args.tally.now) (around d bits c.write_page.new.tally) c.write_page.result) c.locate.ensures.table
    (subst (λ (v : List ℕ). WroteValue {T = Unit {0}} at v (title fid c.args.name.now) (around a bits c.args.tally.now) (around d bits c.write_page.new.tally) c.write_page.result) value writes))

pub returns-in-Err-clause-titles : goal.returns-in-Err-clause-titles
returns-in-Err-clause-titles g c told =
    untitled (record { silent = c.locate.ensures.looks.silent told; bits = c.locate.ensures.table; tally = refl }) tt (λ memory. c.in-Err.ensures.want told (memory_too (ℕ × PageInfo) c.in-Err.error memory))
