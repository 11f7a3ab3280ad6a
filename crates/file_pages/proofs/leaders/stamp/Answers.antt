use Rattle.std.proofs.Common.{ℕ, ◌∙◌, ◌≡◌, Bool, List, [], arith, subst, Err, refl, ap, inl, inr}
use Rattle.disk_records.proofs.Growing.{alone_twice}
use Rattle.disk_records.proofs.Framing.{writes_after_look, writes_silent}
use Rattle.disk_records.specs.Frames.{IsPageOf, WritesIn}
use Rattle.disk_records.specs.Tapes.{added, pack}
use Rattle.pack_model.specs.operations.Step.Operation.{stamp}
use Rattle.laws_call.specs.Acting.{Operates, around}
use Rattle.page_seeking.specs.declared.refs.FileError.TheVariants as error
use Rattle.page_seeking.proofs.Erring.{on_ok}
use Rattle.file_pages.proofs.StampOnce.{stamped_once}
use Rattle.file_pages.proofs.Valued.{look_leaves_handy, value_after_look, value_leaves_handy, value_operates}
use Rattle.page_seeking.proofs.TrueLinks.{never_led}
use Rattle.page_seeking.specs.Seeking.{length_at}
use Rattle.disk_records.specs.declared.records.Page.{Page}
use Rattle.page_seeking.proofs.Erring.{if_misled_map}
use Rattle.file_pages.proofs.Erring.{was_found}
use Rattle.disk_records.specs.Packs.{sector_at}
use Rattle.pack_model.specs.operations.PageWords.{stamped_value}
use Rattle.page_seeking.specs.declared.ends.LastPage.{LastPage}
use Rattle.file_pages.specs.Values.{WroteValue, stamping, unstamped}
use Rattle.file_pages.proofs.Erring.{memory_too}
use Rattle.file_pages.proofs.leaders.stamp.Goals as goal

pub returns-in-Ok-clause-alone : goal.returns-in-Ok-clause-alone
returns-in-Ok-clause-alone g c = alone_twice c.locate_ends.ensures.looks.alone c.write_page.ensures.alone

pub returns-in-Ok-clause-operates : goal.returns-in-Ok-clause-operates
returns-in-Ok-clause-operates g c told stands ordinary =
    let a = g.D.Tape.tape c.args.disk.now in
    let d = g.D.Tape.tape c.write_page.new.disk in
    let fid = c.args.file.now.fid in
    let looks = c.locate_ends.ensures.looks in
    let bits = c.locate_ends.new.hints.table in
    let is = stamped_once (pack a) fid c.args.moment c.in-Ok.at c.in-Ok.last c.put_stamp.new.value c.locate_ends.new.leader stands.whole stands.tidy ordinary (c.in-Ok.ensures.carries told) (c.in-Ok.ensures.value told) c.in-Ok.ensures.sized (c.in-Ok.ensures.end told stands.whole) c.put_stamp.ensures in
    let writes = value_after_look bits c.args.tally.now c.write_page.new.tally looks.alone c.write_page.ensures.alone (looks.silent told) (g.met.D.Disk.counted c.args.disk.now told) (g.met.D.Disk.counted c.locate_ends.new.disk told) (c.write_page.ensures.writes (stamp fid c.args.moment) bits told) in
    subst (λ (l : List Bool). Operates {T = Unit {0}} error.DiskFault error.Memory (stamp fid c.args.moment) [] (around a l c.args.tally.now) (around d bits c.write_page.new.tally) c.write_page.result) c.locate_ends.ensures.table (value_operates is writes)

pub returns-in-Ok-clause-handy : goal.returns-in-Ok-clause-handy
returns-in-Ok-clause-handy g c told = value_leaves_handy (g.D.Tape.tape c.write_page.new.disk) c.args.hints.now.cache c.locate_ends.new.hints.cache c.locate_ends.ensures.looks told (c.locate_ends.ensures.handy told) (c.write_page.ensures.places told)

pub returns-in-Err-clause-handy : goal.returns-in-Err-clause-handy
returns-in-Err-clause-handy g c told = look_leaves_handy c.args.hints.now.cache c.locate_ends.new.hints.cache c.locate_ends.ensures.looks told (c.locate_ends.ensures.handy told)

pub returns-in-Ok-clause-climbs : goal.returns-in-Ok-clause-climbs
returns-in-Ok-clause-climbs g c more told quick near =
    let first = c.in-Ok.ensures.climbs more told quick near in
    let second = c.write_page.ensures.runs told in
    on_ok c.write_page.result (omega (arith, first, second))

pub returns-in-Err-clause-true_links : goal.returns-in-Err-clause-true_links
returns-in-Err-clause-true_links g c told stands links =
    never_led {T = Unit {0}} (pack (g.D.Tape.tape c.args.disk.now)) [] c.args.file.now.fid c.args.file.now (Err c.in-Err.error) (g.met.D.Disk.formed c.args.disk.now told) stands links (c.in-Err.ensures.misled told stands)

pub returns-in-Ok-clause-listed : goal.returns-in-Ok-clause-listed
returns-in-Ok-clause-listed g c =
    let last = c.in-Ok.last in
    on_ok c.write_page.result (length_at last.number last.info.bytes, record { number = last.number; bytes = last.info.bytes; tells = refl; ends = c.in-Ok.ensures.listed.ends; most = c.in-Ok.ensures.listed.most; is = λ told whole. (c.in-Ok.ensures.end told whole).number; listed = c.in-Ok.ensures.listed.listed })

pub returns-in-Ok-clause-unwritten : goal.returns-in-Ok-clause-unwritten
returns-in-Ok-clause-unwritten g c told unless =
    let looks = c.locate_ends.ensures.looks in
    let bits = c.locate_ends.new.hints.table in
    let writes = value_after_look bits c.args.tally.now c.write_page.new.tally looks.alone c.write_page.ensures.alone (looks.silent told) (g.met.D.Disk.counted c.args.disk.now told) (g.met.D.Disk.counted c.locate_ends.new.disk told) (c.write_page.ensures.writes (stamp c.args.file.now.fid c.args.moment) bits told) in
    writes.unwritten unless

pub returns-in-Err-clause-unwritten : goal.returns-in-Err-clause-unwritten
returns-in-Err-clause-unwritten g c told unless = c.locate_ends.ensures.looks.silent told

pub returns-in-Ok-clause-given : goal.returns-in-Ok-clause-given
returns-in-Ok-clause-given g c = if_misled_map c.write_page.result c.write_page.ensures.held (λ place at wanted found x. inr (was_found c.args.file.now.fid c.in-Ok.at c.page_of_file.result (ap (λ (p : Page). p.fid) c.page_of_file.ensures) place at wanted found x))

pub returns-in-Err-clause-given : goal.returns-in-Err-clause-given
returns-in-Err-clause-given g c = if_misled_map {T = Unit {0}} (Err c.in-Err.error) c.in-Err.ensures.hint (λ place at wanted found x. inl x)

pub returns-in-Ok-clause-frame : goal.returns-in-Ok-clause-frame
returns-in-Ok-clause-frame g c told =
    let b = g.D.Tape.tape c.locate_ends.new.disk in
    let d = g.D.Tape.tape c.write_page.new.disk in
    let looks = c.locate_ends.ensures.looks in
    writes_after_look (IsPageOf c.args.file.now.fid) looks.alone.grown c.write_page.ensures.alone.grown (looks.silent told)
    (subst (λ (p : Page). WritesIn (IsPageOf p.fid (pack b)) (added b d)) c.page_of_file.ensures (c.write_page.ensures.frame told))

pub returns-in-Err-clause-frame : goal.returns-in-Err-clause-frame
returns-in-Err-clause-frame g c told = writes_silent (IsPageOf c.args.file.now.fid (pack (g.D.Tape.tape c.args.disk.now))) _ (c.locate_ends.ensures.looks.silent told)

pub returns-in-Ok-clause-stamps : goal.returns-in-Ok-clause-stamps
returns-in-Ok-clause-stamps g c told =
    let a = g.D.Tape.tape c.args.disk.now in
    let d = g.D.Tape.tape c.write_page.new.disk in
    let fid = c.args.file.now.fid in
    let at = c.in-Ok.at in
    let last = c.in-Ok.last in
    let looks = c.locate_ends.ensures.looks in
    let bits = c.locate_ends.new.hints.table in
    let value : c.put_stamp.new.value ≡ stamped_value c.args.moment last.at last.number last.info.bytes (sector_at (pack a) at).value = c.put_stamp.ensures ∙ ap (stamped_value c.args.moment last.at last.number last.info.bytes) (c.in-Ok.ensures.value told) in
    let writes = value_after_look bits c.args.tally.now c.write_page.new.tally looks.alone c.write_page.ensures.alone (looks.silent told) (g.met.D.Disk.counted c.args.disk.now told) (g.met.D.Disk.counted c.locate_ends.new.disk told) (c.write_page.ensures.writes (stamp fid c.args.moment) bits told) in
    stamping {last = last} (c.in-Ok.ensures.carries told) (c.in-Ok.ensures.end told)
    (subst (λ (l : List Bool). WroteValue {T = Unit {0}} at (stamped_value c.args.moment last.at last.number last.info.bytes (sector_at (pack a) at).value) (stamp fid c.args.moment) (around a l c.args.tally.now) (around d bits c.write_page.new.tally) c.write_page.result) c.locate_ends.ensures.table
    (subst (λ (v : List ℕ). WroteValue {T = Unit {0}} at v (stamp fid c.args.moment) (around a bits c.args.tally.now) (around d bits c.write_page.new.tally) c.write_page.result) value writes))

pub returns-in-Err-clause-stamps : goal.returns-in-Err-clause-stamps
returns-in-Err-clause-stamps g c told =
    unstamped (record { silent = c.locate_ends.ensures.looks.silent told; bits = c.locate_ends.ensures.table; tally = refl }) tt (λ memory. c.in-Err.ensures.want told (memory_too (ℕ × LastPage) c.in-Err.error memory))
