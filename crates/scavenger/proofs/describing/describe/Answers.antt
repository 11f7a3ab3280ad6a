use Rattle.std.proofs.Common.{◌≡◌, ◌+◌, ◌-◌, Err, Ok, false, true, length, ap, sym, subst, ◌∙◌, arith, rules, refl}
use Rattle.std.specs.List.{list_any}
use Rattle.std.specs.Prelude.{◌==◌}
use Rattle.disk_descriptor.specs.Fields.{AreSectors}
use Rattle.disk_records.specs.declared.shape.Shape.{Shape}
use Rattle.disk_records.specs.Tapes.{pack}
use Rattle.disk_records.proofs.Looking.{looks_pack}
use Rattle.pack_model.specs.sessions.Descriptor.{data_pages}
use Rattle.disk_records.specs.Packs.{Pack}
use Rattle.disk_records.specs.Causes.{IsCause}
use Rattle.disk_records.proofs.Growing.{alone_here, alone_twice}
use Rattle.disk_records.proofs.Framing.{usable_looks, usable_twice}
use Rattle.scav_pages.specs.declared.errors.Stop.TheVariants.{Astray}
use Rattle.scav_pages.specs.Stops.{cause_of_stop}
use Rattle.scav_pages.proofs.Causing.{cause_of_part, cause_sooner}
use Rattle.disk_descriptor.proofs.Framing.{usable_own}
use Rattle.scavenger.specs.Answers.{stop_of_write}
use Rattle.scavenger.specs.Describing.{IsDescriptorIn}
use Rattle.scavenger.proofs.OwnPages.{all_sectors, closes_so, known_sectors, mine, mine_is, never_held}
use Rattle.scavenger.proofs.Causing.{cause_of_write}
use Rattle.scavenger.proofs.describing.describe.Goals as goal

pub write_pages-requires-clause-sectors : goal.write_pages-requires-clause-sectors
write_pages-requires-clause-sectors g c =
    let size : length c.in_ok-map.map.places ≡ 6 = search rules in
    let most = c.data_pages.ensures.most in
    let same = c.from-end.ensures in
    let none : list_any (λ y. y == 0) (mine (c.from-end.result + 1 - 1) c.in_ok-map.map.places) ≡ false = sym c.contains.ensures.value ∙ c.if-contains.false in
    subst (λ (s : Shape). AreSectors s (mine (c.from-end.result + 1 - 1) c.in_ok-map.map.places)) (sym c.in_ok-map.ensures.looks.alone.grown.form)
    (all_sectors (g.D.Tape.tape c.args.disk.now).form (c.from-end.result + 1 - 1) c.in_ok-map.map.places (omega (arith, most, same)) c.in_ok-map.ensures.within size none)

pub returns-then-contains-clause-found : goal.returns-then-contains-clause-found
returns-then-contains-clause-found g c = λ told pages in_it.
    let size : length c.in_ok-map.map.places ≡ 6 = search rules in
    let shape : c.shape.result ≡ (g.D.Tape.tape c.args.disk.now).form = c.shape.ensures ∙ c.in_ok-map.ensures.looks.alone.grown.form in
    let count : c.from-end.result + 1 - 1 ≡ data_pages (g.D.Tape.tape c.args.disk.now).form = (let a = c.from-end.ensures in let b = c.data_pages.ensures.pages in let d = ap data_pages shape in omega (arith, a, b, d)) in
    let own = mine_is (pack (g.D.Tape.tape c.args.disk.now)) c.in_ok-map.map.places pages (c.from-end.result + 1 - 1) (c.in_ok-map.ensures.map told).places size in_it count in
    let none = ap (list_any (λ y. y == 0)) own ∙ known_sectors (pack (g.D.Tape.tape c.args.disk.now)) pages in_it in
    let some : list_any (λ y. y == 0) (mine (c.from-end.result + 1 - 1) c.in_ok-map.map.places) ≡ true = sym c.contains.ensures.value ∙ c.if-contains.true in
    absurd (let both : true ≡ false = sym some ∙ none in cc)

pub returns-in-Ok-clause-alone : goal.returns-in-Ok-clause-alone
returns-in-Ok-clause-alone g c = alone_twice c.in_ok-map.ensures.looks.alone c.in-Ok.ensures.alone

pub returns-in-Ok-clause-frame : goal.returns-in-Ok-clause-frame
returns-in-Ok-clause-frame g c = usable_twice c.in_ok-map.ensures.looks.alone c.in-Ok.ensures.alone (usable_looks c.in_ok-map.ensures.looks) (usable_own c.in-Ok.ensures.guarded)

pub returns-clause-alone : goal.returns-clause-alone
returns-clause-alone g c = alone_twice c.in_ok-map.ensures.looks.alone c.in-Err.ensures.alone

pub returns-clause-frame : goal.returns-clause-frame
returns-clause-frame g c = usable_twice c.in_ok-map.ensures.looks.alone c.in-Err.ensures.alone (usable_looks c.in_ok-map.ensures.looks) (usable_own c.in-Err.ensures.guarded)

pub returns-in-Ok-clause-closes : goal.returns-in-Ok-clause-closes
returns-in-Ok-clause-closes g c = λ told pages in_it.
    let size : length c.in_ok-map.map.places ≡ 6 = search rules in
    let shape : c.shape.result ≡ (g.D.Tape.tape c.args.disk.now).form = c.shape.ensures ∙ c.in_ok-map.ensures.looks.alone.grown.form in
    let count : c.from-end.result + 1 - 1 ≡ data_pages (g.D.Tape.tape c.args.disk.now).form = (let a = c.from-end.ensures in let b = c.data_pages.ensures.pages in let d = ap data_pages shape in omega (arith, a, b, d)) in
    let map = c.in_ok-map.ensures.map told in
    let own = mine_is (pack (g.D.Tape.tape c.args.disk.now)) c.in_ok-map.map.places pages (c.from-end.result + 1 - 1) map.places size in_it count in
    let wrote = (c.in-Ok.ensures.guarded told).writes in
    closes_so c.args.last c.in_ok-map.map.table _ _ pages (Ok tt) c.in_ok-map.ensures.looks.alone.grown c.in-Ok.ensures.alone.grown (c.in_ok-map.ensures.looks.silent told) map.table_is own wrote.some wrote.ok

pub returns-clause-closes : goal.returns-clause-closes
returns-clause-closes g c = λ told pages in_it.
    let size : length c.in_ok-map.map.places ≡ 6 = search rules in
    let shape : c.shape.result ≡ (g.D.Tape.tape c.args.disk.now).form = c.shape.ensures ∙ c.in_ok-map.ensures.looks.alone.grown.form in
    let count : c.from-end.result + 1 - 1 ≡ data_pages (g.D.Tape.tape c.args.disk.now).form = (let a = c.from-end.ensures in let b = c.data_pages.ensures.pages in let d = ap data_pages shape in omega (arith, a, b, d)) in
    let map = c.in_ok-map.ensures.map told in
    let own = mine_is (pack (g.D.Tape.tape c.args.disk.now)) c.in_ok-map.map.places pages (c.from-end.result + 1 - 1) map.places size in_it count in
    let wrote = (c.in-Err.ensures.guarded told).writes in
    closes_so c.args.last c.in_ok-map.map.table _ _ pages (Err c.stop_of_write.result) c.in_ok-map.ensures.looks.alone.grown c.in-Err.ensures.alone.grown (c.in_ok-map.ensures.looks.silent told) map.table_is own wrote.some tt

pub returns-clause-found : goal.returns-clause-found
returns-clause-found g c = λ told pages in_it astray.
    let size : length c.in_ok-map.map.places ≡ 6 = search rules in
    let shape : c.shape.result ≡ (g.D.Tape.tape c.args.disk.now).form = c.shape.ensures ∙ c.in_ok-map.ensures.looks.alone.grown.form in
    let count : c.from-end.result + 1 - 1 ≡ data_pages (g.D.Tape.tape c.args.disk.now).form = (let a = c.from-end.ensures in let b = c.data_pages.ensures.pages in let d = ap data_pages shape in omega (arith, a, b, d)) in
    let map = c.in_ok-map.ensures.map told in
    let own = mine_is (pack (g.D.Tape.tape c.args.disk.now)) c.in_ok-map.map.places pages (c.from-end.result + 1 - 1) map.places size in_it count in
    let same : pack (g.D.Tape.tape c.map_sectors.new.disk) ≡ pack (g.D.Tape.tape c.args.disk.now) = looks_pack c.in_ok-map.ensures.looks told in
    let here = subst (λ (q : Pack). IsDescriptorIn q (mine (c.from-end.result + 1 - 1) c.in_ok-map.map.places)) (sym same) (subst (IsDescriptorIn (pack (g.D.Tape.tape c.args.disk.now))) (sym own) in_it) in
    let stop : c.stop_of_write.result ≡ Astray = cc in
    let is : stop_of_write c.in-Err.error ≡ Astray = sym c.stop_of_write.ensures ∙ stop in
    never_held (g.D.Tape.tape c.map_sectors.new.disk) (g.D.Tape.tape c.write_pages.new.disk) (pack (g.D.Tape.tape c.map_sectors.new.disk)) (mine (c.from-end.result + 1 - 1) c.in_ok-map.map.places) _ c.in-Err.error here c.in-Err.ensures.cause (c.in-Err.ensures.guarded told).held is

pub returns-in_err-map-clause-cause : goal.returns-in_err-map-clause-cause
returns-in_err-map-clause-cause g c = cause_of_part c.in_err-map.field-0.0 c.from_residual.result (alone_here _) refl c.in_err-map.ensures.looks.alone c.in_err-map.ensures.cause c.from_residual.ensures.1

pub returns-clause-cause : goal.returns-clause-cause
returns-clause-cause g c =
    let here = g.D.Tape.tape c.map_sectors.new.disk in
    let now = g.D.Tape.tape c.write_pages.new.disk in
    cause_sooner {T = Unit {0}} (g.D.Tape.tape c.args.disk.now) here now (Err c.stop_of_write.result) c.in_ok-map.ensures.cause
    (subst (λ s. IsCause here now (cause_of_stop s)) (sym c.stop_of_write.ensures) (cause_of_write here now c.in-Err.error c.in-Err.ensures.cause))

pub returns-in_err-map-clause-alone : goal.returns-in_err-map-clause-alone
returns-in_err-map-clause-alone g c = c.in_err-map.ensures.looks.alone

pub returns-in_err-map-clause-frame : goal.returns-in_err-map-clause-frame
returns-in_err-map-clause-frame g c = usable_looks c.in_err-map.ensures.looks

pub returns-then-contains-clause-cause : goal.returns-then-contains-clause-cause
returns-then-contains-clause-cause g c = c.in_ok-map.ensures.cause

pub returns-then-contains-clause-alone : goal.returns-then-contains-clause-alone
returns-then-contains-clause-alone g c = c.in_ok-map.ensures.looks.alone

pub returns-then-contains-clause-frame : goal.returns-then-contains-clause-frame
returns-then-contains-clause-frame g c = usable_looks c.in_ok-map.ensures.looks

pub returns-in-Ok-clause-found : goal.returns-in-Ok-clause-found
returns-in-Ok-clause-found g c = λ told pages in_it astray. cc

pub returns-in-Ok-clause-cause : goal.returns-in-Ok-clause-cause
returns-in-Ok-clause-cause g c = c.in-Ok.ensures.cause ∙ c.in_ok-map.ensures.cause
