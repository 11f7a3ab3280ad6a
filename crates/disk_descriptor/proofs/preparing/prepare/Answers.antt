use Rattle.std.proofs.Common.{Err, ap, arith, refl, rules, subst, suc, sym, ℕ, ◌*◌, ◌+◌, ◌-◌, ◌/◌, ◌∙◌, ◌≡◌, ◌≤◌}
use Rattle.disk_records.proofs.FirstOnes.{first_all}
use Rattle.disk_records.proofs.Growing.{alone_here, alone_twice, nothing_added}
use Rattle.disk_records.specs.Addresses.{pages_of}
use Rattle.disk_records.specs.Events.{IsFirstOf}
use Rattle.disk_records.specs.Tapes.{added}
use Rattle.laws_format.specs.Preparing.{drive_pages, prepare_writes, preparing_writes}
use Rattle.disk_descriptor.proofs.Preparings.{drive_prepared, halves_are, sector_done, sector_failed, shows_throughout}
use Rattle.disk_descriptor.proofs.Writings.{writes_all}
use Rattle.disk_descriptor.specs.Writing.{Writes}
use Rattle.disk_descriptor.specs.declared.errors.FormatError.TheVariants.{Memory}
use Rattle.disk_descriptor.proofs.preparing.prepare.Goals as goal

pub loop-at-preserved : goal.loop-at-preserved
loop-at-preserved g c =
    let old = g.D.Tape.tape c.args.disk.now in
    let so_far = c.loop-at.invariant in
    let drive = drive_pages old.form in
    let done = c.loop-at.at - drive in
    let is : c.loop-at.at ≡ drive + done = omega (arith, so_far.begins) in
    let next : suc done ≡ c.loop-at.at + 1 - drive = omega (arith, so_far.begins) in
    record {
      alone = alone_twice so_far.alone c.in_ok-prepare_sector.ensures.alone;
      unfailed = c.in_ok-prepare_sector.ensures.cause ∙ so_far.unfailed;
      begins = omega (arith, so_far.begins);
      end = so_far.end;
      wrote = λ told. sector_done c.args.number drive c.loop-at.at done so_far.alone c.in_ok-prepare_sector.ensures.alone is (so_far.wrote told) (c.in_ok-prepare_sector.ensures.writes told).ok ∙ ap (preparing_writes old.form c.args.number drive) next;
      runs = λ told. let ran = so_far.runs told in let now = (c.in_ok-prepare_sector.ensures.writes told).runs in omega (arith, ran, now, so_far.begins);
    }

pub returns-in_err-prepare_sector-clause-alone : goal.returns-in_err-prepare_sector-clause-alone
returns-in_err-prepare_sector-clause-alone g c = alone_twice c.loop-at.invariant.alone c.in_err-prepare_sector.ensures.alone

pub returns-in_err-prepare_sector-clause-writes : goal.returns-in_err-prepare_sector-clause-writes
returns-in_err-prepare_sector-clause-writes g c = λ told.
    let old = g.D.Tape.tape c.args.disk.now in
    let new = g.D.Tape.tape c.prepare_sector.new.disk in
    let so_far = c.loop-at.invariant in
    let e = c.in_err-prepare_sector.field-0.0 in
    let drive = drive_pages old.form in
    let done = c.loop-at.at - drive in
    let both = halves_are old.form c.requires.two in
    let is : c.loop-at.at ≡ drive + done = omega (arith, so_far.begins) in
    let few : suc done ≤ drive = omega (arith, both, so_far.begins, so_far.end) in
    let size : 2 * drive ≡ pages_of old.form = omega (arith, both) in
    let failed : c.from_residual.result ≡ Err e = search rules in
    subst (λ r. Writes {T = ℕ} Memory (prepare_writes old.form c.args.number) (pages_of old.form) old new r) (sym failed)
    (subst (λ m. Writes {T = ℕ} Memory (prepare_writes old.form c.args.number) m old new (Err e)) size
    (sector_failed c.args.number drive c.loop-at.at done so_far.alone c.in_err-prepare_sector.ensures.alone is (so_far.wrote told) e drive few (so_far.runs told) (c.in_err-prepare_sector.ensures.writes told)))

pub returns-in_err-prepare_sector-clause-shows : goal.returns-in_err-prepare_sector-clause-shows
returns-in_err-prepare_sector-clause-shows g c = λ k told unused.
    let old = g.D.Tape.tape c.args.disk.now in
    let so_far = c.loop-at.invariant in
    let drive = drive_pages old.form in
    let done = c.loop-at.at - drive in
    let both = halves_are old.form c.requires.two in
    let is : c.loop-at.at ≡ drive + done = omega (arith, so_far.begins) in
    let few : suc done ≤ drive = omega (arith, both, so_far.begins, so_far.end) in
    let broken = sector_failed c.args.number drive c.loop-at.at done so_far.alone c.in_err-prepare_sector.ensures.alone is (so_far.wrote told) {U = ℕ} c.in_err-prepare_sector.field-0.0 drive few (so_far.runs told) (c.in_err-prepare_sector.ensures.writes told) in
    shows_throughout c.args.number c.requires.two (g.met.D.Disk.sized c.args.disk.now told) (alone_twice so_far.alone c.in_err-prepare_sector.ensures.alone).grown k broken.some unused

pub loop-at-init : goal.loop-at-init
loop-at-init g c =
    let old = g.D.Tape.tape c.args.disk.now in
    let drive = drive_pages old.form in
    let both = halves_are old.form c.requires.two in
    let here : c.pages-first.result ≡ pages_of old.form = c.pages-first.ensures ∙ ap pages_of c.shape-shape.ensures in
    let none : 0 ≡ c.pages-first.result / 2 - drive = omega (arith, both, here) in
    record {
      alone = alone_here old;
      unfailed = refl;
      begins = omega (arith, both, here);
      end = c.pages-at-end.ensures ∙ ap pages_of c.shape-shape.ensures;
      wrote = λ told. nothing_added old.events ∙ ap (preparing_writes old.form c.args.number drive) none;
      runs = λ told. omega arith;
    }

-- all sectors of the second drive, and no more
pub returns-clause-writes : goal.returns-clause-writes
returns-clause-writes g c = λ told.
    let old = g.D.Tape.tape c.args.disk.now in
    let now = g.D.Tape.tape c.loop-at.disk in
    let so_far = c.loop-at.invariant in
    let drive = drive_pages old.form in
    let both = halves_are old.form c.requires.two in
    let all : c.loop-at.at - drive ≡ drive = omega (arith, both, so_far.begins, so_far.end) in
    let ran = so_far.runs told in
    writes_all Memory (c.pages-first.result / 2) (prepare_writes old.form c.args.number) (pages_of old.form)
    (subst (λ n. added old now ≡ preparing_writes old.form c.args.number drive n) all (so_far.wrote told)) (omega (arith, both, all, ran))

pub returns-clause-shows : goal.returns-clause-shows
returns-clause-shows g c = λ k told unused.
    let old = g.D.Tape.tape c.args.disk.now in
    let now = g.D.Tape.tape c.loop-at.disk in
    let so_far = c.loop-at.invariant in
    let drive = drive_pages old.form in
    let both = halves_are old.form c.requires.two in
    let all : c.loop-at.at - drive ≡ drive = omega (arith, both, so_far.begins, so_far.end) in
    let wrote = subst (λ n. added old now ≡ preparing_writes old.form c.args.number drive n) all (so_far.wrote told) in
    shows_throughout c.args.number c.requires.two (g.met.D.Disk.sized c.args.disk.now told) so_far.alone.grown k
    (subst (IsFirstOf (prepare_writes old.form c.args.number)) (sym wrote) (first_all (prepare_writes old.form c.args.number))) unused

pub returns-clause-frees : goal.returns-clause-frees
returns-clause-frees g c = λ told.
    let old = g.D.Tape.tape c.args.disk.now in
    let now = g.D.Tape.tape c.loop-at.disk in
    let so_far = c.loop-at.invariant in
    let drive = drive_pages old.form in
    let both = halves_are old.form c.requires.two in
    let all : c.loop-at.at - drive ≡ drive = omega (arith, both, so_far.begins, so_far.end) in
    drive_prepared c.args.number c.requires.two (g.met.D.Disk.sized c.args.disk.now told) so_far.alone.grown
    (subst (λ n. added old now ≡ preparing_writes old.form c.args.number drive n) all (so_far.wrote told))

pub returns-clause-pages : goal.returns-clause-pages
returns-clause-pages g c =
    let form = (g.D.Tape.tape c.args.disk.now).form in
    let both = halves_are form c.requires.two in
    let here : c.pages-first.result ≡ pages_of form = c.pages-first.ensures ∙ ap pages_of c.shape-shape.ensures in
    omega (arith, both, here)
