use Rattle.std.proofs.Common.{List, [], ap, arith, length, refl, subst, ℕ, ◌∷◌}
use Rattle.disk_records.specs.Tapes.{added, pack}
use Rattle.disk_records.specs.Causes.{never}
use Rattle.file_pages.specs.Growing.{growth_writes}
use Rattle.pack_model.specs.operations.Step.Operation.{widen}
use Rattle.directory.specs.Widening.{WrotePart}
use Rattle.page_seeking.proofs.Erring.{on_ok_map}
use Rattle.directory.proofs.Answering.{cause_in, misled_in, on_err_in, on_ok_in, operates_in}
use Rattle.directory.proofs.WideningPage.{may_be_grown}
use Rattle.directory.proofs.widening.widen.Goals as goal

pub returns-clause-operates : goal.returns-clause-operates
returns-clause-operates g c told stands free =
    let may = may_be_grown (pack (g.D.Tape.tape c.args.disk.now)) c.args.dir.now.fid c.free_page.result c.args.fresh stands.directory c.free_page.ensures free in
    operates_in c.grow.result c.in_directory.result c.in_directory.ensures (c.grow.ensures.operates (widen c.args.dir.now.fid) told stands.stands may)

pub returns-clause-misled : goal.returns-clause-misled
returns-clause-misled g c told stands free =
    let may = may_be_grown (pack (g.D.Tape.tape c.args.disk.now)) c.args.dir.now.fid c.free_page.result c.args.fresh stands.directory c.free_page.ensures free in
    misled_in _ c.grow.result c.in_directory.result c.in_directory.ensures (c.grow.ensures.misled (widen c.args.dir.now.fid) told stands.stands may)

pub returns-clause-cause : goal.returns-clause-cause
returns-clause-cause g c = cause_in never never never (g.D.Tape.tape c.args.disk.now) (g.D.Tape.tape c.args.disk.now) (g.D.Tape.tape c.grow.new.disk) c.grow.result c.in_directory.result c.in_directory.ensures refl c.grow.ensures.cause

pub returns-clause-quick : goal.returns-clause-quick
returns-clause-quick g c told stands free quick named =
    let may = may_be_grown (pack (g.D.Tape.tape c.args.disk.now)) c.args.dir.now.fid c.free_page.result c.args.fresh stands.directory c.free_page.ensures free in
    on_ok_in _ c.grow.result c.in_directory.result c.in_directory.ensures (c.grow.ensures.quick (widen c.args.dir.now.fid) told stands.stands may quick named)

pub returns-clause-handy : goal.returns-clause-handy
returns-clause-handy g c told stands free =
    let may = may_be_grown (pack (g.D.Tape.tape c.args.disk.now)) c.args.dir.now.fid c.free_page.result c.args.fresh stands.directory c.free_page.ensures free in
    on_ok_in _ c.grow.result c.in_directory.result c.in_directory.ensures (c.grow.ensures.handy (widen c.args.dir.now.fid) told stands.stands may)

pub grow-requires-clause-some : goal.grow-requires-clause-some
grow-requires-clause-some g c = let size = ap length c.free_page.ensures in omega (arith, size)

pub returns-clause-table : goal.returns-clause-table
returns-clause-table g c = on_err_in _ c.grow.result c.in_directory.result c.in_directory.ensures c.grow.ensures.table

pub returns-clause-widens : goal.returns-clause-widens
returns-clause-widens g c at told stands free last =
    let may = may_be_grown (pack (g.D.Tape.tape c.args.disk.now)) c.args.dir.now.fid c.free_page.result c.args.fresh stands.directory c.free_page.ensures free in
    let p = pack (g.D.Tape.tape c.args.disk.now) in
    let events = added (g.D.Tape.tape c.args.disk.now) (g.D.Tape.tape c.grow.new.disk) in
    let grows = c.grow.ensures.grows (widen c.args.dir.now.fid) at told stands.stands may last in
    subst (λ (b : List ℕ). WrotePart {T = Unit {0}} (growth_writes p c.args.dir.now.fid at b [] (c.args.fresh ∷ [])) events c.in_directory.result) c.free_page.ensures
    (record { some = grows.some; all = on_ok_in _ c.grow.result c.in_directory.result c.in_directory.ensures grows.all })

pub returns-clause-true_links : goal.returns-clause-true_links
returns-clause-true_links g c told stands free links =
    let may = may_be_grown (pack (g.D.Tape.tape c.args.disk.now)) c.args.dir.now.fid c.free_page.result c.args.fresh stands.directory c.free_page.ensures free in
    misled_in _ c.grow.result c.in_directory.result c.in_directory.ensures (c.grow.ensures.true_links (widen c.args.dir.now.fid) told stands.stands may links)

pub returns-clause-given : goal.returns-clause-given
returns-clause-given g c = misled_in _ c.grow.result c.in_directory.result c.in_directory.ensures c.grow.ensures.given

pub returns-clause-listed : goal.returns-clause-listed
returns-clause-listed g c = on_ok_in _ c.grow.result c.in_directory.result c.in_directory.ensures c.grow.ensures.listed

pub returns-clause-quiet : goal.returns-clause-quiet
returns-clause-quiet g c told stands free =
    let may = may_be_grown (pack (g.D.Tape.tape c.args.disk.now)) c.args.dir.now.fid c.free_page.result c.args.fresh stands.directory c.free_page.ensures free in
    misled_in _ c.grow.result c.in_directory.result c.in_directory.ensures (c.grow.ensures.quiet (widen c.args.dir.now.fid) told stands.stands may)

pub returns-clause-was_free : goal.returns-clause-was_free
returns-clause-was_free g c told =
    on_ok_in _ c.grow.result c.in_directory.result c.in_directory.ensures (on_ok_map c.grow.result (λ all. all 0 0 (omega arith)) (c.grow.ensures.were_free told))
