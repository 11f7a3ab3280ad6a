use Rattle.std.proofs.Common.{◌≡◌, ◌+◌, suc, ap, ◌∙◌, sym, subst, arith}
use Rattle.disk_records.specs.Addresses.{pages_of}
use Rattle.disk_records.specs.Tapes.{pack}
use Rattle.disk_records.proofs.Framing.{usable_twice}
use Rattle.disk_records.proofs.Growing.{alone_twice}
use Rattle.pack_model.specs.sessions.Descriptor.{data_pages}
use Rattle.scav_pages.specs.Ends.{AreWithin, MayDescribePage}
use Rattle.scav_pages.proofs.Causing.{cause_of_part}
use Rattle.scav_pages.proofs.Doing.{does_ok, does_stop_part, going_does}
use Rattle.scav_pages.proofs.Describing.{described_lasts}
use Rattle.scav_pages.proofs.descriptor.mend_descriptor.Goals as goal

pub mend_data_page-requires-clause-most : goal.mend_data_page-requires-clause-most
mend_data_page-requires-clause-most g c = let many = c.data_pages-last.ensures.pages ∙ ap data_pages (c.shape.ensures ∙ sym c.loop-number.invariant.alone.grown.form) in omega (arith, many)

pub mend_data_page-requires-clause-within : goal.mend_data_page-requires-clause-within
mend_data_page-requires-clause-within g c = subst (λ s. AreWithin (pages_of s) c.loop-number.places) (sym c.loop-number.invariant.alone.grown.form) c.loop-number.invariant.within

pub make_leader-requires-clause-within : goal.make_leader-requires-clause-within
make_leader-requires-clause-within g c = subst (λ s. AreWithin (pages_of s) c.loop-number.places) (sym c.loop-number.invariant.alone.grown.form) c.loop-number.invariant.within

pub returns-else-places-eq0-clause-alone : goal.returns-else-places-eq0-clause-alone
returns-else-places-eq0-clause-alone g c = c.loop-number.invariant.alone

pub returns-else-places-eq0-clause-frame : goal.returns-else-places-eq0-clause-frame
returns-else-places-eq0-clause-frame g c = c.loop-number.invariant.frame

pub returns-in_err-mend_data_page-clause-cause : goal.returns-in_err-mend_data_page-clause-cause
returns-in_err-mend_data_page-clause-cause g c = cause_of_part c.in_err-mend_data_page.field-0.0 c.from_residual.result c.loop-number.invariant.alone c.loop-number.invariant.unfailed c.in_err-mend_data_page.ensures.alone c.in_err-mend_data_page.ensures.cause c.from_residual.ensures.1

pub returns-in_err-mend_data_page-clause-alone : goal.returns-in_err-mend_data_page-clause-alone
returns-in_err-mend_data_page-clause-alone g c = alone_twice c.loop-number.invariant.alone c.in_err-mend_data_page.ensures.alone

pub returns-in_err-mend_data_page-clause-frame : goal.returns-in_err-mend_data_page-clause-frame
returns-in_err-mend_data_page-clause-frame g c = usable_twice c.loop-number.invariant.alone c.in_err-mend_data_page.ensures.alone c.loop-number.invariant.frame c.in_err-mend_data_page.ensures.frame

pub returns-in_err-make_leader-clause-cause : goal.returns-in_err-make_leader-clause-cause
returns-in_err-make_leader-clause-cause g c = cause_of_part c.in_err-make_leader.field-0.0 c.from_residual-in_err-make_leader.result c.loop-number.invariant.alone c.loop-number.invariant.unfailed c.in_err-make_leader.ensures.alone c.in_err-make_leader.ensures.cause c.from_residual-in_err-make_leader.ensures.1

pub returns-in_err-make_leader-clause-alone : goal.returns-in_err-make_leader-clause-alone
returns-in_err-make_leader-clause-alone g c = alone_twice c.loop-number.invariant.alone c.in_err-make_leader.ensures.alone

pub returns-in_err-make_leader-clause-frame : goal.returns-in_err-make_leader-clause-frame
returns-in_err-make_leader-clause-frame g c = usable_twice c.loop-number.invariant.alone c.in_err-make_leader.ensures.alone c.loop-number.invariant.frame c.in_err-make_leader.ensures.frame

pub returns-in_ok-make_leader-clause-alone : goal.returns-in_ok-make_leader-clause-alone
returns-in_ok-make_leader-clause-alone g c = alone_twice c.loop-number.invariant.alone c.in_ok-make_leader.ensures.alone

pub returns-in_ok-make_leader-clause-frame : goal.returns-in_ok-make_leader-clause-frame
returns-in_ok-make_leader-clause-frame g c = usable_twice c.loop-number.invariant.alone c.in_ok-make_leader.ensures.alone c.loop-number.invariant.frame c.in_ok-make_leader.ensures.frame

pub returns-in_err-mend_data_page-clause-does : goal.returns-in_err-mend_data_page-clause-does
returns-in_err-mend_data_page-clause-does g c = λ told may.
    let so_far = c.loop-number.invariant in
    does_stop_part c.in_err-mend_data_page.field-0.0 c.from_residual.result (so_far.going told may) c.in_err-mend_data_page.ensures.alone.grown (c.in_err-mend_data_page.ensures.does told (so_far.described told may)) c.from_residual.ensures.1

pub loop-number-preserved : goal.loop-number-preserved
loop-number-preserved g c =
    let so_far = c.loop-number.invariant in
    let next = c.in_ok-mend_data_page.ensures in
    let places = c.mend_data_page.new.places in
    let more : suc c.loop-number.number ≡ c.loop-number.number + 1 = omega arith in
    record {
      alone = alone_twice so_far.alone next.alone;
      unfailed = next.cause ∙ so_far.unfailed;
      frame = usable_twice so_far.alone next.alone so_far.frame next.frame;
      first = next.first;
      within = subst (λ s. AreWithin (pages_of s) places) so_far.alone.grown.form next.within;
      going = λ told may. going_does (so_far.going told may) next.alone.grown (next.does told (so_far.described told may));
      described = λ told may. subst (λ n. MayDescribePage (pack (g.D.Tape.tape c.mend_data_page.new.disk)) n places c.mend_data_page.new.from) more (next.does told (so_far.described told may)).leaves;
    }

pub returns-in_err-make_leader-clause-does : goal.returns-in_err-make_leader-clause-does
returns-in_err-make_leader-clause-does g c = λ told may.
    let so_far = c.loop-number.invariant in
    let now = g.D.Tape.tape c.loop-number.disk in
    let many = c.data_pages-last.ensures.pages ∙ ap data_pages (c.shape.ensures ∙ sym so_far.alone.grown.form) in
    let all : c.loop-number.number ≡ data_pages now.form + 1 = omega (arith, many) in
    let described = subst (λ n. MayDescribePage (pack now) n c.loop-number.places c.loop-number.from) all (so_far.described told may) in
    does_stop_part c.in_err-make_leader.field-0.0 c.from_residual-in_err-make_leader.result (so_far.going told may) c.in_err-make_leader.ensures.alone.grown (c.in_err-make_leader.ensures.does told described) c.from_residual-in_err-make_leader.ensures.1

pub returns-in_ok-make_leader-clause-does : goal.returns-in_ok-make_leader-clause-does
returns-in_ok-make_leader-clause-does g c = λ told may.
    let so_far = c.loop-number.invariant in
    let now = g.D.Tape.tape c.loop-number.disk in
    let many = c.data_pages-last.ensures.pages ∙ ap data_pages (c.shape.ensures ∙ sym so_far.alone.grown.form) in
    let all : c.loop-number.number ≡ data_pages now.form + 1 = omega (arith, many) in
    let described = subst (λ n. MayDescribePage (pack now) n c.loop-number.places c.loop-number.from) all (so_far.described told may) in
    let d = c.in_ok-make_leader.ensures.does told described in
    does_ok tt (going_does (so_far.going told may) c.in_ok-make_leader.ensures.alone.grown d) d.leaves

pub returns-else-places-eq0-clause-does : goal.returns-else-places-eq0-clause-does
returns-else-places-eq0-clause-does g c = λ told may.
    let so_far = c.loop-number.invariant in
    let now = g.D.Tape.tape c.loop-number.disk in
    let many = c.data_pages-last.ensures.pages ∙ ap data_pages (c.shape.ensures ∙ sym so_far.alone.grown.form) in
    let all : c.loop-number.number ≡ data_pages now.form + 1 = omega (arith, many) in
    let described = subst (λ n. MayDescribePage (pack now) n c.loop-number.places c.loop-number.from) all (so_far.described told may) in
    does_ok tt (so_far.going told may) (described_lasts (pack now) c.loop-number.places c.loop-number.from described c.if-places-eq0.false)
