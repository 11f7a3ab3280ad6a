use Rattle.std.proofs.Common.{All, subst, sym}
use Rattle.std.proofs.lemmas.List.Elements.{All-cons, All-head, All-tail, All-contains_itself}
use Rattle.file_pages.specs.Growing.{IsSector}
use Rattle.file_pages.proofs.FreeSectors.{is_no_sector, none_are}
use Rattle.std.specs.Prelude.{Contains}
use Rattle.file_pages.proofs.growing.first_unusable.Goals as goal

pub loop-at-init : goal.loop-at-init
loop-at-init c = record { back = λ h. h; on = λ h. h; given = All-contains_itself c.args.fresh.now }

pub returns-then-not-is_sector-clause-some : goal.returns-then-not-is_sector-clause-some
returns-then-not-is_sector-clause-some c all =
    let P = IsSector c.args.shape in
    is_no_sector c.args.shape c.in-Some.at.now (c.is_sector.ensures.no c.if-not-is_sector.true) (All-head P c.in-Some.at.now c.in-Some.later.now (subst (All P) c.in-Some.ensures.cases.0 (c.loop-at.invariant.on all)))

pub loop-at-preserved : goal.loop-at-preserved
loop-at-preserved c =
    let P = IsSector c.args.shape in
    let rest = c.in-Some.ensures.cases.0 in
    let is = c.is_sector.ensures.yes c.if-not-is_sector.false in
    record {
      back = λ h. c.loop-at.invariant.back (subst (All P) (sym rest) (All-cons P c.in-Some.at.now c.in-Some.later.now (record { first = is.0; last = is.1 }) h));
      on = λ h. All-tail P c.in-Some.at.now c.in-Some.later.now (subst (All P) rest (c.loop-at.invariant.on h));
      given = All-tail (Contains c.args.fresh.now) c.in-Some.at.now c.in-Some.later.now (subst (All (Contains c.args.fresh.now)) rest c.loop-at.invariant.given);
    }

pub returns-clause-none : goal.returns-clause-none
returns-clause-none c = c.loop-at.invariant.back (none_are c.args.shape c.loop-at.rest.now c.in_default.ensures.cases)

pub returns-then-not-is_sector-clause-given : goal.returns-then-not-is_sector-clause-given
returns-then-not-is_sector-clause-given c = All-head (Contains c.args.fresh.now) c.in-Some.at.now c.in-Some.later.now (subst (All (Contains c.args.fresh.now)) c.in-Some.ensures.cases.0 c.loop-at.invariant.given)
