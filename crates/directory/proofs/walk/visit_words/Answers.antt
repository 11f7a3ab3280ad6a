use Rattle.std.proofs.Common.{◌≡◌, ◌∙◌, ◌++◌, length, take, sym, ap, subst, arith}
use Rattle.std.proofs.lemmas.List.{append-nil, take_all}
use Rattle.dir_slots.specs.Walks.{Walked}
use Rattle.directory.specs.Visits.{Visits}
use Rattle.directory.proofs.Items.{met_ends}
use Rattle.directory.proofs.Paging.{visits_end, visits_next, visits_on}
use Rattle.directory.proofs.walk.visit_words.Goals as goal

pub loop-met-init : goal.loop-met-init
loop-met-init g c =
    let words = c.args.words.now in
    let taken = c.pass_for.ensures.taken in
    record {
      within = c.pass_for.ensures.within;
      taken = omega (arith, taken);
      visits = λ given walked.
          subst (λ l. Visits g.V.Visit.step l (given ++ take c.pass_for.new.from words) c.pass_for.new.walk c.args.visitor.now c.args.visitor.now) (append-nil given)
          (c.pass_for.ensures.visits given (subst (λ l. Walked l c.args.walk.now) (sym (append-nil given)) walked));
      same = c.pass_for.ensures.same;
    }

pub visit-requires-clause-within : goal.visit-requires-clause-within
visit-requires-clause-within g c =
    let inv = c.loop-met.invariant in
    let start = c.requires.walks in
    let before = inv.visits start.0 start.1 in
    let next = c.in-Some.ensures in
    let end = met_ends _ _ c.loop-met.walk c.next.new.self c.in-Some.met before.walked (next.meets start.0 before.walked) next.place in
    let fits = c.requires.fits in
    let taken = next.taken in
    omega (arith, end, fits, taken, inv.taken)

pub loop-met-preserved : goal.loop-met-preserved
loop-met-preserved g c =
    let words = c.args.words.now in
    let inv = c.loop-met.invariant in
    let next = c.in-Some.ensures in
    let pass = c.pass_for-in-Some.ensures in
    record {
      within = pass.within;
      taken = omega (arith, inv.taken, next.taken, pass.taken);
      visits = λ given walked.
          let before = inv.visits given walked in
          let met = visits_next g.V.Visit.step given _ _ c.loop-met.walk c.next.new.self c.args.visitor.now c.loop-met.visitor c.visit.new.self c.in-Some.met before (next.meets given before.walked) c.in_ok-visit.ensures.step in
          visits_on g.V.Visit.step given (given ++ take c.next.new.from words) (given ++ take c.pass_for-in-Some.new.from words) c.next.new.self c.pass_for-in-Some.new.walk c.args.visitor.now c.visit.new.self c.visit.new.self met (pass.visits given met.walked);
      same = pass.same ∙ inv.same;
    }

pub returns-clause-visits : goal.returns-clause-visits
returns-clause-visits g c = λ given walked.
    let words = c.args.words.now in
    let before = c.loop-met.invariant.visits given walked in
    let met = c.in_default.ensures.meets given before.walked in
    let all : take c.next.new.from words ≡ words = ap (λ n. take n words) c.in_default.ensures.none ∙ take_all (length words) words (omega arith) in
    subst (λ l. Visits g.V.Visit.step given (given ++ l) c.next.new.self c.args.visitor.now c.loop-met.visitor) all (visits_end g.V.Visit.step given _ _ _ c.next.new.self c.args.visitor.now c.loop-met.visitor before met)
