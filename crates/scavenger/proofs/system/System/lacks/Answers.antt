use Rattle.std.proofs.Common.{◌≡◌, ◌==◌, ◌+◌, ◌-◌, get_or, ap, ◌∙◌, arith}
use Rattle.alto_words.specs.Fid.{disk_descriptor}
use Rattle.pack_model.specs.reading.Sights.{sights}
use Rattle.pack_model.specs.scavenger.Needed.{missing}
use Rattle.pack_model.specs.sessions.Descriptor.{data_pages}
use Rattle.pack_model.specs.states.InUse.{one_if}
use Rattle.scav_pages.proofs.Describing.{few_data_pages}
use Rattle.scavenger.proofs.Lacking.{lacks_more, none_noted, one_noted}
use Rattle.scavenger.proofs.system.System.lacks.Goals as goal
use Rattle.scavenger.proofs.system.System.lacks.Goals.{then-self-from-eq0, else-self-from-eq0}

pub loop-number-preserved : goal.loop-number-preserved
loop-number-preserved c =
    let few = c.loop-number.invariant.few in
    let most = few_data_pages c.args.shape in
    let below = c.loop-number-test.true in
    let end = c.data_pages-number-end.ensures.pages in
    let start = c.loop-number.auto.number in
    let more : c.if-self-from-eq0.lacks ≡ one_if (get_or c.args.self.now.places c.loop-number.number 0 == 0) + c.loop-number.lacks = elim c.if-self-from-eq0.branch [
      | then-self-from-eq0 w ↦ (let one = none_noted c.args.self.now.places c.loop-number.number c.from.result c.from.ensures w.if-self-from-eq0.true in let is = w.lacks-is in omega (arith, one, is))
      | else-self-from-eq0 w ↦ (let none = one_noted c.args.self.now.places c.loop-number.number c.from.result c.from.ensures w.if-self-from-eq0.false in let is = w.lacks-is in omega (arith, none, is))
    ] in
    record {
      few = elim c.if-self-from-eq0.branch [
        | then-self-from-eq0 w ↦ (let is = w.lacks-is in omega (arith, few, is))
        | else-self-from-eq0 w ↦ (let is = w.lacks-is in omega (arith, few, is))
      ];
      lacks = λ p is. more ∙ lacks_more p c.args.self.now.places c.loop-number.number c.loop-number.lacks is.places (omega (arith, start)) (omega (arith, most, below, end)) (c.loop-number.invariant.lacks p is);
    }

pub returns-clause-lacks : goal.returns-clause-lacks
returns-clause-lacks c = λ p shape is.
    let over = c.loop-number-test.false in
    let end = c.data_pages-number-end.ensures.pages in
    let low = c.data_pages-number-end.ensures.least in
    let most = c.loop-number.auto.number-end in
    let last : c.loop-number.number - 1 ≡ data_pages c.args.shape = omega (arith, over, end, low, most) in
    c.loop-number.invariant.lacks p is ∙ ap (missing (sights p) disk_descriptor) last
