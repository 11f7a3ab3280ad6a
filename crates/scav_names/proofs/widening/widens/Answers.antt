use Rattle.std.proofs.Common.{◌≡◌, ◌+◌, cond, sym, ◌∙◌, subst, arith}
use Rattle.std.proofs.lemmas.Bool.{cond-true, cond-false}
use Rattle.scav_names.proofs.Placing.{IsPlacing, all_placed, none_placed_yet, placed_more}
use Rattle.scav_names.proofs.widening.widens.Goals as goal
use Rattle.scav_names.proofs.widening.widens.Goals.{then-branch, else-branch}

pub loop-file-init : goal.loop-file-init
loop-file-init c = λ is has few. none_placed_yet _ c.args.files.now is has few

pub loop-file-preserved : goal.loop-file-preserved
loop-file-preserved c = λ is has few.
    let p = c.loop-file.invariant is has few in
    let most = p.most in
    let within = c.loop-file-test.true in
    let more : c.if-branch.more ≡ cond c.in_ok-place.field-0 (c.loop-file.more + 1) c.loop-file.more = elim c.if-branch.branch [
      | then-branch w ↦ let sum : c.if-branch.more ≡ c.loop-file.more + 1 = w.more-is ∙ omega (arith, w.saturating_add-more.ensures) in sum ∙ sym (cond-true c.in_ok-place.field-0 (c.loop-file.more + 1) c.loop-file.more w.if-branch.true)
      | else-branch w ↦ w.more-is ∙ sym (cond-false c.in_ok-place.field-0 (c.loop-file.more + 1) c.loop-file.more w.if-branch.false)
    ] in
    let here = p.few in
    let placed = c.in_ok-place.ensures p.slots c.file-item.result.fid c.file-item.result.name p.rooms_are (omega arith) (sym c.entry_words.ensures.words) in
    subst (λ n. IsPlacing c.place.new.rooms c.args.files.now (c.loop-file.file-index + 1) n is) (sym more)
    (placed_more c.loop-file.rooms c.place.new.rooms c.args.files.now c.loop-file.file-index c.loop-file.more c.in_ok-place.field-0 c.file-item.result is p c.loop-file-test.true c.file-item.is placed)

pub returns : goal.returns
returns c = λ is has few. all_placed _ c.args.files.now c.loop-file.file-index c.loop-file.more is c.loop-file-test.false (c.loop-file.invariant is has few)
