use Rattle.std.proofs.Common.{◌≡◌, ℕ, ◌+◌, ◌<◌, true, false, not, List, length, drop, get_or, add-one, drop-cons, sym, ap, ◌∙◌, arith, rules}
use Rattle.alto_words.specs.Fid.{is_system}
use Rattle.pack_model.specs.states.InUse.{one_if}
use Rattle.scav_pages.proofs.Ahead.{few_pass}
use Rattle.scav_names.specs.declared.living.Living.{Living}
use Rattle.scav_names.specs.Lacking.{adopted_among}
use Rattle.scav_names.proofs.mend.count_adopted.Goals as goal
use Rattle.scav_names.proofs.mend.count_adopted.Goals.{then-not-is_system, else-not-is_system}

left : (files : List Living) (k : ℕ) (d : Living) → k < length files → adopted_among (drop k files) ≡ one_if (not (is_system (get_or files k d).fid)) + adopted_among (drop (k + 1) files)
left files k d l = ap adopted_among (drop-cons files k d l) ∙ ap (λ n. one_if (not (is_system (get_or files k d).fid)) + adopted_among (drop n files)) (sym (add-one k))

pub loop-file-preserved : goal.loop-file-preserved
loop-file-preserved c = record {
  so_far = λ few.
      let files = c.args.files.now in
      let k = c.loop-file.file-index in
      let file = c.file-item.result in
      let so_far = c.loop-file.invariant.so_far few in
      let next = left files k file c.loop-file-test.true in
      let same : is_system (get_or files k file).fid ≡ c.is_system.result = ap (λ x. is_system x.fid) (sym c.file-item.is) ∙ sym c.is_system.ensures in
      let most = few_pass (λ x. not (is_system x.fid)) files in
      elim c.if-not-is_system.branch [
        | then-not-is_system w ↦
            let one : one_if (not (is_system (get_or files k file).fid)) ≡ 1 = ap (λ b. one_if (not b)) same ∙ ap (λ b. one_if (not b)) (let t : c.is_system.result ≡ false = search rules in t) in
            let more = w.adopted-is ∙ w.saturating_add-adopted.ensures in
            omega (arith, so_far, next, one, most, more, few)
        | else-not-is_system w ↦
            let none : one_if (not (is_system (get_or files k file).fid)) ≡ 0 = ap (λ b. one_if (not b)) same ∙ ap (λ b. one_if (not b)) (let t : c.is_system.result ≡ true = search rules in t) in
            let more = w.adopted-is in
            omega (arith, so_far, next, none, more)
      ];
}
