use Rattle.std.proofs.Common.{◌∙◌, ◌++◌, ◌∷◌, [], cond, refl, sym, ap, append-nil}
use Rattle.scav_names.proofs.Parting.{entry_parted}
use Rattle.scav_names.proofs.parted.Parted.take.Goals as goal

pub returns-in_ok-push : goal.returns-in_ok-push
returns-in_ok-push c = λ alive before lets lives h.
    let j = c.in_ok-keeps.ensures alive before lets lives h in
    entry_parted alive before c.args.entry.now c.args.self.now c.keeps.new.self _ c.in_ok-keeps.field-0 h j
    (cc (c.in_ok-push.ensures.items, c.as_vec.ensures.value) ∙ ap (λ b. c.keeps.new.self.kept ++ cond b (c.args.entry.now ∷ []) []) (sym c.if-branch.true))
    (sym (append-nil c.keeps.new.self.unkept) ∙ ap (λ b. c.keeps.new.self.unkept ++ cond b [] (c.args.entry.now ∷ [])) (sym c.if-branch.true))
    refl refl refl

pub returns-in_ok-push-2 : goal.returns-in_ok-push-2
returns-in_ok-push-2 c = λ alive before lets lives h.
    let j = c.in_ok-keeps.ensures alive before lets lives h in
    entry_parted alive before c.args.entry.now c.args.self.now c.keeps.new.self _ c.in_ok-keeps.field-0 h j
    (sym (append-nil c.keeps.new.self.kept) ∙ ap (λ b. c.keeps.new.self.kept ++ cond b (c.args.entry.now ∷ []) []) (sym c.if-branch.false))
    (cc (c.in_ok-push-2.ensures.items, c.as_vec-else-branch.ensures.value) ∙ ap (λ b. c.keeps.new.self.unkept ++ cond b [] (c.args.entry.now ∷ [])) (sym c.if-branch.false))
    refl refl refl
