use Rattle.std.proofs.Common.{◌≡◌, ◌∙◌, ◌%◌, ◌<◌, ◌≤◌, min, ℕ, length, take, refl, sym, ap, subst, arith}
use Rattle.std.proofs.lemmas.List.{length-take, take-take}
use Rattle.dir_slots.specs.Walks.{Walked}
use Rattle.dir_slots.proofs.Slots.{front_of}
use Rattle.dir_slots.proofs.Stepping.{whole_size, whole_meets}
use Rattle.dir_slots.proofs.walk.Walk.take_whole.Goals as goal

pub returns-clause-meets : goal.returns-clause-meets
returns-clause-meets c = λ given walked.
    let words = c.args.words.now in
    let n : ℕ = c.in_ok-length.field-0.now % 1024 in
    let was = subst (Walked given) (sym c.self.view_is) walked in
    let within : n ≤ length words = omega (arith, c.if-length-words.false) in
    let long : length (take n words) ≡ n = let e = length-take n words in omega (arith, e, within) in
    let front = sym (take-take c.min.result n words (omega (arith, c.min.ensures))) ∙ front_of (take n words) c.min.result (c.min.ensures ∙ ap (λ (m : ℕ). min m 26) (sym long)) in
    let least : 0 < n = omega (arith, c.in_ok-slot.ensures.least, c.in_ok-slot.ensures.most) in
    whole_meets words c.in_ok-length.field-0.now n c.in_ok-slot.slot c.in_ok-length.ensures.value refl within (c.in_ok-slot.ensures.item (take n words) long front) least given c.self.inside.place c.self.inside.held c.self.inside.front c.self.inside.ended was
    c.if-self.false (omega (arith, c.if-self-ne0.false)) (c.in_ok-slot.ensures.address (take n words) long front)

pub returns-clause-taken : goal.returns-clause-taken
returns-clause-taken c =
    let words = c.args.words.now in
    let n : ℕ = c.in_ok-length.field-0.now % 1024 in
    let within : n ≤ length words = omega (arith, c.if-length-words.false) in
    let long : length (take n words) ≡ n = let e = length-take n words in omega (arith, e, within) in
    let front = sym (take-take c.min.result n words (omega (arith, c.min.ensures))) ∙ front_of (take n words) c.min.result (c.min.ensures ∙ ap (λ (m : ℕ). min m 26) (sym long)) in
    let least : 0 < n = omega (arith, c.in_ok-slot.ensures.least, c.in_ok-slot.ensures.most) in
    let size = whole_size words c.in_ok-length.field-0.now n c.in_ok-slot.slot c.in_ok-length.ensures.value refl within (c.in_ok-slot.ensures.item (take n words) long front) least in
    let place = ap (λ k. k.place) c.self.view_is in
    let held = ap (λ k. k.held) c.self.view_is in
    omega (arith, size, place, held)
