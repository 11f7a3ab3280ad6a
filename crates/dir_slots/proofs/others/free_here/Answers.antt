use Rattle.std.proofs.Common.{◌≡◌, ◌%◌, ℕ, get_or, refl, ◌∙◌, arith}
use Rattle.dir_slots.proofs.PassedOver.{free_other}
use Rattle.dir_slots.proofs.others.free_here.Goals as goal

pub returns-clause-other : goal.returns-clause-other
returns-clause-other c = λ passing same.
    let words = c.args.words.now in
    let n : ℕ = get_or words 0 0 in
    let states : n % 1024 ≡ n = omega (arith, c.if-length.false) in
    free_other passing words n (same ∙ c.if-not-free.false) (omega (arith, c.if-length-eq0.false)) c.if-length-words.false states refl
