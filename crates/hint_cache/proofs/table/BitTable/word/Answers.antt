use Rattle.std.proofs.Common.{◌≡◌, ℕ, ◌*◌, ◌+◌, refl, ◌∙◌, ap, arith}
use Rattle.hint_cache.specs.Bits.{number_of, is_one}
use Rattle.hint_cache.proofs.Numbers.{number_of-more, number_fits, is_one-number_of}
use Rattle.hint_cache.proofs.table.BitTable.word.Goals as goal

pub loop-i-init : goal.loop-i-init
unfolding number_of
loop-i-init c = refl

pub overflow_mul-word : goal.overflow_mul-word
overflow_mul-word c =
    let first = c.args.index * 16 in
    let more = number_of-more c.args.self.now first c.loop-i.i in
    let most = number_fits c.args.self.now first (c.loop-i.i + 1) (omega arith) in
    omega (arith, c.loop-i.invariant, more, most)

pub overflow_add-word : goal.overflow_add-word
overflow_add-word c =
    let first = c.args.index * 16 in
    let more = number_of-more c.args.self.now first c.loop-i.i in
    let most = number_fits c.args.self.now first (c.loop-i.i + 1) (omega arith) in
    omega (arith, c.loop-i.invariant, c.digit.ensures, more, most)

pub loop-i-preserved : goal.loop-i-preserved
loop-i-preserved c =
    let more = number_of-more c.args.self.now (c.args.index * 16) c.loop-i.i in
    omega (arith, c.loop-i.invariant, c.digit.ensures, more)

pub returns-clause-reads_back : goal.returns-clause-reads_back
returns-clause-reads_back c = λ i h.
    let all : c.loop-i.i ≡ 16 = omega arith in
    ap (λ (word : ℕ). is_one word i) (c.loop-i.invariant ∙ ap (number_of c.args.self.now (c.args.index * 16)) all) ∙ is_one-number_of c.args.self.now (c.args.index * 16) i h
