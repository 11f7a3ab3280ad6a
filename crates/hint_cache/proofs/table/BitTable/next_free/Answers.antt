use Rattle.std.proofs.Common.{◌≡◌, not, position, sym, ◌∙◌, ap, rules, arith}
use Rattle.hint_cache.proofs.FreeBits.{rest_from, free_inside, free_there, busy_before, all_busy, as_none}
use Rattle.hint_cache.proofs.table.BitTable.next_free.Goals as goal

pub returns-in_err-passed-clause-none : goal.returns-in_err-passed-clause-none
returns-in_err-passed-clause-none c =
    let from : c.from.result ≡ c.args.from = search rules in
    let bits : c.deref.result.now ≡ c.args.self.now = search rules in
    as_none c.from_residual.result (all_busy c.args.self.now c.args.from (ap (position not) (sym (rest_from from bits)) ∙ sym c.first_free.ensures ∙ c.in_err-passed.was))

pub returns-clause-free : goal.returns-clause-free
returns-clause-free c =
    let from : c.from.result ≡ c.args.from = search rules in
    let bits : c.deref.result.now ≡ c.args.self.now = search rules in
    let is = ap (position not) (sym (rest_from from bits)) ∙ sym c.first_free.ensures ∙ c.in_ok-passed.was in
    (omega arith, free_inside c.args.self.now c.args.from c.in_ok-passed.passed is c.requires, free_there c.args.self.now c.args.from c.in_ok-passed.passed is)

pub returns-clause-first : goal.returns-clause-first
returns-clause-first c =
    let from : c.from.result ≡ c.args.from = search rules in
    let bits : c.deref.result.now ≡ c.args.self.now = search rules in
    busy_before c.args.self.now c.args.from c.in_ok-passed.passed (ap (position not) (sym (rest_from from bits)) ∙ sym c.first_free.ensures ∙ c.in_ok-passed.was)
