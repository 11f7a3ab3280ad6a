use Rattle.std.proofs.Common.{arith, ap, refl, ◌+◌, ◌∙◌, subst, sym, suc}
use Rattle.hint_cache.specs.Caches.{Cached, NoneListed, address_in}
use Rattle.page_seeking.specs.Seeking.{page_number}
use Rattle.page_seeking.proofs.Forgetting.{apart_by, none_over, none_without, same_elsewhere}
use Rattle.page_seeking.proofs.Recalling.{handy_without}
use Rattle.page_seeking.proofs.ends.forget_after.Goals as goal

pub loop-entry-init : goal.loop-entry-init
loop-entry-init c = record { refused = refl; each = λ p f handy. handy; lower = λ n low. refl; none = record { none = λ n from to. absurd (omega (arith, from, to)) } }

pub loop-entry-preserved : goal.loop-entry-preserved
loop-entry-preserved c =
    let inv = c.loop-entry.invariant in
    let entry = c.in-Some.entry in
    let some = c.in-Some.ensures.some in
    let out = c.forget.ensures.out in
    let entries = ap (λ (x : Cached). x.entries) out in
    let more = c.if-entry-number.false in
    record {
      refused = ap (λ (x : Cached). x.refused) out ∙ inv.refused;
      each = λ p f handy. handy_without entry.page c.loop-entry.cache c.forget.new.self out p f (inv.each p f handy);
      lower = λ n low. ap (λ es. address_in es (page_number c.args.fid n)) entries ∙ same_elsewhere entry.page (page_number c.args.fid n) c.loop-entry.cache.entries (apart_by c.args.fid n entry.page (λ same. omega (arith, same, low, more))) ∙ inv.lower n low;
      none = subst (λ es. NoneListed es c.args.fid entry.page.number 65535) (sym entries) (none_without c.loop-entry.cache.entries c.args.fid c.loop-entry.above 65535 entry some inv.none);
    }

pub returns-then-entry-number-clause-none : goal.returns-then-entry-number-clause-none
returns-then-entry-number-clause-none c =
    let low = c.if-entry-number.true in
    none_over (suc c.in-Some.entry.page.number) c.loop-entry.above 65535 (c.args.number + 1) (omega (arith, low)) c.in-Some.ensures.some.highest c.loop-entry.invariant.none
