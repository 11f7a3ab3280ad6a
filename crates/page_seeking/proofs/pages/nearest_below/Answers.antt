use Rattle.std.proofs.Common.{◌≡◌, ap, arith, subst, ◌∙◌, refl}
use Rattle.disk_records.specs.declared.records.Page.{Page}
use Rattle.disk_records.specs.Packs.{Pack, carried}
use Rattle.disk_records.specs.Tapes.{pack}
use Rattle.disk_records.proofs.Looking.{looks_pack}
use Rattle.page_seeking.proofs.Easing.{listed_right}
use Rattle.page_seeking.proofs.Recalling.{sought_forgotten}
use Rattle.page_seeking.specs.Seeking.{page_number}
use Rattle.page_seeking.specs.Inside.{Confirmed}
use Rattle.page_seeking.proofs.Seeking.{confirmed_before, sought_here, sought_more, sought_twice, sought_within}
use Rattle.page_seeking.proofs.pages.nearest_below.Goals as goal

pub loop-entry-init : goal.loop-entry-init
loop-entry-init g c =
    record { below = omega arith; fewer = omega arith; unfailed = refl; sought = sought_more (omega arith) (sought_here (g.D.Tape.tape c.args.disk.now) c.args.cache.now); spent = λ told. omega arith; quick = λ at told eases. omega arith }

pub returns-in_err-found-clause-sought : goal.returns-in_err-found-clause-sought
returns-in_err-found-clause-sought g c =
    let inv = c.loop-entry.invariant in
    let some = c.if-left-eq0.false in
    sought_within (sought_twice inv.sought c.try_at.ensures.sought) (λ told. omega (arith, some, inv.spent told, c.try_at.ensures.sought.looks.runs told))

pub returns-in-Some-2-clause-sought : goal.returns-in-Some-2-clause-sought
returns-in-Some-2-clause-sought g c =
    let inv = c.loop-entry.invariant in
    let some = c.if-left-eq0.false in
    sought_within (sought_twice inv.sought c.try_at.ensures.sought) (λ told. omega (arith, some, inv.spent told, c.try_at.ensures.sought.looks.runs told))

pub returns-in-Some-2-clause-found : goal.returns-in-Some-2-clause-found
returns-in-Some-2-clause-found g c first =
    let sought = c.loop-entry.invariant.sought in
    let entry = c.in-Some.entry in
    let own = c.in-Some.ensures.some.file in
    let page : entry.page ≡ page_number c.args.page.fid entry.page.number = λ i. record { fid = own i; number = entry.page.number } in
    let found = rw c.in-Some-2.is at c.in_ok-found.ensures.found in
    confirmed_before sought.looks sought.refused (subst (λ (x : Page). Confirmed g.D.Tape.told x (g.D.Tape.tape c.loop-entry.disk) c.loop-entry.cache c.try_at.new.cache c.try_at.new.buf c.in-Some-2.found) page found)

pub returns-in-Some-2-clause-quick : goal.returns-in-Some-2-clause-quick
returns-in-Some-2-clause-quick g c at told eases =
    let none = c.loop-entry.invariant.quick at told eases in
    let first = c.if-entry-eq0.false in
    let below = c.in-Some.ensures.some.below in
    let low = c.loop-entry.invariant.below in
    omega (arith, none, first, below, low, c.try_at.ensures.sought.looks.runs told)

pub loop-entry-preserved : goal.loop-entry-preserved
loop-entry-preserved g c =
    let inv = c.loop-entry.invariant in
    let entry = c.in-Some.entry in
    let some = c.in-Some.ensures.some in
    let missed = rw c.in_default-2.is at c.in_ok-found.ensures.missed in
    let more = c.if-left-eq0.false in
    record {
      below = let below = some.below in let low = inv.below in omega (arith, below, low);
      fewer = let low = inv.fewer in omega (arith, low);
      unfailed = c.in_ok-found.ensures.cause ∙ c.loop-entry.invariant.unfailed;
      sought = sought_within (sought_forgotten entry.page c.forget.ensures.out (sought_twice inv.sought c.try_at.ensures.sought)) (λ told. omega (arith, more, inv.spent told, c.try_at.ensures.sought.looks.runs told));
      spent = λ told. omega (arith, more, inv.spent told, c.try_at.ensures.sought.looks.runs told);
      quick = λ at told eases.
          let old = pack (g.D.Tape.tape c.args.disk.now) in
          let looks = inv.sought.looks in
          let handy = inv.sought.handy told eases.whole eases.links c.args.page.fid eases.entries in
          let first = c.if-entry-eq0.false in
          let below = some.below in
          let low = inv.below in
          let right = listed_right old c.args.page.fid c.args.page.number at c.loop-entry.cache.entries entry eases.whole eases.placed handy some.file (omega (arith, first)) (omega (arith, below, low)) some.listed in
          absurd (rw c.in_default-2.is at (c.in_ok-found.ensures.here told (ap (λ (p : Pack). carried p entry.at) (looks_pack looks told) ∙ right)));
    }

pub returns-then-entry-eq0-clause-quick : goal.returns-then-entry-eq0-clause-quick
returns-then-entry-eq0-clause-quick g c at told eases = let none = c.loop-entry.invariant.quick at told eases in omega (arith, none)

pub returns-in_default-clause-quick : goal.returns-in_default-clause-quick
returns-in_default-clause-quick g c at told eases = let none = c.loop-entry.invariant.quick at told eases in omega (arith, none)
