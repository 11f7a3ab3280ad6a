use Rattle.std.proofs.Common.{◌≡◌, ◌+◌, ◌∙◌, Some, None, nat_cmp, refl, sym, ap, subst, arith}
use Rattle.std.specs.BTreeMap.{is_at}
use Rattle.std.specs.Map.{lookup, remove_entry}
use Rattle.scav_names.proofs.Taking.{IsTaken, all_taken, none_taken, place_fits, take_next}
use Rattle.scav_names.proofs.rooms.Rooms.take_out.Goals as goal

pub loop-taken-init : goal.loop-taken-init
loop-taken-init c = record { taken = λ before row rest r e. none_taken c.args.room.now before row rest _ r e; end_is = refl; from = refl }

pub returns-in_default-clause-free : goal.returns-in_default-clause-free
returns-in_default-clause-free c = λ before row rest r e.
    let t = c.loop-taken.invariant.taken before row rest r e in
    let fits = place_fits c.loop-taken.taken c.args.room.now before row rest r c.loop-taken-test.true in
    let next = take_next c.loop-taken.taken c.args.room.now before row rest _ r c.loop-taken-test.true t in
    let key : c.saturating_add-place.result ≡ c.args.room.now.place + c.loop-taken.taken = omega (arith, c.saturating_add-place.ensures, c.from.ensures) in
    let none : None ≡ Some next.0 = sym c.in_default.is ∙ c.remove.ensures.value ∙ ap (λ k. lookup (is_at (nat_cmp k)) c.loop-taken.self.free.entries) key ∙ next.1.found in
    absurd cc

pub loop-taken-preserved : goal.loop-taken-preserved
loop-taken-preserved c = record {
  taken = λ before row rest r e.
      let t = c.loop-taken.invariant.taken before row rest r e in
      let fits = place_fits c.loop-taken.taken c.args.room.now before row rest r c.loop-taken-test.true in
      let next = take_next c.loop-taken.taken c.args.room.now before row rest _ r c.loop-taken-test.true t in
      let key : c.saturating_add-place.result ≡ c.args.room.now.place + c.loop-taken.taken = omega (arith, c.saturating_add-place.ensures, c.from.ensures) in
      let value : Some c.in-Some.words ≡ Some next.0 = sym c.in-Some.is ∙ c.remove.ensures.value ∙ ap (λ k. lookup (is_at (nat_cmp k)) c.loop-taken.self.free.entries) key ∙ next.1.found in
      let words : c.in-Some.words ≡ next.0 = cc in
      let within = next.1.within in
      let short = r.short in
      let sum : c.saturating_add-taken.result ≡ c.loop-taken.taken + next.0 = omega (arith, c.saturating_add-taken.ensures) in
      let entries : c.remove.new.self.entries ≡ remove_entry (is_at (nat_cmp (c.args.room.now.place + c.loop-taken.taken))) c.loop-taken.self.free.entries = c.remove.ensures.entries ∙ ap (λ k. remove_entry (is_at (nat_cmp k)) c.loop-taken.self.free.entries) key in
      subst (λ n. IsTaken n before row rest c.remove.new.self.entries) (sym sum) (subst (λ es. IsTaken (c.loop-taken.taken + next.0) before row rest es) (sym entries) next.1.then);
  end_is = c.loop-taken.invariant.end_is;
  from = c.loop-taken.invariant.from;
}

pub returns-clause-free : goal.returns-clause-free
returns-clause-free c = λ before row rest r e. all_taken c.loop-taken.taken c.args.room.now before row rest _ r c.loop-taken-test.false (c.loop-taken.invariant.taken before row rest r e)
