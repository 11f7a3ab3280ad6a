use Rattle.std.proofs.Common.{◌&&◌, true, get_or, is_le, nat_cmp, sym, subst, ◌∙◌, ap}
use Rattle.std.specs.List.{filter}
use Rattle.scav_names.proofs.Finding.{IsAhead, search_at, search_begins, search_ends, search_found, search_goes_on, search_next}
use Rattle.scav_names.proofs.rooms.Rooms.find.Goals as goal

pub loop-place-init : goal.loop-place-init
loop-place-init c = record {
  next = tt;
  finite = tt;
  ahead = λ is has.
      let first : IsAhead c.args.words _ is = search_begins c.args.self.now is c.args.words has c.requires.least c.requires.most in
      let e = c.into_iter-place-iterator.ensures.into_iter_gives ∙ c.range-place-items.ensures.between tt
      ∙ ap (λ w. filter (λ e. is_le (nat_cmp (get_or c.args.self.now.from w 0) e.0) && true) c.args.self.now.free.entries) c.from.ensures in
      subst (λ l. IsAhead c.args.words l is) (sym e) first;
}

pub returns-in-Some-total_at-clause-room : goal.returns-in-Some-total_at-clause-room
returns-in-Some-total_at-clause-room c = λ is has.
    let ahead = search_next c.args.words (c.in-Some.place.now, c.in-Some.first_words.now) c.next.new.self is (subst (λ l. IsAhead c.args.words l is) c.in-Some.ensures.steps (c.loop-place.invariant.ahead is has)) in
    search_found c.args.words c.in-Some-total_at.total _ c.next.new.self is ahead
    (sym (c.in-Some-total_at.ensures.total ahead.before _ (search_at c.args.self.now is c.args.words _ c.next.new.self has ahead)))

pub loop-place-preserved : goal.loop-place-preserved
loop-place-preserved c = record {
  next = tt;
  finite = tt;
  ahead = λ is has.
      let ahead = search_next c.args.words (c.in-Some.place.now, c.in-Some.first_words.now) c.next.new.self is (subst (λ l. IsAhead c.args.words l is) c.in-Some.ensures.steps (c.loop-place.invariant.ahead is has)) in
      search_goes_on c.args.words _ c.next.new.self is ahead
      (sym (c.total_at.ensures.total ahead.before _ (search_at c.args.self.now is c.args.words _ c.next.new.self has ahead)) ∙ c.in_default.is);
}

pub returns-clause-room : goal.returns-clause-room
returns-clause-room c = λ is has. search_ends c.args.words is (subst (λ l. IsAhead c.args.words l is) c.in-None.ensures.steps.0 (c.loop-place.invariant.ahead is has))
