use Rattle.std.proofs.Common.{sym, ap, ◌∙◌, subst}
use Rattle.std.specs.Iterator.Adapters.{rev_source}
use Rattle.std.specs.Slice.Iter.{iter_rest}
use Rattle.alto_top.proofs.Rows.{Listing, listing_none, listing_more}
use Rattle.alto_top.proofs.listing.rows_of.Goals as goal

pub loop-named-init : goal.loop-named-init
loop-named-init c = λ v knows.
    let left = ap rev_source c.into_iter-named-iterator.ensures.into_iter_gives ∙ c.rev-named-items.ensures.source in
    subst (λ l. Listing v c.new-rows.result.keys l c.args.names.now) (sym (ap iter_rest left ∙ c.iter.ensures.rest)) (listing_none v c.new-rows.result.keys c.args.names.now c.new-rows.ensures.empty)

pub loop-named-preserved : goal.loop-named-preserved
loop-named-preserved c = λ v knows.
    listing_more v c.loop-named.rows.keys c.insert.new.self.keys c.row_of.result c.in-Some.named.now (iter_rest (rev_source c.next.new.self)) (iter_rest (rev_source c.loop-named.named-iterator)) c.args.names.now
    (c.loop-named.invariant v knows) c.in-Some.ensures.steps (c.row_of.ensures v knows)
    c.in_ok-insert.ensures.keys
