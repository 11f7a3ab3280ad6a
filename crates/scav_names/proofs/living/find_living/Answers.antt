use Rattle.std.proofs.Common.{rules, sym, ap, ◌∙◌, Some}
use Rattle.std.proofs.lemmas.List.Sorted.{answers_always}
use Rattle.scav_names.proofs.Searching.{absent, found_at}
use Rattle.scav_names.proofs.living.find_living.Goals as goal

-- the closure gives a file's full name
pub returns-in-Ok : goal.returns-in-Ok
returns-in-Ok c = record {
  found = λ rises.
      let searched = c.in-Ok.ensures.position (λ x. x.fid) (answers_always _ _ _ (λ f a r g called. search rules)) in
      ap Some c.index-living-i.is ∙ sym (found_at c.args.living.now rises c.args.fid c.in-Ok.i c.index-living-i.result c.in-Ok.ensures.bound (searched c.index-living-i.result));
}

pub returns-in-Err : goal.returns-in-Err
returns-in-Err c = record { found = λ rises. sym (absent c.args.living.now c.args.fid c.in-Err.field-0 rises (c.in-Err.ensures.position (λ x. x.fid) (answers_always _ _ _ (λ f a r g called. search rules)))) }
