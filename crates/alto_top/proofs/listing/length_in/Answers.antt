use Rattle.std.proofs.Common.{rules}
use Rattle.std.proofs.lemmas.List.Sorted.{answers_always}
use Rattle.alto_top.proofs.Lengths.{length_at, length_absent}
use Rattle.alto_top.proofs.listing.length_in.Goals as goal

-- the closure gives a file's full name
pub returns-in-Ok : goal.returns-in-Ok
returns-in-Ok c = λ v are.
    let searched = c.in-Ok.ensures.position (λ x. x.fid) (answers_always _ _ _ (λ f a r g called. search rules)) in
    length_at v c.args.fid c.args.files.now c.in-Ok.i are c.in-Ok.ensures.bound searched _

pub returns-in-Err : goal.returns-in-Err
returns-in-Err c = λ v are. length_absent v c.args.fid c.args.files.now c.in-Err.field-0 are (c.in-Err.ensures.position (λ x. x.fid) (answers_always _ _ _ (λ f a r g called. search rules)))
