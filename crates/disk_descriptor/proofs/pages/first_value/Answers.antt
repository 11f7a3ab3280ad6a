use Rattle.std.proofs.Common.{◌≡◌, ◌-◌, ◌^◌, ◌∷◌, [], ◌++◌, replicate, ap, ◌∙◌, arith}
use Rattle.disk_records.specs.Addresses.{cylinders_of, disks_of, table_words, pages_of}
use Rattle.pack_model.specs.operations.PageWords.{halves}
use Rattle.pack_model.specs.sessions.Format.{sectors_used}
use Rattle.disk_descriptor.proofs.Map.{first_written}
use Rattle.disk_descriptor.proofs.pages.first_value.Goals as goal

pub returns : goal.returns
returns c =
    let shape = c.args.shape in
    let least = shape.least_pages in
    let most = shape.most_pages in
    let busy : pages_of shape - c.args.free ≡ sectors_used shape = omega arith in
    let heading = c.heading.ensures ∙ ap (λ n. (disks_of shape ∷ cylinders_of shape ∷ 2 ∷ 12 ∷ []) ++ halves 2 ++ (1 ∷ n ∷ table_words shape ∷ replicate 7 0)) c.requires in
    let word = c.first_map_word.ensures ∙ (λ i. 65536 - 2 ^ (16 - (c.pages.ensures i - c.args.free))) ∙ ap (λ k. 65536 - 2 ^ (16 - k)) busy in
    first_written shape (table_words shape - 1) (omega arith) (omega arith) (omega arith) _ _ _ heading c.put.ensures word
