use Rattle.std.proofs.Common.{[], arith, min, replicate, ◌++◌, ◌∙◌, ◌∷◌, ◌≡◌}
use Rattle.disk_records.specs.Addresses.{cylinders_of, disks_of, table_words}
use Rattle.pack_model.specs.operations.PageWords.{halves}
use Rattle.pack_model.specs.reading.Bytes.{put_at}
use Rattle.disk_descriptor.proofs.Texts.{first_page_is, words_from}
use Rattle.disk_descriptor.proofs.values.first_page.Goals as goal

pub returns : goal.returns
returns c =
    let shape = c.args.shape in
    let map = words_from c.args.table.now 0 c.min.result in
    let many : c.min.result ≡ min (table_words shape) 240 = omega (arith, c.min.ensures, c.div_ceil-map_words.ensures, c.pages.ensures) in
    c.put_map.ensures
    ∙ (λ i. put_at 16 map (c.put.ensures i))
    ∙ (λ i. put_at 16 map (put_at 0 (c.heading.ensures i) (replicate 256 0)))
    ∙ (λ i. put_at 16 map (put_at 0 ((disks_of shape ∷ cylinders_of shape ∷ 2 ∷ 12 ∷ []) ++ halves c.args.last ++ (c.args.mark ∷ c.free_sectors.ensures i ∷ table_words shape ∷ replicate 7 0)) (replicate 256 0)))
    ∙ first_page_is shape c.args.last c.args.mark c.args.table.now c.min.result many
