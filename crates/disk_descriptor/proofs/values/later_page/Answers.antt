use Rattle.std.proofs.Common.{arith, min, refl, ◌*◌, ◌-◌, ◌∙◌, ◌≡◌}
use Rattle.disk_records.specs.Addresses.{table_words}
use Rattle.disk_descriptor.proofs.Texts.{later_page_is}
use Rattle.disk_descriptor.proofs.values.later_page.Goals as goal

pub returns : goal.returns
returns c = λ last mark.
    let first = 256 * c.args.n - 16 in
    let many : c.min.result ≡ min (table_words c.args.shape - first) 256 = omega (arith, c.min.ensures, c.div_ceil-map_words.ensures, c.pages.ensures) in
    c.put_map.ensures ∙ later_page_is c.args.shape last mark c.args.table.now c.args.n first c.min.result c.requires.later refl many
