use Rattle.std.proofs.Common.{◌-◌, sym, arith}
use Rattle.disk_records.specs.Addresses.{table_words}
use Rattle.disk_descriptor.proofs.Map.{later_page}
use Rattle.disk_descriptor.proofs.pages.fresh_value.Goals as goal

pub returns-else-n-eq0 : goal.returns-else-n-eq0
returns-else-n-eq0 c =
    let shape = c.args.shape in
    let least = shape.least_pages in
    let most = shape.most_pages in
    sym (later_page shape (table_words shape - 1) c.args.n (omega arith) (omega arith) (omega arith) (omega arith))
