-- The order of the listing's rows, which is total.
use Rattle.std.specs.declared.cmp.Ordering.{Ordering}
use Rattle.std.specs.Ordering.{then_cmp, on}
use Rattle.std.specs.Option.{option_cmp}
use Rattle.std.specs.Cmp.{IsTotalOrder, then_total, on_total}
use Rattle.std.specs.Cmp.Lexicographic.{options_total}
use Rattle.alto_words.specs.Fid.{fid_cmp}
use Rattle.alto_words.specs.Names.{folded_cmp}
use Rattle.session_boot.specs.pack_laws.proofs.Keys.{fid_total}
use Rattle.session_boot.specs.pack_laws.proofs.Orders.{name_total}
use Rattle.alto_top.specs.declared.row.Row.{Row}

-- by the directory's name, the directory, the name and the file
abbrev pub row_cmp : Row → Row → Ordering
row_cmp =
    then_cmp (on (λ l. l.dir_name) (option_cmp folded_cmp))
    (then_cmp (on (λ l. l.named.directory) fid_cmp) (then_cmp (on (λ l. l.named.name) folded_cmp) (on (λ l. l.named.fid) fid_cmp)))

pub row_total : IsTotalOrder row_cmp
row_total =
    then_total (on_total (λ l. l.dir_name) (options_total name_total))
    (then_total (on_total (λ l. l.named.directory) fid_total) (then_total (on_total (λ l. l.named.name) name_total) (on_total (λ l. l.named.fid) fid_total)))
