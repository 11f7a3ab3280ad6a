-- The order of names in a listing, which is total, and the names of slots in that order.
use Rattle.std.specs.Prelude.{List}
use Rattle.std.specs.BTreeSet.{insert_key}
use Rattle.std.specs.declared.cmp.Ordering.{Ordering}
use Rattle.std.specs.Ordering.{on}
use Rattle.std.specs.Cmp.{IsTotalOrder, on_total}
use Rattle.alto_words.specs.Names.{folded_cmp}
use Rattle.exec_session.specs.pack_laws.proofs.Orders.{name_total}
use Rattle.dir_slots.specs.declared.slot.Slot.{Slot}
use Rattle.dir_slots.specs.declared.slot.Slot.TheVariants.{Free, Entry}
use Rattle.executive.specs.declared.order.Listed.{Listed}

abbrev pub listed_cmp : Listed → Listed → Ordering
listed_cmp = on (λ l. l.name) folded_cmp

pub listed_total : IsTotalOrder listed_cmp
listed_total = on_total (λ l. l.name) name_total

-- these names, and that of an entry
abbrev pub with_name : List Listed → Slot → List Listed
with_name names (Free n) = names
with_name names (Entry f address name) = insert_key listed_cmp names (record { name = name })
