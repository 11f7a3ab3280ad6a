use Rattle.std.proofs.Common.{◌≡◌, ◌+◌, ◌^◌, ◌<◌, ◌++◌, All, drop}
use Rattle.scav_names.specs.Living.{Rises}
use Rattle.scav_names.specs.Words.{address_words}
use Rattle.scav_names.proofs.addresses.addresses_of.Given as goal

abbrev pub invariant-loop-entry : goal.invariant-loop-entry
invariant-loop-entry l = record {
  so_far : Rises l.living → All (λ e. e.place + 5 < 2 ^ 32) l.entries → l.words.items ++ address_words l.living (drop l.entry-index l.entries) ≡ address_words l.living l.entries;
}
