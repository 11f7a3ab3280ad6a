use Rattle.std.proofs.Common.{◌≡◌, map, take}
use Rattle.scav_names.specs.Words.{freeing_word}
use Rattle.scav_names.proofs.unkept.freeing_words.Given as goal

abbrev pub invariant-loop-entry : goal.invariant-loop-entry
invariant-loop-entry l = record {
  so_far : l.words.items ≡ map freeing_word (take l.entry-index l.entries);
}
