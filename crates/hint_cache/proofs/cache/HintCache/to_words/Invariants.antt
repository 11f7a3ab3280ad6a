use Rattle.std.proofs.Common.{◌≡◌, ◌*◌, ◌-◌, ◌∷◌, ◌++◌, length, take, replicate}
use Rattle.std.specs.List.{flat_map}
use Rattle.hint_cache.specs.Words.{entry_words}
use Rattle.hint_cache.proofs.cache.HintCache.to_words.Given as goal

abbrev pub invariant-loop-index : goal.invariant-loop-index
invariant-loop-index l = record {
  at : l.index ≡ length l.yielded;
  words : l.words ≡ length l.self.entries ∷ flat_map entry_words (take (length l.yielded) l.self.entries) ++ replicate (240 - 5 * length l.yielded) 0;
}
