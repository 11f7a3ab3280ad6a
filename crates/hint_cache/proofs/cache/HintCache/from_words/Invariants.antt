use Rattle.std.proofs.Common.{◌≡◌, ◌≤◌, length, drop}
use Rattle.hint_cache.specs.Caches.{IsCacheList}
use Rattle.hint_cache.specs.Words.{entries_in, first_of_each}
use Rattle.hint_cache.proofs.cache.HintCache.from_words.Given as goal

abbrev pub decreases-loop-index : goal.decreases-loop-index
decreases-loop-index l = l.index

abbrev pub invariant-loop-index : goal.invariant-loop-index
invariant-loop-index l = record {
  within : l.index ≤ length (entries_in l.words);
  read : l.cache ≡ record { entries = first_of_each (drop l.index (entries_in l.words)); refused = 0 };
  kept : IsCacheList l.cache.entries;
}
