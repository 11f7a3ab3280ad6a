use Rattle.std.proofs.Common.{◌≡◌, ◌∙◌, ◌<◌, ◌≤◌, ◌+◌, ◌-◌, ℕ, List, ap, sym, subst, arith, length, drop, get_or}
use Rattle.std.proofs.lemmas.List.{drop_all}
use Rattle.hint_cache.specs.declared.cache.Entry.{Entry}
use Rattle.hint_cache.specs.Caches.{Cached, IsCacheList, noted}
use Rattle.hint_cache.specs.Words.{entries_in, first_of_each}
use Rattle.hint_cache.proofs.WordPlaces.{first_more, length_entries_in, entry_listed, noted_on, nothing_listed}
use Rattle.hint_cache.proofs.cache.HintCache.from_words.Goals as goal

pub entry_in-entry-requires : goal.entry_in-entry-requires
entry_in-entry-requires c = omega (arith, c.loop-index.invariant.within, length_entries_in c.args.words.now, c.loop-index-test.true)

pub loop-index-init : goal.loop-index-init
loop-index-init c =
    let entries = entries_in c.args.words.now in
    let all : length entries ≤ c.min-index.result = omega (arith, length_entries_in c.args.words.now, c.min-index.ensures, c.from.ensures) in
    record {
      within = omega (arith, length_entries_in c.args.words.now, c.min-index.ensures, c.from.ensures);
      read = c.in_ok-cache.ensures ∙ ap (λ (l : List Entry). seen (first_of_each l)) (sym (drop_all c.min-index.result entries all));
      kept = subst (λ (k : Cached). IsCacheList k.entries) (sym c.in_ok-cache.ensures) nothing_listed;
    }
  where
    seen : List Entry → Cached
    seen entries = record { entries = entries; refused = 0 }

pub loop-index-preserved : goal.loop-index-preserved
loop-index-preserved c =
    let words = c.args.words.now in
    let entries = entries_in words in
    let last = c.loop-index.index - 1 in
    let one : last + 1 ≡ c.loop-index.index = omega (arith, c.loop-index-test.true) in
    let within : last < length entries = omega (arith, c.loop-index.invariant.within, c.loop-index-test.true) in
    let few : length entries ≤ 48 = omega (arith, length_entries_in words) in
    let e = c.entry_in-entry.result in
    let here : e ≡ get_or entries last e = c.entry_in-entry.ensures ∙ entry_listed words last e within in
    let more = ap (λ (m : ℕ). noted e.page e.at (first_of_each (drop m entries))) (sym one) ∙ first_more entries last e within few here in
    record {
      within = omega (arith, within);
      read = c.in_ok-note.ensures.ok ∙ noted_on e.page e.at c.loop-index.cache (first_of_each (drop c.loop-index.index entries)) (first_of_each (drop last entries)) c.loop-index.invariant.read more;
      kept = c.in_ok-note.ensures.kept;
    }
