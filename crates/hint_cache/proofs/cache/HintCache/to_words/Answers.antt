use Rattle.std.proofs.Common.{◌≡◌, ◌∙◌, ◌<◌, ◌≤◌, ◌+◌, ◌-◌, ◌*◌, ℕ, ◌∷◌, ◌++◌, take, drop, replicate, ap, sym, subst, arith, length, get_or}
use Rattle.std.specs.List.{flat_map}
use Rattle.std.proofs.lemmas.List.{length-map, length_push}
use Rattle.std.proofs.lemmas.Iterator.Consumers.{YieldsList-from_rest, YieldsList-turn, YieldsList-end}
use Rattle.hint_cache.specs.declared.cache.Entry.{Entry}
use Rattle.hint_cache.specs.Caches.{Cached, IsCacheList, entries_of, entry_of}
use Rattle.hint_cache.specs.Words.{entry_words, cache_words, cache_in}
use Rattle.hint_cache.proofs.WordPlaces.{put_more, read_back, listed_next, whole_words}
use Rattle.hint_cache.proofs.cache.HintCache.to_words.Goals as goal

pub loop-index-preserved : goal.loop-index-preserved
loop-index-preserved c =
    let turn = YieldsList-turn (YieldsList-from_rest _ c.iter-page-items.ensures.rest) c.loop-index.yielded _ c.loop-index.yielded_by _ _ _ c.in-Some.is c.next.ensures.steps in
    let entries = c.args.self.now.entries in
    let seen : entries_of c.self.inside.pages.entries ≡ entries = ap (λ k. k.entries) c.self.view_is in
    let words = c.loop-index.words in
    let i = length c.loop-index.yielded in
    let e : Entry = record { page = c.in-Some.page.now; at = c.in-Some.at.now } in
    let long : length entries ≡ length c.self.inside.pages.entries = ap length (sym seen) ∙ length-map c.self.inside.pages.entries entry_of in
    let within : i < length entries = omega (arith, turn.0, long) in
    let few : length entries ≤ 48 = (subst IsCacheList seen c.self.invariant.0).few in
    let here : e ≡ get_or entries i e = listed_next c.self.inside.pages.entries i _ turn.1 ∙ ap (λ l. get_or l i e) seen in
    let one = length_push c.loop-index.yielded (c.in-Some.page, c.in-Some.at) in
    record {
      at = ap (λ (m : ℕ). m + 1) c.loop-index.invariant.at ∙ sym one;
      words = c.put_entry.ensures
          ∙ ap (λ (m : ℕ). take (5 * m + 1) words ++ entry_words e ++ drop (5 * m + 6) words) c.loop-index.invariant.at
          ∙ put_more words entries (length entries) i e within few here c.loop-index.invariant.words
          ∙ ap (λ (m : ℕ). length entries ∷ flat_map entry_words (take m entries) ++ replicate (240 - 5 * m) 0) (sym one);
    }

whole : (c : goal.In-None) → c.loop-index.words ≡ cache_words c.args.self.now.entries
whole c =
    let end = YieldsList-end (YieldsList-from_rest _ c.iter-page-items.ensures.rest) c.loop-index.yielded _ c.loop-index.yielded_by _ _ c.in-None.is c.next.ensures.steps in
    let long = ap (λ k. length k.entries) (sym c.self.view_is) ∙ length-map c.self.inside.pages.entries entry_of in
    whole_words c.loop-index.words c.args.self.now.entries _ (end.1 ∙ sym long) c.loop-index.invariant.words

pub returns-clause-words : goal.returns-clause-words
returns-clause-words c = whole c

pub returns-clause-reads_back : goal.returns-clause-reads_back
returns-clause-reads_back c = ap cache_in (whole c) ∙ read_back c.args.self.now.entries (subst (λ (k : Cached). IsCacheList k.entries) c.self.view_is c.self.invariant.0)
