use Rattle.std.proofs.Common.{◌≤◌, ◌*◌, ◌+◌, ◌∙◌, sym, length, take, drop, arith, append_assoc}
use Rattle.hint_cache.specs.Words.{entry_words}
use Rattle.hint_cache.proofs.WordPlaces.{five_put}
use Rattle.hint_cache.proofs.words.put_entry.Goals as goal

pub returns : goal.returns
returns c =
    let words = c.args.words.now in
    let index = c.args.index in
    let fits : 5 * index + 6 ≤ length words = omega (arith, c.told-words, c.requires) in
    five_put words index _ _ _ _ _ fits ∙ sym (append_assoc (take (5 * index + 1) words) (entry_words c.args.entry) (drop (5 * index + 6) words))
