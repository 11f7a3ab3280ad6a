use Rattle.std.proofs.Common.{◌≡◌, ◌+◌, ◌-◌, ◌<◌, ◌≤◌, ◌∙◌, ℕ, List, length, take, drop, sym, ap, subst, arith}
use Rattle.std.proofs.lemmas.List.{length-drop, length-take}
use Rattle.dir_slots.specs.Inside.{IsBareEntry}
use Rattle.dir_slots.specs.Judged.{IsKeyed, key_of}
use Rattle.dir_slots.proofs.Keyed.{bare_long, keyed_by, keyed_of, keyed_set}
use Rattle.dir_slots.proofs.judged.keep_key.Goals as goal

pub key_of-requires-clause-most : goal.key_of-requires-clause-most
key_of-requires-clause-most c =
    let at : ℕ = c.args.at in
    let n : ℕ = c.args.size in
    let count : n ≡ at + n - at = omega arith in
    let bare : IsBareEntry (take (at + n - at) (drop at c.args.page.now)) = subst (λ (k : ℕ). IsBareEntry (take k (drop at c.args.page.now))) count (c.requires.entry c.if-page-at-ge-ENTRY_TYPE.true) in
    (bare_long _ bare).1

pub key_of-requires-clause-size : goal.key_of-requires-clause-size
key_of-requires-clause-size c =
    let at : ℕ = c.args.at in
    let n : ℕ = c.args.size in
    let count : n ≡ at + n - at = omega arith in
    let bare : IsBareEntry (take (at + n - at) (drop at c.args.page.now)) = subst (λ (k : ℕ). IsBareEntry (take k (drop at c.args.page.now))) count (c.requires.entry c.if-page-at-ge-ENTRY_TYPE.true) in
    bare.size

pub returns-then-page-at-ge-ENTRY_TYPE : goal.returns-then-page-at-ge-ENTRY_TYPE
returns-then-page-at-ge-ENTRY_TYPE c =
    let words = c.args.words.now in
    let page = c.args.page.now in
    let at : ℕ = c.args.at in
    let n : ℕ = c.args.size in
    let count : at + n - at ≡ n = omega arith in
    let few : n ≤ length (drop at page) = omega (arith, length-drop at page, c.requires.within) in
    let key : key_of (take n (drop at page)) ≡ c.key_of.result = ap (λ (k : ℕ). key_of (take k (drop at page))) (sym count) ∙ sym c.key_of.ensures in
    let here : IsKeyed (drop at page) c.key_of.result = subst (λ (k : ℕ). IsKeyed (drop at page) k) key (keyed_by (drop at page) n few (c.requires.entry c.if-page-at-ge-ENTRY_TYPE.true)) in
    let all : length (take (length page) words) ≡ length page = ap (λ (l : List ℕ). length l) c.requires.same in
    let within : at < length c.args.keys.now = omega (arith, c.told-keys, c.told-words, c.requires.begins, all, length-take (length page) words) in
    keyed_set words c.args.keys.now at c.key_of.result within c.requires.keyed (keyed_of words page at c.key_of.result c.requires.same c.requires.begins here)
