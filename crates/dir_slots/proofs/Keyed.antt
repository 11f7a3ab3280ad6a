-- What is kept of slots that were judged: where it stays true, and what may be passed over by it.
use Rattle.std.proofs.Common.{◌≡◌, ℕ, ◌+◌, ◌-◌, ◌*◌, ◌/◌, ◌%◌, ◌<◌, ◌≤◌, List, ◌++◌, length, take, drop, set, replicate, Some, sym, ap, ◌∙◌, subst, arith, inl, inr}
use Rattle.std.proofs.lemmas.Bool.{cases_eq, cases_lt}
use Rattle.std.proofs.lemmas.List.{drop-drop, drop-take, get_or-append_right, get_or-drop, get_or-replicate, get_or-set_other, get_or-set_same, get_or-take, get_or_append_left, get_or_past, length-replicate, length-take, length-take-le, take-take}
use Rattle.disk_records.specs.Words.{word}
use Rattle.pack_model.specs.reading.Slots.{slot_name}
use Rattle.dir_slots.specs.declared.others.Passing.{Passing}
use Rattle.dir_slots.specs.Inside.{IsBareEntry, IsOtherAt, TellsOthers, further}
use Rattle.dir_slots.specs.Judged.{AreKeyed, IsKeyed, MayPass, TellsByKey, key_of, size_here}
use Rattle.dir_slots.specs.Others.{Passes}
use Rattle.dir_slots.proofs.Entries.{entry_parts, entry_size}
use Rattle.dir_slots.proofs.PassedOver.{entry_other, other_long, passes_both, passes_more}

-- ---- the entry of a bare name
pub bare_long : (words : List ℕ) → IsBareEntry words → (8 ≤ length words) × (length words ≤ 26)
bare_long words bare =
    let parts = entry_parts words bare.is in
    let name = entry_size words (slot_name words) parts in
    (omega (arith, name, parts.size), omega (arith, name, parts.size))

-- its first word, and how many it has
record Sized (words : List ℕ) : Type 0 where
  first : word words 0 ≡ 1024 + size_here words
  least : 8 ≤ size_here words
  most : size_here words ≤ 26
  long : length (take (size_here words) words) ≡ size_here words

sized : (words : List ℕ) (n : ℕ) → n ≤ length words → IsBareEntry (take n words) → (size_here words ≡ n) × Sized words
sized words n within bare =
    let long : length (take n words) ≡ n = length-take-le n words within in
    let size = bare_long (take n words) bare in
    let least : 8 ≤ n = omega (arith, size, long) in
    let most : n ≤ 26 = omega (arith, size, long) in
    let first : word words 0 ≡ 1024 + n = sym (get_or-take n words 0 0 (omega (arith, least))) ∙ (entry_parts (take n words) bare.is).first ∙ ap (λ (k : ℕ). 1024 + k) long in
    let is : size_here words ≡ n = omega (arith, first) in (
      is,
      record {
        first = first ∙ ap (λ (k : ℕ). 1024 + k) (sym is);
        least = omega (arith, is, least);
        most = omega (arith, is, most);
        long = ap (λ (k : ℕ). length (take k words)) is ∙ long ∙ sym is;
      },
    )

pub sized_here : (words : List ℕ) (key : ℕ) → IsKeyed words key → (8 ≤ size_here words) × (size_here words ≤ 26)
sized_here words key keyed = let s = (sized words (size_here words) keyed.within keyed.entry).1 in (s.least, s.most)

-- one that was judged
pub keyed_by : (words : List ℕ) (n : ℕ) → n ≤ length words → IsBareEntry (take n words) → IsKeyed words (key_of (take n words))
keyed_by words n within bare =
    let is = (sized words n within bare).0 in
    record {
      within = omega (arith, is, within);
      entry = subst (λ (k : ℕ). IsBareEntry (take k words)) (sym is) bare;
      is = ap (λ (k : ℕ). key_of (take k words)) is;
    }

-- ---- the same in fewer words, and in more
pub keyed_front : (words : List ℕ) (key m : ℕ) → size_here words ≤ m → IsKeyed words key → IsKeyed (take m words) key
keyed_front words key m few keyed =
    let s = (sized words (size_here words) keyed.within keyed.entry).1 in
    let n : ℕ = size_here words in
    let same : size_here (take m words) ≡ n = ap (λ (w : ℕ). w - 1024) (get_or-take m words 0 0 (omega (arith, s.least, few))) in
    let words_are : take (size_here (take m words)) (take m words) ≡ take n words = ap (λ (k : ℕ). take k (take m words)) same ∙ take-take n m words few in
    let long = length-take m words in
    record {
      within = omega (arith, same, few, long, keyed.within);
      entry = subst IsBareEntry (sym words_are) keyed.entry;
      is = ap key_of words_are ∙ keyed.is;
    }

pub keyed_more : (words : List ℕ) (key m : ℕ) → 1 ≤ m → IsKeyed (take m words) key → IsKeyed words key
keyed_more words key m some keyed =
    let n : ℕ = size_here (take m words) in
    let same : size_here words ≡ n = ap (λ (w : ℕ). w - 1024) (sym (get_or-take m words 0 0 (omega (arith, some)))) in
    let long = length-take m words in
    let words_are : take (size_here words) words ≡ take n (take m words) = ap (λ (k : ℕ). take k words) same ∙ sym (take-take n m words (omega (arith, long, keyed.within))) in
    record {
      within = omega (arith, same, long, keyed.within);
      entry = subst IsBareEntry (sym words_are) keyed.entry;
      is = ap key_of words_are ∙ keyed.is;
    }

-- in a page of which so many words were given
pub keyed_in : (words page : List ℕ) (at key : ℕ) → take (length page) words ≡ page → at + size_here (drop at words) ≤ length page → IsKeyed (drop at words) key → IsKeyed (drop at page) key
keyed_in words page at key same few keyed =
    let m : ℕ = length page - at in
    let all : at + m ≡ length page = omega (arith, few) in
    subst (λ (l : List ℕ). IsKeyed l key) (sym (drop-take at m words) ∙ ap (λ (k : ℕ). drop at (take k words)) all ∙ ap (λ (l : List ℕ). drop at l) same)
    (keyed_front (drop at words) key m (omega (arith, few)) keyed)

pub size_in : (words page : List ℕ) (at : ℕ) → take (length page) words ≡ page → at < length page → size_here (drop at page) ≡ word words at - 1024
size_in words page at same within =
    let first : word (drop at page) 0 ≡ word words at =
    get_or-drop at page 0 0 ∙ ap (word page) (omega arith) ∙ ap (λ (l : List ℕ). word l at) (sym same) ∙ get_or-take (length page) words at 0 within in
    ap (λ (w : ℕ). w - 1024) first

pub size_at : (words : List ℕ) (at : ℕ) → size_here (drop at words) ≡ word words at - 1024
size_at words at = ap (λ (w : ℕ). w - 1024) (get_or-drop at words 0 0 ∙ ap (word words) (omega arith))

-- in all words of the page, of which these are the first
pub keyed_of : (words page : List ℕ) (at key : ℕ) → take (length page) words ≡ page → at < length page → IsKeyed (drop at page) key → IsKeyed (drop at words) key
keyed_of words page at key same within keyed =
    let m : ℕ = length page - at in
    let all : at + m ≡ length page = omega (arith, within) in
    keyed_more (drop at words) key m (omega (arith, within))
    (subst (λ (l : List ℕ). IsKeyed l key) (ap (λ (l : List ℕ). drop at l) (sym same) ∙ ap (λ (k : ℕ). drop at (take k words)) (sym all) ∙ drop-take at m words) keyed)

-- ---- the keys of all words
blank : (n at : ℕ) → word (replicate n 0) at ≡ 0
blank n at = elim (cases_lt at n) [
  | inl within ↦ get_or-replicate n at 0 0 within
  | inr past ↦ get_or_past (replicate n 0) at 0 (omega (arith, past, length-replicate {A = ℕ} n 0))
]

pub none_keyed : (words : List ℕ) (n : ℕ) → AreKeyed words (replicate n 0)
none_keyed words n = λ at some. absurd (some (blank n at))

-- one more
pub keyed_set : (words keys : List ℕ) (at key : ℕ) → at < length keys → AreKeyed words keys → IsKeyed (drop at words) key → AreKeyed words (set keys at key)
keyed_set words keys at key within keyed here = λ i some. elim (cases_eq i at) [
  | inl same ↦
      let is : word (set keys at key) i ≡ key = ap (λ (k : ℕ). word (set keys at key) k) same ∙ get_or-set_same keys at key 0 within in
      subst (λ (k : ℕ). IsKeyed (drop i words) k) (sym is) (subst (λ (k : ℕ). IsKeyed (drop k words) key) (sym same) here)
  | inr other ↦
      let is : word (set keys at key) i ≡ word keys i = get_or-set_other keys at i key 0 other in
      subst (λ (k : ℕ). IsKeyed (drop i words) k) (sym is) (keyed i (λ e. some (is ∙ e)))
]

-- ---- words that change
-- an entry that ends before them
kept_before : (old new : List ℕ) (at i key : ℕ) → take at new ≡ take at old → i + 26 ≤ at → IsKeyed (drop i old) key → IsKeyed (drop i new) key
kept_before old new at i key same before keyed =
    let here : take 26 (drop i old) ≡ take 26 (drop i new) =
    sym (drop-take i 26 old) ∙ ap (λ (l : List ℕ). drop i l) (sym (take-take (i + 26) at old before) ∙ ap (λ (l : List ℕ). take (i + 26) l) (sym same) ∙ take-take (i + 26) at new before) ∙ drop-take i 26 new in
    keyed_more (drop i new) key 26 (omega arith) (subst (λ (l : List ℕ). IsKeyed l key) here (keyed_front (drop i old) key 26 (sized_here (drop i old) key keyed).1 keyed))

-- one that begins after them
kept_after : (old new : List ℕ) (end i key : ℕ) → drop end new ≡ drop end old → end ≤ i → IsKeyed (drop i old) key → IsKeyed (drop i new) key
kept_after old new end i key same after keyed =
    let all : end + (i - end) ≡ i = omega (arith, after) in
    let later : (l : List ℕ) → drop i l ≡ drop (i - end) (drop end l) = λ l. ap (λ (k : ℕ). drop k l) (sym all) ∙ sym (drop-drop (i - end) end l) in
    subst (λ (l : List ℕ). IsKeyed l key) (later old ∙ ap (λ (l : List ℕ). drop (i - end) l) (sym same) ∙ sym (later new)) keyed

module _ (old new keys clear : List ℕ) (at end from : ℕ) (before : take at new ≡ take at old) (after : drop end new ≡ drop end old) (on : at ≤ end) (first : from ≡ at - 25) (fits : end ≤ length keys) (count : ℕ) (counted : count ≡ end - from) (cleared : clear ≡ replicate count 0) where
  abbrev pub now : List ℕ
  now = take from keys ++ (clear ++ drop (end - from) (drop from keys))

  front : length (take from keys) ≡ from
  front = length-take-le from keys (omega (arith, first, on, fits))

  mid : length clear ≡ end - from
  mid = ap (λ (l : List ℕ). length l) cleared ∙ length-replicate {A = ℕ} count 0 ∙ counted

  word_before : (i : ℕ) → i < from → word now i ≡ word keys i
  word_before i less = get_or_append_left (take from keys) (clear ++ drop (end - from) (drop from keys)) 0 i (omega (arith, less, front)) ∙ get_or-take from keys i 0 less

  word_in : (i : ℕ) → from ≤ i → word now i ≡ word (clear ++ drop (end - from) (drop from keys)) (i - from)
  word_in i within = get_or-append_right (take from keys) (clear ++ drop (end - from) (drop from keys)) from i 0 front within

  word_clear : (i : ℕ) → from ≤ i → i < end → word now i ≡ 0
  word_clear i within less =
      word_in i within ∙ get_or_append_left clear (drop (end - from) (drop from keys)) 0 (i - from) (omega (arith, within, less, mid)) ∙ ap (λ (l : List ℕ). word l (i - from)) cleared ∙ blank count (i - from)

  word_after : (i : ℕ) → end ≤ i → word now i ≡ word keys i
  word_after i past =
      let place : from + (end - from + (i - from - (end - from))) ≡ i = omega (arith, past, on, first) in
      word_in i (omega (arith, past, on, first)) ∙ get_or-append_right clear (drop (end - from) (drop from keys)) (end - from) (i - from) 0 mid (omega (arith, past))
      ∙ get_or-drop (end - from) (drop from keys) (i - from - (end - from)) 0 ∙ get_or-drop from keys (end - from + (i - from - (end - from))) 0 ∙ ap (word keys) place

  pub keyed_cleared : AreKeyed old keys → AreKeyed new now
  keyed_cleared keyed = λ i some. elim (cases_lt i from) [
    | inl less ↦
        let is = word_before i less in
        subst (λ (k : ℕ). IsKeyed (drop i new) k) (sym is) (kept_before old new at i (word keys i) before (omega (arith, less, first)) (keyed i (λ e. some (is ∙ e))))
    | inr within ↦ elim (cases_lt i end) [
      | inl less ↦ absurd (some (word_clear i within less))
      | inr past ↦
          let is = word_after i past in
          subst (λ (k : ℕ). IsKeyed (drop i new) k) (sym is) (kept_after old new end i (word keys i) after past (keyed i (λ e. some (is ∙ e))))
    ]
  ]

-- ---- another key, another name
pub tells_key : (name : List ℕ) (last high low : ℕ) → TellsOthers (Some name) last high low → TellsByKey (Some name) (length name * 1024 + (last + high) % 32 * 32 + low)
tells_key name last high low tells = λ words size differs.
    let v : ℕ = word words (length words - 1) in
    let w : ℕ = word words (length words - 1 - 1) in
    elim (cases_eq (length name) (word words 6 / 256)) [
      | inr other ↦ other_long words name size other
      | inl long ↦ elim (cases_eq (v / 256 % 32) last) [
        | inr other ↦ tells.at_last words size other
        | inl same_last ↦ elim (cases_eq (w / 256 % 32) high) [
          | inr other ↦ tells.at_high words size other
          | inl same_high ↦ elim (cases_eq (w % 32) low) [
            | inr other ↦ tells.at_low words size other
            | inl same_low ↦
                let sum : (v / 256 + w / 256) % 32 ≡ (last + high) % 32 = omega (arith, same_last, same_high) in
                absurd (differs (omega (arith, long, sum, same_low)))
          ]
        ]
      ]
    ]

pub keyed_other : (p : Passing) (words : List ℕ) (key wanted : ℕ) → TellsByKey p.name wanted → (key ≡ wanted → ⊥) → IsKeyed words key → IsOtherAt p words (size_here words)
keyed_other p words key wanted tells differs keyed =
    let n : ℕ = size_here words in
    let s = (sized words n keyed.within keyed.entry).1 in
    let states : word words 0 % 1024 ≡ n = ap (λ (w : ℕ). w % 1024) s.first ∙ omega (arith, s.most) in
    entry_other p words n (omega (arith, s.least)) keyed.within states (λ e. absurd (omega (arith, e, s.first, s.most))) (record {
      entry = keyed.entry;
      other = tells (take n words) keyed.entry.size (λ e. differs (sym keyed.is ∙ e));
    })

-- ---- a walk over them
pub pass_one : (p : Passing) (page : List ℕ) (from at n : ℕ) → from ≤ at → at ≤ length page → MayPass p page from at → IsOtherAt p (take (length page - at) (drop at page)) n → MayPass p page from (at + n)
pass_one p page from at n on within before o = λ given walk none going walked. passes_more p page from at n given walk on within none going (before given walk none going walked) o

pub pass_both : (p : Passing) (page : List ℕ) (from at end : ℕ) → from ≤ at → at ≤ end → MayPass p page from at → MayPass p page at end → MayPass p page from end
pass_both p page from at end on later first then = λ given walk none going walked.
    let x = first given walk none going walked in
    let y = then given (further walk (at - from)) none going x.walked in
    let place : walk.place + (at - from) + (end - at) ≡ walk.place + (end - from) = omega (arith, on, later) in
    subst (λ (k : ℕ). Passes p (given ++ take from page) (given ++ take end page) (record { place = k; held = walk.held; front = walk.front; ended = walk.ended })) place
    (passes_both p (given ++ take from page) (given ++ take at page) (given ++ take end page) (further walk (at - from)) (further (further walk (at - from)) (end - at)) x y)
