-- What each walk over the blocks finds.
use Rattle.std.proofs.Common.{◌≡◌, ◌≤◌, ◌<◌, ℕ, ◌+◌, ◌-◌, ◌&&◌, suc, Bool, true, false, cond, List, [], ◌∷◌, ◌++◌, None, refl, sym, subst, ap, ◌∙◌, length, take, drop, get_or, arith, append-nil, max}
use Rattle.std.proofs.lemmas.Bool.{le-leb, leb-false, leb-true, lt-leb, lt-ltb, le-ltb, ltb-true, ltb-false}
use Rattle.std.proofs.lemmas.Option.{slice_get_past, slice_get-get_or}
use Rattle.std.specs.Option.{is_some, option_or}
use Rattle.std.specs.Prelude.{nat_le, nat_lt, slice_get}
use Rattle.laws_zone.specs.world_model.specs.Zones.{Block, gap, live, block_size, largest_gap, size_for, zone_word}
use Rattle.laws_zone.specs.world_model.specs.ZoneWords.{IsMemory, block_words, is_gap_tag, tag_size, zone_in, zone_start}
use Rattle.laws_zone.specs.Filling.{CanStand, EachCanStand, IsTop, zone_size}
use Rattle.laws_zone.specs.WalkLaws.{is_gap, tag_of}
use Rattle.zones.specs.Gaps.{IsGapAt}
use Rattle.zones.specs.Taking.{FindsGap, NoRoomFor, NoneFits}
use Rattle.laws_zone.proofs.Rows.{each_first}
use Rattle.laws_zone.proofs.Sizes.{size_even, some_size}
use Rattle.laws_zone.proofs.Taking.{block_here}
use Rattle.laws_zone.proofs.Walking.{Meets, Standing, all_passed, goes_on, meets, steps}
use Rattle.laws_zone.proofs.memories.Laws.{memories_have_such_zones}
use Rattle.zones.proofs.Taken.{largest_more, none_more, none_taken}

-- ---- the lowest free block that is large enough
not_fits : (size : ℕ) (b : Block) (tag : ℕ) → tag ≡ tag_of b → is_gap_tag tag ≡ is_gap b → (is_gap_tag tag && nat_le size tag) ≡ false → NoneFits size (b ∷ [])
not_fits size (gap n) tag is kind fails =
    let e : nat_le size tag ≡ false = sym (ap (λ b. b && nat_le size tag) kind) ∙ fails in
    let less = leb-false size tag e in
    (omega (arith, less, is), tt)
not_fits size (live words) tag is kind fails = tt

-- and the usable words that it adds to the most
one_largest : (b : Block) (tag : ℕ) → tag ≡ tag_of b → is_gap_tag tag ≡ is_gap b → largest_gap (b ∷ []) ≡ cond (is_gap_tag tag) (tag - 1) 0
one_largest (gap n) tag is kind =
    let e : max (n - 1) 0 ≡ tag - 1 = omega (arith, is) in
    e ∙ sym (ap (λ b. cond b (tag - 1) 0) kind)
one_largest (live words) tag is kind = sym (ap (λ b. cond b (tag - 1) 0) kind)

-- What the walk knows of the blocks that it has passed: none has so many words, and this is the most usable ones.
pub record SoFar (size largest : ℕ) (before : List Block) : Type 0 where
  pub none : NoneFits size before
  pub most : largest ≡ largest_gap before

pub gap_goes_on : (top : ℕ) (memory : List ℕ) (at size largest : ℕ) → IsTop top → IsMemory top memory → Standing top memory at (SoFar size largest) → at < top → (is_gap_tag (get_or memory at 0) && nat_le size (get_or memory at 0)) ≡ false
    → Standing top memory (at + tag_size (get_or memory at 0)) (SoFar size (max largest (cond (is_gap_tag (get_or memory at 0)) (get_or memory at 0 - 1) 0)))
gap_goes_on top memory at size largest t h s below fails =
    let m = meets top memory at (SoFar size largest) t h s below in
    let tag = get_or memory at 0 in
    goes_on top memory at (SoFar size largest) (SoFar size (max largest (cond (is_gap_tag tag) (tag - 1) 0))) m
    (λ so. record {
      none = none_more size m.before m.block so.none (not_fits size m.block tag m.tag m.kind fails);
      most = (λ i. max (so.most i) (sym (one_largest m.block tag m.tag m.kind) i)) ∙ sym (largest_more m.before m.block);
    })

pub gap_found : (top : ℕ) (memory : List ℕ) (at size largest : ℕ) → IsTop top → IsMemory top memory → Standing top memory at (SoFar size largest) → at < top → (is_gap_tag (get_or memory at 0) && nat_le size (get_or memory at 0)) ≡ true → FindsGap top memory size at
gap_found top memory at size largest t h s below holds = by m.block m.zone m.tag m.kind m.can
  where
    m : Meets top memory at (SoFar size largest)
    m = meets top memory at (SoFar size largest) t h s below

    by : (b : Block) → zone_in top memory ≡ m.before ++ b ∷ m.after → get_or memory at 0 ≡ tag_of b → is_gap_tag (get_or memory at 0) ≡ is_gap b → CanStand b → FindsGap top memory size at
    by (gap n) zone tag kind can =
        let e : nat_le size (get_or memory at 0) ≡ true = sym (ap (λ b. b && nat_le size (get_or memory at 0)) kind) ∙ holds in
        let more = leb-true size (get_or memory at 0) e in
        let within = steps top memory at (SoFar size largest) t h s below in
        let whole : tag_size (get_or memory at 0) ≡ n = ap tag_size tag ∙ can.1 in
        let long = h.words in
        let most = t.most in
        let last = within.1 in
        record {
          before = m.before;
          n = n;
          after = m.after;
          zone = zone;
          place = m.place;
          lowest = m.so.none;
          fits = omega (arith, more, tag);
          tag = tag;
          words = ap (λ k. take n (drop k memory)) m.place ∙ block_here top memory m.before (gap n) m.after t h zone can;
          within = omega (arith, whole, long, most, last);
        }
    by (live words) zone tag kind can = absurd (let e : false ≡ true = sym (ap (λ b. b && nat_le size (get_or memory at 0)) kind) ∙ holds in cc)

pub no_gap_fits : (top : ℕ) (memory : List ℕ) (at size largest : ℕ) → IsTop top → IsMemory top memory → Standing top memory at (SoFar size largest) → top ≤ at → NoRoomFor top size memory largest
no_gap_fits top memory at size largest t h s past =
    let all = all_passed top memory at (SoFar size largest) t h s past in
    record { none = none_taken size zone_start (zone_in top memory) all.none; largest_is = all.most }

-- ---- usable words
abbrev pub Passed : List Block → Type 0
Passed before = Unit {0}

word_past : (at a : ℕ) (before rest : List Block) → EachCanStand before → at + zone_size before ≤ a → zone_word at a (before ++ rest) ≡ zone_word (at + zone_size before) a rest
word_past at a [] rest each past = let e : at ≡ at + 0 = omega arith in ap (λ k. zone_word k a rest) e
word_past at a (gap n ∷ bs) rest each past =
    let e : at + n + zone_size bs ≡ at + (n + zone_size bs) = omega arith in
    ap (λ b. cond b None (zone_word (at + n) a (bs ++ rest))) (le-ltb a (at + n) (omega (arith, past)))
    ∙ word_past (at + n) a bs rest each.1 (omega (arith, past))
    ∙ ap (λ k. zone_word k a rest) e
word_past at a (live words ∷ bs) rest each past =
    let e : at + suc (length words) + zone_size bs ≡ at + (suc (length words) + zone_size bs) = omega arith in
    ap (λ b. cond b None (option_or (slice_get words (a - at - 1)) (zone_word (at + suc (length words)) a (bs ++ rest)))) (lt-leb a at (omega (arith, past)))
    ∙ ap (λ o. option_or o (zone_word (at + suc (length words)) a (bs ++ rest))) (slice_get_past words (a - at - 1) (omega (arith, past)))
    ∙ word_past (at + suc (length words)) a bs rest each.1 (omega (arith, past))
    ∙ ap (λ k. zone_word k a rest) e

word_here : (at a : ℕ) (b : Block) (rest : List Block) → at ≤ a → a < at + block_size b → is_some (zone_word at a (b ∷ rest)) ≡ cond (is_gap b) false (nat_lt at a)
word_here at a (gap n) rest low high = ap (λ b. is_some (cond b None (zone_word (at + n) a rest))) (lt-ltb a (at + n) high)
word_here at a (live words) rest low high = by (nat_lt at a) refl
  where
    by : (b : Bool) → nat_lt at a ≡ b → is_some (cond (nat_le a at) None (option_or (slice_get words (a - at - 1)) (zone_word (at + suc (length words)) a rest))) ≡ b
    by true e =
        let less = ltb-true at a e in
        ap (λ b. is_some (cond b None (option_or (slice_get words (a - at - 1)) (zone_word (at + suc (length words)) a rest)))) (lt-leb a at less)
        ∙ ap (λ o. is_some (option_or o (zone_word (at + suc (length words)) a rest))) (slice_get-get_or words (a - at - 1) 0 (omega (arith, less, high)))
    by false e =
        let less = ltb-false at a e in
        ap (λ b. is_some (cond b None (option_or (slice_get words (a - at - 1)) (zone_word (at + suc (length words)) a rest)))) (le-leb a at less)

pub word_found : (top : ℕ) (memory : List ℕ) (at a : ℕ) → IsTop top → IsMemory top memory → Standing top memory at Passed → at < top → at ≤ a → a < at + tag_size (get_or memory at 0)
    → is_some (zone_word zone_start a (zone_in top memory)) ≡ cond (is_gap_tag (get_or memory at 0)) false (nat_lt at a)
word_found top memory at a t h s below low high =
    let m = meets top memory at Passed t h s below in
    let fills = (memories_have_such_zones top memory t h).0 in
    let each = each_first m.before (m.block ∷ m.after) (subst EachCanStand m.zone fills.each) in
    let place = m.place in
    let size = m.size in
    ap (λ z. is_some (zone_word zone_start a z)) m.zone
    ∙ ap is_some (word_past zone_start a m.before (m.block ∷ m.after) each (omega (arith, place, low)))
    ∙ ap (λ k. is_some (zone_word k a (m.block ∷ m.after))) (sym m.place)
    ∙ word_here at a m.block m.after low (omega (arith, size, high))
    ∙ ap (λ b. cond b false (nat_lt at a)) (sym m.kind)

pub none_found : (top : ℕ) (memory : List ℕ) (at a : ℕ) → IsTop top → IsMemory top memory → Standing top memory at Passed → top ≤ at → at ≤ a → is_some (zone_word zone_start a (zone_in top memory)) ≡ false
none_found top memory at a t h s past low =
    let fills = (memories_have_such_zones top memory t h).0 in
    let size = fills.size in
    ap (λ z. is_some (zone_word zone_start a z)) (sym (append-nil (zone_in top memory)))
    ∙ ap is_some (word_past zone_start a (zone_in top memory) [] fills.each (omega (arith, size, past, low)))

pub walk_on : (top : ℕ) (memory : List ℕ) (at : ℕ) → IsTop top → IsMemory top memory → Standing top memory at Passed → at < top → Standing top memory (at + tag_size (get_or memory at 0)) Passed
walk_on top memory at t h s below = goes_on top memory at Passed Passed (meets top memory at Passed t h s below) (λ p. p)

-- ---- a block is taken
pub gap_is_at : (top : ℕ) (memory : List ℕ) (n size at : ℕ) → size ≡ size_for n → FindsGap top memory size at → IsGapAt memory at size
gap_is_at top memory n size at is f =
    let fits = f.fits in
    let tag = f.tag in
    let within = f.within in
    record {
      some = subst (λ k. 1 ≤ k) (sym is) (some_size n);
      fits = omega (arith, fits, tag);
      even = ap tag_size is ∙ size_even n ∙ sym is;
      words = ap (λ k. take k (drop at memory)) f.tag ∙ f.words ∙ ap (λ k. block_words (gap k)) (sym f.tag);
      within = omega (arith, within, tag);
    }
