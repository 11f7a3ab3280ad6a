-- The words of used blocks as a block is taken or given back, and as the zone grows and shrinks.
use Rattle.std.proofs.Common.{◌≡◌, ◌≤◌, ◌<◌, ◌⊎◌, inl, inr, ℕ, ◌+◌, ◌-◌, ◌==◌, zero, suc, Bool, true, false, cond, List, [], ◌∷◌, ◌++◌, None, Option, Some, refl, sym, subst, ap, ◌∙◌, length, replicate, get_or, arith}
use Rattle.std.proofs.lemmas.Bool.{eqb-true, le-leb, le-ltb, leb-false, leb-true, lt-leb, ltb-false, ltb-true}
use Rattle.std.proofs.lemmas.List.{length-replicate}
use Rattle.std.proofs.lemmas.Option.{slice_get-get_or, slice_get_past}
use Rattle.std.specs.Option.{option_map, option_or}
use Rattle.std.specs.Prelude.{nat_le, nat_lt, slice_get}
use Rattle.laws_zone.specs.world_model.specs.Zones.{Block, Taken, gap, live, freed, given_back, grown, join_gap, joined_gaps, left_before, shrunk, size_for, taken, taken_after, taken_here, used_above, zone_word}
use Rattle.laws_zone.specs.world_model.specs.ZoneWords.{zone_start}
use Rattle.zones.specs.Keeping.{KeepsOtherWords, KeepsWords, usable_words}
use Rattle.laws_zone.proofs.Sizes.{some_size}

-- ---- the word at an address, by the first block, which begins at `s`
-- in blocks that begin there
abbrev Keeps : ℕ → List Block → List Block → Type 0
Keeps s old new = (a x : ℕ) → zone_word s a old ≡ Some x → zone_word s a new ≡ Some x

-- it is after a free block
over_gap : (s a n : ℕ) (bs : List Block) → s + n ≤ a → zone_word s a (gap n ∷ bs) ≡ zone_word (s + n) a bs
over_gap s a n bs past = ap (λ b. cond b None (zone_word (s + n) a bs)) (le-ltb a (s + n) past)

-- or after a used one
over_used : (s a : ℕ) (words : List ℕ) (bs : List Block) → s + suc (length words) ≤ a → zone_word s a (live words ∷ bs) ≡ zone_word (s + suc (length words)) a bs
over_used s a words bs past =
    ap (λ b. cond b None (option_or (slice_get words (a - s - 1)) (zone_word (s + suc (length words)) a bs))) (lt-leb a s (omega (arith, past)))
    ∙ ap (λ o. option_or o (zone_word (s + suc (length words)) a bs)) (slice_get_past words (a - s - 1) (omega (arith, past)))

-- a word of these blocks, of which the first is free, is one of those after it
record After (s a x n : ℕ) (bs : List Block) : Type 0 where
  pub past : s + n ≤ a
  pub is : zone_word (s + n) a bs ≡ Some x

after_gap : (s a x n : ℕ) (bs : List Block) → zone_word s a (gap n ∷ bs) ≡ Some x → After s a x n bs
after_gap s a x n bs is = by (nat_lt a (s + n)) refl is
  where
    by : (b : Bool) → nat_lt a (s + n) ≡ b → cond b None (zone_word (s + n) a bs) ≡ Some x → After s a x n bs
    by true e is = absurd cc
    by false e is = record { past = ltb-false a (s + n) e; is = is }

-- of a used one it is one of its own, whatever blocks are after it, or one of those after it
record Within (s a x : ℕ) (words : List ℕ) : Type 0 where
  pub first : s < a
  pub last : a < s + suc (length words)
  pub is : (bs : List Block) → zone_word s a (live words ∷ bs) ≡ Some x

used_word : (s a x : ℕ) (words : List ℕ) (bs : List Block) → zone_word s a (live words ∷ bs) ≡ Some x → Within s a x words ⊎ After s a x (suc (length words)) bs
used_word s a x words bs is = by (nat_le a s) refl is
  where
    size : ℕ
    size = suc (length words)

    at_word : (b : Bool) → s < a → nat_le a s ≡ false → nat_lt (a - s - 1) (length words) ≡ b → option_or (slice_get words (a - s - 1)) (zone_word (s + size) a bs) ≡ Some x → Within s a x words ⊎ After s a x (suc (length words)) bs
    at_word true some low e is =
        let less = ltb-true (a - s - 1) (length words) e in
        let one = slice_get-get_or words (a - s - 1) 0 less in
        let same : Some (get_or words (a - s - 1) 0) ≡ Some x = sym (ap (λ o. option_or o (zone_word (s + size) a bs)) one) ∙ is in
        inl (record {
          first = some;
          last = omega (arith, some, less);
          is = λ cs.
              ap (λ b. cond b None (option_or (slice_get words (a - s - 1)) (zone_word (s + size) a cs))) low
              ∙ ap (λ o. option_or o (zone_word (s + size) a cs)) one
              ∙ same;
        })
    at_word false some low e is =
        let past = ltb-false (a - s - 1) (length words) e in
        inr (record { past = omega (arith, some, past); is = sym (ap (λ o. option_or o (zone_word (s + size) a bs)) (slice_get_past words (a - s - 1) past)) ∙ is })

    by : (b : Bool) → nat_le a s ≡ b → cond b None (option_or (slice_get words (a - s - 1)) (zone_word (s + size) a bs)) ≡ Some x → Within s a x words ⊎ After s a x (suc (length words)) bs
    by true e is = absurd cc
    by false e is = at_word (nat_lt (a - s - 1) (length words)) (leb-false a s e) e refl is

-- ---- the same block before both
keeps_gap : (s n : ℕ) (bs cs : List Block) → Keeps (s + n) bs cs → Keeps s (gap n ∷ bs) (gap n ∷ cs)
keeps_gap s n bs cs k a x is = let w = after_gap s a x n bs is in over_gap s a n cs w.past ∙ k a x w.is

keeps_used : (s : ℕ) (words : List ℕ) (bs cs : List Block) → Keeps (s + suc (length words)) bs cs → Keeps s (live words ∷ bs) (live words ∷ cs)
keeps_used s words bs cs k a x is = by (used_word s a x words bs is)
  where
    by : Within s a x words ⊎ After s a x (suc (length words)) bs → zone_word s a (live words ∷ cs) ≡ Some x
    by (inl w) = w.is cs
    by (inr w) = over_used s a words cs w.past ∙ k a x w.is

-- ---- a block that is taken
-- the rest of a free block
over_left : (s a k : ℕ) (bs : List Block) → s + k ≤ a → zone_word s a (left_before k bs) ≡ zone_word (s + k) a bs
over_left s a zero bs past = let e : s ≡ s + 0 = omega arith in ap (λ j. zone_word j a bs) e
over_left s a (suc k) bs past = over_gap s a (suc k) bs past

here_keeps : (s size n : ℕ) (bs : List Block) → 1 ≤ size → size ≤ n → Keeps s (gap n ∷ bs) (live (replicate (size - 1) 0) ∷ left_before (n - size) bs)
here_keeps s size n bs some fits a x is =
    let w = after_gap s a x n bs is in
    let past = w.past in
    let long : length (replicate {A = ℕ} (size - 1) 0) ≡ size - 1 = length-replicate (size - 1) 0 in
    let e : s + suc (length (replicate {A = ℕ} (size - 1) 0)) ≡ s + size = omega (arith, long, some) in
    let f : s + size + (n - size) ≡ s + n = omega (arith, fits) in
    over_used s a (replicate (size - 1) 0) (left_before (n - size) bs) (omega (arith, e, past, fits))
    ∙ ap (λ j. zone_word j a (left_before (n - size) bs)) e
    ∙ over_left (s + size) a (n - size) bs (omega (arith, f, past))
    ∙ ap (λ j. zone_word j a bs) f
    ∙ w.is

-- after a block one is taken from those after it
record Further (b : Block) (o : Option Taken) (t : Taken) : Type 0 where
  pub one : Taken
  pub is : o ≡ Some one
  pub blocks : b ∷ one.blocks ≡ t.blocks

further : (b : Block) (o : Option Taken) (t : Taken) → taken_after b o ≡ Some t → Further b o t
further b None t e = absurd cc
further b (Some one) t e = record { one = one; is = refl; blocks = ap (λ o. blocks_of o) e }
  where
    blocks_of : Option Taken → List Block
    blocks_of None = []
    blocks_of (Some t) = t.blocks

taken_from : (s size : ℕ) (zone : List Block) (t : Taken) → 1 ≤ size → taken s size zone ≡ Some t → Keeps s zone t.blocks
taken_from s size [] t some e = absurd cc
taken_from s size (gap n ∷ bs) t some e = by (nat_le size n) refl e (λ one is. taken_from (s + n) size bs one some is)
  where
    blocks_of : Option Taken → List Block
    blocks_of None = []
    blocks_of (Some t) = t.blocks

    by : (b : Bool) → nat_le size n ≡ b → cond b (Some (taken_here s size n bs)) (taken_after (gap n) (taken (s + n) size bs)) ≡ Some t → ((one : Taken) → taken (s + n) size bs ≡ Some one → Keeps (s + n) bs one.blocks) → Keeps s (gap n ∷ bs) t.blocks
    by true fits e later = subst (Keeps s (gap n ∷ bs)) (ap blocks_of e) (here_keeps s size n bs some (leb-true size n fits))
    by false less e later = let f = further (gap n) (taken (s + n) size bs) t e in subst (Keeps s (gap n ∷ bs)) f.blocks (keeps_gap s n bs f.one.blocks (later f.one f.is))
taken_from s size (live words ∷ bs) t some e =
    let f = further (live words) (taken (s + suc (length words)) size bs) t e in
    subst (Keeps s (live words ∷ bs)) f.blocks (keeps_used s words bs f.one.blocks (taken_from (s + suc (length words)) size bs f.one some f.is))

pub taken_keeps : (n : ℕ) (zone : List Block) (t : Taken) → taken zone_start (size_for n) zone ≡ Some t → KeepsWords zone t.blocks
taken_keeps n zone t e = taken_from zone_start (size_for n) zone t (some_size n) e

-- ---- free blocks that are joined
join_keeps : (s n : ℕ) (bs : List Block) → Keeps s (gap n ∷ bs) (join_gap n bs)
join_keeps s n [] a x is = is
join_keeps s n (gap k ∷ bs) a x is =
    let one = after_gap s a x n (gap k ∷ bs) is in
    let two = after_gap (s + n) a x k bs one.is in
    let past = two.past in
    let e : s + (n + k) ≡ s + n + k = omega arith in
    over_gap s a (n + k) bs (omega (arith, past)) ∙ ap (λ j. zone_word j a bs) e ∙ two.is
join_keeps s n (live words ∷ bs) a x is = is

joined_keeps : (s : ℕ) (bs : List Block) → Keeps s bs (joined_gaps bs)
joined_keeps s [] a x is = is
joined_keeps s (gap n ∷ bs) a x is = join_keeps s n (joined_gaps bs) a x (keeps_gap s n bs (joined_gaps bs) (joined_keeps (s + n) bs) a x is)
joined_keeps s (live words ∷ bs) a x is = keeps_used s words bs (joined_gaps bs) (joined_keeps (s + suc (length words)) bs) a x is

-- ---- a block that is given back
record Mapped (f : List Block → List Block) (o : Option (List Block)) (r : List Block) : Type 0 where
  pub one : List Block
  pub is : o ≡ Some one
  pub made : f one ≡ r

same_some : (x y : List Block) → Some x ≡ Some y → x ≡ y
same_some x y e = cc

mapped : (f : List Block → List Block) (o : Option (List Block)) (r : List Block) → option_map f o ≡ Some r → Mapped f o r
mapped f None r e = absurd cc
mapped f (Some one) r e = record { one = one; is = refl; made = same_some (f one) r e }

-- the address is none of the block's with this first usable word
abbrev Apart : ℕ → ℕ → List Block → ℕ → Type 0
Apart s first bs a = (a < first) ⊎ (first + usable_words s first bs ≤ a)

freed_keeps : (s first : ℕ) (bs r : List Block) → freed s first bs ≡ Some r → (a x : ℕ) → Apart s first bs a → zone_word s a bs ≡ Some x → zone_word s a r ≡ Some x
freed_keeps s first [] r e a x apart is = absurd cc
freed_keeps s first (gap n ∷ bs) r e a x apart is =
    let m = mapped (λ (l : List Block). gap n ∷ l) (freed (s + n) first bs) r e in
    let w = after_gap s a x n bs is in
    ap (zone_word s a) (sym m.made) ∙ over_gap s a n m.one w.past ∙ freed_keeps (s + n) first bs m.one m.is a x apart w.is
freed_keeps s first (live words ∷ bs) r e a x apart is = by (first == s + 1) refl e apart (used_word s a x words bs is) (λ one is. freed_keeps (s + suc (length words)) first bs one is a x)
  where
    size : ℕ
    size = suc (length words)

    -- the block is this one
    this : first ≡ s + 1 → (a < first) ⊎ (first + length words ≤ a) → Within s a x words ⊎ After s a x (suc (length words)) bs → zone_word s a (gap (suc (length words)) ∷ bs) ≡ Some x
    this at (inl low) (inl w) = let some = w.first in absurd (omega (arith, at, low, some))
    this at (inr high) (inl w) = let last = w.last in absurd (omega (arith, at, high, last))
    this at apart (inr w) = over_gap s a (suc (length words)) bs w.past ∙ w.is

    by : (b : Bool) → (first == s + 1) ≡ b → cond b (Some (gap (suc (length words)) ∷ bs)) (option_map (λ (l : List Block). live words ∷ l) (freed (s + suc (length words)) first bs)) ≡ Some r
        → (a < first) ⊎ (first + cond b (length words) (usable_words (s + suc (length words)) first bs) ≤ a) → Within s a x words ⊎ After s a x (suc (length words)) bs
        → ((one : List Block) → freed (s + suc (length words)) first bs ≡ Some one → Apart (s + suc (length words)) first bs a → zone_word (s + suc (length words)) a bs ≡ Some x → zone_word (s + suc (length words)) a one ≡ Some x)
        → zone_word s a r ≡ Some x
    by true at e apart w later = ap (zone_word s a) (sym (same_some (gap (suc (length words)) ∷ bs) r e)) ∙ this (eqb-true first (s + 1) at) apart w
    by false at e apart (inl w) later = let m = mapped (λ (l : List Block). live words ∷ l) (freed (s + size) first bs) r e in ap (zone_word s a) (sym m.made) ∙ w.is m.one
    by false at e apart (inr w) later =
        let m = mapped (λ (l : List Block). live words ∷ l) (freed (s + size) first bs) r e in
        ap (zone_word s a) (sym m.made) ∙ over_used s a words m.one w.past ∙ later m.one m.is apart w.is

pub given_back_keeps : (first : ℕ) (zone left : List Block) → given_back zone_start first zone ≡ Some left → KeepsOtherWords first zone left
given_back_keeps first zone left e a x apart is =
    let m = mapped joined_gaps (freed zone_start first zone) left e in
    subst (λ l. zone_word zone_start a l ≡ Some x) m.made (joined_keeps zone_start m.one a x (freed_keeps zone_start first zone m.one m.is a x apart is))

-- ---- a zone that grows and shrinks
keeps_first : (s : ℕ) (bs rest : List Block) → Keeps s bs (bs ++ rest)
keeps_first s [] rest a x is = absurd cc
keeps_first s (gap n ∷ bs) rest a x is = keeps_gap s n bs (bs ++ rest) (keeps_first (s + n) bs rest) a x is
keeps_first s (live words ∷ bs) rest a x is = keeps_used s words bs (bs ++ rest) (keeps_first (s + suc (length words)) bs rest) a x is

pub grown_keeps : (n : ℕ) (zone : List Block) → KeepsWords zone (grown n zone)
grown_keeps zero zone a x is = is
grown_keeps (suc n) zone a x is = joined_keeps zone_start (zone ++ gap (suc n) ∷ []) a x (keeps_first zone_start zone (gap (suc n) ∷ []) a x is)

not_above : (b : Bool) (at : ℕ) (o : Option ℕ) → cond b (Some at) o ≡ None → (b ≡ false) × (o ≡ None)
not_above false at o e = (refl, e)
not_above true at o e = absurd cc

-- blocks that begin at the end or past it have no word, where no used block is past it
none_past : (top s : ℕ) (bs : List Block) → top ≤ s → used_above top s bs ≡ None → (a x : ℕ) → zone_word s a bs ≡ Some x → ⊥
none_past top s [] past none a x is = cc
none_past top s (gap n ∷ bs) past none a x is = none_past top (s + n) bs (omega (arith, past)) none a x (after_gap s a x n bs is).is
none_past top s (live words ∷ bs) past none a x is =
    let parts = not_above (nat_lt top (s + suc (length words))) (s + 1) (used_above top (s + suc (length words)) bs) none in
    let end = ltb-false top (s + suc (length words)) parts.0 in
    omega (arith, end, past)

shrunk_from : (room s top : ℕ) (bs : List Block) → s + room ≡ top → used_above top s bs ≡ None → Keeps s bs (shrunk room bs)
shrunk_from room s top [] ends none a x is = is
shrunk_from room s top (gap n ∷ bs) ends none a x is = by (nat_le n room) refl (λ ends. shrunk_from (room - n) (s + n) top bs ends none a x)
  where
    w : After s a x n bs
    w = after_gap s a x n bs is

    by : (b : Bool) → nat_le n room ≡ b → (s + n + (room - n) ≡ top → zone_word (s + n) a bs ≡ Some x → zone_word (s + n) a (shrunk (room - n) bs) ≡ Some x) → zone_word s a (cond b (gap n ∷ shrunk (room - n) bs) (left_before room [])) ≡ Some x
    by true e later = let fits = leb-true n room e in over_gap s a n (shrunk (room - n) bs) w.past ∙ later (omega (arith, ends, fits)) w.is
    by false e later = let less = leb-false n room e in absurd (none_past top (s + n) bs (omega (arith, ends, less)) none a x w.is)
shrunk_from room s top (live words ∷ bs) ends none a x is =
    let size : ℕ = suc (length words) in
    let parts = not_above (nat_lt top (s + size)) (s + 1) (used_above top (s + size) bs) none in
    let end = ltb-false top (s + size) parts.0 in
    let fits : size ≤ room = omega (arith, end, ends) in
    ap (λ b. zone_word s a (cond b (live words ∷ shrunk (room - size) bs) (left_before room []))) (le-leb size room fits)
    ∙ keeps_used s words bs (shrunk (room - size) bs) (shrunk_from (room - size) (s + size) top bs (omega (arith, ends, fits)) parts.1) a x is

pub shrunk_keeps : (low : ℕ) (zone : List Block) → zone_start ≤ low → used_above low zone_start zone ≡ None → KeepsWords zone (shrunk (low - zone_start) zone)
shrunk_keeps low zone after none = shrunk_from (low - zone_start) zone_start low zone (omega (arith, after)) none
