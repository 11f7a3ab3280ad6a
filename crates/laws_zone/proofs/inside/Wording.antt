-- Words that may be stored to: which word of the memory they are, and another in their place.
use Rattle.std.proofs.Common.{◌≡◌, ◌≤◌, ◌<◌, ℕ, ◌+◌, ◌-◌, ◌&&◌, suc, Bool, true, false, cond, List, [], ◌∷◌, ◌++◌, None, Option, Some, refl, sym, subst, ap, ◌∙◌, length, take, get_or, replicate, set, arith}
use Rattle.std.proofs.Math.Bool.{and-false}
use Rattle.std.proofs.lemmas.Bool.{le-ltb, leb-false, lt-ltb, ltb-false, ltb-true}
use Rattle.std.proofs.lemmas.List.{get_or_append_left, get_or-append_right, length-append, length-set, set-append_left, set-append_right}
use Rattle.std.proofs.lemmas.Option.{slice_get-get_or, slice_get_past}
use Rattle.std.specs.Option.{is_some, option_or}
use Rattle.std.specs.Prelude.{nat_le, nat_lt, slice_get}
use Rattle.world_model.specs.Zones.{Block, gap, live, zone_set, zone_word}
use Rattle.world_model.specs.ZoneWords.{IsMemory, block_words, memory_length, memory_of, zone_in, zone_start, zone_words}
use Rattle.laws_zone.specs.Filling.{EachCanStand, FillZone, IsTop}
use Rattle.laws_zone.specs.MemoryLaws.{ReadsBack}
use Rattle.laws_zone.specs.WordLaws.{BlockWordsAreStored, StorableWordsAreRead, StoresInsideLeaveAMemory, UserWordsAreStored}
use Rattle.laws_zone.proofs.inside.Blocking.{word_fills_the_zone}
use Rattle.laws_zone.proofs.inside.Remembering.{memories_have_such_zones}
use Rattle.laws_zone.proofs.inside.Writing.{memories_are_their_blocks}
use Rattle.laws_zone.proofs.inside.Zoning.{block_length, zones_read_back}

-- ---- in the words of blocks, of which the first stands at `s`
same_some : (x y : ℕ) → Some x ≡ Some y → x ≡ y
same_some x y e = cc

-- The word stands there, among them.
record Reads (s a x : ℕ) (zone : List Block) : Type 0 where
  pub within : a - s < length (zone_words zone)
  pub word : get_or (zone_words zone) (a - s) 0 ≡ x

-- after the first block
reads_after : (s a x n : ℕ) (b : Block) (zone : List Block) → length (block_words b) ≡ n → s + n ≤ a → Reads (s + n) a x zone → Reads s a x (b ∷ zone)
reads_after s a x n b zone long past r =
    let within = r.within in
    let all = length-append (block_words b) (zone_words zone) in
    let e : a - s - n ≡ a - (s + n) = omega arith in
    record {
      within = omega (arith, within, all, long, past);
      word = get_or-append_right (block_words b) (zone_words zone) n (a - s) 0 long (omega (arith, past)) ∙ ap (λ k. get_or (zone_words zone) k 0) e ∙ r.word;
    }

reads : (s a x : ℕ) (zone : List Block) → EachCanStand zone → s ≤ a → zone_word s a zone ≡ Some x → Reads s a x zone
reads s a x [] each low is = absurd cc
reads s a x (gap n ∷ bs) each low is = by (nat_lt a (s + n)) refl is (λ past later. reads (s + n) a x bs each.1 past later)
  where
    by : (b : Bool) → nat_lt a (s + n) ≡ b → cond b None (zone_word (s + n) a bs) ≡ Some x → (s + n ≤ a → zone_word (s + n) a bs ≡ Some x → Reads (s + n) a x bs) → Reads s a x (gap n ∷ bs)
    by true e is later = absurd cc
    by false e is later = let past = ltb-false a (s + n) e in reads_after s a x n (gap n) bs (block_length (gap n) each.0) past (later past is)
reads s a x (live words ∷ bs) each low is = by (nat_le a s) refl is (λ more later. reads (s + suc (length words)) a x bs each.1 more later)
  where
    size : ℕ
    size = suc (length words)

    at_word : (b : Bool) → s < a → nat_lt (a - s - 1) (length words) ≡ b → option_or (slice_get words (a - s - 1)) (zone_word (s + size) a bs) ≡ Some x
        → (s + size ≤ a → zone_word (s + size) a bs ≡ Some x → Reads (s + size) a x bs) → Reads s a x (live words ∷ bs)
    at_word true some e is later =
        let less = ltb-true (a - s - 1) (length words) e in
        let all = length-append words (zone_words bs) in
        let next : a - s ≡ suc (a - s - 1) = omega (arith, some) in
        let found = same_some (get_or words (a - s - 1) 0) x (sym (ap (λ o. option_or o (zone_word (s + size) a bs)) (slice_get-get_or words (a - s - 1) 0 less)) ∙ is) in
        record {
          within = omega (arith, all, less, some);
          word = ap (λ k. get_or (zone_words (live words ∷ bs)) k 0) next ∙ get_or_append_left words (zone_words bs) 0 (a - s - 1) less ∙ found;
        }
    at_word false some e is later =
        let past = ltb-false (a - s - 1) (length words) e in
        let more : s + suc (length words) ≤ a = omega (arith, past, some) in
        reads_after s a x size (live words) bs refl more (later more (sym (ap (λ o. option_or o (zone_word (s + size) a bs)) (slice_get_past words (a - s - 1) past)) ∙ is))

    by : (b : Bool) → nat_le a s ≡ b → cond b None (option_or (slice_get words (a - s - 1)) (zone_word (s + size) a bs)) ≡ Some x → (s + size ≤ a → zone_word (s + size) a bs ≡ Some x → Reads (s + size) a x bs) → Reads s a x (live words ∷ bs)
    by true e is later = absurd cc
    by false e is later = at_word (nat_lt (a - s - 1) (length words)) (leb-false a s e) refl is later

-- ---- another word in its place
stores : (s a x : ℕ) (zone : List Block) → EachCanStand zone → s ≤ a → is_some (zone_word s a zone) ≡ true → set (zone_words zone) (a - s) x ≡ zone_words (zone_set s a x zone)
stores s a x [] each low is = absurd cc
stores s a x (gap n ∷ bs) each low is = by (nat_lt a (s + n)) refl is (λ past later. stores (s + n) a x bs each.1 past later)
  where
    by : (b : Bool) → nat_lt a (s + n) ≡ b → is_some (cond b None (zone_word (s + n) a bs)) ≡ true
        → (s + n ≤ a → is_some (zone_word (s + n) a bs) ≡ true → set (zone_words bs) (a - (s + n)) x ≡ zone_words (zone_set (s + n) a x bs)) → set (zone_words (gap n ∷ bs)) (a - s) x ≡ zone_words (gap n ∷ zone_set (s + n) a x bs)
    by true e is later = absurd cc
    by false e is later =
        let past = ltb-false a (s + n) e in
        let k : a - s - n ≡ a - (s + n) = omega arith in
        set-append_right (block_words (gap n)) (zone_words bs) n (a - s) x (block_length (gap n) each.0) (omega (arith, past))
        ∙ ap (λ j. block_words (gap n) ++ set (zone_words bs) j x) k
        ∙ ap (λ (l : List ℕ). block_words (gap n) ++ l) (later past is)
stores s a x (live words ∷ bs) each low is = by (nat_le a s) refl is (λ more rest. stores (s + suc (length words)) a x bs each.1 more rest)
  where
    size : ℕ
    size = suc (length words)

    there : List Block
    there = live (set words (a - s - 1) x) ∷ bs

    after : List Block
    after = live words ∷ zone_set (s + size) a x bs

    OfRest : Type 0
    OfRest = s + suc (length words) ≤ a → is_some (zone_word (s + suc (length words)) a bs) ≡ true → set (zone_words bs) (a - (s + suc (length words))) x ≡ zone_words (zone_set (s + suc (length words)) a x bs)

    at_word : (b : Bool) → s < a → nat_lt (a - s - 1) (length words) ≡ b → is_some (option_or (slice_get words (a - s - 1)) (zone_word (s + size) a bs)) ≡ true → OfRest
        → set (zone_words (live words ∷ bs)) (a - s) x ≡ zone_words (cond (nat_lt s a && nat_lt a (s + size)) there after)
    at_word true some e is later =
        let less = ltb-true (a - s - 1) (length words) e in
        let next : a - s ≡ suc (a - s - 1) = omega (arith, some) in
        let last : a < s + suc (length words) = omega (arith, less, some) in
        ap (λ k. set (zone_words (live words ∷ bs)) k x) next
        ∙ ap (λ (l : List ℕ). suc (suc (length words)) ∷ l) (set-append_left words (zone_words bs) (a - s - 1) x less)
        ∙ ap (λ n. suc (suc n) ∷ (set words (a - s - 1) x ++ zone_words bs)) (sym (length-set words (a - s - 1) x))
        ∙ (λ i. zone_words (cond (sym (lt-ltb s a some) i && sym (lt-ltb a (s + size) last) i) there after))
    at_word false some e is later =
        let past = ltb-false (a - s - 1) (length words) e in
        let more : s + suc (length words) ≤ a = omega (arith, past, some) in
        let k : a - s - suc (length words) ≡ a - (s + suc (length words)) = omega arith in
        set-append_right (block_words (live words)) (zone_words bs) size (a - s) x refl (omega (arith, more))
        ∙ ap (λ j. block_words (live words) ++ set (zone_words bs) j x) k
        ∙ ap (λ (l : List ℕ). block_words (live words) ++ l)
        (later more (sym (ap (λ o. is_some (option_or o (zone_word (s + size) a bs))) (slice_get_past words (a - s - 1) past)) ∙ is))
        ∙ ap (λ b. zone_words (cond b there after)) (sym (ap (λ b. nat_lt s a && b) (le-ltb a (s + size) more) ∙ and-false (nat_lt s a)))

    by : (b : Bool) → nat_le a s ≡ b → is_some (cond b None (option_or (slice_get words (a - s - 1)) (zone_word (s + size) a bs))) ≡ true → OfRest
        → set (zone_words (live words ∷ bs)) (a - s) x ≡ zone_words (cond (nat_lt s a && nat_lt a (s + size)) there after)
    by true e is later = absurd cc
    by false e is later = at_word (nat_lt (a - s - 1) (length words)) (leb-false a s e) refl is later

-- ---- in the memory
-- the blocks of a zone, one of whose words is at this address
in_zone : (top at : ℕ) (memory : List ℕ) → IsTop top → IsMemory top memory → (x : ℕ) → zone_start ≤ at → zone_word zone_start at (zone_in top memory) ≡ Some x → at < length (take zone_start memory ++ zone_words (zone_in top memory))
in_zone top at memory t h x low is =
    let z = memories_have_such_zones top memory t h in
    let within = (reads zone_start at x (zone_in top memory) z.0.each low is).within in
    let user = z.1 in
    let all = length-append (take zone_start memory) (zone_words (zone_in top memory)) in
    omega (arith, within, user, all, low)

pub storable_words_are_read : StorableWordsAreRead
storable_words_are_read top at x memory t h is = by (nat_lt at zone_start) refl is
  where
    zone : List Block
    zone = zone_in top memory

    user : List ℕ
    user = take zone_start memory

    by : (b : Bool) → nat_lt at zone_start ≡ b → cond b (Some (get_or memory at 0)) (zone_word zone_start at zone) ≡ Some x → get_or memory at 0 ≡ x
    by true e is = same_some (get_or memory at 0) x is
    by false e is =
        let low = ltb-false at zone_start e in
        let z = memories_have_such_zones top memory t h in
        ap (λ (l : List ℕ). get_or l at 0) (memories_are_their_blocks top memory t h)
        ∙ get_or_append_left (user ++ zone_words zone) (replicate (memory_length - top) 0) 0 at (in_zone top at memory t h x low is)
        ∙ get_or-append_right user (zone_words zone) zone_start at 0 z.1 low
        ∙ (reads zone_start at x zone z.0.each low is).word

record Found (o : Option ℕ) : Type 0 where
  pub word : ℕ
  pub is : o ≡ Some word

found : (o : Option ℕ) → is_some o ≡ true → Found o
found None e = absurd cc
found (Some x) e = record { word = x; is = refl }

pub block_words_are_stored : BlockWordsAreStored
block_words_are_stored top at x memory t h low inside = record {
  memory = subst (IsMemory top) (sym words) back_in.memory_is;
  zone = ap (zone_in top) words ∙ back_in.zone_is;
  user = ap (take zone_start) words ∙ back_in.user_is;
}
  where
    zone : List Block
    zone = zone_in top memory

    user : List ℕ
    user = take zone_start memory

    last : List ℕ
    last = replicate (memory_length - top) 0

    z : FillZone top (zone_in top memory) × (length (take zone_start memory) ≡ zone_start)
    z = memories_have_such_zones top memory t h

    is : is_some (zone_word zone_start at (zone_in top memory)) ≡ true
    is = sym (ap (λ b. is_some (cond b (Some (get_or memory at 0)) (zone_word zone_start at (zone_in top memory)))) (le-ltb at zone_start low)) ∙ inside

    within : at < length (take zone_start memory ++ zone_words (zone_in top memory))
    within = let one = found (zone_word zone_start at (zone_in top memory)) is in in_zone top at memory t h one.word low one.is

    back_in : ReadsBack top user (zone_set zone_start at x zone)
    back_in = zones_read_back top user (zone_set zone_start at x zone) t.most z.1 (word_fills_the_zone top at x zone z.0)

    words : set memory at x ≡ memory_of top user (zone_set zone_start at x zone)
    words =
        ap (λ (l : List ℕ). set l at x) (memories_are_their_blocks top memory t h)
        ∙ set-append_left (user ++ zone_words zone) last at x within
        ∙ ap (λ (l : List ℕ). l ++ last) (set-append_right user (zone_words zone) zone_start at x z.1 low)
        ∙ ap (λ (l : List ℕ). (user ++ l) ++ last) (stores zone_start at x zone z.0.each low is)

pub user_words_are_stored : UserWordsAreStored
user_words_are_stored top at x memory t h below = record {
  memory = subst (IsMemory top) (sym words) back_in.memory_is;
  zone = ap (zone_in top) words ∙ back_in.zone_is;
  user = ap (take zone_start) words ∙ back_in.user_is;
}
  where
    zone : List Block
    zone = zone_in top memory

    user : List ℕ
    user = take zone_start memory

    last : List ℕ
    last = replicate (memory_length - top) 0

    z : FillZone top (zone_in top memory) × (length (take zone_start memory) ≡ zone_start)
    z = memories_have_such_zones top memory t h

    long : at < length (take zone_start memory)
    long = let start = z.1 in omega (arith, start, below)

    within : at < length (take zone_start memory ++ zone_words (zone_in top memory))
    within = let all = length-append (take zone_start memory) (zone_words (zone_in top memory)) in omega (arith, all, long)

    back_in : ReadsBack top (set user at x) zone
    back_in = zones_read_back top (set user at x) zone t.most (length-set user at x ∙ z.1) z.0

    words : set memory at x ≡ memory_of top (set user at x) zone
    words =
        ap (λ (l : List ℕ). set l at x) (memories_are_their_blocks top memory t h)
        ∙ set-append_left (user ++ zone_words zone) last at x within
        ∙ ap (λ (l : List ℕ). l ++ last) (set-append_left user (zone_words zone) at x long)

pub stores_inside_leave_a_memory : StoresInsideLeaveAMemory
stores_inside_leave_a_memory top at x memory t h inside = by (nat_lt at zone_start) refl
  where
    by : (b : Bool) → nat_lt at zone_start ≡ b → IsMemory top (set memory at x)
    by true e = (user_words_are_stored top at x memory t h (ltb-true at zone_start e)).memory
    by false e = (block_words_are_stored top at x memory t h (ltb-false at zone_start e) inside).memory
