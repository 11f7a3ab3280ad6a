-- A block that is given back: what the walk finds, and the memory then.
use Rattle.std.proofs.Common.{◌≡◌, ◌≤◌, ◌<◌, ℕ, ◌+◌, ◌-◌, ◌==◌, ◌&&◌, suc, true, false, cond, not, List, [], ◌∷◌, ◌++◌, None, Some, sym, subst, ap, ◌∙◌, length, take, drop, get_or, arith, append_assoc, append-nil}
use Rattle.std.proofs.lemmas.Bool.{eqb-false, eqb-true}
use Rattle.std.specs.Option.{option_map}
use Rattle.laws_zone.specs.world_model.specs.Zones.{Block, gap, live, block_size, given_back, joined_gaps, left_before}
use Rattle.laws_zone.specs.world_model.specs.ZoneWords.{IsMemory, block_words, is_gap_tag, tag_size, zone_in, zone_start}
use Rattle.laws_zone.specs.Filling.{AreJoined, EachCanStand, FillZone, IsTop, back_of, first_gap, front_of, last_gap, zone_size}
use Rattle.laws_zone.specs.PlaceLaws.{NowHas}
use Rattle.laws_zone.specs.WalkLaws.{NextBlock, is_gap, tag_of}
use Rattle.zones.specs.Giving.{FindsUsed, GivesBack}
use Rattle.laws_zone.proofs.Rows.{each_first, each_last, size_of_both}
use Rattle.laws_zone.proofs.Joining.{NotAt, back_splits, free_more, freed_at, front_size, front_splits, last_gap_more, left_size, not_at_more, not_freed}
use Rattle.laws_zone.proofs.Walking.{Meets, Standing, all_passed, goes_on, meets}
use Rattle.laws_zone.proofs.blocks.Laws.{freed_blocks_join, given_back_fills_the_zone}
use Rattle.laws_zone.proofs.memories.Laws.{memories_have_such_zones}
use Rattle.laws_zone.proofs.places.Laws.{other_blocks_stand_in_place}
use Rattle.laws_zone.proofs.walks.Laws.{walks_meet_a_block, walks_pass_all}
use Rattle.zones.specs.declared.giving.Span.{Span}

-- ---- the end of a free block
pub gap_first : (top : ℕ) (memory : List ℕ) (at : ℕ) (before rest : List Block) → IsTop top → IsMemory top memory → zone_in top memory ≡ before ++ rest → at ≡ zone_start + zone_size before → at < top
    → cond (is_gap_tag (get_or memory at 0)) (get_or memory at 0) 0 ≡ first_gap rest
gap_first top memory at before rest t h zone place below = by n.block n.has.kind n.has.tag n.is
  where
    n : NextBlock top memory at rest
    n = walks_meet_a_block top memory at before rest t h (record { zone = zone; place = place }) below

    by : (b : Block) → is_gap_tag (get_or memory at 0) ≡ is_gap b → get_or memory at 0 ≡ tag_of b → rest ≡ b ∷ n.after → cond (is_gap_tag (get_or memory at 0)) (get_or memory at 0) 0 ≡ first_gap rest
    by (gap k) kind tag is = ap (λ b. cond b (get_or memory at 0) 0) kind ∙ tag ∙ sym (ap first_gap is)
    by (live words) kind tag is = ap (λ b. cond b (get_or memory at 0) 0) kind ∙ sym (ap first_gap is)

pub gap_past_top : (top : ℕ) (memory : List ℕ) (at : ℕ) (before rest : List Block) → IsTop top → IsMemory top memory → zone_in top memory ≡ before ++ rest → at ≡ zone_start + zone_size before → top ≤ at → first_gap rest ≡ 0
gap_past_top top memory at before rest t h zone place past = ap first_gap (walks_pass_all top memory at before rest t h (record { zone = zone; place = place }) past).0

-- ---- the walk
-- no block that is passed has this first usable word, and the free block at the end of them begins there
pub record Sought (a from : ℕ) (before : List Block) : Type 0 where
  pub none : NotAt zone_start a before
  pub free : from + last_gap before ≡ zone_start + zone_size before

pub seek_starts : (a : ℕ) → Sought a zone_start []
seek_starts a = record { none = tt; free = omega arith }

not_here : (at a : ℕ) (b : Block) → (not (is_gap b) && (a == at + 1)) ≡ false → NotAt at a (b ∷ [])
not_here at a (gap n) e = tt
not_here at a (live words) e = (eqb-false a (at + 1) e, tt)

pub seek_on : (top : ℕ) (memory : List ℕ) (here from a : ℕ) → IsTop top → IsMemory top memory → Standing top memory here (Sought a from) → here < top → (not (is_gap_tag (get_or memory here 0)) && (a == here + 1)) ≡ false
    → Standing top memory (here + tag_size (get_or memory here 0)) (Sought a (cond (is_gap_tag (get_or memory here 0)) here (here + tag_size (get_or memory here 0))))
seek_on top memory here from a t h s below test =
    let m = meets top memory here (Sought a from) t h s below in
    let tag = get_or memory here 0 in
    let test_is = sym (ap (λ b. not b && (a == here + 1)) m.kind) ∙ test in
    goes_on top memory here (Sought a from) (Sought a (cond (is_gap_tag tag) here (here + tag_size tag))) m
    (λ so. record {
      none = not_at_more zone_start a m.before m.block so.none (subst (λ k. NotAt k a (m.block ∷ [])) m.place (not_here here a m.block test_is));
      free =
          ap (λ k. cond (is_gap_tag (get_or memory here 0)) here (here + tag_size (get_or memory here 0)) + k) (last_gap_more m.before m.block)
          ∙ free_more here (tag_size tag) m.block (zone_size m.before) (is_gap_tag tag) m.kind m.size m.place
          ∙ ap (λ k. zone_start + k) (sym (size_of_both m.before (m.block ∷ [])));
    })

pub seek_found : (top : ℕ) (memory : List ℕ) (here from a : ℕ) → IsTop top → IsMemory top memory → Standing top memory here (Sought a from) → here < top → (not (is_gap_tag (get_or memory here 0)) && (a == here + 1)) ≡ true
    → (end : ℕ) → ((before rest : List Block) → zone_in top memory ≡ before ++ rest → here + tag_size (get_or memory here 0) ≡ zone_start + zone_size before → end ≡ here + tag_size (get_or memory here 0) + first_gap rest)
    → FindsUsed top a memory (record { from = from; end = end })
seek_found top memory here from a t h s below test end ends = by m.block m.zone m.kind m.size
  where
    m : Meets top memory here (Sought a from)
    m = meets top memory here (Sought a from) t h s below

    by : (b : Block) → zone_in top memory ≡ m.before ++ b ∷ m.after → is_gap_tag (get_or memory here 0) ≡ is_gap b → tag_size (get_or memory here 0) ≡ block_size b → FindsUsed top a memory (record { from = from; end = end })
    by (gap n) zone kind size = absurd (let e : false ≡ true = sym (ap (λ b. not b && (a == here + 1)) kind) ∙ test in cc)
    by (live words) zone kind size =
        let is = eqb-true a (here + 1) (sym (ap (λ b. not b && (a == here + 1)) kind) ∙ test) in
        let place = m.place in
        let both = size_of_both m.before (live words ∷ []) in
        let last = ends (m.before ++ live words ∷ []) m.after (zone ∙ sym (append_assoc m.before (live words ∷ []) m.after)) (omega (arith, place, size, both)) in
        record {
          before = m.before;
          words = words;
          after = m.after;
          zone = zone;
          place = omega (arith, is, place);
          from = m.so.free;
          end = omega (arith, last, size, place);
        }

pub seek_none : (top : ℕ) (memory : List ℕ) (here from a : ℕ) → IsTop top → IsMemory top memory → Standing top memory here (Sought a from) → top ≤ here → given_back zone_start a (zone_in top memory) ≡ None
seek_none top memory here from a t h s past = ap (option_map joined_gaps) (not_freed zone_start a (zone_in top memory) (all_passed top memory here (Sought a from) t h s past).none)

-- ---- the memory then
first_fits : (bs : List Block) → first_gap bs ≤ zone_size bs
first_fits [] = omega arith
first_fits (gap n ∷ bs) = omega arith
first_fits (live words ∷ bs) = omega arith

pub record Within (top : ℕ) (span : Span) : Type 0 where
  pub order : span.from < span.end
  pub first : zone_start ≤ span.from
  pub last : span.end ≤ top

pub span_within : (top at : ℕ) (memory : List ℕ) (span : Span) → IsTop top → IsMemory top memory → FindsUsed top at memory span → Within top span
span_within top at memory span t h f =
    let fills = (memories_have_such_zones top memory t h).0 in
    let all = fills.size in
    let whole : zone_size (zone_in top memory) ≡ zone_size f.before + zone_size (live f.words ∷ f.after) = ap zone_size f.zone ∙ size_of_both f.before (live f.words ∷ f.after) in
    let front = front_size f.before in
    let first = first_fits f.after in
    let from = f.from in
    let end = f.end in
    record { order = omega (arith, front, from, end); first = omega (arith, front, from); last = omega (arith, all, whole, first, end) }

pub gives : (top at : ℕ) (old new : List ℕ) (span : Span) → IsTop top → IsMemory top old → FindsUsed top at old span
    → new ≡ (take span.from old ++ block_words (gap (span.end - span.from))) ++ drop span.end old → GivesBack top at old new
gives top at old new span t h f words = record { blocks = blocks; given = given; now = r }
  where
    s : ℕ
    s = suc (length f.words)

    n : ℕ
    n = last_gap f.before + s + first_gap f.after

    l : List Block
    l = left_before (last_gap f.before) []

    k : List Block
    k = left_before (first_gap f.after) []

    blocks : List Block
    blocks = front_of f.before ++ (gap n ∷ back_of f.after)

    whole : FillZone top (zone_in top old)
    whole = (memories_have_such_zones top old t h).0

    each : EachCanStand (f.before ++ live f.words ∷ f.after)
    each = subst EachCanStand f.zone whole.each

    each_after : EachCanStand f.after
    each_after = (each_last f.before (live f.words ∷ f.after) each).1

    each_before : EachCanStand f.before
    each_before = each_first f.before (live f.words ∷ f.after) each

    given : given_back zone_start at (zone_in top old) ≡ Some blocks
    given =
        ap (given_back zone_start at) f.zone
        ∙ ap (option_map joined_gaps) (freed_at zone_start at f.before f.words f.after f.place each_before)
        ∙ ap Some (freed_blocks_join s f.words f.before f.after (subst (AreJoined false) f.zone whole.joined))

    zone : zone_in top old ≡ front_of f.before ++ ((l ++ live f.words ∷ k) ++ back_of f.after)
    zone =
        f.zone
        ∙ (λ i. front_splits f.before each_before i ++ live f.words ∷ back_splits f.after each_after i)
        ∙ append_assoc (front_of f.before) l (live f.words ∷ (k ++ back_of f.after))
        ∙ ap (λ (z : List Block). front_of f.before ++ z) (sym (append_assoc l (live f.words ∷ k) (back_of f.after)))

    from_is : span.from ≡ zone_start + zone_size (front_of f.before)
    from_is = let from = f.from in let front = front_size f.before in omega (arith, from, front)

    many : span.end - span.from ≡ n
    many = let from = f.from in let end = f.end in omega (arith, from, end)

    end_is : span.end ≡ zone_start + zone_size (front_of f.before) + zone_size (l ++ live f.words ∷ k)
    end_is =
        let end = f.end in
        let front = front_size f.before in
        let both = size_of_both l (live f.words ∷ k) in
        let one = left_size (last_gap f.before) in
        let two = left_size (first_gap f.after) in
        omega (arith, end, front, both, one, two)

    r : NowHas top old new blocks
    r = other_blocks_stand_in_place top old new (front_of f.before) (l ++ live f.words ∷ k) (gap n ∷ []) (back_of f.after) t h zone
        (given_back_fills_the_zone top at (zone_in top old) blocks whole given)
        (words
        ∙ append_assoc (take span.from old) (block_words (gap (span.end - span.from))) (drop span.end old)
        ∙ (λ i. take (from_is i) old ++ (block_words (gap (many i)) ++ drop (end_is i) old))
        ∙ ap (λ (z : List ℕ). take (zone_start + zone_size (front_of f.before)) old ++ (z ++ drop (zone_start + zone_size (front_of f.before) + zone_size (l ++ live f.words ∷ k)) old)) (sym (append-nil (block_words (gap n)))))
