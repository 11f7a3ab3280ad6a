use Rattle.std.proofs.Common.{rules, ◌≡◌, ◌<◌, ◌≤◌, length, take, drop, ℕ, suc, ◌-◌, ◌∷◌, ◌++◌, slice_set, refl, sym, ap, ◌∙◌, arith}
use Rattle.std.proofs.lemmas.List.{take_all}
use Rattle.std.proofs.lemmas.List.Sorted.{IsPartitionPoint-from_clause, IsPartitionedBy-ltb}
use Rattle.scav_table.specs.Rows.{rank, is_below}
use Rattle.scav_table.proofs.Placing.{placed_at, in_place, front_stays, length_from}
use Rattle.scav_table.proofs.insert.insert.Goals as goal

pub returns-then-place-window : goal.returns-then-place-window
returns-then-place-window c =
    let xs = c.args.window.now in
    let i = c.partition_point-place.result in
    let point = IsPartitionPoint-from_clause (λ x. is_below x c.args.row) xs i c.partition_point-place.ensures.partitioned (IsPartitionedBy-ltb rank xs (rank c.args.row) c.requires) (λ a r f' k. search rules) in
    let less : i < length xs = c.if-place-window.true in
    let at = placed_at c.args.row xs i (omega arith) (λ k d l. point.0 k d (omega arith) l) (λ d l. point.1 i d (omega arith) l) in
    let n : ℕ = length xs - i - 1 in
    let more : length xs - i ≡ suc n = omega arith in
    let back : length (take (length xs - i) (drop i xs)) - 1 ≡ n = let h : length (take (length xs - i) (drop i xs)) ≡ length xs - i = length_from i xs in omega arith in
    ap (λ ys. slice_set (take i xs ++ (ys ++ drop (length xs - i) (drop i xs))) i c.args.row) (c.rotate_right.ensures.after ∙ ap (λ k. drop k (take (length xs - i) (drop i xs)) ++ take k (take (length xs - i) (drop i xs))) back)
    ∙ ap (λ m. slice_set (take i xs ++ ((drop n (take m (drop i xs)) ++ take n (take m (drop i xs))) ++ drop m (drop i xs))) i c.args.row) more
    ∙ in_place c.args.row i n (length xs) xs refl (omega arith) ∙ ap (take (length xs)) (sym at)

pub returns-else-place-window : goal.returns-else-place-window
returns-else-place-window c =
    let xs = c.args.window.now in
    let i = c.partition_point-place.result in
    let point = IsPartitionPoint-from_clause (λ x. is_below x c.args.row) xs i c.partition_point-place.ensures.partitioned (IsPartitionedBy-ltb rank xs (rank c.args.row) c.requires) (λ a r f' k. search rules) in
    let no_less : length xs ≤ i = c.if-place-window.false in
    let at = placed_at c.args.row xs (length xs) (omega arith) (λ k d l. point.0 k d (omega arith) (omega arith)) (λ d l. absurd (omega arith)) in
    sym (ap (take (length xs)) (at ∙ ap (λ ys. ys ++ c.args.row ∷ drop (length xs) xs) (take_all (length xs) xs (omega arith))) ∙ front_stays xs (c.args.row ∷ drop (length xs) xs))
