-- The room for an entry, and free slots made one in it: it is the first room before and after.
use Rattle.std.proofs.Common.{Bool, List, None, Option, Some, [], ap, arith, cond, false, leb-false, leb-true, length, refl, suc, sym, true, ℕ, ◌++◌, ◌+◌, ◌-◌, ◌∙◌, ◌∷◌, ◌≡◌, ◌≤◌}
use Rattle.std.proofs.lemmas.List.{length-append}
use Rattle.std.specs.Option.{option_map, option_or}
use Rattle.std.specs.Prelude.{nat_le}
use Rattle.laws_contents.specs.alto_words.specs.declared.fid.Fid.{Fid}
use Rattle.laws_contents.specs.pack_model.specs.reading.Namings.{namings_in}
use Rattle.laws_contents.specs.pack_model.specs.operations.Rooms.{Room, in_run, left_over, most_free, placed, room_from, room_here, run}
use Rattle.laws_contents.specs.pack_model.specs.reading.Slots.{Item, all_words, item_words}
use Rattle.laws_contents.specs.pack_model.specs.reading.Slots.Item.{entry, space}

-- ---- runs
-- fewer words have a run where more have one, and it isn't longer
pub record ShorterRun (m t : ℕ) (xs : List Item) : Type 0 where
  pub words : ℕ
  pub rest_of : List Item
  pub is : run m xs ≡ Some (words, rest_of)
  pub less : words ≤ t

-- so it is
pub shorter_run : (m n : ℕ) (xs : List Item) (t : ℕ) (b : List Item) → m ≤ n → run n xs ≡ Some (t, b) → ShorterRun m t xs
shorter_run m n [] t b l e = absurd cc
shorter_run m n (entry f name ∷ xs) t b l e = absurd cc
shorter_run m n (space k ∷ xs) t b l e = by (nat_le m k) (nat_le n k) refl refl (run (n - k) xs) refl e (λ t b q. shorter_run (m - k) (n - k) xs t b (omega arith) q)
  where
    by : (x y : Bool) → nat_le m k ≡ x → nat_le n k ≡ y → (q : Option (ℕ × List Item)) → run (n - k) xs ≡ q → cond {A = Option (ℕ × List Item)} y (Some (k, xs)) (option_map (λ r. (k + r.0, r.1)) q) ≡ Some (t, b) → ((t : ℕ) (b : List Item) → run (n - k) xs ≡ Some (t, b) → ShorterRun (m - k) t xs) → ShorterRun m t (space k ∷ xs)
    by true true x y q is e again = let same : ◌≡◌ {A = ℕ × List Item} (k, xs) (t, b) = cc in let z : k ≡ t = ap (λ r. r.0) same in record { words = k; rest_of = xs; is = ap (λ c. cond {A = Option (ℕ × List Item)} c (Some (k, xs)) (option_map (λ r. (k + r.0, r.1)) (run (m - k) xs))) x; less = omega arith }
    by true false x y None is e again = absurd cc
    by true false x y (Some q) is e again = let same : ◌≡◌ {A = ℕ × List Item} (k + q.0, q.1) (t, b) = cc in let z : k + q.0 ≡ t = ap (λ r. r.0) same in record { words = k; rest_of = xs; is = ap (λ c. cond {A = Option (ℕ × List Item)} c (Some (k, xs)) (option_map (λ r. (k + r.0, r.1)) (run (m - k) xs))) x; less = omega arith }
    by false true x y q is e again = absurd (let u = leb-false m k x in let v = leb-true n k y in omega arith)
    by false false x y None is e again = absurd cc
    by false false x y (Some q) is e again =
        let same : ◌≡◌ {A = ℕ × List Item} (k + q.0, q.1) (t, b) = cc in
        let z : k + q.0 ≡ t = ap (λ r. r.0) same in
        let s = again q.0 q.1 is in
        let l = s.less in
        record {
          words = k + s.words;
          rest_of = s.rest_of;
          is = ap (λ c. cond {A = Option (ℕ × List Item)} c (Some (k, xs)) (option_map (λ r. (k + r.0, r.1)) (run (m - k) xs))) x ∙ ap (option_map (λ r. (k + r.0, r.1))) s.is;
          less = omega arith;
        }

-- a run of all these slots has no entry among them
pub run_bare : (d : Fid) (n : ℕ) (old b : List Item) (t : ℕ) → run n (old ++ b) ≡ Some (t, b) → namings_in d old ≡ []
run_bare d n [] b t e = refl
run_bare d n (entry f name ∷ old) b t e = absurd cc
run_bare d n (space k ∷ old) b t e = by (nat_le n k) (run (n - k) (old ++ b)) refl e (λ t q. run_bare d (n - k) old b t q)
  where
    none_left : (xs : List Item) → length (xs ++ b) ≡ length b → xs ≡ []
    none_left [] e = refl
    none_left (x ∷ xs) e = absurd (let l = length-append xs b in omega (arith, e, l))

    by : (x : Bool) (q : Option (ℕ × List Item)) → run (n - k) (old ++ b) ≡ q → cond {A = Option (ℕ × List Item)} x (Some (k, old ++ b)) (option_map (λ r. (k + r.0, r.1)) q) ≡ Some (t, b) → ((t : ℕ) → run (n - k) (old ++ b) ≡ Some (t, b) → namings_in d old ≡ []) → namings_in d old ≡ []
    by true q is e again = let same : ◌≡◌ {A = ℕ × List Item} (k, old ++ b) (t, b) = cc in ap (namings_in d) (none_left old (ap (λ r. length r.1) same))
    by false None is e again = absurd cc
    by false (Some q) is e again = let same : ◌≡◌ {A = ℕ × List Item} (k + q.0, q.1) (t, b) = cc in again q.0 (is ∙ (λ i. Some (q.0, (same i).1)))

-- ---- earlier starts that fail
-- each run from here on has too many words
abbrev pub Fails : ℕ → List Item → Type 0
Fails n is = (r : ℕ × List Item) → run n is ≡ Some r → nat_le r.0 most_free ≡ false

-- from each of these slots on
abbrev pub FailsAll : ℕ → List Item → List Item → Type 0
FailsAll n [] tail = Unit {0}
FailsAll n (i ∷ a) tail = Fails n (i ∷ (a ++ tail)) × FailsAll n a tail

-- the first room stands after starts that fail
pub room_after : (n first place : ℕ) (a tail : List Item) (r : Room) → room_from n first place (a ++ tail) ≡ Some r → r.first ≡ first + length a → FailsAll n a tail × (room_from n (first + length a) (place + all_words a) tail ≡ Some r)
room_after n first place [] tail r e at = (tt, (let x : first + 0 ≡ first = omega arith in let y : place + 0 ≡ place = omega arith in (λ i. room_from n (x i) (y i) tail) ∙ e))
room_after n first place (j ∷ a) tail r e at = by (run n (j ∷ (a ++ tail))) refl e (λ e. room_after n (suc first) (place + item_words j) a tail r e (omega (arith, at)))
  where
    later : FailsAll n a tail × (room_from n (suc first + length a) (place + item_words j + all_words a) tail ≡ Some r) → Fails n (j ∷ (a ++ tail)) → FailsAll n (j ∷ a) tail × (room_from n (first + length (j ∷ a)) (place + all_words (j ∷ a)) tail ≡ Some r)
    later h fails =
        let x : first + suc (length a) ≡ suc first + length a = omega arith in
        let y : place + (item_words j + all_words a) ≡ place + item_words j + all_words a = omega arith in
        ((fails, h.0), (λ i. room_from n (x i) (y i) tail) ∙ h.1)

    tried : (t : Bool) (q : ℕ × List Item) → run n (j ∷ (a ++ tail)) ≡ Some q → nat_le q.0 most_free ≡ t → option_or (cond t (Some (record { first = first; place = place; total = q.0 })) None) (room_from n (suc first) (place + item_words j) (a ++ tail)) ≡ Some r
        → (room_from n (suc first) (place + item_words j) (a ++ tail) ≡ Some r → FailsAll n a tail × (room_from n (suc first + length a) (place + item_words j + all_words a) tail ≡ Some r)) → FailsAll n (j ∷ a) tail × (room_from n (first + length (j ∷ a)) (place + all_words (j ∷ a)) tail ≡ Some r)
    tried true q is test e again = absurd (let same : ◌≡◌ {A = Room} (record { first = first; place = place; total = q.0 }) r = cc in let f : first ≡ r.first = ap (λ x. x.first) same in omega (arith, at, f))
    tried false q is test e again = later (again e) (λ s z. let same : ◌≡◌ {A = ℕ × List Item} s q = (let both : Some s ≡ Some q = sym z ∙ is in cc) in ap (λ x. nat_le x.0 most_free) same ∙ test)

    by : (q : Option (ℕ × List Item)) → run n (j ∷ (a ++ tail)) ≡ q → option_or (room_here first place q) (room_from n (suc first) (place + item_words j) (a ++ tail)) ≡ Some r
        → (room_from n (suc first) (place + item_words j) (a ++ tail) ≡ Some r → FailsAll n a tail × (room_from n (suc first + length a) (place + item_words j + all_words a) tail ≡ Some r)) → FailsAll n (j ∷ a) tail × (room_from n (first + length (j ∷ a)) (place + all_words (j ∷ a)) tail ≡ Some r)
    by None is e again = later (again e) (λ s z. let both : None ≡ Some s = sym is ∙ z in absurd cc)
    by (Some q) is e again = tried (nat_le q.0 most_free) q is refl e again

-- and after them it is found, and an entry is placed
pub room_past : (n first place : ℕ) (a tail : List Item) → FailsAll n a tail → room_from n first place (a ++ tail) ≡ room_from n (first + length a) (place + all_words a) tail
room_past n first place [] tail h = let x : first ≡ first + 0 = omega arith in let y : place ≡ place + 0 = omega arith in (λ i. room_from n (x i) (y i) tail)
room_past n first place (j ∷ a) tail h =
    let x : suc first + length a ≡ first + suc (length a) = omega arith in
    let y : place + item_words j + all_words a ≡ place + (item_words j + all_words a) = omega arith in
    by (run n (j ∷ (a ++ tail))) refl ∙ room_past n (suc first) (place + item_words j) a tail h.1 ∙ (λ i. room_from n (x i) (y i) tail)
  where
    by : (q : Option (ℕ × List Item)) → run n (j ∷ (a ++ tail)) ≡ q → option_or (room_here first place (run n (j ∷ (a ++ tail)))) (room_from n (suc first) (place + item_words j) (a ++ tail)) ≡ room_from n (suc first) (place + item_words j) (a ++ tail)
    by None is = ap (λ q. option_or (room_here first place q) (room_from n (suc first) (place + item_words j) (a ++ tail))) is
    by (Some q) is = ap (λ q. option_or (room_here first place q) (room_from n (suc first) (place + item_words j) (a ++ tail))) is ∙ ap (λ t. option_or (cond t (Some (record { first = first; place = place; total = q.0 })) None) (room_from n (suc first) (place + item_words j) (a ++ tail))) (h.0 q is)

-- an entry too
pub placed_past : (i : Item) (a tail : List Item) → FailsAll (item_words i) a tail → placed i (a ++ tail) ≡ option_map (λ ks. a ++ ks) (placed i tail)
unfolding placed
placed_past i [] tail h = same (placed i tail)
  where
    same : (q : Option (List Item)) → q ≡ option_map (λ ks. ks) q
    same None = refl
    same (Some x) = refl
placed_past i (j ∷ a) tail h = by (run (item_words i) (j ∷ (a ++ tail))) refl ∙ ap (option_map (λ ks. j ∷ ks)) (placed_past i a tail h.1) ∙ twice (placed i tail)
  where
    twice : (q : Option (List Item)) → option_map (λ ks. j ∷ ks) (option_map (λ ks. a ++ ks) q) ≡ option_map (λ ks. j ∷ (a ++ ks)) q
    twice None = refl
    twice (Some x) = refl

    by : (q : Option (ℕ × List Item)) → run (item_words i) (j ∷ (a ++ tail)) ≡ q → option_or (in_run i (run (item_words i) (j ∷ (a ++ tail)))) (option_map (λ ks. j ∷ ks) (placed i (a ++ tail))) ≡ option_map (λ ks. j ∷ ks) (placed i (a ++ tail))
    by None is = ap (λ q. option_or (in_run i q) (option_map (λ ks. j ∷ ks) (placed i (a ++ tail)))) is
    by (Some q) is = ap (λ q. option_or (in_run i q) (option_map (λ ks. j ∷ ks) (placed i (a ++ tail)))) is ∙ ap (λ t. option_or (cond t (Some (i ∷ left_over (q.0 - item_words i) q.1)) None) (option_map (λ ks. j ∷ ks) (placed i (a ++ tail)))) (h.0 q is)
