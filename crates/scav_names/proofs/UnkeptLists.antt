-- Entries in order, and the first of them that isn't kept.
use Rattle.std.proofs.Common.{◌≡◌, ◌⊎◌, inl, inr, zero, suc, Bool, true, false, cond, List, [], ◌∷◌, ◌++◌, refl, sym, ap, subst, ◌∙◌, arith}
use Rattle.std.specs.Prelude.{All, Contains}
use Rattle.std.specs.Cmp.{tied_itself}
use Rattle.std.specs.declared.cmp.Ordering.TheVariants.{Less, Equal}
use Rattle.std.proofs.lemmas.List.Elements.{All-cons, All-contains, All-head, All-tail, Contains-append_cases, Contains-append_left, Contains-append_right}
use Rattle.alto_words.specs.declared.fid.Fid.{Fid}
use Rattle.alto_words.specs.Fid.{fid_cmp}
use Rattle.scav_pages.specs.pack_laws.proofs.Keys.{fid_total}
use Rattle.pack_model.specs.reading.Namings.{Naming, is_kept}
use Rattle.scav_names.specs.declared.placed.PlacedEntry.{PlacedEntry}
use Rattle.scav_names.specs.Catalogues.{naming_of}
use Rattle.scav_names.specs.Parting.{kept_among, kept_names_of, unkept_among}
use Rattle.scav_names.specs.Parts.{AreInOrder, StandsBefore}

-- ---- one of a list
pub in_front : {X : Type 0} (x : X) (xs : List X) (s : X) → Contains (x ∷ xs) s → (x ≡ s) ⊎ Contains xs s
in_front x xs s (zero, l, e) = inl e
in_front x xs s (suc k, l, e) = inr (k, omega (arith, l), e)

pub at_front : {X : Type 0} (x : X) (xs : List X) → Contains (x ∷ xs) x
at_front x xs = (zero, omega arith, refl)

pub after_front : {X : Type 0} (x : X) (xs : List X) (s : X) → Contains xs s → Contains (x ∷ xs) s
after_front x xs s (k, l, e) = (suc k, omega (arith, l), e)

-- one of those beside an entry
pub beside : (pre : List PlacedEntry) (e : PlacedEntry) (post : List PlacedEntry) (y : PlacedEntry) → Contains (pre ++ post) y → Contains (pre ++ e ∷ post) y
beside pre e post y h = elim (Contains-append_cases pre post y h) [
  | inl left ↦ Contains-append_left pre (e ∷ post) y left
  | inr right ↦ Contains-append_right pre (e ∷ post) y (after_front e post y right)
]

pub or_itself : (pre : List PlacedEntry) (e : PlacedEntry) (post : List PlacedEntry) (y : PlacedEntry) → Contains (pre ++ e ∷ post) y → (e ≡ y) ⊎ Contains (pre ++ post) y
or_itself pre e post y h = elim (Contains-append_cases pre (e ∷ post) y h) [
  | inl left ↦ inr (Contains-append_left pre post y left)
  | inr right ↦ elim (in_front e post y right) [ inl same ↦ inl same | inr more ↦ inr (Contains-append_right pre post y more) ]
]

-- ---- in order
before_once : (e f : PlacedEntry) → StandsBefore e f → StandsBefore f e → ⊥
before_once e f (inl a) (inl b) = (let t : fid_cmp e.dir e.dir ≡ Less = fid_total.trans e.dir f.dir e.dir a b in let tie : Less ≡ Equal = sym t ∙ tied_itself fid_total e.dir in cc)
before_once e f (inl a) (inr s) = (let t : fid_cmp e.dir e.dir ≡ Less = subst (λ d. fid_cmp e.dir d ≡ Less) s.0 a in let tie : Less ≡ Equal = sym t ∙ tied_itself fid_total e.dir in cc)
before_once e f (inr s) (inl b) = (let t : fid_cmp f.dir f.dir ≡ Less = subst (λ d. fid_cmp f.dir d ≡ Less) s.0 b in let tie : Less ≡ Equal = sym t ∙ tied_itself fid_total f.dir in cc)
before_once e f (inr s) (inr t) = (let a = s.1 in let b = t.1 in omega (arith, a, b))

not_before_itself : (e : PlacedEntry) → StandsBefore e e → ⊥
not_before_itself e h = before_once e e h h

-- lists in order with the same entries are the same
pub same_in_order : (xs ys : List PlacedEntry) → AreInOrder xs → AreInOrder ys → ((e : PlacedEntry) → Contains xs e → Contains ys e) → ((e : PlacedEntry) → Contains ys e → Contains xs e) → xs ≡ ys
same_in_order [] [] a b f g = refl
same_in_order [] (y ∷ ys) a b f g = absurd (let none = (g y (at_front y ys)).1 in omega (arith, none))
same_in_order (x ∷ xs) [] a b f g = absurd (let none = (f x (at_front x xs)).1 in omega (arith, none))
same_in_order (x ∷ xs) (y ∷ ys) a b f g =
    let first : x ≡ y = elim (in_front y ys x (f x (at_front x xs))) [
      | inl e ↦ sym e
      | inr later ↦ elim (in_front x xs y (g y (at_front y ys))) [
        | inl e ↦ e
        | inr more ↦ absurd (before_once y x (All-contains (StandsBefore y) ys x b.0 later) (All-contains (StandsBefore x) xs y a.0 more))
      ]
    ] in
    let rest : xs ≡ ys = same_in_order xs ys a.1 b.1
    (λ e h. elim (in_front y ys e (f e (after_front x xs e h))) [
      | inl same ↦ absurd (not_before_itself e (subst (λ z. StandsBefore z e) (first ∙ same) (All-contains (StandsBefore x) xs e a.0 h)))
      | inr more ↦ more
    ])
    (λ e h. elim (in_front x xs e (g e (after_front y ys e h))) [
      | inl same ↦ absurd (not_before_itself e (subst (λ z. StandsBefore z e) (sym first ∙ same) (All-contains (StandsBefore y) ys e b.0 h)))
      | inr more ↦ more
    ]) in
    λ i. first i ∷ rest i

-- without one of them
all_without : (P : PlacedEntry → Type 0) (pre : List PlacedEntry) (e : PlacedEntry) (post : List PlacedEntry) → All P (pre ++ e ∷ post) → All P (pre ++ post)
all_without P [] e post h = All-tail P e post h
all_without P (x ∷ pre) e post h = All-cons P x (pre ++ post) (All-head P x (pre ++ e ∷ post) h) (all_without P pre e post (All-tail P x (pre ++ e ∷ post) h))

pub order_without : (pre : List PlacedEntry) (e : PlacedEntry) (post : List PlacedEntry) → AreInOrder (pre ++ e ∷ post) → AreInOrder (pre ++ post)
order_without [] e post h = h.1
order_without (x ∷ pre) e post h = (all_without (StandsBefore x) pre e post h.0, order_without pre e post h.1)

-- it is there once
pub not_twice : (pre : List PlacedEntry) (e : PlacedEntry) (post : List PlacedEntry) → AreInOrder (pre ++ e ∷ post) → Contains (pre ++ post) e → ⊥
not_twice [] e post h c = not_before_itself e (All-contains (StandsBefore e) post e h.0 c)
not_twice (x ∷ pre) e post h c = elim (in_front x (pre ++ post) e c) [
  | inl same ↦ not_before_itself e (subst (λ z. StandsBefore z e) same (All-contains (StandsBefore x) (pre ++ e ∷ post) e h.0 (Contains-append_right pre (e ∷ post) e (at_front e post))))
  | inr more ↦ not_twice pre e post h.1 more
]

-- and no other stands where it stands
pub same_entry : (xs : List PlacedEntry) (e f : PlacedEntry) → AreInOrder xs → Contains xs e → Contains xs f → e.dir ≡ f.dir → e.place ≡ f.place → e ≡ f
same_entry [] e f h c d dir at = absurd (let none = c.1 in omega (arith, none))
same_entry (x ∷ xs) e f h c d dir at = elim (in_front x xs e c) [
  | inl a ↦ elim (in_front x xs f d) [
    | inl b ↦ sym a ∙ b
    | inr more ↦ absurd (apart e f dir at (subst (λ z. StandsBefore z f) a (All-contains (StandsBefore x) xs f h.0 more)))
  ]
  | inr more ↦ elim (in_front x xs f d) [
    | inl b ↦ absurd (apart f e (sym dir) (sym at) (subst (λ z. StandsBefore z e) b (All-contains (StandsBefore x) xs e h.0 more)))
    | inr then ↦ same_entry xs e f h.1 more then dir at
  ]
]
  where
    apart : (y z : PlacedEntry) → y.dir ≡ z.dir → y.place ≡ z.place → StandsBefore y z → ⊥
    apart y z dir at (inl less) = (let t : fid_cmp z.dir z.dir ≡ Less = subst (λ g. fid_cmp g z.dir ≡ Less) dir less in let tie : Less ≡ Equal = sym t ∙ tied_itself fid_total z.dir in cc)
    apart y z dir at (inr s) = (let l = s.1 in omega (arith, l, at))

-- so it has one list before it
pub same_prefix : (pre other : List PlacedEntry) (e : PlacedEntry) (post later : List PlacedEntry) → AreInOrder (pre ++ e ∷ post) → pre ++ e ∷ post ≡ other ++ e ∷ later → pre ≡ other
same_prefix [] [] e post later h same = refl
same_prefix [] (y ∷ other) e post later h same =
    let first : e ≡ y = cc in
    let rest : post ≡ other ++ e ∷ later = cc in
    absurd (not_before_itself e (All-contains (StandsBefore e) post e h.0 (subst (λ l. Contains l e) (sym rest) (Contains-append_right other (e ∷ later) e (at_front e later)))))
same_prefix (x ∷ pre) [] e post later h same =
    let first : x ≡ e = cc in
    absurd (not_before_itself e (subst (λ z. StandsBefore z e) first (All-contains (StandsBefore x) (pre ++ e ∷ post) e h.0 (Contains-append_right pre (e ∷ post) e (at_front e post)))))
same_prefix (x ∷ pre) (y ∷ other) e post later h same =
    let first : x ≡ y = cc in
    let rest : pre ++ e ∷ post ≡ other ++ e ∷ later = cc in
    let prefix = same_prefix pre other e post later h.1 rest in
    λ i. first i ∷ prefix i

-- ---- the first that isn't kept
-- The entries before it and those after it; without it the others are kept or not as they were.
pub record FirstUnkept (alive : Fid → Bool) (before : List Naming) (xs : List PlacedEntry) (e : PlacedEntry) (es : List PlacedEntry) : Type 0 where
  pub pre : List PlacedEntry
  pub post : List PlacedEntry
  pub are : xs ≡ pre ++ e ∷ post
  pub unkept : is_kept alive (kept_names_of alive before pre) (naming_of e) ≡ false
  pub left : unkept_among alive before (pre ++ post) ≡ es
  pub kept : kept_among alive before (pre ++ post) ≡ kept_among alive before xs

pub first_unkept : (alive : Fid → Bool) (before : List Naming) (xs : List PlacedEntry) (e : PlacedEntry) (es : List PlacedEntry) → unkept_among alive before xs ≡ e ∷ es → FirstUnkept alive before xs e es
first_unkept alive before [] e es h = absurd cc
first_unkept alive before (x ∷ xs) e es h = by (is_kept alive before (naming_of x)) refl h (λ g. first_unkept alive (naming_of x ∷ before) xs e es g)
  where
    by : (b : Bool) → is_kept alive before (naming_of x) ≡ b → cond b (unkept_among alive (naming_of x ∷ before) xs) (x ∷ unkept_among alive before xs) ≡ e ∷ es
        → (unkept_among alive (naming_of x ∷ before) xs ≡ e ∷ es → FirstUnkept alive (naming_of x ∷ before) xs e es) → FirstUnkept alive before (x ∷ xs) e es
    by true k g again =
        let r = again g in
        record {
          pre = x ∷ r.pre;
          post = r.post;
          are = ap (λ l. x ∷ l) r.are;
          unkept = ap (λ b. is_kept alive (kept_names_of alive (cond b (naming_of x ∷ before) before) r.pre) (naming_of e)) k ∙ r.unkept;
          left = ap (λ b. cond b (unkept_among alive (naming_of x ∷ before) (r.pre ++ r.post)) (x ∷ unkept_among alive before (r.pre ++ r.post))) k ∙ r.left;
          kept = ap (λ b. cond b (x ∷ kept_among alive (naming_of x ∷ before) (r.pre ++ r.post)) (kept_among alive before (r.pre ++ r.post))) k ∙ ap (λ l. x ∷ l) r.kept
              ∙ sym (ap (λ b. cond b (x ∷ kept_among alive (naming_of x ∷ before) xs) (kept_among alive before xs)) k);
        }
    by false k g again =
        let first : x ≡ e = cc in
        let rest : unkept_among alive before xs ≡ es = cc in
        record {
          pre = [];
          post = xs;
          are = ap (λ y. y ∷ xs) first;
          unkept = ap (λ y. is_kept alive before (naming_of y)) (sym first) ∙ k;
          left = rest;
          kept = sym (ap (λ b. cond b (x ∷ kept_among alive (naming_of x ∷ before) xs) (kept_among alive before xs)) k);
        }

-- those that aren't kept are in order
pub all_unkept : (P : PlacedEntry → Type 0) (alive : Fid → Bool) (before : List Naming) (xs : List PlacedEntry) → All P xs → All P (unkept_among alive before xs)
all_unkept P alive before [] h = h
all_unkept P alive before (x ∷ xs) h = by (is_kept alive before (naming_of x)) (all_unkept P alive (naming_of x ∷ before) xs (All-tail P x xs h)) (all_unkept P alive before xs (All-tail P x xs h))
  where
    by : (b : Bool) → All P (unkept_among alive (naming_of x ∷ before) xs) → All P (unkept_among alive before xs) → All P (cond b (unkept_among alive (naming_of x ∷ before) xs) (x ∷ unkept_among alive before xs))
    by true a b = a
    by false a b = All-cons P x (unkept_among alive before xs) (All-head P x xs h) b

pub unkept_order : (alive : Fid → Bool) (before : List Naming) (xs : List PlacedEntry) → AreInOrder xs → AreInOrder (unkept_among alive before xs)
unkept_order alive before [] h = tt
unkept_order alive before (x ∷ xs) h = by (is_kept alive before (naming_of x)) (unkept_order alive (naming_of x ∷ before) xs h.1) (unkept_order alive before xs h.1)
  where
    by : (b : Bool) → AreInOrder (unkept_among alive (naming_of x ∷ before) xs) → AreInOrder (unkept_among alive before xs) → AreInOrder (cond b (unkept_among alive (naming_of x ∷ before) xs) (x ∷ unkept_among alive before xs))
    by true a b = a
    by false a b = (all_unkept (StandsBefore x) alive before xs h.0, b)
