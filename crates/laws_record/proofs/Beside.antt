-- An entry that clashes with none that is kept: the scan keeps every other entry as before.
use Rattle.std.proofs.Common.{◌&&◌, ◌++◌, ◌∙◌, ◌∷◌, ◌≡◌, Bool, List, [], ap, cond, false, not, refl, subst, sym, true}
use Rattle.std.specs.List.{list_any}
use Rattle.pack_laws.specs.alto_words.specs.declared.fid.Fid.{Fid}
use Rattle.pack_laws.specs.pack_model.specs.reading.Bodies.{Body, File}
use Rattle.pack_laws.specs.pack_model.specs.reading.Bodies.Body.{data_of, items_of}
use Rattle.pack_laws.specs.pack_model.specs.reading.Namings.{Naming, body_kept, body_namings, clashes, files_kept, is_kept, items_kept, kept_after, kept_after_body, may_stand, namings, namings_in}
use Rattle.pack_laws.specs.pack_model.specs.reading.Slots.{Item, item_words}
use Rattle.pack_laws.specs.pack_model.specs.reading.Slots.Item.{entry, space}
use Rattle.laws_record.proofs.Tidying.{NoneClashes, any_less, any_more, or_false, or_false_left, or_false_right}
use Rattle.laws_record.proofs.Unkept.{after_files}

-- none of two lists passes a test
pub any_first : (t : Naming → Bool) (a b : List Naming) → list_any t (a ++ b) ≡ false → list_any t a ≡ false
any_first t [] b h = refl
any_first t (x ∷ a) b h = or_false (t x) (list_any t a) (or_false_left (t x) _ h) (any_first t a b (or_false_right (t x) _ h))

-- nor of the second
pub any_second : (t : Naming → Bool) (a b : List Naming) → list_any t (a ++ b) ≡ false → list_any t b ≡ false
any_second t [] b h = h
any_second t (x ∷ a) b h = any_second t a b (or_false_right (t x) _ h)

module _ (v : Fid → Bool) (e : Naming) where
  -- another is kept beside it as without it
  beside_one : (s r : List Naming) (x : Naming) → (is_kept v (s ++ r) x ≡ true → clashes x e ≡ false) → is_kept v (s ++ e ∷ r) x ≡ is_kept v (s ++ r) x
  beside_one s r x apart = by (may_stand v x) (list_any (clashes x) (s ++ r)) refl refl
    where
      by : (m a : Bool) → may_stand v x ≡ m → list_any (clashes x) (s ++ r) ≡ a → is_kept v (s ++ e ∷ r) x ≡ is_kept v (s ++ r) x
      by false a may any = ap (λ t. t && not (list_any (clashes x) (s ++ e ∷ r))) may ∙ sym (ap (λ t. t && not (list_any (clashes x) (s ++ r))) may)
      by true true may any =
          ap (λ t. may_stand v x && not t) (more (list_any (clashes x) (s ++ e ∷ r)) refl) ∙ ap (λ t. may_stand v x && not t) (sym any)
        where
          more : (t : Bool) → list_any (clashes x) (s ++ e ∷ r) ≡ t → list_any (clashes x) (s ++ e ∷ r) ≡ true
          more true is = is
          more false is = absurd (let clash : true ≡ false = sym any ∙ any_less (clashes x) s e r is in cc)
      by true false may any =
          let kept : is_kept v (s ++ r) x ≡ true = (λ i. may i && not (any i)) in
          ap (λ t. may_stand v x && not t) (any_more (clashes x) s e r (apart kept) any) ∙ ap (λ t. may_stand v x && not t) (sym any)

  -- what a scan leaves with it and without it
  pub record Beside (r : List Naming) (A B : List Item) (S T : List Naming) : Type 0 where
    pub items : B ≡ A
    pub front : List Naming
    pub was : S ≡ front ++ r
    pub now : T ≡ front ++ e ∷ r

  -- slots
  pub items_beside : (d : Fid) (is : List Item) (s r : List Naming) → NoneClashes e (namings_in d (items_kept (is_kept v) d (s ++ r) is))
      → Beside r (items_kept (is_kept v) d (s ++ r) is) (items_kept (is_kept v) d (s ++ e ∷ r) is) (kept_after (is_kept v) d (s ++ r) is) (kept_after (is_kept v) d (s ++ e ∷ r) is)
  items_beside d [] s r none = record { items = refl; front = s; was = refl; now = refl }
  items_beside d (space n ∷ is) s r none = let b = items_beside d is s r none in record { items = ap (λ q. space n ∷ q) b.items; front = b.front; was = b.was; now = b.now }
  items_beside d (entry f name ∷ is) s r none =
      let x : Naming = record { dir = d; name = name; fid = f } in
      by (is_kept v (s ++ r) x) (is_kept v (s ++ e ∷ r) x) refl none
      (λ apart. beside_one s r x apart) (items_beside d is)
    where
      by : (t u : Bool) → is_kept v (s ++ r) (record { dir = d; name = name; fid = f }) ≡ t
          → NoneClashes e (namings_in d (cond t (entry f name) (space (item_words (entry f name))) ∷ items_kept (is_kept v) d (cond t (record { dir = d; name = name; fid = f } ∷ (s ++ r)) (s ++ r)) is))
          → ((is_kept v (s ++ r) (record { dir = d; name = name; fid = f }) ≡ true → clashes (record { dir = d; name = name; fid = f }) e ≡ false) → u ≡ is_kept v (s ++ r) (record { dir = d; name = name; fid = f }))
          → ((s r : List Naming) → NoneClashes e (namings_in d (items_kept (is_kept v) d (s ++ r) is)) → Beside r (items_kept (is_kept v) d (s ++ r) is) (items_kept (is_kept v) d (s ++ e ∷ r) is) (kept_after (is_kept v) d (s ++ r) is) (kept_after (is_kept v) d (s ++ e ∷ r) is))
          → Beside r (cond t (entry f name) (space (item_words (entry f name))) ∷ items_kept (is_kept v) d (cond t (record { dir = d; name = name; fid = f } ∷ (s ++ r)) (s ++ r)) is)
          (cond u (entry f name) (space (item_words (entry f name))) ∷ items_kept (is_kept v) d (cond u (record { dir = d; name = name; fid = f } ∷ (s ++ e ∷ r)) (s ++ e ∷ r)) is)
          (kept_after (is_kept v) d (cond t (record { dir = d; name = name; fid = f } ∷ (s ++ r)) (s ++ r)) is)
          (kept_after (is_kept v) d (cond u (record { dir = d; name = name; fid = f } ∷ (s ++ e ∷ r)) (s ++ e ∷ r)) is)
      by true true is_t none same again = let b = again (record { dir = d; name = name; fid = f } ∷ s) r none.1 in record { items = ap (λ q. entry f name ∷ q) b.items; front = b.front; was = b.was; now = b.now }
      by true false is_t none same again = absurd (let clash : false ≡ true = same (λ k. none.0) ∙ is_t in cc)
      by false true is_t none same again = absurd (let clash : true ≡ false = same (λ k. absurd (let c : true ≡ false = sym k ∙ is_t in cc)) ∙ is_t in cc)
      by false false is_t none same again = let b = again s r none in record { items = ap (λ q. space (item_words (entry f name)) ∷ q) b.items; front = b.front; was = b.was; now = b.now }

  -- none in two lists
  none_first : (a b : List Naming) → NoneClashes e (a ++ b) → NoneClashes e a
  none_first [] b h = Prim.tt
  none_first (x ∷ a) b h = (h.0, none_first a b h.1)

  -- nor in the second
  none_second : (a b : List Naming) → NoneClashes e (a ++ b) → NoneClashes e b
  none_second [] b h = h
  none_second (x ∷ a) b h = none_second a b h.1

  -- one body, and those after it
  pub files_beside : (es : List (Fid × File)) (s r : List Naming) → NoneClashes e (namings (files_kept (is_kept v) (s ++ r) es)) → files_kept (is_kept v) (s ++ e ∷ r) es ≡ files_kept (is_kept v) (s ++ r) es
  files_beside [] s r none = refl
  files_beside (x ∷ es) s r none = by (files_beside es) x.1.body none
    where
      by : ((s r : List Naming) → NoneClashes e (namings (files_kept (is_kept v) (s ++ r) es)) → files_kept (is_kept v) (s ++ e ∷ r) es ≡ files_kept (is_kept v) (s ++ r) es) → (body : Body) → NoneClashes e (body_namings x.0 (body_kept (is_kept v) x.0 (s ++ r) body) ++ namings (files_kept (is_kept v) (kept_after_body (is_kept v) x.0 (s ++ r) body) es))
          → (x.0, record { leader = x.1.leader; body = body_kept (is_kept v) x.0 (s ++ e ∷ r) body }) ∷ files_kept (is_kept v) (kept_after_body (is_kept v) x.0 (s ++ e ∷ r) body) es
          ≡ (x.0, record { leader = x.1.leader; body = body_kept (is_kept v) x.0 (s ++ r) body }) ∷ files_kept (is_kept v) (kept_after_body (is_kept v) x.0 (s ++ r) body) es
      by again (data_of bytes) none = ap (λ q. (x.0, record { leader = x.1.leader; body = data_of bytes }) ∷ q) (again s r none)
      by again (items_of is) none =
          let here : List Naming = namings_in x.0 (items_kept (is_kept v) x.0 (s ++ r) is) in
          let there : List Naming = namings (files_kept (is_kept v) (kept_after (is_kept v) x.0 (s ++ r) is) es) in
          let b = items_beside x.0 is s r (none_first here there none) in
          let rest : files_kept (is_kept v) (b.front ++ e ∷ r) es ≡ files_kept (is_kept v) (b.front ++ r) es = again b.front r (subst (λ k. NoneClashes e (namings (files_kept (is_kept v) k es))) b.was (none_second here there none)) in
          (λ i. (x.0, record { leader = x.1.leader; body = items_of (b.items i) }) ∷ files_kept (is_kept v) (b.now i) es)
          ∙ ap (λ q. (x.0, record { leader = x.1.leader; body = items_of (items_kept (is_kept v) x.0 (s ++ r) is) }) ∷ q) (rest ∙ ap (λ k. files_kept (is_kept v) k es) (sym b.was))

  -- ---- the entries kept so far
  -- none of them passes a test that none of those passes that are left
  pub items_clear : (t : Naming → Bool) (d : Fid) (is : List Item) (b : List Naming) → list_any t b ≡ false → list_any t (namings_in d (items_kept (is_kept v) d b is)) ≡ false → list_any t (kept_after (is_kept v) d b is) ≡ false
  items_clear t d [] b h none = h
  items_clear t d (space n ∷ is) b h none = items_clear t d is b h none
  items_clear t d (entry f name ∷ is) b h none = by (items_clear t d is) (is_kept v b (record { dir = d; name = name; fid = f })) none
    where
      by : ((b : List Naming) → list_any t b ≡ false → list_any t (namings_in d (items_kept (is_kept v) d b is)) ≡ false → list_any t (kept_after (is_kept v) d b is) ≡ false) → (k : Bool) → list_any t (namings_in d (cond k (entry f name) (space (item_words (entry f name))) ∷ items_kept (is_kept v) d (cond k (record { dir = d; name = name; fid = f } ∷ b) b) is)) ≡ false
          → list_any t (kept_after (is_kept v) d (cond k (record { dir = d; name = name; fid = f } ∷ b) b) is) ≡ false
      by again true none = again (record { dir = d; name = name; fid = f } ∷ b) (or_false (t (record { dir = d; name = name; fid = f })) (list_any t b) (or_false_left (t (record { dir = d; name = name; fid = f })) _ none) h) (or_false_right (t (record { dir = d; name = name; fid = f })) _ none)
      by again false none = again b h none

  -- also through files
  pub files_clear : (t : Naming → Bool) (es : List (Fid × File)) (b : List Naming) → list_any t b ≡ false → list_any t (namings (files_kept (is_kept v) b es)) ≡ false → list_any t (after_files (is_kept v) b es) ≡ false
  files_clear t [] b h none = h
  files_clear t (x ∷ es) b h none = by (files_clear t es) x.1.body none
    where
      by : ((b : List Naming) → list_any t b ≡ false → list_any t (namings (files_kept (is_kept v) b es)) ≡ false → list_any t (after_files (is_kept v) b es) ≡ false) → (body : Body) → list_any t (body_namings x.0 (body_kept (is_kept v) x.0 b body) ++ namings (files_kept (is_kept v) (kept_after_body (is_kept v) x.0 b body) es)) ≡ false → list_any t (after_files (is_kept v) (kept_after_body (is_kept v) x.0 b body) es) ≡ false
      by again (data_of bytes) none = again b h none
      by again (items_of is) none =
          let here : List Naming = namings_in x.0 (items_kept (is_kept v) x.0 b is) in
          let there : List Naming = namings (files_kept (is_kept v) (kept_after (is_kept v) x.0 b is) es) in
          again (kept_after (is_kept v) x.0 b is) (items_clear t x.0 is b h (any_first t here there none)) (any_second t here there none)
