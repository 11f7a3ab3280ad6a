-- A file is named where some directory has an entry of it.
use Rattle.std.proofs.Common.{◌++◌, ◌∙◌, ◌∷◌, ◌≡◌, ◌⊎◌, ◌||◌, Bool, List, Some, [], ap, false, inl, inr, refl, sym, true, ℕ}
use Rattle.std.proofs.lemmas.Bool.{or_right}
use Rattle.std.specs.FinMap.{entries, get}
use Rattle.std.specs.List.{list_any}
use Rattle.laws_room.specs.alto_words.specs.Fid.{is_fid}
use Rattle.laws_room.specs.alto_words.specs.declared.fid.Fid.{Fid}
use Rattle.laws_room.specs.pack_laws.proofs.Keys.{fid_same, fid_total, is_fid-itself}
use Rattle.pack_model.specs.reading.Bodies.{File, Files, body_items}
use Rattle.pack_model.specs.reading.Namings.{Naming, body_namings, namings, namings_in}
use Rattle.pack_model.specs.reading.Slots.{Item}
use Rattle.pack_model.specs.reading.Slots.Item.{entry, space}
use Rattle.laws_room.specs.laws_record.proofs.Around.{around}
use Rattle.laws_room.specs.laws_record.proofs.Entered.{namings-append, namings_in-append}
use Rattle.laws_room.proofs.Each.{Each, each_entry}
use Rattle.laws_room.specs.laws_operation.proofs.Dropped.{bodies_bare}

-- ---- some of several entries
-- of the first ones
pub any_first : (t : Naming → Bool) (a b : List Naming) → list_any t a ≡ true → list_any t (a ++ b) ≡ true
any_first t [] b h = cc
any_first t (x ∷ a) b h = by (t x) h (any_first t a b)
  where
    by : (c : Bool) → (c || list_any t a) ≡ true → (list_any t a ≡ true → list_any t (a ++ b) ≡ true) → (c || list_any t (a ++ b)) ≡ true
    by true h again = refl
    by false h again = again h

-- of the others
pub any_second : (t : Naming → Bool) (a b : List Naming) → list_any t b ≡ true → list_any t (a ++ b) ≡ true
any_second t [] b h = h
any_second t (x ∷ a) b h = or_right (t x) (list_any t (a ++ b)) (any_second t a b h)

-- of either
pub any_either : (t : Naming → Bool) (a b : List Naming) → list_any t (a ++ b) ≡ true → (list_any t a ≡ true) ⊎ (list_any t b ≡ true)
any_either t [] b h = inr h
any_either t (x ∷ a) b h = by (t x) h (any_either t a b)
  where
    by : (c : Bool) → (c || list_any t (a ++ b)) ≡ true → (list_any t (a ++ b) ≡ true → (list_any t a ≡ true) ⊎ (list_any t b ≡ true)) → ((c || list_any t a) ≡ true) ⊎ (list_any t b ≡ true)
    by true h again = inl refl
    by false h again = again h

-- one more between them
pub any_between : (t : Naming → Bool) (a b : List Naming) (x : Naming) → list_any t (a ++ b) ≡ true → list_any t (a ++ x ∷ b) ≡ true
any_between t a b x h = by (any_either t a b h)
  where
    by : (list_any t a ≡ true) ⊎ (list_any t b ≡ true) → list_any t (a ++ x ∷ b) ≡ true
    by (inl e) = any_first t a (x ∷ b) e
    by (inr e) = any_second t a (x ∷ b) (any_second t (x ∷ []) b e)

-- that one
pub any_here : (t : Naming → Bool) (a b : List Naming) (x : Naming) → t x ≡ true → list_any t (a ++ x ∷ b) ≡ true
any_here t a b x e = any_second t a (x ∷ b) (ap (λ c. c || list_any t b) e)

-- one that fails the test less
pub any_without : (t : Naming → Bool) (a b : List Naming) (x : Naming) → t x ≡ false → list_any t (a ++ x ∷ b) ≡ true → list_any t (a ++ b) ≡ true
any_without t a b x e h = by (any_either t a (x ∷ b) h)
  where
    by : (list_any t a ≡ true) ⊎ ((t x || list_any t b) ≡ true) → list_any t (a ++ b) ≡ true
    by (inl k) = any_first t a b k
    by (inr k) = any_second t a b (sym (ap (λ c. c || list_any t b) e) ∙ k)

-- ---- entries of one file
-- these slots have one
abbrev pub mentions : Fid → Fid → List Item → Bool
mentions q d is = list_any (λ n. is_fid n.fid q) (namings_in d is)

-- A directory that has one.
pub record Mentioned (files : Files) (q : Fid) : Type 0 where
  pub dir : Fid
  pub own : File
  pub there : get files dir ≡ Some own
  pub says : mentions q dir (body_items own.body) ≡ true

-- a named file has one in some directory
pub mentioned : (files : Files) (q : Fid) → list_any (λ n. is_fid n.fid q) (namings (entries files)) ≡ true → Mentioned files q
mentioned files q h = somewhere (entries files) (each_entry (λ k x. get files k ≡ Some x) files (λ k x is. is)) h
  where
    somewhere : (es : List (Fid × File)) → Each (λ k x. get files k ≡ Some x) es → list_any (λ n. is_fid n.fid q) (namings es) ≡ true → Mentioned files q
    somewhere [] found h = absurd cc
    somewhere (e ∷ es) found h = by (any_either (λ n. is_fid n.fid q) (body_namings e.0 e.1.body) (namings es) h) (somewhere es found.1)
      where
        by : (list_any (λ n. is_fid n.fid q) (body_namings e.0 e.1.body) ≡ true) ⊎ (list_any (λ n. is_fid n.fid q) (namings es) ≡ true) → (list_any (λ n. is_fid n.fid q) (namings es) ≡ true → Mentioned files q) → Mentioned files q
        by (inl here) again = record { dir = e.0; own = e.1; there = found.0; says = sym (ap (list_any (λ n. is_fid n.fid q)) (bodies_bare e.0 e.1.body)) ∙ here }
        by (inr later) again = again later

-- and such a file is named
pub named_there : (files : Files) (q : Fid) → Mentioned files q → list_any (λ n. is_fid n.fid q) (namings (entries files)) ≡ true
named_there files q h =
    let r = around fid_total fid_same files h.dir h.own h.there in
    let t : Naming → Bool = λ n. is_fid n.fid q in
    ap (λ es. list_any t (namings es)) r.was ∙ ap (list_any t) (namings-append r.front ((h.dir, h.own) ∷ r.back))
    ∙ any_second t (namings r.front) (body_namings h.dir h.own.body ++ namings r.back) (any_first t (body_namings h.dir h.own.body) (namings r.back) (ap (list_any t) (bodies_bare h.dir h.own.body) ∙ h.says))

-- ---- slots that change
-- a slot between others, by the entries before and after it
pub mentions_more : (q d : Fid) (a b : List Item) (f : Fid) (name : List ℕ) → list_any (λ n. is_fid n.fid q) (namings_in d a ++ namings_in d b) ≡ true → mentions q d (a ++ entry f name ∷ b) ≡ true
mentions_more q d a b f name h = ap (list_any (λ n. is_fid n.fid q)) (namings_in-append d a (entry f name ∷ b)) ∙ any_between (λ n. is_fid n.fid q) (namings_in d a) (namings_in d b) (record { dir = d; name = name; fid = f }) h

-- the entry itself
pub mentions_own : (d : Fid) (a b : List Item) (f : Fid) (name : List ℕ) → mentions f d (a ++ entry f name ∷ b) ≡ true
mentions_own d a b f name = ap (list_any (λ n. is_fid n.fid f)) (namings_in-append d a (entry f name ∷ b)) ∙ any_here (λ n. is_fid n.fid f) (namings_in d a) (namings_in d b) (record { dir = d; name = name; fid = f }) (is_fid-itself f)

-- another one goes
pub mentions_less : (q d : Fid) (a b : List Item) (f : Fid) (name : List ℕ) (k : ℕ) → is_fid f q ≡ false → mentions q d (a ++ entry f name ∷ b) ≡ true → mentions q d (a ++ space k ∷ b) ≡ true
mentions_less q d a b f name k other h =
    let t : Naming → Bool = λ n. is_fid n.fid q in
    ap (list_any t) (namings_in-append d a (space k ∷ b))
    ∙ any_without t (namings_in d a) (namings_in d b) (record { dir = d; name = name; fid = f }) other (sym (ap (list_any t) (namings_in-append d a (entry f name ∷ b))) ∙ h)
