-- Tidy files: the scan changes nothing, and a slot may change.
use Rattle.std.proofs.Common.{◌&&◌, ◌++◌, ◌||◌, ◌∙◌, ◌∷◌, ◌≡◌, Bool, List, None, Option, Some, [], ap, cond, false, not, refl, sym, true}
use Rattle.std.specs.FinMap.{entries, find, get-entries, get-from_entries, same_map}
use Rattle.std.specs.List.{list_any}
use Rattle.std.specs.Option.{is_some, option_map}
use Rattle.pack_laws.specs.alto_words.specs.Fid.{fid_cmp}
use Rattle.pack_laws.specs.alto_words.specs.declared.fid.Fid.{Fid}
use Rattle.pack_laws.specs.pack_model.specs.reading.Bodies.{Body, File, Files}
use Rattle.pack_laws.specs.pack_model.specs.reading.Bodies.Body.{data_of, items_of}
use Rattle.pack_laws.specs.pack_model.specs.reading.Namings.{AllKept, IsTidy, Naming, body_kept, body_namings, clashes, files_kept, is_kept, items_kept, kept_after, kept_after_body, may_stand, namings, namings_in, tidied}
use Rattle.pack_laws.specs.pack_model.specs.reading.Slots.{Item, item_words}
use Rattle.pack_laws.specs.pack_model.specs.reading.Slots.Item.{entry, space}
use Rattle.pack_laws.proofs.Keys.{fid_same, fid_total}

-- what is kept, the newest first
abbrev pub onto : List Naming → List Naming → List Naming
onto [] before = before
onto (e ∷ es) before = onto es (e ∷ before)

module _ (ok : List Naming → Naming → Bool) where
  -- entries in two parts
  pub split_kept : (before : List Naming) (a b : List Naming) → AllKept ok before (a ++ b) → AllKept ok before a × AllKept ok (onto a before) b
  split_kept before [] b h = (tt, h)
  split_kept before (e ∷ a) b h = let r = split_kept (e ∷ before) a b h.1 in ((h.0, r.0), r.1)

  -- the scan leaves slots whose entries are all kept
  pub items_all_kept : (d : Fid) (before : List Naming) (is : List Item) → AllKept ok before (namings_in d is) → (items_kept ok d before is ≡ is) × (kept_after ok d before is ≡ onto (namings_in d is) before)
  items_all_kept d before [] h = (refl, refl)
  items_all_kept d before (space n ∷ is) h = let r = items_all_kept d before is h in (ap (λ x. space n ∷ x) r.0, r.1)
  items_all_kept d before (entry f name ∷ is) h =
      let e : Naming = record { dir = d; name = name; fid = f } in
      let r = items_all_kept d (e ∷ before) is h.1 in (
        ap (λ b. cond b (entry f name) (space (item_words (entry f name))) ∷ items_kept ok d (cond b (e ∷ before) before) is) h.0 ∙ ap (λ x. entry f name ∷ x) r.0,
        ap (λ b. kept_after ok d (cond b (e ∷ before) before) is) h.0 ∙ r.1,
      )

  -- so it does a body
  pub body_all_kept : (d : Fid) (before : List Naming) (b : Body) → AllKept ok before (body_namings d b) → (body_kept ok d before b ≡ b) × (kept_after_body ok d before b ≡ onto (body_namings d b) before)
  body_all_kept d before (data_of bytes) h = (refl, refl)
  body_all_kept d before (items_of is) h = let r = items_all_kept d before is h in (ap items_of r.0, r.1)

  -- and all files
  pub files_all_kept : (before : List Naming) (es : List (Fid × File)) → AllKept ok before (namings es) → files_kept ok before es ≡ es
  files_all_kept before [] h = refl
  files_all_kept before (e ∷ es) h =
      let s = split_kept before (body_namings e.0 e.1.body) (namings es) h in
      let r = body_all_kept e.0 before e.1.body s.0 in
      ap (λ b. (e.0, record { leader = e.1.leader; body = b }) ∷ files_kept ok (kept_after_body ok e.0 before e.1.body) es) r.0
      ∙ ap (λ k. e ∷ files_kept ok k es) r.1
      ∙ ap (λ r. e ∷ r) (files_all_kept (onto (body_namings e.0 e.1.body) before) es s.1)

-- so it changes nothing in tidy files
pub tidy_same : (lives : Fid → Bool) (files : Files) → IsTidy lives files → tidied lives files ≡ files
unfolding tidied
tidy_same lives files h = same_map fid_total fid_same _ _ (λ g.
    get-from_entries fid_total _ g ∙ ap (λ es. find fid_cmp g es) (files_all_kept (is_kept lives) [] (entries files) h) ∙ sym (get-entries files g))

-- ---- an answer made from another
-- it is there where that is
pub some_map : {X Y : Type 0} (g : X → Y) (r : Option X) → is_some (option_map g r) ≡ is_some r
some_map g None = refl
some_map g (Some x) = refl

-- ---- one entry less, or one more
pub or_false_left : (a b : Bool) → (a || b) ≡ false → a ≡ false
or_false_left false b e = refl
or_false_left true b e = cc

-- nor the second
pub or_false_right : (a b : Bool) → (a || b) ≡ false → b ≡ false
or_false_right false b e = e
or_false_right true b e = cc

-- neither of both
pub or_false : (a b : Bool) → a ≡ false → b ≡ false → (a || b) ≡ false
or_false a b p q = ap (λ x. x || b) p ∙ q

-- the second of two tests fails too
pub and_not : (a b c : Bool) → (a && not b) ≡ true → (b ≡ false → c ≡ false) → (a && not c) ≡ true
and_not a b c h f = both a b h f
  where
    both : (a b : Bool) → (a && not b) ≡ true → (b ≡ false → c ≡ false) → (a && not c) ≡ true
    both true false h f = ap not (f refl)
    both true true h f = cc
    both false b h f = cc

-- one fewer passes no test either
pub any_less : (t : Naming → Bool) (s : List Naming) (e : Naming) (r : List Naming) → list_any t (s ++ e ∷ r) ≡ false → list_any t (s ++ r) ≡ false
any_less t [] e r h = or_false_right (t e) (list_any t r) h
any_less t (x ∷ s) e r h = or_false (t x) _ (or_false_left (t x) _ h) (any_less t s e r (or_false_right (t x) _ h))

-- one more that fails it passes no test either
pub any_more : (t : Naming → Bool) (s : List Naming) (e : Naming) (r : List Naming) → t e ≡ false → list_any t (s ++ r) ≡ false → list_any t (s ++ e ∷ r) ≡ false
any_more t [] e r n h = or_false (t e) _ n h
any_more t (x ∷ s) e r n h = or_false (t x) _ (or_false_left (t x) _ h) (any_more t s e r n (or_false_right (t x) _ h))

-- none of these clashes with e
abbrev pub NoneClashes : Naming → List Naming → Type 0
NoneClashes e [] = Unit {0}
NoneClashes e (x ∷ es) = (clashes x e ≡ false) × NoneClashes e es

module _ (live : Fid → Bool) where
  -- entries are kept beside fewer
  pub still_kept : (s : List Naming) (e : Naming) (r es : List Naming) → AllKept (is_kept live) (s ++ e ∷ r) es → AllKept (is_kept live) (s ++ r) es
  still_kept s e r [] h = tt
  still_kept s e r (x ∷ es) h = (and_not (may_stand live x) _ _ h.0 (any_less (clashes x) s e r), still_kept (x ∷ s) e r es h.1)

  -- an entry less
  pub remove_kept : (before a : List Naming) (e : Naming) (b : List Naming) → AllKept (is_kept live) before (a ++ e ∷ b) → AllKept (is_kept live) before (a ++ b)
  remove_kept before [] e b h = still_kept [] e before b h.1
  remove_kept before (x ∷ a) e b h = (h.0, remove_kept (x ∷ before) a e b h.1)
