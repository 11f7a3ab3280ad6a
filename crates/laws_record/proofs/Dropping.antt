-- A file goes: its entry is kept no more.
use Rattle.std.proofs.Common.{◌&&◌, ◌++◌, ◌∙◌, ◌∷◌, ◌≡◌, Bool, List, [], ap, cond, false, not, refl, true}
use Rattle.std.specs.FinMap.{entries, from_entries, remove}
use Rattle.std.specs.List.{list_any}
use Rattle.pack_laws.specs.alto_words.specs.Fid.{fid_cmp, is_fid}
use Rattle.pack_laws.specs.alto_words.specs.declared.fid.Fid.{Fid}
use Rattle.pack_laws.specs.pack_model.specs.reading.Bodies.{Body, File, Files}
use Rattle.pack_laws.specs.pack_model.specs.reading.Bodies.Body.{data_of, items_of}
use Rattle.pack_laws.specs.pack_model.specs.sessions.Maps.{map_entries, map_values}
use Rattle.pack_laws.specs.pack_model.specs.reading.Namings.{AllKept, IsTidy, Naming, body_kept, body_namings, clashes, files_kept, fits, is_kept, items_kept, kept_after, kept_after_body, namings, namings_in, tidied}
use Rattle.pack_laws.specs.pack_model.specs.reading.Slots.{Item, item_words}
use Rattle.pack_laws.specs.pack_model.specs.reading.Slots.Item.{entry, space}
use Rattle.pack_laws.specs.pack_model.specs.operations.Step.{body_without, file_without, item_without, items_without}
use Rattle.laws_record.proofs.Tidying.{and_not, onto, or_false, or_false_left, or_false_right, split_kept}

-- entries of other files
abbrev pub others : Fid → List Naming → List Naming
others f [] = []
others f (e ∷ es) = cond (is_fid e.fid f) (others f es) (e ∷ others f es)

-- of two lists, those of each
pub others-append : (f : Fid) (a b : List Naming) → others f (a ++ b) ≡ others f a ++ others f b
others-append f [] b = refl
others-append f (x ∷ a) b = elim (is_fid x.fid f) as (λ c. cond c (others f (a ++ b)) (x ∷ others f (a ++ b)) ≡ cond c (others f a) (x ∷ others f a) ++ others f b) [
  | true ↦ others-append f a b
  | false ↦ ap (λ r. x ∷ r) (others-append f a b)
]

-- one file lives no more
abbrev pub gone : Fid → (Fid → Bool) → Fid → Bool
gone f lives g = cond (is_fid g f) false (lives g)

-- none of fewer passes a test
pub any_others : (t : Naming → Bool) (f : Fid) (es : List Naming) → list_any t es ≡ false → list_any t (others f es) ≡ false
any_others t f [] h = refl
any_others t f (e ∷ es) h =
    let rest = any_others t f es (or_false_right (t e) _ h) in
    elim (is_fid e.fid f) as (λ b. list_any t (cond b (others f es) (e ∷ others f es)) ≡ false) [ true ↦ rest | false ↦ or_false (t e) _ (or_false_left (t e) _ h) rest ]

-- a test the other way round
turn : (c : Bool) (x y : Item) (a b : List Naming) (g : List Naming → List Item) → cond (cond c false true) x y ∷ g (cond (cond c false true) a b) ≡ cond c y x ∷ g (cond c b a)
turn true x y a b g = refl
turn false x y a b g = refl

-- also of a list
turn_list : (c : Bool) (a b : List Naming) → cond (cond c false true) a b ≡ cond c b a
turn_list true a b = refl
turn_list false a b = refl

module _ (lives : Fid → Bool) (f : Fid) where
  -- an entry of the file isn't kept, and every other stays
  pub kept_other : (before : List Naming) (e : Naming) → is_kept lives before e ≡ true → is_kept (gone f lives) (others f before) e ≡ cond (is_fid e.fid f) false true
  kept_other before e h = elim (is_fid e.fid f) as (λ b. ((cond b false (lives e.fid) && fits e) && not (list_any (clashes e) (others f before))) ≡ cond b false true) [
    | true ↦ refl
    | false ↦ and_not (lives e.fid && fits e) _ _ h (any_others (clashes e) f before)
  ]

  -- slots, without the entries of the file
  items_other : (d : Fid) (before : List Naming) (is : List Item) → AllKept (is_kept lives) before (namings_in d is)
      → (items_kept (is_kept (gone f lives)) d (others f before) is ≡ items_without f is) × (kept_after (is_kept (gone f lives)) d (others f before) is ≡ others f (onto (namings_in d is) before))
  items_other d before [] h = (refl, refl)
  items_other d before (space n ∷ is) h = let r = items_other d before is h in (ap (λ x. space n ∷ x) r.0, r.1)
  items_other d before (entry g name ∷ is) h =
      let e : Naming = record { dir = d; name = name; fid = g } in
      let ok = is_kept (gone f lives) in
      let b : List Naming = others f before in
      let r = items_other d (e ∷ before) is h.1 in
      let k : ok b e ≡ cond (is_fid g f) false true = kept_other before e h.0 in
      let free : Item = space (item_words (entry g name)) in (
        ap (λ c. cond c (entry g name) free ∷ items_kept ok d (cond c (e ∷ b) b) is) k
            ∙ turn (is_fid g f) (entry g name) free (e ∷ b) b (λ x. items_kept ok d x is) ∙ ap (λ x. item_without f (entry g name) ∷ x) r.0,
        ap (λ c. kept_after ok d (cond c (e ∷ b) b) is) k ∙ ap (λ x. kept_after ok d x is) (turn_list (is_fid g f) (e ∷ b) b) ∙ r.1,
      )

  -- bodies
  bodies_other : (d : Fid) (before : List Naming) (b : Body) → AllKept (is_kept lives) before (body_namings d b)
      → (body_kept (is_kept (gone f lives)) d (others f before) b ≡ body_without f b) × (kept_after_body (is_kept (gone f lives)) d (others f before) b ≡ others f (onto (body_namings d b) before))
  bodies_other d before (data_of bytes) h = (refl, refl)
  bodies_other d before (items_of is) h = let r = items_other d before is h in (ap items_of r.0, r.1)

  -- all files
  pub files_other : (before : List Naming) (es : List (Fid × File)) → AllKept (is_kept lives) before (namings es) → files_kept (is_kept (gone f lives)) (others f before) es ≡ map_entries (file_without f) es
  files_other before [] h = refl
  files_other before (e ∷ es) h =
      let ok = is_kept (gone f lives) in
      let s = split_kept (is_kept lives) before (body_namings e.0 e.1.body) (namings es) h in
      let r = bodies_other e.0 before e.1.body s.0 in
      ap (λ b. (e.0, record { leader = e.1.leader; body = b }) ∷ files_kept ok (kept_after_body ok e.0 (others f before) e.1.body) es) r.0
      ∙ ap (λ k. (e.0, file_without f e.0 e.1) ∷ files_kept ok k es) r.1
      ∙ ap (λ r. (e.0, file_without f e.0 e.1) ∷ r) (files_other (onto (body_namings e.0 e.1.body) before) es s.1)

-- so the scan frees exactly the entries of the file
pub dropped_tidied : (lives : Fid → Bool) (f : Fid) (files : Files) → IsTidy lives (remove files f) → tidied (gone f lives) (remove files f) ≡ map_values (file_without f) (remove files f)
unfolding tidied map_values
dropped_tidied lives f files tidy = ap (from_entries {R = fid_cmp}) (files_other lives f [] (entries (remove files f)) tidy)
