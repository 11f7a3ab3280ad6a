-- The entries that the one scan of all directories keeps, as one list.
use Rattle.std.proofs.Common.{◌≡◌, Bool, true, false, cond, List, [], ◌∷◌, ◌++◌, refl, sym, ap, ◌∙◌}
use Rattle.alto_words.specs.declared.fid.Fid.{Fid}
use Rattle.pack_model.specs.reading.Slots.{Item, item_words}
use Rattle.pack_model.specs.reading.Slots.Item.{space, entry}
use Rattle.pack_model.specs.reading.Bodies.{Body, File}
use Rattle.pack_model.specs.reading.Bodies.Body.{data_of, items_of}
use Rattle.pack_model.specs.reading.Namings.{Naming, files_kept, body_kept, kept_after_body, kept_after, items_kept, namings, namings_in, body_namings}

module _ (ok : List Naming → Naming → Bool) where
  -- those that are kept beside these before them
  abbrev pub scanned : List Naming → List Naming → List Naming
  scanned before [] = []
  scanned before (n ∷ ns) = cond (ok before n) (n ∷ scanned (n ∷ before) ns) (scanned before ns)

  -- and all that are kept once they are passed, the last one first
  abbrev pub after : List Naming → List Naming → List Naming
  after before [] = before
  after before (n ∷ ns) = after (cond (ok before n) (n ∷ before) before) ns

  scanned-append : (before xs ys : List Naming) → scanned before (xs ++ ys) ≡ scanned before xs ++ scanned (after before xs) ys
  scanned-append before [] ys = refl
  scanned-append before (x ∷ xs) ys = elim (ok before x) as (λ b. cond b (x ∷ scanned (x ∷ before) (xs ++ ys)) (scanned before (xs ++ ys)) ≡ cond b (x ∷ scanned (x ∷ before) xs) (scanned before xs) ++ scanned (after (cond b (x ∷ before) before) xs) ys) [
    | true ↦ ap (λ l. x ∷ l) (scanned-append (x ∷ before) xs ys)
    | false ↦ scanned-append before xs ys
  ]

  -- the slots of a directory
  items_scanned : (d : Fid) (before : List Naming) (is : List Item) → namings_in d (items_kept ok d before is) ≡ scanned before (namings_in d is)
  items_scanned d before [] = refl
  items_scanned d before (space n ∷ is) = items_scanned d before is
  items_scanned d before (entry f name ∷ is) =
      let n : Naming = record { dir = d; name = name; fid = f } in
      elim (ok before n) as (λ b. namings_in d (cond b (entry f name) (space (item_words (entry f name))) ∷ items_kept ok d (cond b (n ∷ before) before) is) ≡ cond b (n ∷ scanned (n ∷ before) (namings_in d is)) (scanned before (namings_in d is))) [
        | true ↦ ap (λ l. n ∷ l) (items_scanned d (n ∷ before) is)
        | false ↦ items_scanned d before is
      ]

  items_after : (d : Fid) (before : List Naming) (is : List Item) → kept_after ok d before is ≡ after before (namings_in d is)
  items_after d before [] = refl
  items_after d before (space n ∷ is) = items_after d before is
  items_after d before (entry f name ∷ is) = items_after d (cond (ok before (record { dir = d; name = name; fid = f })) (record { dir = d; name = name; fid = f } ∷ before) before) is

  body_scanned : (d : Fid) (before : List Naming) (b : Body) → body_namings d (body_kept ok d before b) ≡ scanned before (body_namings d b)
  body_scanned d before (data_of bytes) = refl
  body_scanned d before (items_of is) = items_scanned d before is

  body_after : (d : Fid) (before : List Naming) (b : Body) → kept_after_body ok d before b ≡ after before (body_namings d b)
  body_after d before (data_of bytes) = refl
  body_after d before (items_of is) = items_after d before is

  -- all directories
  pub files_scanned : (before : List Naming) (es : List (Fid × File)) → namings (files_kept ok before es) ≡ scanned before (namings es)
  files_scanned before [] = refl
  files_scanned before (e ∷ es) =
      (λ i. body_scanned e.0 before e.1.body i ++ files_scanned (kept_after_body ok e.0 before e.1.body) es i)
      ∙ ap (λ b. scanned before (body_namings e.0 e.1.body) ++ scanned b (namings es)) (body_after e.0 before e.1.body)
      ∙ sym (scanned-append before (body_namings e.0 e.1.body) (namings es))
