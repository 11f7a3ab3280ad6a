-- A slot whose entry isn't kept, on any pack.
use Rattle.std.proofs.Common.{◌++◌, ◌∷◌, ◌≡◌, Bool, List, [], ap, cond, false, refl, ℕ}
use Rattle.pack_laws.specs.alto_words.specs.declared.fid.Fid.{Fid}
use Rattle.pack_laws.specs.pack_model.specs.reading.Bodies.{File}
use Rattle.pack_laws.specs.pack_model.specs.reading.Namings.{Naming, body_kept, files_kept, item_kept, items_kept, kept_after, kept_after_body, kept_by}
use Rattle.pack_laws.specs.pack_model.specs.reading.Slots.{Item, item_words}
use Rattle.pack_laws.specs.pack_model.specs.reading.Slots.Item.{entry, space}

-- the entries kept once these files are passed
abbrev pub after_files : (List Naming → Naming → Bool) → List Naming → List (Fid × File) → List Naming
after_files ok before [] = before
after_files ok before (e ∷ es) = after_files ok (kept_after_body ok e.0 before e.1.body) es

module _ (ok : List Naming → Naming → Bool) where
  -- files one after another
  pub files_kept-append : (before : List Naming) (a b : List (Fid × File)) → files_kept ok before (a ++ b) ≡ files_kept ok before a ++ files_kept ok (after_files ok before a) b
  files_kept-append before [] b = refl
  files_kept-append before (e ∷ a) b = ap (λ r. (e.0, record { leader = e.1.leader; body = body_kept ok e.0 before e.1.body }) ∷ r) (files_kept-append (kept_after_body ok e.0 before e.1.body) a b)

  -- an entry that isn't kept is as good as free words
  pub unkept_items : (d : Fid) (before : List Naming) (a b : List Item) (f : Fid) (name : List ℕ) → ok (kept_after ok d before a) (record { dir = d; name = name; fid = f }) ≡ false
      → (items_kept ok d before (a ++ entry f name ∷ b) ≡ items_kept ok d before (a ++ space (item_words (entry f name)) ∷ b)) × (kept_after ok d before (a ++ entry f name ∷ b) ≡ kept_after ok d before (a ++ space (item_words (entry f name)) ∷ b))
  unkept_items d before [] b f name e =
      let n : Naming = record { dir = d; name = name; fid = f } in
      (ap (λ c. cond c (entry f name) (space (item_words (entry f name))) ∷ items_kept ok d (cond c (n ∷ before) before) b) e, ap (λ c. kept_after ok d (cond c (n ∷ before) before) b) e)
  unkept_items d before (x ∷ a) b f name e = let r = unkept_items d (kept_by ok d before x) a b f name e in (ap (λ q. item_kept ok d before x ∷ q) r.0, r.1)
