-- A system file comes alive: what is shown stays, on any pack. (As Alive, for either system file.)
use Rattle.std.proofs.Common.{◌&&◌, ◌++◌, ◌||◌, ◌∙◌, ◌∷◌, ◌≡◌, Bool, List, [], ap, cond, false, not, refl, subst, sym, true, ℕ}
use Rattle.std.specs.List.{list_any}
use Rattle.pack_laws.specs.alto_words.specs.Fid.{is_fid, sys_dir}
use Rattle.pack_laws.specs.alto_words.specs.Names.{is_same_name}
use Rattle.pack_laws.specs.alto_words.specs.declared.fid.Fid.{Fid}
use Rattle.pack_laws.specs.pack_model.specs.reading.Bodies.{Body, File}
use Rattle.pack_laws.specs.pack_model.specs.reading.Bodies.Body.{data_of, items_of}
use Rattle.pack_laws.specs.pack_model.specs.reading.Namings.{Naming, body_kept, body_namings, clashes, files_kept, fits, is_kept, is_own, items_kept, kept_after, kept_after_body, namings, namings_in}
use Rattle.pack_laws.specs.pack_model.specs.reading.Slots.{Item, item_words}
use Rattle.pack_laws.specs.pack_model.specs.reading.Slots.Item.{entry, space}
use Rattle.laws_record.proofs.Dropping.{others, others-append}
use Rattle.laws_record.proofs.Fitting.{same_sym, same_trans}
use Rattle.laws_record.proofs.Heads.{and_left, and_right}
use Rattle.pack_laws.proofs.Keys.{same_fid}
use Rattle.laws_record.proofs.Tidying.{or_false}

-- what is kept fits
pub kept_fits : (v : Fid → Bool) (b : List Naming) (e : Naming) → is_kept v b e ≡ true → fits e ≡ true
kept_fits v b e k = and_right (v e.fid) (fits e) (and_left _ (not (list_any (clashes e) b)) k)

module _ (sf : Fid) (sname : List ℕ) (own_name : (e : Naming) → fits e ≡ true → is_fid e.fid sf ≡ is_own sname e) where
  -- another naming that fits doesn't clash with it
  no_clash : (e x : Naming) → is_fid e.fid sf ≡ false → fits e ≡ true → is_fid x.fid sf ≡ true → fits x ≡ true → clashes e x ≡ false
  no_clash e x other fe own fx =
      let mine : is_own sname x ≡ true = sym (own_name x fx) ∙ own in
      let dir : x.dir ≡ sys_dir = same_fid x.dir sys_dir (and_left (is_fid x.dir sys_dir) _ mine) in
      let name : is_same_name x.name sname ≡ true = and_right (is_fid x.dir sys_dir) _ mine in
      or_false (is_fid e.fid x.fid) _
      (ap (is_fid e.fid) (same_fid x.fid sf own) ∙ other)
      (ap (λ d. is_fid e.dir d && is_same_name e.name x.name) dir
      ∙ ap (λ b. is_fid e.dir sys_dir && b) (same_sym e.name x.name ∙ same_trans x.name sname e.name name ∙ same_sym sname e.name)
      ∙ sym (own_name e fe) ∙ other)

  -- the file's entries among these fit
  abbrev pub OwnFit : List Naming → Type 0
  OwnFit [] = Unit {0}
  OwnFit (x ∷ xs) = (is_fid x.fid sf ≡ true → fits x ≡ true) × OwnFit xs

  -- so these stand in no way of another
  pub any_same : (e : Naming) (b : List Naming) → is_fid e.fid sf ≡ false → fits e ≡ true → OwnFit b → list_any (clashes e) (others sf b) ≡ list_any (clashes e) b
  any_same e [] other fe own = refl
  any_same e (x ∷ b) other fe own =
      let rest = any_same e b other fe own.1 in
      elim (is_fid x.fid sf) as (λ c. is_fid x.fid sf ≡ c → list_any (clashes e) (cond c (others sf b) (x ∷ others sf b)) ≡ (clashes e x || list_any (clashes e) b)) [
        | true ↦ λ is. rest ∙ sym (ap (λ c. c || list_any (clashes e) b) (no_clash e x other fe is (own.0 is)))
        | false ↦ λ is. ap (λ r. clashes e x || r) rest
      ] refl

  -- DiskDescriptor lives too
  abbrev pub with_one : (Fid → Bool) → Fid → Bool
  with_one lives g = cond (is_fid g sf) true (lives g)

  module _ (lives : Fid → Bool) (dead : lives sf ≡ false) where
    -- a file that does not live has no entry that is kept
    ok_dead : (b : List Naming) (e : Naming) → is_fid e.fid sf ≡ true → is_kept lives b e ≡ false
    ok_dead b e is = ap (λ l. (l && fits e) && not (list_any (clashes e) b)) (ap lives (same_fid e.fid sf is) ∙ dead)

    -- other entries are kept with and without those of the file
    ok_same : (b : List Naming) (e : Naming) → is_fid e.fid sf ≡ false → OwnFit b → is_kept lives (others sf b) e ≡ is_kept (with_one lives) b e
    ok_same b e other own = by (fits e) refl ∙ ap (λ c. (cond c true (lives e.fid) && fits e) && not (list_any (clashes e) b)) (sym other)
      where
        by : (f : Bool) → fits e ≡ f → ((lives e.fid && fits e) && not (list_any (clashes e) (others sf b))) ≡ ((lives e.fid && fits e) && not (list_any (clashes e) b))
        by true fe = ap (λ a. (lives e.fid && fits e) && not a) (any_same e b other fe own)
        by false fe = ap (λ f. (lives e.fid && f) && not (list_any (clashes e) (others sf b))) fe ∙ nothing (lives e.fid) _ _ ∙ sym (ap (λ f. (lives e.fid && f) && not (list_any (clashes e) b)) fe)
          where
            nothing : (l x y : Bool) → ((l && false) && x) ≡ ((l && false) && y)
            nothing true x y = refl
            nothing false x y = refl

    -- both in one
    ok_cond : (b : List Naming) (e : Naming) → OwnFit b → is_kept lives (others sf b) e ≡ cond (is_fid e.fid sf) false (is_kept (with_one lives) b e)
    ok_cond b e own = elim (is_fid e.fid sf) as (λ t. is_fid e.fid sf ≡ t → is_kept lives (others sf b) e ≡ cond t false (is_kept (with_one lives) b e)) [
      | true ↦ λ is. ok_dead (others sf b) e is
      | false ↦ λ is. ok_same b e is own
    ] refl

    -- the items that the two scans leave, and their states
    record Same (d : Fid) (items states : List Naming) (items' states' : List Naming) : Type 0 where
      names : items ≡ others sf items'
      state : states ≡ others sf states'
      own : OwnFit states'

    -- what the two scans leave
    abbrev Alike : Fid → List Item → List Naming → Type 0
    Alike d is b = Same d (namings_in d (items_kept (is_kept lives) d (others sf b) is)) (kept_after (is_kept lives) d (others sf b) is)
        (namings_in d (items_kept (is_kept (with_one lives)) d b is)) (kept_after (is_kept (with_one lives)) d b is)

    -- a slot, kept or free
    abbrev one_item : Fid → Fid → List ℕ → Bool → Item
    one_item d f name c = cond c (entry f name) (space (item_words (entry f name)))

    -- an entry more, if it is kept
    abbrev more : Naming → List Naming → Bool → List Naming
    more e b c = cond c (e ∷ b) b

    -- one entry
    by_case : (d f : Fid) (name : List ℕ) (is : List Item) (b : List Naming) → OwnFit b → ((b : List Naming) → OwnFit b → Alike d is b) → (t c : Bool) → is_fid f sf ≡ t → (c ≡ true → fits (record { dir = d; name = name; fid = f }) ≡ true)
        → let e : Naming = record { dir = d; name = name; fid = f } in
        Same d (namings_in d (one_item d f name (cond t false c) ∷ items_kept (is_kept lives) d (more e (others sf b) (cond t false c)) is)) (kept_after (is_kept lives) d (more e (others sf b) (cond t false c)) is)
        (namings_in d (one_item d f name c ∷ items_kept (is_kept (with_one lives)) d (more e b c) is)) (kept_after (is_kept (with_one lives)) d (more e b c) is)
    by_case d f name is b own again true false t k = again b own
    by_case d f name is b own again false false t k = again b own
    by_case d f name is b own again true true t k =
        let e : Naming = record { dir = d; name = name; fid = f } in
        let r = again (e ∷ b) ((λ _. k refl), own) in
        let here : (ns : List Naming) → others sf (e ∷ ns) ≡ others sf ns = λ ns. ap (λ c. cond c (others sf ns) (e ∷ others sf ns)) t in
        record {
          names = sym (ap (λ s. namings_in d (items_kept (is_kept lives) d s is)) (here b)) ∙ r.names ∙ sym (here (namings_in d (items_kept (is_kept (with_one lives)) d (e ∷ b) is)));
          state = sym (ap (λ s. kept_after (is_kept lives) d s is) (here b)) ∙ r.state;
          own = r.own;
        }
    by_case d f name is b own again false true t k =
        let e : Naming = record { dir = d; name = name; fid = f } in
        let r = again (e ∷ b) ((λ _. k refl), own) in
        let here : (ns : List Naming) → others sf (e ∷ ns) ≡ e ∷ others sf ns = λ ns. ap (λ c. cond c (others sf ns) (e ∷ others sf ns)) t in
        record {
          names = ap (λ x. e ∷ x) (sym (ap (λ s. namings_in d (items_kept (is_kept lives) d s is)) (here b)) ∙ r.names) ∙ sym (here (namings_in d (items_kept (is_kept (with_one lives)) d (e ∷ b) is)));
          state = sym (ap (λ s. kept_after (is_kept lives) d s is) (here b)) ∙ r.state;
          own = r.own;
        }

    -- slots
    items_alike : (d : Fid) (is : List Item) (b : List Naming) → OwnFit b → Alike d is b
    items_alike d [] b own = record { names = refl; state = refl; own = own }
    items_alike d (space n ∷ is) b own = items_alike d is b own
    items_alike d (entry f name ∷ is) b own =
        let e : Naming = record { dir = d; name = name; fid = f } in
        subst (λ c. Same d (namings_in d (one_item d f name c ∷ items_kept (is_kept lives) d (more e (others sf b) c) is)) (kept_after (is_kept lives) d (more e (others sf b) c) is)
        (namings_in d (one_item d f name (is_kept (with_one lives) b e) ∷ items_kept (is_kept (with_one lives)) d (more e b (is_kept (with_one lives) b e)) is)) (kept_after (is_kept (with_one lives)) d (more e b (is_kept (with_one lives) b e)) is))
        (sym (ok_cond b e own))
        (by_case d f name is b own (λ b o. items_alike d is b o) (is_fid f sf) (is_kept (with_one lives) b e) refl (kept_fits (with_one lives) b e))

    -- bodies
    bodies_alike : (d : Fid) (x : Body) (b : List Naming) → OwnFit b → Same d (body_namings d (body_kept (is_kept lives) d (others sf b) x)) (kept_after_body (is_kept lives) d (others sf b) x)
        (body_namings d (body_kept (is_kept (with_one lives)) d b x)) (kept_after_body (is_kept (with_one lives)) d b x)
    bodies_alike d (data_of bytes) b own = record { names = refl; state = refl; own = own }
    bodies_alike d (items_of is) b own = items_alike d is b own

    -- all entries of other files are kept as before
    pub names_alike : (es : List (Fid × File)) (b : List Naming) → OwnFit b → namings (files_kept (is_kept lives) (others sf b) es) ≡ others sf (namings (files_kept (is_kept (with_one lives)) b es))
    names_alike [] b own = refl
    names_alike (e ∷ es) b own =
        let r = bodies_alike e.0 e.1.body b own in
        let after : List Naming = kept_after_body (is_kept (with_one lives)) e.0 b e.1.body in
        ap (λ x. x ++ namings (files_kept (is_kept lives) (kept_after_body (is_kept lives) e.0 (others sf b) e.1.body) es)) r.names
        ∙ ap (λ s. others sf (body_namings e.0 (body_kept (is_kept (with_one lives)) e.0 b e.1.body)) ++ namings (files_kept (is_kept lives) s es)) r.state
        ∙ ap (λ x. others sf (body_namings e.0 (body_kept (is_kept (with_one lives)) e.0 b e.1.body)) ++ x) (names_alike es after r.own)
        ∙ sym (others-append sf (body_namings e.0 (body_kept (is_kept (with_one lives)) e.0 b e.1.body)) (namings (files_kept (is_kept (with_one lives)) after es)))
