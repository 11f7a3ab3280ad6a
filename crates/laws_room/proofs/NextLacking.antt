-- The next entry that is lacking comes: what is shown stays, and the others are lacking then.
use Rattle.std.proofs.Common.{◌++◌, ◌||◌, ◌∙◌, ◌∷◌, ◌≡◌, Bool, List, None, Some, [], ap, cond, false, not, refl, sym, true, ℕ}
use Rattle.std.specs.FinMap.{FinMap, contains_key, entries, find, get, get-entries, insert}
use Rattle.laws_operation.specs.alto_words.specs.Fid.{disk_descriptor, fid_cmp, is_fid, is_system, sys_dir}
use Rattle.laws_operation.specs.alto_words.specs.declared.fid.Fid.{Fid}
use Rattle.laws_operation.specs.disk_records.specs.declared.shape.Shape.{Shape}
use Rattle.laws_operation.specs.pack_model.specs.reading.Bodies.{Files}
use Rattle.laws_operation.specs.pack_model.specs.reading.Leaders.{Leader}
use Rattle.laws_operation.specs.pack_model.specs.sessions.Maps.{map_values}
use Rattle.laws_operation.specs.pack_model.specs.scavenger.Mended.{lacking}
use Rattle.laws_operation.specs.pack_model.specs.reading.Model.{Model, is_named}
use Rattle.laws_operation.specs.pack_model.specs.reading.Namings.{descriptor_name, sys_dir_name}
use Rattle.laws_operation.specs.pack_model.specs.showing.Settling.{chosen, given, given_names, settle, unless}
use Rattle.laws_operation.specs.pack_model.specs.reading.Slots.{Item}
use Rattle.laws_operation.specs.pack_model.specs.showing.View.{Home, Seen, View, seen_of, view}
use Rattle.laws_room.proofs.inside.Lacking.{named_now, ordinary_view, system_view}
use Rattle.laws_room.proofs.Standing.{Stands}
use Rattle.laws_operation.specs.pack_laws.proofs.Keys.{is_fid-itself}
use Rattle.laws_record.proofs.Entered.{directory}
use Rattle.laws_record.proofs.Keeping.{get-where}
use Rattle.laws_record.proofs.Settles.{has_name, named_insert, next_settles}
use Rattle.laws_record.specs.EnterLaws.{AllNamed}
use Rattle.laws_operation.specs.pack_laws.proofs.Placing.{none_of_false}

pub record FirstGiven (names : FinMap fid_cmp Home) (es : List (Fid × Seen)) (f : Fid) (n : List ℕ) (rest : List (Fid × List ℕ)) : Type 0 where
  pub x : Seen
  pub before : List (Fid × Seen)
  pub later : List (Fid × Seen)
  pub split : es ≡ before ++ (f, x) ∷ later
  pub named : AllNamed names before
  pub nameless : get names f ≡ None
  pub name_is : n ≡ chosen names x.leader.name
  pub rest_is : rest ≡ given_names (given names f x) later

-- the first nameless file is the one that gets the first name
pub first_given : (names : FinMap fid_cmp Home) (es : List (Fid × Seen)) (f : Fid) (n : List ℕ) (rest : List (Fid × List ℕ)) → given_names names es ≡ (f, n) ∷ rest → FirstGiven names es f n rest
first_given names [] f n rest e = absurd (let x : [] ≡ (f, n) ∷ rest = e in cc)
first_given names (y ∷ es) f n rest e = by (λ e. first_given names es f n rest e) (contains_key names y.0) refl e
  where
    by : (given_names names es ≡ (f, n) ∷ rest → FirstGiven names es f n rest) → (b : Bool) → contains_key names y.0 ≡ b → unless b (y.0, chosen names y.1.leader.name) (given_names (cond b names (given names y.0 y.1)) es) ≡ (f, n) ∷ rest → FirstGiven names (y ∷ es) f n rest
    by again true c e =
        let r = again e in
        record { x = r.x; before = y ∷ r.before; later = r.later; split = ap (λ q. y ∷ q) r.split; named = (c, r.named); nameless = r.nameless; name_is = r.name_is; rest_is = r.rest_is }
    by again false c e =
        let pair : ◌≡◌ {A = Fid × List ℕ} (y.0, chosen names y.1.leader.name) (f, n) = cc in
        let a : y.0 ≡ f = ap (λ q. q.0) pair in
        let b : chosen names y.1.leader.name ≡ n = ap (λ q. q.1) pair in
        let d : given_names (given names y.0 y.1) es ≡ rest = cc in
        record {
          x = y.1;
          before = [];
          later = es;
          split = λ i. (a i, y.1) ∷ es;
          named = tt;
          nameless = ap (get names) (sym a) ∙ none_of_false (get names y.0) c;
          name_is = sym b;
          rest_is = sym d ∙ ap (λ g. given_names (given names g y.1) es) a;
        }

-- files with names are passed
given_skip : (names : FinMap fid_cmp Home) (a b : List (Fid × Seen)) → AllNamed names a → given_names names (a ++ b) ≡ given_names names b
given_skip names [] b h = refl
given_skip names (e ∷ a) b h = ap (λ c. unless c (e.0, chosen names e.1.leader.name) (given_names (cond c names (given names e.0 e.1)) (a ++ b))) h.0 ∙ given_skip names a b h.1

-- so is the one that has got its name
given_past : (names : FinMap fid_cmp Home) (f : Fid) (x : Seen) (a b : List (Fid × Seen)) → AllNamed names a → given_names (given names f x) (a ++ (f, x) ∷ b) ≡ given_names (given names f x) b
given_past names f x a b h = given_skip (given names f x) a ((f, x) ∷ b) (named_insert names f _ a h)
    ∙ ap (λ c. unless c (f, chosen (given names f x) x.leader.name) (given_names (cond c (given names f x) (given (given names f x) f x)) b)) (has_name names f _)

-- a file that stands in a list is found
find_there : (f : Fid) (x : Seen) (a b : List (Fid × Seen)) → find fid_cmp f (a ++ (f, x) ∷ b) ≡ None → ⊥
find_there f x [] b e = let y : Some x ≡ None = sym (ap (λ c. cond c (Some x) (find fid_cmp f b)) (is_fid-itself f)) ∙ e in cc
find_there f x (y ∷ a) b e = by (λ e. find_there f x a b e) (is_fid f y.0) e
  where
    by : (find fid_cmp f (a ++ (f, x) ∷ b) ≡ None → ⊥) → (c : Bool) → cond c (Some y.1) (find fid_cmp f (a ++ (f, x) ∷ b)) ≡ None → ⊥
    by again true e = let z : Some y.1 ≡ None = e in cc
    by again false e = again e

-- a file that is shown is no system file
pub shown_ordinary : (m : Model) (f : Fid) (x : Seen) (a b : List (Fid × Seen)) → entries (view m).files ≡ a ++ (f, x) ∷ b → is_system f ≡ false
unfolding view
shown_ordinary m f x a b split = by (is_system f) refl
  where
    by : (c : Bool) → is_system f ≡ c → is_system f ≡ false
    by false e = e
    by true e = absurd (find_there f x a b (ap (find fid_cmp f) (sym split) ∙ sym (get-entries (view m).files f) ∙ get-where (map_values {R = fid_cmp} seen_of m.files) (λ f. not (is_system f)) f ∙ ap (λ c. cond (not c) (get (map_values {R = fid_cmp} seen_of m.files) f) None) e))

-- a test or a true one
or_true : (a : Bool) → (a || true) ≡ true
or_true true = refl
or_true false = refl

module _ (shape : Shape) (good last : ℕ) (files : Files) (l : Leader) (is : List Item) (in_files : get files sys_dir ≡ Some (directory l is)) where
  -- the model before
  abbrev was : Model
  was = record { shape = shape; good = good; last = last; files = files }

  -- and with other slots of SysDir
  abbrev now : List Item → Model
  now js = record { shape = shape; good = good; last = last; files = insert files sys_dir (directory l js) }

  -- what holds once the entry stands
  pub record Entered (js : List Item) (es : List (Fid × List ℕ)) : Type 0 where
    pub rest : lacking (record { shape = shape; good = good; last = last; files = insert files sys_dir (directory l js) }) ≡ es
    pub shown : settle (view (record { shape = shape; good = good; last = last; files = insert files sys_dir (directory l js) })) ≡ settle (view (record { shape = shape; good = good; last = last; files = files }))

  -- what is lacking, by whether the system files are named
  abbrev list : Bool → Bool → View → List (Fid × List ℕ)
  list a b v = unless a (sys_dir, sys_dir_name) (unless b (disk_descriptor, descriptor_name) (given_names v.names (entries v.files)))

  module _ (f : Fid) (name : List ℕ) (js : List Item) (es : List (Fid × List ℕ)) (s : Stands sys_dir f name is js) where
    lacking_now : lacking (now js) ≡ list (is_fid f sys_dir || is_named was sys_dir) (is_fid f disk_descriptor || is_named was disk_descriptor) (view (now js))
    unfolding lacking
    lacking_now = λ i. list (named_now shape good last files l is in_files f name js s sys_dir i) (named_now shape good last files l is in_files f name js s disk_descriptor i) (view (now js))

    by : (a b : Bool) → is_named was sys_dir ≡ a → is_named was disk_descriptor ≡ b → list a b (view was) ≡ (f, name) ∷ es → Entered js es
    by false b p q e =
        let pair : ◌≡◌ {A = Fid × List ℕ} (f, name) (sys_dir, sys_dir_name) = cc in
        let g : f ≡ sys_dir = ap (λ q. q.0) pair in
        let r : unless b (disk_descriptor, descriptor_name) (given_names (view was).names (entries (view was).files)) ≡ es = cc in
        let v = system_view shape good last files l is in_files f name js s (ap is_system g) (ap (is_named was) g ∙ p) in
        record {
          rest = lacking_now
              ∙ ap (λ v. list (is_fid f sys_dir || is_named was sys_dir) (is_fid f disk_descriptor || is_named was disk_descriptor) v) v
              ∙ ap (λ h. list (is_fid h sys_dir || is_named was sys_dir) (is_fid h disk_descriptor || is_named was disk_descriptor) (view was)) g
              ∙ ap (λ c. unless c (disk_descriptor, descriptor_name) (given_names (view was).names (entries (view was).files))) q ∙ r;
          shown = ap settle v;
        }
    by true false p q e =
        let pair : ◌≡◌ {A = Fid × List ℕ} (f, name) (disk_descriptor, descriptor_name) = cc in
        let g : f ≡ disk_descriptor = ap (λ q. q.0) pair in
        let r : given_names (view was).names (entries (view was).files) ≡ es = cc in
        let v = system_view shape good last files l is in_files f name js s (ap is_system g) (ap (is_named was) g ∙ q) in
        record {
          rest = lacking_now
              ∙ ap (λ v. list (is_fid f sys_dir || is_named was sys_dir) (is_fid f disk_descriptor || is_named was disk_descriptor) v) v
              ∙ ap (λ h. list (is_fid h sys_dir || is_named was sys_dir) (is_fid h disk_descriptor || is_named was disk_descriptor) (view was)) g
              ∙ ap (λ c. list c true (view was)) p ∙ r;
          shown = ap settle v;
        }
    by true true p q e =
        let d = first_given (view was).names (entries (view was).files) f name es e in
        let o = shown_ordinary was f d.x d.before d.later d.split in
        let v = ordinary_view shape good last files l is in_files f name js s o d.nameless
        ∙ ap (λ n. record { files = (view was).files; names = insert (view was).names f (record { dir = sys_dir; name = n }) }) d.name_is in
        record {
          rest = lacking_now
              ∙ ap (λ v. list (is_fid f sys_dir || is_named was sys_dir) (is_fid f disk_descriptor || is_named was disk_descriptor) v) v
              ∙ ap (λ c. list (is_fid f sys_dir || c) (is_fid f disk_descriptor || is_named was disk_descriptor) (record { files = (view was).files; names = given (view was).names f d.x })) p
              ∙ ap (λ c. list c (is_fid f disk_descriptor || is_named was disk_descriptor) (record { files = (view was).files; names = given (view was).names f d.x })) (or_true (is_fid f sys_dir))
              ∙ ap (λ c. unless (is_fid f disk_descriptor || c) (disk_descriptor, descriptor_name) (given_names (given (view was).names f d.x) (entries (view was).files))) q
              ∙ ap (λ c. unless c (disk_descriptor, descriptor_name) (given_names (given (view was).names f d.x) (entries (view was).files))) (or_true (is_fid f disk_descriptor))
              ∙ ap (given_names (given (view was).names f d.x)) d.split ∙ given_past (view was).names f d.x d.before d.later d.named ∙ sym d.rest_is;
          shown = ap settle v ∙ next_settles (view was) f d.x (record { before = d.before; later = d.later; split = d.split; named = d.named; nameless = d.nameless });
        }

    -- the next entry: what is shown stays, and the others are still lacking
    pub entered : lacking (record { shape = shape; good = good; last = last; files = files }) ≡ (f, name) ∷ es → Entered js es
    unfolding lacking
    entered e = by (is_named was sys_dir) (is_named was disk_descriptor) refl refl e
