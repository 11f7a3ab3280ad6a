-- Directories of tidy files: an entry leaves or enters.
use Rattle.std.proofs.Common.{◌++◌, ◌∙◌, ◌∷◌, ◌≡◌, Bool, List, None, Option, Some, [], ap, append_assoc, cond, false, refl, subst, sym, true, ℕ}
use Rattle.std.specs.FinMap.{entries, entries-insert, find, from_entries, get, get-from_entries, get-insert, insert, same_map}
use Rattle.pack_laws.specs.alto_words.specs.Fid.{fid_cmp, is_fid}
use Rattle.pack_laws.specs.alto_words.specs.declared.fid.Fid.{Fid}
use Rattle.pack_laws.specs.pack_model.specs.reading.Bodies.{File, Files}
use Rattle.pack_laws.specs.pack_model.specs.reading.Bodies.Body.{items_of}
use Rattle.pack_laws.specs.pack_model.specs.reading.Leaders.{Leader}
use Rattle.pack_laws.specs.pack_model.specs.reading.Namings.{AllKept, IsTidy, Naming, body_namings, is_kept, namings, namings_in}
use Rattle.pack_laws.specs.pack_model.specs.reading.Slots.{Item}
use Rattle.pack_laws.specs.pack_model.specs.reading.Slots.Item.{entry, space}
use Rattle.pack_laws.specs.pack_model.specs.showing.View.{Home, homes, names_of}
use Rattle.laws_record.proofs.Around.{Around, around}
use Rattle.pack_laws.proofs.Keys.{fid_same, fid_total, is_fid-sym, same_fid}
use Rattle.laws_record.proofs.Tidying.{remove_kept}
use Rattle.pack_laws.proofs.Inserting.{absent_tail}

-- the entries of files one after another
pub namings-append : (a b : List (Fid × File)) → namings (a ++ b) ≡ namings a ++ namings b
namings-append [] b = refl
namings-append (e ∷ a) b = ap (λ r. body_namings e.0 e.1.body ++ r) (namings-append a b) ∙ sym (append_assoc (body_namings e.0 e.1.body) (namings a) (namings b))

-- of slots one after another
pub namings_in-append : (d : Fid) (a b : List Item) → namings_in d (a ++ b) ≡ namings_in d a ++ namings_in d b
namings_in-append d [] b = refl
namings_in-append d (space n ∷ a) b = namings_in-append d a b
namings_in-append d (entry f name ∷ a) b = ap (λ r. record { dir = d; name = name; fid = f } ∷ r) (namings_in-append d a b)

-- a directory with these slots
abbrev pub directory : Leader → List Item → File
directory l is = record { leader = l; body = items_of is }

-- all entries, around those of one directory
pub namings_around : (files : Files) (d : Fid) (l : Leader) (is : List Item) (r : Around fid_cmp (entries files) d (directory l is)) (js : List Item)
    → namings (entries (insert files d (directory l js))) ≡ namings r.front ++ (namings_in d js ++ namings r.back)
namings_around files d l is r js =
    ap namings (entries-insert fid_total files d (directory l js) ∙ r.now (directory l js)) ∙ namings-append r.front ((d, directory l js) ∷ r.back)

-- a place among all entries
pub record Spot (files : Files) (d : Fid) (l : Leader) (a b : List Item) : Type 0 where
  pub before : List Naming
  pub later : List Naming
  pub ahead : List Naming
  pub before_is : before ≡ ahead ++ namings_in d a
  pub without : (n : ℕ) → namings (entries (insert files d (directory l (a ++ space n ∷ b)))) ≡ before ++ later
  pub with : (f : Fid) (name : List ℕ) → namings (entries (insert files d (directory l (a ++ entry f name ∷ b)))) ≡ before ++ record { dir = d; name = name; fid = f } ∷ later

-- four lists in a row
apart : (p a m b q : List Naming) → p ++ ((a ++ (m ++ b)) ++ q) ≡ (p ++ a) ++ (m ++ (b ++ q))
apart p a m b q = simp append_assoc

-- the place of a slot
pub spot : (files : Files) (d : Fid) (l : Leader) (is a b : List Item) → get files d ≡ Some (directory l is) → Spot files d l a b
spot files d l is a b in_files =
    let r = around fid_total fid_same files d (directory l is) in_files in
    record {
      before = namings r.front ++ namings_in d a;
      later = namings_in d b ++ namings r.back;
      ahead = namings r.front;
      before_is = refl;
      without = λ n. namings_around files d l is r (a ++ space n ∷ b)
          ∙ ap (λ x. namings r.front ++ (x ++ namings r.back)) (namings_in-append d a (space n ∷ b)) ∙ apart (namings r.front) (namings_in d a) [] (namings_in d b) (namings r.back);
      with = λ f name. namings_around files d l is r (a ++ entry f name ∷ b)
          ∙ ap (λ x. namings r.front ++ (x ++ namings r.back)) (namings_in-append d a (entry f name ∷ b)) ∙ apart (namings r.front) (namings_in d a) (record { dir = d; name = name; fid = f } ∷ []) (namings_in d b) (namings r.back);
    }

-- ---- an entry leaves, or enters
module _ (lives : Fid → Bool) (files : Files) (d : Fid) (l : Leader) (is a b : List Item) (in_files : get files d ≡ Some (directory l is)) (f : Fid) (name : List ℕ) where
  -- an entry that goes leaves tidy files tidy
  pub leave_tidy : (n : ℕ) → IsTidy lives (insert files d (directory l (a ++ entry f name ∷ b))) → IsTidy lives (insert files d (directory l (a ++ space n ∷ b)))
  leave_tidy n tidy =
      let p = spot files d l is a b in_files in
      subst (AllKept (is_kept lives) []) (sym (p.without n)) (remove_kept lives [] p.before _ p.later (subst (AllKept (is_kept lives) []) (p.with f name) tidy))

-- ---- names
-- one name more
find-homes : (q f : Fid) (h : Home) (x y : List Naming) → find fid_cmp f (homes x) ≡ None → find fid_cmp q (homes (x ++ record { dir = h.dir; name = h.name; fid = f } ∷ y)) ≡ cond (is_fid q f) (Some h) (find fid_cmp q (homes (x ++ y)))
find-homes q f h [] y none = refl
find-homes q f h (n ∷ x) y none =
    let here : is_fid f n.fid ≡ false = (absent_tail (is_fid f n.fid) _ (find fid_cmp f (homes x)) none).0 in
    let there = find-homes q f h x y (absent_tail (is_fid f n.fid) _ (find fid_cmp f (homes x)) none).1 in
    let hn : Home = record { dir = n.dir; name = n.name } in
    let rest : Option Home = find fid_cmp q (homes (x ++ y)) in
    elim (is_fid q n.fid) as (λ b. is_fid q n.fid ≡ b → cond b (Some hn) (find fid_cmp q (homes (x ++ record { dir = h.dir; name = h.name; fid = f } ∷ y))) ≡ cond (is_fid q f) (Some h) (cond b (Some hn) rest)) [
      | true ↦ λ e. sym (ap (λ b. cond b (Some h) (Some hn)) (ap (λ g. is_fid g f) (same_fid q n.fid e) ∙ is_fid-sym n.fid f ∙ here))
      | false ↦ λ e. there
    ] refl

-- no name in all, none in the first
none_before : (f : Fid) (x y : List Naming) → find fid_cmp f (homes (x ++ y)) ≡ None → find fid_cmp f (homes x) ≡ None
none_before f [] y e = refl
none_before f (n ∷ x) y e =
    let c = absent_tail (is_fid f n.fid) _ (find fid_cmp f (homes (x ++ y))) e in
    ap (λ b. cond b (Some (record { dir = n.dir; name = n.name })) (find fid_cmp f (homes x))) c.0 ∙ none_before f x y c.1

-- an entry more is a name more
pub enter_names : (files : Files) (d : Fid) (l : Leader) (is a b : List Item) (in_files : get files d ≡ Some (directory l is)) (f : Fid) (name : List ℕ) (n : ℕ)
    → get (names_of (insert files d (directory l (a ++ space n ∷ b)))) f ≡ None
    → names_of (insert files d (directory l (a ++ entry f name ∷ b))) ≡ insert (names_of (insert files d (directory l (a ++ space n ∷ b)))) f (record { dir = d; name = name })
enter_names files d l is a b in_files f name n none = same_map fid_total fid_same _ _ (λ q.
    ap (λ ns. get (from_entries {R = fid_cmp} (homes ns)) q) (p.with f name)
    ∙ get-from_entries fid_total _ q
    ∙ find-homes q f _ p.before p.later (none_before f p.before p.later (ap (λ ns. find fid_cmp f (homes ns)) (sym (p.without n)) ∙ sym (get-from_entries fid_total _ f) ∙ none))
    ∙ ap (cond (is_fid q f) _) (sym (get-from_entries fid_total _ q) ∙ ap (λ ns. get (from_entries {R = fid_cmp} (homes ns)) q) (sym (p.without n)))
    ∙ sym (get-insert fid_total _ f _ q))
  where
    p : Spot files d l a b
    p = spot files d l is a b in_files
