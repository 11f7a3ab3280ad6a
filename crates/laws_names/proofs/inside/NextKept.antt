-- The next entry that is lacking may be entered.
use Rattle.std.proofs.Common.{◌&&◌, ◌++◌, ◌||◌, ◌∙◌, ◌∷◌, ◌≡◌, Bool, List, None, Option, Some, [], ap, cond, false, not, refl, subst, sym, true, ℕ}
use Rattle.std.specs.FinMap.{entries, find, get, get-entries, get-from_entries}
use Rattle.std.specs.List.{list_any}
use Rattle.std.specs.Option.{is_some, option_map}
use Rattle.laws_mend.specs.alto_words.specs.Fid.{disk_descriptor, fid_cmp, is_directory, is_fid, is_system, sys_dir}
use Rattle.laws_mend.specs.alto_words.specs.Names.{is_same_name}
use Rattle.laws_mend.specs.alto_words.specs.declared.fid.Fid.{Fid}
use Rattle.laws_mend.specs.disk_records.specs.Packs.{Pack}
use Rattle.laws_mend.specs.pack_model.specs.reading.Bodies.{File}
use Rattle.laws_mend.specs.pack_model.specs.reading.Files.{lives}
use Rattle.laws_mend.specs.pack_model.specs.reading.Model.{Model, is_named, read_as}
use Rattle.laws_mend.specs.pack_model.specs.reading.Namings.{AllKept, Naming, alike, clashes, descriptor_name, fits, is_kept, is_own, keeps_system, may_stand, namings, sys_dir_name}
use Rattle.laws_mend.specs.pack_model.specs.reading.Sights.{sights}
use Rattle.laws_mend.specs.pack_model.specs.scavenger.Mended.{lacking, with_system}
use Rattle.laws_mend.specs.pack_model.specs.scavenger.Reports.{PagesMended}
use Rattle.laws_mend.specs.pack_model.specs.sessions.Maps.{map_values}
use Rattle.laws_mend.specs.pack_model.specs.showing.Settling.{given_names, is_taken, unless}
use Rattle.laws_mend.specs.pack_model.specs.showing.View.{Home, Seen, homes, names_of, seen_of, view}
use Rattle.laws_mend.specs.pack_laws.proofs.Keys.{fid_same, fid_total, is_fid-itself, is_fid-sym}
use Rattle.laws_mend.specs.pack_laws.proofs.Mapping.{get-map_values}
use Rattle.laws_mend.specs.laws_record.proofs.Beside.{any_second}
use Rattle.laws_mend.specs.laws_record.proofs.Fitting.{fits_own, fits_root, same_sym, same_trans}
use Rattle.laws_mend.specs.laws_record.proofs.Heads.{and_left, and_right}
use Rattle.laws_mend.specs.laws_record.proofs.Keeping.{get-where}
use Rattle.laws_mend.specs.laws_record.proofs.Tidying.{onto, or_false, or_false_left, or_false_right, split_kept}
use Rattle.laws_mend.specs.laws_operation.proofs.entries.Laws.{read_entries_are_kept}
use Rattle.laws_mend.specs.laws_room.proofs.NextLacking.{first_given, shown_ordinary}
use Rattle.laws_mend.specs.laws_room.proofs.SoundPacks.{model_lives, named_find}
use Rattle.laws_mend.specs.laws_room.specs.NextLaws.{MayBeEntered}
use Rattle.laws_names.proofs.inside.Choosing.{chosen_is_free}
use Rattle.laws_names.proofs.inside.FewNames.{few_names}
use Rattle.laws_names.proofs.inside.Models.{mended_is_read}
use Rattle.laws_names.proofs.inside.Scanned.{there}
use Rattle.laws_names.specs.LackingLaws.{NextMayBeEntered}

-- ---- entries that clash with none
-- none passes a test if each of them fails it
none_passes : (t : Naming → Bool) (ns : List Naming) → ((a : List Naming) (n : Naming) (b : List Naming) → ns ≡ a ++ n ∷ b → t n ≡ false) → list_any t ns ≡ false
none_passes t [] g = refl
none_passes t (n ∷ ns) g = or_false (t n) (list_any t ns) (g [] n ns refl) (none_passes t ns (λ a m b e. g (n ∷ a) m b (ap (λ r. n ∷ r) e)))

-- those put onto others
clear_onto : (t : Naming → Bool) (a before : List Naming) → list_any t (onto a before) ≡ false → (list_any t a ≡ false) × (list_any t before ≡ false)
clear_onto t [] before h = (refl, h)
clear_onto t (e ∷ a) before h = let r = clear_onto t a (e ∷ before) h in (or_false (t e) (list_any t a) (or_false_left (t e) (list_any t before) r.1) r.0, or_false_right (t e) (list_any t before) r.1)

-- what is known of an entry that is kept
record IsKeptThere (v : Fid → Bool) (a : List Naming) (n : Naming) : Type 0 where
  fits_is : fits n ≡ true
  clear : list_any (clashes n) a ≡ false

kept_there : (v : Fid → Bool) (a : List Naming) (n : Naming) (b : List Naming) → AllKept (is_kept v) [] (a ++ n ∷ b) → IsKeptThere v a n
kept_there v a n b kept =
    let here : is_kept v (onto a []) n ≡ true = (split_kept (is_kept v) [] a (n ∷ b) kept).1.0 in
    record {
      fits_is = and_right (v n.fid) (fits n) (and_left (may_stand v n) (not (list_any (clashes n) (onto a []))) here);
      clear = (clear_onto (clashes n) a [] (no (list_any (clashes n) (onto a [])) (and_right (may_stand v n) (not (list_any (clashes n) (onto a []))) here))).0;
    }
  where
    no : (b : Bool) → not b ≡ true → b ≡ false
    no true h = cc
    no false h = refl

-- the home of its file is its own
find_home : (n : Naming) (a b : List Naming) → list_any (clashes n) a ≡ false → find fid_cmp n.fid (homes (a ++ n ∷ b)) ≡ Some (record { dir = n.dir; name = n.name })
find_home n [] b h = ap (λ c. cond c (Some (record { dir = n.dir; name = n.name })) (find fid_cmp n.fid (homes b))) (is_fid-itself n.fid)
find_home n (x ∷ a) b h =
    let apart : is_fid n.fid x.fid ≡ false = or_false_left (is_fid n.fid x.fid) (is_fid n.dir x.dir && is_same_name n.name x.name) (or_false_left (clashes n x) (list_any (clashes n) a) h) in
    ap (λ c. cond c (Some (record { dir = x.dir; name = x.name })) (find fid_cmp n.fid (homes (a ++ n ∷ b)))) apart ∙ find_home n a b (or_false_right (clashes n x) (list_any (clashes n) a) h)

-- an entry of a file without one, with a name that no entry of SysDir has
clear_of : (f : Fid) (name : List ℕ) (ns : List Naming) → list_any (λ n. is_fid n.fid f) ns ≡ false
    → ((a : List Naming) (n : Naming) (b : List Naming) → ns ≡ a ++ n ∷ b → is_fid n.fid f ≡ false → is_fid sys_dir n.dir ≡ true → is_same_name name n.name ≡ true → ⊥) → list_any (clashes (record { dir = sys_dir; name = name; fid = f })) ns ≡ false
clear_of f name ns nameless no_name = none_passes (clashes (record { dir = sys_dir; name = name; fid = f })) ns (λ a n b split.
    let other : is_fid n.fid f ≡ false = or_false_left (is_fid n.fid f) (list_any (λ n. is_fid n.fid f) b) (any_second (λ n. is_fid n.fid f) a (n ∷ b) (sym (ap (list_any (λ n. is_fid n.fid f)) split) ∙ nameless)) in
    or_false (is_fid f n.fid) (is_fid sys_dir n.dir && is_same_name name n.name) (is_fid-sym f n.fid ∙ other) (both (is_fid sys_dir n.dir) (is_same_name name n.name) refl refl (no_name a n b split other)))
  where
    both : {d s : Bool} (x y : Bool) → d ≡ x → s ≡ y → (d ≡ true → s ≡ true → ⊥) → (x && y) ≡ false
    both true true p q h = absurd (h p q)
    both true false p q h = refl
    both false y p q h = refl

-- one of two
or_second : (a b : Bool) → b ≡ true → (a || b) ≡ true
or_second true b h = refl
or_second false b h = h

-- ---- a system file
module _ (p : Pack) where
  kept : AllKept (is_kept (lives (sights p))) [] (namings (entries (read_as p).files))
  kept = read_entries_are_kept p

  fits_there : (a : List Naming) (n : Naming) (b : List Naming) → namings (entries (read_as p).files) ≡ a ++ n ∷ b → fits n ≡ true
  fits_there a n b split = (kept_there (lives (sights p)) a n b (subst (AllKept (is_kept (lives (sights p))) []) split kept)).fits_is

  clear_root : is_named (read_as p) sys_dir ≡ false → list_any (clashes (record { dir = sys_dir; name = sys_dir_name; fid = sys_dir })) (namings (entries (read_as p).files)) ≡ false
  clear_root nameless = clear_of sys_dir sys_dir_name (namings (entries (read_as p).files)) nameless (λ a n b split other here same.
      (let own : is_own sys_dir_name n ≡ true = (λ i. (is_fid-sym n.dir sys_dir ∙ here) i && (same_sym n.name sys_dir_name ∙ same) i) in let c : false ≡ true = sym other ∙ fits_root n (fits_there a n b split) ∙ own in cc))

  clear_own : is_named (read_as p) disk_descriptor ≡ false → list_any (clashes (record { dir = sys_dir; name = descriptor_name; fid = disk_descriptor })) (namings (entries (read_as p).files)) ≡ false
  clear_own nameless = clear_of disk_descriptor descriptor_name (namings (entries (read_as p).files)) nameless (λ a n b split other here same.
      (let own : is_own descriptor_name n ≡ true = (λ i. (is_fid-sym n.dir sys_dir ∙ here) i && (same_sym n.name descriptor_name ∙ same) i) in let c : false ≡ true = sym other ∙ fits_own n (fits_there a n b split) ∙ own in cc))

  -- ---- an ordinary file, under a name that isn't taken
  module _ (name : List ℕ) (free : is_taken (view (read_as p)).names name ≡ false) where
    not_root : is_same_name name sys_dir_name ≡ false
    not_root = first (is_same_name name sys_dir_name) (is_same_name name descriptor_name) _ free
      where
        first : (a b c : Bool) → (a || b || c) ≡ false → a ≡ false
        first false b c h = refl
        first true b c h = cc

    not_own : is_same_name name descriptor_name ≡ false
    not_own = second (is_same_name name sys_dir_name) (is_same_name name descriptor_name) _ free
      where
        second : (a b c : Bool) → (a || b || c) ≡ false → b ≡ false
        second a false c h = refl
        second false true c h = cc
        second true true c h = cc

    no_home : list_any (λ (e : Fid × Home). is_fid e.1.dir sys_dir && is_same_name name e.1.name) (entries (view (read_as p)).names) ≡ false
    no_home = third (is_same_name name sys_dir_name) (is_same_name name descriptor_name) (list_any (λ (e : Fid × Home). is_fid e.1.dir sys_dir && is_same_name name e.1.name) (entries (view (read_as p)).names)) free
      where
        third : (a b c : Bool) → (a || b || c) ≡ false → c ≡ false
        third a b false h = refl
        third false false true h = cc
        third false true true h = cc
        third true b true h = cc

    -- a home is met
    home_met : (es : List (Fid × Home)) (g : Fid) (h : Home) → find fid_cmp g es ≡ Some h → is_fid h.dir sys_dir ≡ true → is_same_name name h.name ≡ true → list_any (λ (e : Fid × Home). is_fid e.1.dir sys_dir && is_same_name name e.1.name) es ≡ true
    home_met [] g h e here same = absurd cc
    home_met (y ∷ es) g h e here same = by (is_fid g y.0) e (λ q. home_met es g h q here same)
      where
        by : (b : Bool) → cond b (Some y.1) (find fid_cmp g es) ≡ Some h → (find fid_cmp g es ≡ Some h → list_any (λ (e : Fid × Home). is_fid e.1.dir sys_dir && is_same_name name e.1.name) es ≡ true)
            → ((is_fid y.1.dir sys_dir && is_same_name name y.1.name) || list_any (λ (e : Fid × Home). is_fid e.1.dir sys_dir && is_same_name name e.1.name) es) ≡ true
        by true q again = let z : y.1 ≡ h = cc in (λ i. ((ap (λ (x : Home). is_fid x.dir sys_dir) z ∙ here) i && (ap (λ (x : Home). is_same_name name x.name) z ∙ same) i) || list_any (λ (e : Fid × Home). is_fid e.1.dir sys_dir && is_same_name name e.1.name) es)
        by false q again = or_second (is_fid y.1.dir sys_dir && is_same_name name y.1.name) (list_any (λ (e : Fid × Home). is_fid e.1.dir sys_dir && is_same_name name e.1.name) es) (again q)

    -- no entry of SysDir has this name
    no_name : (a : List Naming) (n : Naming) (b : List Naming) → namings (entries (read_as p).files) ≡ a ++ n ∷ b → is_fid sys_dir n.dir ≡ true → is_same_name name n.name ≡ true → ⊥
    unfolding view
    no_name a n b split here same = by (is_fid n.fid sys_dir) refl (is_fid n.fid disk_descriptor) refl
      where
        k : IsKeptThere (lives (sights p)) a n
        k = kept_there (lives (sights p)) a n b (subst (AllKept (is_kept (lives (sights p))) []) split kept)

        found : get (names_of (read_as p).files) n.fid ≡ Some (record { dir = n.dir; name = n.name })
        found = get-from_entries fid_total (homes (namings (entries (read_as p).files))) n.fid ∙ ap (λ l. find fid_cmp n.fid (homes l)) split ∙ find_home n a b k.clear

        by : (x : Bool) → is_fid n.fid sys_dir ≡ x → (y : Bool) → is_fid n.fid disk_descriptor ≡ y → ⊥
        by true x y e =
            let own : is_same_name n.name sys_dir_name ≡ true = and_right (is_fid n.dir sys_dir) (is_same_name n.name sys_dir_name) (sym (fits_root n k.fits_is) ∙ x) in
            (let c : false ≡ true = sym not_root ∙ same_trans name n.name sys_dir_name same ∙ own in cc)
        by false x true e =
            let own : is_same_name n.name descriptor_name ≡ true = and_right (is_fid n.dir sys_dir) (is_same_name n.name descriptor_name) (sym (fits_own n k.fits_is) ∙ e) in
            (let c : false ≡ true = sym not_own ∙ same_trans name n.name descriptor_name same ∙ own in cc)
        by false x false e =
            let ordinary : is_system n.fid ≡ false = (λ i. x i || e i) in
            let there : find fid_cmp n.fid (entries (view (read_as p)).names) ≡ Some (record { dir = n.dir; name = n.name }) =
            sym (get-entries (view (read_as p)).names n.fid) ∙ get-where (names_of (read_as p).files) (λ f. not (is_system f)) n.fid ∙ ap (λ c. cond (not c) (get (names_of (read_as p).files) n.fid) None) ordinary ∙ found in
            let met = home_met (entries (view (read_as p)).names) n.fid (record { dir = n.dir; name = n.name }) there (is_fid-sym n.dir sys_dir ∙ here) same in
            (let c : false ≡ true = sym no_home ∙ met in cc)

    fits_ordinary : (f : Fid) → is_system f ≡ false → fits (record { dir = sys_dir; name = name; fid = f }) ≡ true
    unfolding keeps_system
    fits_ordinary f ordinary = λ i. or_true (not (is_directory f)) i && (alike (or_false_left (is_fid f sys_dir) (is_fid f disk_descriptor) ordinary i) (true && not_root i) && alike (or_false_right (is_fid f sys_dir) (is_fid f disk_descriptor) ordinary i) (true && not_own i))
      where
        or_true : (a : Bool) → (a || true) ≡ true
        or_true true = refl
        or_true false = refl

  -- a file that is shown lives
  shown_lives : (f : Fid) (x : Seen) (a b : List (Fid × Seen)) → entries (view (read_as p)).files ≡ a ++ (f, x) ∷ b → is_system f ≡ false → lives (sights p) f ≡ true
  unfolding view
  shown_lives f x a b split ordinary = by (get (read_as p).files f) refl
    where
      by : (r : Option File) → get (read_as p).files f ≡ r → lives (sights p) f ≡ true
      by (Some y) e = model_lives p.shape (sights p) f (ap is_some e)
      by None e = absurd (there f x a b (
          ap (find fid_cmp f) (sym split) ∙ sym (get-entries (view (read_as p)).files f) ∙ get-where (map_values seen_of (read_as p).files) (λ f. not (is_system f)) f
          ∙ ap (λ c. cond (not c) (get (map_values {R = fid_cmp} seen_of (read_as p).files) f) None) ordinary ∙ get-map_values fid_total fid_same seen_of (read_as p).files f ∙ ap (option_map (seen_of f)) e
          ))

-- an ordinary file that is named has a name
named_has : (m : Model) (f : Fid) → is_system f ≡ false → is_named m f ≡ true → is_some (get (view m).names f) ≡ true
unfolding view
named_has m f ordinary e =
    ap is_some (get-where (names_of m.files) (λ f. not (is_system f)) f ∙ ap (λ b. cond (not b) (get (names_of m.files) f) None) ordinary ∙ get-from_entries fid_total (homes (namings (entries m.files))) f)
    ∙ named_find f (namings (entries m.files)) e

-- ---- the law
module _ (p : Pack) (m : PagesMended p) where
  may : (f : Fid) (name : List ℕ) → with_system (lives (sights p)) f ≡ true → fits (record { dir = sys_dir; name = name; fid = f }) ≡ true → list_any (clashes (record { dir = sys_dir; name = name; fid = f })) (namings (entries (read_as p).files)) ≡ false → MayBeEntered p f name
  may f name live fit apart = record { lives = live; fits = fit; apart = ap (list_any (clashes (record { dir = sys_dir; name = name; fid = f }))) (mended_is_read p m).names_are ∙ apart }

  by_case : (f : Fid) (name : List ℕ) (rest : List (Fid × List ℕ)) (a b : Bool) → is_named (read_as p) sys_dir ≡ a → is_named (read_as p) disk_descriptor ≡ b
      → unless a (sys_dir, sys_dir_name) (unless b (disk_descriptor, descriptor_name) (given_names (view (read_as p)).names (entries (view (read_as p)).files))) ≡ (f, name) ∷ rest → MayBeEntered p f name
  unfolding keeps_system
  by_case f name rest false b x y e =
      let pair : ◌≡◌ {A = Fid × List ℕ} (sys_dir, sys_dir_name) (f, name) = cc in
      subst (λ (z : Fid × List ℕ). MayBeEntered p z.0 z.1) pair (may sys_dir sys_dir_name refl refl (clear_root p x))
  by_case f name rest true false x y e =
      let pair : ◌≡◌ {A = Fid × List ℕ} (disk_descriptor, descriptor_name) (f, name) = cc in
      subst (λ (z : Fid × List ℕ). MayBeEntered p z.0 z.1) pair (may disk_descriptor descriptor_name refl refl (clear_own p y))
  by_case f name rest true true x y e =
      let d = first_given (view (read_as p)).names (entries (view (read_as p)).files) f name rest e in
      let ordinary = shown_ordinary (read_as p) f d.x d.before d.later d.split in
      let free : is_taken (view (read_as p)).names name ≡ false = ap (is_taken (view (read_as p)).names) d.name_is ∙ chosen_is_free (view (read_as p)).names d.x.leader.name (few_names p) in
      let nameless : is_named (read_as p) f ≡ false = unnamed (is_named (read_as p) f) refl ordinary d.nameless in
      may f name (ap (λ c. cond c true (lives (sights p) f)) ordinary ∙ shown_lives p f d.x d.before d.later d.split ordinary) (fits_ordinary p name free f ordinary)
      (clear_of f name (namings (entries (read_as p).files)) nameless (λ u n w split other here same. no_name p name free u n w split here same))
    where
      unnamed : (c : Bool) → is_named (read_as p) f ≡ c → is_system f ≡ false → get (view (read_as p)).names f ≡ None → is_named (read_as p) f ≡ false
      unnamed false q ordinary none = q
      unnamed true q ordinary none = absurd (let c : true ≡ false = sym (named_has (read_as p) f ordinary q) ∙ ap is_some none in cc)

pub next_may_be_entered : NextMayBeEntered
unfolding lacking
next_may_be_entered p f name rest m next = by_case p m f name rest (is_named (read_as p) sys_dir) (is_named (read_as p) disk_descriptor) refl refl (sym (mended_is_read p m).lacking_is ∙ next)
