-- Entries that are kept or not, one after another.
use Rattle.std.proofs.Common.{◌≡◌, ℕ, Bool, true, false, cond, not, List, [], ◌∷◌, ◌++◌, map, refl, sym, ap, subst, ◌∙◌, Ok, Err}
use Rattle.std.specs.Prelude.{◌&&◌, ◌||◌, fold, IfOk, OnOk}
use Rattle.std.specs.declared.result.Result.{Result}
use Rattle.alto_words.specs.declared.memory.Memory.{Memory}
use Rattle.std.specs.List.{list_any}
use Rattle.std.specs.FinMap.{FinMap, contains_key, empty, insert}
use Rattle.std.proofs.lemmas.Bool.{and_parts}
use Rattle.std.proofs.lemmas.List.{map-append}
use Rattle.std.proofs.lemmas.List.Sums.{fold_push}
use Rattle.alto_words.specs.declared.fid.Fid.{Fid}
use Rattle.alto_words.specs.Fid.{fid_cmp, is_directory, is_fid, is_system, sys_dir, disk_descriptor}
use Rattle.alto_words.specs.Names.{is_same_name}
use Rattle.pack_model.specs.reading.Namings.{Naming, alike, clashes, descriptor_name, fits, is_kept, is_own, keeps_system, may_stand, sys_dir_name}
use Rattle.pack_model.specs.showing.View.{Home}
use Rattle.scav_pages.specs.pack_laws.proofs.Keys.{is_fid-sym, same_fid}
use Rattle.kept_names.specs.Homes.{StandsFor, considered, is_let, is_taken_in}
use Rattle.kept_names.proofs.Following.{Follows, follow_all, follows_none, let_is_kept}
use Rattle.kept_names.proofs.Scanned.{after, scanned}
use Rattle.kept_names.proofs.Tests.{same_congr}
use Rattle.scav_names.specs.declared.parted.Parted.{Parted}
use Rattle.scav_names.specs.declared.placed.PlacedEntry.{PlacedEntry}
use Rattle.scav_names.specs.Catalogues.{naming_of}
use Rattle.scav_names.specs.Parting.{IsJudged, IsPartedTo, LetsSystem, kept_among, kept_names_of, push_entry, unkept_among}

-- ---- one entry more
pub kept_push : (alive : Fid → Bool) (before : List Naming) (es : List PlacedEntry) (e : PlacedEntry) → kept_among alive before (es ++ e ∷ []) ≡ kept_among alive before es ++ cond (is_kept alive (kept_names_of alive before es) (naming_of e)) (e ∷ []) []
kept_push alive before [] e = refl
kept_push alive before (x ∷ es) e = elim (is_kept alive before (naming_of x)) as (λ b.
    cond b (x ∷ kept_among alive (naming_of x ∷ before) (es ++ e ∷ [])) (kept_among alive before (es ++ e ∷ []))
    ≡ cond b (x ∷ kept_among alive (naming_of x ∷ before) es) (kept_among alive before es) ++ cond (is_kept alive (kept_names_of alive (cond b (naming_of x ∷ before) before) es) (naming_of e)) (e ∷ []) []) [
      | true ↦ ap (λ l. x ∷ l) (kept_push alive (naming_of x ∷ before) es e)
      | false ↦ kept_push alive before es e
    ]

pub unkept_push : (alive : Fid → Bool) (before : List Naming) (es : List PlacedEntry) (e : PlacedEntry) → unkept_among alive before (es ++ e ∷ []) ≡ unkept_among alive before es ++ cond (is_kept alive (kept_names_of alive before es) (naming_of e)) [] (e ∷ [])
unkept_push alive before [] e = refl
unkept_push alive before (x ∷ es) e = elim (is_kept alive before (naming_of x)) as (λ b.
    cond b (unkept_among alive (naming_of x ∷ before) (es ++ e ∷ [])) (x ∷ unkept_among alive before (es ++ e ∷ []))
    ≡ cond b (unkept_among alive (naming_of x ∷ before) es) (x ∷ unkept_among alive before es) ++ cond (is_kept alive (kept_names_of alive (cond b (naming_of x ∷ before) before) es) (naming_of e)) [] (e ∷ [])) [
      | true ↦ unkept_push alive (naming_of x ∷ before) es e
      | false ↦ ap (λ l. x ∷ l) (unkept_push alive before es e)
    ]

-- ---- what is kept so far, in the other words
same_after : (alive : Fid → Bool) (before : List Naming) (es : List PlacedEntry) → kept_names_of alive before es ≡ after (is_kept alive) before (map naming_of es)
same_after alive before [] = refl
same_after alive before (e ∷ es) = same_after alive (cond (is_kept alive before (naming_of e)) (naming_of e ∷ before) before) es

follows_so_far : (alive : Fid → Bool) (es : List PlacedEntry) → Follows (kept_names_of alive [] es) (scanned (is_kept alive) [] (map naming_of es)) (fold (considered alive) (empty {R = fid_cmp}) (map naming_of es))
follows_so_far alive es = subst (λ b. Follows b (scanned (is_kept alive) [] (map naming_of es)) (fold (considered alive) (empty {R = fid_cmp}) (map naming_of es))) (sym (same_after alive [] es)) (follow_all alive (map naming_of es) [] [] (empty {R = fid_cmp}) follows_none)

or_false : (b : Bool) → (b || false) ≡ b
or_false true = refl
or_false false = refl

or_assoc : (a b c : Bool) → ((a || b) || c) ≡ (a || (b || c))
or_assoc true b c = refl
or_assoc false b c = refl

and_true : (b : Bool) → (b && true) ≡ b
and_true true = refl
and_true false = refl

and_dead : (b : Bool) → (b && false) ≡ false
and_dead true = refl
and_dead false = refl

or_swap : (a b c : Bool) → ((a || b) || c) ≡ (b || (a || c))
or_swap true true c = refl
or_swap true false c = refl
or_swap false b c = refl

-- a file has an entry among them
pub named_among : (alive : Fid → Bool) (f : Fid) (before : List Naming) (es : List PlacedEntry) → list_any (λ n. is_fid n.fid f) (kept_names_of alive before es) ≡ (list_any (λ n. is_fid n.fid f) before || list_any (λ e. is_fid e.fid f) (kept_among alive before es))
named_among alive f before [] = sym (or_false (list_any (λ n. is_fid n.fid f) before))
named_among alive f before (e ∷ es) = elim (is_kept alive before (naming_of e)) as (λ b.
    list_any (λ n. is_fid n.fid f) (kept_names_of alive (cond b (naming_of e ∷ before) before) es) ≡ (list_any (λ n. is_fid n.fid f) before || list_any (λ e. is_fid e.fid f) (cond b (e ∷ kept_among alive (naming_of e ∷ before) es) (kept_among alive before es)))) [
      | true ↦ named_among alive f (naming_of e ∷ before) es ∙ or_swap (is_fid e.fid f) (list_any (λ n. is_fid n.fid f) before) (list_any (λ e. is_fid e.fid f) (kept_among alive (naming_of e ∷ before) es))
      | false ↦ named_among alive f before es
    ]

-- ---- an entry of a system file
-- all that are kept keep the names of the system files apart
AreApart : List Naming → Type 0
AreApart [] = Unit {0}
AreApart (n ∷ ns) = (keeps_system n ≡ true) × AreApart ns

kept_apart : (alive : Fid → Bool) (before : List Naming) (es : List PlacedEntry) → AreApart before → AreApart (kept_names_of alive before es)
unfolding AreApart
kept_apart alive before [] h = h
kept_apart alive before (e ∷ es) h = by (is_kept alive before (naming_of e)) refl (λ b k. kept_apart alive b es k)
  where
    by : (b : Bool) → is_kept alive before (naming_of e) ≡ b → ((l : List Naming) → AreApart l → AreApart (kept_names_of alive l es)) → AreApart (kept_names_of alive (cond b (naming_of e ∷ before) before) es)
    by true is again = again (naming_of e ∷ before) ((and_parts _ _ (and_parts _ _ (and_parts (may_stand alive (naming_of e)) _ is).0).1).1, h)
    by false is again = again before h

alike_false : (a b : Bool) → a ≡ false → alike a b ≡ true → b ≡ false
alike_false true b e h = cc
alike_false false true e h = cc
alike_false false false e h = refl

own_congr : (nm : List ℕ) (x e : Naming) → is_fid x.dir e.dir ≡ true → is_same_name x.name e.name ≡ true → is_own nm x ≡ is_own nm e
own_congr nm x e d n = let same = same_fid x.dir e.dir d in λ i. is_fid (same i) sys_dir && same_congr x.name e.name nm n i

own_named : (nm : List ℕ) (e n : Naming) (f : Bool) → alike f (is_own nm n) ≡ true → is_own nm e ≡ true → (is_fid e.dir n.dir && is_same_name e.name n.name) ≡ true → f ≡ true
own_named nm e n true keeps own both = refl
own_named nm e n false keeps own both =
    let parts = and_parts (is_fid e.dir n.dir) (is_same_name e.name n.name) both in
    let h : is_own nm n ≡ true = sym (own_congr nm e n parts.0 parts.1) ∙ own in
    absurd (let x : not true ≡ true = sym (ap not h) ∙ keeps in cc)

or_only : (a b : Bool) → (b ≡ true → a ≡ true) → (a || b) ≡ a
or_only true b h = refl
or_only false true h = absurd (let e = h refl in cc)
or_only false false h = refl

-- a system file, and the name that is its own in SysDir
record IsSystemFile (f : Fid) (nm : List ℕ) : Type 0 where
  system : is_system f ≡ true
  fits_is : (e : Naming) → e.fid ≡ f → fits e ≡ is_own nm e
  keeps : (n : Naming) → keeps_system n ≡ true → alike (is_fid n.fid f) (is_own nm n) ≡ true

clash_is : (f : Fid) (nm : List ℕ) (e : Naming) → IsSystemFile f nm → e.fid ≡ f → is_own nm e ≡ true → (before : List Naming) → AreApart before → list_any (clashes e) before ≡ list_any (λ n. is_fid n.fid f) before
unfolding AreApart
clash_is f nm e h is own [] apart = refl
clash_is f nm e h is own (n ∷ ns) apart =
    let same : is_fid e.fid n.fid ≡ is_fid n.fid f = ap (λ x. is_fid x n.fid) is ∙ is_fid-sym f n.fid in
    let one : clashes e n ≡ is_fid n.fid f = ap (λ b. b || (is_fid e.dir n.dir && is_same_name e.name n.name)) same ∙ or_only (is_fid n.fid f) (is_fid e.dir n.dir && is_same_name e.name n.name) (own_named nm e n (is_fid n.fid f) (h.keeps n apart.0) own) in
    (λ i. one i || clash_is f nm e h is own ns apart.1 i)

system_kept : (alive : Fid → Bool) (f : Fid) (nm : List ℕ) (e : PlacedEntry) (es : List PlacedEntry) → IsSystemFile f nm → LetsSystem alive → e.fid ≡ f
    → is_kept alive (kept_names_of alive [] es) (naming_of e) ≡ (not (list_any (λ x. is_fid x.fid f) (kept_among alive [] es)) && is_own nm (naming_of e))
unfolding AreApart
system_kept alive f nm e es h lets is = by (is_own nm (naming_of e)) refl
  where
    before : List Naming
    before = kept_names_of alive [] es

    lives : alive e.fid ≡ true
    lives = lets e.fid (ap is_system is ∙ h.system)

    stands : may_stand alive (naming_of e) ≡ is_own nm (naming_of e)
    stands = (λ i. lives i && h.fits_is (naming_of e) is i)

    by : (b : Bool) → is_own nm (naming_of e) ≡ b → is_kept alive (kept_names_of alive [] es) (naming_of e) ≡ (not (list_any (λ x. is_fid x.fid f) (kept_among alive [] es)) && is_own nm (naming_of e))
    by false own = ap (λ b. b && not (list_any (clashes (naming_of e)) before)) (stands ∙ own) ∙ sym (ap (λ b. not (list_any (λ x. is_fid x.fid f) (kept_among alive [] es)) && b) own ∙ and_dead (not (list_any (λ x. is_fid x.fid f) (kept_among alive [] es))))
    by true own =
        ap (λ b. b && not (list_any (clashes (naming_of e)) before)) (stands ∙ own)
        ∙ ap not (clash_is f nm (naming_of e) h is own before (kept_apart alive [] es tt) ∙ named_among alive f [] es)
        ∙ sym (ap (λ b. not (list_any (λ x. is_fid x.fid f) (kept_among alive [] es)) && b) own ∙ and_true (not (list_any (λ x. is_fid x.fid f) (kept_among alive [] es))))

-- ---- the two of them
root_alone : (name : List ℕ) → is_same_name name sys_dir_name ≡ true → is_same_name name descriptor_name ≡ false
root_alone name same = same_congr name sys_dir_name descriptor_name same

by_name : (a s d : Bool) → (s ≡ true → d ≡ false) → (a && ((a && s) && not (a && d))) ≡ (a && s)
by_name true true true h = absurd (let e = h refl in cc)
by_name true true false h = refl
by_name true false d h = refl
by_name false s d h = refl

by_other : (a s d : Bool) → (s ≡ true → d ≡ false) → (not (a && s) && (a && d)) ≡ (a && d)
by_other true true true h = absurd (let e = h refl in cc)
by_other true true false h = refl
by_other true false d h = refl
by_other false s d h = refl

root_is_system : IsSystemFile sys_dir sys_dir_name
unfolding keeps_system
root_is_system = record {
  system = refl;
  fits_is = λ e is.
      (λ i. (not (is_directory (is i)) || is_fid e.dir sys_dir) && (alike (is_fid (is i) sys_dir) (is_own sys_dir_name e) && alike (is_fid (is i) disk_descriptor) (is_own descriptor_name e)))
      ∙ by_name (is_fid e.dir sys_dir) (is_same_name e.name sys_dir_name) (is_same_name e.name descriptor_name) (root_alone e.name);
  keeps = λ n h. (and_parts _ _ h).0;
}

descriptor_is_system : IsSystemFile disk_descriptor descriptor_name
unfolding keeps_system
descriptor_is_system = record {
  system = refl;
  fits_is = λ e is.
      (λ i. (not (is_directory (is i)) || is_fid e.dir sys_dir) && (alike (is_fid (is i) sys_dir) (is_own sys_dir_name e) && alike (is_fid (is i) disk_descriptor) (is_own descriptor_name e)))
      ∙ by_other (is_fid e.dir sys_dir) (is_same_name e.name sys_dir_name) (is_same_name e.name descriptor_name) (root_alone e.name);
  keeps = λ n h. (and_parts _ _ h).1;
}

considered_system : (alive : Fid → Bool) (h : FinMap fid_cmp Home) (e : Naming) → is_system e.fid ≡ true → considered alive h e ≡ h
considered_system alive h e system = ap (λ b. cond (not b && may_stand alive e && not (contains_key h e.fid) && not (is_taken_in h e.dir e.name)) (insert h e.fid (record { dir = e.dir; name = e.name })) h) system

-- ---- judged
module _ (alive : Fid → Bool) (es : List PlacedEntry) (e : PlacedEntry) (old new : Parted) (keeps : Bool) (lets : LetsSystem alive) (h : IsPartedTo alive es old) (kept : new.kept ≡ old.kept) (unkept : new.unkept ≡ old.unkept) where
  system_names : is_system e.fid ≡ true → new.names ≡ old.names → StandsFor new.names (considered alive (fold (considered alive) (empty {R = fid_cmp}) (map naming_of es)) (naming_of e))
  system_names system names =
      let homes = fold (considered alive) (empty {R = fid_cmp}) (map naming_of es) in
      subst (StandsFor new.names) (sym (considered_system alive homes (naming_of e) system)) (subst (λ n. StandsFor n homes) (sym names) h.names)

  pub judged_root : e.fid ≡ sys_dir → keeps ≡ (not old.names_root && (is_fid e.dir sys_dir && is_same_name e.name sys_dir_name)) → new.names ≡ old.names → new.names_root ≡ (old.names_root || keeps) → new.names_descriptor ≡ old.names_descriptor → IsJudged alive es e old new keeps
  judged_root is keeps_is names root descriptor = record {
    kept = kept;
    unkept = unkept;
    keeps_is = keeps_is ∙ ap (λ b. not b && is_own sys_dir_name (naming_of e)) h.root ∙ sym (system_kept alive sys_dir sys_dir_name e es root_is_system lets is);
    names = system_names (ap is_system is) names;
    root = root ∙ ap (λ b. old.names_root || b) (sym (ap (λ f. keeps && is_fid f sys_dir) is ∙ and_true keeps));
    descriptor = descriptor ∙ sym (ap (λ b. old.names_descriptor || b) (ap (λ f. keeps && is_fid f disk_descriptor) is ∙ and_dead keeps) ∙ or_false old.names_descriptor);
  }

  pub judged_descriptor : e.fid ≡ disk_descriptor → keeps ≡ (not old.names_descriptor && (is_fid e.dir sys_dir && is_same_name e.name descriptor_name)) → new.names ≡ old.names → new.names_root ≡ old.names_root → new.names_descriptor ≡ (old.names_descriptor || keeps) → IsJudged alive es e old new keeps
  judged_descriptor is keeps_is names root descriptor = record {
    kept = kept;
    unkept = unkept;
    keeps_is = keeps_is ∙ ap (λ b. not b && is_own descriptor_name (naming_of e)) h.descriptor ∙ sym (system_kept alive disk_descriptor descriptor_name e es descriptor_is_system lets is);
    names = system_names (ap is_system is) names;
    root = root ∙ sym (ap (λ b. old.names_root || b) (ap (λ f. keeps && is_fid f sys_dir) is ∙ and_dead keeps) ∙ or_false old.names_root);
    descriptor = descriptor ∙ ap (λ b. old.names_descriptor || b) (sym (ap (λ f. keeps && is_fid f disk_descriptor) is ∙ and_true keeps));
  }

  judged_shown : is_fid e.fid sys_dir ≡ false → is_fid e.fid disk_descriptor ≡ false → keeps ≡ is_let alive (fold (considered alive) (empty {R = fid_cmp}) (map naming_of es)) (naming_of e)
      → StandsFor new.names (considered alive (fold (considered alive) (empty {R = fid_cmp}) (map naming_of es)) (naming_of e)) → new.names_root ≡ old.names_root → new.names_descriptor ≡ old.names_descriptor → IsJudged alive es e old new keeps
  judged_shown no_root no_descriptor keeps_is names root descriptor =
      let other : is_system e.fid ≡ false = (λ i. no_root i || no_descriptor i) in
      record {
        kept = kept;
        unkept = unkept;
        keeps_is = keeps_is ∙ let_is_kept alive (kept_names_of alive [] es) (scanned (is_kept alive) [] (map naming_of es)) (fold (considered alive) (empty {R = fid_cmp}) (map naming_of es)) (follows_so_far alive es) (naming_of e) other;
        names = names;
        root = root ∙ sym (ap (λ b. old.names_root || b) (ap (λ b. keeps && b) no_root ∙ and_dead keeps) ∙ or_false old.names_root);
        descriptor = descriptor ∙ sym (ap (λ b. old.names_descriptor || b) (ap (λ b. keeps && b) no_descriptor ∙ and_dead keeps) ∙ or_false old.names_descriptor);
      }

pub judged_by : (alive : Fid → Bool) (es : List PlacedEntry) (e : PlacedEntry) (old new : Parted) → LetsSystem alive → IsPartedTo alive es old → new.kept ≡ old.kept → new.unkept ≡ old.unkept → is_fid e.fid sys_dir ≡ false → is_fid e.fid disk_descriptor ≡ false
    → (r : Result Bool Memory) → IfOk r (λ keeps. keeps ≡ is_let alive (fold (considered alive) (empty {R = fid_cmp}) (map naming_of es)) (naming_of e))
    → OnOk r (StandsFor new.names (considered alive (fold (considered alive) (empty {R = fid_cmp}) (map naming_of es)) (naming_of e))) → new.names_root ≡ old.names_root → new.names_descriptor ≡ old.names_descriptor → IfOk r (IsJudged alive es e old new)
judged_by alive es e old new lets h kept unkept no_root no_descriptor (Ok keeps) is names root descriptor = judged_shown alive es e old new keeps lets h kept unkept no_root no_descriptor is names root descriptor
judged_by alive es e old new lets h kept unkept no_root no_descriptor (Err m) is names root descriptor = tt

-- ---- and taken to the others
either_kept : (alive : Fid → Bool) (f : Fid) (es : List PlacedEntry) (e : PlacedEntry) (b : Bool) → list_any (λ x. is_fid x.fid f) (es ++ cond b (e ∷ []) []) ≡ (list_any (λ x. is_fid x.fid f) es || (b && is_fid e.fid f))
either_kept alive f [] e true = or_false (is_fid e.fid f) ∙ refl
either_kept alive f [] e false = refl
either_kept alive f (x ∷ es) e b = ap (λ c. is_fid x.fid f || c) (either_kept alive f es e b) ∙ sym (or_assoc (is_fid x.fid f) (list_any (λ x. is_fid x.fid f) es) (b && is_fid e.fid f))

pub entry_parted : (alive : Fid → Bool) (es : List PlacedEntry) (e : PlacedEntry) (old mid new : Parted) (keeps : Bool) → IsPartedTo alive es old → IsJudged alive es e old mid keeps
    → new.kept ≡ mid.kept ++ cond keeps (e ∷ []) [] → new.unkept ≡ mid.unkept ++ cond keeps [] (e ∷ []) → new.names ≡ mid.names → new.names_root ≡ mid.names_root → new.names_descriptor ≡ mid.names_descriptor → IsPartedTo alive (push_entry es e) new
entry_parted alive es e old mid new keeps h j kept unkept names root descriptor =
    let is_kept_now : kept_among alive [] (es ++ e ∷ []) ≡ kept_among alive [] es ++ cond keeps (e ∷ []) [] = kept_push alive [] es e ∙ ap (λ b. kept_among alive [] es ++ cond b (e ∷ []) []) (sym j.keeps_is) in
    let folded : considered alive (fold (considered alive) (empty {R = fid_cmp}) (map naming_of es)) (naming_of e) ≡ fold (considered alive) (empty {R = fid_cmp}) (map naming_of (es ++ e ∷ [])) =
    sym (ap (fold (considered alive) (empty {R = fid_cmp})) (map-append naming_of es (e ∷ [])) ∙ fold_push (considered alive) (empty {R = fid_cmp}) (map naming_of es) (naming_of e)) in
    record {
      kept = kept ∙ ap (λ l. l ++ cond keeps (e ∷ []) []) (j.kept ∙ h.kept) ∙ sym is_kept_now;
      unkept = unkept ∙ ap (λ l. l ++ cond keeps [] (e ∷ [])) (j.unkept ∙ h.unkept) ∙ sym (unkept_push alive [] es e ∙ ap (λ b. unkept_among alive [] es ++ cond b [] (e ∷ [])) (sym j.keeps_is));
      names = subst (λ n. StandsFor n (fold (considered alive) (empty {R = fid_cmp}) (map naming_of (es ++ e ∷ [])))) (sym names) (subst (StandsFor mid.names) folded j.names);
      root = root ∙ j.root ∙ ap (λ b. b || (keeps && is_fid e.fid sys_dir)) h.root ∙ sym (ap (list_any (λ x. is_fid x.fid sys_dir)) is_kept_now ∙ either_kept alive sys_dir (kept_among alive [] es) e keeps);
      descriptor = descriptor ∙ j.descriptor ∙ ap (λ b. b || (keeps && is_fid e.fid disk_descriptor)) h.descriptor ∙ sym (ap (list_any (λ x. is_fid x.fid disk_descriptor)) is_kept_now ∙ either_kept alive disk_descriptor (kept_among alive [] es) e keeps);
    }
