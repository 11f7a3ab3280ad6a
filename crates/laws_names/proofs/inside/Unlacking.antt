-- Where no entry is lacking each living file has one.
use Rattle.std.proofs.Common.{◌||◌, ◌∙◌, ◌∷◌, ◌≡◌, Bool, List, None, Some, [], ap, arith, cond, false, length, not, refl, subst, sym, true, ℕ}
use Rattle.std.specs.FinMap.{FinMap, contains_key, entries, find, get, get-entries, get-from_entries}
use Rattle.std.specs.FinMap.Entries.{where_key}
use Rattle.std.specs.List.{list_any}
use Rattle.std.specs.Option.{is_some, option_map}
use Rattle.laws_mend.specs.alto_words.specs.Fid.{disk_descriptor, fid_cmp, is_fid, is_system, sys_dir}
use Rattle.laws_mend.specs.alto_words.specs.declared.fid.Fid.{Fid}
use Rattle.laws_mend.specs.disk_records.specs.Packs.{Pack}
use Rattle.laws_mend.specs.pack_model.specs.reading.Bodies.{described}
use Rattle.laws_mend.specs.pack_model.specs.reading.Files.{file_bytes, lives}
use Rattle.laws_mend.specs.pack_model.specs.reading.Model.{Model, is_named, read_as, read_sights}
use Rattle.laws_mend.specs.pack_model.specs.reading.Namings.{Naming, descriptor_name, namings, sys_dir_name, tidied}
use Rattle.laws_mend.specs.pack_model.specs.reading.Sights.{sights}
use Rattle.laws_mend.specs.pack_model.specs.scavenger.Mended.{lacking}
use Rattle.laws_mend.specs.pack_model.specs.sessions.Maps.{map_entries, map_values}
use Rattle.laws_mend.specs.pack_model.specs.showing.Settling.{adopted, chosen, given, given_names, unless}
use Rattle.laws_mend.specs.pack_model.specs.showing.View.{Home, Seen, homes, names_of, seen_of, view}
use Rattle.laws_mend.specs.pack_model.specs.states.InUse.{how_many, one_if}
use Rattle.laws_mend.specs.pack_laws.proofs.ByLists.{is_shown, seen_list}
use Rattle.laws_mend.specs.pack_laws.proofs.Keys.{fid_same, fid_total, is_fid-sym, same_fid}
use Rattle.laws_mend.specs.pack_laws.proofs.Mapping.{get-map_values}
use Rattle.laws_mend.specs.laws_record.proofs.DirReads.{has_leader}
use Rattle.laws_mend.specs.laws_record.proofs.Keeping.{get-where}
use Rattle.laws_mend.specs.laws_record.proofs.Mending.{get-seen}
use Rattle.laws_mend.specs.laws_record.proofs.Reading.{get_by, read_file}
use Rattle.laws_mend.specs.laws_record.proofs.Systemic.{described_get}
use Rattle.laws_mend.specs.laws_record.proofs.Tidying.{or_false_right}
use Rattle.laws_names.proofs.inside.Models.{mended_is_read}
use Rattle.laws_names.specs.LackingLaws.{LackingAreAdopted, NoneLackingIsNamed}

-- ---- an empty list
pub none_unless : {X : Type 0} (b : Bool) (x : X) (xs : List X) → unless b x xs ≡ [] → (b ≡ true) × (xs ≡ [])
none_unless true x xs e = (refl, e)
none_unless false x xs e = absurd cc

-- each file has a name, if none is given
named_all : (names : FinMap fid_cmp Home) (es : List (Fid × Seen)) (f : Fid) (x : Seen) → given_names names es ≡ [] → find fid_cmp f es ≡ Some x → contains_key names f ≡ true
named_all names [] f x e there = absurd cc
named_all names (y ∷ es) f x e there =
    let u = none_unless (contains_key names y.0) (y.0, chosen names y.1.leader.name) (given_names (cond (contains_key names y.0) names (given names y.0 y.1)) es) e in
    let rest : given_names names es ≡ [] = sym (ap (λ c. given_names (cond c names (given names y.0 y.1)) es) u.0) ∙ u.1 in
    by u.0 (named_all names es f x rest) (is_fid f y.0) refl there
  where
    by : contains_key names y.0 ≡ true → (find fid_cmp f es ≡ Some x → contains_key names f ≡ true) → (b : Bool) → is_fid f y.0 ≡ b → cond b (Some y.1) (find fid_cmp f es) ≡ Some x → contains_key names f ≡ true
    by here again true same e = ap (contains_key names) (same_fid f y.0 same) ∙ here
    by here again false same e = again e

-- a file with a home has an entry
home_named : (f : Fid) (ns : List Naming) → is_some (find fid_cmp f (homes ns)) ≡ true → list_any (λ n. is_fid n.fid f) ns ≡ true
home_named f [] e = cc
home_named f (n ∷ ns) e = by (home_named f ns) (is_fid f n.fid) refl e
  where
    by : (is_some (find fid_cmp f (homes ns)) ≡ true → list_any (λ n. is_fid n.fid f) ns ≡ true) → (b : Bool) → is_fid f n.fid ≡ b → is_some (cond b (Some (record { dir = n.dir; name = n.name })) (find fid_cmp f (homes ns))) ≡ true → (is_fid n.fid f || list_any (λ n. is_fid n.fid f) ns) ≡ true
    by again true same e = ap (λ b. b || list_any (λ n. is_fid n.fid f) ns) (is_fid-sym n.fid f ∙ same)
    by again false same e = ap (λ b. b || list_any (λ n. is_fid n.fid f) ns) (is_fid-sym n.fid f ∙ same) ∙ again e

-- so an ordinary file of a model that has a name is named
pub name_named : (m : Model) (f : Fid) → is_system f ≡ false → contains_key (view m).names f ≡ true → is_named m f ≡ true
unfolding view
name_named m f ordinary e =
    home_named f (namings (entries m.files))
    (ap is_some (sym (get-from_entries fid_total (homes (namings (entries m.files))) f)) ∙ sym (ap (λ b. is_some (cond (not b) (get (names_of m.files) f) None)) ordinary) ∙ ap is_some (sym (get-where (names_of m.files) (λ f. not (is_system f)) f)) ∙ e)

-- an ordinary living file is shown
shown_file : (p : Pack) (f : Fid) → is_system f ≡ false → lives (sights p) f ≡ true → (x : Seen) × (find fid_cmp f (entries (view (read_as p)).files) ≡ Some x)
unfolding view read_sights
shown_file p f ordinary live =
    let l = has_leader (sights p) f live in
    let other : is_fid f disk_descriptor ≡ false = or_false_right (is_fid f sys_dir) (is_fid f disk_descriptor) ordinary in
    let there : get (described (sights p)) f ≡ Some (read_file f (file_bytes (sights p) f) l.0) = described_get (sights p) f other ∙ get_by (sights p) f l.0 (file_bytes (sights p) f) l.1 refl in (
      seen_of f (read_file f (file_bytes (sights p) f) l.0),
      sym (get-entries (view (read_as p)).files f)
          ∙ get-where (map_values seen_of (tidied (lives (sights p)) (described (sights p)))) (λ f. not (is_system f)) f
          ∙ ap (λ b. cond (not b) (get (map_values {R = fid_cmp} seen_of (tidied (lives (sights p)) (described (sights p)))) f) None) ordinary
          ∙ get-map_values fid_total fid_same seen_of (tidied (lives (sights p)) (described (sights p))) f
          ∙ get-seen (lives (sights p)) (described (sights p)) f
          ∙ ap (option_map (seen_of f)) there,
    )

-- ---- the law
pub none_lacking_is_named : NoneLackingIsNamed
unfolding lacking
none_lacking_is_named p f m none live =
    let r : Model = read_as p in
    let e : lacking r ≡ [] = sym (mended_is_read p m).lacking_is ∙ none in
    let u = none_unless (is_named r sys_dir) (sys_dir, sys_dir_name) (unless (is_named r disk_descriptor) (disk_descriptor, descriptor_name) (given_names (view r).names (entries (view r).files))) e in
    let v = none_unless (is_named r disk_descriptor) (disk_descriptor, descriptor_name) (given_names (view r).names (entries (view r).files)) u.1 in
    by (is_fid f sys_dir) refl (is_fid f disk_descriptor) refl u.0 v.0 v.1
  where
    by : (a : Bool) → is_fid f sys_dir ≡ a → (b : Bool) → is_fid f disk_descriptor ≡ b → is_named (read_as p) sys_dir ≡ true → is_named (read_as p) disk_descriptor ≡ true → given_names (view (read_as p)).names (entries (view (read_as p)).files) ≡ [] → is_named (read_as p) f ≡ true
    by true x b y root own rest = ap (is_named (read_as p)) (same_fid f sys_dir x) ∙ root
    by false x true y root own rest = ap (is_named (read_as p)) (same_fid f disk_descriptor y) ∙ own
    by false x false y root own rest =
        let ordinary : is_system f ≡ false = (λ i. x i || y i) in
        let s = shown_file p f ordinary live in
        name_named (read_as p) f ordinary (named_all (view (read_as p)).names (entries (view (read_as p)).files) f s.0 rest s.1)

-- ---- how many of them get a name
-- files that are shown are no system files
AllOrdinary : List (Fid × Seen) → Type 0
AllOrdinary [] = Unit {0}
AllOrdinary (e ∷ es) = (is_system e.0 ≡ false) × AllOrdinary es

shown_ordinary : (es : List (Fid × Seen)) → AllOrdinary (where_key fid_cmp is_shown es)
unfolding AllOrdinary
shown_ordinary [] = tt
shown_ordinary (e ∷ es) = by (is_system e.0) refl (shown_ordinary es)
  where
    by : (b : Bool) → is_system e.0 ≡ b → AllOrdinary (where_key fid_cmp is_shown es) → AllOrdinary (cond (not b) (e ∷ where_key fid_cmp is_shown es) (where_key fid_cmp is_shown es))
    by true q rest = rest
    by false q rest = (q, rest)

given_ordinary : (names : FinMap fid_cmp Home) (es : List (Fid × Seen)) → AllOrdinary es → how_many {X = Fid × List ℕ} (λ e. not (is_system e.0)) (given_names names es) ≡ length (given_names names es)
unfolding AllOrdinary
given_ordinary names [] h = refl
given_ordinary names (e ∷ es) h = by (contains_key names e.0) (given_ordinary (adopted names e) es h.1)
  where
    by : (b : Bool) → how_many {X = Fid × List ℕ} (λ e. not (is_system e.0)) (given_names (adopted names e) es) ≡ length (given_names (adopted names e) es)
        → how_many {X = Fid × List ℕ} (λ e. not (is_system e.0)) (unless b (e.0, chosen names e.1.leader.name) (given_names (adopted names e) es)) ≡ length (unless b (e.0, chosen names e.1.leader.name) (given_names (adopted names e) es))
    by true rest = rest
    by false rest = let one : one_if (not (is_system e.0)) ≡ 1 = ap (λ b. one_if (not b)) h.0 in omega arith

-- a system file in front counts nowhere
none_more : (b : Bool) (x : Fid × List ℕ) (xs : List (Fid × List ℕ)) → is_system x.0 ≡ true → how_many {X = Fid × List ℕ} (λ e. not (is_system e.0)) (unless b x xs) ≡ how_many {X = Fid × List ℕ} (λ e. not (is_system e.0)) xs
none_more true x xs system = refl
none_more false x xs system = let none : one_if (not (is_system x.0)) ≡ 0 = ap (λ b. one_if (not b)) system in omega arith

pub lacking_are_adopted : LackingAreAdopted
unfolding lacking
lacking_are_adopted p m =
    let r : Model = read_as p in
    let given : List (Fid × List ℕ) = given_names (view r).names (entries (view r).files) in
    ap (how_many {X = Fid × List ℕ} (λ e. not (is_system e.0))) (mended_is_read p m).lacking_is
    ∙ none_more (is_named r sys_dir) (sys_dir, sys_dir_name) (unless (is_named r disk_descriptor) (disk_descriptor, descriptor_name) given) refl
    ∙ none_more (is_named r disk_descriptor) (disk_descriptor, descriptor_name) given refl
    ∙ given_ordinary (view r).names (entries (view r).files) (subst AllOrdinary (sym (seen_list r)) (shown_ordinary (map_entries seen_of (entries r.files))))
