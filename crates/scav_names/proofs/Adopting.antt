-- The entries that SysDir lacks, by the living files one after another.
use Rattle.std.proofs.Common.{◌≡◌, ℕ, suc, ◌+◌, ◌<◌, ◌≤◌, Bool, true, false, cond, not, List, [], ◌∷◌, ◌++◌, length, get_or, drop, map, Option, Some, None, refl, sym, ap, subst, ◌∙◌, append_assoc, append-nil, drop-cons, arith}
use Rattle.std.specs.Prelude.{◌||◌, fold}
use Rattle.std.specs.Option.{is_some, option_map_or}
use Rattle.std.specs.FinMap.{FinMap, contains_key, empty, entries, insert}
use Rattle.std.specs.FinMap.Entries.{where_key}
use Rattle.std.proofs.lemmas.List.{drop_all}
use Rattle.alto_words.specs.declared.fid.Fid.{Fid}
use Rattle.alto_words.specs.Fid.{disk_descriptor, fid_cmp, is_fid, is_system, sys_dir}
use Rattle.disk_records.specs.Packs.{Pack}
use Rattle.scav_pages.specs.laws_record.proofs.Mending.{entries-tidied, mended_view}
use Rattle.laws_room.specs.NextLaws.{mended_pack}
use Rattle.scav_pages.specs.pack_laws.proofs.ByLists.{described_list, found_list, is_shown, puts, seen_list}
use Rattle.scav_pages.specs.pack_laws.proofs.Keys.{same_fid}
use Rattle.scav_pages.specs.pack_laws.proofs.Placing.{leader_of_place}
use Rattle.pack_model.specs.reading.Bodies.{File, described, file_of, found, is_described}
use Rattle.pack_model.specs.reading.Files.{lives, place}
use Rattle.pack_model.specs.reading.Leaders.{Leader}
use Rattle.pack_model.specs.reading.Model.{is_named, read_sights}
use Rattle.pack_model.specs.reading.Namings.{Naming, body_kept, descriptor_name, files_kept, is_kept, kept_after_body, sys_dir_name}
use Rattle.pack_model.specs.reading.Sights.{Sight, sights}
use Rattle.pack_model.specs.reading.Stored.{leader_entries, stored_file}
use Rattle.pack_model.specs.scavenger.Mended.{lacking}
use Rattle.pack_model.specs.sessions.Maps.{map_entries}
use Rattle.pack_model.specs.showing.Settling.{adopted, chosen, given_names, unless}
use Rattle.pack_model.specs.showing.View.{Home, Seen, seen_of, view}
use Rattle.scav_pages.specs.Fresh.{own_name}
use Rattle.kept_names.specs.declared.names.Names.{Names}
use Rattle.kept_names.specs.declared.passed.Passed.{Passed}
use Rattle.kept_names.specs.Homes.{StandsFor, considered}
use Rattle.kept_names.specs.Passed.{IsPassed}
use Rattle.scav_names.specs.declared.living.Living.{Living}
use Rattle.scav_names.specs.declared.parted.Parted.{Parted}
use Rattle.scav_names.specs.Adopting.{Knows, all_entered, entered_then, named_then}
use Rattle.scav_names.specs.Catalogues.{naming_of, pack_entries}
use Rattle.scav_names.specs.Lacking.{lacking_file, lacking_files, system_living}
use Rattle.scav_names.specs.Living.{leader_sector, living_files, living_in, living_of}
use Rattle.scav_names.specs.Parting.{IsParted, lives_then}
use Rattle.scav_names.proofs.LivingFiles.{living_found}
use Rattle.scav_names.proofs.MendedEntries.{mended_named, mended_names}

-- ---- one file
abbrev pub plain_seen : List ℕ → Seen
plain_seen name = record { leader = record { created = 0; written = 0; read = 0; name = name; rest = [] }; bytes = None }

pub knows_then : (homes : FinMap fid_cmp Home) (x : Living) (names : Names) (passed : Passed) → is_system x.fid ≡ false → StandsFor names (adopted homes (x.fid, plain_seen x.name)) → IsPassed (adopted homes (x.fid, plain_seen x.name)) passed → Knows (named_then homes x) names passed
knows_then homes x names passed other stands are =
    subst (λ b. Knows (cond b homes (cond (contains_key homes x.fid) homes (insert homes x.fid (record { dir = sys_dir; name = chosen homes x.name })))) names passed) (sym other) (record { names_are = stands; passed_are = are })

-- ---- the files that are seen are the living ones
living_list : List Sight → List (Fid × Leader) → List Living
living_list ss ls = map (living_of ss) (map_entries file_of (map_entries (stored_file ss) ls))

seen_kept : List Sight → (List Naming → Naming → Bool) → List Naming → List (Fid × Leader) → List (Fid × Seen)
seen_kept ss ok before ls = where_key fid_cmp is_shown (map_entries seen_of (files_kept ok before (where_key fid_cmp is_described (map_entries file_of (map_entries (stored_file ss) ls)))))

system_or : (f : Fid) → is_fid f disk_descriptor ≡ true → is_system f ≡ true
system_or f e = ap (λ b. is_fid f sys_dir || b) e ∙ by (is_fid f sys_dir)
  where
    by : (b : Bool) → (b || true) ≡ true
    by true = refl
    by false = refl

passed_over : (homes : FinMap fid_cmp Home) (x : Living) (xs : List Living) → is_system x.fid ≡ true → all_entered homes (x ∷ xs) ≡ all_entered homes xs
passed_over homes x xs e = λ i. cond {A = List Living} (e i) [] (cond (contains_key homes x.fid) [] (record { fid = x.fid; leader_at = x.leader_at; name = chosen homes x.name } ∷ [])) ++ all_entered (cond (e i) homes (cond (contains_key homes x.fid) homes (insert homes x.fid (record { dir = sys_dir; name = chosen homes x.name })))) xs

entered_next : (homes : FinMap fid_cmp Home) (x : Living) (xs : List Living) → is_system x.fid ≡ false
    → all_entered homes (x ∷ xs) ≡ cond (contains_key homes x.fid) [] (record { fid = x.fid; leader_at = x.leader_at; name = chosen homes x.name } ∷ []) ++ all_entered (cond (contains_key homes x.fid) homes (insert homes x.fid (record { dir = sys_dir; name = chosen homes x.name }))) xs
entered_next homes x xs e = λ i. cond {A = List Living} (e i) [] (cond (contains_key homes x.fid) [] (record { fid = x.fid; leader_at = x.leader_at; name = chosen homes x.name } ∷ [])) ++ all_entered (cond (e i) homes (cond (contains_key homes x.fid) homes (insert homes x.fid (record { dir = sys_dir; name = chosen homes x.name })))) xs

given_entered : (p : Pack) (ok : List Naming → Naming → Bool) (homes : FinMap fid_cmp Home) (before : List Naming) (ls : List (Fid × Leader)) → map (lacking_file p) (given_names homes (seen_kept (sights p) ok before ls)) ≡ all_entered homes (living_list (sights p) ls)
unfolding living_list seen_kept
given_entered p ok homes before [] = refl
given_entered p ok homes before ((f, l) ∷ ls) = by (is_fid f disk_descriptor) refl (λ h b. given_entered p ok h b ls)
  where
    ss : List Sight
    ss = sights p

    x : Living
    x = record { fid = f; leader_at = leader_sector ss f; name = l.name }

    file : File
    file = file_of f (stored_file ss f l)

    rest : List (Fid × File)
    rest = where_key fid_cmp is_described (map_entries file_of (map_entries (stored_file ss) ls))

    Again : Type 0
    Again = (h : FinMap fid_cmp Home) (b : List Naming) → map (lacking_file p) (given_names h (seen_kept ss ok b ls)) ≡ all_entered h (living_list ss ls)

    given_one : Again → (c : Bool) (name : List ℕ) (h : FinMap fid_cmp Home) (b : List Naming) → map (lacking_file p) (unless c (f, name) (given_names h (seen_kept ss ok b ls))) ≡ cond c [] (record { fid = f; leader_at = leader_sector ss f; name = name } ∷ []) ++ all_entered h (living_list ss ls)
    given_one again true name h b = again h b
    given_one again false name h b = ap (λ l. record { fid = f; leader_at = leader_sector ss f; name = name } ∷ l) (again h b)

    shown : Again → (s : Bool) → is_system f ≡ s
        → map (lacking_file p) (given_names homes (cond (not s) ((f, seen_of f (record { leader = file.leader; body = body_kept ok f before file.body })) ∷ seen_kept ss ok (kept_after_body ok f before file.body) ls) (seen_kept ss ok (kept_after_body ok f before file.body) ls)))
        ≡ all_entered homes (x ∷ living_list ss ls)
    shown again true e = again homes (kept_after_body ok f before file.body) ∙ sym (passed_over homes x (living_list ss ls) e)
    shown again false e = given_one again (contains_key homes f) (chosen homes l.name) (cond (contains_key homes f) homes (insert homes f (record { dir = sys_dir; name = chosen homes l.name }))) (kept_after_body ok f before file.body) ∙ sym (entered_next homes x (living_list ss ls) e)

    by : (d : Bool) → is_fid f disk_descriptor ≡ d → Again
        → map (lacking_file p) (given_names homes (where_key fid_cmp is_shown (map_entries seen_of (files_kept ok before (cond (not d) ((f, file) ∷ rest) rest))))) ≡ all_entered homes (x ∷ living_list ss ls)
    by true e again = again homes before ∙ sym (passed_over homes x (living_list ss ls) (system_or f e))
    by false e again = shown again (is_system f) refl

seen_files : (p : Pack) → entries (view (mended_pack p)).files ≡ seen_kept (sights p) (is_kept (lives (sights p))) [] (puts fid_cmp (leader_entries (sights p)))
unfolding seen_kept read_sights
seen_files p =
    ap (λ v. entries v.files) (mended_view p.shape (sights p))
    ∙ seen_list (read_sights p.shape (sights p))
    ∙ ap (λ es. where_key fid_cmp is_shown (map_entries seen_of es)) (entries-tidied (lives (sights p)) (described (sights p)) ∙ ap (files_kept (is_kept (lives (sights p))) []) (described_list (sights p)))

living_by_leaders : (p : Pack) → living_files p ≡ living_list (sights p) (puts fid_cmp (leader_entries (sights p)))
unfolding living_list
living_by_leaders p = ap (map (living_of (sights p))) (found_list (sights p))

-- ---- the system files
some_leader : (ss : List Sight) (f : Fid) (o : Option ℕ) → place ss f 0 ≡ o → lives ss f ≡ false → option_map_or (λ at. at) o 0 ≡ 0
some_leader ss f None e dead = refl
some_leader ss f (Some at) e dead = absurd (let h : true ≡ false = sym (ap is_some (leader_of_place ss f at e).leader_is) ∙ dead in cc)

-- where a living file is found in memory, its leader page's sector is known
system_at : (p : Pack) (f : Fid) → option_map_or (λ x. x.leader_at) (living_in (living_files p) f) 0 ≡ leader_sector (sights p) f
system_at p f = by (living_in (living_files p) f) refl (living_found p f)
  where
    found_one : (es : List (Fid × File)) (x : Living) → living_in (map (living_of (sights p)) es) f ≡ Some x → x.leader_at ≡ leader_sector (sights p) f
    found_one [] x e = absurd cc
    found_one (e ∷ es) x is = elim (is_fid f e.0) as (λ b. is_fid f e.0 ≡ b → cond b (Some (living_of (sights p) e)) (living_in (map (living_of (sights p)) es) f) ≡ Some x → x.leader_at ≡ leader_sector (sights p) f) [
      | true ↦ λ same h. let one : living_of (sights p) e ≡ x = cc in sym (ap (λ y. y.leader_at) one) ∙ ap (leader_sector (sights p)) (sym (same_fid f e.0 same))
      | false ↦ λ other h. found_one es x h
    ] refl is

    by : (o : Option Living) → living_in (living_files p) f ≡ o → is_some o ≡ lives (sights p) f → option_map_or (λ x. x.leader_at) o 0 ≡ leader_sector (sights p) f
    by None e dead = sym (some_leader (sights p) f (place (sights p) f 0) refl (sym dead))
    by (Some x) e lives_is = found_one (entries (found (sights p))) x e

pub system_lacking : (p : Pack) (files : List Living) (f : Fid) (name : List ℕ) → files ≡ living_files p → own_name f ≡ name → system_living files f ≡ lacking_file p (f, name)
system_lacking p files f name are own =
    ap (λ l. system_living l f) are
    ∙ (λ i. record { fid = f; leader_at = system_at p f i; name = own i })

-- ---- all of them
in_turn : (p : Pack) (a b : Bool) (x y : Fid × List ℕ) (zs : List (Fid × List ℕ))
    → map (lacking_file p) (unless a x (unless b y zs)) ≡ (([] ++ unless a (lacking_file p x) []) ++ unless b (lacking_file p y) []) ++ map (lacking_file p) zs
in_turn p true true x y zs = refl
in_turn p true false x y zs = refl
in_turn p false true x y zs = refl
in_turn p false false x y zs = refl

pub lacking_is : (p : Pack) (living : List Living) (parted : Parted) → living ≡ living_files p → IsParted p parted
    → (([] ++ unless parted.names_root (system_living living sys_dir) []) ++ unless parted.names_descriptor (system_living living disk_descriptor) []) ++ all_entered (fold (considered (lives_then p)) (empty {R = fid_cmp}) (map naming_of (pack_entries p))) living ≡ lacking_files p
unfolding lacking
lacking_is p living parted are h =
    let m = mended_pack p in
    let homes = (view m).names in
    let given : map (lacking_file p) (given_names homes (entries (view m).files)) ≡ all_entered homes living =
    ap (λ es. map (lacking_file p) (given_names homes es)) (seen_files p) ∙ given_entered p (is_kept (lives (sights p))) homes [] (puts fid_cmp (leader_entries (sights p))) ∙ ap (all_entered homes) (sym (living_by_leaders p) ∙ sym are) in
    let root = system_lacking p living sys_dir sys_dir_name are refl in
    let descriptor = system_lacking p living disk_descriptor descriptor_name are refl in
    (λ i. (([] ++ unless ((h.root ∙ sym (mended_named p sys_dir)) i) (root i) []) ++ unless ((h.descriptor ∙ sym (mended_named p disk_descriptor)) i) (descriptor i) []) ++ all_entered (mended_names p i) living)
    ∙ ap (λ l. (([] ++ unless (is_named m sys_dir) (lacking_file p (sys_dir, sys_dir_name)) []) ++ unless (is_named m disk_descriptor) (lacking_file p (disk_descriptor, descriptor_name)) []) ++ l) (sym given)
    ∙ sym (in_turn p (is_named m sys_dir) (is_named m disk_descriptor) (sys_dir, sys_dir_name) (disk_descriptor, descriptor_name) (given_names homes (entries (view m).files)))

-- So many files were asked, and these came of them.
pub record IsAdopting (files : List Living) (names : Names) (passed : Passed) (living : List Living) (i : ℕ) (all : List Living) : Type 0 where
  pub homes : FinMap fid_cmp Home
  pub knows : Knows homes names passed
  pub sum : files ++ all_entered homes (drop i living) ≡ all

pub adopting_none : (files : List Living) (names : Names) (passed : Passed) (living : List Living) (homes : FinMap fid_cmp Home) → StandsFor names homes → IsPassed homes passed → IsAdopting files names passed living 0 (files ++ all_entered homes living)
adopting_none files names passed living homes stands are = record { homes = homes; knows = record { names_are = stands; passed_are = are }; sum = refl }

pub adopting_more : (files new : List Living) (names then : Names) (passed after : Passed) (living : List Living) (i : ℕ) (x : Living) (all : List Living) (a : IsAdopting files names passed living i all) → i < length living → x ≡ get_or living i x
    → new ≡ files ++ entered_then a.homes x → Knows (named_then a.homes x) then after → IsAdopting new then after living (i + 1) all
adopting_more files new names then passed after living i x all a within here is knows =
    let next : suc i ≡ i + 1 = omega arith in
    let head : drop i living ≡ x ∷ drop (i + 1) living = drop-cons living i x within ∙ ap (λ y. y ∷ drop (suc i) living) (sym here) ∙ ap (λ k. x ∷ drop k living) next in
    record {
      homes = named_then a.homes x;
      knows = knows;
      sum = ap (λ l. l ++ all_entered (named_then a.homes x) (drop (i + 1) living)) is ∙ append_assoc files (entered_then a.homes x) (all_entered (named_then a.homes x) (drop (i + 1) living)) ∙ ap (λ l. files ++ all_entered a.homes l) (sym head) ∙ a.sum;
    }

pub adopting_all : (files : List Living) (names : Names) (passed : Passed) (living : List Living) (i : ℕ) (all : List Living) → length living ≤ i → IsAdopting files names passed living i all → files ≡ all
adopting_all files names passed living i all done a = sym (append-nil files) ∙ ap (λ l. files ++ all_entered a.homes l) (sym (drop_all i living done)) ∙ a.sum
