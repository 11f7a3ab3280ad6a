-- What is shown of a pack is shown of it as the Scavenger finds it when it enters names.
use Rattle.std.proofs.Common.{◌&&◌, ◌++◌, ◌||◌, ◌∙◌, ◌∷◌, ◌≡◌, Bool, Equal, Greater, Less, List, None, Option, Some, T, [], ap, cond, false, not, refl, subst, sym, true, ℕ}
use mathlib.Core.Path.{fun_ext}
use Rattle.std.specs.FinMap.{entries, entries-insert, entries_sorted, find, from_entries, get, get-entries, get-from_entries, get-insert, insert, is_sorted, retain_keys, same_map}
use Rattle.std.specs.FinMap.Entries.{below_all, by_order, put, same_entries}
use Rattle.std.specs.Option.{option_map}
use Rattle.std.specs.Ordering.{is_eq, is_lt}
use Rattle.pack_laws.specs.alto_words.specs.Fid.{disk_descriptor, fid_cmp, is_fid, is_system, sys_dir}
use Rattle.pack_laws.specs.alto_words.specs.declared.fid.Fid.{Fid}
use Rattle.pack_laws.specs.disk_records.specs.declared.shape.Shape.{Shape}
use Rattle.pack_laws.specs.pack_model.specs.reading.Bodies.{Body, File, Files, described}
use Rattle.pack_laws.specs.pack_model.specs.reading.Bodies.Body.{data_of, items_of}
use Rattle.pack_laws.specs.pack_model.specs.reading.Files.{lives}
use Rattle.pack_laws.specs.pack_model.specs.sessions.Maps.{map_values}
use Rattle.pack_laws.specs.pack_model.specs.scavenger.Mended.{mended, root_body, root_file, rooted, with_system}
use Rattle.pack_laws.specs.pack_model.specs.reading.Model.{read_sights}
use Rattle.pack_laws.specs.pack_model.specs.reading.Namings.{Naming, body_kept, body_namings, descriptor_name, files_kept, fits, is_kept, is_own, kept_after_body, namings, sys_dir_name, tidied}
use Rattle.pack_laws.specs.pack_model.specs.reading.Sights.{Sight}
use Rattle.pack_laws.specs.pack_model.specs.showing.View.{Home, homes, seen_body, seen_of, view}
use Rattle.pack_laws.specs.pack_model.specs.states.Whole.{living_too}
use Rattle.laws_record.proofs.Around.{around}
use Rattle.laws_record.proofs.Dropping.{others}
use Rattle.laws_record.proofs.Fitting.{fits_own, fits_root}
use Rattle.laws_record.proofs.Keeping.{get-where}
use Rattle.pack_laws.proofs.Keys.{fid_same, fid_total, same_fid}
use Rattle.pack_laws.proofs.Mapping.{get-map_values}
use Rattle.laws_record.proofs.Viewing.{same_view}
use Rattle.laws_record.proofs.inside.Waking.{names_alike}
use Rattle.laws_record.proofs.Tidying.{or_false_left, or_false_right}

-- ---- the scan keeps the keys in order
below-kept : (ok : List Naming → Naming → Bool) (k : Fid) (b : List Naming) (es : List (Fid × File)) → below_all fid_cmp k (files_kept ok b es) ≡ below_all fid_cmp k es
below-kept ok k b [] = refl
below-kept ok k b (e ∷ es) = ap (λ r. is_lt (fid_cmp k e.0) && r) (below-kept ok k (kept_after_body ok e.0 b e.1.body) es)

-- so all are in order
sorted-kept : (ok : List Naming → Naming → Bool) (b : List Naming) (es : List (Fid × File)) → is_sorted fid_cmp (files_kept ok b es) ≡ is_sorted fid_cmp es
sorted-kept ok b [] = refl
sorted-kept ok b (e ∷ es) = ap (λ r. r && is_sorted fid_cmp (files_kept ok (kept_after_body ok e.0 b e.1.body) es)) (below-kept ok e.0 (kept_after_body ok e.0 b e.1.body) es) ∙ ap (λ r. below_all fid_cmp e.0 es && r) (sorted-kept ok (kept_after_body ok e.0 b e.1.body) es)

-- the entries of the files that it leaves
pub entries-tidied : (v : Fid → Bool) (files : Files) → entries (tidied v files) ≡ files_kept (is_kept v) [] (entries files)
unfolding tidied
entries-tidied v files = same_entries fid_cmp fid_total fid_same _ _ (entries_sorted (from_entries {R = fid_cmp} (files_kept (is_kept v) [] (entries files)))) (subst T (sym (sorted-kept (is_kept v) [] (entries files))) (entries_sorted files))
    (λ q. sym (get-entries (from_entries {R = fid_cmp} (files_kept (is_kept v) [] (entries files))) q) ∙ get-from_entries fid_total (files_kept (is_kept v) [] (entries files)) q)

-- ---- leaders and bytes are not the scan's
find-seen : (ok : List Naming → Naming → Bool) (q : Fid) (b : List Naming) (es : List (Fid × File)) → option_map (seen_of q) (find fid_cmp q (files_kept ok b es)) ≡ option_map (seen_of q) (find fid_cmp q es)
find-seen ok q b [] = refl
find-seen ok q b (e ∷ es) = elim (is_fid q e.0) as (λ c. option_map (seen_of q) (cond c (Some (record { leader = e.1.leader; body = body_kept ok e.0 b e.1.body })) (find fid_cmp q (files_kept ok (kept_after_body ok e.0 b e.1.body) es))) ≡ option_map (seen_of q) (cond c (Some e.1) (find fid_cmp q es))) [
  | true ↦ ap (λ s. Some (record { leader = e.1.leader; bytes = s })) (same e.1.body)
  | false ↦ find-seen ok q (kept_after_body ok e.0 b e.1.body) es
]
  where
    same : (x : Body) → seen_body (body_kept ok e.0 b x) ≡ seen_body x
    same (data_of bytes) = refl
    same (items_of is) = refl

-- also in the map
pub get-seen : (v : Fid → Bool) (files : Files) (q : Fid) → option_map (seen_of q) (get (tidied v files) q) ≡ option_map (seen_of q) (get files q)
unfolding tidied
get-seen v files q = ap (option_map (seen_of q)) (get-from_entries fid_total (files_kept (is_kept v) [] (entries files)) q) ∙ find-seen (is_kept v) q [] (entries files) ∙ ap (option_map (seen_of q)) (sym (get-entries files q))

-- ---- names, by the file that is named
pub find-others : (q f : Fid) → is_fid q f ≡ false → (ns : List Naming) → find fid_cmp q (homes (others f ns)) ≡ find fid_cmp q (homes ns)
find-others q f other [] = refl
find-others q f other (n ∷ ns) =
    let rest = find-others q f other ns in
    let h : Home = record { dir = n.dir; name = n.name } in
    elim (is_fid n.fid f) as (λ b. is_fid n.fid f ≡ b → find fid_cmp q (homes (cond b (others f ns) (n ∷ others f ns))) ≡ cond (is_fid q n.fid) (Some h) (find fid_cmp q (homes ns))) [
      | true ↦ λ e. rest ∙ sym (ap (λ b. cond b (Some h) (find fid_cmp q (homes ns))) (ap (is_fid q) (same_fid n.fid f e) ∙ other))
      | false ↦ λ e. ap (cond (is_fid q n.fid) (Some h)) rest
    ] refl

-- where a file is named
abbrev name_of : (Fid → Bool) → List (Fid × File) → Fid → Option Home
name_of v es q = find fid_cmp q (homes (namings (files_kept (is_kept v) [] es)))

-- a system file that lives changes the name of no other
one_alive : (f : Fid) (name : List ℕ) (own : (e : Naming) → fits e ≡ true → is_fid e.fid f ≡ is_own name e) (v : Fid → Bool) (es : List (Fid × File)) (q : Fid) → is_fid q f ≡ false → name_of v es q ≡ name_of (living_too f v) es q
one_alive f name own v es q other = by (v f) refl
  where
    by : (b : Bool) → v f ≡ b → name_of v es q ≡ name_of (living_too f v) es q
    by false dead = ap (λ ns. find fid_cmp q (homes ns)) (names_alike f name own v dead es [] tt) ∙ find-others q f other _
    by true alive = ap (λ w. name_of w es q) (fun_ext (λ g. elim (is_fid g f) as (λ b. is_fid g f ≡ b → v g ≡ cond b true (v g)) [ true ↦ λ e. ap v (same_fid g f e) ∙ alive | false ↦ λ e. refl ] refl))

-- one test in another
or_cond : (a b c : Bool) → cond (a || b) true c ≡ cond a true (cond b true c)
or_cond true b c = refl
or_cond false true c = refl
or_cond false false c = refl

-- both system files live
both_alive : (v : Fid → Bool) → with_system v ≡ living_too sys_dir (living_too disk_descriptor v)
both_alive v = fun_ext (λ g. or_cond (is_fid g sys_dir) (is_fid g disk_descriptor) (v g))

-- so both change the name of no other
names_stay : (v : Fid → Bool) (es : List (Fid × File)) (q : Fid) → is_system q ≡ false → name_of v es q ≡ name_of (with_system v) es q
names_stay v es q e =
    one_alive disk_descriptor descriptor_name fits_own v es q (or_false_right (is_fid q sys_dir) _ e)
    ∙ one_alive sys_dir sys_dir_name fits_root (living_too disk_descriptor v) es q (or_false_left (is_fid q sys_dir) (is_fid q disk_descriptor) e)
    ∙ ap (λ w. name_of w es q) (sym (both_alive v))

-- ---- a fresh SysDir has no entries, and its leader counts nowhere
fresh_names : (ok : List Naming → Naming → Bool) (b : List Naming) (es : List (Fid × File)) → find fid_cmp sys_dir es ≡ None → namings (files_kept ok b (put fid_cmp sys_dir (root_file (root_body None)) es)) ≡ namings (files_kept ok b es)
fresh_names ok b [] none = refl
fresh_names ok b (e ∷ es) none =
    let x : File = root_file (root_body None) in
    elim (fid_cmp sys_dir e.0) as (λ r. cond (is_eq r) (Some e.1) (find fid_cmp sys_dir es) ≡ None → namings (files_kept ok b (by_order r ((sys_dir, x) ∷ e ∷ es) ((e.0, x) ∷ es) (e ∷ put fid_cmp sys_dir x es))) ≡ namings (files_kept ok b (e ∷ es))) [
      | Less ↦ λ n. refl
      | Equal ↦ λ n. absurd (let m : Some e.1 ≡ None = n in cc)
      | Greater ↦ λ n. ap (λ x. body_namings e.0 (body_kept ok e.0 b e.1.body) ++ x) (fresh_names ok (kept_after_body ok e.0 b e.1.body) es n)
    ] none

-- SysDir in its place
rooted_names : (ok : List Naming → Naming → Bool) (files : Files) → namings (files_kept ok [] (entries (rooted files))) ≡ namings (files_kept ok [] (entries files))
rooted_names ok files = by (get files sys_dir) refl
  where
    by : (r : Option File) → get files sys_dir ≡ r → namings (files_kept ok [] (entries (insert files sys_dir (root_file (root_body r))))) ≡ namings (files_kept ok [] (entries files))
    by (Some x) e =
        let r = around fid_total fid_same files sys_dir x e in
        ap (λ es. namings (files_kept ok [] es)) (entries-insert fid_total files sys_dir (root_file x.body) ∙ r.now (root_file x.body))
        ∙ same r.front [] r.back x ∙ ap (λ es. namings (files_kept ok [] es)) (sym r.was)
      where
        same : (a : List (Fid × File)) (b : List Naming) (c : List (Fid × File)) (x : File) → namings (files_kept ok b (a ++ (sys_dir, root_file x.body) ∷ c)) ≡ namings (files_kept ok b (a ++ (sys_dir, x) ∷ c))
        same [] b c x = refl
        same (y ∷ a) b c x = ap (λ r. body_namings y.0 (body_kept ok y.0 b y.1.body) ++ r) (same a (kept_after_body ok y.0 b y.1.body) c x)
    by None e = ap (λ es. namings (files_kept ok [] es)) (entries-insert fid_total files sys_dir _) ∙ fresh_names ok [] (entries files) (sym (get-entries files sys_dir) ∙ e)

-- ---- together
shown_files : (v : Fid → Bool) (files : Files) → retain_keys (map_values {R = fid_cmp} seen_of (tidied (with_system v) (rooted files))) (λ f. not (is_system f)) ≡ retain_keys (map_values seen_of (tidied v files)) (λ f. not (is_system f))
shown_files v files = same_map fid_total fid_same _ _ (λ q. get-where _ (λ f. not (is_system f)) q ∙ at q ∙ sym (get-where _ (λ f. not (is_system f)) q))
  where
    look : (w : Fid → Bool) (m : Files) (q : Fid) → get (map_values {R = fid_cmp} seen_of (tidied w m)) q ≡ option_map (seen_of q) (get m q)
    look w m q = get-map_values fid_total fid_same seen_of (tidied w m) q ∙ get-seen w m q

    at : (q : Fid) → cond (not (is_system q)) (get (map_values {R = fid_cmp} seen_of (tidied (with_system v) (rooted files))) q) None ≡ cond (not (is_system q)) (get (map_values {R = fid_cmp} seen_of (tidied v files)) q) None
    at q = elim (is_system q) as (λ b. is_system q ≡ b → cond (not b) (get (map_values {R = fid_cmp} seen_of (tidied (with_system v) (rooted files))) q) None ≡ cond (not b) (get (map_values {R = fid_cmp} seen_of (tidied v files)) q) None) [
      | true ↦ λ e. refl
      | false ↦ λ e. look (with_system v) (rooted files) q ∙ ap (option_map (seen_of q)) (get-insert fid_total files sys_dir _ q ∙ ap (λ b. cond b (Some (root_file (root_body (get files sys_dir)))) (get files q)) (or_false_left (is_fid q sys_dir) (is_fid q disk_descriptor) e)) ∙ sym (look v files q)
    ] refl

-- the same names
shown_names : (v : Fid → Bool) (files : Files) → retain_keys (from_entries {R = fid_cmp} (homes (namings (entries (tidied (with_system v) (rooted files)))))) (λ f. not (is_system f)) ≡ retain_keys (from_entries (homes (namings (entries (tidied v files))))) (λ f. not (is_system f))
shown_names v files = same_map fid_total fid_same _ _ (λ q. get-where _ (λ f. not (is_system f)) q ∙ at q ∙ sym (get-where _ (λ f. not (is_system f)) q))
  where
    look : (ns : List Naming) (q : Fid) → get (from_entries {R = fid_cmp} (homes ns)) q ≡ find fid_cmp q (homes ns)
    look ns q = get-from_entries fid_total (homes ns) q

    at : (q : Fid) → cond (not (is_system q)) (get (from_entries {R = fid_cmp} (homes (namings (entries (tidied (with_system v) (rooted files)))))) q) None ≡ cond (not (is_system q)) (get (from_entries {R = fid_cmp} (homes (namings (entries (tidied v files))))) q) None
    at q = elim (is_system q) as (λ b. is_system q ≡ b → cond (not b) (get (from_entries {R = fid_cmp} (homes (namings (entries (tidied (with_system v) (rooted files)))))) q) None ≡ cond (not b) (get (from_entries {R = fid_cmp} (homes (namings (entries (tidied v files))))) q) None) [
      | true ↦ λ e. refl
      | false ↦ λ e.
          look _ q
          ∙ ap (λ es. find fid_cmp q (homes (namings es))) (entries-tidied (with_system v) (rooted files))
          ∙ ap (λ ns. find fid_cmp q (homes ns)) (rooted_names (is_kept (with_system v)) files)
          ∙ sym (names_stay v (entries files) q e)
          ∙ sym (ap (λ es. find fid_cmp q (homes (namings es))) (entries-tidied v files))
          ∙ sym (look _ q)
    ] refl

-- the mended pack is viewed the same, on any pack
pub mended_view : (shape : Shape) (ss : List Sight) → view (mended shape ss) ≡ view (read_sights shape ss)
unfolding view mended read_sights
mended_view shape ss = same_view _ _ _ _ (shown_files (lives ss) (described ss)) (shown_names (lives ss) (described ss))
