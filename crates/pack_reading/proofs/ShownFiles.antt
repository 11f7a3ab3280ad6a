-- The files that a sweep kept: those that are found, and those that are shown.
use Rattle.std.proofs.Common.{◌≡◌, ℕ, Bool, true, false, cond, not, List, [], ◌∷◌, map, Option, Some, None, refl, sym, ap, subst, ◌∙◌}
use Rattle.std.specs.Prelude.{T, ◌&&◌, ◌||◌}
use Rattle.std.specs.declared.cmp.Ordering.{Ordering}
use Rattle.std.specs.declared.cmp.Ordering.TheVariants.{Less}
use Rattle.std.specs.Ordering.{is_lt}
use Rattle.std.specs.List.{filter, AllByRecursion}
use Rattle.std.specs.List.Sorted.{IsStrictlySortedBy}
use Rattle.std.specs.Option.{option_map}
use Rattle.std.specs.Map.{lookup, keys_of}
use Rattle.std.specs.BTreeMap as tree
use Rattle.std.specs.BTreeMap.{is_at}
use Rattle.std.specs.FinMap.{FinMap, find, get-entries, entries, entries_sorted, from_entries}
use Rattle.std.specs.FinMap.Entries.{is_sorted, below_all, same_entries, where_key}
use Rattle.alto_words.specs.declared.fid.Fid.{Fid}
use Rattle.alto_words.specs.Fid.{fid_cmp, is_fid, is_directory, sys_dir, disk_descriptor}
use Rattle.disk_records.specs.declared.shape.Shape.{Shape}
use Rattle.leader_page.specs.declared.leader.Leader.{Leader}
use Rattle.pack_model.specs.reading.Leaders as model
use Rattle.pack_model.specs.reading.Bytes.{words_of}
use Rattle.pack_model.specs.reading.Slots.{slots}
use Rattle.pack_model.specs.reading.Sights.{Sight}
use Rattle.pack_model.specs.reading.Files.{leader, lives, page, file_bytes, joined, most_pages}
use Rattle.pack_model.specs.sessions.Maps.{map_entries, map_values}
use Rattle.pack_model.specs.reading.Stored.{StoredFile, files_shown, stored_file, leader_entries}
use Rattle.pack_model.specs.reading.Bodies.{Body, File, file_of, is_described}
use Rattle.pack_model.specs.reading.Bodies.Body.{data_of, items_of}
use Rattle.pack_model.specs.reading.Namings.{Naming, is_kept, files_kept, body_kept, kept_after_body}
use Rattle.pack_model.specs.reading.Model.{read_sights}
use Rattle.pack_model.specs.showing.View.{Seen, view, seen_of, seen_body}
use Rattle.label_sweep.specs.pack_laws.proofs.Keys.{fid_total, fid_same}
use Rattle.label_sweep.specs.pack_laws.proofs.Mapping.{entries-map_values, get-map_values}
use Rattle.label_sweep.specs.pack_laws.proofs.Storing.{get-files_shown}
use Rattle.label_sweep.specs.pack_laws.proofs.ByLists.{seen_list, is_shown as shows}
use Rattle.pack_reading.specs.declared.swept.Leaders.{Leaders}
use Rattle.pack_reading.specs.declared.swept.Pages.{Pages}
use Rattle.pack_reading.specs.declared.swept.Swept.{Swept}
use Rattle.pack_reading.specs.Kept.{plain_leader, leader_kept, page_kept, bytes_kept, found_in, found_of, HoldsSights}
use Rattle.pack_reading.specs.Files.{is_shown, shown_of}
use Rattle.pack_reading.specs.Shows.{shown_file, seen_file}
use Rattle.pack_reading.proofs.Tidying.{model_files}

-- ---- maps of std and finite maps
-- the look-up of one is the search of the other
lookup-find : {X : Type 0} (q : Fid) (es : List (Fid × X)) → lookup (is_at (fid_cmp q)) es ≡ find fid_cmp q es
lookup-find q [] = refl
lookup-find q (e ∷ es) = ap (cond (is_fid q e.0) (Some e.1)) (lookup-find q es)

less_test : (r : Ordering) → r ≡ Less → is_lt r ≡ true
less_test r e = ap is_lt e

below_from : {X : Type 0} (k : Fid) (es : List (Fid × X)) → AllByRecursion (λ y. fid_cmp k y ≡ Less) (keys_of es) → below_all fid_cmp k es ≡ true
below_from k [] h = refl
below_from k (e ∷ es) h = λ i. less_test (fid_cmp k e.0) h.0 i && below_from k es h.1 i

sorted_from : {X : Type 0} (es : List (Fid × X)) → IsStrictlySortedBy fid_cmp (keys_of es) → is_sorted fid_cmp es ≡ true
unfolding IsStrictlySortedBy
sorted_from [] h = refl
sorted_from (e ∷ es) h = λ i. below_from e.0 es h.0 i && sorted_from es h.1 i

-- ---- the leaders that are kept are those of the living files
leader_of_file : Fid → StoredFile → Leader
leader_of_file f x = plain_leader x.leader

map_twice : (ss : List Sight) (f : Fid) (o : Option model.Leader) → option_map (leader_of_file f) (option_map (stored_file ss f) o) ≡ option_map plain_leader o
unfolding leader_of_file
map_twice ss f None = refl
map_twice ss f (Some l) = refl

leaders_are : (ss : List Sight) (leaders : Leaders) → tree.IsOrdered fid_cmp leaders.kept → ((f : Fid) → leader_kept leaders f ≡ option_map plain_leader (leader ss f)) → leaders.kept.entries ≡ map_entries leader_of_file (entries (files_shown ss))
leaders_are ss leaders ordered kept =
    let m : FinMap fid_cmp Leader = map_values leader_of_file (files_shown ss) in
    same_entries fid_cmp fid_total fid_same leaders.kept.entries (entries m) (subst T (sym (sorted_from leaders.kept.entries ordered)) tt) (entries_sorted m) (λ q.
    sym (lookup-find q leaders.kept.entries)
    ∙ kept q
    ∙ sym (get-map_values fid_total fid_same leader_of_file (files_shown ss) q ∙ ap (option_map (leader_of_file q)) (get-files_shown ss q) ∙ map_twice ss q (leader ss q))
    ∙ get-entries m q)
    ∙ entries-map_values fid_total fid_same leader_of_file (files_shown ss)

bytes_are : (ss : List Sight) (pages : Pages) (f : Fid) → ((n : ℕ) → page_kept pages f n ≡ page ss f n) → bytes_kept pages f ≡ file_bytes ss f
unfolding file_bytes
bytes_are ss pages f kept = ap (joined most_pages) (λ i n. kept n i)

-- the files that are found
each_found : (ss : List Sight) (pages : Pages) → ((f : Fid) (n : ℕ) → page_kept pages f n ≡ page ss f n) → (ls : List (Fid × model.Leader))
    → map (λ e. found_in pages e.0 e.1) (map_entries leader_of_file (map_entries (stored_file ss) ls)) ≡ map (λ e. found_of e.0 e.1) (map_entries (stored_file ss) ls)
unfolding leader_of_file
each_found ss pages kept [] = refl
each_found ss pages kept (e ∷ ls) = λ i. record { fid = e.0; leader = plain_leader e.1; bytes = bytes_are ss pages e.0 (kept e.0) i } ∷ each_found ss pages kept ls i

pub stored_entries : (ss : List Sight) → entries (files_shown ss) ≡ map_entries (stored_file ss) (entries (from_entries {R = fid_cmp} (leader_entries ss)))
unfolding files_shown
stored_entries ss = entries-map_values fid_total fid_same (stored_file ss) (from_entries (leader_entries ss))

pub found_are : (ss : List Sight) (swept : Swept) → tree.IsOrdered fid_cmp swept.leaders.kept → HoldsSights ss swept → map (λ e. found_in swept.pages e.0 e.1) swept.leaders.kept.entries ≡ map (λ e. found_of e.0 e.1) (entries (files_shown ss))
found_are ss swept ordered holds =
    ap (map (λ e. found_in swept.pages e.0 e.1)) (leaders_are ss swept.leaders ordered holds.leaders ∙ ap (map_entries leader_of_file) (stored_entries ss))
    ∙ each_found ss swept.pages holds.pages (entries (from_entries {R = fid_cmp} (leader_entries ss)))
    ∙ ap (map (λ e. found_of e.0 e.1)) (sym (stored_entries ss))

-- ---- the files that are shown
seen_kept : (b : Body) (ok : List Naming → Naming → Bool) (d : Fid) (before : List Naming) → seen_body (body_kept ok d before b) ≡ seen_body b
seen_kept (data_of bytes) ok d before = refl
seen_kept (items_of is) ok d before = refl

-- no slot is shown
seen_files_kept : (ok : List Naming → Naming → Bool) (before : List Naming) (es : List (Fid × File)) → map_entries seen_of (files_kept ok before es) ≡ map_entries seen_of es
seen_files_kept ok before [] = refl
seen_files_kept ok before (e ∷ es) = λ i. (e.0, record { leader = e.1.leader; bytes = seen_kept e.1.body ok e.0 before i }) ∷ seen_files_kept ok (kept_after_body ok e.0 before e.1.body) es i

-- nor DiskDescriptor
hides : (f : Fid) → is_described f ≡ false → shows f ≡ false
hides f e = by (is_fid f sys_dir) (is_fid f disk_descriptor) e
  where
    by : (a b : Bool) → not b ≡ false → not (a || b) ≡ false
    by true b e = refl
    by false b e = e

shown_described : (es : List (Fid × File)) → where_key fid_cmp shows (map_entries seen_of (where_key fid_cmp is_described es)) ≡ where_key fid_cmp shows (map_entries seen_of es)
shown_described [] = refl
shown_described (e ∷ es) =
    let rest = shown_described es in
    elim (is_described e.0) as (λ b. is_described e.0 ≡ b → where_key fid_cmp shows (map_entries seen_of (cond b (e ∷ where_key fid_cmp is_described es) (where_key fid_cmp is_described es))) ≡ cond (shows e.0) ((e.0, seen_of e.0 e.1) ∷ where_key fid_cmp shows (map_entries seen_of es)) (where_key fid_cmp shows (map_entries seen_of es))) [
      | true ↦ λ _. ap (λ l. cond (shows e.0) ((e.0, seen_of e.0 e.1) ∷ l) l) rest
      | false ↦ λ is. rest ∙ sym (ap (λ b. cond b ((e.0, seen_of e.0 e.1) ∷ where_key fid_cmp shows (map_entries seen_of es)) (where_key fid_cmp shows (map_entries seen_of es))) (hides e.0 is))
    ] refl

pub view_files : (shape : Shape) (ss : List Sight) → entries (view (read_sights shape ss)).files ≡ where_key fid_cmp shows (map_entries seen_of (map_entries file_of (entries (files_shown ss))))
view_files shape ss =
    seen_list (read_sights shape ss)
    ∙ ap (λ es. where_key fid_cmp shows (map_entries seen_of es)) (model_files shape ss)
    ∙ ap (where_key fid_cmp shows) (seen_files_kept (is_kept (lives ss)) [] (where_key fid_cmp is_described (map_entries file_of (entries (files_shown ss)))))
    ∙ shown_described (map_entries file_of (entries (files_shown ss)))

no_bytes : (d : Bool) (bytes : List ℕ) → seen_body (cond d (items_of (slots (words_of bytes))) (data_of bytes)) ≡ cond d None (Some bytes)
no_bytes true bytes = refl
no_bytes false bytes = refl

pub each_shown : (es : List (Fid × StoredFile)) → map shown_of (filter is_shown (map (λ e. found_of e.0 e.1) es)) ≡ map shown_file (where_key fid_cmp shows (map_entries seen_of (map_entries file_of es)))
each_shown [] = refl
each_shown (e ∷ es) =
    let rest = each_shown es in
    elim (shows e.0) as (λ b. map shown_of (cond b (found_of e.0 e.1 ∷ filter is_shown (map (λ e. found_of e.0 e.1) es)) (filter is_shown (map (λ e. found_of e.0 e.1) es))) ≡ map shown_file (cond b ((e.0, seen_of e.0 (file_of e.0 e.1)) ∷ where_key fid_cmp shows (map_entries seen_of (map_entries file_of es))) (where_key fid_cmp shows (map_entries seen_of (map_entries file_of es))))) [
      | true ↦ λ i. record { fid = e.0; leader = plain_leader e.1.leader; bytes = sym (no_bytes (is_directory e.0) e.1.bytes) i } ∷ rest i
      | false ↦ rest
    ]

pub seen_shown : (es : List (Fid × Seen)) → map seen_file (map shown_file es) ≡ es
seen_shown [] = refl
seen_shown (e ∷ es) = ap (λ l. e ∷ l) (seen_shown es)
