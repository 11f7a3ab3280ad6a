-- Maps by their lists of entries, and by these what packs are read as and what the Scavenger counts, so that small cases compute.
use Rattle.std.proofs.Common.{◌≡◌, ℕ, ◌-◌, Bool, true, false, cond, not, List, [], ◌∷◌, None, refl, sym, ap, ◌∙◌}
use Rattle.std.specs.Prelude.{◌&&◌, ◌||◌}
use Rattle.std.specs.declared.cmp.Ordering.{Ordering}
use Rattle.std.specs.List.{list_any}
use Rattle.std.specs.Option.{is_some}
use Rattle.std.specs.Cmp.{IsTotalOrder}
use Rattle.std.specs.FinMap.{FinMap, IsAntisymmetric, len-entries, len-empty, find, get-entries, get-retain_keys, entries, entries_sorted, entries-insert, contains_key, from_entries, retain_keys}
use Rattle.std.specs.FinMap.Entries.{same_entries, put, where_key, is_sorted-where_key, find-where_key}
use Rattle.pack_model.specs.alto_words.specs.declared.fid.Fid.{Fid}
use Rattle.pack_model.specs.alto_words.specs.Fid.{fid_cmp, is_fid, is_system, sys_dir}
use Rattle.pack_model.specs.alto_words.specs.Names.{is_same_name}
use Rattle.pack_model.specs.disk_records.specs.declared.shape.Shape.{Shape}
use Rattle.pack_model.specs.disk_records.specs.Packs.{Pack}
use Rattle.pack_model.specs.reading.Sights.{Sight, sights}
use Rattle.pack_model.specs.reading.Files.{lives}
use Rattle.pack_model.specs.sessions.Maps.{map_entries}
use Rattle.pack_model.specs.reading.Stored.{leader_entries, stored_file, files_shown}
use Rattle.pack_model.specs.reading.Bodies.{File, Files, found, file_of, described, is_described}
use Rattle.pack_model.specs.reading.Namings.{tidied, files_kept, is_kept, namings, sys_dir_name, descriptor_name}
use Rattle.pack_model.specs.reading.Model.{Model, read_sights, read_as, room, descriptor_pages, files_pages, good_sectors}
use Rattle.pack_model.specs.showing.View.{Home, Seen, view, seen_of, homes}
use Rattle.pack_model.specs.showing.Settling.{chosen, chosen_from, most_suffixes, given, adopted, settled, settle, show, unless, given_names}
use Rattle.pack_laws.proofs.Keys.{fid_total, fid_same}
use Rattle.pack_laws.proofs.Mapping.{entries-map_values}
use Rattle.std.proofs.lemmas.List.{nil_from_length}

-- ---- maps
-- the entries in order, of two with one key the first
abbrev pub puts : {K X : Type 0} → (K → K → Ordering) → List (K × X) → List (K × X)
puts R [] = []
puts R (e ∷ es) = put R e.0 e.1 (puts R es)

pub entries-puts : {K X : Type 0} {R : K → K → Ordering} (o : IsTotalOrder R) (es : List (K × X)) → entries (from_entries {R = R} es) ≡ puts R es
entries-puts {X = X} {R = R} o [] = nil_from_length (entries (from_entries {X = X} {R = R} [])) (sym (len-entries (from_entries {X = X} {R = R} [])) ∙ len-empty R X)
entries-puts {R = R} o (e ∷ es) = entries-insert o (from_entries es) e.0 e.1 ∙ ap (put R e.0 e.1) (entries-puts o es)

module _ {K X : Type 0} {R : K → K → Ordering} (o : IsTotalOrder R) (same : IsAntisymmetric R) where
  pub entries-retain_keys : (m : FinMap R X) (p : K → Bool) → entries (retain_keys m p) ≡ where_key R p (entries m)
  entries-retain_keys m p = same_entries R o same (entries (retain_keys m p)) (where_key R p (entries m)) (entries_sorted (retain_keys m p)) (is_sorted-where_key R p (entries m) (entries_sorted m)) (λ q.
      let alike : (x : K) → R q x ≡ Ordering.Equal → p x ≡ p q = λ x t. ap p (sym (same q x t)) in
      sym (get-entries (retain_keys m p) q) ∙ get-retain_keys m p q alike ∙ ap (λ r. cond (p q) r None) (get-entries m q) ∙ sym (find-where_key R p q alike (entries m)))

-- ---- files
abbrev pub found_by : List Sight → List (Fid × File)
found_by ss = map_entries file_of (map_entries (stored_file ss) (puts fid_cmp (leader_entries ss)))

pub found_list : (ss : List Sight) → entries (found ss) ≡ found_by ss
unfolding found files_shown
found_list ss =
    entries-map_values fid_total fid_same file_of (files_shown ss)
    ∙ ap (map_entries file_of) (entries-map_values fid_total fid_same (stored_file ss) (from_entries (leader_entries ss)))
    ∙ ap (λ es. map_entries file_of (map_entries (stored_file ss) es)) (entries-puts fid_total (leader_entries ss))

abbrev pub described_by : List Sight → List (Fid × File)
described_by ss = where_key fid_cmp is_described (found_by ss)

pub described_list : (ss : List Sight) → entries (described ss) ≡ described_by ss
described_list ss = entries-retain_keys fid_total fid_same (found ss) is_described ∙ ap (where_key fid_cmp is_described) (found_list ss)

abbrev pub tidied_by : (Fid → Bool) → List (Fid × File) → List (Fid × File)
tidied_by lives es = puts fid_cmp (files_kept (is_kept lives) [] es)

pub tidied_list : (lives : Fid → Bool) (files : Files) → entries (tidied lives files) ≡ tidied_by lives (entries files)
unfolding tidied
tidied_list lives files = entries-puts fid_total (files_kept (is_kept lives) [] (entries files))

-- the files of the model that sights are read as
abbrev pub read_by : List Sight → List (Fid × File)
read_by ss = tidied_by (lives ss) (described_by ss)

pub read_list : (shape : Shape) (ss : List Sight) → entries (read_sights shape ss).files ≡ read_by ss
unfolding read_sights
read_list shape ss = tidied_list (lives ss) (described ss) ∙ ap (tidied_by (lives ss)) (described_list ss)

-- the sectors that it has left
pub room_is : (p : Pack) → room (read_as p) ≡ good_sectors (sights p) - descriptor_pages p.shape - files_pages (read_by (sights p))
unfolding read_sights
room_is p = ap (λ es. good_sectors (sights p) - descriptor_pages p.shape - files_pages es) (read_list p.shape (sights p))

-- ---- what is shown
abbrev pub is_shown : Fid → Bool
is_shown f = not (is_system f)

abbrev pub seen_by : List (Fid × File) → List (Fid × Seen)
seen_by es = where_key fid_cmp is_shown (map_entries seen_of es)

abbrev pub names_by : List (Fid × File) → List (Fid × Home)
names_by es = where_key fid_cmp is_shown (puts fid_cmp (homes (namings es)))

pub seen_list : (m : Model) → entries (view m).files ≡ seen_by (entries m.files)
unfolding view
seen_list m = entries-retain_keys fid_total fid_same _ is_shown ∙ ap (where_key fid_cmp is_shown) (entries-map_values fid_total fid_same seen_of m.files)

pub names_list : (m : Model) → entries (view m).names ≡ names_by (entries m.files)
unfolding view
names_list m = entries-retain_keys fid_total fid_same _ is_shown ∙ ap (where_key fid_cmp is_shown) (entries-puts fid_total (homes (namings (entries m.files))))

-- ---- the names that nameless files get
abbrev pub taken_by : List (Fid × Home) → List ℕ → Bool
taken_by names name =
    is_same_name name sys_dir_name || is_same_name name descriptor_name
    || list_any (λ e. is_fid e.1.dir sys_dir && is_same_name name e.1.name) names

abbrev pub chosen_by : List (Fid × Home) → List ℕ → List ℕ
chosen_by names name = chosen_from most_suffixes (taken_by names) name 0

abbrev pub home_by : List (Fid × Home) → Seen → Home
home_by names x = record { dir = sys_dir; name = chosen_by names x.leader.name }

abbrev pub adopted_by : List (Fid × Home) → Fid × Seen → List (Fid × Home)
adopted_by names e = cond (is_some (find fid_cmp e.0 names)) names (put fid_cmp e.0 (home_by names e.1) names)

abbrev pub settled_by : List (Fid × Home) → List (Fid × Seen) → List (Fid × Home)
settled_by names [] = names
settled_by names (e ∷ es) = settled_by (adopted_by names e) es

abbrev pub given_by : List (Fid × Home) → List (Fid × Seen) → List (Fid × List ℕ)
given_by names [] = []
given_by names (e ∷ es) = unless (is_some (find fid_cmp e.0 names)) (e.0, chosen_by names e.1.leader.name) (given_by (adopted_by names e) es)

adopted_list : (names : FinMap fid_cmp Home) (e : Fid × Seen) → entries (adopted names e) ≡ adopted_by (entries names) e
unfolding chosen
adopted_list names e = by (contains_key names e.0) ∙ ap (λ r. cond (is_some r) (entries names) (put fid_cmp e.0 (home_by (entries names) e.1) (entries names))) (get-entries names e.0)
  where
    by : (b : Bool) → entries (cond b names (given names e.0 e.1)) ≡ cond b (entries names) (put fid_cmp e.0 (home_by (entries names) e.1) (entries names))
    by true = refl
    by false = entries-insert fid_total names e.0 (record { dir = sys_dir; name = chosen names e.1.leader.name })

settled_list : (names : FinMap fid_cmp Home) (es : List (Fid × Seen)) → entries (settled names es) ≡ settled_by (entries names) es
settled_list names [] = refl
settled_list names (e ∷ es) = settled_list (adopted names e) es ∙ ap (λ ns. settled_by ns es) (adopted_list names e)

given_list : (names : FinMap fid_cmp Home) (es : List (Fid × Seen)) → given_names names es ≡ given_by (entries names) es
unfolding chosen
given_list names [] = refl
given_list names (e ∷ es) = λ i. unless (is_some (get-entries names e.0 i)) (e.0, chosen_by (entries names) e.1.leader.name) ((given_list (adopted names e) es ∙ ap (λ ns. given_by ns es) (adopted_list names e)) i)

-- the names that a pack shows, and those that it adopts
abbrev pub shown_by : List Sight → List (Fid × Home)
shown_by ss = settled_by (names_by (read_by ss)) (seen_by (read_by ss))

abbrev pub adopts_by : List (Fid × File) → List (Fid × List ℕ)
adopts_by es = given_by (names_by es) (seen_by es)

pub adopts_list : (m : Model) → given_names (view m).names (entries (view m).files) ≡ adopts_by (entries m.files)
adopts_list m = given_list (view m).names (entries (view m).files) ∙ (λ i. given_by (names_list m i) (seen_list m i))

pub shown_list : (p : Pack) → entries (show p).names ≡ shown_by (sights p)
unfolding settle
shown_list p =
    settled_list (view (read_as p)).names (entries (view (read_as p)).files)
    ∙ (λ i. settled_by (names_list (read_as p) i) (seen_list (read_as p) i))
    ∙ ap (λ es. settled_by (names_by es) (seen_by es)) (read_list p.shape (sights p))
