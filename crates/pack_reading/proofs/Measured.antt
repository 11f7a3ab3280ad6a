-- What is shown of a pack is the same without the pages of ordinary files, except their bytes.
use Rattle.std.proofs.Common.{◌≡◌, ℕ, Bool, true, false, cond, List, [], ◌∷◌, ◌++◌, length, map, Some, None, refl, sym, ap, ◌∙◌}
use Rattle.std.specs.Prelude.{◌&&◌, ◌==◌, fold}
use Rattle.std.specs.Option.{option_map, option_or, is_some}
use Rattle.std.specs.FinMap.{FinMap, entries, empty, from_entries}
use Rattle.std.specs.FinMap.Entries.{where_key}
use Rattle.alto_words.specs.declared.fid.Fid.{Fid}
use Rattle.alto_words.specs.Fid.{fid_cmp, is_fid, is_directory}
use Rattle.disk_records.specs.declared.shape.Shape.{Shape}
use Rattle.pack_model.specs.reading.Leaders.{Leader}
use Rattle.pack_model.specs.reading.Bytes.{words_of}
use Rattle.pack_model.specs.reading.Slots.{slots}
use Rattle.pack_model.specs.reading.Sights.{Sight}
use Rattle.pack_model.specs.reading.Sights.Sight.{hidden, free, stray, leads, holds}
use Rattle.pack_model.specs.reading.Files.{first, leader, leader_at, lives, page, page_at, file_bytes, joined, most_pages}
use Rattle.pack_model.specs.sessions.Maps.{map_entries}
use Rattle.pack_model.specs.reading.Stored.{StoredFile, files_shown, stored_file, leader_entries}
use Rattle.pack_model.specs.reading.Bodies.{file_of, body_of}
use Rattle.pack_model.specs.reading.Bodies.Body.{data_of, items_of}
use Rattle.pack_model.specs.reading.Namings.{namings, body_namings}
use Rattle.pack_model.specs.reading.Model.{read_sights}
use Rattle.pack_model.specs.showing.View.{Home, Seen, view, seen_of, seen_body}
use Rattle.pack_model.specs.showing.Settling.{settle, settled, adopted}
use Rattle.pack_model.specs.showing.Listing.{naming_of, naming_cmp, in_order}
use Rattle.label_sweep.specs.pack_laws.proofs.Keys.{same_fid}
use Rattle.label_sweep.specs.pack_laws.proofs.ByLists.{is_shown as shows}
use Rattle.kept_names.specs.Homes.{considered}
use Rattle.pack_reading.specs.declared.shown.Shown.{Shown}
use Rattle.pack_reading.specs.declared.shown.ShownLengths.{ShownLengths}
use Rattle.pack_reading.specs.Lengths.{without_data, length_in, shown_length, ShowsLengths}
use Rattle.pack_reading.specs.Shows.{shown_file, shown_name, ShowsView}
use Rattle.pack_reading.proofs.ShownFiles.{stored_entries, view_files}
use Rattle.pack_reading.proofs.Showing.{view_names}

-- ---- one sector
leader_same : (f : Fid) (s : Sight) → leader_at f (without_data s) ≡ leader_at f s
leader_same f hidden = refl
leader_same f free = refl
leader_same f stray = refl
leader_same f (leads g readable l) = refl
leader_same f (holds g n bytes) = elim (is_directory g) as (λ b. leader_at f (cond b (holds g n bytes) hidden) ≡ None) [ true ↦ refl | false ↦ refl ]

-- a directory is no ordinary file
pub apart : (f g : Fid) → is_directory f ≡ true → is_directory g ≡ false → (b : Bool) → is_fid f g ≡ b → b ≡ false
apart f g one other true same = sym one ∙ ap is_directory (same_fid f g same) ∙ other
apart f g one other false same = refl

page_same : (f : Fid) (n : ℕ) → is_directory f ≡ true → (s : Sight) → page_at f n (without_data s) ≡ page_at f n s
page_same f n one hidden = refl
page_same f n one free = refl
page_same f n one stray = refl
page_same f n one (leads g readable l) = refl
page_same f n one (holds g k bytes) =
    elim (is_directory g) as (λ b. is_directory g ≡ b → page_at f n (cond b (holds g k bytes) hidden) ≡ cond (is_fid f g && n == k) (Some bytes) None) [
      | true ↦ λ _. refl
      | false ↦ λ other. sym (ap (λ b. cond (b && n == k) (Some bytes) None) (apart f g one other (is_fid f g) refl))
    ] refl

-- ---- all sectors
leaders_same : (ss : List Sight) (f : Fid) → leader (map without_data ss) f ≡ leader ss f
unfolding first
leaders_same [] f = refl
leaders_same (s ∷ ss) f = λ i. option_or (leader_same f s i) (leaders_same ss f i)

lives_same : (ss : List Sight) → lives (map without_data ss) ≡ lives ss
lives_same ss = λ i f. is_some (leaders_same ss f i)

pages_same : (ss : List Sight) (f : Fid) → is_directory f ≡ true → (n : ℕ) → page (map without_data ss) f n ≡ page ss f n
unfolding first
pages_same [] f one n = refl
pages_same (s ∷ ss) f one n = λ i. option_or (page_same f n one s i) (pages_same ss f one n i)

entries_same : (ss : List Sight) → leader_entries (map without_data ss) ≡ leader_entries ss
entries_same [] = refl
entries_same (hidden ∷ ss) = entries_same ss
entries_same (free ∷ ss) = entries_same ss
entries_same (stray ∷ ss) = entries_same ss
entries_same (leads f readable l ∷ ss) = ap (λ es. (f, l) ∷ es) (entries_same ss)
entries_same (holds f n bytes ∷ ss) = elim (is_directory f) as (λ b. leader_entries (cond b (holds f n bytes) hidden ∷ map without_data ss) ≡ leader_entries ss) [ true ↦ entries_same ss | false ↦ entries_same ss ]

-- the bytes of directories are the same
bytes_same : (ss : List Sight) (f : Fid) → is_directory f ≡ true → file_bytes (map without_data ss) f ≡ file_bytes ss f
unfolding file_bytes
bytes_same ss f one = ap (joined most_pages) (λ i n. pages_same ss f one n i)

-- ---- files with a leader, one after another
abbrev leaders_of : List Sight → List (Fid × Leader)
leaders_of ss = entries (from_entries {R = fid_cmp} (leader_entries ss))

leaders_of_same : (ss : List Sight) → leaders_of (map without_data ss) ≡ leaders_of ss
leaders_of_same ss = ap (λ es. entries (from_entries {R = fid_cmp} es)) (entries_same ss)

-- those that are stored, by what some sectors show
abbrev stored : List Sight → List (Fid × Leader) → List (Fid × StoredFile)
stored ss ls = map_entries (stored_file ss) ls

stored_same : (ss : List Sight) → entries (files_shown (map without_data ss)) ≡ stored (map without_data ss) (leaders_of ss)
stored_same ss = stored_entries (map without_data ss) ∙ ap (stored (map without_data ss)) (leaders_of_same ss)

-- those that are shown
abbrev seen : List (Fid × StoredFile) → List (Fid × Seen)
seen es = where_key fid_cmp shows (map_entries seen_of (map_entries file_of es))

module _ (ss : List Sight) where
  abbrev few : List Sight
  few = map without_data ss

  -- ---- their names
  namings_one : (f : Fid) → body_namings f (body_of f (file_bytes few f)) ≡ body_namings f (body_of f (file_bytes ss f))
  namings_one f = elim (is_directory f) as (λ b. is_directory f ≡ b → body_namings f (cond b (items_of (slots (words_of (file_bytes few f)))) (data_of (file_bytes few f))) ≡ body_namings f (cond b (items_of (slots (words_of (file_bytes ss f)))) (data_of (file_bytes ss f)))) [
    | true ↦ λ one. ap (λ bytes. body_namings f (items_of (slots (words_of bytes)))) (bytes_same ss f one)
    | false ↦ λ _. refl
  ] refl

  namings_same : (ls : List (Fid × Leader)) → namings (map_entries file_of (stored few ls)) ≡ namings (map_entries file_of (stored ss ls))
  namings_same [] = refl
  namings_same (e ∷ ls) = λ i. namings_one e.0 i ++ namings_same ls i

  names_same : (shape : Shape) → (view (read_sights shape few)).names ≡ (view (read_sights shape ss)).names
  names_same shape =
      sym (view_names shape few)
      ∙ (λ i. fold (considered (lives_same ss i)) (empty {R = fid_cmp}) ((ap (λ es. namings (map_entries file_of es)) (stored_same ss) ∙ namings_same (leaders_of ss) ∙ ap (λ es. namings (map_entries file_of es)) (sym (stored_entries ss))) i))
      ∙ view_names shape ss

  -- a file gets its name by its leader
  settled_same : (homes : FinMap fid_cmp Home) (ls : List (Fid × Leader)) → settled homes (seen (stored few ls)) ≡ settled homes (seen (stored ss ls))
  settled_same homes [] = refl
  settled_same homes (e ∷ ls) =
      elim (shows e.0) as (λ b. settled homes (cond b ((e.0, seen_of e.0 (file_of e.0 (stored_file few e.0 e.1))) ∷ seen (stored few ls)) (seen (stored few ls))) ≡ settled homes (cond b ((e.0, seen_of e.0 (file_of e.0 (stored_file ss e.0 e.1))) ∷ seen (stored ss ls)) (seen (stored ss ls)))) [
        | true ↦ settled_same (adopted homes (e.0, seen_of e.0 (file_of e.0 (stored_file ss e.0 e.1)))) ls
        | false ↦ settled_same homes ls
      ]

  -- ---- their lengths
  length_one : (d : Bool) (bytes : List ℕ) → cond d None (Some (length bytes)) ≡ option_map (λ bytes. length bytes) (seen_body (cond d (items_of (slots (words_of bytes))) (data_of bytes)))
  length_one true bytes = refl
  length_one false bytes = refl

  lengths_same : (ls : List (Fid × Leader)) → map (λ x. length_in ss x.fid) (map shown_file (seen (stored few ls))) ≡ map shown_length (seen (stored ss ls))
  lengths_same [] = refl
  lengths_same (e ∷ ls) =
      let rest = lengths_same ls in
      elim (shows e.0) as (λ b. map (λ x. length_in ss x.fid) (map shown_file (cond b ((e.0, seen_of e.0 (file_of e.0 (stored_file few e.0 e.1))) ∷ seen (stored few ls)) (seen (stored few ls)))) ≡ map shown_length (cond b ((e.0, seen_of e.0 (file_of e.0 (stored_file ss e.0 e.1))) ∷ seen (stored ss ls)) (seen (stored ss ls)))) [
        | true ↦ λ i. record { fid = e.0; length = length_one (is_directory e.0) (file_bytes ss e.0) i } ∷ rest i
        | false ↦ rest
      ]

  -- ---- all of it
  files_few : (shape : Shape) → entries (view (read_sights shape few)).files ≡ seen (stored few (leaders_of ss))
  files_few shape = view_files shape few ∙ ap seen (stored_same ss)

  files_all : (shape : Shape) → entries (view (read_sights shape ss)).files ≡ seen (stored ss (leaders_of ss))
  files_all shape = view_files shape ss ∙ ap seen (stored_entries ss)

  pub shows_lengths : (shape : Shape) (shown : Shown) (lengths : ShownLengths) → ShowsView shown (settle (view (read_sights shape few))) → lengths.files ≡ map (λ x. length_in ss x.fid) shown.files → lengths.names ≡ shown.names → ShowsLengths lengths (settle (view (read_sights shape ss)))
  unfolding settle
  shows_lengths shape shown lengths shows files names = record {
    files =
        files
        ∙ ap (map (λ x. length_in ss x.fid)) (shows.files ∙ ap (map shown_file) (files_few shape))
        ∙ lengths_same (leaders_of ss)
        ∙ ap (map shown_length) (sym (files_all shape));
    names =
        names
        ∙ shows.names
        ∙ ap (λ homes. map shown_name (in_order naming_cmp (map naming_of (entries homes)))) (
        (λ i. settled (names_same shape i) (files_few shape i))
        ∙ settled_same (view (read_sights shape ss)).names (leaders_of ss)
        ∙ ap (settled (view (read_sights shape ss)).names) (sym (files_all shape))
        );
  }
