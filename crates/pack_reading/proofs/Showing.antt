-- What is shown of what a sweep kept.
use Rattle.std.proofs.Common.{◌≡◌, Bool, true, false, cond, not, List, [], ◌∷◌, ◌++◌, map, Option, Some, None, refl, sym, ap, subst, ◌∙◌}
use Rattle.std.specs.Prelude.{fold}
use Rattle.std.specs.List.{filter}
use Rattle.std.specs.Option.{is_some, option_map}
use Rattle.std.specs.BTreeMap as tree
use Rattle.std.specs.FinMap.{FinMap, find, get, get-from_entries, get-retain_keys, entries, empty, same_map}
use Rattle.std.specs.FinMap.Entries.{where_key}
use Rattle.alto_words.specs.declared.fid.Fid.{Fid}
use Rattle.alto_words.specs.Fid.{fid_cmp, is_system}
use Rattle.disk_records.specs.declared.shape.Shape.{Shape}
use Rattle.pack_model.specs.reading.Leaders as model
use Rattle.pack_model.specs.reading.Sights.{Sight}
use Rattle.pack_model.specs.reading.Files.{leader, lives}
use Rattle.pack_model.specs.sessions.Maps.{map_entries}
use Rattle.pack_model.specs.reading.Stored.{StoredFile, files_shown}
use Rattle.pack_model.specs.reading.Bodies.{file_of, is_described}
use Rattle.pack_model.specs.reading.Namings.{Naming, is_kept, namings}
use Rattle.pack_model.specs.reading.Model.{Model, read_sights}
use Rattle.pack_model.specs.showing.View.{Home, View, view, homes, names_of}
use Rattle.pack_model.specs.showing.Settling.{settle, settled}
use Rattle.pack_model.specs.showing.Listing.{naming_of, naming_cmp, in_order}
use Rattle.label_sweep.specs.pack_laws.proofs.Keys.{fid_total, fid_same}
use Rattle.label_sweep.specs.pack_laws.proofs.ByLists.{is_shown as shows}
use Rattle.kept_names.specs.declared.names.Entry.{Entry}
use Rattle.kept_names.specs.declared.names.Names.{Names}
use Rattle.kept_names.specs.Homes.{naming_at, considered, StandsFor}
use Rattle.kept_names.proofs.Scanned.{files_scanned, scanned}
use Rattle.kept_names.proofs.Following.{follow_all, follows_none}
use Rattle.pack_reading.specs.declared.files.Found.{Found}
use Rattle.pack_reading.specs.declared.swept.Leaders.{Leaders}
use Rattle.pack_reading.specs.declared.swept.Swept.{Swept}
use Rattle.pack_reading.specs.declared.shown.Shown.{Shown}
use Rattle.pack_reading.specs.declared.shown.ShownFile.{ShownFile}
use Rattle.pack_reading.specs.Kept.{plain_leader, leader_kept, lives_kept, found_in, found_of, HoldsSights}
use Rattle.pack_reading.specs.Files.{is_shown, shown_of}
use Rattle.pack_reading.specs.Scans.{namings_of, all_namings}
use Rattle.pack_reading.specs.Shows.{shown_file, seen_file, shown_name, ShowsView}
use Rattle.pack_reading.proofs.Tidying.{model_files, described_namings}
use Rattle.pack_reading.proofs.ShownFiles.{found_are, view_files, each_shown, seen_shown}

-- ---- the names that stand in directories
each_naming : (es : List (Fid × StoredFile)) → all_namings (map (λ e. found_of e.0 e.1) es) ≡ namings (map_entries file_of es)
each_naming [] = refl
each_naming (e ∷ es) = ap (λ l. namings_of (found_of e.0 e.1) ++ l) (each_naming es)

turned : {X : Type 0} (b : Bool) (o : Option X) → cond (not b) o None ≡ cond b None o
turned true o = refl
turned false o = refl

names_get : (m : Model) (q : Fid) → get (view m).names q ≡ cond (is_system q) None (find fid_cmp q (homes (namings (entries m.files))))
unfolding view
names_get m q =
    get-retain_keys (names_of m.files) shows q (λ x tie. ap shows (sym (fid_same q x tie)))
    ∙ ap (λ o. cond (shows q) o None) (get-from_entries fid_total (homes (namings (entries m.files))) q)
    ∙ turned (is_system q) (find fid_cmp q (homes (namings (entries m.files))))

pub view_names : (shape : Shape) (ss : List Sight) → fold (considered (lives ss)) (empty {R = fid_cmp}) (namings (map_entries file_of (entries (files_shown ss)))) ≡ (view (read_sights shape ss)).names
view_names shape ss =
    let ns = namings (map_entries file_of (entries (files_shown ss))) in
    let kept : namings (entries (read_sights shape ss).files) ≡ scanned (is_kept (lives ss)) [] ns =
    ap namings (model_files shape ss)
    ∙ files_scanned (is_kept (lives ss)) [] (where_key fid_cmp is_described (map_entries file_of (entries (files_shown ss))))
    ∙ ap (scanned (is_kept (lives ss)) []) (described_namings (entries (files_shown ss))) in
    same_map fid_total fid_same _ _ (λ q.
    (follow_all (lives ss) ns [] [] (empty {R = fid_cmp}) follows_none).has q
    ∙ ap (λ l. cond (is_system q) None (find fid_cmp q (homes l))) (sym kept)
    ∙ sym (names_get (read_sights shape ss) q))

some_mapped : (o : Option model.Leader) → is_some (option_map plain_leader o) ≡ is_some o
some_mapped None = refl
some_mapped (Some l) = refl

lives_are : (ss : List Sight) (leaders : Leaders) → ((f : Fid) → leader_kept leaders f ≡ option_map plain_leader (leader ss f)) → lives_kept leaders ≡ lives ss
lives_are ss leaders kept = λ i f. (ap is_some (kept f) ∙ some_mapped (leader ss f)) i

-- ---- all of it
names_mapped : (ns : List Naming) (es : List Entry) → map naming_at es ≡ ns → map (λ e. shown_name (naming_at e)) es ≡ map shown_name ns
names_mapped ns es is = by es ∙ ap (map shown_name) is
  where
    by : (es : List Entry) → map (λ e. shown_name (naming_at e)) es ≡ map shown_name (map naming_at es)
    by [] = refl
    by (e ∷ es) = ap (λ l. shown_name (naming_at e) ∷ l) (by es)

settled_view : (v : View) (shown : Shown) → shown.files ≡ map shown_file (entries v.files) → shown.names ≡ map shown_name (in_order naming_cmp (map naming_of (entries (settled v.names (entries v.files))))) → ShowsView shown (settle v)
unfolding settle
settled_view v shown files names = record { files = files; names = names }

pub shows_swept : (shape : Shape) (ss : List Sight) (swept : Swept) (found front : List Found) (names given : Names) (shown : Shown) (lent : List ShownFile) → front ≡ found → lent ≡ shown.files → HoldsSights ss swept → tree.IsOrdered fid_cmp swept.leaders.kept
    → found ≡ map (λ e. found_in swept.pages e.0 e.1) swept.leaders.kept.entries
    → StandsFor names (fold (considered (lives_kept swept.leaders)) (empty {R = fid_cmp}) (all_namings front))
    → shown.files ≡ map shown_of (filter is_shown found)
    → ((homes : FinMap fid_cmp Home) → StandsFor names homes → StandsFor given (settled homes (map seen_file lent)))
    → shown.names ≡ map (λ e. shown_name (naming_at e)) given.kept.keys
    → ShowsView shown (settle (view (read_sights shape ss)))
shows_swept shape ss swept found front names given shown lent in_front is_lent holds ordered found_is stands files settles listed =
    let v = view (read_sights shape ss) in
    let all : found ≡ map (λ e. found_of e.0 e.1) (entries (files_shown ss)) = found_is ∙ found_are ss swept ordered holds in
    let seen : shown.files ≡ map shown_file (entries v.files) =
    files ∙ ap (λ l. map shown_of (filter is_shown l)) all ∙ each_shown (entries (files_shown ss)) ∙ ap (map shown_file) (sym (view_files shape ss)) in
    let entered : fold (considered (lives_kept swept.leaders)) (empty {R = fid_cmp}) (all_namings front) ≡ v.names =
    (λ i. fold (considered (lives_are ss swept.leaders holds.leaders i)) (empty {R = fid_cmp}) ((ap all_namings (in_front ∙ all) ∙ each_naming (entries (files_shown ss))) i))
    ∙ view_names shape ss in
    let at_last : StandsFor given (settled v.names (entries v.files)) =
    subst (λ es. StandsFor given (settled v.names es)) (ap (map seen_file) (is_lent ∙ seen) ∙ seen_shown (entries v.files)) (settles v.names (subst (StandsFor names) entered stands)) in
    settled_view v shown seen (listed ∙ names_mapped _ given.kept.keys at_last.kept)
