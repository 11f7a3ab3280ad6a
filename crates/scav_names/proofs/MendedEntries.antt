-- The entries of the files that the Scavenger will find, by the entries of the pack as it is.
use Rattle.std.proofs.Common.{◌≡◌, ℕ, ◌+◌, Bool, true, false, cond, not, List, [], ◌∷◌, ◌++◌, map, Option, Some, None, Less, Equal, Greater, refl, sym, ap, ◌∙◌}
use Rattle.std.specs.Prelude.{◌||◌, fold}
use Rattle.std.specs.List.{list_any}
use Rattle.std.specs.Ordering.{is_eq}
use Rattle.std.specs.FinMap.{empty, entries, entries-insert, find, get, get-entries, get-from_entries, get-retain_keys, insert, same_map}
use Rattle.std.specs.FinMap.Entries.{by_order, put, where_key}
use Rattle.std.proofs.lemmas.List.{map-append}
use Rattle.alto_words.specs.declared.fid.Fid.{Fid}
use Rattle.alto_words.specs.Fid.{disk_descriptor, fid_cmp, is_directory, is_fid, is_system, sys_dir}
use Rattle.disk_records.specs.Packs.{Pack}
use Rattle.scav_pages.specs.laws_record.proofs.Around.{around}
use Rattle.scav_pages.specs.laws_record.proofs.Mending.{entries-tidied}
use Rattle.laws_room.specs.NextLaws.{mended_pack}
use Rattle.scav_pages.specs.pack_laws.proofs.ByLists.{described_list, found_list, is_shown, puts}
use Rattle.scav_pages.specs.pack_laws.proofs.Keys.{fid_same, fid_total, same_fid}
use Rattle.pack_model.specs.hints.Links.{dir_slots, dir_words}
use Rattle.pack_model.specs.reading.Bodies.{File, Files, body_of, described, file_of, found, is_described}
use Rattle.pack_model.specs.reading.Bodies.Body.{data_of, items_of}
use Rattle.pack_model.specs.reading.Files.{file_bytes}
use Rattle.pack_model.specs.reading.Leaders.{Leader}
use Rattle.pack_model.specs.reading.Model.{Model, is_named}
use Rattle.pack_model.specs.reading.Namings.{Naming, body_namings, is_kept, namings, namings_in}
use Rattle.pack_model.specs.reading.Sights.{Sight, sights}
use Rattle.pack_model.specs.reading.SlotWords.{slots_at}
use Rattle.pack_model.specs.reading.Slots.{Item, item_words, slots}
use Rattle.pack_model.specs.reading.Slots.Item.{space, entry}
use Rattle.pack_model.specs.reading.Stored.{leader_entries, stored_file}
use Rattle.pack_model.specs.scavenger.Mended.{mended, root_body, root_file, rooted}
use Rattle.pack_model.specs.sessions.Maps.{map_entries}
use Rattle.pack_model.specs.showing.View.{homes, names_of, view}
use Rattle.kept_names.specs.Homes.{considered}
use Rattle.kept_names.proofs.Following.{follow_all, follows_none}
use Rattle.kept_names.proofs.Scanned.{files_scanned, scanned}
use Rattle.scav_names.specs.declared.placed.PlacedEntry.{PlacedEntry}
use Rattle.scav_names.specs.Catalogues.{entries_among, entries_of, file_entries, naming_of, pack_entries}
use Rattle.scav_names.specs.Parting.{kept_among, lives_then}

-- ---- SysDir in its place changes no entry
fresh_namings : (es : List (Fid × File)) → find fid_cmp sys_dir es ≡ None → namings (put fid_cmp sys_dir (root_file (root_body None)) es) ≡ namings es
fresh_namings [] none = refl
fresh_namings (e ∷ es) none =
    let x : File = root_file (root_body None) in
    elim (fid_cmp sys_dir e.0) as (λ r. cond (is_eq r) (Some e.1) (find fid_cmp sys_dir es) ≡ None → namings (by_order r ((sys_dir, x) ∷ e ∷ es) ((e.0, x) ∷ es) (e ∷ put fid_cmp sys_dir x es)) ≡ namings (e ∷ es)) [
      | Less ↦ λ n. refl
      | Equal ↦ λ n. absurd (let m : Some e.1 ≡ None = n in cc)
      | Greater ↦ λ n. ap (λ l. body_namings e.0 e.1.body ++ l) (fresh_namings es n)
    ] none

rooted_namings : (files : Files) → namings (entries (rooted files)) ≡ namings (entries files)
rooted_namings files = by (get files sys_dir) refl
  where
    same : (a : List (Fid × File)) (c : List (Fid × File)) (x : File) → namings (a ++ (sys_dir, root_file x.body) ∷ c) ≡ namings (a ++ (sys_dir, x) ∷ c)
    same [] c x = refl
    same (y ∷ a) c x = ap (λ r. body_namings y.0 y.1.body ++ r) (same a c x)

    by : (r : Option File) → get files sys_dir ≡ r → namings (entries (insert files sys_dir (root_file (root_body r)))) ≡ namings (entries files)
    by (Some x) e =
        let r = around fid_total fid_same files sys_dir x e in
        ap namings (entries-insert fid_total files sys_dir (root_file x.body) ∙ r.now (root_file x.body)) ∙ same r.front r.back x ∙ ap namings (sym r.was)
    by None e = ap namings (entries-insert fid_total files sys_dir (root_file (root_body None))) ∙ fresh_namings (entries files) (sym (get-entries files sys_dir) ∙ e)

-- ---- entries where they stand
pub slots_named : (d : Fid) (words : List ℕ) (place : ℕ) (is : List Item) → map naming_of (entries_among d (slots_at words place is)) ≡ namings_in d is
unfolding slots_at
slots_named d words place [] = refl
slots_named d words place (space n ∷ is) = slots_named d words (place + n) is
slots_named d words place (entry f name ∷ is) = ap (λ l. record { dir = d; name = name; fid = f } ∷ l) (slots_named d words (place + item_words (entry f name)) is)

file_named : (p : Pack) (f : Fid) (b : Bool) → map naming_of (cond b (entries_among f (dir_slots p f)) []) ≡ body_namings f (cond b (items_of (slots (dir_words p f))) (data_of (file_bytes (sights p) f)))
file_named p f true = slots_named f (dir_words p f) 0 (slots (dir_words p f))
file_named p f false = refl

list_named : (p : Pack) (ls : List (Fid × Leader)) → map naming_of (entries_of p (map_entries file_of (map_entries (stored_file (sights p)) ls))) ≡ namings (map_entries file_of (map_entries (stored_file (sights p)) ls))
list_named p [] = refl
list_named p (l ∷ ls) =
    map-append naming_of (file_entries p l.0) (entries_of p (map_entries file_of (map_entries (stored_file (sights p)) ls)))
    ∙ (λ i. file_named p l.0 (is_directory l.0) i ++ list_named p ls i)

pub pack_named : (p : Pack) → map naming_of (pack_entries p) ≡ namings (entries (found (sights p)))
pack_named p = ap (λ es. map naming_of (entries_of p es)) (found_list (sights p)) ∙ list_named p (puts fid_cmp (leader_entries (sights p))) ∙ ap namings (sym (found_list (sights p)))

-- DiskDescriptor has none
none_in_descriptor : (ss : List Sight) (ls : List (Fid × Leader)) → namings (where_key fid_cmp is_described (map_entries file_of (map_entries (stored_file ss) ls))) ≡ namings (map_entries file_of (map_entries (stored_file ss) ls))
none_in_descriptor ss [] = refl
none_in_descriptor ss (l ∷ ls) = elim (is_fid l.0 disk_descriptor) as (λ b. is_fid l.0 disk_descriptor ≡ b
    → namings (cond (not b) ((l.0, file_of l.0 (stored_file ss l.0 l.1)) ∷ where_key fid_cmp is_described (map_entries file_of (map_entries (stored_file ss) ls))) (where_key fid_cmp is_described (map_entries file_of (map_entries (stored_file ss) ls))))
    ≡ namings (map_entries file_of (map_entries (stored_file ss) (l ∷ ls)))) [
      | true ↦ λ e. none_in_descriptor ss ls ∙ ap (λ x. x ++ namings (map_entries file_of (map_entries (stored_file ss) ls))) (sym (ap (λ f. body_namings l.0 (body_of f (file_bytes ss l.0))) (same_fid l.0 disk_descriptor e)))
      | false ↦ λ e. ap (λ x. body_namings l.0 (body_of l.0 (file_bytes ss l.0)) ++ x) (none_in_descriptor ss ls)
    ] refl

pub described_named : (p : Pack) → namings (entries (described (sights p))) ≡ map naming_of (pack_entries p)
described_named p =
    ap namings (described_list (sights p)) ∙ none_in_descriptor (sights p) (puts fid_cmp (leader_entries (sights p))) ∙ ap namings (sym (found_list (sights p))) ∙ sym (pack_named p)

pub mended_namings : (p : Pack) → namings (entries (mended_pack p).files) ≡ scanned (is_kept (lives_then p)) [] (map naming_of (pack_entries p))
unfolding mended
mended_namings p =
    let ss = sights p in
    ap namings (entries-tidied (lives_then p) (rooted (described ss)))
    ∙ files_scanned (is_kept (lives_then p)) [] (entries (rooted (described ss)))
    ∙ ap (scanned (is_kept (lives_then p)) []) (
    rooted_namings (described ss) ∙ described_named p)

-- ---- what is known of them
kept_scanned : (alive : Fid → Bool) (f : Fid) (before : List Naming) (es : List PlacedEntry) → list_any (λ n. is_fid n.fid f) (scanned (is_kept alive) before (map naming_of es)) ≡ list_any (λ e. is_fid e.fid f) (kept_among alive before es)
kept_scanned alive f before [] = refl
kept_scanned alive f before (e ∷ es) = elim (is_kept alive before (naming_of e)) as (λ b.
    list_any (λ n. is_fid n.fid f) (cond b (naming_of e ∷ scanned (is_kept alive) (naming_of e ∷ before) (map naming_of es)) (scanned (is_kept alive) before (map naming_of es)))
    ≡ list_any (λ e. is_fid e.fid f) (cond b (e ∷ kept_among alive (naming_of e ∷ before) es) (kept_among alive before es))) [
      | true ↦ ap (λ b. is_fid e.fid f || b) (kept_scanned alive f (naming_of e ∷ before) es)
      | false ↦ kept_scanned alive f before es
    ]

pub mended_named : (p : Pack) (f : Fid) → is_named (mended_pack p) f ≡ list_any (λ e. is_fid e.fid f) (kept_among (lives_then p) [] (pack_entries p))
mended_named p f = ap (list_any (λ n. is_fid n.fid f)) (mended_namings p) ∙ kept_scanned (lives_then p) f [] (pack_entries p)

turned : {X : Type 0} (b : Bool) (o : Option X) → cond (not b) o None ≡ cond b None o
turned true o = refl
turned false o = refl

names_get : (m : Model) (q : Fid) → get (view m).names q ≡ cond (is_system q) None (find fid_cmp q (homes (namings (entries m.files))))
unfolding view
names_get m q =
    get-retain_keys (names_of m.files) is_shown q (λ x tie. ap is_shown (sym (fid_same q x tie)))
    ∙ ap (λ o. cond (is_shown q) o None) (get-from_entries fid_total (homes (namings (entries m.files))) q)
    ∙ turned (is_system q) (find fid_cmp q (homes (namings (entries m.files))))

pub mended_names : (p : Pack) → fold (considered (lives_then p)) (empty {R = fid_cmp}) (map naming_of (pack_entries p)) ≡ (view (mended_pack p)).names
mended_names p =
    let ns = map naming_of (pack_entries p) in
    same_map fid_total fid_same _ _ (λ q.
    (follow_all (lives_then p) ns [] [] (empty {R = fid_cmp}) follows_none).has q
    ∙ ap (λ l. cond (is_system q) None (find fid_cmp q (homes l))) (sym (mended_namings p))
    ∙ sym (names_get (mended_pack p) q))
