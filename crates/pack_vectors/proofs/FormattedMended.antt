-- What the Scavenger would do with the pack that formatting writes: it would take it, and needs no sector.
use Rattle.std.proofs.Common.{◌≡◌, ◌+◌, ◌≤◌, true, false, not, cond, List, [], ◌∷◌, Option, Some, None, refl, sym, ap, subst, ◌∙◌, arith}
use Rattle.std.specs.Prelude.{◌||◌}
use Rattle.std.specs.List.{list_any}
use Rattle.std.specs.Option.{option_map}
use Rattle.std.specs.FinMap.{find, get, get-from_entries, get-insert, get-retain_keys, from_entries, entries, same_map}
use Rattle.pack_laws.specs.alto_words.specs.declared.fid.Fid.{Fid}
use Rattle.pack_laws.specs.alto_words.specs.Fid.{fid_cmp, is_fid, is_system, sys_dir, disk_descriptor}
use Rattle.pack_laws.specs.alto_words.specs.Names.{is_stored_name}
use Rattle.pack_laws.specs.pack_model.specs.reading.Files.{first, joined, most_pages, file_bytes, lives}
use Rattle.pack_laws.specs.pack_model.specs.reading.Slots.{slots_after, slot_at, is_entry}
use Rattle.pack_laws.specs.pack_model.specs.reading.Stored.{stored_file}
use Rattle.pack_laws.specs.pack_model.specs.reading.Bodies.{File, found, file_of, described}
use Rattle.pack_laws.specs.pack_model.specs.reading.Bodies.Body.{data_of}
use Rattle.pack_laws.specs.pack_model.specs.reading.Namings.{sys_dir_name, descriptor_name, tidied, files_kept, is_kept, keeps_system, namings}
use Rattle.pack_laws.specs.pack_model.specs.reading.Model.{is_named, root_items}
use Rattle.pack_laws.specs.pack_model.specs.states.InUse.{available}
use Rattle.pack_laws.specs.pack_model.specs.showing.View.{Seen, view, seen_of}
use Rattle.pack_laws.specs.pack_model.specs.showing.Settling.{unless, given_names}
use Rattle.pack_laws.specs.pack_model.specs.scavenger.Mended.{mended, with_system, rooted, root_body, root_file as root_file_of, lacking, widens}
use Rattle.pack_laws.specs.pack_model.specs.scavenger.Needed.{needed, files_lack, root_lacks, descriptor_lacks, root_widens}
use Rattle.pack_laws.specs.pack_model.specs.scavenger.Scavenging.{RootStands, Scavengeable}
use Rattle.pack_laws.specs.pack_model.specs.sessions.Maps.{map_values}
use Rattle.pack_laws.specs.pack_model.specs.sessions.Format.{formatted}
use Rattle.pack_laws.proofs.Keys.{fid_total, fid_same}
use Rattle.pack_laws.proofs.Mapping.{entries-from_entries, get-map_values}
use Rattle.pack_laws.proofs.Uses.{file_by, found_is, available_is}
use Rattle.pack_vectors.proofs.PackVectors.{formatted_sights}
use Rattle.pack_vectors.proofs.FormattedFiles.{its_leader, its_bytes, fresh, by_file, no_leader}
use Rattle.pack_vectors.proofs.Shapes.{small}
use Rattle.pack_vectors.proofs.FormattedModel.{root_file, root_entries, described_is}

-- ---- what the Scavenger would do with it
available_fresh : available small fresh ≡ 43
unfolding first joined most_pages file_bytes slots_after slot_at is_entry is_stored_name
available_fresh = available_is small fresh

-- the model that it would mend is the one that is read, except SysDir's leader
abbrev mended_entries : List (Fid × File)
mended_entries = (sys_dir, root_file_of root_file.body) ∷ []

rooted_is : rooted (described fresh) ≡ from_entries mended_entries
rooted_is = ap rooted described_is ∙ same_map fid_total fid_same (rooted (from_entries root_entries)) (from_entries mended_entries) (λ f.
    get-insert fid_total (from_entries root_entries) sys_dir (root_file_of (root_body (get (from_entries root_entries) sys_dir))) f
    ∙ (λ i. cond (is_fid f sys_dir) (Some (root_file_of (root_body (get-from_entries fid_total root_entries sys_dir i)))) (get-from_entries fid_total root_entries f i))
    ∙ elim (is_fid f sys_dir) as (λ b. cond b (Some (root_file_of root_file.body)) (cond b (Some root_file) None) ≡ cond b (Some (root_file_of root_file.body)) None) [ true ↦ refl | false ↦ refl ]
    ∙ sym (get-from_entries fid_total mended_entries f))

mended_files : (mended small fresh).files ≡ from_entries mended_entries
unfolding mended tidied keeps_system first
mended_files =
    ap (tidied (with_system (lives fresh))) rooted_is
    ∙ ap (λ es. from_entries (files_kept (is_kept (with_system (lives fresh))) [] es)) (entries-from_entries fid_total fid_same mended_entries tt)

mended_named : (f : Fid) → is_named (mended small fresh) f ≡ list_any (λ n. is_fid n.fid f) (namings mended_entries)
mended_named f = ap (λ es. list_any (λ n. is_fid n.fid f) (namings es)) (ap entries mended_files ∙ entries-from_entries fid_total fid_same mended_entries tt)

-- no other file is seen, and so none lacks a name
nothing_seen : (view (mended small fresh)).files ≡ from_entries []
unfolding view
nothing_seen = same_map fid_total fid_same _ (from_entries []) (λ f.
    get-retain_keys (map_values seen_of (mended small fresh).files) (λ g. not (is_system g)) f (λ x e. ap (λ g. not (is_system g)) (sym (fid_same f x e)))
    ∙ ap (λ r. cond (not (is_system f)) r None) (get-map_values fid_total fid_same seen_of (mended small fresh).files f ∙ ap (option_map (seen_of f)) (ap (λ m. get m f) mended_files ∙ get-from_entries fid_total mended_entries f))
    ∙ elim (is_fid f sys_dir) as (λ b. cond (not (b || is_fid f disk_descriptor)) (option_map (seen_of f) (cond b (Some (root_file_of root_file.body)) None)) None ≡ None) [
      | true ↦ refl
      | false ↦ elim (is_fid f disk_descriptor) as (λ c. cond {A = Option Seen} (not c) None None ≡ None) [ true ↦ refl | false ↦ refl ]
    ]
    ∙ sym (get-from_entries fid_total [] f))

lacks_nothing : lacking (mended small fresh) ≡ []
unfolding lacking
lacks_nothing =
    (λ i. unless (mended_named sys_dir i) (sys_dir, sys_dir_name) (unless (mended_named disk_descriptor i) (disk_descriptor, descriptor_name) (given_names (view (mended small fresh)).names (entries (view (mended small fresh)).files))))
    ∙ ap (λ m. given_names (view (mended small fresh)).names (entries m)) nothing_seen
    ∙ ap (given_names (view (mended small fresh)).names) (entries-from_entries fid_total fid_same [] tt)

no_widens : root_widens small fresh ≡ 0
unfolding widens
no_widens = ap (widens (root_items (mended small fresh))) lacks_nothing

-- all files, and the pages that they lack
abbrev all_entries : List (Fid × File)
all_entries = (disk_descriptor, record { leader = its_leader; body = data_of its_bytes }) ∷ root_entries

abbrev IsFound : Fid → Type 0
IsFound f = file_by fresh f ≡ find fid_cmp f all_entries

root_is_found : IsFound sys_dir
unfolding first joined most_pages file_bytes slots_after slot_at is_entry is_stored_name
root_is_found = refl

its_is_found : IsFound disk_descriptor
unfolding first joined most_pages file_bytes
its_is_found = refl

found_all : found fresh ≡ from_entries all_entries
found_all = same_map fid_total fid_same (found fresh) (from_entries all_entries) (λ f.
    found_is fresh f
    ∙ by_file f (IsFound f)
    (λ e. subst IsFound (sym e) root_is_found)
    (λ e. subst IsFound (sym e) its_is_found)
    (λ a b. ap (option_map (λ l. file_of f (stored_file fresh f l))) (no_leader f a b) ∙ sym (λ i. cond (b i) (Some (record { leader = its_leader; body = data_of its_bytes })) (cond (a i) (Some root_file) None)))
    ∙ sym (get-from_entries fid_total all_entries f))

nothing_lacks : files_lack small fresh (entries (found fresh)) ≡ 0
unfolding first
nothing_lacks = ap (files_lack small fresh) (ap entries found_all ∙ entries-from_entries fid_total fid_same all_entries tt)

needed_fresh : needed small fresh ≡ 0
unfolding needed first
needed_fresh = λ i. nothing_lacks i + root_lacks fresh + descriptor_lacks small fresh + no_widens i

pub scavengeable_fresh : Scavengeable (formatted small 1 1000)
scavengeable_fresh =
    let none : needed small fresh ≡ 0 = needed_fresh in
    let room : needed small fresh ≤ available small fresh = omega arith in
    record {
      root = subst (λ ss. RootStands small ss) (sym formatted_sights) refl;
      room = subst (λ ss. needed small ss ≤ available small ss) (sym formatted_sights) room;
    }
