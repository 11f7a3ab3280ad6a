-- The listing of small packs.
use Rattle.std.proofs.Common.{◌≡◌, ℕ, List, [], ◌∷◌, Option, Some, None, ap, ◌∙◌}
use Rattle.std.specs.Prelude.{codes, map}
use Rattle.std.specs.Fmt.{digits}
use Rattle.std.specs.declared.cmp.Ordering.{Ordering}
use Rattle.std.specs.Option.{option_map}
use Rattle.std.specs.Cmp.{IsTotalOrder}
use Rattle.std.specs.FinMap.{find, get-entries, entries}
use Rattle.pack_laws.specs.alto_words.specs.declared.fid.Fid.{Fid}
use Rattle.pack_laws.specs.alto_words.specs.Fid.{fid_cmp, sys_dir, ordinary_fid, directory_fid}
use Rattle.pack_laws.specs.alto_words.specs.Names.{is_stored_name, suffixed}
use Rattle.pack_laws.specs.disk_records.specs.Addresses.{real_of}
use Rattle.pack_laws.specs.disk_records.specs.Labels.{in_range, is_free}
use Rattle.pack_laws.specs.disk_records.specs.Commands.{value_writes}
use Rattle.pack_laws.specs.disk_records.specs.Packs.{Pack, after, sector_at}
use Rattle.pack_laws.specs.pack_model.specs.operations.Operations.{drop_writes}
use Rattle.pack_laws.specs.pack_model.specs.operations.PageWords.{freed_value}
use Rattle.pack_laws.specs.pack_model.specs.reading.Leaders.{leader_of, leader_name, is_readable}
use Rattle.pack_laws.specs.pack_model.specs.reading.Sights.{sight, sights, sights_from}
use Rattle.pack_laws.specs.pack_model.specs.reading.Files.{first, joined, most_pages, file_bytes}
use Rattle.pack_laws.specs.pack_model.specs.reading.Slots.{slots_after, slot_at, is_entry}
use Rattle.pack_laws.specs.pack_model.specs.reading.Namings.{Naming, keeps_system}
use Rattle.pack_laws.specs.pack_model.specs.reading.Model.{read_as}
use Rattle.pack_laws.specs.pack_model.specs.showing.View.{Home, Seen, View}
use Rattle.pack_laws.specs.pack_model.specs.showing.Settling.{most_suffixes, settle, show}
use Rattle.pack_laws.specs.pack_model.specs.showing.Listing.{Listed, in_order, naming_of, naming_cmp, listed_cmp, size_of, line_of, shown_names, listing}
use Rattle.pack_laws.proofs.ByLists.{puts, entries-puts, read_by, read_list, seen_by, seen_list, shown_by, shown_list}
use Rattle.pack_laws.proofs.Orders.{listed_total, naming_total}
use Rattle.pack_vectors.proofs.SmallPacks.{three_x, in_d, versions}

-- ---- the listing by lists
abbrev ordered_by : {X : Type 0} → (X → X → Ordering) → List X → List X
ordered_by R xs = map (λ e. e.0) (puts R (map (λ x. (x, tt {0})) xs))

ordered_is : {X : Type 0} (R : X → X → Ordering) → IsTotalOrder R → (xs : List X) → in_order R xs ≡ ordered_by R xs
ordered_is R o xs = ap (map (λ e. e.0)) (entries-puts o (map (λ x. (x, tt {0})) xs))

abbrev line_by : List (Fid × Home) → List (Fid × Seen) → Naming → Listed
line_by names files n = record { dir_name = option_map (λ h. h.name) (find fid_cmp n.dir names); naming = n; size = size_of (find fid_cmp n.fid files) }

abbrev listing_by : List (Fid × Home) → List (Fid × Seen) → List Listed
listing_by names files = ordered_by listed_cmp (map (line_by names files) (ordered_by naming_cmp (map naming_of names)))

listing_list : (v : View) → listing v ≡ listing_by (entries v.names) (entries v.files)
listing_list v =
    ordered_is listed_cmp listed_total (map (line_of v) (shown_names v))
    ∙ (λ i. ordered_by listed_cmp (map (λ n. record { dir_name = option_map (λ h. h.name) (get-entries v.names n.dir i); naming = n; size = size_of (get-entries v.files n.fid i) }) (ordered_is naming_cmp naming_total (map naming_of (entries v.names)) i)))

listing_is : (p : Pack) → listing (show p) ≡ listing_by (shown_by (sights p)) (seen_by (read_by (sights p)))
unfolding settle
listing_is p = listing_list (show p) ∙ (λ i. listing_by (shown_list p i) ((seen_list (read_as p) ∙ ap seen_by (read_list p.shape (sights p))) i))

-- ---- listings
abbrev line : Option (List ℕ) → Fid → List ℕ → Fid → Option ℕ → Listed
line dir_name d name f size = record { dir_name = dir_name; naming = record { dir = d; name = name; fid = f }; size = size }

three_listed : listing (show three_x)
    ≡ line None sys_dir (codes "D.") (directory_fid 3) None
    ∷ line None sys_dir (codes "E.") (directory_fid 5) None
    ∷ line None sys_dir (codes "X.") (ordinary_fid 7) (Some 0)
    ∷ line None sys_dir (codes "X.$1.") (ordinary_fid 4) (Some 0)
    ∷ line None sys_dir (codes "X.$2.") (ordinary_fid 6) (Some 0)
    ∷ []
unfolding sights_from sight real_of in_range is_free leader_of leader_name is_readable is_stored_name first joined most_pages file_bytes slots_after slot_at is_entry keeps_system most_suffixes suffixed digits
three_listed = listing_is three_x

-- by base, and then by version as a number
versions_listed : listing (show versions)
    ≡ line None sys_dir (codes "A.") (ordinary_fid 3) (Some 0)
    ∷ line None sys_dir (codes "a!2.") (ordinary_fid 4) (Some 0)
    ∷ line None sys_dir (codes "A!10.") (ordinary_fid 5) (Some 0)
    ∷ line None sys_dir (codes "A.$1!2.") (ordinary_fid 6) (Some 0)
    ∷ []
unfolding sights_from sight real_of in_range is_free leader_of leader_name is_readable is_stored_name first joined most_pages file_bytes slots_after slot_at is_entry keeps_system most_suffixes suffixed digits
versions_listed = listing_is versions

-- a directory's names come after SysDir's, under its own name there
in_d_listed : listing (show in_d) ≡ line None sys_dir (codes "D.") (directory_fid 3) None ∷ line (Some (codes "D.")) (directory_fid 3) (codes "A.") (ordinary_fid 4) (Some 5) ∷ []
unfolding sights_from sight real_of in_range is_free leader_of leader_name is_readable is_stored_name first joined most_pages file_bytes slots_after slot_at is_entry keeps_system most_suffixes suffixed digits
in_d_listed = listing_is in_d

-- ---- a drop whose entry was freed first
-- the file whose entry is freed while its leader is there gets its leader's name in SysDir: a listing that was neither before the drop nor is
-- after it
abbrev freed_in_d : List ℕ
freed_in_d = freed_value 0 8 (sector_at in_d 6).value

freed_first_listed : listing (show (after in_d (value_writes 6 freed_in_d))) ≡ line None sys_dir (codes "A.") (ordinary_fid 4) (Some 5) ∷ line None sys_dir (codes "D.") (directory_fid 3) None ∷ []
unfolding sights_from sight real_of in_range is_free leader_of leader_name is_readable is_stored_name first joined most_pages file_bytes slots_after slot_at is_entry keeps_system most_suffixes suffixed digits
freed_first_listed = listing_is (after in_d (value_writes 6 freed_in_d))

dropped_listed : listing (show (after in_d (drop_writes 7 (8 ∷ []) 6 freed_in_d))) ≡ line None sys_dir (codes "D.") (directory_fid 3) None ∷ []
unfolding sights_from sight real_of in_range is_free leader_of leader_name is_readable is_stored_name first joined most_pages file_bytes slots_after slot_at is_entry keeps_system most_suffixes suffixed digits
dropped_listed = listing_is (after in_d (drop_writes 7 (8 ∷ []) 6 freed_in_d))
