-- The names that nameless files get, and what a pack shows.
-- Nameless files that get their leader's name in the main directory are from the Scavenger of the SOSP 1979 paper; the order and
-- the suffixes are this project's choice.
use Rattle.std.specs.Prelude.{ℕ, zero, suc, ◌&&◌, ◌||◌, Bool, true, false, cond, List, [], ◌∷◌}
use Rattle.std.specs.List.{list_any}
use Rattle.std.specs.FinMap.{FinMap, entries, insert, contains_key}
use Rattle.disk_records.specs.alto_words.specs.declared.fid.Fid.{Fid}
use Rattle.disk_records.specs.alto_words.specs.Fid.{fid_cmp, is_fid, sys_dir}
use Rattle.disk_records.specs.alto_words.specs.Names.{is_same_name, suffixed}
use Rattle.disk_records.specs.Packs.{Pack}
use Rattle.pack_model.specs.reading.Namings.{sys_dir_name, descriptor_name}
use Rattle.pack_model.specs.reading.Model.{read_as}
use Rattle.pack_model.specs.showing.View.{Home, Seen, View, view}

-- a name stands in SysDir, or is that of a system file
abbrev pub is_taken : FinMap fid_cmp Home → List ℕ → Bool
is_taken names name =
    is_same_name name sys_dir_name || is_same_name name descriptor_name
    || list_any (λ e. is_fid e.1.dir sys_dir && is_same_name name e.1.name) (entries names)

-- the name itself, and then its suffixes 1, 2 and so on
abbrev pub choice : List ℕ → ℕ → List ℕ
choice name zero = name
choice name (suc k) = suffixed name (suc k)

-- the first that isn't taken, from the k-th choice on
abbrev pub chosen_from : ℕ → (List ℕ → Bool) → List ℕ → ℕ → List ℕ
chosen_from zero taken name k = choice name k
chosen_from (suc fuel) taken name k = elim (taken (choice name k)) [ false ↦ choice name k | true ↦ chosen_from fuel taken name (suc k) ]

-- more suffixes than this are never asked for
unfoldable pub most_suffixes : ℕ
most_suffixes = 65535

unfoldable pub chosen : FinMap fid_cmp Home → List ℕ → List ℕ
chosen names name = chosen_from most_suffixes (is_taken names) name 0

-- the file has its leader's name in SysDir, or the first suffix that is free
abbrev pub given : FinMap fid_cmp Home → Fid → Seen → FinMap fid_cmp Home
given names f x = insert names f (record { dir = sys_dir; name = chosen names x.leader.name })

abbrev pub adopted : FinMap fid_cmp Home → Fid × Seen → FinMap fid_cmp Home
adopted names e = cond (contains_key names e.0) names (given names e.0 e.1)

-- each file that has no name gets one, in order
abbrev pub settled : FinMap fid_cmp Home → List (Fid × Seen) → FinMap fid_cmp Home
settled names [] = names
settled names (e ∷ es) = settled (adopted names e) es

-- every file with a name
unfoldable pub settle : View → View
settle v = record { files = v.files; names = settled v.names (entries v.files) }

-- what any pack shows
abbrev pub show : Pack → View
show p = settle (view (read_as p))

-- ---- the names that settling gives
-- an item in front of others, unless the test holds
abbrev pub unless : {X : Type 0} → Bool → X → List X → List X
unless true x xs = xs
unless false x xs = x ∷ xs

-- each nameless file with the name that it gets, in order
abbrev pub given_names : FinMap fid_cmp Home → List (Fid × Seen) → List (Fid × List ℕ)
given_names names [] = []
given_names names (e ∷ es) = unless (contains_key names e.0) (e.0, chosen names e.1.leader.name) (given_names (adopted names e) es)
