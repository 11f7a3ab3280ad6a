-- Small cases of the names that nameless files get.
use Rattle.std.proofs.Common.{◌≡◌, ℕ, cond, List, [], ◌∷◌, Option, Some, None, refl, ap, ◌∙◌}
use Rattle.std.specs.Prelude.{T, ◌&&◌, ◌||◌, codes}
use Rattle.std.specs.Fmt.{digits}
use Rattle.std.specs.declared.cmp.Ordering.TheVariants.{Less, Greater}
use Rattle.std.specs.List.{list_any}
use Rattle.std.specs.Option.{is_some}
use Rattle.std.specs.FinMap.{from_entries, get-from_entries, find, is_sorted}
use Rattle.pack_laws.specs.alto_words.specs.declared.fid.Fid.{Fid}
use Rattle.pack_laws.specs.alto_words.specs.Fid.{fid_cmp, is_fid, sys_dir, ordinary_fid, directory_fid}
use Rattle.pack_laws.specs.alto_words.specs.Names.{suffixed, is_same_name}
use Rattle.pack_laws.specs.pack_model.specs.reading.Namings.{sys_dir_name, descriptor_name}
use Rattle.pack_laws.specs.pack_model.specs.showing.View.{Home, Seen, View}
use Rattle.pack_laws.specs.pack_model.specs.showing.Settling.{is_taken, chosen, chosen_from, most_suffixes, given, adopted, settled, settle}
use Rattle.pack_laws.specs.pack_model.specs.showing.Listing.{Listed, listed_cmp}
use Rattle.pack_laws.specs.pack_model.specs.operations.Step.{new_leader}
use Rattle.pack_laws.proofs.Keys.{fid_total, fid_same}
use Rattle.pack_laws.proofs.Mapping.{entries-from_entries}
use Rattle.pack_laws.proofs.ByLists.{taken_by}

taken_is : (es : List (Fid × Home)) → T (is_sorted fid_cmp es) → is_taken (from_entries es) ≡ taken_by es
taken_is es h = ap (λ list name. is_same_name name sys_dir_name || is_same_name name descriptor_name || list_any (λ e. is_fid e.1.dir sys_dir && is_same_name name e.1.name) list) (entries-from_entries fid_total fid_same es h)

abbrev home_by : List (Fid × Home) → List ℕ → Home
home_by es name = record { dir = sys_dir; name = chosen_from most_suffixes (taken_by es) name 0 }

-- a file without a name gets one
adopted_is : (es : List (Fid × Home)) (f : Fid) (x : Seen) → T (is_sorted fid_cmp es) → find fid_cmp f es ≡ None → adopted (from_entries es) (f, x) ≡ from_entries ((f, home_by es x.leader.name) ∷ es)
unfolding chosen
adopted_is es f x h none =
    ap (λ r. cond (is_some r) (from_entries es) (from_entries {R = fid_cmp} ((f, record { dir = sys_dir; name = chosen (from_entries es) x.leader.name }) ∷ es))) (get-from_entries fid_total es f ∙ none)
    ∙ ap (λ taken. from_entries {R = fid_cmp} ((f, record { dir = sys_dir; name = chosen_from most_suffixes taken x.leader.name 0 }) ∷ es)) (taken_is es h)

-- a file named by its leader, without an entry
abbrev nameless : List ℕ → Seen
nameless name = record { leader = new_leader name 1000; bytes = Some [] }

abbrev named : List ℕ → Home
named name = record { dir = sys_dir; name = name }

-- two files of one name: the one with the lower full name gets it, the other its first suffix
abbrev two : View
two = record { files = from_entries ((ordinary_fid 4, nameless (codes "X.")) ∷ (ordinary_fid 7, nameless (codes "x.")) ∷ []); names = from_entries [] }

two_named : (settle two).names ≡ from_entries ((ordinary_fid 7, named (codes "x.$1.")) ∷ (ordinary_fid 4, named (codes "X.")) ∷ [])
unfolding settle most_suffixes suffixed digits
two_named =
    ap (settled (from_entries [])) (entries-from_entries fid_total fid_same ((ordinary_fid 4, nameless (codes "X.")) ∷ (ordinary_fid 7, nameless (codes "x.")) ∷ []) tt)
    ∙ ap (λ names. settled names ((ordinary_fid 7, nameless (codes "x.")) ∷ [])) (adopted_is [] (ordinary_fid 4) (nameless (codes "X.")) tt refl)
    ∙ adopted_is ((ordinary_fid 4, named (codes "X.")) ∷ []) (ordinary_fid 7) (nameless (codes "x.")) tt refl

-- the names of the system files count as taken
abbrev like_root : View
like_root = record { files = from_entries ((ordinary_fid 4, nameless (codes "sysdir.")) ∷ []); names = from_entries [] }

like_root_named : (settle like_root).names ≡ from_entries ((ordinary_fid 4, named (codes "sysdir.$1.")) ∷ [])
unfolding settle most_suffixes suffixed digits
like_root_named =
    ap (settled (from_entries [])) (entries-from_entries fid_total fid_same ((ordinary_fid 4, nameless (codes "sysdir.")) ∷ []) tt)
    ∙ adopted_is [] (ordinary_fid 4) (nameless (codes "sysdir.")) tt refl

-- a file that has a name keeps it, wherever it stands; a name in another directory than SysDir isn't taken
kept_is : (es : List (Fid × Home)) (f : Fid) (x : Seen) (h : Home) → find fid_cmp f es ≡ Some h → adopted (from_entries es) (f, x) ≡ from_entries es
kept_is es f x h some = ap (λ r. cond (is_some r) (from_entries es) (given (from_entries es) f x)) (get-from_entries fid_total es f ∙ some)

abbrev in_dir_5 : Home
in_dir_5 = record { dir = directory_fid 5; name = codes "Y." }

abbrev one_named : View
one_named = record { files = from_entries ((ordinary_fid 4, nameless (codes "X.")) ∷ (ordinary_fid 7, nameless (codes "Y.")) ∷ []); names = from_entries ((ordinary_fid 4, in_dir_5) ∷ []) }

names_kept : (settle one_named).names ≡ from_entries ((ordinary_fid 7, named (codes "Y.")) ∷ (ordinary_fid 4, in_dir_5) ∷ [])
unfolding settle most_suffixes suffixed digits
names_kept =
    ap (settled (from_entries ((ordinary_fid 4, in_dir_5) ∷ []))) (entries-from_entries fid_total fid_same ((ordinary_fid 4, nameless (codes "X.")) ∷ (ordinary_fid 7, nameless (codes "Y.")) ∷ []) tt)
    ∙ ap (λ names. settled names ((ordinary_fid 7, nameless (codes "Y.")) ∷ [])) (kept_is ((ordinary_fid 4, in_dir_5) ∷ []) (ordinary_fid 4) (nameless (codes "X.")) in_dir_5 refl)
    ∙ adopted_is ((ordinary_fid 4, in_dir_5) ∷ []) (ordinary_fid 7) (nameless (codes "Y.")) tt refl

-- ---- the order of the listing
abbrev in_dir : Option (List ℕ) → Fid → List ℕ → Fid → Listed
in_dir dir_name d name f = record { dir_name = dir_name; naming = record { dir = d; name = name; fid = f }; size = None }

-- SysDir's names come before a directory's; directories by their names and not their serials; names without regard to case, a dot
-- among the characters
orders :
    (listed_cmp (in_dir None sys_dir (codes "Z.") (ordinary_fid 9)) (in_dir (Some (codes "A.")) (directory_fid 3) (codes "A.") (ordinary_fid 4)) ≡ Less)
    × (listed_cmp (in_dir (Some (codes "b.")) (directory_fid 3) (codes "A.") (ordinary_fid 4)) (in_dir (Some (codes "A.")) (directory_fid 5) (codes "Z.") (ordinary_fid 6)) ≡ Greater)
    × (listed_cmp (in_dir None sys_dir (codes "a.") (ordinary_fid 9)) (in_dir None sys_dir (codes "B.") (ordinary_fid 4)) ≡ Less)
    × (listed_cmp (in_dir None sys_dir (codes "A.") (ordinary_fid 9)) (in_dir None sys_dir (codes "A-B.") (ordinary_fid 4)) ≡ Greater)
orders = (refl, refl, refl, refl)
