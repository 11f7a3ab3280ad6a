-- Nothing is shown of a formatted pack.
use Rattle.std.proofs.Common.{◌≡◌, ℕ, true, false, not, cond, List, [], ◌∷◌, Option, Some, None, refl, sym, ap, ◌∙◌}
use Rattle.std.specs.Prelude.{◌||◌}
use Rattle.std.specs.Option.{option_map}
use Rattle.std.specs.FinMap.{get, get-from_entries, get-retain_keys, from_entries, same_map}
use Rattle.laws_hint.specs.alto_words.specs.declared.fid.Fid.{Fid}
use Rattle.laws_hint.specs.alto_words.specs.Fid.{is_fid, is_system, sys_dir, disk_descriptor}
use Rattle.laws_hint.specs.disk_records.specs.declared.shape.Shape.{Shape}
use Rattle.laws_hint.specs.pack_model.specs.reading.Namings.{sys_dir_name, descriptor_name, namings}
use Rattle.laws_hint.specs.pack_model.specs.sessions.Maps.{map_values}
use Rattle.laws_hint.specs.pack_model.specs.showing.View.{Home, Seen, View, homes, names_of, seen_of, view}
use Rattle.laws_hint.specs.pack_model.specs.showing.Settling.{settle, settled, show}
use Rattle.laws_hint.specs.pack_model.specs.sessions.Format.{formatted}
use Rattle.laws_hint.specs.pack_laws.proofs.Keys.{fid_total, fid_same}
use Rattle.laws_hint.specs.pack_laws.proofs.Mapping.{entries-from_entries, get-map_values}
use Rattle.laws_format.specs.Empty.{empty_model, empty_root}
use Rattle.laws_format.specs.Formatted.{nothing_shown}
use Rattle.laws_format.proofs.inside.Reading.{root_entries}
use Rattle.laws_format.proofs.inside.Wholeness.{reads_empty}

module _ (shape : Shape) (moment : ℕ) where
  -- no file but SysDir is in the model
  nothing_seen : (view (empty_model shape moment)).files ≡ from_entries []
  unfolding view
  nothing_seen = same_map fid_total fid_same _ (from_entries []) (λ f.
      get-retain_keys (map_values seen_of (empty_model shape moment).files) (λ g. not (is_system g)) f (λ x e. ap (λ g. not (is_system g)) (sym (fid_same f x e)))
      ∙ ap (λ r. cond (not (is_system f)) r None) (get-map_values fid_total fid_same seen_of (empty_model shape moment).files f ∙ ap (option_map (seen_of f)) (get-from_entries fid_total (root_entries moment) f))
      ∙ elim (is_fid f sys_dir) as (λ b. cond (not (b || is_fid f disk_descriptor)) (option_map (seen_of f) (cond b (Some (empty_root moment)) None)) None ≡ None) [
        | true ↦ refl
        | false ↦ elim (is_fid f disk_descriptor) as (λ c. cond {A = Option Seen} (not c) None None ≡ None) [ true ↦ refl | false ↦ refl ]
      ]
      ∙ sym (get-from_entries fid_total [] f))

  -- both entries are of system files
  abbrev root_home : Home
  root_home = record { dir = sys_dir; name = sys_dir_name }

  abbrev its_home : Home
  its_home = record { dir = sys_dir; name = descriptor_name }

  abbrev both : List (Fid × Home)
  both = (sys_dir, root_home) ∷ (disk_descriptor, its_home) ∷ []

  names_are : names_of (empty_model shape moment).files ≡ from_entries both
  names_are = ap (λ es. from_entries (homes (namings es))) (entries-from_entries fid_total fid_same (root_entries moment) tt)

  nothing_named : (view (empty_model shape moment)).names ≡ from_entries []
  unfolding view
  nothing_named = same_map fid_total fid_same _ (from_entries []) (λ f.
      get-retain_keys (names_of (empty_model shape moment).files) (λ g. not (is_system g)) f (λ x e. ap (λ g. not (is_system g)) (sym (fid_same f x e)))
      ∙ ap (λ r. cond (not (is_system f)) r None) (ap (λ m. get m f) names_are ∙ get-from_entries fid_total both f)
      ∙ elim (is_fid f sys_dir) as (λ b. cond (not (b || is_fid f disk_descriptor)) (cond b (Some root_home) (cond (is_fid f disk_descriptor) (Some its_home) None)) None ≡ None) [
        | true ↦ refl
        | false ↦ elim (is_fid f disk_descriptor) as (λ c. cond {A = Option Home} (not c) (cond c (Some its_home) None) None ≡ None) [ true ↦ refl | false ↦ refl ]
      ]
      ∙ sym (get-from_entries fid_total [] f))

  view_is : view (empty_model shape moment) ≡ nothing_shown
  view_is = λ i. record { files = nothing_seen i; names = nothing_named i }

  abbrev settled_names : List (Fid × Seen) → View
  settled_names es = record { files = from_entries []; names = settled (from_entries []) es }

  settled_is : settle nothing_shown ≡ nothing_shown
  unfolding settle
  settled_is = ap (λ es. settled_names es) (entries-from_entries fid_total fid_same [] tt)

  pub shows_nothing : (number : ℕ) → show (formatted shape number moment) ≡ nothing_shown
  shows_nothing number = ap (λ m. settle (view m)) (reads_empty shape moment number) ∙ ap settle view_is ∙ settled_is
