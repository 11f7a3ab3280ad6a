-- What a visitor has once it has met all slots of a directory.
use Rattle.std.proofs.Common.{◌≡◌, ℕ, ◌||◌, false, List, [], ◌∷◌, ◌++◌, None, sym, ◌∙◌, ap}
use Rattle.std.specs.List.{FoldsTo}
use Rattle.std.specs.Option.{option_map}
use Rattle.std.proofs.lemmas.Fn.{chained_keeps}
use Rattle.alto_words.specs.declared.wanted.Wanted.{Wanted}
use Rattle.alto_words.specs.declared.wanted.Wanted.TheVariants.{Newest}
use Rattle.alto_words.specs.Wanted.{base_wanted}
use Rattle.file_pages.specs.laws_lookup.proofs.slots.Laws.{held_goes_on, lookup_goes_on}
use Rattle.pack_model.specs.reading.Lookup.{entry_at, holds_base, is_held_at, meant_by}
use Rattle.pack_model.specs.reading.SlotWords.{SlotAt}
use Rattle.directory.specs.declared.finding.Finding.{Finding}
use Rattle.directory.specs.declared.versions.Versions.{Versions}
use Rattle.directory.specs.Inside.{MeetsMeant, MeetsVersion, found_at}

-- ---- the entry that is meant
pub record HasMeant (w : Wanted) (met : List SlotAt) (u : Finding) : Type 0 where
  pub wanted : u.wanted ≡ w
  pub best : option_map found_at u.best ≡ entry_at w met

pub meant_more : (w : Wanted) (met : List SlotAt) (u : Finding) (s : SlotAt) (v : Finding) → HasMeant w met u → MeetsMeant u s v → HasMeant w (met ++ s ∷ []) v
meant_more w met u s v so_far step = record {
  wanted = step.wanted ∙ so_far.wanted;
  best = step.best ∙ ap (λ x. meant_by x (option_map found_at u.best) s) so_far.wanted ∙ ap (λ b. meant_by w b s) so_far.best ∙ sym (lookup_goes_on w met s);
}

pub all_meant : (w : Wanted) (slots : List SlotAt) (u v : Finding) → u.wanted ≡ w → u.best ≡ None → FoldsTo MeetsMeant u slots v → HasMeant w slots v
all_meant w slots u v wanted none folds = chained_keeps MeetsMeant (HasMeant w) (meant_more w) slots u v (record { wanted = wanted; best = ap (option_map found_at) none }) folds

-- ---- the greatest version, and whether the base is held
pub record HasVersion (base : List ℕ) (met : List SlotAt) (u : Versions) : Type 0 where
  pub newest : HasMeant (Newest base) met u.newest
  pub held : u.held ≡ is_held_at base met

version_more : (base : List ℕ) (met : List SlotAt) (u : Versions) (s : SlotAt) (v : Versions) → HasVersion base met u → MeetsVersion u s v → HasVersion base (met ++ s ∷ []) v
version_more base met u s v so_far step = record {
  newest = meant_more (Newest base) met u.newest s v.newest so_far.newest step.newest;
  held = step.held ∙ ap (λ w. u.held || holds_base (base_wanted w) s.item) so_far.newest.wanted ∙ ap (λ h. h || holds_base base s.item) so_far.held ∙ sym (held_goes_on base met s);
}

pub all_versions : (base : List ℕ) (slots : List SlotAt) (u v : Versions) → u.newest.wanted ≡ Newest base → u.newest.best ≡ None → u.held ≡ false → FoldsTo MeetsVersion u slots v → HasVersion base slots v
all_versions base slots u v wanted none unheld folds =
    chained_keeps MeetsVersion (HasVersion base) (version_more base) slots u v (record { newest = record { wanted = wanted; best = ap (option_map found_at) none }; held = unheld }) folds
