-- Names that settling leaves as they are.
use Rattle.std.proofs.Common.{Bool, List, [], ap, cond, false, refl, true, ◌∙◌, ◌∷◌, ◌≡◌}
use Rattle.std.specs.FinMap.{FinMap, contains_key, entries, get, get-insert}
use Rattle.std.specs.Option.{is_some}
use Rattle.laws_operation.specs.alto_words.specs.Fid.{fid_cmp, is_fid}
use Rattle.laws_operation.specs.alto_words.specs.declared.fid.Fid.{Fid}
use Rattle.laws_operation.specs.pack_model.specs.reading.Model.{read_as}
use Rattle.laws_operation.specs.pack_model.specs.reading.Sights.{sights}
use Rattle.laws_operation.specs.pack_model.specs.showing.Settling.{adopted, given, settle, settled}
use Rattle.laws_operation.specs.pack_model.specs.showing.View.{Home, Seen, view}
use Rattle.laws_operation.specs.pack_laws.proofs.Keys.{fid_total}
use Rattle.laws_record.proofs.Settles.{has_name, some_more}
use Rattle.laws_room.proofs.Each.{Each, each_entry}
use Rattle.laws_room.proofs.SoundPacks.{model_lives, names_all}
use Rattle.laws_room.specs.ShownLaws.{NamedFilesAreShownAsViewed, SettlingAgainChangesNothing, SoundPackShowsItsView}

-- each file has a name
abbrev Named : FinMap fid_cmp Home → List (Fid × Seen) → Type 0
Named names es = Each (λ f x. contains_key names f ≡ true) es

-- then none is given
none_settled : (names : FinMap fid_cmp Home) (es : List (Fid × Seen)) → Named names es → settled names es ≡ names
none_settled names [] h = refl
none_settled names (e ∷ es) h = ap (λ c. settled (cond c names (given names e.0 e.1)) es) h.0 ∙ none_settled names es h.1

-- a file that is named stays so where another is given a name
kept_one : (names : FinMap fid_cmp Home) (e : Fid × Seen) (f : Fid) → contains_key names f ≡ true → contains_key (adopted names e) f ≡ true
kept_one names e f h = by (contains_key names e.0)
  where
    by : (b : Bool) → contains_key (cond b names (given names e.0 e.1)) f ≡ true
    by true = h
    by false = ap is_some (get-insert fid_total names e.0 _ f) ∙ some_more (is_fid f e.0) _ (get names f) h

kept_all : (names : FinMap fid_cmp Home) (es : List (Fid × Seen)) (f : Fid) → contains_key names f ≡ true → contains_key (settled names es) f ≡ true
kept_all names [] f h = h
kept_all names (e ∷ es) f h = kept_all (adopted names e) es f (kept_one names e f h)

-- the file that it comes to has one then
named_then : (names : FinMap fid_cmp Home) (e : Fid × Seen) → contains_key (adopted names e) e.0 ≡ true
named_then names e = by (contains_key names e.0) refl
  where
    by : (b : Bool) → contains_key names e.0 ≡ b → contains_key (cond b names (given names e.0 e.1)) e.0 ≡ true
    by true is = is
    by false is = has_name names e.0 _

-- so all have
all_named : (names : FinMap fid_cmp Home) (es : List (Fid × Seen)) → Named (settled names es) es
all_named names [] = tt
all_named names (e ∷ es) = (kept_all (adopted names e) es e.0 (named_then names e), all_named (adopted names e) es)

pub settling_again_changes_nothing : SettlingAgainChangesNothing
unfolding settle
settling_again_changes_nothing v = ap (λ names. record v { names = names }) (none_settled (settled v.names (entries v.files)) (entries v.files) (all_named v.names (entries v.files)))

pub named_files_are_shown_as_viewed : NamedFilesAreShownAsViewed
unfolding settle
named_files_are_shown_as_viewed m named = ap (λ names. record (view m) { names = names }) (none_settled (view m).names (entries (view m).files) (each_entry (λ f x. contains_key (view m).names f ≡ true) (view m).files (names_all m named)))

pub sound_pack_shows_its_view : SoundPackShowsItsView
sound_pack_shows_its_view p s = named_files_are_shown_as_viewed (read_as p) (λ f there. s.named f (model_lives p.shape (sights p) f there))
