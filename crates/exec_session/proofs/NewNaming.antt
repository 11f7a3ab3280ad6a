-- The names that new entries get, by the slots of a directory.
use Rattle.std.proofs.Common.{◌≡◌, ◌+◌, ◌||◌, ℕ, Bool, true, false, cond, nat_lt, List, Option, Some, None, Result, Ok, Err, IfOk, IsErrOf, refl, sym, ap, subst, ◌∙◌}
use Rattle.std.specs.Option.{is_none, option_map}
use Rattle.alto_words.specs.declared.fid.Fid.{Fid}
use Rattle.alto_words.specs.declared.wanted.Wanted.{Wanted}
use Rattle.alto_words.specs.declared.wanted.Wanted.TheVariants.{Exact, Newest}
use Rattle.alto_words.specs.Names.{most_version, with_version}
use Rattle.alto_words.specs.Wanted.{base_wanted}
use Rattle.disk_records.specs.Causes.{HasCause, Unfailed}
use Rattle.disk_records.specs.Packs.{Pack}
use Rattle.disk_records.specs.Tapes.{Taped}
use Rattle.disk_records.specs.declared.records.Page.{Page}
use Rattle.disk_records.specs.declared.records.Place.{Place}
use Rattle.pack_model.specs.hints.Links.{dir_slots}
use Rattle.pack_model.specs.reading.Lookup.{EntryAt, entered, entry_at}
use Rattle.pack_model.specs.reading.Model.{dir_items, read_as}
use Rattle.pack_model.specs.reading.Slots.{Item}
use Rattle.pack_model.specs.reading.Versions.{Entered, exact, greatest_version, is_base_taken, is_held, is_name_taken, new_name}
use Rattle.page_seeking.proofs.Once.{once_of_whole}
use Rattle.page_seeking.specs.declared.refs.FileRef.{FileRef}
use Rattle.directory.specs.Asked.{DirIsFound, DirStands}
use Rattle.directory.specs.Found.{IsAbsent, IsGreatest, IsLookedUp}
use Rattle.directory.specs.declared.versions.VersionFound.{VersionFound}
use Rattle.directory.specs.laws_lookup.proofs.slots.Laws.{greatest_is_the_models, held_is_the_models, lookup_is_the_models}
use Rattle.exec_words.specs.declared.reply.Refusal.{Refusal}
use Rattle.exec_words.specs.declared.reply.Refusal.TheVariants as refusal
use Rattle.exec_session.specs.declared.stop.Stop.{Stop}
use Rattle.exec_session.specs.declared.stop.Stop.TheVariants as stop
use Rattle.exec_session.specs.declared.stop.Stop.TheVariants.{Refused}
use Rattle.exec_session.specs.Meant.{IfHint, IfRefused}
use Rattle.exec_session.specs.Stops.{cause_of_stop}
use Rattle.exec_session.specs.NewNames.{IsGiven, IsTaken, named_or_taken, version_after}

-- ---- a directory that stands is one that was found
pub found_of_stands : (p : Pack) (dir : FileRef) → DirStands p dir → DirIsFound p dir
found_of_stands p dir s = record { once = once_of_whole p s.stands.whole; from = s.stands.from; directory = s.directory; living = s.living }

-- ---- an entry that is there is not absent
pub not_absent : (p : Pack) (d : Fid) (w : Wanted) (found : FileRef × List ℕ) → IsLookedUp p d w found → IsAbsent p d w → ⊥
not_absent p d w found up none = let n : Some up.entry ≡ None = sym up.meant ∙ none in cc

-- ---- versions, by the model
pub held_in_the_model : (p : Pack) (dir : FileRef) (base : List ℕ) (found : VersionFound) → DirStands p dir → IsGreatest p dir.fid base found → found.held ≡ is_held base (dir_items (read_as p) dir.fid)
held_in_the_model p dir base found s great = great.held ∙ held_is_the_models p dir.fid base s.stands.tidy s.living s.directory

pub greatest_in_the_model : (p : Pack) (dir : FileRef) (base : List ℕ) (found : VersionFound) → DirStands p dir → IsGreatest p dir.fid base found → found.version ≡ greatest_version base (dir_items (read_as p) dir.fid)
greatest_in_the_model p dir base found s great = great.version ∙ greatest_is_the_models p dir.fid base s.stands.tidy s.living s.directory

-- a base that some entry has
pub base_taken : (p : Pack) (dir : FileRef) (base : List ℕ) (found : VersionFound) (t : Bool) → DirStands p dir → IsGreatest p dir.fid base found → nat_lt 0 found.version ≡ t → is_base_taken base (dir_items (read_as p) dir.fid) ≡ t
base_taken p dir base found t s great is = ap (nat_lt 0) (sym (greatest_in_the_model p dir base found s great)) ∙ is

-- ---- a base that is held
or_true : (a b : Bool) → b ≡ true → (a || b) ≡ true
or_true true b e = refl
or_true false b e = e

or_false : (a b : Bool) → a ≡ false → b ≡ false → (a || b) ≡ false
or_false a b d e = rw (d, e) refl

pub taken_by_hold : (p : Pack) (dir : FileRef) (w : Wanted) (found : VersionFound) → DirStands p dir → IsGreatest p dir.fid (base_wanted w) found → found.held ≡ true → IsTaken p dir.fid w refusal.NameTaken
taken_by_hold p dir w found s great held = (refl, or_true (is_none (new_name w (dir_items (read_as p) dir.fid))) (is_held (base_wanted w) (dir_items (read_as p) dir.fid)) (sym (held_in_the_model p dir (base_wanted w) found s great) ∙ held))

-- ---- a name with a stated version
pub given_exact : (p : Pack) (dir : FileRef) (name : List ℕ) (found : VersionFound) → DirStands p dir → IsGreatest p dir.fid (base_wanted (Exact name)) found → found.held ≡ false → IsAbsent p dir.fid (Exact name) → IsGiven p dir.fid (Exact name) name
given_exact p dir name found s great held absent =
    let none : exact name (dir_items (read_as p) dir.fid) ≡ None = sym (lookup_is_the_models p dir.fid (Exact name) s.stands.tidy s.living s.directory) ∙ ap (option_map entered) absent in
    let new : new_name (Exact name) (dir_items (read_as p) dir.fid) ≡ Some name = ap (λ r. cond (is_none r) (Some name) None) none in
    (or_false (is_none (new_name (Exact name) (dir_items (read_as p) dir.fid))) (is_held (base_wanted (Exact name)) (dir_items (read_as p) dir.fid)) (ap is_none new) (sym (held_in_the_model p dir (base_wanted (Exact name)) found s great) ∙ held), new)

entered_none : (r : Option EntryAt) → option_map entered r ≡ None → r ≡ None
entered_none None e = refl
entered_none (Some x) e = absurd (let n : Some (entered x) ≡ None = e in cc)

pub taken_exact : (p : Pack) (dir : FileRef) (name : List ℕ) → DirStands p dir → (IsAbsent p dir.fid (Exact name) → ⊥) → is_name_taken (Exact name) (dir_items (read_as p) dir.fid) ≡ true
taken_exact p dir name s there = by (exact name (dir_items (read_as p) dir.fid)) refl
  where
    by : (r : Option Entered) → exact name (dir_items (read_as p) dir.fid) ≡ r → is_name_taken (Exact name) (dir_items (read_as p) dir.fid) ≡ true
    by None is = absurd (there (entered_none (entry_at (Exact name) (dir_slots p dir.fid)) (lookup_is_the_models p dir.fid (Exact name) s.stands.tidy s.living s.directory ∙ is)))
    by (Some x) is = ap (λ r. is_none (cond (is_none r) (Some name) None) || is_held (base_wanted (Exact name)) (dir_items (read_as p) dir.fid)) is

-- ---- the version after the greatest
after_ok : (t : Bool) (v : Option (List ℕ)) → IfOk (cond t (named_or_taken v) (Err (Refused refusal.NameTaken))) (λ name. cond t v None ≡ Some name)
after_ok true None = tt
after_ok true (Some name) = refl
after_ok false v = tt

after_taken : (t : Bool) (v : Option (List ℕ)) → IfRefused (cond t (named_or_taken v) (Err (Refused refusal.NameTaken))) (λ r. (r ≡ refusal.NameTaken) × (is_none (cond t v None) ≡ true))
after_taken true None = (refl, refl)
after_taken true (Some name) = tt
after_taken false v = (refl, refl)

-- whatever it is, it is no hint, no fault and not out of memory
module _ (base : List ℕ) (n : ℕ) where
  pub after_hint : (P : Place → ℕ → Page → Option (List ℕ) → Type 0) → IfHint (version_after base n) P
  after_hint P = by (nat_lt n most_version) (with_version base (n + 1))
    where
      by : (t : Bool) (v : Option (List ℕ)) → IfHint (cond t (named_or_taken v) (Err (Refused refusal.NameTaken))) P
      by true None = tt
      by true (Some name) = tt
      by false v = tt

  pub after_cause : (a b : Taped) → Unfailed a b → HasCause cause_of_stop a b (version_after base n)
  after_cause a b none = by (nat_lt n most_version) (with_version base (n + 1))
    where
      by : (t : Bool) (v : Option (List ℕ)) → HasCause cause_of_stop a b (cond t (named_or_taken v) (Err (Refused refusal.NameTaken)))
      by true None = none
      by true (Some name) = none
      by false v = none

  pub after_unwanted : IsErrOf (version_after base n) stop.Memory → ⊥
  after_unwanted = by (nat_lt n most_version) (with_version base (n + 1))
    where
      by : (t : Bool) (v : Option (List ℕ)) → IsErrOf (cond t (named_or_taken v) (Err (Refused refusal.NameTaken))) stop.Memory → ⊥
      by true None is = cc
      by true (Some name) is = cc
      by false v is = cc

if_ok_then : {A : Type 0} {P Q : A → Type 0} (r : Result A Stop) → IfOk r P → ((x : A) → P x → Q x) → IfOk r Q
if_ok_then (Ok x) h f = f x h
if_ok_then (Err e) h f = tt

pub if_refused_then : {A : Type 0} (P Q : Refusal → Type 0) (r : Result A Stop) → IfRefused r P → ((x : Refusal) → P x → Q x) → IfRefused r Q
if_refused_then P Q (Ok x) h f = tt
if_refused_then P Q (Err (Refused x)) h f = f x h
if_refused_then P Q (Err (stop.Misled place at wanted found)) h f = tt
if_refused_then P Q (Err stop.DiskFault) h f = tt
if_refused_then P Q (Err stop.Memory) h f = tt

module _ (p : Pack) (dir : FileRef) (base : List ℕ) (found : VersionFound) (r : Result (List ℕ) Stop) (s : DirStands p dir) (great : IsGreatest p dir.fid base found) (is : r ≡ version_after base found.version) where
  abbrev items : List Item
  items = dir_items (read_as p) dir.fid

  by_greatest : r ≡ cond (nat_lt (greatest_version base items) most_version) (named_or_taken (with_version base (greatest_version base items + 1))) (Err (Refused refusal.NameTaken))
  by_greatest = is ∙ ap (version_after base) (greatest_in_the_model p dir base found s great)

  pub given_newest : found.held ≡ false → IfOk r (IsGiven p dir.fid (Newest base))
  given_newest held =
      let n = greatest_version base items in
      if_ok_then r (subst (λ x. IfOk x (λ name. cond (nat_lt n most_version) (with_version base (n + 1)) None ≡ Some name)) (sym by_greatest) (after_ok (nat_lt n most_version) (with_version base (n + 1))))
      (λ name new. (or_false (is_none (new_name (Newest base) items)) (is_held base items) (ap is_none new) (sym (held_in_the_model p dir base found s great) ∙ held), new))

  pub taken_newest : IfRefused r (IsTaken p dir.fid (Newest base))
  taken_newest =
      let n = greatest_version base items in
      if_refused_then (λ x. (x ≡ refusal.NameTaken) × (is_none (cond (nat_lt n most_version) (with_version base (n + 1)) None) ≡ true)) (IsTaken p dir.fid (Newest base)) r
      (subst (λ y. IfRefused y (λ x. (x ≡ refusal.NameTaken) × (is_none (cond (nat_lt n most_version) (with_version base (n + 1)) None) ≡ true))) (sym by_greatest) (after_taken (nat_lt n most_version) (with_version base (n + 1))))
      (λ x h. (h.0, ap (λ t. t || is_held base items) h.1))
