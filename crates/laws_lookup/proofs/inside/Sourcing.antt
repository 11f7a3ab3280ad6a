-- Files that were found.
use Rattle.std.proofs.Common.{Bool, List, None, Option, Some, ap, cond, false, inl, inr, nat_lt, refl, subst, sym, true, ℕ, ◌&&◌, ◌<◌, ◌==◌, ◌∙◌, ◌≡◌, ◌⊎◌}
use Rattle.std.proofs.lemmas.Bool.Decides.{nat_tests}
use Rattle.laws_operation.specs.alto_words.specs.Fid.{is_fid}
use Rattle.laws_operation.specs.alto_words.specs.declared.fid.Fid.{Fid}
use Rattle.laws_operation.specs.disk_records.specs.Addresses.{pages_of, real_of}
use Rattle.laws_operation.specs.disk_records.specs.Packs.{Pack, after, carried, label_found, sector_at}
use Rattle.laws_operation.specs.disk_records.specs.Words.{word}
use Rattle.laws_operation.specs.disk_records.specs.declared.records.Event.{Event}
use Rattle.laws_operation.specs.disk_records.specs.declared.records.Place.TheVariants.{Entry, Held, Next, Root}
use Rattle.laws_operation.specs.pack_model.specs.hints.Misled.{leader_page}
use Rattle.laws_operation.specs.pack_model.specs.hints.Sources.{IsFrom}
use Rattle.laws_operation.specs.pack_model.specs.states.Whole.{Whole}
use Rattle.laws_operation.specs.pack_laws.proofs.Keys.{same_fid}
use Rattle.laws_lookup.proofs.inside.Found.{found_entry_stands}
use Rattle.laws_lookup.proofs.Replacing.{entry_beside_stands}
use Rattle.laws_lookup.proofs.inside.Staying.{entries_of_another_directory_stand, leader_stays, pages_of_another_file_stay}
use Rattle.laws_lookup.proofs.inside.TrueHints.{root_carried}
use Rattle.laws_lookup.specs.OtherLaws.{KeepsPages, LeavesOthers}
use Rattle.laws_lookup.specs.SourceLaws.{FoundFileStaysFound, FoundFileStaysFoundBesideSlots, LeaderThatIsNotThereMisleads, LookedUpFileIsFound}
use Rattle.std.proofs.Common.{arith}

pub looked_up_file_is_found : LookedUpFileIsFound
looked_up_file_is_found p d w e live dir h = found_entry_stands p d w e live dir h

-- ---- a leader that isn't there
no_label : (a b c : Bool) (x : Option (List ℕ)) → (a ≡ true → b ≡ true → ⊥) → cond (a && (b && c)) x None ≡ None
no_label false b c x h = refl
no_label true false c x h = refl
no_label true true c x h = absurd (h refl refl)

-- no label is found where no usable sector is
unfound : (p : Pack) (at : ℕ) → (0 < at → at < pages_of p.shape → ⊥) → label_found p at ≡ None
unfound p at none = no_label (nat_lt 0 at) (nat_lt at (pages_of p.shape)) (word (sector_at p at).header 1 == real_of p.shape at) (Some (sector_at p at).label) (λ a b. none (grind (arith, nat_tests)) (grind (arith, nat_tests)))

pub leader_that_is_not_there_misleads : LeaderThatIsNotThereMisleads
leader_that_is_not_there_misleads p events f at Root h failed = record {
  misled = record { stands = (h.0, ap leader_page h.1); misses = λ i n is. failed (ap (carried p) n.named ∙ is) };
  on_disk = λ whole. failed (ap (carried p) h.0 ∙ root_carried p whole ∙ ap (λ g. Some (leader_page g)) (sym h.1));
  finds = record { named = λ i n. ap (label_found (after p events)) n.named; unnamed = λ none. unfound (after p events) at (λ first last. none at (record { first = first; last = last; named = refl })) };
}
leader_that_is_not_there_misleads p events f at (Entry d w) h failed = record {
  misled = record { stands = h; misses = λ i n is. failed (ap (carried p) n.named ∙ is) };
  on_disk = λ whole. tt;
  finds = record { named = λ i n. ap (label_found (after p events)) n.named; unnamed = λ none. unfound (after p events) at (λ first last. none at (record { first = first; last = last; named = refl })) };
}
leader_that_is_not_there_misleads p events f at (Next i) h failed = absurd h
leader_that_is_not_there_misleads p events f at (Held i) h failed = absurd (failed h.1)

-- ---- over an operation
-- a leader is carried still
carried_still : (f : Fid) (p : Pack) (events : List Event) (g : Fid) (at : ℕ) (w : Whole p) (left : LeavesOthers f p (after p events)) → (is_fid g f ≡ false) ⊎ KeepsPages f 0 p (after p events) → carried p at ≡ Some (leader_page g) → carried (after p events) at ≡ Some (leader_page g)
carried_still f p events g at w left kept is = elim kept [
  | inl other ↦ pages_of_another_file_stay f p events at (leader_page g) w left other is
  | inr keeps ↦ leader_stays f p events at (leader_page g) w left refl keeps is
]

pub found_file_stays_found : FoundFileStaysFound
found_file_stays_found f p events g at Root w left elsewhere kept h = h
found_file_stays_found f p events g at (Entry d k) w left elsewhere kept h = (entries_of_another_directory_stand f p (after p events) d k at (leader_page g) left elsewhere).0 h
found_file_stays_found f p events g at (Next i) w left elsewhere kept h = h
found_file_stays_found f p events g at (Held i) w left elsewhere kept h = (h.0, carried_still f p events g at w left kept h.1)

pub found_file_stays_found_beside_slots : FoundFileStaysFoundBesideSlots
found_file_stays_found_beside_slots p events d a old new b g at Root w left keeps r beside h = h
found_file_stays_found_beside_slots p events d a old new b g at (Entry e k) w left keeps r beside h = by (is_fid e d) refl
  where
    by : (c : Bool) → is_fid e d ≡ c → IsFrom (after p events) g at (Entry e k)
    by false other = (entries_of_another_directory_stand d p (after p events) e k at (leader_page g) left other).0 h
    by true own = subst (λ x. IsFrom (after p events) g at (Entry x k)) (sym (same_fid e d own)) (entry_beside_stands p (after p events) d a old new b k at (leader_page g) r (beside own) (subst (λ x. IsFrom p g at (Entry x k)) (same_fid e d own) h))
found_file_stays_found_beside_slots p events d a old new b g at (Next i) w left keeps r beside h = h
found_file_stays_found_beside_slots p events d a old new b g at (Held i) w left keeps r beside h = (h.0, carried_still d p events g at w left (inr keeps) h.1)
