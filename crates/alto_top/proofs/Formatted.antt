-- A pack whose sectors were written, and the text after it.
use Rattle.std.proofs.Common.{◌≡◌, ◌≢◌, ◌⊎◌, ℕ, zero, suc, ◌+◌, ◌-◌, ◌<◌, ◌≤◌, List, [], ◌∷◌, ◌++◌, length, take, Result, Ok, Err, inl, inr, refl, sym, ap, subst, ◌∙◌, arith}
use Rattle.std.proofs.Math.Seq.{take-append-add}
use Rattle.std.proofs.lemmas.Bool.{cases_lt}
use Rattle.std.proofs.lemmas.List.{take-append-le, take_all}
use Rattle.disk_records.specs.Events.{IsFirstOf, shown_bytes, shown_events}
use Rattle.disk_records.specs.Packs.{Pack, after}
use Rattle.disk_records.specs.Tapes.{Taped, DiskAlone, Grown, ShowAlone, added, pack}
use Rattle.disk_records.specs.declared.records.Event.{Event}
use Rattle.disk_records.proofs.FirstOnes.{first_front, first_then}
use Rattle.disk_records.proofs.Growing.{added-twice, after-append, pack-after, shown-append}
use Rattle.pack_model.specs.showing.Settling.{show}
use Rattle.alto_top.specs.Faults.{DiskFaultCause}
use Rattle.session_boot.specs.Faults.{status_of}
use Rattle.alto_top.specs.Formats.{Rewrites, RewritesAndTells, ShowsThroughout}
use Rattle.session_boot.specs.Keys.{ShownAll}
use Rattle.session_boot.specs.declared.status.Fault.{Fault}
use Rattle.session_boot.specs.declared.status.Fault.TheVariants.{Disk, Key, Display, Memory}
use Rattle.session_boot.specs.declared.status.Status.TheVariants as status

no_fault_is_done : (fault : Fault) → status_of fault ≢ status.Done
no_fault_is_done Disk is = cc
no_fault_is_done Key is = cc
no_fault_is_done Display is = cc
no_fault_is_done Memory is = cc

-- a disk shows nothing
no_display : (x y : Taped) (fault : Fault) → DiskFaultCause x y fault → status_of fault ≢ status.DisplayFault
no_display x y Disk cause is = cc
no_display x y Key cause is = absurd cause
no_display x y Display cause is = absurd cause
no_display x y Memory cause is = cc

-- bytes that are shown leave the pack
pub leaves_pack : (p : Pack) (text : List ℕ) (events : List Event) → IsFirstOf (shown_events text) events → after p events ≡ p
leaves_pack p text [] first = refl
leaves_pack p [] (e ∷ events) first = absurd first
leaves_pack p (byte ∷ text) (e ∷ events) first = (λ i. after p (first.0 i ∷ events)) ∙ leaves_pack p text events first.1

-- a prefix of a prefix
pub first_taken : (n : ℕ) (ws events : List Event) → IsFirstOf ws events → IsFirstOf ws (take n events)
first_taken zero ws events first = tt
first_taken (suc n) ws [] first = tt
first_taken (suc n) [] (e ∷ events) first = absurd first
first_taken (suc n) (w ∷ ws) (e ∷ events) first = (first.0, first_taken n ws events first.1)

-- a fault with another status isn't the display's
not_shown : (fault : Fault) → status_of fault ≢ status.DisplayFault → fault ≢ Display
not_shown fault other is = other (ap status_of is)

disk_is_no_display : status.DiskFault ≢ status.DisplayFault
disk_is_no_display is = cc

memory_is_no_display : status.Memory ≢ status.DisplayFault
memory_is_no_display is = cc

done_is_no_display : status.Done ≢ status.DisplayFault
done_is_no_display is = cc

done_is_no_disk : status.Done ≢ status.DiskFault
done_is_no_disk is = cc

done_is_no_memory : status.Done ≢ status.Memory
done_is_no_memory is = cc

module _ {x y : Taped} (writes : List Event) (words : List ℕ) (leaves_it : Pack → Type 0) (most : ℕ) (alone : DiskAlone x y) where
  -- the disk failed, or was out of memory
  pub broken : {T : Type 0} (fault : Fault) → Rewrites {T = T} writes leaves_it most x y (Err fault) → DiskFaultCause x y fault → RewritesAndTells writes words leaves_it most x y (status_of fault)
  broken fault rewrites cause = record {
    some = first_front writes (shown_events words) (added x y) rewrites.some;
    done = λ is. absurd (no_fault_is_done fault is);
    leaves = λ is. absurd (no_fault_is_done fault is);
    display = λ is. absurd (no_display x y fault cause is);
    disk = λ is. alone.shown;
    memory = λ is. alone.shown;
    runs = rewrites.runs;
  }

  module _ {z : Taped} {T : Type 0} (value : T) (text : List ℕ) (result : Result (Unit {0}) Fault) (rewrites : Rewrites {T = T} writes leaves_it most x y (Ok value)) (is : text ≡ words) (next : ShowAlone y z) (shown : ShownAll text y z result) where
    both : added x z ≡ added x y ++ added y z
    both = added-twice alone.grown next.grown

    first : IsFirstOf (writes ++ shown_events words) (added x z)
    first = subst (IsFirstOf (writes ++ shown_events words)) (sym both)
        (first_then writes (shown_events words) (added x y) (added y z) rewrites.ok (subst (λ t. IsFirstOf (shown_events t) (added y z)) is shown.some))

    stays : leaves_it (pack z)
    stays = subst leaves_it (sym (pack-after next.grown ∙ leaves_pack (pack y) text (added y z) shown.some)) rewrites.leaves

    ran : z.runs ≤ x.runs + most
    ran = let same = next.runs in let few = rewrites.runs in omega (arith, same, few)

    -- where no byte was shown
    silent : added y z ≡ [] → shown_bytes (added x z) ≡ []
    silent none = ap shown_bytes both ∙ shown-append (added x y) (added y z) ∙ (λ i. alone.shown i ++ shown_bytes (none i))

    -- the text was shown whole
    pub whole : added y z ≡ shown_events text → RewritesAndTells writes words leaves_it most x z status.Done
    whole all = record {
      some = first;
      done = λ d. both ∙ (λ i. rewrites.ok i ++ all i) ∙ ap (λ t. writes ++ shown_events t) is;
      leaves = λ d. stays;
      display = λ d. absurd (done_is_no_display d);
      disk = λ d. absurd (done_is_no_disk d);
      memory = λ d. absurd (done_is_no_memory d);
      runs = ran;
    }

    -- the display failed, or was out of memory
    pub cut_short : (fault : Fault) → (fault ≢ Display → added y z ≡ []) → RewritesAndTells writes words leaves_it most x z (status_of fault)
    cut_short fault none = record {
      some = first;
      done = λ d. absurd (no_fault_is_done fault d);
      leaves = λ d. absurd (no_fault_is_done fault d);
      display = λ d. stays;
      disk = λ d. silent (none (not_shown fault (λ e. disk_is_no_display (sym d ∙ e))));
      memory = λ d. silent (none (not_shown fault (λ e. memory_is_no_display (sym d ∙ e))));
      runs = ran;
    }

-- ---- what is shown at each crash point
-- shown bytes after record writes leave each crash point one of these
pub shows_on : {x y z : Taped} (text : List ℕ) → Grown x y → Grown y z → IsFirstOf (shown_events text) (added y z) → ShowsThroughout x y → ShowsThroughout x z
shows_on {x} {y} {z} text one two shown before k unused =
    let all : added x z ≡ added x y ++ added y z = added-twice one two in
    ap (λ es. show (after (pack x) (take k es))) all ∙ by (cases_lt k (length (added x y)))
  where
    at_end : (n : ℕ) (events : List Event) → IsFirstOf (shown_events text) events → IsFirstOf (shown_events text) (take n events)
    at_end n events first = first_taken n (shown_events text) events first

    by : (k < length (added x y)) ⊎ (length (added x y) ≤ k) → show (after (pack x) (take k (added x y ++ added y z))) ≡ show (pack x)
    by (inl within) = ap (λ es. show (after (pack x) es)) (take-append-le k (added x y) (added y z) (omega arith)) ∙ before k unused
    by (inr past) =
        let n : ℕ = k - length (added x y) in
        let same : k ≡ length (added x y) + n = omega arith in
        ap (λ es. show (after (pack x) es)) (ap (λ m. take m (added x y ++ added y z)) same ∙ take-append-add (added x y) (added y z) n)
        ∙ ap show (after-append (pack x) (added x y) (take n (added y z)) ∙ leaves_pack (after (pack x) (added x y)) text (take n (added y z)) (at_end n (added y z) shown))
        ∙ ap (λ es. show (after (pack x) es)) (sym (take_all (length (added x y)) (added x y) (omega arith)))
        ∙ before (length (added x y)) unused
