-- The record writes of closing, from the last page to the first.
use Rattle.std.proofs.Common.{Bool, Err, IsErrOf, List, Option, Result, [], ap, append_assoc, arith, get_or, length, drop, subst, suc, sym, zero, ℕ, ◌++◌, ◌+◌, ◌*◌, ◌<◌, ◌∙◌, ◌≡◌, ◌≤◌}
use Rattle.std.proofs.Math.Seq.{drop-cons}
use Rattle.std.proofs.lemmas.List.{append-nil, length-append}
use Rattle.std.specs.Prelude.{reverse}
use Rattle.disk_records.proofs.Growing.{added-twice, pack-after}
use Rattle.disk_records.specs.Commands.{value_writes}
use Rattle.disk_records.specs.Events.{IsFirstOf}
use Rattle.disk_records.specs.Packs.{after, carried, label_found}
use Rattle.disk_records.specs.Tapes.{DiskAlone, Grown, Taped, added, pack}
use Rattle.disk_records.specs.declared.records.Event.{Event}
use Rattle.disk_records.specs.declared.shape.Shape.{Shape}
use Rattle.laws_format.specs.laws_operation.proofs.CloseLaw.{last_value}
use Rattle.laws_format.specs.laws_record.proofs.Carried.{values_carried}
use Rattle.pack_model.specs.operations.Commands.{values_writes}
use Rattle.pack_model.specs.sessions.Descriptor.{closed_values, descriptor_value}
use Rattle.pack_model.specs.states.Sound.{mark_clean}
use Rattle.disk_descriptor.proofs.Guards.{held_as, held_of, own_then, own_value, values_found}
use Rattle.disk_descriptor.proofs.Writings.{writes_stop, writes_then}
use Rattle.disk_descriptor.specs.Answers.{IfHeld}
use Rattle.disk_descriptor.specs.Writing.{AreOwnValues, FindsOther, GuardsPage, StopsAt, Writes}
use Rattle.disk_descriptor.specs.declared.errors.DescError.TheVariants.{Memory}
use Rattle.disk_descriptor.specs.declared.errors.DescError.{DescError}

-- the record writes of the pages from page n on, counted from 0
abbrev pub done : Shape → ℕ → List Bool → List ℕ → ℕ → List Event
done shape last busy pages n = values_writes (reverse (closed_values shape last busy n (drop n pages)))

module _ (shape : Shape) (last : ℕ) (busy : List Bool) (pages : List ℕ) where
  -- the page before them comes next
  one_before : (n : ℕ) → n < length pages → done shape last busy pages n ≡ done shape last busy pages (suc n) ++ value_writes (get_or pages n 0) (descriptor_value shape last mark_clean busy n)
  one_before n within =
      ap (λ l. values_writes (reverse (closed_values shape last busy n l))) (drop-cons pages n 0 within)
      ∙ last_value shape last n (get_or pages n 0) busy (drop (suc n) pages)

  pub one_more_done : (n left : ℕ) → left ≡ n + 1 → n < length pages → done shape last busy pages n ≡ done shape last busy pages left ++ value_writes (get_or pages n 0) (descriptor_value shape last mark_clean busy n)
  one_more_done n left is within =
      let same : suc n ≡ left = omega arith in
      one_before n within ∙ ap (λ k. done shape last busy pages k ++ value_writes (get_or pages n 0) (descriptor_value shape last mark_clean busy n)) same

  -- and then those before it
  rest_done : (n : ℕ) → n ≤ length pages → (rest : List Event) × (done shape last busy pages 0 ≡ done shape last busy pages n ++ rest)
  rest_done zero within = ([], sym (append-nil (done shape last busy pages 0)))
  rest_done (suc n) within =
      let before = rest_done n (omega arith) in
      let one : List Event = value_writes (get_or pages n 0) (descriptor_value shape last mark_clean busy n) in
      (one ++ before.0, before.1 ∙ ap (λ es. es ++ before.0) (one_before n (omega arith)) ∙ append_assoc (done shape last busy pages (suc n)) one before.0)

  -- ---- each sector carries what it carried and has its label, whatever values were written
  still_carried : {x y : Taped} (n at : ℕ) → Grown x y → added x y ≡ done shape last busy pages n → carried (pack y) at ≡ carried (pack x) at
  still_carried {x} {y} n at grown wrote =
      ap (λ p. carried p at) (pack-after grown ∙ ap (after (pack x)) wrote)
      ∙ values_carried (reverse (closed_values shape last busy n (drop n pages))) (pack x) at

  still_found : {x y : Taped} (n at : ℕ) → Grown x y → added x y ≡ done shape last busy pages n → label_found (pack y) at ≡ label_found (pack x) at
  still_found {x} {y} n at grown wrote =
      ap (λ p. label_found p at) (pack-after grown ∙ ap (after (pack x)) wrote)
      ∙ values_found (reverse (closed_values shape last busy n (drop n pages))) (pack x) at

  module _ {x y z : Taped} (n left : ℕ) (value : List ℕ) (is : left ≡ n + 1) (within : n < length pages) (first : DiskAlone x y) (next : DiskAlone y z)
      (wrote : added x y ≡ done shape last busy pages left) (same : value ≡ descriptor_value shape last mark_clean busy n) where
    -- one page more is done
    pub page_done : added y z ≡ value_writes (get_or pages n 0) value → added x z ≡ added x y ++ added y z → added x z ≡ done shape last busy pages n
    page_done now both = both ∙ (λ i. wrote i ++ now i) ∙ ap (λ v. done shape last busy pages left ++ value_writes (get_or pages n 0) v) same ∙ sym (one_more_done n left is within)

    -- it broke off at this page
    pub page_failed : {T U : Type 0} (e : DescError) (m : ℕ) → y.runs ≤ x.runs + m → m + 2 ≤ 2 * length pages → Writes {T = T} Memory (value_writes (get_or pages n 0) value) 2 y z (Err e) → Writes {T = U} Memory (done shape last busy pages 0) (2 * length pages) x z (Err e)
    page_failed {T} e m ran most broken =
        let rest = rest_done n (omega arith) in
        let v : List Event = value_writes (get_or pages n 0) value in
        let goes : done shape last busy pages 0 ≡ (done shape last busy pages left ++ v) ++ rest.0 =
        rest.1 ∙ ap (λ es. es ++ rest.0) (one_more_done n left is within ∙ ap (λ w. done shape last busy pages left ++ value_writes (get_or pages n 0) w) (sym same)) in
        writes_stop {T = T} Memory e (done shape last busy pages left ++ v) rest.0 (done shape last busy pages 0) (m + 2) (2 * length pages) goes most
        (writes_then Memory (done shape last busy pages left) v m 2 first.grown next.grown wrote ran broken)

    -- the page that is written is in a sector that carried it as the call began
    pub page_own : {T : Type 0} {result : Result T DescError} → AreOwnValues (pack x) pages (length pages) (added x y) → length (added x y) + left ≡ length pages → IsFirstOf (value_writes (get_or pages n 0) value) (added y z) → GuardsPage (get_or pages n 0) (n + 1) y z result
        → AreOwnValues (pack x) pages (length pages) (added x z)
    page_own so_far many some guards =
        let one : AreOwnValues (pack x) pages (suc n) (added y z) = own_value (pack x) pages n value (added y z) some (λ now. sym (still_carried left (get_or pages n 0) first.grown wrote) ∙ guards.own now) in
        let same : suc n ≡ left = omega (arith, is) in
        subst (AreOwnValues (pack x) pages (length pages)) (sym (added-twice first.grown next.grown))
        (own_then (pack x) pages (length pages) left (added x y) (added y z) so_far many (subst (λ k. AreOwnValues (pack x) pages k (added y z)) same one))

    -- or isn't, where that sector didn't carry it
    pub page_held : (T U : Type 0) (e : DescError) → length (added x y) + left ≡ length pages → GuardsPage {T = T} (get_or pages n 0) (n + 1) y z (Err e) → IfHeld {T = U} (Err e) (StopsAt (pack x) pages (added x z))
    page_held T U e many guards = held_of T U (StopsAt (pack x) pages (added x z)) e (held_as {T = T} (Err e) stops guards.held)
      where
        stops : (place : ℕ) (found : Option (List ℕ)) → FindsOther (pack y) (get_or pages n 0) (n + 1) (added y z) place found → StopsAt (pack x) pages (added x z) place found
        stops place found h =
            let all : length (added x z) ≡ length (added x y) + length (added y z) = ap length (added-twice first.grown next.grown) ∙ length-append (added x y) (added y z) in
            let none = ap length h.silent in
            record {
              n = n;
              is_kept = h.here;
              other = λ carries. h.other (ap (carried (pack y)) (sym h.here) ∙ still_carried left place first.grown wrote ∙ carries);
              label = h.label ∙ still_found left (get_or pages n 0) first.grown wrote ∙ ap (label_found (pack x)) (sym h.here);
              later = omega (arith, all, none, many, is);
            }

    -- or isn't, out of memory
    pub page_short : {T U : Type 0} (e : DescError) → length (added x y) + left ≡ length pages → GuardsPage {T = T} (get_or pages n 0) (n + 1) y z (Err e) → IsErrOf {T = U} (Err e) Memory → length (added x z) < length pages
    page_short {T} {U} e many guards want =
        let all : length (added x z) ≡ length (added x y) + length (added y z) = ap length (added-twice first.grown next.grown) ∙ length-append (added x y) (added y z) in
        let same : e ≡ Memory = cc in
        let none = ap length (guards.short (ap Err same)) in
        omega (arith, all, none, many, is)
