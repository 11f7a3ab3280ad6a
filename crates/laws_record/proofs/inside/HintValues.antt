-- A value with other hints.
use Rattle.std.proofs.Common.{List, ap, drop, eq-eqb, eqb-true, false, get_or, inl, inr, length, refl, subst, sym, true, ℕ, ◌==◌, ◌∙◌, ◌≡◌, ◌⊎◌}
use Rattle.std.proofs.lemmas.Bool.{cases_lt}
use Rattle.std.proofs.lemmas.List.{length-set, set_past}
use Rattle.pack_laws.specs.disk_records.specs.Packs.{Pack, no_sector, sector_at, with_part}
use Rattle.pack_laws.specs.pack_model.specs.reading.Bytes.{bytes_of}
use Rattle.pack_laws.specs.pack_model.specs.hints.HintWords.{IsHintByte, SameButHints, byte_at}
use Rattle.pack_laws.proofs.Guarding.{front_from, here_written, other_kept}
use Rattle.laws_record.proofs.inside.HintBytes.{hints_mean_nothing}
use Rattle.laws_record.specs.HintLaws.{ValueWithOtherHints}
use Rattle.laws_record.specs.QuietLaws.{with_value}

-- the sector after the write, or the one before
value_there : (p : Pack) (at : ℕ) (value : List ℕ) (i : ℕ) → (sector_at (with_value p at value) i ≡ sector_at p i) ⊎ ((i ≡ at) × ((sector_at (with_value p at value) i).value ≡ value))
value_there p at value i = elim (i == at) as (λ b. (i == at) ≡ b → (sector_at (with_value p at value) i ≡ sector_at p i) ⊎ ((i ≡ at) × ((sector_at (with_value p at value) i).value ≡ value))) [
  | true ↦ λ e. (let z : i ≡ at = eqb-true i at e in elim (cases_lt at (length p.sectors)) [
    | inl l ↦ inr (z, ap (λ k. (sector_at (with_value p at value) k).value) z ∙ ap (λ s. s.value) (here_written p at 2 value l))
    | inr past ↦ inl (ap (λ ss. get_or ss i no_sector) (set_past p.sectors at (with_part 2 value (sector_at p at)) past))
  ])
  | false ↦ λ e. inl (other_kept p at 2 value i (λ same. let t : (i == at) ≡ true = eq-eqb i at same in cc))
] refl

-- the pack differs in hints alone
value_hints : (p : Pack) (at : ℕ) (value : List ℕ) → length value ≡ length (sector_at p at).value → ((k : ℕ) → (get_or (bytes_of value) k 0 ≡ byte_at p at k) ⊎ IsHintByte p at k) → SameButHints p (with_value p at value)
value_hints p at value size bytes = record {
  shape = refl;
  sectors = length-set p.sectors at (with_part 2 value (sector_at p at));
  headers = λ i. (front_from p.sectors at i value).0;
  labels = λ i. ap (drop 3) (front_from p.sectors at i value).1;
  sizes = λ i. elim (value_there p at value i) [
    | inl same ↦ ap (λ s. length s.value) same
    | inr here ↦ ap length here.1 ∙ size ∙ ap (λ k. length (sector_at p k).value) (sym here.0)
  ];
  values = λ i k. elim (value_there p at value i) [
    | inl same ↦ inl (ap (λ s. get_or (bytes_of s.value) k 0) same)
    | inr here ↦ elim (bytes k) [
      | inl e ↦ inl (ap (λ v. get_or (bytes_of v) k 0) here.1 ∙ e ∙ ap (λ j. byte_at p j k) (sym here.0))
      | inr hint ↦ inr (subst (λ j. IsHintByte p j k) (sym here.0) hint)
    ]
  ];
}

-- so it means the same
pub value_with_other_hints : ValueWithOtherHints
value_with_other_hints p at value size bytes = hints_mean_nothing p (with_value p at value) (value_hints p at value size bytes)
