-- A call that is to do an operation after one that writes nothing.
use Rattle.std.proofs.Common.{Bool, List, OnOk, Result, ap, arith, length, subst, sym, take, [], ℕ, ◌++◌, ◌∙◌, ◌≡◌}
use Rattle.std.proofs.lemmas.List.{append-nil}
use Rattle.disk_records.proofs.Growing.{added-twice, pack-silent}
use Rattle.disk_records.specs.Events.{IsFirstOf, writes_in}
use Rattle.disk_records.specs.Packs.{Pack}
use Rattle.disk_records.specs.Tapes.{DiskAlone, Taped, added, capped, pack}
use Rattle.disk_records.specs.declared.records.Event.{Event}
use Rattle.disk_records.specs.declared.records.Tally.{Tally}
use Rattle.pack_model.specs.operations.Committing.{moves_of}
use Rattle.pack_model.specs.operations.Step.{Operation}
use Rattle.pack_model.specs.reading.Model.{read_as}
use Rattle.pack_model.specs.sessions.Tallies.{counted}
use Rattle.laws_call.specs.Acting.{Acts, Operates, around, begun, refused}
use Rattle.laws_call.specs.Writing.{Written}

module _ (T E : Type 0) (fault memory : E) (o : Operation) (claimed : List ℕ) (a b c : Taped) (one : DiskAlone a b) (two : DiskAlone b c) (silent : added a b ≡ []) (first : a.writes ≡ capped (writes_in a.events)) (mid : b.writes ≡ capped (writes_in b.events)) where
  same : added a c ≡ added b c
  same = added-twice one.grown two.grown ∙ ap (λ l. l ++ added b c) silent

  writes_stay : b.writes ≡ a.writes
  writes_stay = mid ∙ ap (λ (l : List Event). capped (writes_in l)) (one.grown.events ∙ ap (λ l. a.events ++ l) silent ∙ append-nil a.events) ∙ sym first

  -- it is to do the operation from the first call on
  pub silent_before : (bits now : List Bool) (t u : Tally) (result : Result T E) → Operates fault memory o claimed (around b bits t) (around c now u) result → Operates fault memory o claimed (around a bits t) (around c now u) result
  silent_before bits now t u result (refused calm bad rich) = refused (record { silent = same ∙ calm.silent; bits = calm.bits; tally = calm.tally }) bad rich
  silent_before bits now t u result (begun x) =
      let packs : pack b ≡ pack a = pack-silent one.grown silent in
      let spare = one.grown.spare in
      let none : length (added a b) ≡ 0 = ap length silent in
      begun (record {
        writes = x.writes;
        released = x.released;
        exact = subst (λ p. Written p o claimed x.released x.writes) packs x.exact;
        acts = subst (λ p. Acts p o claimed x.released x.writes) packs x.acts;
        some = subst (IsFirstOf x.writes) (sym same) x.some;
        all = subst (λ l. OnOk result (l ≡ x.writes)) (sym same) x.all;
        table = x.table;
        counts = λ tells. x.counts tells
            ∙ ap (λ n. counted n (take (length (added b c)) (moves_of (read_as (pack b)) o)) t) writes_stay
            ∙ ap (λ (p : Pack). counted a.writes (take (length (added b c)) (moves_of (read_as p) o)) t) packs
            ∙ ap (λ l. counted a.writes (take (length l) (moves_of (read_as (pack a)) o)) t) (sym same);
        out_of_memory = λ is. let less = x.out_of_memory is in omega (arith, less, spare, none);
      })
