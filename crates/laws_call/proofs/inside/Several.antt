-- Several operations that are done one after another.
use Rattle.std.proofs.Common.{List, Ok, [], ap, refl, subst, sym, ℕ, ◌++◌, ◌∙◌, ◌∷◌, ◌≡◌}
use Rattle.laws_hint.specs.disk_records.proofs.Growing.{grown_here, grown_twice, pack-after, pack-silent}
use Rattle.laws_hint.specs.disk_records.specs.Packs.{after}
use Rattle.laws_hint.specs.disk_records.specs.Tapes.{Grown, pack}
use Rattle.laws_hint.specs.disk_records.specs.declared.records.Page.{Page}
use Rattle.laws_hint.specs.disk_records.specs.declared.records.Place.{Place}
use Rattle.laws_hint.specs.laws_line.specs.Ready.{steps_of}
use Rattle.laws_hint.specs.pack_model.specs.hints.Misled.{IsOnDisk, Misled}
use Rattle.laws_hint.specs.pack_model.specs.operations.Step.{Operation, step}
use Rattle.laws_hint.specs.pack_model.specs.reading.Model.{Model, read_as}
use Rattle.laws_hint.specs.pack_model.specs.states.Whole.{Tidy, Whole}
use Rattle.laws_call.proofs.inside.Knowing.{written_stays_known}
use Rattle.laws_call.specs.Acting.{Around, BeganToWrite, Operates, begun, refused}
use Rattle.laws_call.specs.SeveralLaws.{DoneMisledBefore, DoneStands, StandsAfter}
use Rattle.laws_call.specs.Several.{DoesOne, Done, look, none, then}

-- ---- one operation that is done
began_to : {E : Type 0} {fault memory : E} {o : Operation} {own : List ℕ} {a b : Around} → Operates {T = Unit {0}} fault memory o own a b (Ok tt) → BeganToWrite {T = Unit {0}} fault memory o own a b (Ok tt)
began_to (refused quiet bad rich) = absurd bad
began_to (begun b) = b

module _ {E : Type 0} {fault memory : E} {o : Operation} {own : List ℕ} {a b : Around} (one : DoesOne fault memory o own a b (Ok tt)) where
  abbrev one_began : BeganToWrite {T = Unit {0}} fault memory o own a b (Ok tt)
  one_began = began_to one.operates

  one_ends : pack b.tape ≡ after (pack a.tape) one_began.writes
  one_ends = pack-after one.went.alone.grown ∙ ap (after (pack a.tape)) one_began.all

  one_misled : Whole (pack a.tape) → Tidy (pack a.tape) → (place : Place) (at : ℕ) (wanted : Page) → IsOnDisk place → Misled (pack b.tape) place at wanted → Misled (pack a.tape) place at wanted
  one_misled w t place at wanted disk m =
      (written_stays_known (pack a.tape) o own one_began.released one_began.writes w t one_began.exact).misled place at wanted disk (subst (λ q. Misled q place at wanted) one_ends m)

-- ---- all of them
-- the machine went on
grown_over : {E : Type 0} {fault memory : E} {old : Around} {ops : List Operation} {claimed : List ℕ} {new : Around} → Done fault memory old ops claimed new → Grown old.tape new.tape
grown_over {old = old} none = grown_here old.tape
grown_over (look done quiet went) = grown_twice (grown_over done) went.alone.grown
grown_over (then done one) = grown_twice (grown_over done) one.went.alone.grown

-- one operation after others
steps_then : (m : Model) (ops : List Operation) (o : Operation) → steps_of m (ops ++ o ∷ []) ≡ step (steps_of m ops) o
steps_then m [] o = refl
steps_then m (u ∷ ops) o = steps_then (step m u) ops o

pub done_stands : (E : Type 0) → DoneStands E
done_stands E fault memory old ops claimed new w t none = record { whole = w; tidy = t; reads = refl }
done_stands E fault memory old ops claimed new w t (look {mid = mid} done quiet went) =
    subst (λ q. StandsAfter (pack old.tape) q ops) (sym (pack-silent went.alone.grown quiet.silent)) (done_stands E fault memory old ops claimed mid w t done)
done_stands E fault memory old all_ops all_claimed new w t (then {ops = ops} {claimed = claimed} {mid = mid} {o = o} done one) =
    let s = done_stands E fault memory old ops claimed mid w t done in
    let stays = (one_began one).acts.stays in
    record {
      whole = subst Whole (sym (one_ends one)) stays.whole;
      tidy = subst Tidy (sym (one_ends one)) stays.tidy;
      reads = ap read_as (one_ends one) ∙ stays.reads ∙ ap (λ m. step m o) s.reads ∙ sym (steps_then (read_as (pack old.tape)) ops o);
    }

misled_over : (E : Type 0) (fault memory : E) (old : Around) (ops : List Operation) (claimed : List ℕ) (new : Around) → Whole (pack old.tape) → Tidy (pack old.tape) → Done fault memory old ops claimed new
    → (place : Place) (at : ℕ) (wanted : Page) → IsOnDisk place → Misled (pack new.tape) place at wanted → Misled (pack old.tape) place at wanted
misled_over E fault memory old ops claimed new w t none place at wanted disk m = m
misled_over E fault memory old ops claimed new w t (look {mid = mid} done quiet went) place at wanted disk m =
    misled_over E fault memory old ops claimed mid w t done place at wanted disk (subst (λ q. Misled q place at wanted) (pack-silent went.alone.grown quiet.silent) m)
misled_over E fault memory old all_ops all_claimed new w t (then {ops = ops} {claimed = claimed} {mid = mid} done one) place at wanted disk m =
    let s = done_stands E fault memory old ops claimed mid w t done in
    misled_over E fault memory old ops claimed mid w t done place at wanted disk (one_misled one s.whole s.tidy place at wanted disk m)

pub done_misled_before : (E : Type 0) → DoneMisledBefore E
done_misled_before E fault memory old ops claimed new w t done place at wanted disk m =
    misled_over E fault memory old ops claimed new w t done place at wanted disk (subst (λ q. Misled q place at wanted) (sym (pack-after (grown_over done))) m)
