-- Calls by their guarded commands.
use Rattle.std.proofs.Common.{Err, List, Ok, OnOk, Result, ap, arith, length, subst, sym, take, ◌++◌, ◌+◌, ◌<◌, ◌∙◌, ◌≡◌}
use Rattle.std.proofs.lemmas.List.{append-nil, length-append}
use Rattle.laws_call.specs.disk_records.proofs.FirstOnes.{first_front, first_then}
use Rattle.laws_call.specs.disk_records.proofs.Growing.{added-twice, pack-silent}
use Rattle.laws_call.specs.disk_records.specs.Events.{IsFirstOf, writes_in}
use Rattle.laws_call.specs.disk_records.specs.Packs.{Pack}
use Rattle.laws_call.specs.disk_records.specs.Tapes.{Taped, added, capped, pack}
use Rattle.laws_call.specs.disk_records.specs.declared.records.Event.{Event}
use Rattle.laws_call.proofs.writing.Laws.{written_acts}
use Rattle.laws_call.specs.Acting.{Acts, begun, refused, releasing}
use Rattle.laws_call.specs.Writing.{Written}
use Rattle.laws_guard.specs.GuardedCalls.{ByPart, EndsWith, GuardedCallOperates, GuardedCallReleases, LookBeforeOperates, NextPart}
use Rattle.laws_call.specs.pack_model.specs.operations.Committing.{moves_of}
use Rattle.laws_call.specs.pack_model.specs.reading.Model.{read_as}
use Rattle.laws_call.specs.pack_model.specs.sessions.Tallies.{counted}

-- ---- answers
on_ok : {T E : Type 0} (P Q : Type 0) (result : Result T E) → (P → Q) → OnOk result P → OnOk result Q
on_ok P Q (Ok x) f h = f h
on_ok P Q (Err e) f h = tt

-- ---- parts
pub next_part : NextPart
next_part before part later first mid last inner one two done written = record {
  some = subst (IsFirstOf (before ++ (part ++ later))) (sym both) (first_then before (part ++ later) (added first mid) (added mid last) done (first_front part later (added mid last) written.prefix));
  all = on_ok _ _ inner (λ wrote. both ∙ ap (λ l. l ++ added mid last) done ∙ ap (λ l. before ++ l) wrote) written.ok;
  want = λ memory.
      let less = written.less memory in
      let kept = one.spare in
      let wrote : length (added first mid) ≡ length before = ap length done in
      let sum : length (before ++ (part ++ later)) ≡ length before + length (part ++ later) = length-append before (part ++ later) in
      let sum_later : length (part ++ later) ≡ length part + length later = length-append part later in
      omega (arith, less, kept, wrote, sum, sum_later);
}
  where
    both : added first last ≡ added first mid ++ added mid last
    both = added-twice one two

-- the record writes of a call that ends with a part
part_of : {T E : Type 0} {memory : E} {before part later : List Event} {old new : Taped} {result : Result T E} (e : EndsWith memory before part later old new result) → ByPart before part later old new e.inner
part_of {T} {E} {memory} {before} {part} {later} {old} {new} {result} e = next_part before part later old e.mid new e.inner e.one e.two e.done e.written

-- after Ok all are done
whole_of : {T E : Type 0} {memory : E} {before part later : List Event} {old new : Taped} (result : Result T E) (e : EndsWith memory before part later old new result) → OnOk result (added old new ≡ before ++ (part ++ later))
whole_of (Err x) e = tt
whole_of {memory = memory} {before = before} {part = part} {later = later} {old = old} {new = new} (Ok x) e =
    subst (λ r. OnOk r (added old new ≡ before ++ part)) e.passes.ok (part_of e).all ∙ ap (λ l. before ++ l) (sym (append-nil part) ∙ ap (λ l. part ++ l) (sym e.last))

pub guarded_call_operates : (T E : Type 0) → GuardedCallOperates T E
guarded_call_operates T E fault memory o claimed released before part later old new result w t exact ends table counts = begun (record {
  writes = before ++ (part ++ later);
  released = released;
  exact = exact;
  acts = written_acts (pack old.tape) o claimed released (before ++ (part ++ later)) w t exact;
  some = (part_of ends).some;
  all = whole_of result ends;
  table = table;
  counts = counts;
  out_of_memory = λ is. (part_of ends).want (ends.passes.memory_is is);
})

pub guarded_call_releases : (T E : Type 0) → GuardedCallReleases T E
guarded_call_releases T E fault memory f at pages before part later old new result may same ends table counts = releasing (record {
  at = at;
  pages = pages;
  may = may;
  some = subst (λ l. IsFirstOf l (added old.tape new.tape)) same (part_of ends).some;
  all = subst (λ l. OnOk result (added old.tape new.tape ≡ l)) same (whole_of result ends);
  table = table;
  counts = counts;
  out_of_memory = λ is. subst (λ l. old.tape.spare < length l) same ((part_of ends).want (ends.passes.memory_is is));
})

-- ---- a look first
pub look_before_operates : (T E : Type 0) → LookBeforeOperates T E
look_before_operates T E fault memory o claimed a b c bits now t u result one two silent first mid (refused calm bad rich) =
    refused (record { silent = added-twice one two ∙ ap (λ l. l ++ added b c) silent ∙ calm.silent; bits = calm.bits; tally = calm.tally }) bad rich
look_before_operates T E fault memory o claimed a b c bits now t u result one two silent first mid (begun x) =
    let same : added a c ≡ added b c = added-twice one two ∙ ap (λ l. l ++ added b c) silent in
    let writes_stay : b.writes ≡ a.writes = mid ∙ ap (λ (l : List Event). capped (writes_in l)) (one.events ∙ ap (λ l. a.events ++ l) silent ∙ append-nil a.events) ∙ sym first in
    let packs : pack b ≡ pack a = pack-silent one silent in
    let spare = one.spare in
    let none : length (added a b) ≡ 0 = ap length silent in
    begun (record {
      writes = x.writes;
      released = x.released;
      exact = subst (λ p. Written p o claimed x.released x.writes) packs x.exact;
      acts = subst (λ p. Acts p o claimed x.released x.writes) packs x.acts;
      some = subst (IsFirstOf x.writes) (sym same) x.some;
      all = subst (λ l. OnOk result (l ≡ x.writes)) (sym same) x.all;
      table = x.table;
      counts = λ tells. x.counts tells
          ∙ ap (λ n. counted n (take (length (added b c)) (moves_of (read_as (pack b)) o)) t) writes_stay
          ∙ ap (λ (p : Pack). counted a.writes (take (length (added b c)) (moves_of (read_as p) o)) t) packs
          ∙ ap (λ l. counted a.writes (take (length l) (moves_of (read_as (pack a)) o)) t) (sym same);
      out_of_memory = λ is. let less = x.out_of_memory is in omega (arith, less, spare, none);
    })
