-- A call that was to write one value: the operation that it is, a look before it, and what is where it was afterwards.
use Rattle.std.proofs.Common.{Bool, Err, IsTrue, List, Ok, OnErr, OnOk, Result, ap, arith, inl, inr, length, refl, subst, sym, take, [], ℕ, ◌++◌, ◌∙◌, ◌∷◌, ◌≡◌}
use Rattle.std.proofs.lemmas.List.Elements.{All-weaker}
use Rattle.std.proofs.lemmas.List.{append-nil}
use Rattle.alto_words.specs.declared.fid.Fid.{Fid}
use Rattle.disk_records.proofs.Growing.{added-twice, pack-after}
use Rattle.disk_records.proofs.Looking.{looks_pack}
use Rattle.disk_records.specs.Commands.{value_writes}
use Rattle.disk_records.specs.Events.{IsFirstOf, writes_in}
use Rattle.disk_records.specs.Packs.{Pack, after}
use Rattle.disk_records.specs.Tapes.{DiskAlone, Grown, Looks, Taped, added, capped, pack}
use Rattle.disk_records.specs.declared.records.Event.{Event}
use Rattle.disk_records.specs.declared.records.Tally.{Tally}
use Rattle.hint_cache.specs.Caches.{Cached}
use Rattle.laws_call.specs.Acting.{Around, Operates, around, begun}
use Rattle.laws_operation.proofs.places.Laws.{values_keep_places}
use Rattle.laws_operation.specs.PlaceLaws.{SamePlaces}
use Rattle.page_seeking.specs.Seeking.{KeepsHandy, all_listed}
use Rattle.page_seeking.specs.declared.refs.FileError.TheVariants.{DiskFault, Memory}
use Rattle.page_seeking.specs.declared.refs.FileError.{FileError}
use Rattle.pack_model.specs.hints.Handy.{CachedAt, IsRightOrIdle}
use Rattle.pack_model.specs.operations.Operations.{one_move}
use Rattle.pack_model.specs.operations.Step.{Operation}
use Rattle.pack_model.specs.reading.Sights.{sights}
use Rattle.pack_model.specs.sessions.Tallies.{counted}
use Rattle.file_pages.specs.Calls.{IsOneValue}
use Rattle.file_pages.specs.Values.{LeavesHandy, WroteValue}

-- ---- the operation
pub value_operates : {T : Type 0} {at : ℕ} {value : List ℕ} {o : Operation} {old new : Around} {result : Result T FileError} → IsOneValue (pack old.tape) o (value_writes at value) → WroteValue at value o old new result
    → Operates DiskFault Memory o [] old new result
value_operates {T} {at} {value} {o} {old} {new} {result} is x = begun (record {
  writes = value_writes at value;
  released = [];
  exact = is.exact;
  acts = is.acts;
  some = x.some;
  all = x.all;
  table = on_ok result x.table;
  counts = λ tells. x.counts tells ∙ ap (λ l. counted old.tape.writes (take (length (added old.tape new.tape)) l) old.tally) (sym is.moves);
  out_of_memory = x.out_of_memory;
})
  where
    on_ok : {P : Type 0} (result : Result T FileError) → P → OnOk result P
    on_ok (Ok x) p = p
    on_ok (Err e) p = tt

-- ---- a look before it
-- it is so from the first call on
pub value_after_look : {T : Type 0} {at : ℕ} {value : List ℕ} {o : Operation} {a b c : Taped} {result : Result T FileError} (bits : List Bool) (t u : Tally) → DiskAlone a b → DiskAlone b c → added a b ≡ []
    → a.writes ≡ capped (writes_in a.events) → b.writes ≡ capped (writes_in b.events)
    → WroteValue at value o (around b bits t) (around c bits u) result → WroteValue at value o (around a bits t) (around c bits u) result
value_after_look {T} {at} {value} {o} {a} {b} {c} {result} bits t u one two silent first mid x =
    let same : added a c ≡ added b c = added-twice one.grown two.grown ∙ ap (λ l. l ++ added b c) silent in
    let writes_stay : b.writes ≡ a.writes = mid ∙ ap (λ (l : List Event). capped (writes_in l)) (one.grown.events ∙ ap (λ l. a.events ++ l) silent ∙ append-nil a.events) ∙ sym first in
    let spare = one.grown.spare in
    let none : length (added a b) ≡ 0 = ap length silent in
    record {
      some = subst (IsFirstOf (value_writes at value)) (sym same) x.some;
      all = subst (λ l. OnOk result (l ≡ value_writes at value)) (sym same) x.all;
      table = refl;
      counts = λ tells. x.counts tells
          ∙ ap (λ n. counted n (take (length (added b c)) (one_move o)) t) writes_stay
          ∙ ap (λ l. counted a.writes (take (length l) (one_move o)) t) (sym same);
      out_of_memory = λ is. let less = x.out_of_memory is in omega (arith, less, spare, none);
      unwritten = λ unless. subst (λ l. OnErr result (l ≡ [])) (sym same) (x.unwritten unless);
    }

-- ---- places
-- after a prefix of one value each page is where it was
pub value_keeps_places : {a b : Taped} (at : ℕ) (value : List ℕ) → Grown a b → IsFirstOf (value_writes at value) (added a b) → SamePlaces (pack a) (pack b)
value_keeps_places {a} {b} at value grown some = subst (SamePlaces (pack a)) (sym (pack-after grown)) (by (added a b) some)
  where
    by : (events : List Event) → IsFirstOf (value_writes at value) events → SamePlaces (pack a) (after (pack a) events)
    by [] h = values_keep_places (pack a) []
    by (x ∷ []) h = subst (λ (e : Event). SamePlaces (pack a) (after (pack a) (e ∷ []))) (sym h.0) (values_keep_places (pack a) ((at, value) ∷ []))
    by (x ∷ y ∷ events) h = absurd h.1

-- ---- the cache
right_or_idle : {p q : Pack} (f : Fid) (n at : ℕ) → SamePlaces p q → IsRightOrIdle (sights p) f n at → IsRightOrIdle (sights q) f n at
right_or_idle f n at same h = elim h [ inl is ↦ inl (same.places f n ∙ is) | inr none ↦ inr (same.places f n ∙ none) ]

leaves_handy : (p q : Pack) (old new : Cached) → KeepsHandy p old new → SamePlaces p q → LeavesHandy p q old new
leaves_handy p q old new keeps same whole links f h = All-weaker (IsRight p) (IsRight q) (λ x right own. right_or_idle f x.0.number x.1 same (right own)) (all_listed new) (keeps whole links f h)
  where
    IsRight : Pack → CachedAt → Type 0
    IsRight r x = x.0.fid ≡ f → IsRightOrIdle (sights r) f x.0.number x.1

-- two looks keep a cache handy
pub keeps_handy_twice : {told : Bool} {n : ℕ} {a b : Taped} (old mid new : Cached) → Looks told n a b → IsTrue told → KeepsHandy (pack a) old mid → KeepsHandy (pack b) mid new → KeepsHandy (pack a) old new
keeps_handy_twice {a = a} old mid new looks told one two whole links f h = subst (λ (p : Pack). KeepsHandy p mid new) (looks_pack looks told) two whole links f (one whole links f h)

-- a cache that a look keeps handy is so on the pack afterwards
pub look_leaves_handy : {told : Bool} {n : ℕ} {a b : Taped} (old new : Cached) → Looks told n a b → IsTrue told → KeepsHandy (pack a) old new → LeavesHandy (pack a) (pack b) old new
look_leaves_handy {a = a} {b} old new looks told keeps = subst (λ (q : Pack). LeavesHandy (pack a) q old new) (sym (looks_pack looks told)) keeps

-- and after a value
pub value_leaves_handy : {told : Bool} {n : ℕ} {a b : Taped} (c : Taped) (old new : Cached) → Looks told n a b → IsTrue told → KeepsHandy (pack a) old new → SamePlaces (pack b) (pack c) → LeavesHandy (pack a) (pack c) old new
value_leaves_handy {a = a} {b} c old new looks told keeps same = leaves_handy (pack a) (pack c) old new keeps (subst (λ (p : Pack). SamePlaces p (pack c)) (looks_pack looks told) same)
