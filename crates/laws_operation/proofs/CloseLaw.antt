-- Closing: all its record writes, one after another.
use Rattle.std.proofs.Common.{Bool, List, [], ap, arith, cond, eqb-true, false, inl, inr, length, refl, subst, suc, sym, take, true, zero, ℕ, ◌++◌, ◌+◌, ◌<◌, ◌∙◌, ◌∷◌, ◌≡◌, ◌≤◌}
use Rattle.std.proofs.lemmas.Bool.{cases_lt}
use Rattle.std.proofs.lemmas.List.{length-append, take-append-le, take_all}
use Rattle.std.specs.Prelude.{All, reverse, ◌==◌}
use mathlib.Core.List.{reverse-cons}
use Rattle.laws_contents.specs.alto_words.specs.Fid.{disk_descriptor}
use Rattle.laws_contents.specs.disk_records.proofs.Growing.{after-append}
use Rattle.laws_contents.specs.disk_records.specs.Commands.{value_writes}
use Rattle.laws_contents.specs.disk_records.specs.Packs.{Pack, after, crash, sector_at}
use Rattle.laws_contents.specs.disk_records.specs.declared.records.Event.{Event}
use Rattle.laws_contents.specs.disk_records.specs.declared.records.Event.TheVariants.{Wrote}
use Rattle.laws_contents.specs.disk_records.specs.declared.shape.Shape.{Shape}
use Rattle.laws_contents.specs.pack_model.specs.operations.Commands.{values_writes}
use Rattle.laws_contents.specs.pack_model.specs.sessions.Descriptor.{closed_values, descriptor_value}
use Rattle.laws_contents.specs.pack_model.specs.sessions.Meanings.{meaning, reading}
use Rattle.laws_contents.specs.pack_model.specs.reading.Model.{Model, read_as}
use Rattle.laws_contents.specs.pack_model.specs.sessions.Moves.{Meaning, Obeys, rest, steps, write}
use Rattle.laws_contents.specs.pack_model.specs.operations.Operations.{Move, quiet_moves}
use Rattle.laws_contents.specs.pack_model.specs.operations.Operations.Move.{quiet}
use Rattle.laws_contents.specs.pack_model.specs.reading.Sights.{sights}
use Rattle.laws_contents.specs.pack_model.specs.states.Sound.{mark_clean, mark_of}
use Rattle.laws_contents.specs.pack_model.specs.states.Whole.{Tidy, Whole}
use Rattle.laws_contents.specs.pack_laws.proofs.Moving.{crash_of_run, obeys_then, stands_last}
use Rattle.laws_operation.proofs.inside.Closed.{Marks, close_value_size, first_page}
use Rattle.laws_operation.proofs.inside.Closing.{Mid, later_page, mid_itself, mid_twice}
use Rattle.laws_operation.proofs.EnterMoves.{values-append}
use Rattle.laws_operation.specs.ByteLaws.{Bear}
use Rattle.laws_operation.specs.DescriptorLaws.{CloseCarriesOut, Closes, KeepsSound}

-- each crash is read as before, and is as the first pack
abbrev closing : Pack → Meaning Model Move
closing p = meaning (λ m q. (read_as q ≡ m) × Mid p q)

-- so they are read
as_read : {p : Pack} {m : Model} {q : Pack} {events : List Event} {moves : List Move} → Obeys (closing p) m q events moves → Obeys reading m q events moves
as_read (rest here) = rest here.0
as_read (write here makes later) = write here.0 makes (as_read later)

-- one more of them
quiet_last : (pages : List ℕ) → quiet_moves pages ++ quiet ∷ [] ≡ quiet ∷ quiet_moves pages
quiet_last [] = refl
quiet_last (at ∷ pages) = ap (λ r. quiet ∷ r) (quiet_last pages)

-- the list of record writes, with the first page's value last
pub last_value : (shape : Shape) (last n at : ℕ) (busy : List Bool) (pages : List ℕ) → values_writes (reverse (closed_values shape last busy n (at ∷ pages))) ≡ values_writes (reverse (closed_values shape last busy (suc n) pages)) ++ value_writes at (descriptor_value shape last mark_clean busy n)
last_value shape last n at busy pages = ap values_writes (reverse-cons (at, descriptor_value shape last mark_clean busy n) (closed_values shape last busy (suc n) pages)) ∙ values-append (reverse (closed_values shape last busy (suc n) pages)) ((at, descriptor_value shape last mark_clean busy n) ∷ [])

-- their values are as long as they are
abbrev Sized : Pack → List ℕ → Type 0
Sized p [] = Unit {0}
Sized p (at ∷ pages) = (length (sector_at p at).value ≡ 256) × Sized p pages

-- one by one
sized_all : (p : Pack) (pages : List ℕ) → All (λ at. length (sector_at p at).value ≡ 256) pages → Sized p pages
sized_all p [] h = tt
sized_all p (at ∷ pages) h = (h 0 0 (omega arith), sized_all p pages (λ k d l. h (suc k) d (omega arith)))

-- all pages after the first one
later_pages : (shape : Shape) (last : ℕ) (busy : List Bool) (pages : List ℕ) (k : ℕ) (p : Pack) → Whole p → Tidy p → Bear (sights p) disk_descriptor (suc (suc k)) pages → Sized p pages
    → Obeys (closing p) (read_as p) p (values_writes (reverse (closed_values shape last busy (suc k) pages))) (quiet_moves pages)
later_pages shape last busy [] k p w t bear sized = rest (refl, mid_itself p w t)
later_pages shape last busy (at ∷ pages) k p w t bear sized =
    let es : List Event = values_writes (reverse (closed_values shape last busy (suc (suc k)) pages)) in
    let s = later_pages shape last busy pages (suc k) p w t bear.1 sized.1 in
    let q : Pack = after p es in
    let here = stands_last (closing p) s in
    let mid : Mid p q = here.1 in
    let value : List ℕ = descriptor_value shape last mark_clean busy (suc k) in
    let next = later_page q mid.keeps.whole mid.keeps.tidy k at value (mid.keeps.places (suc (suc k)) ∙ bear.0) (mid.sized at sized.0) (close_value_size shape last mark_clean busy (suc k)) in
    let one : Obeys (closing p) (steps (closing p) (read_as p) (quiet_moves pages)) q (value_writes at value) (quiet ∷ []) =
    write (here.0, mid) tt (rest (next.read ∙ here.0, mid_twice p q (after q (value_writes at value)) mid next)) in
    subst (λ es. Obeys (closing p) (read_as p) p es (quiet_moves (at ∷ pages))) (sym (last_value shape last (suc k) at busy pages))
    (subst (Obeys (closing p) (read_as p) p (es ++ value_writes at value)) (quiet_last pages) (obeys_then (closing p) s one))

-- where nothing is written
no_writes : (p : Pack) → Whole p → Tidy p → mark_of (sights p) ≡ mark_clean → Closes p [] []
no_writes p w t is = record { obeys = rest refl; keeps = λ k. nothing k; unclean = λ k l. absurd (omega arith); marked = is }
  where
    nothing : (k : ℕ) → KeepsSound p (crash p [] k)
    nothing zero = record { whole = w; tidy = t; sound = λ s. s; places = λ n. refl }
    nothing (suc k) = record { whole = w; tidy = t; sound = λ s. s; places = λ n. refl }

-- a crash of some record writes and one more
take_more : (k : ℕ) (es : List Event) (e : Event) → k ≤ length es → take k (es ++ e ∷ []) ≡ take k es
take_more k es e l = take-append-le k es (e ∷ []) l

-- all of it
pub close_carries_out : CloseCarriesOut
close_carries_out p busy pages w t h = by (mark_of (sights p) == mark_clean) refl
  where
    written : (pages : List ℕ) → Bear (sights p) disk_descriptor 1 pages → Sized p pages → 0 < length pages → Closes p (values_writes (reverse (closed_values p.shape (read_as p).last busy 0 pages))) (quiet_moves pages)
    written [] bear sized some = absurd (omega arith)
    written (at ∷ pages) bear sized some =
        let es : List Event = values_writes (reverse (closed_values p.shape (read_as p).last busy 1 pages)) in
        let s = later_pages p.shape (read_as p).last busy pages 0 p w t bear.1 sized.1 in
        let q : Pack = after p es in
        let here = stands_last (closing p) s in
        let mid : Mid p q = here.1 in
        let value : List ℕ = descriptor_value p.shape (read_as p).last mark_clean busy 0 in
        let value_is : value ≡ descriptor_value q.shape (read_as q).last mark_clean busy 0 = ap (λ m. descriptor_value p.shape m.last mark_clean busy 0) (sym mid.read) in
        let r : Pack = after q (value_writes at value) in
        let m0 : Marks q r = subst (λ v. Marks q (after q (value_writes at v))) (sym value_is) (first_page q mid.keeps.whole mid.keeps.tidy at busy (mid.keeps.places 1 ∙ bear.0) (mid.sized at sized.0)) in
        let one : Obeys reading (steps reading (read_as p) (quiet_moves pages)) q (value_writes at value) (quiet ∷ []) =
        write (stands_last reading (as_read s)) tt (rest (m0.read ∙ stands_last reading (as_read s))) in
        let events : List Event = es ++ value_writes at value in
        let at_end : after p events ≡ r = after-append p es (value_writes at value) in
        let keeps_end : KeepsSound p (after p events) = subst (KeepsSound p) (sym at_end) (record { whole = m0.keeps.whole; tidy = m0.keeps.tidy; sound = λ x. m0.keeps.sound (mid.keeps.sound x); places = λ n. m0.keeps.places n ∙ mid.keeps.places n }) in
        let early : (k : ℕ) → Mid p (crash p es k) = λ k. (crash_of_run (closing p) s k).1 in
        let size : length events ≡ length es + 1 = length-append es (value_writes at value) in
        let cuts : (k : ℕ) → KeepsSound p (crash p events k) = λ k. elim (cases_lt k (length events)) [
          | inl l ↦ subst (λ x. KeepsSound p (after p x)) (sym (take_more k es (Wrote at 2 value) (omega (arith, size, l)))) (early k).keeps
          | inr l ↦ subst (λ x. KeepsSound p (after p x)) (sym (take_all k events l)) keeps_end
        ] in
        let out : Closes p events (quiet_moves (at ∷ pages)) = record {
          obeys = subst (Obeys reading (read_as p) p events) (quiet_last pages) (obeys_then reading (as_read s) one);
          keeps = cuts;
          unclean = λ k l. ap (λ x. mark_of (sights (after p x))) (take_more k es (Wrote at 2 value) (omega (arith, size, l))) ∙ (early k).words 6 (omega arith);
          marked = ap (λ x. mark_of (sights x)) at_end ∙ m0.marked;
        } in
        subst (λ x. Closes p x (quiet_moves (at ∷ pages))) (sym (last_value p.shape (read_as p).last 0 at busy pages)) out

    by : (c : Bool) → (mark_of (sights p) == mark_clean) ≡ c → Closes p (cond c [] (values_writes (reverse (closed_values p.shape (read_as p).last busy 0 pages)))) (cond c [] (quiet_moves pages))
    by true e = no_writes p w t (eqb-true (mark_of (sights p)) mark_clean e)
    by false e = written pages h.pages_are (sized_all p pages h.sized) (let n = h.number in omega arith)
