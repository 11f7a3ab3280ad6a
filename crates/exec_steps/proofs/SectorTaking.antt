-- Sectors that are reserved, by the room of the model.
use Rattle.std.proofs.Common.{◌≡◌, ◌≤◌, ◌<◌, ◌⊎◌, inl, inr, ℕ, zero, suc, Bool, not, List, Option, Result, Ok, Err, OnErr, min, length, refl, sym, subst, ◌∙◌, arith}
use Rattle.std.specs.List.{range_with_len}
use Rattle.std.specs.Result.{IsErrAnd}
use Rattle.std.proofs.lemmas.List.Filters.{length-filter_both}
use Rattle.std.proofs.lemmas.List.FromFn.{length-range_with_len}
use Rattle.disk_records.proofs.Growing.{length-pack}
use Rattle.disk_records.specs.Addresses.{pages_of}
use Rattle.disk_records.specs.Packs.{Pack, is_free_at}
use Rattle.disk_records.specs.Tapes.{Taped, pack}
use Rattle.disk_records.specs.declared.records.Page.{Page}
use Rattle.disk_records.specs.declared.records.Place.{Place}
use Rattle.exec_words.specs.declared.reply.Refusal.{Refusal}
use Rattle.exec_words.specs.declared.reply.Refusal.TheVariants as refusal
use Rattle.exec_session.specs.laws_hint.proofs.meanings.Laws.{whole_pack_has_one_kind_of_true_table}
use Rattle.exec_session.specs.laws_hint.specs.MapMeanings.{HasEachSector}
use Rattle.exec_session.specs.laws_room.proofs.rooms.Laws.{free_is_the_room, free_sectors_are_those_found}
use Rattle.pack_model.specs.hints.Tables.{TableTrue}
use Rattle.pack_model.specs.reading.Model.{read_as, room}
use Rattle.pack_model.specs.states.Sound.{Sound}
use Rattle.page_alloc.specs.Free.{IfFull, IsTrueTable, free_addresses}
use Rattle.page_alloc.specs.declared.errors.AllocError.{AllocError}
use Rattle.page_alloc.specs.declared.errors.AllocError.TheVariants.{Full, DiskFault, Memory}
use Rattle.exec_session.specs.declared.stop.Stop.{Stop}
use Rattle.exec_session.specs.Meant.{IfHint, IfRefused}
use Rattle.exec_session.specs.Stops.{stop_of_alloc}
use Rattle.exec_session.proofs.Stopping.{error_is}

-- ---- the answers
refused_alloc : (T U : Type 0) (P : Refusal → Type 0) (Q : ℕ → ℕ → Type 0) (e : AllocError) → ((needed free : ℕ) → Q needed free → P (refusal.Full needed free)) → IfFull {T = T} (Err e) Q → IfRefused {T = U} (Err (stop_of_alloc e)) P
refused_alloc T U P Q (Full needed free) f h = f needed free h
refused_alloc T U P Q DiskFault f h = tt
refused_alloc T U P Q Memory f h = tt

pub refused_of_alloc : (T : Type 0) {U : Type 0} (P : Refusal → Type 0) (Q : ℕ → ℕ → Type 0) (e : AllocError) (r : Result U Stop) → IsErrAnd r (λ s. s ≡ stop_of_alloc e) → ((needed free : ℕ) → Q needed free → P (refusal.Full needed free)) → IfFull {T = T} (Err e) Q → IfRefused r P
refused_of_alloc T {U} P Q e r is f h = subst (λ x. IfRefused x P) (sym (error_is r is)) (refused_alloc T U P Q e f h)

hint_alloc : (U : Type 0) (P : Place → ℕ → Page → Option (List ℕ) → Type 0) (e : AllocError) → IfHint {T = U} (Err (stop_of_alloc e)) P
hint_alloc U P (Full needed free) = tt
hint_alloc U P DiskFault = tt
hint_alloc U P Memory = tt

pub hint_of_alloc : {U : Type 0} (P : Place → ℕ → Page → Option (List ℕ) → Type 0) (e : AllocError) (r : Result U Stop) → IsErrAnd r (λ s. s ≡ stop_of_alloc e) → IfHint r P
hint_of_alloc {U} P e r is = subst (λ x. IfHint x P) (sym (error_is r is)) (hint_alloc U P e)

-- ---- the room
pub free_room : (p : Pack) → Sound p → length (free_addresses p) ≡ room (read_as p)
free_room p sound = free_sectors_are_those_found p ∙ sym (free_is_the_room p sound.whole).room_is

-- a disk has fewer sectors than can't be asked for
fewer_free : (p : Pack) → length (free_addresses p) ≤ pages_of p.shape
fewer_free p =
    let both = length-filter_both (is_free_at p) (λ i. not (is_free_at p i)) (λ i. refl) (range_with_len 0 (pages_of p.shape)) in
    let all = length-range_with_len 0 (pages_of p.shape) in
    omega (arith, both, all)

pub room_enough : (p : Pack) (pages n : ℕ) → Sound p → n ≡ min pages 65535 → (length (free_addresses p) < n → ⊥) → pages ≤ room (read_as p)
room_enough p pages n sound is enough = by (le_or_less n (length (free_addresses p)))
  where
    le_or_less : (a b : ℕ) → (a ≤ b) ⊎ (b < a)
    le_or_less zero b = inl (omega arith)
    le_or_less (suc a) zero = inr (omega arith)
    le_or_less (suc a) (suc b) = elim (le_or_less a b) [ inl l ↦ inl (omega (arith, l)) | inr l ↦ inr (omega (arith, l)) ]

    by : (n ≤ length (free_addresses p)) ⊎ (length (free_addresses p) < n) → pages ≤ room (read_as p)
    by (inl most) =
        let all = fewer_free p in
        let few : pages_of p.shape ≤ 19488 = p.shape.most_pages in
        let free = free_room p sound in
        omega (arith, most, all, few, free, is)
    by (inr less) = absurd (enough less)

pub full_is : (p : Pack) (pages n needed free : ℕ) → Sound p → n ≡ min pages 65535 → needed ≡ n → free < n → free ≡ length (free_addresses p) → (refusal.Full needed free ≡ refusal.Full (min pages 65535) (room (read_as p))) × (room (read_as p) < pages)
full_is p pages n needed free sound is asked less counted =
    let r : free ≡ room (read_as p) = counted ∙ free_room p sound in
    let m : needed ≡ min pages 65535 = asked ∙ is in
    (rw (m, r) refl, omega (arith, r, less, is))

pub on_err : {T X : Type 0} (r : Result T Stop) → X → OnErr r X
on_err (Ok x) h = tt
on_err (Err e) h = h

-- ---- the table
pub each_sector : (t : Taped) → length t.base ≡ pages_of t.form → HasEachSector (pack t)
each_sector t sized = length-pack t ∙ sized

pub true_in_both : (p : Pack) (busy : List Bool) → Sound p → HasEachSector p → length busy ≡ pages_of p.shape → TableTrue p busy → IsTrueTable p busy
true_in_both p busy sound each sized table = (whole_pack_has_one_kind_of_true_table p busy sound.whole each sized).1 table
