-- DiskDescriptor's pages in memory are those of the pack.
use Rattle.std.proofs.Common.{◌≡◌, ◌==◌, ◌||◌, ℕ, zero, suc, ◌+◌, ◌<◌, ◌≤◌, Bool, true, false, List, [], ◌∷◌, ◌++◌, drop, get_or, length, reverse, take, OnOk, Some, Result, Ok, Err, refl, sym, ap, subst, ◌∙◌, eqb-true, arith}
use Rattle.std.specs.List.{list_any}
use Rattle.std.specs.Option.{option_map_or}
use Rattle.std.proofs.lemmas.Grind.{same_number_lists}
use Rattle.std.proofs.lemmas.List.{get_or-drop, get_or-take, length-drop, length-take}
use borrow.Author.Tests.{eqb-false}
use Rattle.alto_words.specs.Fid.{disk_descriptor}
use Rattle.disk_descriptor.specs.Fields.{AreSectors}
use Rattle.disk_records.specs.Addresses.{pages_of}
use Rattle.disk_records.specs.Packs.{Pack, carried}
use Rattle.disk_records.specs.declared.shape.Shape.{Shape}
use Rattle.scav_names.specs.laws_record.proofs.Copying.{place_carried}
use Rattle.pack_model.specs.reading.Files.{place}
use Rattle.pack_model.specs.reading.Sights.{sights}
use Rattle.pack_model.specs.sessions.Descriptor.{closed_values, data_pages}
use Rattle.scav_pages.specs.Ends.{ArePlaces, AreWithin}
use Rattle.scav_pages.proofs.Describing.{few_data_pages, placed_first}
use Rattle.scavenger.specs.Answers.{stop_of_write}
use Rattle.scavenger.specs.Describing.{IsDescriptorIn}
use Rattle.scavenger.specs.Runs.{Closes}
use Rattle.disk_descriptor.specs.Answers.{IfHeld, cause_of}
use Rattle.disk_descriptor.specs.Writing.{StopsAt, data_page}
use Rattle.disk_descriptor.specs.declared.errors.DescError.{DescError}
use Rattle.disk_descriptor.specs.declared.errors.DescError.TheVariants as desc
use Rattle.disk_records.specs.Causes.{HasCause}
use Rattle.disk_records.specs.Causes.Cause.{never}
use Rattle.disk_records.specs.declared.records.Event.{Event}
use Rattle.disk_records.specs.Events.{IsFirstOf}
use Rattle.disk_records.specs.Tapes.{Grown, Taped, added}
use Rattle.disk_records.proofs.Growing.{added-twice}
use Rattle.pack_model.specs.operations.Commands.{values_writes}
use Rattle.scav_pages.specs.declared.errors.Stop.{Stop}
use Rattle.scav_pages.specs.declared.errors.Stop.TheVariants.{Astray}

-- ---- the sectors of its data pages
abbrev pub mine : ℕ → List ℕ → List ℕ
mine n places = take n (drop 1 places)

long_mine : (n : ℕ) (places : List ℕ) → length places ≡ 6 → n ≤ 5 → length (mine n places) ≡ n
long_mine n places size few = let a = length-take n (drop 1 places) in let b = length-drop 1 places in omega (arith, a, b, size, few)

mine_at : (n : ℕ) (places : List ℕ) (k d : ℕ) → k < n → get_or (mine n places) k d ≡ get_or places (suc k) d
mine_at n places k d few = get_or-take n (drop 1 places) k d few ∙ get_or-drop 1 places k d ∙ ap (λ i. get_or places i d) (omega arith)

pub mine_is : (p : Pack) (places pages : List ℕ) (n : ℕ) → ArePlaces p places → length places ≡ 6 → IsDescriptorIn p pages → n ≡ data_pages p.shape → mine n places ≡ pages
mine_is p places pages n are size in_it is =
    let few : n ≤ 5 = (let most = few_data_pages p.shape in omega (arith, most, is)) in
    same_number_lists (mine n places) pages (long_mine n places size few ∙ is ∙ sym in_it.0) (λ k low. (
    let small : k < n = (let long = long_mine n places size few in omega (arith, low, long)) in
    let here : k < length pages = (let many = in_it.0 in omega (arith, small, is, many)) in
    mine_at n places k 0 small ∙ are (suc k) (omega (arith, small, few)) ∙ ap (λ o. option_map_or (λ at. at) o 0) (in_it.1 k here)))

-- ---- whether all are known
none_zero : (xs : List ℕ) → list_any (λ y. y == 0) xs ≡ false → (k d : ℕ) → k < length xs → 1 ≤ get_or xs k d
none_zero [] none k d few = absurd (omega arith)
none_zero (x ∷ xs) none zero d few = by (x == 0) refl none
  where
    by : (t : Bool) → (x == 0) ≡ t → (t || list_any (λ y. y == 0) xs) ≡ false → 1 ≤ x
    by true q h = absurd cc
    by false q h = (let some = eqb-false x 0 q in omega (arith, some))
none_zero (x ∷ xs) none (suc k) d few = none_zero xs (right (x == 0) (list_any (λ y. y == 0) xs) none) k d (omega arith)
  where
    right : (a b : Bool) → (a || b) ≡ false → b ≡ false
    right true b h = absurd cc
    right false b h = h

some_zero : (xs : List ℕ) → ((k : ℕ) → k < length xs → 1 ≤ get_or xs k 0) → list_any (λ y. y == 0) xs ≡ false
some_zero [] each = refl
some_zero (x ∷ xs) each = by (x == 0) refl (each 0 (omega arith)) (some_zero xs (λ k few. each (suc k) (omega arith)))
  where
    by : (t : Bool) → (x == 0) ≡ t → 1 ≤ x → list_any (λ y. y == 0) xs ≡ false → (t || list_any (λ y. y == 0) xs) ≡ false
    by true q low rest = absurd (let zero = eqb-true x 0 q in omega (arith, zero, low))
    by false q low rest = rest

pub all_sectors : (shape : Shape) (n : ℕ) (places : List ℕ) → n ≤ 5 → AreWithin (pages_of shape) places → length places ≡ 6 → list_any (λ y. y == 0) (mine n places) ≡ false → AreSectors shape (mine n places)
all_sectors shape n places few within size none = λ k d low. (
    let small : k < n = (let long = long_mine n places size few in omega (arith, low, long)) in
    let there = within (suc k) d (omega (arith, small, few, size)) in
    (none_zero (mine n places) none k d low, subst (λ i. i < pages_of shape) (sym (mine_at n places k d small)) there))

pub known_sectors : (p : Pack) (pages : List ℕ) → IsDescriptorIn p pages → list_any (λ y. y == 0) pages ≡ false
known_sectors p pages in_it = some_zero pages (λ k few. placed_first p disk_descriptor (suc k) (get_or pages k 0) (in_it.1 k few))

-- ---- its values are written
abbrev pub closing : Shape → ℕ → List Bool → List ℕ → List Event
closing shape last busy pages = values_writes (reverse (closed_values shape last busy 0 pages))

pub closes_so : {a b c : Taped} (last : ℕ) (table busy : List Bool) (own pages : List ℕ) (result : Result (Unit {0}) Stop) → Grown a b → Grown b c → added a b ≡ [] → table ≡ busy → own ≡ pages
    → IsFirstOf (closing b.form last table own) (added b c) → OnOk result (added b c ≡ closing b.form last table own) → Closes last busy pages a c result
closes_so {a} {b} {c} last table busy own pages result before now silent marks mine_are first done = record {
  some = subst (λ w. IsFirstOf w (added a c)) writes (subst (IsFirstOf (closing b.form last table own)) (sym same) first);
  ok = by result done;
}
  where
    same : added a c ≡ added b c
    same = added-twice before now ∙ ap (λ l. l ++ added b c) silent

    writes : closing b.form last table own ≡ closing a.form last busy pages
    writes i = closing (before.form i) last (marks i) (mine_are i)

    by : (r : Result (Unit {0}) Stop) → OnOk r (added b c ≡ closing b.form last table own) → OnOk r (added a c ≡ closing a.form last busy pages)
    by (Ok v) wrote = same ∙ wrote ∙ writes
    by (Err e) wrote = tt

-- each sector carries its page
pub never_held : (a b : Taped) (p : Pack) (pages : List ℕ) (events : List Event) (error : DescError) → IsDescriptorIn p pages → HasCause {T = Unit {0}} (cause_of never) a b (Err error) → IfHeld {T = Unit {0}} (Err error) (StopsAt p pages events) → stop_of_write error ≡ Astray → ⊥
never_held a b p pages events (desc.Spent last) in_it cause held is = cause
never_held a b p pages events (desc.Held at found) in_it cause held is =
    let few : held.n < length pages = (let later = held.later in omega (arith, later)) in
    let here : place (sights p) disk_descriptor (suc held.n) ≡ Some at = in_it.1 held.n few ∙ ap Some (sym held.is_kept) in
    let next : suc held.n ≡ held.n + 1 = omega arith in
    held.other (subst (λ k. carried p at ≡ Some (data_page k)) next (place_carried p (data_page (suc held.n)) at here))
never_held a b p pages events desc.DiskFault in_it cause held is = cc
never_held a b p pages events desc.Memory in_it cause held is = cc
