-- Enter: its record writes are as many as the model says, and the law.
use Rattle.std.proofs.Common.{Bool, List, [], ap, append_assoc, arith, eq-eqb, false, get_or, length, min, not, refl, subst, suc, sym, true, zero, ℕ, ◌++◌, ◌+◌, ◌-◌, ◌<◌, ◌∙◌, ◌∷◌, ◌≡◌}
use Rattle.std.proofs.lemmas.Bool.{ne_eqb}
use Rattle.std.specs.Prelude.{◌==◌}
use Rattle.laws_contents.specs.disk_records.proofs.Growing.{after-append}
use Rattle.laws_contents.specs.disk_records.specs.Commands.{value_writes}
use Rattle.laws_contents.specs.disk_records.specs.Packs.{after, sector_at}
use Rattle.laws_contents.specs.disk_records.specs.declared.records.Event.{Event}
use Rattle.laws_contents.specs.pack_model.specs.reading.Bytes.{put_at}
use Rattle.laws_contents.specs.pack_model.specs.operations.Commands.{values_writes}
use Rattle.laws_contents.specs.pack_model.specs.operations.Committing.{moves_of, page_of_word, units, values_before}
use Rattle.laws_contents.specs.pack_model.specs.operations.Entering.{EntryRoom, entry_value, after_joining, joining, overlapping, values_first}
use Rattle.laws_contents.specs.pack_model.specs.states.InUse.{one_if}
use Rattle.laws_contents.specs.pack_model.specs.sessions.Meanings.{viewing}
use Rattle.laws_contents.specs.pack_model.specs.reading.Model.{Model, dir_items, read_as}
use Rattle.laws_contents.specs.pack_model.specs.sessions.Moves.{Obeys, steps}
use Rattle.laws_contents.specs.pack_model.specs.operations.Operations.{enter_moves, enter_writes}
use Rattle.laws_contents.specs.pack_model.specs.operations.PageWords.{in_page, near}
use Rattle.laws_contents.specs.pack_model.specs.operations.Rooms.{find_room}
use Rattle.laws_contents.specs.pack_model.specs.reading.Slots.{Item, all_words, entry_length, item_words}
use Rattle.laws_contents.specs.pack_model.specs.reading.Slots.Item.{space}
use Rattle.laws_contents.specs.pack_model.specs.operations.Step.{Operation, step}
use Rattle.laws_contents.specs.pack_model.specs.operations.Step.Operation.{enter}
use Rattle.laws_contents.specs.pack_laws.proofs.Moving.{crash_of_run}
use Rattle.laws_contents.specs.laws_record.proofs.Addressing.{entry_words_many}
use Rattle.laws_contents.specs.laws_record.proofs.DirReads.{not_descriptor}
use Rattle.laws_operation.proofs.EnterLaw.{all_stages, all_ticks}
use Rattle.laws_operation.proofs.EnterStages.{EntersBy}
use Rattle.laws_operation.proofs.inside.Kept.{descriptor_kept, fits_still}
use Rattle.laws_operation.proofs.Rejoining.{enough_words}
use Rattle.laws_operation.specs.NameLaws.{EnterCarriesOut, entry_room}

-- ---- counts
ticks_are : (x y : Bool) → units (one_if (not x) + one_if (not y)) ≡ all_ticks x y
ticks_are true true = refl
ticks_are true false = refl
ticks_are false true = refl
ticks_are false false = refl

-- one word more where words are left over
left_word : (n left : ℕ) → one_if (not (n + left == n)) ≡ min left 1
left_word n zero = ap (λ c. one_if (not c)) (eq-eqb (n + 0) n (omega arith))
left_word n (suc k) = ap (λ c. one_if (not c)) (ne_eqb (n + suc k) n (omega arith)) ∙ (let z : 1 ≡ min (suc k) 1 = omega arith in z)

-- the first slot of a room
pub first_slot : (a old b : List Item) → 0 < all_words old → get_or (a ++ (old ++ b)) (length a) (space 0) ≡ get_or old 0 (space 0)
first_slot [] [] b l = absurd (omega arith)
first_slot [] (i ∷ old) b l = refl
first_slot (j ∷ a) old b l = first_slot a old b l

-- they come to the operation
enters_to : (before : List (Unit {0})) (o : Operation) (m : Model) → steps viewing m (enter_moves before o) ≡ step m o
enters_to [] o m = refl
enters_to (x ∷ before) o m = enters_to before o m

-- ---- lists of values
pub values-append : (x y : List (ℕ × List ℕ)) → values_writes (x ++ y) ≡ values_writes x ++ values_writes y
values-append [] y = refl
values-append (v ∷ x) y = ap (λ r. value_writes v.0 v.1 ++ r) (values-append x y)

-- all of an entering
pub enter_carries_out : EnterCarriesOut
enter_carries_out p d name f a old b left words at next_at w t h =
    let one : Bool = item_words (get_or old 0 (space 0)) == all_words old in
    let same : Bool = page_of_word (all_words a + length words - 1) == page_of_word (all_words a) in
    let n : ℕ = entry_length (length name) in
    let o : Operation = enter d name f in
    let m : Model = read_as p in
    let r : EntryRoom = entry_room a old at next_at in
    let x : List (ℕ × List ℕ) = joining p r in
    let y : List (ℕ × List ℕ) = overlapping (after_joining p r) (all_words a) words next_at in
    let s = all_stages p w t d name f a old b left words at next_at h one refl in
    let twice : after (after_joining p r) (values_writes y) ≡ after p (values_writes (x ++ y)) = sym (after-append p (values_writes x) (values_writes y)) ∙ ap (after p) (sym (values-append x y)) in
    let value1 : List ℕ = put_at (in_page (all_words a)) (near (all_words a) words) (sector_at (after (after_joining p r) (values_writes y)) at).value in
    let value_is : value1 ≡ entry_value p r words = ap (λ q. put_at (in_page (all_words a)) (near (all_words a) words) (sector_at q at).value) twice in
    let events : List Event = enter_writes (values_first p r words) at (entry_value p r words) in
    let events_are : values_writes x ++ (values_writes y ++ value_writes at value1) ≡ events =
    sym (append_assoc (values_writes x) (values_writes y) (value_writes at value1)) ∙ ap (λ r. r ++ value_writes at value1) (sym (values-append x y)) ∙ ap (λ v. values_writes (x ++ y) ++ value_writes at v) value_is in
    let s1 : EntersBy p d events (all_ticks one same) o = subst (λ r. EntersBy p d r (all_ticks one same) o) events_are s in
    let found = h.room.found in
    let long = enough_words n (dir_items m d) a old b h.room in
    let many = entry_words_many (length name) in
    let first : get_or (dir_items m d) (length a) (space 0) ≡ get_or old 0 (space 0) = ap (λ is. get_or is (length a) (space 0)) h.room.split ∙ first_slot a old b (omega arith) in
    let size : n + one_if (not (all_words old == n)) ≡ length words = ap (λ k. n + one_if (not (k == n))) h.total ∙ ap (λ k. n + k) (left_word n left) ∙ sym h.words_are.size in
    let count : values_before (dir_items m d) n (find_room n (dir_items m d)) ≡ one_if (not one) + one_if (not same) =
    ap (values_before (dir_items m d) n) found ∙ (λ i. one_if (not (item_words (first i) == all_words old)) + one_if (not (page_of_word (all_words a + size i - 1) == page_of_word (all_words a)))) in
    let moves : moves_of m o ≡ enter_moves (all_ticks one same) o = ap (λ us. enter_moves us o) (ap units count ∙ ticks_are one same) in
    let obeys : Obeys viewing m p events (moves_of m o) = subst (Obeys viewing m p events) (sym moves) s1.obeys in
    record {
      sees = record { obeys = obeys; ends = s1.ends ∙ sym (ap (steps viewing m) moves ∙ enters_to (all_ticks one same) o m); whole = s1.whole; tidy = s1.tidy };
      cuts = λ k. crash_of_run viewing obeys k;
      ends = s1.ends;
      descriptor = descriptor_kept p (after p events) d s1.same (not_descriptor d h.directory);
      fits = fits_still p (after p events) d s1.same (not_descriptor d h.directory) refl;
    }
