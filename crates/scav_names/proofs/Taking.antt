-- The free slots of a room, taken out of the map one after another, and what is left over.
use Rattle.std.proofs.Common.{◌≡◌, ℕ, zero, suc, ◌+◌, ◌<◌, ◌≤◌, List, [], ◌∷◌, ◌++◌, Some, refl, sym, ap, ◌∙◌, subst, append_assoc, arith}
use Rattle.std.specs.Prelude.{All}
use Rattle.std.specs.BTreeMap.{insert_entry, is_at}
use Rattle.std.specs.Map.{lookup, remove_entry}
use Rattle.std.specs.Ordering.{nat_cmp}
use Rattle.std.proofs.lemmas.List.Elements.{All-head, All-tail}
use Rattle.pack_model.specs.operations.Rooms.{left_over}
use Rattle.pack_model.specs.reading.Slots.{Item, all_words}
use Rattle.pack_model.specs.reading.Slots.Item.{space, entry}
use Rattle.dir_slots.proofs.Slots.{all_words-append}
use Rattle.scav_pages.specs.laws_record.specs.SlotLaws.{IsSpace}
use Rattle.scav_names.specs.declared.rooms.EntryRoom.{EntryRoom}
use Rattle.scav_names.specs.Rooms.{IsRow, IsSize, free_slots}
use Rattle.scav_names.proofs.FreeSlots.{free_above, free_append, free_below}
use Rattle.scav_names.proofs.Keys.{all_left, all_right, insert_between, lookup_here, lookup_past, remove_between}

-- Of a room's slots these are left in the map.
pub record IsTaken (taken : ℕ) (before row rest : List Item) (free : List (ℕ × ℕ)) : Type 0 where
  pub gone : List Item
  pub left : List Item
  pub split : row ≡ gone ++ left
  pub are_free : All IsSpace left
  pub words : taken ≡ all_words gone
  pub entries : free ≡ free_slots 0 before ++ free_slots (all_words before + taken) (left ++ rest)

pub none_taken : (room : EntryRoom) (before row rest : List Item) (free : List (ℕ × ℕ)) → IsRow room before row rest → free ≡ free_slots 0 (before ++ (row ++ rest)) → IsTaken 0 before row rest free
none_taken room before row rest free r e =
    let start : 0 + all_words before ≡ all_words before + 0 = omega arith in
    record { gone = []; left = row; split = refl; are_free = r.free; words = refl; entries = e ∙ free_append 0 before (row ++ rest) ∙ ap (λ p. free_slots 0 before ++ free_slots p (row ++ rest)) start }

pub all_taken : (taken : ℕ) (room : EntryRoom) (before row rest : List Item) (free : List (ℕ × ℕ)) → IsRow room before row rest → room.total ≤ taken → IsTaken taken before row rest free
    → free ≡ free_slots 0 before ++ free_slots (room.place + room.total) rest
all_taken taken room before row rest free r done t = by t.left refl t.are_free
  where
    sizes : All IsSize row
    sizes = all_left IsSize row rest (all_right IsSize before (row ++ rest) r.sizes)

    by : (left : List Item) → t.left ≡ left → All IsSpace left → free ≡ free_slots 0 before ++ free_slots (room.place + room.total) rest
    by [] e h =
        let split : row ≡ t.gone ++ [] = t.split ∙ ap (λ l. t.gone ++ l) e in
        let all : all_words row ≡ all_words t.gone + 0 = ap all_words split ∙ all_words-append t.gone [] in
        let place = r.place in
        let total = r.total in
        let words = t.words in
        let key : all_words before + taken ≡ room.place + room.total = omega arith in
        t.entries ∙ ap (λ l. free_slots 0 before ++ free_slots (all_words before + taken) (l ++ rest)) e ∙ ap (λ p. free_slots 0 before ++ free_slots p rest) key
    by (space n ∷ left) e h =
        let split : row ≡ t.gone ++ space n ∷ left = t.split ∙ ap (λ l. t.gone ++ l) e in
        let all : all_words row ≡ all_words t.gone + (n + all_words left) = ap all_words split ∙ all_words-append t.gone (space n ∷ left) in
        let some = (All-head IsSize (space n) left (all_right IsSize t.gone (space n ∷ left) (subst (All IsSize) split sizes))).0 in
        let total = r.total in
        let words = t.words in
        absurd (omega arith)
    by (entry f name ∷ left) e h = absurd (All-head IsSpace (entry f name) left h)

-- the next one
pub record TakesNext (taken n : ℕ) (room : EntryRoom) (before row rest : List Item) (free : List (ℕ × ℕ)) : Type 0 where
  pub found : lookup (is_at (nat_cmp (room.place + taken))) free ≡ Some n
  pub within : taken + n ≤ room.total
  pub then : IsTaken (taken + n) before row rest (remove_entry (is_at (nat_cmp (room.place + taken))) free)

pub take_next : (taken : ℕ) (room : EntryRoom) (before row rest : List Item) (free : List (ℕ × ℕ)) → IsRow room before row rest → taken < room.total → IsTaken taken before row rest free → (n : ℕ) × TakesNext taken n room before row rest free
take_next taken room before row rest free r more t = by t.left refl t.are_free
  where
    by : (left : List Item) → t.left ≡ left → All IsSpace left → (n : ℕ) × TakesNext taken n room before row rest free
    by [] e h =
        let split : row ≡ t.gone ++ [] = t.split ∙ ap (λ l. t.gone ++ l) e in
        let all : all_words row ≡ all_words t.gone + 0 = ap all_words split ∙ all_words-append t.gone [] in
        let total = r.total in
        let words = t.words in
        absurd (omega arith)
    by (space n ∷ left) e h =
        let split : row ≡ t.gone ++ space n ∷ left = t.split ∙ ap (λ l. t.gone ++ l) e in
        let all : all_words row ≡ all_words t.gone + (n + all_words left) = ap all_words split ∙ all_words-append t.gone (space n ∷ left) in
        let gone : all_words (t.gone ++ space n ∷ []) ≡ all_words t.gone + (n + 0) = all_words-append t.gone (space n ∷ []) in
        let place = r.place in
        let total = r.total in
        let words = t.words in
        let key : all_words before + taken ≡ room.place + taken = omega arith in
        let entries : free ≡ free_slots 0 before ++ (room.place + taken, n) ∷ free_slots (room.place + taken + n) (left ++ rest) = t.entries ∙ ap (λ l. free_slots 0 before ++ free_slots (all_words before + taken) (l ++ rest)) e ∙ ap (λ p. free_slots 0 before ++ (p, n) ∷ free_slots (p + n) (left ++ rest)) key in
        let below = free_below 0 (room.place + taken) before (all_left IsSize before (row ++ rest) r.sizes) (omega arith) in
        let after : room.place + taken + n ≡ all_words before + (taken + n) = omega arith in (
          n,
          record {
            found = ap (lookup (is_at (nat_cmp (room.place + taken)))) entries ∙ lookup_past (free_slots 0 before) ((room.place + taken, n) ∷ free_slots (room.place + taken + n) (left ++ rest)) (room.place + taken) below ∙ lookup_here (room.place + taken) n (free_slots (room.place + taken + n) (left ++ rest));
            within = omega arith;
            then = record {
              gone = t.gone ++ space n ∷ [];
              left = left;
              split = split ∙ sym (append_assoc t.gone (space n ∷ []) left);
              are_free = All-tail IsSpace (space n) left h;
              words = omega arith;
              entries = ap (remove_entry (is_at (nat_cmp (room.place + taken)))) entries ∙ remove_between (free_slots 0 before) (free_slots (room.place + taken + n) (left ++ rest)) (room.place + taken) n below
                  ∙ ap (λ p. free_slots 0 before ++ free_slots p (left ++ rest)) after;
            };
          },
        )
    by (entry f name ∷ left) e h = absurd (All-head IsSpace (entry f name) left h)

-- its first word stands in the directory
pub place_fits : (taken : ℕ) (room : EntryRoom) (before row rest : List Item) → IsRow room before row rest → taken < room.total → room.place + taken < 4294967296
place_fits taken room before row rest r more =
    let all : all_words (before ++ (row ++ rest)) ≡ all_words before + all_words (row ++ rest) = all_words-append before (row ++ rest) in
    let some : all_words (row ++ rest) ≡ all_words row + all_words rest = all_words-append row rest in
    let few = r.few in
    let place = r.place in
    let total = r.total in
    omega arith

-- ---- what is left over
pub rest_kept : (place words : ℕ) (before rest : List Item) (free : List (ℕ × ℕ)) → All IsSize before → all_words before ≡ place → 0 < words → free ≡ free_slots 0 before ++ free_slots (place + words) rest
    → insert_entry nat_cmp free place words ≡ free_slots 0 (before ++ left_over words rest)
rest_kept place zero before rest free sizes here some e = absurd (omega arith)
rest_kept place (suc n) before rest free sizes here some e =
    let start : 0 + all_words before ≡ place = omega arith in
    ap (λ es. insert_entry nat_cmp es place (suc n)) e
    ∙ insert_between (free_slots 0 before) (free_slots (place + suc n) rest) place (suc n) (free_below 0 place before sizes (omega arith)) (free_above place (place + suc n) rest (omega arith))
    ∙ sym (free_append 0 before (space (suc n) ∷ rest) ∙ ap (λ p. free_slots 0 before ++ (p, suc n) ∷ free_slots (p + suc n) rest) start)

pub none_kept : (place words : ℕ) (before rest : List Item) (free : List (ℕ × ℕ)) → all_words before ≡ place → words ≡ 0 → free ≡ free_slots 0 before ++ free_slots (place + words) rest → free ≡ free_slots 0 (before ++ left_over words rest)
none_kept place words before rest free here none e =
    let start : place + words ≡ 0 + all_words before = omega arith in
    e ∙ ap (λ p. free_slots 0 before ++ free_slots p rest) start ∙ sym (ap (λ w. free_slots 0 (before ++ left_over w rest)) none ∙ free_append 0 before rest)
