-- How many words a room has, and that its slots and words are among those of a directory.
use Rattle.std.proofs.Common.{◌≡◌, ℕ, suc, ◌+◌, ◌-◌, ◌<◌, ◌≤◌, Bool, true, false, cond, List, [], ◌∷◌, length, None, Option, Some, refl, ap, arith, leb-true}
use Rattle.std.specs.Option.{option_map, option_or}
use Rattle.std.specs.Prelude.{nat_le}
use Rattle.pack_model.specs.operations.Rooms.{Room, most_free, room_from, room_here, run}
use Rattle.pack_model.specs.reading.Slots.Item.{entry, space}
use Rattle.pack_model.specs.reading.Slots.{Item, all_words, item_words}

pub one_room : (a b : Room) → ◌≡◌ {A = Option Room} (Some a) (Some b) → a ≡ b
one_room a b e = cc

pub no_room : (r : Room) → ◌≡◌ {A = Option Room} None (Some r) → ⊥
no_room r e = cc

-- ---- free slots in a row
-- They have as many words as are asked for, and these are among all words.
record IsLongRow (n : ℕ) (is : List Item) (q : ℕ × List Item) : Type 0 where
  pub total : n ≤ q.0
  pub words : q.0 ≤ all_words is

row_sized : (n : ℕ) (is : List Item) (q : ℕ × List Item) → run n is ≡ Some q → IsLongRow n is q
row_sized n [] q e = absurd cc
row_sized n (entry f name ∷ is) q e = absurd cc
row_sized n (space k ∷ is) q e = by (nat_le n k) refl (run (n - k) is) refl e (λ r. row_sized (n - k) is r)
  where
    by : (b : Bool) → nat_le n k ≡ b → (r : Option (ℕ × List Item)) → run (n - k) is ≡ r → cond {A = Option (ℕ × List Item)} b (Some (k, is)) (option_map (λ r. (k + r.0, r.1)) r) ≡ Some q
        → ((r : ℕ × List Item) → run (n - k) is ≡ Some r → IsLongRow (n - k) is r) → IsLongRow n (space k ∷ is) q
    by true l r is_r e rest =
        let all = leb-true n k l in
        let same : ◌≡◌ {A = ℕ × List Item} (k, is) q = cc in
        let t : k ≡ q.0 = ap (λ (x : ℕ × List Item). x.0) same in
        record { total = omega (arith, all, t); words = omega (arith, t) }
    by false l None is_r e rest = absurd cc
    by false l (Some r) is_r e rest =
        let more = (rest r is_r).total in
        let within = (rest r is_r).words in
        let same : ◌≡◌ {A = ℕ × List Item} (k + r.0, r.1) q = cc in
        let t : k + r.0 ≡ q.0 = ap (λ (x : ℕ × List Item). x.0) same in
        record { total = omega (arith, more, t); words = omega (arith, within, t) }

-- ---- a room
-- Its first slot is among these, it has as many words as are asked for, and they are among all words.
pub record RoomWithin (n from at : ℕ) (is : List Item) (r : Room) : Type 0 where
  pub first : r.first < from + length is
  pub total : n ≤ r.total
  pub words : r.place + r.total ≤ at + all_words is

pub room_sized : (n first place : ℕ) (is : List Item) (r : Room) → room_from n first place is ≡ Some r → RoomWithin n first place is r
room_sized n first place [] r found = absurd (no_room r found)
room_sized n first place (i ∷ is) r found = by (run n (i ∷ is)) refl found (λ e. later (room_sized n (suc first) (place + item_words i) is r e))
  where
    later : RoomWithin n (suc first) (place + item_words i) is r → RoomWithin n first place (i ∷ is) r
    later h = let f = h.first in let w = h.words in record { first = omega (arith, f); total = h.total; words = omega (arith, w) }

    tried : (t : Bool) (q : ℕ × List Item) → run n (i ∷ is) ≡ Some q → option_or (cond {A = Option Room} t (Some (record { first = first; place = place; total = q.0 })) None) (room_from n (suc first) (place + item_words i) is) ≡ Some r
        → (room_from n (suc first) (place + item_words i) is ≡ Some r → RoomWithin n first place (i ∷ is) r) → RoomWithin n first place (i ∷ is) r
    tried true q is_q e rest =
        let row = row_sized n (i ∷ is) q is_q in
        let most = row.total in
        let within = row.words in
        let same = one_room (record { first = first; place = place; total = q.0 }) r e in
        let f : first ≡ r.first = ap (λ (x : Room). x.first) same in
        let p : place ≡ r.place = ap (λ (x : Room). x.place) same in
        let t : q.0 ≡ r.total = ap (λ (x : Room). x.total) same in
        record { first = omega (arith, f); total = omega (arith, most, t); words = omega (arith, within, p, t) }
    tried false q is_q e rest = rest e

    by : (q : Option (ℕ × List Item)) → run n (i ∷ is) ≡ q → option_or (room_here first place q) (room_from n (suc first) (place + item_words i) is) ≡ Some r
        → (room_from n (suc first) (place + item_words i) is ≡ Some r → RoomWithin n first place (i ∷ is) r) → RoomWithin n first place (i ∷ is) r
    by None is_q e rest = rest e
    by (Some q) is_q e rest = tried (nat_le q.0 most_free) q is_q e rest
