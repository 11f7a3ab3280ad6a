-- The room for an entry that was found, by its slots; free slots of it made one: it is the first room again, and an entry goes there.
use Rattle.std.proofs.Common.{Bool, List, None, Option, Some, [], ap, arith, cond, false, leb-false, leb-true, length, refl, suc, sym, true, ℕ, ◌++◌, ◌+◌, ◌-◌, ◌<◌, ◌∙◌, ◌∷◌, ◌≡◌, ◌≤◌}
use Rattle.std.proofs.lemmas.Bool.{le-leb, lt-leb}
use Rattle.std.specs.Option.{option_map, option_or, unwrap_or}
use Rattle.std.specs.Prelude.{nat_le}
use Rattle.laws_contents.specs.pack_model.specs.operations.Rooms.{Room, find_room, in_run, items_entered, left_over, most_free, placed, room_from, room_here, run}
use Rattle.laws_contents.specs.pack_model.specs.reading.Slots.{Item, all_words, item_words}
use Rattle.laws_contents.specs.pack_model.specs.reading.Slots.Item.{entry, space}
use Rattle.laws_contents.specs.laws_record.proofs.RoomPlaced.{run_is}
use Rattle.laws_contents.specs.laws_record.proofs.Roomy.{run_enough}
use Rattle.laws_operation.proofs.inside.Rooming.{FailsAll, placed_past, room_after, room_past, shorter_run}
use Rattle.laws_operation.specs.NameLaws.{IsRoom}

module _ (n total : ℕ) (old b : List Item) (run_is : run n (old ++ b) ≡ Some (total, b)) (enough : n ≤ total) where
  -- a start that has too many words has too many where they are one slot
  too_many : (a : List Item) (m c : ℕ) → m ≤ n → ((r : ℕ × List Item) → run m (a ++ (old ++ b)) ≡ Some r → 1023 < c + r.0) → (r : ℕ × List Item) → run m (a ++ space total ∷ b) ≡ Some r → 1023 < c + r.0
  too_many [] m c l many r e =
      let s = shorter_run m n (old ++ b) total b l run_is in
      let x = many (s.words, s.rest_of) s.is in
      let y = s.less in
      let one : run m (space total ∷ b) ≡ Some (total, b) = ap (λ t. cond {A = Option (ℕ × List Item)} t (Some (total, b)) (option_map (λ r. (total + r.0, r.1)) (run (m - total) b))) (le-leb m total (omega arith)) in
      let same : ◌≡◌ {A = ℕ × List Item} (total, b) r = (let both : ◌≡◌ {A = Option (ℕ × List Item)} (Some (total, b)) (Some r) = sym one ∙ e in cc) in
      let z : total ≡ r.0 = ap (λ q. q.0) same in
      omega arith
  too_many (entry f name ∷ a) m c l many r e = absurd cc
  too_many (space k ∷ a) m c l many r e = by (nat_le m k) refl (run (m - k) (a ++ space total ∷ b)) refl e many (too_many a (m - k) (c + k) (omega arith))
    where
      by : (t : Bool) → nat_le m k ≡ t → (q : Option (ℕ × List Item)) → run (m - k) (a ++ space total ∷ b) ≡ q → cond {A = Option (ℕ × List Item)} t (Some (k, a ++ space total ∷ b)) (option_map (λ r. (k + r.0, r.1)) q) ≡ Some r
          → ((r : ℕ × List Item) → cond {A = Option (ℕ × List Item)} (nat_le m k) (Some (k, a ++ (old ++ b))) (option_map (λ r. (k + r.0, r.1)) (run (m - k) (a ++ (old ++ b)))) ≡ Some r → 1023 < c + r.0)
          → (((r : ℕ × List Item) → run (m - k) (a ++ (old ++ b)) ≡ Some r → 1023 < c + k + r.0) → (r : ℕ × List Item) → run (m - k) (a ++ space total ∷ b) ≡ Some r → 1023 < c + k + r.0) → 1023 < c + r.0
      by true t q is e many again =
          let same : ◌≡◌ {A = ℕ × List Item} (k, a ++ space total ∷ b) r = cc in
          let z : k ≡ r.0 = ap (λ q. q.0) same in
          let x = many (k, a ++ (old ++ b)) (ap (λ t. cond {A = Option (ℕ × List Item)} t (Some (k, a ++ (old ++ b))) (option_map (λ r. (k + r.0, r.1)) (run (m - k) (a ++ (old ++ b))))) t) in
          omega arith
      by false t None is e many again = absurd cc
      by false t (Some q) is e many again =
          let same : ◌≡◌ {A = ℕ × List Item} (k + q.0, q.1) r = cc in
          let z : k + q.0 ≡ r.0 = ap (λ q. q.0) same in
          let x = again (λ s y. let w = many (k + s.0, s.1) (ap (λ t. cond {A = Option (ℕ × List Item)} t (Some (k, a ++ (old ++ b))) (option_map (λ r. (k + r.0, r.1)) (run (m - k) (a ++ (old ++ b))))) t ∙ ap (option_map (λ r. (k + r.0, r.1))) y) in omega arith) q is in
          omega arith

  -- so earlier starts fail as before
  pub fails_joined : (a : List Item) → FailsAll n a (old ++ b) → FailsAll n a (space total ∷ b)
  fails_joined [] h = tt
  fails_joined (i ∷ a) h = (λ r e. lt-leb r.0 1023 (let x = too_many (i ∷ a) n 0 (omega arith) (λ s y. let w = leb-false s.0 1023 (h.0 s y) in omega arith) r e in omega arith), fails_joined a h.1)

-- ---- where the entry goes
-- earlier starts fail
pub room_fails : (n : ℕ) (is a old b : List Item) → IsRoom n is a old b → FailsAll n a (old ++ b)
room_fails n is a old b h = (room_after n 0 0 a (old ++ b) (record { first = length a; place = all_words a; total = all_words old }) (ap (find_room n) (sym h.split) ∙ h.found) (let z : length a ≡ 0 + length a = omega arith in z)).0

-- a room has the words that are asked for
pub enough_words : (n : ℕ) (is a old b : List Item) → IsRoom n is a old b → n ≤ all_words old
enough_words n is a old b h = run_enough n (old ++ b) (all_words old, b) h.run_is

-- an item is placed where its run is
placed_here : (i : Item) (old b : List Item) (t : ℕ) → run (item_words i) (old ++ b) ≡ Some (t, b) → t ≤ 1023 → placed i (old ++ b) ≡ Some (i ∷ left_over (t - item_words i) b)
unfolding placed
placed_here i [] b t e l = here b refl e
  where
    here : (xs : List Item) → xs ≡ b → run (item_words i) xs ≡ Some (t, b) → placed i xs ≡ Some (i ∷ left_over (t - item_words i) b)
    here [] is e = absurd cc
    here (x ∷ xs) is e = ap (λ q. option_or (in_run i q) (option_map (λ ks. x ∷ ks) (placed i xs))) e ∙ ap (λ c. option_or (cond c (Some (i ∷ left_over (t - item_words i) b)) None) (option_map (λ ks. x ∷ ks) (placed i xs))) (le-leb t 1023 l)
placed_here i (x ∷ old) b t e l = ap (λ q. option_or (in_run i q) (option_map (λ ks. x ∷ ks) (placed i (old ++ b)))) e ∙ ap (λ c. option_or (cond c (Some (i ∷ left_over (t - item_words i) b)) None) (option_map (λ ks. x ∷ ks) (placed i (old ++ b)))) (le-leb t 1023 l)

-- so an entry is entered there
pub entered_there : (i : Item) (is a old b : List Item) → IsRoom (item_words i) is a old b → items_entered i is ≡ a ++ i ∷ left_over (all_words old - item_words i) b
entered_there i is a old b h =
    ap (items_entered i) h.split
    ∙ ap (λ q. unwrap_or q (a ++ (old ++ b))) (placed_past i a (old ++ b) (room_fails (item_words i) is a old b h) ∙ ap (option_map (λ ks. a ++ ks)) (placed_here i old b (all_words old) h.run_is h.most))

-- with one free slot in its place it is the room again
pub room_again : (n : ℕ) (is a old b : List Item) → IsRoom n is a old b → IsRoom n (a ++ space (all_words old) ∷ b) a (space (all_words old) ∷ []) b
room_again n is a old b h =
    let t : ℕ = all_words old in
    let l = enough_words n is a old b h in
    let m = h.most in
    let z : t ≡ t + 0 = omega arith in
    let one : run n (space t ∷ b) ≡ Some (t, b) = ap (λ c. cond {A = Option (ℕ × List Item)} c (Some (t, b)) (option_map (λ r. (t + r.0, r.1)) (run (n - t) b))) (le-leb n t l) in
    let here : (f p : ℕ) → room_from n f p (space t ∷ b) ≡ Some (record { first = f; place = p; total = t }) = λ f p.
    ap (λ q. option_or (room_here f p q) (room_from n (suc f) (p + t) b)) one ∙ ap (λ c. option_or (cond c (Some (record { first = f; place = p; total = t })) None) (room_from n (suc f) (p + t) b)) (le-leb t 1023 m) in
    let x : 0 + length a ≡ length a = omega arith in
    let y : 0 + all_words a ≡ all_words a = omega arith in
    record {
      split = refl;
      found = room_past n 0 0 a (space t ∷ b) (fails_joined n t old b h.run_is l a (room_fails n is a old b h)) ∙ here (0 + length a) (0 + all_words a) ∙ (λ i. Some (record { first = x i; place = y i; total = z i }));
      run_is = one ∙ (λ i. Some (z i, b));
      most = omega arith;
    }

-- ---- a room that was found
-- the slots before it, its own and those after it, where the search begins with a slot of this number and at this word
pub record Parted (n first place : ℕ) (is : List Item) (r : Room) : Type 0 where
  pub before : List Item
  pub old : List Item
  pub behind : List Item
  pub split : is ≡ before ++ (old ++ behind)
  pub first_is : r.first ≡ first + length before
  pub place_is : r.place ≡ place + all_words before
  pub total : r.total ≡ all_words old
  pub runs : run n (old ++ behind) ≡ Some (r.total, behind)
  pub most : r.total ≤ 1023

pub parted : (n first place : ℕ) (is : List Item) (r : Room) → room_from n first place is ≡ Some r → Parted n first place is r
parted n first place [] r e = absurd cc
parted n first place (i ∷ is) r e = by (run n (i ∷ is)) refl e (λ e. behind_one (parted n (suc first) (place + item_words i) is r e))
  where
    behind_one : Parted n (suc first) (place + item_words i) is r → Parted n first place (i ∷ is) r
    behind_one h =
        let f = h.first_is in
        let p = h.place_is in
        record { before = i ∷ h.before; old = h.old; behind = h.behind; split = ap (λ l. i ∷ l) h.split; first_is = omega arith; place_is = omega arith; total = h.total; runs = h.runs; most = h.most }

    tried : (t : Bool) (q : ℕ × List Item) → run n (i ∷ is) ≡ Some q → nat_le q.0 most_free ≡ t → option_or (cond t (Some (record { first = first; place = place; total = q.0 })) None) (room_from n (suc first) (place + item_words i) is) ≡ Some r
        → (room_from n (suc first) (place + item_words i) is ≡ Some r → Parted n first place (i ∷ is) r) → Parted n first place (i ∷ is) r
    tried true q q_is few e again =
        let same : ◌≡◌ {A = Room} (record { first = first; place = place; total = q.0 }) r = cc in
        let here = run_is n (i ∷ is) q q_is in
        let total : q.0 ≡ r.total = ap (λ x. x.total) same in
        let f : first ≡ r.first = ap (λ x. x.first) same in
        let p : place ≡ r.place = ap (λ x. x.place) same in
        let l = leb-true q.0 1023 few in
        record {
          before = [];
          old = here.free;
          behind = q.1;
          split = here.are;
          first_is = omega arith;
          place_is = omega arith;
          total = sym total ∙ here.words;
          runs = ap (run n) (sym here.are) ∙ q_is ∙ (λ j. Some (total j, q.1));
          most = omega arith;
        }
    tried false q q_is few e again = again e

    by : (q : Option (ℕ × List Item)) → run n (i ∷ is) ≡ q → option_or (room_here first place q) (room_from n (suc first) (place + item_words i) is) ≡ Some r → (room_from n (suc first) (place + item_words i) is ≡ Some r → Parted n first place (i ∷ is) r) → Parted n first place (i ∷ is) r
    by None q_is e again = again e
    by (Some q) q_is e again = tried (nat_le q.0 most_free) q q_is refl e again
