-- Where an item comes to stand among slots: entries and words.
use Rattle.std.proofs.Common.{◌++◌, ◌+◌, ◌-◌, ◌∙◌, ◌∷◌, ◌≡◌, ◌≤◌, Bool, List, None, Option, Some, [], ap, arith, cond, false, le-leb, nat_le, refl, subst, sym, true, ℕ}
use Rattle.std.specs.Option.{is_some, option_map, option_or}
use Rattle.laws_operation.specs.alto_words.specs.declared.fid.Fid.{Fid}
use Rattle.laws_operation.specs.pack_model.specs.scavenger.Mended.{with_page}
use Rattle.laws_operation.specs.pack_model.specs.reading.Namings.{namings_in}
use Rattle.laws_operation.specs.pack_model.specs.operations.Rooms.{in_run, left_over, placed, run}
use Rattle.laws_operation.specs.pack_model.specs.reading.Slots.{Item, all_words, item_words}
use Rattle.laws_operation.specs.pack_model.specs.reading.Slots.Item.{entry, space}
use Rattle.laws_operation.specs.pack_laws.proofs.Placing.{none_of_false}
use Rattle.laws_record.proofs.Roomy.{run_enough}
use Rattle.laws_record.proofs.SystemEntries.{left_names, left_words}
use Rattle.laws_record.proofs.Tidying.{some_map}

-- ---- where the entry comes to stand
pub record Stands (d f : Fid) (name : List ℕ) (is js : List Item) : Type 0 where
  pub front : List Item
  pub back : List Item
  pub now : js ≡ front ++ entry f name ∷ back
  pub was : namings_in d is ≡ namings_in d front ++ namings_in d back

-- the entries after a run are those of all
run_names : (d : Fid) (n : ℕ) (is : List Item) (r : ℕ × List Item) → run n is ≡ Some r → namings_in d is ≡ namings_in d r.1
run_names d n [] r e = absurd (let x : None ≡ Some r = e in cc)
run_names d n (entry f name ∷ is) r e = absurd (let x : None ≡ Some r = e in cc)
run_names d n (space k ∷ is) r e = by (λ q e. run_names d (n - k) is q e) (nat_le n k) e
  where
    by : ((q : ℕ × List Item) → run (n - k) is ≡ Some q → namings_in d is ≡ namings_in d q.1) → (b : Bool) → cond b (Some (k, is)) (option_map (λ r. (k + r.0, r.1)) (run (n - k) is)) ≡ Some r → namings_in d is ≡ namings_in d r.1
    by again true e = let x : (k, is) ≡ r = cc in ap (λ r. namings_in d r.1) x
    by again false e = more (run (n - k) is) refl e
      where
        more : (o : Option (ℕ × List Item)) → run (n - k) is ≡ o → option_map (λ r. (k + r.0, r.1)) o ≡ Some r → namings_in d is ≡ namings_in d r.1
        more None p e = absurd (let x : None ≡ Some r = e in cc)
        more (Some q) p e = let x : (k + q.0, q.1) ≡ r = cc in again q p ∙ ap (λ r. namings_in d r.1) x

-- an item in a run
in_run_stands : (d f : Fid) (name : List ℕ) (is js : List Item) → in_run (entry f name) (run (item_words (entry f name)) is) ≡ Some js → Stands d f name is js
in_run_stands d f name is js e = by (run (item_words (entry f name)) is) refl e
  where
    by : (o : Option (ℕ × List Item)) → run (item_words (entry f name)) is ≡ o → in_run (entry f name) o ≡ Some js → Stands d f name is js
    by None p e = absurd (let x : None ≡ Some js = e in cc)
    by (Some r) p e = test (nat_le r.0 1023) e
      where
        test : (b : Bool) → cond b (Some (entry f name ∷ left_over (r.0 - item_words (entry f name)) r.1)) None ≡ Some js → Stands d f name is js
        test false e = absurd (let x : None ≡ Some js = e in cc)
        test true e =
            let x : entry f name ∷ left_over (r.0 - item_words (entry f name)) r.1 ≡ js = cc in
            record { front = []; back = left_over (r.0 - item_words (entry f name)) r.1; now = sym x; was = run_names d (item_words (entry f name)) is r p ∙ sym (left_names d (r.0 - item_words (entry f name)) r.1) }

-- a slot more in front
one_more : (d : Fid) (k : Item) (a b c : List Item) → namings_in d a ≡ namings_in d b ++ namings_in d c → namings_in d (k ∷ a) ≡ namings_in d (k ∷ b) ++ namings_in d c
one_more d (space n) a b c e = e
one_more d (entry f name) a b c e = ap (λ r. record { dir = d; name = name; fid = f } ∷ r) e

-- an entry that is placed stands between the others
pub placed_stands : (d f : Fid) (name : List ℕ) (is js : List Item) → placed (entry f name) is ≡ Some js → Stands d f name is js
unfolding placed
placed_stands d f name [] js e = absurd (let x : None ≡ Some js = e in cc)
placed_stands d f name (k ∷ is) js e = by (λ ks e. placed_stands d f name is ks e) (in_run (entry f name) (run (item_words (entry f name)) (k ∷ is))) refl e
  where
    by : ((ks : List Item) → placed (entry f name) is ≡ Some ks → Stands d f name is ks) → (o : Option (List Item)) → in_run (entry f name) (run (item_words (entry f name)) (k ∷ is)) ≡ o → option_or o (option_map (λ ks. k ∷ ks) (placed (entry f name) is)) ≡ Some js → Stands d f name (k ∷ is) js
    by again (Some ks) p e = let x : ks ≡ js = cc in subst (Stands d f name (k ∷ is)) x (in_run_stands d f name (k ∷ is) ks p)
    by again None p e = more (placed (entry f name) is) refl e
      where
        more : (o : Option (List Item)) → placed (entry f name) is ≡ o → option_map (λ ks. k ∷ ks) o ≡ Some js → Stands d f name (k ∷ is) js
        more None q e = absurd (let x : None ≡ Some js = e in cc)
        more (Some ks) q e =
            let x : k ∷ ks ≡ js = cc in
            let s = again ks q in
            subst (Stands d f name (k ∷ is)) x (record { front = k ∷ s.front; back = s.back; now = ap (λ r. k ∷ r) s.now; was = one_more d k is s.front s.back s.was })

-- ---- an item in a run of free slots keeps the words
-- a run's words, and those after it
run_words : (n : ℕ) (is : List Item) (r : ℕ × List Item) → run n is ≡ Some r → all_words is ≡ r.0 + all_words r.1
run_words n [] r e = absurd (let x : None ≡ Some r = e in cc)
run_words n (entry f name ∷ is) r e = absurd (let x : None ≡ Some r = e in cc)
run_words n (space k ∷ is) r e = by (λ q e. run_words (n - k) is q e) (nat_le n k) e
  where
    by : ((q : ℕ × List Item) → run (n - k) is ≡ Some q → all_words is ≡ q.0 + all_words q.1) → (b : Bool) → cond b (Some (k, is)) (option_map (λ r. (k + r.0, r.1)) (run (n - k) is)) ≡ Some r → k + all_words is ≡ r.0 + all_words r.1
    by again true e = let x : (k, is) ≡ r = cc in ap (λ (q : ℕ × List Item). q.0 + all_words q.1) x
    by again false e = more (run (n - k) is) refl e
      where
        more : (o : Option (ℕ × List Item)) → run (n - k) is ≡ o → option_map (λ r. (k + r.0, r.1)) o ≡ Some r → k + all_words is ≡ r.0 + all_words r.1
        more None p e = absurd (let x : None ≡ Some r = e in cc)
        more (Some q) p e =
            let x : (k + q.0, q.1) ≡ r = cc in
            let t : k + all_words is ≡ k + q.0 + all_words q.1 = let s = again q p in omega arith in
            t ∙ ap (λ (q : ℕ × List Item). q.0 + all_words q.1) x

-- an item in a run leaves the words as many
in_run_words : (i : Item) (is js : List Item) → in_run i (run (item_words i) is) ≡ Some js → all_words js ≡ all_words is
in_run_words i is js e = by (run (item_words i) is) refl e
  where
    by : (o : Option (ℕ × List Item)) → run (item_words i) is ≡ o → in_run i o ≡ Some js → all_words js ≡ all_words is
    by None p e = absurd (let x : None ≡ Some js = e in cc)
    by (Some r) p e = test (nat_le r.0 1023) e
      where
        test : (b : Bool) → cond b (Some (i ∷ left_over (r.0 - item_words i) r.1)) None ≡ Some js → all_words js ≡ all_words is
        test false e = absurd (let x : None ≡ Some js = e in cc)
        test true e =
            let x : i ∷ left_over (r.0 - item_words i) r.1 ≡ js = cc in
            let t = run_words (item_words i) is r p in
            let m = run_enough (item_words i) is r p in
            let w = left_words (r.0 - item_words i) r.1 in
            sym (ap all_words x) ∙ omega arith

-- so does an item that is placed
pub placed_words : (i : Item) (is js : List Item) → placed i is ≡ Some js → all_words js ≡ all_words is
unfolding placed
placed_words i [] js e = absurd (let x : None ≡ Some js = e in cc)
placed_words i (k ∷ is) js e = by (λ ks e. placed_words i is ks e) (in_run i (run (item_words i) (k ∷ is))) refl e
  where
    by : ((ks : List Item) → placed i is ≡ Some ks → all_words ks ≡ all_words is) → (o : Option (List Item)) → in_run i (run (item_words i) (k ∷ is)) ≡ o → option_or o (option_map (λ ks. k ∷ ks) (placed i is)) ≡ Some js → all_words js ≡ all_words (k ∷ is)
    by again (Some ks) p e = let x : ks ≡ js = cc in sym (ap all_words x) ∙ in_run_words i (k ∷ is) ks p
    by again None p e = more (placed i is) refl e
      where
        more : (o : Option (List Item)) → placed i is ≡ o → option_map (λ ks. k ∷ ks) o ≡ Some js → all_words js ≡ all_words (k ∷ is)
        more None q e = absurd (let x : None ≡ Some js = e in cc)
        more (Some ks) q e = let x : k ∷ ks ≡ js = cc in sym (ap all_words x) ∙ ap (λ n. item_words k + n) (again ks q)

-- a page more has room
some_or : (a : Option (List Item)) (b : Option (List Item)) → (b ≡ None → ⊥) → option_or a b ≡ None → ⊥
some_or None b some e = some e
some_or (Some x) b some e = let y : Some x ≡ None = e in cc

-- a page more has room for up to 256 words
pub page_places : (i : Item) (is : List Item) → item_words i ≤ 256 → placed i (with_page is) ≡ None → ⊥
unfolding placed
page_places i [] l e = single (nat_le (item_words i) 256) (le-leb (item_words i) 256 l) e
  where
    single : (b : Bool) → b ≡ true → option_or (in_run i (cond b (Some (256, [])) (option_map {T = ℕ × List Item} (λ r. (256 + r.0, r.1)) None))) (option_map {T = List Item} (λ ks. space 256 ∷ ks) None) ≡ None → ⊥
    single true t e = let x : Some (i ∷ left_over (256 - item_words i) []) ≡ None = e in cc
    single false t e = cc
page_places i (k ∷ is) l e = some_or (in_run i (run (item_words i) (k ∷ with_page is))) (option_map (λ ks. k ∷ ks) (placed i (with_page is))) (λ none. page_places i is l (none_of_false (placed i (with_page is)) (sym (some_map (λ ks. k ∷ ks) (placed i (with_page is))) ∙ ap is_some none))) e
