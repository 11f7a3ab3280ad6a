-- The living file of least full name with a serial is found by one look at each sector, in any order.
use Rattle.std.proofs.Common.{◌≡◌, ℕ, ◌+◌, ◌<◌, ◌≤◌, Bool, true, false, cond, List, [], ◌∷◌, length, take, Option, Some, None, refl, sym, ap, subst, ◌∙◌}
use Rattle.std.specs.Prelude.{T, ◌==◌, find, fold}
use Rattle.std.specs.declared.cmp.Ordering.TheVariants.{Less, Equal, Greater}
use Rattle.std.specs.Ordering.{is_lt}
use Rattle.std.specs.Option.{option_map}
use Rattle.std.specs.FinMap.{entries, entries_sorted, entries-insert, from_entries, empty, len-empty, len-entries, is_sorted, put}
use Rattle.std.specs.FinMap.Entries.{below_all, by_order}
use Rattle.std.proofs.lemmas.List.{nil_from_length, take_all}
use Rattle.std.proofs.lemmas.List.Sums.{fold_more}
use Rattle.pack_model.specs.alto_words.specs.declared.fid.Fid.{Fid}
use Rattle.pack_model.specs.alto_words.specs.Fid.{fid_cmp, serial_of}
use Rattle.pack_model.specs.disk_records.specs.Packs.{Pack, sector_at}
use Rattle.pack_model.specs.reading.Sights.{Sight, sight, sights}
use Rattle.pack_model.specs.reading.Sights.Sight.{hidden, free, stray, leads, holds}
use Rattle.pack_model.specs.sessions.Maps.{map_entries}
use Rattle.pack_model.specs.reading.Stored.{files_shown, stored_files, stored_file, leader_entries, file_of_serial}
use Rattle.pack_laws.specs.Least.{least, least_shown}
use Rattle.pack_laws.proofs.Keys.{fid_total, fid_same}
use Rattle.pack_laws.proofs.Mapping.{entries-map_values}
use Rattle.pack_laws.proofs.Sighted.{sights-get, length-sights}
use Rattle.pack_laws.proofs.inside.LesserNames.{beyond, both, least-turns, left, less, right, tied}

-- ---- the first full name with a serial, of entries
module _ {X : Type 0} (serial : ℕ) where
  -- the name of the first entry with this serial
  abbrev name_with : List (Fid × X) → Option Fid
  name_with [] = None
  name_with (e ∷ es) = cond (serial_of e.0 == serial) (Some e.0) (name_with es)

  -- the least one, where they stand in any order
  abbrev least_with : List (Fid × X) → Option Fid
  least_with [] = None
  least_with (e ∷ es) = cond (serial_of e.0 == serial) (least (least_with es) e.0) (least_with es)

  -- it is what a search finds
  name-find : (es : List (Fid × X)) → option_map (λ e. e.0) (find (λ e. serial_of e.0 == serial) es) ≡ name_with es
  name-find [] = refl
  name-find (e ∷ es) = elim (serial_of e.0 == serial) as (λ b. option_map (λ e. e.0) (cond b (Some e) (find (λ e. serial_of e.0 == serial) es)) ≡ cond b (Some e.0) (name_with es)) [ true ↦ refl | false ↦ name-find es ]

  -- a name below all names of a list in order is its least
  least_below : (k : Fid) (es : List (Fid × X)) → T (below_all fid_cmp k es) → least (name_with es) k ≡ Some k
  least_below k [] h = refl
  least_below k (e ∷ es) h =
      let r = least_below k es (right (is_lt (fid_cmp k e.0)) _ h) in
      elim (serial_of e.0 == serial) as (λ b. least (cond b (Some e.0) (name_with es)) k ≡ Some k) [
        | true ↦ ap (λ b. Some (cond b k e.0)) (left (is_lt (fid_cmp k e.0)) _ h)
        | false ↦ r
      ]

  -- a name below the first of a list in order is below all
  below_all_of : (k l : Fid) (es : List (Fid × X)) → fid_cmp k l ≡ Less → T (below_all fid_cmp l es) → T (below_all fid_cmp k es)
  below_all_of k l [] e h = tt
  below_all_of k l (x ∷ es) e h =
      both (is_lt (fid_cmp k x.0)) _ (ap is_lt (fid_total.trans k l x.0 e (less (fid_cmp l x.0) (left (is_lt (fid_cmp l x.0)) _ h)))) (below_all_of k l es e (right (is_lt (fid_cmp l x.0)) _ h))

  -- one more name in its place
  name-put : (k : Fid) (v : X) (es : List (Fid × X)) → T (is_sorted fid_cmp es) → name_with (put fid_cmp k v es) ≡ cond (serial_of k == serial) (least (name_with es) k) (name_with es)
  name-put k v [] h = elim (serial_of k == serial) as (λ b. cond b (Some k) None ≡ cond b (Some k) None) [ true ↦ refl | false ↦ refl ]
  name-put k v (e ∷ es) h =
      let again = name-put k v es (right (below_all fid_cmp e.0 es) (is_sorted fid_cmp es) h) in
      let below : T (below_all fid_cmp e.0 es) = subst T (sym (left (below_all fid_cmp e.0 es) (is_sorted fid_cmp es) h)) tt in
      elim (fid_cmp k e.0) as (λ r. fid_cmp k e.0 ≡ r → name_with (by_order r ((k, v) ∷ e ∷ es) ((e.0, v) ∷ es) (e ∷ put fid_cmp k v es)) ≡ cond (serial_of k == serial) (least (name_with (e ∷ es)) k) (name_with (e ∷ es))) [
        | Less ↦ λ is. ap (λ r. cond (serial_of k == serial) r (name_with (e ∷ es))) (sym (least_below k (e ∷ es) (both (is_lt (fid_cmp k e.0)) _ (ap is_lt is) (below_all_of k e.0 es is below))))
        | Equal ↦ λ is. tied (serial_of e.0 == serial) (serial_of k == serial) e.0 k (name_with es) (ap (λ f. serial_of f == serial) (sym (fid_same k e.0 is))) (ap is_lt is)
        | Greater ↦ λ is. beyond (serial_of e.0 == serial) (serial_of k == serial) e.0 k (name_with es) _ again (ap is_lt is)
      ] refl

  -- the map of entries has the least name of all
  name-from_entries : (es : List (Fid × X)) → name_with (entries (from_entries {R = fid_cmp} es)) ≡ least_with es
  name-from_entries [] =
      ap name_with (nil_from_length (entries (empty {X = X} {R = fid_cmp})) (sym (len-entries (empty {X = X} {R = fid_cmp})) ∙ len-empty fid_cmp X))
  name-from_entries (e ∷ es) =
      ap name_with (entries-insert fid_total (from_entries es) e.0 e.1)
      ∙ name-put e.0 e.1 (entries (from_entries es)) (entries_sorted (from_entries es))
      ∙ ap (λ r. cond (serial_of e.0 == serial) (least r e.0) r) (name-from_entries es)

-- ---- sector by sector
module _ (serial : ℕ) where
  -- other values leave the names
  name-map_entries : {X Y : Type 0} (g : Fid → X → Y) (es : List (Fid × X)) → name_with serial (map_entries g es) ≡ name_with serial es
  name-map_entries g [] = refl
  name-map_entries g (e ∷ es) = ap (cond (serial_of e.0 == serial) (Some e.0)) (name-map_entries g es)

  -- two sectors in either order
  step_turns : (r : Option Fid) (s t : Sight) → least_shown serial (least_shown serial r s) t ≡ least_shown serial (least_shown serial r t) s
  step_turns r hidden t = refl
  step_turns r free t = refl
  step_turns r stray t = refl
  step_turns r (holds f n b) t = refl
  step_turns r (leads f q l) hidden = refl
  step_turns r (leads f q l) free = refl
  step_turns r (leads f q l) stray = refl
  step_turns r (leads f q l) (holds g n b) = refl
  step_turns r (leads f q l) (leads g p k) = by (serial_of f == serial) (serial_of g == serial)
    where
      by : (a b : Bool) → cond b (least (cond a (least r f) r) g) (cond a (least r f) r) ≡ cond a (least (cond b (least r g) r) f) (cond b (least r g) r)
      by true true = least-turns r f g
      by true false = refl
      by false true = refl
      by false false = refl

  -- a sector first or last
  fold-later : (ss : List Sight) (r : Option Fid) (s : Sight) → fold (least_shown serial) (least_shown serial r s) ss ≡ least_shown serial (fold (least_shown serial) r ss) s
  fold-later [] r s = refl
  fold-later (x ∷ ss) r s = ap (λ a. fold (least_shown serial) a ss) (step_turns r s x) ∙ fold-later ss (least_shown serial r x) s

  -- the least of all leaders shown
  least-leaders : (ss : List Sight) → least_with serial (leader_entries ss) ≡ fold (least_shown serial) None ss
  least-leaders [] = refl
  least-leaders (hidden ∷ ss) = least-leaders ss
  least-leaders (free ∷ ss) = least-leaders ss
  least-leaders (stray ∷ ss) = least-leaders ss
  least-leaders (holds f n b ∷ ss) = least-leaders ss
  least-leaders (leads f q l ∷ ss) = ap (λ r. least_shown serial r (leads f q l)) (least-leaders ss) ∙ sym (fold-later ss None (leads f q l))

  -- The living file of least full name with this serial has the least of the names that leaders show.
  pub file_of_serial-fold : (ss : List Sight) → option_map (λ e. e.0) (file_of_serial (files_shown ss) serial) ≡ fold (least_shown serial) None ss
  unfolding files_shown
  file_of_serial-fold ss =
      name-find serial (entries (files_shown ss))
      ∙ ap (name_with serial) (entries-map_values fid_total fid_same (stored_file ss) (from_entries (leader_entries ss)))
      ∙ name-map_entries (stored_file ss) (entries (from_entries (leader_entries ss)))
      ∙ name-from_entries serial (leader_entries ss)
      ∙ least-leaders ss

  -- ---- a loop over the sectors of a pack
  -- one sector more
  pub least_more : (p : Pack) (i : ℕ) → i < length p.sectors → fold (least_shown serial) None (take (i + 1) (sights p)) ≡ least_shown serial (fold (least_shown serial) None (take i (sights p))) (sight p.shape i (sector_at p i))
  least_more p i l =
      fold_more (least_shown serial) None (sights p) i hidden (subst (λ n. i < n) (sym (length-sights p)) l)
      ∙ ap (least_shown serial (fold (least_shown serial) None (take i (sights p)))) (sights-get p i hidden l)

  -- all sectors
  pub least_all : (p : Pack) (i : ℕ) → length p.sectors ≤ i → fold (least_shown serial) None (take i (sights p)) ≡ option_map (λ e. e.0) (file_of_serial (stored_files p) serial)
  least_all p i l = ap (fold (least_shown serial) None) (take_all i (sights p) (subst (λ n. n ≤ i) (sym (length-sights p)) l)) ∙ sym (file_of_serial-fold (sights p))
