-- The entries of a tidy pack, each where it stands, in the order of the scan, and what stays of them while names are entered.
use Rattle.std.proofs.Common.{◌≡◌, inl, inr, ℕ, zero, suc, ◌+◌, ◌<◌, Bool, true, false, cond, not, List, [], ◌∷◌, ◌++◌, length, get_or, map, Option, Some, None, refl, sym, ap, subst, ◌∙◌, append_assoc, arith}
use Rattle.std.specs.Prelude.{All, Contains, T, ◌&&◌}
use Rattle.std.specs.List.{list_any}
use Rattle.std.specs.Option.{is_some, option_map, option_map_or}
use Rattle.std.specs.Ordering.{is_lt}
use Rattle.std.specs.declared.cmp.Ordering.TheVariants.{Less}
use Rattle.std.specs.FinMap.{entries, entries_sorted, find, get-entries, is_sorted}
use Rattle.std.specs.FinMap.Entries.{below_all}
use Rattle.std.proofs.lemmas.List.Elements.{All-append, All-cons, All-head, All-nil, All-tail, Contains-append_left, Contains-append_right, Contains-get_or}
use Rattle.alto_words.specs.declared.fid.Fid.{Fid}
use Rattle.alto_words.specs.Fid.{fid_cmp, is_directory, is_fid}
use Rattle.disk_records.specs.Packs.{Pack}
use Rattle.scav_pages.specs.laws_lookup.proofs.Replacing.{range}
use Rattle.laws_names.proofs.models.Laws.{mended_lives}
use Rattle.scav_pages.specs.laws_operation.proofs.places.Laws.{file_lives_in_a_place}
use Rattle.scav_pages.specs.laws_record.proofs.Addressing.{entry_words_many}
use Rattle.scav_pages.specs.laws_record.proofs.Around.{around, first_part, is_less, second_part}
use Rattle.scav_pages.specs.laws_record.proofs.DirReads.{has_leader}
use Rattle.scav_pages.specs.laws_record.proofs.Reading.{get-found, read_file}
use Rattle.scav_pages.specs.pack_laws.proofs.Keys.{fid_same, fid_total, same_fid}
use Rattle.pack_model.specs.hints.Links.{IsTrueAddress, dir_slots, dir_words}
use Rattle.pack_model.specs.reading.Bodies.{File, found}
use Rattle.pack_model.specs.reading.Files.{file_bytes, leader, lives, place}
use Rattle.pack_model.specs.reading.Leaders.{Leader}
use Rattle.pack_model.specs.reading.Namings.{AllKept, Naming, clashes, fits, is_kept}
use Rattle.pack_model.specs.reading.Sights.{Sight, sights}
use Rattle.pack_model.specs.reading.SlotWords.{SlotAt, address_at, slots_at}
use Rattle.pack_model.specs.reading.Slots.{Item, item_words, slots}
use Rattle.pack_model.specs.reading.Slots.Item.{space, entry}
use Rattle.pack_model.specs.scavenger.Reports.{PagesMended}
use Rattle.pack_model.specs.states.Whole.{Tidy}
use Rattle.scav_names.specs.declared.living.Living.{Living}
use Rattle.scav_names.specs.declared.placed.PlacedEntry.{PlacedEntry}
use Rattle.scav_names.specs.Catalogues.{entries_among, entries_of, file_entries, naming_of, pack_entries, with_entry}
use Rattle.scav_names.specs.Living.{leader_sector, living_files, living_in, living_of}
use Rattle.scav_names.specs.Parting.{kept_among, kept_entries}
use Rattle.scav_names.specs.Parts.{AreInOrder, IsAlive, MayBeAddressed, StandsBefore, StandsThere, slot_of}
use Rattle.scav_names.specs.Roots.{AllEntered}
use Rattle.scav_names.proofs.EnteringFirst.{found_live}
use Rattle.scav_names.proofs.LivingFiles.{living_found, living_rise}
use Rattle.scav_names.proofs.MendedEntries.{described_named}

-- ---- all of them are kept
kept_all : (alive : Fid → Bool) (before : List Naming) (es : List PlacedEntry) → AllKept (is_kept alive) before (map naming_of es) → kept_among alive before es ≡ es
kept_all alive before [] h = refl
kept_all alive before (e ∷ es) h =
    ap (λ b. cond b (e ∷ kept_among alive (naming_of e ∷ before) es) (kept_among alive before es)) h.0
    ∙ ap (λ l. e ∷ l) (kept_all alive (naming_of e ∷ before) es h.1)

-- and their files live
all_alive : (alive : Fid → Bool) (before : List Naming) (es : List PlacedEntry) → AllKept (is_kept alive) before (map naming_of es) → All (λ e. alive e.fid ≡ true) es
all_alive alive before [] h = All-nil (λ (e : PlacedEntry). alive e.fid ≡ true)
all_alive alive before (e ∷ es) h = All-cons (λ (f : PlacedEntry). alive f.fid ≡ true) e es (one (alive e.fid) h.0) (all_alive alive (naming_of e ∷ before) es h.1)
  where
    one : (b : Bool) → ((b && fits (naming_of e)) && not (list_any (clashes (naming_of e)) before)) ≡ true → b ≡ true
    one true k = refl
    one false k = absurd cc

tidy_kept : (p : Pack) → Tidy p → AllKept (is_kept (lives (sights p))) [] (map naming_of (pack_entries p))
tidy_kept p tidy = subst (AllKept (is_kept (lives (sights p))) []) (described_named p) tidy

pub tidy_entries : (p : Pack) → PagesMended p → Tidy p → kept_entries p ≡ pack_entries p
tidy_entries p m tidy = ap (λ v. kept_among v [] (pack_entries p)) (mended_lives p m) ∙ kept_all (lives (sights p)) [] (pack_entries p) (tidy_kept p tidy)

-- ---- in memory
-- the sectors of leader pages
leaders_in : (ss : List Sight) (es : List (Fid × File)) (f : Fid) → option_map (λ x. x.leader_at) (living_in (map (living_of ss) es) f) ≡ option_map (λ (x : File). leader_sector ss f) (find fid_cmp f es)
leaders_in ss [] f = refl
leaders_in ss (e ∷ es) f = by (is_fid f e.0) refl (leaders_in ss es f)
  where
    by : (b : Bool) → is_fid f e.0 ≡ b → option_map (λ x. x.leader_at) (living_in (map (living_of ss) es) f) ≡ option_map (λ (x : File). leader_sector ss f) (find fid_cmp f es)
        → option_map (λ x. x.leader_at) (cond b (Some (living_of ss e)) (living_in (map (living_of ss) es) f)) ≡ option_map (λ (x : File). leader_sector ss f) (cond b (Some e.1) (find fid_cmp f es))
    by true is rest = ap (λ g. Some (leader_sector ss g)) (sym (same_fid f e.0 is))
    by false is rest = rest

leaders_are : (p : Pack) (f : Fid) → option_map (λ x. x.leader_at) (living_in (living_files p) f) ≡ place (sights p) f 0
leaders_are p f =
    leaders_in (sights p) (entries (found (sights p))) f
    ∙ ap (option_map (λ (x : File). leader_sector (sights p) f)) (sym (get-entries (found (sights p)) f) ∙ get-found (sights p) f)
    ∙ by (leader (sights p) f) (place (sights p) f 0) (file_lives_in_a_place p f)
  where
    by : (o : Option Leader) (r : Option ℕ) → is_some o ≡ is_some r → option_map (λ (x : File). option_map_or (λ at. at) r 0) (option_map (read_file f (file_bytes (sights p) f)) o) ≡ r
    by None None e = refl
    by None (Some at) e = absurd cc
    by (Some l) None e = absurd cc
    by (Some l) (Some at) e = refl

-- a living file is there
is_there : (p : Pack) (f : Fid) → lives (sights p) f ≡ true → (x : Living) × (living_in (living_files p) f ≡ Some x)
is_there p f living = by (living_in (living_files p) f) refl (living_found p f ∙ living)
  where
    by : (o : Option Living) → living_in (living_files p) f ≡ o → is_some o ≡ true → (x : Living) × (living_in (living_files p) f ≡ Some x)
    by None e some = absurd cc
    by (Some x) e some = (x, e)

alive_there : (p : Pack) (es : List PlacedEntry) → All (λ e. lives (sights p) e.fid ≡ true) es → All (IsAlive (living_files p)) es
alive_there p es h k z within = is_there p (get_or es k z).fid (h k z within)

-- ---- entries of one directory
record IsAmong (d : Fid) (ss : List SlotAt) (e : PlacedEntry) : Type 0 where
  dir : e.dir ≡ d
  slot : Contains ss (slot_of e)

later_slot : (s t : SlotAt) (ss : List SlotAt) → Contains ss t → Contains (s ∷ ss) t
later_slot s t ss (k, l, e) = (suc k, omega (arith, l), e)

among_later : (d : Fid) (s : SlotAt) (ss : List SlotAt) (es : List PlacedEntry) → All (IsAmong d ss) es → All (IsAmong d (s ∷ ss)) es
among_later d s ss es h k z within = let a = h k z within in record { dir = a.dir; slot = later_slot s (slot_of (get_or es k z)) ss a.slot }

among : (d : Fid) (ss : List SlotAt) → All (IsAmong d ss) (entries_among d ss)
among d [] = All-nil (IsAmong d [])
among d (s ∷ ss) = by s.item refl (among_later d s ss (entries_among d ss) (among d ss))
  where
    by : (i : Item) → s.item ≡ i → All (IsAmong d (s ∷ ss)) (entries_among d ss) → All (IsAmong d (s ∷ ss)) (with_entry d s.place s.address i (entries_among d ss))
    by (space n) is rest = rest
    by (entry f name) is rest =
        let e : PlacedEntry = record { dir = d; place = s.place; fid = f; leader_at = s.address; name = name } in
        let same : s ≡ slot_of e = ap (λ i. record { place = s.place; item = i; address = s.address }) is in
        All-cons (IsAmong d (s ∷ ss)) e (entries_among d ss) (record { dir = refl; slot = (zero, omega arith, same) }) rest

-- a slot with an entry is one of them
abbrev pub entry_at : Fid → SlotAt → Fid → List ℕ → PlacedEntry
entry_at d s f name = record { dir = d; place = s.place; fid = f; leader_at = s.address; name = name }

is_among : (d : Fid) (ss : List SlotAt) (s : SlotAt) (f : Fid) (name : List ℕ) → Contains ss s → s.item ≡ entry f name → Contains (entries_among d ss) (entry_at d s f name)
is_among d [] s f name (k, l, e) is = absurd (omega (arith, l))
is_among d (t ∷ ss) s f name (zero, l, e) is = subst (λ (i : Item). Contains (with_entry d t.place t.address i (entries_among d ss)) (entry_at d s f name)) (sym (ap (λ x. x.item) e ∙ is)) (zero, omega arith, ap (λ x. entry_at d x f name) e)
is_among d (t ∷ ss) s f name (suc k, l, e) is = by t.item (is_among d ss s f name (k, omega (arith, l), e) is)
  where
    by : (i : Item) → Contains (entries_among d ss) (entry_at d s f name) → Contains (with_entry d t.place t.address i (entries_among d ss)) (entry_at d s f name)
    by (space n) c = c
    by (entry g own) c = (suc c.0, (let m = c.1 in omega (arith, m)), c.2)

-- they are in order
later_places : (d : Fid) (words : List ℕ) (begin : ℕ) (is : List Item) (low : ℕ) → low < begin → (e : PlacedEntry) → e.dir ≡ d → e.place ≡ low → All (StandsBefore e) (entries_among d (slots_at words begin is))
later_places d words begin is low less e dir at k z within =
    let a = among d (slots_at words begin is) k z within in
    let r = (range words begin is (slot_of (get_or (entries_among d (slots_at words begin is)) k z)) a.slot).low in
    inr (dir ∙ sym a.dir, omega (arith, less, at, r))

among_order : (d : Fid) (words : List ℕ) (begin : ℕ) (is : List Item) → AreInOrder (entries_among d (slots_at words begin is))
unfolding slots_at
among_order d words begin [] = tt
among_order d words begin (space n ∷ is) = among_order d words (begin + n) is
among_order d words begin (entry f name ∷ is) =
    let many = entry_words_many (length name) in
    let less : begin < begin + item_words (entry f name) = omega (arith, many) in
    (later_places d words (begin + item_words (entry f name)) is begin less (record { dir = d; place = begin; fid = f; leader_at = address_at words begin (entry f name); name = name }) refl refl, among_order d words (begin + item_words (entry f name)) is)

-- ---- entries of all living files
record StandsOf (p : Pack) (e : PlacedEntry) : Type 0 where
  directory : is_directory e.dir ≡ true
  slot : Contains (dir_slots p e.dir) (slot_of e)

file_stand : (p : Pack) (d : Fid) → All (λ e. (e.dir ≡ d) × StandsOf p e) (file_entries p d)
file_stand p d = by (is_directory d) refl
  where
    P : PlacedEntry → Type 0
    P e = (e.dir ≡ d) × StandsOf p e

    by : (b : Bool) → is_directory d ≡ b → All P (cond b (entries_among d (dir_slots p d)) [])
    by true is = λ k z within.
        let e = get_or (entries_among d (dir_slots p d)) k z in
        let a = among d (dir_slots p d) k z within in
        (a.dir, record { directory = ap is_directory a.dir ∙ is; slot = subst (λ g. Contains (dir_slots p g) (slot_of e)) (sym a.dir) a.slot })
    by false is = All-nil P

-- of files that live
all_stand : (p : Pack) (es : List (Fid × File)) → All (λ x. lives (sights p) x.0 ≡ true) es → All (StandsThere p) (entries_of p es)
all_stand p [] h = All-nil (StandsThere p)
all_stand p (x ∷ es) h =
    All-append (StandsThere p) (file_entries p x.0) (entries_of p es)
    (λ k z within. let s = file_stand p x.0 k z within in record { living = ap (lives (sights p)) s.0 ∙ All-head (λ (y : Fid × File). lives (sights p) y.0 ≡ true) x es h; directory = s.1.directory; stands = s.1.slot })
    (all_stand p es (All-tail (λ (y : Fid × File). lives (sights p) y.0 ≡ true) x es h))

pub entries_stand : (p : Pack) → All (StandsThere p) (pack_entries p)
entries_stand p = all_stand p (entries (found (sights p))) (found_live p)

-- ---- in order
order_append : (xs ys : List PlacedEntry) → AreInOrder xs → AreInOrder ys → All (λ e. All (StandsBefore e) ys) xs → AreInOrder (xs ++ ys)
order_append [] ys a b h = b
order_append (x ∷ xs) ys a b h =
    (All-append (StandsBefore x) xs ys a.0 (All-head (λ e. All (StandsBefore e) ys) x xs h), order_append xs ys a.1 b (All-tail (λ e. All (StandsBefore e) ys) x xs h))

-- those of files above one are in directories above it
above : (p : Pack) (f : Fid) (es : List (Fid × File)) → T (below_all fid_cmp f es) → All (λ e. fid_cmp f e.dir ≡ Less) (entries_of p es)
above p f [] h = All-nil (λ (e : PlacedEntry). fid_cmp f e.dir ≡ Less)
above p f (x ∷ es) h =
    All-append (λ (e : PlacedEntry). fid_cmp f e.dir ≡ Less) (file_entries p x.0) (entries_of p es)
    (λ k z within. ap (fid_cmp f) (file_stand p x.0 k z within).0 ∙ is_less (fid_cmp f x.0) (first_part (is_lt (fid_cmp f x.0)) (below_all fid_cmp f es) h))
    (above p f es (second_part (is_lt (fid_cmp f x.0)) (below_all fid_cmp f es) h))

pub files_order : (p : Pack) (es : List (Fid × File)) → T (is_sorted fid_cmp es) → AreInOrder (entries_of p es)
files_order p [] h = tt
files_order p (x ∷ es) h =
    order_append (file_entries p x.0) (entries_of p es) (one (is_directory x.0)) (files_order p es (second_part (below_all fid_cmp x.0 es) (is_sorted fid_cmp es) h))
    (λ k z within j y more.
    inl (ap (λ g. fid_cmp g (get_or (entries_of p es) j y).dir) (file_stand p x.0 k z within).0 ∙ above p x.0 es (first_part (below_all fid_cmp x.0 es) (is_sorted fid_cmp es) h) j y more))
  where
    one : (b : Bool) → AreInOrder (cond b (entries_among x.0 (dir_slots p x.0)) [])
    one true = among_order x.0 (dir_words p x.0) 0 (slots (dir_words p x.0))
    one false = tt

-- ---- each slot with an entry is one of them
pub entries_append : (p : Pack) (xs ys : List (Fid × File)) → entries_of p (xs ++ ys) ≡ entries_of p xs ++ entries_of p ys
entries_append p [] ys = refl
entries_append p (x ∷ xs) ys = ap (λ l. file_entries p x.0 ++ l) (entries_append p xs ys) ∙ sym (append_assoc (file_entries p x.0) (entries_of p xs) (entries_of p ys))

pub in_pack : (p : Pack) (d : Fid) (s : SlotAt) (f : Fid) (name : List ℕ) → lives (sights p) d ≡ true → is_directory d ≡ true → Contains (dir_slots p d) s → s.item ≡ entry f name → Contains (pack_entries p) (entry_at d s f name)
in_pack p d s f name living directory here is =
    let l = has_leader (sights p) d living in
    let x : File = read_file d (file_bytes (sights p) d) l.0 in
    let r = around fid_total fid_same (found (sights p)) d x (get-found (sights p) d ∙ ap (option_map (read_file d (file_bytes (sights p) d))) l.1) in
    let e = entry_at d s f name in
    let mine : Contains (file_entries p d) e = subst (λ b. Contains (cond b (entries_among d (dir_slots p d)) []) e) (sym directory) (is_among d (dir_slots p d) s f name here is) in
    subst (λ es. Contains es e) (sym (ap (entries_of p) r.was ∙ entries_append p r.front ((d, x) ∷ r.back)))
    (Contains-append_right (entries_of p r.front) (entries_of p ((d, x) ∷ r.back)) e (Contains-append_left (file_entries p d) (entries_of p r.back) e mine))

-- ---- once names are entered
pub left_to_address : {q r : Pack} → PagesMended q → Tidy q → AllEntered q r tt → MayBeAddressed r (living_files q) (pack_entries q)
left_to_address {q} {r} m tidy all = record {
  pages = all.pages;
  tidy = all.tidy;
  lacking_none = all.lacking_are;
  rises = living_rise q;
  leaders = λ f. leaders_are q f ∙ sym (all.stay.leaders_are f);
  alive = alive_there q (pack_entries q) (all_alive (lives (sights q)) [] (pack_entries q) (tidy_kept q tidy));
  stand = λ k z within.
      let s = entries_stand q k z within in
      let e = get_or (pack_entries q) k z in
      record {
        living = lived e.dir ∙ s.living;
        directory = s.directory;
        stands = all.stay.stay e.dir (slot_of e) e.fid e.name s.living s.directory s.stands refl;
      };
  order = files_order q (entries (found (sights q))) (entries_sorted (found (sights q)));
  others = λ d living directory k z within not_one.
      let t = get_or (dir_slots r d) k z in
      elim (all.stay.come d t living directory (Contains-get_or (dir_slots r d) k z within)) [
        | inl old ↦ was d t (sym (lived d) ∙ living) directory old t.item refl not_one
        | inr good ↦ good
      ];
}
  where
    lived : (f : Fid) → lives (sights r) f ≡ lives (sights q) f
    lived f = file_lives_in_a_place r f ∙ ap is_some (all.stay.leaders_are f) ∙ sym (file_lives_in_a_place q f)

    was : (d : Fid) (t : SlotAt) → lives (sights q) d ≡ true → is_directory d ≡ true → Contains (dir_slots q d) t → (i : Item) → t.item ≡ i
        → ((e : PlacedEntry) → Contains (pack_entries q) e → e.dir ≡ d → e.place ≡ t.place → ⊥) → IsTrueAddress (sights r) t.item t.address
    was d t living directory old (space n) is not_one = subst (λ i. IsTrueAddress (sights r) i t.address) (sym is) tt
    was d t living directory old (entry f name) is not_one = absurd (not_one (entry_at d t f name) (in_pack q d t f name living directory old is) refl refl)
