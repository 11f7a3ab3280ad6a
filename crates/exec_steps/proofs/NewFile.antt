-- A new file with its entry: three steps as one.
use Rattle.std.proofs.Common.{Bool, Contains, Err, List, Ok, Result, Some, [], ap, append-nil, append_assoc, arith, drop, false, inl, inr, length, length-drop, refl, subst, sym, take, take-add, take_all, true, ℕ, ◌++◌, ◌+◌, ◌-◌, ◌<◌, ◌^◌, ◌∙◌, ◌∷◌, ◌≡◌, ◌≤◌}
use Rattle.std.proofs.lemmas.List.Elements.{Contains-append_cases, Contains-append_right}
use Rattle.std.specs.Option.{is_some}
use Rattle.alto_words.specs.Fid.{is_fid, is_full_name, sys_dir}
use Rattle.alto_words.specs.declared.fid.Fid.{Fid}
use Rattle.disk_records.specs.Packs.{Pack, carried}
use Rattle.disk_records.specs.Tapes.{Taped, pack}
use Rattle.disk_records.specs.declared.records.Place.{Place}
use Rattle.disk_records.specs.declared.records.Place.TheVariants.{Held}
use Rattle.exec_session.specs.laws_line.specs.Ready.{steps_of}
use Rattle.exec_session.specs.laws_operation.proofs.make.Laws.{make_leaves_no_name}
use Rattle.exec_session.specs.laws_operation.proofs.places.Laws.{file_lives_in_a_place}
use Rattle.exec_session.specs.laws_steps.specs.LineKeepingLaws.{StaysFoundOver}
use Rattle.page_seeking.specs.Refs.{FileIsFrom}
use Rattle.exec_session.specs.pack_laws.proofs.Keys.{same_fid}
use Rattle.exec_session.specs.pack_laws.proofs.files.Laws.{places_are_lowest}
use Rattle.pack_model.specs.hints.Misled.{leader_page}
use Rattle.pack_model.specs.operations.Rooms.{largest_run}
use Rattle.pack_model.specs.operations.Step.Operation.{enter, make}
use Rattle.pack_model.specs.operations.Step.{Operation}
use Rattle.pack_model.specs.reading.Files.{lives, place}
use Rattle.pack_model.specs.reading.Model.{Model, dir_items, is_named, read_as}
use Rattle.pack_model.specs.reading.Sights.{sights}
use Rattle.pack_model.specs.reading.Slots.{entry_length}
use Rattle.pack_model.specs.reading.Versions.{exact}
use Rattle.session_model.specs.Keeping.{Kept}
use Rattle.session_model.specs.Refusals.{most_serials}
use Rattle.exec_steps.specs.Rooms.{pages_planned, widens_if}
use Rattle.exec_steps.specs.declared.rooms.NewEntry.{NewEntry}
use Rattle.exec_session.specs.declared.stop.Stop.{Stop}
use Rattle.exec_steps.specs.Asked.{MayEnterFile, MayMakeEntered, MayMakeNext, first_widenings, made_entered, made_fid, new_ref}
use Rattle.exec_steps.specs.Midway.{AreFree, Arrived, Midway, StepsOn}
use Rattle.exec_steps.proofs.Calling.{dir_stands_still, widens_stay}
use Rattle.exec_steps.proofs.Entries.{exact_after, items_after_make}
use Rattle.exec_steps.proofs.Joining.{arrived_then, step_for, step_stops, steps_join}
use Rattle.exec_steps.proofs.Premises.{few_serials, made_serial}
use Rattle.exec_steps.proofs.Stepping.{free_left}

-- ---- what is asked of each step, once the ones before it are done
both_stay : (m : Model) (e : NewEntry) (g : Fid) (from : Place) → StaysFoundOver m (first_widenings e) g from
both_stay m e g from = over e.widens_root
  where
    over : (b : Bool) → StaysFoundOver m (widens_if b sys_dir ++ widens_if e.widens_dir e.dir.fid) g from
    over true = (tt, widens_stay e.widens_dir e.dir.fid _ g from)
    over false = widens_stay e.widens_dir e.dir.fid m g from

-- no file with the next serial lives
pub next_is_new : {p q : Pack} {k : Kept} {ops : List Operation} {reserved : List ℕ} (is_dir : Bool) → Arrived p q k ops reserved → k.last + 1 < 2 ^ 31 → lives (sights q) (made_fid is_dir (k.last + 1)) ≡ false
next_is_new {p} {q} {k} is_dir arrived low = by (lives (sights q) (made_fid is_dir (k.last + 1))) refl
  where
    by : (b : Bool) → lives (sights q) (made_fid is_dir (k.last + 1)) ≡ b → b ≡ false
    by false e = refl
    by true e =
        let most = arrived.whole.last (made_fid is_dir (k.last + 1)) e in
        let serial = made_serial is_dir (k.last + 1) low in
        let last = arrived.fits.last_is in
        absurd (omega (arith, most, serial, last))

module _ (a b : Taped) (k0 k1 : Kept) (e : NewEntry) (is_dir : Bool) (fresh later left : List ℕ) (may : MayMakeEntered (pack a) k0 e is_dir fresh) (same : k1.last ≡ k0.last) (ab : Arrived (pack a) (pack b) k1 (first_widenings e) ((take 2 later ++ []) ++ left)) where
  low : k1.last < most_serials
  low = subst (λ n. n < most_serials) (sym same) may.left

  pub may_next : MayMakeNext (pack b) k1 is_dir e.name later
  may_next = record {
    whole = ab.whole;
    tidy = ab.tidy;
    fits = ab.fits;
    left = low;
    full_name = subst (λ n. is_full_name (made_fid is_dir (n + 1)) ≡ true) (sym same) may.full_name;
    fresh_file = next_is_new is_dir ab (few_serials k1.last low);
    stored = may.stored;
    free = subst (AreFree (pack b)) (append-nil (take 2 later)) (free_left (pack b) (take 2 later ++ []) left ab.free);
  }

  abbrev f : Fid
  f = made_fid is_dir (k0.last + 1)

  module _ (c : Taped) (k2 : Kept) (reserved : List ℕ) (moment leader_at : ℕ) (placed : place (sights (pack c)) f 0 ≡ Some leader_at) (bc : Arrived (pack b) (pack c) k2 (make f e.name moment ∷ []) reserved) where
    -- the directory lives, the file didn't
    apart : is_fid e.dir.fid f ≡ false
    apart = by (is_fid e.dir.fid f) refl
      where
        by : (t : Bool) → is_fid e.dir.fid f ≡ t → t ≡ false
        by false x = refl
        by true x = absurd (let both : true ≡ false = sym may.widens.dir.living ∙ ap (λ g. lives (sights (pack a)) g) (same_fid e.dir.fid f x) ∙ may.fresh_file in cc)

    items : dir_items (read_as (pack c)) e.dir.fid ≡ dir_items (steps_of (read_as (pack a)) (first_widenings e)) e.dir.fid
    items = ap (λ m. dir_items m e.dir.fid) bc.reads ∙ items_after_make (read_as (pack b)) e.dir.fid f e.name moment apart ∙ ap (λ m. dir_items m e.dir.fid) ab.reads

    pub may_enter : MayEnterFile (pack c) e f leader_at
    may_enter = record {
      dir = dir_stands_still e.dir bc (λ m. (tt, tt)) (dir_stands_still e.dir ab (λ m. both_stay m e e.dir.fid e.dir.from) may.widens.dir);
      stored = may.stored;
      absent = ap (exact e.name) items ∙ exact_after (read_as (pack a)) e may.absent;
      room = subst (λ is. entry_length (length e.name) ≤ largest_run is) (sym items) may.room;
      living = file_lives_in_a_place (pack c) f ∙ ap is_some placed;
      nameless = ap (λ m. is_named m f) bc.reads ∙ make_leaves_no_name (pack b) f e.name moment (subst (λ n. lives (sights (pack b)) (made_fid is_dir (n + 1)) ≡ false) same (next_is_new is_dir ab (few_serials k1.last low)));
      enterable = may.enterable;
      leader = placed;
    }

-- ---- the three as one
sectors_are : (n : ℕ) (fresh later : List ℕ) → later ≡ drop n fresh → take n fresh ++ (take 2 later ++ []) ≡ take (n + 2) fresh
sectors_are n fresh later is = ap (λ l. take n fresh ++ l) (append-nil (take 2 later) ∙ ap (take 2) is) ∙ sym (take-add n 2 fresh)

-- a slice from a place to the end
pub from_there : (n : ℕ) (fresh : List ℕ) → take (length fresh - n) (drop n fresh) ≡ drop n fresh
from_there n fresh = take_all (length fresh - n) (drop n fresh) (let e : length (drop n fresh) ≡ length fresh - n = length-drop n fresh in omega (arith, e))

-- the entry's directory twice is none more
twice_one : (d e f : Fid) → Contains ((d ∷ e ∷ []) ++ ([] ++ (e ∷ []))) f → Contains (d ∷ e ∷ []) f
twice_one d e f h = elim (Contains-append_cases (d ∷ e ∷ []) (e ∷ []) f h) [
  | inl x ↦ x
  | inr x ↦ Contains-append_right (d ∷ []) (e ∷ []) f x
]

module _ (a b : Taped) (k0 k1 : Kept) (e : NewEntry) (is_dir : Bool) (fresh later : List ℕ) (moment : ℕ) (is_later : later ≡ drop (pages_planned e) fresh) where
  abbrev own : Fid
  own = made_fid is_dir (k0.last + 1)

  as_made : (T : Type 0) (now new : Taped) (two three : Kept) (result : Result T Stop) → StepsOn now new two three (first_widenings e ++ (make own e.name moment ∷ enter e.dir.fid e.name own ∷ [])) (take (pages_planned e) fresh ++ (take 2 later ++ [])) ((sys_dir ∷ e.dir.fid ∷ []) ++ ([] ++ (e.dir.fid ∷ []))) result
      → StepsOn now new two three (made_entered e own moment) (take (pages_planned e + 2) fresh) (sys_dir ∷ e.dir.fid ∷ []) result
  as_made T now new two three result steps =
      step_for now new two three (made_entered e own moment) (take (pages_planned e + 2) fresh) ((sys_dir ∷ e.dir.fid ∷ []) ++ ([] ++ (e.dir.fid ∷ []))) (sys_dir ∷ e.dir.fid ∷ []) result (twice_one sys_dir e.dir.fid) (subst (λ l. StepsOn now new two three (made_entered e own moment) l ((sys_dir ∷ e.dir.fid ∷ []) ++ ([] ++ (e.dir.fid ∷ []))) result) (sectors_are (pages_planned e) fresh later is_later) steps)

  -- the widenings break off
  pub widenings_stop : (T U : Type 0) (stop : Stop) → StepsOn {T = U} a b k0 k1 (first_widenings e) (take (pages_planned e) fresh) (sys_dir ∷ e.dir.fid ∷ []) (Err stop)
      → StepsOn {T = T} a b k0 k1 (made_entered e own moment) (take (pages_planned e + 2) fresh) (sys_dir ∷ e.dir.fid ∷ []) (Err stop)
  widenings_stop T U stop steps =
      as_made T a b k0 k1 (Err stop) (step_stops T U a b k0 k1 (first_widenings e) (make own e.name moment ∷ enter e.dir.fid e.name own ∷ []) (take (pages_planned e) fresh) (take 2 later ++ []) (sys_dir ∷ e.dir.fid ∷ []) ([] ++ (e.dir.fid ∷ [])) stop steps)

  module _ (U : Type 0) (x : U) (may : MayMakeEntered (pack a) k0 e is_dir fresh) (same : k1.last ≡ k0.last) (widened : StepsOn a b k0 k1 (first_widenings e) (take (pages_planned e) fresh) (sys_dir ∷ e.dir.fid ∷ []) (Ok x)) where
    module _ (c : Taped) (k2 : Kept) where
      -- the make does
      pub make_stops : (T V : Type 0) (stop : Stop) → (MayMakeNext (pack b) k1 is_dir e.name later → StepsOn {T = V} b c k1 k2 (make own e.name moment ∷ []) (take 2 later) [] (Err stop))
          → StepsOn {T = T} a c k0 k2 (made_entered e own moment) (take (pages_planned e + 2) fresh) (sys_dir ∷ e.dir.fid ∷ []) (Err stop)
      make_stops T V stop made =
          as_made T a c k0 k2 (Err stop) (steps_join T U a b c k0 k1 k2 (first_widenings e) (make own e.name moment ∷ enter e.dir.fid e.name own ∷ []) (take (pages_planned e) fresh) (take 2 later ++ []) (sys_dir ∷ e.dir.fid ∷ []) ([] ++ (e.dir.fid ∷ [])) x (Err stop) widened
          (λ left ab. step_stops T V b c k1 k2 (make own e.name moment ∷ []) (enter e.dir.fid e.name own ∷ []) (take 2 later) [] [] (e.dir.fid ∷ []) stop (made (may_next a b k0 k1 e is_dir fresh later left may same ab))))

      module _ (V : Type 0) (y : V) (leader_at : ℕ) (made : MayMakeNext (pack b) k1 is_dir e.name later → StepsOn b c k1 k2 (make own e.name moment ∷ []) (take 2 later) [] (Ok y)) (placed : MayMakeNext (pack b) k1 is_dir e.name later → place (sights (pack c)) own 0 ≡ Some leader_at) where
        -- the entry comes, or breaks off
        pub enter_ends : (T : Type 0) (d : Taped) (k3 : Kept) (result : Result T Stop) → (MayEnterFile (pack c) e own leader_at → StepsOn c d k2 k3 (enter e.dir.fid e.name own ∷ []) [] (e.dir.fid ∷ []) result)
            → StepsOn a d k0 k3 (made_entered e own moment) (take (pages_planned e + 2) fresh) (sys_dir ∷ e.dir.fid ∷ []) result
        enter_ends T d k3 result entered =
            as_made T a d k0 k3 result (steps_join T U a b d k0 k1 k3 (first_widenings e) (make own e.name moment ∷ enter e.dir.fid e.name own ∷ []) (take (pages_planned e) fresh) (take 2 later ++ []) (sys_dir ∷ e.dir.fid ∷ []) ([] ++ (e.dir.fid ∷ [])) x result widened
            (λ left ab. let next = may_next a b k0 k1 e is_dir fresh later left may same ab in
            steps_join T V b c d k1 k2 k3 (make own e.name moment ∷ []) (enter e.dir.fid e.name own ∷ []) (take 2 later) [] [] (e.dir.fid ∷ []) y result (made next)
            (λ rest bc. entered (may_enter a b k0 k1 e is_dir fresh later left may same ab c k2 ([] ++ rest) moment leader_at (placed next) bc))))

        -- the new leader stands where it was put
        pub leader_stands : (d : Taped) (k3 : Kept) (W : Type 0) (w : W) (old : Taped) (one : Kept) (at : ℕ) (done all : List Operation) (rest : List ℕ) → (MayEnterFile (pack c) e own leader_at → StepsOn c d k2 k3 (enter e.dir.fid e.name own ∷ []) [] (e.dir.fid ∷ []) (Ok w))
            → Midway old a one k0 at done all (take (pages_planned e + 2) fresh ++ rest) → FileIsFrom (pack d) (new_ref own leader_at)
        leader_stands d k3 W w old one at done all rest entered m =
            let m1 : Midway old a one k0 at done all (take (pages_planned e) fresh ++ ((take 2 later ++ []) ++ rest)) =
            subst (Midway old a one k0 at done all) (ap (λ l. l ++ rest) (sym (sectors_are (pages_planned e) fresh later is_later)) ∙ append_assoc (take (pages_planned e) fresh) (take 2 later ++ []) rest) m in
            let s1 = widened old one at done all ((take 2 later ++ []) ++ rest) m1 in
            let ab = arrived_then m1 s1.midway s1.found in
            let next = may_next a b k0 k1 e is_dir fresh later rest may same ab in
            let m2 : Midway old b one k1 at (done ++ first_widenings e) all (take 2 later ++ rest) = subst (λ l. Midway old b one k1 at (done ++ first_widenings e) all (l ++ rest)) (append-nil (take 2 later)) s1.midway in
            let s2 = made next old one at (done ++ first_widenings e) all rest m2 in
            let bc = arrived_then m2 s2.midway s2.found in
            let s3 = entered (may_enter a b k0 k1 e is_dir fresh later rest may same ab c k2 rest moment leader_at (placed next) bc) old one at ((done ++ first_widenings e) ++ make own e.name moment ∷ []) all rest s2.midway in
            let carries : carried (pack c) leader_at ≡ Some (leader_page own) = ((places_are_lowest (pack c) (leader_page own)).lowest leader_at (placed next)).here in
            s3.found own leader_at (Held leader_at) (tt, tt) (refl, carries)

-- ---- as the make says it
-- by what is kept and the moment once the widenings are done
pub as_asked : {T : Type 0} (b c : Taped) (k1 k2 : Kept) (is_dir : Bool) (name later : List ℕ) (n m last moment : ℕ) (result : Result T Stop) → n ≡ last → m ≡ moment → StepsOn b c k1 k2 (make (made_fid is_dir (n + 1)) name m ∷ []) (take 2 later) [] result
    → StepsOn b c k1 k2 (make (made_fid is_dir (last + 1)) name moment ∷ []) (take 2 later) [] result
as_asked b c k1 k2 is_dir name later n m last moment result same_last same_moment steps =
    subst (λ x. StepsOn b c k1 k2 (make (made_fid is_dir (last + 1)) name x ∷ []) (take 2 later) [] result) same_moment
    (subst (λ x. StepsOn b c k1 k2 (make (made_fid is_dir (x + 1)) name m ∷ []) (take 2 later) [] result) same_last steps)
