-- The steps of a copy: what is asked of the bytes once the file is made, and how they join.
use Rattle.std.proofs.Common.{◌≡◌, ◌<◌, ◌+◌, ◌-◌, ◌/◌, ◌^◌, ◌++◌, ℕ, Bool, true, false, List, [], ◌∷◌, Result, Ok, Err, Contains, inl, inr, append-nil, append_assoc, drop, length, length-drop, take, take_all, take-append-drop, refl, sym, ap, subst, ◌∙◌, arith}
use Rattle.std.proofs.lemmas.Bool.Decides.{nat_tests}
use Rattle.std.proofs.lemmas.List.Elements.{Contains-append_cases}
use Rattle.alto_words.specs.declared.fid.Fid.{Fid}
use Rattle.alto_words.specs.Fid.{disk_descriptor, is_directory, is_fid, ordinary_fid, sys_dir}
use Rattle.disk_records.specs.Packs.{Pack}
use Rattle.disk_records.specs.Tapes.{Taped, pack}
use Rattle.disk_records.specs.declared.records.Place.{Place}
use Rattle.disk_records.specs.declared.records.Place.TheVariants.{Held}
use Rattle.exec_session.specs.laws_contents.proofs.model.Laws.{model_lengths_are_of_bytes}
use Rattle.exec_session.specs.laws_line.specs.Ready.{steps_of}
use Rattle.exec_session.specs.laws_midway.proofs.found.Laws.{found_file_lives}
use Rattle.exec_session.specs.laws_steps.proofs.lengths.Laws.{new_file_is_empty}
use Rattle.exec_session.specs.laws_steps.specs.LineKeepingLaws.{StaysFoundOver}
use Rattle.exec_session.specs.pack_laws.proofs.Keys.{same_fid}
use Rattle.page_seeking.specs.Refs.{FileIsFrom}
use Rattle.page_seeking.specs.Seeking.{file_length}
use Rattle.page_seeking.specs.declared.refs.FileRef.{FileRef}
use Rattle.pack_model.specs.operations.Committing.{length_of, pages_added}
use Rattle.pack_model.specs.operations.Step.Operation.{enter, make, stamp}
use Rattle.pack_model.specs.operations.Step.{Operation}
use Rattle.pack_model.specs.reading.Files.{lives}
use Rattle.pack_model.specs.reading.Model.{Model, read_as}
use Rattle.pack_model.specs.reading.Sights.{sights}
use Rattle.session_model.specs.Effects.{copied_ops}
use Rattle.session_model.specs.Keeping.{Kept}
use Rattle.session_model.specs.Refusals.{most_serials}
use Rattle.session_model.specs.Streams.{grows}
use Rattle.exec_steps.specs.Rooms.{pages_planned}
use Rattle.exec_steps.specs.declared.rooms.NewEntry.{NewEntry}
use Rattle.exec_session.specs.declared.stop.Stop.{Stop}
use Rattle.exec_steps.proofs.Joining.{step_for, step_of_nothing, step_stops, steps_join}
use Rattle.exec_steps.proofs.Stepping.{free_left, steps_append}
use Rattle.exec_steps.specs.Asked.{IsFile, MayGrowFile, first_widenings, made_entered, made_fid, new_ref}
use Rattle.exec_steps.specs.Midway.{Arrived, Midway, StepsOn}
use Rattle.exec_writing.specs.Plans.{MayCopy, copied}

-- ---- bytes and a date
none_of : (l : List ℕ) → length l ≡ 0 → l ≡ []
none_of [] e = refl
none_of (x ∷ l) e = cc

-- no bytes
pub nothing_fills : (a : Taped) (k : Kept) (file : FileRef) (bytes fresh : List ℕ) (moment : ℕ) (x : Unit {0}) → length bytes ≡ 0 → MayGrowFile (pack a) file bytes fresh → StepsOn a a k k (copied_ops file.fid bytes moment) fresh (file.fid ∷ []) (Ok x)
nothing_fills a k file bytes fresh moment x none may =
    let number = may.number in
    subst (λ l. StepsOn a a k k (copied_ops file.fid bytes moment) l (file.fid ∷ []) (Ok x)) (sym (none_of fresh (omega (arith, none, number))))
    (subst (λ l. StepsOn a a k k (copied_ops file.fid l moment) [] (file.fid ∷ []) (Ok x)) (sym (none_of bytes none)) (step_of_nothing a k (file.fid ∷ []) x))

-- some
fills_with : (f : Fid) (bytes : List ℕ) (moment : ℕ) → 0 < length bytes → copied_ops f bytes moment ≡ grows f bytes ++ stamp f moment ∷ []
fills_with f [] moment some = absurd (omega (arith, some))
fills_with f (b ∷ bytes) moment some = refl

grows_stay : (m : Model) (f g : Fid) (bytes : List ℕ) (from : Place) → StaysFoundOver m (grows f bytes) g from
grows_stay m f g [] from = tt
grows_stay m f g (b ∷ bytes) from = (tt, tt)

module _ (a b : Taped) (k0 k1 : Kept) (file : FileRef) (bytes fresh : List ℕ) (moment : ℕ) (some : 0 < length bytes) (may : MayGrowFile (pack a) file bytes fresh) where
  as_filled : (T : Type 0) (new : Taped) (k : Kept) (result : Result T Stop) → StepsOn a new k0 k (grows file.fid bytes ++ stamp file.fid moment ∷ []) (fresh ++ []) ((file.fid ∷ []) ++ (file.fid ∷ [])) result
      → StepsOn a new k0 k (copied_ops file.fid bytes moment) fresh (file.fid ∷ []) result
  as_filled T new k result steps =
      step_for a new k0 k (copied_ops file.fid bytes moment) fresh (file.fid ∷ file.fid ∷ []) (file.fid ∷ []) result (once file.fid)
      (subst (λ o. StepsOn a new k0 k o fresh (file.fid ∷ file.fid ∷ []) result) (sym (fills_with file.fid bytes moment some))
      (subst (λ l. StepsOn a new k0 k (grows file.fid bytes ++ stamp file.fid moment ∷ []) l (file.fid ∷ file.fid ∷ []) result) (append-nil fresh) steps))
    where
      once : (f g : Fid) → Contains (f ∷ f ∷ []) g → Contains (f ∷ []) g
      once f g h = elim (Contains-append_cases (f ∷ []) (f ∷ []) g h) [ inl x ↦ x | inr x ↦ x ]

  pub growing_stops : (T U : Type 0) (stop : Stop) → StepsOn {T = U} a b k0 k1 (grows file.fid bytes) fresh (file.fid ∷ []) (Err stop) → StepsOn {T = T} a b k0 k1 (copied_ops file.fid bytes moment) fresh (file.fid ∷ []) (Err stop)
  growing_stops T U stop steps = as_filled T b k1 (Err stop) (step_stops T U a b k0 k1 (grows file.fid bytes) (stamp file.fid moment ∷ []) fresh [] (file.fid ∷ []) (file.fid ∷ []) stop steps)

  is_file : {left : List ℕ} → Arrived (pack a) (pack b) k1 (grows file.fid bytes) left → IsFile (pack b) file
  is_file ab =
      let from : FileIsFrom (pack b) file = ab.found file.fid file.leader_at file.from (grows_stay (read_as (pack a)) file.fid file.fid bytes file.from) may.found.stands.from in
      record {
        stands = record { whole = ab.whole; tidy = ab.tidy; from = from };
        ordinary = may.found.ordinary;
        living = found_file_lives (pack b) file.fid file.leader_at file.from ab.whole ab.tidy from;
      }

  pub filling_ends : {T : Type 0} (c : Taped) (k2 : Kept) (x : Unit {0}) (result : Result T Stop) → StepsOn a b k0 k1 (grows file.fid bytes) fresh (file.fid ∷ []) (Ok x)
      → (IsFile (pack b) file → StepsOn b c k1 k2 (stamp file.fid moment ∷ []) [] (file.fid ∷ []) result) → StepsOn a c k0 k2 (copied_ops file.fid bytes moment) fresh (file.fid ∷ []) result
  filling_ends {T} c k2 x result grown stamped =
      as_filled T c k2 result (steps_join T (Unit {0}) a b c k0 k1 k2 (grows file.fid bytes) (stamp file.fid moment ∷ []) fresh [] (file.fid ∷ []) (file.fid ∷ []) x result grown (λ left ab. stamped (is_file ab)))

-- ---- the new file, once it is made
as_added : (n : ℕ) → n / 512 ≡ pages_added 0 n
as_added n = omega arith

pub unmarked : (n : ℕ) → n < 2 ^ 31 → is_directory (ordinary_fid n) ≡ false
unmarked n low = let most : n / 65536 < 32768 = omega (arith, low) in grind (arith, nat_tests)

pub few_serials : (n : ℕ) → n < most_serials → n + 1 < 2 ^ 31
unfolding most_serials
few_serials n h = omega (arith, h)

module _ (p q : Pack) (k0 k1 : Kept) (e : NewEntry) (bytes fresh later left : List ℕ) (moment : ℕ) (may : MayCopy p k0 e bytes fresh) (is_later : later ≡ drop (pages_planned e + 2) fresh) (pq : Arrived p q k1 (made_entered e (made_fid false (k0.last + 1)) moment) (later ++ left)) where
  abbrev f : Fid
  f = made_fid false (k0.last + 1)

  no_directory : is_directory f ≡ false
  no_directory = unmarked (k0.last + 1) (few_serials k0.last may.makes.left)

  no_descriptor : is_fid f disk_descriptor ≡ false
  no_descriptor = by (is_fid f disk_descriptor) refl
    where
      by : (b : Bool) → is_fid f disk_descriptor ≡ b → b ≡ false
      by false x = refl
      by true x = absurd (let n : false ≡ true = sym may.makes.fresh_file ∙ ap (λ g. lives (sights p) g) (same_fid f disk_descriptor x) ∙ may.makes.widens.root.stands.whole.descriptor_lives in cc)

  empty : length_of (read_as q) f ≡ 0
  empty =
      ap (λ m. length_of m f) (pq.reads ∙ steps_append (read_as p) (first_widenings e) (make f e.name moment ∷ enter e.dir.fid e.name f ∷ []))
      ∙ new_file_is_empty (steps_of (read_as p) (first_widenings e)) e.dir.fid f e.name e.name moment no_directory

  many : length later ≡ length bytes / 512
  many = let all = may.number in ap length is_later ∙ length-drop (pages_planned e + 2) fresh ∙ omega (arith, all)

  pub may_fill : (at : ℕ) (from : Place) → FileIsFrom q (record { fid = f; leader_at = at; from = from }) → MayGrowFile q (record { fid = f; leader_at = at; from = from }) bytes later
  may_fill at from stands =
      let living : lives (sights q) f ≡ true = found_file_lives q f at from pq.whole pq.tidy stands in
      let long : file_length q f ≡ 0 = sym (model_lengths_are_of_bytes q f pq.whole pq.tidy no_descriptor living) ∙ empty in
      record {
        found = record { stands = record { whole = pq.whole; tidy = pq.tidy; from = stands }; ordinary = record { no_directory = no_directory; no_descriptor = no_descriptor }; living = living };
        number = many ∙ as_added (length bytes) ∙ ap (λ n. pages_added n (length bytes)) (sym long);
        free = free_left q later left pq.free;
      }

-- its bytes come, by what the call says of the file that was answered
pub fills_made : {T : Type 0} (b c : Taped) (k0 k1 k2 : Kept) (e : NewEntry) (bytes fresh later : List ℕ) (moment now : ℕ) (file : FileRef) (at : ℕ) (p : Pack) → MayCopy p k0 e bytes fresh → later ≡ drop (pages_planned e + 2) fresh → file ≡ new_ref (made_fid false (k0.last + 1)) at → now ≡ moment → (result : Result T Stop)
    → (MayGrowFile (pack b) file bytes later → StepsOn b c k1 k2 (copied_ops file.fid bytes now) later (file.fid ∷ []) result) → FileIsFrom (pack b) file → (left : List ℕ)
    → Arrived p (pack b) k1 (made_entered e (made_fid false (k0.last + 1)) moment) (later ++ left) → StepsOn b c k1 k2 (copied_ops (made_fid false (k0.last + 1)) bytes moment) later (made_fid false (k0.last + 1) ∷ []) result
fills_made b c k0 k1 k2 e bytes fresh later moment now file at p may is_later is same result steps stands left pb =
    let f : Fid = made_fid false (k0.last + 1) in
    let filled = subst (λ (x : FileRef). MayGrowFile (pack b) x bytes later → StepsOn b c k1 k2 (copied_ops x.fid bytes now) later (x.fid ∷ []) result) is steps in
    subst (λ n. StepsOn b c k1 k2 (copied_ops f bytes n) later (f ∷ []) result) same
    (filled (may_fill p (pack b) k0 k1 e bytes fresh later left moment may is_later pb at (Held at) (subst (FileIsFrom (pack b)) is stands)))

-- a slice from a place to the end
pub from_there : (n : ℕ) (fresh : List ℕ) → take (length fresh - n) (drop n fresh) ≡ drop n fresh
from_there n fresh = take_all (length fresh - n) (drop n fresh) (let e : length (drop n fresh) ≡ length fresh - n = length-drop n fresh in omega (arith, e))

-- ---- both as one
module _ (a b : Taped) (k0 k1 : Kept) (e : NewEntry) (f : Fid) (moment : ℕ) (bytes fresh later : List ℕ) (is_later : later ≡ drop (pages_planned e + 2) fresh) where
  abbrev makes : List Operation
  makes = made_entered e f moment

  abbrev first_files : List Fid
  first_files = sys_dir ∷ e.dir.fid ∷ []

  abbrev taken : List ℕ
  taken = take (pages_planned e + 2) fresh

  all_taken : taken ++ later ≡ fresh
  all_taken = ap (λ l. taken ++ l) is_later ∙ take-append-drop (pages_planned e + 2) fresh

  pub making_stops : (T U : Type 0) (stop : Stop) → StepsOn {T = U} a b k0 k1 makes taken first_files (Err stop) → StepsOn {T = T} a b k0 k1 (copied e f bytes moment) fresh (first_files ++ (f ∷ [])) (Err stop)
  making_stops T U stop steps =
      subst (λ l. StepsOn {T = T} a b k0 k1 (copied e f bytes moment) l (first_files ++ (f ∷ [])) (Err stop)) all_taken
      (step_stops T U a b k0 k1 makes (copied_ops f bytes moment) taken later first_files (f ∷ []) stop steps)

  pub copy_ends : (T U : Type 0) (file : FileRef) (c : Taped) (k2 : Kept) (x : U) (result : Result T Stop) → StepsOn a b k0 k1 makes taken first_files (Ok x)
      → ((old : Taped) (one : Kept) (at : ℕ) (done all : List Operation) (rest : List ℕ) → Midway old a one k0 at done all (taken ++ rest) → FileIsFrom (pack b) file)
      → (FileIsFrom (pack b) file → (left : List ℕ) → Arrived (pack a) (pack b) k1 makes (later ++ left) → StepsOn b c k1 k2 (copied_ops f bytes moment) later (f ∷ []) result)
      → StepsOn a c k0 k2 (copied e f bytes moment) fresh (first_files ++ (f ∷ [])) result
  copy_ends T U file c k2 x result made stands filled =
      subst (λ l. StepsOn a c k0 k2 (copied e f bytes moment) l (first_files ++ (f ∷ [])) result) all_taken
      (λ old one at done all rest m.
      let there = stands old one at done all (later ++ rest) (subst (Midway old a one k0 at done all) (append_assoc taken later rest) m) in
      steps_join T U a b c k0 k1 k2 makes (copied_ops f bytes moment) taken later first_files (f ∷ []) x result made (filled there) old one at done all rest m)
