-- Why a pack isn't opened, by what keeps each step from being done.
use Rattle.std.proofs.Common.{◌≡◌, ℕ, zero, suc, ◌==◌, Bool, true, false, cond, List, [], ◌∷◌, Option, Some, None, Result, Ok, Err, IfOk, OnOk, refl, sym, subst, ◌∙◌, ap, arith, eq-eqb}
use Rattle.std.proofs.lemmas.Bool.Decides.{nat_tests}
use Rattle.std.specs.Option.{option_or}
use Rattle.std.specs.Prelude.{Contains, IfErr}
use Rattle.std.specs.Result.{IsErrAnd}
use Rattle.alto_words.specs.declared.fid.Fid.{Fid}
use Rattle.alto_words.specs.Fid.{disk_descriptor, sys_dir}
use Rattle.disk_records.specs.Addresses.{descriptor_length}
use Rattle.disk_records.specs.Causes.{HasCause, IsCause, Unfailed}
use Rattle.disk_records.specs.Packs.{Pack, carried, label_found}
use Rattle.disk_records.specs.Tapes.{Rose, Taped}
use Rattle.disk_records.specs.Words.{word}
use Rattle.disk_descriptor.specs.Opening.{HasBadWord, HasWrongLength, IfBadDescriptor, IfNotClean, IfOpenMisled, IfWrongLength, IsOpened, IsUnclean, bad_word, cause_of_opening, shape_words}
use Rattle.disk_descriptor.specs.Fields.{Fields}
use Rattle.disk_descriptor.specs.declared.errors.OpenError.{OpenError}
use Rattle.disk_descriptor.specs.declared.errors.OpenError.TheVariants as error
use Rattle.pack_model.specs.hints.Misled.{IsOnDisk}
use Rattle.pack_model.specs.reading.Files.{first}
use Rattle.pack_model.specs.reading.Model.{descriptor_words}
use Rattle.pack_model.specs.reading.Sights.{sights}
use Rattle.pack_model.specs.states.Sound.{mark_clean, mark_of}
use Rattle.page_seeking.specs.Refs.{MisledBy}
use Rattle.page_seeking.specs.Seeking.{file_length}
use Rattle.session_model.specs.Opening.{Unready, bad_descriptor, descriptor_entry, is_descriptor, is_root, no_descriptor, no_root, not_clean, system_files, unless_so, unready, wrong_length}
use Rattle.exec_session.specs.Opens.{DescriptorRefused, MayMislead, Refuses, RootRefused, cause_of_open}
use Rattle.exec_session.proofs.Finding.{contains_second, more_failing}

-- ---- the tests, as one of DiskDescriptor's words together
-- the first word that differs, or else the reason that comes after
abbrev bad_or : Option (ℕ × ℕ) → Option Unready → Option Unready
bad_or None r = r
bad_or (Some x) r = Some (bad_descriptor x.0 x.1)

word_tested : (b : Bool) (n w : ℕ) (bad : Option (ℕ × ℕ)) (r : Option Unready) → option_or (unless_so b (bad_descriptor n w)) (bad_or bad r) ≡ bad_or (cond b bad (Some (n, w))) r
word_tested true n w bad r = refl
word_tested false n w bad r = refl

-- the words that say another shape, one after another
abbrev bad_from : List ℕ → List (ℕ × ℕ) → Option Unready → Option Unready
bad_from words [] r = r
bad_from words (x ∷ xs) r = option_or (unless_so (word words x.0 == x.1) (bad_descriptor x.0 (word words x.0))) (bad_from words xs r)

words_tested : (words : List ℕ) (xs : List (ℕ × ℕ)) (r : Option Unready) → bad_from words xs r ≡ bad_or (bad_word xs words) r
words_tested words [] r = refl
words_tested words (x ∷ xs) r =
    ap (option_or (unless_so (word words x.0 == x.1) (bad_descriptor x.0 (word words x.0)))) (words_tested words xs r)
    ∙ word_tested (word words x.0 == x.1) x.0 (word words x.0) (bad_word xs words) r

-- all reasons by what each test says
abbrev by_tests : (root entered sized : Bool) → Option (List ℕ) → ℕ → Option (ℕ × ℕ) → Bool → ℕ → Option Unready
by_tests root entered sized found size bad clean mark =
    option_or (unless_so root (no_root found)) (option_or (unless_so entered no_descriptor) (option_or (unless_so sized (wrong_length size)) (bad_or bad (option_or (unless_so clean (not_clean mark)) None))))

module _ (p : Pack) where
  abbrev is_sized : Bool
  is_sized = file_length p disk_descriptor == descriptor_length p.shape

  abbrev bad : Option (ℕ × ℕ)
  bad = bad_word (shape_words p.shape) (descriptor_words (sights p))

  abbrev is_clean : Bool
  is_clean = mark_of (sights p) == mark_clean

  abbrev all_tests : Bool → Bool → Bool → Option (ℕ × ℕ) → Bool → Option Unready
  all_tests root entered sized b clean = by_tests root entered sized (label_found p 1) (file_length p disk_descriptor) b clean (mark_of (sights p))

  unready_is : unready p ≡ all_tests (is_root (carried p 1)) (is_descriptor (descriptor_entry p)) is_sized bad is_clean
  unfolding first
  unready_is =
      ap (λ r. option_or (unless_so (is_root (carried p 1)) (no_root (label_found p 1))) (option_or (unless_so (is_descriptor (descriptor_entry p)) no_descriptor) (option_or (unless_so is_sized (wrong_length (file_length p disk_descriptor))) r)))
      (words_tested (descriptor_words (sights p)) (shape_words p.shape) (option_or (unless_so is_clean (not_clean (mark_of (sights p)))) None))

  -- ---- sector 1
  pub unrooted : is_root (carried p 1) ≡ false → unready p ≡ Some (no_root (label_found p 1))
  unrooted none = unready_is ∙ ap (λ b. all_tests b (is_descriptor (descriptor_entry p)) is_sized bad is_clean) none

  pub refused_by_root : (e : OpenError) → RootRefused p e → Refuses p e
  refused_by_root (error.NoRoot found) h = unrooted h.0 ∙ ap (λ l. Some (no_root l)) (sym h.1)
  refused_by_root error.NoDescriptor h = absurd h
  refused_by_root (error.Misled place at wanted found) h = absurd h
  refused_by_root (error.WrongLength size) h = absurd h
  refused_by_root (error.BadDescriptor w found) h = absurd h
  refused_by_root (error.NotClean mark) h = absurd h
  refused_by_root error.DiskFault h = tt
  refused_by_root error.Memory h = tt

  -- ---- where SysDir's leader is there
  module _ (root : is_root (carried p 1) ≡ true) where
    rooted_is : unready p ≡ all_tests true (is_descriptor (descriptor_entry p)) is_sized bad is_clean
    rooted_is = unready_is ∙ ap (λ b. all_tests b (is_descriptor (descriptor_entry p)) is_sized bad is_clean) root

    -- SysDir's hints may mislead then, whatever the reason is
    root_misleads : (f : Fid) → f ≡ sys_dir → MayMislead f (unready p)
    root_misleads f is = subst (MayMislead f) (sym rooted_is) (by (is_descriptor (descriptor_entry p)) is_sized bad is_clean)
      where
        by : (entered sized : Bool) (b : Option (ℕ × ℕ)) (clean : Bool) → MayMislead f (all_tests true entered sized b clean)
        by false sized b clean = is
        by true false b clean = tt
        by true true (Some x) clean = tt
        by true true None true = tt
        by true true None false = tt

    pub refused_by_entry : (e : OpenError) → DescriptorRefused p e → Refuses p e
    refused_by_entry (error.NoRoot found) h = absurd h
    refused_by_entry error.NoDescriptor h = rooted_is ∙ ap (λ b. all_tests true b is_sized bad is_clean) h
    refused_by_entry (error.Misled place at wanted found) h = record { in_order = root_misleads wanted.fid (first_one wanted.fid h.file); failing = more_failing p sys_dir (disk_descriptor ∷ []) place at wanted found h }
      where
        first_one : (f : Fid) → Contains (sys_dir ∷ []) f → f ≡ sys_dir
        first_one f (zero, less, is) = sym is
        first_one f (suc k, less, is) = absurd (omega (arith, less))
    refused_by_entry (error.WrongLength size) h = absurd h
    refused_by_entry (error.BadDescriptor w found) h = absurd h
    refused_by_entry (error.NotClean mark) h = absurd h
    refused_by_entry error.DiskFault h = tt
    refused_by_entry error.Memory h = tt

    -- ---- where DiskDescriptor is entered besides
    module _ (entry : is_descriptor (descriptor_entry p) ≡ true) where
      entered_is : unready p ≡ all_tests true true is_sized bad is_clean
      entered_is = rooted_is ∙ ap (λ b. all_tests true b is_sized bad is_clean) entry

      entry_misleads : (f : Fid) → MayMislead f (unready p)
      entry_misleads f = subst (MayMislead f) (sym entered_is) (by is_sized bad is_clean)
        where
          by : (sized : Bool) (b : Option (ℕ × ℕ)) (clean : Bool) → MayMislead f (all_tests true true sized b clean)
          by false b clean = tt
          by true (Some x) clean = tt
          by true None true = tt
          by true None false = tt

      sized_is : file_length p disk_descriptor ≡ descriptor_length p.shape → unready p ≡ all_tests true true true bad is_clean
      sized_is size = let same : is_sized ≡ true = eq-eqb (file_length p disk_descriptor) (descriptor_length p.shape) size in entered_is ∙ ap (λ b. all_tests true true b bad is_clean) same

      right_is : file_length p disk_descriptor ≡ descriptor_length p.shape → bad ≡ None → unready p ≡ all_tests true true true None is_clean
      right_is size right = sized_is size ∙ ap (λ b. all_tests true true true b is_clean) right

      pub opened_ready : {kept : Fields} {busy : List Bool} → IsOpened p kept busy → unready p ≡ None
      opened_ready {kept} o =
          let mark : mark_of (sights p) ≡ mark_clean = o.fits.mark_is ∙ o.clean in
          let clean : is_clean ≡ true = eq-eqb (mark_of (sights p)) mark_clean mark in
          right_is o.size o.right ∙ ap (all_tests true true true None) clean

      refused_by_length : (size : ℕ) → HasWrongLength p size → unready p ≡ Some (wrong_length size)
      refused_by_length size h =
          let differs = h.differs in
          let is = h.is in
          let other : is_sized ≡ false = grind (arith, nat_tests, is, differs) in
          entered_is ∙ ap (λ b. all_tests true true b bad is_clean) other ∙ ap (λ n. Some (wrong_length n)) (sym is)

      refused_by_word : (w found : ℕ) → HasBadWord p w found → unready p ≡ Some (bad_descriptor w found)
      refused_by_word w found h = sized_is h.size ∙ ap (λ b. all_tests true true true b is_clean) h.first

      refused_by_mark : (mark : ℕ) → IsUnclean p mark → unready p ≡ Some (not_clean mark)
      refused_by_mark mark h =
          let differs = h.differs in
          let is = h.mark_is in
          let other : is_clean ≡ false = grind (arith, nat_tests, is, differs) in
          right_is h.size h.right ∙ ap (all_tests true true true None) other ∙ ap (λ n. Some (not_clean n)) (sym is)

      -- what entering answers
      pub refused_by_entering : (T : Type 0) (a b : Taped) (f : Fid) (e : OpenError) → f ≡ disk_descriptor → IsCause a b (cause_of_opening e)
          → IfWrongLength {T = T} (Err e) (HasWrongLength p) → IfBadDescriptor {T = T} (Err e) (HasBadWord p) → IfNotClean {T = T} (Err e) (IsUnclean p)
          → IfOpenMisled {T = T} (Err e) (MisledBy p [] f) → IfOpenMisled {T = T} (Err e) (λ place at wanted found. IsOnDisk place) → Refuses p e
      refused_by_entering T a b f (error.NoRoot found) is cause size right clean misled on_disk = absurd cause
      refused_by_entering T a b f error.NoDescriptor is cause size right clean misled on_disk = absurd cause
      refused_by_entering T a b f (error.Misled place at wanted found) is cause size right clean misled on_disk = record {
        in_order = entry_misleads wanted.fid;
        failing = record { misled = misled.answers; on_disk = on_disk; file = subst (Contains system_files) (sym (misled.own ∙ is)) (contains_second sys_dir disk_descriptor []) };
      }
      refused_by_entering T a b f (error.WrongLength n) is cause size right clean misled on_disk = refused_by_length n size
      refused_by_entering T a b f (error.BadDescriptor w found) is cause size right clean misled on_disk = refused_by_word w found right
      refused_by_entering T a b f (error.NotClean mark) is cause size right clean misled on_disk = refused_by_mark mark clean
      refused_by_entering T a b f error.DiskFault is cause size right clean misled on_disk = tt
      refused_by_entering T a b f error.Memory is cause size right clean misled on_disk = tt

      pub refused_in_entering : (T : Type 0) (a b : Taped) (f : Fid) (r : Result T OpenError) → f ≡ disk_descriptor → HasCause cause_of_opening a b r
          → IfWrongLength r (HasWrongLength p) → IfBadDescriptor r (HasBadWord p) → IfNotClean r (IsUnclean p)
          → IfOpenMisled r (MisledBy p [] f) → IfOpenMisled r (λ place at wanted found. IsOnDisk place) → IfErr r (Refuses p)
      refused_in_entering T a b f (Ok x) is cause size right clean misled on_disk = tt
      refused_in_entering T a b f (Err e) is cause size right clean misled on_disk = refused_by_entering T a b f e is cause size right clean misled on_disk

-- ---- the error that an answer passes on
pub answer_is : {U : Type 0} {e : OpenError} (r : Result U OpenError) → IsErrAnd r (λ x. x ≡ e) → r ≡ Err e
answer_is (Ok x) is = absurd is
answer_is (Err x) is = ap Err is

pub passed_on : {U : Type 0} {e : OpenError} (P : OpenError → Type 0) (r : Result U OpenError) → IsErrAnd r (λ x. x ≡ e) → P e → IfErr r P
passed_on P r is h = subst (λ x. IfErr x P) (sym (answer_is r is)) h

-- an error says nothing of what Ok gives
pub ok_of_open_error : {U : Type 0} (P : OpenError → Type 0) (Q : U → Type 0) (r : Result U OpenError) → IsErrAnd r P → IfOk r Q
ok_of_open_error P Q (Ok x) is = absurd is
ok_of_open_error P Q (Err x) is = tt

-- what holds at Ok holds of each answer
pub if_ok_of : {U P : Type 0} (Q : U → Type 0) (r : Result U OpenError) → OnOk r P → ((x : U) → P → Q x) → IfOk r Q
if_ok_of Q (Ok x) is more = more x is
if_ok_of Q (Err e) is more = tt

-- its cause, in the first call or after others
pub open_cause : {U : Type 0} (a b : Taped) (e : OpenError) (r : Result U OpenError) → IsErrAnd r (λ x. x ≡ e) → IsCause a b (cause_of_open e) → HasCause cause_of_open a b r
open_cause a b e r is h = subst (HasCause cause_of_open a b) (sym (answer_is r is)) h

open_cause_later : (e : OpenError) (a b c : Taped) → Unfailed a b → IsCause b c (cause_of_open e) → IsCause a c (cause_of_open e)
open_cause_later (error.NoRoot found) a b c none h = h ∙ none
open_cause_later error.NoDescriptor a b c none h = h ∙ none
open_cause_later (error.Misled place at wanted found) a b c none h = h ∙ none
open_cause_later (error.WrongLength size) a b c none h = h ∙ none
open_cause_later (error.BadDescriptor w found) a b c none h = h ∙ none
open_cause_later (error.NotClean mark) a b c none h = h ∙ none
open_cause_later error.DiskFault a b c none h = subst (λ n. Rose n c.disk_faults) none h
open_cause_later error.Memory a b c none h = h ∙ none

pub open_cause_after : {U : Type 0} (a b c : Taped) (e : OpenError) (r : Result U OpenError) → IsErrAnd r (λ x. x ≡ e) → Unfailed a b → IsCause b c (cause_of_open e) → HasCause cause_of_open a c r
open_cause_after a b c e r is none h = open_cause a c e r is (open_cause_later e a b c none h)

pub cause_of_entering : (a b : Taped) (e : OpenError) → IsCause a b (cause_of_opening e) → IsCause a b (cause_of_open e)
cause_of_entering a b (error.NoRoot found) h = absurd h
cause_of_entering a b error.NoDescriptor h = absurd h
cause_of_entering a b (error.Misled place at wanted found) h = h
cause_of_entering a b (error.WrongLength size) h = h
cause_of_entering a b (error.BadDescriptor w found) h = h
cause_of_entering a b (error.NotClean mark) h = h
cause_of_entering a b error.DiskFault h = h
cause_of_entering a b error.Memory h = h

-- of a call that ends with entering
pub cause_in_entering : {T : Type 0} (a b c : Taped) (r : Result T OpenError) → Unfailed a b → HasCause cause_of_opening b c r → HasCause cause_of_open a c r
cause_in_entering a b c (Ok x) none h = h ∙ none
cause_in_entering a b c (Err e) none h = open_cause_later e a b c none (cause_of_entering b c e h)

-- what Ok gives says more
pub if_ok_more : {T : Type 0} (P Q : T → Type 0) (r : Result T OpenError) → ((x : T) → P x → Q x) → IfOk r P → IfOk r Q
if_ok_more P Q (Ok x) f h = f x h
if_ok_more P Q (Err e) f h = tt
