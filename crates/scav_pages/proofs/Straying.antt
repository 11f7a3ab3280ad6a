-- A sector whose label is neither free nor in range is released.
use Rattle.std.proofs.Common.{◌≡◌, inl, inr, ℕ, zero, suc, ◌+◌, ◌<◌, ◌≤◌, ◌&&◌, nat_lt, Bool, true, false, cond, IsTrue, Ok, Err, ◌++◌, length, get_or, Option, Some, None, refl, sym, ap, subst, ◌∙◌, arith}
use Rattle.std.specs.Option.{is_some}
use Rattle.std.proofs.lemmas.Bool.{cases_lt}
use Rattle.std.proofs.lemmas.Bool.Decides.{nat_tests}
use Rattle.std.proofs.lemmas.List.{get_or_past, get_or-set_other, get_or-set_same}
use Rattle.disk_records.specs.declared.records.Page.{Page}
use Rattle.disk_records.specs.declared.records.Sector.{Sector}
use Rattle.disk_records.specs.declared.records.Act.TheVariants.{Check, Write}
use Rattle.disk_records.specs.declared.shape.Shape.{Shape}
use Rattle.disk_records.specs.Addresses.{is_right_header}
use Rattle.disk_records.specs.Checks.{mismatch}
use Rattle.disk_records.specs.Commands.{release_writes}
use Rattle.disk_records.specs.Events.{IsFirstOf}
use Rattle.disk_records.specs.Frames.{IsUsableSector, WritesIn}
use Rattle.disk_records.specs.Labels.{in_range, is_free, page_of, tag}
use Rattle.disk_records.specs.Packs.{Pack, after, carried, is_free_at, is_usable, sector_at}
use Rattle.disk_records.specs.Tapes.{DiskAlone, Looks, Taped, added, pack}
use Rattle.disk_records.proofs.Checking.{no_mismatch}
use Rattle.disk_records.proofs.Framing.{writes_some}
use Rattle.disk_records.proofs.Growing.{added-twice, alone_twice, pack-after}
use Rattle.disk_records.proofs.Looking.{looks_pack}
use Rattle.label_check.proofs.Framing.{release_here}
use Rattle.pack_model.specs.reading.Sights.{page_sight, sight, sights}
use Rattle.pack_model.specs.reading.Sights.Sight.{free, hidden, stray}
use Rattle.pack_model.specs.states.InUse.{one_if}
use Rattle.pack_model.specs.states.Sentences.{EachOnce}
use Rattle.laws_mend.specs.pack_laws.proofs.Guarding.{usable_within}
use Rattle.laws_mend.specs.pack_laws.proofs.Sighted.{length-sights, sights-get}
use Rattle.laws_mend.specs.Parts.{FreesMore}
use Rattle.laws_mend.proofs.numbers.Laws.{frees_join, stray_release_frees}
use Rattle.laws_mend.proofs.parts.Laws.{stray_release_leaves}
use Rattle.laws_mend.proofs.runs.Laws.{stray_release_tends}
use Rattle.scav_pages.specs.Changes.{AllMend}
use Rattle.scav_pages.specs.Keeping.{KeepsFiles}
use Rattle.scav_pages.specs.declared.errors.Stop.TheVariants.{DiskFault, Memory}
use Rattle.scav_pages.specs.Does.{Does}
use Rattle.scav_pages.specs.Parts.{StrayReleased, StraysReleased}
use Rattle.scav_pages.proofs.Changing.{busy_release_changes, mend_breaks_off}
use Rattle.scav_pages.proofs.Doing.{Going, does_ok, going_does, going_here}
use Rattle.scav_pages.proofs.Keeping.{keeps_files, keeps_here}
use Rattle.scav_pages.proofs.Leading.{leaders_released}
use Rattle.scav_pages.proofs.Passing.{release_at, mends_looks, want_added, writes_here}

-- ---- what a sector shows
-- a good sector that is neither free nor carries a page
pub record IsStray (p : Pack) (at : ℕ) : Type 0 where
  pub usable : is_usable p.shape at (sector_at p at) ≡ true
  pub carries : carried p at ≡ None
  pub busy : is_free_at p at ≡ false

page_not_stray : (n : ℕ) (s : Sector) → page_sight (tag s.label).fid n (tag s.label).bytes s.value ≡ stray → ⊥
page_not_stray zero s e = cc
page_not_stray (suc n) s e = cc

stray_shown : (shape : Shape) (at : ℕ) (s : Sector) → sight shape at s ≡ stray → (is_usable shape at s ≡ true) × (in_range (tag s.label) ≡ false) × (is_free (tag s.label) ≡ false)
unfolding sight
stray_shown shape at s e = by (is_usable shape at s) (in_range (tag s.label)) (is_free (tag s.label)) refl refl refl e
  where
    by : (u r f : Bool) → is_usable shape at s ≡ u → in_range (tag s.label) ≡ r → is_free (tag s.label) ≡ f
        → cond u (cond r (page_sight (tag s.label).fid (tag s.label).page (tag s.label).bytes s.value) (cond f free stray)) hidden ≡ stray
        → (is_usable shape at s ≡ true) × (in_range (tag s.label) ≡ false) × (is_free (tag s.label) ≡ false)
    by false r f a b c h = cc
    by true true f a b c h = absurd (page_not_stray (tag s.label).page s h)
    by true false true a b c h = cc
    by true false false a b c h = (a, b, c)

-- none else shows a stray label
pub shows_stray : (p : Pack) (at : ℕ) → get_or (sights p) at hidden ≡ stray → IsStray p at
shows_stray p at e = by_test (nat_lt at (length p.sectors)) refl
  where
    s : Sector
    s = sector_at p at

    by_test : (t : Bool) → nat_lt at (length p.sectors) ≡ t → IsStray p at
    by_test true inside =
        let within : at < length p.sectors = grind (arith, nat_tests, inside) in
        let is = stray_shown p.shape at s (sym (sights-get p at hidden within) ∙ e) in
        record {
          usable = is.0;
          carries = (λ i. cond (is.0 i) (page_of s.label) None) ∙ ap (λ r. cond r (Some (record { fid = (tag s.label).fid; number = (tag s.label).page })) None) is.1;
          busy = (λ i. cond (is.0 i) (is.2 i) false);
        }
    by_test false outside =
        let past : length (sights p) ≤ at = let out : length p.sectors ≤ at = grind (arith, nat_tests, outside) in omega (arith, out, length-sights p) in
        let nothing : hidden ≡ stray = sym (get_or_past (sights p) at hidden past) ∙ e in
        cc

-- ---- what a look tells, which found this sector
module _ (p : Pack) (at : ℕ) (found : Sector) (holds : found ≡ sector_at p at) where
  -- after a wrong header it is none, after a label that names a page, and after a free one
  pub bad_no_stray : is_right_header p.shape at found.header ≡ false → IsStray p at → ⊥
  bad_no_stray wrong is =
      let bad : is_right_header p.shape at (sector_at p at).header ≡ false = ap (λ (s : Sector). is_right_header p.shape at s.header) (sym holds) ∙ wrong in
      by (nat_lt 0 at) (ap (λ b. nat_lt 0 at && b) (sym bad) ∙ is.usable)
    where
      by : (b : Bool) → (b && false) ≡ true → ⊥
      by true e = cc
      by false e = cc

  pub page_no_stray : is_some (page_of found.label) ≡ true → IsStray p at → ⊥
  page_no_stray named is =
      let none : page_of (sector_at p at).label ≡ None = sym (ap (λ b. cond b (page_of (sector_at p at).label) None) is.usable) ∙ is.carries in
      let wrong : true ≡ false = sym named ∙ ap (λ (s : Sector). is_some (page_of s.label)) holds ∙ ap is_some none in
      cc

  pub free_no_stray : is_free (tag found.label) ≡ true → IsStray p at → ⊥
  free_no_stray bare is =
      let none : is_free (tag (sector_at p at).label) ≡ true = ap (λ (s : Sector). is_free (tag s.label)) (sym holds) ∙ bare in
      let wrong : true ≡ false = sym (λ i. cond (is.usable i) (none i) false) ∙ is.busy in
      cc

  -- and after any other label it is one
  pub is_stray : 1 ≤ at → is_right_header p.shape at found.header ≡ true → is_some (page_of found.label) ≡ false → is_free (tag found.label) ≡ false → IsStray p at
  is_stray first right unnamed busy =
      let above : nat_lt 0 at ≡ true = grind (arith, nat_tests) in
      let usable : is_usable p.shape at (sector_at p at) ≡ true = (λ i. above i && (ap (λ (s : Sector). is_right_header p.shape at s.header) (sym holds) ∙ right) i) in
      record {
        usable = usable;
        carries = ap (λ b. cond b (page_of (sector_at p at).label) None) usable ∙ none (page_of (sector_at p at).label) (ap (λ (s : Sector). is_some (page_of s.label)) (sym holds) ∙ unnamed);
        busy = (λ i. cond (usable i) ((ap (λ (s : Sector). is_free (tag s.label)) (sym holds) ∙ busy) i) false);
      }
    where
      none : (o : Option Page) → is_some o ≡ false → o ≡ None
      none None e = refl
      none (Some page) e = cc

-- ---- what is left
-- a sector that isn't such a one
pub stays_unreleased : (p : Pack) (at : ℕ) → EachOnce (sights p) → (IsStray p at → ⊥) → StrayReleased at p p false
stays_unreleased p at once other = record {
  once = once;
  no_stray = λ e. other (shows_stray p at e);
  others = λ i away. refl;
  written = writes_here at p;
  frees = record { free = omega arith; available_is = refl };
}

-- and one that is
stays_released : (p : Pack) (at : ℕ) → EachOnce (sights p) → IsStray p at → StrayReleased at p (after p (release_writes at)) true
stays_released p at once is =
    let gone = stray_release_leaves p at is.usable is.carries in
    let within : at < length (sights p) = let l = usable_within p at is.usable in omega (arith, l, length-sights p) in
    record {
      once = gone.once once;
      no_stray = λ e. (let shown : free ≡ stray = sym (ap (λ ss. get_or ss at hidden) gone.changed.shown ∙ get_or-set_same (sights p) at free hidden within) ∙ e in cc);
      others = λ i other. ap (λ ss. get_or ss i hidden) gone.changed.shown ∙ get_or-set_other (sights p) at i free hidden other;
      written = release_at p at;
      frees = stray_release_frees p at is.usable is.carries is.busy;
    }

-- ---- the call
pub nothing_released : {told : Bool} {a b : Taped} (at : ℕ) → Looks told 1 a b → IsTrue told → EachOnce (sights (pack a)) → (IsStray (pack a) at → ⊥) → Does {T = Bool} (StrayReleased at) a b (Ok false)
nothing_released {a = a} at looks h once other = record {
  leaves = subst (λ q. StrayReleased at (pack a) q false) (sym (looks_pack looks h)) (stays_unreleased (pack a) at once other);
  keeps = subst (KeepsFiles (pack a)) (sym (looks_pack looks h)) (keeps_here (pack a));
  found = λ e. cc;
  want = λ e. cc;
  mends = mends_looks looks h;
}

module _ {told : Bool} {a b c : Taped} (at : ℕ) (looks : Looks told 1 a b) (alone : DiskAlone b c) (h : IsTrue told) (is : IsStray (pack a) at) (some : IsFirstOf (release_writes at) (added b c)) where
  added_is : added a c ≡ added b c
  added_is = added-twice looks.alone.grown alone.grown ∙ ap (λ l. l ++ added b c) (looks.silent h)

  mends : AllMend (pack a) (added a c)
  mends = mend_breaks_off (pack a) (release_writes at) (added a c) (subst (IsFirstOf (release_writes at)) (sym added_is) some) (record { tends = stray_release_tends (pack a) at is.usable is.carries; changes = busy_release_changes (pack a) at is.usable is.busy })

  pub stray_usable : WritesIn (IsUsableSector (pack a)) (added a c)
  stray_usable = writes_some (IsUsableSector (pack a)) (release_writes at) (added a c) (subst (IsFirstOf (release_writes at)) (sym added_is) some) (release_here (IsUsableSector (pack a)) at is.usable)

  left : added b c ≡ release_writes at → pack c ≡ after (pack a) (release_writes at)
  left wrote = pack-after (alone_twice looks.alone alone).grown ∙ ap (after (pack a)) (added_is ∙ wrote)

  pub one_released : EachOnce (sights (pack a)) → added b c ≡ release_writes at → Does {T = Bool} (StrayReleased at) a c (Ok true)
  one_released once wrote = record {
    leaves = subst (λ q. StrayReleased at (pack a) q true) (sym (left wrote)) (stays_released (pack a) at once is);
    keeps = subst (KeepsFiles (pack a)) (sym (left wrote)) (let gone = stray_release_leaves (pack a) at is.usable is.carries in keeps_files gone.files (leaders_released gone.changed refl gone.files.lives_are (λ f k e. gone.files.places_are f 0 ∙ e)));
    found = λ e. cc;
    want = λ e. cc;
    mends = mends;
  }

  pub half_released : Does {T = Bool} (StrayReleased at) a c (Err DiskFault)
  half_released = record { leaves = tt; keeps = tt; found = λ e. cc; want = λ e. cc; mends = mends }

  pub none_released : b.spare < 2 → Does {T = Bool} (StrayReleased at) a c (Err Memory)
  none_released less = record { leaves = tt; keeps = tt; found = λ e. cc; want = λ e. want_added looks.alone.grown alone.grown (omega (arith, less)); mends = mends }

-- the header is the one that was read, so it matches
pub header_matches : {told : Bool} {a b : Taped} (at : ℕ) (memory found : Sector) → Looks told 1 a b → IsTrue told → found ≡ sector_at (pack a) at → memory.header ≡ found.header
    → mismatch (record { header = Check; label = Write; value = Write }) memory (sector_at (pack b) at) ≡ None
header_matches {a = a} {b = b} at memory found looks h is header =
    let same : memory.header ≡ (sector_at (pack b) at).header = header ∙ ap (λ (s : Sector). s.header) (is ∙ ap (λ (p : Pack). sector_at p at) (sym (looks_pack looks h))) in
    rw (same, no_mismatch 0 (sector_at (pack b) at).header) refl

-- ---- all sectors
-- No sector below `at` shows a stray label, and so many were released.
pub record StraysTo (a b : Taped) (at freed : ℕ) : Type 0 where
  pub once : EachOnce (sights (pack b))
  pub none_below : (i : ℕ) → i < at → get_or (sights (pack b)) i hidden ≡ stray → ⊥
  pub frees : FreesMore (pack a) (pack b) freed
  pub going : Going a b

first_no_stray : (p : Pack) (i : ℕ) → i < 1 → get_or (sights p) i hidden ≡ stray → ⊥
first_no_stray p i low e =
    let is = shows_stray p i e in
    let none : nat_lt 0 i ≡ false = grind (arith, nat_tests) in
    let wrong : false ≡ true = ap (λ b. b && is_right_header p.shape i (sector_at p i).header) (sym none) ∙ is.usable in
    cc

pub strays_none : (a : Taped) → EachOnce (sights (pack a)) → StraysTo a a 1 0
strays_none a once = record {
  once = once;
  none_below = first_no_stray (pack a);
  frees = record { free = omega arith; available_is = refl };
  going = going_here a;
}

module _ {a b c : Taped} (at freed : ℕ) (alone : DiskAlone b c) (so_far : StraysTo a b at freed) where
  -- one sector more
  pub strays_more : (done : Bool) → Does {T = Bool} (StrayReleased at) b c (Ok done) → StraysTo a c (at + 1) (freed + one_if done)
  strays_more done does = record {
    once = does.leaves.once;
    none_below = λ i low. elim (cases_lt i at) [
      | inl less ↦ (λ e. so_far.none_below i less (sym (does.leaves.others i (λ same. omega (arith, same, less))) ∙ e))
      | inr here ↦ (let same : i ≡ at = omega arith in λ e. does.leaves.no_stray (ap (λ k. get_or (sights (pack c)) k hidden) (sym same) ∙ e))
    ];
    frees = frees_join (pack a) (pack b) (pack c) freed (one_if done) so_far.frees does.leaves.frees;
    going = going_does so_far.going alone.grown does;
  }

pub strays_all : {a b : Taped} (at freed : ℕ) → StraysTo a b at freed → length (pack b).sectors ≤ at → Does {T = ℕ} StraysReleased a b (Ok freed)
strays_all {b = b} at freed so_far end = does_ok freed so_far.going (record {
  cleared = record { once = so_far.once; no_stray = λ i e. so_far.none_below i (let l = usable_within (pack b) i (shows_stray (pack b) i e).usable in omega (arith, l, end)) e };
  frees = so_far.frees;
})
