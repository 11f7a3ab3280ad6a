-- Pages of directories that come first: two widenings as one step.
use Rattle.std.proofs.Common.{Bool, Err, List, Ok, Result, [], ap, arith, drop, false, length, refl, subst, sym, take, take-add, take-append-drop, true, ℕ, ◌++◌, ◌∙◌, ◌∷◌, ◌≡◌, ◌≤◌}
use mir.Val.{bool_byte}
use Rattle.alto_words.specs.Fid.{sys_dir}
use Rattle.alto_words.specs.declared.fid.Fid.{Fid}
use Rattle.directory.specs.Asked.{DirStands}
use Rattle.disk_records.specs.Packs.{Pack, is_free_at}
use Rattle.disk_records.specs.Tapes.{Taped, pack}
use Rattle.disk_records.specs.Words.{word}
use Rattle.pack_model.specs.operations.Step.Operation.{widen}
use Rattle.session_model.specs.Keeping.{Kept}
use Rattle.exec_steps.specs.Rooms.{one_if, pages_planned, widens_if}
use Rattle.exec_steps.specs.declared.rooms.NewEntry.{NewEntry}
use Rattle.exec_session.specs.declared.stop.Stop.{Stop}
use Rattle.exec_steps.specs.Asked.{MayWidenFirst, first_widenings}
use Rattle.exec_steps.specs.Midway.{AreFree, StepsOn}
use Rattle.exec_steps.proofs.Calling.{dir_stands_still, widens_stay}
use Rattle.exec_steps.proofs.Joining.{step_of_nothing, step_stops, steps_join}
use Rattle.exec_steps.proofs.Stepping.{free_left}

-- ---- one, where it is wanted
-- as a number of the machine
pub as_number : (b : Bool) → bool_byte b ≡ one_if b
as_number true = refl
as_number false = refl

take_one : (fresh : List ℕ) → 1 ≤ length fresh → take 1 fresh ≡ word fresh 0 ∷ []
take_one [] many = absurd (omega (arith, many))
take_one (x ∷ fresh) many = refl

pub first_is_free : (p : Pack) (wanted : Bool) (fresh : List ℕ) → wanted ≡ true → one_if wanted ≤ length fresh → AreFree p (take (one_if wanted) fresh) → is_free_at p (word fresh 0) ≡ true
first_is_free p wanted fresh is many free =
    let one : one_if wanted ≡ 1 = ap one_if is in
    (subst (AreFree p) (ap (λ n. take n fresh) one ∙ take_one fresh (omega (arith, one, many))) free).0 0 0 (omega arith)

pub widened : (a b : Taped) (k0 k1 : Kept) (d : Fid) (wanted : Bool) (fresh : List ℕ) (result : Result (Unit {0}) Stop) → wanted ≡ true → one_if wanted ≤ length fresh → StepsOn a b k0 k1 (widen d ∷ []) (word fresh 0 ∷ []) (d ∷ []) result
    → StepsOn a b k0 k1 (widens_if wanted d) (take (one_if wanted) fresh) (d ∷ []) result
widened a b k0 k1 d wanted fresh result is many steps =
    let one : one_if wanted ≡ 1 = ap one_if is in
    subst (λ l. StepsOn a b k0 k1 (widens_if wanted d) l (d ∷ []) result) (sym (ap (λ n. take n fresh) one ∙ take_one fresh (omega (arith, one, many))))
    (subst (λ ops. StepsOn a b k0 k1 ops (word fresh 0 ∷ []) (d ∷ []) result) (sym (ap (λ t. widens_if t d) is)) steps)

pub not_widened : (a : Taped) (k : Kept) (d : Fid) (wanted : Bool) (fresh : List ℕ) (x : Unit {0}) → wanted ≡ false → StepsOn a a k k (widens_if wanted d) (take (one_if wanted) fresh) (d ∷ []) (Ok x)
not_widened a k d wanted fresh x is =
    subst (λ t. StepsOn a a k k (widens_if t d) (take (one_if t) fresh) (d ∷ []) (Ok x)) (sym is) (step_of_nothing a k (d ∷ []) x)

-- ---- both
module _ (a b : Taped) (k0 k1 : Kept) (e : NewEntry) (fresh later : List ℕ) (is_later : later ≡ drop (one_if e.widens_root) fresh) where
  parts : take (one_if e.widens_root) fresh ++ take (one_if e.widens_dir) later ≡ take (pages_planned e) fresh
  parts = ap (λ l. take (one_if e.widens_root) fresh ++ take (one_if e.widens_dir) l) is_later ∙ sym (take-add (one_if e.widens_root) (one_if e.widens_dir) fresh)

  pub first_free : (p : Pack) → MayWidenFirst p e fresh → AreFree p (take (one_if e.widens_root) fresh)
  first_free p may = free_left p (take (one_if e.widens_root) fresh) (drop (one_if e.widens_root) fresh) (subst (AreFree p) (sym (take-append-drop (one_if e.widens_root) fresh)) may.free)

  pub widens_stop : (T : Type 0) (stop : Stop) → StepsOn {T = Unit {0}} a b k0 k1 (widens_if e.widens_root sys_dir) (take (one_if e.widens_root) fresh) (sys_dir ∷ []) (Err stop)
      → StepsOn {T = T} a b k0 k1 (first_widenings e) (take (pages_planned e) fresh) (sys_dir ∷ e.dir.fid ∷ []) (Err stop)
  widens_stop T stop steps =
      subst (λ l. StepsOn {T = T} a b k0 k1 (first_widenings e) l (sys_dir ∷ e.dir.fid ∷ []) (Err stop)) parts
      (step_stops T (Unit {0}) a b k0 k1 (widens_if e.widens_root sys_dir) (widens_if e.widens_dir e.dir.fid) (take (one_if e.widens_root) fresh) (take (one_if e.widens_dir) later) (sys_dir ∷ []) (e.dir.fid ∷ []) stop steps)

  pub widens_both : (d : Taped) (k2 : Kept) (x : Unit {0}) (result : Result (Unit {0}) Stop) → MayWidenFirst (pack a) e fresh → StepsOn a b k0 k1 (widens_if e.widens_root sys_dir) (take (one_if e.widens_root) fresh) (sys_dir ∷ []) (Ok x)
      → (DirStands (pack b) e.dir → AreFree (pack b) (take (one_if e.widens_dir) later) → StepsOn b d k1 k2 (widens_if e.widens_dir e.dir.fid) (take (one_if e.widens_dir) later) (e.dir.fid ∷ []) result)
      → StepsOn a d k0 k2 (first_widenings e) (take (pages_planned e) fresh) (sys_dir ∷ e.dir.fid ∷ []) result
  widens_both d k2 x result may one two =
      subst (λ l. StepsOn a d k0 k2 (first_widenings e) l (sys_dir ∷ e.dir.fid ∷ []) result) parts
      (steps_join (Unit {0}) (Unit {0}) a b d k0 k1 k2 (widens_if e.widens_root sys_dir) (widens_if e.widens_dir e.dir.fid) (take (one_if e.widens_root) fresh) (take (one_if e.widens_dir) later) (sys_dir ∷ []) (e.dir.fid ∷ []) x result one
      (λ left ab. two (dir_stands_still e.dir ab (λ m. widens_stay e.widens_root sys_dir m e.dir.fid e.dir.from) may.dir) (free_left (pack b) (take (one_if e.widens_dir) later) left ab.free)))
