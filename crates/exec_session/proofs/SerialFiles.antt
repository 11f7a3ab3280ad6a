-- Files by their serials: what a sweep keeps, once all sectors are met, is the model's file.
use Rattle.std.proofs.Common.{◌≡◌, ◌+◌, ◌++◌, ◌∙◌, ◌∷◌, ℕ, Bool, IsTrue, List, None, Option, Some, [], ap, arith, length, refl, subst, sym}
use Rattle.std.specs.Option.{option_map}
use Rattle.std.specs.Prelude.{IfSome, fold}
use Rattle.disk_records.specs.Packs.{Pack, carried}
use Rattle.disk_records.specs.Tapes.{Taped, pack}
use Rattle.label_sweep.proofs.Visiting.{kept_by_steps, numbered-append}
use Rattle.label_sweep.specs.Swept.{Swept}
use Rattle.laws_steps.proofs.serials.Laws.{serial_is_the_models}
use Rattle.laws_steps.specs.SerialLaws.{LeaderMet, leader_met, least_leader}
use Rattle.pack_model.specs.hints.Misled.{leader_page}
use Rattle.pack_model.specs.reading.Files.{numbered}
use Rattle.pack_model.specs.reading.Model.{read_as}
use Rattle.pack_model.specs.reading.Sights.{Sight}
use Rattle.pack_model.specs.states.Sound.{Sound}
use Rattle.session_model.specs.Finding.{by_serial}
use Rattle.exec_session.specs.declared.serials.LeaderAt.{LeaderAt}
use Rattle.exec_session.specs.declared.serials.LeastLeader.{LeastLeader}
use Rattle.exec_session.specs.Serials.{MeetsLeader, leader_of}

-- ---- the sweep
-- the least of some sectors, from sector 0 on
abbrev least_of : ℕ → List Sight → Option LeaderMet
least_of n ss = fold (λ met e. least_leader n met e.0 e.1) None (numbered 0 ss)

-- The least of these sectors was kept.
record HasLeast (n : ℕ) (ss : List Sight) (v : LeastLeader) : Type 0 where
  serial : v.serial ≡ n
  least : leader_of v.best ≡ least_of n ss

fold_push : {A B : Type 0} (f : B → A → B) (b : B) (xs : List A) (x : A) → fold f b (xs ++ x ∷ []) ≡ f (fold f b xs) x
fold_push f b [] x = refl
fold_push f b (y ∷ xs) x = fold_push f (f b y) xs x

least_push : (n : ℕ) (ss : List Sight) (s : Sight) → least_of n (ss ++ s ∷ []) ≡ least_leader n (least_of n ss) (length ss) s
least_push n ss s =
    let here : 0 + length ss ≡ length ss = omega arith in
    ap (fold (λ met e. least_leader n met e.0 e.1) None) (numbered-append 0 ss s)
    ∙ fold_push (λ met e. least_leader n met e.0 e.1) None (numbered 0 ss) (0 + length ss, s)
    ∙ ap (λ k. least_leader n (least_of n ss) k s) here

met_more : (n : ℕ) (ss : List Sight) (u w : LeastLeader) (s : Sight) → HasLeast n ss u → MeetsLeader u (length ss) s w → HasLeast n (ss ++ s ∷ []) w
met_more n ss u w s so_far step = record {
  serial = step.0 ∙ so_far.serial;
  least =
      step.1
      ∙ ap (λ k. least_leader k (leader_of u.best) (length ss) s) so_far.serial
      ∙ ap (λ met. least_leader n met (length ss) s) so_far.least
      ∙ sym (least_push n ss s);
}

pub least_of_all : {told : Bool} {t : Taped} (before after : LeastLeader) → before.best ≡ None → Swept told MeetsLeader t before after → IsTrue told → leader_of after.best ≡ leader_met before.serial (pack t)
least_of_all before after none swept h =
    (kept_by_steps MeetsLeader (HasLeast before.serial) (met_more before.serial) (record { serial = refl; least = ap leader_of none }) swept h).least

-- ---- what it found
pub found_serial : (p : Pack) (n : ℕ) (best : Option LeaderAt) (l : LeaderAt) → Sound p → leader_of best ≡ leader_met n p → best ≡ Some l → (by_serial (read_as p) n ≡ Some l.fid) × (carried p l.at ≡ Some (leader_page l.fid))
found_serial p n best l sound least is =
    let law = serial_is_the_models p n sound.whole in
    let met : leader_met n p ≡ Some (l.fid, l.at) = sym least ∙ ap leader_of is in (
      sym law.fid ∙ ap (option_map (λ m. m.0)) met,
      subst (λ r. IfSome r (λ m. carried p m.1 ≡ Some (leader_page m.0))) met law.carries,
    )

pub found_no_serial : (p : Pack) (n : ℕ) (best : Option LeaderAt) → Sound p → leader_of best ≡ leader_met n p → best ≡ None → by_serial (read_as p) n ≡ None
found_no_serial p n best sound least is = sym (serial_is_the_models p n sound.whole).fid ∙ ap (option_map (λ m. m.0)) (sym least ∙ ap leader_of is)
