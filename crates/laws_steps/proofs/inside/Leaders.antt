-- The leaders that sectors show, and the least of them with a serial.
use Rattle.std.proofs.Common.{Bool, List, None, Option, Some, [], ap, arith, cond, false, fold, get_or, length, refl, suc, true, ℕ, ◌+◌, ◌<◌, ◌==◌, ◌∙◌, ◌∷◌, ◌≡◌}
use Rattle.std.proofs.lemmas.List.{get_or_default}
use Rattle.std.specs.Option.{option_map}
use Rattle.std.specs.Ordering.{is_lt}
use Rattle.std.specs.Prelude.{IfSome}
use Rattle.laws_call.specs.alto_words.specs.Fid.{fid_cmp, serial_of}
use Rattle.laws_call.specs.alto_words.specs.declared.fid.Fid.{Fid}
use Rattle.laws_call.specs.disk_records.specs.Packs.{Pack, carried}
use Rattle.laws_call.specs.laws_record.proofs.Carried.{place_of_carried}
use Rattle.laws_call.specs.laws_record.proofs.Copying.{place_carried}
use Rattle.pack_laws.proofs.Keys.{is_fid-itself}
use Rattle.pack_laws.specs.Least.{least, least_shown}
use Rattle.laws_call.specs.pack_model.specs.hints.Misled.{leader_page}
use Rattle.laws_call.specs.pack_model.specs.reading.Files.{carries_page, numbered}
use Rattle.laws_call.specs.pack_model.specs.reading.Leaders.{Leader}
use Rattle.laws_call.specs.pack_model.specs.reading.Sights.Sight.{free, hidden, holds, leads, stray}
use Rattle.laws_call.specs.pack_model.specs.reading.Sights.{Sight, sights}
use Rattle.laws_call.specs.pack_model.specs.states.Whole.{Whole}
use Rattle.laws_steps.specs.SerialLaws.{LeaderMet, least_leader, lesser_leader}

-- ---- leaders that sectors show
-- these sights are those of sectors from this one on, and each leader is carried there
abbrev pub AreLed : Pack → ℕ → List Sight → Type 0
AreLed p at ss = (i : ℕ) (d : Sight) (f : Fid) (r : Bool) (l : Leader) → i < length ss → get_or ss i d ≡ leads f r l → carried p (at + i) ≡ Some (leader_page f)

pub all_led : (p : Pack) → Whole p → AreLed p 0 (sights p)
all_led p w i d f r l within shows =
    let at : 0 + i ≡ i = omega arith in
    let there : carries_page f 0 (get_or (sights p) i hidden) ≡ true = ap (carries_page f 0) (get_or_default (sights p) i hidden d within ∙ shows) ∙ is_fid-itself f in
    ap (carried p) at ∙ place_carried p (leader_page f) i (place_of_carried (sights p) f (w.files f) 0 i there)

pub first_led : (p : Pack) (at : ℕ) (f : Fid) (r : Bool) (l : Leader) (ss : List Sight) → AreLed p at (leads f r l ∷ ss) → carried p at ≡ Some (leader_page f)
first_led p at f r l ss led = let here : at ≡ at + 0 = omega arith in ap (carried p) here ∙ led 0 hidden f r l (omega arith) refl

pub rest_led : (p : Pack) (at : ℕ) (s : Sight) (ss : List Sight) → AreLed p at (s ∷ ss) → AreLed p (suc at) ss
rest_led p at s ss led i d f r l within shows = let there : suc at + i ≡ at + suc i = omega arith in ap (carried p) there ∙ led (suc i) d f r l (omega (arith, within)) shows

-- the least one is carried where it was met
pub met_carried : (p : Pack) (n at : ℕ) (ss : List Sight) (met : Option LeaderMet) → AreLed p at ss → IfSome met (λ l. carried p l.1 ≡ Some (leader_page l.0)) → IfSome (fold (λ met e. least_leader n met e.0 e.1) met (numbered at ss)) (λ l. carried p l.1 ≡ Some (leader_page l.0))
met_carried p n at [] met led h = h
met_carried p n at (hidden ∷ ss) met led h = met_carried p n (suc at) ss met (rest_led p at hidden ss led) h
met_carried p n at (free ∷ ss) met led h = met_carried p n (suc at) ss met (rest_led p at free ss led) h
met_carried p n at (stray ∷ ss) met led h = met_carried p n (suc at) ss met (rest_led p at stray ss led) h
met_carried p n at (holds f k bytes ∷ ss) met led h = met_carried p n (suc at) ss met (rest_led p at (holds f k bytes) ss led) h
met_carried p n at (leads f r l ∷ ss) met led h = met_carried p n (suc at) ss (least_leader n met at (leads f r l)) (rest_led p at (leads f r l) ss led) (by (serial_of f == n))
  where
    here : carried p at ≡ Some (leader_page f)
    here = first_led p at f r l ss led

    lesser : (met : Option LeaderMet) → IfSome met (λ l. carried p l.1 ≡ Some (leader_page l.0)) → IfSome (lesser_leader met f at) (λ l. carried p l.1 ≡ Some (leader_page l.0))
    lesser None old = here
    lesser (Some k) old = choose (is_lt (fid_cmp f k.0))
      where
        choose : (b : Bool) → IfSome (cond b (Some (f, at)) (Some k)) (λ l. carried p l.1 ≡ Some (leader_page l.0))
        choose true = here
        choose false = old

    by : (b : Bool) → IfSome (cond b (lesser_leader met f at) met) (λ l. carried p l.1 ≡ Some (leader_page l.0))
    by true = lesser met h
    by false = h

-- without its sector it is the least that is shown
pub met_shown : (n at : ℕ) (ss : List Sight) (met : Option LeaderMet) → option_map (λ l. l.0) (fold (λ met e. least_leader n met e.0 e.1) met (numbered at ss)) ≡ fold (least_shown n) (option_map (λ l. l.0) met) ss
met_shown n at [] met = refl
met_shown n at (hidden ∷ ss) met = met_shown n (suc at) ss met
met_shown n at (free ∷ ss) met = met_shown n (suc at) ss met
met_shown n at (stray ∷ ss) met = met_shown n (suc at) ss met
met_shown n at (holds f k bytes ∷ ss) met = met_shown n (suc at) ss met
met_shown n at (leads f r l ∷ ss) met = met_shown n (suc at) ss (least_leader n met at (leads f r l)) ∙ ap (λ x. fold (least_shown n) x ss) (by (serial_of f == n))
  where
    lesser : (met : Option LeaderMet) → option_map (λ l. l.0) (lesser_leader met f at) ≡ least (option_map (λ l. l.0) met) f
    lesser None = refl
    lesser (Some k) = choose (is_lt (fid_cmp f k.0))
      where
        choose : (b : Bool) → option_map (λ (l : LeaderMet). l.0) (cond b (Some (f, at)) (Some k)) ≡ Some (cond b f k.0)
        choose true = refl
        choose false = refl

    by : (b : Bool) → option_map (λ (l : LeaderMet). l.0) (cond b (lesser_leader met f at) met) ≡ cond b (least (option_map (λ l. l.0) met) f) (option_map (λ l. l.0) met)
    by true = lesser met
    by false = refl
