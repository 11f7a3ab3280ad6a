-- DiskDescriptor has the least full name with its serial.
use Rattle.std.proofs.Common.{Bool, Equal, Greater, Less, List, None, Option, Ordering, Some, [], ap, arith, cond, eqb-true, false, fold, inl, inr, le-ltb, not, refl, subst, suc, sym, true, ℕ, ◌%◌, ◌&&◌, ◌*◌, ◌+◌, ◌==◌, ◌∙◌, ◌∷◌, ◌≡◌, ◌≤◌, ◌⊎◌}
use Rattle.std.proofs.lemmas.Bool.Decides.{nat_tests}
use Rattle.std.specs.Option.{is_some, option_or}
use Rattle.std.specs.Ordering.{is_lt, ordering_reverse, ordering_then}
use Rattle.std.specs.Prelude.{IfSome, nat_le, nat_lt}
use Rattle.laws_call.specs.alto_words.specs.Fid.{disk_descriptor, fid_cmp, is_fid, serial_of}
use Rattle.laws_call.specs.alto_words.specs.declared.fid.Fid.{Fid}
use Rattle.laws_call.specs.disk_records.specs.Labels.{in_range, tag}
use Rattle.laws_call.specs.disk_records.specs.Packs.{Pack, carried, sector_at}
use Rattle.laws_call.specs.laws_operation.proofs.Making.{named_page}
use Rattle.pack_laws.proofs.Guarding.{carried_parts}
use Rattle.pack_laws.proofs.Keys.{fid_same, fid_total, same_fid}
use Rattle.pack_laws.specs.Least.{least, least_shown}
use Rattle.laws_call.specs.pack_model.specs.hints.Misled.{leader_page}
use Rattle.laws_call.specs.pack_model.specs.reading.Bodies.{found}
use Rattle.laws_call.specs.pack_model.specs.reading.Files.{first, leader}
use Rattle.laws_call.specs.pack_model.specs.reading.Sights.Sight.{free, hidden, holds, leads, stray}
use Rattle.laws_call.specs.pack_model.specs.reading.Sights.{Sight, sights}
use Rattle.laws_call.specs.pack_model.specs.states.Whole.{Whole}
use Rattle.laws_steps.proofs.inside.Leaders.{AreLed, all_led, first_led, rest_led}

-- ---- DiskDescriptor
-- a full name with its serial, which can be given
record IsLike (f : Fid) : Type 0 where
  serial : serial_of f ≡ 2
  version : 1 ≤ f.version

second_true : (a b c d e : Bool) → (a && b && c && d && e) ≡ true → b ≡ true
second_true true true c d e h = refl
second_true true false c d e h = absurd cc
second_true false b c d e h = absurd cc

-- a label has such a version
has_version : (p : Pack) (at : ℕ) (f : Fid) → carried p at ≡ Some (leader_page f) → 1 ≤ f.version
unfolding in_range
has_version p at f is =
    let label : List ℕ = (sector_at p at).label in
    let named = named_page label (leader_page f) (carried_parts p at (leader_page f) is).1 in
    let g : Fid = (tag label).fid in
    let same : g ≡ f = ap (λ t. t.fid) named.0 in
    let one : nat_le 1 g.version ≡ true = second_true (nat_le (tag label).bytes 512) (nat_le 1 g.version) (nat_le g.version 65534) (not (serial_of g == 0)) (nat_lt (tag label).page 65536) named.1 in
    subst (λ x. 1 ≤ x.version) same (grind (arith, nat_tests))

none_less : (a b c : Bool) → is_lt (ordering_then (cond a Equal Greater) (ordering_then (cond b Equal Greater) (cond c Equal Greater))) ≡ false
none_less false b c = refl
none_less true false c = refl
none_less true true false = refl
none_less true true true = refl

-- it isn't below DiskDescriptor
not_below : (f : Fid) → IsLike f → is_lt (fid_cmp f disk_descriptor) ≡ false
not_below f like =
    let serial : f.high % 32768 * 65536 + f.low ≡ 2 = like.serial in
    let version = like.version in
    let low : 2 ≤ f.low = omega (arith, serial) in
    let a : nat_lt f.high 0 ≡ false = le-ltb f.high 0 (omega arith) in
    let b : nat_lt f.low 2 ≡ false = le-ltb f.low 2 low in
    let c : nat_lt f.version 1 ≡ false = le-ltb f.version 1 version in
    (λ i. is_lt (ordering_then (cond (a i) Less (cond (f.high == 0) Equal Greater)) (ordering_then (cond (b i) Less (cond (f.low == 2) Equal Greater)) (cond (c i) Less (cond (f.version == 1) Equal Greater)))))
    ∙ none_less (f.high == 0) (f.low == 2) (f.version == 1)

-- so of both DiskDescriptor is the lesser
lesser_is : (g : Fid) → IsLike g → least (Some g) disk_descriptor ≡ Some disk_descriptor
lesser_is g like = by (fid_cmp disk_descriptor g) refl
  where
    by : (o : Ordering) → fid_cmp disk_descriptor g ≡ o → Some (cond (is_lt o) disk_descriptor g) ≡ Some disk_descriptor
    by Less is = refl
    by Equal is = ap Some (sym (fid_same disk_descriptor g is))
    by Greater is =
        let below : fid_cmp g disk_descriptor ≡ Less = fid_total.antisymm g disk_descriptor ∙ ap ordering_reverse is in
        let clash : true ≡ false = sym (ap is_lt below) ∙ not_below g like in
        absurd cc

-- those found so far are such ones
abbrev AllLike : Option Fid → Type 0
AllLike found = IfSome found IsLike

still_like : (r : Option Fid) (f : Fid) → AllLike r → IsLike f → AllLike (least r f)
still_like None f old new = new
still_like (Some g) f old new = by (is_lt (fid_cmp f g))
  where
    by : (b : Bool) → IsLike (cond b f g)
    by true = new
    by false = old

-- DiskDescriptor comes, or is there already
abbrev Comes : List Sight → Option Fid → Type 0
Comes ss r = (is_some (leader ss disk_descriptor) ≡ true) ⊎ (r ≡ Some disk_descriptor)

met_descriptor : (r : Option Fid) → AllLike r → least r disk_descriptor ≡ Some disk_descriptor
met_descriptor None like = refl
met_descriptor (Some g) like = lesser_is g like

descriptor_least : (p : Pack) (at : ℕ) (ss : List Sight) (r : Option Fid) → AreLed p at ss → AllLike r → Comes ss r → fold (least_shown 2) r ss ≡ Some disk_descriptor
unfolding first
descriptor_least p at [] r led like comes = elim comes [ inl none ↦ absurd (let clash : false ≡ true = none in cc) | inr there ↦ there ]
descriptor_least p at (hidden ∷ ss) r led like comes = descriptor_least p (suc at) ss r (rest_led p at hidden ss led) like comes
descriptor_least p at (free ∷ ss) r led like comes = descriptor_least p (suc at) ss r (rest_led p at free ss led) like comes
descriptor_least p at (stray ∷ ss) r led like comes = descriptor_least p (suc at) ss r (rest_led p at stray ss led) like comes
descriptor_least p at (holds f k bytes ∷ ss) r led like comes = descriptor_least p (suc at) ss r (rest_led p at (holds f k bytes) ss led) like comes
descriptor_least p at (leads f q l ∷ ss) r led like comes = by (serial_of f == 2) refl (λ x all later. descriptor_least p (suc at) ss x (rest_led p at (leads f q l) ss led) all later)
  where
    version : 1 ≤ f.version
    version = has_version p at f (first_led p at f q l ss led)

    -- it's another file
    other : is_fid disk_descriptor f ≡ false → Comes ss r
    other apart = elim comes [
      | inl later ↦ inl (sym (ap (λ c. is_some (option_or (cond c (Some l) None) (leader ss disk_descriptor))) apart) ∙ later)
      | inr there ↦ inr there
    ]

    -- and it has this serial
    like_it : IsLike f → Comes ss (least r f)
    like_it new = test (is_fid disk_descriptor f) refl
      where
        test : (b : Bool) → is_fid disk_descriptor f ≡ b → Comes ss (least r f)
        test true is = inr (ap (least r) (sym (same_fid disk_descriptor f is)) ∙ met_descriptor r like)
        test false is = elim (other is) [
          | inl later ↦ inl later
          | inr there ↦ inr (ap (λ x. least x f) there ∙ ap (λ c. Some (cond c f disk_descriptor)) (not_below f new))
        ]

    by : (b : Bool) → (serial_of f == 2) ≡ b → ((x : Option Fid) → AllLike x → Comes ss x → fold (least_shown 2) x ss ≡ Some disk_descriptor) → fold (least_shown 2) (cond b (least r f) r) ss ≡ Some disk_descriptor
    by true is rest =
        let new : IsLike f = record { serial = eqb-true (serial_of f) 2 is; version = version } in
        rest (least r f) (still_like r f like new) (like_it new)
    by false is rest = rest r like (other (apart (is_fid disk_descriptor f) refl))
      where
        apart : (b : Bool) → is_fid disk_descriptor f ≡ b → b ≡ false
        apart false e = refl
        apart true e = let clash : true ≡ false = ap (λ g. serial_of g == 2) (same_fid disk_descriptor f e) ∙ is in cc

-- of all leaders that a whole pack shows
pub descriptor_is_least : (p : Pack) → Whole p → fold (least_shown 2) None (sights p) ≡ Some disk_descriptor
descriptor_is_least p w = descriptor_least p 0 (sights p) None (all_led p w) tt (inl w.descriptor_lives)
