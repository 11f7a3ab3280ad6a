-- The names that settling gives where at most one file is nameless.
use Rattle.std.proofs.Common.{◌+◌, ◌∙◌, ◌∷◌, ◌≡◌, ◌≤◌, ◌⊎◌, Bool, List, [], ap, arith, cond, false, inl, inr, length, refl, suc, sym, true, zero, ℕ}
use Rattle.std.specs.FinMap.{FinMap, contains_key, get, get-insert}
use Rattle.std.specs.Option.{is_some}
use Rattle.laws_room.specs.alto_words.proofs.Made.{length-suffixed}
use Rattle.laws_room.specs.alto_words.specs.Fid.{fid_cmp, is_fid, sys_dir}
use Rattle.laws_room.specs.alto_words.specs.declared.fid.Fid.{Fid}
use Rattle.laws_room.specs.pack_laws.proofs.Keys.{fid_total, same_fid}
use Rattle.pack_model.specs.showing.Settling.{choice, chosen, chosen_from, given, given_names, is_taken, most_suffixes, unless}
use Rattle.pack_model.specs.showing.View.{Home, Seen}
use Rattle.laws_room.specs.laws_record.proofs.Settles.{has_name, some_more}
use Rattle.laws_room.proofs.Each.{Each}

-- ---- how long a chosen name is
choice_short : (name : List ℕ) (k : ℕ) → length name ≤ 39 → k ≤ 65535 → length (choice name k) ≤ 39
choice_short name zero short most = short
choice_short name (suc k) short most = let l = length-suffixed name (suc k) most in omega arith

from_short : (fuel : ℕ) (taken : List ℕ → Bool) (name : List ℕ) (k : ℕ) → length name ≤ 39 → k + fuel ≤ 65535 → length (chosen_from fuel taken name k) ≤ 39
from_short zero taken name k short most = choice_short name k short (omega arith)
from_short (suc fuel) taken name k short most = elim (taken (choice name k)) as (λ b. length (elim b as (λ b. List ℕ) [ false ↦ choice name k | true ↦ chosen_from fuel taken name (suc k) ]) ≤ 39) [
  | false ↦ choice_short name k short (omega arith)
  | true ↦ from_short fuel taken name (suc k) short (omega arith)
]

pub chosen_short : (names : FinMap fid_cmp Home) (name : List ℕ) → length name ≤ 39 → length (chosen names name) ≤ 39
unfolding chosen most_suffixes
chosen_short names name short = from_short 65535 (is_taken names) name 0 short (omega arith)

-- ---- which files get one
-- of each entry a consequence of what holds of it
each_weaker : {X : Type 0} (P Q : Fid → X → Type 0) → ((k : Fid) (x : X) → P k x → Q k x) → (es : List (Fid × X)) → Each P es → Each Q es
each_weaker P Q f [] h = tt
each_weaker P Q f (e ∷ es) h = (f e.0 e.1 h.0, each_weaker P Q f es h.1)

-- the file has a name
abbrev pub HasName : FinMap fid_cmp Home → Fid → Seen → Type 0
HasName names k x = contains_key names k ≡ true

-- none, where each has one
pub none_given : (names : FinMap fid_cmp Home) (es : List (Fid × Seen)) → Each (HasName names) es → given_names names es ≡ []
none_given names [] h = refl
none_given names (e ∷ es) h = ap (λ b. unless b (e.0, chosen names e.1.leader.name) (given_names (cond b names (given names e.0 e.1)) es)) h.0 ∙ none_given names es h.1

-- One name at most, of at most 39 characters.
pub record OneGiven (given : List (Fid × List ℕ)) : Type 0 where
  pub fid : Fid
  pub name : List ℕ
  pub short : length name ≤ 39
  pub are : (given ≡ []) ⊎ (given ≡ (fid, name) ∷ [])

-- each file but this one has a name, and each leader's name is short
abbrev pub HasNameBut : FinMap fid_cmp Home → Fid → Fid → Seen → Type 0
HasNameBut names f k x = (is_fid k f ≡ false → contains_key names k ≡ true) × (length x.leader.name ≤ 39)

pub one_given : (names : FinMap fid_cmp Home) (f : Fid) (es : List (Fid × Seen)) → Each (HasNameBut names f) es → OneGiven (given_names names es)
one_given names f [] h = record { fid = f; name = []; short = omega arith; are = inl refl }
one_given names f (e ∷ es) h = by (contains_key names e.0) refl (is_fid e.0 f) refl (one_given names f es h.1)
  where
    by : (b : Bool) → contains_key names e.0 ≡ b → (c : Bool) → is_fid e.0 f ≡ c → OneGiven (given_names names es) → OneGiven (unless b (e.0, chosen names e.1.leader.name) (given_names (cond b names (given names e.0 e.1)) es))
    by true is c same again = again
    by false is false other again = absurd (let x : false ≡ true = sym is ∙ h.0.0 other in cc)
    by false is true same again = record {
      fid = e.0;
      name = chosen names e.1.leader.name;
      short = chosen_short names e.1.leader.name h.0.1;
      are = inr (ap (λ r. (e.0, chosen names e.1.leader.name) ∷ r) (none_given (given names e.0 e.1) es (each_weaker (HasNameBut names f) (HasName (given names e.0 e.1)) (λ k x g. named k (is_fid k f) refl g.0) es h.1)));
    }
      where
        home : Home
        home = record { dir = sys_dir; name = chosen names e.1.leader.name }

        named : (k : Fid) (c : Bool) → is_fid k f ≡ c → (is_fid k f ≡ false → contains_key names k ≡ true) → contains_key (given names e.0 e.1) k ≡ true
        named k true q has = ap (contains_key (given names e.0 e.1)) (same_fid k f q ∙ sym (same_fid e.0 f same)) ∙ has_name names e.0 home
        named k false q has = ap is_some (get-insert fid_total names e.0 home k) ∙ some_more (is_fid k e.0) home (get names k) (has q)
