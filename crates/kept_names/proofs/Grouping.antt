-- Groups of suffixes that are taken, one after another.
use Rattle.std.proofs.Common.{◌≡◌, ℕ, ◌+◌, ◌-◌, ◌<◌, ◌≤◌, true, List, [], ◌∷◌, ◌++◌, length, get_or, map, Option, Some, None, sym, ap, subst, ◌∙◌, arith, add-one}
use Rattle.std.specs.Prelude.{IfSome}
use Rattle.std.specs.FinMap.{FinMap}
use Rattle.std.proofs.lemmas.List.{length-map, get_or-map, get_or_append_left, get_or-append_right}
use Rattle.alto_words.specs.Fid.{fid_cmp}
use Rattle.alto_words.specs.Names.{suffixed}
use Rattle.pack_model.specs.showing.View.{Home}
use Rattle.pack_model.specs.showing.Settling.{is_taken, chosen}
use Rattle.kept_names.specs.declared.groups.Group.{Group}
use Rattle.kept_names.specs.Passed.{AreTaken, IsFirstFree}
use Rattle.kept_names.proofs.Passing.{taken_on, free_here}

abbrev firsts : List Group → List ℕ
firsts groups = map (λ g. g.first) groups

abbrev ends : List Group → List ℕ
ends groups = map (λ g. g.end) groups

-- the first group begins with the first suffix, each other one where that before it ends, and the last one ends before the last suffix
abbrev pub AreInOrder : List Group → Type 0
AreInOrder groups = (1 ∷ ends groups) ≡ (firsts groups ++ 65535 ∷ [])

-- all suffixes of so many groups are taken
pub record AreBehind (groups : List Group) (homes : FinMap fid_cmp Home) (name : List ℕ) (count : ℕ) : Type 0 where
  pub order : AreInOrder groups
  pub taken : AreTaken homes name 1 (get_or (1 ∷ ends groups) count 0)

module _ {groups : List Group} {homes : FinMap fid_cmp Home} {name : List ℕ} {count : ℕ} (behind : AreBehind groups homes name count) where
  -- the next group begins after them
  behind_here : (group : Group) → count < length groups → AreTaken homes name 1 (get_or groups count group).first
  behind_here group more =
      let few = length-map {A = Group} groups (λ g. g.first) in
      let begins : get_or (1 ∷ ends groups) count 0 ≡ (get_or groups count group).first =
      ap (λ l. get_or l count 0) behind.order
      ∙ get_or_append_left (firsts groups) (65535 ∷ []) 0 count (omega (arith, few))
      ∙ get_or-map (λ (g : Group). g.first) groups count group 0 more in
      subst (AreTaken homes name 1) begins behind.taken

  -- all of it are taken, too
  pub after_more : (group : Group) {suffix : Option ℕ} → count < length groups → suffix ≡ None → IsFirstFree homes name (get_or groups count group) suffix → AreBehind groups homes name (count + 1)
  after_more group more none here =
      let stop : (get_or groups count group).end ≡ get_or (1 ∷ ends groups) (count + 1) 0 =
      sym (get_or-map (λ (g : Group). g.end) groups count group 0 more) ∙ sym (ap (λ n. get_or (1 ∷ ends groups) n 0) (add-one count)) in
      let all = (subst (IsFirstFree homes name (get_or groups count group)) none here).taken in
      record {
        order = behind.order;
        taken = subst (AreTaken homes name 1) stop (taken_on homes name 1 (get_or groups count group).first (get_or groups count group).end (behind_here group more) all);
      }

  -- one of it isn't
  pub chosen_here : (group : Group) (k : ℕ) {suffix : Option ℕ} → count < length groups → suffix ≡ Some k
      → IfSome suffix (λ k. ((get_or groups count group).first ≤ k) × (k < (get_or groups count group).end)) → IsFirstFree homes name (get_or groups count group) suffix
      → is_taken homes name ≡ true → suffixed name k ≡ chosen homes name
  chosen_here group k more some within here itself =
      let own = get_or groups count group in
      let inside = subst (λ s. IfSome s (λ k. (own.first ≤ k) × (k < own.end))) some within in
      let free = subst (IsFirstFree homes name own) some here in
      free_here homes name k (omega (arith, inside, own.least)) (omega (arith, inside, own.most)) itself (taken_on homes name 1 own.first k (behind_here group more) free.taken) free.free

  -- all that are asked for are taken
  pub behind_all : length groups ≤ count → count ≤ length groups → AreTaken homes name 1 65535
  behind_all end most =
      let none : count - length groups ≡ 0 = omega arith in
      let last : get_or (1 ∷ ends groups) count 0 ≡ 65535 =
      ap (λ l. get_or l count 0) behind.order
      ∙ get_or-append_right (firsts groups) (65535 ∷ []) (length groups) count 0 (length-map {A = Group} groups (λ g. g.first)) end
      ∙ ap (λ n. get_or (65535 ∷ []) n 0) none in
      subst (AreTaken homes name 1) last behind.taken
