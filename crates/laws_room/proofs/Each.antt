-- What holds of each file that is found in a map holds of each of its entries.
use Rattle.std.proofs.Common.{◌∙◌, ◌∷◌, ◌≡◌, Bool, List, None, Some, T, [], ap, cond, false, refl, sym, true}
use Rattle.std.specs.FinMap.{FinMap, entries, entries_sorted, find, get, get-entries, is_sorted}
use Rattle.std.specs.FinMap.Entries.{below_all}
use Rattle.laws_operation.specs.alto_words.specs.Fid.{fid_cmp, is_fid}
use Rattle.laws_operation.specs.alto_words.specs.declared.fid.Fid.{Fid}
use Rattle.laws_operation.specs.pack_laws.proofs.Keys.{is_fid-itself, same_fid}
use Rattle.laws_record.proofs.Around.{first_part, not_below, second_part}

-- it holds of each entry
abbrev pub Each : {X : Type 0} → (Fid → X → Type 0) → List (Fid × X) → Type 0
Each holds [] = Unit {0}
Each holds (e ∷ es) = holds e.0 e.1 × Each holds es

-- among entries in order
each_list : {X : Type 0} (holds : Fid → X → Type 0) (es : List (Fid × X)) → T (is_sorted fid_cmp es) → ((f : Fid) (x : X) → find fid_cmp f es ≡ Some x → holds f x) → Each holds es
each_list holds [] s h = tt
each_list {X = X} holds (e ∷ es) s h = (
  h e.0 e.1 (ap (λ b. cond b (Some e.1) (find fid_cmp e.0 es)) (is_fid-itself e.0)),
  each_list holds es (second_part (below_all fid_cmp e.0 es) (is_sorted fid_cmp es) s) (λ f x is. h f x (later f x is (is_fid f e.0) refl)),
)
  where
    later : (f : Fid) (x : X) → find fid_cmp f es ≡ Some x → (b : Bool) → is_fid f e.0 ≡ b → cond b (Some e.1) (find fid_cmp f es) ≡ Some x
    later f x is false q = is
    later f x is true q = absurd (let n : None ≡ Some x = sym (not_below fid_cmp e.0 es (first_part (below_all fid_cmp e.0 es) (is_sorted fid_cmp es) s)) ∙ ap (λ k. find fid_cmp k es) (sym (same_fid f e.0 q)) ∙ is in cc)

-- in a map
pub each_entry : {X : Type 0} (holds : Fid → X → Type 0) (m : FinMap fid_cmp X) → ((f : Fid) (x : X) → get m f ≡ Some x → holds f x) → Each holds (entries m)
each_entry holds m h = each_list holds (entries m) (entries_sorted m) (λ f x is. h f x (get-entries m f ∙ is))
