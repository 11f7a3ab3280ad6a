-- What is looked up for the lines of the listing.
use Rattle.std.proofs.Common.{◌≡◌, ℕ, Bool, true, false, cond, List, [], ◌∷◌, ◌++◌, map, take, Option, Some, None, refl, sym, ap, ◌∙◌, arith, suc, ◌+◌, ◌<◌, get_or}
use Rattle.std.specs.Prelude.{◌&&◌, T, length}
use Rattle.std.proofs.Math.Seq.{take-suc}
use Rattle.std.specs.declared.cmp.Ordering.{Ordering}
use Rattle.std.specs.declared.cmp.Ordering.TheVariants.{Less, Equal, Greater}
use Rattle.std.specs.Ordering.{is_eq, is_lt, match_ordering}
use Rattle.std.specs.Option.{option_map, option_or}
use Rattle.std.specs.BTreeSet.{insert_key}
use Rattle.std.specs.FinMap.{find, is_sorted, entries, entries_sorted, get-entries}
use Rattle.std.specs.FinMap.Entries.{below_all}
use Rattle.alto_words.specs.declared.fid.Fid.{Fid}
use Rattle.alto_words.specs.Fid.{fid_cmp, is_fid}
use Rattle.alto_words.specs.Names.{folded_cmp}
use Rattle.pack_model.specs.reading.Namings.{Naming}
use Rattle.pack_model.specs.showing.View.{Home, View}
use Rattle.pack_model.specs.showing.Listing.{naming_of, naming_cmp, in_order, shown_names}
use Rattle.session_boot.specs.pack_laws.proofs.Keys.{same_fid}
use Rattle.session_boot.specs.pack_laws.proofs.Firsts.{or_none, or_assoc}
use Rattle.session_boot.specs.pack_laws.proofs.Inserting.{in_order-none, in_order-cons}
use Rattle.session_boot.specs.pack_laws.proofs.Orders.{naming_total, last_apart}
use Rattle.pack_reading.specs.declared.shown.ShownLengths.{ShownLengths}
use Rattle.pack_reading.specs.Lengths.{ShowsLengths}
use Rattle.pack_reading.specs.Shows.{shown_name}
use Rattle.alto_top.specs.Looking.{first_of, Knows}

-- ---- one after another
or_parts : {X : Type 0} (b : Bool) (x : X) (o : Option X) → option_or (cond b (Some x) None) o ≡ None → (b ≡ false) × (o ≡ None)
or_parts true x o e = cc
or_parts false x o e = (refl, e)

or_swap : {X : Type 0} (b c : Bool) (x y : X) (o : Option X) → (b ≡ true → c ≡ true → ⊥)
    → option_or (cond b (Some x) None) (option_or (cond c (Some y) None) o) ≡ option_or (cond c (Some y) None) (option_or (cond b (Some x) None) o)
or_swap true true x y o apart = absurd (apart refl refl)
or_swap true false x y o apart = refl
or_swap false c x y o apart = refl

-- ---- names by file
abbrev pub name_in : List Naming → Fid → Option (List ℕ)
name_in = first_of (λ n. n.fid) (λ n. n.name)

pub name_shown : (ns : List Naming) (f : Fid) → first_of (λ n. n.fid) (λ n. n.name) (map shown_name ns) f ≡ name_in ns f
name_shown [] f = refl
name_shown (n ∷ ns) f = ap (option_or (cond (is_fid f n.fid) (Some n.name) None)) (name_shown ns f)

-- two files aren't one
not_both : (f n k : Fid) → is_fid n k ≡ false → is_fid f n ≡ true → is_fid f k ≡ true → ⊥
not_both f n k apart one other = let h : true ≡ false = sym (ap (λ x. is_fid x k) (sym (same_fid f n one)) ∙ other) ∙ apart in cc

name_insert : (ks : List Naming) (n : Naming) (f : Fid) → name_in ks n.fid ≡ None
    → name_in (insert_key naming_cmp ks n) f ≡ option_or (cond (is_fid f n.fid) (Some n.name) None) (name_in ks f)
name_insert [] n f none = refl
name_insert (k ∷ ks) n f none =
    let gone = or_parts (is_fid n.fid k.fid) k.name (name_in ks n.fid) none in
    let rest = name_insert ks n f gone.1 in
    elim (naming_cmp n k) as (λ r. naming_cmp n k ≡ r → name_in (match_ordering r (n ∷ k ∷ ks) (k ∷ ks) (k ∷ insert_key naming_cmp ks n)) f ≡ option_or (cond (is_fid f n.fid) (Some n.name) None) (name_in (k ∷ ks) f)) [
      | Less ↦ λ _. refl
      | Equal ↦ λ tie. absurd (last_apart (fid_cmp n.dir k.dir) (folded_cmp n.name k.name) (fid_cmp n.fid k.fid) gone.0 tie)
      | Greater ↦ λ _.
          ap (option_or (cond (is_fid f k.fid) (Some k.name) None)) rest
          ∙ or_swap (is_fid f k.fid) (is_fid f n.fid) k.name n.name (name_in ks f) (λ one other. not_both f n.fid k.fid gone.0 other one)
    ] refl

below_first : {X : Type 0} (r : Ordering) (b : Bool) (x : X) (o : Option X) → T (is_lt r && b) → (T b → o ≡ None) → cond (is_eq r) (Some x) o ≡ None
below_first Less b x o h rest = rest h
below_first Equal b x o h rest = absurd h
below_first Greater b x o h rest = absurd h

-- a full name below each of some is none of them
pub lower : {X : Type 0} (q : Fid) (es : List (Fid × X)) → T (below_all fid_cmp q es) → find fid_cmp q es ≡ None
lower q [] h = refl
lower q (e ∷ es) h = below_first (fid_cmp q e.0) (below_all fid_cmp q es) e.1 (find fid_cmp q es) h (lower q es)

pub sorted_parts : (b c : Bool) → T (b && c) → T b × T c
sorted_parts true c h = (tt, h)
sorted_parts false c h = absurd h

map_or : (b : Bool) (h : Home) (o : Option Home) → option_or (cond b (Some h.name) None) (option_map (λ h. h.name) o) ≡ option_map (λ h. h.name) (cond b (Some h) o)
map_or true h o = refl
map_or false h o = refl

pub name_found : (es : List (Fid × Home)) → T (is_sorted fid_cmp es) → (f : Fid) → name_in (in_order naming_cmp (map naming_of es)) f ≡ option_map (λ h. h.name) (find fid_cmp f es)
name_found [] sorted f = ap (λ l. name_in l f) (in_order-none naming_cmp)
name_found (e ∷ es) sorted f =
    let parts = sorted_parts (below_all fid_cmp e.0 es) (is_sorted fid_cmp es) sorted in
    let rest = name_found es parts.1 in
    ap (λ l. name_in l f) (in_order-cons naming_total (naming_of e) (map naming_of es))
    ∙ name_insert (in_order naming_cmp (map naming_of es)) (naming_of e) f (rest e.0 ∙ ap (option_map (λ h. h.name)) (lower e.0 es parts.0))
    ∙ ap (option_or (cond (is_fid f e.0) (Some e.1.name) None)) (rest f)
    ∙ map_or (is_fid f e.0) e.1 (find fid_cmp f es)

-- ---- both
pub knows : (name : Fid → Option (List ℕ)) (shown : ShownLengths) (v : View) → ShowsLengths shown v → ((f : Fid) → name f ≡ first_of (λ n. n.fid) (λ n. n.name) shown.names f) → Knows name shown.files v
knows name shown v shows names = record {
  names = λ f.
      names f
      ∙ ap (λ l. first_of (λ n. n.fid) (λ n. n.name) l f) shows.names
      ∙ name_shown (shown_names v) f
      ∙ name_found (entries v.names) (entries_sorted v.names) f
      ∙ ap (option_map (λ h. h.name)) (sym (get-entries v.names f));
  files_are = shows.files;
}

-- ---- a map by the items so far
first_append : {X V : Type 0} (key : X → Fid) (value : X → V) (xs : List X) (x : X) (f : Fid) → first_of key value (xs ++ x ∷ []) f ≡ option_or (first_of key value xs f) (cond (is_fid f (key x)) (Some (value x)) None)
first_append key value [] x f = or_none (cond (is_fid f (key x)) (Some (value x)) None)
first_append key value (y ∷ xs) x f =
    ap (option_or (cond (is_fid f (key y)) (Some (value y)) None)) (first_append key value xs x f)
    ∙ sym (or_assoc (cond (is_fid f (key y)) (Some (value y)) None) (first_of key value xs f) (cond (is_fid f (key x)) (Some (value x)) None))

-- one item more
pub looked : {X V : Type 0} (key : X → Fid) (value : X → V) (old new : Fid → Option V) (i : ℕ) (x : X) (all : List X)
    → i < length all → x ≡ get_or all i x
    → ((f : Fid) → new f ≡ option_or (old f) (cond (is_fid f (key x)) (Some (value x)) None))
    → ((f : Fid) → old f ≡ first_of key value (take i all) f)
    → (f : Fid) → new f ≡ first_of key value (take (i + 1) all) f
looked key value old new i x all more here is so_far f =
    let next : suc i ≡ i + 1 = omega arith in
    is f
    ∙ ap (λ o. option_or o (cond (is_fid f (key x)) (Some (value x)) None)) (so_far f)
    ∙ sym (first_append key value (take i all) x f)
    ∙ ap (λ l. first_of key value l f) (ap (λ y. take i all ++ y ∷ []) here ∙ sym (take-suc all i x more) ∙ ap (λ n. take n all) next)
