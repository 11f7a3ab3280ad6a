-- The scan of entries that keeps their homes gives the entries that a pack is read with, those of the system files left out.
use Rattle.std.proofs.Common.{◌≡◌, Bool, true, false, cond, not, List, [], ◌∷◌, ◌++◌, Option, Some, None, refl, sym, ap, subst, ◌∙◌}
use Rattle.std.specs.Prelude.{◌&&◌, ◌||◌, fold}
use Rattle.std.specs.List.{list_any}
use Rattle.std.specs.Option.{is_some, option_or}
use Rattle.std.specs.FinMap.{FinMap, find, get, get-empty, get-insert, get-entries, entries, entries-insert, insert, contains_key, empty}
use Rattle.std.proofs.lemmas.Bool.{and_parts}
use Rattle.std.proofs.lemmas.List.{append_assoc, append-nil}
use Rattle.alto_words.specs.declared.fid.Fid.{Fid}
use Rattle.alto_words.specs.Fid.{fid_cmp, is_fid, is_system}
use Rattle.alto_words.specs.Names.{is_same_name}
use Rattle.pack_model.specs.reading.Namings.{Naming, is_kept, may_stand, keeps_system, clashes}
use Rattle.pack_model.specs.showing.View.{Home, homes}
use Rattle.pack_laws.proofs.Keys.{fid_total, same_fid}
use Rattle.pack_laws.proofs.Firsts.{or_none}
use Rattle.pack_laws.proofs.Inserting.{entries-empty, list_any-put}
use Rattle.kept_names.specs.Homes.{is_taken_in, is_let, considered}
use Rattle.kept_names.proofs.Tests.{none_of}
use Rattle.kept_names.proofs.Scanned.{scanned, after}
use Rattle.kept_names.proofs.SystemApart.{find-append, homes-append, list_any-either, or_parts, system_apart, fid_apart}

-- ---- the two scans, side by side
-- The homes are those of the entries that were kept, last first or in their order, without the system files.
pub record Follows (before kept : List Naming) (h : FinMap fid_cmp Home) : Type 0 where
  pub named : (f : Fid) → is_system f ≡ false → contains_key h f ≡ list_any (λ n. is_fid f n.fid) before
  pub taken : (x : Naming) → is_system x.fid ≡ false → keeps_system x ≡ true → is_taken_in h x.dir x.name ≡ list_any (λ n. is_fid x.dir n.dir && is_same_name x.name n.name) before
  pub has : (q : Fid) → get h q ≡ cond (is_system q) None (find fid_cmp q (homes kept))

pub follows_none : Follows [] [] (empty {X = Home} {R = fid_cmp})
follows_none = record {
  named = λ f other. ap is_some (get-empty fid_cmp f);
  taken = λ x other fits. ap (list_any (λ (e : Fid × Home). is_fid x.dir e.1.dir && is_same_name x.name e.1.name)) (entries-empty {X = Home} fid_cmp);
  has = λ q. get-empty fid_cmp q ∙ elim (is_system q) as (λ b. None ≡ cond {A = Option Home} b None None) [ true ↦ refl | false ↦ refl ];
}

module _ (alive : Fid → Bool) (before kept : List Naming) (h : FinMap fid_cmp Home) (follows : Follows before kept h) (e : Naming) where
  home : Home
  home = record { dir = e.dir; name = e.name }

  -- ---- an entry of a system file
  system_same : is_system e.fid ≡ true → h ≡ considered alive h e
  system_same system = sym (ap (λ b. cond (not b && may_stand alive e && not (contains_key h e.fid) && not (is_taken_in h e.dir e.name)) (insert h e.fid (record { dir = e.dir; name = e.name })) h) system)

  system_kept : is_system e.fid ≡ true → keeps_system e ≡ true → Follows (e ∷ before) (kept ++ e ∷ []) h
  system_kept system fits_e = record {
    named = λ f other. follows.named f other ∙ sym (ap (λ b. b || list_any (λ n. is_fid f n.fid) before) (fid_apart f e.fid other system));
    taken = λ x other fits_x. follows.taken x other fits_x ∙ sym (ap (λ b. b || list_any (λ n. is_fid x.dir n.dir && is_same_name x.name n.name) before) (system_apart x e other fits_x system fits_e));
    has = λ q. follows.has q ∙ elim (is_system q) as (λ b. is_system q ≡ b → cond b None (find fid_cmp q (homes kept)) ≡ cond b None (find fid_cmp q (homes (kept ++ e ∷ [])))) [
      | true ↦ λ _. refl
      | false ↦ λ other. sym (
          ap (find fid_cmp q) (homes-append kept (e ∷ []))
          ∙ find-append q (homes kept) (homes (e ∷ []))
          ∙ ap (λ b. option_or (find fid_cmp q (homes kept)) (cond b (Some (record { dir = e.dir; name = e.name })) None)) (fid_apart q e.fid other system)
          ∙ or_none (find fid_cmp q (homes kept))
          )
    ] refl;
  }

  -- ---- an entry of a file that is shown
  some_or : {X : Type 0} (b : Bool) (x : X) (o : Option X) → is_some (cond b (Some x) o) ≡ (b || is_some o)
  some_or true x o = refl
  some_or false x o = refl

  found_then : (q : Fid) → find fid_cmp q (homes (kept ++ e ∷ [])) ≡ option_or (find fid_cmp q (homes kept)) (cond (is_fid q e.fid) (Some home) None)
  unfolding home
  found_then q = ap (find fid_cmp q) (homes-append kept (e ∷ [])) ∙ find-append q (homes kept) (homes (e ∷ []))

  has_then : is_system e.fid ≡ false → get h e.fid ≡ None → (q : Fid) (b : Bool) → is_fid q e.fid ≡ b → cond b (Some home) (get h q) ≡ cond (is_system q) None (option_or (find fid_cmp q (homes kept)) (cond b (Some home) None))
  has_then other none q true is =
      let same = same_fid q e.fid is in
      let shown : is_system q ≡ false = ap is_system same ∙ other in
      let nothing : find fid_cmp q (homes kept) ≡ None = sym (ap (λ b. cond b None (find fid_cmp q (homes kept))) shown) ∙ sym (follows.has q) ∙ ap (get h) same ∙ none in
      sym (λ i. cond (shown i) None (option_or (nothing i) (Some home)))
  has_then other none q false is = follows.has q ∙ ap (cond (is_system q) None) (sym (or_none (find fid_cmp q (homes kept))))

  entry_kept : is_system e.fid ≡ false → get h e.fid ≡ None → Follows (e ∷ before) (kept ++ e ∷ []) (insert h e.fid home)
  unfolding home
  entry_kept other none =
      let absent : find fid_cmp e.fid (entries h) ≡ None = sym (get-entries h e.fid) ∙ none in
      record {
        named = λ f shown. ap is_some (get-insert fid_total h e.fid home f) ∙ some_or (is_fid f e.fid) home (get h f) ∙ ap (λ b. is_fid f e.fid || b) (follows.named f shown);
        taken = λ x shown fits_x.
            let test : Fid × Home → Bool = λ y. is_fid x.dir y.1.dir && is_same_name x.name y.1.name in
            ap (list_any test) (entries-insert fid_total h e.fid home)
            ∙ list_any-put fid_cmp test e.fid home (entries h) absent
            ∙ ap (λ b. test (e.fid, home) || b) (follows.taken x shown fits_x);
        has = λ q.
            get-insert fid_total h e.fid home q
            ∙ has_then other none q (is_fid q e.fid) refl
            ∙ ap (cond (is_system q) None) (sym (found_then q));
      }

  -- ---- the test of an entry
  dead : (s x y : Bool) → (not s && false && x && y) ≡ false
  dead true x y = refl
  dead false x y = refl

  neither : (a b : Bool) → (not a && not b) ≡ not (a || b)
  neither true b = refl
  neither false b = refl

  fits_of : may_stand alive e ≡ true → keeps_system e ≡ true
  fits_of m = (and_parts _ _ (and_parts _ _ m).1).1

  clash_parts : list_any (clashes e) before ≡ (list_any (λ n. is_fid e.fid n.fid) before || list_any (λ n. is_fid e.dir n.dir && is_same_name e.name n.name) before)
  clash_parts = list_any-either (λ n. is_fid e.fid n.fid) (λ n. is_fid e.dir n.dir && is_same_name e.name n.name) before

  -- by the homes it is let if and only if it is kept beside those before it
  pub let_is_kept : is_system e.fid ≡ false → is_let alive h e ≡ is_kept alive before e
  let_is_kept other = by (may_stand alive e) refl
    where
      by : (m : Bool) → may_stand alive e ≡ m → (not (is_system e.fid) && m && not (contains_key h e.fid) && not (is_taken_in h e.dir e.name)) ≡ (m && not (list_any (clashes e) before))
      by true is =
          (λ i. not (other i) && true && not (follows.named e.fid other i) && not (follows.taken e other (fits_of is) i))
          ∙ neither (list_any (λ n. is_fid e.fid n.fid) before) (list_any (λ n. is_fid e.dir n.dir && is_same_name e.name n.name) before)
          ∙ ap not (sym clash_parts)
      by false is = dead (is_system e.fid) (not (contains_key h e.fid)) (not (is_taken_in h e.dir e.name))

  not_true : (b : Bool) → not b ≡ true → b ≡ false
  not_true true no_one = cc
  not_true false no_one = refl

  absent_then : is_system e.fid ≡ false → is_kept alive before e ≡ true → get h e.fid ≡ None
  absent_then other is =
      let parts = and_parts (may_stand alive e) (not (list_any (clashes e) before)) is in
      let apart = or_parts _ _ (sym clash_parts ∙ not_true (list_any (clashes e) before) parts.1) in
      none_of (get h e.fid) (follows.named e.fid other ∙ apart.0)

  pub follow_one : (b : Bool) → is_kept alive before e ≡ b → Follows (cond b (e ∷ before) before) (cond b (kept ++ e ∷ []) kept) (considered alive h e)
  unfolding home
  follow_one true is = by (is_system e.fid) refl
    where
      by : (s : Bool) → is_system e.fid ≡ s → Follows (e ∷ before) (kept ++ e ∷ []) (considered alive h e)
      by true system = subst (Follows (e ∷ before) (kept ++ e ∷ [])) (system_same system) (system_kept system (fits_of (and_parts (may_stand alive e) (not (list_any (clashes e) before)) is).0))
      by false other =
          let kept_is : insert h e.fid home ≡ considered alive h e = sym (ap (λ b. cond b (insert h e.fid home) h) (let_is_kept other ∙ is)) in
          subst (Follows (e ∷ before) (kept ++ e ∷ [])) kept_is (entry_kept other (absent_then other is))
  follow_one false is = by (is_system e.fid) refl
    where
      by : (s : Bool) → is_system e.fid ≡ s → Follows before kept (considered alive h e)
      by true system = subst (Follows before kept) (system_same system) follows
      by false other =
          let kept_is : h ≡ considered alive h e = sym (ap (λ b. cond b (insert h e.fid home) h) (let_is_kept other ∙ is)) in
          subst (Follows before kept) kept_is follows

-- all entries
pub follow_all : (alive : Fid → Bool) (ns before kept : List Naming) (h : FinMap fid_cmp Home) → Follows before kept h → Follows (after (is_kept alive) before ns) (kept ++ scanned (is_kept alive) before ns) (fold (considered alive) h ns)
follow_all alive [] before kept h follows = subst (λ l. Follows before l h) (sym (append-nil kept)) follows
follow_all alive (e ∷ ns) before kept h follows =
    let b = is_kept alive before e in
    let joined : cond b (kept ++ e ∷ []) kept ++ scanned (is_kept alive) (cond b (e ∷ before) before) ns ≡ kept ++ scanned (is_kept alive) before (e ∷ ns) =
    elim (is_kept alive before e) as (λ b. cond b (kept ++ e ∷ []) kept ++ scanned (is_kept alive) (cond b (e ∷ before) before) ns ≡ kept ++ cond b (e ∷ scanned (is_kept alive) (e ∷ before) ns) (scanned (is_kept alive) before ns)) [
      | true ↦ append_assoc kept (e ∷ []) (scanned (is_kept alive) (e ∷ before) ns)
      | false ↦ refl
    ] in
    subst (λ l. Follows (after (is_kept alive) before (e ∷ ns)) l (fold (considered alive) h (e ∷ ns))) joined
    (follow_all alive ns (cond b (e ∷ before) before) (cond b (kept ++ e ∷ []) kept) (considered alive h e) (follow_one alive before kept h follows e b refl))
