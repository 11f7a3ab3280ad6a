-- Kept entries, and the homes that they stand for.
use Rattle.std.proofs.Common.{◌≡◌, ◌≢◌, Bool, true, false, cond, List, [], ◌∷◌, map, Option, Some, None, refl, sym, ap, ◌∙◌}
use Rattle.std.specs.Prelude.{◌&&◌, ◌||◌}
use Rattle.std.specs.declared.cmp.Ordering.{Ordering}
use Rattle.std.specs.declared.cmp.Ordering.TheVariants.{Less, Equal, Greater}
use Rattle.std.specs.Ordering.{is_eq, ordering_then}
use Rattle.std.specs.List.{list_any}
use Rattle.std.specs.Option.{is_some}
use Rattle.std.specs.BTreeSet.{contains, insert_key}
use Rattle.std.specs.FinMap.{FinMap, find, entries, entries-insert, get, get-empty, get-insert, get-entries, insert, empty, put}
use Rattle.std.specs.FinMap.Entries.{by_order}
use Rattle.alto_words.specs.declared.fid.Fid.{Fid}
use Rattle.alto_words.specs.Fid.{fid_cmp, is_fid}
use Rattle.alto_words.specs.Names.{folded_cmp, is_same_name}
use Rattle.pack_model.specs.showing.View.{Home}
use Rattle.pack_model.specs.showing.Listing.{naming_of, naming_cmp, in_order}
use Rattle.pack_laws.proofs.Keys.{fid_total, is_fid-sym}
use Rattle.pack_laws.proofs.Inserting.{absent_tail, entries-empty, list_any-put, map-insert_key, in_order-none, in_order-cons, insert-swap}
use Rattle.pack_laws.proofs.Orders.{naming_total, last_apart}
use Rattle.kept_names.specs.declared.names.QualifiedName.{QualifiedName}
use Rattle.kept_names.specs.declared.names.Entry.{Entry}
use Rattle.kept_names.specs.declared.names.Names.{Names}
use Rattle.kept_names.specs.Homes.{qualified_cmp, home_at, naming_at, StandsFor}
use Rattle.kept_names.proofs.Tests.{tie_qualified_back}

-- ---- the order of entries
then_assoc : (a b c : Ordering) → ordering_then (ordering_then a b) c ≡ ordering_then a (ordering_then b c)
then_assoc Less b c = refl
then_assoc Equal b c = refl
then_assoc Greater b c = refl

pub entry_order : (x y : Entry) → ordering_then (qualified_cmp x.name y.name) (fid_cmp x.fid y.fid) ≡ naming_cmp (naming_at x) (naming_at y)
entry_order x y = then_assoc (fid_cmp x.name.directory y.name.directory) (folded_cmp x.name.name y.name.name) (fid_cmp x.fid y.fid)

-- the names in order, with that of one file more
in_order-put : (f : Fid) (h : Home) (es : List (Fid × Home)) → find fid_cmp f es ≡ None → in_order naming_cmp (map naming_of (put fid_cmp f h es)) ≡ insert_key naming_cmp (in_order naming_cmp (map naming_of es)) (naming_of (f, h))
in_order-put f h [] none = in_order-cons naming_total (naming_of (f, h)) []
in_order-put f h (e ∷ es) none =
    let gone = absent_tail (is_fid f e.0) e.1 (find fid_cmp f es) none in
    let rest = in_order-put f h es gone.1 in
    let n = naming_of (f, h) in
    let apart : naming_cmp n (naming_of e) ≢ Equal = last_apart (fid_cmp n.dir e.1.dir) (folded_cmp n.name e.1.name) (fid_cmp f e.0) gone.0 in
    elim (fid_cmp f e.0) as (λ r. is_eq r ≡ false → in_order naming_cmp (map naming_of (by_order r ((f, h) ∷ e ∷ es) ((e.0, h) ∷ es) (e ∷ put fid_cmp f h es))) ≡ insert_key naming_cmp (in_order naming_cmp (map naming_of (e ∷ es))) n) [
      | Less ↦ λ _. in_order-cons naming_total n (map naming_of (e ∷ es))
      | Equal ↦ λ tie. absurd (let h : true ≡ false = tie in cc)
      | Greater ↦ λ _.
          in_order-cons naming_total (naming_of e) (map naming_of (put fid_cmp f h es))
          ∙ ap (λ l. insert_key naming_cmp l (naming_of e)) rest
          ∙ insert-swap naming_total (in_order naming_cmp (map naming_of es)) n (naming_of e) apart
          ∙ ap (λ l. insert_key naming_cmp l n) (sym (in_order-cons naming_total (naming_of e) (map naming_of es)))
    ] gone.0

-- ---- no entries
pub empty_stands : (names : Names) → names.named.keys ≡ [] → names.taken.keys ≡ [] → names.kept.keys ≡ [] → StandsFor names (empty {X = Home} {R = fid_cmp})
empty_stands names named taken kept = record {
  named = λ f. ap (list_any (λ k. is_eq (fid_cmp f k))) named ∙ sym (ap is_some (get-empty fid_cmp f));
  taken = λ d name.
      ap (list_any (λ k. is_eq (qualified_cmp (record { directory = d; name = name }) k))) taken
      ∙ sym (ap (list_any (λ (e : Fid × Home). is_fid d e.1.dir && is_same_name name e.1.name)) (entries-empty {X = Home} fid_cmp));
  kept = ap (map naming_at) kept ∙ sym (ap (λ es. in_order naming_cmp (map naming_of es)) (entries-empty {X = Home} fid_cmp) ∙ in_order-none naming_cmp);
}

-- ---- one entry more
some_or : {X : Type 0} (b : Bool) (x : X) (o : Option X) → cond b true (is_some o) ≡ is_some (cond b (Some x) o)
some_or true x o = refl
some_or false x o = refl

or_is : (b c : Bool) → cond b true c ≡ (b || c)
or_is true c = refl
or_is false c = refl

pub entry_stands : (cmp : Entry → Entry → Ordering) → ((x y : Entry) → cmp x y ≡ naming_cmp (naming_at x) (naming_at y)) → (old new : Names) (entry : Entry) (homes : FinMap fid_cmp Home)
    → ((q : Fid) → contains fid_cmp new.named q ≡ cond (is_eq (fid_cmp entry.fid q)) true (contains fid_cmp old.named q))
    → ((q : QualifiedName) → contains qualified_cmp new.taken q ≡ cond (is_eq (qualified_cmp entry.name q)) true (contains qualified_cmp old.taken q))
    → new.kept.keys ≡ insert_key cmp old.kept.keys entry
    → StandsFor old homes → get homes entry.fid ≡ None → StandsFor new (insert homes entry.fid (home_at entry.name))
entry_stands cmp order old new entry homes named taken kept stands none =
    let f = entry.fid in
    let h = home_at entry.name in
    let absent : find fid_cmp f (entries homes) ≡ None = sym (get-entries homes f) ∙ none in
    record {
      named = λ q.
          named q
          ∙ (λ i. cond (is_fid-sym f q i) true (stands.named q i))
          ∙ some_or (is_fid q f) h (get homes q)
          ∙ sym (ap is_some (get-insert fid_total homes f h q));
      taken = λ d name.
          let p : QualifiedName = record { directory = d; name = name } in
          let test : Fid × Home → Bool = λ e. is_fid d e.1.dir && is_same_name name e.1.name in
          taken p
          ∙ (λ i. cond (tie_qualified_back entry.name p i) true (stands.taken d name i))
          ∙ or_is (test (f, h)) (list_any test (entries homes))
          ∙ sym (list_any-put fid_cmp test f h (entries homes) absent)
          ∙ ap (list_any test) (sym (entries-insert fid_total homes f h));
      kept =
          ap (map naming_at) kept
          ∙ map-insert_key cmp naming_cmp naming_at order old.kept.keys entry
          ∙ ap (λ l. insert_key naming_cmp l (naming_at entry)) stands.kept
          ∙ sym (in_order-put f h (entries homes) absent)
          ∙ ap (λ es. in_order naming_cmp (map naming_of es)) (sym (entries-insert fid_total homes f h));
    }
