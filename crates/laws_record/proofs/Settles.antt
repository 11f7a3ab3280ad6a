-- What is shown, and the names that nameless files get.
use Rattle.std.proofs.Common.{◌++◌, ◌∙◌, ◌∷◌, ◌≡◌, Bool, List, None, Option, Some, [], ap, cond, false, refl, sym, true}
use Rattle.std.specs.FinMap.{FinMap, contains_key, get, get-insert, insert}
use Rattle.std.specs.Option.{is_some}
use Rattle.pack_laws.specs.alto_words.specs.Fid.{fid_cmp, is_fid}
use Rattle.pack_laws.specs.alto_words.specs.declared.fid.Fid.{Fid}
use Rattle.pack_laws.specs.pack_model.specs.showing.Settling.{given, settle, settled}
use Rattle.pack_laws.specs.pack_model.specs.showing.View.{Home, Seen, View}
use Rattle.pack_laws.proofs.Keys.{fid_total, is_fid-itself}
use Rattle.laws_record.specs.EnterLaws.{AllNamed, IsNext}

-- files with names are passed
named_skip : (names : FinMap fid_cmp Home) (a b : List (Fid × Seen)) → AllNamed names a → settled names (a ++ b) ≡ settled names b
named_skip names [] b h = refl
named_skip names (e ∷ a) b h = ap (λ c. settled (cond c names (given names e.0 e.1)) (a ++ b)) h.0 ∙ named_skip names a b h.1

-- a value more
pub some_more : (b : Bool) (h : Home) (r : Option Home) → is_some r ≡ true → is_some (cond b (Some h) r) ≡ true
some_more true h r e = refl
some_more false h r e = e

-- a name more leaves those with names so
pub named_insert : (names : FinMap fid_cmp Home) (f : Fid) (h : Home) (es : List (Fid × Seen)) → AllNamed names es → AllNamed (insert names f h) es
named_insert names f h [] a = tt
named_insert names f h (e ∷ es) a = (ap is_some (get-insert fid_total names f h e.0) ∙ some_more (is_fid e.0 f) h (get names e.0) a.0, named_insert names f h es a.1)

-- a file that gets a name has one
pub has_name : (names : FinMap fid_cmp Home) (f : Fid) (h : Home) → contains_key (insert names f h) f ≡ true
has_name names f h = ap is_some (get-insert fid_total names f h f ∙ ap (λ b. cond b (Some h) (get names f)) (is_fid-itself f))

-- the first nameless file
settles_at : (names : FinMap fid_cmp Home) (f : Fid) (x : Seen) (a b : List (Fid × Seen)) → AllNamed names a → get names f ≡ None → settled names (a ++ (f, x) ∷ b) ≡ settled (given names f x) b
settles_at names f x a b h none = named_skip names a ((f, x) ∷ b) h ∙ ap (λ c. settled (cond (is_some c) names (given names f x)) b) none

-- and where it has its name
settles_past : (names : FinMap fid_cmp Home) (f : Fid) (x : Seen) (a b : List (Fid × Seen)) → AllNamed names a → settled (given names f x) (a ++ (f, x) ∷ b) ≡ settled (given names f x) b
settles_past names f x a b h =
    named_skip (given names f x) a ((f, x) ∷ b) (named_insert names f _ a h)
    ∙ ap (λ c. settled (cond c (given names f x) (given (given names f x) f x)) b) (has_name names f _)

-- the same names, the same view
view_names : (v : View) (a b : FinMap fid_cmp Home) → a ≡ b → ◌≡◌ {A = View} (record { files = v.files; names = a }) (record { files = v.files; names = b })
view_names v a b e = λ i. record { files = v.files; names = e i }

-- the next entry that settling adds
pub next_settles : (v : View) (f : Fid) (x : Seen) → IsNext v f x → settle (record { files = v.files; names = given v.names f x }) ≡ settle v
unfolding settle
next_settles v f x n = view_names v _ _
    (ap (settled (given v.names f x)) n.split ∙ settles_past v.names f x n.before n.later n.named
    ∙ sym (ap (settled v.names) n.split ∙ settles_at v.names f x n.before n.later n.named n.nameless))
