-- Entries that are recalled and forgotten.
use Rattle.std.proofs.Common.{◌≡◌, ℕ, suc, ◌<◌, Bool, true, false, not, cond, List, [], ◌∷◌, length, Option, Some, None, IsSome, refl, sym, ap, subst, arith}
use Rattle.std.specs.Prelude.{find, All}
use Rattle.std.proofs.lemmas.List.Elements.{All-take, All-filter, All-cons}
use Rattle.disk_records.specs.declared.records.Page.{Page}
use Rattle.disk_records.specs.Tapes.{Taped, pack}
use Rattle.hint_cache.specs.declared.cache.Entry.{Entry}
use Rattle.hint_cache.specs.Caches.{Cached, address_in, is_page, noted, without}
use Rattle.hint_cache.proofs.Listing.{filter-found}
use Rattle.hint_cache.proofs.Pages.{same_page}
use Rattle.std.specs.Option.{option_map}
use Rattle.pack_model.specs.reading.Sights.{sights}
use Rattle.page_seeking.specs.Inside.{IsHandyEntry, KeepsEach, Sought}

-- ---- one entry
-- what holds of each entry holds of the one that is answered for a page
pub of_listed : (P : Entry → Type 0) (page : Page) (at : ℕ) (entries : List Entry) → address_in entries page ≡ Some at → All P entries → P (record { page = page; at = at })
of_listed P page at [] e all = absurd cc
of_listed P page at (x ∷ xs) e all = by (is_page x.page page) refl (λ rest. of_listed P page at xs rest (λ k d h. all (suc k) d (omega arith))) e
  where
    by : (b : Bool) → is_page x.page page ≡ b → (address_in xs page ≡ Some at → P (record { page = page; at = at })) → option_map (λ (e : Entry). e.at) (cond b (Some x) (find (λ (e : Entry). is_page e.page page) xs)) ≡ Some at → P (record { page = page; at = at })
    by true is later e = let number : x.at ≡ at = cc in let own = same_page x.page page is in subst P (λ i. record { page = own i; at = number i }) (all 0 x (omega arith))
    by false is later e = later e

handy_recalled : (P : Entry → Type 0) (page : Page) (at : ℕ) (entries : List Entry) → address_in entries page ≡ Some at → All P entries → All P (noted page at entries)
handy_recalled P page at entries e all =
    let front : Entry = record { page = page; at = at } in
    All-take P 48 (front ∷ without page entries) (All-cons P front (without page entries) (of_listed P page at entries e all) (All-filter (λ e. not (is_page e.page page)) P entries all))

-- a call after a `recall` that answered
pub sought_recalled : {told : Bool} {n : ℕ} {a b : Taped} {c d e : Cached} (page : Page) (at : ℕ) → address_in c.entries page ≡ Some at → d ≡ record c { entries = noted page at c.entries } → Sought told n a b d e → Sought told n a b c e
sought_recalled {a = a} {c = c} {d} {e} page at listed is x =
    let count = ap (λ (x : Cached). x.refused) is in
    record {
      looks = x.looks;
      refused = let grows = x.refused in omega (arith, count, grows);
      handy = λ told whole links f handy. x.handy told whole links f (subst (λ (l : List Entry). All (IsHandyEntry (sights (pack a)) f) l) (sym (ap (λ (x : Cached). x.entries) is)) (handy_recalled (IsHandyEntry (sights (pack a)) f) page at c.entries listed handy));
    }

-- and before a `forget`
pub sought_forgotten : {told : Bool} {n : ℕ} {a b : Taped} {c d e : Cached} (page : Page) → e ≡ record d { entries = without page d.entries } → Sought told n a b c d → Sought told n a b c e
sought_forgotten {a = a} {d = d} page is x =
    let count = ap (λ (x : Cached). x.refused) is in
    record {
      looks = x.looks;
      refused = let grows = x.refused in omega (arith, count, grows);
      handy = λ told whole links f handy. subst (λ (l : List Entry). All (IsHandyEntry (sights (pack a)) f) l) (sym (ap (λ (x : Cached). x.entries) is)) (All-filter (λ e. not (is_page e.page page)) (IsHandyEntry (sights (pack a)) f) d.entries (x.handy told whole links f handy));
    }

-- and before several
pub sought_kept : {told : Bool} {n : ℕ} {a b : Taped} {c d e : Cached} → e.refused ≡ d.refused → KeepsEach d e → Sought told n a b c d → Sought told n a b c e
sought_kept {a = a} count keeps x = record { looks = x.looks; refused = let grows = x.refused in omega (arith, count, grows); handy = λ told whole links f handy. keeps (pack a) f (x.handy told whole links f handy) }

-- entries without one stay handy
pub handy_without : (page : Page) (c d : Cached) → d ≡ record c { entries = without page c.entries } → KeepsEach c d
handy_without page c d is p f handy = subst (λ (l : List Entry). All (IsHandyEntry (sights p) f) l) (sym (ap (λ (x : Cached). x.entries) is)) (All-filter (λ e. not (is_page e.page page)) (IsHandyEntry (sights p) f) c.entries handy)

-- ---- an entry that was wrong is taken out
-- a list is shorter without a page that is listed
pub fewer_without : (page : Page) (at : ℕ) (entries : List Entry) → address_in entries page ≡ Some at → length (without page entries) < length entries
fewer_without page at entries listed = filter-found (λ (x : Entry). is_page x.page page) entries (by (find (λ (x : Entry). is_page x.page page) entries) listed)
  where
    by : (o : Option Entry) → option_map (λ (e : Entry). e.at) o ≡ Some at → IsSome o
    by None e = absurd cc
    by (Some x) e = refl
