-- Pages that a cache forgets.
use Rattle.std.proofs.Common.{Bool, List, None, Some, [], cond, false, refl, subst, sym, true, ◌∷◌, ◌≡◌}
use Rattle.std.specs.Option.{option_map}
use Rattle.std.specs.Prelude.{find}
use Rattle.disk_records.specs.declared.records.Page.{Page}
use Rattle.hint_cache.specs.Caches.{Cached, address_in, is_page, without}
use Rattle.hint_cache.specs.declared.cache.Entry.{Entry}
use Rattle.page_seeking.proofs.Forgetting.{none_there, same_elsewhere}
use Rattle.file_pages.specs.Releasing.{KeepsOthers, ListsNoMore}

no_more : (page other : Page) (entries : List Entry) → address_in entries other ≡ None → address_in (without page entries) other ≡ None
no_more page other [] e = e
no_more page other (x ∷ xs) e = by (is_page x.page other) refl e (is_page x.page page) refl (λ rest. no_more page other xs rest)
  where
    by : (b : Bool) → is_page x.page other ≡ b → option_map (λ (e : Entry). e.at) (cond b (Some x) (find (λ (e : Entry). is_page e.page other) xs)) ≡ None → (d : Bool) → is_page x.page page ≡ d
        → (address_in xs other ≡ None → address_in (without page xs) other ≡ None) → address_in (without page (x ∷ xs)) other ≡ None
    by true is e d it rest = absurd cc
    by false is e true it rest = rw it (rest e)
    by false is e false it rest = rw (it, is) (rest e)

pub forgotten_page : (old new : Cached) (page : Page) → new ≡ record old { entries = without page old.entries } → address_in new.entries page ≡ None
forgotten_page old new page is = subst (λ (c : Cached). address_in c.entries page ≡ None) (sym is) (none_there page old.entries)

pub lists_no_more : (old new : Cached) (page : Page) → new ≡ record old { entries = without page old.entries } → ListsNoMore old new
lists_no_more old new page is other none = subst (λ (c : Cached). address_in c.entries other ≡ None) (sym is) (no_more page other old.entries none)

-- each other page is listed as it was
pub keeps_others : (old new : Cached) (page : Page) → new ≡ record old { entries = without page old.entries } → KeepsOthers page old new
keeps_others old new page is other apart = subst (λ (c : Cached). address_in c.entries other ≡ address_in old.entries other) (sym is) (same_elsewhere page other old.entries apart)
