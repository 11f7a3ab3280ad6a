-- What the cache lists after a call, and after two.
use Rattle.std.proofs.Common.{◌≡◌, ◌⊎◌, ℕ, ◌≤◌, Bool, IsTrue, Some, inl, inr, arith, subst}
use Rattle.alto_words.specs.declared.fid.Fid.{Fid}
use Rattle.disk_records.proofs.Looking.{looks_pack}
use Rattle.disk_records.specs.Packs.{Pack, carried}
use Rattle.disk_records.specs.Tapes.{Looks, Taped, pack}
use Rattle.disk_records.specs.declared.records.Page.{Page}
use Rattle.disk_records.specs.declared.shape.Shape.{Shape}
use Rattle.hint_cache.specs.Caches.{Cached}
use Rattle.label_check.specs.declared.errors.PageInfo.{PageInfo}
use Rattle.page_seeking.specs.Parts.{IsListed, ListsEnd}
use Rattle.page_seeking.specs.Seeking.{Lists, Refused}

-- a page that was seen and is carried by its sector is listed
pub is_listed : (told : Bool) (p : Pack) {form : Shape} {page : Page} {at : ℕ} {info : PageInfo} {old new : Cached} → Lists form page at info old new → (IsTrue told → carried p at ≡ Some page) → IsListed told p page new ⊎ Refused old new
is_listed told p {at = at} lists carries = elim (lists.here) [ inl is ↦ inl (record { at = at; listed = is; carries = carries }) | inr rose ↦ inr rose ]

-- ---- after a call that only looked
listed_before : {told : Bool} {n : ℕ} {a b : Taped} {page : Page} {cache : Cached} → Looks told n a b → IsListed told (pack b) page cache → IsListed told (pack a) page cache
listed_before {page = page} looks x = record { at = x.at; listed = x.listed; carries = λ told. subst (λ (p : Pack). carried p x.at ≡ Some page) (looks_pack looks told) (x.carries told) }

pub listed_since : {told : Bool} {n : ℕ} {a b : Taped} {page : Page} (c d e : Cached) → Looks told n a b → c.refused ≤ d.refused → IsListed told (pack b) page e ⊎ Refused d e → IsListed told (pack a) page e ⊎ Refused c e
listed_since c d e looks grows (inl x) = inl (listed_before looks x)
listed_since c d e looks grows (inr rose) = inr (omega (arith, grows, rose))

pub end_since : {told : Bool} {n : ℕ} {a b : Taped} {f : Fid} {end : ℕ} (c d e : Cached) → Looks told n a b → c.refused ≤ d.refused → ListsEnd told (pack b) f end d e → ListsEnd told (pack a) f end c e
end_since c d e looks grows x = record { number = x.number; first = x.first; from = x.from; upto = x.upto; listed = listed_since c d e looks grows x.listed }
