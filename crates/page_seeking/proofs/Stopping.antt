-- Where reading ends, and what the cache lists then.
use Rattle.std.proofs.Common.{◌≡◌, ◌⊎◌, ℕ, suc, nat_lt, ◌+◌, ◌-◌, ◌*◌, ◌/◌, ◌<◌, ◌≤◌, Bool, true, false, Some, IsTrue, inl, inr, refl, sym, ◌∙◌, ap, subst, arith}
use Rattle.std.proofs.lemmas.Bool.Decides.{nat_tests}
use Rattle.alto_words.specs.declared.fid.Fid.{Fid}
use Rattle.disk_records.specs.declared.records.Sector.{Sector}
use Rattle.disk_records.proofs.Looking.{looks_pack}
use Rattle.disk_records.specs.Packs.{Pack, carried}
use Rattle.disk_records.specs.Tapes.{Taped, Looks, pack}
use Rattle.hint_cache.specs.Caches.{Cached}
use Rattle.label_check.specs.declared.errors.PageInfo.{PageInfo}
use Rattle.laws_contents.proofs.bytes.Laws.{page_is_a_slice}
use Rattle.laws_contents.proofs.ends.Laws.{each_file_has_its_end}
use Rattle.laws_contents.proofs.pages.Laws.{page_numbers_are_words}
use Rattle.laws_lookup.specs.laws_operation.proofs.links.Laws.{next_link_names_the_page_after}
use Rattle.laws_lookup.specs.laws_record.proofs.Copying.{place_carried}
use Rattle.pack_model.specs.hints.Links.{LinksTrue, link_to}
use Rattle.pack_model.specs.operations.Committing.{page_of_byte}
use Rattle.pack_model.specs.reading.Files.{place}
use Rattle.pack_model.specs.reading.Sights.{sights}
use Rattle.pack_model.specs.states.Whole.{Whole}
use Rattle.page_seeking.specs.declared.links.Below.{Below}
use Rattle.page_seeking.specs.declared.seek.Found.{Found}
use Rattle.page_seeking.specs.Seeking.{Refused, file_length, page_number}
use Rattle.page_seeking.specs.Parts.{IsListed, ListsEnd, ListsNext}
use Rattle.page_seeking.specs.Inside.{Confirmed, Known, LastListed, Stops, StopsAt}
use Rattle.page_seeking.proofs.Easing.{leader_placed}
use Rattle.page_seeking.proofs.Handing.{placed_first, placed_within}
use Rattle.page_seeking.proofs.Lasting.{ending}
use Rattle.page_seeking.proofs.Once.{counts_once, full_before_known, once_of_whole, placed_once}
use Rattle.page_seeking.proofs.Parting.{few_bytes}
use Rattle.page_seeking.proofs.Recent.{listed_before}
use Rattle.page_seeking.proofs.Seeking.{confirmed_before, known_of}

-- over the calls before, which found the page that reading began at
pub stops_before : {told : Bool} {n : ℕ} {a b : Taped} {f : Fid} {end : ℕ} {c d e : Cached} {below : Below} {buffer : Sector} → Looks told n a b → c.refused ≤ d.refused → 1 ≤ below.number → Confirmed told (page_number f below.number) a c d buffer below.found
    → StopsAt below end d e ⊎ Stops told b f end d e → Stops told a f end c e
stops_before {told} {a = a} {f = f} {c = c} {d} {e} {below} {buffer} looks grows first found (inl x) =
    record { number = below.number; here = below.found; buffer = buffer; first = first; from = x.from; upto = x.upto; confirmed = subst (λ (y : Cached). Confirmed told (page_number f below.number) a c y buffer below.found) (sym x.cache_is) found }
stops_before looks grows first found (inr x) = record { number = x.number; here = x.here; buffer = x.buffer; first = x.first; from = x.from; upto = x.upto; confirmed = confirmed_before looks grows x.confirmed }

-- and so is the page of the last byte listed
pub last_before : {told : Bool} {n : ℕ} {a b : Taped} {f : Fid} {c d : Cached} {buffer : Sector} (below : Below) (end : ℕ) (e : Cached) → Looks told n a b → c.refused ≤ d.refused → d.refused ≤ e.refused → Confirmed told (page_number f below.number) a c d buffer below.found
    → LastListed told b f below end d e → ListsNext told (pack a) f (end - 1) c e
last_before {told} {a = a} {f = f} {c} {d} below end e looks less more found (inl here) =
    subst (λ n. IsListed told (pack a) (page_number f n) e ⊎ Refused c e) (sym here.0) (elim (listed_before (page_number f below.number) below.found.at c d e less more found.recent here.1) [
      | inl there ↦ inl (record { at = below.found.at; listed = there; carries = λ told. (found.stands told).carries })
      | inr rose ↦ inr rose
    ])
last_before {told} {a = a} {f = f} {c} {d} below end e looks less more found (inr lists) = elim lists [
  | inl x ↦ inl (record { at = x.at; listed = x.listed; carries = λ told. subst (λ (p : Pack). carried p x.at ≡ Some (page_number f (page_of_byte (end - 1)))) (looks_pack looks told) (x.carries told) })
  | inr rose ↦ inr (omega (arith, less, rose))
]

-- the page is listed
pub lists_end : {told : Bool} {a : Taped} {f : Fid} {end : ℕ} {c d : Cached} → Stops told a f end c d → ListsEnd told (pack a) f end c d
lists_end x =
    let few = few_bytes x.confirmed.seen in
    let upto = x.upto in
    let first = x.first in
    record {
      number = x.number;
      first = first;
      from = x.from;
      upto = omega (arith, few, upto, first);
      listed = elim x.confirmed.lists.here [ inl is ↦ inl (record { at = x.here.at; listed = is; carries = λ told. (x.confirmed.stands told).carries }) | inr refused ↦ inr refused ];
    }

-- ---- the page to go on from
-- a full page of a whole pack has one after it
after_full : {told : Bool} (a : Taped) {f : Fid} {n : ℕ} {found : Found} → Whole (pack a) → IsTrue told → 1 ≤ n → Known told (pack a) a.form (page_number f n) found → found.info.bytes ≡ 512 → (k : ℕ) × (place (sights (pack a)) f (suc n) ≡ Some k)
after_full a {f} {n} {found} whole told first known full =
    let p = pack a in
    let once = once_of_whole p whole in
    let sector = placed_once once told first known in
    let slice = (page_is_a_slice p f (n - 1) found.at (full_before_known whole told first known) sector).within in
    let counts = counts_once once told first known in
    let low = leader_placed p f (n - 1) found.at whole sector in
    let e = ending p f low.0 whole low.1 in
    by (nat_lt n (file_length p f / 512)) refl (omega (arith, slice, counts, full, first)) e.at e.sector
  where
    by : (t : Bool) → nat_lt n (file_length (pack a) f / 512) ≡ t → 512 * n ≤ file_length (pack a) f → (i : ℕ) → place (sights (pack a)) f (page_of_byte (file_length (pack a) f)) ≡ Some i → (k : ℕ) × (place (sights (pack a)) f (suc n) ≡ Some k)
    by true e long i last = let less : n < file_length (pack a) f / 512 = grind (arith, nat_tests) in let before = (each_file_has_its_end (pack a) f).before.each n less in (before.at, before.sector)
    by false e long i last =
        let more : file_length (pack a) f / 512 ≤ n = grind (arith, nat_tests) in
        let number : suc n ≡ page_of_byte (file_length (pack a) f) = omega (arith, long, more) in
        (i, ap (place (sights (pack a)) f) number ∙ last)

-- with true links the page that the next byte is in, or would be, is listed
pub lists_next : {told : Bool} {a : Taped} {f : Fid} {end : ℕ} {c d : Cached} → Whole (pack a) → LinksTrue (pack a) → IsTrue told → Stops told a f end c d → ListsNext told (pack a) f end c d
lists_next {told} {a} {f} {end} {c} {d} whole links is x = by (nat_lt end (512 * x.number)) refl
  where
    p : Pack
    p = pack a

    few : x.here.info.bytes ≤ 512
    few = few_bytes x.confirmed.seen

    by : (t : Bool) → nat_lt end (512 * x.number) ≡ t → ListsNext told p f end c d
    by true e =
        let less : end < 512 * x.number = grind (arith, nat_tests) in
        let first = x.first in
        let from = x.from in
        let number : x.number ≡ page_of_byte end = omega (arith, less, first, from) in
        subst (λ n. IsListed told p (page_number f n) d ⊎ Refused c d) number (elim x.confirmed.lists.here [ inl here ↦ inl (record { at = x.here.at; listed = here; carries = λ told. (x.confirmed.stands told).carries }) | inr refused ↦ inr refused ])
    by false e =
        let more : 512 * x.number ≤ end = grind (arith, nat_tests) in
        let first = x.first in
        let upto = x.upto in
        let known = known_of x.confirmed in
        let full : x.here.info.bytes ≡ 512 = omega (arith, more, upto, few, first) in
        let number : x.number + 1 ≡ page_of_byte end = omega (arith, more, upto, few, first) in
        let next = after_full a whole is first known full in
        let k = next.0 in
        let above : suc (x.number - 1) ≡ x.number = omega (arith, first) in
        let after : x.number + 1 ≡ suc x.number = omega arith in
        let there : place (sights p) f x.number ≡ Some x.here.at = subst (λ n. place (sights p) f n ≡ Some x.here.at) above (placed_once (once_of_whole p whole) is first known) in
        let link = next_link_names_the_page_after p f x.number x.here.at whole links there in
        let named = ap (λ (i : PageInfo). i.next) (known.tells is) ∙ link ∙ ap (link_to p.shape) next.1 in
        let small = page_numbers_are_words p f (suc x.number) k next.1 in
        let listed = x.confirmed.lists.next k (record { full = inr full; more = omega (arith, small) }) (record { first = placed_first p f x.number k next.1; last = placed_within p f x.number k next.1; named = sym named }) in
        subst (λ n. IsListed told p (page_number f n) d ⊎ Refused c d) number (elim listed [
          | inl there ↦ inl (record { at = k; listed = there; carries = λ told. place_carried p (page_number f (x.number + 1)) k (ap (place (sights p) f) after ∙ next.1) })
          | inr refused ↦ inr refused
        ])
