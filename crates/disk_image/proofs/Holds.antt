-- Bytes that are put beside bytes that are held, or over them, and bytes that are refused.
use Rattle.std.proofs.Common.{◌≡◌, ◌⊎◌, ⊎_elim, ℕ, ◌+◌, ◌-◌, ◌<◌, ◌≤◌, Bool, true, false, inl, inr, sym, subst, List, length, get_or, Option, Some, None, min, max, refl, ap, ◌∙◌, arith}
use Rattle.std.specs.Prelude.{if◌then◌else◌}
use Rattle.std.proofs.lemmas.Bool.{cases_Bool}
use Rattle.std.proofs.lemmas.Bool.Decides.{nat_tests}
use Rattle.std.proofs.lemmas.List.{places}
use Rattle.disk_records.specs.declared.records.Sector.{Sector}
use Rattle.disk_image.specs.declared.held.Held.{Held}
use Rattle.disk_image.specs.Holding.{is_among, first_place, Puts, HoldsAll, HoldsNone, IsLater, IsTooMuch, IsApart, IsRefused, TakesSector}
use Rattle.disk_image.specs.Images.{sector_bytes}
use borrow.Rule.Slice.PartMut.{put_mid}

inside : (buffer bytes : List ℕ) (o j : ℕ) → o + length bytes ≤ length buffer → o ≤ j → j < o + length bytes → get_or (put_mid o (o + length bytes - o) buffer bytes) j 0 ≡ get_or bytes (j - o) 0
inside buffer bytes o j fits low high = search (places, arith)

below : (buffer bytes : List ℕ) (o j : ℕ) → o + length bytes ≤ length buffer → j < o → get_or (put_mid o (o + length bytes - o) buffer bytes) j 0 ≡ get_or buffer j 0
below buffer bytes o j fits low = search (places, arith)

above : (buffer bytes : List ℕ) (o j : ℕ) → o + length bytes ≤ length buffer → o + length bytes ≤ j → get_or (put_mid o (o + length bytes - o) buffer bytes) j 0 ≡ get_or buffer j 0
above buffer bytes o j fits low = search (places, arith)

-- what is held of a buffer whose first byte is at a place of the file, from one place of the buffer up to another
abbrev in_buffer : List ℕ → ℕ → ℕ → ℕ → ℕ → Option ℕ
in_buffer buffer base from end k = if is_among (base + from) (end - from) k then Some (get_or buffer (k - base) 0) else None

abbrev put_buffer : List ℕ → List ℕ → ℕ → List ℕ
put_buffer buffer bytes o = put_mid o (o + length bytes - o) buffer bytes

-- the bytes that are put are held
in_them : (buffer bytes : List ℕ) (base o f e k : ℕ) (old : Option ℕ) → o + length bytes ≤ length buffer → f ≤ o → o + length bytes ≤ e → is_among (base + o) (length bytes) k ≡ true → in_buffer (put_buffer buffer bytes o) base f e k ≡ (if is_among (base + o) (length bytes) k then Some (get_or bytes (k - (base + o)) 0) else old)
in_them buffer bytes base o f e k old fits low high among =
    let low_k : base + o ≤ k = grind (arith, nat_tests) in
    let high_k : k < base + o + length bytes = grind (arith, nat_tests) in
    let here : is_among (base + f) (e - f) k ≡ true = grind (arith, nat_tests) in
    let place : k - base - o ≡ k - (base + o) = omega arith in
    rw (among, here) (ap Some (inside buffer bytes o (k - base) fits (omega arith) (omega arith) ∙ ap (λ (j : ℕ). get_or bytes j 0) place))

-- of the others those are held that were before
beside_them : (buffer bytes : List ℕ) (base o from end f e k : ℕ) (b : Bool) → o + length bytes ≤ length buffer → is_among (base + o) (length bytes) k ≡ false → is_among (base + f) (e - f) k ≡ b → is_among (base + from) (end - from) k ≡ b → in_buffer (put_buffer buffer bytes o) base f e k ≡ (if is_among (base + o) (length bytes) k then Some (get_or bytes (k - (base + o)) 0) else in_buffer buffer base from end k)
beside_them buffer bytes base o from end f e k false fits among new old = rw (among, new, old) refl
beside_them buffer bytes base o from end f e k true fits among new old =
    let off : (k - base < o) ⊎ (o + length bytes ≤ k - base) = grind (arith, nat_tests) in
    rw (among, new, old) (ap Some (⊎_elim (below buffer bytes o (k - base) fits) (above buffer bytes o (k - base) fits) off))

-- so many bytes that are put where nothing is held
pub puts_first : (buffer bytes items put now : List ℕ) (n base o at f e k : ℕ) (old : Option ℕ) → length bytes ≡ n → o + n ≤ length buffer → items ≡ buffer → put ≡ bytes → now ≡ put_mid o (o + n - o) items put → f ≡ o → e ≡ o + n → at ≡ base + o → old ≡ None → in_buffer now base f e k ≡ (if is_among at (length bytes) k then Some (get_or bytes (k - at) 0) else old)
puts_first buffer bytes items put now n base o at f e k old len room same also whole first last place none =
    let fits : o + length bytes ≤ length buffer = omega arith in
    rw (whole, ← len, same, also, first, last, ← len, place)
    (⊎_elim
    (λ (among : is_among (base + o) (length bytes) k ≡ true). in_them buffer bytes base o o (o + length bytes) k old fits (omega arith) (omega arith) among)
    (λ (among : is_among (base + o) (length bytes) k ≡ false).
    let new : is_among (base + o) (o + length bytes - o) k ≡ false = grind (arith, nat_tests) in
    rw (among, new, none) refl)
    (cases_Bool (is_among (base + o) (length bytes) k)))

-- so many bytes that are put over those that are held, or beside them
pub puts_more : (buffer bytes items put now : List ℕ) (n base o at from end f e k : ℕ) → length bytes ≡ n → o + n ≤ length buffer → from ≤ end → items ≡ buffer → put ≡ bytes → now ≡ put_mid o (o + n - o) items put → f ≡ min from o → e ≡ max end (o + n) → at ≡ base + o → o ≤ end → from ≤ o + n → in_buffer now base f e k ≡ (if is_among at (length bytes) k then Some (get_or bytes (k - at) 0) else in_buffer buffer base from end k)
puts_more buffer bytes items put now n base o at from end f e k len room ordered same also whole first last place low high =
    let fits : o + length bytes ≤ length buffer = omega arith in
    rw (whole, ← len, same, also, place)
    (⊎_elim
    (λ (among : is_among (base + o) (length bytes) k ≡ true). in_them buffer bytes base o f e k _ fits (omega arith) (omega arith) among)
    (λ (among : is_among (base + o) (length bytes) k ≡ false). beside_them buffer bytes base o from end f e k (is_among (base + from) (end - from) k) fits among (grind (arith, nat_tests)) refl)
    (cases_Bool (is_among (base + o) (length bytes) k)))

-- bytes that are put where nothing is held are all that is held
pub puts_alone : (at : ℕ) (bytes : List ℕ) (ahead new : Held) → HoldsNone ahead → Puts at bytes ahead new → HoldsAll at bytes new
puts_alone at bytes ahead new none puts k = puts k ∙ ap (λ (old : Option ℕ). if is_among at (length bytes) k then Some (get_or bytes (k - at) 0) else old) (none k)

-- where nothing is held bytes are refused only if no memory is left
pub refused_by_none : (at count : ℕ) (held : Held) → HoldsNone held → IsRefused at count held → IsTooMuch at count held
refused_by_none at count held none refused = ⊎_elim (λ (much : IsTooMuch at count held). much) (λ (apart : IsApart at count held).
    let among : is_among (first_place held) (held.end - held.from) (first_place held) ≡ true = grind (arith, nat_tests, apart.0) in
    let there = rw among at (none (first_place held)) in cc) refused

-- a sector is taken: beside those bytes that are held, alone, or, with no memory left, not held
pub takes_beside : (at : ℕ) (s : Sector) (old put new : Held) → new ≡ put → IsLater at old → Puts at (sector_bytes s) old put → TakesSector at s old new
takes_beside at s old put new same later puts = subst (λ (held : Held). TakesSector at s old held) (sym same) (inl (later, puts))

pub takes_alone : (at here : ℕ) (s : Sector) (old ahead put new : Held) → here ≡ at → new ≡ put → IsRefused at 532 old → HoldsNone ahead → Puts here (sector_bytes s) ahead put → TakesSector at s old new
takes_alone at here s old ahead put new place same why none puts =
    let there = subst (λ (n : ℕ). Puts n (sector_bytes s) ahead put) place puts in
    subst (λ (held : Held). TakesSector at s old held) (sym same) (inr (why, inl (puts_alone at (sector_bytes s) ahead put none there)))

pub takes_none : (at here : ℕ) (s : Sector) (old ahead new : Held) → here ≡ at → new ≡ ahead → IsRefused at 532 old → HoldsNone ahead → IsRefused here 532 ahead → TakesSector at s old new
takes_none at here s old ahead new place same why none again =
    let there = subst (λ (n : ℕ). IsRefused n 532 ahead) place again in
    subst (λ (held : Held). TakesSector at s old held) (sym same) (inr (why, inr (refused_by_none at 532 ahead none there, none)))
