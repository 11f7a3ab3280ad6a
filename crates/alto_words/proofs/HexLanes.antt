-- Hexadecimal digits in vectors: what the operations on 16 lanes make is what the definitions say.
use Rattle.std.proofs.Common.{◌≡◌, ℕ, zero, suc, ◌+◌, ◌*◌, ◌-◌, ◌%◌, ◌^◌, ◌<◌, min, max, Bool, true, false, cond, not, ◌&&◌, ◌==◌, leb, ltb, List, [], ◌∷◌, ◌++◌, length, map, take, drop, get_or, set, replicate, flat_map, Option, Some, None, bit_and, bit_or, refl, ap, sym, subst, ◌∙◌, arith, append_assoc, length-take, take-add}
use Rattle.std.specs.Fmt.{digit_glyph}
use Rattle.std.specs.List.{list_all}
use Rattle.std.specs.Simd.Lanes.{Each1, chunk, mask_l, pick_l, sel_l, top, zip2}
use Rattle.std.proofs.lemmas.Bool.{agree_below_at, and_parts, eqb-true, ltb-true, not-true}
use Rattle.std.proofs.lemmas.Bool.Decides.{nat_tests}
use Rattle.std.proofs.lemmas.List.{drop-drop, take_more, take_more_set}
use Rattle.std.proofs.lemmas.List.Concat.{flat_map-append}
use Rattle.std.proofs.lemmas.Nat.{or_shifted}
use Rattle.std.proofs.lemmas.Simd.{pick_l_whole}
use Rattle.alto_words.specs.Numbers.{bytes_if, digit_value, is_digit_value, hex_digit, hex_byte, hex_pairs, hex_of_byte, hex_of}

-- what is shown of each element is shown of what is made of it
pub Each1-map : {X Y : Type 0} (P : X → Type 0) (Q : Y → Type 0) (f : X → Y) → ((x : X) → P x → Q (f x)) → (xs : List X) → Each1 P xs → Each1 Q (map f xs)
Each1-map P Q f each [] all = tt
Each1-map P Q f each (x ∷ xs) all = (each x all.0, Each1-map P Q f each xs all.1)

lane_glyph : (v : ℕ) → v < 16 → ((v + 48) % 256 + cond (ltb 9 v) 39 0) % 256 ≡ digit_glyph false v
lane_glyph v small = grind (arith, nat_tests)

-- each lane becomes the digit of its value
pub lane_glyphs : (n : ℕ) (vs : List ℕ) → length vs ≡ n → Each1 (λ v. v < 16) vs
    → zip2 (λ a b. (a + b) % 256) (zip2 (λ a b. (a + b) % 256) vs (replicate n 48)) (sel_l (zip2 ltb (replicate n 9) vs) (replicate n 39) (replicate n 0)) ≡ map (digit_glyph false) vs
lane_glyphs zero [] long small = refl
lane_glyphs zero (v ∷ vs) long small = absurd cc
lane_glyphs (suc n) [] long small = absurd cc
lane_glyphs (suc n) (v ∷ vs) long small = λ i. lane_glyph v small.0 i ∷ lane_glyphs n vs (omega (arith, long)) small.1 i

-- where `interleave` takes its lanes from
abbrev pub front_places : List ℕ
front_places = 0 ∷ 16 ∷ 1 ∷ 17 ∷ 2 ∷ 18 ∷ 3 ∷ 19 ∷ 4 ∷ 20 ∷ 5 ∷ 21 ∷ 6 ∷ 22 ∷ 7 ∷ 23 ∷ []

abbrev pub back_places : List ℕ
back_places = 8 ∷ 24 ∷ 9 ∷ 25 ∷ 10 ∷ 26 ∷ 11 ∷ 27 ∷ 12 ∷ 28 ∷ 13 ∷ 29 ∷ 14 ∷ 30 ∷ 15 ∷ 31 ∷ []

-- two vectors that are made of one, interleaved, have each lane's two after each other
pub interleaved : (f g : ℕ → ℕ) (xs : List ℕ) → length xs ≡ 16
    → pick_l 0 (map f xs ++ map g xs) front_places ++ pick_l 0 (map f xs ++ map g xs) back_places ≡ flat_map (λ x. f x ∷ g x ∷ []) xs
interleaved f g xs long =
    subst (λ (l : List ℕ). pick_l 0 (map f l ++ map g l) front_places ++ pick_l 0 (map f l ++ map g l) back_places ≡ flat_map (λ x. f x ∷ g x ∷ []) l)
    (pick_l_whole 0 xs 16 long) refl

-- the digits of one more block
pub hex_of-chunk : (bytes : List ℕ) (at n : ℕ) → hex_of (take at bytes) ++ hex_of (chunk at n bytes) ≡ hex_of (take (at + n) bytes)
hex_of-chunk bytes at n = sym (flat_map-append hex_of_byte (take at bytes) (chunk at n bytes)) ∙ ap hex_of (sym (take-add at n bytes))

-- two parts after each other are one
pub chunk-append : {X : Type 0} (xs : List X) (i n m : ℕ) → chunk i n xs ++ chunk (i + n) m xs ≡ chunk i (n + m) xs
chunk-append xs i n m = ap (λ rest. chunk i n xs ++ take m rest) (sym (drop-drop n i xs)) ∙ sym (take-add n m (drop i xs))

-- where `deinterleave` takes its lanes from
abbrev pub high_places : List ℕ
high_places = 0 ∷ 2 ∷ 4 ∷ 6 ∷ 8 ∷ 10 ∷ 12 ∷ 14 ∷ 16 ∷ 18 ∷ 20 ∷ 22 ∷ 24 ∷ 26 ∷ 28 ∷ 30 ∷ []

abbrev pub low_places : List ℕ
low_places = 1 ∷ 3 ∷ 5 ∷ 7 ∷ 9 ∷ 11 ∷ 13 ∷ 15 ∷ 17 ∷ 19 ∷ 21 ∷ 23 ∷ 25 ∷ 27 ∷ 29 ∷ 31 ∷ []

-- what is made of the two of each pair
abbrev pub paired : (ℕ → ℕ → ℕ) → List ℕ → List ℕ
paired f [] = []
paired f (a ∷ []) = []
paired f (a ∷ b ∷ text) = f a b ∷ paired f text

-- a byte from two values, as two lanes give it
abbrev pub joined : ℕ → ℕ → ℕ
joined high low = bit_or (high * 2 ^ 4 % 2 ^ 8) low

-- a vector's digits, parted and joined, are the bytes of the pairs
pub deinterleaved : (f : ℕ → ℕ) (text : List ℕ) → length text ≡ 32
    → zip2 bit_or (zip2 (λ a b. a * 2 ^ b % 2 ^ 8) (map f (pick_l 0 text high_places)) (replicate 16 4)) (map f (pick_l 0 text low_places)) ≡ paired (λ a b. joined (f a) (f b)) text
deinterleaved f text long =
    subst (λ (l : List ℕ). zip2 bit_or (zip2 (λ a b. a * 2 ^ b % 2 ^ 8) (map f (pick_l 0 l high_places)) (replicate 16 4)) (map f (pick_l 0 l low_places)) ≡ paired (λ a b. joined (f a) (f b)) l)
    (pick_l_whole 0 text 32 long) refl

-- the greater of a vector's two lanes are those of the pairs
pub deinterleaved_greater : (f : ℕ → ℕ) (text : List ℕ) → length text ≡ 32
    → zip2 max (map f (pick_l 0 text high_places)) (map f (pick_l 0 text low_places)) ≡ paired (λ a b. max (f a) (f b)) text
deinterleaved_greater f text long =
    subst (λ (l : List ℕ). zip2 max (map f (pick_l 0 l high_places)) (map f (pick_l 0 l low_places)) ≡ paired (λ a b. max (f a) (f b)) l)
    (pick_l_whole 0 text 32 long) refl

-- the lanes of one vector that are below those of another, as a comparison marks them
abbrev below : List ℕ → List ℕ → List Bool
below xs ys = map (top 7) (zip2 (λ a b. cond (ltb a b) 255 0) xs ys)

marked : (t : Bool) → leb (2 ^ 7) (cond t 255 0) ≡ t
marked false = refl
marked true = refl

greater_lane : (a b : ℕ) → cond (leb (2 ^ 7) (cond (ltb a b) 255 0)) b a ≡ max a b
greater_lane a b = ap (λ t. cond t b a) (marked (ltb a b)) ∙ grind (arith, nat_tests)

-- the greater of two lanes, as a comparison chooses it
pub max_lanes : (xs ys : List ℕ) → sel_l (below xs ys) ys xs ≡ zip2 max xs ys
max_lanes [] ys = refl
max_lanes (x ∷ xs) [] = refl
max_lanes (x ∷ xs) (y ∷ ys) = λ i. greater_lane x y i ∷ max_lanes xs ys i

less_lane : (x : ℕ) → x < 256 → (cond (leb (2 ^ 7) (cond (ltb x 6) 255 0)) 6 x + (256 - 6)) % 256 ≡ x - 6
less_lane x byte = ap (λ t. (cond t 6 x + (256 - 6)) % 256) (marked (ltb x 6)) ∙ grind (arith, nat_tests)

more_lane : (y : ℕ) → y < 256 → (10 + cond (leb (2 ^ 7) (cond (ltb y (255 - 10)) 255 0)) y (255 - 10)) % 256 ≡ min (y + 10) 255
more_lane y byte = ap (λ t. (10 + cond t y (255 - 10)) % 256) (marked (ltb y (255 - 10))) ∙ grind (arith, nat_tests)

lesser_lane : (a b : ℕ) → cond (leb (2 ^ 7) (cond (ltb a b) 255 0)) a b ≡ min a b
lesser_lane a b = ap (λ t. cond t a b) (marked (ltb a b)) ∙ grind (arith, nat_tests)

-- vectors of the distances from `9` and from `A`, and what `saturating_sub` and `saturating_add` make of them
abbrev from_nine : ℕ → List ℕ → List ℕ
from_nine n cs = zip2 (λ a b. (a + (256 - b)) % 256) cs (replicate n 58)

abbrev decimal_lanes : ℕ → List ℕ → List ℕ
decimal_lanes n cs =
    zip2 (λ a b. (a + b) % 256)
    (zip2 (λ a b. (a + (256 - b)) % 256) (sel_l (below (from_nine n cs) (replicate n 6)) (replicate n 6) (from_nine n cs)) (replicate n 6)) (replicate n 16)

abbrev from_a : ℕ → List ℕ → List ℕ
from_a n cs = zip2 (λ a b. (a + (256 - b)) % 256) (zip2 bit_and cs (replicate n 223)) (replicate n 65)

abbrev letter_lanes : ℕ → List ℕ → List ℕ
letter_lanes n cs =
    zip2 (λ a b. (a + b) % 256) (replicate n 10)
    (sel_l (below (from_a n cs) (map (λ a. 255 - a) (replicate n 10))) (from_a n cs) (map (λ a. 255 - a) (replicate n 10)))

-- each lane becomes the value of its digit
pub lane_values : (n : ℕ) (cs : List ℕ) → length cs ≡ n
    → sel_l (below (decimal_lanes n cs) (letter_lanes n cs)) (decimal_lanes n cs) (letter_lanes n cs) ≡ map digit_value cs
lane_values zero [] long = refl
lane_values zero (c ∷ cs) long = absurd cc
lane_values (suc n) [] long = absurd cc
lane_values (suc n) (c ∷ cs) long = λ i. lane_value c i ∷ lane_values n cs (omega (arith, long)) i
  where
    lane_value : (c : ℕ)
        → (let x = (c + (256 - 58)) % 256 in
        let y = (bit_and c 223 + (256 - 65)) % 256 in
        let decimal = ((cond (leb (2 ^ 7) (cond (ltb x 6) 255 0)) 6 x + (256 - 6)) % 256 + 16) % 256 in
        let letter = (10 + cond (leb (2 ^ 7) (cond (ltb y (255 - 10)) 255 0)) y (255 - 10)) % 256 in
        cond (leb (2 ^ 7) (cond (ltb decimal letter) 255 0)) decimal letter ≡ digit_value c)
    lane_value c =
        let x = (c + (256 - 58)) % 256 in
        let y = (bit_and c 223 + (256 - 65)) % 256 in
        let decimal = ((cond (leb (2 ^ 7) (cond (ltb x 6) 255 0)) 6 x + (256 - 6)) % 256 + 16) % 256 in
        let letter = (10 + cond (leb (2 ^ 7) (cond (ltb y (255 - 10)) 255 0)) y (255 - 10)) % 256 in
        lesser_lane decimal letter ∙ (λ i. min ((less_lane x (omega arith) i + 16) % 256) (more_lane y (omega arith) i))

-- no lane passes a test if and only if none has a bit in the mask
pub mask_none : (values : List ℕ) → (mask_l (map (leb 16) values) == 0) ≡ list_all is_digit_value values
mask_none [] = refl
mask_none (v ∷ values) = let rest = mask_none values in grind (arith, nat_tests)

is_told : Option ℕ → ℕ → Bool
is_told (Some d) v = (d == v) && is_digit_value v
is_told None v = not (is_digit_value v)

told : (o : Option ℕ) (v : ℕ) → is_told o v ≡ true → o ≡ cond (is_digit_value v) (Some v) None
unfolding is_told
told (Some d) v e =
    let parts = and_parts (d == v) (is_digit_value v) e in
    ap Some (eqb-true d v parts.0) ∙ ap (λ t. cond t (Some v) None) (sym parts.1)
told None v e = ap (λ t. cond t (Some v) None) (sym (not-true (is_digit_value v) e))

-- a byte's value is a digit's exactly where the byte is that digit
pub hex_digit-value : (c : ℕ) → c < 256 → hex_digit c ≡ cond (is_digit_value (digit_value c)) (Some (digit_value c)) None
unfolding is_told
hex_digit-value c byte = told (hex_digit c) (digit_value c) (agree_below_at (λ n. is_told (hex_digit n) (digit_value n)) (λ _. true) 256 c refl byte)

joined-is : (high low : ℕ) → is_digit_value high ≡ true → is_digit_value low ≡ true → joined high low ≡ high * 16 + low
joined-is high low h l =
    let small : low < 2 ^ 4 = ltb-true low 16 l in
    let whole : high * 2 ^ 4 % 2 ^ 8 ≡ high * 2 ^ 4 = omega (arith, ltb-true high 16 h) in
    ap (λ n. bit_or n low) whole ∙ or_shifted high 4 low small

hex_byte-cond : (a b r : Bool) (high low byte : ℕ) (bytes : List ℕ) → (a ≡ true → b ≡ true → byte ≡ high * 16 + low)
    → hex_byte (cond a (Some high) None) (cond b (Some low) None) (bytes_if r bytes) ≡ bytes_if ((a && b) && r) (byte ∷ bytes)
hex_byte-cond false b r high low byte bytes same = refl
hex_byte-cond true false r high low byte bytes same = refl
hex_byte-cond true true false high low byte bytes same = refl
hex_byte-cond true true true high low byte bytes same = ap (λ n. Some (n ∷ bytes)) (sym (same refl refl))

greater_digit : (a b : ℕ) → (is_digit_value a && is_digit_value b) ≡ is_digit_value (max a b)
greater_digit a b = grind (arith, nat_tests)

-- digits in pairs are the bytes of their values, where no value is another byte's
pub hex_pairs-paired : (text : List ℕ) → Each1 (λ c. c < 256) text → length text % 2 ≡ 0
    → hex_pairs text ≡ bytes_if (list_all is_digit_value (paired (λ a b. max (digit_value a) (digit_value b)) text)) (paired (λ a b. joined (digit_value a) (digit_value b)) text)
hex_pairs-paired [] bytes even = refl
hex_pairs-paired (a ∷ []) bytes even = absurd (omega (arith, even))
hex_pairs-paired (a ∷ b ∷ text) bytes even =
    let values = list_all is_digit_value (paired (λ a b. max (digit_value a) (digit_value b)) text) in
    let rest = paired (λ a b. joined (digit_value a) (digit_value b)) text in
    (λ i. hex_byte (hex_digit-value a bytes.0 i) (hex_digit-value b bytes.1.0 i) (hex_pairs-paired text bytes.1.1 (omega (arith, even)) i))
    ∙ hex_byte-cond (is_digit_value (digit_value a)) (is_digit_value (digit_value b)) values (digit_value a) (digit_value b) (joined (digit_value a) (digit_value b)) rest
    (joined-is (digit_value a) (digit_value b))
    ∙ ap (λ t. bytes_if (t && values) (joined (digit_value a) (digit_value b) ∷ rest)) (greater_digit (digit_value a) (digit_value b))

-- a vector passes with the lanes that are the greater of its own and another's if and only if both pass
pub greater_lanes : (n : ℕ) (xs ys : List ℕ) → length xs ≡ n → length ys ≡ n
    → (list_all is_digit_value xs && list_all is_digit_value ys) ≡ list_all is_digit_value (zip2 max xs ys)
greater_lanes n [] [] l m = refl
greater_lanes n [] (y ∷ ys) l m = absurd (omega (arith, l, m))
greater_lanes n (x ∷ xs) [] l m = absurd (omega (arith, l, m))
greater_lanes n (x ∷ xs) (y ∷ ys) l m =
    swapped (is_digit_value x) (list_all is_digit_value xs) (is_digit_value y) (list_all is_digit_value ys)
    ∙ (λ i. greater_digit x y i && greater_lanes (n - 1) xs ys (omega (arith, l)) (omega (arith, m)) i)
  where
    swapped : (a r b s : Bool) → ((a && r) && (b && s)) ≡ ((a && b) && (r && s))
    swapped false r b s = refl
    swapped true false false s = refl
    swapped true false true s = refl
    swapped true true b s = refl

-- the bytes of two texts, where both have them
abbrev both : Option (List ℕ) → Option (List ℕ) → Option (List ℕ)
both (Some bytes) (Some next) = Some (bytes ++ next)
both (Some bytes) None = None
both None more = None

both-none : (more : Option (List ℕ)) → more ≡ both (Some []) more
both-none None = refl
both-none (Some next) = refl

hex_byte-both : (high low : Option ℕ) (rest more : Option (List ℕ)) → hex_byte high low (both rest more) ≡ both (hex_byte high low rest) more
hex_byte-both None low rest more = refl
hex_byte-both (Some high) None rest more = refl
hex_byte-both (Some high) (Some low) None more = refl
hex_byte-both (Some high) (Some low) (Some bytes) None = refl
hex_byte-both (Some high) (Some low) (Some bytes) (Some next) = refl

hex_pairs-both : (text more : List ℕ) → length text % 2 ≡ 0 → hex_pairs (text ++ more) ≡ both (hex_pairs text) (hex_pairs more)
hex_pairs-both [] more even = both-none (hex_pairs more)
hex_pairs-both (a ∷ []) more even = absurd (omega (arith, even))
hex_pairs-both (a ∷ b ∷ text) more even =
    ap (hex_byte (hex_digit a) (hex_digit b)) (hex_pairs-both text more (omega (arith, even)))
    ∙ hex_byte-both (hex_digit a) (hex_digit b) (hex_pairs text) (hex_pairs more)

both-if : (t u : Bool) (bytes next : List ℕ) → both (bytes_if t bytes) (bytes_if u next) ≡ bytes_if (t && u) (bytes ++ next)
both-if false u bytes next = refl
both-if true false bytes next = refl
both-if true true bytes next = refl

-- after digits in pairs, digits in pairs give their bytes after the others'
pub hex_pairs-append : (text more bytes next : List ℕ) (t u : Bool) → length text % 2 ≡ 0 → hex_pairs text ≡ bytes_if t bytes → hex_pairs more ≡ bytes_if u next
    → hex_pairs (text ++ more) ≡ bytes_if (t && u) (bytes ++ next)
hex_pairs-append text more bytes next t u even e f = hex_pairs-both text more even ∙ (λ i. both (e i) (f i)) ∙ both-if t u bytes next

-- one more pair
pub hex_pairs-pair : (text bytes : List ℕ) (at high low : ℕ) (t : Bool) → 2 * at + 1 < length text → at < length bytes
    → get_or text (2 * at) 0 < 256 → get_or text (2 * at + 1) 0 < 256 → high ≡ digit_value (get_or text (2 * at) 0) → low ≡ digit_value (get_or text (2 * at + 1) 0)
    → hex_pairs (take (2 * at) text) ≡ bytes_if t (take at bytes)
    → hex_pairs (take (2 * (at + 1)) text) ≡ bytes_if (t && (is_digit_value high && is_digit_value low)) (take (at + 1) (set bytes at ((high * 16 % 256 + low) % 256)))
hex_pairs-pair text bytes at high low t within room first second h l before =
    let a = get_or text (2 * at) 0 in
    let b = get_or text (2 * at + 1) 0 in
    let byte = (high * 16 % 256 + low) % 256 in
    let u = is_digit_value high && is_digit_value low in
    let two : 2 * (at + 1) ≡ 2 * at + 1 + 1 = omega arith in
    let of_a : hex_digit a ≡ cond (is_digit_value high) (Some high) None = hex_digit-value a first ∙ ap (λ v. cond (is_digit_value v) (Some v) None) (sym h) in
    let of_b : hex_digit b ≡ cond (is_digit_value low) (Some low) None = hex_digit-value b second ∙ ap (λ v. cond (is_digit_value v) (Some v) None) (sym l) in
    let pair : hex_pairs (a ∷ b ∷ []) ≡ bytes_if u (byte ∷ []) =
    (λ i. hex_byte (of_a i) (of_b i) (Some []))
    ∙ hex_byte-cond (is_digit_value high) (is_digit_value low) true high low byte [] (whole high low)
    ∙ ap (λ v. bytes_if v (byte ∷ [])) (and_one u) in
    ap (λ n. hex_pairs (take n text)) two
    ∙ ap hex_pairs
    (take_more text (2 * at + 1) 0 within ∙ ap (λ l. l ++ b ∷ []) (take_more text (2 * at) 0 (omega arith))
    ∙ append_assoc (take (2 * at) text) (a ∷ []) (b ∷ []))
    ∙ hex_pairs-append (take (2 * at) text) (a ∷ b ∷ []) (take at bytes) (byte ∷ []) t u (omega (arith, length-take (2 * at) text)) before pair
    ∙ ap (bytes_if (t && u)) (sym (take_more_set bytes at byte room))
  where
    and_one : (t : Bool) → (t && true) ≡ t
    and_one true = refl
    and_one false = refl

    whole : (high low : ℕ) → is_digit_value high ≡ true → is_digit_value low ≡ true → (high * 16 % 256 + low) % 256 ≡ high * 16 + low
    whole high low h l = omega (arith, ltb-true high 16 h, ltb-true low 16 l)
