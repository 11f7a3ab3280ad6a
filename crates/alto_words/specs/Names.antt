-- Names of files, over lists of bytes.
use Rattle.std.specs.Prelude.{◌≡◌, ℕ, ◌+◌, ◌-◌, ◌*◌, ◌<◌, ◌==◌, ◌&&◌, ◌||◌, Bool, false, cond, min, nat_le, nat_eq, List, [], ◌∷◌, ◌++◌, length, take, get_or, map, codes, fold, Option, Some, None}
use Rattle.std.specs.declared.cmp.Ordering.{Ordering}
use Rattle.std.specs.Ordering.{nat_cmp, then_cmp, on}
use Rattle.std.specs.List.{list_all}
use Rattle.std.specs.Option.{is_none}
use Rattle.std.specs.Cmp.Lexicographic.{pointwise, slice_cmp}
use Rattle.std.specs.Fmt.{digits, decimal}

abbrev pub is_letter : ℕ → Bool
is_letter c = (nat_le 65 c && nat_le c 90) || (nat_le 97 c && nat_le c 122)

abbrev pub is_digit : ℕ → Bool
is_digit c = nat_le 48 c && nat_le c 57

-- an ASCII letter, a digit or one of `+ - . $`
abbrev pub is_name_character : ℕ → Bool
is_name_character c = is_letter c || is_digit c || c == 43 || c == 45 || c == 46 || c == 36

abbrev pub last_byte : List ℕ → ℕ
last_byte [] = 0
last_byte (b ∷ []) = b
last_byte (b ∷ c ∷ bytes) = last_byte (c ∷ bytes)

-- the value of decimal digits, the first one first
abbrev pub decimal_value : List ℕ → ℕ
decimal_value text = fold (λ n digit. n * 10 + (digit - 48)) 0 text

-- all but the last byte
abbrev pub but_last : List ℕ → List ℕ
but_last text = take (length text - 1) text

-- ---- a stored name is a bare name with a version
-- a bare name: 2 to 39 name characters, the last a `.`
abbrev pub is_bare_name : List ℕ → Bool
is_bare_name name = nat_le 2 (length name) && nat_le (length name) 39 && list_all is_name_character name && last_byte name == 46

-- the greatest version
abbrev pub most_version : ℕ
most_version = 65534

-- what stands before the first `!`; all bytes where there is none
abbrev pub before_mark : List ℕ → List ℕ
before_mark [] = []
before_mark (c ∷ text) = cond (c == 33) [] (c ∷ before_mark text)

-- what stands after it, if there is one
abbrev pub after_mark : List ℕ → Option (List ℕ)
after_mark [] = None
after_mark (c ∷ text) = cond (c == 33) (Some text) (after_mark text)

-- the first `!` of a text stands at this place
pub record IsFirstMark (text : List ℕ) (at : ℕ) : Type 0 where
  pub within : at < length text
  pub here : get_or text at 0 ≡ 33
  pub first : after_mark (take at text) ≡ None

-- the base of a name that has this after its first `!`, if it has one
abbrev pub base_by : List ℕ → Option (List ℕ) → List ℕ
base_by name None = name
base_by name (Some after) = before_mark name ++ 46 ∷ []

-- the base of a name: what stands before its `!`, and a `.`; a name without `!` is its own base
abbrev pub base_of : List ℕ → List ℕ
base_of name = base_by name (after_mark name)

-- the version that is stated before the last of these bytes, which stand after a `!`; 1 where there is no `!`
abbrev pub version_by : Option (List ℕ) → ℕ
version_by None = 1
version_by (Some after) = min most_version (decimal_value (but_last after))

-- its version: the number between `!` and the final `.`; without `!` it is 1. It is at most the greatest one, whatever bytes these are
abbrev pub version_of : List ℕ → ℕ
version_of name = version_by (after_mark name)

-- `!` and a version; version 1 is written without
abbrev pub version_text : ℕ → List ℕ
version_text n = cond (n == 1) [] (33 ∷ decimal n)

-- the name with this bare name as its base, and this version
abbrev pub versioned : List ℕ → ℕ → List ℕ
versioned base n = but_last base ++ version_text n ++ (46 ∷ [])

-- A stored name: at most 39 bytes, which are those of a bare name with a version from 1 to 65,534. So it is a bare name, or
-- `TEXT!n.` with a bare name `TEXT.` and n from 2 to 65,534, in decimal without leading zeros.
unfoldable pub is_stored_name : List ℕ → Bool
is_stored_name name =
    nat_le (length name) 39 && is_bare_name (base_of name) && nat_le 1 (version_of name) && nat_le (version_of name) most_version
    && pointwise nat_eq name (versioned (base_of name) (version_of name))

-- the name that is stored as these bytes, if there is one
abbrev pub stored_in : List ℕ → Option (List ℕ)
stored_in bytes = cond (is_stored_name bytes) (Some bytes) None

-- ---- what a text stands for
-- a final `.` where it is missing
abbrev pub with_dot : List ℕ → List ℕ
with_dot text = cond (last_byte text == 46) text (text ++ 46 ∷ [])

-- the number that a version is stated as: 1 to 65,534 in decimal, without leading zeros
abbrev pub version_in : List ℕ → Option ℕ
version_in digits =
    let n = decimal_value digits in
    cond (nat_le 1 n && nat_le n most_version && pointwise nat_eq digits (decimal n)) (Some n) None

-- without a final `.`, if it has one
abbrev pub without_dot : List ℕ → List ℕ
without_dot text = cond (last_byte text == 46) (but_last text) text

-- the stored name of this base and version, if there is one
abbrev pub stored_with : List ℕ → Option ℕ → Option (List ℕ)
stored_with base None = None
stored_with base (Some n) = stored_in (versioned base n)

-- the name of a text that has this after its first `!`, if it has one
abbrev pub name_by : List ℕ → Option (List ℕ) → Option (List ℕ)
name_by text None = stored_in (with_dot text)
name_by text (Some after) = stored_with (with_dot (before_mark text)) (version_in (without_dot after))

-- the name that a text stands for, if it stands for one: `TEXT` and `TEXT.`, and with a stated version `TEXT!n` and `TEXT!n.`, where
-- TEXT may end with the `.` of its name
abbrev pub name_in : List ℕ → Option (List ℕ)
name_in text = name_by text (after_mark text)

-- the bare name that a text without `!` stands for
abbrev pub bare_in : List ℕ → Option (List ℕ)
bare_in text = cond (is_none (after_mark text)) (name_in text) None

-- the name of a bare name's version, where it has at most 39 characters
abbrev pub with_version : List ℕ → ℕ → Option (List ℕ)
with_version base n = cond (nat_le (length (versioned base n)) 39) (Some (versioned base n)) None

-- ---- names in any case, and their order
-- a letter in lower case
abbrev pub fold_case : ℕ → ℕ
fold_case c = cond (nat_le 65 c && nat_le c 90) (c + 32) c

-- equal without regard to ASCII case
abbrev pub is_same_name : List ℕ → List ℕ → Bool
is_same_name a b = pointwise nat_eq (map fold_case a) (map fold_case b)

-- the order of bytes, a prefix first
abbrev pub bytes_cmp : List ℕ → List ℕ → Ordering
bytes_cmp = slice_cmp nat_cmp

-- the order of names: by base, and then by version. Stored names that tie by both are equal; other bytes are ordered by themselves then
abbrev pub version_cmp : List ℕ → List ℕ → Ordering
version_cmp = then_cmp (on base_of bytes_cmp) (then_cmp (on version_of nat_cmp) bytes_cmp)

-- that of the lower-case bytes
abbrev pub folded_cmp : List ℕ → List ℕ → Ordering
folded_cmp a b = version_cmp (map fold_case a) (map fold_case b)

-- ---- names that are made
-- `$` and a number: what follows a taken name, before its version and the final `.`
abbrev pub suffix_of : ℕ → List ℕ
suffix_of k = 36 ∷ decimal k

-- the characters that a suffix and the version of a name take
abbrev pub after_kept : List ℕ → ℕ → List ℕ
after_kept name k = suffix_of k ++ version_text (version_of name)

-- a name with a number in it: the first characters of its base, the base's own `.` with them, as many as leave room in 39; the
-- suffix; its version; `.`
unfoldable pub suffixed : List ℕ → ℕ → List ℕ
suffixed name k = take (38 - length (after_kept name k)) (base_of name) ++ after_kept name k ++ (46 ∷ [])

-- the name that stands for one that can't be read: `Lost`, the serial in octal, `.`
unfoldable pub lost : ℕ → List ℕ
lost serial = codes "Lost" ++ digits 8 false serial ++ (46 ∷ [])
