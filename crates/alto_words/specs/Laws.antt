-- What holds of full names, of names and of numbers in text.
use Rattle.std.specs.Prelude.{◌≡◌, ◌↔◌, ◌⊎◌, ℕ, ◌+◌, ◌^◌, ◌<◌, ◌≤◌, min, true, false, List, ◌++◌, length, map, codes, Some, decimal}
use Rattle.std.specs.Cmp.{IsTotalOrder}
use Rattle.std.specs.List.{All, list_all}
use Rattle.std.specs.Ordering.{nat_cmp, ordering_then}
use Rattle.std.specs.declared.cmp.Ordering.TheVariants.{Less, Equal}
use Rattle.alto_words.specs.declared.wanted.Wanted.TheVariants.{Newest}
use Rattle.alto_words.specs.Fid.{serial_of, is_directory, ordinary_fid, directory_fid}
use Rattle.alto_words.specs.Names.{is_name_character, is_bare_name, is_stored_name, is_same_name, name_in, fold_case, bytes_cmp, folded_cmp, base_of, version_of, versioned, after_kept, suffixed, lost}
use Rattle.alto_words.specs.Numbers.{number_in, bytes_in_hex, hex_of}
use Rattle.alto_words.specs.Wanted.{wanted_in}

-- ---- full names
-- the serial of the ordinary file and of the directory with a serial is that serial
abbrev pub SerialReadsBack : Type 0
SerialReadsBack = (serial : ℕ) → serial < 2 ^ 31 → (serial_of (ordinary_fid serial) ≡ serial) × (serial_of (directory_fid serial) ≡ serial)

-- a directory has the mark, and an ordinary file hasn't
abbrev pub MarkSaysDirectory : Type 0
MarkSaysDirectory = (serial : ℕ) → serial < 2 ^ 31 → (is_directory (ordinary_fid serial) ≡ false) × (is_directory (directory_fid serial) ≡ true)

-- ---- stored names
-- A name that states its version: name characters, `!`, a number from 2 to 65,534 in decimal without leading zeros, `.`; 39 characters
-- at most.
pub record IsNumbered (name : List ℕ) : Type 0 where
  pub text : List ℕ
  pub version : ℕ
  pub is : name ≡ text ++ codes "!" ++ decimal version ++ codes "."
  pub some : 1 ≤ length text
  pub characters : list_all is_name_character text ≡ true
  pub least : 2 ≤ version
  pub most : version ≤ 65534
  pub fits : length name ≤ 39

-- a stored name is bare or states its version
abbrev pub StoredByForm : Type 0
StoredByForm = (name : List ℕ) → (is_stored_name name ≡ true) ↔ ((is_bare_name name ≡ true) ⊎ IsNumbered name)

-- a bare name is a stored name, its own base, and version 1 of it
abbrev pub BareIsStored : Type 0
BareIsStored = (name : List ℕ) → is_bare_name name ≡ true → (is_stored_name name ≡ true) × (base_of name ≡ name) × (version_of name ≡ 1)

-- this name is this version of this bare name
pub record IsVersion (base : List ℕ) (version : ℕ) (name : List ℕ) : Type 0 where
  pub bare : is_bare_name base ≡ true
  pub least : 1 ≤ version
  pub most : version ≤ 65534
  pub is : name ≡ versioned base version
  pub fits : length name ≤ 39

-- a stored name is the version of its base that it says, and nothing else is
abbrev pub StoredIsMade : Type 0
StoredIsMade = (name base : List ℕ) (version : ℕ) → IsVersion base version name ↔ ((is_stored_name name ≡ true) × (base_of name ≡ base) × (version_of name ≡ version))

-- what a text stands for is a stored name
abbrev pub ParsedIsStored : Type 0
ParsedIsStored = (text name : List ℕ) → name_in text ≡ Some name → is_stored_name name ≡ true

-- each stored name is what its base, `!` and its version stand for
abbrev pub StoredIsStated : Type 0
StoredIsStated = (name : List ℕ) → is_stored_name name ≡ true → name_in (base_of name ++ codes "!" ++ decimal (version_of name)) ≡ Some name

-- what is wanted in its newest version is a bare name
abbrev pub NewestIsBare : Type 0
NewestIsBare = (text base : List ℕ) → wanted_in text ≡ Some (Newest base) → is_bare_name base ≡ true

-- ---- their order
-- the order of names is total: seen from the other name it is turned round, and it carries on from name to name
abbrev pub OrderIsTotal : Type 0
OrderIsTotal = IsTotalOrder folded_cmp

-- a bare name comes before a longer one that begins with it, in any case of its letters
abbrev pub PrefixComesFirst : Type 0
PrefixComesFirst = (name front rest : List ℕ) → is_bare_name name ≡ true → is_bare_name (front ++ rest) ≡ true → is_same_name name front ≡ true → 0 < length rest → folded_cmp name (front ++ rest) ≡ Less

-- two names are tied if and only if they are the same
abbrev pub OrderAgreesWithSame : Type 0
OrderAgreesWithSame = (a b : List ℕ) → (folded_cmp a b ≡ Equal) ↔ (is_same_name a b ≡ true)

-- stored names are the same if and only if their bases are and their versions are equal
abbrev pub SameByBaseAndVersion : Type 0
SameByBaseAndVersion = (a b : List ℕ) → is_stored_name a ≡ true → is_stored_name b ≡ true → (is_same_name a b ≡ true) ↔ ((is_same_name (base_of a) (base_of b) ≡ true) × (version_of a ≡ version_of b))

-- stored names are ordered by their bases in lower case, and then by their versions as numbers
abbrev pub OrderByBaseAndVersion : Type 0
OrderByBaseAndVersion = (a b : List ℕ) → is_stored_name a ≡ true → is_stored_name b ≡ true → folded_cmp a b ≡ ordering_then (bytes_cmp (map fold_case (base_of a)) (map fold_case (base_of b))) (nat_cmp (version_of a) (version_of b))

-- of one base, the newer version comes later
abbrev pub NewerComesLater : Type 0
NewerComesLater = (a b : List ℕ) → is_stored_name a ≡ true → is_stored_name b ≡ true → is_same_name (base_of a) (base_of b) ≡ true → version_of a < version_of b → folded_cmp a b ≡ Less

-- ---- names that are made
-- a stored name with a number in it is a stored name
abbrev pub SuffixedIsStored : Type 0
SuffixedIsStored = (name : List ℕ) (k : ℕ) → is_stored_name name ≡ true → k ≤ 65535 → is_stored_name (suffixed name k) ≡ true

-- it has the base, the suffix, the version and a `.`, where 39 characters are enough for that
abbrev pub LengthSuffixed : Type 0
LengthSuffixed = (name : List ℕ) (k : ℕ) → k ≤ 65535 → length (suffixed name k) ≡ min (length (base_of name) + length (after_kept name k) + 1) 39

-- the name that stands for one that can't be read is a stored name
abbrev pub LostIsStored : Type 0
LostIsStored = (serial : ℕ) → serial < 2 ^ 32 → is_stored_name (lost serial) ≡ true

-- it has 6 to 16 characters
abbrev pub LengthLost : Type 0
LengthLost = (serial : ℕ) → serial < 2 ^ 32 → (6 ≤ length (lost serial)) × (length (lost serial) ≤ 16)

-- ---- numbers in text
-- a number's decimal digits are read as the number
abbrev pub NumberReadsBack : Type 0
NumberReadsBack = (n : ℕ) → n < 2 ^ 32 → number_in (decimal n) ≡ Some n

-- the digits of bytes are read as the bytes
abbrev pub HexReadsBack : Type 0
HexReadsBack = (bytes : List ℕ) → 0 < length bytes → All (λ b. b < 256) bytes → bytes_in_hex (hex_of bytes) ≡ Some bytes
