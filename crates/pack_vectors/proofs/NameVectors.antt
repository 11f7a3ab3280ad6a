-- Small cases of names with versions: which are stored, what typed texts stand for, bases, versions, the order, suffixes.
use Rattle.std.proofs.Common.{◌≡◌, true, false, List, [], ◌++◌, Some, None, Less, Equal, Greater, refl}
use Rattle.std.specs.Prelude.{ℕ, codes, replicate}
use Rattle.std.specs.Fmt.{digits}
use Rattle.pack_laws.specs.alto_words.specs.Names.{is_stored_name, is_same_name, folded_cmp, base_of, version_of, versioned, name_in, suffixed}

-- so many letters
abbrev letters : ℕ → List ℕ
letters n = replicate n 97

-- ---- stored names
-- bare ones; numbered ones, of which the bare name stands before the mark without its last `.`; 39 characters of each
stored :
    (is_stored_name (codes "A.") ≡ true)
    × (is_stored_name (codes "a-Z+09.$.") ≡ true)
    × (is_stored_name (letters 38 ++ codes ".") ≡ true)
    × (is_stored_name (codes "A!2.") ≡ true)
    × (is_stored_name (codes "A!10.") ≡ true)
    × (is_stored_name (codes "A.B!65534.") ≡ true)
    × (is_stored_name (codes ".!2.") ≡ true)
    × (is_stored_name (letters 36 ++ codes "!2.") ≡ true)
    × (is_stored_name (letters 32 ++ codes "!65534.") ≡ true)
unfolding is_stored_name digits
stored = (refl, refl, refl, refl, refl, refl, refl, refl, refl)

-- one character; no final `.`; other characters; 40 characters, with a version too
unstored :
    (is_stored_name (codes ".") ≡ false)
    × (is_stored_name (codes "A!2") ≡ false)
    × (is_stored_name (codes "A_B.") ≡ false)
    × (is_stored_name (codes "A B!2.") ≡ false)
    × (is_stored_name (letters 39 ++ codes ".") ≡ false)
    × (is_stored_name (letters 37 ++ codes "!2.") ≡ false)
unfolding is_stored_name digits
unstored = (refl, refl, refl, refl, refl, refl)

-- no number after the mark; version 0; version 1, which isn't spelled; leading zeros; a version above 65,534; nothing before the mark;
-- two marks; two dots after the number; a number that isn't one
unversioned :
    (is_stored_name (codes "A!.") ≡ false)
    × (is_stored_name (codes "A!0.") ≡ false)
    × (is_stored_name (codes "A!1.") ≡ false)
    × (is_stored_name (codes "A!02.") ≡ false)
    × (is_stored_name (codes "A!65535.") ≡ false)
    × (is_stored_name (codes "!2.") ≡ false)
    × (is_stored_name (codes "A!2!3.") ≡ false)
    × (is_stored_name (codes "A!2..") ≡ false)
    × (is_stored_name (codes "A!2x.") ≡ false)
unfolding is_stored_name digits
unversioned = (refl, refl, refl, refl, refl, refl, refl, refl, refl)

-- ---- typed texts
-- a `.` is added where none ends the text; with a stated version one `.` of the text before the mark is dropped, and version 1 is that of
-- the bare name
parsed :
    (name_in (codes "A") ≡ Some (codes "A."))
    × (name_in (codes "A.") ≡ Some (codes "A."))
    × (name_in (codes "A..") ≡ Some (codes "A.."))
    × (name_in (codes "A!2") ≡ Some (codes "A!2."))
    × (name_in (codes "A.!2.") ≡ Some (codes "A!2."))
    × (name_in (codes "A..!2") ≡ Some (codes "A.!2."))
    × (name_in (codes "..!2") ≡ Some (codes ".!2."))
    × (name_in (codes "A!1.") ≡ Some (codes "A."))
    × (name_in (letters 37 ++ codes "!1") ≡ Some (letters 37 ++ codes "."))
unfolding is_stored_name digits
parsed = (refl, refl, refl, refl, refl, refl, refl, refl, refl)

unparsed :
    (name_in [] ≡ None)
    × (name_in (codes "A!") ≡ None)
    × (name_in (codes "A!0") ≡ None)
    × (name_in (codes "A!01") ≡ None)
    × (name_in (codes "A!65535") ≡ None)
    × (name_in (codes "A!2..") ≡ None)
    × (name_in (codes "A!2!3") ≡ None)
    × (name_in (codes "!2") ≡ None)
    × (name_in (codes ".!2") ≡ None)
    × (name_in (letters 39) ≡ None)
    × (name_in (letters 37 ++ codes "!2") ≡ None)
unfolding is_stored_name digits
unparsed = (refl, refl, refl, refl, refl, refl, refl, refl, refl, refl, refl)

-- ---- bases and versions
parts :
    (base_of (codes "A.B!10.") ≡ codes "A.B.")
    × (base_of (codes "A.") ≡ codes "A.")
    × (version_of (codes "A.B!10.") ≡ 10)
    × (version_of (codes "A!65534.") ≡ 65534)
    × (version_of (codes "A.") ≡ 1)
    × (versioned (codes "A.") 2 ≡ codes "A!2.")
    × (versioned (codes "A.") 1 ≡ codes "A.")
unfolding digits
parts = (refl, refl, refl, refl, refl, refl, refl)

same :
    (is_same_name (codes "aB!2.") (codes "Ab!2.") ≡ true)
    × (is_same_name (codes "A!2.") (codes "A!3.") ≡ false)
    × (is_same_name (codes "A!2.") (codes "A.") ≡ false)
same = (refl, refl, refl)

-- versions are compared as numbers, and after the bases: the mark doesn't stand among the characters
ordered :
    (folded_cmp (codes "A.") (codes "a!2.") ≡ Less)
    × (folded_cmp (codes "A!2.") (codes "a!10.") ≡ Less)
    × (folded_cmp (codes "A!10.") (codes "A.B.") ≡ Less)
    × (folded_cmp (codes "A!2.") (codes "A+.") ≡ Greater)
    × (folded_cmp (codes "b.") (codes "A!65534.") ≡ Greater)
    × (folded_cmp (codes "aB!2.") (codes "Ab!2.") ≡ Equal)
ordered = (refl, refl, refl, refl, refl, refl)

-- ---- suffixes
-- the suffix stands after the base, and the version after the suffix; of 39 characters these two leave 30, and 26 for the longest
numbered_suffixes :
    (suffixed (codes "X!2.") 1 ≡ codes "X.$1!2.")
    × (suffixed (codes "X.$1!2.") 1 ≡ codes "X.$1.$1!2.")
    × (suffixed (letters 32 ++ codes "!65534.") 1 ≡ letters 30 ++ codes "$1!65534.")
    × (suffixed (letters 32 ++ codes "!65534.") 65535 ≡ letters 26 ++ codes "$65535!65534.")
unfolding suffixed digits
numbered_suffixes = (refl, refl, refl, refl)
