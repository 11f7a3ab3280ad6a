-- Small cases of bytes, names and slots, by computation.
use Rattle.std.proofs.Common.{◌≡◌, ℕ, Bool, List, [], ◌∷◌, ◌++◌, refl}
use Rattle.std.specs.Prelude.{◌||◌, codes, replicate}
use Rattle.std.specs.Fmt.{digits}
use Rattle.pack_laws.specs.alto_words.specs.Fid.{sys_dir}
use Rattle.pack_laws.specs.alto_words.specs.Names.{suffixed, lost, is_stored_name, is_same_name}
use Rattle.pack_laws.specs.pack_model.specs.reading.Bytes.{bytes_of, words_of, put_at}
use Rattle.pack_laws.specs.pack_model.specs.reading.Slots.{slots, slots_after, slot_at, is_entry}
use Rattle.pack_laws.specs.pack_model.specs.reading.Slots.Item.{space, entry}
use Rattle.pack_laws.specs.pack_model.specs.reading.SlotWords.{entry_words, space_words, slots_at}
use Rattle.pack_laws.specs.pack_model.specs.reading.Namings.{sys_dir_name}
use Rattle.pack_laws.specs.pack_model.specs.showing.Settling.{chosen_from}
use Rattle.pack_vectors.proofs.SmallPacks.{file_3, dir_4}

-- ---- bytes and words
-- the high byte comes first
two_bytes : bytes_of (577 ∷ 11776 ∷ []) ≡ 2 ∷ 65 ∷ 46 ∷ 0 ∷ []
two_bytes = refl

-- a last odd byte is left out
odd_byte : words_of (2 ∷ 65 ∷ 46 ∷ []) ≡ 577 ∷ []
odd_byte = refl

-- bytes in the place of others
bytes_put : put_at 1 (codes "BB") (codes "ABCDE") ≡ codes "ABBDE"
bytes_put = refl

-- ---- names
-- the name's own dot stands before the suffix
first_suffix : suffixed (codes "X.") 1 ≡ codes "X.$1."
unfolding suffixed digits
first_suffix = refl

-- of 39 characters the first 36 stay, and with the greatest suffix the first 32
long_suffix : suffixed (replicate 38 97 ++ codes ".") 1 ≡ replicate 36 97 ++ codes "$1."
unfolding suffixed digits
long_suffix = refl

greatest_suffix : suffixed (replicate 38 97 ++ codes ".") 65535 ≡ replicate 32 97 ++ codes "$65535."
unfolding suffixed digits
greatest_suffix = refl

-- a name can be its own first suffix
own_suffix : suffixed (replicate 36 97 ++ codes "$1.") 1 ≡ replicate 36 97 ++ codes "$1."
unfolding suffixed digits
own_suffix = refl

-- serials in octal
lost_names : (lost 3 ≡ codes "Lost3.") × (lost 8 ≡ codes "Lost10.") × (lost 2147483647 ≡ codes "Lost17777777777.")
unfolding lost digits
lost_names = (refl, refl, refl)

-- the first choice that isn't taken: the name itself, and then its suffixes; case doesn't count
abbrev both_taken : List ℕ → Bool
both_taken name = is_same_name name (codes "x.") || is_same_name name (codes "X.$1.")

second_choice : chosen_from 5 both_taken (codes "X.") 0 ≡ codes "X.$2."
unfolding suffixed digits
second_choice = refl

-- ---- slots
-- the entry of `A.`, with its leader in sector 5
entry_written : entry_words file_3 5 (codes "A.") ≡ 1032 ∷ 0 ∷ 3 ∷ 1 ∷ 0 ∷ 5 ∷ 577 ∷ 11776 ∷ []
entry_written = refl

entry_read : slots (1032 ∷ 0 ∷ 3 ∷ 1 ∷ 0 ∷ 5 ∷ 577 ∷ 11776 ∷ []) ≡ entry file_3 (codes "A.") ∷ []
unfolding slots_after slot_at is_entry is_stored_name
entry_read = refl

-- an odd number of characters has no byte after it
odd_name : slots (entry_words sys_dir 1 sys_dir_name ++ space_words 3) ≡ entry sys_dir sys_dir_name ∷ space 3 ∷ []
unfolding slots_after slot_at is_entry is_stored_name
odd_name = refl

-- slots with the places of their first words, and the addresses in entries
placed_slots : slots_at (3 ∷ 9 ∷ 9 ∷ entry_words file_3 5 (codes "A.")) 0 (space 3 ∷ entry file_3 (codes "A.") ∷ [])
    ≡ record { place = 0; item = space 3; address = 0 } ∷ record { place = 3; item = entry file_3 (codes "A."); address = 5 } ∷ []
unfolding slots_at
placed_slots = refl

-- a numbered name is one as well
version_read : slots (entry_words file_3 5 (codes "A!2.") ++ entry_words dir_4 7 (codes "A!10.")) ≡ entry file_3 (codes "A!2.") ∷ entry dir_4 (codes "A!10.") ∷ []
unfolding slots_after slot_at is_entry is_stored_name digits
version_read = refl

-- what can't be read ends the slots: no words; words past the end; another type; word 4 not 0; the byte after an even number of
-- characters not 0; serial 0; versions 0 and 65,535; no stored name; names with a version 1, with a leading zero, or with no number; a
-- word too many
abbrev NoSlot : List ℕ → Type 0
NoSlot words = slots (2 ∷ 7 ∷ (words ++ 1 ∷ [])) ≡ space 2 ∷ []

no_slots :
    NoSlot (0 ∷ [])
    × NoSlot (4 ∷ 7 ∷ [])
    × NoSlot (2049 ∷ [])
    × NoSlot (1032 ∷ 0 ∷ 3 ∷ 1 ∷ 1 ∷ 5 ∷ 577 ∷ 11776 ∷ [])
    × NoSlot (1032 ∷ 0 ∷ 3 ∷ 1 ∷ 0 ∷ 5 ∷ 577 ∷ 11777 ∷ [])
    × NoSlot (1032 ∷ 32768 ∷ 0 ∷ 1 ∷ 0 ∷ 5 ∷ 577 ∷ 11776 ∷ [])
    × NoSlot (1032 ∷ 0 ∷ 3 ∷ 0 ∷ 0 ∷ 5 ∷ 577 ∷ 11776 ∷ [])
    × NoSlot (1032 ∷ 0 ∷ 3 ∷ 65535 ∷ 0 ∷ 5 ∷ 577 ∷ 11776 ∷ [])
    × NoSlot (1032 ∷ 0 ∷ 3 ∷ 1 ∷ 0 ∷ 5 ∷ 577 ∷ 16640 ∷ [])
    × NoSlot (entry_words file_3 5 (codes "A!1."))
    × NoSlot (entry_words file_3 5 (codes "A!02."))
    × NoSlot (entry_words file_3 5 (codes "A!."))
    × NoSlot (1033 ∷ 0 ∷ 3 ∷ 1 ∷ 0 ∷ 5 ∷ 577 ∷ 11776 ∷ 0 ∷ [])
unfolding slots_after slot_at is_entry is_stored_name digits
no_slots = (refl, refl, refl, refl, refl, refl, refl, refl, refl, refl, refl, refl, refl)
