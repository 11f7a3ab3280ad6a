-- What a caller sees of a command line `[--cylinders C] [--second PACK2] PACK WORDS`.
use Rattle.std.specs.Prelude.{ℕ, ◌+◌, ◌&&◌, Bool, nat_eq, nat_le, if◌then◌else◌, List, [], ◌∷◌, Option, Some, None, codes}
use Rattle.std.specs.Option.{option_and_then}
use Rattle.std.specs.Cmp.Lexicographic.{pointwise}
use Rattle.alto_words.specs.Numbers.{number_in}
use Rattle.disk_image.specs.declared.start.Start.{Start}

-- whether a word is this option
abbrev pub is_option : List ℕ → List ℕ → Bool
is_option option word = pointwise nat_eq word option

-- the number of cylinders that a word gives: 2 to 406
abbrev pub allowed_cylinders : ℕ → Option ℕ
allowed_cylinders cylinders = if nat_le 2 cylinders && nat_le cylinders 406 then Some cylinders else None

abbrev pub cylinders_in : List ℕ → Option ℕ
cylinders_in word = option_and_then allowed_cylinders (number_in word)

-- after `--second`, which stands at word n: PACK2, PACK and the words
abbrev pub second_from : Option ℕ → ℕ → List (List ℕ) → Option Start
second_from c n [] = None
second_from c n (second ∷ []) = None
second_from c n (second ∷ pack ∷ words) = Some (record { cylinders = c; second = Some (n + 1); pack = n + 2; rest = n + 3 })

-- from word n on: `--second PACK2` or not, and PACK
abbrev pub packs_from : Option ℕ → ℕ → List (List ℕ) → Option Start
packs_from c n [] = None
packs_from c n (word ∷ words) = if is_option (codes "--second") word then second_from c n words else Some (record { cylinders = c; second = None; pack = n; rest = n + 1 })

-- after `--cylinders`: C, and the packs
abbrev pub after_option : List (List ℕ) → Option Start
after_option [] = None
after_option (number ∷ words) = option_and_then (λ c. packs_from (Some c) 2 words) (cylinders_in number)

-- each option stands in its place or not at all
abbrev pub start_of : List (List ℕ) → Option Start
start_of [] = None
start_of (word ∷ words) = if is_option (codes "--cylinders") word then after_option words else packs_from None 0 (word ∷ words)
