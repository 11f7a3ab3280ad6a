-- Typed bytes as lines.
-- The rules of lines are this project's choice.
use Rattle.std.specs.Prelude.{◌≡◌, ◌⊎◌, ℕ, ◌+◌, ◌==◌, ◌^◌, Bool, cond, nat_le, List, [], ◌∷◌, ◌++◌, length, take, drop}

-- so many typed bytes are obeyed in one session; those after them don't count
unfoldable pub most_keys : ℕ
most_keys = 2 ^ 31

-- a longer line is a bad line
unfoldable pub longest_line : ℕ
longest_line = 4096

-- the lines of the keys, where these bytes of the first one have come already: each ends with a byte 10, except a last
-- one that isn't empty
abbrev pub lines_from : List ℕ → List ℕ → List (List ℕ)
lines_from [] [] = []
lines_from (b ∷ line) [] = (b ∷ line) ∷ []
lines_from line (key ∷ keys) = cond (key == 10) (line ∷ lines_from [] keys) (lines_from (line ++ key ∷ []) keys)

-- the lines of the keys that count, the last of which needn't be ended
abbrev pub lines : List ℕ → List (List ℕ)
lines keys = lines_from [] (take most_keys keys)

-- those that end with a byte 10
abbrev pub ended_from : List ℕ → List ℕ → List (List ℕ)
ended_from line [] = []
ended_from line (key ∷ keys) = cond (key == 10) (line ∷ ended_from [] keys) (ended_from (line ++ key ∷ []) keys)

-- those that are ended by a byte 10
abbrev pub ended_lines : List ℕ → List (List ℕ)
ended_lines keys = ended_from [] (take most_keys keys)

-- a line of more bytes than a line may have
abbrev pub is_too_long : List ℕ → Bool
is_too_long line = nat_le (longest_line + 1) (length line)

-- ---- the keys that were taken
-- the keys of these lines, each with the byte 10 that ends it
abbrev pub keys_of : List (List ℕ) → List ℕ
keys_of [] = []
keys_of (line ∷ lines) = line ++ 10 ∷ keys_of lines

-- The keys taken are those of so many first lines, and no key after them. Where the last line isn't ended by a byte 10, they
-- are all keys that count, and these are all their lines.
abbrev pub TookLines : List ℕ → List ℕ → List ℕ → ℕ → Type 0
TookLines old new taken count = (taken ≡ keys_of (take count (lines old))) ⊎ ((count ≡ length (lines old)) × (new ≡ drop most_keys old))
