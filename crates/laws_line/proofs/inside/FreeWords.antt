-- Free words in a row, when slots change.
use Rattle.std.proofs.Common.{◌++◌, ◌∷◌, ◌≤◌, List, [], append-nil, arith, ap, ℕ}
use Rattle.laws_room.specs.alto_words.specs.declared.fid.Fid.{Fid}
use Rattle.pack_model.specs.operations.Rooms.{largest_run, words_free}
use Rattle.pack_model.specs.reading.Slots.{Item}
use Rattle.pack_model.specs.reading.Slots.Item.{entry, space}

-- More words are free at the front, and in a row.
pub record MoreFree (a b : List Item) : Type 0 where
  pub front : words_free a ≤ words_free b
  pub row : largest_run a ≤ largest_run b

-- the same after others
pub more_after : (c a b : List Item) → MoreFree a b → MoreFree (c ++ a) (c ++ b)
more_after [] a b h = h
more_after (space k ∷ c) a b h = let r = more_after c a b h in let f = r.front in let g = r.row in record { front = omega arith; row = omega arith }
more_after (entry f name ∷ c) a b h = let r = more_after c a b h in let g = r.row in record { front = omega arith; row = omega arith }

-- slots after others have no longer row than all
pub row_behind : (a b : List Item) → largest_run b ≤ largest_run (a ++ b)
row_behind [] b = omega arith
row_behind (i ∷ a) b = let r = row_behind a b in omega arith

-- an entry's slot is made free
pub row_freed : (a b : List Item) (f : Fid) (name : List ℕ) (k : ℕ) → largest_run (a ++ entry f name ∷ b) ≤ largest_run (a ++ space k ∷ b)
row_freed a b f name k = (more_after a (entry f name ∷ b) (space k ∷ b) (record { front = omega arith; row = omega arith })).row

-- a page more
pub row_widened : (a b : List Item) → largest_run a ≤ largest_run (a ++ b)
row_widened a b = let h = (more_after a [] b (record { front = omega arith; row = omega arith })).row in let e = ap largest_run (append-nil a) in omega arith
