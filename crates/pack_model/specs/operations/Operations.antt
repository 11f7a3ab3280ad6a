-- The record writes of the operations, in order, and the moves that they make.
-- The order of the record writes is this project's choice.
use Rattle.std.specs.Prelude.{ℕ, List, [], ◌∷◌, ◌++◌}
use Rattle.disk_records.specs.declared.records.Event.{Event}
use Rattle.disk_records.specs.Commands.{value_writes, relabel_writes, claim_writes, release_writes}
use Rattle.pack_model.specs.reading.Model.{Model}
use Rattle.pack_model.specs.operations.Step.{Operation, step}
use Rattle.pack_model.specs.operations.Commands.{Claim, claims_writes, releases_writes, values_writes}

-- ---- moves
-- What one record write does to the model: nothing; it commits an operation; it is the last of a scavenge, and the model is that
-- of the mended pack. So moves fix how many record writes there are and which of them commit. Which sector a quiet one is in, with
-- which words, and which quiet one comes first, is said by the lists of record writes below, which the calls' contracts cite.
pub data Move : Type 0 where
  quiet : Move
  commits : Operation → Move
  mends : Model → Move

-- the model after a move
abbrev pub moved : Model → Move → Model
moved m quiet = m
moved m (commits o) = step m o
moved m (mends n) = n

-- a move that is an operation
abbrev pub weight_of : Move → ℕ
weight_of quiet = 0
weight_of (commits o) = 1
weight_of (mends n) = 0

-- a claim is three record writes, all quiet
abbrev pub claims_moves : {X : Type 0} → List X → List Move
claims_moves [] = []
claims_moves (c ∷ cs) = quiet ∷ quiet ∷ quiet ∷ claims_moves cs

-- a release is two record writes, both quiet
abbrev pub releases_moves : {X : Type 0} → List X → List Move
releases_moves [] = []
releases_moves (c ∷ cs) = quiet ∷ quiet ∷ releases_moves cs

-- as many quiet moves
abbrev pub quiet_moves : {X : Type 0} → List X → List Move
quiet_moves [] = []
quiet_moves (v ∷ vs) = quiet ∷ quiet_moves vs

-- ---- make: claim page 1, then the leader, whose label is the operation; `make_claims` of `Commands` has the two claims
abbrev pub make_writes : Claim → Claim → List Event
make_writes page leader = claims_writes (page ∷ leader ∷ [])

-- a make takes place at the leader's label
abbrev pub make_moves : Operation → List Move
make_moves o = quiet ∷ quiet ∷ quiet ∷ quiet ∷ commits o ∷ quiet ∷ []

-- ---- put, title, stamp and leave: one value; `put_value`, `titled_value`, `stamped_value` and `freed_value` of `PageWords` are these
abbrev pub one_move : Operation → List Move
one_move o = commits o ∷ []

-- ---- grow, and widen: claim each new page, rising; the old last page's value; its label, which is the operation; its value again.
-- `Commands` has the words: `grown_claims`, `grown_label`, `grown_value`; for widen the new bytes are `widening_bytes`
abbrev pub grow_writes : List Claim → ℕ → List ℕ → List ℕ → List Event
grow_writes cs at label value = claims_writes cs ++ claim_writes at label value

-- a growth takes place at the label of the old last page
abbrev pub grow_moves : {X : Type 0} → List X → Operation → List Move
grow_moves cs o = claims_moves cs ++ (quiet ∷ commits o ∷ quiet ∷ [])

-- ---- cut: the label of the page that becomes the last, `cut_label`, is the operation, and its value stays as it is; then release the
-- later pages, rising
abbrev pub cut_writes : ℕ → List ℕ → List ℕ → List ℕ → List Event
cut_writes at label value later = relabel_writes at label value ++ releases_writes later

-- a cut takes place at its first record write
abbrev pub cut_moves : {X : Type 0} → Operation → List X → List Move
cut_moves o later = commits o ∷ quiet ∷ releases_moves later

-- ---- drop: ones in the leader's label are the operation; release the data pages, rising; and then one value, in which the
-- slot of the file's entry becomes free: `freed_value` of `PageWords` is this value. The file is gone before it.
abbrev pub release_file_writes : ℕ → List ℕ → List Event
release_file_writes at pages = release_writes at ++ releases_writes pages

abbrev pub drop_writes : ℕ → List ℕ → ℕ → List ℕ → List Event
drop_writes at pages slot_at value = release_file_writes at pages ++ value_writes slot_at value

-- a drop takes place at the leader's label, its first record write
abbrev pub release_file_moves : {X : Type 0} → Operation → List X → List Move
release_file_moves o pages = commits o ∷ quiet ∷ releases_moves pages

abbrev pub drop_moves : {X : Type 0} → Operation → List X → List Move
drop_moves o pages = release_file_moves o pages ++ quiet ∷ []

-- ---- enter: the values before the one that commits, which join the room's free slots, where they are several, and put the words
-- that lie over a page's end into the next page; and last the value of the page with the slot's first word, which is the operation.
-- `values_first` and `entry_value` of `Entering` are these values
abbrev pub enter_writes : List (ℕ × List ℕ) → ℕ → List ℕ → List Event
enter_writes before at value = values_writes before ++ value_writes at value

-- an entering takes place at its last value
abbrev pub enter_moves : {X : Type 0} → List X → Operation → List Move
enter_moves before o = quiet_moves before ++ commits o ∷ []
