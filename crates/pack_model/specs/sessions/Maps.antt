-- Finite maps with other values.
-- It has no source outside: plain maps.
use Rattle.std.specs.Prelude.{List, [], ◌∷◌, Option, Some, None}
use Rattle.std.specs.declared.cmp.Ordering.{Ordering}
use Rattle.std.specs.FinMap.{FinMap, from_entries, entries, insert, get}

abbrev pub map_entries : {K X Y : Type 0} → (K → X → Y) → List (K × X) → List (K × Y)
map_entries g [] = []
map_entries g (e ∷ es) = (e.0, g e.0 e.1) ∷ map_entries g es

-- the same keys, each with a value made from it and its old one
unfoldable pub map_values : {K X Y : Type 0} {R : K → K → Ordering} → (K → X → Y) → FinMap R X → FinMap R Y
map_values g m = from_entries (map_entries g (entries m))

-- the value of a key is changed, where there is one
abbrev pub update_found : {K X : Type 0} {R : K → K → Ordering} → FinMap R X → K → (X → X) → Option X → FinMap R X
update_found m k g None = m
update_found m k g (Some x) = insert m k (g x)

-- the value of a key is changed, where it has one
abbrev pub update : {K X : Type 0} {R : K → K → Ordering} → FinMap R X → K → (X → X) → FinMap R X
update m k g = update_found m k g (get m k)
