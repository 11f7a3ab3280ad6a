-- What a list ends as, where a `&mut` to its items is returned.
use Rattle.std.specs.Prelude.{List}
use Rattle.std.specs.Borrow.{Lends, Fml, RattleType, MutBor}
use Rattle.std.specs.contracts.alloc.Global as global
use Rattle.std.specs.contracts.impls.GlobalAllocator.TheImpl.{ghosts}
use Rattle.std.specs.contracts.vec.Vec as vec
use Rattle.alto_words.specs.contracts.list.List.{the_row}

-- a `Vec`, as the logic holds it
abbrev pub vec_row : RattleType → RattleType
vec_row T = vec.the_row T global.the_row ghosts

-- once the borrow r ends, the list has the items that r refers to last
abbrev pub LendsItems : (T : RattleType) → MutBor (List T.Denot) → MutBor (vec_row T).Denot → Fml
LendsItems T list r = Lends (the_row T) (vec_row T) list r (λ v. v.items)
