use Rattle.std.proofs.Common.{◌≡◌, [], replicate, refl, arith}
use Rattle.std.specs.Prelude.{All}
use Rattle.std.proofs.lemmas.List.Elements.{All-nil, All-replicate}
use Rattle.scav_names.specs.Rooms.{IsSize}
use Rattle.scav_names.proofs.Finding.{all_zero, from_first}
use Rattle.scav_names.proofs.rooms.Rooms.new.Goals as goal

pub returns : goal.returns
returns c =
    let zeros : All (λ x. x ≡ 0) (replicate 27 0) = All-replicate (λ x. x ≡ 0) 27 0 refl in
    record {
      rooms_are = record { free = c.new.ensures.empty; end_is = refl; few = omega arith; sizes = All-nil IsSize; lengths = refl; passed = λ n most. from_first n _ [] (all_zero (replicate 27 0) n zeros) };
      none_placed = zeros;
    }
