-- The sectors in use before and after an operation.
use Rattle.std.proofs.Common.{ap, arith}
use Rattle.std.specs.FinMap.{entries}
use Rattle.laws_operation.specs.pack_model.specs.reading.Model.{descriptor_pages, files_pages, read_as}
use Rattle.laws_operation.specs.pack_model.specs.reading.Sights.{sights}
use Rattle.laws_room.proofs.FreeRoom.{in_use_pages}
use Rattle.laws_room.proofs.inside.BodyKinds.{read_kinds}
use Rattle.laws_room.proofs.Stepping.{step_pages}
use Rattle.laws_room.specs.UseLaws.{UseFollowsTheOperation}

-- they follow the operation
pub use_follows_the_operation : UseFollowsTheOperation
use_follows_the_operation p q o before behind shape fits reads =
    let was = in_use_pages p before in
    let now = in_use_pages q behind in
    let pages = step_pages (read_as p) (read_kinds p.shape (sights p)) o fits in
    let files = ap (λ m. files_pages (entries m.files)) reads in
    let own = ap descriptor_pages shape in
    omega arith
