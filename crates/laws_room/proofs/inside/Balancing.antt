-- What a scavenge keeps, by the files as it will find them.
use Rattle.std.proofs.Common.{ap, arith, ◌+◌, ◌≡◌}
use Rattle.laws_operation.specs.disk_records.specs.Packs.{Pack}
use Rattle.laws_operation.specs.pack_model.specs.states.InUse.{available}
use Rattle.laws_operation.specs.pack_model.specs.scavenger.Mended.{lacking, mended, needs}
use Rattle.laws_operation.specs.pack_model.specs.reading.Model.{Model, descriptor_pages, good_sectors}
use Rattle.laws_operation.specs.pack_model.specs.scavenger.Needed.{needed}
use Rattle.laws_operation.specs.pack_model.specs.showing.Settling.{settle, show}
use Rattle.laws_operation.specs.pack_model.specs.reading.Sights.{sights}
use Rattle.laws_operation.specs.pack_model.specs.showing.View.{view}
use Rattle.laws_room.proofs.inside.Rooming.{counting_theorem}
use Rattle.laws_room.specs.KeepLaws.{KeepsWithRoot}
use Rattle.laws_record.proofs.Systemic.{MendedStay, mended_same}

-- what is needed is read off the files
pub needs_files : (m n : Model) → m.files ≡ n.files → needs m ≡ needs n
unfolding needs lacking view
needs_files m n e = ap (λ fs. needs (record { shape = m.shape; good = m.good; last = m.last; files = fs })) e

-- where as much is needed, this is kept, where sector 1 may become SysDir's leader
pub needs_keep : (p q : Pack) → q.shape ≡ p.shape → good_sectors (sights q) ≡ good_sectors (sights p) → needs (mended q.shape (sights q)) ≡ needs (mended p.shape (sights p)) → show q ≡ show p → KeepsWithRoot p q
needs_keep p q shape good need shown root =
    let a = (counting_theorem p).needed_is in
    let b = (counting_theorem q).needed_is in
    let d = ap descriptor_pages shape in
    let balance : available q.shape (sights q) + needed p.shape (sights p) ≡ available p.shape (sights p) + needed q.shape (sights q) = omega arith in
    record {
      shown = shown;
      balance = balance;
      scavengeable = λ h. record { root = root h.root; room = (let r = h.room in omega arith) };
    }

-- so it is where the files as the Scavenger will find them stay
pub mended_keeps : (p q : Pack) → MendedStay p q → KeepsWithRoot p q
unfolding mended
mended_keeps p q s = needs_keep p q s.shape s.good (needs_files (mended q.shape (sights q)) (mended p.shape (sights p)) s.files) (ap settle (mended_same p q s))
