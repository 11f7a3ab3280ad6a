-- What calls of a line require of the session, after other calls.
use Rattle.std.proofs.Common.{◌≡◌, ◌≤◌, ◌+◌, ℕ, List, Bool, length, min, sym, subst, ap, ◌∙◌, arith}
use Rattle.disk_records.specs.Addresses.{pages_of}
use Rattle.disk_records.specs.Tapes.{DiskAlone, Taped}
use Rattle.page_alloc.specs.Free.{IsReserved}
use Rattle.exec_steps.specs.Rooms.{pages_planned}
use Rattle.exec_steps.specs.declared.rooms.NewEntry.{NewEntry}
use Rattle.exec_session.specs.declared.session.Session.{Session}
use Rattle.exec_steps.specs.Asked.{Works}
use Rattle.exec_writing.proofs.NewSectors.{few_planned}

-- ---- the disk has the shape and the table that are kept
pub shape_worked : (old new : Taped) {a b : Session} → Works a b → DiskAlone old new → a.descriptor.shape ≡ old.form → b.descriptor.shape ≡ new.form
shape_worked old new w alone shape = w.shape ∙ shape ∙ sym alone.grown.form

pub sized_worked : (old new : Taped) {a b : Session} → Works a b → DiskAlone old new → length a.hints.table ≡ pages_of old.form → length b.hints.table ≡ pages_of new.form
sized_worked old new w alone sized = w.sized ∙ sized ∙ ap pages_of (sym alone.grown.form)

-- ---- the sectors that are asked for
pub asked_most : (e : NewEntry) (n more : ℕ) → n ≡ pages_planned e → more ≤ 60000 → min (n + 2 + more) 65535 ≡ pages_planned e + 2 + more
asked_most e n more is most = let few = few_planned e in omega (arith, is, few, most)

pub reserved_asked : (e : NewEntry) (n more end : ℕ) (bits : List Bool) (fresh : List ℕ) → n ≡ pages_planned e → more ≤ 60000 → IsReserved end (min (n + 2 + more) 65535) bits fresh → IsReserved end (pages_planned e + 2 + more) bits fresh
reserved_asked e n more end bits fresh is most h = subst (λ k. IsReserved end k bits fresh) (asked_most e n more is most) h

pub enough_sectors : (e : NewEntry) (more end : ℕ) (bits : List Bool) (fresh given : List ℕ) → given ≡ fresh → IsReserved end (pages_planned e + 2 + more) bits fresh → pages_planned e + 2 ≤ length given
enough_sectors e more end bits fresh given is h = let n = h.count in let same = ap length is in omega (arith, n, same)
