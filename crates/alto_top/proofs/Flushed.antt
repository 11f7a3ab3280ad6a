-- A reading call, after which what the disk holds back is handed on.
use Rattle.std.proofs.Common.{◌≡◌, Bool, ℕ, IsTrue, subst, sym}
use Rattle.disk_records.proofs.Growing.{alone_twice}
use Rattle.disk_records.specs.Tapes.{DiskAlone, Looks, Taped}

pub looks_on : (told : Bool) (most : ℕ) (old mid new : Taped) → Looks told most old mid → DiskAlone mid new → (IsTrue told → new ≡ mid) → Looks told most old new
looks_on told most old mid new looks alone same = record {
  alone = alone_twice looks.alone alone;
  silent = λ is_told. (subst (Looks told most old) (sym (same is_told)) looks).silent is_told;
  runs = λ is_told. (subst (Looks told most old) (sym (same is_told)) looks).runs is_told;
}
