-- A call, after which what the disk holds back is handed on.
use Rattle.std.proofs.Common.{◌≡◌, ◌∙◌, inl, inr, arith, subst, sym, ap}
use Rattle.disk_records.specs.Causes.{Cause, IsCause, Unfailed, disk, display, keyboard, never, other}
use Rattle.disk_records.specs.Tapes.{Grown, Taped}
use Rattle.session_boot.specs.Faults.{IsSameOrFailed}

-- an answer has its cause in both calls if it has it in the first, and no fault of the disk came in the second
cause_later : (k : Cause) (a b c : Taped) → Grown b c → Unfailed b c → IsCause a b k → IsCause a c k
cause_later disk a b c grown none h = let more = grown.disk_faults in omega (arith, more, h)
cause_later keyboard a b c grown none h = let more = grown.key_faults in omega (arith, more, h)
cause_later display a b c grown none h = let more = grown.show_faults in omega (arith, more, h)
cause_later other a b c grown none h = none ∙ h
cause_later never a b c grown none h = h

-- an answer that was meant, or a fault of the disk in its place, has its cause
pub flushed_cause :
    {T : Type 0} (cause_of : T → Cause) (fault : T) → cause_of fault ≡ disk → (a b c : Taped) (meant result : T) → Grown a b → Grown b c → IsSameOrFailed fault b c meant result → IsCause a b (cause_of meant) → IsCause a c (cause_of result)
flushed_cause cause_of fault is_disk a b c meant result one two same cause =
    elim same [
      | inl is ↦ subst (λ r. IsCause a c (cause_of r)) (sym is.0) (cause_later (cause_of meant) a b c two is.1 cause)
      | inr failed ↦
          let less = one.disk_faults in
          let rose = failed.1 in
          subst (IsCause a c) (sym (ap cause_of failed.0 ∙ is_disk)) (omega (arith, less, rose))
    ]
