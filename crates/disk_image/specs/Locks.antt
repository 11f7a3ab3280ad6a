-- The lock of a pack file.
use Rattle.disk_image.specs.declared.locks.Purpose.{Purpose}
use Rattle.disk_image.specs.declared.locks.Purpose.TheVariants.{Reading, Writing}

-- the file got the lock that its purpose asks for: one that rules out all others, or that others may have too
abbrev pub HasLock : {F : Type 0} → (F → Type 0) → (F → Type 0) → Purpose → F → Type 0
HasLock alone shared Reading file = shared file
HasLock alone shared Writing file = alone file
