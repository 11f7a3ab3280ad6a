-- Where the record writes of the calls below go: in usable sectors, and none is of a header.
use Rattle.std.proofs.Common.{ℕ, Bool, IsTrue, inl, inr}
use Rattle.alto_words.specs.declared.fid.Fid.{Fid}
use Rattle.disk_records.proofs.Framing.{carried_usable, free_usable, usable_looks, usable_twice, writes_map}
use Rattle.disk_records.specs.Frames.{IsFreeSector, IsPageOf, IsUsableSector, WritesIn, WritesUsable}
use Rattle.disk_records.specs.Packs.{Pack}
use Rattle.disk_records.specs.Tapes.{DiskAlone, Looks, Taped, added, pack}
use Rattle.file_pages.specs.Growing.{IsEndOrFree}
use Rattle.page_seeking.specs.Seeking.{page_number}

end_or_free_usable : (f : Fid) (p : Pack) (at : ℕ) → IsEndOrFree f p at → IsUsableSector p at
end_or_free_usable f p at (inl end) = carried_usable p at (page_number f end.number) end.carries
end_or_free_usable f p at (inr free) = free_usable p at free

module _ {told : Bool} {a b : Taped} where
  -- pages of a file
  pub usable_pages : (f : Fid) → DiskAlone a b → (IsTrue told → WritesIn (IsPageOf f (pack a)) (added a b)) → WritesUsable told a b
  usable_pages f alone frame = λ h. writes_map (IsPageOf f (pack a)) (IsUsableSector (pack a)) (λ at page. carried_usable (pack a) at (page_number f page.number) page.carries) (added a b) (frame h)

  -- free sectors
  pub usable_free : DiskAlone a b → (IsTrue told → WritesIn (IsFreeSector (pack a)) (added a b)) → WritesUsable told a b
  usable_free alone frame = λ h. writes_map (IsFreeSector (pack a)) (IsUsableSector (pack a)) (free_usable (pack a)) (added a b) (frame h)

  -- the page that ends a file, and free sectors
  pub usable_end_or_free : (f : Fid) → DiskAlone a b → (IsTrue told → WritesIn (IsEndOrFree f (pack a)) (added a b)) → WritesUsable told a b
  usable_end_or_free f alone frame = λ h. writes_map (IsEndOrFree f (pack a)) (IsUsableSector (pack a)) (end_or_free_usable f (pack a)) (added a b) (frame h)

-- a call after one that looked
pub usable_looked : {told : Bool} {most : ℕ} {a b c : Taped} → Looks told most a b → DiskAlone b c → WritesUsable told b c → WritesUsable told a c
usable_looked looks alone second = usable_twice looks.alone alone (usable_looks looks) second
