-- The record writes of a growth after the look for the last page, which writes nothing.
use Rattle.std.proofs.Common.{Err, List, Result, Some, [], ap, subst, sym, ℕ, ◌++◌, ◌∙◌, ◌≡◌}
use Rattle.alto_words.specs.declared.fid.Fid.{Fid}
use Rattle.disk_records.proofs.Growing.{added-twice, pack-silent}
use Rattle.disk_records.specs.Packs.{Pack}
use Rattle.disk_records.specs.Tapes.{DiskAlone, Taped, added, pack}
use Rattle.disk_records.specs.declared.records.Event.{Event}
use Rattle.page_seeking.specs.Seeking.{IsLast, file_length}
use Rattle.page_seeking.specs.declared.ends.LastPage.{LastPage}
use Rattle.page_seeking.specs.declared.refs.FileError.{FileError}
use Rattle.pack_model.specs.operations.Committing.{page_of_byte}
use Rattle.pack_model.specs.reading.Files.{place}
use Rattle.pack_model.specs.reading.Sights.{sights}
use Rattle.file_pages.specs.Growing.{WritesAs, growth_writes}

one_place : {a b : ℕ} → Some a ≡ Some b → a ≡ b
one_place e = cc

pub nothing_written : {T : Type 0} (writes events : List Event) (e : FileError) → events ≡ [] → WritesAs {T = T} writes events (Err e)
nothing_written {T} writes events e none = subst (λ l. WritesAs {T = T} writes l (Err e)) (sym none) (record { some = tt; all = tt })

module _ (a b d : Taped) (one : DiskAlone a b) (two : DiskAlone b d) (silent : added a b ≡ []) (f : Fid) (last : LastPage) (is : IsLast (pack a) f last) (at : ℕ) (there : place (sights (pack a)) f (page_of_byte (file_length (pack a) f)) ≡ Some at) where
  same_place : last.at ≡ at
  same_place = one_place (sym is.placed ∙ ap (λ n. place (sights (pack a)) f n) is.number ∙ there)

  pub written_after : {T : Type 0} (new past fresh : List ℕ) (result : Result T FileError) → WritesAs (growth_writes (pack b) f last.at new past fresh) (added b d) result → WritesAs (growth_writes (pack a) f at new past fresh) (added a d) result
  written_after new past fresh result writes =
      let packs : pack b ≡ pack a = pack-silent one.grown silent in
      let same : added a d ≡ added b d = added-twice one.grown two.grown ∙ ap (λ l. l ++ added b d) silent in
      subst (λ l. WritesAs (growth_writes (pack a) f at new past fresh) l result) (sym same)
      (subst (λ (p : Pack). WritesAs (growth_writes p f at new past fresh) (added b d) result) packs
      (subst (λ i. WritesAs (growth_writes (pack b) f i new past fresh) (added b d) result) same_place writes))
