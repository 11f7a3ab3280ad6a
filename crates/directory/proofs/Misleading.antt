-- Misled answers: none where links are true, and what else holds of them.
use Rattle.std.proofs.Common.{[], ap, sym, ◌∙◌, ◌≡◌, ℕ, List, Option, Result, Ok, Err}
use Rattle.alto_words.specs.declared.fid.Fid.{Fid}
use Rattle.disk_records.specs.Packs.{AreFormed, Pack}
use Rattle.disk_records.specs.declared.records.Page.{Page}
use Rattle.disk_records.specs.declared.records.Place.TheVariants.{Held}
use Rattle.disk_records.specs.declared.records.Place.{Place}
use Rattle.file_pages.specs.Calls.{WasFound, WasHeld}
use Rattle.pack_model.specs.hints.Links.{LinksTrue}
use Rattle.page_seeking.proofs.TrueLinks.{never_led}
use Rattle.page_seeking.specs.Refs.{MisledBy}
use Rattle.page_seeking.specs.declared.refs.FileError.TheVariants as fault
use Rattle.page_seeking.specs.declared.refs.FileRef.{FileRef}
use Rattle.directory.specs.declared.errors.DirError.{DirError}
use Rattle.directory.specs.declared.errors.DirError.TheVariants.{NoSuchName, NameTaken, NoSlot, File}
use Rattle.directory.specs.Asked.{DirStands}
use Rattle.directory.specs.Errors.{IfMisled}

-- where links are true none is answered
pub dir_never_led : {T : Type 0} (p : Pack) (dir : FileRef) (r : Result T DirError) → AreFormed p → DirStands p dir → LinksTrue p → IfMisled r (MisledBy p [] dir.fid) → IfMisled r (λ place at wanted found. ⊥)
dir_never_led p dir (Ok x) formed stands links misled = tt
dir_never_led p dir (Err NoSuchName) formed stands links misled = tt
dir_never_led p dir (Err NameTaken) formed stands links misled = tt
dir_never_led p dir (Err (NoSlot largest)) formed stands links misled = tt
dir_never_led p dir (Err (File e)) formed stands links misled = never_led {T = Unit {0}} p [] dir.fid dir (Err e) formed stands.stands links misled

-- what holds anyway
pub misled_any : {T : Type 0} (X : Type 0) (r : Result T DirError) → X → IfMisled r (λ place at wanted found. X)
misled_any X (Ok x) h = tt
misled_any X (Err NoSuchName) h = tt
misled_any X (Err NameTaken) h = tt
misled_any X (Err (NoSlot largest)) h = tt
misled_any X (Err (File (fault.Misled place at wanted found))) h = h
misled_any X (Err (File (fault.Beyond length))) h = tt
misled_any X (Err (File fault.DiskFault)) h = tt
misled_any X (Err (File fault.Memory)) h = tt

-- what follows
pub misled_map : {T : Type 0} {P Q : Place → ℕ → Page → Option (List ℕ) → Type 0} (r : Result T DirError) → IfMisled r P → ((place : Place) (at : ℕ) (wanted : Page) (found : Option (List ℕ)) → P place at wanted found → Q place at wanted found) → IfMisled r Q
misled_map (Ok x) p f = tt
misled_map (Err NoSuchName) p f = tt
misled_map (Err NameTaken) p f = tt
misled_map (Err (NoSlot largest)) p f = tt
misled_map (Err (File (fault.Misled place at wanted found))) p f = f place at wanted found p
misled_map (Err (File (fault.Beyond length))) p f = tt
misled_map (Err (File fault.DiskFault)) p f = tt
misled_map (Err (File fault.Memory)) p f = tt

-- the address of a sector in which a page of the directory had been found
pub was_found : (d : Fid) (i : ℕ) (page : Page) → page.fid ≡ d → (place : Place) (at : ℕ) (wanted : Page) (found : Option (List ℕ)) → WasHeld i page place at wanted found → WasFound d place at wanted found
was_found d i page own place at wanted found x = record { held = x.held ∙ ap (λ (n : ℕ). Held n) (sym x.address); own = ap (λ (p : Page). p.fid) x.page_is ∙ own }
