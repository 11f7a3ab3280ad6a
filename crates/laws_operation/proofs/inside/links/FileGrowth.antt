-- An ordinary file grows.
use Rattle.std.proofs.Common.{List, Some, ap, arith, drop, length, refl, suc, zero, ℕ, ◌+◌, ◌/◌, ◌<◌, ◌∙◌, ◌≡◌}
use Rattle.laws_contents.specs.alto_words.specs.declared.fid.Fid.{Fid}
use Rattle.laws_contents.specs.disk_records.specs.Packs.{Pack, after, sector_at}
use Rattle.laws_contents.specs.pack_model.specs.operations.Commands.{Claim, claims_of, grown_claims, grown_label, grown_value, last_room}
use Rattle.laws_contents.specs.pack_model.specs.operations.Committing.{page_of_byte}
use Rattle.laws_contents.specs.pack_model.specs.reading.Files.{file_bytes, place}
use Rattle.laws_contents.specs.pack_model.specs.operations.Operations.{grow_writes}
use Rattle.laws_contents.specs.pack_model.specs.reading.Sights.{sights}
use Rattle.laws_contents.specs.pack_model.specs.states.Whole.{Whole}
use Rattle.laws_operation.proofs.Grown.{grow_law, last_page}
use Rattle.laws_operation.proofs.inside.links.Ending.{none_later}
use Rattle.laws_operation.proofs.inside.links.Growing.{grow_concerns, grown_links, grown_place}
use Rattle.laws_operation.proofs.inside.links.Linked.{FileLinks, file_links}
use Rattle.laws_operation.proofs.inside.links.OneFile.{ordinary_true}
use Rattle.laws_operation.specs.LinkLaws.{GrowKeepsLinks}

-- no page comes after the one that the end of a file's bytes is in
pub none_behind : (p : Pack) → Whole p → (f : Fid) (at : ℕ) → place (sights p) f (page_of_byte (length (file_bytes (sights p) f))) ≡ Some at → (m j : ℕ) → page_of_byte (length (file_bytes (sights p) f)) < m → place (sights p) f m ≡ Some j → ⊥
none_behind p w f at e zero j l there = omega arith
none_behind p w f at e (suc m) j l there =
    let h = last_page (sights p) f at (w.files f) e in
    none_later (sights p) f (length (file_bytes (sights p) f) / 512) at h.old (w.files f) h.shows h.short m j (omega arith) there

-- a growth
pub grow_keeps_links : GrowKeepsLinks
grow_keeps_links p f new past fresh at w t h links =
    let b : ℕ = length (file_bytes (sights p) f) in
    let last : ℕ = page_of_byte b in
    let cs : List Claim = grown_claims p.shape f b at new past fresh in
    let label : List ℕ = grown_label p.shape b new fresh (sector_at p at).label in
    let value : List ℕ = grown_value b new past fresh (sector_at p at).value in
    let z : b / 512 + 2 ≡ suc (suc (b / 512)) = omega arith in
    let bytes : List ℕ = drop (last_room b) new in
    let row : cs ≡ claims_of p.shape f (suc last) at bytes past fresh = ap (λ n. claims_of p.shape f n at bytes past fresh) z in
    let out = grow_law p w t f h.file new cs at label value h in
    let wq : Whole (after p (grow_writes cs at label value)) = out.meets.whole in
    let mine : FileLinks (after p (grow_writes cs at label value)) f =
    grown_links p w f last at cs label value h.sector h.claimable h.page wq bytes past fresh row (none_behind p w f at h.sector) refl refl (file_links p w links.pages f) in
    ordinary_true p f (grow_writes cs at label value) w wq (grow_concerns p w f last at cs label value h.sector h.claimable h.page) t out.meets.tidy h.file.no_directory
    (λ a e. grown_place p w f last at cs label value h.sector h.claimable h.page wq 0 (omega arith) ∙ e) mine links
