-- Values of an ordinary file's pages.
use Rattle.std.proofs.Common.{List, [], false, ℕ, ◌∙◌, ◌∷◌, ◌≡◌}
use Rattle.laws_contents.specs.alto_words.specs.Fid.{is_directory}
use Rattle.laws_contents.specs.alto_words.specs.declared.fid.Fid.{Fid}
use Rattle.laws_contents.specs.disk_records.specs.Packs.{Pack, after}
use Rattle.laws_contents.specs.pack_model.specs.operations.Commands.{values_writes}
use Rattle.laws_contents.specs.pack_model.specs.operations.Committing.{page_of_byte}
use Rattle.laws_contents.specs.pack_model.specs.operations.PageWords.{page_number}
use Rattle.laws_contents.specs.pack_model.specs.states.Whole.{Tidy, Whole}
use Rattle.laws_contents.specs.laws_record.proofs.Copying.{place_carried}
use Rattle.laws_operation.proofs.OneValue.{put_law, stamp_law, title_law}
use Rattle.laws_operation.proofs.inside.links.Linked.{file_links}
use Rattle.laws_operation.proofs.inside.links.OneFile.{ordinary_true}
use Rattle.laws_operation.proofs.inside.links.Values.{AllOf, files_linked, of_carried, values_concern, values_place}
use Rattle.laws_operation.specs.LinkLaws.{KeepsLinks, PutKeepsLinks, StampKeepsLinks, TitleKeepsLinks}

-- values of pages of a file that isn't a directory
pub file_values : (vs : List (ℕ × List ℕ)) (p : Pack) (f : Fid) → Whole p → Tidy p → Whole (after p (values_writes vs)) → Tidy (after p (values_writes vs)) → is_directory f ≡ false → AllOf f p vs → KeepsLinks p (values_writes vs)
file_values vs p f wp tp wq tq ordinary of links =
    ordinary_true p f (values_writes vs) wp wq (values_concern f vs p of) tp tq ordinary (λ a e. values_place vs p wp wq f 0 ∙ e) (files_linked vs p wp wq f (file_links p wp links.pages f)) links

-- a put
pub put_keeps_links : PutKeepsLinks
put_keeps_links p f offset new at value w t h =
    let out = put_law p w t f h.file offset new at value h in
    file_values ((at, value) ∷ []) p f w t out.meets.whole out.meets.tidy h.file.no_directory (of_carried f (page_of_byte offset) p at (place_carried p (page_number f (page_of_byte offset)) at h.sector), tt)

-- a title
pub title_keeps_links : TitleKeepsLinks
title_keeps_links p f name at value w t h =
    let out = title_law p w t f h.file name at value h in
    file_values ((at, value) ∷ []) p f w t out.meets.whole out.meets.tidy h.file.no_directory (of_carried f 0 p at (place_carried p (page_number f 0) at h.sector), tt)

-- a stamp
pub stamp_keeps_links : StampKeepsLinks
stamp_keeps_links p f moment at value w t h =
    let out = stamp_law p w t f h.file moment at value h in
    file_values ((at, value) ∷ []) p f w t out.meets.whole out.meets.tidy h.file.no_directory (of_carried f 0 p at (place_carried p (page_number f 0) at h.sector), tt)
