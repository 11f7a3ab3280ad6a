use Rattle.std.proofs.Common.{◌≡◌, ◌+◌, ◌*◌, ◌<◌, List, [], ◌∷◌, ℕ, length, map, refl, ap, subst, ◌∙◌, arith}
use Rattle.std.specs.Prelude.{IfOk}
use Rattle.std.proofs.lemmas.List.{length-map}
use Rattle.alto_words.specs.declared.fid.Fid.{Fid}
use Rattle.disk_records.specs.Packs.{Pack}
use Rattle.scav_names.specs.laws_room.specs.NextLaws.{mended_pack}
use Rattle.pack_model.specs.reading.Model.{root_items}
use Rattle.pack_model.specs.reading.Slots.{all_words}
use Rattle.pack_model.specs.scavenger.Mended.{lacking, widens}
use Rattle.scav_names.specs.Lacking.{entry_for, lacking_file, lacking_files}
use Rattle.scav_names.specs.Living.{living_files}
use Rattle.scavenger.proofs.Finishing.{few_words}
use Rattle.scavenger.proofs.refusing.widens_parted.Goals as goal

-- the entries of lacking files are those that are lacking
same_entries : (p : Pack) (es : List (Fid × List ℕ)) → map entry_for (map (lacking_file p) es) ≡ es
same_entries p [] = refl
same_entries p (e ∷ es) = ap (λ l. e ∷ l) (same_entries p es)

pub returns : goal.returns
returns c = λ p sized names parted.
    let slots = c.in_ok-root_rooms.ensures.rooms p names parted in
    let living : c.as_slice.result.now ≡ living_files p = c.as_slice.ensures ∙ c.in_ok-root_rooms.ensures.living ∙ names.living in
    let files : c.as_slice-2.result.now ≡ lacking_files p = c.as_slice-2.ensures ∙ c.in_ok-files.ensures.files p living parted in
    let entries_are : map entry_for c.as_slice-2.result.now ≡ lacking (mended_pack p) = ap (map entry_for) files ∙ same_entries p (lacking (mended_pack p)) in
    let long : length c.as_slice-2.result.now ≡ length (lacking (mended_pack p)) = ap length files ∙ length-map (lacking (mended_pack p)) (lacking_file p) in
    let few = few_words p sized in
    let fits : all_words (root_items (mended_pack p)) + 256 * length c.as_slice-2.result.now < 4294967296 = omega (arith, few, long) in
    subst (λ es. IfOk c.widens.result (λ n. n ≡ widens (root_items (mended_pack p)) es)) entries_are (c.widens.ensures (root_items (mended_pack p)) slots.rooms_are fits)
