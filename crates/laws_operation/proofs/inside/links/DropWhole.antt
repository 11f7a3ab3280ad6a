-- A whole drop.
use Rattle.std.proofs.Common.{Bool, List, [], ap, false, length, refl, subst, sym, true, ℕ, ◌++◌, ◌+◌, ◌/◌, ◌∙◌, ◌∷◌, ◌≡◌, ◌≤◌}
use Rattle.std.specs.Option.{is_some}
use Rattle.laws_contents.specs.alto_words.specs.Fid.{is_fid}
use Rattle.laws_contents.specs.alto_words.specs.declared.fid.Fid.{Fid}
use Rattle.laws_contents.specs.disk_records.proofs.Growing.{after-append}
use Rattle.laws_contents.specs.disk_records.specs.Commands.{value_writes}
use Rattle.laws_contents.specs.disk_records.specs.Packs.{Pack, after, sector_at}
use Rattle.laws_contents.specs.disk_records.specs.declared.records.Event.{Event}
use Rattle.laws_contents.specs.pack_model.specs.reading.Bytes.{words_of}
use Rattle.laws_contents.specs.pack_model.specs.reading.Files.{lives}
use Rattle.laws_contents.specs.pack_model.specs.hints.Links.{LinksTrue, dir_words}
use Rattle.laws_contents.specs.pack_model.specs.reading.Model.{dir_items, read_as}
use Rattle.laws_contents.specs.pack_model.specs.reading.Namings.{namings_in}
use Rattle.laws_contents.specs.pack_model.specs.operations.Operations.{release_file_writes}
use Rattle.laws_contents.specs.pack_model.specs.operations.PageWords.{freed_value, page_number}
use Rattle.laws_contents.specs.pack_model.specs.reading.Sights.{sights}
use Rattle.laws_contents.specs.pack_model.specs.reading.Slots.{Item, all_words, item_words, slots}
use Rattle.laws_contents.specs.pack_model.specs.reading.Slots.Item.{entry}
use Rattle.laws_contents.specs.pack_model.specs.states.Whole.{Whole}
use Rattle.laws_contents.specs.pack_laws.proofs.Keys.{same_fid}
use Rattle.laws_contents.specs.laws_record.proofs.Copying.{place_carried}
use Rattle.laws_contents.specs.laws_record.proofs.Entered.{namings_in-append}
use Rattle.laws_contents.specs.laws_record.specs.DirLaws.{DirWrite, Frees}
use Rattle.laws_operation.proofs.Dropped.{release_law}
use Rattle.laws_operation.proofs.Seating.{leader_none_is}
use Rattle.laws_operation.proofs.inside.links.DirValues.{slot_keeps_links}
use Rattle.laws_operation.proofs.inside.links.Directories.{lives_by, other_bytes}
use Rattle.laws_operation.proofs.inside.links.Dropping.{release_concerns, release_keeps_links}
use Rattle.laws_operation.proofs.inside.links.Framing.{AllConcern, other_place, other_sector}
use Rattle.laws_operation.specs.NameLinkLaws.{DropKeepsLinks}
use Rattle.laws_operation.proofs.inside.DropLaw.{not_none}
use Rattle.laws_operation.proofs.EnterLaw.{items_are}

-- a directory with entries isn't one without
apart : (p : Pack) (f d : Fid) (a b : List Item) (g : Fid) (own : List ℕ) → dir_items (read_as p) d ≡ a ++ entry g own ∷ b → namings_in f (dir_items (read_as p) f) ≡ [] → is_fid d f ≡ false
apart p f d a b g own items bare = by (is_fid d f) refl
  where
    by : (c : Bool) → is_fid d f ≡ c → c ≡ false
    by false e = refl
    by true e = absurd (not_none (namings_in d a) (record { dir = d; name = own; fid = g }) (namings_in d b)
        (sym (namings_in-append d a (entry g own ∷ b)) ∙ sym (ap (namings_in d) items) ∙ subst (λ h. namings_in h (dir_items (read_as p) h) ≡ []) (sym (same_fid d f e)) bare))

-- all record writes
pub drop_keeps_links : DropKeepsLinks
drop_keeps_links p f at pages d slot_at a b own w t h fr links =
    let events : List Event = release_file_writes at pages in
    let q : Pack = after p events in
    let out = (release_law p w t f at pages h).0 in
    let wq : Whole q = out.drops.whole in
    let all : AllConcern f p events = release_concerns p f at pages h in
    let write = fr.write in
    let items : dir_items (read_as p) d ≡ a ++ entry f own ∷ b = items_are p t d write.lives write.directory ∙ fr.slots_are in
    let ne : is_fid d f ≡ false = apart p f d a b f own items h.bare in
    let words : dir_words q d ≡ dir_words p d = ap words_of (other_bytes p f events w wq all d ne) in
    let write1 : DirWrite q d (all_words a) slot_at (all_words (entry f own ∷ []) ∷ []) = record {
      directory = write.directory;
      lives = lives_by (sights q) (sights p) d (sym (other_place p f events w wq all d 0 ne)) write.lives;
      sector = other_place p f events w wq all d (all_words a / 256 + 1) ne ∙ write.sector;
      some = write.some;
      one_page = write.one_page;
      within = subst (λ ws. all_words a + 1 ≤ length ws) (sym words) write.within;
    } in
    let fr1 : Frees q d slot_at a (entry f own ∷ []) b = record { slots_are = ap slots words ∙ fr.slots_are; some = fr.some; most = fr.most; write = write1 } in
    let dead : lives (sights q) f ≡ false = ap is_some (leader_none_is (sights q) f out.drops.gone) in
    let same : sector_at q slot_at ≡ sector_at p slot_at = other_sector p f events w wq all d (all_words a / 256 + 1) slot_at ne (place_carried p (page_number d (all_words a / 256 + 1)) slot_at write.sector) in
    let kept = slot_keeps_links q f d slot_at a b own wq out.drops.tidy_but dead fr1 (release_keeps_links p f at pages w t h links) in
    let value : List ℕ = freed_value (all_words a) (item_words (entry f own)) (sector_at p slot_at).value in
    let last : LinksTrue (after q (value_writes slot_at value)) = subst (λ s. LinksTrue (after q (value_writes slot_at (freed_value (all_words a) (item_words (entry f own)) s.value)))) same kept in
    subst LinksTrue (sym (after-append p events (value_writes slot_at value))) last
