-- Hints that mislead after a cut, a make and the releases of a drop.
use Rattle.std.proofs.Common.{Bool, List, Some, [], ap, arith, cond, false, inl, inr, refl, subst, suc, sym, true, ℕ, ◌%◌, ◌<◌, ◌∙◌, ◌∷◌, ◌≡◌, ◌⊎◌}
use Rattle.std.proofs.lemmas.Bool.{cases_lt, cases_eq}
use Rattle.std.specs.FinMap.{get, get-insert}
use Rattle.laws_operation.specs.alto_words.specs.Fid.{is_directory, is_fid}
use Rattle.laws_operation.specs.alto_words.specs.declared.fid.Fid.{Fid}
use Rattle.laws_operation.specs.disk_records.specs.Addresses.{real_of}
use Rattle.laws_operation.specs.disk_records.specs.Packs.{Pack, after, carried, sector_at}
use Rattle.laws_operation.specs.disk_records.specs.Words.{word}
use Rattle.laws_operation.specs.disk_records.specs.declared.records.Page.{Page}
use Rattle.laws_operation.specs.disk_records.specs.declared.records.Place.TheVariants.{Entry, Held, Next, Root}
use Rattle.laws_operation.specs.pack_model.specs.hints.Links.{dir_words}
use Rattle.laws_operation.specs.pack_model.specs.hints.Misled.{Misled, StandsInEntry, StandsInLink}
use Rattle.laws_operation.specs.pack_model.specs.operations.Commands.{Claim, first_page_claim, leader_claim}
use Rattle.laws_operation.specs.pack_model.specs.operations.Committing.{page_of_byte}
use Rattle.laws_operation.specs.pack_model.specs.operations.Operations.{cut_writes, release_file_writes, make_writes}
use Rattle.laws_operation.specs.pack_model.specs.operations.PageWords.{new_bytes, page_number}
use Rattle.laws_operation.specs.pack_model.specs.operations.Step.{new_file}
use Rattle.laws_operation.specs.pack_model.specs.reading.Bodies.{body_items, items_in}
use Rattle.laws_operation.specs.pack_model.specs.reading.Bodies.Body.{data_of, items_of}
use Rattle.laws_operation.specs.pack_model.specs.reading.Files.{lives, place}
use Rattle.laws_operation.specs.pack_model.specs.reading.Model.{dir_items, read_as}
use Rattle.laws_operation.specs.pack_model.specs.reading.Namings.{namings_in}
use Rattle.laws_operation.specs.pack_model.specs.reading.Sights.{sights}
use Rattle.laws_operation.specs.pack_model.specs.reading.Slots.{slots}
use Rattle.laws_operation.specs.pack_model.specs.reading.Slots.Item.{space}
use Rattle.laws_operation.specs.pack_model.specs.states.Whole.{Tidy, Whole}
use Rattle.laws_operation.specs.pack_laws.proofs.Keys.{fid_total, is_fid-itself, same_fid}
use Rattle.laws_operation.specs.laws_record.proofs.Copying.{place_carried}
use Rattle.laws_operation.proofs.Concerning.{ends_there, head_label, label_is, never_carried, none_there, only_two, page_label, page_there, same_front, same_places}
use Rattle.laws_operation.proofs.Cutting.{cut_law}
use Rattle.laws_operation.proofs.Dropped.{release_law}
use Rattle.laws_operation.proofs.Making.{make_law}
use Rattle.laws_operation.proofs.entries.Laws.{items_are_slots}
use Rattle.laws_operation.proofs.places.Laws.{carried_in_place, file_lives_in_a_place}
use Rattle.laws_operation.specs.ByteLaws.{MayCut}
use Rattle.laws_operation.specs.LifeLaws.{MayMake}
use Rattle.laws_lookup.proofs.inside.LeftAlone.{cut_leaves_others, cut_keeps_pages, make_leaves_others, release_leaves_others}
use Rattle.laws_lookup.proofs.Replacing.{no_entry}
use Rattle.laws_lookup.proofs.inside.Staying.{address_misled_before, dir_apart, link_misled_before}
use Rattle.laws_lookup.proofs.inside.TrueHints.{some_of, within_pack}
use Rattle.laws_lookup.specs.BeforeLaws.{CutMisledBefore, MakeMisledBefore, ReleaseMisledBefore}

-- ---- a cut
-- a next link of the file that is cut
cut_link : (p : Pack) (f : Fid) (n at : ℕ) (label later : List ℕ) (w : Whole p) (t : Tidy p) (h : MayCut p f n at label later) (i bt : ℕ) (wanted : Page) → wanted.fid ≡ f
    → Misled (after p (cut_writes at label (sector_at p at).value later)) (Next i) bt wanted → Misled p (Next i) bt wanted
cut_link p f n at label later w t h i bt wanted own m =
    let q : Pack = after p (cut_writes at label (sector_at p at).value later) in
    let wq : Whole q = (cut_law p w t f h.file n at label later h).meets.whole in
    let s : StandsInLink q i bt wanted = m.stands in
    let last : ℕ = page_of_byte n in
    let k : ℕ = s.page.number in
    let fid : s.page.fid ≡ f = ap (λ (x : Page). x.fid) (sym s.means) ∙ own in
    let there : place (sights q) f k ≡ Some i = ap (λ g. place (sights q) g k) (sym fid) ∙ carried_in_place q s.page i wq s.carries in
    elim (cases_lt last k) [
      | inl more ↦ absurd (ends_there p w t f n at label later h k i more there)
      | inr l ↦ elim (cases_eq k last) [
        | inl is ↦
            let here : place (sights p) f k ≡ Some i = sym (same_places p w t f n at label later h k l) ∙ there in
            let both : Some i ≡ Some at = sym here ∙ ap (place (sights p) f) is ∙ h.sector in
            let i_is : i ≡ at = cc in
            let count : word (sector_at q i).label 3 ≡ n % 512 = ap (λ j. word (sector_at q j).label 3) i_is ∙ ap (λ x. word x 3) (label_is p w t f n at label later h) ∙ h.count in
            absurd (elim s.full [ inl first ↦ omega (arith, is, first) | inr full ↦ omega (arith, count, full) ])
        | inr ne ↦
            let here : place (sights p) f k ≡ Some i = sym (same_places p w t f n at label later h k l) ∙ there in
            let same = same_front p w t f n at label later h k i (omega arith) here in
            record {
              stands = record {
                page = s.page;
                carries = place_carried p s.page i (ap (λ g. place (sights p) g k) fid ∙ here);
                full = subst (λ x. (k ≡ 0) ⊎ (word x 3 ≡ 512)) same s.full;
                means = s.means;
                link = s.link ∙ ap (λ x. word x 0) same;
              };
              misses = λ j names is.
                  let next : wanted.number ≡ suc k = ap (λ (x : Page). x.number) s.means ∙ omega arith in
                  let was : place (sights p) f wanted.number ≡ Some j = ap (λ g. place (sights p) g wanted.number) (sym own) ∙ carried_in_place p wanted j w is in
                  let now : place (sights q) f wanted.number ≡ Some j = same_places p w t f n at label later h wanted.number (omega (arith, next)) ∙ was in
                  m.misses j names (place_carried q wanted j (ap (λ g. place (sights q) g wanted.number) own ∙ now));
            }
      ]
    ]

pub cut_misled_before : CutMisledBefore
cut_misled_before p f n at label later w t h Root bt wanted on m = absurd on
cut_misled_before p f n at label later w t h (Held i) bt wanted on m = absurd on
cut_misled_before p f n at label later w t h (Entry d k) bt wanted on m =
    address_misled_before f p (cut_writes at label (sector_at p at).value later) d k bt wanted w (cut_leaves_others p f n at label later w t h) (dir_apart d f m.stands.directory h.file.no_directory)
    (inr (λ j i l there. cut_keeps_pages p f n at label later w t h j i (omega arith) there)) m
cut_misled_before p f n at label later w t h (Next i) bt wanted on m = by (is_fid wanted.fid f) refl
  where
    by : (b : Bool) → is_fid wanted.fid f ≡ b → Misled p (Next i) bt wanted
    by false other = link_misled_before f p (cut_writes at label (sector_at p at).value later) i bt wanted w (cut_law p w t f h.file n at label later h).meets.whole (cut_leaves_others p f n at label later w t h) other m
    by true own = cut_link p f n at label later w t h i bt wanted (same_fid wanted.fid f own) m

-- ---- a make
-- no next link of the new file misleads
make_link : (p : Pack) (f : Fid) (name : List ℕ) (moment leader_at page_at : ℕ) (w : Whole p) (t : Tidy p) (h : MayMake p f name moment (first_page_claim p.shape f leader_at page_at) (leader_claim p.shape f name moment leader_at page_at)) (i bt : ℕ) (wanted : Page) → wanted.fid ≡ f
    → Misled (after p (make_writes (first_page_claim p.shape f leader_at page_at) (leader_claim p.shape f name moment leader_at page_at))) (Next i) bt wanted → ⊥
make_link p f name moment leader_at page_at w t h i bt wanted own m =
    let page : Claim = first_page_claim p.shape f leader_at page_at in
    let leader : Claim = leader_claim p.shape f name moment leader_at page_at in
    let q : Pack = after p (make_writes page leader) in
    let wq : Whole q = (make_law p w t f name moment page leader h).meets.whole in
    let s : StandsInLink q i bt wanted = m.stands in
    let k : ℕ = s.page.number in
    let fid : s.page.fid ≡ f = ap (λ (x : Page). x.fid) (sym s.means) ∙ own in
    let there : place (sights q) f k ≡ Some i = ap (λ g. place (sights q) g k) (sym fid) ∙ carried_in_place q s.page i wq s.carries in
    elim (only_two p w t f name moment page leader h k i there) [
      | inl first ↦
          let link : bt ≡ real_of p.shape page_at = s.link ∙ ap (λ j. word (sector_at q j).label 0) first.1 ∙ ap (λ x. word x 0) (head_label p w t f name moment page leader h) in
          let next : wanted.number ≡ 1 = let z = first.0 in let x = ap (λ (x : Page). x.number) s.means in omega arith in
          let want : wanted ≡ page_number f 1 = λ j. record { fid = own j; number = next j } in
          let is : carried q page_at ≡ Some wanted = page_there p w t f name moment page leader h ∙ ap Some (sym want) in
          let names = within_pack q wanted page_at is in
          m.misses page_at (record { first = names.0; last = names.1; named = link }) is
      | inr second ↦
          let count : word (sector_at q i).label 3 ≡ new_bytes f = ap (λ j. word (sector_at q j).label 3) second.1 ∙ ap (λ x. word x 3) (page_label p w t f name moment page leader h) in
          let few : new_bytes f < 512 = by (is_directory f) in
          elim s.full [ inl none ↦ (let z = second.0 in omega arith) | inr full ↦ omega arith ]
    ]
  where
    by : (b : Bool) → cond b 510 0 < 512
    by true = omega arith
    by false = omega arith

-- and it has no entries
make_entry : (p : Pack) (f : Fid) (name : List ℕ) (moment : ℕ) (page leader : Claim) (w : Whole p) (t : Tidy p) (h : MayMake p f name moment page leader) (k bt : ℕ) (wanted : Page) → StandsInEntry (after p (make_writes page leader)) f k bt wanted → ⊥
make_entry p f name moment page leader w t h k bt wanted s =
    let q : Pack = after p (make_writes page leader) in
    let out = make_law p w t f name moment page leader h in
    let items : slots (dir_words q f) ≡ space 255 ∷ [] =
    sym (items_are_slots q f out.meets.tidy s.lives s.directory) ∙ ap (λ x. dir_items x f) out.ends
    ∙ ap items_in (get-insert fid_total (read_as p).files f (new_file f name moment) f ∙ ap (λ b. cond b (Some (new_file f name moment)) (get (read_as p).files f)) (is_fid-itself f))
    ∙ ap (λ b. body_items (cond b (items_of (space 255 ∷ [])) (data_of []))) s.directory in
    no_entry f (dir_words q f) 0 (slots (dir_words q f)) s.slot wanted.fid s.name (ap (namings_in f) items) s.stands s.item

pub make_misled_before : MakeMisledBefore
make_misled_before p f name moment leader_at page_at w t h Root bt wanted on m = absurd on
make_misled_before p f name moment leader_at page_at w t h (Held i) bt wanted on m = absurd on
make_misled_before p f name moment leader_at page_at w t h (Entry d k) bt wanted on m = by (is_fid d f) refl
  where
    by : (b : Bool) → is_fid d f ≡ b → Misled p (Entry d k) bt wanted
    by true same = absurd (make_entry p f name moment (first_page_claim p.shape f leader_at page_at) (leader_claim p.shape f name moment leader_at page_at) w t h k bt wanted
        (subst (λ g. StandsInEntry (after p (make_writes (first_page_claim p.shape f leader_at page_at) (leader_claim p.shape f name moment leader_at page_at))) g k bt wanted) (same_fid d f same) m.stands))
    by false other =
        address_misled_before f p (make_writes (first_page_claim p.shape f leader_at page_at) (leader_claim p.shape f name moment leader_at page_at)) d k bt wanted w
        (make_leaves_others p f name moment (first_page_claim p.shape f leader_at page_at) (leader_claim p.shape f name moment leader_at page_at) w t h) other
        (inr (λ n i l there. absurd (never_carried p w f h.not_there n i (place_carried p (page_number f n) i there)))) m
make_misled_before p f name moment leader_at page_at w t h (Next i) bt wanted on m = by (is_fid wanted.fid f) refl
  where
    by : (b : Bool) → is_fid wanted.fid f ≡ b → Misled p (Next i) bt wanted
    by true own = absurd (make_link p f name moment leader_at page_at w t h i bt wanted (same_fid wanted.fid f own) m)
    by false other =
        link_misled_before f p (make_writes (first_page_claim p.shape f leader_at page_at) (leader_claim p.shape f name moment leader_at page_at)) i bt wanted w
        (make_law p w t f name moment (first_page_claim p.shape f leader_at page_at) (leader_claim p.shape f name moment leader_at page_at) h).meets.whole
        (make_leaves_others p f name moment (first_page_claim p.shape f leader_at page_at) (leader_claim p.shape f name moment leader_at page_at) w t h) other m

-- ---- the releases of a drop
pub release_misled_before : ReleaseMisledBefore
release_misled_before p f at pages Root bt wanted w t h on other m = absurd on
release_misled_before p f at pages (Held i) bt wanted w t h on other m = absurd on
release_misled_before p f at pages (Next i) bt wanted w t h on other m =
    link_misled_before f p (release_file_writes at pages) i bt wanted w (release_law p w t f at pages h).0.drops.whole (release_leaves_others p f at pages w t h) other m
release_misled_before p f at pages (Entry d k) bt wanted w t h on other m = by (is_fid d f) refl
  where
    by : (b : Bool) → is_fid d f ≡ b → Misled p (Entry d k) bt wanted
    by false apart = address_misled_before f p (release_file_writes at pages) d k bt wanted w (release_leaves_others p f at pages w t h) apart (inl other) m
    by true same =
        let q : Pack = after p (release_file_writes at pages) in
        let out = (release_law p w t f at pages h).0 in
        let there = some_of (place (sights q) f 0) (sym (file_lives_in_a_place q f) ∙ ap (lives (sights q)) (sym (same_fid d f same)) ∙ m.stands.lives) in
        absurd (none_there (sights q) f (out.drops.whole.files f) out.drops.gone 0 there.0 there.1)
