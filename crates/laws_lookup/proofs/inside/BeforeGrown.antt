-- Hints that mislead after a growth and a widening.
use Rattle.std.proofs.Common.{List, Some, [], ap, arith, drop, false, inl, inr, length, length-drop, min, refl, subst, suc, sym, true, ℕ, ◌%◌, ◌+◌, ◌-◌, ◌/◌, ◌<◌, ◌∙◌, ◌∷◌, ◌≡◌, ◌≤◌, ◌⊎◌}
use Rattle.std.proofs.lemmas.Bool.{cases_eq, cases_lt}
use Rattle.laws_operation.specs.alto_words.specs.Fid.{is_fid}
use Rattle.laws_operation.specs.alto_words.specs.declared.fid.Fid.{Fid}
use Rattle.laws_operation.specs.disk_records.specs.Addresses.{real_of}
use Rattle.laws_operation.specs.disk_records.specs.Labels.{page_of}
use Rattle.laws_operation.specs.disk_records.specs.Packs.{Pack, after, carried, sector_at}
use Rattle.laws_operation.specs.disk_records.specs.Words.{word}
use Rattle.laws_operation.specs.disk_records.specs.declared.records.Page.{Page}
use Rattle.laws_operation.specs.disk_records.specs.declared.records.Place.TheVariants.{Entry, Held, Next, Root}
use Rattle.laws_operation.specs.pack_model.specs.hints.Links.{dir_words}
use Rattle.laws_operation.specs.pack_model.specs.hints.Misled.{Misled, StandsInLink}
use Rattle.laws_operation.specs.pack_model.specs.operations.Commands.{Claim, Claimable, claims_of, grown_claims, grown_label, grown_value, last_room}
use Rattle.laws_operation.specs.pack_model.specs.operations.Committing.{page_of_byte, pages_added}
use Rattle.laws_operation.specs.pack_model.specs.operations.Operations.{grow_writes}
use Rattle.laws_operation.specs.pack_model.specs.operations.PageWords.{link_to_first, page_number}
use Rattle.laws_operation.specs.pack_model.specs.reading.Bytes.{bytes_of}
use Rattle.laws_operation.specs.pack_model.specs.reading.Files.{file_bytes, place}
use Rattle.laws_operation.specs.pack_model.specs.reading.Sights.{sights}
use Rattle.laws_operation.specs.pack_model.specs.reading.Slots.{slots}
use Rattle.laws_operation.specs.pack_model.specs.reading.Slots.Item.{space}
use Rattle.laws_operation.specs.pack_model.specs.states.Whole.{Whole}
use Rattle.laws_operation.specs.pack_laws.proofs.Keys.{same_fid}
use Rattle.laws_operation.specs.laws_record.proofs.Copying.{place_carried}
use Rattle.laws_operation.proofs.Grown.{grow_law}
use Rattle.laws_operation.proofs.GrownLinks.{IsClaim, Rowed, grown_place, label_is, later, none_behind, rows, same_front}
use Rattle.laws_operation.proofs.Widening.{widen_law}
use Rattle.laws_operation.proofs.places.Laws.{carried_in_place}
use Rattle.laws_lookup.proofs.inside.LeftAlone.{grow_keeps_pages, grow_leaves_others, widen_keeps_pages, widen_leaves_others}
use Rattle.laws_lookup.proofs.Replacing.{entry_stands_outside_of_free_slots, replacing_turns_round}
use Rattle.laws_lookup.proofs.inside.Replacings.{widen_replaces_slots}
use Rattle.laws_lookup.proofs.inside.Staying.{address_misled_before, dir_apart, leader_stays, link_misled_before}
use Rattle.laws_lookup.proofs.inside.TrueHints.{within_pack}
use Rattle.laws_lookup.specs.BeforeLaws.{GrowMisledBefore, WidenMisledBefore}

-- ---- a full page is followed by its next one
record Follows (q : Pack) (f : Fid) (m i : ℕ) : Type 0 where
  next : ℕ
  link : word (sector_at q i).label 0 ≡ real_of q.shape next
  is : carried q next ≡ Some (page_number f (suc m))

-- as many sectors as the bytes want
abbrev Want : List ℕ → List ℕ → Type 0
Want bytes fresh = 0 < length fresh → length fresh ≡ suc (length bytes / 512)

-- among the pages that were claimed
row_follows : (q : Pack) (f : Fid) (past fresh : List ℕ) (k previous : ℕ) (bytes : List ℕ) → Want bytes fresh → Rowed q f k (claims_of q.shape f (suc k) previous bytes past fresh)
    → (m i : ℕ) → IsClaim f k (claims_of q.shape f (suc k) previous bytes past fresh) i (page_number f m) → word (sector_at q i).label 3 ≡ 512 → Follows q f m i
row_follows q f past [] k previous bytes want row m i claim full = absurd claim
row_follows q f past (at ∷ fresh) k previous bytes want row m i claim full = elim claim [
  | inl x ↦
      let count : min 512 (length bytes) ≡ 512 = sym (ap (λ l. word l 3) row.1) ∙ ap (λ j. word (sector_at q j).label 3) (sym x.0) ∙ full in
      let link : word (sector_at q i).label 0 ≡ link_to_first q.shape fresh = ap (λ j. word (sector_at q j).label 0) x.0 ∙ ap (λ l. word l 0) row.1 in
      let number : m ≡ suc k = ap (λ (y : Page). y.number) x.2 in
      more fresh (want (omega arith)) count link number row.2
  | inr last ↦ row_follows q f past fresh (suc k) at (drop 512 bytes) (less (want (omega arith))) row.2 m i last full
]
  where
    less : length (at ∷ fresh) ≡ suc (length bytes / 512) → Want (drop 512 bytes) fresh
    less size some = let d : length (drop 512 bytes) ≡ length bytes - 512 = length-drop 512 bytes in omega (arith, size, d, some)

    more : (fresh : List ℕ) → length (at ∷ fresh) ≡ suc (length bytes / 512) → min 512 (length bytes) ≡ 512 → word (sector_at q i).label 0 ≡ link_to_first q.shape fresh → m ≡ suc k → Rowed q f (suc k) (claims_of q.shape f (suc (suc k)) at (drop 512 bytes) past fresh) → Follows q f m i
    more [] size count link number row = absurd (omega (arith, size, count))
    more (j ∷ fresh) size count link number row = record { next = j; link = link; is = row.0 ∙ ap (λ n. Some (page_number f (suc n))) (sym number) }

-- ---- the next links of a file that has grown
module _ (p : Pack) (wp : Whole p) (f : Fid) (last at : ℕ) (cs : List Claim) (label value : List ℕ) (sector : place (sights p) f last ≡ Some at) (able : Claimable (sights p) f last cs) (names : page_of label ≡ Some (page_number f last))
    (wq : Whole (after p (grow_writes cs at label value))) (bytes past fresh : List ℕ) (row : cs ≡ claims_of p.shape f (suc last) at bytes past fresh) (ends : (m j : ℕ) → last < m → place (sights p) f m ≡ Some j → ⊥)
    (first : 0 < last) (next : word label 0 ≡ link_to_first p.shape fresh) (count : word label 3 ≡ 512 → 0 < length fresh) (want : Want bytes fresh) where
  abbrev q : Pack
  q = after p (grow_writes cs at label value)

  -- the claims in a row
  these : Rowed (after p (grow_writes cs at label value)) f last (claims_of p.shape f (suc last) at bytes past fresh)
  these = subst (Rowed q f last) row (rows p wp f last at cs label value sector able names)

  -- the old last page, where it is full now
  last_follows : word (sector_at (after p (grow_writes cs at label value)) at).label 3 ≡ 512 → Follows (after p (grow_writes cs at label value)) f last at
  last_follows full = by fresh (count (sym (ap (λ l. word l 3) (label_is p wp f last at cs label value sector able names)) ∙ full)) (ap (λ l. word l 0) (label_is p wp f last at cs label value sector able names) ∙ next) these
    where
      by : (fresh : List ℕ) → 0 < length fresh → word (sector_at (after p (grow_writes cs at label value)) at).label 0 ≡ link_to_first p.shape fresh → Rowed (after p (grow_writes cs at label value)) f last (claims_of p.shape f (suc last) at bytes past fresh) → Follows (after p (grow_writes cs at label value)) f last at
      by [] some link row = absurd (omega (arith, some))
      by (j ∷ fresh) some link row = record { next = j; link = link; is = row.0 }

  -- a link that is followed doesn't mislead
  not_misled : (k i bt : ℕ) (wanted : Page) → wanted ≡ page_number f (suc k) → Misled (after p (grow_writes cs at label value)) (Next i) bt wanted → Follows (after p (grow_writes cs at label value)) f k i → ⊥
  not_misled k i bt wanted want_is m x =
      let is : carried q x.next ≡ Some wanted = x.is ∙ ap Some (sym want_is) in
      let within = within_pack q wanted x.next is in
      m.misses x.next (record { first = within.0; last = within.1; named = m.stands.link ∙ x.link }) is

  pub grown_link : (i bt : ℕ) (wanted : Page) → wanted.fid ≡ f → Misled (after p (grow_writes cs at label value)) (Next i) bt wanted → Misled p (Next i) bt wanted
  grown_link i bt wanted own m =
      let s : StandsInLink q i bt wanted = m.stands in
      let k : ℕ = s.page.number in
      let fid : s.page.fid ≡ f = ap (λ (x : Page). x.fid) (sym s.means) ∙ own in
      let number : wanted.number ≡ suc k = ap (λ (x : Page). x.number) s.means ∙ omega arith in
      let want_is : wanted ≡ page_number f (suc k) = λ j. record { fid = own j; number = number j } in
      let there : place (sights q) f k ≡ Some i = ap (λ g. place (sights q) g k) (sym fid) ∙ carried_in_place q s.page i wq s.carries in
      elim (cases_lt last k) [
        | inl more ↦
            let full : word (sector_at q i).label 3 ≡ 512 = elim s.full [ inl none ↦ absurd (omega (arith, more, none)) | inr all ↦ all ] in
            let claim : IsClaim f last (claims_of p.shape f (suc last) at bytes past fresh) i (page_number f k) = subst (λ c. IsClaim f last c i (page_number f k)) row (later p wp f last at cs label value sector able names wq bytes past fresh row ends k i more there) in
            absurd (not_misled k i bt wanted want_is m (row_follows q f past fresh last at bytes want these k i claim full))
        | inr l ↦ elim (cases_eq k last) [
          | inl is ↦
              let here : place (sights p) f last ≡ Some i = sym (grown_place p wp f last at cs label value sector able names wq last (omega arith)) ∙ ap (place (sights q) f) (sym is) ∙ there in
              let both : Some i ≡ Some at = sym here ∙ sector in
              let i_is : i ≡ at = cc in
              let full : word (sector_at q at).label 3 ≡ 512 = ap (λ j. word (sector_at q j).label 3) (sym i_is) ∙ elim s.full [ inl none ↦ absurd (omega (arith, first, is, none)) | inr all ↦ all ] in
              absurd (not_misled k i bt wanted want_is m (subst (λ n. Follows q f n i) (sym is) (subst (Follows q f last) (sym i_is) (last_follows full))))
          | inr ne ↦
              let here : place (sights p) f k ≡ Some i = sym (grown_place p wp f last at cs label value sector able names wq k l) ∙ there in
              let same = same_front p wp f last at cs label value sector able names wq k i (omega arith) here in
              record {
                stands = record {
                  page = s.page;
                  carries = place_carried p s.page i (ap (λ g. place (sights p) g k) fid ∙ here);
                  full = subst (λ x. (k ≡ 0) ⊎ (word x 3 ≡ 512)) same s.full;
                  means = s.means;
                  link = s.link ∙ ap (λ x. word x 0) same;
                };
                misses = λ j n is.
                    let was : place (sights p) f wanted.number ≡ Some j = ap (λ g. place (sights p) g wanted.number) (sym own) ∙ carried_in_place p wanted j wp is in
                    let now : place (sights q) f wanted.number ≡ Some j = grown_place p wp f last at cs label value sector able names wq wanted.number (omega (arith, number)) ∙ was in
                    m.misses j n (place_carried q wanted j (ap (λ g. place (sights q) g wanted.number) own ∙ now));
              }
        ]
      ]

-- ---- numbers of pages
module _ (b : ℕ) (new fresh : List ℕ) (number : length fresh ≡ pages_added b (length new)) where
  filled_last : min 512 (b % 512 + length new) ≡ 512 → 0 < length fresh
  filled_last e = omega (arith, number, e)

  wanted_pages : Want (drop (last_room b) new) fresh
  wanted_pages some = let d : length (drop (last_room b) new) ≡ length new - last_room b = length-drop (last_room b) new in omega (arith, number, d, some)

-- ---- the laws
pub grow_misled_before : GrowMisledBefore
grow_misled_before p f new past fresh at w t h number Root bt wanted on m = absurd on
grow_misled_before p f new past fresh at w t h number (Held i) bt wanted on m = absurd on
grow_misled_before p f new past fresh at w t h number (Entry d k) bt wanted on m =
    let b : ℕ = length (file_bytes (sights p) f) in
    let cs : List Claim = grown_claims p.shape f b at new past fresh in
    let label : List ℕ = grown_label p.shape b new fresh (sector_at p at).label in
    let value : List ℕ = grown_value b new past fresh (sector_at p at).value in
    address_misled_before f p (grow_writes cs at label value) d k bt wanted w (grow_leaves_others p f new cs at label value w t h) (dir_apart d f m.stands.directory h.file.no_directory)
    (inr (λ j i l there. grow_keeps_pages p f new cs at label value w t h j i (omega arith) there)) m
grow_misled_before p f new past fresh at w t h number (Next i) bt wanted on m =
    let b : ℕ = length (file_bytes (sights p) f) in
    let cs : List Claim = grown_claims p.shape f b at new past fresh in
    let label : List ℕ = grown_label p.shape b new fresh (sector_at p at).label in
    let value : List ℕ = grown_value b new past fresh (sector_at p at).value in
    let z : b / 512 + 2 ≡ suc (suc (b / 512)) = omega arith in
    let bytes : List ℕ = drop (last_room b) new in
    let row : cs ≡ claims_of p.shape f (suc (page_of_byte b)) at bytes past fresh = ap (λ n. claims_of p.shape f n at bytes past fresh) z in
    let wq : Whole (after p (grow_writes cs at label value)) = (grow_law p w t f h.file new cs at label value h).meets.whole in
    elim (is_fid wanted.fid f) as (λ c. is_fid wanted.fid f ≡ c → Misled p (Next i) bt wanted) [
      | false ↦ λ other. link_misled_before f p (grow_writes cs at label value) i bt wanted w wq (grow_leaves_others p f new cs at label value w t h) other m
      | true ↦ λ own. grown_link p w f (page_of_byte b) at cs label value h.sector h.claimable h.page wq bytes past fresh row (none_behind p w f at h.sector) (omega arith) refl (filled_last b new fresh number) (wanted_pages b new fresh number) i bt wanted (same_fid wanted.fid f own) m
    ] refl

pub widen_misled_before : WidenMisledBefore
widen_misled_before p d added past fresh at w t h number Root bt wanted on m = absurd on
widen_misled_before p d added past fresh at w t h number (Held i) bt wanted on m = absurd on
widen_misled_before p d added past fresh at w t h number (Entry e k) bt wanted on m =
    let b : ℕ = length (file_bytes (sights p) d) in
    let cs : List Claim = grown_claims p.shape d b at (bytes_of added) past fresh in
    let label : List ℕ = grown_label p.shape b (bytes_of added) fresh (sector_at p at).label in
    let value : List ℕ = grown_value b (bytes_of added) past fresh (sector_at p at).value in
    let q : Pack = after p (grow_writes cs at label value) in
    let left = widen_leaves_others p d added cs at label value w t h in
    let keeps = λ (j i : ℕ) (l : j ≤ 0) (there : place (sights p) d j ≡ Some i). widen_keeps_pages p d added cs at label value w t h j i (omega arith) there in
    elim (is_fid e d) as (λ c. is_fid e d ≡ c → Misled p (Entry e k) bt wanted) [
      | false ↦ λ other. address_misled_before d p (grow_writes cs at label value) e k bt wanted w left other (inr keeps) m
      | true ↦ λ own.
          let mine : Misled q (Entry d k) bt wanted = subst (λ g. Misled q (Entry g k) bt wanted) (same_fid e d own) m in
          let r = replacing_turns_round p q d (slots (dir_words p d)) [] (space 256 ∷ []) [] (widen_replaces_slots p d added cs at label value w t h) in
          subst (λ g. Misled p (Entry g k) bt wanted) (sym (same_fid e d own)) (record {
            stands = entry_stands_outside_of_free_slots q p d (slots (dir_words p d)) (space 256 ∷ []) [] [] k bt wanted r refl mine.stands;
            misses = λ i n is. mine.misses i n (leader_stays d p (grow_writes cs at label value) i wanted w left mine.stands.number keeps is);
          })
    ] refl
widen_misled_before p d added past fresh at w t h number (Next i) bt wanted on m =
    let b : ℕ = length (file_bytes (sights p) d) in
    let new : List ℕ = bytes_of added in
    let cs : List Claim = grown_claims p.shape d b at new past fresh in
    let label : List ℕ = grown_label p.shape b new fresh (sector_at p at).label in
    let value : List ℕ = grown_value b new past fresh (sector_at p at).value in
    let z : b / 512 + 2 ≡ suc (suc (b / 512)) = omega arith in
    let bytes : List ℕ = drop (last_room b) new in
    let row : cs ≡ claims_of p.shape d (suc (page_of_byte b)) at bytes past fresh = ap (λ n. claims_of p.shape d n at bytes past fresh) z in
    let wq : Whole (after p (grow_writes cs at label value)) = (widen_law p w t d added cs at label value h).meets.whole in
    elim (is_fid wanted.fid d) as (λ c. is_fid wanted.fid d ≡ c → Misled p (Next i) bt wanted) [
      | false ↦ λ other. link_misled_before d p (grow_writes cs at label value) i bt wanted w wq (widen_leaves_others p d added cs at label value w t h) other m
      | true ↦ λ own. grown_link p w d (page_of_byte b) at cs label value h.sector h.claimable h.page wq bytes past fresh row (none_behind p w d at h.sector) (omega arith) refl (filled_last b new fresh number) (wanted_pages b new fresh number) i bt wanted (same_fid wanted.fid d own) m
    ] refl
