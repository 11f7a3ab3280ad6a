-- A directory that is cut at the end of its slots.
use Rattle.std.proofs.Common.{[], ◌%◌, ◌*◌, ◌+◌, ◌/◌, ◌<◌, ◌∙◌, ◌∷◌, ◌≡◌, ◌≢◌, ◌≤◌, List, None, Option, Some, ap, arith, cond, false, get_or, inl, inr, length, length-take, min, refl, set, suc, sym, take, true, zero, ℕ}
use Rattle.std.proofs.lemmas.Bool.{cases_eq, cases_lt}
use Rattle.std.proofs.lemmas.List.{get_or-set_other, get_or-set_same}
use Rattle.std.specs.FinMap.{get}
use Rattle.std.specs.Option.{is_some}
use Rattle.laws_room.specs.alto_words.specs.declared.fid.Fid.{Fid}
use Rattle.laws_room.specs.alto_words.specs.Fid.{disk_descriptor, is_directory, is_fid}
use Rattle.laws_room.specs.disk_records.specs.Commands.{relabel_writes}
use Rattle.laws_room.specs.disk_records.specs.Labels.{page_of, tag}
use Rattle.laws_room.specs.disk_records.specs.Packs.{Pack, after, carried, sector_at}
use Rattle.laws_room.specs.disk_records.specs.declared.records.Page.{Page}
use Rattle.laws_room.specs.disk_records.specs.declared.records.Sector.{Sector}
use Rattle.laws_room.specs.pack_model.specs.hints.Links.{dir_words}
use Rattle.laws_room.specs.pack_model.specs.reading.Bodies.{File, body_of, described}
use Rattle.laws_room.specs.pack_model.specs.reading.Bodies.Body.{data_of, items_of}
use Rattle.laws_room.specs.pack_model.specs.reading.Bytes.{bytes_of}
use Rattle.laws_room.specs.pack_model.specs.reading.Files.{carries_page, file_bytes, leader, lives, place}
use Rattle.laws_room.specs.pack_model.specs.reading.Leaders.{Leader}
use Rattle.laws_room.specs.pack_model.specs.reading.Sights.{page_sight, sights}
use Rattle.laws_room.specs.pack_model.specs.reading.Sights.Sight.{hidden, holds, stray}
use Rattle.laws_room.specs.pack_model.specs.reading.Slots.{IsEven, SlotsReachEnd, all_words, slots}
use Rattle.laws_room.specs.pack_model.specs.reading.Slots.IsEven.{none, two}
use Rattle.laws_room.specs.pack_laws.proofs.Bytes.{length-words_of}
use Rattle.laws_room.specs.pack_laws.proofs.guards.Laws.{relabel_keeps_the_page}
use Rattle.laws_room.specs.pack_laws.proofs.Guarding.{carried_parts}
use Rattle.laws_room.specs.pack_laws.proofs.Keys.{is_fid-itself}
use Rattle.laws_room.specs.pack_laws.proofs.Placing.{one_page}
use Rattle.laws_room.specs.pack_laws.specs.GuardLaws.{ComesToHold}
use Rattle.laws_room.specs.laws_record.proofs.Copying.{place_carried}
use Rattle.laws_room.specs.laws_record.proofs.DirEnds.{cut_at_slots}
use Rattle.laws_room.specs.laws_record.proofs.DirReads.{not_descriptor}
use Rattle.laws_room.specs.laws_record.proofs.Heads.{all_within}
use Rattle.laws_room.specs.laws_record.proofs.Reading.{get_by, read_file}
use Rattle.laws_room.specs.laws_record.proofs.Recording.{carried_sight, carried_within, label_sights}
use Rattle.laws_room.specs.laws_record.proofs.slots.Laws.{reads_to_the_end}
use Rattle.laws_room.specs.laws_record.proofs.Staying.{FilesStay}
use Rattle.laws_room.specs.laws_record.proofs.Systemic.{described_get}
use Rattle.laws_room.specs.laws_record.specs.QuietLaws.{with_label}
use Rattle.laws_room.specs.laws_contents.proofs.ends.Laws.{each_file_has_its_end, last_page_ends_the_file}
use Rattle.laws_room.specs.laws_contents.specs.EndLaws.{HasItsEnd}
use Rattle.laws_room.specs.laws_contents.specs.PageLaws.{FullBefore, bytes_at}
use Rattle.laws_mend.proofs.inside.Filed.{bytes_by_places, lives_by_place}
use Rattle.laws_mend.proofs.inside.Freed.{rewritten_places, same_carried}
use Rattle.laws_mend.specs.CountingLaws.{DirectoryReachesItsEnd}
use Rattle.laws_mend.specs.PartLaws.{DirectoryCutLeaves}
use Rattle.laws_mend.specs.Parts.{Cleared}

-- as many bytes as twice a number are whole words
pub even_by : (n : ℕ) (bs : List ℕ) → length bs ≡ n + n → IsEven bs
even_by zero [] e = none
even_by zero (a ∷ bs) e = absurd (omega arith)
even_by (suc n) [] e = absurd (omega arith)
even_by (suc n) (a ∷ []) e = absurd (omega arith)
even_by (suc n) (a ∷ b ∷ bs) e = two (even_by n bs (omega arith))

-- a directory ends with its slots if their words are all its bytes
pub directory_reaches_its_end : DirectoryReachesItsEnd
directory_reaches_its_end p d all =
    let l = length-words_of (file_bytes (sights p) d) in
    record {
      even = even_by (all_words (slots (dir_words p d))) (file_bytes (sights p) d) (omega arith);
      items = slots (dir_words p d);
      reads = (reads_to_the_end (dir_words p d)).1 (omega arith);
    }

-- what is something is the same
some_is : {X : Type 0} {x y : X} → Some x ≡ Some y → x ≡ y
some_is e = cc

module _ (p : Pack) (d : Fid) (at n : ℕ) (label : List ℕ) (dir : is_directory d ≡ true) (is : place (sights p) d (suc n) ≡ Some at) (names : page_of label ≡ Some (record { fid = d; number = suc n })) (short : (tag label).bytes < 512)
    (ends : 512 * n + (tag label).bytes ≡ all_words (slots (dir_words p d)) * 2) where
  abbrev page : Page
  page = record { fid = d; number = suc n }

  abbrev value : List ℕ
  value = (sector_at p at).value

  abbrev q : Pack
  q = after p (relabel_writes at label value)

  here : carried p at ≡ Some page
  here = place_carried p page at is

  c : ComesToHold at page label value p q
  c = relabel_keeps_the_page p at page label 2 here names (omega arith)

  shown : sights q ≡ set (sights p) at (page_sight d (suc n) (tag label).bytes value)
  shown = c.shown

  places : (f : Fid) (m : ℕ) → place (sights q) f m ≡ place (sights p) f m
  places = rewritten_places p q at page (tag label).bytes value here shown

  aside : (k : ℕ) → k ≢ at → get_or (sights q) k hidden ≡ get_or (sights p) k hidden
  aside k other = ap (λ us. get_or us k hidden) shown ∙ get_or-set_other (sights p) at k (page_sight d (suc n) (tag label).bytes value) hidden other

  -- other files
  others : (f : Fid) → is_fid f d ≡ false → file_bytes (sights q) f ≡ file_bytes (sights p) f
  others f apart = bytes_by_places (sights p) (sights q) f (λ m. places f (suc m))
      (λ m k placed. aside k (λ same.
      let one = one_page (sights p) f d (suc m) (suc n) at (placed ∙ ap Some same) is in
      let e : true ≡ false = sym (is_fid-itself d) ∙ ap (λ g. is_fid g d) (sym one.0) ∙ apart in cc))

  -- ---- the directory
  -- the pages before this one are full
  ending : HasItsEnd p d
  ending = each_file_has_its_end p d

  reached : 512 * n + (tag label).bytes ≤ length (file_bytes (sights p) d)
  reached = let w = all_within (slots (dir_words p d)) (dir_words p d) refl in let s = length-words_of (file_bytes (sights p) d) in omega arith

  before : FullBefore q d n
  before = record {
    each = λ j less.
        let r = reached in
        let h = ending.before.each j (omega arith) in
        let apart : h.at ≢ at = λ same. let one = one_page (sights p) d d (suc j) (suc n) at (h.sector ∙ ap Some same) is in let e = one.1 in omega arith in
        record { at = h.at; sector = places d (suc j) ∙ h.sector; full = ap (λ (s : Sector). length (take (tag s.label).bytes (bytes_of s.value))) (c.others h.at apart) ∙ h.full };
  }

  -- it counts no more bytes than it had
  enough : (tag label).bytes ≤ length (bytes_at p at)
  enough = elim (cases_lt n (length (file_bytes (sights p) d) / 512)) [
    | inl below ↦
        (let h = ending.before.each n below in
        let same : h.at ≡ at = some_is (sym h.sector ∙ is) in
        let full : length (bytes_at p at) ≡ 512 = ap (λ k. length (bytes_at p k)) (sym same) ∙ h.full in
        omega arith)
    | inr last ↦
        (let r = reached in
        let z : length (file_bytes (sights p) d) / 512 ≡ n = omega arith in
        elim ending.end [
          | inl missing ↦ absurd (let e : None ≡ Some at = sym missing.0 ∙ ap (λ k. place (sights p) d (suc k)) z ∙ is in cc)
          | inr there ↦
              (let same : there.0 ≡ at = some_is (sym there.1 ∙ ap (λ k. place (sights p) d (suc k)) z ∙ is) in
              let counted : length (bytes_at p at) ≡ length (file_bytes (sights p) d) % 512 = ap (λ k. length (bytes_at p k)) (sym same) ∙ there.2 in
              omega arith)
        ])
  ]

  counted_now : length (bytes_at q at) ≡ (tag label).bytes
  counted_now =
      let e : bytes_at q at ≡ take (tag label).bytes (bytes_of value) = ap (λ (s : Sector). take (tag s.label).bytes (bytes_of s.value)) c.here in
      let l : length (take (tag label).bytes (bytes_of value)) ≡ min (tag label).bytes (length (bytes_of value)) = length-take (tag label).bytes (bytes_of value) in
      let old : length (bytes_at p at) ≡ min (tag (sector_at p at).label).bytes (length (bytes_of value)) = length-take (tag (sector_at p at).label).bytes (bytes_of value) in
      let m = enough in
      let k = ap length e in
      omega arith

  size : length (file_bytes (sights q) d) ≡ 512 * n + (tag label).bytes
  size = let k = counted_now in let h = (last_page_ends_the_file q d n at before (places d (suc n) ∙ is) (inl (omega arith))).size in omega arith

  -- its slots are the same
  slots_are : lives (sights p) d ≡ true → slots (dir_words q d) ≡ slots (dir_words p d)
  slots_are live = by (leader (sights p) d) refl
    where
      by : (r : Option Leader) → leader (sights p) d ≡ r → slots (dir_words q d) ≡ slots (dir_words p d)
      by None e = absurd (let x : false ≡ true = sym (ap is_some e) ∙ live in cc)
      by (Some l) e =
          let once : sights q ≡ sights (with_label p at label) = shown ∙ sym (label_sights p at page label (carried_parts p at page here).0 names) in
          let s : FilesStay p (with_label p at label) = (cut_at_slots p d at n label dir is names short ends).files in
          let led : leader (sights q) d ≡ Some l = ap (λ us. leader us d) once ∙ s.leaders d ∙ e in
          let plain : is_fid d disk_descriptor ≡ false = not_descriptor d dir in
          let files : Some (read_file d (file_bytes (sights q) d) l) ≡ Some (read_file d (file_bytes (sights p) d) l) =
          sym (get_by (sights q) d l (file_bytes (sights q) d) led refl) ∙ sym (described_get (sights q) d plain)
          ∙ ap (λ m. get m d) (ap described once ∙ s.files)
          ∙ described_get (sights p) d plain ∙ get_by (sights p) d l (file_bytes (sights p) d) e refl in
          let bodies : body_of d (file_bytes (sights q) d) ≡ body_of d (file_bytes (sights p) d) = ap (λ (x : File). x.body) (some_is files) in
          let items : items_of (slots (dir_words q d)) ≡ items_of (slots (dir_words p d)) =
          sym (ap (λ b. cond b (items_of (slots (dir_words q d))) (data_of (file_bytes (sights q) d))) dir) ∙ bodies
          ∙ ap (λ b. cond b (items_of (slots (dir_words p d))) (data_of (file_bytes (sights p) d))) dir in
          cc

  reaches : lives (sights p) d ≡ true → SlotsReachEnd (file_bytes (sights q) d)
  reaches live = let s = size in let same = ap all_words (slots_are live) in directory_reaches_its_end q d (omega arith)

  cleared : Cleared p → Cleared q
  cleared e = record { once = λ f m i j x y. e.once f m i j (was i f m x) (was j f m y); no_stray = λ i x. e.no_stray i (stray_was i x) }
    where
      held : get_or (sights q) at hidden ≡ page_sight d (suc n) (tag label).bytes value
      held = ap (λ us. get_or us at hidden) shown ∙ get_or-set_same (sights p) at (page_sight d (suc n) (tag label).bytes value) hidden (carried_within p at page here)

      was : (i : ℕ) (f : Fid) (m : ℕ) → carries_page f m (get_or (sights q) i hidden) ≡ true → carries_page f m (get_or (sights p) i hidden) ≡ true
      was i f m x = elim (cases_eq i at) [
        | inl same ↦
            ap (λ k. carries_page f m (get_or (sights p) k hidden)) same ∙ ap (carries_page f m) (carried_sight p at page here)
            ∙ same_carried f d m (suc n) (tag (sector_at p at).label).bytes (tag label).bytes value value
            ∙ sym (ap (carries_page f m) held) ∙ sym (ap (λ k. carries_page f m (get_or (sights q) k hidden)) same) ∙ x
        | inr other ↦ sym (ap (carries_page f m) (aside i other)) ∙ x
      ]

      stray_was : (i : ℕ) → get_or (sights q) i hidden ≡ stray → get_or (sights p) i hidden ≡ stray
      stray_was i x = elim (cases_eq i at) [
        | inl same ↦ absurd (let e : holds d n (take (tag label).bytes (bytes_of value)) ≡ stray = sym held ∙ sym (ap (λ k. get_or (sights q) k hidden) same) ∙ x in cc)
        | inr other ↦ sym (aside i other) ∙ x
      ]

pub directory_cut_leaves : DirectoryCutLeaves
directory_cut_leaves p d at n label dir is names short ends = record {
  lives_are = λ f. lives_by_place (sights p) (sights (q p d at n label dir is names short ends)) f (places p d at n label dir is names short ends f 0);
  places_are = places p d at n label dir is names short ends;
  others = others p d at n label dir is names short ends;
  ends = reaches p d at n label dir is names short ends;
  slots_are = slots_are p d at n label dir is names short ends;
  cleared = cleared p d at n label dir is names short ends;
}
