-- A directory gets a page more.
use Rattle.std.proofs.Common.{List, Some, [], ap, append-nil, append_assoc, arith, drop, false, get_or, length, refl, set, subst, suc, sym, take, true, ℕ, ◌++◌, ◌+◌, ◌/◌, ◌∙◌, ◌∷◌, ◌≡◌, ◌≤◌}
use Rattle.std.proofs.lemmas.List.{get_or_append_left, length-append}
use Rattle.std.specs.Option.{is_some}
use Rattle.laws_contents.specs.alto_words.specs.Fid.{is_fid}
use Rattle.laws_contents.specs.alto_words.specs.declared.fid.Fid.{Fid}
use Rattle.laws_contents.specs.disk_records.specs.Labels.{tag}
use Rattle.laws_contents.specs.disk_records.specs.Packs.{Pack, after, sector_at}
use Rattle.laws_contents.specs.disk_records.specs.declared.records.Event.{Event}
use Rattle.laws_contents.specs.pack_model.specs.reading.Bytes.{bytes_of, words_of}
use Rattle.laws_contents.specs.pack_model.specs.operations.Commands.{Claim, all_claimed, claims_of, claims_writes, grown_claims, grown_label, grown_value, last_room}
use Rattle.laws_contents.specs.pack_model.specs.operations.Committing.{page_of_byte}
use Rattle.laws_contents.specs.pack_model.specs.reading.Files.{file_bytes, lives, most_pages, place}
use Rattle.laws_contents.specs.pack_model.specs.hints.Links.{LinksTrue, dir_words}
use Rattle.laws_contents.specs.pack_model.specs.reading.Model.{dir_items, read_as}
use Rattle.laws_contents.specs.pack_model.specs.operations.Operations.{grow_writes}
use Rattle.laws_contents.specs.pack_model.specs.reading.Sights.{Sight, sights}
use Rattle.laws_contents.specs.pack_model.specs.reading.Sights.Sight.{hidden, holds}
use Rattle.laws_contents.specs.pack_model.specs.reading.Slots.{slots}
use Rattle.laws_contents.specs.pack_model.specs.reading.Slots.Item.{space}
use Rattle.laws_contents.specs.pack_model.specs.reading.Slots.Reads.{next, none}
use Rattle.laws_contents.specs.pack_model.specs.states.Whole.{Tidy, Whole}
use Rattle.laws_contents.specs.pack_laws.proofs.Bytes.{words_of-bytes_of}
use Rattle.laws_contents.specs.pack_laws.proofs.Keys.{same_fid}
use Rattle.laws_contents.specs.laws_record.proofs.Heads.{all_read}
use Rattle.laws_contents.specs.laws_record.proofs.Slotting.{slots_reads}
use Rattle.laws_contents.specs.laws_record.specs.QuietLaws.{counted_of}
use Rattle.laws_operation.proofs.EnterLaw.{items_are}
use Rattle.laws_operation.proofs.inside.Evens.{words_of-append}
use Rattle.laws_operation.proofs.Grown.{few_pages, last_page, old_counted}
use Rattle.laws_operation.proofs.inside.Growing.{grow_changed, grow_shows}
use Rattle.laws_operation.proofs.Lying.{together-append}
use Rattle.laws_operation.proofs.Seating.{leader_is}
use Rattle.laws_operation.proofs.Widening.{widen_law}
use Rattle.laws_operation.specs.ByteLaws.{together}
use Rattle.laws_operation.specs.NameLaws.{MayWiden}
use Rattle.laws_operation.proofs.inside.links.Addresses.{AllTrue, true_join, true_more, true_words}
use Rattle.laws_operation.proofs.inside.links.Directories.{DirTrue, all_dirs, dirs_true, leaders_stay, other_dir, other_lives}
use Rattle.laws_operation.proofs.inside.links.FileGrowth.{none_behind}
use Rattle.laws_operation.proofs.inside.links.Framing.{AllConcern}
use Rattle.laws_operation.proofs.inside.links.Growing.{grow_concerns, grown_links, grown_place}
use Rattle.laws_operation.proofs.inside.links.Linked.{FileLinks, file_links}
use Rattle.laws_operation.proofs.inside.links.OneFile.{pages_true}
use Rattle.laws_operation.specs.NameLinkLaws.{WidenKeepsLinks}

module _ (p : Pack) (w : Whole p) (t : Tidy p) (d : Fid) (added : List ℕ) (cs : List Claim) (i : ℕ) (label value : List ℕ) (hyp : MayWiden p d added cs i label value) where
  -- the directory lives
  living : lives (sights p) d ≡ true
  living = ap is_some (leader_is (sights p) d (last_page (sights p) d i (w.files d) hyp.sector).spot.at true (last_page (sights p) d i (w.files d) hyp.sector).spot.lead (last_page (sights p) d i (w.files d) hyp.sector).spot.leads_it)

  -- the words come after those of the directory
  pub widened_words : dir_words (after p (grow_writes cs i label value)) d ≡ dir_words p d ++ added
  widened_words =
      let ss : List Sight = sights p in
      let k : ℕ = length (file_bytes ss d) / 512 in
      let last = last_page ss d i (w.files d) hyp.sector in
      let old : List ℕ = last.old in
      let h = last.spot in
      let is : get_or ss i hidden ≡ holds d k old = last.shows in
      let old_is : old ≡ counted_of p i (sector_at p i).value = old_counted p d k i old is in
      let c0 : List ℕ = take (tag label).bytes (bytes_of value) in
      let past : counted_of p i value ≡ old = hyp.kept ∙ sym old_is in
      let n : length (h.front ++ (i, old) ∷ h.later) ≡ length h.front + suc (length h.later) = length-append h.front ((i, old) ∷ h.later) in
      let few : suc k + length (all_claimed cs) ≤ most_pages = few_pages ss d (suc k) cs (let e = h.number in let l = h.few in omega arith) hyp.claimable in
      let us : List Sight = set (sights (after p (claims_writes cs))) i (holds d k c0) in
      let ch = grow_changed p d k i old h is last.short cs hyp.claimable (read_as p) refl label value c0 past hyp.page refl hyp.laid few in
      let shows = grow_shows p d k i old h is last.short cs hyp.claimable (read_as p) refl label value c0 past hyp.page refl hyp.laid few in
      let more_bytes : c0 ++ together (all_claimed cs) ≡ old ++ bytes_of added = hyp.bytes ∙ ap (λ x. x ++ bytes_of added) (sym old_is) in
      let old_bytes : file_bytes ss d ≡ together h.front ++ old = ch.before ∙ together-append h.front ((i, old) ∷ []) ∙ ap (λ x. together h.front ++ x) (append-nil old) in
      let new_bytes : file_bytes us d ≡ file_bytes ss d ++ bytes_of added =
      ch.since ∙ together-append h.front ((i, c0) ∷ all_claimed cs) ∙ ap (λ x. together h.front ++ x) more_bytes ∙ sym (append_assoc (together h.front) old (bytes_of added)) ∙ ap (λ x. x ++ bytes_of added) (sym old_bytes) in
      ap (λ x. words_of (file_bytes x d)) shows ∙ ap words_of new_bytes ∙ words_of-append (file_bytes ss d) (bytes_of added) (w.directories d living hyp.directory).even
      ∙ ap (λ x. words_of (file_bytes ss d) ++ x) (words_of-bytes_of added)

  -- its slots' addresses stand where they stood
  widened_true : (us : List Sight) → ((g : Fid) (a : ℕ) → place (sights p) g 0 ≡ Some a → place us g 0 ≡ Some a) → LinksTrue p → AllTrue us (dir_words p d ++ added) 0 (slots (dir_words p d ++ added))
  widened_true us stay links =
      let r = w.directories d living hyp.directory in
      let read = all_read (dir_words p d) r.items r.reads in
      let full = read.1 in
      let one : slots added ≡ space 256 ∷ [] = (all_read added (space 256 ∷ []) (next (sym (append-nil added)) hyp.slot none)).0 in
      let now : slots (dir_words p d ++ added) ≡ r.items ++ space 256 ∷ [] = slots_reads (dir_words p d) added r.items r.reads ∙ ap (λ x. r.items ++ x) one in
      let items : dir_items (read_as p) d ≡ r.items = items_are p t d living hyp.directory ∙ read.0 in
      let was : AllTrue (sights p) (dir_words p d) 0 r.items = subst (AllTrue (sights p) (dir_words p d) 0) items (dirs_true p links.entries d living hyp.directory) in
      let moved : AllTrue us (dir_words p d) 0 r.items = true_more (sights p) us (dir_words p d) 0 r.items stay was in
      let front : AllTrue us (dir_words p d ++ added) 0 r.items = true_words us (dir_words p d) (dir_words p d ++ added) 0 r.items (λ k l m. get_or_append_left (dir_words p d) added 0 k (omega (arith, full, m))) moved in
      subst (AllTrue us (dir_words p d ++ added) 0) (sym now) (true_join us (dir_words p d ++ added) 0 r.items (space 256 ∷ []) front (tt, tt))

-- a widening
pub widen_keeps_links : WidenKeepsLinks
widen_keeps_links p d added past fresh at w t h links =
    let b : ℕ = length (file_bytes (sights p) d) in
    let last : ℕ = page_of_byte b in
    let new : List ℕ = bytes_of added in
    let cs : List Claim = grown_claims p.shape d b at new past fresh in
    let label : List ℕ = grown_label p.shape b new fresh (sector_at p at).label in
    let value : List ℕ = grown_value b new past fresh (sector_at p at).value in
    let z : b / 512 + 2 ≡ suc (suc (b / 512)) = omega arith in
    let bytes : List ℕ = drop (last_room b) new in
    let row : cs ≡ claims_of p.shape d (suc last) at bytes past fresh = ap (λ n. claims_of p.shape d n at bytes past fresh) z in
    let events : List Event = grow_writes cs at label value in
    let q : Pack = after p events in
    let out = widen_law p w t d added cs at label value h in
    let wq : Whole q = out.meets.whole in
    let tq : Tidy q = out.meets.tidy in
    let all : AllConcern d p events = grow_concerns p w d last at cs label value h.sector h.claimable h.page in
    let mine : FileLinks q d = grown_links p w d last at cs label value h.sector h.claimable h.page wq bytes past fresh row (none_behind p w d at h.sector) refl refl (file_links p w links.pages d) in
    let leader : (a : ℕ) → place (sights p) d 0 ≡ Some a → place (sights q) d 0 ≡ Some a = λ a e. grown_place p w d last at cs label value h.sector h.claimable h.page wq 0 (omega arith) ∙ e in
    let words : dir_words q d ≡ dir_words p d ++ added = widened_words p w t d added cs at label value h in
    record {
      pages = pages_true p d events w wq all mine links.pages;
      entries = all_dirs q (λ g live dir. elim (is_fid g d) as (λ c. is_fid g d ≡ c → DirTrue q g) [
        | true ↦ λ e.
            let live_d : lives (sights q) d ≡ true = subst (λ x. lives (sights q) x ≡ true) (same_fid g d e) live in
            let items : dir_items (read_as q) d ≡ slots (dir_words p d ++ added) = items_are q tq d live_d h.directory ∙ ap slots words in
            let own : AllTrue (sights q) (dir_words p d ++ added) 0 (slots (dir_words p d ++ added)) = widened_true p w t d added cs at label value h (sights q) (leaders_stay p d events w wq all leader) links in
            subst (DirTrue q) (sym (same_fid g d e)) (subst (λ ws. AllTrue (sights q) ws 0 (dir_items (read_as q) d)) (sym words) (subst (AllTrue (sights q) (dir_words p d ++ added) 0) (sym items) own))
        | false ↦ λ e. other_dir p d events w wq all t tq leader g e live dir (dirs_true p links.entries g (other_lives p d events w wq all g e live) dir)
      ] refl);
    }
