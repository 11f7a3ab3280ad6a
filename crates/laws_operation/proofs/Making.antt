-- Make: page 1 and the leader of a new file are claimed.
use Rattle.std.proofs.Common.{Bool, List, None, Some, [], ap, arith, cond, eq-eqb, false, get_or, inl, inr, length, refl, set, subst, sym, true, ℕ, ◌%◌, ◌*◌, ◌-◌, ◌<◌, ◌∙◌, ◌∷◌, ◌≡◌, ◌≤◌}
use Rattle.std.proofs.lemmas.Bool.{lt-ltb}
use Rattle.std.proofs.lemmas.List.{append-nil, get_or-set_other, get_or-set_same, length-replicate}
use Rattle.std.specs.Prelude.{nat_lt, replicate}
use Rattle.laws_contents.specs.alto_words.specs.Fid.{disk_descriptor, is_directory, sys_dir}
use Rattle.laws_contents.specs.alto_words.specs.declared.fid.Fid.{Fid}
use Rattle.laws_contents.specs.disk_records.specs.Labels.{in_range, page_of, tag}
use Rattle.laws_contents.specs.disk_records.specs.Packs.{Pack, after}
use Rattle.laws_contents.specs.disk_records.specs.Words.{word}
use Rattle.laws_contents.specs.disk_records.specs.declared.records.Event.TheVariants.{Wrote}
use Rattle.laws_contents.specs.disk_records.specs.declared.records.Page.{Page}
use Rattle.laws_contents.specs.pack_model.specs.reading.Bodies.{body_of}
use Rattle.laws_contents.specs.pack_model.specs.reading.Bodies.Body.{data_of, items_of}
use Rattle.laws_contents.specs.pack_model.specs.reading.Bytes.{bytes_of, words_of}
use Rattle.laws_contents.specs.pack_model.specs.operations.Commands.{Claim, claimed, claims_writes}
use Rattle.laws_contents.specs.pack_model.specs.operations.Committing.{MakesMove}
use Rattle.laws_contents.specs.pack_model.specs.reading.Files.{file_bytes, leader, most_pages, place}
use Rattle.laws_contents.specs.pack_model.specs.reading.Leaders.{Leader}
use Rattle.laws_contents.specs.pack_model.specs.sessions.Meanings.{reading}
use Rattle.laws_contents.specs.pack_model.specs.reading.Model.{Model, good_one, read_as, read_sights}
use Rattle.laws_contents.specs.pack_model.specs.reading.Namings.{body_namings}
use Rattle.laws_contents.specs.pack_model.specs.operations.Operations.{make_writes}
use Rattle.laws_contents.specs.pack_model.specs.operations.Operations.Move.{commits}
use Rattle.laws_contents.specs.pack_model.specs.operations.PageWords.{page_number}
use Rattle.laws_contents.specs.pack_model.specs.reading.Sights.{Sight, sights, tag_sight}
use Rattle.laws_contents.specs.pack_model.specs.reading.Sights.Sight.{free, hidden, holds, leads}
use Rattle.laws_contents.specs.pack_model.specs.reading.SlotWords.{space_words}
use Rattle.laws_contents.specs.pack_model.specs.reading.Slots.{IsSlot, Reads, SlotsReachEnd, is_entry, slot_fid, slot_name, slots}
use Rattle.laws_contents.specs.pack_model.specs.reading.Slots.Item.{entry, space}
use Rattle.laws_contents.specs.pack_model.specs.reading.Slots.Reads.{next, none}
use Rattle.laws_contents.specs.pack_model.specs.operations.Step.{new_body, new_file, new_leader, step}
use Rattle.laws_contents.specs.pack_model.specs.operations.Step.Operation.{make}
use Rattle.laws_contents.specs.pack_model.specs.states.Whole.{HasPages, FileWhole, Headless, IsLaid, Leads, PageAt, Tidy, TidySights, Whole, WholeSights, absent, present}
use Rattle.laws_contents.specs.pack_laws.proofs.Bytes.{length-bytes_of, words_of-bytes_of}
use Rattle.laws_contents.specs.pack_laws.proofs.Guarding.{named_shown}
use Rattle.laws_contents.specs.pack_laws.proofs.Joining.{most_is}
use Rattle.laws_contents.specs.pack_laws.proofs.Moving.{obeys_then, stands_last}
use Rattle.laws_contents.specs.pack_laws.proofs.Placing.{leader_of_place, none_of_false, place_of_leader}
use Rattle.laws_contents.specs.laws_record.proofs.Heads.{all_read}
use Rattle.laws_contents.specs.laws_record.proofs.Reading.{read_file}
use Rattle.laws_operation.proofs.inside.Coming.{make_reads, make_tidy, make_whole}
use Rattle.laws_operation.proofs.Commanding.{claim_label, claim_obeys, claim_shows}
use Rattle.laws_operation.proofs.inside.Elsewhere.{MayBe, SameBut, but_trans, not_same, same_set, there}
use Rattle.laws_operation.proofs.inside.Evens.{even_words}
use Rattle.laws_operation.proofs.inside.Kept.{carries_out}
use Rattle.laws_operation.proofs.Lying.{bytes_laid, shows_set, within}
use Rattle.laws_operation.proofs.Seating.{carries_join, carries_none, carries_set, leader_is}
use Rattle.laws_operation.proofs.inside.Standing.{claims_go}
use Rattle.laws_operation.specs.LifeLaws.{MayMake, first_bytes}
use Rattle.laws_operation.specs.Outcomes.{CarriesOut}
use Rattle.laws_contents.specs.laws_record.proofs.Recording.{free_sight}

-- what isn't there
pub record Missing (ss : List Sight) (f : Fid) : Type 0 where
  pub headless : Headless ss f
  pub carries : HasPages ss f [] 0 []

-- where no leader is there is no page
pub missing : (ss : List Sight) (f : Fid) → FileWhole ss f → leader ss f ≡ None → Missing ss f
missing ss f (absent h c) e = record { headless = h; carries = c }
missing ss f (present at l pages h c laid few) e = let x : Some l ≡ None = sym (leader_is ss f at true l h) ∙ e in absurd cc

-- a label that names a page
pub named_page : (label : List ℕ) (x : Page) → page_of label ≡ Some x → (tag label ≡ record { fid = x.fid; page = x.number; bytes = word label 3 }) × (in_range (tag label) ≡ true)
named_page label x e = by (in_range (tag label)) refl e
  where
    by : (r : Bool) → in_range (tag label) ≡ r → cond r (Some (page_number (tag label).fid (tag label).page)) None ≡ Some x → (tag label ≡ record { fid = x.fid; page = x.number; bytes = word label 3 }) × (in_range (tag label) ≡ true)
    by true is e = let y : page_number (tag label).fid (tag label).page ≡ x = cc in ((λ i. record { fid = (y i).fid; page = (y i).number; bytes = word label 3 }), is)
    by false is e = absurd cc

-- ---- the first page of a new file
-- words of which the first says their number are a free slot
free_slot : (w : List ℕ) → 0 < length w → length w < 1024 → word w 0 ≡ length w → IsSlot w (space (length w))
free_slot w some most is = record {
  some = some;
  most = most;
  first = ap (λ n. n % 1024) is ∙ (let e : length w % 1024 ≡ length w = omega arith in e);
  reads = ap (λ b. cond b (Some (space (length w))) (cond (is_entry w) (Some (entry (slot_fid w) (slot_name w))) None)) (eq-eqb (word w 0) (length w) is);
  size = refl;
}

-- one free slot
pub space_reads : (n : ℕ) → 0 < n → n < 1024 → Reads (space_words n) (space n ∷ [])
space_reads n some most =
    let size : length (space_words n) ≡ n = let r : length {A = ℕ} (replicate (n - 1) 0) ≡ n - 1 = length-replicate {A = ℕ} (n - 1) 0 in omega (arith, r, some) in
    let slot : IsSlot (space_words n) (space n) = subst (λ k. IsSlot (space_words n) (space k)) size (free_slot (space_words n) (omega (arith, size, some)) (omega (arith, size, most)) (sym size)) in
    next (sym (append-nil (space_words n))) slot none

-- it is the body of a new file
first_is : (f : Fid) → body_of f (first_bytes f) ≡ new_body f
first_is f = by (is_directory f)
  where
    by : (b : Bool) → cond b (items_of (slots (words_of (cond b (bytes_of (space_words 255)) [])))) (data_of (cond b (bytes_of (space_words 255)) [])) ≡ cond b (items_of (space 255 ∷ [])) (data_of [])
    by true = ap (λ ws. items_of (slots ws)) (words_of-bytes_of (space_words 255)) ∙ ap items_of (all_read (space_words 255) (space 255 ∷ []) (space_reads 255 (omega arith) (omega arith))).0
    by false = refl

-- its slots reach its end
first_ends : (f : Fid) → is_directory f ≡ true → SlotsReachEnd (first_bytes f)
first_ends f dir = subst (λ b. SlotsReachEnd (cond b (bytes_of (space_words 255)) [])) (sym dir) (record {
  even = even_words (space_words 255);
  items = space 255 ∷ [];
  reads = subst (λ ws. Reads ws (space 255 ∷ [])) (sym (words_of-bytes_of (space_words 255))) (space_reads 255 (omega arith) (omega arith));
})

-- it isn't full
first_short : (f : Fid) → nat_lt (length (first_bytes f)) 512 ≡ true
first_short f = by (is_directory f)
  where
    by : (b : Bool) → nat_lt (length (cond b (bytes_of (space_words 255)) [])) 512 ≡ true
    by true = let zeros : List ℕ = replicate 254 0 in let r : length zeros ≡ 254 = length-replicate {A = ℕ} 254 0 in let n : length (bytes_of (255 ∷ zeros)) ≡ 2 * length (255 ∷ zeros) = length-bytes_of (255 ∷ zeros) in lt-ltb (length (bytes_of (255 ∷ zeros))) 512 (omega arith)
    by false = refl

-- it has no entries
pub bare_first : (f : Fid) → body_namings f (new_body f) ≡ []
bare_first f = by (is_directory f)
  where
    by : (b : Bool) → body_namings f (cond b (items_of (space 255 ∷ [])) (data_of [])) ≡ []
    by true = refl
    by false = refl

module _ (p : Pack) (w : Whole p) (t : Tidy p) where
  -- make
  pub make_law : (f : Fid) (name : List ℕ) (moment : ℕ) (page head : Claim) → MayMake p f name moment page head → CarriesOut p (make_writes page head) (make f name moment)
  make_law f name moment page head hyp =
      let few : 1 ≤ most_pages = subst (λ n. 1 ≤ n) (sym most_is) (omega arith) in
      let ss : List Sight = sights p in
      let k : Leader = new_leader name moment in
      let none_there : leader ss f ≡ None = none_of_false (leader ss f) hyp.not_there in
      let gap = missing ss f (w.files f) none_there in
      let m : Model = read_as p in
      let other = hyp.no_descriptor in
      let not_dd : f ≡ disk_descriptor → ⊥ = not_same f disk_descriptor other in
      let page_named = named_page page.label (page_number f 1) hyp.page_is in
      let page_free : get_or ss page.at hidden ≡ free = free_sight p page.at hyp.page_free in
      let r = claims_go (page ∷ []) p f [] None [] 0 m refl (page_free, page_named.0, page_named.1, tt) (gap.headless, not_dd) gap.carries refl in
      let q : Pack = after p (claims_writes (page ∷ [])) in
      let b : List ℕ = (claimed page).1 in
      let shows_q : sights q ≡ set ss page.at (holds f 0 b) = claim_shows p page.at page_free page.label page.value (holds f 0 b) (named_shown page.label page.value (page_number f 1) hyp.page_is) in
      let free_q : get_or (sights q) head.at hidden ≡ free = ap (λ x. get_or x head.at hidden) shows_q ∙ get_or-set_other ss page.at head.at (holds f 0 b) hidden hyp.two ∙ free_sight p head.at hyp.leader_free in
      let s : Sight = leads f true k in
      let us : List Sight = set (sights q) head.at s in
      let l : head.at < length (sights q) = within (sights q) head.at (ap good_one free_q) in
      let label_is : tag_sight (tag head.label) head.value ≡ s = named_shown head.label head.value (page_number f 0) hyp.leader_is ∙ (λ i. leads f (hyp.readable i) (hyp.says i)) in
      let heads : Leads us f head.at true k = record {
        shows = get_or-set_same (sights q) head.at s hidden l;
        only = λ i x y e. elim (shows_set (sights q) head.at s i (leads f x y) l e) [ inl a ↦ a.0 | inr a ↦ absurd (r.stands.0 i x y a.1) ];
      } in
      let pages : List PageAt = claimed page ∷ [] in
      let laid : IsLaid pages = ap (λ x. nat_lt (length x) 512) hyp.bytes ∙ first_short f in
      let c : HasPages us f pages 0 [] = carries_join us f [] pages (carries_set (sights q) f [] 0 pages r.carries head.at s l (λ n d e. let z : free ≡ holds f n d = sym free_q ∙ e in absurd cc) (λ n d e. absurd cc)) in
      let same : SameBut f ss us = but_trans f ss (sights q) us r.same (same_set f (sights q) head.at s (subst (MayBe f) (sym free_q) tt) refl) in
      let now : leader us f ≡ Some k = leader_is us f head.at true k heads in
      let bytes : file_bytes us f ≡ first_bytes f = bytes_laid us f pages 1 [] (carries_none us f pages 0 1 c) (omega arith) laid few ∙ append-nil b ∙ hyp.bytes in
      let file : read_file f (file_bytes us f) k ≡ new_file f name moment = ap (λ z. read_file f z k) bytes ∙ ap (λ z. record { leader = k; body = z }) (first_is f) in
      let reads : read_sights p.shape us ≡ step m (make f name moment) = make_reads p.shape ss us f k (new_file f name moment) same none_there now other file (bare_first f) t hyp.last in
      let root : (x : Leader) → get_or ss 1 hidden ≡ leads sys_dir true x → get_or us 1 hidden ≡ leads sys_dir true x = λ x e.
      there f ss us same 1 (leads sys_dir true x) (λ z. let y : get_or ss 1 hidden ≡ leads f true x = e ∙ ap (λ g. leads g true x) z in gap.headless 1 true x y) e in
      let whole = make_whole p.shape ss us f k (new_file f name moment) same none_there now other file (bare_first f) t w (present head.at k pages heads c laid few) (λ dir. subst SlotsReachEnd (sym bytes) (first_ends f dir)) hyp.last root in
      let shows : sights (after p (make_writes page head)) ≡ us = claim_shows q head.at free_q head.label head.value s label_is in
      let q1 : Pack = after q (Wrote head.at 2 head.value ∷ []) in
      let placed_now : place us f 0 ≡ Some head.at = let x = place_of_leader us f k now in let y = leader_of_place us f x.0 x.1 in x.1 ∙ ap Some (heads.only x.0 y.readable y.lead (y.shows hidden)) in
      let makes : MakesMove q1 (Wrote head.at 1 head.label) (commits (make f name moment)) = record { part_is = refl; bears = ap (λ x. place x f 0) (claim_label q head.at free_q head.label head.value s label_is) ∙ placed_now } in
      carries_out p (make_writes page head) (make f name moment) f refl (subst (SameBut f ss) (sym shows) same) other (record {
        obeys = obeys_then reading r.obeys (claim_obeys q head.at free_q head.label head.value s label_is m (commits (make f name moment)) (stands_last reading r.obeys) makes reads);
        whole = subst (WholeSights p.shape) (sym shows) whole;
        tidy = subst TidySights (sym shows) (make_tidy p.shape ss us f k (new_file f name moment) same none_there now other file (bare_first f) t);
      })
