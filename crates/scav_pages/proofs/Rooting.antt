-- SysDir's leader page comes to sector 1.
use Rattle.std.proofs.Common.{◌≡◌, ◌≢◌, inl, inr, ℕ, ◌==◌, ◌<◌, ◌≤◌, Bool, true, false, cond, List, [], ◌∷◌, get_or, length, replicate, set, Option, Some, None, refl, sym, ap, subst, ◌∙◌, arith}
use Rattle.std.proofs.lemmas.Bool.Decides.{nat_tests}
use Rattle.std.specs.Option.{is_some, option_map_or}
use Rattle.alto_words.specs.Fid.{is_fid, sys_dir}
use Rattle.alto_words.specs.declared.fid.Fid.{Fid}
use Rattle.disk_records.specs.declared.records.Page.{Page}
use Rattle.disk_records.specs.declared.records.Sector.{Sector}
use Rattle.disk_records.specs.Commands.{claim_writes, release_writes}
use Rattle.disk_records.specs.Labels.{in_range, label_of, page_of, tag}
use Rattle.disk_records.specs.Packs.{Pack, after, carried, is_free_at, is_usable, sector_at}
use Rattle.disk_records.specs.Words.{word}
use Rattle.leader_page.specs.Pages.{Says}
use Rattle.pack_model.specs.hints.Links.{dir_words}
use Rattle.pack_model.specs.reading.Files.{leader, lives, place}
use Rattle.pack_model.specs.reading.Leaders.{Leader, is_readable, leader_of, leader_words}
use Rattle.pack_model.specs.reading.Sights.Sight.{hidden, leads}
use Rattle.pack_model.specs.reading.Sights.{sights}
use Rattle.pack_model.specs.reading.Slots.Item.{space}
use Rattle.pack_model.specs.reading.Slots.{slots}
use Rattle.laws_mend.specs.pack_laws.specs.GuardLaws.{ComesToHold}
use Rattle.laws_mend.specs.pack_laws.proofs.Keys.{same_fid}
use Rattle.laws_mend.specs.pack_laws.proofs.files.Laws.{places_are_lowest}
use Rattle.laws_mend.specs.pack_laws.proofs.guards.Laws.{claim_takes_at_the_label}
use Rattle.laws_mend.specs.laws_record.proofs.Recording.{carried_sight}
use Rattle.laws_mend.specs.laws_record.specs.QuietLaws.IsUnread.{leaderless}
use Rattle.laws_mend.specs.laws_operation.proofs.places.Laws.{file_lives_in_a_place, uncarried_page_has_no_place}
use Rattle.laws_mend.specs.PartLaws.{RootMade}
use Rattle.laws_mend.specs.Parts.{Rooted}
use Rattle.laws_mend.proofs.numbers.Laws.{first_sector_is_free, root_needs_two, two_needed_are_free}
use Rattle.laws_mend.proofs.parts.Laws.{copy_release_leaves, root_is_made, root_is_moved}
use Rattle.laws_mend.proofs.runs.Laws.{copy_release_tends, root_copy_tends, root_leader_tends, unread_claim_tends}
use Rattle.laws_mend.specs.Tending.{AllTends}
use Rattle.scav_pages.specs.Free.{NoneFreeFrom}
use Rattle.scav_pages.specs.Fresh.{fresh_leader}
use Rattle.scav_pages.specs.Keeping.{Leads}
use Rattle.scav_pages.specs.Parts.{MayMoveRoot}
use Rattle.scav_pages.proofs.Changing.{claim_changes, release_changes}
use Rattle.scav_pages.proofs.Keeping.{Mends, carried_lives, data_keeps, keeps_released, leader_keeps}
use Rattle.scav_pages.proofs.Leading.{leads_new, leads_now}

-- the label of a sector that carries a page names it
pub label_names : (p : Pack) (at : ℕ) (page : Page) → carried p at ≡ Some page → page_of (sector_at p at).label ≡ Some page
label_names p at page e = by (is_usable p.shape at (sector_at p at)) e
  where
    by : (t : Bool) → cond t (page_of (sector_at p at).label) None ≡ Some page → page_of (sector_at p at).label ≡ Some page
    by true h = h
    by false h = cc

abbrev pub root_page : ℕ → Page
root_page n = record { fid = sys_dir; number = n }

-- the labels of its first two pages, when they are made
first_range : (next previous : ℕ) → in_range (tag (label_of (root_page 1) 510 next previous)) ≡ true
unfolding in_range
first_range next previous = refl

leader_range : (next previous : ℕ) → in_range (tag (label_of (root_page 0) 512 next previous)) ≡ true
unfolding in_range
leader_range next previous = refl

pub first_in_range : {label : List ℕ} (next previous : ℕ) → label ≡ label_of (root_page 1) 510 next previous → in_range (tag label) ≡ true
first_in_range next previous is = ap (λ l. in_range (tag l)) is ∙ first_range next previous

pub first_names : {label : List ℕ} (next previous : ℕ) → label ≡ label_of (root_page 1) 510 next previous → page_of label ≡ Some (root_page 1)
first_names next previous is = ap page_of is ∙ ap (λ t. cond t (Some (root_page 1)) None) (first_range next previous)

pub leader_in_range : {label : List ℕ} (next previous : ℕ) → label ≡ label_of (root_page 0) 512 next previous → in_range (tag label) ≡ true
leader_in_range next previous is = ap (λ l. in_range (tag l)) is ∙ leader_range next previous

pub leader_names : {label : List ℕ} (next previous : ℕ) → label ≡ label_of (root_page 0) 512 next previous → page_of label ≡ Some (root_page 0)
leader_names next previous is = ap page_of is ∙ ap (λ t. cond t (Some (root_page 0)) None) (leader_range next previous)

-- the value of its first data page: one free slot of 255 words
abbrev pub root_words : List ℕ
root_words = set (replicate 256 0) 0 255

-- ---- its leader page is in another sector
module _ (p : Pack) (old : ℕ) (may : MayMoveRoot p (Some old)) (past : 1 < old) where
  seat : place (sights p) sys_dir 0 ≡ Some old
  seat = sym may.root_is

  pub root_carried : carried p old ≡ Some (root_page 0)
  root_carried = ((places_are_lowest p (root_page 0)).lowest old seat).here

  pub first_free : is_free_at p 1 ≡ true
  first_free = elim (first_sector_is_free p may.scavengeable may.used) [
    | inl here ↦ absurd (let same : Some old ≡ Some 1 = sym seat ∙ here in let is : old ≡ 1 = cc in omega arith)
    | inr free ↦ free
  ]

  pub copy_mends : (s : Sector) → s ≡ sector_at p old → Mends p (claim_writes 1 s.label s.value)
  copy_mends s is = subst (λ x. Mends p (claim_writes 1 x.label x.value)) (sym is) (record {
    each = record {
      tends = root_copy_tends p old first_free seat;
      changes = claim_changes p 1 (root_page 0) (sector_at p old).label (sector_at p old).value first_free (label_names p old (root_page 0) root_carried);
    };
    keeps = leader_keeps p 1 sys_dir (sector_at p old).label (sector_at p old).value first_free (label_names p old (root_page 0) root_carried)
        (λ dead here. absurd (living dead)) copied (λ dead. absurd (living dead));
  })
    where
      living : lives (sights p) sys_dir ≡ false → ⊥
      living dead = (let wrong : true ≡ false = sym (file_lives_in_a_place p sys_dir ∙ ap is_some seat) ∙ dead in cc)

      copied : (readable : Bool) (l : Leader) → Leads p sys_dir readable l → Leads (after p (claim_writes 1 (sector_at p old).label (sector_at p old).value)) sys_dir readable l
      copied readable l x =
          let at : Some x.at ≡ Some old = sym x.sector ∙ seat in
          let same : x.at ≡ old = cc in
          let shown : leads sys_dir readable l ≡ leads sys_dir (is_readable (leader_words (sector_at p old).value)) (leader_of sys_dir (sector_at p old).value) = sym x.says ∙ ap (λ k. get_or (sights p) k hidden) same ∙ carried_sight p old (root_page 0) root_carried in
          let can : readable ≡ is_readable (leader_words (sector_at p old).value) = cc in
          let lead : l ≡ leader_of sys_dir (sector_at p old).value = cc in
          subst (λ r. Leads (after p (claim_writes 1 (sector_at p old).label (sector_at p old).value)) sys_dir r l) (sym can)
          (subst (λ y. Leads (after p (claim_writes 1 (sector_at p old).label (sector_at p old).value)) sys_dir (is_readable (leader_words (sector_at p old).value)) y) (sym lead)
          (leads_now p 1 sys_dir (sector_at p old).label (sector_at p old).value first_free (label_names p old (root_page 0) root_carried) (λ j below. ((places_are_lowest p (root_page 0)).lowest old seat).lowest j (omega (arith, below, past)))))

  -- once the copy is there
  module _ (s : Sector) (is : s ≡ sector_at p old) (q : Pack) (left : q ≡ after p (claim_writes 1 s.label s.value)) where
    names : page_of s.label ≡ Some (root_page 0)
    names = ap (λ (x : Sector). page_of x.label) is ∙ label_names p old (root_page 0) root_carried

    taken : ComesToHold 1 (root_page 0) s.label s.value p q
    taken = subst (ComesToHold 1 (root_page 0) s.label s.value p) (sym left) ((claim_takes_at_the_label p 1 (root_page 0) s.label s.value 3 first_free names).taken (omega arith))

    pub still_carried : carried q old ≡ Some (root_page 0)
    still_carried = taken.pages old (λ same. omega arith) ∙ root_carried

    pub old_mends : Mends q (release_writes old)
    old_mends = record {
      each = record { tends = copy_release_tends q old 1 (root_page 0) still_carried taken.page_here past; changes = release_changes q old (root_page 0) still_carried };
      keeps = keeps_released q old (root_page 0) still_carried (copy_release_leaves q old 1 (root_page 0) still_carried taken.page_here past);
    }

    pub moved : (r : Pack) → r ≡ after q (release_writes old) → Rooted r
    moved r gone =
        subst Rooted (sym gone)
        (subst (λ x. Rooted (after x (release_writes old))) (sym left)
        (subst (λ x. Rooted (after (after p (claim_writes 1 x.label x.value)) (release_writes old))) (sym is) (root_is_moved p old may.used first_free seat)))

-- ---- it is in none
no_leader_of : (p : Pack) → place (sights p) sys_dir 0 ≡ None → leader (sights p) sys_dir ≡ None
no_leader_of p none = none_of (leader (sights p) sys_dir) (file_lives_in_a_place p sys_dir ∙ ap is_some none)
  where
    none_of : {X : Type 0} (o : Option X) → is_some o ≡ false → o ≡ None
    none_of None e = refl
    none_of (Some x) e = cc

module _ (p : Pack) (may : MayMoveRoot p None) where
  pub root_dead : lives (sights p) sys_dir ≡ false
  root_dead = file_lives_in_a_place p sys_dir ∙ ap is_some (sym may.root_is)

  pub some_free : (at : ℕ) × (2 ≤ at) × (is_free_at p at ≡ true)
  some_free = two_needed_are_free p may.used may.scavengeable (root_needs_two p root_dead)

  pub one_free : is_free_at p 1 ≡ true
  one_free = elim (first_sector_is_free p may.scavengeable may.used) [
    | inl here ↦ absurd (let same : None ≡ Some 1 = may.root_is ∙ here in cc)
    | inr free ↦ free
  ]

  pub not_none : NoneFreeFrom p 2 → ⊥
  not_none none = let at = some_free in let no : true ≡ false = sym at.2 ∙ none at.0 at.1 in cc

  no_leader : leader (sights p) sys_dir ≡ None
  no_leader = no_leader_of p (sym may.root_is)

  pub page_mends : (at : ℕ) (label value : List ℕ) → is_free_at p at ≡ true → 2 ≤ at → page_of label ≡ Some (root_page 1) → Mends p (claim_writes at label value)
  page_mends at label value free past names = record {
    each = record {
      tends = unread_claim_tends p at (root_page 1) label value free (λ same. omega arith) names refl (leaderless no_leader refl (omega arith));
      changes = claim_changes p at (root_page 1) label value free names;
    };
    keeps = data_keeps p at sys_dir label value free 0 names (λ d live dir. not_root_dir d live (is_fid d sys_dir) refl);
  }
    where
      not_root_dir : (d : Fid) → lives (sights p) d ≡ true → (t : Bool) → is_fid d sys_dir ≡ t → is_fid d sys_dir ≡ false
      not_root_dir d live true e = absurd (let wrong : true ≡ false = sym live ∙ ap (lives (sights p)) (same_fid d sys_dir e) ∙ root_dead in cc)
      not_root_dir d live false e = e

  -- once its first data page is there
  module _ (at : ℕ) (label value : List ℕ) (free : is_free_at p at ≡ true) (past : 2 ≤ at) (names : page_of label ≡ Some (root_page 1)) (q : Pack) (left : q ≡ after p (claim_writes at label value)) where
    added_page : ComesToHold at (root_page 1) label value p q
    added_page = subst (ComesToHold at (root_page 1) label value p) (sym left) ((claim_takes_at_the_label p at (root_page 1) label value 3 free names).taken (omega arith))

    pub one_still_free : is_free_at q 1 ≡ true
    one_still_free = added_page.frees 1 (λ same. omega arith) ∙ one_free

    still_none : (i : ℕ) (t : Bool) → (i == at) ≡ t → carried q i ≢ Some (root_page 0)
    still_none i true e here =
        let same : i ≡ at = grind (arith, nat_tests, e) in
        let two : Some (root_page 1) ≡ Some (root_page 0) = sym added_page.page_here ∙ ap (carried q) (sym same) ∙ here in
        let number : 1 ≡ 0 = ap (λ (o : Option Page). option_map_or (λ page. page.number) o 0) two in
        absurd (omega (arith, number))
    still_none i false e here =
        let other : i ≢ at = λ same. (let no = subst (λ k. (k == at) ≡ false) same e in grind (arith, nat_tests, no)) in
        (places_are_lowest p (root_page 0)).none (sym may.root_is) i (sym (added_page.pages i other) ∙ here)

    still_dead : leader (sights q) sys_dir ≡ None
    still_dead = no_leader_of q (uncarried_page_has_no_place q (root_page 0) (λ i within. still_none i (i == at) refl))

    module _ (later_label later_value : List ℕ) (counts : (tag label).bytes ≡ 510) (sized : length value ≡ 256) (first : word value 0 ≡ 255) (later_names : page_of later_label ≡ Some (root_page 0)) where
      made : RootMade (after p (claim_writes at label value)) (after (after p (claim_writes at label value)) (claim_writes 1 later_label later_value))
      made = root_is_made p at label value later_label later_value may.used root_dead one_free free (λ same. omega arith) names counts sized first later_names

      pub leader_mends : {hints : List ℕ} → Says later_value (fresh_leader sys_dir) hints → Mends q (claim_writes 1 later_label later_value)
      leader_mends says = record {
        each = record { tends = leader_tends; changes = claim_changes q 1 (root_page 0) later_label later_value one_still_free later_names };
        keeps = leader_keeps q 1 sys_dir later_label later_value one_still_free later_names (λ dead here. subst (λ x. slots (dir_words x sys_dir) ≡ space 255 ∷ []) (sym left) made.slots) (λ readable l x. absurd (dead_now (file_lives_in_a_place q sys_dir ∙ ap is_some x.sector)))
            (λ dead. leads_new q 1 sys_dir later_label later_value one_still_free later_names (λ j below carries. dead_now (carried_lives q j sys_dir carries)) says);
      }
        where
          dead_now : lives (sights q) sys_dir ≡ true → ⊥
          dead_now live = (let wrong : true ≡ false = sym live ∙ ap is_some still_dead in cc)

          leader_tends : AllTends q (claim_writes 1 later_label later_value)
          leader_tends = subst (λ x. AllTends x (claim_writes 1 later_label later_value)) (sym left)
              (root_leader_tends (after p (claim_writes at label value)) later_label later_value (subst (λ x. is_free_at x 1 ≡ true) left one_still_free) later_names (subst (λ x. leader (sights x) sys_dir ≡ None) left still_dead) made.slots)

      pub root_made : (r : Pack) → r ≡ after q (claim_writes 1 later_label later_value) → Rooted r
      root_made r is = subst Rooted (sym is) (subst (λ x. Rooted (after x (claim_writes 1 later_label later_value))) (sym left) made.rooted)

-- ---- it is there
pub root_stays : (p : Pack) (root : Option ℕ) → MayMoveRoot p root → root ≡ Some 1 → Rooted p
root_stays p root may is = record {
  used = may.used;
  root = (_, _, carried_sight p 1 (root_page 0) ((places_are_lowest p (root_page 0)).lowest 1 (sym may.root_is ∙ is)).here);
}
