-- SysDir's leader page is moved to sector 1.
use Rattle.std.proofs.Common.{◌<◌, ◌∙◌, ◌≡◌, ◌≢◌, ◌⊎◌, Bool, List, Some, ap, arith, false, get_or, inl, inr, length, refl, set, subst, suc, sym, true, ℕ}
use Rattle.std.proofs.Math.ListN.{length-set}
use Rattle.std.proofs.lemmas.Bool.{cases_eq}
use Rattle.std.proofs.lemmas.List.{get_or-set_other, get_or-set_same, get_or_default}
use Rattle.std.specs.Prelude.{◌&&◌}
use Rattle.std.specs.Option.{is_some}
use Rattle.laws_room.specs.alto_words.specs.declared.fid.Fid.{Fid}
use Rattle.laws_room.specs.alto_words.specs.Fid.{is_fid, sys_dir}
use Rattle.laws_room.specs.disk_records.specs.Commands.{claim_writes, release_writes}
use Rattle.laws_room.specs.disk_records.specs.Labels.{page_of, tag}
use Rattle.laws_room.specs.disk_records.specs.Packs.{Pack, after, carried, is_free_at, sector_at}
use Rattle.laws_room.specs.disk_records.specs.declared.records.Page.{Page}
use Rattle.laws_room.specs.pack_model.specs.reading.Files.{carries_page, file_bytes, lives, place}
use Rattle.laws_room.specs.pack_model.specs.reading.Sights.{Sight, page_sight, sights}
use Rattle.laws_room.specs.pack_model.specs.reading.Sights.Sight.{free, hidden, leads}
use Rattle.laws_room.specs.pack_model.specs.reading.Slots.{SlotsReachEnd}
use Rattle.laws_room.specs.pack_model.specs.states.InUse.{counts, in_use, is_good, is_place}
use Rattle.laws_room.specs.pack_model.specs.states.Sentences.{EachOnce, IsUsed}
use Rattle.laws_room.specs.pack_laws.proofs.guards.Laws.{claim_takes_at_the_label}
use Rattle.laws_room.specs.pack_laws.proofs.Guarding.{carried_parts}
use Rattle.laws_room.specs.pack_laws.proofs.Keys.{same_fid}
use Rattle.laws_room.specs.pack_laws.proofs.Placing.{leader_of_place, page_of_place, place_from, place_same}
use Rattle.laws_room.specs.pack_laws.specs.GuardLaws.{ComesToHold}
use Rattle.laws_room.specs.laws_record.proofs.Copying.{place_carried}
use Rattle.laws_room.specs.laws_record.proofs.Recording.{carried_sight, free_sight, free_within}
use Rattle.laws_mend.proofs.inside.Alike.{counts_alike}
use Rattle.laws_mend.proofs.inside.Availing.{none_free, same_in_use}
use Rattle.laws_mend.proofs.inside.Counted.{led_counts}
use Rattle.laws_mend.proofs.inside.Filed.{bytes_by_places, lives_by_place, lives_place}
use Rattle.laws_mend.proofs.inside.Releasing.{shown_twice}
use Rattle.laws_mend.specs.PartLaws.{RootIsMoved}
use Rattle.laws_mend.specs.Parts.{Rooted, Used}

-- ---- SysDir's leader page in sector 1, and its old sector free
module _ (p q : Pack) (old : ℕ) (used : Used p) (is : is_free_at p 1 ≡ true) (placed : place (sights p) sys_dir 0 ≡ Some old) (shape : q.shape ≡ p.shape)
    (shown : sights q ≡ set (set (sights p) 1 (get_or (sights p) old hidden)) old free) where
  alone : EachOnce (sights p)
  alone = used.ended.cleared.once

  abbrev s : Sight
  s = get_or (sights p) old hidden

  led : s ≡ leads sys_dir (leader_of_place (sights p) sys_dir old placed).readable (leader_of_place (sights p) sys_dir old placed).lead
  led = (leader_of_place (sights p) sys_dir old placed).shows hidden

  bare : get_or (sights p) 1 hidden ≡ free
  bare = free_sight p 1 is

  apart : old ≢ 1
  apart same = (let h = led in let c = ap (λ k. get_or (sights p) k hidden) same in let b = bare in cc)

  within : old < length (sights p)
  within = (leader_of_place (sights p) sys_dir old placed).within

  within_set : old < length (set (sights p) 1 s)
  within_set = subst (λ k. old < k) (sym (length-set (sights p) 1 s)) within

  -- what each sector shows
  at_old : get_or (sights q) old hidden ≡ free
  at_old = ap (λ us. get_or us old hidden) shown ∙ get_or-set_same (set (sights p) 1 s) old free hidden within_set

  at_first : get_or (sights q) 1 hidden ≡ s
  at_first = ap (λ us. get_or us 1 hidden) shown ∙ get_or-set_other (set (sights p) 1 s) old 1 free hidden (λ same. apart (sym same)) ∙ get_or-set_same (sights p) 1 s hidden (free_within p 1 is)

  aside : (k : ℕ) → k ≢ 1 → k ≢ old → get_or (sights q) k hidden ≡ get_or (sights p) k hidden
  aside k a b = ap (λ us. get_or us k hidden) shown ∙ get_or-set_other (set (sights p) 1 s) old k free hidden b ∙ get_or-set_other (sights p) 1 k s hidden a

  -- a sector that carries a page
  carrier : (f : Fid) (n i : ℕ) → carries_page f n (get_or (sights q) i hidden) ≡ true → ((i ≡ 1) × (carries_page f n s ≡ true)) ⊎ ((i ≢ 1) × (i ≢ old) × (carries_page f n (get_or (sights p) i hidden) ≡ true))
  carrier f n i x = elim (cases_eq i 1) [
    | inl first ↦ inl (first, sym (ap (carries_page f n) at_first) ∙ ap (λ k. carries_page f n (get_or (sights q) k hidden)) (sym first) ∙ x)
    | inr other ↦ elim (cases_eq i old) [
      | inl same ↦ absurd (let c : true ≡ false = sym x ∙ ap (λ k. carries_page f n (get_or (sights q) k hidden)) same ∙ ap (carries_page f n) at_old ∙ none_free f n in cc)
      | inr aside_it ↦ inr (other, aside_it, sym (ap (carries_page f n) (aside i other aside_it)) ∙ x)
    ]
  ]

  once : EachOnce (sights q)
  once f n i j x y = elim (carrier f n i x) [
    | inl a ↦ elim (carrier f n j y) [
      | inl b ↦ a.0 ∙ sym b.0
      | inr b ↦ absurd (b.1 (alone f n j old b.2 a.1))
    ]
    | inr a ↦ elim (carrier f n j y) [
      | inl b ↦ absurd (a.1 (alone f n i old a.2 b.1))
      | inr b ↦ alone f n i j a.2 b.2
    ]
  ]

  -- places
  others : (f : Fid) (n : ℕ) → carries_page f n s ≡ false → place (sights q) f n ≡ place (sights p) f n
  others f n none =
      ap (λ us. place us f n) shown
      ∙ place_same (set (sights p) 1 s) old free f n within_set (none_free f n ∙ sym (ap (carries_page f n) (get_or-set_other (sights p) 1 old s hidden apart) ∙ none))
      ∙ place_same (sights p) 1 s f n (free_within p 1 is) (none ∙ sym (ap (carries_page f n) bare ∙ none_free f n))

  data_places : (f : Fid) (n : ℕ) → place (sights q) f (suc n) ≡ place (sights p) f (suc n)
  data_places f n = others f (suc n) (ap (carries_page f (suc n)) led)

  root_place : place (sights q) sys_dir 0 ≡ Some 1
  root_place =
      let has : carries_page sys_dir 0 s ≡ true = ap (carries_page sys_dir 0) led in
      place_from (sights q) sys_dir 0 1 (record {
        within = subst (λ us. 1 < length us) (sym shown) (subst (λ k. 1 < k) (sym (length-set (set (sights p) 1 s) old free ∙ length-set (sights p) 1 s)) (free_within p 1 is));
        carries = λ d. ap (carries_page sys_dir 0) (get_or_default (sights q) 1 d hidden (subst (λ us. 1 < length us) (sym shown) (subst (λ k. 1 < k) (sym (length-set (set (sights p) 1 s) old free ∙ length-set (sights p) 1 s)) (free_within p 1 is))) ∙ at_first) ∙ has;
        lowest = λ j d less. below j d less has;
      })
    where
      below : (j : ℕ) (d : Sight) → j < 1 → carries_page sys_dir 0 s ≡ true → carries_page sys_dir 0 (get_or (sights q) j d) ≡ false
      below j d less has = by (carries_page sys_dir 0 (get_or (sights q) j d)) refl
        where
          length_now : 1 < length (sights q)
          length_now = subst (λ us. 1 < length us) (sym shown) (subst (λ k. 1 < k) (sym (length-set (set (sights p) 1 s) old free ∙ length-set (sights p) 1 s)) (free_within p 1 is))

          by : (b : Bool) → carries_page sys_dir 0 (get_or (sights q) j d) ≡ b → carries_page sys_dir 0 (get_or (sights q) j d) ≡ false
          by false e = e
          by true e =
              let l = length_now in
              let here : carries_page sys_dir 0 (get_or (sights q) j hidden) ≡ true = ap (carries_page sys_dir 0) (get_or_default (sights q) j hidden d (omega arith)) ∙ e in
              absurd (elim (carrier sys_dir 0 j here) [
                | inl a ↦ (let z = a.0 in omega arith)
                | inr b ↦ b.1 (alone sys_dir 0 j old b.2 has)
              ])

  lives_stay : (f : Fid) → lives (sights q) f ≡ lives (sights p) f
  lives_stay f = by (is_fid f sys_dir) refl
    where
      by : (b : Bool) → is_fid f sys_dir ≡ b → lives (sights q) f ≡ lives (sights p) f
      by false e = lives_by_place (sights p) (sights q) f (others f 0 (ap (carries_page f 0) led ∙ e))
      by true e = subst (λ g. lives (sights q) g ≡ lives (sights p) g) (sym (same_fid f sys_dir e)) (lives_place (sights q) sys_dir ∙ ap is_some root_place ∙ sym (lives_place (sights p) sys_dir ∙ ap is_some placed))

  bytes_stay : (f : Fid) → file_bytes (sights q) f ≡ file_bytes (sights p) f
  bytes_stay f = bytes_by_places (sights p) (sights q) f (data_places f) (λ n k e.
      let h = (page_of_place (sights p) f n k e).shows hidden in
      aside k (λ same. (let c = ap (λ j. get_or (sights p) j hidden) same in let b = bare in cc)) (λ same. (let c = ap (λ j. get_or (sights p) j hidden) same in let b = led in cc)))

  counted : (f : Fid) (n : ℕ) → counts p.shape (sights q) f n ≡ counts p.shape (sights p) f n
  counted f n = counts_alike p.shape (sights p) (sights q) f n (lives_stay f) (bytes_stay f)

  moved_used : (i : ℕ) → IsUsed q.shape (sights q) i
  moved_used i = subst (λ h. IsUsed h (sights q) i) (sym shape) by_place
    where
      by_place : IsUsed p.shape (sights q) i
      by_place good = elim (cases_eq i 1) [
        | inl first ↦ inr
            (ap (λ k. in_use p.shape (sights q) (k, get_or (sights q) k hidden)) first
            ∙ ap (λ x. in_use p.shape (sights q) (1, x)) (at_first ∙ led)
            ∙ (λ j. (counted sys_dir 0 ∙ led_counts p sys_dir (leader_of_place (sights p) sys_dir old placed).lead (leader_of_place (sights p) sys_dir old placed).leader_is) j && is_place 1 (root_place j)))
        | inr other ↦ elim (cases_eq i old) [
          | inl same ↦ inl (ap (λ k. get_or (sights q) k hidden) same ∙ at_old)
          | inr apart_it ↦ by other apart_it (used.used i (ap is_good (sym (aside i other apart_it)) ∙ good))
        ]
      ]
        where
          by : i ≢ 1 → i ≢ old → (get_or (sights p) i hidden ≡ free) ⊎ (in_use p.shape (sights p) (i, get_or (sights p) i hidden) ≡ true) → (get_or (sights q) i hidden ≡ free) ⊎ (in_use p.shape (sights q) (i, get_or (sights q) i hidden) ≡ true)
          by other apart_it (inl e) = inl (aside i other apart_it ∙ e)
          by other apart_it (inr e) = inr
              (ap (λ x. in_use p.shape (sights q) (i, x)) (aside i other apart_it)
              ∙ same_in_use p.shape (sights p) (sights q) i (get_or (sights p) i hidden) counted (λ f n has. ap (is_place i) (others f n (none f n has (carries_page f n s) refl)))
              ∙ e)
            where
              none : (f : Fid) (n : ℕ) → carries_page f n (get_or (sights p) i hidden) ≡ true → (b : Bool) → carries_page f n s ≡ b → carries_page f n s ≡ false
              none f n has false e = e
              none f n has true e = absurd (apart_it (alone f n i old has e))

  moved : Rooted q
  moved = record {
    used = record {
      ended = record {
        cleared = record {
          once = once;
          no_stray = λ i e. elim (cases_eq i 1) [
            | inl first ↦ (let a = led in let b = at_first in let c = ap (λ k. get_or (sights q) k hidden) first in cc)
            | inr other ↦ elim (cases_eq i old) [
              | inl same ↦ (let b = at_old in let c = ap (λ k. get_or (sights q) k hidden) same in cc)
              | inr apart_it ↦ used.ended.cleared.no_stray i (sym (aside i other apart_it) ∙ e)
            ]
          ];
        };
        directories = λ d live dir. subst SlotsReachEnd (sym (bytes_stay d)) (used.ended.directories d (sym (lives_stay d) ∙ live) dir);
      };
      used = moved_used;
    };
    root = ((leader_of_place (sights p) sys_dir old placed).lead, (leader_of_place (sights p) sys_dir old placed).readable, at_first ∙ led);
  }

pub root_is_moved : RootIsMoved
root_is_moved p old used is placed =
    let page : Page = record { fid = sys_dir; number = 0 } in
    let label : List ℕ = (sector_at p old).label in
    let value : List ℕ = (sector_at p old).value in
    let here : carried p old ≡ Some page = place_carried p page old placed in
    let names : page_of label ≡ Some page = (carried_parts p old page here).1 in
    let one : Pack = after p (claim_writes 1 label value) in
    let c : ComesToHold 1 page label value p one = (claim_takes_at_the_label p 1 page label value 3 is names).taken (omega arith) in
    let same : page_sight sys_dir 0 (tag label).bytes value ≡ get_or (sights p) old hidden = sym (carried_sight p old page here) in
    let other : old ≢ 1 = λ first. (let a = free_sight p 1 is in let b = (leader_of_place (sights p) sys_dir old placed).shows hidden in let d = ap (λ k. get_or (sights p) k hidden) first in cc) in
    let still : carried one old ≡ Some page = c.pages old other ∙ here in
    let usable = (carried_parts one old page still).0 in
    moved p (after one (release_writes old)) old used is placed refl (shown_twice one old usable ∙ ap (λ us. set us old free) (c.shown ∙ ap (set (sights p) 1) same))
