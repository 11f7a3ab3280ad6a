-- Packs whose sectors show the same, except what leader pages say.
use Rattle.std.proofs.Common.{[], ◌<◌, ◌∙◌, ◌∷◌, ◌≡◌, ◌≢◌, ◌⊎◌, Bool, List, None, Option, Some, ap, arith, get_or, inl, inr, length, refl, set, subst, suc, sym, true, false, zero, ℕ, ◌/◌}
use Rattle.std.proofs.Math.ListN.{length-set}
use Rattle.std.proofs.lemmas.Bool.{cases_eq}
use Rattle.std.proofs.lemmas.List.{get_or-set_other, get_or-set_same}
use Rattle.std.specs.Option.{is_some, option_map}
use Rattle.std.specs.Prelude.{cond, nat_lt}
use Rattle.laws_room.specs.alto_words.specs.declared.fid.Fid.{Fid}
use Rattle.laws_room.specs.alto_words.specs.Fid.{disk_descriptor}
use Rattle.laws_room.specs.disk_records.specs.Addresses.{descriptor_length}
use Rattle.laws_room.specs.disk_records.specs.Commands.{relabel_writes, value_writes}
use Rattle.laws_room.specs.disk_records.specs.Labels.{tag}
use Rattle.laws_room.specs.disk_records.specs.Packs.{Pack, after, sector_at}
use Rattle.laws_room.specs.disk_records.specs.Words.{word}
use Rattle.laws_room.specs.disk_records.specs.declared.records.Sector.{Sector}
use Rattle.laws_room.specs.disk_records.specs.declared.shape.Shape.{Shape}
use Rattle.laws_room.specs.pack_model.specs.hints.Links.{HasLinks, link_to, next_link, no_link, previous_link}
use Rattle.laws_room.specs.pack_model.specs.reading.Files.{carries_page, file_bytes, leader, lives, place}
use Rattle.laws_room.specs.pack_model.specs.reading.Leaders.{Leader, is_readable, leader_of, leader_words}
use Rattle.laws_room.specs.pack_model.specs.reading.Sights.{Sight, page_sight, sights}
use Rattle.laws_room.specs.pack_model.specs.reading.Sights.Sight.{free, hidden, holds, leads, stray}
use Rattle.laws_room.specs.pack_model.specs.reading.Slots.{SlotsReachEnd}
use Rattle.laws_room.specs.pack_model.specs.states.InUse.{counts, in_use, is_good, is_place, is_within}
use Rattle.laws_room.specs.pack_laws.proofs.guards.Laws.{relabel_keeps_the_page, value_writes_keep_the_page}
use Rattle.laws_room.specs.pack_laws.proofs.Placing.{page_of_place}
use Rattle.laws_room.specs.pack_laws.specs.GuardLaws.{ComesToHold}
use Rattle.laws_room.specs.laws_record.proofs.Reading.{get-found, read_file}
use Rattle.laws_room.specs.laws_record.proofs.Recording.{carried_sight, carried_within}
use Rattle.laws_room.specs.laws_record.proofs.Unseen.{tag_after}
use Rattle.laws_mend.proofs.inside.Availing.{same_in_use}
use Rattle.laws_mend.proofs.inside.Filed.{bytes_by_places, lives_by_place}
use Rattle.laws_mend.proofs.inside.Freed.{rewritten_places}
use Rattle.laws_mend.specs.PartLaws.{LeaderValueLeaves, OtherLinksLeave}
use Rattle.laws_mend.specs.Parts.{Cleared, Ended, Lasting, Rooted, SameFiles, Used}

-- ---- two sights
-- they are one, or both are leader pages of one file
pub data IsAlike (s t : Sight) : Type 0 where
  one : s ≡ t → IsAlike s t
  led : (f : Fid) (a b : Bool) (k l : Leader) → s ≡ leads f a k → t ≡ leads f b l → IsAlike s t

alike_carries : (s t : Sight) → IsAlike s t → (f : Fid) (n : ℕ) → carries_page f n s ≡ carries_page f n t
alike_carries s t (one e) f n = ap (carries_page f n) e
alike_carries s t (led g a b k l x y) f zero = ap (carries_page f 0) x ∙ sym (ap (carries_page f 0) y)
alike_carries s t (led g a b k l x y) f (suc n) = ap (carries_page f (suc n)) x ∙ sym (ap (carries_page f (suc n)) y)

alike_good : (s t : Sight) → IsAlike s t → is_good s ≡ is_good t
alike_good s t (one e) = ap is_good e
alike_good s t (led g a b k l x y) = ap is_good x ∙ sym (ap is_good y)

alike_stray : (s t : Sight) → IsAlike s t → s ≡ stray → t ≡ stray
alike_stray s t (one e) is = sym e ∙ is
alike_stray s t (led g a b k l x y) is = absurd (let c : leads g a k ≡ stray = sym x ∙ is in cc)

alike_free : (s t : Sight) → IsAlike s t → t ≡ free → s ≡ free
alike_free s t (one e) is = e ∙ is
alike_free s t (led g a b k l x y) is = absurd (let c : leads g b l ≡ free = sym y ∙ is in cc)

alike_use : (shape : Shape) (ss : List Sight) (at : ℕ) (s t : Sight) → IsAlike s t → in_use shape ss (at, s) ≡ in_use shape ss (at, t)
alike_use shape ss at s t (one e) = ap (λ x. in_use shape ss (at, x)) e
alike_use shape ss at s t (led g a b k l x y) = ap (λ z. in_use shape ss (at, z)) x ∙ sym (ap (λ z. in_use shape ss (at, z)) y)

alike_leads : (f : Fid) (r : Bool) (l : Leader) (s t : Sight) → IsAlike s t → t ≡ leads f r l → (k : Leader) × (readable : Bool) × (s ≡ leads f readable k)
alike_leads f r l s t (one e) is = (l, r, e ∙ is)
alike_leads f r l s t (led g a b k m x y) is = (k, a, (let e : leads g b m ≡ leads f r l = sym y ∙ is in let same : g ≡ f = cc in x ∙ ap (λ h. leads h a k) same))

-- the links that they have to have
pub alike_next : (shape : Shape) (ss tt : List Sight) → ((f : Fid) (n : ℕ) → place tt f n ≡ place ss f n) → (s : Sight) → next_link shape tt s ≡ next_link shape ss s
alike_next shape ss tt same hidden = refl
alike_next shape ss tt same free = refl
alike_next shape ss tt same stray = refl
alike_next shape ss tt same (leads f r l) = ap (link_to shape) (same f 1)
alike_next shape ss tt same (holds f n bytes) = ap (λ r. cond (nat_lt (length bytes) 512) no_link (link_to shape r)) (same f (suc (suc n)))

pub alike_previous : (shape : Shape) (ss tt : List Sight) → ((f : Fid) (n : ℕ) → place tt f n ≡ place ss f n) → (s : Sight) → previous_link shape tt s ≡ previous_link shape ss s
alike_previous shape ss tt same hidden = refl
alike_previous shape ss tt same free = refl
alike_previous shape ss tt same stray = refl
alike_previous shape ss tt same (leads f r l) = refl
alike_previous shape ss tt same (holds f n bytes) = ap (link_to shape) (same f n)

other_next : (shape : Shape) (ss : List Sight) (s t : Sight) → IsAlike s t → next_link shape ss s ≡ next_link shape ss t
other_next shape ss s t (one e) = ap (next_link shape ss) e
other_next shape ss s t (led g a b k l x y) = ap (next_link shape ss) x ∙ sym (ap (next_link shape ss) y)

other_previous : (shape : Shape) (ss : List Sight) (s t : Sight) → IsAlike s t → previous_link shape ss s ≡ previous_link shape ss t
other_previous shape ss s t (one e) = ap (previous_link shape ss) e
other_previous shape ss s t (led g a b k l x y) = ap (previous_link shape ss) x ∙ sym (ap (previous_link shape ss) y)

-- ---- pages that count
pub counts_alike : (shape : Shape) (ss tt : List Sight) (f : Fid) (n : ℕ) → lives tt f ≡ lives ss f → file_bytes tt f ≡ file_bytes ss f → counts shape tt f n ≡ counts shape ss f n
counts_alike shape ss tt f n live bytes =
    ap (is_within shape f n) (get-found tt f) ∙ ap (λ b. is_within shape f n (option_map (read_file f b) (leader tt f))) bytes ∙ by (leader tt f) (leader ss f) live ∙ sym (ap (is_within shape f n) (get-found ss f))
  where
    by : (a b : Option Leader) → is_some a ≡ is_some b → is_within shape f n (option_map (read_file f (file_bytes ss f)) a) ≡ is_within shape f n (option_map (read_file f (file_bytes ss f)) b)
    by None None e = refl
    by None (Some b) e = absurd (let c : false ≡ true = e in cc)
    by (Some a) None e = absurd (let c : true ≡ false = e in cc)
    by (Some a) (Some b) e = refl

-- ---- two packs
-- they show the same, except what leader pages say
pub record AreAlike (p q : Pack) : Type 0 where
  pub shape : q.shape ≡ p.shape
  pub size : length (sights q) ≡ length (sights p)
  pub files : SameFiles p q
  pub each : (i : ℕ) → IsAlike (get_or (sights q) i hidden) (get_or (sights p) i hidden)

module _ (p q : Pack) (a : AreAlike p q) where
  links_stay : (i : ℕ) → (sector_at q i).label ≡ (sector_at p i).label → HasLinks p i → HasLinks q i
  links_stay i label h = record {
    next = ap (λ l. word l 0) label ∙ h.next
        ∙ sym (ap (λ s. next_link s (sights q) (get_or (sights q) i hidden)) a.shape ∙ alike_next p.shape (sights p) (sights q) a.files.places_are (get_or (sights q) i hidden) ∙ other_next p.shape (sights p) _ _ (a.each i));
    previous = ap (λ l. word l 1) label ∙ h.previous
        ∙ sym (ap (λ s. previous_link s (sights q) (get_or (sights q) i hidden)) a.shape ∙ alike_previous p.shape (sights p) (sights q) a.files.places_are (get_or (sights q) i hidden) ∙ other_previous p.shape (sights p) _ _ (a.each i));
  }

  carries_same : (i : ℕ) (f : Fid) (n : ℕ) → carries_page f n (get_or (sights q) i hidden) ≡ carries_page f n (get_or (sights p) i hidden)
  carries_same i f n = alike_carries _ _ (a.each i) f n

  pub cleared_alike : Cleared p → Cleared q
  cleared_alike c = record {
    once = λ f n i j x y. c.once f n i j (sym (carries_same i f n) ∙ x) (sym (carries_same j f n) ∙ y);
    no_stray = λ i is. c.no_stray i (alike_stray _ _ (a.each i) is);
  }

  pub ended_alike : Ended p → Ended q
  ended_alike e = record {
    cleared = cleared_alike e.cleared;
    directories = λ d live dir. subst SlotsReachEnd (sym (a.files.bytes_are d)) (e.directories d (sym (a.files.lives_are d) ∙ live) dir);
  }

  pub used_alike : Used p → Used q
  used_alike u = record { ended = ended_alike u.ended; used = λ i good. by i (u.used i (sym (alike_good _ _ (a.each i)) ∙ good)) }
    where
      by : (i : ℕ) → (get_or (sights p) i hidden ≡ free) ⊎ (in_use p.shape (sights p) (i, get_or (sights p) i hidden) ≡ true) → (get_or (sights q) i hidden ≡ free) ⊎ (in_use q.shape (sights q) (i, get_or (sights q) i hidden) ≡ true)
      by i (inl is) = inl (alike_free _ _ (a.each i) is)
      by i (inr is) = inr
          (ap (λ s. in_use s (sights q) (i, get_or (sights q) i hidden)) a.shape
          ∙ alike_use p.shape (sights q) i _ _ (a.each i)
          ∙ same_in_use p.shape (sights p) (sights q) i (get_or (sights p) i hidden) (λ f n. counts_alike p.shape (sights p) (sights q) f n (a.files.lives_are f) (a.files.bytes_are f)) (λ f n has. ap (is_place i) (a.files.places_are f n))
          ∙ is)

  pub rooted_alike : Rooted p → Rooted q
  rooted_alike r = record { used = used_alike r.used; root = alike_leads _ r.root.1 r.root.0 _ _ (a.each 1) r.root.2 }

  pub lasting_alike : Lasting p → Lasting q
  lasting_alike l = record {
    rooted = rooted_alike l.rooted;
    last_pages = λ f live.
        ap is_some (ap (λ b. place (sights q) f (suc (length b / 512))) (a.files.bytes_are f) ∙ a.files.places_are f (suc (length (file_bytes (sights p) f) / 512)))
        ∙ l.last_pages f (sym (a.files.lives_are f) ∙ live);
    descriptor_lives = a.files.lives_are disk_descriptor ∙ l.descriptor_lives;
    descriptor_size = ap length (a.files.bytes_are disk_descriptor) ∙ l.descriptor_size ∙ sym (ap descriptor_length a.shape);
  }

-- where all is shown as it was they are
same_sights : (p q : Pack) → q.shape ≡ p.shape → sights q ≡ sights p → AreAlike p q
same_sights p q shape shown = record {
  shape = shape;
  size = ap length shown;
  files = record { lives_are = λ f. ap (λ us. lives us f) shown; bytes_are = λ f. ap (λ us. file_bytes us f) shown; places_are = λ f n. ap (λ us. place us f n) shown };
  each = λ i. one (ap (λ us. get_or us i hidden) shown);
}

-- what stands there is written
set_itself : (ss : List Sight) (i : ℕ) → i < length ss → set ss i (get_or ss i hidden) ≡ ss
set_itself [] i l = refl
set_itself (x ∷ ss) zero l = refl
set_itself (x ∷ ss) (suc i) l = ap (λ r. x ∷ r) (set_itself ss i (omega arith))

-- ---- the laws
pub other_links_leave : OtherLinksLeave
other_links_leave p at page label here names tail =
    let q : Pack = after p (relabel_writes at label (sector_at p at).value) in
    let c : ComesToHold at page label (sector_at p at).value p q = relabel_keeps_the_page p at page label 2 here names (omega arith) in
    let tags : tag label ≡ tag (sector_at p at).label = tag_after (sector_at p at).label label tail in
    let shown : sights q ≡ sights p =
    c.shown ∙ ap (λ t. set (sights p) at (page_sight page.fid page.number t.bytes (sector_at p at).value)) tags ∙ ap (set (sights p) at) (sym (carried_sight p at page here)) ∙ set_itself (sights p) at (carried_within p at page here) in
    let a = same_sights p q refl shown in
    record {
      shown = shown;
      others = λ i other. links_stay p q a i (ap (λ (s : Sector). s.label) (c.others i other));
      here = λ next previous. record {
        next = ap (λ (s : Sector). word s.label 0) c.here ∙ next ∙ sym (ap (λ us. next_link p.shape us (get_or us at hidden)) shown);
        previous = ap (λ (s : Sector). word s.label 1) c.here ∙ previous ∙ sym (ap (λ us. previous_link p.shape us (get_or us at hidden)) shown);
      };
      lasting = lasting_alike p q a;
    }

pub leader_value_leaves : LeaderValueLeaves
leader_value_leaves p at page value here first =
    let q : Pack = after p (value_writes at value) in
    let c : ComesToHold at page (sector_at p at).label value p q = value_writes_keep_the_page p at page value 1 here (omega arith) in
    let now : get_or (sights q) at hidden ≡ leads page.fid (is_readable (leader_words value)) (leader_of page.fid value) =
    ap (λ us. get_or us at hidden) c.shown ∙ get_or-set_same (sights p) at (page_sight page.fid page.number (tag (sector_at p at).label).bytes value) hidden (carried_within p at page here) ∙ ap (λ n. page_sight page.fid n (tag (sector_at p at).label).bytes value) first in
    let was : get_or (sights p) at hidden ≡ leads page.fid (is_readable (leader_words (sector_at p at).value)) (leader_of page.fid (sector_at p at).value) =
    carried_sight p at page here ∙ ap (λ n. page_sight page.fid n (tag (sector_at p at).label).bytes (sector_at p at).value) first in
    let aside : (i : ℕ) → i ≢ at → get_or (sights q) i hidden ≡ get_or (sights p) i hidden =
    λ i other. ap (λ us. get_or us i hidden) c.shown ∙ get_or-set_other (sights p) at i (page_sight page.fid page.number (tag (sector_at p at).label).bytes value) hidden other in
    let places : (f : Fid) (n : ℕ) → place (sights q) f n ≡ place (sights p) f n = rewritten_places p q at page (tag (sector_at p at).label).bytes value here c.shown in
    let a : AreAlike p q = record {
      shape = refl;
      size = ap length c.shown ∙ length-set (sights p) at (page_sight page.fid page.number (tag (sector_at p at).label).bytes value);
      files = record {
        lives_are = λ f. lives_by_place (sights p) (sights q) f (places f 0);
        bytes_are = λ f. bytes_by_places (sights p) (sights q) f (λ n. places f (suc n)) (λ n k is. aside k (λ same. let h = (page_of_place (sights p) f n k is).shows hidden in let t = ap (λ j. get_or (sights p) j hidden) same ∙ was in cc));
        places_are = places;
      };
      each = λ i. elim (cases_eq i at) [
        | inl same ↦ led page.fid _ _ _ _ (ap (λ k. get_or (sights q) k hidden) same ∙ now) (ap (λ k. get_or (sights p) k hidden) same ∙ was)
        | inr other ↦ one (aside i other)
      ];
    } in
    let labels : (i : ℕ) → (sector_at q i).label ≡ (sector_at p i).label = λ i. elim (cases_eq i at) [
      | inl same ↦ ap (λ k. (sector_at q k).label) same ∙ ap (λ (s : Sector). s.label) c.here ∙ sym (ap (λ k. (sector_at p k).label) same)
      | inr other ↦ ap (λ (s : Sector). s.label) (c.others i other)
    ] in
    record {
      labels = labels;
      links = λ i. links_stay p q a i (labels i);
      files = a.files;
      others = aside;
      named = λ readable f r l is. (let e : leads page.fid (is_readable (leader_words value)) (leader_of page.fid value) ≡ leads f r l = sym now ∙ is in let b : is_readable (leader_words value) ≡ r = cc in sym b ∙ readable);
      lasting = lasting_alike p q a;
    }
