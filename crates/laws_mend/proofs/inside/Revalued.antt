-- Data pages of DiskDescriptor get other values.
use Rattle.std.proofs.Common.{◌++◌, ◌+◌, ◌∙◌, ◌≡◌, Bool, List, None, Option, Some, ap, arith, cond, false, get_or, inl, inr, length, length-take, nat_lt, refl, set, subst, suc, sym, take, true, zero, ℕ}
use Rattle.std.proofs.Math.ListN.{length-set}
use Rattle.std.proofs.lemmas.Bool.{cases_eq}
use Rattle.std.proofs.lemmas.List.{get_or-set_other, get_or-set_same, length-append}
use Rattle.laws_room.specs.alto_words.specs.declared.fid.Fid.{Fid}
use Rattle.laws_room.specs.alto_words.specs.Fid.{disk_descriptor}
use Rattle.laws_room.specs.disk_records.specs.Labels.{tag}
use Rattle.laws_room.specs.disk_records.specs.Packs.{Pack, carried, sector_at}
use Rattle.laws_room.specs.disk_records.specs.declared.records.Page.{Page}
use Rattle.laws_room.specs.disk_records.specs.declared.records.Sector.{Sector}
use Rattle.laws_room.specs.disk_records.specs.declared.shape.Shape.{Shape}
use Rattle.laws_room.specs.pack_model.specs.hints.Links.{link_to, next_link, no_link, previous_link}
use Rattle.laws_room.specs.pack_model.specs.reading.Bytes.{bytes_of}
use Rattle.laws_room.specs.pack_model.specs.reading.Files.{carries_page, file_bytes, joined, most_pages, page, place}
use Rattle.laws_room.specs.pack_model.specs.reading.Leaders.{Leader}
use Rattle.laws_room.specs.pack_model.specs.reading.Sights.{Sight, sights}
use Rattle.laws_room.specs.pack_model.specs.reading.Sights.Sight.{free, hidden, holds, leads}
use Rattle.laws_room.specs.pack_model.specs.states.InUse.{in_use, is_free_sight, is_good}
use Rattle.laws_room.specs.pack_laws.proofs.Bytes.{length-bytes_of}
use Rattle.laws_room.specs.pack_laws.proofs.guards.Laws.{value_writes_keep_the_page}
use Rattle.laws_room.specs.pack_laws.proofs.Guarding.{value_page}
use Rattle.laws_room.specs.pack_laws.proofs.Joining.{continue, joined-suc}
use Rattle.laws_room.specs.pack_laws.proofs.Placing.{no_page, page_of_place}
use Rattle.laws_room.specs.pack_laws.specs.GuardLaws.{ComesToHold}
use Rattle.laws_room.specs.laws_record.proofs.Recording.{carried_sight, carried_within, value_sights}
use Rattle.laws_room.specs.laws_record.proofs.Staying.{FilesStay}
use Rattle.laws_room.specs.laws_record.proofs.SystemWrites.{descriptor_pages}
use Rattle.laws_room.specs.laws_record.specs.QuietLaws.{with_value}
use Rattle.laws_room.specs.laws_record.specs.ViewLaws.IsDescriptorPage.{claimed}
use Rattle.laws_lookup.specs.HintLaws.{HasFullValues}
use Rattle.laws_mend.proofs.inside.Freed.{rewritten_places}

-- ---- two sights
-- they are one, or both are the same data page of this file with as many bytes
pub data IsNear (own : Fid) (s t : Sight) : Type 0 where
  one : s ≡ t → IsNear own s t
  held : (n : ℕ) (a b : List ℕ) → s ≡ holds own n a → t ≡ holds own n b → length a ≡ length b → IsNear own s t

pub near_twice : (own : Fid) → (s t u : Sight) → IsNear own s t → IsNear own t u → IsNear own s u
near_twice own s t u (one e) (one f) = one (e ∙ f)
near_twice own s t u (one e) (held n a b x y l) = held n a b (e ∙ x) y l
near_twice own s t u (held n a b x y l) (one f) = held n a b x (sym f ∙ y) l
near_twice own s t u (held n a b x y l) (held m c d v w k) =
    let both : holds own n b ≡ holds own m c = sym y ∙ v in
    let same : n ≡ m = cc in
    let bytes : b ≡ c = cc in
    held n a d x (w ∙ ap (λ j. holds own j d) (sym same)) (l ∙ ap length bytes ∙ k)

pub near_carries : (own : Fid) → (s t : Sight) → IsNear own s t → (f : Fid) (n : ℕ) → carries_page f n s ≡ carries_page f n t
near_carries own s t (one e) f n = ap (carries_page f n) e
near_carries own s t (held m a b x y l) f zero = ap (carries_page f 0) x ∙ sym (ap (carries_page f 0) y)
near_carries own s t (held m a b x y l) f (suc n) = ap (carries_page f (suc n)) x ∙ sym (ap (carries_page f (suc n)) y)

pub near_good : (own : Fid) → (s t : Sight) → IsNear own s t → is_good s ≡ is_good t
near_good own s t (one e) = ap is_good e
near_good own s t (held m a b x y l) = ap is_good x ∙ sym (ap is_good y)

pub near_free_sight : (own : Fid) → (s t : Sight) → IsNear own s t → is_free_sight s ≡ is_free_sight t
near_free_sight own s t (one e) = ap is_free_sight e
near_free_sight own s t (held m a b x y l) = ap is_free_sight x ∙ sym (ap is_free_sight y)

pub near_free : (own : Fid) → (s t : Sight) → IsNear own s t → t ≡ free → s ≡ free
near_free own s t (one e) is = e ∙ is
near_free own s t (held m a b x y l) is = absurd (let c : holds own m b ≡ free = sym y ∙ is in cc)

pub near_leads : (own : Fid) → (s t : Sight) → IsNear own s t → (f : Fid) (r : Bool) (l : Leader) → t ≡ leads f r l → s ≡ leads f r l
near_leads own s t (one e) f r l is = e ∙ is
near_leads own s t (held m a b x y k) f r l is = absurd (let c : holds own m b ≡ leads f r l = sym y ∙ is in cc)

pub near_use : (own : Fid) → (shape : Shape) (ss : List Sight) (at : ℕ) (s t : Sight) → IsNear own s t → in_use shape ss (at, s) ≡ in_use shape ss (at, t)
near_use own shape ss at s t (one e) = ap (λ x. in_use shape ss (at, x)) e
near_use own shape ss at s t (held m a b x y l) = ap (λ z. in_use shape ss (at, z)) x ∙ sym (ap (λ z. in_use shape ss (at, z)) y)

pub near_next : (own : Fid) → (shape : Shape) (ss : List Sight) (s t : Sight) → IsNear own s t → next_link shape ss s ≡ next_link shape ss t
near_next own shape ss s t (one e) = ap (next_link shape ss) e
near_next own shape ss s t (held m a b x y l) = ap (next_link shape ss) x ∙ ap (λ n. cond (nat_lt n 512) no_link (link_to shape (place ss own (suc (suc m))))) l ∙ sym (ap (next_link shape ss) y)

pub near_previous : (own : Fid) → (shape : Shape) (ss : List Sight) (s t : Sight) → IsNear own s t → previous_link shape ss s ≡ previous_link shape ss t
near_previous own shape ss s t (one e) = ap (previous_link shape ss) e
near_previous own shape ss s t (held m a b x y l) = ap (previous_link shape ss) x ∙ sym (ap (previous_link shape ss) y)

-- ---- bytes of files
-- as many bytes, where pages are as long
pub data IsAsLong : Option (List ℕ) → Option (List ℕ) → Type 0 where
  neither : IsAsLong None None
  both : (a b : List ℕ) → length a ≡ length b → IsAsLong (Some a) (Some b)

joined_long : (fuel : ℕ) (old new : ℕ → Option (List ℕ)) → ((n : ℕ) → IsAsLong (new n) (old n)) → length (joined fuel new) ≡ length (joined fuel old)
unfolding joined
joined_long zero old new h = refl
joined_long (suc fuel) old new h =
    let rest = joined_long fuel (λ n. old (suc n)) (λ n. new (suc n)) (λ n. h (suc n)) in
    ap length (joined-suc fuel new) ∙ by (new 0) (old 0) (h 0) (joined fuel (λ n. new (suc n))) (joined fuel (λ n. old (suc n))) rest ∙ sym (ap length (joined-suc fuel old))
  where
    by : (r s : Option (List ℕ)) → IsAsLong r s → (x y : List ℕ) → length x ≡ length y → length (continue r x) ≡ length (continue s y)
    by None None neither x y l = refl
    by _ _ (both a b e) x y l =
        ap (λ n. length (cond (nat_lt n 512) a (a ++ x))) e ∙ full (nat_lt (length b) 512)
      where
        full : (t : Bool) → length (cond t a (a ++ x)) ≡ length (cond t b (b ++ y))
        full true = e
        full false = length-append a x ∙ (λ i. e i + l i) ∙ sym (length-append b y)

pub bytes_long : (own : Fid) (ss tt : List Sight) (f : Fid) → ((n : ℕ) → place tt f (suc n) ≡ place ss f (suc n)) → ((i : ℕ) → IsNear own (get_or tt i hidden) (get_or ss i hidden)) → length (file_bytes tt f) ≡ length (file_bytes ss f)
unfolding file_bytes
bytes_long own ss tt f same near = joined_long most_pages (page ss f) (page tt f) (λ n. each n (place ss f (suc n)) refl)
  where
    sizes : (n : ℕ) (a b : List ℕ) (s t : Sight) → s ≡ holds f n a → t ≡ holds f n b → IsNear own s t → length a ≡ length b
    sizes n a b s t x y (one e) = (let z : holds f n a ≡ holds f n b = sym x ∙ e ∙ y in let w : a ≡ b = cc in ap length w)
    sizes n a b s t x y (held m c d v w l) =
        let p : holds f n a ≡ holds own m c = sym x ∙ v in
        let q : holds f n b ≡ holds own m d = sym y ∙ w in
        let j : a ≡ c = cc in
        let k : b ≡ d = cc in
        ap length j ∙ l ∙ sym (ap length k)

    each : (n : ℕ) (r : Option ℕ) → place ss f (suc n) ≡ r → IsAsLong (page tt f n) (page ss f n)
    each n None e = subst (λ x. IsAsLong x (page ss f n)) (sym (no_page tt f n (same n ∙ e))) (subst (IsAsLong None) (sym (no_page ss f n e)) neither)
    each n (Some k) e =
        let old = page_of_place ss f n k e in
        let new = page_of_place tt f n k (same n ∙ e) in
        subst (λ x. IsAsLong x (page ss f n)) (sym new.page_is) (subst (IsAsLong (Some new.bytes)) (sym old.page_is) (both new.bytes old.bytes (sizes n new.bytes old.bytes (get_or tt k hidden) (get_or ss k hidden) (new.shows hidden) (old.shows hidden) (near k))))

-- ---- two packs
-- The second has other values in data pages of DiskDescriptor.
pub record IsRevalued (p q : Pack) : Type 0 where
  pub shape : q.shape ≡ p.shape
  pub labels : (i : ℕ) → (sector_at q i).label ≡ (sector_at p i).label
  pub pages : (i : ℕ) → carried q i ≡ carried p i
  pub near : (i : ℕ) → IsNear disk_descriptor (get_or (sights q) i hidden) (get_or (sights p) i hidden)
  pub size : length (sights q) ≡ length (sights p)
  pub places : (f : Fid) (n : ℕ) → place (sights q) f n ≡ place (sights p) f n
  pub files : FilesStay p q
  pub full : HasFullValues q

pub revalued_itself : (p : Pack) → HasFullValues p → IsRevalued p p
revalued_itself p full = record {
  shape = refl;
  labels = λ i. refl;
  pages = λ i. refl;
  near = λ i. one refl;
  size = refl;
  places = λ f n. refl;
  files = record { shape = refl; good = refl; leaders = λ f. refl; files = refl };
  full = full;
}

pub revalued_twice : (p q r : Pack) → IsRevalued p q → IsRevalued q r → IsRevalued p r
revalued_twice p q r a b = record {
  shape = b.shape ∙ a.shape;
  labels = λ i. b.labels i ∙ a.labels i;
  pages = λ i. b.pages i ∙ a.pages i;
  near = λ i. near_twice disk_descriptor _ _ _ (b.near i) (a.near i);
  size = b.size ∙ a.size;
  places = λ f n. b.places f n ∙ a.places f n;
  files = record {
    shape = b.files.shape ∙ a.files.shape;
    good = b.files.good ∙ a.files.good;
    leaders = λ f. b.files.leaders f ∙ a.files.leaders f;
    files = b.files.files ∙ a.files.files;
  };
  full = b.full;
}

-- one value
pub revalued : (p : Pack) (at n : ℕ) (value : List ℕ) → HasFullValues p → carried p at ≡ Some (record { fid = disk_descriptor; number = suc n }) → length value ≡ 256 → IsRevalued p (with_value p at value)
revalued p at n value full here long =
    let page_is : Page = record { fid = disk_descriptor; number = suc n } in
    let q : Pack = with_value p at value in
    let c : ComesToHold at page_is (sector_at p at).label value p q = value_writes_keep_the_page p at page_is value 1 here (omega arith) in
    let count : ℕ = (tag (sector_at p at).label).bytes in
    let shown : sights q ≡ set (sights p) at (holds disk_descriptor n (take count (bytes_of value))) = value_sights p at page_is value here in
    let was : get_or (sights p) at hidden ≡ holds disk_descriptor n (take count (bytes_of (sector_at p at).value)) = carried_sight p at page_is here in
    let now : get_or (sights q) at hidden ≡ holds disk_descriptor n (take count (bytes_of value)) =
    ap (λ us. get_or us at hidden) shown ∙ get_or-set_same (sights p) at (holds disk_descriptor n (take count (bytes_of value))) hidden (carried_within p at page_is here) in
    let sizes : length (take count (bytes_of value)) ≡ length (take count (bytes_of (sector_at p at).value)) =
    (let a = length-take count (bytes_of value) in let b = length-take count (bytes_of (sector_at p at).value) in let x = length-bytes_of value in let y = length-bytes_of (sector_at p at).value in let z = full at page_is here in omega arith) in
    record {
      shape = refl;
      labels = λ i. elim (cases_eq i at) [
        | inl same ↦ ap (λ k. (sector_at q k).label) same ∙ ap (λ (s : Sector). s.label) c.here ∙ sym (ap (λ k. (sector_at p k).label) same)
        | inr other ↦ ap (λ (s : Sector). s.label) (c.others i other)
      ];
      pages = value_page p at value;
      near = λ i. elim (cases_eq i at) [
        | inl same ↦ held n (take count (bytes_of value)) (take count (bytes_of (sector_at p at).value)) (ap (λ k. get_or (sights q) k hidden) same ∙ now) (ap (λ k. get_or (sights p) k hidden) same ∙ was) sizes
        | inr other ↦ one (ap (λ us. get_or us i hidden) shown ∙ get_or-set_other (sights p) at i (holds disk_descriptor n (take count (bytes_of value))) hidden other)
      ];
      size = ap length shown ∙ length-set (sights p) at (holds disk_descriptor n (take count (bytes_of value)));
      places = rewritten_places p q at page_is count value here shown;
      files = descriptor_pages p at 2 value (claimed n here) (claimed n c.page_here);
      full = λ i x is. elim (cases_eq i at) [
        | inl same ↦ ap (λ k. length (sector_at q k).value) same ∙ ap (λ (s : Sector). length s.value) c.here ∙ long
        | inr other ↦ ap (λ (s : Sector). length s.value) (c.others i other) ∙ full i x (sym (value_page p at value i) ∙ is)
      ];
    }
