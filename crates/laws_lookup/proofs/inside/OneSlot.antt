-- An address word is that of one slot, and a hint word means one page.
use Rattle.std.proofs.Common.{List, Some, [], ap, arith, length, sym, ℕ, ◌+◌, ◌<◌, ◌∙◌, ◌∷◌, ◌≡◌, inl, inr}
use Rattle.std.specs.Prelude.{Contains}
use Rattle.laws_operation.specs.alto_words.specs.declared.fid.Fid.{Fid}
use Rattle.laws_operation.specs.disk_records.specs.Packs.{Pack}
use Rattle.laws_operation.specs.disk_records.specs.declared.records.Page.{Page}
use Rattle.laws_operation.specs.disk_records.specs.declared.records.Place.TheVariants.{Entry, Held, Next, Root}
use Rattle.laws_operation.specs.pack_model.specs.hints.Links.{dir_words}
use Rattle.laws_operation.specs.pack_model.specs.hints.Misled.{StandsInEntry, StandsInLink}
use Rattle.laws_operation.specs.pack_model.specs.reading.SlotWords.{SlotAt, address_at, slots_at}
use Rattle.laws_operation.specs.pack_model.specs.reading.Slots.{Item, entry_length, item_words, slots}
use Rattle.laws_operation.specs.pack_model.specs.reading.Slots.Item.{entry}
use Rattle.laws_operation.specs.laws_record.proofs.Addressing.{entry_words_many}
use Rattle.laws_lookup.proofs.inside.Found.{in_cases, none_in}
use Rattle.laws_lookup.proofs.Replacing.{range}
use Rattle.laws_lookup.specs.HintLaws.{PlaceMeansOnePage}

-- two slots with words that stand at one place are one
one_there : (words : List ℕ) (begin : ℕ) (is : List Item) (s t : SlotAt) → Contains (slots_at words begin is) s → Contains (slots_at words begin is) t → s.place ≡ t.place → 0 < item_words s.item → 0 < item_words t.item → s ≡ t
unfolding slots_at
one_there words begin [] s t x y same m n = absurd (none_in s x)
one_there words begin (i ∷ is) s t x y same m n =
    let here : SlotAt = record { place = begin; item = i; address = address_at words begin i } in
    let rest : List SlotAt = slots_at words (begin + item_words i) is in
    elim (in_cases here rest s x) [
      | inl a ↦ elim (in_cases here rest t y) [
        | inl b ↦ sym a ∙ b
        | inr b ↦
            let r = range words (begin + item_words i) is t b in
            let low = r.low in
            let place : begin ≡ s.place = ap (λ (u : SlotAt). u.place) a in
            let size : item_words i ≡ item_words s.item = ap (λ (u : SlotAt). item_words u.item) a in
            absurd (omega (arith, low, place, size, same, m))
      ]
      | inr a ↦ elim (in_cases here rest t y) [
        | inl b ↦
            let r = range words (begin + item_words i) is s a in
            let low = r.low in
            let place : begin ≡ t.place = ap (λ (u : SlotAt). u.place) b in
            let size : item_words i ≡ item_words t.item = ap (λ (u : SlotAt). item_words u.item) b in
            absurd (omega (arith, low, place, size, same, n))
        | inr b ↦ one_there words (begin + item_words i) is s t a b same m n
      ]
    ]

same_entry : (f g : Fid) (name own : List ℕ) → ◌≡◌ {A = Item} (entry f name) (entry g own) → f ≡ g
same_entry f g name own e = cc

entry_size : (i : Item) (f : Fid) (name : List ℕ) → i ≡ entry f name → 0 < item_words i
entry_size i f name e = let long = entry_words_many (length name) in let size : item_words i ≡ entry_length (length name) = ap item_words e in omega (arith, long, size)

one_entry : (p : Pack) (d : Fid) (w at bt : ℕ) (x y : Page) → StandsInEntry p d w at x → StandsInEntry p d w bt y → (at ≡ bt) × (x ≡ y)
one_entry p d w at bt x y s t =
    let a = s.word in
    let b = t.word in
    let same : s.slot ≡ t.slot = one_there (dir_words p d) 0 (slots (dir_words p d)) s.slot t.slot s.stands t.stands (omega (arith, a, b)) (entry_size s.slot.item x.fid s.name s.item) (entry_size t.slot.item y.fid t.name t.item) in
    let fid : x.fid ≡ y.fid = same_entry x.fid y.fid s.name t.name (sym s.item ∙ ap (λ (u : SlotAt). u.item) same ∙ t.item) in
    let number : x.number ≡ y.number = s.number ∙ sym t.number in
    (s.address ∙ ap (λ (u : SlotAt). u.address) same ∙ sym t.address, λ k. record { fid = fid k; number = number k })

one_link : (p : Pack) (i at bt : ℕ) (x y : Page) → StandsInLink p i at x → StandsInLink p i bt y → (at ≡ bt) × (x ≡ y)
one_link p i at bt x y s t =
    let both : Some s.page ≡ Some t.page = sym s.carries ∙ t.carries in
    let same : s.page ≡ t.page = cc in
    (s.link ∙ sym t.link, s.means ∙ ap (λ (u : Page). record { fid = u.fid; number = u.number + 1 }) same ∙ sym t.means)

pub place_means_one_page : PlaceMeansOnePage
place_means_one_page p Root at bt x y on s t = absurd on
place_means_one_page p (Entry d w) at bt x y on s t = one_entry p d w at bt x y s t
place_means_one_page p (Next i) at bt x y on s t = one_link p i at bt x y s t
place_means_one_page p (Held i) at bt x y on s t = absurd on
