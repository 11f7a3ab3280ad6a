-- Slots where they stand, living files with their leaders, and names that are mended in the end.
use Rattle.std.proofs.Common.{◌++◌, ◌+◌, ◌∙◌, ◌∷◌, ◌≡◌, ◌⊎◌, All, List, None, Option, Some, [], ap, arith, inl, inr, refl, subst, sym, ℕ}
use Rattle.std.proofs.lemmas.List.Elements.{Contains-append_cases, Contains-push_cases}
use Rattle.std.specs.FinMap.{entries, get, same_map}
use Rattle.std.specs.Option.{option_map}
use Rattle.std.specs.Prelude.{Contains}
use Rattle.laws_mend.specs.alto_words.specs.Fid.{fid_cmp}
use Rattle.laws_mend.specs.alto_words.specs.declared.fid.Fid.{Fid}
use Rattle.laws_mend.specs.disk_records.specs.Packs.{Pack}
use Rattle.laws_mend.specs.pack_model.specs.hints.Links.{IsTrueAddress, dir_words}
use Rattle.laws_mend.specs.pack_model.specs.reading.Bodies.{File, found}
use Rattle.laws_mend.specs.pack_model.specs.reading.Files.{file_bytes, leader}
use Rattle.laws_mend.specs.pack_model.specs.reading.Leaders.{Leader}
use Rattle.laws_mend.specs.pack_model.specs.reading.Sights.{sights}
use Rattle.laws_mend.specs.pack_model.specs.reading.SlotWords.{SlotAt, address_at, slots_at}
use Rattle.laws_mend.specs.pack_model.specs.reading.Slots.{Item, all_words, item_words, slots}
use Rattle.laws_mend.specs.pack_model.specs.sessions.Maps.{map_values}
use Rattle.laws_mend.specs.pack_laws.proofs.Keys.{fid_same, fid_total}
use Rattle.laws_mend.specs.pack_laws.proofs.Mapping.{entries-map_values, get-map_values}
use Rattle.laws_mend.specs.laws_record.proofs.Reading.{get-found, read_file}
use Rattle.laws_mend.specs.laws_operation.proofs.entries.Laws.{items_are_slots}
use Rattle.laws_names.specs.EntriesLaws.{LeadersAreListed, NamesAreMended, SlotSplits}

-- ---- a slot by those before it
record Splits (begin : ℕ) (is : List Item) (s : SlotAt) : Type 0 where
  before : List Item
  behind : List Item
  are : is ≡ before ++ s.item ∷ behind
  place : s.place ≡ begin + all_words before

splits : (words : List ℕ) (begin : ℕ) (is : List Item) (s : SlotAt) → Contains (slots_at words begin is) s → Splits begin is s
unfolding slots_at
splits words begin [] s h = absurd (let l = h.1 in omega arith)
splits words begin (i ∷ is) s h =
    let first : SlotAt = record { place = begin; item = i; address = address_at words begin i } in
    by (λ r. splits words (begin + item_words i) is s r) (Contains-append_cases (first ∷ []) (slots_at words (begin + item_words i) is) s h)
  where
    by : (Contains (slots_at words (begin + item_words i) is) s → Splits (begin + item_words i) is s) → Contains (record { place = begin; item = i; address = address_at words begin i } ∷ []) s ⊎ Contains (slots_at words (begin + item_words i) is) s → Splits begin (i ∷ is) s
    by later (inl one) = elim (Contains-push_cases [] (record { place = begin; item = i; address = address_at words begin i }) s one) [
      | inl none ↦ absurd (let l = none.1 in omega arith)
      | inr e ↦ subst (λ (t : SlotAt). Splits begin (i ∷ is) t) e (record { before = []; behind = is; are = refl; place = omega arith })
    ]
    by later (inr more) = let r = later more in let p = r.place in record { before = i ∷ r.before; behind = r.behind; are = ap (λ x. i ∷ x) r.are; place = omega arith }

pub slot_splits : SlotSplits
slot_splits p d s h = let r = splits (dir_words p d) 0 (slots (dir_words p d)) s h in let l = r.place in record { before = r.before; behind = r.behind; slots_are = r.are; place = omega arith }

-- ---- living files
leader_is : Fid → File → Leader
leader_is f x = x.leader

led_by : (p : Pack) (f : Fid) → get (map_values {R = fid_cmp} leader_is (found (sights p))) f ≡ leader (sights p) f
unfolding leader_is
led_by p f = get-map_values fid_total fid_same leader_is (found (sights p)) f ∙ ap (option_map (leader_is f)) (get-found (sights p) f) ∙ twice (leader (sights p) f)
  where
    twice : (r : Option Leader) → option_map (leader_is f) (option_map (read_file f (file_bytes (sights p) f)) r) ≡ r
    twice None = refl
    twice (Some l) = refl

pub leaders_are_listed : LeadersAreListed
unfolding leader_is
leaders_are_listed p q same =
    sym (entries-map_values fid_total fid_same leader_is (found (sights q)))
    ∙ ap entries (same_map fid_total fid_same (map_values {R = fid_cmp} leader_is (found (sights q))) (map_values {R = fid_cmp} leader_is (found (sights p))) (λ f. led_by q f ∙ same f ∙ sym (led_by p f)))
    ∙ entries-map_values fid_total fid_same leader_is (found (sights p))

-- ---- the end
pub names_are_mended : NamesAreMended
names_are_mended p m t named addresses = record {
  pages = m.pages;
  links = record {
    pages = m.links;
    entries = λ d live dir. subst (λ is. All (λ s. IsTrueAddress (sights p) s.item s.address) (slots_at (dir_words p d) 0 is)) (sym (items_are_slots p d t live dir)) (addresses d live dir);
  };
  tidy = t;
  named = named;
}
