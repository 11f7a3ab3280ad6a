-- Entries that stand where they stood while names are mended, and those that come.
use Rattle.std.proofs.Common.{◌∙◌, ◌∷◌, ◌≡◌, ◌⊎◌, Bool, List, [], ap, arith, false, inl, inr, refl, subst, sym, true, ℕ}
use Rattle.std.proofs.lemmas.List.Elements.{Contains-push_cases}
use Rattle.std.specs.Option.{is_some}
use Rattle.std.specs.Prelude.{Contains}
use Rattle.laws_mend.specs.alto_words.specs.Fid.{is_fid}
use Rattle.laws_mend.specs.alto_words.specs.declared.fid.Fid.{Fid}
use Rattle.laws_mend.specs.disk_records.specs.Packs.{Pack}
use Rattle.laws_mend.specs.pack_model.specs.hints.Links.{IsTrueAddress, dir_slots, dir_words}
use Rattle.laws_mend.specs.pack_model.specs.reading.Bytes.{words_of}
use Rattle.laws_mend.specs.pack_model.specs.reading.Files.{lives, place}
use Rattle.laws_mend.specs.pack_model.specs.reading.Sights.{sights}
use Rattle.laws_mend.specs.pack_model.specs.reading.SlotWords.{SlotAt, slots_at}
use Rattle.laws_mend.specs.pack_model.specs.reading.Slots.{Item, all_words, slots}
use Rattle.laws_mend.specs.pack_model.specs.reading.Slots.Item.{entry, space}
use Rattle.laws_mend.specs.pack_laws.proofs.Keys.{same_fid}
use Rattle.laws_mend.specs.laws_lookup.proofs.Replacing.{no_entry, replacing_turns_round, still}
use Rattle.laws_mend.specs.laws_operation.proofs.places.Laws.{file_lives_in_a_place}
use Rattle.laws_names.specs.EntriesLaws.{EntriesStay, EntriesStayOn, NewSlotsKeepEntries, NothingKeepsEntries, WideningKeepsEntries}

-- ---- from pack to pack
pub nothing_keeps_entries : NothingKeepsEntries
nothing_keeps_entries p = record { leaders_are = λ f. refl; stay = λ d s f name live dir h is. h; come = λ d s live dir h. inl h }

-- a file lives as before
lives_same : (p q : Pack) → EntriesStay p q → (f : Fid) → lives (sights q) f ≡ lives (sights p) f
lives_same p q r f = file_lives_in_a_place q f ∙ ap is_some (r.leaders_are f) ∙ sym (file_lives_in_a_place p f)

-- an address stays true
true_still : (p q : Pack) → EntriesStay p q → (i : Item) (address : ℕ) → IsTrueAddress (sights p) i address → IsTrueAddress (sights q) i address
true_still p q r (space n) address t = tt
true_still p q r (entry f name) address t = r.leaders_are f ∙ t

pub entries_stay_on : EntriesStayOn
entries_stay_on p q r a b = record {
  leaders_are = λ f. b.leaders_are f ∙ a.leaders_are f;
  stay = λ d s f name live dir h is. b.stay d s f name (lives_same p q a d ∙ live) dir (a.stay d s f name live dir h is) is;
  come = λ d s live dir h. elim (b.come d s live dir h) [
    | inl there ↦ elim (a.come d s (sym (lives_same q r b d) ∙ live) dir there) [
      | inl first ↦ inl first
      | inr its ↦ inr (true_still q r b s.item s.address its)
    ]
    | inr its ↦ inr its
  ];
}

-- ---- slots in the place of free ones
pub new_slots_keep_entries : NewSlotsKeepEntries
new_slots_keep_entries p q d a old new b r bare true_new others leaders = record {
  leaders_are = leaders;
  stay = λ e s f name live dir h is. stays e s f name (is_fid e d) refl h is;
  come = λ e s live dir h. comes e s (is_fid e d) refl h;
}
  where
    stays : (e : Fid) (s : SlotAt) (f : Fid) (name : List ℕ) (c : Bool) → is_fid e d ≡ c → Contains (dir_slots p e) s → s.item ≡ entry f name → Contains (dir_slots q e) s
    stays e s f name false other h is = subst (λ ws. Contains (slots_at ws 0 (slots ws)) s) (sym (others e other)) h
    stays e s f name true same h is = subst (λ g. Contains (dir_slots q g) s) (sym (same_fid e d same)) (elim (still p q d a old new b r s (subst (λ g. Contains (dir_slots p g) s) (same_fid e d same) h)) [
      | inl there ↦ there
      | inr gone ↦ absurd (no_entry d (dir_words p d) (all_words a) old s f name bare gone is)
    ])

    comes : (e : Fid) (s : SlotAt) (c : Bool) → is_fid e d ≡ c → Contains (dir_slots q e) s → Contains (dir_slots p e) s ⊎ IsTrueAddress (sights q) s.item s.address
    comes e s false other h = inl (subst (λ ws. Contains (slots_at ws 0 (slots ws)) s) (others e other) h)
    comes e s true same h = elim (still q p d a new old b (replacing_turns_round p q d a old new b r) s (subst (λ g. Contains (dir_slots q g) s) (same_fid e d same) h)) [
      | inl there ↦ inl (subst (λ g. Contains (dir_slots p g) s) (sym (same_fid e d same)) there)
      | inr came ↦ inr (true_new s came)
    ]

-- a free slot has no address
pub free_is_true : (p : Pack) (words : List ℕ) (place n : ℕ) (s : SlotAt) → Contains (slots_at words place (space n ∷ [])) s → IsTrueAddress (sights p) s.item s.address
unfolding slots_at
free_is_true p words place n s h = free (Contains-push_cases [] (record { place = place; item = space n; address = 0 }) s h)
  where
    free : Contains [] s ⊎ (record { place = place; item = space n; address = 0 } ≡ s) → IsTrueAddress (sights p) s.item s.address
    free (inl none) = absurd (let l = none.1 in omega arith)
    free (inr e) = subst (λ (t : SlotAt). IsTrueAddress (sights p) t.item t.address) e tt

-- ---- a page more
pub widening_keeps_entries : WideningKeepsEntries
widening_keeps_entries p q d at fresh h =
    new_slots_keep_entries p q d (slots (dir_words p d)) [] (space 256 ∷ []) [] h.slots_are refl
    (λ s one. free_is_true q (dir_words q d) (all_words (slots (dir_words p d))) 256 s one)
    (λ e other. ap words_of (h.others e other))
    (λ f. h.places_are f 0 (λ same page. absurd (omega arith)))
