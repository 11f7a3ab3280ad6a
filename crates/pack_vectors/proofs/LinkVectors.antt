-- Links that mislead; SysDir's fixed address and one that was held, which a call on a whole pack never answers.
use Rattle.std.proofs.Common.{◌≡◌, ℕ, true, List, [], ◌∷◌, Option, Some, None, refl, sym, ap, ◌∙◌, arith, inl, inr}
use Rattle.std.proofs.lemmas.Option.{none-some}
use Rattle.std.specs.Prelude.{codes, replicate, get_or}
use Rattle.pack_laws.specs.alto_words.specs.Fid.{sys_dir}
use Rattle.pack_laws.specs.disk_records.specs.declared.records.Page.{Page}
use Rattle.pack_laws.specs.disk_records.specs.declared.records.Place.TheVariants.{Root, Next, Held}
use Rattle.pack_laws.specs.disk_records.specs.declared.records.Event.{Event}
use Rattle.pack_laws.specs.disk_records.specs.Addresses.{real_of}
use Rattle.pack_laws.specs.disk_records.specs.Labels.{in_range, is_free, label_of}
use Rattle.pack_laws.specs.disk_records.specs.Commands.{ones}
use Rattle.pack_laws.specs.disk_records.specs.Packs.{Pack, carried, label_found}
use Rattle.pack_laws.specs.pack_model.specs.reading.Sights.{sight, sights, sights_from}
use Rattle.pack_laws.specs.pack_model.specs.reading.Sights.Sight.{hidden, free, leads}
use Rattle.pack_laws.specs.pack_model.specs.states.Whole.{Whole}
use Rattle.pack_laws.specs.pack_model.specs.operations.PageWords.{page_number, page_value, new_leader_value}
use Rattle.pack_laws.specs.pack_model.specs.hints.Misled.{Misled, Finds, AnswersMisled, NamesSector, StandsInLink}
use Rattle.pack_vectors.proofs.StateVectors.{sound_fresh}
use Rattle.pack_vectors.proofs.Shapes.{small}
use Rattle.pack_vectors.proofs.SmallPacks.{pack_of, system, words_a, its_words, all_free, formatted_pack, file_3}

-- #3 has 600 bytes: its leader is in sector 5, its pages are in 6 and 7; these are the next links of leader and first page
abbrev linked : ℕ → ℕ → Pack
linked leader_next page_next = pack_of 40 (system words_a (its_words 3 1) (
    (label_of (page_number file_3 0) 512 leader_next 65535, new_leader_value file_3 (codes "A.") 1000 6)
    ∷ (label_of (page_number file_3 1) 512 page_next 65535, page_value (replicate 512 17) [])
    ∷ (label_of (page_number file_3 2) 88 65535 65535, page_value (replicate 88 17) [])
    ∷ []
    ))

abbrev page_of_3 : ℕ → Page
page_of_3 n = record { fid = file_3; number = n }

abbrev root_page : Page
root_page = record { fid = sys_dir; number = 0 }

abbrev pub number_in : Option Page → ℕ
number_in None = 0
number_in (Some page) = page.number

-- ---- all links are ones: no sector has this real address, so nothing is found
abbrev unlinked : Pack
unlinked = linked 65535 65535

in_sector_5 : carried unlinked 5 ≡ Some (page_of_3 0)
unfolding real_of in_range
in_sector_5 = refl

none_named : (i j : ℕ) → NamesSector small (Next j) 65535 i → ⊥
unfolding real_of
none_named i j names = let named = names.named in omega arith

ones_mislead : AnswersMisled unlinked [] (Next 5) 65535 (page_of_3 1) None
ones_mislead = record {
  misled = record {
    stands = record { page = page_of_3 0; carries = in_sector_5; full = inl refl; means = refl; link = refl };
    misses = λ i names carries. none_named i 5 names;
  };
  on_disk = λ whole. tt;
  finds = record { named = λ i names. absurd (none_named i 5 names); unnamed = λ none. refl };
}

-- a full page has a next one too, and the last page has none
in_sector_6 : carried unlinked 6 ≡ Some (page_of_3 1)
unfolding real_of in_range
in_sector_6 = refl

full_page : StandsInLink unlinked 6 65535 (page_of_3 2)
full_page = record { page = page_of_3 1; carries = in_sector_6; full = inr refl; means = refl; link = refl }

in_sector_7 : carried unlinked 7 ≡ Some (page_of_3 2)
unfolding real_of in_range
in_sector_7 = refl

last_page : (wanted : Page) → StandsInLink unlinked 7 65535 wanted → ⊥
last_page wanted s =
    let number : s.page.number ≡ 2 = ap number_in (sym s.carries ∙ in_sector_7) in
    elim s.full [ inl first ↦ omega arith | inr count ↦ let c : ◌≡◌ {A = ℕ} 88 512 = count in omega arith ]

-- ---- the leader's link names sector 7, by its real address 28672: its label is found
abbrev astray : Pack
astray = linked 28672 28672

leads_in_5 : carried astray 5 ≡ Some (page_of_3 0)
unfolding real_of in_range
leads_in_5 = refl

abbrev label_7 : List ℕ
label_7 = 65535 ∷ 65535 ∷ 0 ∷ 88 ∷ 2 ∷ 1 ∷ 0 ∷ 3 ∷ []

found_7 : label_found astray 7 ≡ Some label_7
unfolding real_of
found_7 = refl

page_in_7 : carried astray 7 ≡ Some (page_of_3 2)
unfolding real_of in_range
page_in_7 = refl

names_7 : NamesSector small (Next 5) 28672 7
unfolding real_of
names_7 = record { first = omega arith; last = omega arith; named = refl }

only_7 : (i : ℕ) → NamesSector small (Next 5) 28672 i → i ≡ 7
unfolding real_of
only_7 i names = let first = names.first in let last = names.last in let named = names.named in omega arith

finds_7 : Finds astray (Next 5) 28672 (Some label_7)
finds_7 = record { named = λ i names. sym found_7 ∙ ap (label_found astray) (sym (only_7 i names)); unnamed = λ none. absurd (none 7 names_7) }

link_misleads : AnswersMisled astray [] (Next 5) 28672 (page_of_3 1) (Some label_7)
link_misleads = record {
  misled = record {
    stands = record { page = page_of_3 0; carries = leads_in_5; full = inl refl; means = refl; link = refl };
    misses = λ i names carries.
        let numbers : ◌≡◌ {A = ℕ} 2 1 = ap number_in (sym page_in_7 ∙ ap (carried astray) (sym (only_7 i names)) ∙ carries) in
        cc;
  };
  on_disk = λ whole. tt;
  finds = finds_7;
}

-- the same link of the first page, which is full, is right: it names page 2
link_leads : Misled astray (Next 6) 28672 (page_of_3 2) → ⊥
unfolding real_of
link_leads m = m.misses 7 (record { first = omega arith; last = omega arith; named = refl }) page_in_7

-- ---- SysDir's leader isn't in sector 1, which is free, and so the pack isn't whole
carries_none : carried all_free 1 ≡ None
unfolding real_of in_range
carries_none = refl

found_1 : label_found all_free 1 ≡ Some (ones 8)
unfolding real_of
found_1 = refl

shows_free : get_or (sights all_free) 1 hidden ≡ free
unfolding sights_from sight real_of in_range is_free
shows_free = refl

not_whole : Whole all_free → ⊥
not_whole whole = let other : free ≡ leads sys_dir true whole.root.0 = sym shows_free ∙ whole.root.1 in cc

root_misleads : AnswersMisled all_free [] Root 1 root_page (Some (ones 8))
root_misleads = record {
  misled = record {
    stands = (refl, refl);
    misses = λ i names carries. none-some _ (sym carries_none ∙ ap (carried all_free) names.named ∙ carries);
  };
  on_disk = not_whole;
  finds = record {
    named = λ i names. sym found_1 ∙ ap (label_found all_free) names.named;
    unnamed = λ none. absurd (none 1 (record { first = omega arith; last = omega arith; named = refl }));
  };
}

-- ---- an address that was held names sector 7, and not page 1; what is found there is its label
held_misleads : Misled astray (Held 7) 7 (page_of_3 1)
held_misleads = record {
  stands = refl;
  misses = λ i names carries.
      let numbers : ◌≡◌ {A = ℕ} 2 1 = ap number_in (sym page_in_7 ∙ ap (carried astray) names.named ∙ carries) in
      omega arith;
}

held_finds : Finds astray (Held 7) 7 (Some label_7)
held_finds = record {
  named = λ i names. sym found_7 ∙ ap (label_found astray) names.named;
  unnamed = λ none. absurd (none 7 (record { first = omega arith; last = omega arith; named = refl }));
}

-- ---- the formatted pack is whole: an address that was held, as of a free sector, isn't on the disk; SysDir's leader is in sector 1
carries_no_root : carried formatted_pack 20 ≡ None
unfolding real_of in_range
carries_no_root = refl

held_is_free : Misled formatted_pack (Held 20) 20 root_page
held_is_free = record { stands = refl; misses = λ i names carries. none-some _ (sym carries_no_root ∙ ap (carried formatted_pack) names.named ∙ carries) }

held_never : (events : List Event) (i at : ℕ) (wanted : Page) (found : Option (List ℕ)) → AnswersMisled formatted_pack events (Held i) at wanted found → ⊥
held_never events i at wanted found answers = answers.on_disk sound_fresh.whole

carries_root : carried formatted_pack 1 ≡ Some root_page
unfolding real_of in_range
carries_root = refl

root_never : (events : List Event) (at : ℕ) (wanted : Page) (found : Option (List ℕ)) → AnswersMisled formatted_pack events Root at wanted found → ⊥
root_never events at wanted found answers =
    answers.misled.misses 1 (record { first = omega arith; last = omega arith; named = answers.misled.stands.0 }) (carries_root ∙ ap Some (sym (answers.misled.stands.1)))
