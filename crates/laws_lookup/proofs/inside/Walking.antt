-- Slots that are met one at a time.
use Rattle.std.proofs.Common.{None, [], ap, append-nil, append_assoc, drop, false, refl, sym, ◌++◌, ◌+◌, ◌∙◌, ◌∷◌, ◌≡◌, ◌||◌}
use Rattle.std.proofs.lemmas.List.{drop-drop}
use Rattle.std.proofs.lemmas.List.Sums.{fold-append}
use Rattle.laws_operation.specs.pack_model.specs.reading.Lookup.{holds_base, meant_by}
use Rattle.laws_operation.specs.pack_model.specs.reading.SlotWords.{slots_at}
use Rattle.laws_operation.specs.pack_model.specs.reading.Slots.{item_words, slots}
use Rattle.laws_operation.specs.laws_record.proofs.Heads.{slots_none, slots_some}
use Rattle.laws_lookup.specs.SlotLaws.{HeldGoesOn, LookupGoesOn, WalkBegins, WalkEnds, WalkGoesOn, slot_there}

pub walk_begins : WalkBegins
walk_begins words = record { all = refl }

pub walk_goes_on : WalkGoesOn
unfolding slots_at
walk_goes_on words met place i h e =
    let further : slots (drop place words) ≡ i ∷ slots (drop (place + item_words i) words) = slots_some (drop place words) i e ∙ ap (λ r. i ∷ slots r) (drop-drop (item_words i) place words) in
    record { all = h.all ∙ ap (λ r. met ++ slots_at words place r) further ∙ sym (append_assoc met (slot_there words place i ∷ []) (slots_at words (place + item_words i) (slots (drop (place + item_words i) words)))) }

pub walk_ends : WalkEnds
unfolding slots_at
walk_ends words met place h e = h.all ∙ ap (λ r. met ++ slots_at words place r) (slots_none (drop place words) e) ∙ append-nil met

pub lookup_goes_on : LookupGoesOn
lookup_goes_on w met s = fold-append (meant_by w) None met (s ∷ [])

pub held_goes_on : HeldGoesOn
held_goes_on base met s = fold-append (λ held s. held || holds_base base s.item) false met (s ∷ [])
