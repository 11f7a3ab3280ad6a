-- An entry more in a directory of tidy files.
use Rattle.std.proofs.Common.{Bool, List, Some, [], ap, false, not, refl, subst, sym, true, ℕ, ◌&&◌, ◌++◌, ◌∙◌, ◌∷◌, ◌≡◌}
use Rattle.std.specs.FinMap.{entries, get, insert}
use Rattle.std.specs.List.{list_any}
use Rattle.laws_contents.specs.alto_words.specs.Fid.{is_fid, is_system}
use Rattle.laws_contents.specs.alto_words.specs.declared.fid.Fid.{Fid}
use Rattle.laws_contents.specs.pack_model.specs.reading.Bodies.{Files}
use Rattle.laws_contents.specs.pack_model.specs.reading.Leaders.{Leader}
use Rattle.laws_contents.specs.pack_model.specs.reading.Namings.{AllKept, IsTidy, Naming, clashes, is_kept, may_stand, namings, namings_in}
use Rattle.laws_contents.specs.pack_model.specs.operations.Rooms.{left_over}
use Rattle.laws_contents.specs.pack_model.specs.reading.Slots.{Item}
use Rattle.laws_contents.specs.pack_model.specs.reading.Slots.Item.{entry, space}
use Rattle.laws_contents.specs.laws_record.proofs.Beside.{any_first, any_second}
use Rattle.laws_contents.specs.laws_record.proofs.Entered.{directory, namings_in-append, spot}
use Rattle.laws_contents.specs.laws_record.proofs.Tidying.{NoneClashes, and_not, onto, or_false, or_false_left, or_false_right, any_more}
use Rattle.laws_operation.proofs.Leaving.{names_apart}
use Rattle.laws_operation.proofs.OneDirectory.{slots_namings}
use Rattle.laws_contents.specs.laws_record.proofs.EnterScan.{none_of_any}
use Rattle.laws_contents.specs.laws_record.proofs.SystemEntries.{left_names}

-- ---- one entry more among those that are kept
-- none of those put onto others passes a test
onto_any : (t : Naming → Bool) (a b : List Naming) → list_any t a ≡ false → list_any t b ≡ false → list_any t (onto a b) ≡ false
onto_any t [] b h g = g
onto_any t (e ∷ a) b h g = onto_any t a (e ∷ b) (or_false_right (t e) (list_any t a) h) (or_false (t e) (list_any t b) (or_false_left (t e) (list_any t a) h) g)

module _ (live : Fid → Bool) where
  -- those after it are kept beside it
  also_kept : (s : List Naming) (e : Naming) (r es : List Naming) → NoneClashes e es → AllKept (is_kept live) (s ++ r) es → AllKept (is_kept live) (s ++ e ∷ r) es
  also_kept s e r [] n h = tt
  also_kept s e r (x ∷ es) n h = (and_not (may_stand live x) (list_any (clashes x) (s ++ r)) (list_any (clashes x) (s ++ e ∷ r)) h.0 (any_more (clashes x) s e r n.0), also_kept (x ∷ s) e r es n.1 h.1)

  -- it is kept among them
  insert_kept : (before a : List Naming) (e : Naming) (b : List Naming) → is_kept live (onto a before) e ≡ true → NoneClashes e b → AllKept (is_kept live) before (a ++ b) → AllKept (is_kept live) before (a ++ e ∷ b)
  insert_kept before [] e b k n h = (k, also_kept [] e before b n h)
  insert_kept before (x ∷ a) e b k n h = (h.0, insert_kept (x ∷ before) a e b k n h.1)

-- ---- slots
module _ (lives : Fid → Bool) (files : Files) (d : Fid) (l : Leader) (a b : List Item) (k left : ℕ) (here : get files d ≡ Some (directory l (a ++ space k ∷ b))) (f : Fid) (name : List ℕ) where
  -- the entries, with the free slot and the words left over after it
  spaced : namings (entries (insert files d (directory l (a ++ space k ∷ left_over left b)))) ≡ namings (entries files)
  spaced = slots_namings files d l (a ++ space k ∷ b) (a ++ space k ∷ left_over left b) here
      (namings_in-append d a (space k ∷ left_over left b) ∙ ap (λ x. namings_in d a ++ x) (left_names d left b) ∙ sym (namings_in-append d a (space k ∷ b)))

  -- tidy files are tidy with the entry
  pub entry_tidy : IsTidy lives files → may_stand lives (record { dir = d; name = name; fid = f }) ≡ true → list_any (clashes (record { dir = d; name = name; fid = f })) (namings (entries files)) ≡ false → IsTidy lives (insert files d (directory l (a ++ entry f name ∷ left_over left b)))
  entry_tidy tidy stands clear =
      let e : Naming = record { dir = d; name = name; fid = f } in
      let p = spot files d l (a ++ space k ∷ b) a (left_over left b) here in
      let all : list_any (clashes e) (p.before ++ p.later) ≡ false = ap (list_any (clashes e)) (sym (p.without k) ∙ spaced) ∙ clear in
      let kept : is_kept lives (onto p.before []) e ≡ true = ap (λ x. x && not (list_any (clashes e) (onto p.before []))) stands ∙ ap not (onto_any (clashes e) p.before [] (any_first (clashes e) p.before p.later all) refl) in
      let apart : NoneClashes e p.later = none_of_any e p.later (any_second (clashes e) p.before p.later all) in
      subst (AllKept (is_kept lives) []) (sym (p.with f name)) (insert_kept lives [] p.before e p.later kept apart (subst (AllKept (is_kept lives) []) (sym spaced ∙ p.without k) tidy))

  -- system files are named as before
  pub entry_names : (g : Fid) → is_system g ≡ true → is_system f ≡ false → list_any (λ n. is_fid n.fid g) (namings (entries (insert files d (directory l (a ++ entry f name ∷ left_over left b))))) ≡ list_any (λ n. is_fid n.fid g) (namings (entries files))
  entry_names g system other = sym (names_apart files d l (a ++ space k ∷ b) a (left_over left b) here f g name k system other) ∙ ap (list_any (λ n. is_fid n.fid g)) spaced
