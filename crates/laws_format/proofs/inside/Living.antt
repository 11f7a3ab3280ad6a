-- The files of a formatted pack, by what its sectors show: SysDir and DiskDescriptor are there whole, and no other file is.
use Rattle.std.proofs.Common.{◌≡◌, ◌⊎◌, ℕ, suc, ◌<◌, ◌≤◌, true, false, List, [], ◌∷◌, refl, sym, ap, subst, ◌∙◌, arith, Some, None, get_or, inl}
use Rattle.std.proofs.lemmas.List.{append-nil}
use Rattle.std.specs.Option.{is_some}
use Rattle.laws_hint.specs.alto_words.specs.declared.fid.Fid.{Fid}
use Rattle.laws_hint.specs.alto_words.specs.Fid.{is_fid, sys_dir, disk_descriptor}
use Rattle.laws_hint.specs.pack_model.specs.reading.Leaders.{Leader}
use Rattle.laws_hint.specs.pack_model.specs.reading.Files.{carries_page, file_bytes, leader, lives, most_pages, place}
use Rattle.laws_hint.specs.pack_model.specs.reading.Sights.{Sight}
use Rattle.laws_hint.specs.pack_model.specs.reading.Sights.Sight.{hidden, leads, holds, stray}
use Rattle.laws_hint.specs.pack_model.specs.states.Whole.{Leads, Headless, HasPages, IsSeat, IsLaid, FileWhole}
use Rattle.laws_hint.specs.pack_model.specs.states.Whole.FileWhole.{absent, present}
use Rattle.laws_hint.specs.pack_laws.proofs.Placing.{carries-holds}
use Rattle.laws_record.proofs.Carried.{place_of_carried}
use Rattle.laws_hint.specs.laws_operation.specs.ByteLaws.{together}
use Rattle.laws_hint.specs.laws_operation.proofs.Lying.{bytes_laid}
use Rattle.laws_hint.specs.laws_operation.proofs.Seating.{leader_is, leader_none_is}
use Rattle.laws_format.proofs.inside.Shown.{by_file, each, fid_in, its_leader, its_pages, its_seat, its_seated, length-its_pages, other, page_in, page_shown_at, root_bytes, root_leader, sector_of, shown}

module _ (moment : ℕ) (b : ℕ → List ℕ) (k frees : ℕ) where
  abbrev ss : List Sight
  ss = shown moment b k frees

  -- ---- leaders
  root_leads : Leads ss sys_dir 1 true (root_leader moment)
  root_leads = record {
    shows = refl;
    only = each (λ i s. (r : _) (l : Leader) → s ≡ leads sys_dir r l → i ≡ 1) moment b k frees
        (λ r l e. absurd cc)
        (λ r l e. refl)
        (λ r l e. absurd cc)
        (λ r l e. absurd (other sys_dir disk_descriptor refl (ap fid_in e)))
        (λ j low r l e. absurd cc)
        (λ i low high r l e. absurd cc)
        (λ i low r l e. absurd cc);
  }

  its_leads : Leads ss disk_descriptor 3 true (its_leader moment)
  its_leads = record {
    shows = refl;
    only = each (λ i s. (r : _) (l : Leader) → s ≡ leads disk_descriptor r l → i ≡ 3) moment b k frees
        (λ r l e. absurd cc)
        (λ r l e. absurd (other disk_descriptor sys_dir refl (ap fid_in e)))
        (λ r l e. absurd cc)
        (λ r l e. refl)
        (λ j low r l e. absurd cc)
        (λ i low high r l e. absurd cc)
        (λ i low r l e. absurd cc);
  }

  none_leads : (f : Fid) → is_fid f sys_dir ≡ false → is_fid f disk_descriptor ≡ false → Headless ss f
  none_leads f x y = each (λ i s. (r : _) (l : Leader) → s ≡ leads f r l → ⊥) moment b k frees
      (λ r l e. cc)
      (λ r l e. other f sys_dir x (ap fid_in e))
      (λ r l e. cc)
      (λ r l e. other f disk_descriptor y (ap fid_in e))
      (λ j low r l e. cc)
      (λ i low high r l e. cc)
      (λ i low r l e. cc)

  -- ---- pages
  root_has : HasPages ss sys_dir ((2, root_bytes) ∷ []) 0 []
  root_has = record {
    seated = (refl, tt);
    waiting = tt;
    only = each (λ i s. (n : ℕ) (bytes : List ℕ) → s ≡ holds sys_dir n bytes → IsSeat 0 ((2, root_bytes) ∷ []) n i ⊎ IsSeat 0 [] n i) moment b k frees
        (λ n bytes e. absurd cc)
        (λ n bytes e. absurd cc)
        (λ n bytes e. inl (inl (sym (ap page_in e), refl)))
        (λ n bytes e. absurd cc)
        (λ j low n bytes e. absurd (other sys_dir disk_descriptor refl (ap fid_in e)))
        (λ i low high n bytes e. absurd cc)
        (λ i low n bytes e. absurd cc);
  }

  its_has : HasPages ss disk_descriptor (its_pages b 0 k) 0 []
  its_has = record {
    seated = its_seated ss b 0 k (λ j low. page_shown_at moment b k frees j (omega arith));
    waiting = tt;
    only = each (λ i s. (n : ℕ) (bytes : List ℕ) → s ≡ holds disk_descriptor n bytes → IsSeat 0 (its_pages b 0 k) n i ⊎ IsSeat 0 [] n i) moment b k frees
        (λ n bytes e. absurd cc)
        (λ n bytes e. absurd cc)
        (λ n bytes e. absurd (other disk_descriptor sys_dir refl (ap fid_in e)))
        (λ n bytes e. absurd cc)
        (λ j low n bytes e. inl (subst (λ m. IsSeat 0 (its_pages b 0 k) m (sector_of j)) (ap page_in e) (its_seat b 0 k j (omega arith) (omega arith))))
        (λ i low high n bytes e. absurd cc)
        (λ i low n bytes e. absurd cc);
  }

  none_has : (f : Fid) → is_fid f sys_dir ≡ false → is_fid f disk_descriptor ≡ false → HasPages ss f [] 0 []
  none_has f x y = record {
    seated = tt;
    waiting = tt;
    only = each (λ i s. (n : ℕ) (bytes : List ℕ) → s ≡ holds f n bytes → IsSeat 0 [] n i ⊎ IsSeat 0 [] n i) moment b k frees
        (λ n bytes e. absurd cc)
        (λ n bytes e. absurd cc)
        (λ n bytes e. absurd (other f sys_dir x (ap fid_in e)))
        (λ n bytes e. absurd cc)
        (λ j low n bytes e. absurd (other f disk_descriptor y (ap fid_in e)))
        (λ i low high n bytes e. absurd cc)
        (λ i low n bytes e. absurd cc);
  }

  pub no_stray : (i : ℕ) → get_or ss i hidden ≡ stray → ⊥
  no_stray = each (λ i s. s ≡ stray → ⊥) moment b k frees (λ e. cc) (λ e. cc) (λ e. cc) (λ e. cc) (λ j low e. cc) (λ i low high e. cc) (λ i low e. cc)

  -- ---- which files live
  pub root_leader_is : leader ss sys_dir ≡ Some (root_leader moment)
  root_leader_is = leader_is ss sys_dir 1 true (root_leader moment) root_leads

  pub its_leader_is : leader ss disk_descriptor ≡ Some (its_leader moment)
  its_leader_is = leader_is ss disk_descriptor 3 true (its_leader moment) its_leads

  pub no_leader : (f : Fid) → is_fid f sys_dir ≡ false → is_fid f disk_descriptor ≡ false → leader ss f ≡ None
  no_leader f x y = leader_none_is ss f (none_leads f x y)

  pub by_living : (f : Fid) (P : Type 0) → lives ss f ≡ true → (f ≡ sys_dir → P) → (f ≡ disk_descriptor → P) → P
  by_living f P is root its = by_file f P root its (λ x y. let dead : lives ss f ≡ false = ap is_some (no_leader f x y) in absurd cc)

  -- ---- whole files, their bytes and their places
  pub root_read : file_bytes ss sys_dir ≡ root_bytes
  unfolding most_pages
  root_read = bytes_laid ss sys_dir ((2, root_bytes) ∷ []) 1 [] (record { seated = root_has.seated; waiting = tt; only = root_has.only }) (omega arith) refl (omega arith) ∙ append-nil root_bytes

  module _ (laid : IsLaid (its_pages b 0 k)) (few : k ≤ 65535) where
    pub its_read : file_bytes ss disk_descriptor ≡ together (its_pages b 0 k)
    unfolding most_pages
    its_read =
        let size = length-its_pages b 0 k in
        bytes_laid ss disk_descriptor (its_pages b 0 k) k [] (record { seated = its_has.seated; waiting = tt; only = its_has.only }) (omega arith) laid (omega arith)

    pub whole_file : (f : Fid) → FileWhole ss f
    unfolding most_pages
    whole_file f = by_file f (FileWhole ss f)
        (λ e. subst (FileWhole ss) (sym e) (present 1 (root_leader moment) ((2, root_bytes) ∷ []) root_leads root_has refl (omega arith)))
        (λ e. subst (FileWhole ss) (sym e) (present 3 (its_leader moment) (its_pages b 0 k) its_leads its_has laid (let size = length-its_pages b 0 k in omega arith)))
        (λ x y. absent (none_leads f x y) (none_has f x y))

    -- a page is where it is shown
    pub its_place : (j : ℕ) → j < k → place ss disk_descriptor (suc j) ≡ Some (sector_of j)
    its_place j low = place_of_carried ss disk_descriptor (whole_file disk_descriptor) (suc j) (sector_of j) (ap (carries_page disk_descriptor (suc j)) (page_shown_at moment b k frees j low) ∙ carries-holds disk_descriptor j (b j))
