-- The name of a leader page that has none that can be read.
use Rattle.std.proofs.Common.{◌≡◌, ◌≢◌, ◌⊎◌, inl, inr, get_or, ◌==◌, ℕ, zero, suc, Bool, true, false, cond, List, length, Some, refl, sym, ap, subst, ◌∙◌, arith}
use Rattle.std.specs.Prelude.{◌||◌}
use Rattle.std.proofs.lemmas.Bool.Decides.{nat_tests}
use Rattle.std.proofs.lemmas.List.Elements.{All-get_or}
use Rattle.std.proofs.lemmas.List.{get_or-set_same}
use Rattle.disk_records.specs.declared.records.Sector.{Sector}
use Rattle.disk_records.specs.declared.shape.Shape.{Shape}
use Rattle.disk_records.specs.Labels.{in_range, is_free, tag}
use Rattle.alto_words.specs.declared.fid.Fid.{Fid}
use Rattle.alto_words.specs.Fid.{disk_descriptor, is_fid, is_system, serial_of, sys_dir}
use Rattle.alto_words.specs.Names.{lost}
use Rattle.disk_records.specs.declared.records.Page.{Page}
use Rattle.disk_records.specs.Commands.{value_writes}
use Rattle.disk_records.specs.Packs.{AreFormed, IsFormed, Pack, after, carried, is_usable, no_sector, sector_at}
use Rattle.leader_page.specs.Laws.{SaysTitled}
use Rattle.pack_model.specs.operations.PageWords.{titled_value}
use Rattle.pack_model.specs.reading.Leaders.{Leader, is_readable, leader_name, leader_of, leader_words, spelled_name}
use Rattle.pack_model.specs.reading.Files.{carries_page, place}
use Rattle.pack_model.specs.reading.Sights.{page_sight, sight, sights}
use Rattle.pack_model.specs.reading.Sights.Sight.{free, hidden, leads, stray}
use Rattle.laws_mend.specs.pack_laws.specs.GuardLaws.{ComesToHold}
use Rattle.laws_mend.specs.pack_laws.proofs.Carrying.{sight_carries}
use Rattle.laws_mend.specs.pack_laws.proofs.Guarding.{carried_parts, usable_within}
use Rattle.laws_mend.specs.pack_laws.proofs.Sighted.{length-sights, sights-get}
use Rattle.laws_mend.specs.pack_laws.proofs.guards.Laws.{value_writes_keep_the_page}
use Rattle.laws_mend.specs.laws_record.proofs.Recording.{carried_sight}
use Rattle.laws_mend.specs.PartLaws.{LeaderWritten}
use Rattle.laws_mend.proofs.parts.Laws.{leader_value_leaves}
use Rattle.laws_mend.proofs.runs.Laws.{lost_name_tends, system_name_tends}
use Rattle.scav_table.specs.declared.row.Row.{Row}
use Rattle.laws_mend.specs.Tending.{AllTends}
use Rattle.scav_pages.specs.Changes.{AllChange}
use Rattle.scav_pages.specs.Fresh.{own_name}
use Rattle.scav_pages.specs.Keeping.{KeepsLeaders, Leads}
use Rattle.scav_pages.specs.Links.{MayName, PageLinked, PageMended, WritesPage}
use Rattle.scav_pages.proofs.Changing.{value_changes}
use Rattle.scav_pages.proofs.Claiming.{root_carried}
use Rattle.scav_pages.proofs.Keeping.{Mends, keeps_files}
use Rattle.scav_pages.proofs.Leading.{leading}
use Rattle.scav_pages.proofs.Passing.{value_at}

-- a sector shows whether the name in its value can be read
readable_sight : (shape : Shape) (at : ℕ) (s : Sector) (f : Fid) (readable : Bool) (l : Leader) → sight shape at s ≡ leads f readable l → readable ≡ is_readable (leader_words s.value)
unfolding sight
readable_sight shape at s f readable l e = by (is_usable shape at s) (in_range (tag s.label)) (is_free (tag s.label)) e
  where
    of_page : (n : ℕ) → page_sight (tag s.label).fid n (tag s.label).bytes s.value ≡ leads f readable l → readable ≡ is_readable (leader_words s.value)
    of_page zero h = (let same : is_readable (leader_words s.value) ≡ readable = cc in sym same)
    of_page (suc n) h = cc

    by : (u r x : Bool) → cond u (cond r (page_sight (tag s.label).fid (tag s.label).page (tag s.label).bytes s.value) (cond x free stray)) hidden ≡ leads f readable l → readable ≡ is_readable (leader_words s.value)
    by false r x h = cc
    by true true x h = of_page (tag s.label).page h
    by true false true h = cc
    by true false false h = cc

-- nothing is written where the name can be read
pub named_already : (p : Pack) (row : Row) (value : List ℕ) → MayName p row value → is_readable (leader_words value) ≡ true → PageMended row.at p p tt
named_already p row value may readable_is = record {
  lasting = may.lasting;
  places = λ f n. refl;
  links = may.links;
  others = λ i other true_links. true_links;
  shown = λ i other. refl;
  name = λ f readable l shows. readable_sight p.shape row.at (sector_at p row.at) f readable l (sym (sights-get p row.at hidden (usable_within p row.at (carried_parts p row.at row.page may.carries).0)) ∙ shows)
      ∙ ap (λ v. is_readable (leader_words v)) (sym may.value_is) ∙ readable_is;
}

-- no name of a file that isn't a system file is one that can't be read
other_name : (f : Fid) → is_system f ≡ false → own_name f ≡ lost (serial_of f)
other_name f plain = by (is_fid f sys_dir) (is_fid f disk_descriptor) plain
  where
    by : (a b : Bool) → (a || b) ≡ false → cond a (own_name sys_dir) (cond b (own_name disk_descriptor) (lost (serial_of f))) ≡ lost (serial_of f)
    by false false e = refl
    by true b e = cc
    by false true e = cc

unread_name : (f : Fid) (value : List ℕ) → is_readable (leader_words value) ≡ false → (leader_of f value).name ≡ lost (serial_of f)
unfolding leader_of leader_name
unread_name f value unread = ap (λ b. cond b (spelled_name (leader_words value)) (lost (serial_of f))) unread

-- the leader page in this sector gets its file's own name, and each other one stays
module _ (p : Pack) (at : ℕ) (f : Fid) (value : List ℕ) (carries : carried p at ≡ Some (leading f)) (is : value ≡ (sector_at p at).value) (unread : is_readable (leader_words value) ≡ false) (named : SaysTitled value (own_name f)) where
  abbrev renamed : Pack
  renamed = after p (value_writes at (titled_value (own_name f) value))

  leads_own : (l : Leader) → place (sights renamed) f 0 ≡ Some at → l ≡ leader_of f value → Leads renamed f true (record l { name = own_name f })
  leads_own l sector says = record {
    at = at;
    sector = sector;
    says = ap (λ ss. get_or ss at hidden) written.shown ∙ get_or-set_same (sights p) at (page_sight f 0 (tag (sector_at p at).label).bytes (titled_value (own_name f) value)) hidden (let low = usable_within p at (carried_parts p at (leading f) carries).0 in omega (arith, low, length-sights p))
        ∙ (λ i. leads f (named.readable i) ((named.leader_is f ∙ ap {A = Leader} (λ x. record x { name = own_name f }) (sym says)) i));
  }
    where
      written : ComesToHold at (leading f) (sector_at p at).label (titled_value (own_name f) value) p renamed
      written = value_writes_keep_the_page p at (leading f) (titled_value (own_name f) value) 1 carries (omega arith)

  leaders_named : LeaderWritten p renamed at (titled_value (own_name f) value) → KeepsLeaders p renamed
  leaders_named leaves = record { kept = λ g readable l x. by g readable l x (x.at == at) refl; made = λ g system dead. inl (leaves.files.lives_are g ∙ dead) }
    where
      by : (g : Fid) (readable : Bool) (l : Leader) (x : Leads p g readable l) (t : Bool) → (x.at == at) ≡ t → Leads renamed g readable l ⊎ ((readable ≡ false) × Leads renamed g true (record l { name = own_name g }))
      by g readable l x true e =
          let same : x.at ≡ at = grind (arith, nat_tests, e) in
          let shown : leads g readable l ≡ leads f (is_readable (leader_words (sector_at p at).value)) (leader_of f (sector_at p at).value) = sym x.says ∙ ap (λ k. get_or (sights p) k hidden) same ∙ carried_sight p at (leading f) carries in
          let file : g ≡ f = cc in
          let can : readable ≡ is_readable (leader_words (sector_at p at).value) = cc in
          let lead : l ≡ leader_of f (sector_at p at).value = cc in
          inr (
            can ∙ ap (λ v. is_readable (leader_words v)) (sym is) ∙ unread,
            subst (λ h. Leads renamed h true (record l { name = own_name h })) (sym file)
                (leads_own l (ap (λ h. place (sights renamed) h 0) (sym file) ∙ leaves.files.places_are g 0 ∙ x.sector ∙ ap Some same) (lead ∙ ap (leader_of f) (sym is))),
          )
      by g readable l x false e =
          let other : x.at ≢ at = λ same. (let no = subst (λ k. (k == at) ≡ false) same e in grind (arith, nat_tests, no)) in
          inl (record { at = x.at; sector = leaves.files.places_are g 0 ∙ x.sector; says = leaves.others x.at other ∙ x.says })

module _ (p : Pack) (row : Row) (value : List ℕ) (may : MayName p row value) (leads_it : row.page.number ≡ 0) (named : SaysTitled value (own_name row.page.fid)) where
  pub name_mends : is_readable (leader_words value) ≡ false → Mends p (value_writes row.at (titled_value (own_name row.page.fid) value))
  name_mends unread = record {
    each = record { tends = by (is_system row.page.fid) refl; changes = other_value };
    keeps = keeps_files leaves.files named_leaders;
  }
    where
      leaves : LeaderWritten p (after p (value_writes row.at (titled_value (own_name row.page.fid) value))) row.at (titled_value (own_name row.page.fid) value)
      leaves = leader_value_leaves p row.at row.page (titled_value (own_name row.page.fid) value) may.carries leads_it

      named_leaders : KeepsLeaders p (after p (value_writes row.at (titled_value (own_name row.page.fid) value)))
      named_leaders = leaders_named p row.at row.page.fid value (may.carries ∙ ap (λ n. Some (record { fid = row.page.fid; number = n })) leads_it) may.value_is unread named leaves

      other_value : AllChange p (value_writes row.at (titled_value (own_name row.page.fid) value))
      other_value = value_changes p row.at (titled_value (own_name row.page.fid) value) (λ same. (let wrong : true ≡ false = sym named.readable ∙ ap (λ v. is_readable (leader_words v)) (same ∙ sym may.value_is) ∙ unread in cc))

      by : (t : Bool) → is_system row.page.fid ≡ t → AllTends p (value_writes row.at (titled_value (own_name row.page.fid) value))
      by true is =
          let root = may.lasting.rooted.root in
          system_name_tends p row.at row.page.fid (titled_value (own_name row.page.fid) value) is (root_carried p root.0 root.1 root.2)
          (may.carries ∙ ap (λ n. Some (record { fid = row.page.fid; number = n })) leads_it)
      by false is =
          lost_name_tends p row.at row.page (titled_value (own_name row.page.fid) value) may.carries leads_it
          (named.leader_is row.page.fid ∙ ap (λ n. record (leader_of row.page.fid value) { name = n }) (other_name row.page.fid is ∙ sym (unread_name row.page.fid value unread)) ∙ ap (leader_of row.page.fid) may.value_is)

  pub named_page : (q : Pack) → q ≡ after p (value_writes row.at (titled_value (own_name row.page.fid) value)) → PageMended row.at p q tt
  named_page q left = subst (λ x. PageMended row.at p x tt) (sym left) (record {
    lasting = leaves.lasting may.lasting;
    places = leaves.files.places_are;
    links = leaves.links row.at may.links;
    others = λ i other true_links. leaves.links i true_links;
    shown = leaves.others;
    name = leaves.named named.readable;
  })
    where
      leaves : LeaderWritten p (after p (value_writes row.at (titled_value (own_name row.page.fid) value))) row.at (titled_value (own_name row.page.fid) value)
      leaves = leader_value_leaves p row.at row.page (titled_value (own_name row.page.fid) value) may.carries leads_it

pub name_written : (p : Pack) (at : ℕ) (page : Page) (value : List ℕ) → carried p at ≡ Some page → (q : Pack) → q ≡ after p (value_writes at value) → WritesPage at page p q
name_written p at page value was q left = subst (WritesPage at page p) (sym left) (record {
  written = value_at p at value;
  was = was;
  carries = (value_writes_keep_the_page p at page value 1 was (omega arith)).page_here;
})

-- ---- links, and then the name
value_size : (p : Pack) (at : ℕ) {page : Page} → AreFormed p → carried p at ≡ Some page → length (sector_at p at).value ≡ 256
value_size p at {page} formed carries = (All-get_or IsFormed p.sectors at no_sector (usable_within p at (carried_parts p at page carries).0) formed).value

pub may_name : (p q : Pack) (row : Row) (value : List ℕ) (done : Unit {0}) → PageLinked row.at p q done → WritesPage row.at row.page p q → AreFormed q → value ≡ (sector_at q row.at).value → MayName q row value
may_name p q row value done linked wrote formed is = record {
  lasting = linked.lasting;
  carries = wrote.carries;
  value_is = is;
  long = ap length is ∙ value_size q row.at formed wrote.carries;
  links = linked.links;
}

pub linked_named : {p q r : Pack} {at : ℕ} {one two : Unit {0}} → PageLinked at p q one → PageMended at q r two → PageMended at p r tt
linked_named l m = record {
  lasting = m.lasting;
  places = λ f n. m.places f n ∙ l.places f n;
  links = m.links;
  others = λ i other h. m.others i other (l.others i other h);
  shown = λ i other. m.shown i other ∙ l.shown i other;
  name = m.name;
}

-- a data page has no name
no_leader : (f : Fid) (n : ℕ) (g : Fid) (readable : Bool) (l : Leader) → n ≢ 0 → carries_page f n (leads g readable l) ≡ true → ⊥
no_leader f zero g readable l other e = absurd (other refl)
no_leader f (suc n) g readable l other e = cc

pub linked_only : {p q : Pack} {done : Unit {0}} (row : Row) → PageLinked row.at p q done → WritesPage row.at row.page p q → row.page.number ≢ 0 → PageMended row.at p q tt
linked_only {q = q} row l wrote other = record {
  lasting = l.lasting;
  places = l.places;
  links = l.links;
  others = l.others;
  shown = l.shown;
  name = λ f readable x shows. absurd (no_leader row.page.fid row.page.number f readable x other
      (ap (carries_page row.page.fid row.page.number) (sym shows) ∙ sight_carries q row.at row.page hidden (usable_within q row.at (carried_parts q row.at row.page wrote.carries).0) wrote.carries));
}
