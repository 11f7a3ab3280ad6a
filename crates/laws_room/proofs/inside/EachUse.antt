-- Each operation may be done where its record writes may, and takes as many sectors into use as the model says.
use Rattle.std.proofs.Common.{Bool, List, None, Option, Some, ap, cond, false, length, refl, subst, suc, sym, true, ℕ, ◌+◌, ◌/◌, ◌∙◌, ◌≡◌, ◌≤◌}
use Rattle.std.specs.FinMap.{contains_key, get}
use Rattle.std.specs.Option.{is_some, option_map}
use Rattle.laws_operation.specs.alto_words.specs.Fid.{disk_descriptor, is_fid, is_system}
use Rattle.laws_operation.specs.alto_words.specs.declared.fid.Fid.{Fid}
use Rattle.laws_operation.specs.disk_records.specs.Packs.{Pack, after}
use Rattle.laws_operation.specs.disk_records.specs.declared.records.Event.{Event}
use Rattle.laws_operation.specs.pack_model.specs.reading.Bodies.{File, described, found, is_described}
use Rattle.laws_operation.specs.pack_model.specs.operations.Committing.{length_of}
use Rattle.laws_operation.specs.pack_model.specs.reading.Files.{file_bytes, leader, lives, place}
use Rattle.laws_operation.specs.pack_model.specs.reading.Leaders.{Leader}
use Rattle.laws_operation.specs.pack_model.specs.reading.Model.{read_as, read_sights}
use Rattle.laws_operation.specs.pack_model.specs.reading.Sights.{sights}
use Rattle.laws_operation.specs.pack_model.specs.reading.Sights.Sight.{hidden}
use Rattle.laws_operation.specs.pack_model.specs.operations.Step.{Operation, step}
use Rattle.laws_operation.specs.pack_model.specs.operations.Step.Operation.{drop_file, enter}
use Rattle.laws_operation.specs.pack_model.specs.showing.View.{seen_of}
use Rattle.laws_operation.specs.pack_model.specs.states.Whole.{Tidy, Whole}
use Rattle.laws_operation.specs.pack_laws.proofs.Placing.{leader_of_place, page_of_place}
use Rattle.laws_record.proofs.DirReads.{not_descriptor}
use Rattle.laws_record.proofs.Keeping.{get-where}
use Rattle.laws_record.proofs.Mending.{get-seen}
use Rattle.laws_record.proofs.Reading.{get-found, read_file}
use Rattle.laws_operation.proofs.Changing.{seat_of}
use Rattle.laws_operation.proofs.Cutting.{cut_law}
use Rattle.laws_operation.proofs.Dropped.{release_law, read_there}
use Rattle.laws_operation.proofs.Grown.{grow_law}
use Rattle.laws_operation.proofs.Leaving.{leave_law, system_apart}
use Rattle.laws_operation.proofs.Making.{make_law}
use Rattle.laws_operation.proofs.OneValue.{put_law, stamp_law, title_law}
use Rattle.laws_operation.proofs.Rows.{ordinary_length}
use Rattle.laws_operation.proofs.Seating.{leader_is}
use Rattle.laws_operation.proofs.Widening.{widen_law}
use Rattle.laws_operation.specs.ByteLaws.{IsOrdinary}
use Rattle.laws_operation.specs.Outcomes.{CarriesOut}
use Rattle.laws_room.proofs.inside.SectorsUsed.{use_follows_the_operation}
use Rattle.laws_room.specs.EachUses.{EachOperationTakesItsPages, EachTakes, TakesIntoUse}
use Rattle.laws_room.specs.UseLaws.{MayBeDone}
use Rattle.laws_operation.proofs.drop.Laws.{drop_carries_out}
use Rattle.laws_operation.proofs.enter.Laws.{enter_carries_out}

-- ---- files in the model
-- one that doesn't live isn't there
unread : (p : Pack) (f : Fid) → lives (sights p) f ≡ false → contains_key (read_as p).files f ≡ false
unfolding read_sights
unread p f none = by (get (read_as p).files f) (leader (sights p) f) none (get-seen (lives (sights p)) (described (sights p)) f ∙ ap (option_map (seen_of f)) (get-where (found (sights p)) is_described f ∙ ap (λ r. cond (is_described f) r None) (get-found (sights p) f)))
  where
    empty : (b : Bool) → option_map (seen_of f) (cond b (option_map (read_file f (file_bytes (sights p) f)) None) None) ≡ None
    empty true = refl
    empty false = refl

    by : (x : Option File) (r : Option Leader) → is_some r ≡ false → option_map (seen_of f) x ≡ option_map (seen_of f) (cond (is_described f) (option_map (read_file f (file_bytes (sights p) f)) r) None) → is_some x ≡ false
    by x (Some l) n e = absurd (let c : true ≡ false = n in cc)
    by None None n e = refl
    by (Some x) None n e = absurd (let c : Some (seen_of f x) ≡ None = e ∙ empty (is_described f) in cc)

module _ (p : Pack) (w : Whole p) (t : Tidy p) where
  -- one of which a data page is borne lives
  lead_of : (f : Fid) (n at : ℕ) → place (sights p) f (suc n) ≡ Some at → (l : Leader) × (leader (sights p) f ≡ Some l)
  lead_of f n at is =
      let page = page_of_place (sights p) f n at is in
      let h = seat_of (sights p) f n at page.bytes (w.files f) (page.shows hidden) in
      (h.lead, leader_is (sights p) f h.at true h.lead h.leads_it)

  -- an ordinary one is as long as its bytes
  long : (f : Fid) (n at : ℕ) → IsOrdinary f → place (sights p) f (suc n) ≡ Some at → length_of (read_as p) f ≡ length (file_bytes (sights p) f)
  long f n at file is = let l = lead_of f n at is in ordinary_length p.shape (sights p) f l.0 l.1 file

  -- one that lives is there
  there : (f : Fid) (l : Leader) → is_fid f disk_descriptor ≡ false → leader (sights p) f ≡ Some l → contains_key (read_as p).files f ≡ true
  there f l other lead = ap is_some (read_there p f l t other lead)

  -- ---- operations
  -- one that may be done, after which the pack is whole and is read as the model is then
  takes : (events : List Event) (o : Operation) → Whole (after p events) → read_as (after p events) ≡ step (read_as p) o → MayBeDone (read_as p) o → TakesIntoUse p events o
  takes events o behind reads may = record { may = may; in_use = use_follows_the_operation p (after p events) o w behind refl may reads }

  carried : {events : List Event} {o : Operation} → CarriesOut p events o → MayBeDone (read_as p) o → TakesIntoUse p events o
  carried {events} {o} h may = takes events o h.meets.whole h.ends may

  -- each
  each : EachTakes p
  each = record {
    puts = λ f offset new at value h. let e = long f (offset / 512) at h.file h.sector in carried (put_law p w t f h.file offset new at value h) (h.file.no_directory, subst (λ n. offset + length new ≤ n) (sym e) h.within);
    grows = λ f new claims at label value h. let l = lead_of f (length (file_bytes (sights p) f) / 512) at h.sector in carried (grow_law p w t f h.file new claims at label value h) (h.file.no_directory, there f l.0 h.file.no_descriptor l.1);
    cuts = λ f n at label later h. let e = long f (n / 512) at h.file h.sector in carried (cut_law p w t f h.file n at label later h) (h.file.no_directory, subst (λ k. n ≤ k) (sym e) h.within);
    titles = λ f name at value h. carried (title_law p w t f h.file name at value h) tt;
    stamps = λ f moment at value h. carried (stamp_law p w t f h.file moment at value h) tt;
    makes = λ f name moment page leader h. carried (make_law p w t f name moment page leader h) (unread p f h.not_there);
    goes = λ f at pages h. let g = (release_law p w t f at pages h).0 in takes _ (drop_file f) g.drops.whole g.ends (gone f at h.no_system h.sector);
    drops = λ f at pages d slot_at a b own h frees. carried (drop_carries_out p f at pages d slot_at a b own w t h frees) (gone f at h.no_system h.sector);
    leaves = λ d name at a b f own h. carried (leave_law p w t d name at a b f own h) tt;
    enters = λ d name f a old b left words at next_at h. let g = enter_carries_out p d name f a old b left words at next_at w t h in takes _ (enter d name f) g.sees.whole g.ends tt;
    widens = λ d added claims at label value h. let l = lead_of d (length (file_bytes (sights p) d) / 512) at h.sector in carried (widen_law p w t d added claims at label value h) (h.directory, there d l.0 (not_descriptor d h.directory) l.1);
  }
    where
      gone : (f : Fid) (at : ℕ) → is_system f ≡ false → place (sights p) f 0 ≡ Some at → contains_key (read_as p).files f ≡ true
      gone f at ordinary is = let l = leader_of_place (sights p) f at is in there f l.lead (system_apart disk_descriptor f refl ordinary) l.leader_is

-- the law
pub each_operation_takes_its_pages : EachOperationTakesItsPages
each_operation_takes_its_pages p w t = each p w t
