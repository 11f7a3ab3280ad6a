-- What stays over an operation on one file.
use Rattle.std.proofs.Common.{List, Some, [], ap, arith, false, inl, inr, refl, subst, sym, true, ℕ, Bool, cond, None, ◌∙◌, ◌∷◌, ◌≡◌, ◌⊎◌}
use Rattle.std.specs.Prelude.{Contains}
use Rattle.laws_operation.specs.alto_words.specs.Fid.{is_directory, is_fid}
use Rattle.laws_operation.specs.alto_words.specs.declared.fid.Fid.{Fid}
use Rattle.laws_operation.specs.disk_records.specs.Labels.{page_of}
use Rattle.laws_operation.specs.disk_records.specs.Packs.{Pack, after, carried, is_usable, sector_at}
use Rattle.laws_operation.specs.disk_records.specs.Words.{word}
use Rattle.laws_operation.specs.disk_records.specs.declared.records.Event.{Event}
use Rattle.laws_operation.specs.disk_records.specs.declared.records.Event.TheVariants.{Wrote}
use Rattle.laws_operation.specs.disk_records.specs.declared.records.Page.{Page}
use Rattle.laws_operation.specs.disk_records.specs.declared.records.Place.TheVariants.{Entry, Held, Next, Root}
use Rattle.laws_operation.specs.disk_records.specs.declared.records.Sector.{Sector}
use Rattle.laws_operation.specs.pack_model.specs.hints.Links.{dir_slots}
use Rattle.laws_operation.specs.pack_model.specs.hints.Misled.{StandsInEntry, StandsInLink}
use Rattle.laws_operation.specs.pack_model.specs.operations.Commands.{values_writes}
use Rattle.laws_operation.specs.pack_model.specs.operations.PageWords.{page_number}
use Rattle.laws_operation.specs.pack_model.specs.reading.Bytes.{words_of}
use Rattle.laws_operation.specs.pack_model.specs.reading.Files.{place}
use Rattle.laws_operation.specs.pack_model.specs.reading.Sights.{sights}
use Rattle.laws_operation.specs.pack_model.specs.reading.SlotWords.{slots_at}
use Rattle.laws_operation.specs.pack_model.specs.reading.Slots.{slots}
use Rattle.laws_operation.specs.pack_model.specs.states.Whole.{Whole}
use Rattle.laws_operation.specs.pack_laws.proofs.Guarding.{front_from}
use Rattle.laws_operation.specs.pack_laws.proofs.Keys.{same_fid}
use Rattle.laws_operation.specs.laws_record.proofs.Carried.{values_carried}
use Rattle.laws_operation.specs.laws_record.proofs.Copying.{place_carried}
use Rattle.laws_lookup.proofs.others.Laws.{values_leave_others}
use Rattle.laws_operation.proofs.places.Laws.{carried_in_place, values_keep_places}
use Rattle.laws_lookup.specs.OtherLaws.{KeepsPages, LeavesOthers}
use Rattle.laws_lookup.specs.StayLaws.{AddressMisledBefore, EntriesOfAnotherDirectoryStand, EntriesStandBesideAnOrdinaryFile, LinkMisledBefore, PagesOfAnotherFileStay, SlotsOfAnotherDirectoryStay, ValuesLeaveNextLinks, ValuesMisledBefore}

-- ---- another directory
pub slots_of_another_directory_stay : SlotsOfAnotherDirectoryStay
slots_of_another_directory_stay f p q d h other = ap (λ ws. slots_at ws 0 (slots ws)) (ap words_of (h.bytes d other))

pub entries_of_another_directory_stand : EntriesOfAnotherDirectoryStand
entries_of_another_directory_stand f p q d w at wanted h other = (forth, back)
  where
    same : dir_slots q d ≡ dir_slots p d
    same = slots_of_another_directory_stay f p q d h other

    forth : StandsInEntry p d w at wanted → StandsInEntry q d w at wanted
    forth s = record {
      lives = h.living d other ∙ s.lives;
      directory = s.directory;
      slot = s.slot;
      name = s.name;
      stands = subst (λ ss. Contains ss s.slot) (sym same) s.stands;
      item = s.item;
      number = s.number;
      word = s.word;
      address = s.address;
    }

    back : StandsInEntry q d w at wanted → StandsInEntry p d w at wanted
    back s = record {
      lives = sym (h.living d other) ∙ s.lives;
      directory = s.directory;
      slot = s.slot;
      name = s.name;
      stands = subst (λ ss. Contains ss s.slot) same s.stands;
      item = s.item;
      number = s.number;
      word = s.word;
      address = s.address;
    }

-- a directory isn't a file that is none
pub dir_apart : (d f : Fid) → is_directory d ≡ true → is_directory f ≡ false → is_fid d f ≡ false
dir_apart d f dir ordinary = by (is_fid d f) refl
  where
    by : (b : Bool) → is_fid d f ≡ b → b ≡ false
    by false e = refl
    by true e = let clash : true ≡ false = sym dir ∙ ap is_directory (same_fid d f e) ∙ ordinary in cc

pub entries_stand_beside_an_ordinary_file : EntriesStandBesideAnOrdinaryFile
entries_stand_beside_an_ordinary_file f p q d w at wanted h ordinary = (
  λ s. (entries_of_another_directory_stand f p q d w at wanted h (dir_apart d f s.directory ordinary)).0 s,
  λ s. (entries_of_another_directory_stand f p q d w at wanted h (dir_apart d f s.directory ordinary)).1 s,
)

-- ---- pages
pub pages_of_another_file_stay : PagesOfAnotherFileStay
pages_of_another_file_stay f p events i page wp h other is =
    ap (λ (s : Sector). cond (is_usable p.shape i s) (page_of s.label) None) (h.sectors page.fid page.number i other (carried_in_place p page i wp is)) ∙ is

-- the leader of a file that keeps it, and those of the others
pub leader_stays : (f : Fid) (p : Pack) (events : List Event) (i : ℕ) (wanted : Page) → Whole p → LeavesOthers f p (after p events) → wanted.number ≡ 0 → KeepsPages f 0 p (after p events) → carried p i ≡ Some wanted → carried (after p events) i ≡ Some wanted
leader_stays f p events i wanted wp h first keeps is = by (is_fid wanted.fid f) refl
  where
    by : (b : Bool) → is_fid wanted.fid f ≡ b → carried (after p events) i ≡ Some wanted
    by false other = pages_of_another_file_stay f p events i wanted wp h other is
    by true own =
        let page : wanted ≡ page_number f 0 = λ k. record { fid = same_fid wanted.fid f own k; number = first k } in
        let there : place (sights p) f 0 ≡ Some i = carried_in_place p (page_number f 0) i wp (is ∙ ap Some page) in
        place_carried (after p events) (page_number f 0) i (keeps 0 i (omega arith) there) ∙ ap Some (sym page)

-- ---- hints
pub address_misled_before : AddressMisledBefore
address_misled_before f p events d w at wanted wp h other kept m = record {
  stands = (entries_of_another_directory_stand f p (after p events) d w at wanted h other).1 m.stands;
  misses = λ i n is. m.misses i n (elim kept [
    | inl apart ↦ pages_of_another_file_stay f p events i wanted wp h apart is
    | inr keeps ↦ leader_stays f p events i wanted wp h m.stands.number keeps is
  ]);
}

pub link_misled_before : LinkMisledBefore
link_misled_before f p events i at wanted wp wq h other m =
    let q : Pack = after p events in
    let s : StandsInLink q i at wanted = m.stands in
    let own : is_fid s.page.fid f ≡ false = ap (λ (x : Page). is_fid x.fid f) (sym s.means) ∙ other in
    let there : place (sights p) s.page.fid s.page.number ≡ Some i = sym (h.places s.page.fid s.page.number own) ∙ carried_in_place q s.page i wq s.carries in
    let sector : sector_at q i ≡ sector_at p i = h.sectors s.page.fid s.page.number i own there in
    record {
      stands = record {
        page = s.page;
        carries = place_carried p s.page i there;
        full = subst (λ (x : Sector). (s.page.number ≡ 0) ⊎ (word x.label 3 ≡ 512)) sector s.full;
        means = s.means;
        link = s.link ∙ ap (λ (x : Sector). word x.label 0) sector;
      };
      misses = λ j n is. m.misses j n (pages_of_another_file_stay f p events j wanted wp h other is);
    }

-- ---- values
-- labels stay
labels_stay : (values : List (ℕ × List ℕ)) (p : Pack) (i : ℕ) → (sector_at (after p (values_writes values)) i).label ≡ (sector_at p i).label
labels_stay [] p i = refl
labels_stay (v ∷ values) p i = labels_stay values (after p (Wrote v.0 2 v.1 ∷ [])) i ∙ (front_from p.sectors v.0 i v.1).1

pub values_leave_next_links : ValuesLeaveNextLinks
values_leave_next_links p values i at wanted m =
    let s : StandsInLink (after p (values_writes values)) i at wanted = m.stands in
    let label = labels_stay values p i in
    record {
      stands = record {
        page = s.page;
        carries = sym (values_carried values p i) ∙ s.carries;
        full = subst (λ l. (s.page.number ≡ 0) ⊎ (word l 3 ≡ 512)) label s.full;
        means = s.means;
        link = s.link ∙ ap (λ l. word l 0) label;
      };
      misses = λ j n is. m.misses j n (values_carried values p j ∙ is);
    }

pub values_misled_before : ValuesMisledBefore
values_misled_before p f values wp wq ordinary of Root at wanted on m = absurd on
values_misled_before p f values wp wq ordinary of (Entry d w) at wanted on m =
    address_misled_before f p (values_writes values) d w at wanted wp (values_leave_others p f values wp wq of) (dir_apart d f m.stands.directory ordinary) (inr (λ n i l there. (values_keep_places p values).places f n ∙ there)) m
values_misled_before p f values wp wq ordinary of (Next i) at wanted on m = values_leave_next_links p values i at wanted m
values_misled_before p f values wp wq ordinary of (Held i) at wanted on m = absurd on
