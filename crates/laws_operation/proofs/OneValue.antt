-- The operations that are one value write to an ordinary file: put, title and stamp.
use Rattle.std.proofs.Common.{List, [], ap, arith, get_or, length, refl, set, subst, sym, true, ℕ, ◌%◌, ◌*◌, ◌++◌, ◌+◌, ◌/◌, ◌∙◌, ◌∷◌, ◌≡◌, ◌≤◌}
use Rattle.std.proofs.lemmas.List.{append-nil, length-append}
use Rattle.laws_contents.specs.alto_words.specs.declared.fid.Fid.{Fid}
use Rattle.laws_contents.specs.disk_records.specs.Commands.{value_writes}
use Rattle.laws_contents.specs.disk_records.specs.Labels.{Tag, tag}
use Rattle.laws_contents.specs.disk_records.specs.Packs.{Pack, after, sector_at}
use Rattle.laws_contents.specs.disk_records.specs.declared.records.Event.TheVariants.{Wrote}
use Rattle.laws_contents.specs.pack_model.specs.reading.Bytes.{put_at}
use Rattle.laws_contents.specs.pack_model.specs.operations.Committing.{MakesMove, moves_of}
use Rattle.laws_contents.specs.pack_model.specs.reading.Files.{file_bytes}
use Rattle.laws_contents.specs.pack_model.specs.reading.Leaders.{Leader, is_readable, leader_of, leader_words}
use Rattle.laws_contents.specs.pack_model.specs.sessions.Meanings.{reading}
use Rattle.laws_contents.specs.pack_model.specs.reading.Model.{Model, good_one, read_as}
use Rattle.laws_contents.specs.pack_model.specs.sessions.Moves.{Obeys, steps}
use Rattle.laws_contents.specs.pack_model.specs.operations.Operations.{one_move}
use Rattle.laws_contents.specs.pack_model.specs.operations.Operations.Move.{commits}
use Rattle.laws_contents.specs.pack_model.specs.reading.Sights.{Sight, sights, tag_sight}
use Rattle.laws_contents.specs.pack_model.specs.reading.Sights.Sight.{hidden, holds, leads}
use Rattle.laws_contents.specs.pack_model.specs.operations.Step.{Operation, on_bytes, on_leader, step, update_file}
use Rattle.laws_contents.specs.pack_model.specs.operations.Step.Operation.{put, stamp, title}
use Rattle.laws_contents.specs.pack_model.specs.states.Whole.{IsLaid, PageAt, Tidy, TidySights, Whole, WholeSights}
use Rattle.laws_contents.specs.pack_laws.proofs.Bytes.{length-put_at, put_at-append_left, put_at-append_right}
use Rattle.laws_contents.specs.pack_laws.proofs.Placing.{leader_of_place, page_of_place}
use Rattle.laws_contents.specs.laws_record.proofs.Keeping.{plain}
use Rattle.laws_contents.specs.laws_record.specs.QuietLaws.{counted_of}
use Rattle.laws_operation.proofs.Changing.{headed, leader_changed, leaves, length-together, page_changed, seat_of}
use Rattle.laws_operation.proofs.Commanding.{value_obeys, value_shows}
use Rattle.laws_operation.proofs.inside.Elsewhere.{SameBut}
use Rattle.laws_operation.proofs.inside.Kept.{carries_out}
use Rattle.laws_operation.proofs.Lying.{bytes_laid, together-append}
use Rattle.laws_operation.proofs.Seating.{AllFull, carries_none, laid_back, laid_front}
use Rattle.laws_operation.proofs.Showing.{other_leader_value, other_value, tag_is}
use Rattle.laws_operation.specs.ByteLaws.{IsOrdinary, MayPut, together}
use Rattle.laws_operation.specs.LeaderLaws.{MayWriteLeader, stamped, titled}
use Rattle.laws_operation.specs.Outcomes.{CarriesOut}

-- bytes in place within a page are bytes in place within the file
pub put_there : (front : List PageAt) (i k : ℕ) (old : List ℕ) (later : List PageAt) (off : ℕ) (new : List ℕ) → AllFull front → length front ≡ k → off + length new ≤ length old
    → put_at (512 * k + off) new (together (front ++ (i, old) ∷ later)) ≡ together (front ++ (i, put_at off new old) ∷ later)
put_there front i k old later off new full number fits =
    let n : length (together front) ≡ 512 * length front = length-together front full in
    let place : 512 * k + off ≡ length (together front) + off = omega (arith, n, number) in
    ap (λ x. put_at x new (together (front ++ (i, old) ∷ later))) place
    ∙ ap (put_at (length (together front) + off) new) (together-append front ((i, old) ∷ later))
    ∙ put_at-append_right off new (together front) (old ++ together later)
    ∙ ap (λ x. together front ++ x) (put_at-append_left off new old (together later) fits)
    ∙ sym (together-append front ((i, put_at off new old) ∷ later))

-- bytes within a file that lie in one page lie within this page's bytes
pub fits_page : (front : List PageAt) (i k : ℕ) (old : List ℕ) (later : List PageAt) (off count : ℕ) → IsLaid (front ++ (i, old) ∷ later) → length front ≡ k → off + count ≤ 512 → 512 * k + off + count ≤ length (together (front ++ (i, old) ∷ later)) → off + count ≤ length old
fits_page front i k old later off count laid number one within = by later (laid_back front (i, old) later laid) (ap length (together-append front ((i, old) ∷ later)) ∙ length-append (together front) (old ++ together later))
  where
    n : length (together front) ≡ 512 * length front
    n = length-together front (laid_front front (i, old) later laid)

    by : (more : List PageAt) → IsLaid ((i, old) ∷ more) → length (together (front ++ (i, old) ∷ later)) ≡ length (together front) + length (old ++ together more) → off + count ≤ length old
    by [] l e = let z : length (old ++ []) ≡ length old = ap length (append-nil old) in omega (arith, n, number, within)
    by (d ∷ more) l e = let z = l.0 in omega arith

module _ (p : Pack) (w : Whole p) (t : Tidy p) (f : Fid) (file : IsOrdinary f) where
  -- put
  pub put_law : (offset : ℕ) (new : List ℕ) (at : ℕ) (value : List ℕ) → MayPut p f offset new at value → CarriesOut p (value_writes at value) (put f offset new)
  put_law offset new at value h =
      let ss : List Sight = sights p in
      let k : ℕ = offset / 512 in
      let off : ℕ = offset % 512 in
      let here = page_of_place ss f k at h.sector in
      let old : List ℕ = here.bytes in
      let is : get_or ss at hidden ≡ holds f k old = here.shows hidden in
      let good : good_one (get_or ss at hidden) ≡ 1 = ap good_one is in
      let fresh : List ℕ = put_at off new old in
      let pl = seat_of ss f k at old (w.files f) is in
      let t0 : Tag = tag (sector_at p at).label in
      let shown : holds f k old ≡ tag_sight t0 (sector_at p at).value = sym is ∙ tag_is p at good in
      let same_old : holds f k old ≡ holds f k (counted_of p at (sector_at p at).value) = shown ∙ other_value t0 (sector_at p at).value (sector_at p at).value f k old (sym shown) in
      let old_is : old ≡ counted_of p at (sector_at p at).value = cc in
      let z : 512 * k + off ≡ offset = omega arith in
      let bytes : file_bytes ss f ≡ together (pl.front ++ (at, old) ∷ pl.later) = bytes_laid ss f (pl.front ++ (at, old) ∷ pl.later) (length (pl.front ++ (at, old) ∷ pl.later)) [] (carries_none ss f (pl.front ++ (at, old) ∷ pl.later) 0 (length (pl.front ++ (at, old) ∷ pl.later)) pl.carries) (omega arith) pl.laid pl.few in
      let size : length (file_bytes ss f) ≡ length (together (pl.front ++ (at, old) ∷ pl.later)) = ap length bytes in
      let within : 512 * k + off + length new ≤ length (together (pl.front ++ (at, old) ∷ pl.later)) = let x = h.within in omega (arith, z, size) in
      let fits : off + length new ≤ length old = fits_page pl.front at k old pl.later off (length new) pl.laid pl.number h.one_page within in
      let ch = page_changed ss f k at old fresh pl is (length-put_at off new old fits) in
      let s : tag_sight t0 value ≡ holds f k fresh = other_value t0 (sector_at p at).value value f k old (sym shown) ∙ ap (holds f k) (h.counted ∙ ap (put_at off new) (sym old_is)) in
      let us : List Sight = set ss at (holds f k fresh) in
      let lv = leaves p.shape ss us f pl.lead pl.lead _ _ (on_bytes (put_at offset new)) ch file.no_directory file.no_descriptor
      (ap (plain pl.lead) (ap (λ x. put_at x new (together (pl.front ++ (at, old) ∷ pl.later))) (sym z) ∙ put_there pl.front at k old pl.later off new (laid_front pl.front (at, old) pl.later pl.laid) pl.number fits)) w t in
      let shows : sights (after p (value_writes at value)) ≡ us = value_shows p at good value (holds f k fresh) s in
      carries_out p (value_writes at value) (put f offset new) f refl (subst (SameBut f ss) (sym shows) ch.same) file.no_descriptor (record {
        obeys = value_obeys p at good (read_as p) (commits (put f offset new)) value (holds f k fresh) s refl (record { part_is = refl; bears = h.sector }) lv.reads;
        whole = subst (WholeSights p.shape) (sym shows) lv.whole;
        tidy = subst TidySights (sym shows) lv.tidy;
      })

  -- title and stamp: one value of the leader
  leader_meets : (change : Leader → Leader) (o : Operation) (at : ℕ) (value : List ℕ) → MayWriteLeader p f change at value → ((m : Model) → step m o ≡ update_file m f (on_leader change)) → moves_of (read_as p) o ≡ one_move o → MakesMove p (Wrote at 2 value) (commits o) → CarriesOut p (value_writes at value) o
  leader_meets change o at value h does moves makes =
      let ss : List Sight = sights p in
      let here = leader_of_place ss f at h.sector in
      let is : get_or ss at hidden ≡ leads f here.readable here.lead = here.shows hidden in
      let l : Leader = here.lead in
      let hd = headed ss f at here.readable l (w.files f) is in
      let good : good_one (get_or ss at hidden) ≡ 1 = ap good_one is in
      let t0 : Tag = tag (sector_at p at).label in
      let shown : tag_sight t0 (sector_at p at).value ≡ leads f here.readable l = sym (tag_is p at good) ∙ is in
      let again : leads f here.readable l ≡ leads f (is_readable (leader_words (sector_at p at).value)) (leader_of f (sector_at p at).value) = sym shown ∙ other_leader_value t0 (sector_at p at).value (sector_at p at).value f here.readable l shown in
      let l_is : l ≡ leader_of f (sector_at p at).value = cc in
      let s : tag_sight t0 value ≡ leads f true (change l) = other_leader_value t0 (sector_at p at).value value f here.readable l shown ∙ (λ j. leads f (h.readable j) ((h.says ∙ ap change (sym l_is)) j)) in
      let ch = leader_changed ss f at l (change l) hd in
      let us : List Sight = set ss at (leads f true (change l)) in
      let lv = leaves p.shape ss us f l (change l) (together hd.pages) (together hd.pages) (on_leader change) ch file.no_directory file.no_descriptor refl w t in
      let shows : sights (after p (value_writes at value)) ≡ us = value_shows p at good value (leads f true (change l)) s in
      carries_out p (value_writes at value) o f (ap (steps reading (read_as p)) moves) (subst (SameBut f ss) (sym shows) ch.same) file.no_descriptor (record {
        obeys = subst (Obeys reading (read_as p) p (value_writes at value)) (sym moves) (value_obeys p at good (read_as p) (commits o) value (leads f true (change l)) s refl makes (lv.reads ∙ sym (does (read_as p))));
        whole = subst (WholeSights p.shape) (sym shows) lv.whole;
        tidy = subst TidySights (sym shows) lv.tidy;
      })

  pub title_law : (name : List ℕ) (at : ℕ) (value : List ℕ) → MayWriteLeader p f (titled name) at value → CarriesOut p (value_writes at value) (title f name)
  title_law name at value h = leader_meets (titled name) (title f name) at value h (λ m. refl) refl (record { part_is = refl; bears = h.sector })

  pub stamp_law : (moment : ℕ) (at : ℕ) (value : List ℕ) → MayWriteLeader p f (stamped moment) at value → CarriesOut p (value_writes at value) (stamp f moment)
  stamp_law moment at value h = leader_meets (stamped moment) (stamp f moment) at value h (λ m. refl) refl (record { part_is = refl; bears = h.sector })
