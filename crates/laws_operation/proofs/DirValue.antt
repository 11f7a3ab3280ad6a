-- Words are written in one page of a directory of a whole pack.
use Rattle.std.proofs.Common.{List, Some, ap, get_or, length, refl, set, subst, sym, true, ℕ, ◌*◌, ◌++◌, ◌+◌, ◌/◌, ◌∙◌, ◌∷◌, ◌≡◌}
use Rattle.std.proofs.lemmas.List.{get_or-set_other, length-append}
use Rattle.std.specs.FinMap.{entries, get, insert}
use Rattle.std.specs.List.{list_any}
use Rattle.laws_contents.specs.alto_words.specs.Fid.{disk_descriptor, is_fid, is_system, sys_dir}
use Rattle.laws_contents.specs.alto_words.specs.declared.fid.Fid.{Fid}
use Rattle.laws_contents.specs.disk_records.specs.Packs.{Pack}
use Rattle.laws_contents.specs.pack_model.specs.reading.Bodies.{described}
use Rattle.laws_contents.specs.pack_model.specs.reading.Bytes.{put_at, words_of}
use Rattle.laws_contents.specs.pack_model.specs.reading.Files.{file_bytes, lives}
use Rattle.laws_contents.specs.pack_model.specs.reading.Leaders.{Leader}
use Rattle.laws_contents.specs.pack_model.specs.hints.Links.{dir_words}
use Rattle.laws_contents.specs.pack_model.specs.reading.Model.{IsNamed, read_as, read_sights}
use Rattle.laws_contents.specs.pack_model.specs.reading.Namings.{IsTidy, namings}
use Rattle.laws_contents.specs.pack_model.specs.reading.Sights.{sights}
use Rattle.laws_contents.specs.pack_model.specs.reading.Sights.Sight.{hidden, holds, leads}
use Rattle.laws_contents.specs.pack_model.specs.reading.Slots.{Item, Reads, SlotsReachEnd, all_words, slots}
use Rattle.laws_contents.specs.pack_model.specs.states.Whole.{Tidy, TidySights, Whole, WholeSights}
use Rattle.laws_contents.specs.pack_laws.proofs.Bytes.{length-put_at}
use Rattle.laws_contents.specs.laws_record.proofs.DirWords.{new_bytes, new_size, page_by_bytes, written_sights, written_words}
use Rattle.laws_contents.specs.laws_record.proofs.Entered.{directory}
use Rattle.laws_contents.specs.laws_record.proofs.Heads.{all_read, reads_all}
use Rattle.laws_contents.specs.laws_record.specs.DirLaws.{DirWrite, dir_written}
use Rattle.laws_operation.proofs.Changing.{Changed, Placed, page_changed, seat_of}
use Rattle.laws_operation.proofs.inside.Elsewhere.{SameBut}
use Rattle.laws_operation.proofs.inside.Evens.{even_by, even_half}
use Rattle.laws_operation.proofs.Lying.{together-append}
use Rattle.laws_operation.proofs.OneDirectory.{dir_get, dir_now, dir_tidy, dir_was, dir_whole, lives_as, whole_by}
use Rattle.laws_operation.specs.ByteLaws.{together}

module _ (p : Pack) (w : Whole p) (d : Fid) (word_at at : ℕ) (new : List ℕ) (h : DirWrite p d word_at at new) where
  -- what the sector shows
  is_here : get_or (sights p) at hidden ≡ holds d (2 * word_at / 512) (page_by_bytes p d word_at at new h).bytes
  is_here = (page_by_bytes p d word_at at new h).shows hidden

  -- where the page stands in its file
  pub spot_of : Placed (sights p) d (2 * word_at / 512) at (page_by_bytes p d word_at at new h).bytes
  spot_of = seat_of (sights p) d (2 * word_at / 512) at (page_by_bytes p d word_at at new h).bytes (w.files d) is_here

  -- the directory's leader
  abbrev pub dir_lead : Leader
  dir_lead = spot_of.lead

  -- what changes
  pub value_change : Changed (sights p) (set (sights p) at (holds d (2 * word_at / 512) (new_bytes p d word_at at new h))) d spot_of.lead spot_of.lead
      (together (spot_of.front ++ (at, (page_by_bytes p d word_at at new h).bytes) ∷ spot_of.later)) (together (spot_of.front ++ (at, new_bytes p d word_at at new h) ∷ spot_of.later))
  value_change = page_changed (sights p) d (2 * word_at / 512) at (page_by_bytes p d word_at at new h).bytes (new_bytes p d word_at at new h) spot_of is_here (new_size p d word_at at new h)

  -- as many bytes
  pub same_length : length (file_bytes (set (sights p) at (holds d (2 * word_at / 512) (new_bytes p d word_at at new h))) d) ≡ length (file_bytes (sights p) d)
  same_length = ap length value_change.since ∙ pages (new_bytes p d word_at at new h) ∙ ap (λ n. length (together spot_of.front) + (n + length (together spot_of.later))) (new_size p d word_at at new h) ∙ sym (pages (page_by_bytes p d word_at at new h).bytes) ∙ sym (ap length value_change.before)
    where
      pages : (b : List ℕ) → length (together (spot_of.front ++ (at, b) ∷ spot_of.later)) ≡ length (together spot_of.front) + (length b + length (together spot_of.later))
      pages b = ap length (together-append spot_of.front ((at, b) ∷ spot_of.later)) ∙ length-append (together spot_of.front) (b ++ together spot_of.later) ∙ ap (λ n. length (together spot_of.front) + n) (length-append b (together spot_of.later))

  -- every other file stays
  pub value_same : SameBut d (sights p) (sights (dir_written p word_at at new))
  value_same = subst (SameBut d (sights p)) (sym (written_sights p d word_at at new h)) value_change.same

  -- SysDir's leader stays in sector 1
  stays : (l : Leader) → get_or (sights p) 1 hidden ≡ leads sys_dir true l → get_or (set (sights p) at (holds d (2 * word_at / 512) (new_bytes p d word_at at new h))) 1 hidden ≡ leads sys_dir true l
  stays l e = get_or-set_other (sights p) at 1 (holds d (2 * word_at / 512) (new_bytes p d word_at at new h)) hidden (λ z. let c : holds d (2 * word_at / 512) (page_by_bytes p d word_at at new h).bytes ≡ leads sys_dir true l = sym is_here ∙ ap (λ n. get_or (sights p) n hidden) (sym z) ∙ e in absurd cc) ∙ e

  -- the words fill the same slots before
  filled_before : all_words (slots (dir_words p d)) ≡ length (dir_words p d)
  filled_before = let r = w.directories d h.lives h.directory in let x = all_read (dir_words p d) r.items r.reads in ap all_words x.0 ∙ x.1

  -- where slots come in the place of slots of as many words
  module _ (js : List Item) (now : slots (put_at word_at new (dir_words p d)) ≡ js) (sum : all_words js ≡ all_words (slots (dir_words p d))) where
    -- the words then
    words_now : words_of (file_bytes (set (sights p) at (holds d (2 * word_at / 512) (new_bytes p d word_at at new h))) d) ≡ put_at word_at new (dir_words p d)
    words_now = written_words p d word_at at new h

    -- slots reach the end
    reach : SlotsReachEnd (file_bytes (set (sights p) at (holds d (2 * word_at / 512) (new_bytes p d word_at at new h))) d)
    reach =
        let e = even_half (file_bytes (sights p) d) (w.directories d h.lives h.directory).even in
        let size : length (put_at word_at new (dir_words p d)) ≡ length (dir_words p d) = length-put_at word_at new (dir_words p d) h.within in
        record {
          even = even_by e.0 (file_bytes (set (sights p) at (holds d (2 * word_at / 512) (new_bytes p d word_at at new h))) d) (same_length ∙ e.1);
          items = js;
          reads = subst (λ ws. Reads ws js) (sym words_now) (reads_all js (put_at word_at new (dir_words p d)) now (sum ∙ filled_before ∙ sym size));
        }

    -- the slots then
    slots_then : slots (words_of (file_bytes (set (sights p) at (holds d (2 * word_at / 512) (new_bytes p d word_at at new h))) d)) ≡ js
    slots_then = ap slots words_now ∙ now

    -- the directory before
    pub dir_before : get (described (sights p)) d ≡ Some (directory dir_lead (slots (dir_words p d)))
    dir_before = dir_was p.shape (sights p) (set (sights p) at (holds d (2 * word_at / 512) (new_bytes p d word_at at new h))) d dir_lead value_change.same value_change.was value_change.now h.directory (slots (dir_words p d)) js refl slots_then

    -- the files then
    pub described_then : described (sights (dir_written p word_at at new)) ≡ insert (described (sights p)) d (directory dir_lead js)
    described_then = ap described (written_sights p d word_at at new h) ∙ dir_now p.shape (sights p) (set (sights p) at (holds d (2 * word_at / 512) (new_bytes p d word_at at new h))) d dir_lead value_change.same value_change.was value_change.now h.directory (slots (dir_words p d)) js refl slots_then

    -- the same files live
    pub lives_then : lives (sights (dir_written p word_at at new)) ≡ lives (sights p)
    lives_then = ap lives (written_sights p d word_at at new h) ∙ lives_as p.shape (sights p) (set (sights p) at (holds d (2 * word_at / 512) (new_bytes p d word_at at new h))) d dir_lead value_change.same value_change.was value_change.now h.directory

    -- whole again, where the system files are named
    pub value_whole_by : IsNamed (read_as (dir_written p word_at at new)) sys_dir → IsNamed (read_as (dir_written p word_at at new)) disk_descriptor → Whole (dir_written p word_at at new)
    value_whole_by one two =
        let shown = written_sights p d word_at at new h in
        subst (WholeSights p.shape) (sym shown) (whole_by p.shape (sights p) (set (sights p) at (holds d (2 * word_at / 512) (new_bytes p d word_at at new h))) d dir_lead value_change.same value_change.was value_change.now h.directory w value_change.whole reach stays
        (subst (λ us. IsNamed (read_sights p.shape us) sys_dir) shown one) (subst (λ us. IsNamed (read_sights p.shape us) disk_descriptor) shown two))

    module _ (t : Tidy p) (still : IsTidy (lives (sights p)) (insert (described (sights p)) d (directory dir_lead js))) where
      -- tidy again
      pub value_tidy : Tidy (dir_written p word_at at new)
      value_tidy = subst TidySights (sym (written_sights p d word_at at new h)) (dir_tidy p.shape (sights p) (set (sights p) at (holds d (2 * word_at / 512) (new_bytes p d word_at at new h))) d dir_lead value_change.same value_change.was value_change.now h.directory (slots (dir_words p d)) js refl slots_then t still)

      -- whole again
      pub value_whole : ((g : Fid) → is_system g ≡ true → list_any (λ n. is_fid n.fid g) (namings (entries (insert (described (sights p)) d (directory dir_lead js)))) ≡ list_any (λ n. is_fid n.fid g) (namings (entries (described (sights p))))) → Whole (dir_written p word_at at new)
      value_whole named = subst (WholeSights p.shape) (sym (written_sights p d word_at at new h)) (dir_whole p.shape (sights p) (set (sights p) at (holds d (2 * word_at / 512) (new_bytes p d word_at at new h))) d dir_lead value_change.same value_change.was value_change.now h.directory (slots (dir_words p d)) js refl slots_then t still w value_change.whole reach stays named)

      -- the directory as it is read
      pub dir_read : get (read_as p).files d ≡ Some (directory dir_lead (slots (dir_words p d)))
      dir_read = dir_get p.shape (sights p) (set (sights p) at (holds d (2 * word_at / 512) (new_bytes p d word_at at new h))) d dir_lead value_change.same value_change.was value_change.now h.directory (slots (dir_words p d)) js refl slots_then t still
