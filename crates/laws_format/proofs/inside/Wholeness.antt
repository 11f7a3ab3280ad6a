-- A formatted pack is whole, tidy, sound and clean, and is read as the model without files.
use Rattle.std.proofs.Common.{◌≡◌, ℕ, zero, suc, ◌+◌, ◌-◌, ◌≤◌, true, false, cond, List, length, refl, sym, ap, subst, ◌∙◌, arith, replicate}
use Rattle.std.proofs.lemmas.Bool.{le-leb}
use Rattle.laws_hint.specs.alto_words.specs.declared.fid.Fid.{Fid}
use Rattle.laws_hint.specs.alto_words.specs.Fid.{is_directory, serial_of, sys_dir, disk_descriptor}
use Rattle.laws_hint.specs.disk_records.specs.declared.shape.Shape.{Shape}
use Rattle.laws_hint.specs.disk_records.specs.Addresses.{pages_of}
use Rattle.laws_hint.specs.disk_records.specs.Words.{double, word}
use Rattle.laws_hint.specs.pack_model.specs.reading.Bytes.{bytes_of, words_of}
use Rattle.laws_hint.specs.pack_model.specs.reading.Files.{file_bytes, first, lives}
use Rattle.laws_hint.specs.pack_model.specs.reading.Sights.{Sight}
use Rattle.laws_hint.specs.pack_model.specs.reading.Sights.Sight.{free}
use Rattle.laws_hint.specs.pack_model.specs.reading.Slots.{SlotsReachEnd}
use Rattle.laws_hint.specs.pack_model.specs.reading.Model.{IsNamed, descriptor_words, good_sectors, last_serial, read_as, read_sights}
use Rattle.laws_hint.specs.pack_model.specs.states.Whole.{Fits, SaysShape, TidySights, WholeSights}
use Rattle.laws_hint.specs.pack_model.specs.states.Sound.{Clean, Sound, mark_clean, mark_of}
use Rattle.laws_hint.specs.pack_model.specs.sessions.Descriptor.{data_pages}
use Rattle.laws_hint.specs.pack_model.specs.sessions.Format.{formatted, free_after_format}
use Rattle.laws_hint.specs.pack_laws.proofs.Bytes.{length-bytes_of, words_of-bytes_of}
use Rattle.laws_format.specs.Empty.{empty_model}
use Rattle.laws_format.proofs.inside.Living.{by_living, its_read, no_stray, root_read, whole_file}
use Rattle.laws_format.proofs.inside.Pages.{its_bytes, its_text, pages_hold_text, pages_laid, text_many}
use Rattle.laws_format.proofs.inside.Reading.{files_are, named_by, root_slots, tidy_shown}
use Rattle.laws_format.proofs.inside.Shown.{later_shown, root_leader, shown}
use Rattle.laws_format.proofs.inside.Sighting.{formatted_sights, pages_few, used_few}

module _ (shape : Shape) (moment : ℕ) where
  -- what the sectors show
  abbrev pub ss : List Sight
  ss = shown moment (its_bytes shape) (data_pages shape) (free_after_format shape)

  -- ---- DiskDescriptor
  pub text_read : file_bytes ss disk_descriptor ≡ bytes_of (its_text shape)
  text_read = let few = pages_few shape in its_read moment (its_bytes shape) (data_pages shape) (free_after_format shape) (pages_laid shape) (omega arith) ∙ pages_hold_text shape

  pub words_read : descriptor_words ss ≡ its_text shape
  words_read = ap words_of text_read ∙ words_of-bytes_of (its_text shape)

  its_fits : Fits shape (file_bytes ss disk_descriptor)
  its_fits = subst (Fits shape) (sym text_read) (record {
    says = subst (SaysShape shape) (sym (words_of-bytes_of (its_text shape))) (record { disks = refl; cylinders = refl; heads = refl; sectors = refl; table = refl });
    size = length-bytes_of (its_text shape) ∙ text_many shape;
  })

  -- the last serial, and the mark
  pub last_is : last_serial (descriptor_words ss) ≡ 2
  last_is = let size = text_many shape in ap last_serial words_read ∙ ap (λ t. cond t (double (its_text shape) 4) 0) (le-leb 6 (length (its_text shape)) (omega arith))

  pub mark_is : mark_of ss ≡ mark_clean
  mark_is = ap (λ words. word words 6) words_read

  -- ---- states
  last_read : (read_sights shape ss).last ≡ 2
  unfolding read_sights
  last_read = last_is

  pub whole_shown : WholeSights shape ss
  unfolding first
  whole_shown = record {
    files = let few = pages_few shape in whole_file moment (its_bytes shape) (data_pages shape) (free_after_format shape) (pages_laid shape) (omega arith);
    used = no_stray moment (its_bytes shape) (data_pages shape) (free_after_format shape);
    directories = λ d is dir. by_living moment (its_bytes shape) (data_pages shape) (free_after_format shape) d (SlotsReachEnd (file_bytes ss d)) is
        (λ e. subst (λ g. SlotsReachEnd (file_bytes ss g)) (sym e) (subst SlotsReachEnd (sym (root_read moment (its_bytes shape) (data_pages shape) (free_after_format shape))) root_slots))
        (λ e. let none : is_directory d ≡ false = ap is_directory e in absurd cc);
    root = (root_leader moment, refl);
    root_named = named_by moment (its_bytes shape) (data_pages shape) (free_after_format shape) shape sys_dir refl;
    descriptor_named = named_by moment (its_bytes shape) (data_pages shape) (free_after_format shape) shape disk_descriptor refl;
    descriptor_lives = refl;
    descriptor_fits = its_fits;
    last = λ f is. by_living moment (its_bytes shape) (data_pages shape) (free_after_format shape) f (serial_of f ≤ (read_sights shape ss).last) is
        (λ e. let s : serial_of f ≡ 1 = ap serial_of e in let l = last_read in omega arith)
        (λ e. let s : serial_of f ≡ 2 = ap serial_of e in let l = last_read in omega arith);
  }

  named_shown : (f : Fid) → lives ss f ≡ true → IsNamed (read_sights shape ss) f
  named_shown f is = by_living moment (its_bytes shape) (data_pages shape) (free_after_format shape) f (IsNamed (read_sights shape ss) f) is
      (λ e. subst (IsNamed (read_sights shape ss)) (sym e) (named_by moment (its_bytes shape) (data_pages shape) (free_after_format shape) shape sys_dir refl))
      (λ e. subst (IsNamed (read_sights shape ss)) (sym e) (named_by moment (its_bytes shape) (data_pages shape) (free_after_format shape) shape disk_descriptor refl))

  its_lives : lives ss disk_descriptor ≡ true
  unfolding first
  its_lives = refl

  -- ---- the number of good sectors
  free_good : (n : ℕ) → good_sectors (replicate n free) ≡ n
  free_good zero = refl
  free_good (suc n) = let e = free_good n in omega arith

  later_good : (b : ℕ → List ℕ) (n k frees : ℕ) → good_sectors (later_shown b n k frees) ≡ k + frees
  later_good b n zero frees = let e = free_good frees in omega arith
  later_good b n (suc k) frees = let e = later_good b (suc n) k frees in omega arith

  good_is : good_sectors ss ≡ pages_of shape - 1
  good_is =
      let e = later_good (its_bytes shape) 0 (data_pages shape) (free_after_format shape) in
      let used = used_few shape in
      omega arith

  pub read_shown : read_sights shape ss ≡ empty_model shape moment
  unfolding read_sights
  read_shown = λ i. record { shape = shape; good = good_is i; last = last_is i; files = files_are moment (its_bytes shape) (data_pages shape) (free_after_format shape) shape i }

  -- ---- the pack
  module _ (number : ℕ) where
    pub sound : Sound (formatted shape number moment)
    sound = record {
      whole = subst (WholeSights shape) (sym (formatted_sights shape number moment)) whole_shown;
      tidy = subst TidySights (sym (formatted_sights shape number moment)) (tidy_shown moment (its_bytes shape) (data_pages shape) (free_after_format shape));
      named = subst (λ s. (f : Fid) → lives s f ≡ true → IsNamed (read_sights shape s) f) (sym (formatted_sights shape number moment)) named_shown;
    }

    pub clean : Clean (formatted shape number moment)
    clean = record {
      lives = ap (λ s. lives s disk_descriptor) (formatted_sights shape number moment) ∙ its_lives;
      mark = ap mark_of (formatted_sights shape number moment) ∙ mark_is;
    }

    pub reads_empty : read_as (formatted shape number moment) ≡ empty_model shape moment
    reads_empty = ap (read_sights shape) (formatted_sights shape number moment) ∙ read_shown
