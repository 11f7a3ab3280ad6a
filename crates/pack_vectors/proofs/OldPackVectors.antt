-- The pack that formatting writes was sound when names had no versions.
use Rattle.std.proofs.Common.{◌≡◌, ◌≤◌, true, false, [], ◌∷◌, ◌++◌, refl, sym, ap, subst, ◌∙◌, arith}
use Rattle.pack_laws.specs.alto_words.specs.declared.fid.Fid.{Fid}
use Rattle.pack_laws.specs.alto_words.specs.Fid.{is_directory, serial_of, sys_dir, disk_descriptor}
use Rattle.pack_laws.specs.alto_words.specs.Names.{is_bare_name, is_stored_name}
use Rattle.pack_laws.specs.alto_words.proofs.Versions.{is_stored_name-bare}
use Rattle.pack_laws.specs.disk_records.specs.Addresses.{real_of}
use Rattle.pack_laws.specs.disk_records.specs.Labels.{in_range, is_free}
use Rattle.pack_laws.specs.pack_model.specs.reading.Files.{file_bytes, lives}
use Rattle.pack_laws.specs.pack_model.specs.reading.Slots.Item.{space, entry}
use Rattle.pack_laws.specs.pack_model.specs.reading.SlotWords.{entry_words, space_words}
use Rattle.pack_laws.specs.pack_model.specs.reading.Bodies.{described}
use Rattle.pack_laws.specs.pack_model.specs.reading.Namings.{sys_dir_name, descriptor_name, IsTidy}
use Rattle.pack_laws.specs.pack_model.specs.reading.Model.{IsNamed, read_sights}
use Rattle.pack_laws.specs.pack_model.specs.sessions.Format.{formatted}
use Rattle.pack_laws.specs.pack_model.specs.reading.OtherNames.{sights_by, described_by, read_sights_by, SlotsReachEndBy, WholeSightsBy, SoundBy}
use Rattle.pack_laws.specs.pack_model.specs.reading.OtherNames.ReadsBy.{none, next}
use Rattle.pack_laws.proofs.OwnRule.{own_described, own_model}
use Rattle.pack_laws.proofs.WiderRule.{same_described, same_model}
use Rattle.pack_vectors.proofs.FormattedFiles.{root_bytes, fresh, whole_file, by_living}
use Rattle.pack_vectors.proofs.FormattedModel.{root_is_read, root_slots, tidy_fresh}
use Rattle.pack_vectors.proofs.PackVectors.{formatted_sights}
use Rattle.pack_vectors.proofs.Shapes.{small}
use Rattle.pack_vectors.proofs.StateVectors.{whole_fresh, sound_fresh}

-- ---- SysDir
root_by : SlotsReachEndBy is_bare_name root_bytes
root_by = record {
  even = root_slots.even;
  items = entry sys_dir sys_dir_name ∷ entry disk_descriptor descriptor_name ∷ space 231 ∷ [];
  reads =
      next {w = entry_words sys_dir 1 sys_dir_name} {rest = entry_words disk_descriptor 3 descriptor_name ++ space_words 231} refl (record { some = omega arith; most = omega arith; first = refl; reads = refl; size = refl })
      (next {w = entry_words disk_descriptor 3 descriptor_name} {rest = space_words 231} refl (record { some = omega arith; most = omega arith; first = refl; reads = refl; size = refl })
      (next {w = space_words 231} {rest = []} refl (record { some = omega arith; most = omega arith; first = refl; reads = refl; size = refl })
      none));
}

directories_by : (d : Fid) → lives fresh d ≡ true → is_directory d ≡ true → SlotsReachEndBy is_bare_name (file_bytes fresh d)
directories_by d is dir = by_living d (SlotsReachEndBy is_bare_name (file_bytes fresh d)) is
    (λ e. subst (λ g. SlotsReachEndBy is_bare_name (file_bytes fresh g)) (sym e) (subst (SlotsReachEndBy is_bare_name) (sym root_is_read) root_by))
    (λ e. let none : is_directory d ≡ false = ap is_directory e in absurd cc)

-- ---- the pack
described_as : described_by is_bare_name fresh ≡ described fresh
described_as = same_described is_bare_name is_stored_name is_stored_name-bare fresh directories_by ∙ own_described fresh

read_as : read_sights_by is_bare_name small fresh ≡ read_sights small fresh
read_as = same_model is_bare_name is_stored_name is_stored_name-bare fresh directories_by small ∙ own_model small fresh

named_by_old : (f : Fid) → IsNamed (read_sights small fresh) f → IsNamed (read_sights_by is_bare_name small fresh) f
named_by_old f is = subst (λ m. IsNamed m f) (sym read_as) is

whole_by : WholeSightsBy is_bare_name small fresh
whole_by = record {
  files = whole_file;
  used = whole_fresh.used;
  directories = directories_by;
  root = whole_fresh.root;
  root_named = named_by_old sys_dir whole_fresh.root_named;
  descriptor_named = named_by_old disk_descriptor whole_fresh.descriptor_named;
  descriptor_lives = whole_fresh.descriptor_lives;
  descriptor_fits = whole_fresh.descriptor_fits;
  last = λ f is. subst (λ m. serial_of f ≤ m.last) (sym read_as) (whole_fresh.last f is);
}

named_fresh : (f : Fid) → lives fresh f ≡ true → IsNamed (read_sights small fresh) f
named_fresh = subst (λ ss. (f : Fid) → lives ss f ≡ true → IsNamed (read_sights small ss) f) formatted_sights sound_fresh.named

shown_as : sights_by is_bare_name (formatted small 1 1000) ≡ fresh
unfolding real_of in_range is_free
shown_as = refl

sound_by : SoundBy is_bare_name (formatted small 1 1000)
sound_by = record {
  whole = subst (WholeSightsBy is_bare_name small) (sym shown_as) whole_by;
  tidy = subst (λ ss. IsTidy (lives ss) (described_by is_bare_name ss)) (sym shown_as) (subst (IsTidy (lives fresh)) (sym described_as) tidy_fresh);
  named = subst (λ ss. (f : Fid) → lives ss f ≡ true → IsNamed (read_sights_by is_bare_name small ss) f) (sym shown_as) (λ f is. named_by_old f (named_fresh f is));
}
