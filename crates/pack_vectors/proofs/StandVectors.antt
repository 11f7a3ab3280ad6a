-- The formatted pack stands for its model as a cut does, and is whole by the sentences; what a session keeps of it; record writes that
-- commit.
use Rattle.std.proofs.Common.{◌≡◌, ◌⊎◌, ℕ, zero, suc, ◌+◌, Bool, true, cond, List, [], ◌∷◌, refl, sym, ap, subst, ◌∙◌, arith, inl, inr}
use Rattle.std.specs.Prelude.{◌<◌, codes, get_or, slice_get}
use Rattle.pack_laws.specs.alto_words.specs.declared.fid.Fid.{Fid}
use Rattle.pack_laws.specs.alto_words.specs.Fid.{is_fid, sys_dir, disk_descriptor}
use Rattle.pack_laws.specs.alto_words.specs.Names.{is_stored_name}
use Rattle.pack_laws.specs.disk_records.specs.declared.records.Event.TheVariants.{Wrote}
use Rattle.pack_laws.specs.disk_records.specs.Addresses.{real_of}
use Rattle.pack_laws.specs.disk_records.specs.Labels.{in_range, is_free}
use Rattle.pack_laws.specs.disk_records.specs.Commands.{ones}
use Rattle.pack_laws.specs.pack_model.specs.reading.Leaders.{Leader, leader_of, leader_name, is_readable}
use Rattle.pack_laws.specs.pack_model.specs.reading.Sights.{Sight, sight, sights_from}
use Rattle.pack_laws.specs.pack_model.specs.reading.Sights.Sight.{hidden, free, stray, leads, holds}
use Rattle.pack_laws.specs.pack_model.specs.reading.Files.{first, joined, most_pages, file_bytes, carries_page, place}
use Rattle.pack_laws.specs.pack_model.specs.reading.Slots.{slots_after, slot_at, is_entry}
use Rattle.pack_laws.specs.pack_model.specs.reading.Model.{read_sights, read_as}
use Rattle.pack_laws.specs.pack_model.specs.states.InUse.{in_use, is_good}
use Rattle.pack_laws.specs.pack_model.specs.states.Sentences.{IsUsed, EachOnce, HasLastPage, WholeBySentences, IsWholeBySentences}
use Rattle.pack_laws.specs.pack_model.specs.states.Sound.{mark_of}
use Rattle.pack_laws.specs.pack_model.specs.operations.PageWords.{leader_label}
use Rattle.pack_laws.specs.pack_model.specs.sessions.Descriptor.{DescriptorFits}
use Rattle.pack_laws.specs.pack_model.specs.operations.Step.Operation.{make, title, put, drop_file}
use Rattle.pack_laws.specs.pack_model.specs.operations.Operations.Move.{commits}
use Rattle.pack_laws.specs.pack_model.specs.operations.Committing.{MakesMove}
use Rattle.pack_laws.specs.pack_model.specs.sessions.Meanings.{Mendable, OperationCut, SessionCut}
use Rattle.pack_laws.proofs.Keys.{same_fid}
use Rattle.pack_laws.proofs.Placing.{both_test}
use Rattle.pack_laws.proofs.Uses.{used_is}
use Rattle.pack_vectors.proofs.PackVectors.{formatted_sights}
use Rattle.pack_vectors.proofs.FormattedFiles.{fresh, root_leader, its_leader, root_bytes, its_bytes, each, by_living}
use Rattle.pack_vectors.proofs.FormattedModel.{its_fits, last_is}
use Rattle.pack_vectors.proofs.FormattedMended.{scavengeable_fresh}
use Rattle.pack_vectors.proofs.StateVectors.{whole_fresh, sound_fresh, clean_sights}
use Rattle.pack_vectors.proofs.Shapes.{small}
use Rattle.pack_vectors.proofs.SmallPacks.{made_6, made_7, file_3, formatted_pack}

-- ---- cuts: it stands for the model that it is read as, the Scavenger takes it, and it is clean as it is sound
mendable_fresh : Mendable formatted_pack
mendable_fresh = record { scavengeable = scavengeable_fresh; clean_is_sound = λ clean. sound_fresh }

operation_fresh : OperationCut (read_as formatted_pack) formatted_pack
operation_fresh = record { views = refl; mendable = mendable_fresh }

session_fresh : SessionCut (read_as formatted_pack) formatted_pack
session_fresh = record { shows = refl; mendable = mendable_fresh }

-- ---- what a session keeps of DiskDescriptor: last serial 2, the clean mark, and its one data page in sector 4
its_page : (n : ℕ) → n < 1 → place fresh disk_descriptor (n + 1) ≡ slice_get (4 ∷ []) n
unfolding first
its_page zero below = refl
its_page (suc n) below = absurd (omega arith)

fits_fresh : DescriptorFits formatted_pack small 2 1 (4 ∷ [])
fits_fresh = record {
  shape_is = refl;
  last_is = subst (λ ss. (read_sights small ss).last ≡ 2) (sym formatted_sights) last_is;
  mark_is = subst (λ ss. mark_of ss ≡ 1) (sym formatted_sights) (clean_sights.1);
  size = refl;
  bears = λ n below. ap (λ ss. place ss disk_descriptor (n + 1)) formatted_sights ∙ its_page n below;
}

-- ---- whole, sentence by sentence
used_fresh : (i : ℕ) → IsUsed small fresh i
unfolding first joined most_pages file_bytes slots_after slot_at is_entry is_stored_name
used_fresh = each (λ i s. is_good s ≡ true → (s ≡ free) ⊎ (in_use small fresh (i, s) ≡ true))
    (λ good. absurd cc)
    (λ good. inr (used_is small fresh (1, get_or fresh 1 hidden)))
    (λ good. inr (used_is small fresh (2, get_or fresh 2 hidden)))
    (λ good. inr (used_is small fresh (3, get_or fresh 3 hidden)))
    (λ good. inr (used_is small fresh (4, get_or fresh 4 hidden)))
    (λ i good. inl refl)
    (λ i good. absurd cc)

-- a page of SysDir is as many sectors after sector 1 as its number says, and one of DiskDescriptor after sector 3
page_is : (f : Fid) (n i : ℕ) → carries_page f n (get_or fresh i hidden) ≡ true → i ≡ cond (is_fid f sys_dir) 1 3 + n
page_is f n = each (λ i s. carries_page f n s ≡ true → i ≡ cond (is_fid f sys_dir) 1 3 + n)
    (λ e. absurd cc)
    (λ e. leader_is n 1 sys_dir root_leader refl e)
    (λ e. data_is n 2 sys_dir root_bytes refl e)
    (λ e. leader_is n 3 disk_descriptor its_leader refl e)
    (λ e. data_is n 4 disk_descriptor its_bytes refl e)
    (λ i e. absurd cc)
    (λ i e. absurd cc)
  where
    leader_is : (n i : ℕ) (g : Fid) (l : Leader) → i ≡ cond (is_fid g sys_dir) 1 3 → carries_page f n (leads g true l) ≡ true → i ≡ cond (is_fid f sys_dir) 1 3 + n
    leader_is zero i g l at e = let here : i ≡ cond (is_fid f sys_dir) 1 3 = at ∙ ap (λ h. cond (is_fid h sys_dir) 1 3) (sym (same_fid f g e)) in omega arith
    leader_is (suc n) i g l at e = absurd cc

    data_is : (n i : ℕ) (g : Fid) (bytes : List ℕ) → i ≡ cond (is_fid g sys_dir) 1 3 + 1 → carries_page f n (holds g 0 bytes) ≡ true → i ≡ cond (is_fid f sys_dir) 1 3 + n
    data_is zero i g bytes at e = absurd cc
    data_is (suc n) i g bytes at e = let both = both_test f g n 0 e in at ∙ (λ j. cond (is_fid (both.0 j) sys_dir) 1 3 + suc (both.1 j))

once_fresh : EachOnce fresh
once_fresh f n i j first second = page_is f n i first ∙ sym (page_is f n j second)

ends_fresh : HasLastPage fresh sys_dir × HasLastPage fresh disk_descriptor
unfolding first joined most_pages file_bytes
ends_fresh = (refl, refl)

abbrev flag_in : Sight → Bool
flag_in hidden = true
flag_in free = true
flag_in stray = true
flag_in (leads f readable l) = readable
flag_in (holds f n bytes) = true

flags_fresh : (i : ℕ) → flag_in (get_or fresh i hidden) ≡ true
flags_fresh = each (λ i s. flag_in s ≡ true) refl refl refl refl refl (λ i. refl) (λ i. refl)

sentences_fresh : WholeBySentences small fresh
sentences_fresh = record {
  pages = record {
    used = used_fresh;
    once = once_fresh;
    last_pages = λ f is. by_living f (HasLastPage fresh f) is (λ e. subst (HasLastPage fresh) (sym e) ends_fresh.0) (λ e. subst (HasLastPage fresh) (sym e) ends_fresh.1);
    readable = λ f is at readable l place shows. ap flag_in (sym shows) ∙ flags_fresh at;
    directories = whole_fresh.directories;
    root = (root_leader, true, refl);
    descriptor_lives = whole_fresh.descriptor_lives;
    descriptor_size = its_fits.size;
  };
  root_named = whole_fresh.root_named;
  descriptor_named = whole_fresh.descriptor_named;
  descriptor_says = its_fits.says;
  last = whole_fresh.last;
}

whole_by_sentences : IsWholeBySentences formatted_pack
whole_by_sentences = subst (WholeBySentences small) (sym formatted_sights) sentences_fresh

-- ---- record writes that commit
committing :
    MakesMove made_6 (Wrote 5 1 (leader_label small file_3 6)) (commits (make file_3 (codes "A.") 1000))
    × MakesMove made_7 (Wrote 5 2 []) (commits (title file_3 (codes "B.")))
    × MakesMove made_7 (Wrote 6 2 []) (commits (put file_3 0 (codes "B")))
    × MakesMove made_7 (Wrote 5 1 (ones 8)) (commits (drop_file file_3))
unfolding sights_from sight real_of in_range is_free leader_of leader_name is_readable is_stored_name first
committing = (
  record { part_is = refl; bears = refl },
  record { part_is = refl; bears = refl },
  record { part_is = refl; bears = refl },
  record { part_is = refl; bears = refl },
)
