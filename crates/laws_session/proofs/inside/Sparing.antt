-- Operations of lines that spare a file: it keeps its bytes.
use Rattle.std.proofs.Common.{◌≡◌, ℕ, ◌==◌, ◌||◌, Bool, true, false, cond, nat_le, List, [], ◌∷◌, ◌++◌, ◌∙◌, ap}
use Rattle.laws_line.specs.alto_words.specs.declared.fid.Fid.{Fid}
use Rattle.laws_line.specs.alto_words.specs.Fid.{is_fid, sys_dir}
use Rattle.laws_line.specs.pack_model.specs.operations.Committing.{length_of}
use Rattle.laws_line.specs.pack_model.specs.operations.Step.{Operation, room_widening, spare_widening}
use Rattle.laws_line.specs.pack_model.specs.operations.Step.Operation.{cut, drop_file, enter, grow, leave, make, put, stamp, title, widen}
use Rattle.laws_line.specs.pack_model.specs.reading.Model.{Model}
use Rattle.session_model.specs.exec_words.specs.declared.line.Path.{Path}
use Rattle.session_model.specs.exec_words.specs.declared.line.Target.TheVariants.{ByPath}
use Rattle.session_model.specs.Effects.{appended_ops, copied_ops, cut_ops, new_file_ops, rename_ops, widenings}
use Rattle.session_model.specs.Finding.{name_given, own_name, the_dir, the_file}
use Rattle.session_model.specs.Streams.{grows}
use Rattle.laws_session.proofs.inside.Flushing.{OfFile, of_grows}
use Rattle.laws_session.proofs.inside.Holding.{SpareAll}

-- ---- operations one after another
pub spare_both : (f : Fid) (a b : List Operation) → SpareAll f a → SpareAll f b → SpareAll f (a ++ b)
spare_both f [] b x y = y
spare_both f (o ∷ a) b x y = (x.0, spare_both f a b x.1 y)

-- those on another file alone
pub spare_of : (f g : Fid) (ops : List Operation) → is_fid f g ≡ false → OfFile g ops → SpareAll f ops
spare_of f g [] other h = tt
spare_of f g (put k offset new ∷ ops) other h = (ap (is_fid f) h.0 ∙ other, spare_of f g ops other h.1)
spare_of f g (grow k new ∷ ops) other h = (ap (is_fid f) h.0 ∙ other, spare_of f g ops other h.1)
spare_of f g (stamp k moment ∷ ops) other h = (tt, spare_of f g ops other h.1)
spare_of f g (make k name moment ∷ ops) other h = absurd h
spare_of f g (cut k n ∷ ops) other h = absurd h
spare_of f g (title k name ∷ ops) other h = absurd h
spare_of f g (drop_file k ∷ ops) other h = absurd h
spare_of f g (leave d name ∷ ops) other h = absurd h
spare_of f g (enter d name k ∷ ops) other h = absurd h
spare_of f g (widen d ∷ ops) other h = absurd h

pub spare_appended : (f g : Fid) (bytes : List ℕ) (moment : ℕ) → is_fid f g ≡ false → SpareAll f (appended_ops g bytes moment)
spare_appended f g bytes moment other = spare_both f (grows g bytes) (stamp g moment ∷ []) (spare_of f g (grows g bytes) other (of_grows g bytes)) (tt, tt)

pub spare_cut : (m : Model) (f g : Fid) (n moment : ℕ) → is_fid f g ≡ false → SpareAll f (cut_ops m g n moment)
spare_cut m f g n moment other = by (n == length_of m g)
  where
    by : (b : Bool) → SpareAll f (cond b [] (cut g n ∷ []) ++ stamp g moment ∷ [])
    by true = (tt, tt)
    by false = (other, (tt, tt))

spare_widenings : (m : Model) (d : Fid) (name : List ℕ) (f : Fid) → SpareAll f (widenings m d name)
spare_widenings m d name f = spare_both f (spare_widening m) (room_widening m d name) (spare (nat_le 26 _)) (room (is_fid d sys_dir || nat_le _ _))
  where
    spare : (b : Bool) → SpareAll f (cond b [] (widen sys_dir ∷ []))
    spare true = tt
    spare false = (tt, tt)

    room : (b : Bool) → SpareAll f (cond b [] (widen d ∷ []))
    room true = tt
    room false = (tt, tt)

pub spare_new : (m : Model) (d : Fid) (name : List ℕ) (g : Fid) (moment : ℕ) (f : Fid) → is_fid f g ≡ false → SpareAll f (new_file_ops m d name g moment)
spare_new m d name g moment f other = spare_both f (widenings m d name) (make g name moment ∷ enter d name g ∷ []) (spare_widenings m d name f) (other, (tt, tt))

pub spare_copied : (f g : Fid) (bytes : List ℕ) (moment : ℕ) → is_fid f g ≡ false → SpareAll f (copied_ops g bytes moment)
spare_copied f g [] moment other = tt
spare_copied f g (b ∷ bytes) moment other = spare_appended f g (b ∷ bytes) moment other

pub spare_rename : (m : Model) (old new : Path) (f : Fid) → SpareAll f (rename_ops m old new)
spare_rename m old new f =
    spare_both f (widenings m (the_dir m new) (name_given m new))
    (title (the_file m (ByPath old)) (name_given m new) ∷ leave (the_dir m old) (own_name m old) ∷ enter (the_dir m new) (name_given m new) (the_file m (ByPath old)) ∷ [])
    (spare_widenings m (the_dir m new) (name_given m new) f) (tt, (tt, (tt, tt)))
