use Rattle.std.proofs.Common.{◌++◌, ◌∷◌, [], refl, sym, ap, ◌∙◌, subst}
use Rattle.alto_words.specs.Fid.{sys_dir}
use Rattle.dir_slots.specs.Items.{item_of}
use Rattle.kept_names.proofs.Tests.{fid_eq}
use Rattle.scav_names.specs.Rooms.{HasSlots}
use Rattle.scav_names.proofs.Cataloguing.{TakesRoom, elsewhere, entry_taken, free_taken, in_root}
use Rattle.scav_names.proofs.catalogue.Catalogue.take.Goals as goal
use Rattle.scav_names.proofs.catalogue.Catalogue.take.Goals.{then-eq+in_ok-push, else-eq}

pub returns-in_default : goal.returns-in_default
returns-in_default c =
    let room : TakesRoom c.args.dir (item_of c.args.met.now.slot) c.args.self.now c.if-eq.self = elim c.if-eq.branch [
      | then-eq+in_ok-push w ↦ record {
        living = ap (λ x. x.living) w.self-is;
        entries_are = ap (λ x. x.entries) w.self-is;
        pages = ap (λ x. x.root_pages) w.self-is;
        rooms = in_root c.args.dir _ c.args.self.now c.if-eq.self (fid_eq c.args.dir sys_dir ∙ sym c.eq.ensures ∙ w.if-eq.true) (λ is has few. subst (λ x. HasSlots x.rooms (is ++ item_of c.args.met.now.slot ∷ [])) (sym w.self-is) (w.in_ok-push.ensures.slots is has few));
      }
      | else-eq w ↦ record {
        living = ap (λ x. x.living) w.self-is;
        entries_are = ap (λ x. x.entries) w.self-is;
        pages = ap (λ x. x.root_pages) w.self-is;
        rooms = elsewhere c.args.dir _ c.args.self.now c.if-eq.self (fid_eq c.args.dir sys_dir ∙ sym c.eq.ensures ∙ w.if-eq.false) (ap (λ x. x.rooms) w.self-is);
      }
    ] in
    free_taken c.args.dir c.args.met.now c.args.self.now c.if-eq.self c.in_default.not-Entry room

pub returns : goal.returns
returns c =
    let room : TakesRoom c.args.dir (item_of c.args.met.now.slot) c.args.self.now c.if-eq.self = elim c.if-eq.branch [
      | then-eq+in_ok-push w ↦ record {
        living = ap (λ x. x.living) w.self-is;
        entries_are = ap (λ x. x.entries) w.self-is;
        pages = ap (λ x. x.root_pages) w.self-is;
        rooms = in_root c.args.dir _ c.args.self.now c.if-eq.self (fid_eq c.args.dir sys_dir ∙ sym c.eq.ensures ∙ w.if-eq.true) (λ is has few. subst (λ x. HasSlots x.rooms (is ++ item_of c.args.met.now.slot ∷ [])) (sym w.self-is) (w.in_ok-push.ensures.slots is has few));
      }
      | else-eq w ↦ record {
        living = ap (λ x. x.living) w.self-is;
        entries_are = ap (λ x. x.entries) w.self-is;
        pages = ap (λ x. x.root_pages) w.self-is;
        rooms = elsewhere c.args.dir _ c.args.self.now c.if-eq.self (fid_eq c.args.dir sys_dir ∙ sym c.eq.ensures ∙ w.if-eq.false) (ap (λ x. x.rooms) w.self-is);
      }
    ] in
    entry_taken c.args.dir c.args.met.now c.args.self.now c.if-eq.self _ c.in-Entry.fid c.in-Entry.leader_at c.in-Entry.name c.in-Entry.is room refl (cc (c.in_ok-push-2.ensures.items, c.as_vec.ensures.value)) refl refl
