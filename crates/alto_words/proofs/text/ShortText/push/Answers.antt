use Rattle.alto_words.proofs.Texts.{HoldsText-push}
use Rattle.alto_words.proofs.text.ShortText.push.Goals as goal

pub invariant_of-self : goal.invariant_of-self
invariant_of-self c =
    HoldsText-push c.args.self.now c.args.part.now c.copy_from_slice.new.self c.self.invariant c.self.view_is c.requires c.copy_from_slice.ensures.after
