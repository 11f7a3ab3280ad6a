use Rattle.scavenger.proofs.refusing.count_widens.Goals as goal

pub returns : goal.returns
returns c = λ p sized names. c.widens_parted.ensures p sized names (c.in_ok-parted.ensures p names)
