use Rattle.dir_slots.proofs.Turns.{word_kept, word_passed}
use Rattle.dir_slots.proofs.walk.hold.Goals as goal

pub returns-then-held-lt-MAX_ENTRY_WORDS : goal.returns-then-held-lt-MAX_ENTRY_WORDS
returns-then-held-lt-MAX_ENTRY_WORDS c = λ hand same is. word_kept c.args.front.now hand c.args.held c.args.word c.told-front same is c.if-held-lt-MAX_ENTRY_WORDS.true

pub returns-else-held-lt-MAX_ENTRY_WORDS : goal.returns-else-held-lt-MAX_ENTRY_WORDS
returns-else-held-lt-MAX_ENTRY_WORDS c = λ hand same is. word_passed c.args.front.now hand c.args.held c.args.word c.told-front same is c.if-held-lt-MAX_ENTRY_WORDS.false
