use Rattle.std.proofs.Common.{length, arith}
use Rattle.code.proofs.Singles.{kept_beyond}
use Rattle.code.proofs.sizes.note_property.Goals as goal

pub returns-then-number-ge-PROPERTY_NUMBERS : goal.returns-then-number-ge-PROPERTY_NUMBERS
returns-then-number-ge-PROPERTY_NUMBERS c =
    kept_beyond c.args.singles.now c.args.number (length c.args.words.now) (omega arith)
