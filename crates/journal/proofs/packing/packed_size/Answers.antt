use Rattle.std.proofs.Common.{arith}
use Rattle.journal.proofs.Packed.{packed_len_bytes, packed_len_words}
use Rattle.journal.proofs.packing.packed_size.Goals as goal

pub returns-then-page-lt-WORD_PAGES : goal.returns-then-page-lt-WORD_PAGES
returns-then-page-lt-WORD_PAGES c = omega (arith, packed_len_words c.args.page c.args.size (omega arith))

pub returns-else-page-lt-WORD_PAGES : goal.returns-else-page-lt-WORD_PAGES
returns-else-page-lt-WORD_PAGES c = omega (arith, packed_len_bytes c.args.page c.args.size (omega arith))
