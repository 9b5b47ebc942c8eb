use Rattle.std.proofs.Common.{arith}
use Rattle.journal.proofs.Pages.{page_len_is}
use Rattle.journal.proofs.record.page_size.Goals as goal

pub returns-then-left-lt-PAGE-clause-result : goal.returns-then-left-lt-PAGE-clause-result
returns-then-left-lt-PAGE-clause-result c = omega (arith, page_len_is c.args.len c.args.page)

pub returns-else-left-lt-PAGE-clause-result : goal.returns-else-left-lt-PAGE-clause-result
returns-else-left-lt-PAGE-clause-result c = omega (arith, page_len_is c.args.len c.args.page)
