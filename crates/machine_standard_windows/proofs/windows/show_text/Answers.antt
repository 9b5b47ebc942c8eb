use Rattle.std.proofs.Common.{arith}
use Rattle.std.proofs.lemmas.List.{length-drop}
use Rattle.machine_standard_windows.proofs.Drawing.{bounds_in, shown_none, text_shown}
use Rattle.machine_standard_windows.proofs.windows.show_text.Goals as goal

pub returns-then-end-begin-clause-told : goal.returns-then-end-begin-clause-told
returns-then-end-begin-clause-told c = text_shown c.args.store.now _ _ c.args.upper c.requires.sound
    (shown_none c.args.upper c.args.text.now.items _ c.requires.text.begun
    (bounds_in c.as_slice.ensures.value c.bounds_of-begin.ensures.bounds) c.if-end-begin.true c.truncate.ensures.items)
    (omega (arith, length-drop c.args.start c.truncate.new.self.items))

pub show_part-requires-clause-bounds : goal.show_part-requires-clause-bounds
show_part-requires-clause-bounds c = bounds_in c.as_slice.ensures.value c.bounds_of-begin.ensures.bounds
