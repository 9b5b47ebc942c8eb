use Rattle.std.proofs.Common.{◌+◌, ap, arith, drop, length}
use Rattle.machine_standard_windows.proofs.TurnTexts.{keeps_still}
use Rattle.machine_standard_windows.proofs.Drawing.{apart_in, apart_is, lines_shown, lines_long, text_shown, show_limited, keeps_apart}
use Rattle.machine_standard_windows.proofs.windows.show_part.Goals as goal

pub returns-then-long-start-gt-TEXT_LIMIT-clause-told : goal.returns-then-long-start-gt-TEXT_LIMIT-clause-told
returns-then-long-start-gt-TEXT_LIMIT-clause-told c =
    let long = lines_long c.args.upper c.requires.text.begun c.requires.some c.requires.bounds
    (apart_in c.as_slice.ensures.value c.lines_around-before.ensures.apart) in
    show_limited c.args.store.now (drop c.args.start c.args.text.now.items) c.args.upper c.requires.sound
    (omega (arith, long))

pub returns-then-long-start-gt-TEXT_LIMIT-clause-text : goal.returns-then-long-start-gt-TEXT_LIMIT-clause-text
returns-then-long-start-gt-TEXT_LIMIT-clause-text c = keeps_still _ _ c.requires.text

pub returns-in-Ok-clause-told : goal.returns-in-Ok-clause-told
returns-in-Ok-clause-told c =
    let apart = apart_in c.as_slice.ensures.value c.lines_around-before.ensures.apart in
    let text = lines_shown c.args.upper c.put_newlines.new.text.items c.requires.text.begun c.requires.some c.requires.bounds apart
    (apart_is c.args.begin c.args.end _ _ c.args.text.now.items _ _ (omega arith) c.truncate.ensures.items
    c.in-Ok.ensures.apart) in
    let long = lines_long c.args.upper c.requires.text.begun c.requires.some c.requires.bounds apart in
    text_shown c.args.store.now (drop c.args.start c.args.text.now.items) _ c.args.upper c.requires.sound text
    (omega (arith, ap length text, long))

pub returns-in-Ok-clause-text : goal.returns-in-Ok-clause-text
returns-in-Ok-clause-text c = keeps_apart c.args.start c.args.begin c.args.end
    (c.lines_around-before.result.0 + c.lines_around-before.result.1) _ _ _ c.requires.text c.requires.after (omega arith)
    c.requires.within c.truncate.ensures.items c.put_newlines.ensures.front c.put_newlines.ensures.longer (omega arith)
    (omega arith)

pub returns-in-Err-clause-text : goal.returns-in-Err-clause-text
returns-in-Err-clause-text c = keeps_apart c.args.start c.args.begin c.args.end
    (c.lines_around-before.result.0 + c.lines_around-before.result.1) _ _ _ c.requires.text c.requires.after (omega arith)
    c.requires.within c.truncate.ensures.items c.put_newlines.ensures.front c.put_newlines.ensures.longer (omega arith)
    (omega arith)
