use Rattle.std.proofs.Common.{◌+◌, ◌++◌, replicate, ap, ◌∙◌, arith, length}
use Rattle.machine_standard_windows.proofs.TurnTexts.{keeps_still}
use Rattle.machine_standard_windows.proofs.Drawing.{cursor_put, cursor_limited, keeps_blanks, way_in}
use Rattle.machine_standard_windows.proofs.windows.put_cursor.Goals as goal

pub returns-then-long-start-gt-TEXT_LIMIT-clause-told : goal.returns-then-long-start-gt-TEXT_LIMIT-clause-told
returns-then-long-start-gt-TEXT_LIMIT-clause-told c = cursor_limited c.args.store.now c.args.start _ _ _ _ c.args.row
    c.args.column c.args.upper c.args.text.now.items c.requires.sound c.requires.text.begun
    (way_in c.as_slice.ensures.value c.find_way-end.ensures.way) (omega arith)

pub returns-then-long-start-gt-TEXT_LIMIT-clause-text : goal.returns-then-long-start-gt-TEXT_LIMIT-clause-text
returns-then-long-start-gt-TEXT_LIMIT-clause-text c = keeps_still _ _ c.requires.text

pub returns-in-Ok-clause-told : goal.returns-in-Ok-clause-told
returns-in-Ok-clause-told c = cursor_put c.args.store.now c.args.start _ c.find_way-end.result.0 c.find_way-end.result.1
    c.find_way-end.result.2 c.args.row c.args.column _ c.args.upper c.args.text.now.items _ c.requires.sound
    c.requires.text.begun (way_in c.as_slice.ensures.value c.find_way-end.ensures.way)
    (c.in-Ok.ensures.added
    ∙ ap (λ l. l ++ (replicate c.find_way-end.result.1 10 ++ replicate c.find_way-end.result.2 32)) c.truncate.ensures.items)
    (omega arith) (omega arith)

pub returns-in-Ok-clause-text : goal.returns-in-Ok-clause-text
returns-in-Ok-clause-text c =
    let within = ap length c.as_slice.ensures.value in
    keeps_blanks c.args.start c.find_way-end.result.0 (c.find_way-end.result.1 + c.find_way-end.result.2) _ _ _ c.requires.text
    c.find_way-end.ensures.after (omega (arith, within)) c.truncate.ensures.items c.add_blanks.ensures.front
    (omega arith) (omega arith)

pub returns-in-Err-clause-text : goal.returns-in-Err-clause-text
returns-in-Err-clause-text c =
    let within = ap length c.as_slice.ensures.value in
    keeps_blanks c.args.start c.find_way-end.result.0 (c.find_way-end.result.1 + c.find_way-end.result.2) _ _ _ c.requires.text
    c.find_way-end.ensures.after (omega (arith, within)) c.truncate.ensures.items c.add_blanks.ensures.front
    (omega arith) (omega arith)
