use Rattle.std.proofs.Common.{arith}
use Rattle.machine_standard_windows.proofs.TurnTexts.{keeps_still}
use Rattle.machine_standard_saves.proofs.Prompts.{keeps_prompt, new_line_of, prompt_length, prompt_limited, prompt_told}
use Rattle.machine_standard_saves.proofs.pausing.put_prompt.Goals as goal

pub returns-then-long-gt-TEXT_LIMIT-clause-told : goal.returns-then-long-gt-TEXT_LIMIT-clause-told
returns-then-long-gt-TEXT_LIMIT-clause-told c =
    prompt_limited c.args.store.now c.args.start c.missing_lines-lines.result c.args.text.now.items c.requires.sound
    (new_line_of c.args.start c.missing_lines-lines.result c.args.text.now.items c.deref.result.now c.deref.ensures.value
    c.missing_lines-lines.ensures.lines)
    (omega arith)

pub returns-then-long-gt-TEXT_LIMIT-clause-text : goal.returns-then-long-gt-TEXT_LIMIT-clause-text
returns-then-long-gt-TEXT_LIMIT-clause-text c = keeps_still _ _ c.requires.text

pub returns-in-Ok-clause-told : goal.returns-in-Ok-clause-told
returns-in-Ok-clause-told c =
    prompt_told c.args.store.now c.args.start c.missing_lines-lines.result c.args.text.now.items
    c.add_prompt.new.text.items c.requires.sound c.requires.text.begun
    (new_line_of c.args.start c.missing_lines-lines.result c.args.text.now.items c.deref.result.now c.deref.ensures.value
    c.missing_lines-lines.ensures.lines)
    c.in-Ok.ensures.added (omega arith)

pub returns-in-Ok-clause-text : goal.returns-in-Ok-clause-text
returns-in-Ok-clause-text c = keeps_prompt c.args.start _ _ c.requires.text c.add_prompt.ensures.front
    (omega (arith, prompt_length, c.add_prompt.ensures.few))

pub returns-in-Err-clause-text : goal.returns-in-Err-clause-text
returns-in-Err-clause-text c = keeps_prompt c.args.start _ _ c.requires.text c.add_prompt.ensures.front
    (omega (arith, prompt_length, c.add_prompt.ensures.few))
