use Rattle.std.proofs.Common.{◌+◌, ◌-◌, ap, arith, drop, length, sym, ◌∙◌}
use Rattle.std.proofs.lemmas.List.{length-drop, take_all}
use Rattle.machine_standard_windows.proofs.TurnTexts.{text_behind}
use Rattle.machine_standard_opcodes.proofs.streams.text_since.Goals as goal

pub returns : goal.returns
returns c =
    let z = c.deref.result.now in
    let n = c.args.start + c.min-kept.result in
    take_all (length z - n) (drop n z) (omega (arith, length-drop n z)) ∙ ap (drop n) c.deref.ensures.value
    ∙ sym (text_behind c.args.start c.args.stream.from c.min-kept.result c.args.text.now.items c.requires.begun
    (omega arith))
