use Rattle.std.proofs.Common.{◌≡◌, ap, ◌∙◌, arith, length, take}
use Rattle.machine_standard_windows.proofs.TurnTexts.{keeps_cut, keeps_same}
use Rattle.machine_standard_opcodes.proofs.Cuts.{cut_again, closed_as, stays_as}
use Rattle.machine_standard_opcodes.proofs.streams.close.Goals as goal

pub returns-in-Ok-clause-told : goal.returns-in-Ok-clause-told
returns-in-Ok-clause-told c = closed_as c.args.start c.min-kept.result _ _ _ c.args.extra.now c.args.stream
    c.requires.text.begun (omega arith) c.in-Ok.ensures.front c.truncate.ensures.items c.in-Ok.ensures.went

pub returns-in-Ok-clause-text : goal.returns-in-Ok-clause-text
returns-in-Ok-clause-text c = keeps_cut c.args.start c.min-kept.result _ _ c.requires.text (omega arith)
    (cut_again _ _ _ _ c.in-Ok.ensures.front (omega arith) c.truncate.ensures.items)

pub returns-in-Err-clause-told : goal.returns-in-Err-clause-told
returns-in-Err-clause-told c = stays_as c.args.start c.min-kept.result _ _ _ _ c.args.extra.now c.args.stream _
    c.requires.text.begun (omega arith) c.in-Err.ensures.front c.truncate-in-Err.ensures.items (omega arith)
    c.in-Err.ensures.went

pub returns-in-Err-clause-text : goal.returns-in-Err-clause-text
returns-in-Err-clause-text c =
    let all : c.len-printed.result ≡ length c.args.text.now.items = omega arith in
    keeps_same c.args.start _ _ c.requires.text (c.truncate-in-Err.ensures.items
    ∙ ap (λ n. take n c.write_zscii.new.text.items) all ∙ c.in-Err.ensures.front)
