use Rattle.std.proofs.Common.{refl, arith}
use Rattle.machine_frames.proofs.Steps.{told_err, store_after}
use Rattle.machine_standard_windows.proofs.TurnTexts.{keeps_still, keeps_after, keeps_begun}
use Rattle.machine_standard_opcodes.proofs.Cuts.{closing_none, closing_more}
use Rattle.machine_standard_opcodes.proofs.Cuts.{closing_stops, closing_done}
use Rattle.machine_standard_opcodes.proofs.streams.close_all.Goals as goal

pub loop-i-init : goal.loop-i-init
loop-i-init c = record {
  closing = closing_none _ _ _ _ c.requires.store.sound;
  keeps = keeps_still _ _ c.requires.text;
}

pub close-requires-clause-store : goal.close-requires-clause-store
close-requires-clause-store c = store_after c.requires.store c.loop-i.invariant.closing.goes_on

pub close-requires-clause-text : goal.close-requires-clause-text
close-requires-clause-text c = keeps_begun c.loop-i.invariant.keeps

pub returns-in_err-close-clause-told : goal.returns-in_err-close-clause-told
returns-in_err-close-clause-told c = told_err _ c.from_residual.ensures.1
    (closing_stops _ _ _ _ _ c.loop-i.invariant.closing (omega arith) refl c.in_err-close.ensures.told)

pub returns-in_err-close-clause-text : goal.returns-in_err-close-clause-text
returns-in_err-close-clause-text c = keeps_after c.loop-i.invariant.keeps c.close.ensures.text

pub loop-i-preserved : goal.loop-i-preserved
loop-i-preserved c = record {
  closing = closing_more _ _ _ _ _ c.loop-i.invariant.closing (omega arith) refl c.in_ok-close.ensures.told;
  keeps = keeps_after c.loop-i.invariant.keeps c.close.ensures.text;
}

pub returns-clause-told : goal.returns-clause-told
returns-clause-told c = closing_done _ _ _ c.loop-i.invariant.closing (omega arith)
