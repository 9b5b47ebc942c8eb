use Rattle.std.proofs.Common.{refl, arith, drop}
use Rattle.machine_standard_windows.proofs.TurnTexts.{keeps_still, keeps_after, keeps_begun}
use Rattle.machine_standard_opcodes.proofs.Cuts.{heard_more, heard_all}
use Rattle.machine_standard_opcodes.proofs.streams.cut_streams.Goals as goal

pub loop-i-init : goal.loop-i-init
loop-i-init c = record { heard = refl; keeps = keeps_still _ _ c.requires }

pub cut-requires : goal.cut-requires
cut-requires c = keeps_begun c.loop-i.invariant.keeps

pub loop-i-preserved : goal.loop-i-preserved
loop-i-preserved c = record {
  heard = heard_more c.args.streams.now c.loop-i.i _ _ _ _ _ (omega arith) refl c.loop-i.invariant.heard
      c.cut.ensures.cut;
  keeps = keeps_after c.loop-i.invariant.keeps c.cut.ensures.text;
}

pub returns-clause-heard : goal.returns-clause-heard
returns-clause-heard c = heard_all c.args.streams.now c.loop-i.i (drop c.args.start c.args.text.now.items)
    (drop c.args.start c.loop-i.text.items) c.loop-i.invariant.heard (omega arith)

pub returns-clause-text : goal.returns-clause-text
returns-clause-text c = c.loop-i.invariant.keeps
