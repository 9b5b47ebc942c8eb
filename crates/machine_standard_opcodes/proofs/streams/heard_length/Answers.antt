use Rattle.std.proofs.Common.{ap, arith, refl, take}
use Rattle.std.proofs.lemmas.List.{take_all}
use Rattle.zcore_standard.specs.Streams.{heard}
use Rattle.machine_standard_opcodes.proofs.Cuts.{heard_all, heard_more}
use Rattle.machine_standard_opcodes.proofs.Heard.{take_both}
use Rattle.machine_standard_opcodes.proofs.streams.heard_length.Goals as goal

pub loop-i-init : goal.loop-i-init
loop-i-init c = record {
  heard = λ text e. ap (heard c.args.streams.now) (take_all c.args.long text (omega (arith, e)));
  within = omega arith;
}

pub loop-i-preserved : goal.loop-i-preserved
loop-i-preserved c = record {
  heard = λ text e.
      heard_more c.args.streams.now c.loop-i.i _ _ text (take c.loop-i.kept text) _ (omega arith) refl
      (c.loop-i.invariant.heard text e) (take_both c.loop-i.kept _ _ text c.min-kept.ensures);
  within = omega (arith, c.loop-i.invariant.within, c.min-kept.ensures);
}

pub returns-clause-heard : goal.returns-clause-heard
returns-clause-heard c text e =
    heard_all c.args.streams.now c.loop-i.i text (take c.loop-i.kept text) (c.loop-i.invariant.heard text e) (omega arith)

pub returns-clause-within : goal.returns-clause-within
returns-clause-within c = c.loop-i.invariant.within
