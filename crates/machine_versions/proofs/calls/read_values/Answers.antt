use Rattle.std.proofs.Common.{◌≡◌, ◌+◌, ◌∙◌, arith, refl}
use Rattle.std.proofs.lemmas.List.{length-set}
use Rattle.machine_versions.proofs.InitialValues.{value_more}
use Rattle.machine_versions.proofs.calls.read_values.Goals as goal

pub loop-i-preserved : goal.loop-i-preserved
loop-i-preserved c = record {
  read = value_more c.args.memory.now c.loop-i.values c.args.from c.loop-i.i _ _ refl refl
      (omega (arith, c.loop-i.invariant.size)) c.loop-i.invariant.read;
  size = length-set _ _ _ ∙ c.loop-i.invariant.size;
}

pub returns-clause-values : goal.returns-clause-values
returns-clause-values c =
    let e : c.loop-i.i ≡ c.args.count = omega arith in
    rw e at c.loop-i.invariant.read

pub returns-clause-size : goal.returns-clause-size
returns-clause-size c = c.loop-i.invariant.size
