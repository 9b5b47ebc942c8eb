use Rattle.std.proofs.Common.{◌≡◌, ap, sym, arith, refl, ◌-◌, ◌/◌}
use Rattle.std.proofs.lemmas.Bool.{le-leb, lt-leb}
use Rattle.zcore.specs.State.{done}
use Rattle.zcore_standard.specs.Fuel.{spend_for, units}
use Rattle.machine_standard_texts.proofs.fuel.spend_for.Goals as goal

pub returns-then-units-fuel : goal.returns-then-units-fuel
unfolding spend_for
returns-then-units-fuel c = record {
  said = λ s. rw (lt-leb (units c.args.bytes) c.args.fuel (omega (arith, c.if-units-fuel.true))) refl;
}

pub returns : goal.returns
unfolding spend_for
returns c =
    let few : c.saturating_sub-units.result ≡ c.args.bytes - 1 = omega arith in
    record {
      said = λ s. rw (le-leb (units c.args.bytes) c.args.fuel (omega (arith, c.if-units-fuel.false)))
          (ap (λ n. done (c.args.fuel - n / 256) s) (sym few));
    }
