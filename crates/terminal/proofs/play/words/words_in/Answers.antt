use Rattle.std.proofs.Common.{◌≤◌, sym, subst, ℕ, codes, arith}
use Rattle.std.specs.Prelude.{Option, Some, None, IfSome}
use Rattle.std.specs.Str.Parse.{ParsesUnsigned, ExplainsUnsignedError, HasUnsignedDigitsIfOk}
use Rattle.clap.specs.Matches.{found_of}
use Rattle.terminal.specs.Range.{least_fuel, most_fuel, most_undo}
use Rattle.terminal.proofs.Optional.{number_read, number_or}
use Rattle.terminal.proofs.play.words.words_in.Goals as goal

at_most : (high : ℕ) (o : Option ℕ) → IfSome o (λ n. (0 ≤ n) × (n ≤ high)) → IfSome o (λ n. n ≤ high)
at_most high None h = tt
at_most high (Some n) h = h.1

pub returns-clause-range : goal.returns-clause-range
returns-clause-range c =
    let found = found_of c.args.matches.now in
    let fuel : IfSome c.get_one-fuel.result (λ n. (least_fuel ≤ n) × (n ≤ most_fuel)) =
    number_read _ (λ bs r. ParsesUnsigned 32 10 bs r × ExplainsUnsignedError 10 bs r × HasUnsignedDigitsIfOk bs r) 32
    least_fuel most_fuel found (codes "fuel") c.requires.fuel.0 c.get_one-fuel.result
    c.requires.fuel.1 c.get_one-fuel.ensures.none c.get_one-fuel.ensures.value (λ t x g. g.0) (omega arith) in
    let keep : IfSome c.get_one-keep.result (λ n. (0 ≤ n) × (n ≤ most_undo)) =
    number_read _ (λ bs r. ParsesUnsigned 32 10 bs r × ExplainsUnsignedError 10 bs r × HasUnsignedDigitsIfOk bs r) 32
    0 most_undo found (codes "undo") c.requires.undo.0 c.get_one-keep.result
    c.requires.undo.1 c.get_one-keep.ensures.none c.get_one-keep.ensures.value (λ t x g. g.0) (omega arith) in
    let both = number_or least_fuel most_fuel 1000000 c.get_one-fuel.result fuel (omega arith) (omega arith) in
    record {
      least = subst (λ n. least_fuel ≤ n) (sym c.unwrap_or-2.ensures) both.0;
      most = subst (λ n. n ≤ most_fuel) (sym c.unwrap_or-2.ensures) both.1;
      undo = at_most most_undo c.get_one-keep.result keep;
    }
