use Rattle.std.proofs.Common.{◌≡◌, ◌≤◌, drop}
use Rattle.syntax_lexer.specs.Bytes.{value_from}
use Rattle.syntax_lexer.proofs.numbers.value.Given as goal

abbrev pub invariant-loop-digit : goal.invariant-loop-digit
invariant-loop-digit l =
    record {
      fits : l.value ≤ 65535;
      same : value_from l.base l.value (drop l.digit-index l.digits)
          ≡ value_from l.base 0 l.digits;
    }
