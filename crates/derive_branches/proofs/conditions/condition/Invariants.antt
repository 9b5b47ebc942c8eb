use Rattle.std.proofs.Common.{◌≡◌}
use Rattle.syntax_lexer.specs.Token.{lexemes}
use Rattle.derive_constants.specs.Held.{known_of}
use Rattle.derive_branches.specs.Conditions.{condition}
use Rattle.derive_branches.proofs.Divisions.{divided_at}
use Rattle.derive_branches.proofs.conditions.condition.Given as goal

abbrev pub invariant-loop-at : goal.invariant-loop-at
invariant-loop-at l =
    divided_at (known_of l.known) l.at l.tokens ≡ condition (known_of l.known) (lexemes l.tokens)
