use Rattle.std.proofs.Common.{take}
use Rattle.syntax_lexer.specs.Token.{lexemes}
use Rattle.messages_advice.specs.Listed.{AreTried}
use Rattle.messages_advice.proofs.fitting.fitting.Given as goal

abbrev pub invariant-loop-kind : goal.invariant-loop-kind
invariant-loop-kind l = AreTried (lexemes l.front) (take l.kind-index l.kind-items) l.found.items
