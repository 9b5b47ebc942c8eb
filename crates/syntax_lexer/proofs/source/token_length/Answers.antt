use Rattle.std.proofs.Common.{length, sym, arith, inr}
use Rattle.std.proofs.lemmas.Bool.{eqb-true}
use Rattle.syntax_lexer.specs.declared.token.Position.{Position}
use Rattle.syntax_lexer.specs.Token.{lexeme_of}
use Rattle.syntax_lexer.proofs.Unique.{same_length, token_front, no_break_at}
use Rattle.syntax_lexer.proofs.source.token_length.Goals as goal

abbrev front : Position
front = record { offset = 0; line = 0 }

pub returns-then-is_empty-clause-each : goal.returns-then-is_empty-clause-each
returns-then-is_empty-clause-each c = λ x n h.
    let first = token_front c.args.bytes.now x n h.0 in
    elim c.then-is_empty.branch [
      | goal.then-is_empty-via-then-is_empty w ↦ absurd
          (omega (arith, first.0, eqb-true (length c.args.bytes.now) 0 (sym w.if-is_empty.ensures)))
      | goal.then-is_empty-via-else-is_empty+then-is_divider w ↦ absurd (first.1.0 (sym w.if-is_divider.ensures))
      | goal.then-is_empty-via-else-is_empty+else-is_divider+then-bytes-eq33 w ↦ absurd (first.1.1 w.if-bytes-eq33.true)
    ]

pub returns-in-Ok-clause-longest : goal.returns-in-Ok-clause-longest
returns-in-Ok-clause-longest c = inr (lexeme_of c.in-Ok.field-0-0 front, c.in-Ok.ensures.scanned front)

pub returns-in-Ok-clause-each : goal.returns-in-Ok-clause-each
returns-in-Ok-clause-each c = λ x n h. same_length c.args.bytes.now (lexeme_of c.in-Ok.field-0-0 front) x
    c.in-Ok.length n (c.in-Ok.ensures.scanned front).0 h.0

pub returns-in-Err-clause-each : goal.returns-in-Err-clause-each
returns-in-Err-clause-each c = λ x n h. absurd
    (no_break_at c.args.bytes.now x n c.in-Err.field-0 h.0 h.1 c.in-Err.ensures.scanned)
