use Rattle.std.proofs.Common.{sym, ap, ◌∙◌, arith, inl, inr}
use Rattle.std.specs.Char.{to_ascii_lowercase}
use Rattle.std.proofs.lemmas.Bool.{cases_order}
use Rattle.syntax_lexer.proofs.WordTables.{spelled_true}
use Rattle.syntax_lexer.proofs.Words.{tested, none_spelled}
use Rattle.syntax_lexer.proofs.names.reserved_word.Goals as goal

pub loop-word-preserved : goal.loop-word-preserved
loop-word-preserved c = λ k d lt. elim (cases_order k c.loop-word.word-index) [
  | inl e ↦ tested c.args.text.now c.words_from-word-items.result.now c.loop-word.word-index k d _
      c.is_spelled.result c.loop-word-test.true c.is_spelled.ensures c.if-is_spelled.false e
  | inr o ↦ elim o [ inl p ↦ c.loop-word.invariant k d p | inr p ↦ absurd (omega arith) ]
]

pub returns-then-is_spelled : goal.returns-then-is_spelled
returns-then-is_spelled c = spelled_true c.args.text.now _ (sym c.is_spelled.ensures ∙ c.if-is_spelled.true)

pub returns : goal.returns
returns c = none_spelled c.args.text.now c.to_ascii_lowercase.result c.words_from-word-items.result.now
    (c.to_ascii_lowercase.ensures.value ∙ ap to_ascii_lowercase c.byte_at-first.ensures.value)
    c.words_from-word-items.ensures (λ k d lt. c.loop-word.invariant k d (omega arith))
