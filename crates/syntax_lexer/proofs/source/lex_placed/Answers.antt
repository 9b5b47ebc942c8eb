use Rattle.std.proofs.Common.{◌+◌, ◌∷◌, length, drop, [], Ok, Err, sym, ap, subst, ◌∙◌, arith}
use Rattle.std.proofs.lemmas.List.{length-drop}
use Rattle.std.proofs.lemmas.Result.{err_from_is_err_and}
use Rattle.syntax_lexer.specs.Bytes.{run, is_comment_byte}
use Rattle.syntax_lexer.specs.Token.{end}
use Rattle.syntax_lexer.specs.Tokens.{Lexes, put, EndsOnce}
use Rattle.syntax_lexer.specs.Results.{source_token, source_tokens}
use Rattle.syntax_lexer.proofs.Loop.{puts, puts_push, puts_last, puts_err, meets_either, at_divider}
use Rattle.syntax_lexer.proofs.Loop.{either_whole, at_comment, at_the_end, ends_once, lexemes_are}
use Rattle.syntax_lexer.proofs.source.lex_placed.Goals as goal

pub loop-offset-preserved-then-is_divider : goal.loop-offset-preserved-then-is_divider
loop-offset-preserved-then-is_divider c = record {
  within = omega arith;
  lines = omega (arith, c.next_line-line.ensures.grows);
  rest = λ o h. c.loop-offset.invariant.rest o
      (at_divider c.args.source.now c.loop-offset.offset c.loop-offset.line o c.loop-offset-test.true
      (sym c.is_divider.ensures ∙ c.if-is_divider.true)
      (subst (λ n. Lexes (c.loop-offset.offset + 1) n (drop (c.loop-offset.offset + 1) c.args.source.now) o)
      c.next_line-line.ensures.value h));
}

pub loop-offset-preserved-then-first-eq33 : goal.loop-offset-preserved-then-first-eq33
loop-offset-preserved-then-first-eq33 c = record {
  within = omega (
    arith,
    c.run_length.ensures.within,
    ap length c.from.ensures,
    length-drop (c.loop-offset.offset + 1)
        c.args.source.now,
  );
  lines = omega arith;
  rest = λ o h. c.loop-offset.invariant.rest o
      (at_comment c.args.source.now c.loop-offset.offset c.loop-offset.line c.run_length.result o
      c.loop-offset-test.true c.if-first-eq33.true
      (c.run_length.ensures.value ∙ ap (run is_comment_byte) c.from.ensures) h);
}

pub returns-in_err-next-clause-meets : goal.returns-in_err-next-clause-meets
returns-in_err-next-clause-meets c =
    let p = err_from_is_err_and c.from_residual.result c.from_residual.ensures.1 in
    let e = c.in_err-next.field-0.0 in
    meets_either c.from_residual.result (λ o. Lexes 0 1 c.args.source.now o) p.0 e p.1 p.2
    (either_whole c.in_err-next.ensures.broken
    (λ h. subst (Lexes 0 1 c.args.source.now) (puts_err c.loop-offset.tokens.items e)
    (c.loop-offset.invariant.rest (Err e) h)))

pub loop-offset-preserved : goal.loop-offset-preserved
loop-offset-preserved c =
    let q = c.in_ok-next.ensures.puts in
    record {
      within = c.in_ok-next.ensures.moves.1;
      lines = omega (arith, c.in_ok-next.ensures.moves);
      rest = λ o h. subst (λ ts. Lexes 0 1 c.args.source.now (puts ts o)) (sym q.1)
          (subst (Lexes 0 1 c.args.source.now) (sym (puts_push c.loop-offset.tokens.items q.0 o))
          (c.loop-offset.invariant.rest (put (source_token q.0) o) (q.2 o h)));
    }

pub returns-clause-meets : goal.returns-clause-meets
returns-clause-meets c =
    let bs = c.args.source.now in
    let at = c.loop-offset.offset in
    let line = c.loop-offset.line in
    subst (λ ts. Lexes 0 1 bs (Ok (source_tokens ts)))
    (sym (c.shrink_to_fit.ensures.items ∙ c.in_ok-push.ensures.items))
    (subst (Lexes 0 1 bs) (puts_last c.loop-offset.tokens.items _)
    (c.loop-offset.invariant.rest _
    (subst (λ xs. Lexes at line (drop at bs)
    (Ok (record { lexeme = end (record { offset = at; line = line }); text = xs; end = at + length xs } ∷ [])))
    (sym c.from-2.ensures) (at_the_end bs at line c.loop-offset-test.false))))

pub returns-clause-ends_once : goal.returns-clause-ends_once
returns-clause-ends_once c = subst EndsOnce (lexemes_are c.shrink_to_fit.new.self.items)
    (ends_once (returns-clause-meets c))
