use Rattle.std.proofs.Common.{arith, sym, ◌+◌, ◌≤◌, subst, take}
use Rattle.session_lines.specs.declared.line.Line.{Line}
use Rattle.session_lines.specs.Input.{whole_from, rest_from}
use Rattle.session_lines.specs.Kept.{IsKept}
use Rattle.session_lines.specs.Standing.{longest_line}
use Rattle.session_lines.proofs.Cutting.{kept_end, kept_byte, kept_all}
use Rattle.session_run.proofs.Scripting.{untrue}
use Rattle.play_json.specs.Heard.{Heard}
use Rattle.play_json.specs.Said.{held}
use Rattle.play_json.proofs.Chaining.{heard_all, heard_break, heard_byte, heard_end, hears_err}
use Rattle.play_json.proofs.hearing.hear.Goals as goal
use Rattle.play_json.proofs.hearing.hear.Goals.{then-byte-eq10+in_ok-finish, else-byte-eq10}

pub returns-in_err-finish-clause-hears : goal.returns-in_err-finish-clause-hears
returns-in_err-finish-clause-hears g c = λ full kept.
    let chunk = c.args.chunk.now in
    let i = c.loop-byte.byte-index in
    let h = held c.args.session.now c.args.lines.now in
    let h2 = held c.finish.new.session c.finish.new.lines in
    hears_err (whole_from full chunk) (g.W.Write.contents c.args.writer.now) (g.W.Write.contents c.finish.new.writer)
    h h2 c.from_residual.result c.from_residual.ensures.0
    (heard_break (g.W.Write.contents c.args.writer.now) (g.W.Write.contents c.loop-byte.writer)
    (g.W.Write.contents c.finish.new.writer) h (held c.loop-byte.session c.loop-byte.lines) h2 full chunk i 0
    (c.loop-byte.invariant.heard full kept) (omega arith) c.if-byte-eq10.true
    (c.in_err-finish.ensures.answers (rest_from full (take i chunk)) (c.loop-byte.invariant.kept full kept)))

pub loop-byte-preserved : goal.loop-byte-preserved
loop-byte-preserved g c =
    let w = g.W.Write.contents c.args.writer.now in
    let w1 = g.W.Write.contents c.loop-byte.writer in
    let h = held c.args.session.now c.args.lines.now in
    let h1 = held c.loop-byte.session c.loop-byte.lines in
    let chunk = c.args.chunk.now in
    let i = c.loop-byte.byte-index in
    let now = c.if-byte-eq10 in
    elim c.if-byte-eq10.branch [
      | then-byte-eq10+in_ok-finish t ↦ record {
        within = subst (λ (x : Line). x.len ≤ longest_line) (sym t.line-is) t.finish.ensures.within;
        kept = λ full kept. subst (λ x. IsKept x (rest_from full (take (i + 1) chunk))) (sym t.line-is)
            (kept_end full chunk t.finish.new.line i 0 (omega arith) t.if-byte-eq10.true t.in_ok-finish.ensures.line);
        heard = λ full kept.
            let w2 = g.W.Write.contents t.finish.new.writer in
            let v2 = t.finish.new.session in
            subst (λ x. Heard (whole_from full (take (i + 1) chunk)) w h (g.W.Write.contents x) (held now.session now.lines))
            (sym t.writer-is)
            (subst (λ x. Heard (whole_from full (take (i + 1) chunk)) w h w2 (held x now.lines)) (sym t.session-is)
            (subst (λ x. Heard (whole_from full (take (i + 1) chunk)) w h w2 (held v2 x)) (sym t.lines-is)
            (heard_end w w1 w2 h h1 (held v2 t.finish.new.lines) full chunk i 0
            (c.loop-byte.invariant.heard full kept) (omega arith) t.if-byte-eq10.true
            (t.in_ok-finish.ensures.answers (rest_from full (take i chunk)) (c.loop-byte.invariant.kept full kept)))));
      }
      | else-byte-eq10 t ↦ record {
        within = subst (λ (x : Line). x.len ≤ longest_line) (sym t.line-is) t.push.ensures.within;
        kept = λ full kept. subst (λ x. IsKept x (rest_from full (take (i + 1) chunk))) (sym t.line-is)
            (kept_byte full chunk t.push.new.self i 0 (omega arith) (untrue _ _ t.if-byte-eq10.false)
            (t.push.ensures.kept (rest_from full (take i chunk)) (c.loop-byte.invariant.kept full kept)));
        heard = λ full kept.
            let v1 = c.loop-byte.session in
            subst (λ x. Heard (whole_from full (take (i + 1) chunk)) w h (g.W.Write.contents x) (held now.session now.lines))
            (sym t.writer-is)
            (subst (λ x. Heard (whole_from full (take (i + 1) chunk)) w h w1 (held x now.lines)) (sym t.session-is)
            (subst (λ x. Heard (whole_from full (take (i + 1) chunk)) w h w1 (held v1 x)) (sym t.lines-is)
            (heard_byte w w1 h h1 full chunk i 0 (c.loop-byte.invariant.heard full kept) (omega arith)
            (untrue _ _ t.if-byte-eq10.false))));
      }
    ]

pub returns-clause-hears : goal.returns-clause-hears
returns-clause-hears g c = λ full kept.
    heard_all (g.W.Write.contents c.args.writer.now) (g.W.Write.contents c.loop-byte.writer)
    (held c.args.session.now c.args.lines.now) (held c.loop-byte.session c.loop-byte.lines)
    full c.args.chunk.now c.loop-byte.byte-index (c.loop-byte.invariant.heard full kept)
    (omega arith)

pub returns-clause-line : goal.returns-clause-line
returns-clause-line g c = λ full kept. kept_all full c.args.chunk.now c.loop-byte.line c.loop-byte.byte-index
    (omega arith) (c.loop-byte.invariant.kept full kept)
