use Rattle.session_run.specs.Acts.{Leaves}
use Rattle.std.proofs.Common.{arith, sym, ◌+◌, ◌≤◌, subst, take}
use Rattle.session_lines.specs.declared.line.Line.{Line}
use Rattle.session_lines.specs.Input.{whole_from, rest_from}
use Rattle.session_lines.specs.Standing.{longest_line}
use Rattle.session_run.specs.Heard.{Heard}
use Rattle.session_lines.specs.Kept.{IsKept}
use Rattle.session_run.proofs.Replying.{hears_err}
use Rattle.session_run.proofs.Scripting.{untrue}
use Rattle.session_lines.proofs.Cutting.{kept_end, kept_byte, kept_all}
use Rattle.session_run.proofs.Chaining.{heard_all, heard_end, heard_byte, heard_break, heard_none}
use Rattle.session_run.proofs.hearing.hear.Goals as goal
use Rattle.session_run.proofs.hearing.hear.Goals.{then-byte-eq10+in_ok-finish, else-byte-eq10}

pub loop-byte-init : goal.loop-byte-init
loop-byte-init g c = record {
  within = c.requires;
  kept = λ full kept. kept;
  heard = λ game s full p kept.
      heard_none game (g.W.Write.contents c.args.writer.now) s c.args.session.now (g.F.Files.log c.args.files.now) p;
}

pub returns-in_err-finish-clause-hears : goal.returns-in_err-finish-clause-hears
returns-in_err-finish-clause-hears g c = λ game s full p kept.
    let w = g.W.Write.contents c.args.writer.now in
    let w1 = g.W.Write.contents c.loop-byte.writer in
    let w2 = g.W.Write.contents c.finish.new.writer in
    let l = g.F.Files.log c.args.files.now in
    let l1 = g.F.Files.log c.loop-byte.files in
    let l2 = g.F.Files.log c.finish.new.files in
    let chunk = c.args.chunk.now in
    let i = c.loop-byte.byte-index in
    hears_err game w w2 s (Leaves game s c.finish.new.session l l2) (whole_from full chunk)
    c.from_residual.result c.from_residual.ensures.0
    (heard_break game w w1 w2 s c.loop-byte.session c.finish.new.session l l1 l2 full chunk i 0
    (c.loop-byte.invariant.heard game s full p kept) (omega arith) c.if-byte-eq10.true
    (λ t q. c.in_err-finish.ensures.hears game t (rest_from full (take i chunk)) q
    (c.loop-byte.invariant.kept full kept)))

pub loop-byte-preserved : goal.loop-byte-preserved
loop-byte-preserved g c =
    let w = g.W.Write.contents c.args.writer.now in
    let w1 = g.W.Write.contents c.loop-byte.writer in
    let l = g.F.Files.log c.args.files.now in
    let l1 = g.F.Files.log c.loop-byte.files in
    let chunk = c.args.chunk.now in
    let i = c.loop-byte.byte-index in
    let now = c.if-byte-eq10 in
    elim c.if-byte-eq10.branch [
      | then-byte-eq10+in_ok-finish v ↦ record {
        within = subst (λ (x : Line). x.len ≤ longest_line) (sym v.line-is) v.finish.ensures.within;
        kept = λ full kept. subst (λ x. IsKept x (rest_from full (take (i + 1) chunk))) (sym v.line-is)
            (kept_end full chunk v.finish.new.line i 0 (omega arith) v.if-byte-eq10.true v.in_ok-finish.ensures.line);
        heard = λ game s full p kept.
            let w2 = g.W.Write.contents v.finish.new.writer in
            let l2 = g.F.Files.log v.finish.new.files in
            subst (λ x. Heard game w (g.W.Write.contents x) s (Leaves game s now.session l (g.F.Files.log now.files))
            (whole_from full (take (i + 1) chunk))) (sym v.writer-is)
            (subst (λ x. Heard game w w2 s (Leaves game s x l (g.F.Files.log now.files))
            (whole_from full (take (i + 1) chunk))) (sym v.session-is)
            (subst (λ x. Heard game w w2 s (Leaves game s v.finish.new.session l (g.F.Files.log x))
            (whole_from full (take (i + 1) chunk))) (sym v.files-is)
            (heard_end game w w1 w2 s c.loop-byte.session v.finish.new.session l l1 l2 full chunk i 0
            (c.loop-byte.invariant.heard game s full p kept) (omega arith) v.if-byte-eq10.true
            (λ t q. v.in_ok-finish.ensures.hears game t (rest_from full (take i chunk)) q
            (c.loop-byte.invariant.kept full kept)))));
      }
      | else-byte-eq10 v ↦ record {
        within = subst (λ (x : Line). x.len ≤ longest_line) (sym v.line-is) v.push.ensures.within;
        kept = λ full kept. subst (λ x. IsKept x (rest_from full (take (i + 1) chunk))) (sym v.line-is)
            (kept_byte full chunk v.push.new.self i 0 (omega arith) (untrue _ _ v.if-byte-eq10.false)
            (v.push.ensures.kept (rest_from full (take i chunk)) (c.loop-byte.invariant.kept full kept)));
        heard = λ game s full p kept.
            subst (λ x. Heard game w (g.W.Write.contents x) s (Leaves game s now.session l (g.F.Files.log now.files))
            (whole_from full (take (i + 1) chunk))) (sym v.writer-is)
            (subst (λ x. Heard game w w1 s (Leaves game s x l (g.F.Files.log now.files))
            (whole_from full (take (i + 1) chunk))) (sym v.session-is)
            (subst (λ x. Heard game w w1 s (Leaves game s c.loop-byte.session l (g.F.Files.log x))
            (whole_from full (take (i + 1) chunk))) (sym v.files-is)
            (heard_byte game w w1 s (Leaves game s c.loop-byte.session l l1) full chunk i 0
            (c.loop-byte.invariant.heard game s full p kept) (omega arith) (untrue _ _ v.if-byte-eq10.false))));
      }
    ]

pub returns-clause-hears : goal.returns-clause-hears
returns-clause-hears g c = λ game s full p kept.
    heard_all game (g.W.Write.contents c.args.writer.now) (g.W.Write.contents c.loop-byte.writer) s
    (Leaves game s c.loop-byte.session (g.F.Files.log c.args.files.now) (g.F.Files.log c.loop-byte.files)) full
    c.args.chunk.now c.loop-byte.byte-index
    (c.loop-byte.invariant.heard game s full p kept) (omega arith)

pub returns-clause-line : goal.returns-clause-line
returns-clause-line g c = λ full kept. kept_all full c.args.chunk.now c.loop-byte.line c.loop-byte.byte-index
    (omega arith) (c.loop-byte.invariant.kept full kept)
