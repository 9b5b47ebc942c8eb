use Rattle.std.proofs.Common.{subst}
use Rattle.story.specs.Large.{limits_by}
use Rattle.session_run.proofs.Going.{streams}
use Rattle.tools.specs.Headline.{PairsBy}
use Rattle.tools.proofs.Extending.{pairs_fault, pairs_text}
use Rattle.tools.proofs.Pairing.{keeps_all}
use Rattle.tools.proofs.extended.extend_and_run_within.Goals as goal

pub returns-in-Ok : goal.returns-in-Ok
returns-in-Ok g c =
    let io = streams (g.R.Read.remaining c.args.reader.now) (g.R.Read.remaining c.compile_and_run_within.new.reader)
    (g.W.Write.contents c.args.writer.now) (g.W.Write.contents c.compile_and_run_within.new.writer) in
    pairs_text (limits_by c.args.limit) c.args.source.now c.in-Ok.text.items c.args.version c.args.fuel c.args.keep io
    c.compile_and_run_within.result c.in-Ok.ensures
    (subst (λ text. PairsBy (limits_by c.args.limit) text c.args.version c.args.fuel c.args.keep io
    c.compile_and_run_within.result) c.deref.ensures.value c.compile_and_run_within.ensures)

pub returns-in-Err : goal.returns-in-Err
returns-in-Err g c =
    pairs_fault (limits_by c.args.limit) c.args.source.now c.args.version c.args.fuel c.args.keep
    (streams (g.R.Read.remaining c.args.reader.now) (g.R.Read.remaining c.args.reader.now)
    (g.W.Write.contents c.args.writer.now) (g.W.Write.contents c.args.writer.now))
    c.in-Err.placed c.in-Err.ensures (keeps_all _, keeps_all _)
