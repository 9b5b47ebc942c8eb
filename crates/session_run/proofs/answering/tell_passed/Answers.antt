use Rattle.std.proofs.Common.{[], refl, subst, sym}
use Rattle.std.proofs.KnownBytes.{Appends-nil}
use Rattle.session_lines.specs.Files.{Logs}
use Rattle.session_lines.proofs.Answering.{logs_none}
use Rattle.session_run.proofs.answering.tell_passed.Goals as goal

pub returns-in-Ok-clause-script : goal.returns-in-Ok-clause-script
returns-in-Ok-clause-script g c =
    subst (λ l. Logs (g.F.Files.log c.args.files.now) l []) (sym c.pass.ensures) (logs_none (g.F.Files.log c.args.files.now))

-- where that is not noted, nothing is written
pub returns-in-Err-clause-text : goal.returns-in-Err-clause-text
returns-in-Err-clause-text g c = record {
  part = [];
  rest = c.args.notice.now;
  whole = refl;
  wrote = Appends-nil (g.W.Write.contents c.args.writer.now);
}

pub returns-in-Err-clause-script : goal.returns-in-Err-clause-script
returns-in-Err-clause-script g c =
    subst (λ l. Logs (g.F.Files.log c.args.files.now) l []) (sym c.pass.ensures) (logs_none (g.F.Files.log c.args.files.now))
