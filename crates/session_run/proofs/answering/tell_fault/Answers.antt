use Rattle.std.proofs.Common.{[], codes, refl}
use Rattle.std.proofs.KnownBytes.{Appends-nil}
use Rattle.session_lines.specs.Transcript.{note}
use Rattle.session_run.proofs.answering.tell_fault.Goals as goal

pub returns-in-Unkept-clause-text : goal.returns-in-Unkept-clause-text
returns-in-Unkept-clause-text g c = record {
  part = [];
  rest = note (codes "[No memory: line not taken.]");
  whole = refl;
  wrote = Appends-nil (g.W.Write.contents c.args.writer.now);
}
