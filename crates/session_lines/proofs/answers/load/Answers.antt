use Rattle.session_lines.proofs.Answering.{read_lost}
use Rattle.session_lines.proofs.answers.load.Goals as goal

pub returns-in_err-extend_from_slice-in-Ok : goal.returns-in_err-extend_from_slice-in-Ok
returns-in_err-extend_from_slice-in-Ok g c = λ file.
    read_lost c.args.name.now file c.read.new.bytes.items (g.F.Files.log c.args.files.now)
    (g.F.Files.log c.read.new.self) _ _ c.in-Ok.ensures.ok
    c.from_residual-in_err-extend_from_slice-in-Ok.ensures.1
