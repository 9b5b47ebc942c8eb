use Rattle.session_keeping.specs.Answers.{given_of}
use Rattle.session_keeping.proofs.Answering.{no_memory}
use Rattle.session_keeping.proofs.answers.given_in.Goals as goal

pub returns-in-Err-OutOfMemory : goal.returns-in-Err-OutOfMemory
returns-in-Err-OutOfMemory c = no_memory (given_of c.args.text.now)
