use Rattle.std.proofs.Common.{subst}
use Rattle.meaning.specs.Views.{program_of}
use Rattle.story_file.specs.Written.{AnswersCodes}
use Rattle.story_file.proofs.Laid.{story_too_long}
use Rattle.story_file.proofs.write.write_story_within.Goals as goal

pub returns-in-None : goal.returns-in-None
returns-in-None c =
    story_too_long c.args.version (program_of c.args.checked.now) c.requires
    (subst (AnswersCodes c.args.version (program_of c.args.checked.now)) c.in-None.is c.in_ok-within.ensures)
