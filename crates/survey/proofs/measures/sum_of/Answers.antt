use Rattle.std.proofs.Common.{arith, refl}
use Rattle.std.proofs.lemmas.List.{drop_all}
use Rattle.zcore.specs.Layout.{header_size}
use Rattle.survey.proofs.measures.sum_of.Goals as goal

pub returns-then-story-lt-HEADER_LENGTH : goal.returns-then-story-lt-HEADER_LENGTH
returns-then-story-lt-HEADER_LENGTH c = rw (drop_all header_size c.args.story.now (omega arith)) refl
