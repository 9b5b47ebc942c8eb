use Rattle.screen.proofs.Questions.{question_given}
use Rattle.screen.proofs.asking.Asking.next.Goals as goal

pub returns-then-self-lt9 : goal.returns-then-self-lt9
returns-then-self-lt9 g c = question_given c.args.self.now.asked c.args.self.now.is_begun _ c.if-self-lt9.true

pub returns : goal.returns
returns g c = rw c.after.ensures.reader (c.after.ensures.byte _ _ c.in_ok-typed.ensures)
