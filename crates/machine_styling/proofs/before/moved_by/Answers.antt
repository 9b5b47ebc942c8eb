use Rattle.std.proofs.Common.{sym, ◌∙◌, subst, List, ℕ}
use Rattle.machine_picture.specs.Represented.{IsLine}
use Rattle.machine_picture.specs.Styles.{moves}
use Rattle.machine_styling.proofs.Changing.{apart}
use Rattle.machine_styling.proofs.before.moved_by.Goals as goal

pub returns-then-not-moves : goal.returns-then-not-moves
returns-then-not-moves c next s same = record {
  goes_on = c.requires.goes_on;
  nowhere = λ moving. absurd (apart (moves c.args.operation) moving (sym c.moves.ensures ∙ c.if-not-moves.true));
  styles = c.requires.styles;
}

pub returns-in-None : goal.returns-in-None
returns-in-None c next s same = record {
  goes_on = c.requires.goes_on;
  nowhere = λ moving. c.in-None.is;
  styles = c.requires.styles;
}

pub returns-in-Some : goal.returns-in-Some
returns-in-Some c next s same = record {
  moving = sym c.moves.ensures ∙ c.if-not-moves.false;
  upper = c.in-Some.upper;
  there = c.in-Some.is;
  line = subst (λ (l : List ℕ). IsLine c.in-Some.upper l c.line_of.result) (sym same) c.line_of.ensures;
}
