use Rattle.std.proofs.Common.{◌≡◌, Bool, subst, sym}
use Rattle.std.specs.Prelude.{IfOk}
use Rattle.machine_picture.specs.Represented.{styles_of}
use Rattle.session.specs.Reached.{Reached}
use Rattle.session.specs.Showing.{shown_of}
use Rattle.session.proofs.turns.reach.Goals as goal

pub returns-then-not-keeps_styles : goal.returns-then-not-keeps_styles
returns-then-not-keeps_styles c =
    subst (λ (b : Bool). IfOk c.of.result (λ (r : Reached). r ≡ record {
      place = c.args.place;
      kept = c.args.kept.now;
      shown = shown_of c.args.rows b c.args.drawn.now c.args.text.now (styles_of c.args.styles.now);
    })) (sym c.if-not-keeps_styles.true) c.of.ensures

pub returns : goal.returns
returns c =
    subst (λ (b : Bool). IfOk c.marked_of.result (λ (r : Reached). r ≡ record {
      place = c.args.place;
      kept = c.args.kept.now;
      shown = shown_of c.args.rows b c.args.drawn.now c.args.text.now (styles_of c.args.styles.now);
    })) (sym c.if-not-keeps_styles.false) c.marked_of.ensures
