use Rattle.std.proofs.Common.{ap, length, subst, sym, ◌∙◌, ℕ}
use Rattle.std.proofs.lemmas.List.{length-take-le}
use Rattle.std.specs.Prelude.{IfSome}
use Rattle.machine_picture.specs.Represented.{IsWithin, styles_of}
use Rattle.machine_picture.specs.Styles.{Styles}
use Rattle.machine_picture.proofs.Showing.{waited}
use Rattle.machine_picture.proofs.styles.Styles.wait.Goals as goal

pub show_window-requires : goal.show_window-requires
show_window-requires c =
    subst (λ (n : ℕ). IfSome c.args.shown.now.window (IsWithin n))
    (sym (ap (λ (p : Styles). length p.each) c.cut.ensures
    ∙ length-take-le c.args.shown.now.kept (styles_of c.args.self.now).each c.requires.kept))
    c.requires.within

pub returns : goal.returns
returns c =
    waited c.become_as_long.result c.args.shown.now.window c.args.shown.now.part c.args.shown.now.kept c.args.long
    (styles_of c.args.self.now)
    (styles_of c.cut.new.self) (styles_of c.show_window.new.self) (styles_of c.become_as_long.new.self) c.cut.ensures
    c.in_ok-show_window.ensures c.become_as_long.ensures
