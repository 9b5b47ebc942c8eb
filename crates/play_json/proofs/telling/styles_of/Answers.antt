use Rattle.std.proofs.Common.{Some, ap, sym, ◌∙◌}
use Rattle.session.specs.Game.{marked_on}
use Rattle.play_json.specs.Told.{styles_data}
use Rattle.play_json.proofs.telling.styles_of.Goals as goal

pub returns-in-Ok : goal.returns-in-Ok
returns-in-Ok c = λ game s p.
    ap Some (c.in-Ok.ensures game s p) ∙ ap (λ b. styles_data b c.args.kind (marked_on game s.done))
    (sym c.if-keeps_styles.true ∙ c.keeps_styles.ensures game s p)

pub returns-else-keeps_styles : goal.returns-else-keeps_styles
returns-else-keeps_styles c = λ game s p.
    ap (λ b. styles_data b c.args.kind (marked_on game s.done))
    (sym c.if-keeps_styles.false ∙ c.keeps_styles.ensures game s p)
