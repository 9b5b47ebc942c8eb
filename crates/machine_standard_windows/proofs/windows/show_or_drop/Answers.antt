use Rattle.machine_standard_windows.proofs.Selecting.{read_drops, read_shows}
use Rattle.machine_standard_windows.proofs.windows.show_or_drop.Goals as goal

pub returns-then-window-eq-LOWER-clause-told : goal.returns-then-window-eq-LOWER-clause-told
returns-then-window-eq-LOWER-clause-told c = read_drops _ _ _ c.args.upper c.args.window c.requires.sound
    c.if-window-eq-LOWER.true c.cut.ensures.cut

pub returns-clause-told : goal.returns-clause-told
returns-clause-told c = read_shows _ c.args.upper c.args.window c.if-window-eq-LOWER.false c.show_text.ensures.told
