use Rattle.std.proofs.Common.{ap, sym, ◌∙◌, if◌then◌else◌}
use Rattle.serde_json.specs.Data.{array, no_items}
use Rattle.serde_json.specs.View.{items_view}
use Rattle.serde_json.proofs.Views.{view-Array}
use Rattle.session.specs.Game.{marked_on}
use Rattle.play_json.specs.Spans.{spans_data}
use Rattle.play_json.proofs.telling.spans_told.Goals as goal

pub returns-in-Ok : goal.returns-in-Ok
returns-in-Ok c = λ game s p.
    c.in-Ok.ensures ∙ ap spans_data (c.marked.ensures game s p)
    ∙ ap (λ b. if b then spans_data (marked_on game s.done) else array no_items)
    (sym c.if-has_text.true ∙ c.has_text.ensures)

pub returns-else-has_text : goal.returns-else-has_text
returns-else-has_text c = λ game s p.
    view-Array c.new.result ∙ ap (λ xs. array (items_view xs)) c.new.ensures.items
    ∙ ap (λ b. if b then spans_data (marked_on game s.done) else array no_items)
    (sym c.if-has_text.false ∙ c.has_text.ensures)
