use Rattle.std.proofs.Common.{◌∙◌, ◌++◌, List, ℕ, ap, replicate}
use Rattle.screen.specs.Status.{blanks, in_columns, room}
use Rattle.screen.specs.Upper.{fitting}
use Rattle.screen.proofs.Adding.{added_three, put_by}
use Rattle.screen.proofs.status.in_columns.Goals as goal

pub returns : goal.returns
returns c =
    let left : List ℕ = c.args.left.now in
    let right : List ℕ = c.args.right.now in
    added_three _ _ _ _ (fitting (room c.args.columns right) left)
    (replicate (blanks c.args.columns left right) 32) right
    (put_by _ _ _ _ c.in_ok-put_fitting.ensures (ap (λ (n : ℕ). fitting n left) c.room_for-room.ensures))
    (put_by _ _ _ _ c.in_ok-put_blanks.ensures (ap (λ (n : ℕ). replicate n 32) c.blanks_between.ensures))
    c.in_ok-extend_from_slice.ensures.items
    ∙ ap (λ (t : List ℕ). t ++ in_columns c.args.columns left right) c.new-text.ensures.items
