use Rattle.std.proofs.Common.{◌∙◌, ◌∷◌, ◌++◌, [], List, ℕ, ap, drop}
use Rattle.screen.specs.Status.{first_word}
use Rattle.screen.proofs.Adding.{then_more}
use Rattle.screen.proofs.status.score_and_moves.Goals as goal

pub returns : goal.returns
returns c =
    then_more _ _ _ (47 ∷ []) c.last_word.result.now c.in_ok-push.ensures.items c.in_ok-extend_from_slice.ensures.items
    ∙ ap (λ (t : List ℕ). t ++ (47 ∷ c.last_word.result.now)) (c.in_ok-text.ensures.items ∙ c.first_word.ensures
    ∙ ap first_word c.after.ensures)
    ∙ ap (λ (t : List ℕ). first_word (drop 7 c.args.right.now) ++ (47 ∷ t)) c.last_word.ensures
