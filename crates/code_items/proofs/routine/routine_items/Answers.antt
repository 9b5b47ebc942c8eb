use Rattle.std.proofs.Common.{List, [], ◌∷◌, ◌++◌, map, ap, ◌∙◌, subst}
use Rattle.meaning.specs.declared.resolved.Action as code_action
use Rattle.meaning.specs.Views.{action_of, actions_of}
use Rattle.code_items.specs.Statements.{actions_items, return_true}
use Rattle.code_drafts.specs.Code.{items_of}
use Rattle.code_drafts.specs.Writing.{written_in, WritesBefore}
use Rattle.code_items.specs.Writing.{exits_of}
use Rattle.code_items.proofs.Actions.{routine_more}
use Rattle.code_items.proofs.routine.routine_items.Goals as goal

pub returns : goal.returns
returns c =
    let Q : List code_action.Action → Type 0 = λ xs. WritesBefore (written_in c.put.new.draft)
    (written_in c.put_statements.new.draft)
    (λ n at. actions_items
    (exits_of n (record { breaks = c.item_count-end.result; continues = c.item_count-end.result })) at
    (actions_of (map action_of xs))) in
    routine_more _ _ _ _ c.args.routine.now.locals
    (actions_of (map action_of c.args.routine.now.body.items))
    (c.in-Ok.ensures ∙ ap (λ xs. items_of xs ++ return_true ∷ []) c.new-items.ensures.items)
    (subst Q c.deref.ensures.value c.in-Ok-put_statements.ensures) c.item_count-end.ensures c.item_count-end.ensures
    c.into_items.ensures
