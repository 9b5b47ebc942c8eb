-- What the actions of the code in which others stand mean, part by part.
use Rattle.std.proofs.Common.{◌≡◌, Option, sym, ap, ◌∙◌}
use Rattle.std.specs.Prelude.{map}
use Rattle.std.specs.Global.{Vec, Box}
use Rattle.std.specs.Option.{option_map}
use Rattle.meaning.specs.declared.resolved.Variable.{Variable}
use Rattle.meaning.specs.declared.resolved.Value as code_value
use Rattle.meaning.specs.declared.resolved.Action as code_action
use Rattle.meaning.specs.declared.resolved.Action.TheVariants as done
use Rattle.meaning.specs.declared.resolved.Action.TheFolds.{fold-roll-Action}
use Rattle.meaning.specs.Resolved as values
use Rattle.meaning.specs.Resolved.{Action}
use Rattle.meaning.specs.Views.{boxed_value, action_of, action_layer, actions_of}

pub made_empty : action_of done.Empty ≡ values.empty
made_empty = ap action_of (sym done.rolls-Empty) ∙ fold-roll-Action Action action_layer _

pub made_each_object : (x : Variable) (a : Box code_action.Action)
    → action_of (done.EachObject x a) ≡ values.each_object x (action_of a.value)
made_each_object x a = ap action_of (sym (done.rolls-EachObject x a)) ∙ fold-roll-Action Action action_layer _

pub made_each_where : (x : Variable) (v : Box code_value.Value) (a : Box code_action.Action)
    → action_of (done.EachWhere x v a) ≡ values.each_where x (boxed_value v) (action_of a.value)
made_each_where x v a = ap action_of (sym (done.rolls-EachWhere x v a)) ∙ fold-roll-Action Action action_layer _

pub made_each_in : (x : Variable) (v : Box code_value.Value) (a : Box code_action.Action)
    → action_of (done.EachIn x v a) ≡ values.each_in x (boxed_value v) (action_of a.value)
made_each_in x v a = ap action_of (sym (done.rolls-EachIn x v a)) ∙ fold-roll-Action Action action_layer _

pub made_block : (all : Vec code_action.Action) → action_of (done.Block all)
    ≡ values.block (actions_of (map action_of all.items))
made_block all = ap action_of (sym (done.rolls-Block all)) ∙ fold-roll-Action Action action_layer _

pub made_if_then : (v : Box code_value.Value) (a : Box code_action.Action)
    → action_of (done.If v a) ≡ values.if_then (boxed_value v) (action_of a.value)
made_if_then v a = ap action_of (sym (done.rolls-If v a)) ∙ fold-roll-Action Action action_layer _

pub made_if_else : (v : Box code_value.Value) (a b : Box code_action.Action)
    → action_of (done.IfElse v a b) ≡ values.if_else (boxed_value v) (action_of a.value) (action_of b.value)
made_if_else v a b = ap action_of (sym (done.rolls-IfElse v a b)) ∙ fold-roll-Action Action action_layer _

pub made_while_do : (v : Box code_value.Value) (a : Box code_action.Action)
    → action_of (done.While v a) ≡ values.while_do (boxed_value v) (action_of a.value)
made_while_do v a = ap action_of (sym (done.rolls-While v a)) ∙ fold-roll-Action Action action_layer _

pub made_do : (a : Box code_action.Action) (v : Box code_value.Value)
    → action_of (done.Do a v) ≡ values.do_until (action_of a.value) (boxed_value v)
made_do a v = ap action_of (sym (done.rolls-Do a v)) ∙ fold-roll-Action Action action_layer _

pub made_for : (x y z : Option (Box code_value.Value)) (a : Box code_action.Action) → action_of (done.For x y z a)
    ≡ values.for_loop (option_map boxed_value x) (option_map boxed_value y) (option_map boxed_value z)
    (action_of a.value)
made_for x y z a = ap action_of (sym (done.rolls-For x y z a)) ∙ fold-roll-Action Action action_layer _
