-- What the actions of the code in which no other stands mean.
use Rattle.std.proofs.Common.{◌≡◌, ℕ, Bool, List, Bor, sym, ap, ◌∙◌}
use Rattle.std.specs.Prelude.{map}
use Rattle.std.specs.Global.{Box, Vec}
use Rattle.meaning.specs.declared.resolved.Value as code_value
use Rattle.meaning.specs.declared.resolved.Printed as code_printed
use Rattle.meaning.specs.declared.resolved.Action.TheVariants as done
use Rattle.meaning.specs.declared.resolved.Action.TheFolds.{fold-roll-Action}
use Rattle.meaning.specs.Resolved as values
use Rattle.meaning.specs.Resolved.{Action}
use Rattle.meaning.specs.Views.{value_of, boxed_value, printed_of, action_of, action_layer}

pub made_give : (v : Box code_value.Value) (changes : Vec (Bool × ℕ))
    → action_of (done.Give v changes) ≡ values.give_to (boxed_value v) changes.items
made_give v changes = ap action_of (sym (done.rolls-Give v changes)) ∙ fold-roll-Action Action action_layer _

pub made_move : (v w : Box code_value.Value) → action_of (done.Move v w)
    ≡ values.move_to (boxed_value v) (boxed_value w)
made_move v w = ap action_of (sym (done.rolls-Move v w)) ∙ fold-roll-Action Action action_layer _

pub made_remove : (v : code_value.Value) → action_of (done.Remove v) ≡ values.remove_from (value_of v)
made_remove v = ap action_of (sym (done.rolls-Remove v)) ∙ fold-roll-Action Action action_layer _

pub made_print : (items : Vec code_printed.Printed)
    → action_of (done.Print items) ≡ values.print (map printed_of items.items)
made_print items = ap action_of (sym (done.rolls-Print items)) ∙ fold-roll-Action Action action_layer _

pub made_print_return : (items : Vec code_printed.Printed)
    → action_of (done.PrintReturn items) ≡ values.print_return (map printed_of items.items)
made_print_return items = ap action_of (sym (done.rolls-PrintReturn items)) ∙ fold-roll-Action Action action_layer _

pub made_break : action_of done.Break ≡ values.break_out
made_break = ap action_of (sym done.rolls-Break) ∙ fold-roll-Action Action action_layer _

pub made_continue : action_of done.Continue ≡ values.continue_on
made_continue = ap action_of (sym done.rolls-Continue) ∙ fold-roll-Action Action action_layer _

pub made_return_value : (v : code_value.Value) → action_of (done.ReturnValue v) ≡ values.return_value (value_of v)
made_return_value v = ap action_of (sym (done.rolls-ReturnValue v)) ∙ fold-roll-Action Action action_layer _

pub made_effect : (v : code_value.Value) → action_of (done.Effect v) ≡ values.effect (value_of v)
made_effect v = ap action_of (sym (done.rolls-Effect v)) ∙ fold-roll-Action Action action_layer _

pub made_text : (s : Bor (List ℕ)) → action_of (done.Text s) ≡ values.text_alone s.now
made_text s = ap action_of (sym (done.rolls-Text s)) ∙ fold-roll-Action Action action_layer _

pub made_new_line : action_of done.NewLine ≡ values.new_line
made_new_line = ap action_of (sym done.rolls-NewLine) ∙ fold-roll-Action Action action_layer _

pub made_read : (a b : ℕ) → action_of (done.Read a b) ≡ values.read_line a b
made_read a b = ap action_of (sym (done.rolls-Read a b)) ∙ fold-roll-Action Action action_layer _

pub made_quit : action_of done.Quit ≡ values.quit
made_quit = ap action_of (sym done.rolls-Quit) ∙ fold-roll-Action Action action_layer _
