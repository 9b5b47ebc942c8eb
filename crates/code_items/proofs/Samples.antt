-- What stands for some statements.
use Rattle.std.proofs.Common.{◌≡◌, [], ◌∷◌, Some, None, true, false, refl}
use Rattle.std.specs.Prelude.{codes}
use Rattle.syntax_trees.specs.declared.tree.Binary.TheVariants as binaries
use Rattle.syntax_trees.specs.declared.tree.Comparison.TheVariants as comparisons
use Rattle.syntax_trees.specs.declared.tree.Equality.TheVariants as equalities
use Rattle.syntax_trees.specs.declared.tree.Prefix.TheVariants as prefixes
use Rattle.syntax_trees.specs.declared.tree.Step.TheVariants as steps
use Rattle.syntax_trees.specs.declared.tree.Width.TheVariants as widths
use Rattle.meaning.specs.declared.resolved.Variable.{Variable}
use Rattle.meaning.specs.declared.resolved.Variable.TheVariants.{Local, Global}
use Rattle.meaning.specs.Resolved.{Value, none, more, read, number, call, compare, equal, binary, prefixed, assign}
use Rattle.meaning.specs.Resolved.{step_before, step_after, effect, if_then, if_else, while_do, do_until, for_loop}
use Rattle.meaning.specs.Resolved.{switch_on, one, between, return_value, next, stop, text_alone, print, print_return}
use Rattle.meaning.specs.Resolved.{text, character_of, number_of}
use Rattle.meaning.specs.Resolved as source
use Rattle.code_drafts.specs.Items.{pushed, push, into, aside, nowhere, less, greater, same, is_zero, move, operate}
use Rattle.code_drafts.specs.Items.{operate_aside, step}
use Rattle.code_drafts.specs.Items.{branch, jump, back, branch_back, print_text, print_character, print_number, new_line}
use Rattle.code_drafts.specs.Items.{quit, apply_prefix, keep, first_equal, also_equal, drop_below}
use Rattle.code_drafts.specs.Items as items
use Rattle.code_items.specs.Statements.{Exits, exits_to, action_items, return_true}

abbrev x : Variable
x = Local 0

abbrev y : Variable
y = Local 1

abbrev g : Variable
g = Global 0

-- outside of loops
abbrev outside : Exits
outside = exits_to 0 0

-- F();
abbrev called : Value
called = call 7 none

-- Expressions

-- x = y + 5;
sum_assigned : action_items outside 0 (effect (assign x (binary binaries.Add (read y) (number 5))))
    ≡ operate binaries.Add (items.variable y) (items.number 5) (into x) ∷ []
sum_assigned = refl

-- x = y + -5;
negative_added : action_items outside 0
    (effect (assign x (binary binaries.Add (read y) (prefixed prefixes.Minus (number 5)))))
    ≡ operate binaries.Add (items.variable y) (items.number 65531) (into x) ∷ []
negative_added = refl

-- x = -y;
negated : action_items outside 0 (effect (assign x (prefixed prefixes.Minus (read y))))
    ≡ apply_prefix prefixes.Minus (items.variable y) (into x) ∷ []
negated = refl

-- ++x;
stepped : action_items outside 0 (effect (step_before steps.Increment x)) ≡ step steps.Increment x nowhere ∷ []
stepped = refl

-- x = x++; leaves x as it was
own_step : action_items outside 0 (effect (assign x (step_after x steps.Increment)))
    ≡ move (items.variable x) push ∷ step steps.Increment x nowhere ∷ move pushed (into x) ∷ []
own_step = refl

-- x = y = 3;
assigned_twice : action_items outside 0 (effect (assign x (assign y (number 3))))
    ≡ move (items.number 3) push ∷ keep y ∷ move pushed (into x) ∷ []
assigned_twice = refl

-- F(x, 1);
called_alone : action_items outside 0 (effect (call 7 (more (read x) (more (number 1) none))))
    ≡ items.call 7 (items.variable x ∷ items.number 1 ∷ []) nowhere ∷ []
called_alone = refl

-- print x - F(); where the call cannot change x
kept_later : action_items outside 0 (print (number_of (binary binaries.Subtract (read x) called) ∷ []))
    ≡ items.call 7 [] push
    ∷ operate binaries.Subtract (items.variable x) pushed push
    ∷ print_number pushed
    ∷ []
kept_later = refl

-- print x / F(); where the divisor is tested
divisor_aside : action_items outside 0 (print (number_of (binary binaries.Divide (read x) called) ∷ []))
    ≡ items.call 7 [] aside
    ∷ operate_aside binaries.Divide (items.variable x) push
    ∷ print_number pushed
    ∷ []
divisor_aside = refl

-- print g - F(); where it may change g
changed_later : action_items outside 0 (print (number_of (binary binaries.Subtract (read g) called) ∷ []))
    ≡ move (items.variable g) push
    ∷ items.call 7 [] aside
    ∷ operate_aside binaries.Subtract pushed push
    ∷ print_number pushed
    ∷ []
changed_later = refl

-- x = a->y;
entry_read : action_items outside 0 (effect (assign x (source.entry widths.Byte 3 (read y))))
    ≡ items.entry widths.Byte 3 (items.variable y) (into x) ∷ []
entry_read = refl

-- a->x = 5;
entry_assigned : action_items outside 0 (effect (source.assign_entry widths.Byte 3 (read x) (number 5)))
    ≡ items.assign_entry widths.Byte 3 (items.variable x) (items.number 5) nowhere ∷ []
entry_assigned = refl

-- x = w-->2 + y;
entry_operand : action_items outside 0
    (effect (assign x (binary binaries.Add (source.entry widths.Word 4 (number 2)) (read y))))
    ≡ items.entry widths.Word 4 (items.number 2) push
    ∷ operate binaries.Add pushed (items.variable y) (into x)
    ∷ []
entry_operand = refl

-- w-->g = F(); where the call may change g
index_changed_later : action_items outside 0 (effect (source.assign_entry widths.Word 4 (read g) called))
    ≡ move (items.variable g) push
    ∷ items.call 7 [] aside
    ∷ items.assign_entry_aside widths.Word 4 pushed pushed nowhere
    ∷ []
index_changed_later = refl

-- x = w-->(y + 1);
index_aside : action_items outside 0
    (effect (assign x (source.entry widths.Word 4 (binary binaries.Add (read y) (number 1)))))
    ≡ operate binaries.Add (items.variable y) (items.number 1) aside
    ∷ items.entry_aside widths.Word 4 (into x)
    ∷ []
index_aside = refl

-- x = w-->(y++); which keeps its length
step_aside : action_items outside 0 (effect (assign x (source.entry widths.Word 4 (step_after y steps.Increment))))
    ≡ move (items.variable y) push
    ∷ step steps.Increment y nowhere
    ∷ move pushed aside
    ∷ items.entry_aside widths.Word 4 (into x)
    ∷ []
step_aside = refl

-- w-->x = y + 1;
word_aside : action_items outside 0
    (effect (source.assign_entry widths.Word 4 (read x) (binary binaries.Add (read y) (number 1))))
    ≡ operate binaries.Add (items.variable y) (items.number 1) aside
    ∷ items.assign_entry_aside widths.Word 4 (items.variable x) pushed nowhere
    ∷ []
word_aside = refl

-- w-->(x + 1) = 5;
word_in_place : action_items outside 0
    (effect (source.assign_entry widths.Word 4 (binary binaries.Add (read x) (number 1)) (number 5)))
    ≡ operate binaries.Add (items.variable x) (items.number 1) aside
    ∷ items.assign_entry_aside widths.Word 4 pushed (items.number 5) nowhere
    ∷ []
word_in_place = refl

-- w-->(x + 1) = y + 1;
last_of_both_aside : action_items outside 0
    (effect (source.assign_entry widths.Word 4 (binary binaries.Add (read x) (number 1))
    (binary binaries.Add (read y) (number 1))))
    ≡ operate binaries.Add (items.variable x) (items.number 1) push
    ∷ operate binaries.Add (items.variable y) (items.number 1) aside
    ∷ items.assign_entry_aside widths.Word 4 pushed pushed nowhere
    ∷ []
last_of_both_aside = refl

-- Conditions

-- if (x < y && g) y++;
both_tested : action_items outside 0
    (if_then (binary binaries.AndAlso (compare comparisons.Less (read x) (read y)) (read g))
    (effect (step_after y steps.Increment)))
    ≡ branch less (items.variable x ∷ items.variable y ∷ []) false 3
    ∷ branch is_zero (items.variable g ∷ []) true 3
    ∷ step steps.Increment y nowhere
    ∷ []
both_tested = refl

-- if (x >= y || ~~g) quit;
one_tested : action_items outside 0
    (if_then (binary binaries.OrElse (compare comparisons.GreaterOrEqual (read x) (read y))
    (prefixed prefixes.Not (read g))) source.quit)
    ≡ branch less (items.variable x ∷ items.variable y ∷ []) false 2
    ∷ branch is_zero (items.variable g ∷ []) false 3
    ∷ quit
    ∷ []
one_tested = refl

-- if (x) print "a"; else print "b";
either_printed : action_items outside 0
    (if_else (read x) (print (text (codes "a") ∷ [])) (print (text (codes "b") ∷ [])))
    ≡ branch is_zero (items.variable x ∷ []) true 3
    ∷ print_text (codes "a")
    ∷ jump 4
    ∷ print_text (codes "b")
    ∷ []
either_printed = refl

-- while (x ~= 1 or 2) x = F(x, g);
called_again : action_items outside 0
    (while_do (equal equalities.NotEqual (read x) (more (number 1) (more (number 2) none)))
    (effect (assign x (call 7 (more (read x) (more (read g) none))))))
    ≡ branch same (items.variable x ∷ items.number 1 ∷ items.number 2 ∷ []) true 3
    ∷ items.call 7 (items.variable x ∷ items.variable g ∷ []) (into x)
    ∷ back 0
    ∷ []
called_again = refl

-- while (true) F();
called_forever : action_items outside 0 (while_do (number 1) (effect called)) ≡ items.call 7 [] nowhere ∷ back 0 ∷ []
called_forever = refl

-- x = y == 1;
truth_assigned : action_items outside 0 (effect (assign x (equal equalities.Equal (read y) (more (number 1) none))))
    ≡ branch same (items.variable y ∷ items.number 1 ∷ []) true 3
    ∷ move (items.number 0) (into x)
    ∷ jump 4
    ∷ move (items.number 1) (into x)
    ∷ []
truth_assigned = refl

-- if (a->x) F();
entry_tested : action_items outside 0 (if_then (source.entry widths.Byte 3 (read x)) (effect called))
    ≡ items.entry widths.Byte 3 (items.variable x) push
    ∷ branch is_zero (pushed ∷ []) true 3
    ∷ items.call 7 [] nowhere
    ∷ []
entry_tested = refl

-- if (x == 1 or 2 or 3 or 4) F();
many_in_place : action_items outside 0
    (if_then (equal equalities.Equal (read x)
    (more (number 1) (more (number 2) (more (number 3) (more (number 4) none))))) (effect called))
    ≡ branch same (items.variable x ∷ items.number 1 ∷ items.number 2 ∷ items.number 3 ∷ []) true 2
    ∷ branch same (items.variable x ∷ items.number 4 ∷ []) false 3
    ∷ items.call 7 [] nowhere
    ∷ []
many_in_place = refl

-- if (x ~= 1 or 2 or 3 or y or -5) F();
none_in_place : action_items outside 0
    (if_then (equal equalities.NotEqual (read x)
    (more (number 1) (more (number 2) (more (number 3) (more (read y) (more (prefixed prefixes.Minus (number 5))
    none)))))) (effect called))
    ≡ branch same (items.variable x ∷ items.number 1 ∷ items.number 2 ∷ items.number 3 ∷ []) true 3
    ∷ branch same (items.variable x ∷ items.variable y ∷ items.number 65531 ∷ []) true 3
    ∷ items.call 7 [] nowhere
    ∷ []
none_in_place = refl

-- if (x == 1 or 2 or 3 or F()) F();
many_compared : action_items outside 0
    (if_then (equal equalities.Equal (read x)
    (more (number 1) (more (number 2) (more (number 3) (more called none))))) (effect called))
    ≡ move (items.variable x) push
    ∷ move (items.number 1) push
    ∷ first_equal
    ∷ move (items.number 2) push
    ∷ also_equal
    ∷ move (items.number 3) push
    ∷ also_equal
    ∷ items.call 7 [] push
    ∷ also_equal
    ∷ drop_below
    ∷ branch is_zero (pushed ∷ []) true 12
    ∷ items.call 7 [] nowhere
    ∷ []
many_compared = refl

-- Loops and `switch`

-- for (x = 0: x < 3: x++) { if (x == y) continue; F(x); }
counted_loop : action_items outside 0
    (for_loop (Some (assign x (number 0))) (Some (compare comparisons.Less (read x) (number 3)))
    (Some (step_after x steps.Increment)) (source.block
    (next (if_then (equal equalities.Equal (read x) (more (read y) none)) source.continue_on)
    (next (effect (call 7 (more (read x) none))) stop))))
    ≡ move (items.number 0) (into x)
    ∷ branch less (items.variable x ∷ items.number 3 ∷ []) false 7
    ∷ branch same (items.variable x ∷ items.variable y ∷ []) false 4
    ∷ jump 5
    ∷ items.call 7 (items.variable x ∷ []) nowhere
    ∷ step steps.Increment x nowhere
    ∷ back 1
    ∷ []
counted_loop = refl

-- for (::) F();
endless_loop : action_items outside 0 (for_loop None None None (effect called))
    ≡ items.call 7 [] nowhere ∷ back 0 ∷ []
endless_loop = refl

-- do { if (x) break; F(); } until (g);
tested_behind : action_items outside 0
    (do_until (source.block (next (if_then (read x) source.break_out) (next (effect called) stop))) (read g))
    ≡ branch is_zero (items.variable x ∷ []) true 2
    ∷ jump 4
    ∷ items.call 7 [] nowhere
    ∷ branch_back is_zero (items.variable g ∷ []) true 0
    ∷ []
tested_behind = refl

-- do F(); until (F() > y);
compared_behind : action_items outside 3
    (do_until (effect called) (compare comparisons.Greater called (read y)))
    ≡ items.call 7 [] nowhere
    ∷ items.call 7 [] push
    ∷ branch_back greater (pushed ∷ items.variable y ∷ []) false 3
    ∷ []
compared_behind = refl

-- do F(); until (x == 1 or y);
few_behind : action_items outside 3
    (do_until (effect called) (equal equalities.Equal (read x) (more (number 1) (more (read y) none))))
    ≡ items.call 7 [] nowhere
    ∷ branch_back same (items.variable x ∷ items.number 1 ∷ items.variable y ∷ []) false 3
    ∷ []
few_behind = refl

-- do F(); until (F());
called_behind : action_items outside 3 (do_until (effect called) called)
    ≡ items.call 7 [] nowhere
    ∷ items.call 7 [] push
    ∷ branch_back is_zero (pushed ∷ []) true 3
    ∷ []
called_behind = refl

-- do F(); until (x--);
stepped_behind : action_items outside 3 (do_until (effect called) (step_after x steps.Decrement))
    ≡ items.call 7 [] nowhere
    ∷ move (items.variable x) push
    ∷ step steps.Decrement x nowhere
    ∷ branch_back is_zero (pushed ∷ []) true 3
    ∷ []
stepped_behind = refl

-- do F(); until (~~(x + y));
not_behind : action_items outside 3
    (do_until (effect called) (prefixed prefixes.Not (binary binaries.Add (read x) (read y))))
    ≡ items.call 7 [] nowhere
    ∷ operate binaries.Add (items.variable x) (items.variable y) push
    ∷ branch_back is_zero (pushed ∷ []) false 3
    ∷ []
not_behind = refl

-- do F(); until (x && y); two tests, and a jump
both_behind : action_items outside 3
    (do_until (effect called) (source.binary binaries.AndAlso (read x) (read y)))
    ≡ items.call 7 [] nowhere
    ∷ branch is_zero (items.variable x ∷ []) true 6
    ∷ branch is_zero (items.variable y ∷ []) false 7
    ∷ back 3
    ∷ []
both_behind = refl

-- switch (x) { 1 to 5, 7, 8, 9, 10: y++; default: F(); }
grouped : action_items outside 0
    (switch_on (read x)
    (source.case (between 1 5 ∷ one 7 ∷ one 8 ∷ one 9 ∷ one 10 ∷ []) (next (effect (step_after y steps.Increment)) stop)
    (source.default_case (next (effect called) stop))))
    ≡ move (items.variable x) aside
    ∷ items.case less (1 ∷ []) true 3
    ∷ items.case greater (5 ∷ []) false 5
    ∷ items.case same (7 ∷ []) true 5
    ∷ items.case same (8 ∷ 9 ∷ 10 ∷ []) false 7
    ∷ step steps.Increment y nowhere
    ∷ jump 8
    ∷ items.call 7 [] nowhere
    ∷ []
grouped = refl

-- switch (F()) { 1: if (x) break; y++; 2 to 4: quit; }
chosen_by_call : action_items outside 0
    (switch_on called
    (source.case (one 1 ∷ [])
    (next (if_then (read x) source.break_out) (next (effect (step_after y steps.Increment)) stop))
    (source.case (between 2 4 ∷ []) (next source.quit stop) source.no_case)))
    ≡ items.call 7 [] aside
    ∷ items.case same (1 ∷ []) false 6
    ∷ branch is_zero (items.variable x ∷ []) true 4
    ∷ jump 9
    ∷ step steps.Increment y nowhere
    ∷ jump 9
    ∷ items.case less (2 ∷ []) true 9
    ∷ items.case greater (4 ∷ []) true 9
    ∷ quit
    ∷ []
chosen_by_call = refl

-- Other statements

-- print (char) x, y;
printed : action_items outside 0 (print (character_of (read x) ∷ number_of (read y) ∷ []))
    ≡ print_character (items.variable x) ∷ print_number (items.variable y) ∷ []
printed = refl

-- "a";
printed_alone : action_items outside 0 (text_alone (codes "a")) ≡ print_text (codes "a") ∷ new_line ∷ return_true ∷ []
printed_alone = refl

-- print_ret x;
printed_last : action_items outside 0 (print_return (number_of (read x) ∷ []))
    ≡ print_number (items.variable x) ∷ new_line ∷ return_true ∷ []
printed_last = refl

-- read t p; where t is array 2 and p array 5
line_read : action_items outside 0 (source.read_line 2 5) ≡ items.read_line 2 5 ∷ []
line_read = refl

-- return x;
returned : action_items outside 0 (return_value (read x)) ≡ items.return (items.variable x) ∷ []
returned = refl
