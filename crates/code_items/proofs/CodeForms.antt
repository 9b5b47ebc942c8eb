-- What is written for assignments, calls, operations and comparisons, as the code comes to them: with its own
-- operands, destinations and tests.
use Rattle.std.proofs.Common.{◌≡◌, ℕ, ◌-◌, List, [], ◌∷◌, ◌++◌, length, Bool, true, false, sym, ap, subst, ◌∙◌, refl}
use Rattle.std.specs.Prelude.{nat_lt, if◌then◌else◌}
use Rattle.syntax_trees.specs.declared.tree.Binary.{Binary}
use Rattle.syntax_trees.specs.declared.tree.Binary.TheVariants as binaries
use Rattle.syntax_trees.specs.declared.tree.Comparison.{Comparison}
use Rattle.syntax_trees.specs.declared.tree.Equality.{Equality}
use Rattle.meaning.specs.declared.resolved.Variable.{Variable}
use Rattle.meaning.specs.Resolved.{Value, Values}
use Rattle.meaning.specs.Resolved as source
use Rattle.meaning.specs.Accepted.{count_of}
use Rattle.code_drafts.specs.Items.{Item, Operand, Destination, Test, pushed, into, aside, branch_true, alone}
use Rattle.code_drafts.specs.Items.{operands_of, right_place, operation_item, are_more_pushed, call_item, arguments_items}
use Rattle.code_drafts.specs.Items.{if_pushed, operands_items, same_items, comparison_test, comparison_when}
use Rattle.code_drafts.specs.Items.{equality_when, same}
use Rattle.code_drafts.specs.Items as items
use Rattle.code_drafts.specs.Code.{as_operand, as_operands, as_destination}
use Rattle.code_drafts.specs.declared.item.Destination as code_destination
use Rattle.code_drafts.specs.declared.item.Destination.TheVariants as destinations
use Rattle.code_drafts.specs.declared.item.Operand as code_operand
use Rattle.code_drafts.specs.declared.wanted.Wanted.{Wanted}
use Rattle.code_drafts.specs.declared.wanted.Wanted.TheVariants.{Word, Branch}
use Rattle.code_drafts.specs.Writing.{wanted_items, alones, ReducesWord, ReducesTruth, WritesBefore}
use Rattle.code_items.specs.ValueWriting.{pushes, operand_items, folded_items, ReducesLink, ReducesComparison, ReducesEquality}
use Rattle.code_items.proofs.OperationForms.{not_logical, operate_link, compare_link}
use Rattle.code_items.proofs.Values.{call_more, and_link_at, or_link_at}
use Rattle.code_items.proofs.Assigned.{assign_nowhere, assign_pushed, assign_kept, assign_aside}
use Rattle.code_drafts.proofs.WrittenItems.{as_items}
use Rattle.code_items.proofs.Alternatives.{few_link, placed_link, many_link}

-- Assignments

pub assigned_nowhere : (c c1 c2 : List Item) (wanted : Wanted) (x : Variable) (v : Value)
    (d : code_destination.Destination) → d ≡ destinations.Nowhere → ReducesWord c c1 wanted (as_destination d)
    → WritesBefore c1 c2 (wanted_items (Word (destinations.Into x)) v)
    → WritesBefore c c2 (wanted_items wanted (source.assign x v))
assigned_nowhere c c1 c2 wanted x v d is reduces w =
    let P : code_destination.Destination → Type 0 = λ d. ReducesWord c c1 wanted (as_destination d) in
    assign_nowhere c c1 c2 wanted x v (subst P is reduces) w

pub assigned_pushed : (c c1 c2 c3 : List Item) (wanted : Wanted) (x : Variable) (v : Value)
    (d : code_destination.Destination) → d ≡ destinations.Push → ReducesWord c c1 wanted (as_destination d)
    → c2 ≡ c1 ++ items.keep x ∷ [] → WritesBefore c2 c3 (wanted_items (Word destinations.Push) v)
    → WritesBefore c c3 (wanted_items wanted (source.assign x v))
assigned_pushed c c1 c2 c3 wanted x v d is reduces e w =
    let P : code_destination.Destination → Type 0 = λ d. ReducesWord c c1 wanted (as_destination d) in
    assign_pushed c c1 c2 c3 wanted x v (subst P is reduces) e w

pub assigned_kept : (c c1 c2 c3 c4 : List Item) (wanted : Wanted) (x y : Variable) (v : Value)
    (d : code_destination.Destination) → d ≡ destinations.Into y → ReducesWord c c1 wanted (as_destination d)
    → c2 ≡ c1 ++ items.move pushed (into y) ∷ [] → c3 ≡ c2 ++ items.keep x ∷ []
    → WritesBefore c3 c4 (wanted_items (Word destinations.Push) v)
    → WritesBefore c c4 (wanted_items wanted (source.assign x v))
assigned_kept c c1 c2 c3 c4 wanted x y v d is reduces e2 e3 w =
    let P : code_destination.Destination → Type 0 = λ d. ReducesWord c c1 wanted (as_destination d) in
    assign_kept c c1 c2 c3 c4 wanted x y v (subst P is reduces) e2 e3 w

pub assigned_aside : (c c1 c2 c3 c4 : List Item) (wanted : Wanted) (x : Variable) (v : Value)
    (d : code_destination.Destination) → d ≡ destinations.Aside → ReducesWord c c1 wanted (as_destination d)
    → c2 ≡ c1 ++ items.move pushed aside ∷ [] → c3 ≡ c2 ++ items.keep x ∷ []
    → WritesBefore c3 c4 (wanted_items (Word destinations.Push) v)
    → WritesBefore c c4 (wanted_items wanted (source.assign x v))
assigned_aside c c1 c2 c3 c4 wanted x v d is reduces e2 e3 w =
    let P : code_destination.Destination → Type 0 = λ d. ReducesWord c c1 wanted (as_destination d) in
    assign_aside c c1 c2 c3 c4 wanted x v (subst P is reduces) e2 e3 w

-- Calls

pub call_written : (c c1 c2 c3 : List Item) (wanted : Wanted) (d : Destination) (r : ℕ) (vs : Values)
    (none os : List code_operand.Operand) (several : Bool) (i : Item) → none ≡ [] → ReducesWord c c1 wanted d
    → as_operands os ≡ as_operands none ++ operands_of vs → several ≡ are_more_pushed (as_operands os)
    → i ≡ call_item several r (as_operands os) d → c2 ≡ c1 ++ i ∷ []
    → WritesBefore c2 c3 (λ n at. arguments_items several at vs)
    → WritesBefore c c3 (wanted_items wanted (source.call r vs))
call_written c c1 c2 c3 wanted d r vs none os several i empty reduces added counted item e w =
    let are : as_operands os ≡ operands_of vs =
    added ∙ ap (λ (l : List code_operand.Operand). as_operands l ++ operands_of vs) empty in
    let so = counted ∙ ap are_more_pushed are in
    call_more c c1 c2 c3 wanted d r vs reduces
    (e ∙ ap (λ x. c1 ++ x ∷ [])
    (item ∙ ap (λ l. call_item several r l d) are ∙ ap (λ b. call_item b r (operands_of vs) d) so))
    (subst (λ b. WritesBefore c2 c3 (λ n at. arguments_items b at vs)) so w)

-- Operations

pub and_written : (c c1 c2 : List Item) (wanted w : Wanted) (when : Bool) (target end : ℕ) (op : Binary)
    (o : Operand) (b : Value) → op ≡ binaries.AndAlso → ReducesTruth c c1 wanted when target → end ≡ length c1
    → WritesBefore c1 c2 (wanted_items (Branch when target) b) → w ≡ Branch false (if when then end else target)
    → ReducesLink c c2 wanted w op o b
and_written c c1 c2 wanted w when target end op o b is reduces ee wb first =
    subst (λ w. ReducesLink c c2 wanted w op o b) (sym first)
    (and_link_at c c1 c2 wanted when target end _ op o b is reduces ee wb refl)

pub or_written : (c c1 c2 : List Item) (wanted w : Wanted) (when : Bool) (target end : ℕ) (op : Binary)
    (o : Operand) (b : Value) → op ≡ binaries.OrElse → ReducesTruth c c1 wanted when target → end ≡ length c1
    → WritesBefore c1 c2 (wanted_items (Branch when target) b) → w ≡ Branch true (if when then target else end)
    → ReducesLink c c2 wanted w op o b
or_written c c1 c2 wanted w when target end op o b is reduces ee wb first =
    subst (λ w. ReducesLink c c2 wanted w op o b) (sym first)
    (or_link_at c c1 c2 wanted when target end _ op o b is reduces ee wb refl)

pub operation_written : (c c1 c2 c3 : List Item) (wanted : Wanted) (d place : Destination) (op : Binary)
    (o ob : Operand) (b : Value) (i : Item) → (op ≡ binaries.AndAlso → ⊥) → (op ≡ binaries.OrElse → ⊥) → ReducesWord c
    c1 wanted d
    → ob ≡ alone b → place ≡ right_place op o → i ≡ operation_item place op o ob d → c2 ≡ c1 ++ i ∷ []
    → WritesBefore c2 c3 (operand_items place ob b)
    → ReducesLink c c3 wanted (Word destinations.Push) op o b
operation_written c c1 c2 c3 wanted d place op o ob b i not_and not_or reduces eb is item e wb =
    operate_link c c1 c2 c3 wanted d op o ob b (not_logical op not_and not_or) reduces eb
    (e ∙ ap (λ x. c1 ++ x ∷ []) (item ∙ ap (λ p. operation_item p op o ob d) is))
    (subst (λ p. WritesBefore c2 c3 (operand_items p ob b)) is wb)

-- Comparisons

pub comparison_written : (c c1 c2 c3 : List Item) (wanted : Wanted) (when known : Bool) (target : ℕ)
    (op : Comparison) (test : Test) (o ob : code_operand.Operand) (os : List code_operand.Operand) (b : Value)
    → ReducesTruth c c1 wanted when target → as_operand ob ≡ alone b → os ≡ o ∷ ob ∷ []
    → test ≡ comparison_test op → known ≡ comparison_when op when
    → c2 ≡ c1 ++ items.branch test (as_operands os) known target ∷ [] → WritesBefore c2 c3 (pushes (as_operand ob) b)
    → ReducesComparison c c3 wanted op (as_operand o) b
comparison_written c c1 c2 c3 wanted when known target op test o ob os b reduces eb are test_is known_is e wb =
    compare_link c c1 c2 c3 wanted when target op (as_operand o) (as_operand ob) b reduces eb
    (e ∙ ap (λ x. c1 ++ items.branch x (as_operands os) known target ∷ []) test_is
    ∙ ap (λ l. c1 ++ items.branch (comparison_test op) (as_operands l) known target ∷ []) are
    ∙ ap (λ w. c1 ++ items.branch (comparison_test op) (as_operand o ∷ as_operand ob ∷ []) w target ∷ []) known_is) wb

-- all right sides in one instruction
pub few_written : (c c1 c2 c3 : List Item) (wanted : Wanted) (when known few : Bool) (target : ℕ) (op : Equality)
    (oa ob : code_operand.Operand) (sides os : List code_operand.Operand) (bs : Values)
    → few ≡ nat_lt (count_of bs) 3 → few ≡ true → ReducesTruth c c1 wanted when target → sides ≡ oa ∷ ob ∷ []
    → as_operands os ≡ as_operands sides ++ operands_of bs → known ≡ equality_when op when
    → c2 ≡ c1 ++ items.branch same (as_operands os) known target ∷ []
    → WritesBefore c2 c3 (λ n at. operands_items at bs)
    → ReducesEquality c c3 wanted op (as_operand oa) (as_operand ob) bs
few_written c c1 c2 c3 wanted when known few target op oa ob sides os bs counted is reduces are added known_is e wb =
    few_link c c1 c2 c3 wanted when target op (as_operand oa) (as_operand ob) bs (sym counted ∙ is) reduces
    (e ∙ ap (λ l. c1 ++ items.branch same l known target ∷ [])
    (added ∙ ap (λ (l : List code_operand.Operand). as_operands l ++ operands_of bs) are)
    ∙ ap (λ w. c1 ++ items.branch same (as_operand oa ∷ as_operand ob ∷ operands_of bs) w target ∷ []) known_is) wb

-- by several, where all stand in place
pub placed_written : (c c1 c2 : List Item) (wanted : Wanted) (when known few on : Bool) (target : ℕ) (op : Equality)
    (oa ob : code_operand.Operand) (sides os given : List code_operand.Operand) (bs : Values)
    → few ≡ nat_lt (count_of bs) 3 → few ≡ false → on ≡ if_pushed (as_operand oa) true false → on ≡ false
    → ReducesTruth c c1 wanted when target → sides ≡ ob ∷ [] → as_operands os ≡ as_operands sides ++ alones bs
    → given ≡ os → known ≡ equality_when op when
    → WritesBefore c1 c2 (λ n at. same_items (as_operand oa) (as_operands given) at known (n - target))
    → ReducesEquality c c2 wanted op (as_operand oa) (as_operand ob) bs
placed_written c c1 c2 wanted when known few on target op oa ob sides os given bs counted is pushes off reduces are
    added
    same_given known_is w =
    placed_link c c1 c2 wanted when target op (as_operand oa) (as_operand ob) bs (sym counted ∙ is)
    (sym pushes ∙ off) reduces
    (as_items (λ n at _. ap (λ l. same_items (as_operand oa) l at known (n - target))
    (ap as_operands same_given ∙ added ∙ ap (λ (l : List code_operand.Operand). as_operands l ++ alones bs) are)
    ∙ ap (λ v. same_items (as_operand oa) (as_operand ob ∷ alones bs) at v (n - target)) known_is) w)

-- each right side by itself
pub many_written : (c c1 c2 c3 c4 c5 : List Item) (wanted : Wanted) (when known few on : Bool) (target : ℕ)
    (op : Equality) (oa ob : Operand) (bs : Values) → few ≡ nat_lt (count_of bs) 3 → few ≡ false
    → on ≡ if_pushed oa true false → on ≡ true → ReducesTruth c c1 wanted when target → known ≡ equality_when op when
    → c2 ≡ c1 ++ branch_true pushed known target ∷ [] → c3 ≡ c2 ++ items.drop_below ∷ []
    → WritesBefore c3 c4 (λ n at. folded_items at bs) → c5 ≡ c4 ++ items.first_equal ∷ []
    → ReducesEquality c c5 wanted op oa ob bs
many_written c c1 c2 c3 c4 c5 wanted when known few on target op oa ob bs counted is pushes so reduces known_is e2 e3 wf
    e5 =
    many_link c c1 c2 c3 c4 c5 wanted when target op oa ob bs (sym counted ∙ is) (sym pushes ∙ so) reduces
    (e2 ∙ ap (λ w. c1 ++ branch_true pushed w target ∷ []) known_is) e3 wf e5
