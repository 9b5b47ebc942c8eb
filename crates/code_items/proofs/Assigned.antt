-- What is written for assignments.
use Rattle.std.proofs.Common.{◌≡◌, ℕ, List, [], ◌∷◌, ◌++◌, Bool, sym, append_assoc}
use Rattle.meaning.specs.declared.resolved.Variable.{Variable}
use Rattle.meaning.specs.Resolved.{Value}
use Rattle.meaning.specs.Resolved as source
use Rattle.code_drafts.specs.Items.{Item, pushed, push, into, aside, nowhere, branch_true, value_count, value_items}
use Rattle.code_drafts.specs.Items.{branch_items}
use Rattle.code_drafts.specs.Items as items
use Rattle.code_drafts.specs.declared.item.Destination.TheVariants as destinations
use Rattle.code_drafts.specs.declared.wanted.Wanted.{Wanted}
use Rattle.code_drafts.specs.declared.wanted.Wanted.TheVariants.{Word}
use Rattle.code_drafts.specs.Writing.{wanted_items, ReducesWord, WritesBefore}
use Rattle.code_drafts.proofs.Counts.{value_length}
use Rattle.code_drafts.proofs.WrittenItems.{one, both, then_one, after_one}

abbrev assign_word : (x : Variable) (v : Value) (at t : ℕ) (when : Bool) → branch_items at (source.assign x v) when t
    ≡ value_items at (source.assign x v) push ++ branch_true pushed when t ∷ []
assign_word x v at t when =
    sym (append_assoc (value_items at v push) (items.keep x ∷ []) (branch_true pushed when t ∷ []))

pub assign_nowhere : (c c1 c2 : List Item) (wanted : Wanted) (x : Variable) (v : Value)
    → ReducesWord c c1 wanted nowhere → WritesBefore c1 c2 (wanted_items (Word (destinations.Into x)) v)
    → WritesBefore c c2 (wanted_items wanted (source.assign x v))
assign_nowhere c c1 c2 wanted x v reduces w = (reduces (source.assign x v) (assign_word x v)).with_rest c2 w

pub assign_pushed : (c c1 c2 c3 : List Item) (wanted : Wanted) (x : Variable) (v : Value)
    → ReducesWord c c1 wanted push → c2 ≡ c1 ++ items.keep x ∷ []
    → WritesBefore c2 c3 (wanted_items (Word destinations.Push) v)
    → WritesBefore c c3 (wanted_items wanted (source.assign x v))
assign_pushed c c1 c2 c3 wanted x v reduces e w = (reduces (source.assign x v) (assign_word x v)).with_rest c3
    (after_one (value_count v push) (items.keep x) (λ n at. value_length v push at) e w)

pub assign_kept : (c c1 c2 c3 c4 : List Item) (wanted : Wanted) (x y : Variable) (v : Value)
    → ReducesWord c c1 wanted (into y) → c2 ≡ c1 ++ items.move pushed (into y) ∷ [] → c3 ≡ c2 ++ items.keep x ∷ []
    → WritesBefore c3 c4 (wanted_items (Word destinations.Push) v)
    → WritesBefore c c4 (wanted_items wanted (source.assign x v))
assign_kept c c1 c2 c3 c4 wanted x y v reduces e2 e3 w =
    (reduces (source.assign x v) (assign_word x v)).with_rest c4
    (both (value_count v push) (λ n at. value_length v push at)
    (then_one (items.keep x) (one c1 c2 (items.move pushed (into y)) e2) e3) w)

pub assign_aside : (c c1 c2 c3 c4 : List Item) (wanted : Wanted) (x : Variable) (v : Value)
    → ReducesWord c c1 wanted aside → c2 ≡ c1 ++ items.move pushed aside ∷ [] → c3 ≡ c2 ++ items.keep x ∷ []
    → WritesBefore c3 c4 (wanted_items (Word destinations.Push) v)
    → WritesBefore c c4 (wanted_items wanted (source.assign x v))
assign_aside c c1 c2 c3 c4 wanted x v reduces e2 e3 w =
    (reduces (source.assign x v) (assign_word x v)).with_rest c4
    (both (value_count v push) (λ n at. value_length v push at)
    (then_one (items.keep x) (one c1 c2 (items.move pushed aside) e2) e3) w)
