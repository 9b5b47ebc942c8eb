-- Walks, part by part, and what the code's values stand for.
use Rattle.std.proofs.Common.{◌≡◌, ℕ, List, [], ◌++◌, Option, refl, sym, ap, ◌∙◌}
use Rattle.std.specs.Prelude.{map, Result, Ok, Err, IfOk}
use Rattle.std.specs.Global.{Vec, Box}
use Rattle.syntax_trees.specs.declared.tree.Binary.{Binary}
use Rattle.syntax_trees.specs.declared.tree.Comparison.{Comparison}
use Rattle.syntax_trees.specs.declared.tree.Containment.{Containment}
use Rattle.syntax_trees.specs.declared.tree.Equality.{Equality}
use Rattle.syntax_trees.specs.declared.tree.Prefix.{Prefix}
use Rattle.syntax_trees.specs.declared.tree.Relative.{Relative}
use Rattle.syntax_trees.specs.declared.tree.Step.{Step}
use Rattle.syntax_trees.specs.declared.tree.Width.{Width}
use Rattle.meaning.specs.declared.resolved.Variable.{Variable}
use Rattle.meaning.specs.declared.resolved.Value as code_value
use Rattle.meaning.specs.declared.resolved.Value.TheVariants as made
use Rattle.meaning.specs.declared.resolved.Value.TheFolds.{fold-roll-Value}
use Rattle.meaning.specs.Resolved as values
use Rattle.meaning.specs.Resolved.{Value}
use Rattle.meaning.specs.Views.{value_of, value_layer, values_of, chained, propertied}
use Rattle.checker_values.specs.declared.binding.Binding.{Binding}
use Rattle.checker_values.specs.declared.breach.Breach.{Breach}
use Rattle.checker_values.specs.declared.noting.Tally.{Tally}
use Rattle.checker_values.specs.Noted.{noted}
use Rattle.checker_values.proofs.Noted.{noted_none, noted_two}
use Rattle.checker_values.specs.Walk.{IsWalked, value_link}

-- a part that breaks no rule and notes none
pub leaf : {A : Type 0} (m : Tally) (x : A) → IsWalked [] m m x x
leaf m x = record { value = refl; breaches = sym (noted_none m) }

-- a part, by what it gives and what it notes
pub walked : {A : Type 0} {bs : List Breach} {m n : Tally} {x y : A} → x ≡ y → n ≡ noted m bs
    → IsWalked bs m n x y
walked v b = record { value = v; breaches = b }

-- a name, by what it stands for
pub named_part : {A : Type 0} (f : Option Binding → A) (rules : Option Binding → List Breach)
    (found there : Option Binding) (x : A) {m n : Tally} → found ≡ there → x ≡ f found
    → n ≡ noted m (rules found)
    → IsWalked (rules there) m n x (f there)
named_part f rules found there x {m = m} same v b = record {
  value = v ∙ ap f same;
  breaches = b ∙ ap (λ y. noted m (rules y)) same;
}

-- a value that was made of a part, where memory was not refused
pub made_walked : {E : Type 0} {bs : List Breach} {m n : Tally} {x y : Value} (r : Result code_value.Value E)
    → IfOk r (λ v. value_of v ≡ x) → IsWalked bs m n x y → IfOk r (λ v. IsWalked bs m n (value_of v) y)
made_walked (Ok v) h w = record { value = h ∙ w.value; breaches = w.breaches }
made_walked (Err e) h w = tt

-- the same in a box
pub boxed_walked : {E : Type 0} {bs : List Breach} {m n : Tally} {x y : Value}
    (r : Result (Box code_value.Value) E) → IfOk r (λ v. value_of v.value ≡ x) → IsWalked bs m n x y
    → IfOk r (λ v. IsWalked bs m n (value_of v.value) y)
boxed_walked (Ok v) h w = record { value = h ∙ w.value; breaches = w.breaches }
boxed_walked (Err e) h w = tt

-- a value that was put in a box, where memory was not refused
pub kept_walked : {E : Type 0} {bs : List Breach} {m n : Tally} {y : Value}
    (r : Result (Box code_value.Value) E) (x : code_value.Value) → IfOk r (λ v. v.value ≡ x)
    → IsWalked bs m n (value_of x) y → IfOk r (λ v. IsWalked bs m n (value_of v.value) y)
kept_walked (Ok v) x h w = record { value = ap value_of h ∙ w.value; breaches = w.breaches }
kept_walked (Err e) x h w = tt

-- and what it stands for
pub kept_value : {E : Type 0} {y : Value} (r : Result (Box code_value.Value) E) (x : code_value.Value)
    → IfOk r (λ v. v.value ≡ x) → value_of x ≡ y → IfOk r (λ v. value_of v.value ≡ y)
kept_value (Ok v) x h same = ap value_of h ∙ same
kept_value (Err e) x h same = tt

-- one part
pub one : {A B : Type 0} (f : A → B) {bs : List Breach} {m n : Tally} {x y : A} → IsWalked bs m n x y
    → IsWalked bs m n (f x) (f y)
one f w = record { value = ap f w.value; breaches = w.breaches }

-- one part and then another
pub two : {A B C : Type 0} (f : A → B → C) {bs cs : List Breach} {m n o : Tally} {x y : A} {u v : B}
    → IsWalked bs m n x y → IsWalked cs n o u v → IsWalked (bs ++ cs) m o (f x u) (f y v)
two f {bs = bs} {cs = cs} {m = m} {n = n} {o = o} {y = y} {u = u} w z = record {
  value = ap (λ a. f a u) w.value ∙ ap (λ b. f y b) z.value;
  breaches = noted_two m n o bs cs w.breaches z.breaches;
}

-- one part and then two others
pub three : {A B C D : Type 0} (f : A → B → C → D) {bs cs ds : List Breach} {m n o q : Tally} {x y : A}
    {u v : B} {s t : C} → IsWalked bs m n x y → IsWalked cs n o u v → IsWalked ds o q s t
    → IsWalked (bs ++ (cs ++ ds)) m q (f x u s) (f y v t)
three {B = B} {C = C} f a b c = two (λ x (us : B × C). f x us.0 us.1) a (two (λ (u : B) (s : C). (u, s)) b c)

-- a part before a result
pub before : {A B E : Type 0} (f : A → B) (r : Result A E) (bs cs : List Breach) (m n o : Tally) (y : B)
    → n ≡ noted m bs → IfOk r (λ x. IsWalked cs n o (f x) y) → IfOk r (λ x. IsWalked (bs ++ cs) m o (f x) y)
before f (Ok x) bs cs m n o y h w = record { value = w.value; breaches = noted_two m n o bs cs h w.breaches }
before f (Err e) bs cs m n o y h w = tt

-- rules of a part that resolves to nothing, and then a part
pub after : {A : Type 0} (bs cs : List Breach) (m n o : Tally) {x y : A} → n ≡ noted m bs
    → IsWalked cs n o x y → IsWalked (bs ++ cs) m o x y
after bs cs m n o h w = record { value = w.value; breaches = noted_two m n o bs cs h w.breaches }

-- What is made of parts

pub made_number : (n : ℕ) → value_of (made.Number n) ≡ values.number n
made_number n = ap value_of (sym (made.rolls-Number n)) ∙ fold-roll-Value Value value_layer _

pub made_call : (n : ℕ) (vs : Vec code_value.Value)
    → value_of (made.Call n vs) ≡ values.call n (values_of (map value_of vs.items))
made_call n vs = ap value_of (sym (made.rolls-Call n vs)) ∙ fold-roll-Value Value value_layer _

pub made_prefixed : (op : Prefix) (v : Box code_value.Value)
    → value_of (made.Prefixed op v) ≡ values.prefixed op (value_of v.value)
made_prefixed op v = ap value_of (sym (made.rolls-Prefixed op v)) ∙ fold-roll-Value Value value_layer _

pub made_step_before : (op : Step) (x : Variable) → value_of (made.StepBefore op x) ≡ values.step_before op x
made_step_before op x = ap value_of (sym (made.rolls-StepBefore op x)) ∙ fold-roll-Value Value value_layer _

pub made_step_after : (x : Variable) (op : Step) → value_of (made.StepAfter x op) ≡ values.step_after x op
made_step_after x op = ap value_of (sym (made.rolls-StepAfter x op)) ∙ fold-roll-Value Value value_layer _

pub made_chain : (a : Box code_value.Value) (op : Binary) (b : Box code_value.Value)
    (ls : Vec (Binary × code_value.Value))
    → value_of (made.Chain a op b ls) ≡ chained (values.binary op (value_of a.value) (value_of b.value))
    (map value_link ls.items)
made_chain a op b ls = ap value_of (sym (made.rolls-Chain a op b ls)) ∙ fold-roll-Value Value value_layer _

pub made_compare : (a : Box code_value.Value) (op : Comparison) (b : Box code_value.Value)
    → value_of (made.Compare a op b) ≡ values.compare op (value_of a.value) (value_of b.value)
made_compare a op b = ap value_of (sym (made.rolls-Compare a op b)) ∙ fold-roll-Value Value value_layer _

pub made_equal : (a : Box code_value.Value) (op : Equality) (b : Box code_value.Value) (vs : Vec code_value.Value)
    → value_of (made.Equal a op b vs) ≡ values.equal op (value_of a.value)
    (values.more (value_of b.value) (values_of (map value_of vs.items)))
made_equal a op b vs = ap value_of (sym (made.rolls-Equal a op b vs)) ∙ fold-roll-Value Value value_layer _

pub made_assign : (x : Variable) (v : Box code_value.Value)
    → value_of (made.Assign x v) ≡ values.assign x (value_of v.value)
made_assign x v = ap value_of (sym (made.rolls-Assign x v)) ∙ fold-roll-Value Value value_layer _

pub made_entry : (w : Width) (a : ℕ) (i : Box code_value.Value)
    → value_of (made.Entry w a i) ≡ values.entry w a (value_of i.value)
made_entry w a i = ap value_of (sym (made.rolls-Entry w a i)) ∙ fold-roll-Value Value value_layer _

pub made_relative : (r : Relative) (v : Box code_value.Value)
    → value_of (made.Relative r v) ≡ values.relative r (value_of v.value)
made_relative r v = ap value_of (sym (made.rolls-Relative r v)) ∙ fold-roll-Value Value value_layer _

pub made_contained : (a : Box code_value.Value) (op : Containment) (b : Box code_value.Value)
    → value_of (made.Contained a op b) ≡ values.contained op (value_of a.value) (value_of b.value)
made_contained a op b = ap value_of (sym (made.rolls-Contained a op b)) ∙ fold-roll-Value Value value_layer _

pub made_property : (v : Box code_value.Value) (n : ℕ) (ns : Vec ℕ)
    → value_of (made.Property v n ns) ≡ propertied (values.property (value_of v.value) n) ns.items
made_property v n ns = ap value_of (sym (made.rolls-Property v n ns)) ∙ fold-roll-Value Value value_layer _

pub made_property_size : (v : Box code_value.Value) (n : ℕ)
    → value_of (made.PropertySize v n) ≡ values.property_size (value_of v.value) n
made_property_size v n = ap value_of (sym (made.rolls-PropertySize v n)) ∙ fold-roll-Value Value value_layer _

pub made_property_word : (v : Box code_value.Value) (n : ℕ) (i : Box code_value.Value)
    → value_of (made.PropertyWord v n i) ≡ values.property_word (value_of v.value) n (value_of i.value)
made_property_word v n i = ap value_of (sym (made.rolls-PropertyWord v n i)) ∙ fold-roll-Value Value value_layer _

pub made_assign_property : (v : Box code_value.Value) (n : ℕ) (w : Box code_value.Value)
    → value_of (made.AssignProperty v n w) ≡ values.assign_property (value_of v.value) n (value_of w.value)
made_assign_property v n w = ap value_of (sym (made.rolls-AssignProperty v n w)) ∙ fold-roll-Value Value value_layer _
