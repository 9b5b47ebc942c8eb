-- Operands that are still what was evaluated.
use Rattle.std.proofs.Common.{◌≡◌, ℕ, ◌+◌, ◌≤◌, List, [], ◌∷◌, length, Bool, true, false, refl, ap, ◌∙◌, subst, arith}
use Rattle.std.specs.Prelude.{if◌then◌else◌}
use Rattle.syntax_trees.specs.declared.tree.Binary.{Binary}
use Rattle.syntax_trees.specs.declared.tree.Binary.TheVariants as binaries
use Rattle.syntax_trees.specs.declared.tree.Prefix.{Prefix}
use Rattle.meaning.specs.declared.resolved.Variable.{Variable}
use Rattle.meaning.specs.Resolved.{Value, Values, none, more}
use Rattle.meaning.specs.Resolved as source
use Rattle.meaning.specs.World.{Situation, value_in}
use Rattle.meaning.specs.Meaning.{with_prefix}
use Rattle.code_drafts.specs.Items.{Operand, pushed, number, variable, Destination, push, aside, right_place}
use Rattle.code_drafts.specs.Items.{prefix_operand, operand_of, operands_of, if_pushed, change, is_in_place, all_in_place}
use Rattle.code_drafts.proofs.InPlace.{both_true, stays_placed}
use Rattle.code_items.specs.Stack.{Next, with_operand, with_operands}

-- what is known of an operand whose value was evaluated
abbrev pub Held : Operand → ℕ → Situation → Type 0
Held pushed v s = Unit {0}
Held (number n) v s = n ≡ v
Held (variable x) v s = value_in x s ≡ v

-- an operator before a number that was evaluated makes this word of it
pub prefix_held : (op : Prefix) (o : Operand) (v w : ℕ) (s last : Situation) → Held o v s → with_prefix op v ≡ w
    → Held (prefix_operand op o) w last
prefix_held op pushed v w s last h is = tt
prefix_held op (number n) v w s last h is = ap (with_prefix op) h ∙ is
prefix_held op (variable x) v w s last h is = tt

-- what holds of both places where a right operand may go holds of the one where it goes
pub place_is : (op : Binary) (o : Operand) (P : Destination → Type 0) → P push → P aside → P (right_place op o)
place_is binaries.Subtract pushed P on_top set_aside = set_aside
place_is binaries.Subtract (number n) P on_top set_aside = on_top
place_is binaries.Subtract (variable x) P on_top set_aside = on_top
place_is binaries.Divide o P on_top set_aside = set_aside
place_is binaries.Remainder o P on_top set_aside = set_aside
place_is op o P on_top set_aside = on_top

-- the stack with an operand
abbrev pub onto : Operand → ℕ → List ℕ → List ℕ
onto pushed v stack = v ∷ stack
onto (number n) v stack = stack
onto (variable x) v stack = stack

pub with_held : (o : Operand) (v : ℕ) (s : Situation) (words : List ℕ) (k : ℕ → List ℕ → Next) → Held o v s
    → with_operand o s (onto o v words) k ≡ k v words
with_held pushed v s words k h = refl
with_held (number n) v s words k h = ap (λ x. k x words) h
with_held (variable x) v s words k h = ap (λ x. k x words) h

pub onto_length : (o : Operand) (v : ℕ) (words : List ℕ) → length (onto o v words) ≤ length words + 1
onto_length pushed v words = omega arith
onto_length (number n) v words = omega arith
onto_length (variable x) v words = omega arith

abbrev pub AllHeld : List Operand → List ℕ → Situation → Type 0
AllHeld [] [] s = Unit {0}
AllHeld [] (v ∷ vs) s = ⊥
AllHeld (o ∷ os) [] s = ⊥
AllHeld (o ∷ os) (v ∷ vs) s = Held o v s × AllHeld os vs s

abbrev pub onto_all : List Operand → List ℕ → List ℕ → List ℕ
onto_all [] vs words = words
onto_all (o ∷ os) [] words = words
onto_all (o ∷ os) (v ∷ vs) words = onto_all os vs (onto o v words)

pub with_all_held : (os : List Operand) (vs : List ℕ) (s : Situation) (words : List ℕ) (k : List ℕ → List ℕ → Next)
    → AllHeld os vs s → with_operands os s (onto_all os vs words) k ≡ k vs words
with_all_held [] [] s words k h = refl
with_all_held [] (v ∷ vs) s words k h = absurd h
with_all_held (o ∷ os) [] s words k h = absurd h
with_all_held (o ∷ os) (v ∷ vs) s words k h =
    with_all_held os vs s (onto o v words) (λ vs rest. with_operand o s rest (λ v left. k (v ∷ vs) left)) h.1
    ∙ with_held o v s words (λ v left. k (v ∷ vs) left) h.0

-- an operand stays what it is where nothing changes the variable
pub held_after : (o : Operand) (v : ℕ) (s last : Situation)
    → ((x : Variable) → o ≡ variable x → value_in x last ≡ value_in x s) → Held o v s → Held o v last
held_after pushed v s last still h = tt
held_after (number n) v s last still h = h
held_after (variable x) v s last still h = still x refl ∙ h

-- an operator before an operand is no variable
pub no_variable : (op : Prefix) (o : Operand) (x : Variable) → prefix_operand op o ≡ variable x → ⊥
no_variable op pushed x e = absurd (cc)
no_variable op (number n) x e = absurd (cc)
no_variable op (variable y) x e = absurd (cc)

-- a variable that stands in place is not changed by what is evaluated later
pub not_changed : (v : Value) (later : Values) (x : Variable) → operand_of v later ≡ variable x
    → change x later ≡ false
not_changed (source.read y) later x e = go (change y later) refl e
  where
    go : (b : Bool) → change y later ≡ b → (if b then pushed else variable y) ≡ variable x → change x later ≡ false
    go true f e = absurd (cc)
    go false f e = let is : y ≡ x = cc in subst (λ z. change z later ≡ false) is f
not_changed (source.prefixed op v) later x e = absurd (no_variable op (operand_of v none) x e)
not_changed v later x e = absurd (cc)

-- Operands that stand in place

abbrev pub AllPlaced : List Operand → Type 0
AllPlaced [] = Unit {0}
AllPlaced (o ∷ os) = (if_pushed o false true ≡ true) × AllPlaced os

onto_one : (o : Operand) (v : ℕ) (words : List ℕ) → if_pushed o false true ≡ true → onto o v words ≡ words
onto_one pushed v words e = absurd (cc)
onto_one (number n) v words e = refl
onto_one (variable x) v words e = refl

-- nothing of them is on the stack
pub onto_placed : (os : List Operand) (vs words : List ℕ) → AllPlaced os → onto_all os vs words ≡ words
onto_placed [] vs words h = refl
onto_placed (o ∷ os) [] words h = refl
onto_placed (o ∷ os) (v ∷ vs) words h =
    ap (λ ws. onto_all os vs ws) (onto_one o v words h.0) ∙ onto_placed os vs words h.1

pub all_placed : (vs : Values) → all_in_place vs ≡ true → AllPlaced (operands_of vs)
all_placed none e = tt
all_placed (more v vs) e =
    let h = both_true (is_in_place v) (all_in_place vs) e in (stays_placed v vs h.0 h.1, all_placed vs h.1)
