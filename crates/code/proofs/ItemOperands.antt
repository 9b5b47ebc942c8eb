-- What operands of an item come to, and that the operands of its instruction come to the same.
use Rattle.std.proofs.Common.{◌≡◌, ℕ, ◌+◌, ◌-◌, ◌<◌, ◌≤◌, zero, suc, List, [], ◌∷◌, length, drop, slice_index, subst}
use Rattle.std.proofs.Common.{Bool, true, false, refl, ap, ◌∙◌, arith}
use Rattle.std.specs.Prelude.{nat_lt, if◌then◌else◌}
use Rattle.zcore.specs.declared.instruction.Operand.{Operand}
use Rattle.zcore.specs.declared.instruction.Operand.TheVariants as machine_operands
use Rattle.zcore.specs.State.{State, done}
use Rattle.zcore.specs.Parts.{operand_value, operand_values}
use Rattle.meaning.specs.World.{Situation, value_in}
use Rattle.code_drafts.specs.Items.{pushed, number, variable}
use Rattle.code_drafts.specs.Items as items
use Rattle.code_items.specs.Stack.{Next, stuck, with_operand, with_operands}
use Rattle.code_drafts.specs.Instructions.{number_of, temporary, constant, top, pushed_count, named_from, operands}
use Rattle.code.proofs.Parts.{Around, machine as at_words, ReadsVariable}
use Rattle.code.proofs.Steps.{no_operand, small_value, large_value, top_value, variable_value}

-- In the machine of items

-- operands come to values, and leave this of the stack
abbrev pub GivesOperands : List items.Operand → Situation → List ℕ → List ℕ → List ℕ → Type 0
GivesOperands [] s words [] rest = words ≡ rest
GivesOperands [] s words (v ∷ vs) rest = ⊥
GivesOperands (o ∷ os) s words [] rest = ⊥
GivesOperands (pushed ∷ os) s words (v ∷ vs) rest = GivesOperands os s words vs (v ∷ rest)
GivesOperands (number k ∷ os) s words (v ∷ vs) rest = (k ≡ v) × GivesOperands os s words vs rest
GivesOperands (variable x ∷ os) s words (v ∷ vs) rest = (value_in x s ≡ v) × GivesOperands os s words vs rest

-- what holds where operands lack, and where they come to values, holds of an item with them
pub by_operands : (os : List items.Operand) (s : Situation) (words : List ℕ) (P : Next → Type 0) (k : List ℕ → List ℕ
    → Next)
    → P stuck → ((vs rest : List ℕ) → GivesOperands os s words vs rest → P (k vs rest)) → P (with_operands os s words k)
by_operands [] s words P k lacks f = f [] words refl
by_operands (pushed ∷ os) s words P k lacks f =
    by_operands os s words P (λ vs rest. with_operand pushed s rest (λ v left. k (v ∷ vs) left)) lacks popped
  where
    popped : (vs rest : List ℕ) → GivesOperands os s words vs rest
        → P (with_operand pushed s rest (λ v left. k (v ∷ vs) left))
    popped vs [] g = lacks
    popped vs (v ∷ left) g = f (v ∷ vs) left g
by_operands (number n ∷ os) s words P k lacks f =
    by_operands os s words P (λ vs rest. k (n ∷ vs) rest) lacks (λ vs rest g. f (n ∷ vs) rest (refl, g))
by_operands (variable x ∷ os) s words P k lacks f =
    by_operands os s words P (λ vs rest. k (value_in x s ∷ vs) rest) lacks
    (λ vs rest g. f (value_in x s ∷ vs) rest (refl, g))

-- the words from a number on, and the first of them
record From (words : List ℕ) (k v : ℕ) (rest : List ℕ) : Type 0 where
  pub here : slice_index words k ≡ v
  pub later : drop (1 + k) words ≡ rest

from_word : (words : List ℕ) (k v : ℕ) (rest : List ℕ) → drop k words ≡ v ∷ rest → From words k v rest
from_word [] zero v rest e = absurd (cc)
from_word [] (suc k) v rest e = absurd (cc)
from_word (w ∷ words) zero v rest e = record { here = cc; later = cc }
from_word (w ∷ words) (suc k) v rest e =
    let f = from_word words k v rest e in
    let number : 1 + suc k ≡ suc (1 + k) = omega arith in
    record { here = f.here; later = ap (λ n. drop n (w ∷ words)) number ∙ f.later }

pub gives_rest : (os : List items.Operand) (s : Situation) (words vs rest : List ℕ) → GivesOperands os s words vs rest
    → drop (pushed_count os) words ≡ rest
gives_rest [] s words [] rest g = g
gives_rest [] s words (v ∷ vs) rest g = absurd g
gives_rest (o ∷ os) s words [] rest g = absurd g
gives_rest (pushed ∷ os) s words (v ∷ vs) rest g =
    (from_word words (pushed_count os) v rest (gives_rest os s words vs (v ∷ rest) g)).later
gives_rest (number k ∷ os) s words (v ∷ vs) rest g = gives_rest os s words vs rest g.1
gives_rest (variable x ∷ os) s words (v ∷ vs) rest g = gives_rest os s words vs rest g.1

pub gives_count : (os : List items.Operand) (s : Situation) (words vs rest : List ℕ) → GivesOperands os s words vs rest
    → length words ≡ pushed_count os + length rest
gives_count [] s words [] rest g = ap length g ∙ omega arith
gives_count [] s words (v ∷ vs) rest g = absurd g
gives_count (o ∷ os) s words [] rest g = absurd g
gives_count (pushed ∷ os) s words (v ∷ vs) rest g = let n = gives_count os s words vs (v ∷ rest) g in omega (arith, n)
gives_count (number k ∷ os) s words (v ∷ vs) rest g = gives_count os s words vs rest g.1
gives_count (variable x ∷ os) s words (v ∷ vs) rest g = gives_count os s words vs rest g.1

-- as many values as operands
pub gives_length : (os : List items.Operand) (s : Situation) (words vs rest : List ℕ) → GivesOperands os s words vs rest
    → length vs ≡ length os
gives_length [] s words [] rest g = refl
gives_length [] s words (v ∷ vs) rest g = absurd g
gives_length (o ∷ os) s words [] rest g = absurd g
gives_length (pushed ∷ os) s words (v ∷ vs) rest g = ap suc (gives_length os s words vs (v ∷ rest) g)
gives_length (number k ∷ os) s words (v ∷ vs) rest g = ap suc (gives_length os s words vs rest g.1)
gives_length (variable x ∷ os) s words (v ∷ vs) rest g = ap suc (gives_length os s words vs rest g.1)

pub few_pushed : (os : List items.Operand) → pushed_count os ≤ length os
few_pushed [] = omega arith
few_pushed (pushed ∷ os) = let more = few_pushed os in omega (arith, more)
few_pushed (number k ∷ os) = let more = few_pushed os in omega (arith, more)
few_pushed (variable x ∷ os) = let more = few_pushed os in omega (arith, more)

-- the stack where the first operand that is pushed is on top
abbrev pub with_first : List items.Operand → List ℕ → List ℕ → List ℕ
with_first [] vs rest = rest
with_first (o ∷ os) [] rest = rest
with_first (pushed ∷ os) (v ∷ vs) rest = v ∷ rest
with_first (number k ∷ os) (v ∷ vs) rest = with_first os vs rest
with_first (variable x ∷ os) (v ∷ vs) rest = with_first os vs rest

-- In the machine

pub constant_value : (s : State) (n : ℕ) → operand_value (constant n) s ≡ done n s
constant_value s n = go (nat_lt n 256)
  where
    go : (b : Bool) → operand_value (if b then machine_operands.Small n else machine_operands.Large n) s ≡ done n s
    go true = small_value s n
    go false = large_value s n

-- an operand, and others after it
pub values_then : (s t u : State) (o : Operand) (os : List Operand) (x : ℕ) (xs : List ℕ)
    → operand_value o s ≡ done x t
    → operand_values os t ≡ done xs u → operand_values (o ∷ os) s ≡ done (x ∷ xs) u
unfolding operand_values
values_then s t u o os x xs e f = rw (e, f) refl

module _ (e : Around) (m l : List ℕ) where
  -- the pushed operands are in temporaries, from one on, and the variables have these words
  abbrev pub Named : ℕ → List items.Operand → List ℕ → Type 0
  Named n [] [] = Unit {0}
  Named n [] (v ∷ vs) = ⊥
  Named n (o ∷ os) [] = ⊥
  Named n (pushed ∷ os) (v ∷ vs) = ReadsVariable e m l (temporary n) v × Named (n + 1) os vs
  Named n (number k ∷ os) (v ∷ vs) = (k ≡ v) × Named n os vs
  Named n (variable x ∷ os) (v ∷ vs) = ReadsVariable e m l (number_of x) v × Named n os vs

  -- the first that is pushed is on top of the stack
  abbrev pub Ready : List items.Operand → List ℕ → Type 0
  Ready [] [] = Unit {0}
  Ready [] (v ∷ vs) = ⊥
  Ready (o ∷ os) [] = ⊥
  Ready (pushed ∷ os) (v ∷ vs) = Named 0 os vs
  Ready (number k ∷ os) (v ∷ vs) = (k ≡ v) × Ready os vs
  Ready (variable x ∷ os) (v ∷ vs) = ReadsVariable e m l (number_of x) v × Ready os vs

  number_value : (k v : ℕ) (s : State) → k ≡ v → operand_value (constant k) s ≡ done v s
  number_value k v s is = constant_value s k ∙ ap (λ (x : ℕ). done x s) is

  named_values : (n : ℕ) (os : List items.Operand) (vs s t : List ℕ) → Named n os vs
      → operand_values (named_from n os) (at_words e m l s t) ≡ done vs (at_words e m l s t)
  named_values n [] [] s t h = no_operand (at_words e m l s t)
  named_values n [] (v ∷ vs) s t h = absurd h
  named_values n (o ∷ os) [] s t h = absurd h
  named_values n (pushed ∷ os) (v ∷ vs) s t h =
      let st = at_words e m l s t in values_then st st st (machine_operands.Variable (temporary n))
      (named_from (n + 1) os) v vs (variable_value e m l s t (temporary n) v h.0) (named_values (n + 1) os vs s t h.1)
  named_values n (number k ∷ os) (v ∷ vs) s t h =
      let st = at_words e m l s t in values_then st st st (constant k) (named_from n os) v vs
      (number_value k v st h.0)
      (named_values n os vs s t h.1)
  named_values n (variable x ∷ os) (v ∷ vs) s t h =
      let st = at_words e m l s t in values_then st st st (machine_operands.Variable (number_of x)) (named_from n os)
      v
      vs (variable_value e m l s t (number_of x) v h.0) (named_values n os vs s t h.1)

  -- the words of so many temporaries, of which the last was topmost
  abbrev pub Temporaries : ℕ → ℕ → List ℕ → Type 0
  Temporaries n k words = (j : ℕ) → j < k → ReadsVariable e m l (temporary (n + j)) (slice_index words (k - 1 - j))

  -- the variables among operands read as they should
  abbrev pub VariablesRead : Situation → List items.Operand → Type 0
  VariablesRead s [] = Unit {0}
  VariablesRead s (variable x ∷ os) = ReadsVariable e m l (number_of x) (value_in x s) × VariablesRead s os
  VariablesRead s (pushed ∷ os) = VariablesRead s os
  VariablesRead s (number k ∷ os) = VariablesRead s os

  named : (os : List items.Operand) (s : Situation) (words vs rest : List ℕ) (n : ℕ) → GivesOperands os s words vs rest
      → VariablesRead s os → Temporaries n (pushed_count os) words → Named n os vs
  named [] s words [] rest n g r t = tt
  named [] s words (v ∷ vs) rest n g r t = absurd g
  named (o ∷ os) s words [] rest n g r t = absurd g
  named (pushed ∷ os) s words (v ∷ vs) rest n g r t =
      let k = pushed_count os in
      let here = (from_word words k v rest (gives_rest os s words vs (v ∷ rest) g)).here in
      let last : 1 + k - 1 - 0 ≡ k = omega arith in
      let first : n + 0 ≡ n = omega arith in
      let word = subst (λ x. ReadsVariable e m l (temporary (n + 0)) x) (ap (slice_index words) last
      ∙ here) (t 0 (omega arith)) in (
        subst (λ x. ReadsVariable e m l (temporary x) v) first word,
        named os s words vs (v ∷ rest) (n + 1) g r (λ j h.
            let next : n + (1 + j) ≡ n + 1 + j = omega arith in
            let back : 1 + k - 1 - (1 + j) ≡ k - 1 - j = omega arith in
            subst (λ x. ReadsVariable e m l (temporary x) (slice_index words (k - 1 - j))) next
            (subst (λ x. ReadsVariable e m l (temporary (n + (1 + j))) (slice_index words x)) back
            (t (1 + j) (omega (arith, h))))),
      )
  named (number k ∷ os) s words (v ∷ vs) rest n g r t = (g.0, named os s words vs rest n g.1 r t)
  named (variable x ∷ os) s words (v ∷ vs) rest n g r t =
      (subst (λ w. ReadsVariable e m l (number_of x) w) g.0 r.0, named os s words vs rest n g.1 r.1 t)

  pub ready : (os : List items.Operand) (s : Situation) (words vs rest : List ℕ) → GivesOperands os s words vs rest
      → VariablesRead s os → Temporaries 0 (pushed_count os - 1) words → Ready os vs
  ready [] s words [] rest g r t = tt
  ready [] s words (v ∷ vs) rest g r t = absurd g
  ready (o ∷ os) s words [] rest g r t = absurd g
  ready (pushed ∷ os) s words (v ∷ vs) rest g r t =
      let count : 1 + pushed_count os - 1 ≡ pushed_count os = omega arith in
      named os s words vs (v ∷ rest) 0 g r (subst (λ k. Temporaries 0 k words) count t)
  ready (number k ∷ os) s words (v ∷ vs) rest g r t = (g.0, ready os s words vs rest g.1 r t)
  ready (variable x ∷ os) s words (v ∷ vs) rest g r t =
      (subst (λ w. ReadsVariable e m l (number_of x) w) g.0 r.0, ready os s words vs rest g.1 r.1 t)

  -- the operands of the instruction
  pub ready_values : (os : List items.Operand) (vs rest t : List ℕ) → Ready os vs
      → operand_values (operands os) (at_words e m l (with_first os vs rest) t) ≡ done vs (at_words e m l rest t)
  ready_values [] [] rest t h = no_operand (at_words e m l rest t)
  ready_values [] (v ∷ vs) rest t h = absurd h
  ready_values (o ∷ os) [] rest t h = absurd h
  ready_values (pushed ∷ os) (v ∷ vs) rest t h =
      let st = at_words e m l rest t in values_then (at_words e m l (v ∷ rest) t) st st top (named_from 0 os) v vs
      (top_value e m l rest t v) (named_values 0 os vs rest t h)
  ready_values (number k ∷ os) (v ∷ vs) rest t h =
      let st = at_words e m l (with_first os vs rest) t in
      values_then st st (at_words e m l rest t) (constant k) (operands os) v vs (number_value k v st h.0)
      (ready_values os vs rest t h.1)
  ready_values (variable x ∷ os) (v ∷ vs) rest t h =
      let st = at_words e m l (with_first os vs rest) t in
      values_then st st (at_words e m l rest t) (machine_operands.Variable (number_of x)) (operands os) v vs
      (variable_value e m l (with_first os vs rest) t (number_of x) v h.0) (ready_values os vs rest t h.1)

named_length : (n : ℕ) (os : List items.Operand) → length (named_from n os) ≡ length os
named_length n [] = refl
named_length n (pushed ∷ os) = ap suc (named_length (n + 1) os)
named_length n (number k ∷ os) = ap suc (named_length n os)
named_length n (variable x ∷ os) = ap suc (named_length n os)

-- as many operands in the instruction
pub operands_length : (os : List items.Operand) → length (operands os) ≡ length os
operands_length [] = refl
operands_length (pushed ∷ os) = ap suc (named_length 0 os)
operands_length (number k ∷ os) = ap suc (operands_length os)
operands_length (variable x ∷ os) = ap suc (operands_length os)

-- the first that is pushed is on top when the others are taken
pub first_on_top : (os : List items.Operand) (s : Situation) (words vs rest : List ℕ) → GivesOperands os s words vs rest
    → drop (pushed_count os - 1) words ≡ with_first os vs rest
first_on_top [] s words [] rest g = g
first_on_top [] s words (v ∷ vs) rest g = absurd g
first_on_top (o ∷ os) s words [] rest g = absurd g
first_on_top (pushed ∷ os) s words (v ∷ vs) rest g =
    let count : 1 + pushed_count os - 1 ≡ pushed_count os = omega arith in
    ap (λ k. drop k words) count ∙ gives_rest os s words vs (v ∷ rest) g
first_on_top (number k ∷ os) s words (v ∷ vs) rest g = first_on_top os s words vs rest g.1
first_on_top (variable x ∷ os) s words (v ∷ vs) rest g = first_on_top os s words vs rest g.1
