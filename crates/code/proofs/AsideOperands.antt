-- Operands of which the last that is pushed was put aside: as global 239, which stands in the variable of that word.
use Rattle.std.proofs.Common.{◌≡◌, ℕ, suc, ◌-◌, ◌<◌, ◌≤◌, List, [], ◌∷◌, ◌++◌, length, slice_index}
use Rattle.std.proofs.Common.{Bool, true, false, refl, sym, ap, ◌∙◌, subst, arith}
use Rattle.std.proofs.Common.{length-append}
use Rattle.std.specs.Prelude.{if◌then◌else◌, replicate}
use Rattle.std.specs.List.{All}
use Rattle.std.proofs.lemmas.List.{get_or_append_left, length-replicate}
use Rattle.std.proofs.Math.Seq.{get_or-append_seam}
use Rattle.meaning.specs.declared.resolved.Variable as resolved
use Rattle.meaning.specs.declared.resolved.Variable.TheVariants as variables
use Rattle.meaning.specs.World.{Situation, value_in}
use Rattle.meaning.specs.Meaning.{routine_at}
use Rattle.code_drafts.specs.Items.{pushed, number, variable, is_any_pushed}
use Rattle.code_drafts.specs.Items as items
use Rattle.code_items.specs.Laws.{IsOperand}
use Rattle.code_drafts.specs.Instructions.{number_of, aside_variable}
use Rattle.code_instructions.specs.Instructions.{aside_global, read_aside, with_last_aside}
use Rattle.code.proofs.Parts.{ReadsVariable}
use Rattle.code.proofs.ItemOperands.{GivesOperands, VariablesRead}
use Rattle.code.proofs.Arriving.{Running, around, few, situation_here}
use Rattle.code.proofs.Variables.{variable_held}
use Rattle.code.proofs.Temporaries.{Scratch}

-- a situation whose globals have a word at 239
abbrev pub padded_situation : Situation → ℕ → Situation
padded_situation s y = record {
  locals = s.locals;
  world = record (s.world) { globals = (s.world.globals ++ replicate (239 - length s.world.globals) 0) ++ y ∷ [] };
}

pub aside_read : (s : Situation) (y : ℕ) → length s.world.globals ≤ 239
    → value_in aside_global (padded_situation s y) ≡ y
aside_read s y few =
    let before = s.world.globals ++ replicate (239 - length s.world.globals) 0 in
    let long : length before ≡ 239 =
    omega (
      arith,
      few,
      length-append s.world.globals (replicate (239 - length s.world.globals) 0),
      length-replicate {A = ℕ} (239 - length s.world.globals) 0,
    ) in
    ap (slice_index (before ++ y ∷ [])) (sym long) ∙ get_or-append_seam before y [] 0

pub global_kept : (s : Situation) (y g : ℕ) → g < length s.world.globals
    → value_in (variables.Global g) (padded_situation s y) ≡ value_in (variables.Global g) s
global_kept s y g lt =
    let gs = s.world.globals in
    let zeros = replicate (239 - length gs) 0 in
    get_or_append_left (gs ++ zeros) (y ∷ []) 0 g (omega (arith, lt, length-append gs zeros))
    ∙ get_or_append_left gs zeros 0 g lt

-- an operand that is none of the pushed ones stays
same_number : (b : Bool) (k : ℕ) → (if b then number k else read_aside (number k)) ≡ number k
same_number true k = refl
same_number false k = refl

same_variable : (b : Bool) (x : resolved.Variable) → (if b then variable x else read_aside (variable x)) ≡ variable x
same_variable true x = refl
same_variable false x = refl

-- as many operands, of which as many are pushed but for that one
pub aside_length : (os : List items.Operand) → length (with_last_aside os) ≡ length os
aside_length [] = refl
aside_length (o ∷ os) = ap suc (aside_length os)

-- the variables among operands have the same words
abbrev pub SameVariables : Situation → Situation → List items.Operand → Type 0
SameVariables s t [] = Unit {0}
SameVariables s t (variable x ∷ os) = (value_in x t ≡ value_in x s) × SameVariables s t os
SameVariables s t (pushed ∷ os) = SameVariables s t os
SameVariables s t (number k ∷ os) = SameVariables s t os

module _ (s t : Situation) (y : ℕ) (is_aside : value_in aside_global t ≡ y) where
  -- where none is pushed nothing is taken
  none_gives : (os : List items.Operand) (words vs rest : List ℕ) → GivesOperands os s words vs rest
      → is_any_pushed os ≡ false → SameVariables s t os
      → (words ≡ rest) × ((other : List ℕ) → GivesOperands (with_last_aside os) t other vs other)
  none_gives [] words [] rest g e same = (g, λ other. refl)
  none_gives [] words (v ∷ vs) rest g e same = absurd g
  none_gives (o ∷ os) words [] rest g e same = absurd g
  none_gives (pushed ∷ os) words (v ∷ vs) rest g e same = absurd (cc)
  none_gives (number k ∷ os) words (v ∷ vs) rest g e same =
      let more = none_gives os words vs rest g.1 e same in (
        more.0,
        λ other. subst (λ o. GivesOperands (o ∷ with_last_aside os) t other (v ∷ vs) other)
            (sym (same_number (is_any_pushed os) k)) (g.0, more.1 other),
      )
  none_gives (variable x ∷ os) words (v ∷ vs) rest g e same =
      let more = none_gives os words vs rest g.1 e same.1 in (
        more.0,
        λ other. subst (λ o. GivesOperands (o ∷ with_last_aside os) t other (v ∷ vs) other)
            (sym (same_variable (is_any_pushed os) x)) (same.0 ∙ g.0, more.1 other),
      )

  first_of_two : (a b : ℕ) (xs ys : List ℕ) → a ∷ xs ≡ b ∷ ys → a ≡ b
  first_of_two a b xs ys e = cc

  others_of_two : (a b : ℕ) (xs ys : List ℕ) → a ∷ xs ≡ b ∷ ys → xs ≡ ys
  others_of_two a b xs ys e = cc

  -- the topmost word is in the variable
  pub moved : (os : List items.Operand) (words vs rest : List ℕ) → GivesOperands os s (y ∷ words) vs rest
      → is_any_pushed os ≡ true → SameVariables s t os → GivesOperands (with_last_aside os) t words vs rest
  moved [] words vs rest g e same = absurd (cc)
  moved (o ∷ os) words [] rest g e same = absurd g
  moved (number k ∷ os) words (v ∷ vs) rest g e same =
      subst (λ o. GivesOperands (o ∷ with_last_aside os) t words (v ∷ vs) rest)
      (sym (same_number (is_any_pushed os) k)) (g.0, moved os words vs rest g.1 e same)
  moved (variable x ∷ os) words (v ∷ vs) rest g e same =
      subst (λ o. GivesOperands (o ∷ with_last_aside os) t words (v ∷ vs) rest)
      (sym (same_variable (is_any_pushed os) x)) (same.0 ∙ g.0, moved os words vs rest g.1 e same.1)
  moved (pushed ∷ os) words (v ∷ vs) rest g e same =
      go (is_any_pushed os) refl (λ f. moved os words vs (v ∷ rest) g f same)
    where
      go : (b : Bool) → is_any_pushed os ≡ b
          → (is_any_pushed os ≡ true → GivesOperands (with_last_aside os) t words vs (v ∷ rest))
          → GivesOperands ((if b then pushed else read_aside pushed) ∷ with_last_aside os) t words (v ∷ vs) rest
      go true f more = more f
      go false f more =
          let all = none_gives os (y ∷ words) vs (v ∷ rest) g f same in (
            is_aside ∙ first_of_two y v words rest all.0,
            subst (λ ws. GivesOperands (with_last_aside os) t words vs ws) (others_of_two y v words rest all.0)
                (all.1 words),
          )

module _ (c : Running) where
  open c use {story, a, p, accepted, holds, full, m, count, counts, routine, place, callers, locals, world, good}

  abbrev pub with_aside_here : ℕ → Situation
  with_aside_here y = padded_situation (situation_here c) y

  few_globals : length world.globals ≤ 239
  few_globals = omega (arith, few c)

  pub is_read : (y : ℕ) → value_in aside_global (with_aside_here y) ≡ y
  is_read y = aside_read (situation_here c) y few_globals

  -- a variable of the source has the same word
  same_word : (y : ℕ) (x : resolved.Variable) → IsOperand p (routine_at p.routines routine).locals (variable x)
      → value_in x (with_aside_here y) ≡ value_in x (situation_here c)
  same_word y (variables.Local i) is = refl
  same_word y (variables.Global g) is = global_kept (situation_here c) y g (omega (arith, is, good.globals))

  pub same_words : (y : ℕ) (os : List items.Operand) → All (IsOperand p (routine_at p.routines routine).locals) os
      → SameVariables (situation_here c) (with_aside_here y) os
  same_words y [] all = tt
  same_words y (pushed ∷ os) all = same_words y os (λ k d h. all (suc k) d (omega (arith, h)))
  same_words y (number n ∷ os) all = same_words y os (λ k d h. all (suc k) d (omega (arith, h)))
  same_words y (variable x ∷ os) all =
      (same_word y x (all 0 (variable x) (omega arith)), same_words y os (λ k d h. all (suc k) d (omega (arith, h))))

  -- the variables among them are read, and the word that was put aside
  pub aside_variables : (y : ℕ) (other : List ℕ) (os : List items.Operand) → Scratch c other
      → ReadsVariable (around c) other locals aside_variable y
      → All (IsOperand p (routine_at p.routines routine).locals) os
      → VariablesRead (around c) other locals (with_aside_here y) (with_last_aside os)
  aside_variables y other [] scratch reads all = tt
  aside_variables y other (number k ∷ os) scratch reads all =
      subst (λ o. VariablesRead (around c) other locals (with_aside_here y) (o ∷ with_last_aside os))
      (sym (same_number (is_any_pushed os) k))
      (aside_variables y other os scratch reads (λ k d h. all (suc k) d (omega (arith, h))))
  aside_variables y other (variable x ∷ os) scratch reads all =
      let is = all 0 (variable x) (omega arith) in
      subst (λ o. VariablesRead (around c) other locals (with_aside_here y) (o ∷ with_last_aside os))
      (sym (same_variable (is_any_pushed os) x)) (
        subst (λ w. ReadsVariable (around c) other locals (number_of x) w) (sym (same_word y x is))
            (variable_held c other x scratch is).reads,
        aside_variables y other os scratch reads (λ k d h. all (suc k) d (omega (arith, h))),
      )
  aside_variables y other (pushed ∷ os) scratch reads all =
      go (is_any_pushed os) (aside_variables y other os scratch reads (λ k d h. all (suc k) d (omega (arith, h))))
    where
      go : (b : Bool) → VariablesRead (around c) other locals (with_aside_here y) (with_last_aside os)
          → VariablesRead (around c) other locals (with_aside_here y)
          ((if b then pushed else read_aside pushed) ∷ with_last_aside os)
      go true more = more
      go false more =
          (subst (λ w. ReadsVariable (around c) other locals aside_variable w) (sym (is_read y)) reads, more)
