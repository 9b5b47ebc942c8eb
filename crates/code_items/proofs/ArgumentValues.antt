-- What is written for the arguments of a call, from the last to the first.
use Rattle.std.proofs.Common.{◌≡◌, ℕ, zero, suc, ◌+◌, ◌-◌, ◌<◌, List, [], ◌∷◌, ◌++◌, length, map, drop, take, Bool, refl}
use Rattle.std.proofs.Common.{slice_index_or, sym, ap, subst, ◌∙◌, arith}
use Rattle.std.proofs.Common.{true}
use Rattle.std.proofs.lemmas.List.{take_rest}
use Rattle.meaning.specs.declared.resolved.Value as code_value
use Rattle.meaning.specs.Resolved.{Values}
use Rattle.meaning.specs.Views.{value_of, values_of}
use Rattle.code_drafts.specs.Items.{Item, Operand, Destination, operand_of, operands_of, if_pushed, is_any_pushed}
use Rattle.code_drafts.specs.Items.{argument_place, value_count, value_items, arguments_items}
use Rattle.code_drafts.specs.Writing.{WritesBefore}
use Rattle.code_items.specs.ValueWriting.{operand_items}
use Rattle.code_drafts.proofs.WrittenItems.{both, as_items}
use Rattle.code_items.proofs.Values.{placed_length}

-- expressions from a number on
abbrev from : List code_value.Value → ℕ → Values
from xs k = values_of (map value_of (drop k xs))

-- an operand in its place, and the arguments after it
abbrev argument_at : Bool → code_value.Value → Operand → Bool → Values → ℕ → List Item
argument_at several x o behind vs at = if_pushed o (value_items at (value_of x) (argument_place several behind)) []
    ++ arguments_items several (at + if_pushed o (value_count (value_of x) (argument_place several behind)) 0) vs

arguments_from : (several : Bool) (xs : List code_value.Value) (i : ℕ) (x : code_value.Value) (at : ℕ) → i < length xs
    → arguments_items several at (from xs i)
    ≡ argument_at several (slice_index_or xs i x)
    (operand_of (value_of (slice_index_or xs i x)) (from xs (suc i))) (is_any_pushed (operands_of (from xs (suc i))))
    (from xs (suc i)) at
arguments_from several [] i x at h = absurd (omega (arith, h))
arguments_from several (y ∷ xs) zero x at h = refl
arguments_from several (y ∷ xs) (suc i) x at h = arguments_from several xs i x at (omega (arith, h))

pushed_from : (xs : List code_value.Value) (i : ℕ) (x : code_value.Value) → i < length xs
    → is_any_pushed (operands_of (from xs i))
    ≡ if_pushed (operand_of (value_of (slice_index_or xs i x)) (from xs (suc i))) true
    (is_any_pushed (operands_of (from xs (suc i))))
pushed_from [] i x h = absurd (omega (arith, h))
pushed_from (y ∷ xs) zero x h = refl
pushed_from (y ∷ xs) (suc i) x h = pushed_from xs i x (omega (arith, h))

-- one argument more, and whether one of them is pushed
module _ (xs : List code_value.Value) (done : ℕ) (x : code_value.Value) (o : Operand) (behind : Bool)
    (lt : done < length xs) (is : x ≡ slice_index_or xs (length xs - 1 - done) x)
    (eo : o ≡ operand_of (value_of x) (values_of (map value_of
    (take (length xs - (length xs - 1 - done + 1)) (drop (length xs - 1 - done + 1) xs)))))
    (eb : behind ≡ is_any_pushed (operands_of (from xs (length xs - done)))) where
  abbrev i : ℕ
  i = length xs - 1 - done

  before : length xs - done ≡ suc i
  before = omega (arith, lt)

  after : i ≡ length xs - (done + 1)
  after = omega arith

  later : o ≡ operand_of (value_of x) (from xs (suc i))
  later =
      let j : i + 1 ≡ suc i = omega arith in
      eo ∙ ap (λ (l : List code_value.Value). operand_of (value_of x) (values_of (map value_of l)))
      (take_rest xs (i + 1)) ∙ ap (λ k. operand_of (value_of x) (from xs k)) j

  any : behind ≡ is_any_pushed (operands_of (from xs (suc i)))
  any = eb ∙ ap (λ k. is_any_pushed (operands_of (from xs k))) before

  pub argument_round : (c c1 c2 : List Item) (several : Bool) (place : Destination)
      → place ≡ argument_place several behind
      → WritesBefore c c1 (λ n at. arguments_items several at (from xs (length xs - done)))
      → WritesBefore c1 c2 (operand_items place o (value_of x))
      → WritesBefore c c2 (λ n at. arguments_items several at (from xs (length xs - (done + 1))))
  argument_round c c1 c2 several place ep many w =
      let P : ℕ → Type 0 = λ k. WritesBefore c c1 (λ n at. arguments_items several at (from xs k)) in
      let Q : ℕ → Type 0 = λ k. WritesBefore c c2 (λ n at. arguments_items several at (from xs k)) in
      let there : WritesBefore c1 c2 (operand_items (argument_place several behind) o (value_of x)) =
      subst (λ p. WritesBefore c1 c2 (operand_items p o (value_of x))) ep w in
      let behind_it = from xs (suc i) in
      subst Q after
      (as_items (λ n at _. ap (λ p. argument_at several x p behind behind_it at) later
      ∙ ap (λ b. argument_at several x (operand_of (value_of x) behind_it) b behind_it at) any
      ∙ ap (λ y. argument_at several y (operand_of (value_of y) behind_it) (is_any_pushed (operands_of behind_it))
      behind_it at) is
      ∙ sym (arguments_from several xs i x at (omega (arith, lt))))
      (both (if_pushed o (value_count (value_of x) (argument_place several behind)) 0)
      (λ n at. placed_length (argument_place several behind) o (value_of x) n at) (subst P before many) there))

  pub pushed_round : (b : Bool) → b ≡ if_pushed o true behind
      → b ≡ is_any_pushed (operands_of (from xs (length xs - (done + 1))))
  pushed_round b e =
      let behind_it = from xs (suc i) in
      e ∙ ap (λ p. if_pushed p true behind) later
      ∙ ap (λ z. if_pushed (operand_of (value_of x) behind_it) true z) any
      ∙ ap (λ (y : code_value.Value). if_pushed (operand_of (value_of y) behind_it) true
      (is_any_pushed (operands_of behind_it))) is
      ∙ sym (pushed_from xs i x (omega (arith, lt)))
      ∙ ap (λ k. is_any_pushed (operands_of (from xs k))) after
