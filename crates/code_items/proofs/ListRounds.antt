-- The rounds of loops over lists, from the last to the first.
use Rattle.std.proofs.Common.{◌≡◌, ℕ, ◌+◌, ◌-◌, ◌<◌, ◌≤◌, List, [], ◌∷◌, ◌++◌, length, map, drop, take, slice_index_or}
use Rattle.std.proofs.Common.{ap, subst, ◌∙◌, arith}
use Rattle.std.proofs.lemmas.List.{take_rest}
use Rattle.syntax_trees.specs.declared.tree.Binary.{Binary}
use Rattle.meaning.specs.declared.resolved.Value as code_value
use Rattle.meaning.specs.Views.{value_of, values_of}
use Rattle.code_drafts.specs.Items.{Item, Operand, pushed, operand_of, operands_items}
use Rattle.code_drafts.specs.Items as items
use Rattle.code_drafts.specs.declared.item.Destination.TheVariants as destinations
use Rattle.code_drafts.specs.declared.wanted.Wanted.{Wanted}
use Rattle.code_drafts.specs.declared.wanted.Wanted.TheVariants.{Word}
use Rattle.code_drafts.specs.Writing.{wanted_items, link_of, WritesBefore}
use Rattle.code_items.specs.ValueWriting.{pushes, folded_items, ReducesLinks, ReducesLink}
use Rattle.code_items.proofs.Alternatives.{operand_next, folded_next, link_next}

pub folded_round : (c c1 c2 c3 : List Item) (xs : List code_value.Value) (done : ℕ) (x : code_value.Value)
    → done < length xs → x ≡ slice_index_or xs (length xs - 1 - done) x
    → WritesBefore c c1 (λ n at. folded_items at (values_of (map value_of (drop (length xs - done) xs))))
    → c2 ≡ c1 ++ items.also_equal ∷ [] → WritesBefore c2 c3 (wanted_items (Word destinations.Push) (value_of x))
    → WritesBefore c c3 (λ n at. folded_items at (values_of (map value_of (drop (length xs - (done + 1)) xs))))
folded_round c c1 c2 c3 xs done x lt is many e w =
    let i = length xs - 1 - done in
    let P : ℕ → Type 0 = λ k. WritesBefore c c1 (λ n at. folded_items at (values_of (map value_of (drop k xs)))) in
    let Q : ℕ → Type 0 = λ k. WritesBefore c c3 (λ n at. folded_items at (values_of (map value_of (drop k xs)))) in
    let before : length xs - done ≡ i + 1 = omega (arith, lt) in
    let after : i ≡ length xs - (done + 1) = omega arith in
    subst Q after (folded_next c c1 c2 c3 xs i x (omega (arith, lt)) is (subst P before many) e w)

pub operand_round : (c c1 c2 : List Item) (xs : List code_value.Value) (done : ℕ) (x : code_value.Value) (o : Operand)
    → done < length xs → x ≡ slice_index_or xs (length xs - 1 - done) x
    → o ≡ operand_of (value_of x) (values_of (map value_of
    (take (length xs - (length xs - 1 - done + 1)) (drop (length xs - 1 - done + 1) xs))))
    → WritesBefore c c1 (λ n at. operands_items at (values_of (map value_of (drop (length xs - done) xs))))
    → WritesBefore c1 c2 (pushes o (value_of x))
    → WritesBefore c c2 (λ n at. operands_items at (values_of (map value_of (drop (length xs - (done + 1)) xs))))
operand_round c c1 c2 xs done x o lt is eo many w =
    let i = length xs - 1 - done in
    let P : ℕ → Type 0 = λ k. WritesBefore c c1 (λ n at. operands_items at (values_of (map value_of (drop k xs)))) in
    let Q : ℕ → Type 0 = λ k. WritesBefore c c2 (λ n at. operands_items at (values_of (map value_of (drop k xs)))) in
    let before : length xs - done ≡ i + 1 = omega (arith, lt) in
    let after : i ≡ length xs - (done + 1) = omega arith in
    let later = eo ∙ ap (λ (l : List code_value.Value). operand_of (value_of x) (values_of (map value_of l)))
    (take_rest xs (i + 1)) in
    subst Q after (operand_next c c1 c2 xs i x o (omega (arith, lt)) is later (subst P before many) w)

pub link_round : (c c1 c2 : List Item) (wanted w1 w2 : Wanted) (xs : List (Binary × code_value.Value)) (done : ℕ)
    (x : Binary × code_value.Value) → done < length xs → x ≡ slice_index_or xs (length xs - 1 - done) x
    → ReducesLinks c c1 wanted w1 (map link_of (drop (length xs - done) xs))
    → ReducesLink c1 c2 w1 w2 x.0 pushed (value_of x.1)
    → ReducesLinks c c2 wanted w2 (map link_of (drop (length xs - (done + 1)) xs))
link_round c c1 c2 wanted w1 w2 xs done x lt is many link =
    let i = length xs - 1 - done in
    let P : ℕ → Type 0 = λ k. ReducesLinks c c1 wanted w1 (map link_of (drop k xs)) in
    let Q : ℕ → Type 0 = λ k. ReducesLinks c c2 wanted w2 (map link_of (drop k xs)) in
    let before : length xs - done ≡ i + 1 = omega (arith, lt) in
    let after : i ≡ length xs - (done + 1) = omega arith in
    subst Q after (link_next c c1 c2 wanted w1 w2 xs i x (omega (arith, lt)) is (subst P before many) link)

-- the last round was that of the first link
pub links_done : (c c1 : List Item) (wanted w1 : Wanted) (xs : List (Binary × code_value.Value)) (done : ℕ)
    → length xs ≤ done → ReducesLinks c c1 wanted w1 (map link_of (drop (length xs - done) xs))
    → ReducesLinks c c1 wanted w1 (map link_of xs)
links_done c c1 wanted w1 xs done end many =
    let P : ℕ → Type 0 = λ k. ReducesLinks c c1 wanted w1 (map link_of (drop k xs)) in
    let none : length xs - done ≡ 0 = omega (arith, end) in
    subst P none many
