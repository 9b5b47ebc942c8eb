-- The items of values on objects name only what is there.
use Rattle.std.proofs.Common.{ℕ, ◌+◌, ◌<◌, List, [], ◌∷◌, ◌++◌, Bool, true, arith}
use Rattle.syntax_trees.specs.declared.tree.Containment.{Containment}
use Rattle.syntax_trees.specs.declared.tree.Relative.{Relative}
use Rattle.meaning.specs.Resolved.{Value, none, more}
use Rattle.meaning.specs.Resolved as source
use Rattle.meaning.specs.Accepted.{IsValue, IsProperty}
use Rattle.code_drafts.specs.Items.{Item, pushed, push, alone, left_of, first_of, if_pushed, agrees, branch_true}
use Rattle.code_drafts.specs.Items.{operand_count, value_count, value_items, branch_items}
use Rattle.code_drafts.specs.Items as items
use Rattle.code_items.specs.Laws.{IsItem}
use Rattle.code_items.proofs.Fine.{Bounds, Fine, first, last, last_two, nothing, operand_fine, three_fine, true_fine}
use Rattle.code_items.proofs.Fine.{truth_fine}
use Rattle.code_items.proofs.FineValues.{FineValue, operand_pushed, two_operands}

module _ (here : Bounds) where
  open here use {p, locals, count}

  -- an item of one value, which stands alone
  alone_then : (v : Value) → FineValue here v → (at : ℕ) (i : Item) → at + operand_count v (alone v) < count
      → IsItem p locals count i → Fine here (if_pushed (alone v) (value_items at v push) [] ++ i ∷ [])
  alone_then v f at i lt h = last here (if_pushed (alone v) (value_items at v push) []) i
      (operand_pushed here (alone v) v f at lt) h

  -- and a branch by its word
  alone_branch : (v : Value) → FineValue here v → (at : ℕ) (i : Item) (when : Bool) (t : ℕ)
      → at + operand_count v (alone v) < count → t < count → IsItem p locals count i
      → Fine here (if_pushed (alone v) (value_items at v push) [] ++ i ∷ branch_true pushed when t ∷ [])
  alone_branch v f at i when t lt le h = last_two here (if_pushed (alone v) (value_items at v push) []) i _
      (operand_pushed here (alone v) v f at lt) h (true_fine here pushed when t tt le)

  pub relative_fine : (r : Relative) (v : Value) → IsValue p locals v → FineValue here v
      → FineValue here (source.relative r v)
  relative_fine r v h f = let o = operand_fine here v none h in record {
    value = λ at d hd lt. alone_then v f at (items.relative r (alone v) d) (omega (arith, lt)) (o, hd);
    branch = λ at when t lt le.
        alone_branch v f at (items.relative r (alone v) push) when t (omega (arith, lt)) le (o, tt);
  }

  pub property_fine : (v : Value) (n : ℕ) → IsProperty n → IsValue p locals v → FineValue here v
      → FineValue here (source.property v n)
  property_fine v n hn h f = let o = operand_fine here v none h in record {
    value = λ at d hd lt. alone_then v f at (items.property (alone v) n d) (omega (arith, lt)) (hn, o, hd);
    branch = λ at when t lt le.
        alone_branch v f at (items.property (alone v) n push) when t (omega (arith, lt)) le (hn, o, tt);
  }

  pub property_size_fine : (v : Value) (n : ℕ) → IsProperty n → IsValue p locals v → FineValue here v
      → FineValue here (source.property_size v n)
  property_size_fine v n hn h f = let o = operand_fine here v none h in record {
    value = λ at d hd lt. alone_then v f at (items.property_size (alone v) n d) (omega (arith, lt)) (hn, o, hd);
    branch = λ at when t lt le.
        alone_branch v f at (items.property_size (alone v) n push) when t (omega (arith, lt)) le (hn, o, tt);
  }

  -- Conditions

  pub has_fine : (positive : Bool) (v : Value) (a : ℕ) → a < 48 → IsValue p locals v → FineValue here v
      → FineValue here (source.has positive v a)
  has_fine positive v a ha h f = record {
    value = λ at d hd lt. truth_fine here at (operand_count v (alone v) + 1) d _ hd lt
        (λ t le. alone_then v f at (items.has (alone v) a (agrees positive true) t) (omega (arith, lt))
        (ha, operand_fine here v none h, le));
    branch = λ at when t lt le. alone_then v f at (items.has (alone v) a (agrees positive when) t) (omega (arith, lt))
        (ha, operand_fine here v none h, le);
  }

  pub provides_fine : (v : Value) (n : ℕ) → IsProperty n → IsValue p locals v → FineValue here v
      → FineValue here (source.provides v n)
  provides_fine v n hn h f = record {
    value = λ at d hd lt. truth_fine here at (operand_count v (alone v) + 1) d _ hd lt
        (λ t le. alone_then v f at (items.provides (alone v) n true t) (omega (arith, lt))
        (hn, operand_fine here v none h, le));
    branch = λ at when t lt le. alone_then v f at (items.provides (alone v) n when t) (omega (arith, lt))
        (hn, operand_fine here v none h, le);
  }

  pub contained_fine : (op : Containment) (a b : Value) → IsValue p locals a → IsValue p locals b → FineValue here a
      → FineValue here b → FineValue here (source.contained op a b)
  contained_fine op a b ha hb fa fb = record {
    value = λ at d hd lt. truth_fine here at (operand_count a (left_of a b) + operand_count b (alone b) + 1) d _ hd lt
        (λ t le. branches at true t (omega (arith, lt)) le);
    branch = λ at when t lt le. branches at when t (omega (arith, lt)) le;
  }
    where
      branches : (at : ℕ) (when : Bool) (t : ℕ)
          → at + (operand_count a (left_of a b) + operand_count b (alone b)) < count → t < count
          → Fine here (branch_items at (source.contained op a b) when t)
      branches at when t lt le =
          two_operands here a b fa fb at _ lt
          (first here _ _ (operand_fine here a (more b none) ha, operand_fine here b none hb, le) (nothing here))

  -- Words of properties

  pub property_word_fine : (v : Value) (n : ℕ) (i : Value) → IsProperty n → IsValue p locals v → IsValue p locals i
      → FineValue here v → FineValue here i → FineValue here (source.property_word v n i)
  property_word_fine v n i hn hv hi fv fi =
      let ov = operand_fine here v (more i none) hv in
      let oi = operand_fine here i none hi in record {
        value = λ at d hd lt. two_operands here v i fv fi at _ (omega (arith, lt))
            (first here _ _ (hn, ov, oi, hd) (nothing here));
        branch = λ at when t lt le. two_operands here v i fv fi at _ (omega (arith, lt))
            (first here _ _ (hn, ov, oi, tt) (first here _ _ (true_fine here pushed when t tt le) (nothing here)));
      }

  pub assign_property_fine : (v : Value) (n : ℕ) (w : Value) → IsProperty n → IsValue p locals v → IsValue p locals w
      → FineValue here v → FineValue here w → FineValue here (source.assign_property v n w)
  assign_property_fine v n w hn hv hw fv fw =
      let ov = operand_fine here v (more w none) hv in
      let ow = operand_fine here w none hw in record {
        value = λ at d hd lt. two_operands here v w fv fw at _ (omega (arith, lt))
            (first here _ _ (hn, ov, ow, hd) (nothing here));
        branch = λ at when t lt le. two_operands here v w fv fw at _ (omega (arith, lt))
            (first here _ _ (hn, ov, ow, tt) (first here _ _ (true_fine here pushed when t tt le) (nothing here)));
      }

  three_operands : (a b c : Value) → FineValue here a → FineValue here b → FineValue here c → (at : ℕ)
      (tail : List Item)
      → at + (operand_count a (first_of a b c) + operand_count b (left_of b c) + operand_count c (alone c)) < count
      → Fine here tail
      → Fine here (if_pushed (first_of a b c) (value_items at a push) []
      ++ (if_pushed (left_of b c) (value_items (at + operand_count a (first_of a b c)) b push) []
      ++ (if_pushed (alone c)
      (value_items (at + operand_count a (first_of a b c) + operand_count b (left_of b c)) c push) [] ++ tail)))
  three_operands a b c fa fb fc at tail lt ht =
      let m = at + operand_count a (first_of a b c) in
      three_fine here (first_of a b c) (left_of b c) (alone c) _ _ _ tail (value_count a push) (value_count b push)
      (value_count c push) at lt (λ lt. fa.value at push tt lt) (λ lt. fb.value m push tt lt)
      (λ lt. fc.value (m + operand_count b (left_of b c)) push tt lt) ht

  pub assign_property_word_fine : (v : Value) (n : ℕ) (i w : Value) → IsProperty n → IsValue p locals v
      → IsValue p locals i → IsValue p locals w → FineValue here v → FineValue here i → FineValue here w
      → FineValue here (source.assign_property_word v n i w)
  assign_property_word_fine v n i w hn hv hi hw fv fi fw =
      let ov = operand_fine here v (more i (more w none)) hv in
      let oi = operand_fine here i (more w none) hi in
      let ow = operand_fine here w none hw in record {
        value = λ at d hd lt. three_operands v i w fv fi fw at _ (omega (arith, lt))
            (first here _ _ (hn, ov, oi, ow, hd) (nothing here));
        branch = λ at when t lt le. three_operands v i w fv fi fw at _ (omega (arith, lt))
            (first here _ _ (hn, ov, oi, ow, tt) (first here _ _ (true_fine here pushed when t tt le) (nothing here)));
      }
