-- The items of an expression have 20 bytes less than 32 for each of its tokens, whatever the forms of their branches.
use Rattle.std.proofs.Common.{ℕ, ◌+◌, ◌-◌, ◌*◌, ◌≤◌, List, [], ◌∷◌, ◌++◌, length, Bool, true, false, arith}
use Rattle.std.specs.Prelude.{if◌then◌else◌}
use Rattle.syntax_trees.specs.declared.tree.Containment.{Containment}
use Rattle.syntax_trees.specs.declared.tree.Relative.{Relative}
use Rattle.meaning.specs.Resolved.{Value, Values, none, more}
use Rattle.meaning.specs.Resolved as source
use Rattle.meaning.specs.Meaning.{is_true}
use Rattle.code_drafts.specs.Items.{Item, pushed, number, variable, Destination, push, into, operands_of, alone}
use Rattle.code_drafts.specs.Items.{Operand, left_of, if_pushed, branch_true, agrees, operand_count, value_items}
use Rattle.code_drafts.specs.Items.{are_more_pushed, call_item, arguments_items}
use Rattle.code_drafts.specs.Items.{branch_items, first_of, containment_when}
use Rattle.code_drafts.specs.Items as items
use Rattle.story.proofs.Most.{most, most_of, tokens, most_append, if_small, moved_small, after_small, kept_small}
use Rattle.story.proofs.Most.{truth_small, operands_length}
use Rattle.story.proofs.BoundsOfForms.{Small, AreSmall, two_small, alone_small, prefixed_small, binary_small}
use Rattle.story.proofs.BoundsOfForms.{list_none, list_more, compare_small, FirstSmall, equal_small, entry_small}
use Rattle.story.proofs.BoundsOfForms.{assign_entry_small}

-- Objects

relative_small : (r : Relative) (v : Value) → Small v → Small (source.relative r v)
relative_small r v s = record {
  value = λ d at. omega (arith, alone_small v s at (items.relative r (alone v) d ∷ []));
  branch = λ when at t. omega
      (arith, alone_small v s at (items.relative r (alone v) push ∷ branch_true pushed when t ∷ []));
}

contained_small : (op : Containment) (a b : Value) → Small a → Small b → Small (source.contained op a b)
contained_small op a b sa sb =
    let both : (when : Bool) (at t : ℕ)
    → most_of (branch_items at (source.contained op a b) when t) + 10 ≤ 32 * tokens a + 32 * tokens b =
    λ when at t. omega (
      arith,
      two_small (left_of a b) (alone b) _ _
          (items.is_in (left_of a b) (alone b) (containment_when op when) t ∷ []) _ _ (sa.value push at)
          (sb.value push (at + operand_count a (left_of a b))),
    ) in
    record {
      value = λ d at. let h = truth_small at (operand_count a (left_of a b) + operand_count b (alone b) + 1) d
          (λ t. branch_items at (source.contained op a b) true t) (32 * tokens a + 32 * tokens b - 10)
          (λ t. omega (arith, both true at t)) in omega (arith, h, both true at 0);
      branch = λ when at t. omega (arith, both when at t);
    }

has_small : (positive : Bool) (v : Value) (n : ℕ) → Small v → Small (source.has positive v n)
has_small positive v n s =
    let both : (when : Bool) (at t : ℕ)
    → most_of (branch_items at (source.has positive v n) when t) ≤ 32 * tokens v + 6 =
    λ when at t. omega (arith, alone_small v s at (items.has (alone v) n (agrees positive when) t ∷ [])) in
    record {
      value = λ d at. omega (
        arith,
        truth_small at (operand_count v (alone v) + 1) d (λ t. branch_items at (source.has positive v n) true t)
            (32 * tokens v + 6) (λ t. both true at t),
      );
      branch = λ when at t. omega (arith, both when at t);
    }

provides_small : (v : Value) (p : ℕ) → Small v → Small (source.provides v p)
provides_small v p s =
    let both : (when : Bool) (at t : ℕ)
    → most_of (branch_items at (source.provides v p) when t) ≤ 32 * tokens v + 10 =
    λ when at t. omega (arith, alone_small v s at (items.provides (alone v) p when t ∷ [])) in
    record {
      value = λ d at. omega (
        arith,
        truth_small at (operand_count v (alone v) + 1) d (λ t. branch_items at (source.provides v p) true t)
            (32 * tokens v + 10) (λ t. both true at t),
      );
      branch = λ when at t. omega (arith, both when at t);
    }

property_small : (v : Value) (p : ℕ) → Small v → Small (source.property v p)
property_small v p s = record {
  value = λ d at. omega (arith, alone_small v s at (items.property (alone v) p d ∷ []));
  branch = λ when at t. omega
      (arith, alone_small v s at (items.property (alone v) p push ∷ branch_true pushed when t ∷ []));
}

property_size_small : (v : Value) (p : ℕ) → Small v → Small (source.property_size v p)
property_size_small v p s = record {
  value = λ d at. omega (arith, alone_small v s at (items.property_size (alone v) p d ∷ []));
  branch = λ when at t. omega
      (arith, alone_small v s at (items.property_size (alone v) p push ∷ branch_true pushed when t ∷ []));
}

property_word_small : (v : Value) (p : ℕ) (i : Value) → Small v → Small i → Small (source.property_word v p i)
property_word_small v p i sv si = record {
  value = λ d at. omega (
    arith,
    two_small (left_of v i) (alone i) _ _ (items.property_word p (left_of v i) (alone i) d ∷ []) _ _
        (sv.value push at) (si.value push (at + operand_count v (left_of v i))),
  );
  branch = λ when at t. omega (
    arith,
    two_small (left_of v i) (alone i) _ _
        (items.property_word p (left_of v i) (alone i) push ∷ branch_true pushed when t ∷ []) _ _
        (sv.value push at) (si.value push (at + operand_count v (left_of v i))),
  );
}

assign_property_small : (v : Value) (p : ℕ) (w : Value) → Small v → Small w → Small (source.assign_property v p w)
assign_property_small v p w sv sw = record {
  value = λ d at. omega (
    arith,
    two_small (left_of v w) (alone w) _ _ (items.assign_property p (left_of v w) (alone w) d ∷ []) _ _
        (sv.value push at) (sw.value push (at + operand_count v (left_of v w))),
  );
  branch = λ when at t. omega (
    arith,
    two_small (left_of v w) (alone w) _ _
        (items.assign_property p (left_of v w) (alone w) push ∷ branch_true pushed when t ∷ []) _ _
        (sv.value push at) (sw.value push (at + operand_count v (left_of v w))),
  );
}

-- three operands
assign_property_word_small : (v : Value) (p : ℕ) (i w : Value) → Small v → Small i → Small w
    → Small (source.assign_property_word v p i w)
assign_property_word_small v p i w sv si sw =
    record {
      value = λ d at. omega (arith, three at (last d ∷ []));
      branch = λ when at t. omega
          (arith, three at (last push ∷ branch_true pushed when t ∷ []));
    }
  where
    last : Destination → Item
    last d = items.assign_property_word p (first_of v i w) (left_of i w) (alone w) d

    three : (at : ℕ) (tail : List Item) → most_of (if_pushed (first_of v i w) (value_items at v push) []
        ++ (if_pushed (left_of i w) (value_items (at + operand_count v (first_of v i w)) i push) []
        ++ (if_pushed (alone w)
        (value_items (at + operand_count v (first_of v i w) + operand_count i (left_of i w)) w push) []
        ++ tail))) + 60
        ≤ 32 * tokens v + 32 * tokens i + 32 * tokens w + most_of tail
    three at tail =
        let o = first_of v i w in
        let m = at + operand_count v o in
        let others = if_pushed (left_of i w) (value_items m i push) []
        ++ (if_pushed (alone w) (value_items (m + operand_count i (left_of i w)) w push) [] ++ tail) in
        omega (
          arith,
          if_small o _ _ (sv.value push at),
          most_append (if_pushed o (value_items at v push) []) others,
          two_small (left_of i w) (alone w) _ _ tail _ _ (si.value push m)
              (sw.value push (m + operand_count i (left_of i w))),
        )

call_small : (several : Bool) (r : ℕ) (os : List Operand) (d : Destination)
    → most (call_item several r os d) ≤ 9 + 4 * length os
call_small true r os d = omega arith
call_small false r os d = omega arith

mutual
  pub small : (v : Value) → Small v
  small (source.number n) = record {
    value = λ d at. omega (arith, moved_small (number n) d);
    branch = λ when at t. known (agrees (is_true n) when) t;
  }
    where
      known : (b : Bool) (t : ℕ) → most_of (if b then items.jump t ∷ [] else []) + 20 ≤ 32
      known true t = omega arith
      known false t = omega arith
  small (source.read x) =
      record { value = λ d at. omega (arith, moved_small (variable x) d); branch = λ when at t. omega arith }
  small (source.call r vs) = record {
    value = λ d at.
        let several = are_more_pushed (operands_of vs) in
        omega (
          arith,
          (are_small vs).arguments several at,
          operands_length vs,
          call_small several r (operands_of vs) d,
          most_append (arguments_items several at vs) (call_item several r (operands_of vs) d ∷ []),
        );
    branch = λ when at t.
        let several = are_more_pushed (operands_of vs) in
        omega (
          arith,
          (are_small vs).arguments several at,
          operands_length vs,
          call_small several r (operands_of vs) push,
          most_append (arguments_items several at vs)
              (call_item several r (operands_of vs) push ∷ branch_true pushed when t ∷ []),
        );
  }
  small (source.prefixed op v) = prefixed_small op v (small v)
  small (source.step_before op x) = record { value = λ d at. omega arith; branch = λ when at t. omega arith }
  small (source.step_after x op) =
      record { value = λ d at. omega (arith, after_small x op d); branch = λ when at t. omega arith }
  small (source.binary op a b) = binary_small op a b (small a) (small b)
  small (source.compare op a b) = compare_small op a b (small a) (small b)
  small (source.equal op a bs) = equal_small op a bs (small a) (are_small bs) (first_small bs)
  small (source.assign x v) = record {
    value = λ d at. omega (
      arith,
      kept_small x d _ _ (32 * tokens v) ((small v).value (into x) at) ((small v).value push at),
    );
    branch = λ when at t. omega (
      arith,
      (small v).value push at,
      most_append (value_items at v push) (items.keep x ∷ branch_true pushed when t ∷ []),
    );
  }
  small (source.entry width a i) = entry_small width a i (small i)
  small (source.assign_entry width a i v) = assign_entry_small width a i v (small i) (small v)
  small (source.relative r v) = relative_small r v (small v)
  small (source.contained op a b) = contained_small op a b (small a) (small b)
  small (source.has positive v n) = has_small positive v n (small v)
  small (source.provides v p) = provides_small v p (small v)
  small (source.property v p) = property_small v p (small v)
  small (source.property_size v p) = property_size_small v p (small v)
  small (source.property_word v p i) = property_word_small v p i (small v) (small i)
  small (source.assign_property v p w) = assign_property_small v p w (small v) (small w)
  small (source.assign_property_word v p i w) = assign_property_word_small v p i w (small v) (small i) (small w)

  are_small : (vs : Values) → AreSmall vs
  are_small none = list_none
  are_small (more v vs) = list_more v vs (small v) (are_small vs)

  first_small : (vs : Values) → FirstSmall vs
  first_small none = tt
  first_small (more v vs) = (small v, are_small vs)
