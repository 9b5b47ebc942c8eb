-- How many items the forms of expressions have.
use Rattle.std.proofs.Common.{◌≡◌, ℕ, ◌+◌, List, [], ◌∷◌, ◌++◌, length, Bool, true, refl, arith}
use Rattle.syntax_trees.specs.declared.tree.Equality.{Equality}
use Rattle.meaning.specs.Resolved.{Value, Values, none, more}
use Rattle.meaning.specs.Resolved as source
use Rattle.meaning.specs.Meaning.{is_true}
use Rattle.code_drafts.specs.Items.{Item, pushed, number, variable, Destination, push, into, operand_of}
use Rattle.code_drafts.specs.Items.{containment_when, first_of, operands_of, alone, left_of, if_pushed, branch_true}
use Rattle.code_drafts.specs.Items.{agrees, is_direct, same_count, comparison_test, comparison_when, equality_when, truth_count}
use Rattle.code_drafts.specs.Items.{value_count, operand_count, operands_count, branch_count, many_count, also_count}
use Rattle.code_drafts.specs.Items.{same_items, value_items, operands_items, branch_items, many_items, also_items}
use Rattle.code_drafts.specs.Items.{alone_items, is_any_pushed, are_more_pushed, argument_place, call_item}
use Rattle.code_drafts.specs.Items.{arguments_count, arguments_items}
use Rattle.code_drafts.specs.Items as items
use Rattle.code_drafts.proofs.InPlace.{same_length}
use Rattle.code_drafts.proofs.CountedForms.{joined, if_length, moved_length, after_length, truth_length, two_length}
use Rattle.code_drafts.proofs.CountedForms.{three_length, kept_length, known_length, either_length, either_and, Counted}
use Rattle.code_drafts.proofs.CountedForms.{prefixed_counted, binary_counted, entry_counted, assign_entry_counted}

-- an item that takes a value alone, and with a branch after it

one_length : (v : Value) → Counted v → (i : Item) (at : ℕ)
    → length (if_pushed (alone v) (value_items at v push) [] ++ i ∷ []) ≡ if_pushed (alone v) (value_count v push) 0 + 1
one_length v c i at = joined (if_pushed (alone v) (value_items at v push) []) _ _ 1
    (if_length (alone v) _ _ (c.value push at)) refl

one_branch : (v : Value) → Counted v → (i : Item) (when : Bool) (at t : ℕ)
    → length (if_pushed (alone v) (value_items at v push) [] ++ i ∷ branch_true pushed when t ∷ [])
    ≡ if_pushed (alone v) (value_count v push) 0 + 1 + 1
one_branch v c i when at t = omega (
  arith,
  joined (if_pushed (alone v) (value_items at v push) []) (i ∷ branch_true pushed when t ∷ []) _ 2
      (if_length (alone v) _ _ (c.value push at)) refl,
)

direct_length : (op : Equality) (a : Value) (bs : Values) → Counted a
    → ((at : ℕ) → length (operands_items at bs) ≡ operands_count bs) → (when : Bool) (at t : ℕ)
    → length (if_pushed (operand_of a bs) (value_items at a push) []
    ++ (operands_items (at + operand_count a (operand_of a bs)) bs ++ same_items (operand_of a bs) (operands_of bs)
    (at + operand_count a (operand_of a bs) + operands_count bs) (equality_when op when) t))
    ≡ operand_count a (operand_of a bs) + operands_count bs + same_count (operands_of bs)
direct_length op a bs c cs when at t =
    let o = operand_of a bs in
    let m = at + operand_count a o in
    omega (
      arith,
      joined (if_pushed o (value_items at a push) []) _ _ _ (if_length o _ _ (c.value push at))
          (joined (operands_items m bs)
          (same_items o (operands_of bs) (m + operands_count bs) (equality_when op when) t) _ _
          (cs m) (same_length o (operands_of bs) (m + operands_count bs) (equality_when op when) t)),
    )

one_more : (i : Item) (xs : List Item) (n : ℕ) → length xs ≡ n → length (i ∷ xs) ≡ 1 + n
one_more i xs n e = omega (arith, e)

mutual
  counted : (v : Value) → Counted v
  counted (source.number n) =
      record {
        value = λ d at. moved_length (number n) d;
        branch =
            λ when at t. known_length (agrees (is_true n) when) t;
      }
  counted (source.read x) = record { value = λ d at. moved_length (variable x) d; branch = λ when at t. refl }
  counted (source.call r vs) = record {
    value = λ d at. joined (arguments_items (are_more_pushed (operands_of vs)) at vs) _ _ 1
        (arguments_length (are_more_pushed (operands_of vs)) vs at) refl;
    branch = λ when at t.
        let several = are_more_pushed (operands_of vs) in
        omega (
          arith,
          joined (arguments_items several at vs)
              (call_item several r (operands_of vs) push ∷ branch_true pushed when t ∷ []) _ 2
              (arguments_length several vs at) refl,
        );
  }
  counted (source.prefixed op v) = prefixed_counted op v (counted v)
  counted (source.step_before op x) = record { value = λ d at. refl; branch = λ when at t. refl }
  counted (source.step_after x op) = record { value = λ d at. after_length x op d; branch = λ when at t. refl }
  counted (source.binary op a b) = binary_counted op a b (counted a) (counted b)
  counted (source.compare op a b) = record {
    value = λ d at. truth_length at _ d _
        (λ t. two_length (left_of a b) (alone b) _ _
        (items.branch (comparison_test op) (left_of a b ∷ alone b ∷ []) (comparison_when op true) t ∷ []) _ _ 1
        ((counted a).value push at) ((counted b).value push (at + operand_count a (left_of a b))) refl);
    branch = λ when at t. two_length (left_of a b) (alone b) _ _
        (items.branch (comparison_test op) (left_of a b ∷ alone b ∷ []) (comparison_when op when) t ∷ []) _ _ 1
        ((counted a).value push at) ((counted b).value push (at + operand_count a (left_of a b))) refl;
  }
  counted (source.equal op a bs) = record {
    value = λ d at.
        either_and (is_direct a bs) _ _ _ _ (truth_count d)
        (truth_length at _ d _ (λ t. direct_length op a bs (counted a) (operands_length bs) true at t))
        (truth_length at _ d _
        (λ t. joined (value_items at a push) _ _ _ ((counted a).value push at)
        (many_length bs op true (at + value_count a push) t)));
    branch = λ when at t.
        either_length (is_direct a bs) _ _ _ _ (direct_length op a bs (counted a) (operands_length bs) when at t)
        (joined (value_items at a push) _ _ _ ((counted a).value push at)
        (many_length bs op when (at + value_count a push) t));
  }
  counted (source.assign x v) = record {
    value = λ d at. kept_length x d (value_items at v (into x)) (value_items at v push) (value_count v (into x))
        (value_count v push) ((counted v).value (into x) at) ((counted v).value push at);
    branch = λ when at t. joined (value_items at v push) _ _ 2 ((counted v).value push at) refl;
  }
  counted (source.entry width a i) = entry_counted width a i (counted i)
  counted (source.assign_entry width a i v) = assign_entry_counted width a i v (counted i) (counted v)
  counted (source.relative r v) = record {
    value = λ d at. one_length v (counted v) (items.relative r (alone v) d) at;
    branch = λ when at t. one_branch v (counted v) (items.relative r (alone v) push) when at t;
  }
  counted (source.contained op a b) = record {
    value = λ d at. truth_length at _ d _
        (λ t. two_length (left_of a b) (alone b) _ _
        (items.is_in (left_of a b) (alone b) (containment_when op true) t ∷ []) _ _ 1
        ((counted a).value push at) ((counted b).value push (at + operand_count a (left_of a b))) refl);
    branch = λ when at t. two_length (left_of a b) (alone b) _ _
        (items.is_in (left_of a b) (alone b) (containment_when op when) t ∷ []) _ _ 1
        ((counted a).value push at) ((counted b).value push (at + operand_count a (left_of a b))) refl;
  }
  counted (source.has positive v a) = record {
    value = λ d at. truth_length at _ d _
        (λ t. one_length v (counted v) (items.has (alone v) a (agrees positive true) t) at);
    branch = λ when at t. one_length v (counted v) (items.has (alone v) a (agrees positive when) t) at;
  }
  counted (source.provides v p) = record {
    value = λ d at. truth_length at _ d _ (λ t. one_length v (counted v) (items.provides (alone v) p true t) at);
    branch = λ when at t. one_length v (counted v) (items.provides (alone v) p when t) at;
  }
  counted (source.property v p) = record {
    value = λ d at. one_length v (counted v) (items.property (alone v) p d) at;
    branch = λ when at t. one_branch v (counted v) (items.property (alone v) p push) when at t;
  }
  counted (source.property_size v p) = record {
    value = λ d at. one_length v (counted v) (items.property_size (alone v) p d) at;
    branch = λ when at t. one_branch v (counted v) (items.property_size (alone v) p push) when at t;
  }
  counted (source.property_word v p i) = record {
    value = λ d at. two_length (left_of v i) (alone i) _ _ (items.property_word p (left_of v i) (alone i) d ∷ []) _ _ 1
        ((counted v).value push at) ((counted i).value push (at + operand_count v (left_of v i))) refl;
    branch = λ when at t. omega (
      arith,
      two_length (left_of v i) (alone i) _ _
          (items.property_word p (left_of v i) (alone i) push ∷ branch_true pushed when t ∷ []) _ _ 2
          ((counted v).value push at) ((counted i).value push (at + operand_count v (left_of v i))) refl,
    );
  }
  counted (source.assign_property v p w) = record {
    value = λ d at. two_length (left_of v w) (alone w) _ _
        (items.assign_property p (left_of v w) (alone w) d ∷ []) _ _ 1
        ((counted v).value push at) ((counted w).value push (at + operand_count v (left_of v w))) refl;
    branch = λ when at t. omega (
      arith,
      two_length (left_of v w) (alone w) _ _
          (items.assign_property p (left_of v w) (alone w) push ∷ branch_true pushed when t ∷ []) _ _ 2
          ((counted v).value push at) ((counted w).value push (at + operand_count v (left_of v w))) refl,
    );
  }
  counted (source.assign_property_word v p i w) = record {
    value = λ d at. three_length (first_of v i w) (left_of i w) (alone w) _ _ _
        (items.assign_property_word p (first_of v i w) (left_of i w) (alone w) d ∷ []) _ _ _ 1
        ((counted v).value push at) ((counted i).value push (at + operand_count v (first_of v i w)))
        ((counted w).value push (at + operand_count v (first_of v i w) + operand_count i (left_of i w))) refl;
    branch = λ when at t. omega (
      arith,
      three_length (first_of v i w) (left_of i w) (alone w) _ _ _
          (items.assign_property_word p (first_of v i w) (left_of i w) (alone w) push
          ∷ branch_true pushed when t ∷ []) _ _ _ 2
          ((counted v).value push at) ((counted i).value push (at + operand_count v (first_of v i w)))
          ((counted w).value push (at + operand_count v (first_of v i w) + operand_count i (left_of i w))) refl,
    );
  }

  pub operands_length : (vs : Values) (at : ℕ) → length (operands_items at vs) ≡ operands_count vs
  operands_length none at = refl
  operands_length (more v vs) at = joined (if_pushed (operand_of v vs) (value_items at v push) []) _ _ _
      (if_length (operand_of v vs) _ _ ((counted v).value push at))
      (operands_length vs (at + operand_count v (operand_of v vs)))

  pub arguments_length : (several : Bool) (vs : Values) (at : ℕ)
      → length (arguments_items several at vs) ≡ arguments_count several vs
  arguments_length several none at = refl
  arguments_length several (more v vs) at =
      let place = argument_place several (is_any_pushed (operands_of vs)) in
      joined (if_pushed (operand_of v vs) (value_items at v place) []) _ _ _
      (if_length (operand_of v vs) _ _ ((counted v).value place at))
      (arguments_length several vs (at + if_pushed (operand_of v vs) (value_count v place) 0))

  pub many_length : (vs : Values) (op : Equality) (when : Bool) (at t : ℕ) → length (many_items at op vs when t)
      ≡ many_count vs
  many_length none op when at t = refl
  many_length (more v vs) op when at t =
      omega (
        arith,
        joined (value_items at v push)
            (items.first_equal ∷ also_items (at + value_count v push + 1) op vs when t) (value_count v push)
            (1 + also_count vs) ((counted v).value push at)
            (one_more items.first_equal (also_items (at + value_count v push + 1) op vs when t) (also_count vs)
            (also_length vs op when (at + value_count v push + 1) t)),
      )

  pub also_length : (vs : Values) (op : Equality) (when : Bool) (at t : ℕ) → length (also_items at op vs when t)
      ≡ also_count vs
  also_length none op when at t = refl
  also_length (more v vs) op when at t =
      omega (
        arith,
        joined (value_items at v push)
            (items.also_equal ∷ also_items (at + value_count v push + 1) op vs when t) (value_count v push)
            (1 + also_count vs) ((counted v).value push at)
            (one_more items.also_equal (also_items (at + value_count v push + 1) op vs when t) (also_count vs)
            (also_length vs op when (at + value_count v push + 1) t)),
      )

pub value_length : (v : Value) (d : Destination) (at : ℕ) → length (value_items at v d) ≡ value_count v d
value_length v d at = (counted v).value d at

pub branch_length : (v : Value) (when : Bool) (at t : ℕ) → length (branch_items at v when t) ≡ branch_count v when
branch_length v when at t = (counted v).branch when at t

pub alone_length : (v : Value) (at : ℕ) → length (alone_items at v) ≡ operand_count v (alone v)
alone_length v at = if_length (alone v) _ _ (value_length v push at)
