-- How many items the parts of expressions have, and the forms of one or two parts.
use Rattle.std.proofs.Common.{◌≡◌, ℕ, ◌+◌, List, [], ◌∷◌, ◌++◌, length, Bool, true, false, refl, arith, length-append}
use Rattle.std.specs.Prelude.{if◌then◌else◌, not}
use Rattle.syntax_trees.specs.declared.tree.Binary.{Binary}
use Rattle.syntax_trees.specs.declared.tree.Binary.TheVariants as binaries
use Rattle.syntax_trees.specs.declared.tree.Prefix.{Prefix}
use Rattle.syntax_trees.specs.declared.tree.Prefix.TheVariants as prefixes
use Rattle.syntax_trees.specs.declared.tree.Step.{Step}
use Rattle.syntax_trees.specs.declared.tree.Width.{Width}
use Rattle.meaning.specs.declared.resolved.Variable.{Variable}
use Rattle.meaning.specs.Resolved.{Value}
use Rattle.meaning.specs.Resolved as source
use Rattle.code_drafts.specs.Items.{Item, Operand, pushed, number, variable, Destination, push, into, aside, nowhere}
use Rattle.code_drafts.specs.Items.{right_place, operation_item, alone, left_of, if_pushed, branch_true, moved_count, truth_count, after_count, kept_count}
use Rattle.code_drafts.specs.Items.{value_count, operand_count, branch_count, move_items, truth_items, after_items}
use Rattle.code_drafts.specs.Items.{kept_items, and_items, or_items, value_items, branch_items}
use Rattle.code_drafts.specs.Items as items

pub joined : (xs ys : List Item) (n m : ℕ) → length xs ≡ n → length ys ≡ m → length (xs ++ ys) ≡ n + m
joined xs ys n m ex ey = omega (arith, length-append xs ys, ex, ey)

pub if_length : (o : Operand) (xs : List Item) (n : ℕ) → length xs ≡ n → length (if_pushed o xs []) ≡ if_pushed o n 0
if_length pushed xs n e = e
if_length (number k) xs n e = refl
if_length (variable x) xs n e = refl

pub moved_length : (o : Operand) (d : Destination) → length (move_items o d) ≡ moved_count d
moved_length o push = refl
moved_length o (into x) = refl
moved_length o aside = refl
moved_length o nowhere = refl

pub after_length : (x : Variable) (op : Step) (d : Destination) → length (after_items x op d) ≡ after_count d
after_length x op push = refl
after_length x op (into y) = refl
after_length x op aside = refl
after_length x op nowhere = refl

pub truth_length : (at n : ℕ) (d : Destination) (f : ℕ → List Item) → ((t : ℕ) → length (f t) ≡ n)
    → length (truth_items at n d f) ≡ n + truth_count d
truth_length at n push f e =
    omega (
      arith,
      e (at + n + 2),
      length-append (f (at + n + 2))
          (items.move (number 0) push ∷ items.jump (at + n + 3) ∷ items.move (number 1) push ∷ []),
    )
truth_length at n (into x) f e =
    omega (
      arith,
      e (at + n + 2),
      length-append (f (at + n + 2))
          (items.move (number 0) (into x) ∷ items.jump (at + n + 3) ∷ items.move (number 1) (into x) ∷ []),
    )
truth_length at n aside f e =
    omega (
      arith,
      e (at + n + 2),
      length-append (f (at + n + 2))
          (items.move (number 0) aside ∷ items.jump (at + n + 3) ∷ items.move (number 1) aside ∷ []),
    )
truth_length at n nowhere f e = omega (arith, e (at + n))

pub two_length : (oa ob : Operand) (xa xb tail : List Item) (na nb k : ℕ) → length xa ≡ na → length xb ≡ nb
    → length tail
    ≡ k
    → length (if_pushed oa xa [] ++ (if_pushed ob xb [] ++ tail)) ≡ if_pushed oa na 0 + if_pushed ob nb 0 + k
two_length oa ob xa xb tail na nb k ea eb et =
    omega (
      arith,
      et,
      if_length oa xa na ea,
      if_length ob xb nb eb,
      length-append (if_pushed oa xa [])
          (if_pushed ob xb [] ++ tail),
      length-append (if_pushed ob xb []) tail,
    )

pub three_length : (oa ob oc : Operand) (xa xb xc tail : List Item) (na nb nc k : ℕ) → length xa ≡ na → length xb
    ≡ nb → length xc ≡ nc → length tail ≡ k
    → length (if_pushed oa xa [] ++ (if_pushed ob xb [] ++ (if_pushed oc xc [] ++ tail)))
    ≡ if_pushed oa na 0 + if_pushed ob nb 0 + if_pushed oc nc 0 + k
three_length oa ob oc xa xb xc tail na nb nc k ea eb ec et =
    omega (
      arith,
      joined (if_pushed oa xa []) _ _ _ (if_length oa xa na ea)
          (two_length ob oc xb xc tail nb nc k eb ec et),
    )

pub kept_length : (x : Variable) (d : Destination) (xs ys : List Item) (n m : ℕ) → length xs ≡ n → length ys
    ≡ m → length (kept_items x d xs ys) ≡ kept_count d n m
kept_length x nowhere xs ys n m ex ey = ex
kept_length x push xs ys n m ex ey = joined ys _ m 1 ey refl
kept_length x (into y) xs ys n m ex ey = joined ys _ m 2 ey refl
kept_length x aside xs ys n m ex ey = joined ys _ m 2 ey refl

pub known_length : (b : Bool) (t : ℕ) → length (if b then items.jump t ∷ [] else []) ≡ (if b then 1 else 0)
known_length true t = refl
known_length false t = refl

pub either_length : (b : Bool) (xs ys : List Item) (n m : ℕ) → length xs ≡ n → length ys
    ≡ m → length (if b then xs else ys) ≡ (if b then n else m)
either_length true xs ys n m ex ey = ex
either_length false xs ys n m ex ey = ey

pub either_and : (b : Bool) (xs ys : List Item) (n m k : ℕ) → length xs ≡ n + k → length ys
    ≡ m + k → length (if b then xs else ys) ≡ (if b then n else m) + k
either_and true xs ys n m k ex ey = ex
either_and false xs ys n m k ex ey = ey

-- what is known of a value's items
pub record Counted (v : Value) : Type 0 where
  pub value : (d : Destination) (at : ℕ) → length (value_items at v d) ≡ value_count v d
  pub branch : (when : Bool) (at t : ℕ) → length (branch_items at v when t) ≡ branch_count v when

pub prefixed_counted : (op : Prefix) (v : Value) → Counted v → Counted (source.prefixed op v)
prefixed_counted prefixes.Not v c = record {
  value = λ d at. truth_length at (branch_count v false) d (λ t. branch_items at v false t)
      (λ t. c.branch false at t);
  branch = λ when at t. c.branch (not when) at t;
}
prefixed_counted op v c = record {
  value = λ d at. joined (if_pushed (alone v) (value_items at v push) []) _ _ 1
      (if_length (alone v) _ _ (c.value push at)) refl;
  branch = λ when at t. omega (
    arith,
    joined (if_pushed (alone v) (value_items at v push) [])
        (items.apply_prefix op (alone v) push ∷ branch_true pushed when t ∷ []) _ 2
        (if_length (alone v) _ _ (c.value push at)) refl,
  );
}

pub binary_counted : (op : Binary) (a b : Value) → Counted a → Counted b → Counted (source.binary op a b)
binary_counted binaries.AndAlso a b ca cb = record {
  value = λ d at. truth_length at (branch_count a false + branch_count b true) d
      (λ t. and_items at (branch_count a false) (branch_count b true) true t (λ at when t. branch_items at a when t)
      (λ at when t. branch_items at b when t))
      (λ t. joined _ _ _ _ (ca.branch false at (at + branch_count a false + branch_count b true))
      (cb.branch true (at + branch_count a false) t));
  branch = λ when at t. joined _ _ _ _
      (ca.branch false at (if when then at + branch_count a false + branch_count b when else t))
      (cb.branch when (at + branch_count a false) t);
}
binary_counted binaries.OrElse a b ca cb = record {
  value = λ d at. truth_length at (branch_count a true + branch_count b true) d
      (λ t. or_items at (branch_count a true) (branch_count b true) true t (λ at when t. branch_items at a when t)
      (λ at when t. branch_items at b when t))
      (λ t. joined _ _ _ _ (ca.branch true at t) (cb.branch true (at + branch_count a true) t));
  branch = λ when at t. joined _ _ _ _
      (ca.branch true at (if when then t else at + branch_count a true + branch_count b when))
      (cb.branch when (at + branch_count a true) t);
}
binary_counted op a b ca cb = record {
  value = λ d at. two_length (left_of a b) (alone b) _ _
      (operation_item (right_place op (left_of a b)) op (left_of a b) (alone b) d ∷ []) _ _ 1 (ca.value push at)
      (cb.value (right_place op (left_of a b)) (at + operand_count a (left_of a b))) refl;
  branch = λ when at t. omega (
    arith,
    two_length (left_of a b) (alone b) _ _
        (operation_item (right_place op (left_of a b)) op (left_of a b) (alone b) push ∷ branch_true pushed when t ∷ []) _ _
        2 (ca.value push at) (cb.value (right_place op (left_of a b)) (at + operand_count a (left_of a b))) refl,
  );
}

pub entry_counted : (width : Width) (a : ℕ) (i : Value) → Counted i → Counted (source.entry width a i)
entry_counted width a i c = record {
  value = λ d at. joined (if_pushed (alone i) (value_items at i aside) []) _ _ 1
      (if_length (alone i) _ _ (c.value aside at)) refl;
  branch = λ when at t. omega (
    arith,
    joined (if_pushed (alone i) (value_items at i aside) [])
        (items.entry_item width a (alone i) push ∷ branch_true pushed when t ∷ []) _ 2
        (if_length (alone i) _ _ (c.value aside at)) refl,
  );
}

pub assign_entry_counted : (width : Width) (a : ℕ) (i v : Value) → Counted i → Counted v
    → Counted (source.assign_entry width a i v)
assign_entry_counted width a i v ci cv = record {
  value = λ d at.
      let place = items.index_place (alone v) in
      two_length (left_of i v) (alone v) _ _ (items.assign_entry_item width a (left_of i v) (alone v) d ∷ []) _ _ 1
      (ci.value place at) (cv.value aside (at + if_pushed (left_of i v) (value_count i place) 0)) refl;
  branch = λ when at t.
      let place = items.index_place (alone v) in
      omega (
        arith,
        two_length (left_of i v) (alone v) _ _
            (items.assign_entry_item width a (left_of i v) (alone v) push ∷ branch_true pushed when t ∷ []) _ _ 2
            (ci.value place at) (cv.value aside (at + if_pushed (left_of i v) (value_count i place) 0)) refl,
      );
}
