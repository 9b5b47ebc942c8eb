-- How large the items of the forms of expressions are, but for those on objects.
use Rattle.std.proofs.Common.{ℕ, ◌+◌, ◌-◌, ◌*◌, ◌≤◌, List, [], ◌∷◌, ◌++◌, length, Bool, true, false, arith}
use Rattle.std.specs.Prelude.{if◌then◌else◌, not}
use Rattle.syntax_trees.specs.declared.tree.Binary.{Binary}
use Rattle.syntax_trees.specs.declared.tree.Binary.TheVariants as binaries
use Rattle.syntax_trees.specs.declared.tree.Comparison.{Comparison}
use Rattle.syntax_trees.specs.declared.tree.Equality.{Equality}
use Rattle.syntax_trees.specs.declared.tree.Prefix.{Prefix}
use Rattle.syntax_trees.specs.declared.tree.Prefix.TheVariants as prefixes
use Rattle.syntax_trees.specs.declared.tree.Width.{Width}
use Rattle.meaning.specs.Resolved.{Value, Values, none, more}
use Rattle.meaning.specs.Resolved as source
use Rattle.meaning.specs.Accepted.{count_of}
use Rattle.code_drafts.specs.Items.{Item, Operand, pushed, number, variable, Destination, push, into, aside, nowhere}
use Rattle.code_drafts.specs.Items.{right_place, operation_item, operand_of, operands_of, alone, left_of}
use Rattle.code_drafts.specs.Items.{if_pushed, branch_true, is_direct, same_count, comparison_test, comparison_when, equality_when}
use Rattle.code_drafts.specs.Items.{same_items, is_any_pushed, argument_place, arguments_items}
use Rattle.code_drafts.specs.Items.{value_count, operand_count, operands_count, branch_count, many_count, truth_items}
use Rattle.code_drafts.specs.Items.{value_items, operands_items, branch_items, many_items, also_items}
use Rattle.code_drafts.specs.Items as items
use Rattle.story.proofs.Most.{most, most_of, tokens, list_tokens, alternative_tokens, or_tokens, most_append, if_small}
use Rattle.story.proofs.Most.{truth_small, either_small, operands_length, alternatives_are}

pub record Small (v : Value) : Type 0 where
  pub value : (d : Destination) (at : ℕ) → most_of (value_items at v d) + 20 ≤ 32 * tokens v
  pub branch : (when : Bool) (at t : ℕ) → most_of (branch_items at v when t) + 20 ≤ 32 * tokens v

-- the items of operands, and how many operands there are
pub record AreSmall (vs : Values) : Type 0 where
  pub all : (at : ℕ) → most_of (operands_items at vs) + 20 * count_of vs ≤ 32 * list_tokens vs
  pub arguments : (several : Bool) (at : ℕ)
      → most_of (arguments_items several at vs) + 20 * count_of vs ≤ 32 * list_tokens vs
  pub also : (op : Equality) (when : Bool) (at t : ℕ) → most_of (also_items at op vs when t) ≤ 32 * or_tokens vs + 13

pub two_small : (oa ob : Operand) (xa xb tail : List Item) (na nb : ℕ) → most_of xa + 20 ≤ na → most_of xb + 20 ≤ nb
    → most_of (if_pushed oa xa [] ++ (if_pushed ob xb [] ++ tail)) + 40 ≤ na + nb + most_of tail
two_small oa ob xa xb tail na nb ha hb =
    omega (
      arith,
      if_small oa xa na ha,
      if_small ob xb nb hb,
      most_append (if_pushed oa xa []) (if_pushed ob xb [] ++ tail),
      most_append (if_pushed ob xb []) tail,
    )

-- the items of one operand, and what is done with it
pub alone_small : (v : Value) → Small v → (at : ℕ) (tail : List Item)
    → most_of (if_pushed (alone v) (value_items at v push) [] ++ tail) + 20 ≤ 32 * tokens v + most_of tail
alone_small v s at tail = omega (
  arith,
  if_small (alone v) _ _ (s.value push at),
  most_append (if_pushed (alone v) (value_items at v push) []) tail,
)

pub prefixed_small : (op : Prefix) (v : Value) → Small v → Small (source.prefixed op v)
prefixed_small prefixes.Not v s = record {
  value = λ d at. let h = truth_small at (branch_count v false) d (λ t. branch_items at v false t)
      (32 * tokens v - 20)
      (λ t. omega (arith, s.branch false at t)) in omega (arith, h, s.branch false at 0);
  branch = λ when at t. omega (arith, s.branch (not when) at t);
}
prefixed_small op v s = record {
  value = λ d at. omega (arith, alone_small v s at (items.apply_prefix op (alone v) d ∷ []));
  branch = λ when at t. omega
      (arith, alone_small v s at (items.apply_prefix op (alone v) push ∷ branch_true pushed when t ∷ []));
}

operated_small : (place : Destination) (op : Binary) (o q : Operand) (d : Destination)
    → most (operation_item place op o q d) ≤ 16
operated_small aside op o pushed d = omega arith
operated_small aside op o (number n) d = omega arith
operated_small aside op o (variable x) d = omega arith
operated_small push op o q d = omega arith
operated_small (into x) op o q d = omega arith
operated_small nowhere op o q d = omega arith

pub binary_small : (op : Binary) (a b : Value) → Small a → Small b → Small (source.binary op a b)
binary_small binaries.AndAlso a b sa sb =
    let both : (when : Bool) (at t : ℕ)
    → most_of (branch_items at (source.binary binaries.AndAlso a b) when t) + 40 ≤ 32 * tokens a + 32 * tokens b =
    λ when at t. let skip = if when then at + branch_count a false + branch_count b when else t in
    omega (
      arith,
      sa.branch false at skip,
      sb.branch when (at + branch_count a false) t,
      most_append (branch_items at a false skip) (branch_items (at + branch_count a false) b when t),
    ) in
    record {
      value = λ d at. let h = truth_small at (branch_count a false + branch_count b true) d
          (λ t. branch_items at (source.binary binaries.AndAlso a b) true t) (32 * tokens a + 32 * tokens b - 40)
          (λ t. omega (arith, both true at t)) in omega (arith, h, both true at 0);
      branch = λ when at t. omega (arith, both when at t);
    }
binary_small binaries.OrElse a b sa sb =
    let both : (when : Bool) (at t : ℕ)
    → most_of (branch_items at (source.binary binaries.OrElse a b) when t) + 40 ≤ 32 * tokens a + 32 * tokens b =
    λ when at t. let skip = if when then t else at + branch_count a true + branch_count b when in
    omega (
      arith,
      sa.branch true at skip,
      sb.branch when (at + branch_count a true) t,
      most_append (branch_items at a true skip) (branch_items (at + branch_count a true) b when t),
    ) in
    record {
      value = λ d at. let h = truth_small at (branch_count a true + branch_count b true) d
          (λ t. branch_items at (source.binary binaries.OrElse a b) true t) (32 * tokens a + 32 * tokens b - 40)
          (λ t. omega (arith, both true at t)) in omega (arith, h, both true at 0);
      branch = λ when at t. omega (arith, both when at t);
    }
binary_small op a b sa sb =
    let o = left_of a b in
    let place = right_place op o in
    record {
      value = λ d at. omega (
        arith,
        two_small o (alone b) _ _ (operation_item place op o (alone b) d ∷ []) _ _ (sa.value push at)
            (sb.value place (at + operand_count a o)),
        operated_small place op o (alone b) d,
      );
      branch = λ when at t. omega (
        arith,
        two_small o (alone b) _ _ (operation_item place op o (alone b) push ∷ branch_true pushed when t ∷ []) _ _
            (sa.value push at) (sb.value place (at + operand_count a o)),
        operated_small place op o (alone b) push,
      );
    }

pub list_none : AreSmall none
list_none = record { all = λ at. omega arith; arguments = λ several at. omega arith; also = λ op when at t. omega arith }

pub list_more : (v : Value) (vs : Values) → Small v → AreSmall vs → AreSmall (more v vs)
list_more v vs s ss = record {
  all = λ at. omega (
    arith,
    if_small (operand_of v vs) _ _ (s.value push at),
    ss.all (at + operand_count v (operand_of v vs)),
    most_append (if_pushed (operand_of v vs) (value_items at v push) [])
        (operands_items (at + operand_count v (operand_of v vs)) vs),
  );
  arguments = λ several at.
      let o = operand_of v vs in
      let place = argument_place several (is_any_pushed (operands_of vs)) in
      let rest = at + if_pushed o (value_count v place) 0 in
      omega (
        arith,
        if_small o _ _ (s.value place at),
        ss.arguments several rest,
        most_append (if_pushed o (value_items at v place) []) (arguments_items several rest vs),
      );
  also = λ op when at t. let rest = also_items (at + value_count v push + 1) op vs when t in
      omega (
        arith,
        s.value push at,
        ss.also op when (at + value_count v push + 1) t,
        most_append (value_items at v push) (items.also_equal ∷ rest),
      );
}

-- a condition that is no `&&`, `||` or `~~`: what branches by it, and its word
pub compare_small : (op : Comparison) (a b : Value) → Small a → Small b → Small (source.compare op a b)
compare_small op a b sa sb =
    let both : (when : Bool) (at t : ℕ)
    → most_of (branch_items at (source.compare op a b) when t) + 26 ≤ 32 * tokens a + 32 * tokens b =
    λ when at t. omega (
      arith,
      two_small (left_of a b) (alone b) _ _ (items.branch (comparison_test op) (left_of a b ∷ alone b ∷ [])
          (comparison_when op when) t ∷ []) _ _ (sa.value push at)
          (sb.value push (at + operand_count a (left_of a b))),
    ) in
    record {
      value = λ d at. let h = truth_small at (operand_count a (left_of a b) + operand_count b (alone b) + 1) d
          (λ t. branch_items at (source.compare op a b) true t) (32 * tokens a + 32 * tokens b - 26)
          (λ t. omega (arith, both true at t)) in omega (arith, h, both true at 0);
      branch = λ when at t. omega (arith, both when at t);
    }

-- branches by three others at a time
same_small : (o : Operand) (os : List Operand) (at : ℕ) (when : Bool) (t : ℕ)
    → most_of (same_items o os at when t) ≤ 10 + 8 * length os
same_small o [] at when t = omega arith
same_small o (x ∷ []) at when t = omega arith
same_small o (x ∷ y ∷ []) at when t = omega arith
same_small o (x ∷ y ∷ z ∷ []) at when t = omega arith
same_small o (x ∷ y ∷ z ∷ u ∷ os) at when t = omega (arith, same_small o (u ∷ os) (at + 1) when t)

-- the two ways of `==`
direct_small : (op : Equality) (a : Value) (bs : Values) → Small a → AreSmall bs → (when : Bool) (at t : ℕ)
    → most_of (if_pushed (operand_of a bs) (value_items at a push) []
    ++ (operands_items (at + operand_count a (operand_of a bs)) bs
    ++ same_items (operand_of a bs) (operands_of bs) (at + operand_count a (operand_of a bs) + operands_count bs)
    (equality_when op when) t)) + 10
    ≤ 32 * tokens a + 32 * list_tokens bs
direct_small op a bs sa sbs when at t =
    let o = operand_of a bs in
    let m = at + operand_count a o in
    let last = same_items o (operands_of bs) (m + operands_count bs) (equality_when op when) t in
    omega (
      arith,
      if_small o _ _ (sa.value push at),
      sbs.all m,
      operands_length bs,
      same_small o (operands_of bs) (m + operands_count bs) (equality_when op when) t,
      most_append (if_pushed o (value_items at a push) []) (operands_items m bs ++ last),
      most_append (operands_items m bs) last,
    )

-- of several alternatives, the first and the others
abbrev pub FirstSmall : Values → Type 0
FirstSmall none = Unit {0}
FirstSmall (more v vs) = Small v × AreSmall vs

many_small : (op : Equality) (a : Value) (bs : Values) → Small a → FirstSmall bs → (when : Bool) (at t : ℕ)
    → most_of (value_items at a push ++ many_items (at + value_count a push) op bs when t) + 40
    ≤ 32 * tokens a + 32 * alternative_tokens bs
many_small op a none sa first when at t =
    omega (arith, sa.value push at, most_append (value_items at a push) (branch_true pushed when t ∷ []))
many_small op a (more v vs) sa first when at t =
    let m = at + value_count a push in
    let e = m + value_count v push + 1 in
    omega (
      arith,
      sa.value push at,
      first.0.value push m,
      first.1.also op when e t,
      most_append (value_items at a push) (many_items m op (more v vs) when t),
      most_append (value_items m v push) (items.first_equal ∷ also_items e op vs when t),
    )

pub equal_small : (op : Equality) (a : Value) (bs : Values) → Small a → AreSmall bs → FirstSmall bs
    → Small (source.equal op a bs)
equal_small op a bs sa sbs first =
    let direct = direct_small op a bs sa sbs in
    let many = many_small op a bs sa first in
    let room = alternatives_are bs in
    let n = 32 * (tokens a + alternative_tokens bs) in
    record {
      value = λ d at.
          let count = operand_count a (operand_of a bs) + operands_count bs + same_count (operands_of bs) in
          let more_count = value_count a push + many_count bs in
          let a1 = truth_small at count d (direct_items at true) (n - 33) (λ t. omega (arith, direct true at t, room)) in
          let a2 = truth_small at more_count d (several_items at true) (n - 33)
          (λ t. omega (arith, many true at t, room)) in
          let h = either_small (is_direct a bs) (truth_items at count d (direct_items at true))
          (truth_items at more_count d (several_items at true)) (n - 20) (omega (arith, a1, room, direct true at 0))
          (omega (arith, a2, room, direct true at 0)) in
          omega (arith, h, room, direct true at 0);
      branch = λ when at t.
          let h = either_small (is_direct a bs) (direct_items at when t) (several_items at when t) (n - 20)
          (omega (arith, direct when at t, room)) (omega (arith, many when at t, room)) in
          omega (arith, h, room, direct when at t);
    }
  where
    direct_items : ℕ → Bool → ℕ → List Item
    direct_items at when t = if_pushed (operand_of a bs) (value_items at a push) []
        ++ (operands_items (at + operand_count a (operand_of a bs)) bs
        ++ same_items (operand_of a bs) (operands_of bs) (at + operand_count a (operand_of a bs) + operands_count bs)
        (equality_when op when) t)

    several_items : ℕ → Bool → ℕ → List Item
    several_items at when t = value_items at a push ++ many_items (at + value_count a push) op bs when t

loaded_small : (width : Width) (a : ℕ) (o : Operand) (d : Destination) → most (items.entry_item width a o d) ≤ 24
loaded_small width a pushed d = omega arith
loaded_small width a (number k) d = omega arith
loaded_small width a (variable x) d = omega arith

stored_small : (width : Width) (a : ℕ) (o q : Operand) (d : Destination) → most (items.assign_entry_item width a o q d) ≤ 33
stored_small width a o q d = go (is_any_pushed (o ∷ q ∷ []))
  where
    go : (b : Bool) → most (if b then items.assign_entry_aside width a o q d else items.assign_entry width a o q d) ≤ 33
    go true = omega arith
    go false = omega arith

pub entry_small : (width : Width) (a : ℕ) (i : Value) → Small i → Small (source.entry width a i)
entry_small width a i s =
    let before : ℕ → List Item = λ at. if_pushed (alone i) (value_items at i aside) [] in
    record {
      value = λ d at. omega (
        arith,
        if_small (alone i) _ _ (s.value aside at),
        most_append (before at) (items.entry_item width a (alone i) d ∷ []),
        loaded_small width a (alone i) d,
      );
      branch = λ when at t. omega (
        arith,
        if_small (alone i) _ _ (s.value aside at),
        most_append (before at) (items.entry_item width a (alone i) push ∷ branch_true pushed when t ∷ []),
        loaded_small width a (alone i) push,
      );
    }

pub assign_entry_small : (width : Width) (a : ℕ) (i v : Value) → Small i → Small v
    → Small (source.assign_entry width a i v)
assign_entry_small width a i v si sv =
    let o = left_of i v in
    let place = items.index_place (alone v) in
    record {
      value = λ d at. omega (
        arith,
        two_small o (alone v) _ _ (items.assign_entry_item width a o (alone v) d ∷ []) _ _ (si.value place at)
            (sv.value aside (at + if_pushed o (value_count i place) 0)),
        stored_small width a o (alone v) d,
      );
      branch = λ when at t. omega (
        arith,
        two_small o (alone v) _ _ (items.assign_entry_item width a o (alone v) push ∷ branch_true pushed when t ∷ []) _ _
            (si.value place at) (sv.value aside (at + if_pushed o (value_count i place) 0)),
        stored_small width a o (alone v) push,
      );
    }
