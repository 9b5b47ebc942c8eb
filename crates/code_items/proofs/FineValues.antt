-- The items of values name only what is there.
use Rattle.std.proofs.Common.{◌≡◌, ℕ, ◌+◌, ◌<◌, List, [], ◌∷◌, ◌++◌, length, Bool, true, false, refl, arith}
use Rattle.std.specs.Prelude.{if◌then◌else◌, not}
use Rattle.syntax_trees.specs.declared.tree.Binary.{Binary}
use Rattle.syntax_trees.specs.declared.tree.Binary.TheVariants as binaries
use Rattle.syntax_trees.specs.declared.tree.Comparison.{Comparison}
use Rattle.syntax_trees.specs.declared.tree.Equality.{Equality}
use Rattle.syntax_trees.specs.declared.tree.Prefix.{Prefix}
use Rattle.syntax_trees.specs.declared.tree.Prefix.TheVariants as prefixes
use Rattle.syntax_trees.specs.declared.tree.Width.{Width}
use Rattle.meaning.specs.declared.resolved.Variable.{Variable}
use Rattle.meaning.specs.Resolved.{Value, Values, none, more}
use Rattle.meaning.specs.Resolved as source
use Rattle.meaning.specs.Accepted.{IsVariable, IsValue, AreValues}
use Rattle.code_drafts.specs.Items.{Item, Operand, pushed, number, variable, Destination, push, into, aside}
use Rattle.code_drafts.specs.Items.{right_place, entry_item, index_place, assign_entry_item}
use Rattle.code_drafts.specs.Items.{operation_item, operand_of, operands_of, alone}
use Rattle.code_drafts.specs.Items.{left_of, if_pushed, is_direct, same_count, comparison_when, equality_when, truth_count}
use Rattle.code_drafts.specs.Items.{value_count, operand_count, operands_count, branch_count, many_count, also_count}
use Rattle.code_drafts.specs.Items.{same_items, is_any_pushed, are_more_pushed, argument_place, call_item}
use Rattle.code_drafts.specs.Items.{arguments_count, arguments_items}
use Rattle.code_drafts.specs.Items.{value_items, operands_items, branch_items, many_items, also_items}
use Rattle.code_drafts.specs.Items as items
use Rattle.code_drafts.proofs.InPlace.{operands_counted}
use Rattle.code_items.specs.Laws.{IsOperand, IsDestination, IsItem}
use Rattle.code_items.proofs.Held.{place_is}
use Rattle.code_items.proofs.Calls.{any_of_more}
use Rattle.code_items.proofs.Fine.{Bounds, Fine, same_fine, branch_two, chosen, counted_else, counted_then}
use Rattle.code_items.proofs.Fine.{either_fine, first, joined, kept_fine, last, last_two, nothing, operand_fine}
use Rattle.code_items.proofs.Fine.{operands_fine, pushed_fine, true_fine, truth_fine, two_fine}

module _ (here : Bounds) where
  open here use {p, locals, count}

  pub record FineValue (v : Value) : Type 0 where
    pub value : (at : ℕ) (d : Destination) → IsDestination p locals d → at + value_count v d < count
        → Fine here (value_items at v d)
    pub branch : (at : ℕ) (when : Bool) (t : ℕ) → at + branch_count v when < count → t < count
        → Fine here (branch_items at v when t)

  pub record FineList (vs : Values) : Type 0 where
    pub list : (at : ℕ) → at + operands_count vs < count → Fine here (operands_items at vs)
    pub arguments : (several : Bool) (at : ℕ) → at + arguments_count several vs < count
        → Fine here (arguments_items several at vs)
    pub also : (op : Equality) (at : ℕ) (when : Bool) (t : ℕ) → at + also_count vs < count → t < count
        → Fine here (also_items at op vs when t)
    pub many : (op : Equality) (at : ℕ) (when : Bool) (t : ℕ) → at + many_count vs < count → t < count
        → Fine here (many_items at op vs when t)

  pub operand_pushed : (o : Operand) (v : Value) → FineValue v → (at : ℕ)
      → at + if_pushed o (value_count v push) 0 < count → Fine here (if_pushed o (value_items at v push) [])
  operand_pushed o v f at lt = pushed_fine here o (value_items at v push) (value_count v push) at lt
      (λ lt. f.value at push tt lt)

  pub two_operands : (a b : Value) → FineValue a → FineValue b → (at : ℕ) (tail : List Item)
      → at + (operand_count a (left_of a b) + operand_count b (alone b)) < count → Fine here tail
      → Fine here (if_pushed (left_of a b) (value_items at a push) []
      ++ (if_pushed (alone b) (value_items (at + operand_count a (left_of a b)) b push) [] ++ tail))
  two_operands a b fa fb at tail lt ht =
      two_fine here (left_of a b) (alone b) _ _ tail (value_count a push) (value_count b push) at lt
      (λ lt. fa.value at push tt lt) (λ lt. fb.value (at + operand_count a (left_of a b)) push tt lt) ht

  is_call_item : (r : ℕ) (vs : Values) → IsValue p locals (source.call r vs) → (d : Destination)
      → IsDestination p locals d
      → IsItem p locals count (call_item (are_more_pushed (operands_of vs)) r (operands_of vs) d)
  is_call_item r vs h d hd = go (are_more_pushed (operands_of vs)) refl
    where
      go : (b : Bool) → are_more_pushed (operands_of vs) ≡ b → IsItem p locals count (call_item b r (operands_of vs) d)
      go true e =
          let n = operands_counted vs in (
            h.0,
            operands_fine here vs h.3,
            omega (arith, n, h.1),
            omega (arith, n, h.2),
            any_of_more (operands_of vs) e,
            hd,
          )
      go false e =
          let n = operands_counted vs in
          (h.0, operands_fine here vs h.3, omega (arith, n, h.1), omega (arith, n, h.2), hd)

  pub call_fine : (r : ℕ) (vs : Values) → IsValue p locals (source.call r vs) → FineList vs
      → FineValue (source.call r vs)
  call_fine r vs h f = record {
    value = λ at d hd lt. last here (arguments_items (are_more_pushed (operands_of vs)) at vs) _
        (f.arguments (are_more_pushed (operands_of vs)) at (omega (arith, lt))) (is_call_item r vs h d hd);
    branch = λ at when t lt le. last_two here (arguments_items (are_more_pushed (operands_of vs)) at vs) _ _
        (f.arguments (are_more_pushed (operands_of vs)) at (omega (arith, lt)))
        (is_call_item r vs h push tt) (true_fine here pushed when t tt le);
  }

  pub prefixed_fine : (op : Prefix) (v : Value) → IsValue p locals v → FineValue v → FineValue (source.prefixed op v)
  prefixed_fine prefixes.Not v h f = record {
    value = λ at d hd lt. truth_fine here at (branch_count v false) d (λ t. branch_items at v false t) hd lt
        (λ t le. f.branch at false t (omega (arith, lt)) le);
    branch = λ at when t lt le. f.branch at (not when) t lt le;
  }
  prefixed_fine op v h f = record {
    value = λ at d hd lt. last here (if_pushed (alone v) (value_items at v push) []) _
        (operand_pushed (alone v) v f at (omega (arith, lt))) (operand_fine here v none h, hd);
    branch = λ at when t lt le. last_two here (if_pushed (alone v) (value_items at v push) []) _ _
        (operand_pushed (alone v) v f at (omega (arith, lt))) (operand_fine here v none h, tt)
        (true_fine here pushed when t tt le);
  }

  -- two operands, of which the first leads to a place, and the second to another
  both_fine : (a b : Value) → FineValue a → FineValue b → (at : ℕ) (wa wb : Bool) (ta tb : ℕ)
      → at + (branch_count a wa + branch_count b wb) < count → ta < count → tb < count
      → Fine here (branch_items at a wa ta ++ branch_items (at + branch_count a wa) b wb tb)
  both_fine a b fa fb at wa wb ta tb lt la lb =
      joined here (branch_items at a wa ta) _ (fa.branch at wa ta (omega (arith, lt)) la)
      (fb.branch (at + branch_count a wa) wb tb (omega (arith, lt)) lb)

  -- the right one of two operands goes where its operator finds it
  place_fine : (op : Binary) (o : Operand) → IsDestination p locals (right_place op o)
  place_fine op o = place_is op o (IsDestination p locals) tt tt

  placed_operands : (op : Binary) (a b : Value) → FineValue a → FineValue b → (at : ℕ) (tail : List Item)
      → at + (operand_count a (left_of a b) + if_pushed (alone b) (value_count b (right_place op (left_of a b))) 0)
      < count
      → Fine here tail
      → Fine here (if_pushed (left_of a b) (value_items at a push) [] ++ (if_pushed (alone b)
      (value_items (at + operand_count a (left_of a b)) b (right_place op (left_of a b))) [] ++ tail))
  placed_operands op a b fa fb at tail lt ht =
      two_fine here (left_of a b) (alone b) _ _ tail (value_count a push) (value_count b (right_place op (left_of a b)))
      at lt (λ lt. fa.value at push tt lt)
      (λ lt. fb.value (at + operand_count a (left_of a b)) (right_place op (left_of a b)) (place_fine op (left_of a b)) lt)
      ht

  operated_fine : (op : Binary) (o q : Operand) (d : Destination) → (op ≡ binaries.AndAlso → ⊥)
      → (op ≡ binaries.OrElse → ⊥) → IsOperand p locals o → IsOperand p locals q → IsDestination p locals d
      → IsItem p locals count (operation_item (right_place op o) op o q d)
  operated_fine binaries.AndAlso o q d no_and no_or ho hq hd = absurd (no_and refl)
  operated_fine binaries.OrElse o q d no_and no_or ho hq hd = absurd (no_or refl)
  operated_fine binaries.Subtract pushed pushed d no_and no_or ho hq hd = (ho, hd)
  operated_fine binaries.Subtract pushed (number n) d no_and no_or ho hq hd = (ho, hq, hd)
  operated_fine binaries.Subtract pushed (variable x) d no_and no_or ho hq hd = (ho, hq, hd)
  operated_fine binaries.Subtract (number n) q d no_and no_or ho hq hd = (ho, hq, hd)
  operated_fine binaries.Subtract (variable x) q d no_and no_or ho hq hd = (ho, hq, hd)
  operated_fine binaries.Divide o pushed d no_and no_or ho hq hd = (ho, hd)
  operated_fine binaries.Divide o (number n) d no_and no_or ho hq hd = (ho, hq, hd)
  operated_fine binaries.Divide o (variable x) d no_and no_or ho hq hd = (ho, hq, hd)
  operated_fine binaries.Remainder o pushed d no_and no_or ho hq hd = (ho, hd)
  operated_fine binaries.Remainder o (number n) d no_and no_or ho hq hd = (ho, hq, hd)
  operated_fine binaries.Remainder o (variable x) d no_and no_or ho hq hd = (ho, hq, hd)
  operated_fine op o q d no_and no_or ho hq hd = (ho, hq, hd)

  operation_fine : (op : Binary) (a b : Value) (d : Destination) → (op ≡ binaries.AndAlso → ⊥)
      → (op ≡ binaries.OrElse → ⊥) → IsValue p locals a → IsValue p locals b → IsDestination p locals d
      → IsItem p locals count (operation_item (right_place op (left_of a b)) op (left_of a b) (alone b) d)
  operation_fine op a b d no_and no_or ha hb hd =
      operated_fine op (left_of a b) (alone b) d no_and no_or (operand_fine here a (more b none) ha)
      (operand_fine here b none hb) hd

  pub binary_fine : (op : Binary) (a b : Value) → IsValue p locals a → IsValue p locals b → FineValue a → FineValue b
      → FineValue (source.binary op a b)
  binary_fine binaries.AndAlso a b ha hb fa fb = record {
    value = λ at d hd lt.
        truth_fine here at (branch_count a false + branch_count b true) d _ hd lt
        (λ t le. both_fine a b fa fb at false true (at + branch_count a false + branch_count b true) t
        (omega (arith, lt)) (omega (arith, lt)) le);
    branch = λ at when t lt le. both_fine a b fa fb at false when
        (if when then at + branch_count a false + branch_count b when else t) t lt
        (chosen here when _ _ (omega (arith, lt)) le) le;
  }
  binary_fine binaries.OrElse a b ha hb fa fb = record {
    value = λ at d hd lt. truth_fine here at (branch_count a true + branch_count b true) d _ hd lt
        (λ t le. both_fine a b fa fb at true true t t (omega (arith, lt)) le le);
    branch = λ at when t lt le. both_fine a b fa fb at true when
        (if when then t else at + branch_count a true + branch_count b when) t lt
        (chosen here when _ _ le (omega (arith, lt))) le;
  }
  binary_fine op a b ha hb fa fb = record {
    value = λ at d hd lt. placed_operands op a b fa fb at _ (omega (arith, lt))
        (first here _ _ (operation_fine op a b d (λ e. absurd (cc)) (λ e. absurd (cc)) ha hb hd) (nothing here));
    branch = λ at when t lt le. placed_operands op a b fa fb at _ (omega (arith, lt))
        (first here _ _ (operation_fine op a b push (λ e. absurd (cc)) (λ e. absurd (cc)) ha hb tt)
        (first here _ _ (true_fine here pushed when t tt le) (nothing here)));
  }

  pub compare_fine : (op : Comparison) (a b : Value) → IsValue p locals a → IsValue p locals b → FineValue a
      → FineValue b → FineValue (source.compare op a b)
  compare_fine op a b ha hb fa fb = record {
    value = λ at d hd lt. truth_fine here at (operand_count a (left_of a b) + operand_count b (alone b) + 1) d _ hd lt
        (λ t le. branches at true t (omega (arith, lt)) le);
    branch = λ at when t lt le. branches at when t (omega (arith, lt)) le;
  }
    where
      branches : (at : ℕ) (when : Bool) (t : ℕ)
          → at + (operand_count a (left_of a b) + operand_count b (alone b)) < count → t < count
          → Fine here (branch_items at (source.compare op a b) when t)
      branches at when t lt le =
          two_operands a b fa fb at _ lt
          (first here _ _ (branch_two here op (left_of a b) (alone b) (comparison_when op when) t
          (operand_fine here a (more b none) ha) (operand_fine here b none hb) le) (nothing here))

  direct_fine : (op : Equality) (a : Value) (bs : Values) → IsValue p locals a → AreValues p locals bs → FineValue a
      → FineList bs → (at : ℕ) (when : Bool) (t : ℕ)
      → at + (operand_count a (operand_of a bs) + operands_count bs + same_count (operands_of bs)) < count → t < count
      → Fine here (if_pushed (operand_of a bs) (value_items at a push) []
      ++ (operands_items (at + operand_count a (operand_of a bs)) bs ++ same_items (operand_of a bs) (operands_of bs)
      (at + operand_count a (operand_of a bs) + operands_count bs) (equality_when op when) t))
  direct_fine op a bs ha hbs fa fbs at when t lt le =
      joined here (if_pushed (operand_of a bs) (value_items at a push) []) _
      (operand_pushed (operand_of a bs) a fa at (omega (arith, lt)))
      (joined here (operands_items (at + operand_count a (operand_of a bs)) bs) _
      (fbs.list (at + operand_count a (operand_of a bs)) (omega (arith, lt)))
      (same_fine here (operand_of a bs) (operands_of bs) (at + operand_count a (operand_of a bs) + operands_count bs)
      (equality_when op when) t (operand_fine here a bs ha) (operands_fine here bs hbs) (omega (arith, lt)) le))

  all_fine : (op : Equality) (a : Value) (bs : Values) → FineValue a → FineList bs → (at : ℕ) (when : Bool) (t : ℕ)
      → at + (value_count a push + many_count bs) < count → t < count
      → Fine here (value_items at a push ++ many_items (at + value_count a push) op bs when t)
  all_fine op a bs fa fbs at when t lt le =
      joined here (value_items at a push) _ (fa.value at push tt (omega (arith, lt)))
      (fbs.many op (at + value_count a push) when t (omega (arith, lt)) le)

  pub equal_fine : (op : Equality) (a : Value) (bs : Values) → IsValue p locals a → AreValues p locals bs → FineValue a
      → FineList bs → FineValue (source.equal op a bs)
  equal_fine op a bs ha hbs fa fbs = record {
    value = λ at d hd lt.
        either_fine here (is_direct a bs) _ _
        (λ e. let l = counted_then here (is_direct a bs) at direct all (truth_count d) lt e in
        truth_fine here at direct d _ hd l (λ t le. direct_fine op a bs ha hbs fa fbs at true t (omega (arith, l)) le))
        (λ e. let l = counted_else here (is_direct a bs) at direct all (truth_count d) lt e in
        truth_fine here at all d _ hd l (λ t le. all_fine op a bs fa fbs at true t (omega (arith, l)) le));
    branch = λ at when t lt le.
        either_fine here (is_direct a bs) _ _
        (λ e. let l = counted_then here (is_direct a bs) at direct all 0 (omega (arith, lt)) e in
        direct_fine op a bs ha hbs fa fbs at when t (omega (arith, l)) le)
        (λ e. let l = counted_else here (is_direct a bs) at direct all 0 (omega (arith, lt)) e in
        all_fine op a bs fa fbs at when t (omega (arith, l)) le);
  }
    where
      direct : ℕ
      direct = operand_count a (operand_of a bs) + operands_count bs + same_count (operands_of bs)

      all : ℕ
      all = value_count a push + many_count bs

  pub assign_fine : (x : Variable) (v : Value) → IsVariable p locals x → FineValue v → FineValue (source.assign x v)
  assign_fine x v hx f = record {
    value =
        λ at d hd lt. kept_fine here x d (value_items at v (into x)) (value_items at v push) (value_count v (into x))
        (value_count v push) at hx hd lt (λ lt. f.value at (into x) hx lt) (λ lt. f.value at push tt lt);
    branch = λ at when t lt le. last_two here (value_items at v push) _ _ (f.value at push tt (omega (arith, lt))) hx
        (true_fine here pushed when t tt le);
  }

  argument_fine : (several any : Bool) → IsDestination p locals (argument_place several any)
  argument_fine true true = tt
  argument_fine false true = tt
  argument_fine true false = tt
  argument_fine false false = tt

  loaded_fine : (width : Width) (a : ℕ) (o : Operand) (d : Destination) → a < length p.arrays → IsOperand p locals o
      → IsDestination p locals d → IsItem p locals count (entry_item width a o d)
  loaded_fine width a pushed d ha ho hd = (ha, hd)
  loaded_fine width a (number n) d ha ho hd = (ha, ho, hd)
  loaded_fine width a (variable x) d ha ho hd = (ha, ho, hd)

  stored_fine : (width : Width) (a : ℕ) (o q : Operand) (d : Destination) → a < length p.arrays
      → IsOperand p locals o → IsOperand p locals q → IsDestination p locals d
      → IsItem p locals count (assign_entry_item width a o q d)
  stored_fine width a o q d ha ho hq hd = go (is_any_pushed (o ∷ q ∷ [])) refl
    where
      go : (b : Bool) → is_any_pushed (o ∷ q ∷ []) ≡ b → IsItem p locals count
          (if b then items.assign_entry_aside width a o q d else items.assign_entry width a o q d)
      go true e = (ha, ho, hq, e, hd)
      go false e = (ha, ho, hq, hd)

  -- an operand of an entry goes where the entry finds it
  entry_operand : (o : Operand) (v : Value) (place : Destination) → FineValue v → IsDestination p locals place
      → (at : ℕ) → at + if_pushed o (value_count v place) 0 < count
      → Fine here (if_pushed o (value_items at v place) [])
  entry_operand o v place f is at lt =
      pushed_fine here o (value_items at v place) (value_count v place) at lt (λ lt. f.value at place is lt)

  pub entry_fine : (width : Width) (a : ℕ) (i : Value) → a < length p.arrays → IsValue p locals i → FineValue i
      → FineValue (source.entry width a i)
  entry_fine width a i ha h f = record {
    value = λ at d hd lt. last here (if_pushed (alone i) (value_items at i aside) []) _
        (entry_operand (alone i) i aside f tt at (omega (arith, lt)))
        (loaded_fine width a (alone i) d ha (operand_fine here i none h) hd);
    branch = λ at when t lt le. last_two here (if_pushed (alone i) (value_items at i aside) []) _ _
        (entry_operand (alone i) i aside f tt at (omega (arith, lt)))
        (loaded_fine width a (alone i) push ha (operand_fine here i none h) tt) (true_fine here pushed when t tt le);
  }

  pub assign_entry_fine : (width : Width) (a : ℕ) (i v : Value) → a < length p.arrays → IsValue p locals i
      → IsValue p locals v → FineValue i → FineValue v → FineValue (source.assign_entry width a i v)
  assign_entry_fine width a i v ha hi hv fi fv = record {
    value = λ at d hd lt. operands_stored at _ (omega (arith, lt)) (first here _ _ (item d hd) (nothing here));
    branch = λ at when t lt le. operands_stored at _ (omega (arith, lt))
        (first here _ _ (item push tt) (first here _ _ (true_fine here pushed when t tt le) (nothing here)));
  }
    where
      place : Destination
      place = index_place (alone v)

      item : (d : Destination) → IsDestination p locals d
          → IsItem p locals count (assign_entry_item width a (left_of i v) (alone v) d)
      item d hd = stored_fine width a (left_of i v) (alone v) d ha (operand_fine here i (more v none) hi)
          (operand_fine here v none hv) hd

      operands_stored : (at : ℕ) (tail : List Item)
          → at + (if_pushed (left_of i v) (value_count i place) 0 + if_pushed (alone v) (value_count v aside) 0) < count
          → Fine here tail
          → Fine here (if_pushed (left_of i v) (value_items at i place) [] ++ (if_pushed (alone v)
          (value_items (at + if_pushed (left_of i v) (value_count i place) 0) v aside) [] ++ tail))
      operands_stored at tail lt ht =
          two_fine here (left_of i v) (alone v) _ _ tail (value_count i place) (value_count v aside) at lt
          (λ lt. fi.value at place (argument_fine true (if_pushed (alone v) true false)) lt)
          (λ lt. fv.value (at + if_pushed (left_of i v) (value_count i place) 0) aside tt lt) ht

  pub list_none : FineList none
  list_none = record {
    list = λ at lt. nothing here;
    arguments = λ several at lt. nothing here;
    also = λ op at when t lt le. first here _ _ tt
        (first here _ _ (true_fine here pushed (equality_when op when) t tt le) (nothing here));
    many = λ op at when t lt le. first here _ _ (true_fine here pushed when t tt le) (nothing here);
  }

  pub list_more : (v : Value) (vs : Values) → FineValue v → FineList vs → FineList (more v vs)
  list_more v vs f fs = record {
    list = λ at lt. joined here (if_pushed (operand_of v vs) (value_items at v push) []) _
        (operand_pushed (operand_of v vs) v f at (omega (arith, lt)))
        (fs.list (at + operand_count v (operand_of v vs)) (omega (arith, lt)));
    arguments = λ several at lt.
        let o = operand_of v vs in
        let place = argument_place several (is_any_pushed (operands_of vs)) in
        joined here (if_pushed o (value_items at v place) []) _
        (pushed_fine here o (value_items at v place) (value_count v place) at (omega (arith, lt))
        (λ l. f.value at place (argument_fine several (is_any_pushed (operands_of vs))) l))
        (fs.arguments several (at + if_pushed o (value_count v place) 0) (omega (arith, lt)));
    also = λ op at when t lt le. joined here (value_items at v push) _ (f.value at push tt (omega (arith, lt)))
        (first here _ _ tt (fs.also op (at + value_count v push + 1) when t (omega (arith, lt)) le));
    many = λ op at when t lt le. joined here (value_items at v push) _ (f.value at push tt (omega (arith, lt)))
        (first here _ _ tt (fs.also op (at + value_count v push + 1) when t (omega (arith, lt)) le));
  }
