-- Expressions that break no rule: what they resolve to is within the limits.
use Rattle.std.proofs.Common.{◌≡◌, ℕ, ◌+◌, ◌≤◌, nat_lt, Bool, true, false, List, [], ◌++◌, Option, Some, None, cond}
use Rattle.std.proofs.Common.{refl, sym, subst, arith}
use Rattle.std.specs.Option.{option_map}
use Rattle.syntax_lexer.specs.declared.token.Position.{Position}
use Rattle.syntax_trees.specs.Tree as trees
use Rattle.syntax_trees.specs.Tree.{NameTree, ExpressionTree, ExpressionTrees}
use Rattle.meaning.specs.Limits.{operands}
use Rattle.meaning.specs.Resolved.{Value, ProgramOf}
use Rattle.meaning.specs.Accepted.{IsVariable, IsValue, AreValues, IsWhole, IsPart}
use Rattle.checker_values.specs.declared.breach.Breach.{Breach}
use Rattle.checker_values.specs.Breaches.{at}
use Rattle.checker_values.specs.Names.{name_of, is_place, Seen}
use Rattle.checker_values.proofs.Kept.{left_empty, right_empty, kept, at_most}
use Rattle.checker_values.specs.Temporaries.{need}
use Rattle.checker_values.specs.Expressions.{call_breaches, count, left_breaches, breaches, all_breaches, target}
use Rattle.checker_values.specs.Expressions.{resolve, resolve_all, array_name_breaches, assigned, assigned_breaches}
use Rattle.checker_values.specs.Expressions.{property_breaches, tested_breaches}
use Rattle.checker_values.proofs.Forms.{named_resolves}
use Rattle.checker_statements.specs.Statements.{part_needs, heading_need, whole_breaches, part_breaches}
use Rattle.checker_statements.specs.Statements.{heading_breaches}
use Rattle.checker.proofs.NeedsBelow.{count_same, need_below}
use Rattle.checker.proofs.MeantNames.{named_within, target_within, array_within, property_within, tested_within}
use Rattle.checker.proofs.MeantNames.{name_assigned, call_within, IsMeant}

-- in a routine with so many locals of this program, where each name is meant so
module _ (p : ProgramOf) (locals : ℕ) (seen : Seen) (meant : (name : List ℕ) → IsMeant p locals (seen.look name)) where
  not_empty : (xs : List Breach) (operator : Position) → xs ++ at operator 26 ≡ [] → ⊥
  not_empty xs operator h = let e = right_empty xs (at operator 26) h in cc

  left_within : (operator : Position) (name : Option NameTree) (inside : List Breach)
      → left_breaches seen.look operator name inside ≡ [] → IsVariable p locals (target seen name)
  left_within operator (Some n) inside h = target_within p locals n.position operator (seen.look n.text)
      (meant n.text) h
  left_within operator None inside h = absurd (not_empty inside operator h)

  -- an assignment to an entry, a property or a word of a property
  place_assigned : (e : ExpressionTree) (v : Value) → is_place e ≡ true → IsValue p locals (resolve seen e)
      → IsValue p locals v → IsValue p locals (assigned (resolve seen e) v)
  place_assigned (trees.constant n) v h i k = absurd cc
  place_assigned (trees.word s) v h i k = absurd cc
  place_assigned (trees.named n) v h i k = absurd cc
  place_assigned (trees.call n es) v h i k = absurd cc
  place_assigned (trees.index n width e) v h i k = (i.0, i.1, k)
  place_assigned (trees.parenthesised e) v h i k = place_assigned e v h i k
  place_assigned (trees.relative_of q e) v h i k = absurd cc
  place_assigned (trees.property e n) v h i k = (i.0, i.1, k)
  place_assigned (trees.property_length e n) v h i k = absurd cc
  place_assigned (trees.property_entry e n j) v h i k = (i.0, i.1, i.2, k)
  place_assigned (trees.prefixed op e) v h i k = absurd cc
  place_assigned (trees.step_before op q e) v h i k = absurd cc
  place_assigned (trees.step_after e op q) v h i k = absurd cc
  place_assigned (trees.binary op a b) v h i k = absurd cc
  place_assigned (trees.compare op a b) v h i k = absurd cc
  place_assigned (trees.equal op a bs) v h i k = absurd cc
  place_assigned (trees.contained op a b) v h i k = absurd cc
  place_assigned (trees.tested test e n) v h i k = absurd cc
  place_assigned (trees.assign a q b) v h i k = absurd cc

  assigned_within : (operator : Position) (e : ExpressionTree) (o : Option NameTree) → name_of e ≡ o → (c : Bool)
      → is_place e ≡ c → (v : Value) → assigned_breaches seen.look operator o c (breaches seen.look e) ≡ []
      → (breaches seen.look e ≡ [] → IsValue p locals (resolve seen e)) → IsValue p locals v
      → IsValue p locals (assigned (resolve seen e) v)
  assigned_within operator e (Some n) is c one v h i k =
      subst (λ (w : Value). IsValue p locals (assigned w v)) (sym (named_resolves seen e n is))
      (name_assigned p locals seen.number n.position operator (seen.look n.text) v (meant n.text) h k)
  assigned_within operator e None is true one v h i k = place_assigned e v one (i h) k
  assigned_within operator e None is false one v h i k = absurd (not_empty (breaches seen.look e) operator h)

  mutual
    pub value_within : (e : ExpressionTree) → breaches seen.look e ≡ [] → IsValue p locals (resolve seen e)
    value_within (trees.constant n) h = tt
    value_within (trees.word s) h = tt
    value_within (trees.named n) h = named_within p locals seen.number n.position (seen.look n.text) (meant n.text) h
    value_within (trees.call n es) h =
        let own = call_breaches n.position (count es) (seen.look n.text) in
        let called = call_within p locals n.position (count es) (seen.look n.text) (meant n.text)
        (left_empty own (all_breaches seen.look es) h) in
        let same = count_same seen es in (
          called.there,
          omega (arith, called.seven, same),
          omega (arith, called.taken, same),
          values_within es
              (right_empty own (all_breaches seen.look es) h),
        )
    value_within (trees.index n width e) h = (
      array_within p locals n.position (seen.look n.text) (meant n.text)
          (left_empty (array_name_breaches n.position (seen.look n.text)) (breaches seen.look e) h),
      value_within e
          (right_empty (array_name_breaches n.position (seen.look n.text)) (breaches seen.look e) h),
    )
    value_within (trees.parenthesised e) h = value_within e h
    value_within (trees.relative_of q e) h = value_within e h
    value_within (trees.property e n) h =
        let own = property_breaches n.position (seen.look n.text) in (
          property_within p locals n.position (seen.look n.text) (meant n.text)
              (right_empty (breaches seen.look e) own h),
          value_within e (left_empty (breaches seen.look e) own h),
        )
    value_within (trees.property_length e n) h =
        let own = property_breaches n.position (seen.look n.text) in (
          property_within p locals n.position (seen.look n.text) (meant n.text)
              (right_empty (breaches seen.look e) own h),
          value_within e (left_empty (breaches seen.look e) own h),
        )
    value_within (trees.property_entry e n i) h =
        let own = property_breaches n.position (seen.look n.text) in
        let rest = right_empty (breaches seen.look e) (own ++ breaches seen.look i) h in (
          property_within p locals n.position (seen.look n.text) (meant n.text)
              (left_empty own (breaches seen.look i) rest),
          value_within e (left_empty (breaches seen.look e) (own ++ breaches seen.look i) h),
          value_within i (right_empty own (breaches seen.look i) rest),
        )
    value_within (trees.prefixed op e) h = value_within e h
    value_within (trees.step_before op q e) h = left_within q (name_of e) (breaches seen.look e) h
    value_within (trees.step_after e op q) h = left_within q (name_of e) (breaches seen.look e) h
    value_within (trees.binary op a b) h = (
      value_within a (left_empty (breaches seen.look a) (breaches seen.look b) h),
      value_within b
          (right_empty (breaches seen.look a) (breaches seen.look b) h),
    )
    value_within (trees.compare op a b) h = (
      value_within a (left_empty (breaches seen.look a) (breaches seen.look b) h),
      value_within b
          (right_empty (breaches seen.look a) (breaches seen.look b) h),
    )
    value_within (trees.equal op a bs) h = (
      value_within a (left_empty (breaches seen.look a) (all_breaches seen.look bs) h),
      values_within bs
          (right_empty (breaches seen.look a) (all_breaches seen.look bs) h),
    )
    value_within (trees.contained op a b) h = (
      value_within a (left_empty (breaches seen.look a) (breaches seen.look b) h),
      value_within b
          (right_empty (breaches seen.look a) (breaches seen.look b) h),
    )
    value_within (trees.tested test e n) h =
        let own = tested_breaches test n.position (seen.look n.text) in
        tested_within p locals test (resolve seen e) n.position (seen.look n.text) (meant n.text)
        (right_empty (breaches seen.look e) own h) (value_within e (left_empty (breaches seen.look e) own h))
    value_within (trees.assign a q b) h =
        let left = assigned_breaches seen.look q (name_of a) (is_place a) (breaches seen.look a) in
        assigned_within q a (name_of a) refl (is_place a) refl (resolve seen b)
        (left_empty left (breaches seen.look b) h) (value_within a)
        (value_within b (right_empty left (breaches seen.look b) h))

    pub values_within : (es : ExpressionTrees) → all_breaches seen.look es ≡ []
        → AreValues p locals (resolve_all seen es)
    values_within trees.none h = tt
    values_within (trees.more e es) h = (
      value_within e (left_empty (breaches seen.look e) (all_breaches seen.look es) h),
      values_within es
          (right_empty (breaches seen.look e) (all_breaches seen.look es) h),
    )

  pub whole_within : (position : Position) (e : ExpressionTree) → whole_breaches seen.look position e ≡ []
      → IsWhole p locals (resolve seen e)
  whole_within position e h =
      let large = cond (nat_lt 48 (need e)) (at position 29) [] in
      let few = at_most 48 (need e)
      (kept (nat_lt 48 (need e)) position 29 (left_empty large (breaches seen.look e) h)) in
      let below = need_below seen e in
      (value_within e (right_empty large (breaches seen.look e) h), omega (arith, few, below))

  -- the parts of a `for`

  abbrev IsSmall : Option ExpressionTree → ℕ → Type 0
  IsSmall None n = Unit {0}
  IsSmall (Some e) n = need e ≤ n

  part_small : (before : ℕ) (e : Option ExpressionTree) (ns : List ℕ) (n : ℕ)
      → operands before (part_needs e ++ ns) ≤ n → IsSmall e n
  part_small before None ns n h = tt
  part_small before (Some e) ns n h = omega (arith, h)

  part_alone : (before : ℕ) (e : Option ExpressionTree) (n : ℕ) → operands before (part_needs e) ≤ n → IsSmall e n
  part_alone before None n h = tt
  part_alone before (Some e) n h = omega (arith, h)

  others_small : (before : ℕ) (e : Option ExpressionTree) (ns : List ℕ) (n : ℕ)
      → operands before (part_needs e ++ ns) ≤ n → (k : ℕ) × (operands k ns ≤ n)
  others_small before None ns n h = (before, h)
  others_small before (Some e) ns n h = (before + 1, omega (arith, h))

  part_within : (e : Option ExpressionTree) → part_breaches seen.look e ≡ [] → IsSmall e 48
      → IsPart p locals (option_map (resolve seen) e)
  part_within None h small = tt
  part_within (Some e) h small = let below = need_below seen e in (value_within e h, omega (arith, small, below))

  pub heading_within : (q : Position) (a b c : Option ExpressionTree) → heading_breaches seen.look q a b c ≡ []
      → IsPart p locals (option_map (resolve seen) a) × IsPart p locals (option_map (resolve seen) b)
      × IsPart p locals (option_map (resolve seen) c)
  heading_within q a b c h =
      let large = cond (nat_lt 48 (heading_need a b c)) (at q 29) [] in
      let first = part_breaches seen.look a in
      let second = part_breaches seen.look b in
      let third = part_breaches seen.look c in
      let all = at_most 48 (heading_need a b c)
      (kept (nat_lt 48 (heading_need a b c)) q 29 (left_empty large (first ++ (second ++ third)) h)) in
      let parts = right_empty large (first ++ (second ++ third)) h in
      let others = right_empty first (second ++ third) parts in
      let after = others_small 0 a (part_needs b ++ part_needs c) 48 all in
      let last = others_small after.0 b (part_needs c) 48 after.1 in (
        part_within a (left_empty first (second ++ third) parts)
            (part_small 0 a (part_needs b ++ part_needs c) 48 all),
        part_within b (left_empty second third others) (part_small after.0 b (part_needs c) 48 after.1),
        part_within c (right_empty second third others) (part_alone last.0 c 48 last.1),
      )
