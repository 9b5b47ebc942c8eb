-- What operands and chains need.
use Rattle.std.proofs.Common.{◌≡◌, ℕ, zero, suc, ◌+◌, ◌-◌, ◌<◌, ◌≤◌, max, Bool, true, false, nat_le, nat_lt, not, List}
use Rattle.std.proofs.Common.{[], ◌∷◌, ◌++◌, length, drop, slice_index_or, refl, sym, ap, ◌∙◌, subst, arith}
use Rattle.std.specs.Prelude.{map}
use Rattle.std.proofs.lemmas.Bool.Decides.{nat_tests}
use Rattle.syntax_trees.specs.declared.tree.Binary.{Binary}
use Rattle.syntax_trees.specs.declared.tree.Expression.{Expression}
use Rattle.syntax_trees.specs.declared.tree.Name.{Name}
use Rattle.syntax_trees.specs.Tree as trees
use Rattle.syntax_trees.specs.Tree.{NameTree, ExpressionTree}
use Rattle.syntax_trees.specs.Views.{name_tree, expression_tree, trees_of, chained, propertied, link}
use Rattle.meaning.specs.Limits.{operands}
use Rattle.checker_values.specs.Temporaries.{need, needs, greatest, left_needs}

operands_one : (b : ℕ) (ns : List ℕ) → 1 ≤ operands b ns
operands_one b [] = omega arith
operands_one b (n ∷ ns) = omega (arith, operands_one (b + 1) ns)

pub need_one : (e : ExpressionTree) → 1 ≤ need e
need_one (trees.constant n) = omega arith
need_one (trees.word s) = omega arith
need_one (trees.named n) = omega arith
need_one (trees.call n es) = operands_one 0 (needs es)
need_one (trees.index n width e) = operands_one 0 (need e ∷ [])
need_one (trees.parenthesised e) = need_one e
need_one (trees.relative_of r e) = operands_one 0 (need e ∷ [])
need_one (trees.property e n) = operands_one 0 (need e ∷ [])
need_one (trees.property_length e n) = operands_one 0 (need e ∷ [])
need_one (trees.property_entry e n i) = operands_one 0 (need e ∷ need i ∷ [])
need_one (trees.prefixed op e) = operands_one 0 (need e ∷ [])
need_one (trees.step_before op p e) = operands_one 0 (need e ∷ [])
need_one (trees.step_after e op p) = operands_one 0 (need e ∷ [])
need_one (trees.binary op a b) = operands_one 0 (need a ∷ need b ∷ [])
need_one (trees.compare op a b) = operands_one 0 (need a ∷ need b ∷ [])
need_one (trees.equal op a bs) = operands_one 0 (need a ∷ needs bs)
need_one (trees.contained op a b) = operands_one 0 (need a ∷ need b ∷ [])
need_one (trees.tested test e n) = operands_one 0 (need e ∷ [])
need_one (trees.assign a p b) = operands_one 0 (left_needs a (need a) ++ need b ∷ [])

abbrev pub link_need : Binary × Expression → ℕ
link_need l = need (expression_tree l.1)

pub chain_need : (e : ExpressionTree) (ls : List (Binary × Expression))
    → need (chained e (map link ls)) ≡ max (need e) (1 + greatest (map link_need ls))
chain_need e [] = omega (arith, need_one e)
chain_need e (l ∷ ls) = omega
    (arith, chain_need (trees.binary l.0 e (expression_tree l.1)) ls, need_one e, need_one (expression_tree l.1))

more_fits : (b n rest left r : ℕ) → left ≡ r - b → 1 ≤ n → nat_le n left ≡ true
    → nat_le (max (b + n) rest) r ≡ nat_le rest r
more_fits b n rest left r room one h = grind (arith, nat_tests)

more_bad : (b n rest left r : ℕ) → left ≡ r - b → 1 ≤ n → nat_le n left ≡ false → nat_le (max (b + n) rest) r ≡ false
more_bad b n rest left r room one h = grind (arith, nat_tests)

more_full : (b n rest r : ℕ) → r - b ≡ 0 → 1 ≤ n → nat_le (max (b + n) rest) r ≡ false
more_full b n rest r room one = grind (arith, nat_tests)

-- one operand and those after it

abbrev pub operand_needs : List Expression → List ℕ
operand_needs es = needs (trees_of (map expression_tree es))

operands_from : (b r : ℕ) (es : List Expression) (i : ℕ) (x : Expression) → i < length es
    → operands b (operand_needs (drop i es)) ≡ max (b + need (expression_tree (slice_index_or es i x)))
    (operands (b + 1) (operand_needs (drop (suc i) es)))
operands_from b r [] i x h = absurd (omega arith)
operands_from b r (e ∷ es) zero x h = refl
operands_from b r (e ∷ es) (suc i) x h = operands_from b r es i x (omega arith)

operands_here : (b r : ℕ) (es : List Expression) (i : ℕ) (x : Expression) → i < length es → x ≡ slice_index_or es i x
    → operands b (operand_needs (drop i es)) ≡ max (b + need (expression_tree x))
    (operands (b + 1) (operand_needs (drop (suc i) es)))
operands_here b r es i x h is = operands_from b r es i x h
    ∙ ap (λ (y : Expression). max (b + need (expression_tree y))
    (operands (b + 1) (operand_needs (drop (suc i) es)))) (sym is)

pub operands_next : (b r left : ℕ) (es : List Expression) (i : ℕ) (x : Expression) → i < length es
    → x ≡ slice_index_or es i x → left ≡ r - b → nat_le (need (expression_tree x)) left ≡ true
    → nat_le (operands b (operand_needs (drop i es))) r
    ≡ nat_le (operands (b + 1) (operand_needs (drop (i + 1) es))) r
operands_next b r left es i x h is room good =
    let j : i + 1 ≡ suc i = omega arith in
    rw (j, operands_here b r es i x h is)
    (more_fits b (need (expression_tree x)) (operands (b + 1) (operand_needs (drop (suc i) es))) left r room
    (need_one (expression_tree x)) good)

pub operands_bad : (b r left : ℕ) (es : List Expression) (i : ℕ) (x : Expression) → i < length es
    → x ≡ slice_index_or es i x → left ≡ r - b → nat_le (need (expression_tree x)) left ≡ false
    → nat_le (operands b (operand_needs (drop i es))) r ≡ false
operands_bad b r left es i x h is room bad = rw (operands_here b r es i x h is)
    (more_bad b (need (expression_tree x)) (operands (b + 1) (operand_needs (drop (suc i) es))) left r room
    (need_one (expression_tree x)) bad)

pub operands_full : (b r : ℕ) (es : List Expression) (i : ℕ) (x : Expression) → i < length es
    → x ≡ slice_index_or es i x → r - b ≡ 0
    → nat_le (operands b (operand_needs (drop i es))) r ≡ false
operands_full b r es i x h is room = rw (operands_here b r es i x h is)
    (more_full b (need (expression_tree x)) (operands (b + 1) (operand_needs (drop (suc i) es))) r room
    (need_one (expression_tree x)))

-- two operands

pub both_next : (a b r : ℕ) → 1 ≤ a → 1 ≤ b → nat_le a r ≡ true
    → nat_le b (r - 1) ≡ nat_le (operands 0 (a ∷ b ∷ [])) r
both_next a b r one two h = grind (arith, nat_tests)

pub both_bad : (a b r : ℕ) → nat_le a r ≡ false → false ≡ nat_le (operands 0 (a ∷ b ∷ [])) r
both_bad a b r h = grind (arith, nat_tests)

-- the forms

pub one_need : (e : ExpressionTree) → operands 0 (need e ∷ []) ≡ need e
one_need e = omega (arith, need_one e)

pub chain_next : (e : ExpressionTree) (ls : List (Binary × Expression)) (r : ℕ) → nat_le (need e) r ≡ true
    → nat_le (greatest (map link_need ls)) (r - 1) ≡ nat_le (need (chained e (map link ls))) r
chain_next e ls r h = let k = chain_need e ls in let o = need_one e in grind (arith, nat_tests)

pub chain_bad : (e : ExpressionTree) (ls : List (Binary × Expression)) (r : ℕ) → nat_le (need e) r ≡ false
    → false ≡ nat_le (need (chained e (map link ls))) r
chain_bad e ls r h = let k = chain_need e ls in grind (arith, nat_tests)

pub fits_not : (b : Bool) (n : ℕ) → b ≡ nat_le n 48 → nat_lt 48 n ≡ not b
fits_not b n h = grind (arith, nat_tests)

-- properties, one after another

pub properties_need : (e : ExpressionTree) (ns : List Name) → need (propertied e ns) ≡ need e
properties_need e [] = refl
properties_need e (n ∷ ns) = properties_need (trees.property e (name_tree n)) ns ∙ one_need e

-- the left side of an assignment

pub chain_left : (op : Binary) (a b : ExpressionTree) (ls : List (Binary × ExpressionTree)) (own : ℕ)
    → left_needs (chained (trees.binary op a b) ls) own ≡ own ∷ []
chain_left op a b [] own = refl
chain_left op a b (l ∷ ls) own = chain_left l.0 (trees.binary op a b) l.1 ls own

pub properties_left : (e : ExpressionTree) (n : NameTree) (ns : List Name) (own : ℕ)
    → left_needs (propertied (trees.property e n) ns) own ≡ own ∷ []
properties_left e n [] own = refl
properties_left e n (m ∷ ns) own = properties_left (trees.property e n) (name_tree m) ns own

-- where it is an operand or two, these need as much as it does as an expression
whole_left : (a : ExpressionTree) (own : ℕ) → own ≡ need a → 1 ≤ length (left_needs a own)
    → operands 0 (left_needs a own) ≡ need a
whole_left (trees.constant n) own is some = omega (arith, is)
whole_left (trees.word s) own is some = omega (arith, is)
whole_left (trees.named n) own is some = absurd (omega (arith, some))
whole_left (trees.call n es) own is some = omega (arith, is, need_one (trees.call n es))
whole_left (trees.index n width e) own is some = omega (arith, is, need_one (trees.index n width e))
whole_left (trees.parenthesised e) own is some = whole_left e own is some
whole_left (trees.relative_of r e) own is some = omega (arith, is, need_one (trees.relative_of r e))
whole_left (trees.property e n) own is some = omega (arith, is, need_one (trees.property e n))
whole_left (trees.property_length e n) own is some = omega (arith, is, need_one (trees.property_length e n))
whole_left (trees.property_entry e n i) own is some = refl
whole_left (trees.prefixed op e) own is some = omega (arith, is, need_one (trees.prefixed op e))
whole_left (trees.step_before op p e) own is some = omega (arith, is, need_one (trees.step_before op p e))
whole_left (trees.step_after e op p) own is some = omega (arith, is, need_one (trees.step_after e op p))
whole_left (trees.binary op a b) own is some = omega (arith, is, need_one (trees.binary op a b))
whole_left (trees.compare op a b) own is some = omega (arith, is, need_one (trees.compare op a b))
whole_left (trees.equal op a bs) own is some = omega (arith, is, need_one (trees.equal op a bs))
whole_left (trees.contained op a b) own is some = omega (arith, is, need_one (trees.contained op a b))
whole_left (trees.tested test e n) own is some = omega (arith, is, need_one (trees.tested test e n))
whole_left (trees.assign a p b) own is some = omega (arith, is, need_one (trees.assign a p b))

-- operands, and one more
operands_more : (before : ℕ) (ns : List ℕ) (n : ℕ) → 1 ≤ n
    → operands before (ns ++ n ∷ []) ≡ max (operands before ns) (before + length ns + n)
operands_more before [] n one = omega arith
operands_more before (m ∷ ns) n one = omega (arith, operands_more (before + 1) ns n one)

none_next : (ns : List ℕ) (n room : ℕ) → 1 ≤ n → length ns ≡ 0
    → nat_le n room ≡ nat_le (operands 0 (ns ++ n ∷ [])) room
none_next [] n room one none = grind (arith, nat_tests)
none_next (m ∷ ns) n room one none = absurd (omega (arith, none))

some_next : (own long n all room : ℕ) → 1 ≤ n → all ≡ max own (0 + long + n) → nat_le own room ≡ true
    → nat_le n (room - long) ≡ nat_le all room
some_next own long n all room one is good = grind (arith, nat_tests)

some_bad : (own long n all room : ℕ) → all ≡ max own (0 + long + n) → nat_le own room ≡ false
    → false ≡ nat_le all room
some_bad own long n all room is bad = grind (arith, nat_tests)

abbrev AssignmentFits : ExpressionTree → ℕ → ℕ → Bool
AssignmentFits a n room = nat_le (operands 0 (left_needs a (need a) ++ n ∷ [])) room

all_of : (a : ExpressionTree) (n : ℕ) → 1 ≤ n → 1 ≤ length (left_needs a (need a))
    → operands 0 (left_needs a (need a) ++ n ∷ []) ≡ max (need a) (0 + length (left_needs a (need a)) + n)
all_of a n one some = operands_more 0 (left_needs a (need a)) n one
    ∙ ap (λ w. max w (0 + length (left_needs a (need a)) + n)) (whole_left a (need a) refl some)

-- a name that is assigned is no operand
pub left_none : (a : ExpressionTree) (n room long : ℕ) → 1 ≤ n → long ≡ length (left_needs a (need a)) → long ≡ 0
    → nat_le n room ≡ AssignmentFits a n room
left_none a n room long one is none = none_next (left_needs a (need a)) n room one (sym is ∙ none)

pub left_next : (a : ExpressionTree) (n room long : ℕ) → 1 ≤ n → long ≡ length (left_needs a (need a)) → 1 ≤ long
    → nat_le (need a) room ≡ true → nat_le n (room - long) ≡ AssignmentFits a n room
left_next a n room long one is some good = rw is
    (some_next (need a) (length (left_needs a (need a))) n (operands 0 (left_needs a (need a) ++ n ∷ [])) room one
    (all_of a n one (subst (λ l. 1 ≤ l) is some)) good)

pub left_bad : (a : ExpressionTree) (n room long : ℕ) → 1 ≤ n → long ≡ length (left_needs a (need a)) → 1 ≤ long
    → nat_le (need a) room ≡ false → false ≡ AssignmentFits a n room
left_bad a n room long one is some bad =
    some_bad (need a) (length (left_needs a (need a))) n (operands 0 (left_needs a (need a) ++ n ∷ [])) room
    (all_of a n one (subst (λ l. 1 ≤ l) is some)) bad
