-- Trees of statements, without where they lie in memory.
use Rattle.std.specs.Prelude.{ℕ, List, Option}
use Rattle.syntax_lexer.specs.declared.token.Position.{Position}
use Rattle.syntax_trees.specs.Tree.{NameTree, ExpressionTree}
use Rattle.syntax_statements.specs.PartTree.{RangeTree, LoopTree, over_all, over_in, over_where, FlagTree}
use Rattle.syntax_statements.specs.PartTree.{PrintItemTree}

mutual
  pub data StatementTree : Type 0 where
    empty : StatementTree
    block : StatementTrees → StatementTree
    text_alone : List ℕ → StatementTree
    print : List PrintItemTree → StatementTree
    print_return : List PrintItemTree → StatementTree
    new_line : StatementTree
    if_then : Position → ExpressionTree → StatementTree → StatementTree
    if_else : Position → ExpressionTree → StatementTree → StatementTree → StatementTree
    while_do : Position → ExpressionTree → StatementTree → StatementTree
    do_until : Position → StatementTree → ExpressionTree → StatementTree
    -- what is done before the first round, the test, and what is done after each round
    for_loop : Position → Option ExpressionTree → Option ExpressionTree → Option ExpressionTree → StatementTree
        → StatementTree
    switch_on : Position → ExpressionTree → CaseTrees → StatementTree
    break_at : Position → StatementTree
    continue_at : Position → StatementTree
    return_alone : StatementTree
    return_value : Position → ExpressionTree → StatementTree
    return_true : StatementTree
    return_false : StatementTree
    quit : StatementTree
    -- a line is read: the array of its text, and that of its words
    read_line : NameTree → NameTree → StatementTree
    give : Position → ExpressionTree → List FlagTree → StatementTree
    -- an object, and its new parent
    move : Position → ExpressionTree → ExpressionTree → StatementTree
    remove : Position → ExpressionTree → StatementTree
    -- over all objects; over those in one; over those for which a condition holds
    each : NameTree → StatementTree → StatementTree
    each_in : Position → NameTree → ExpressionTree → StatementTree → StatementTree
    each_where : Position → NameTree → ExpressionTree → StatementTree → StatementTree
    effect : Position → ExpressionTree → StatementTree

  pub data StatementTrees : Type 0 where
    stop : StatementTrees
    next : StatementTree → StatementTrees → StatementTrees

  -- `default` is last
  pub data CaseTrees : Type 0 where
    no_case : CaseTrees
    default_case : StatementTrees → CaseTrees
    case : List RangeTree → StatementTrees → CaseTrees → CaseTrees

-- an `objectloop` with that in its parentheses
abbrev pub loop_over : Position → LoopTree → StatementTree → StatementTree
loop_over p (over_all n) x = each n x
loop_over p (over_in n e) x = each_in p n e x
loop_over p (over_where n e) x = each_where p n e x

-- The tree of a statement of the code

-- a case of the code, and the statements of `default`
