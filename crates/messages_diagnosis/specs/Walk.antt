-- Words of proofs: what was found so far, and what parts of the code's trees need.
use Rattle.std.specs.Prelude.{ℕ, nat_lt, nat_eq, max, min, Bool, true, false, if◌then◌else◌, List, [], ◌∷◌}
use Rattle.std.specs.Prelude.{Option, Some, None}
use Rattle.std.specs.Global.{Vec}
use Rattle.syntax_lexer.specs.declared.token.Position.{Position}
use Rattle.syntax_statements.specs.declared.part_tree.PrintItem.{PrintItem}
use Rattle.syntax_statements.specs.declared.part_tree.Range.{Range}
use Rattle.syntax_statements.specs.PartTree.{LoopTree, over_all, over_in, over_where}
use Rattle.syntax_statements.specs.PartViews.{item_tree}
use Rattle.syntax_statements.specs.declared.tree.Statement.{Statement}
use Rattle.syntax_statements.specs.Tree.{StatementTree}
use Rattle.syntax_statements.specs.Views.{statement_tree, trees_of, case_tree}
use Rattle.syntax_directives.specs.declared.tree.Directive.{Directive}
use Rattle.syntax_directives.specs.Views.{directive_tree}
use Rattle.checker_values.specs.Temporaries.{need}
use Rattle.messages_diagnosis.specs.declared.sought.Sought.{Sought}
use Rattle.messages_diagnosis.specs.declared.sought.Temporaries.{Temporaries}
use Rattle.messages_diagnosis.specs.Needs.{PlacedNeed, item_needs, statement_needs, statements_needs, directive_needs}

-- What is looked for, and what was found so far

-- the number so far
abbrev pub least_of : Option Temporaries → ℕ
least_of None = 0
least_of (Some t) = t.number

-- a number, raised to what is needed, and as far as is told
abbrev pub up_to : ℕ → ℕ → ℕ → ℕ
up_to most least n = max least (min most n)

abbrev pub risen : Option Temporaries → Position → ℕ → Option Temporaries
risen None p n = Some (record { position = p; number = n })
risen (Some t) p n = if nat_lt t.number n then Some (record { position = p; number = n }) else Some t

-- what begins at a position is wanted: each, or the first at an offset
abbrev pub is_wanted : Option ℕ → Option Temporaries → Position → Bool
is_wanted None found p = true
is_wanted (Some o) None p = nat_eq p.offset o
is_wanted (Some o) (Some t) p = false

abbrev pub wants : Sought → Position → Bool
wants s p = is_wanted s.offset s.found p

abbrev pub with_found : Sought → Option Temporaries → Sought
with_found s found = record { most = s.most; offset = s.offset; found = found }

-- with one need
abbrev pub taken : Sought → PlacedNeed → Sought
taken s x = if wants s x.0 then with_found s (risen s.found x.0 (min s.most x.1)) else s

-- with a list of needs
unfoldable pub raised_all : Sought → List PlacedNeed → Sought
raised_all s [] = s
raised_all s (x ∷ xs) = raised_all (taken s x) xs

-- Parts of the code's trees

abbrev pub own_item_needs : PrintItem → List PlacedNeed
own_item_needs x = item_needs (item_tree x)

-- what stands in the parentheses of an `objectloop`
abbrev pub loop_needs : Position → LoopTree → List PlacedNeed
loop_needs p (over_all n) = []
loop_needs p (over_in n e) = (p, need e) ∷ []
loop_needs p (over_where n e) = (p, need e) ∷ []

abbrev pub own_needs : Statement → List PlacedNeed
own_needs s = statement_needs (statement_tree s)

abbrev pub own_case_needs : Vec Range × Vec Statement → List PlacedNeed
own_case_needs c = statements_needs (case_tree c).1

-- the statements of `default`
abbrev pub other_needs : Option (List StatementTree) → List PlacedNeed
other_needs None = []
other_needs (Some xs) = statements_needs (trees_of xs)

abbrev pub own_directive_needs : Directive → List PlacedNeed
own_directive_needs d = directive_needs (directive_tree d)
