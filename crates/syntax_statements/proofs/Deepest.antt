-- One nesting further in, and how deep lists of statements and of cases nest.
use Rattle.std.proofs.Common.{◌≡◌, ℕ, zero, suc, max, List, [], ◌∷◌, length, Option, Some, None, Result, Ok, refl, ap}
use Rattle.std.proofs.Common.{arith, ◌<◌}
use Rattle.syntax_lexer.specs.declared.token.Position.{Position}
use Rattle.syntax_lexer.specs.declared.token.Sign.TheVariants as s
use Rattle.syntax_lexer.specs.Token.{Lexeme, sign}
use Rattle.syntax_trees.specs.Stop.{Stop}
use Rattle.syntax_trees.specs.Parse.{expect, as_long, repeated}
use Rattle.syntax_expressions.proofs.Limited.{Limited}
use Rattle.syntax_statements.specs.PartTree.{LoopTree}
use Rattle.syntax_statements.specs.PartViews.{HeadingTree}
use Rattle.syntax_statements.specs.PartParse.{heading, heading_in, looped, looped_in}
use Rattle.syntax_statements.specs.Tree.{StatementTree, StatementTrees, CaseTrees, stop, next, no_case, default_case}
use Rattle.syntax_statements.specs.Tree.{case}
use Rattle.syntax_statements.specs.Views.{CaseTree, trees_of, cases_of}
use Rattle.syntax_statements.specs.Grammar.{inside_nesting, cases_nesting}
use Rattle.syntax_statements.specs.Nesting.{begins_statement, begins_in_case}
use Rattle.syntax_statements.specs.Parse.{ended, inside, braces, bodies, statement}

-- by another bound that is the same number
pub up : {A : Type 0} {R : Result (A × List Lexeme) Stop} {d m n : ℕ} {a : A} {r : List Lexeme} → Limited R d m a r
    → m ≡ n → Limited R d n a r
up p e = record { within = λ h. p.within (omega arith); beyond = λ h. p.beyond (omega arith) }

pub step_ended : (x : StatementTree) (q : Position) (r : List Lexeme) → ended x (sign s.Semicolon q ∷ r) ≡ Ok (x, r)
unfolding ended expect
step_ended x q r = refl

pub in_statement : {n : ℕ} {x : StatementTree} {r : List Lexeme} (ts : List Lexeme) (d : ℕ)
    → length r < length ts → ((k : ℕ) → Limited (statement k ts) k n x r) → Limited (inside d ts) d (suc n) x r
unfolding inside statement
in_statement ts zero short h = record {
  within = λ le. absurd (omega arith);
  beyond = λ lt. record { left = length ts; stops = refl; enough = short };
}
in_statement ts (suc d) short h =
    record { within = λ le. (h d).within (omega arith); beyond = λ lt. (h d).beyond (omega arith) }

pub in_block : {n : ℕ} {xs : List StatementTree} {r : List Lexeme} (left : ℕ) (ts : List Lexeme) (d : ℕ)
    → length r < left → ((k : ℕ) → Limited (repeated begins_statement (inside k) (length ts) ts) k n xs r)
    → Limited (braces d left ts) d (suc n) xs r
unfolding braces
in_block left ts zero short h = record {
  within = λ le. absurd (omega arith);
  beyond = λ lt. record { left = left; stops = refl; enough = short };
}
in_block left ts (suc d) short h =
    record { within = λ le. (h d).within (omega arith); beyond = λ lt. (h d).beyond (omega arith) }

-- the trees of a list
abbrev pub listed : StatementTrees → List StatementTree
listed stop = []
listed (next x xs) = x ∷ listed xs

pub listed_back : (xs : StatementTrees) → trees_of (listed xs) ≡ xs
listed_back stop = refl
listed_back (next x xs) = ap (next x) (listed_back xs)

-- the statements of a case follow a parenthesis and a brace that opened a nesting
pub in_bodies : {n : ℕ} {xs : List StatementTree} {r : List Lexeme} (ts : List Lexeme) (d : ℕ)
    → Limited (as_long begins_in_case (inside d) (length ts) ts) d n xs r
    → Limited (bodies (suc d) ts) (suc d) (suc n) xs r
unfolding bodies
in_bodies ts d h = record { within = λ le. h.within (omega arith); beyond = λ lt. h.beyond (omega arith) }

pub in_heading : {n : ℕ} {h : HeadingTree} {r : List Lexeme} (left : ℕ) (ts : List Lexeme) (d : ℕ)
    → length r < left → ((k : ℕ) → Limited (heading k ts) k n h r) → Limited (heading_in d left ts) d (suc n) h r
in_heading left ts zero short h = record {
  within = λ le. absurd (omega arith);
  beyond = λ lt. record { left = left; stops = refl; enough = short };
}
in_heading left ts (suc d) short h =
    record { within = λ le. (h d).within (omega arith); beyond = λ lt. (h d).beyond (omega arith) }

pub in_loop : {n : ℕ} {l : LoopTree} {r : List Lexeme} (left : ℕ) (ts : List Lexeme) (d : ℕ)
    → length r < left → ((k : ℕ) → Limited (looped k ts) k n l r) → Limited (looped_in d left ts) d (suc n) l r
in_loop left ts zero short h = record {
  within = λ le. absurd (omega arith);
  beyond = λ lt. record { left = left; stops = refl; enough = short };
}
in_loop left ts (suc d) short h =
    record { within = λ le. (h d).within (omega arith); beyond = λ lt. (h d).beyond (omega arith) }

-- the cases of a tree as a list, and the statements of its `default`; how deep these are nested with their brace

abbrev pub case_list : CaseTrees → List CaseTree
case_list no_case = []
case_list (default_case xs) = []
case_list (case gs xs cs) = (gs, xs) ∷ case_list cs

abbrev pub default_list : CaseTrees → Option (List StatementTree)
default_list no_case = None
default_list (default_case xs) = Some (listed xs)
default_list (case gs xs cs) = default_list cs

pub cases_back : (cs : CaseTrees) → cases_of (case_list cs) (default_list cs) ≡ cs
cases_back no_case = refl
cases_back (default_case xs) = ap default_case (listed_back xs)
cases_back (case gs xs cs) = ap (case gs xs) (cases_back cs)

abbrev pub list_nesting : CaseTrees → ℕ
list_nesting no_case = 0
list_nesting (default_case xs) = 0
list_nesting (case gs xs cs) = max (suc (inside_nesting xs)) (list_nesting cs)

abbrev pub default_nesting : CaseTrees → ℕ
default_nesting no_case = 0
default_nesting (default_case xs) = suc (inside_nesting xs)
default_nesting (case gs xs cs) = default_nesting cs

pub deepest_case : (n : ℕ) (cs : CaseTrees)
    → max (suc n) (max (list_nesting cs) (default_nesting cs)) ≡ suc (max n (cases_nesting cs))
deepest_case n no_case = omega arith
deepest_case n (default_case xs) = omega arith
deepest_case n (case gs xs cs) = omega (arith, deepest_case n cs)
