-- More than 100 open brackets in a statement are refused (E05), as nestings of the profile are. So what is looked ahead
-- in a statement is looked at 100 times at most.
use Rattle.std.specs.Prelude.{ℕ, nat_lt, List, [], ◌∷◌, Option, Some, None, if◌then◌else◌}
use Rattle.syntax_lexer.specs.declared.fault.PlacedFault.{PlacedFault}
use Rattle.syntax_lexer.specs.FaultNumbers.{nested_too_deep}
use Rattle.syntax_lexer.specs.Token.{Lexeme, position_of}
use Rattle.derive_tokens.specs.Tokens.{refused}
use Rattle.derive_statements.specs.Lists.{deeper, ends_statement}

abbrev pub most_open : ℕ
most_open = 100

-- how many brackets are open after a token
abbrev pub open_after : ℕ → Lexeme → ℕ
open_after n t = if ends_statement t then 0 else deeper n t

abbrev pub depth_fault_from : ℕ → List Lexeme → Option PlacedFault
depth_fault_from n [] = None
depth_fault_from n (t ∷ ts) =
    if nat_lt most_open (open_after n t) then Some (refused nested_too_deep (position_of t))
    else depth_fault_from (open_after n t) ts

-- the fault of the first bracket that is too deep
abbrev pub depth_fault : List Lexeme → Option PlacedFault
depth_fault ts = depth_fault_from 0 ts
