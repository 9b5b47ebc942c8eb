-- Conditional compilation. The tokens of a source are read one after another, and those of a branch that is not taken are
-- left out. `ifdef` and the other five names are directives wherever they stand.
use Rattle.std.specs.Prelude.{ℕ, Bool, true, false, List, [], ◌∷◌, ◌++◌, codes, Option, Some, None, Result, Ok, Err}
use Rattle.std.specs.Prelude.{if◌then◌else◌}
use Rattle.syntax_lexer.specs.declared.fault.PlacedFault.{PlacedFault}
use Rattle.syntax_lexer.specs.declared.token.Position.{Position}
use Rattle.syntax_lexer.specs.declared.token.Sign.TheVariants as sg
use Rattle.syntax_lexer.specs.FaultNumbers.{not_in_grammar}
use Rattle.syntax_lexer.specs.Token.{Lexeme, end, name, number, position_of}
use Rattle.derive_tokens.specs.Tokens.{Outcome, is_named, is_same_name, is_sign, name_in, refused}
use Rattle.derive_branches.specs.declared.branch.Branch.{Branch}
use Rattle.derive_branches.specs.declared.branch.Branch.TheVariants as br
use Rattle.derive_branches.specs.declared.branch.Mode.{Mode}
use Rattle.derive_branches.specs.declared.branch.Mode.TheVariants as m
use Rattle.derive_branches.specs.declared.branch.Directive.{Directive}
use Rattle.derive_branches.specs.declared.branch.Directive.TheVariants as d
use Rattle.derive_branches.specs.Kept.{Kept, nothing_kept, is_defined, keep, all_kept}
use Rattle.derive_branches.specs.Conditions.{condition}

-- what is kept, the branches that are open, the innermost first, what is read, and the tokens of a condition so far
pub record State : Type 0 where
  pub kept : Kept
  pub branches : List Branch
  pub mode : Mode
  pub asked : List Lexeme

abbrev pub start : State
start = record { kept = nothing_kept; branches = []; mode = m.Tokens; asked = [] }

-- the directive that a token is
abbrev pub directive_of : Lexeme → Option Directive
directive_of t =
    if is_named (codes "ifdef") t then Some (d.If (m.Name true))
    else if is_named (codes "ifndef") t then Some (d.If (m.Name false))
    else if is_named (codes "iftrue") t then Some (d.If (m.Condition true))
    else if is_named (codes "iffalse") t then Some (d.If (m.Condition false))
    else if is_named (codes "ifnot") t then Some d.Ifnot
    else if is_named (codes "endif") t then Some d.Endif
    else None

-- the two constants that no source defines
abbrev pub constant_of : List ℕ → Option ℕ
constant_of n =
    if is_same_name n (codes "wordsize") then Some 2
    else if is_same_name n (codes "target_zcode") then Some 0
    else None

abbrev pub number_or : Lexeme → Position → Option ℕ → Lexeme
number_or t p None = t
number_or t p (Some v) = number v p

abbrev pub valued : Lexeme → Lexeme
valued (name n p) = number_or (name n p) p (constant_of n)
valued t = t

abbrev pub keeps_in : Branch → Bool
keeps_in br.First = true
keeps_in br.Second = true
keeps_in branch = false

-- whether tokens are kept in the innermost branch
abbrev pub is_kept : List Branch → Bool
is_kept [] = true
is_kept (branch ∷ bs) = keeps_in branch

-- what an open branch is after `Ifnot`: none has two
abbrev pub turned : Branch → Option Branch
turned br.First = Some br.Done
turned br.Waiting = Some br.Second
turned br.Within = Some br.Within
turned branch = None

-- whether the condition is as it is wanted
abbrev pub branch_for : Bool → Bool → Branch
branch_for true true = br.First
branch_for false false = br.First
branch_for wanted holds = br.Waiting

-- ---- one token more

abbrev pub Step : Type 0
Step = Result State PlacedFault

abbrev pub misfit : Position → Step
misfit p = Err (refused not_in_grammar p)

-- branches, and what is read in them
abbrev pub with_branches : State → List Branch → Mode → State
with_branches s bs mode = record { kept = s.kept; branches = bs; mode = mode; asked = [] }

-- in what is left out, nothing is asked
abbrev pub asks : State → Mode → State
asks s mode = if is_kept s.branches then with_branches s s.branches mode else with_branches s (br.Within ∷ s.branches) m.Tokens

abbrev pub turns_to : State → Position → List Branch → Option Branch → Step
turns_to s p bs None = misfit p
turns_to s p bs (Some branch) = Ok (with_branches s (branch ∷ bs) m.Semicolon)

abbrev pub turns : State → Position → List Branch → Step
turns s p [] = misfit p
turns s p (branch ∷ bs) = turns_to s p bs (turned branch)

abbrev pub closes : State → Position → List Branch → Step
closes s p [] = misfit p
closes s p (branch ∷ bs) = Ok (with_branches s bs m.Semicolon)

abbrev pub keeps : State → Lexeme → State
keeps s t = record { kept = keep s.kept (valued t); branches = s.branches; mode = s.mode; asked = s.asked }

abbrev pub directive_or_token : State → Lexeme → Option Directive → Step
directive_or_token s t (Some (d.If mode)) = Ok (asks s mode)
directive_or_token s t (Some d.Ifnot) = turns s (position_of t) s.branches
directive_or_token s t (Some d.Endif) = closes s (position_of t) s.branches
directive_or_token s t None = Ok (if is_kept s.branches then keeps s t else s)

abbrev pub named : State → Bool → Position → Option (List ℕ) → Step
named s wanted p None = misfit p
named s wanted p (Some n) =
    Ok (with_branches s (branch_for wanted (is_defined s.kept n) ∷ s.branches) m.Semicolon)

abbrev pub decided : State → Bool → Position → Option Bool → Step
decided s wanted p None = misfit p
decided s wanted p (Some holds) = Ok (with_branches s (branch_for wanted holds ∷ s.branches) m.Tokens)

-- where what is asked begins, before a `;`
abbrev pub asked_at : List Lexeme → Lexeme → Position
asked_at [] t = position_of t
asked_at (first ∷ ts) t = position_of first

abbrev pub asking : State → Bool → Lexeme → Step
asking s wanted t =
    if is_sign sg.Semicolon t then decided s wanted (asked_at s.asked t) (condition s.kept.known s.asked)
    else Ok (record { kept = s.kept; branches = s.branches; mode = s.mode; asked = s.asked ++ valued t ∷ [] })

abbrev pub closed : State → Lexeme → Step
closed s t = if is_sign sg.Semicolon t then Ok (with_branches s s.branches m.Tokens) else misfit (position_of t)

abbrev pub in_mode : Mode → State → Lexeme → Step
in_mode m.Tokens s t = directive_or_token s t (directive_of t)
in_mode (m.Name wanted) s t = named s wanted (position_of t) (name_in t)
in_mode (m.Condition wanted) s t = asking s wanted t
in_mode m.Semicolon s t = closed s t

abbrev pub is_end : Lexeme → Bool
is_end (end p) = true
is_end t = false

-- at the end of the source no branch is open
abbrev pub is_whole : Mode → List Branch → Bool
is_whole m.Tokens [] = true
is_whole m.Tokens (branch ∷ bs) = false
is_whole mode bs = false

abbrev pub at_end : State → Lexeme → Step
at_end s t = if is_whole s.mode s.branches then Ok (keeps s t) else misfit (position_of t)

abbrev pub step : State → Lexeme → Step
step s t = if is_end t then at_end s t else in_mode s.mode s t

-- ---- all tokens

abbrev pub steps : Step → List Lexeme → Step
steps (Err fault) ts = Err fault
steps (Ok s) [] = Ok s
steps (Ok s) (t ∷ ts) = steps (step s t) ts

abbrev pub outcome : Step → Outcome
outcome (Ok s) = Ok (all_kept s.kept)
outcome (Err fault) = Err fault

-- the tokens of a source whose branches are chosen
abbrev pub branched : List Lexeme → Outcome
branched ts = outcome (steps (Ok start) ts)
