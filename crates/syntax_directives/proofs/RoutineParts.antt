-- A routine, read in its parts: its heading, and its statements with what closes it.
use Rattle.std.proofs.Common.{◌≡◌, ℕ, ◌-◌, List, Result, Ok, Err, refl}
use Rattle.syntax_lexer.specs.declared.token.Sign.TheVariants as s
use Rattle.syntax_lexer.specs.Token.{Lexeme}
use Rattle.syntax_trees.specs.Tree.{NameTree}
use Rattle.syntax_trees.specs.Stop.{Stop}
use Rattle.syntax_trees.specs.declared.error.ParseError.{ParseError}
use Rattle.syntax_trees.specs.declared.error.ParseError.TheVariants as errors
use Rattle.syntax_trees.specs.Parse.{◌>>=◌, Fails, tail, expect}
use Rattle.syntax_expressions.specs.PartParse.{expect_name}
use Rattle.syntax_statements.specs.Tree.{StatementTree}
use Rattle.syntax_statements.specs.Views.{trees_of}
use Rattle.syntax_statements.specs.Parse.{statements}
use Rattle.syntax_directives.specs.Grammar.{weight_of}
use Rattle.syntax_directives.specs.Tree.{RoutineTree, routine}
use Rattle.syntax_directives.specs.Parse.{names, routine_heading, routine_end, routine_body, routine_at, one_routine}

abbrev made : List Lexeme → NameTree → List NameTree → List StatementTree → List Lexeme → RoutineTree × List Lexeme
made ts n ns xs r = (
  record { name = n; locals = ns; body = trees_of xs; weight = weight_of ts - weight_of r },
  r,
)

module _ (d : ℕ) (ts : List Lexeme) where
  -- what is read after each part of a routine

  abbrev last : NameTree → List NameTree → List StatementTree → List Lexeme → Result (RoutineTree × List Lexeme) Stop
  last n ns xs r = Ok (made ts n ns xs r)

  abbrev after_bracket : NameTree → List NameTree → List StatementTree → List Lexeme
      → Result (RoutineTree × List Lexeme) Stop
  after_bracket n ns xs u = expect s.Semicolon u >>= last n ns xs

  abbrev after_body : NameTree → List NameTree → List StatementTree × List Lexeme
      → Result (RoutineTree × List Lexeme) Stop
  after_body n ns xs = expect s.CloseBracket xs.1 >>= after_bracket n ns xs.0

  abbrev after_locals : NameTree → List NameTree × List Lexeme → Result (RoutineTree × List Lexeme) Stop
  after_locals n ns = expect s.Semicolon ns.1 >>= λ m. statements d m >>= after_body n ns.0

  abbrev past_name : NameTree × List Lexeme → Result (RoutineTree × List Lexeme) Stop
  past_name n = names n.1 >>= after_locals n.0

  -- the parts of a heading

  abbrev heading_of : NameTree → List NameTree → List Lexeme → Result ((NameTree × List NameTree) × List Lexeme) Stop
  heading_of n ns m = Ok ((n, ns), m)

  abbrev heading_locals : NameTree → List NameTree × List Lexeme
      → Result ((NameTree × List NameTree) × List Lexeme) Stop
  heading_locals n ns = expect s.Semicolon ns.1 >>= heading_of n ns.0

  abbrev heading_name : NameTree × List Lexeme → Result ((NameTree × List NameTree) × List Lexeme) Stop
  heading_name n = names n.1 >>= heading_locals n.0

  -- the parts of a body

  abbrev body_of : List StatementTree → List Lexeme → Result (List StatementTree × List Lexeme) Stop
  body_of xs r = Ok (xs, r)

  abbrev body_statements : List StatementTree × List Lexeme → Result (List StatementTree × List Lexeme) Stop
  body_statements xs = (expect s.CloseBracket xs.1 >>= λ u. expect s.Semicolon u) >>= body_of xs.0

  abbrev whole_of : NameTree → List NameTree → List StatementTree × List Lexeme
      → Result (RoutineTree × List Lexeme) Stop
  whole_of n ns xs = Ok (made ts n ns xs.0 xs.1)

  -- after a heading
  abbrev after : (NameTree × List NameTree) × List Lexeme → Result (RoutineTree × List Lexeme) Stop
  after h = routine_body d h.1 >>= whole_of h.0.0 h.0.1

  ended : (n : NameTree) (ns : List NameTree) (xs : List StatementTree) (R : Result (List Lexeme) Stop)
      → (R >>= last n ns xs) ≡ ((R >>= body_of xs) >>= whole_of n ns)
  ended n ns xs (Ok r) = refl
  ended n ns xs (Err f) = refl

  bracketed : (n : NameTree) (ns : List NameTree) (xs : List StatementTree) (R : Result (List Lexeme) Stop)
      → (R >>= after_bracket n ns xs) ≡ (((R >>= λ u. expect s.Semicolon u) >>= body_of xs) >>= whole_of n ns)
  bracketed n ns xs (Ok u) = ended n ns xs (expect s.Semicolon u)
  bracketed n ns xs (Err f) = refl

  filled : (n : NameTree) (ns : List NameTree) (R : Result (List StatementTree × List Lexeme) Stop)
      → (R >>= after_body n ns) ≡ ((R >>= body_statements) >>= whole_of n ns)
  filled n ns (Ok xs) = bracketed n ns xs.0 (expect s.CloseBracket xs.1)
  filled n ns (Err f) = refl

  headed : (n : NameTree) (ns : List NameTree) (R : Result (List Lexeme) Stop)
      → (R >>= λ m. statements d m >>= after_body n ns) ≡ ((R >>= heading_of n ns) >>= after)
  unfolding routine_body routine_end
  headed n ns (Ok m) = filled n ns (statements d m)
  headed n ns (Err f) = refl

  local : (n : NameTree) (R : Result (List NameTree × List Lexeme) Stop)
      → (R >>= after_locals n) ≡ ((R >>= heading_locals n) >>= after)
  local n (Ok ns) = headed n ns.0 (expect s.Semicolon ns.1)
  local n (Err f) = refl

  named : (R : Result (NameTree × List Lexeme) Stop) → (R >>= past_name) ≡ ((R >>= heading_name) >>= after)
  named (Ok n) = local n.0 (names n.1)
  named (Err f) = refl

  parted : routine_at d ts ≡ (routine_heading (tail ts) >>= after)
  unfolding routine_at routine_heading
  parted = named (expect_name (tail ts))

  -- ---- the directive that a routine is

  pub routine_unheaded : (e : ParseError) (us : List Lexeme) → us ≡ tail ts → Fails e (routine_heading us)
      → Fails e (one_routine d ts)
  routine_unheaded errors.Memory us at h = tt
  routine_unheaded (errors.Fault f count) us at h = rw (parted, ← at, h) refl

  pub routine_unclosed : (e : ParseError) (us : List Lexeme) (n : NameTree) (ns : List NameTree) (m : List Lexeme)
      → us ≡ tail ts → routine_heading us ≡ Ok ((n, ns), m) → Fails e (routine_body d m)
      → Fails e (one_routine d ts)
  routine_unclosed errors.Memory us n ns m at g h = tt
  routine_unclosed (errors.Fault f count) us n ns m at g h = rw (parted, ← at, g, h) refl

  pub routine_made : (us : List Lexeme) (n : NameTree) (ns : List NameTree) (m : List Lexeme)
      (xs : List StatementTree) (r : List Lexeme) → us ≡ tail ts → routine_heading us ≡ Ok ((n, ns), m)
      → routine_body d m ≡ Ok (xs, r) → one_routine d ts ≡ Ok (routine (made ts n ns xs r).0, r)
  routine_made us n ns m xs r at g h = rw (parted, ← at, g, h) refl
