-- Statements that are put at the end of a row, one after the other.
use Rattle.std.proofs.Common.{◌≡◌, ℕ, suc, ◌+◌, ◌-◌, ◌<◌, Bool, true, false, List, [], ◌∷◌, ◌++◌, length, Result, Ok}
use Rattle.std.proofs.Common.{Err, map, refl, sym, ap, ◌∙◌, arith}
use Rattle.std.specs.Prelude.{if◌then◌else◌, IfOk, IfErr}
use Rattle.std.proofs.lemmas.List.{map_push}
use Rattle.syntax_lexer.specs.declared.token.Sign.TheVariants as s
use Rattle.syntax_lexer.specs.declared.token.Word.TheVariants as w
use Rattle.syntax_lexer.specs.Token.{Lexeme, reserved, sign}
use Rattle.syntax_trees.specs.Stop.{Stop, stop_of}
use Rattle.syntax_trees.specs.declared.error.Fault.TheVariants as faults
use Rattle.syntax_trees.specs.declared.error.ParseError.{ParseError}
use Rattle.syntax_trees.specs.declared.error.ParseError.TheVariants as errors
use Rattle.syntax_trees.specs.declared.parser.Parser.{Parser}
use Rattle.syntax_trees.specs.Parse.{◌>>=◌, Fails, Parse, head, tail, is_sign, as_long, repeated}
use Rattle.syntax_trees.specs.Returned.{ahead}
use Rattle.syntax_trees.proofs.Loops.{joined}
use Rattle.syntax_statements.specs.declared.tree.SimpleStatement.{SimpleStatement}
use Rattle.syntax_statements.specs.declared.tree.Statement.{Statement}
use Rattle.syntax_statements.specs.declared.tree.Statement.TheVariants as said
use Rattle.syntax_statements.specs.declared.tree.Statement.TheFolds.{fold-roll-Statement}
use Rattle.syntax_statements.specs.Tree.{StatementTree, empty}
use Rattle.syntax_statements.specs.Views.{layer, simple_tree, statement_tree}
use Rattle.syntax_statements.specs.Parse.{plain_on, statement_on, statement_over, inside, braces, bodies, statement}
use Rattle.syntax_statements.specs.Rows.{AddsStatement, contains_statements, flat, after}
use Rattle.syntax_statements.proofs.Inside.{inside_zero}

-- ---- one turn of a loop

append_moves : {A : Type 0} (front : List A) (x : A) (rest : List A) → front ++ (x ∷ rest) ≡ (front ++ x ∷ []) ++ rest
append_moves [] x rest = refl
append_moves (y ∷ ys) x rest = ap (λ zs. y ∷ zs) (append_moves ys x rest)

joined_moves : {A : Type 0} (front : List A) (x : A) (r : Result (List A × List Lexeme) Stop)
    → joined front (r >>= λ y. Ok (x ∷ y.0, y.1)) ≡ joined (front ++ x ∷ []) r
joined_moves front x (Ok y) = ap (λ z. Ok (z, y.1)) (append_moves front x y.0)
joined_moves front x (Err f) = refl

turn : {A : Type 0} (front : List A) (one : Result (A × List Lexeme) Stop)
    (rest : List Lexeme → Result (List A × List Lexeme) Stop)
    → joined front (one >>= λ x. rest x.1 >>= λ y. Ok (x.0 ∷ y.0, y.1))
    ≡ (after front one >>= λ x. joined x.0 (rest x.1))
turn front (Ok x) rest = joined_moves front x.0 (rest x.1)
turn front (Err f) rest = refl

module _ {A : Type 0} (begins : List Lexeme → Bool) (one : Parse A) where
  pub as_long_adds : (n i : ℕ) (front longer : List A) (ts r : List Lexeme) → i < n → begins ts ≡ true
      → after front (one ts) ≡ Ok (longer, r)
      → joined front (as_long begins one (n - i) ts) ≡ joined longer (as_long begins one (n - (i + 1)) r)
  unfolding as_long
  as_long_adds n i front longer ts r lt b h =
      let k : n - i ≡ suc (n - (i + 1)) = omega arith in
      rw (k, b) (turn front (one ts) (as_long begins one (n - (i + 1)))
      ∙ ap (λ (z : Result (List A × List Lexeme) Stop). z >>= λ x. joined x.0 (as_long begins one (n - (i + 1)) x.1)) h)

  pub as_long_stops : (e : ParseError) (n i : ℕ) (front : List A) (ts : List Lexeme)
      (total : Result (List A × List Lexeme) Stop) → i < n → begins ts ≡ true → Fails e (after front (one ts))
      → joined front (as_long begins one (n - i) ts) ≡ total → Fails e total
  unfolding as_long
  as_long_stops errors.Memory n i front ts total lt b h so_far = tt
  as_long_stops (errors.Fault f count) n i front ts total lt b h so_far =
      let k : n - i ≡ suc (n - (i + 1)) = omega arith in
      let all : joined front (as_long begins one (n - i) ts) ≡ Err (stop_of f count) =
      rw (k, b) (turn front (one ts) (as_long begins one (n - (i + 1)))
      ∙ ap (λ (z : Result (List A × List Lexeme) Stop). z >>= λ x. joined x.0
      (as_long begins one (n - (i + 1)) x.1)) h) in
      sym so_far ∙ all

module _ {A : Type 0} (begins : Lexeme → Bool) (one : Parse A) where
  pub repeated_adds : (n i : ℕ) (front longer : List A) (ts r : List Lexeme) → i < n → begins (head ts) ≡ true
      → after front (one ts) ≡ Ok (longer, r)
      → joined front (repeated begins one (n - i) ts) ≡ joined longer (repeated begins one (n - (i + 1)) r)
  unfolding repeated
  repeated_adds n i front longer ts r lt b h = as_long_adds (λ us. begins (head us)) one n i front longer ts r lt b h

  pub repeated_stops : (e : ParseError) (n i : ℕ) (front : List A) (ts : List Lexeme)
      (total : Result (List A × List Lexeme) Stop) → i < n → begins (head ts) ≡ true
      → Fails e (after front (one ts)) → joined front (repeated begins one (n - i) ts) ≡ total → Fails e total
  unfolding repeated
  repeated_stops e n i front ts total lt b h so_far = as_long_stops (λ us. begins (head us)) one e n i front ts total
      lt b h so_far

-- ---- one statement

-- the row is longer
pub added : (before room longer : List Statement) (x : Statement) (y : StatementTree) (left : Parser) → room ≡ before
    → longer ≡ room ++ x ∷ [] → statement_tree x ≡ y
    → after (map statement_tree before) (Ok (y, ahead left)) ≡ Ok (map statement_tree longer, ahead left)
added before room longer x y left same pushed is = ap (λ ts. Ok (ts, ahead left))
    (ap (λ z. map statement_tree before ++ z ∷ []) (sym is) ∙ sym (map_push statement_tree before x)
    ∙ ap (map statement_tree) (ap (λ xs. xs ++ x ∷ []) (sym same) ∙ sym pushed))

-- the row is longer, or memory was refused
pub pushed : {X : Type 0} (result : Result X ParseError) (before longer : List Statement) (x : Statement)
    (left : Parser) → IfOk result (λ _. longer ≡ before ++ x ∷ []) → IfErr result (λ e. e ≡ errors.Memory)
    → AddsStatement result before longer left (Ok (statement_tree x, ahead left))
pushed (Ok u) before longer x left ok err = added before before longer x (statement_tree x) left refl ok refl
pushed (Err e) before longer x left ok err = rw err tt

pub is_empty : statement_tree said.Empty ≡ empty
is_empty = ap statement_tree (sym said.rolls-Empty) ∙ fold-roll-Statement StatementTree layer _

pub is_simple : (x : SimpleStatement) → statement_tree (said.Simple x) ≡ simple_tree x
is_simple x = ap statement_tree (sym (said.rolls-Simple x)) ∙ fold-roll-Statement StatementTree layer _

pub after_fails : {A : Type 0} (e : ParseError) (front : List A) (one : Result (A × List Lexeme) Stop) → Fails e one
    → Fails e (after front one)
after_fails errors.Memory front one h = tt
after_fails (errors.Fault f count) front one h = rw h refl

-- no nesting is left for it
pub inside_none : (e : ParseError) (d : ℕ) (front : List StatementTree) (ts : List Lexeme) → d ≡ 0
    → e ≡ errors.Fault faults.Deep (length ts) → Fails e (after front (inside d ts))
inside_none e d front ts none is = rw (is, inside_zero d ts none) refl

-- which statement contains no others, by its first token

pub statement_flat : (d : ℕ) (ts : List Lexeme) → contains_statements (head ts) ≡ false → statement d ts ≡ flat d ts
unfolding statement statement_over flat
statement_flat d ts no_others = go (head ts) no_others
  where
    go : (t : Lexeme) → contains_statements t ≡ false
        → statement_on d (inside d) (braces d) (bodies d) t ts
        ≡ (if is_sign s.Semicolon t then Ok (empty, tail ts) else plain_on d t ts)
    go (sign s.Semicolon p) e = refl
    go (sign s.OpenBrace p) e = absurd cc
    go (reserved w.If p) e = absurd cc
    go (reserved w.While p) e = absurd cc
    go (reserved w.Do p) e = absurd cc
    go (reserved w.For p) e = absurd cc
    go (reserved w.Objectloop p) e = absurd cc
    go (reserved w.Switch p) e = absurd cc
    go t e = refl

module _ (d : ℕ) (ts : List Lexeme) where
  pub flat_empty : (us : List Lexeme) → is_sign s.Semicolon (head ts) ≡ true → us ≡ tail ts → flat d ts ≡ Ok (empty, us)
  unfolding flat
  flat_empty us alone passed = rw (alone, ← passed) refl

  pub flat_plain : is_sign s.Semicolon (head ts) ≡ false → flat d ts ≡ plain_on d (head ts) ts
  unfolding flat
  flat_plain other = rw other refl
