-- Items as long as one begins, the attributes of `give` and the parts of a `for` are read as they derive.
use Rattle.std.proofs.Common.{◌≡◌, ℕ, zero, suc, ◌≤◌, max, Bool, true, false, List, [], ◌∷◌, length, Option, Ok, refl}
use Rattle.std.proofs.Common.{arith}
use Rattle.syntax_lexer.specs.declared.token.Position.{Position}
use Rattle.syntax_lexer.specs.declared.token.Sign.{Sign}
use Rattle.syntax_lexer.specs.declared.token.Sign.TheVariants as s
use Rattle.syntax_lexer.specs.Token.{Lexeme, sign}
use Rattle.syntax_trees.specs.Tree.{ExpressionTree}
use Rattle.syntax_trees.specs.Parse.{◌>>=◌, Parse, head, is_sign, as_long, repeated}
use Rattle.syntax_expressions.specs.Operators.{begins_expression}
use Rattle.syntax_expressions.proofs.Follow.{Stops}
use Rattle.syntax_expressions.proofs.Begins.{first_E}
use Rattle.syntax_expressions.proofs.Limited.{Limited, bound, then, at_once, same}
use Rattle.syntax_expressions.proofs.Complete.{at_E}
use Rattle.syntax_expressions.specs.PartParse.{expect_name}
use Rattle.syntax_statements.specs.PartTree.{FlagTree}
use Rattle.syntax_statements.specs.PartGrammar.{effect_or_none, IsOptional, optional_none, optional_some}
use Rattle.syntax_statements.specs.PartGrammar.{optional_nesting, IsFlag, flag_given, flag_taken, IsFlags, flags_none}
use Rattle.syntax_statements.specs.PartGrammar.{flags_next, IsGiven, given_first}
use Rattle.syntax_statements.specs.PartParse.{optional, heading, flag, flags, begins_flag}
use Rattle.syntax_statements.proofs.Follow.{short_Flag, short_Flags, short_Optional}
use Rattle.syntax_statements.proofs.Deepest.{up}
use Rattle.syntax_statements.proofs.Alternatives.{step_optional_none, step_optional_some, step_effect, step_heading}

-- ---- items, as long as one begins

module _ {A : Type 0} (begins : List Lexeme → Bool) (p : Parse A) (d : ℕ) where
  pub as_long_stop : (n : ℕ) (r : List Lexeme) → begins r ≡ false → Limited (as_long begins p n r) d 0 [] r
  unfolding as_long
  as_long_stop zero r e = at_once refl
  as_long_stop (suc n) r e = at_once (rw e refl)

  pub as_long_next : {l j : ℕ} {x : A} {xs : List A} {m r : List Lexeme} (n : ℕ) (ts : List Lexeme) → begins ts ≡ true
      → Limited (p ts) d l x m → length r ≤ length m → Limited (as_long begins p n m) d j xs r
      → Limited (as_long begins p (suc n) ts) d (max l j) (x ∷ xs) r
  unfolding as_long
  as_long_next n ts e a short b = same {S = p ts >>= λ x. as_long begins p n x.1 >>= λ y. Ok (x.0 ∷ y.0, y.1)}
      (rw e refl)
      (bound _ a short (then _ b (omega arith) refl))

module _ {A : Type 0} (begins : Lexeme → Bool) (p : Parse A) (d : ℕ) where
  pub repeated_stop : (n : ℕ) (r : List Lexeme) → begins (head r) ≡ false → Limited (repeated begins p n r) d 0 [] r
  unfolding repeated
  repeated_stop n r e = as_long_stop (λ us. begins (head us)) p d n r e

  pub repeated_next : {l j : ℕ} {x : A} {xs : List A} {m r : List Lexeme} (n : ℕ) (ts : List Lexeme)
      → begins (head ts) ≡ true → Limited (p ts) d l x m → length r ≤ length m
      → Limited (repeated begins p n m) d j xs r
      → Limited (repeated begins p (suc n) ts) d (max l j) (x ∷ xs) r
  unfolding repeated
  repeated_next n ts e a short b = as_long_next (λ us. begins (head us)) p d n ts e a short b

-- ---- attributes of `give`

flag_read : {ts r : List Lexeme} {x : FlagTree} → IsFlag ts x r → flag ts ≡ Ok (x, r)
unfolding flag expect_name
flag_read flag_given = refl
flag_read flag_taken = refl

first_Flag : {ts r : List Lexeme} {x : FlagTree} → IsFlag ts x r → begins_flag (head ts) ≡ true
first_Flag flag_given = refl
first_Flag flag_taken = refl

at_Flags : {ts r : List Lexeme} {xs : List FlagTree} {q : Position} → IsFlags ts xs (sign s.Semicolon q ∷ r)
    → (d n : ℕ) → length ts ≤ n → Limited (repeated begins_flag flag n ts) d 0 xs (sign s.Semicolon q ∷ r)
at_Flags {r = r} {q = q} flags_none d n le = repeated_stop begins_flag flag d n (sign s.Semicolon q ∷ r) refl
at_Flags (flags_next a b) d zero le = absurd (omega (arith, short_Flag a))
at_Flags {ts} (flags_next a b) d (suc n) le = up (repeated_next begins_flag flag d n ts (first_Flag a)
    (at_once {d = d} (flag_read a)) (short_Flags b) (at_Flags b d n (omega (arith, short_Flag a)))) (omega arith)

pub at_Given : {ts r : List Lexeme} {xs : List FlagTree} {q : Position} → IsGiven ts xs (sign s.Semicolon q ∷ r)
    → (d : ℕ) → Limited (flags ts) d 0 xs (sign s.Semicolon q ∷ r)
unfolding flags
at_Given (given_first {m = m} a b) d = up
    (bound _ (at_once {d = d} (flag_read a)) (short_Flags b)
    (then _ (at_Flags b d (length m) (omega arith)) (omega arith) refl))
    (omega arith)

-- an expression ends where they begin
pub stops_Given : {ts r : List Lexeme} {xs : List FlagTree} → IsGiven ts xs r → Stops 1 ts
stops_Given (given_first flag_given b) = omega arith
stops_Given (given_first flag_taken b) = omega arith

-- ---- the parts of a `for`

pub expression_colon : (t : Lexeme) → begins_expression t ≡ true → is_sign s.Colon t ≡ false
expression_colon (sign s.Colon p) e = absurd cc
expression_colon _ e = refl

pub expression_close : (t : Lexeme) → begins_expression t ≡ true → is_sign s.CloseParenthesis t ≡ false
expression_close (sign s.CloseParenthesis p) e = absurd cc
expression_close _ e = refl

pub at_Optional : {ts r : List Lexeme} {e : Option ExpressionTree} (z : Sign)
    → ((t : Lexeme) → begins_expression t ≡ true → is_sign z t ≡ false) → IsOptional ts e r → (d : ℕ)
    → is_sign z (head r) ≡ true → Stops 1 r → Limited (optional d z ts) d (optional_nesting e) e r
at_Optional {ts} z differs optional_none d e st = step_optional_none d z ts e
at_Optional {ts} z differs (optional_some a) d e st = step_optional_some d z ts (differs (head ts) (first_E a))
    (at_E a d st)

pub at_Heading : {m k l n : List Lexeme} {a b c : Option ExpressionTree} {i j o : Position}
    → IsOptional m a (sign s.Colon i ∷ k) → effect_or_none a ≡ true → IsOptional k b (sign s.Colon j ∷ l)
    → IsOptional l c (sign s.CloseParenthesis o ∷ n) → effect_or_none c ≡ true → (d : ℕ)
    → Limited (heading d m) d (max (optional_nesting a) (max (optional_nesting b) (optional_nesting c)))
    (record { before = a; test = b; after = c }) n
at_Heading {m} {k} {l} {i = i} {j = j} {o = o} a f b c g d = step_heading d i j o m
    (omega (arith, short_Optional b)) (omega (arith, short_Optional c))
    (step_effect d s.Colon m f (at_Optional s.Colon expression_colon a d refl (omega arith)))
    (at_Optional s.Colon expression_colon b d refl (omega arith))
    (step_effect d s.CloseParenthesis l g
    (at_Optional s.CloseParenthesis expression_close c d refl (omega arith)))
