-- What a routine leaves is what its tokens end with, and so its weight is that of the tokens before.
use Rattle.std.proofs.Common.{◌≡◌, ℕ, suc, ◌+◌, ◌-◌, ◌≤◌, List, [], ◌∷◌, ◌++◌, append_assoc, length, take, Result, Ok}
use Rattle.std.proofs.Common.{Err, refl, sym, ap, ◌∙◌, arith}
use Rattle.syntax_lexer.specs.declared.token.Token.{Token}
use Rattle.syntax_lexer.specs.declared.token.Sign.{Sign}
use Rattle.syntax_lexer.specs.declared.token.Sign.TheVariants as s
use Rattle.syntax_lexer.specs.Token.{Lexeme, name, sign, lexeme, lexemes, position_of}
use Rattle.syntax_trees.specs.Tree.{NameTree}
use Rattle.syntax_trees.specs.Stop.{Stop, deep, unfit}
use Rattle.syntax_trees.specs.Parse.{◌>>=◌, head, tail, expect}
use Rattle.syntax_expressions.proofs.Judged.{Judged, judged_read, judged_then, judged_after}
use Rattle.syntax_expressions.proofs.Tokens.{expect_ok, expect_not_deep}
use Rattle.syntax_expressions.proofs.NamesRead.{name_judged}
use Rattle.syntax_statements.specs.Tree.{StatementTree, StatementTrees}
use Rattle.syntax_statements.specs.Grammar.{IsSs}
use Rattle.syntax_statements.proofs.Sound.{judged_Ss}
use Rattle.syntax_directives.specs.Grammar.{weight_of, IsNames}
use Rattle.syntax_directives.specs.Parse.{routine_heading, routine_end, routine_body}
use Rattle.syntax_directives.specs.Answers.{EndsWith}
use Rattle.syntax_directives.proofs.SpelledStatements.{spelled_Names, spelled_Ss}
use Rattle.syntax_directives.proofs.Lists.{names_judged}

count : (ts : List Token) → length (lexemes ts) ≡ length ts
count [] = refl
count (t ∷ ts) = ap suc (count ts)

length_append : (ts us : List Lexeme) → length (ts ++ us) ≡ length ts + length us
length_append [] us = omega arith
length_append (t ∷ ts) us = omega (arith, length_append ts us)

longer : (front : List Lexeme) (ts us : List Token) → lexemes ts ≡ front ++ lexemes us
    → length us + length front ≡ length ts
longer front ts us e = omega (arith, ap length e, length_append front (lexemes us), count ts, count us)

pub ends_short : (ts us : List Token) → EndsWith (lexemes ts) (lexemes us) → length us ≤ length ts
ends_short ts us e = omega (arith, longer e.0 ts us e.1)

first_is : (t : Lexeme) (ts : List Lexeme) (u : Lexeme) (us : List Lexeme) → t ∷ ts ≡ u ∷ us → ts ≡ us
first_is t ts u us e = cc

weight_split : (front : List Lexeme) (ts us : List Token) → lexemes ts ≡ front ++ lexemes us
    → weight_of (lexemes ts) ≡ weight_of (lexemes (take (length ts - length us) ts)) + weight_of (lexemes us)
weight_split [] ts us e =
    let k : length ts - length us ≡ 0 = omega (arith, longer [] ts us e) in
    rw k (omega (arith, ap weight_of e))
weight_split (f ∷ front) [] us e = absurd cc
weight_split (f ∷ front) (t ∷ ts) us e =
    let inner : lexemes ts ≡ front ++ lexemes us = first_is (lexeme t) (lexemes ts) f (front ++ lexemes us) e in
    let k : suc (length ts) - length us ≡ suc (length ts - length us) = omega (arith, longer front ts us inner) in
    rw k (omega (arith, weight_split front ts us inner))

pub ends_weight : (ts us : List Token) → EndsWith (lexemes ts) (lexemes us)
    → weight_of (lexemes (take (length ts - length us) ts)) ≡ weight_of (lexemes ts) - weight_of (lexemes us)
ends_weight ts us e = omega (arith, weight_split e.0 ts us e.1)

-- ---- one part after another

pub after : (t : Lexeme) (m r : List Lexeme) → EndsWith m r → EndsWith (t ∷ m) r
after t m r e = (t ∷ e.0, ap (λ u. t ∷ u) e.1)

pub further_on : (ts m r : List Lexeme) → EndsWith ts m → EndsWith m r → EndsWith ts r
further_on ts m r a b = (a.0 ++ b.0, a.1 ∙ ap (λ u. a.0 ++ u) b.1 ∙ sym (append_assoc a.0 b.0 r))

after_sign : (s : Sign) (ts r : List Lexeme) → expect s ts ≡ Ok r → EndsWith ts r
after_sign s ts r e = (sign s (position_of (head ts)) ∷ [], expect_ok s ts r e)

pub past_names : {ts r : List Lexeme} {ns : List NameTree} → IsNames ts ns r → EndsWith ts r
past_names l = let a = spelled_Names l in (a.front, a.at)

pub after_statements : {ts r : List Lexeme} {xs : StatementTrees} → IsSs ts xs r → EndsWith ts r
after_statements l = let a = spelled_Ss l in (a.front, a.at)

after_first : (ts r : List Lexeme) → EndsWith (tail ts) r → EndsWith ts r
after_first [] r e = e
after_first (t ∷ ts) r e = after t ts r e

heading_ends : (ts : List Lexeme) → Judged (λ h r. EndsWith ts r) (λ i. ⊥) (routine_heading ts)
unfolding routine_heading
heading_ends ts =
    judged_then _ (name_judged ts)
    (λ n a q. judged_then _ (names_judged a)
    (λ ns b l. judged_after (expect s.Semicolon b) _
    (λ m e. judged_read _ m
    (further_on ts a m (name n.text n.position ∷ [], q)
    (further_on a b m (past_names l) (after_sign s.Semicolon b m e))))
    (λ i e. absurd (expect_not_deep s.Semicolon b i e)))
    (λ i x. x))
    (λ i x. x)

closed_ends : (ts r : List Lexeme) → routine_end ts ≡ Ok r → EndsWith ts r
unfolding routine_end
closed_ends ts r e = go (expect s.CloseBracket ts) refl e
  where
    go : (R : Result (List Lexeme) Stop) → expect s.CloseBracket ts ≡ R → (R >>= λ u. expect s.Semicolon u) ≡ Ok r
        → EndsWith ts r
    go (Ok u) g h = further_on ts u r (after_sign s.CloseBracket ts u g) (after_sign s.Semicolon u r h)
    go (Err f) g h = absurd cc

closed_not_deep : (ts : List Lexeme) (k : ℕ) → routine_end ts ≡ Err (deep k) → ⊥
unfolding routine_end
closed_not_deep ts k e = go (expect s.CloseBracket ts) refl e
  where
    go : (R : Result (List Lexeme) Stop) → expect s.CloseBracket ts ≡ R
        → (R >>= λ u. expect s.Semicolon u) ≡ Err (deep k) → ⊥
    go (Ok u) g h = expect_not_deep s.Semicolon u k h
    go (Err (unfit n)) g h = absurd cc
    go (Err (deep n)) g h = expect_not_deep s.CloseBracket ts n g

body_ends : (d : ℕ) (ts : List Lexeme) → Judged (λ xs r. EndsWith ts r) (λ i. Unit {0}) (routine_body d ts)
unfolding routine_body
body_ends d ts =
    judged_then _ (judged_Ss d ts)
    (λ xs u l. judged_after (routine_end u) _
    (λ r e. judged_read xs r (further_on ts u r (after_statements l.0) (closed_ends u r e)))
    (λ i e. absurd (closed_not_deep u i e)))
    (λ i x. tt)

pub routine_ends : (d : ℕ) (ts : List Lexeme) (h : NameTree × List NameTree) (m : List Lexeme)
    (xs : List StatementTree) (r : List Lexeme) → routine_heading (tail ts) ≡ Ok (h, m) → routine_body d m ≡ Ok (xs, r)
    → EndsWith ts r
routine_ends d ts h m xs r a b = after_first ts r
    (further_on (tail ts) m r ((heading_ends (tail ts)).read (h, m) a) ((body_ends d m).read (xs, r) b))
