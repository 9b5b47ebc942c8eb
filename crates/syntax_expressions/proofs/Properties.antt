-- Properties after an owner, by what derives: after e the loop goes on at m.
use Rattle.std.proofs.Common.{◌≡◌, ℕ, zero, suc, ◌-◌, ◌<◌, ◌≤◌, false, List, ◌∷◌, length, Result, refl, ◌∙◌, arith}
use Rattle.syntax_lexer.specs.declared.token.Position.{Position}
use Rattle.syntax_lexer.specs.declared.token.Sign.TheVariants as s
use Rattle.syntax_lexer.specs.Token.{Lexeme, name, sign}
use Rattle.syntax_trees.specs.Tree.{ExpressionTree, property}
use Rattle.syntax_trees.specs.Stop.{Stop, TooDeep}
use Rattle.syntax_trees.specs.Parse.{◌>>=◌, head, is_sign}
use Rattle.syntax_expressions.specs.PartParse.{expect_name, properties, property_next}
use Rattle.syntax_expressions.proofs.PropertyParts.{properties_stop}
use Rattle.syntax_expressions.proofs.Limited.{Limited, deep_before, deep_sooner}

pub record Owned (R : Result (ExpressionTree × List Lexeme) Stop) (d n : ℕ) (e : ExpressionTree) (m : List Lexeme) :
    Type 0 where
  pub turns : ℕ
  pub enough : length m ≤ turns
  pub within : n ≤ d → R ≡ properties turns e m
  pub beyond : d < n → TooDeep (suc (length m)) R

pub owner_begins : {R : Result (ExpressionTree × List Lexeme) Stop} {d n : ℕ} {e : ExpressionTree} {m : List Lexeme}
    → Limited R d n e m → Owned (R >>= λ x. properties (length x.1) x.0 x.1) d n e m
owner_begins {m = m} h = record {
  turns = length m;
  enough = omega arith;
  within = λ le. rw (h.within le) refl;
  beyond = λ lt. deep_before _ (h.beyond lt);
}

owner_turn : (n : ℕ) (e : ExpressionTree) (p q : Position) (f : List ℕ) (r : List Lexeme) → 0 < n
    → properties n e (sign s.Dot q ∷ name f p ∷ r)
    ≡ properties (n - 1) (property e (record { text = f; position = p })) r
unfolding properties property_next expect_name
owner_turn zero e p q f r lt = absurd (omega arith)
owner_turn (suc n) e p q f r lt = let k : suc n - 1 ≡ n = omega arith in rw k refl

pub owner_next : {R : Result (ExpressionTree × List Lexeme) Stop} {d n : ℕ} {e : ExpressionTree} {p q : Position}
    {f : List ℕ} {r : List Lexeme} → Owned R d n e (sign s.Dot q ∷ name f p ∷ r)
    → Owned R d n (property e (record { text = f; position = p })) r
owner_next {e = e} {p = p} {q = q} {f = f} {r = r} o = record {
  turns = o.turns - 1;
  enough = omega (arith, o.enough);
  within = λ le. o.within le ∙ owner_turn o.turns e p q f r (omega (arith, o.enough));
  beyond = λ lt. deep_sooner (o.beyond lt) (omega arith);
}

pub owner_stops : {R : Result (ExpressionTree × List Lexeme) Stop} {d n : ℕ} {e : ExpressionTree} {r : List Lexeme}
    → Owned R d n e r → is_sign s.Dot (head r) ≡ false → Limited R d n e r
owner_stops {e = e} {r = r} o h = record {
  within = λ le. o.within le ∙ properties_stop o.turns e r h;
  beyond = o.beyond;
}
