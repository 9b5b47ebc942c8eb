-- The tokens of a derivation: they stand at the front, and weigh what their tree weighs.
use Rattle.std.proofs.Common.{◌≡◌, ℕ, ◌≤◌, ◌+◌, ◌*◌, List, [], ◌∷◌, ◌++◌, append_assoc, refl, sym, ap, ◌∙◌, arith}
use Rattle.syntax_lexer.specs.Token.{Lexeme}
use Rattle.syntax_directives.specs.Grammar.{token_weight, weight_of}

-- tokens of weight w, and then r
pub record Spelled (w : ℕ) (ts r : List Lexeme) : Type 0 where
  pub front : List Lexeme
  pub at : ts ≡ front ++ r
  pub weight : weight_of front ≡ w

pub weight_append : (ts us : List Lexeme) → weight_of (ts ++ us) ≡ weight_of ts + weight_of us
weight_append [] us = omega arith
weight_append (t ∷ ts) us = omega (arith, weight_append ts us)

pub spelled_none : (r : List Lexeme) → Spelled 0 r r
spelled_none r = record { front = []; at = refl; weight = refl }

-- one token more
pub after : {w : ℕ} {m r : List Lexeme} (t : Lexeme) → Spelled w m r → Spelled (token_weight t + w) (t ∷ m) r
after t a = record { front = t ∷ a.front; at = ap (λ u. t ∷ u) a.at; weight = ap (λ n. token_weight t + n) a.weight }

pub joined : {v w : ℕ} {ts m r : List Lexeme} → Spelled v ts m → Spelled w m r → Spelled (v + w) ts r
joined {r = r} a b = record {
  front = a.front ++ b.front;
  at = a.at ∙ ap (λ u. a.front ++ u) b.at ∙ sym (append_assoc a.front b.front r);
  weight = omega (arith, weight_append a.front b.front, a.weight, b.weight);
}

pub weighing : {v w : ℕ} {ts r : List Lexeme} → Spelled v ts r → v ≡ w → Spelled w ts r
weighing a e = record { front = a.front; at = a.at; weight = a.weight ∙ e }

pub weighs : {w : ℕ} {ts r : List Lexeme} → Spelled w ts r → weight_of ts ≡ w + weight_of r
weighs {r = r} a = ap weight_of a.at ∙ weight_append a.front r ∙ ap (λ n. n + weight_of r) a.weight

-- tokens of weight w beside some signs `-`, at most n, and then r
pub record SpelledAbout (w n : ℕ) (ts r : List Lexeme) : Type 0 where
  pub front : List Lexeme
  pub at : ts ≡ front ++ r
  pub signs : ℕ
  pub few : signs ≤ n
  pub weight : weight_of front ≡ w + 32 * signs

pub about : {v w n : ℕ} {ts r : List Lexeme} → Spelled v ts r → v ≡ w → SpelledAbout w n ts r
about a e =
    record { front = a.front; at = a.at; signs = 0; few = omega arith; weight = omega (arith, a.weight, e) }

pub after_about : {w n : ℕ} {m r : List Lexeme} (t : Lexeme) → SpelledAbout w n m r
    → SpelledAbout (token_weight t + w) n (t ∷ m) r
after_about t a = record {
  front = t ∷ a.front;
  at = ap (λ u. t ∷ u) a.at;
  signs = a.signs;
  few = a.few;
  weight = omega (arith, a.weight);
}

pub joined_about : {v w j k : ℕ} {ts m r : List Lexeme} → SpelledAbout v j ts m → SpelledAbout w k m r
    → SpelledAbout (v + w) (j + k) ts r
joined_about {r = r} a b = record {
  front = a.front ++ b.front;
  at = a.at ∙ ap (λ u. a.front ++ u) b.at ∙ sym (append_assoc a.front b.front r);
  signs = a.signs + b.signs;
  few = omega (arith, a.few, b.few);
  weight = omega (arith, weight_append a.front b.front, a.weight, b.weight);
}

pub weighing_about : {v w j k : ℕ} {ts r : List Lexeme} → SpelledAbout v j ts r → v ≡ w → j ≤ k
    → SpelledAbout w k ts r
weighing_about a e le = record {
  front = a.front;
  at = a.at;
  signs = a.signs;
  few = omega (arith, a.few, le);
  weight = omega (arith, a.weight, e);
}

pub weighs_about : {w n : ℕ} {ts r : List Lexeme} (a : SpelledAbout w n ts r)
    → weight_of ts ≡ w + 32 * a.signs + weight_of r
weighs_about {r = r} a = ap weight_of a.at ∙ weight_append a.front r ∙ ap (λ n. n + weight_of r) a.weight
