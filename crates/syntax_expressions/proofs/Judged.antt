-- What a parser answers, judged: what it read, and what it means that it met a token too deep.
use Rattle.std.proofs.Common.{◌≡◌, ℕ, Bool, true, false, cond, List, length, Result, Ok, Err, refl, subst}
use Rattle.syntax_lexer.specs.Token.{Lexeme}
use Rattle.syntax_trees.specs.Stop.{Stop, unfit, deep}
use Rattle.syntax_trees.specs.Parse.{◌>>=◌}

-- tokens of that number meet D
pub record Stands (D : List Lexeme → Type 0) (n : ℕ) : Type 0 where
  pub from : List Lexeme
  pub is : D from
  pub left : length from ≡ n

-- What was read and the tokens after it meet Q; the tokens from that on which stands too deep meet D.
pub record Judged {A : Type 0} (Q : A → List Lexeme → Type 0) (D : List Lexeme → Type 0)
    (R : Result (A × List Lexeme) Stop) :
    Type 0 where
  pub read : (x : A × List Lexeme) → R ≡ Ok x → Q x.0 x.1
  pub deep : (n : ℕ) → R ≡ Err (deep n) → Stands D n

abbrev found : {A : Type 0} → A × List Lexeme → Result (A × List Lexeme) Stop
found x = Ok x

abbrev left_at : (A : Type 0) → ℕ → Result (A × List Lexeme) Stop
left_at A n = Err (deep n)

found_is : {A : Type 0} (x y : A × List Lexeme) → found x ≡ found y → x ≡ y
found_is x y e = cc

same_left : (A : Type 0) (m n : ℕ) → left_at A m ≡ left_at A n → m ≡ n
same_left A m n e = cc

stands : {D C : List Lexeme → Type 0} {n : ℕ} → Stands D n → ((u : List Lexeme) → D u → C u) → Stands C n
stands s up = record { from = s.from; is = up s.from s.is; left = s.left }

-- at once
pub judged_read : {A : Type 0} {Q : A → List Lexeme → Type 0} {D : List Lexeme → Type 0} (a : A) (r : List Lexeme) → Q a r
    → Judged Q D (Ok (a, r))
judged_read {A} {Q} {D} a r q = record {
  read = λ x e. subst (λ (y : A × List Lexeme). Q y.0 y.1) (found_is (a, r) x e) q;
  deep = λ n e. absurd cc;
}

pub judged_grammar : {A : Type 0} {Q : A → List Lexeme → Type 0} {D : List Lexeme → Type 0} {n : ℕ}
    → Judged Q D (Err (unfit n))
judged_grammar = record { read = λ x e. absurd cc; deep = λ n e. absurd cc }

pub judged_deep : {A : Type 0} {Q : A → List Lexeme → Type 0} {D : List Lexeme → Type 0} {n : ℕ} → Stands D n
    → Judged Q D (Err (deep n))
judged_deep {A} {D = D} {n = n} s =
    record { read = λ x e. absurd cc; deep = λ m e. subst (λ k. Stands D k) (same_left A n m e) s }

-- one parser after another
pub judged_then : {A B : Type 0} {Q : A → List Lexeme → Type 0} {P : B → List Lexeme → Type 0} {D C : List Lexeme → Type 0} {R : Result (A × List Lexeme) Stop}
    (f : A × List Lexeme → Result (B × List Lexeme) Stop)
    → Judged Q D R → ((a : A) (r : List Lexeme) → Q a r → Judged P C (f (a, r))) → ((u : List Lexeme) → D u → C u)
    → Judged P C (R >>= f)
judged_then {R = Ok x} f j next up = next x.0 x.1 (j.read x refl)
judged_then {R = Err (unfit n)} f j next up = judged_grammar
judged_then {R = Err (deep n)} f j next up = judged_deep (stands (j.deep n refl) up)

-- after a token
pub judged_after : {B : Type 0} {P : B → List Lexeme → Type 0} {C : List Lexeme → Type 0} (R : Result (List Lexeme) Stop)
    (f : List Lexeme → Result (B × List Lexeme) Stop)
    → ((r : List Lexeme) → R ≡ Ok r → Judged P C (f r)) → ((n : ℕ) → R ≡ Err (deep n) → Stands C n)
    → Judged P C (R >>= f)
judged_after (Ok r) f next up = next r refl
judged_after (Err (unfit n)) f next up = judged_grammar
judged_after (Err (deep n)) f next up = judged_deep (up n refl)

-- by a test
pub judged_by : {A : Type 0} {Q : A → List Lexeme → Type 0} {D : List Lexeme → Type 0} (b : Bool)
    (X Y : Result (A × List Lexeme) Stop) → (b ≡ true → Judged Q D X) → (b ≡ false → Judged Q D Y)
    → Judged Q D (cond b X Y)
judged_by true X Y on off = on refl
judged_by false X Y on off = off refl

-- of less
pub judged_as : {A : Type 0} {Q P : A → List Lexeme → Type 0} {D C : List Lexeme → Type 0} {R : Result (A × List Lexeme) Stop}
    → Judged Q D R → ((a : A) (r : List Lexeme) → Q a r → P a r) → ((u : List Lexeme) → D u → C u)
    → Judged P C R
judged_as j less up = record { read = λ x e. less x.0 x.1 (j.read x e); deep = λ n e. stands (j.deep n e) up }
