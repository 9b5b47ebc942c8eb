-- Items as long as one begins: what is read of them, from what is read of each.
use Rattle.std.proofs.Common.{◌≡◌, ◌&&◌, ℕ, zero, suc, ◌⊎◌, Bool, true, false, List, [], ◌∷◌, refl, inl}
use Rattle.std.proofs.Common.{inr, ◌<◌, arith}
use Rattle.syntax_lexer.specs.Token.{Lexeme}
use Rattle.syntax_trees.specs.Parse.{Parse, head, as_long, repeated}
use Rattle.syntax_expressions.proofs.Judged.{Judged, judged_read, judged_then, judged_by}

-- one nesting further in, after a token that opened one
pub after : (D E : ℕ → List Lexeme → Type 0) (d : ℕ) (opening u : List Lexeme) → 0 < d
    → ((n : ℕ) → D n u → E (suc n) u) → ((d ≡ 0) × (u ≡ opening)) ⊎ D d u → E (suc d) u
after D E d opening u lt onward (inl e) = absurd (omega (arith, lt, e.0))
after D E d opening u lt onward (inr h) = onward d h

pub both : (a b : Bool) → (a && b) ≡ true → (a ≡ true) × (b ≡ true)
both true b e = (refl, e)
both false b e = absurd cc

-- ---- items, as long as one begins

module _ {A : Type 0} (begins : List Lexeme → Bool) (p : Parse A) (Q : List Lexeme → A → List Lexeme → Type 0)
    (L : List Lexeme → List A → List Lexeme → Type 0) (DQ DL : List Lexeme → List Lexeme → Type 0)
    (last : (r : List Lexeme) → L r [] r)
    (onward : (ts : List Lexeme) (a : A) (m : List Lexeme) (xs : List A) (r : List Lexeme) → Q ts a m → L m xs r
    → L ts (a ∷ xs) r)
    (deep_first : (ts v : List Lexeme) → begins ts ≡ true → DQ ts v → DL ts v)
    (deep_next : (ts : List Lexeme) (a : A) (m v : List Lexeme) → Q ts a m → DL m v → DL ts v)
    (one : (ts : List Lexeme) → Judged (Q ts) (DQ ts) (p ts)) where
  pub as_long_judged : (n : ℕ) (ts : List Lexeme) → Judged (L ts) (DL ts) (as_long begins p n ts)
  unfolding as_long
  as_long_judged zero ts = judged_read [] ts (last ts)
  as_long_judged (suc n) ts =
      judged_by (begins ts) _ _
      (λ e. judged_then _ (one ts)
      (λ a r q. judged_then _ (as_long_judged n r) (λ xs u l. judged_read (a ∷ xs) u (onward ts a r xs u q l))
      (λ v x. deep_next ts a r v q x)) (λ v x. deep_first ts v e x))
      (λ e. judged_read [] ts (last ts))

module _ {A : Type 0} (begins : Lexeme → Bool) (p : Parse A) (Q : List Lexeme → A → List Lexeme → Type 0)
    (L : List Lexeme → List A → List Lexeme → Type 0) (DQ DL : List Lexeme → List Lexeme → Type 0)
    (last : (r : List Lexeme) → L r [] r)
    (onward : (ts : List Lexeme) (a : A) (m : List Lexeme) (xs : List A) (r : List Lexeme) → Q ts a m → L m xs r
    → L ts (a ∷ xs) r)
    (deep_first : (ts v : List Lexeme) → begins (head ts) ≡ true → DQ ts v → DL ts v)
    (deep_next : (ts : List Lexeme) (a : A) (m v : List Lexeme) → Q ts a m → DL m v → DL ts v)
    (one : (ts : List Lexeme) → Judged (Q ts) (DQ ts) (p ts)) where
  pub repeated_judged : (n : ℕ) (ts : List Lexeme) → Judged (L ts) (DL ts) (repeated begins p n ts)
  unfolding repeated
  repeated_judged n ts = as_long_judged (λ us. begins (head us)) p Q L DQ DL last onward deep_first deep_next one n ts
