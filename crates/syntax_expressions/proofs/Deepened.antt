-- Reading comes no further than a token that stands deeper than the nestings that are left.
use Rattle.std.proofs.Common.{◌≡◌, ℕ, zero, suc, ◌<◌, ◌≤◌, Bool, true, List, ◌∷◌, length, Option, Some}
use Rattle.std.proofs.Common.{Result, Ok, Err, refl, arith, inl, inr}
use Rattle.std.proofs.lemmas.Bool.{cases_lt}
use Rattle.syntax_lexer.specs.Token.{Lexeme}
use Rattle.syntax_trees.specs.declared.tree.Binary.{Binary}
use Rattle.syntax_trees.specs.Tree.{ExpressionTree, binary}
use Rattle.syntax_trees.specs.Stop.{Stop, deep, TooDeep}
use Rattle.syntax_trees.specs.Parse.{◌>>=◌, Parse, further, list}
use Rattle.syntax_expressions.specs.Parse.{Level, chain, nested}
use Rattle.syntax_expressions.proofs.Limited.{Limited, Chained, deep_before, deep_sooner, deep_as}

-- Where the first of the tokens u, which stands n deep in what is read from ts on, is too deep, reading stops there or
-- before.
pub record Deepened {A : Type 0} (R : Result (A × List Lexeme) Stop) (d n : ℕ) (ts u : List Lexeme) : Type 0 where
  pub fewer : length u ≤ length ts
  pub stops : d < n → TooDeep (length u) R

-- in the first of two that are read
pub deep_in : {A B : Type 0} {R : Result (A × List Lexeme) Stop} {d n : ℕ} {ts u : List Lexeme}
    (f : A × List Lexeme → Result (B × List Lexeme) Stop) → Deepened R d n ts u → Deepened (R >>= f) d n ts u
deep_in f h = record { fewer = h.fewer; stops = λ lt. deep_before f (h.stops lt) }

-- in the second
pub deep_after : {A B : Type 0} {R : Result (A × List Lexeme) Stop} {d m n : ℕ} {a : A} {ts us r u : List Lexeme}
    (f : A × List Lexeme → Result (B × List Lexeme) Stop) → Limited R d m a r → length r ≤ length ts
    → length us ≤ length r → Deepened (f (a, r)) d n us u → Deepened (R >>= f) d n ts u
deep_after {d = d} {m = m} f p le less q = record {
  fewer = omega (arith, le, less, q.fewer);
  stops = λ lt. elim (cases_lt d m) [
    | inl far ↦ deep_sooner (deep_before f (p.beyond far)) (omega (arith, less, q.fewer))
    | inr near ↦ rw (p.within near) (q.stops lt)
  ];
}

pub deep_same : {A : Type 0} {R S : Result (A × List Lexeme) Stop} {d n : ℕ} {ts us u : List Lexeme} → R ≡ S
    → length us ≤ length ts → Deepened S d n us u → Deepened R d n ts u
deep_same e le h = record { fewer = omega (arith, le, h.fewer); stops = λ lt. deep_as e (h.stops lt) }

-- at the token that opens a nesting
pub deep_opened : {A : Type 0} (R : ℕ → Result (A × List Lexeme) Stop) (d : ℕ) {ts u : List Lexeme}
    → length u ≤ length ts → R 0 ≡ Err (deep (length u)) → Deepened (R d) d 1 ts u
deep_opened R zero le e =
    record { fewer = le; stops = λ lt. record { left = _; stops = e; enough = omega arith } }
deep_opened R (suc d) le e = record { fewer = le; stops = λ lt. absurd (omega arith) }

-- one nesting further in
pub deep_inside : {n left : ℕ} {ts u : List Lexeme} (p : (ℕ → Parse ExpressionTree)) (l : Level) (d : ℕ)
    → length ts ≤ left → ((k : ℕ) → nested (suc k) l left ts ≡ p k ts) → ((k : ℕ) → Deepened (p k ts) k n ts u)
    → Deepened (nested d l left ts) d (suc n) ts u
unfolding nested
deep_inside p l zero le same h = record {
  fewer = (h 0).fewer;
  stops = λ lt. record { left = _; stops = refl; enough = omega (arith, le, (h 0).fewer) };
}
deep_inside p l (suc d) le same h =
    record { fewer = (h d).fewer; stops = λ lt. deep_as (same d) ((h d).stops (omega arith)) }

-- ---- chains

module _ (ops : Lexeme → Option Binary) (p : Parse ExpressionTree) where
  turn_deep : (j k : ℕ) (a : ExpressionTree) (t : Lexeme) (m : List Lexeme) (op : Binary) → 0 < j
      → ops t ≡ Some op → TooDeep k (p m) → TooDeep k (chain ops p j a (t ∷ m))
  unfolding chain
  turn_deep zero k a t m op lt o h = absurd (omega arith)
  turn_deep (suc j) k a t m op lt o h =
      deep_as {S = p m >>= λ x. chain ops p j (binary op a x.0) x.1} (rw o refl) (deep_before _ h)

pub deep_linked : {ops : Lexeme → Option Binary} {p : Parse ExpressionTree} {R : Result (ExpressionTree × List Lexeme)
    Stop} {d m n : ℕ} {a : ExpressionTree} {t : Lexeme} {op : Binary} {ts us u : List Lexeme}
    → Chained ops p R d m a (t ∷ us) → length us ≤ length ts → ops t ≡ Some op → Deepened (p us) d n us u
    → Deepened R d n ts u
deep_linked {ops} {p} {d = d} {m = m} {a = a} {t = t} {op = op} {us = us} {u = u} c le o h = record {
  fewer = omega (arith, le, h.fewer);
  stops = λ lt. elim (cases_lt d m) [
    | inl far ↦ deep_sooner (c.beyond far) (omega (arith, h.fewer))
    | inr near ↦ deep_as (c.within near)
        (turn_deep ops p c.turns (length u) a t us op (omega (arith, c.enough)) o (h.stops lt))
  ];
}

-- ---- lists

-- in what is read as items with separators between them, however many turns are made
pub record DeepListed {A : Type 0} (sep : Lexeme → Bool) (item : Parse A) (d n : ℕ) (ts u : List Lexeme) : Type 0
  where
    pub fewer : length u ≤ length ts
    pub stops : (turns : A × List Lexeme → ℕ)
        → ((a : A) (r : List Lexeme) → length r < length ts → length r ≤ turns (a, r)) → d < n
        → TooDeep {A = List A × List Lexeme} (length u)
        (item ts >>= λ x. further sep item (turns x) x.1 >>= λ y. Ok (x.0 ∷ y.0, y.1))

module _ {A : Type 0} (sep : Lexeme → Bool) (item : Parse A) (d : ℕ) where
  pub deep_first_item : {n : ℕ} {ts u : List Lexeme} → Deepened (item ts) d n ts u → DeepListed sep item d n ts u
  deep_first_item h = record { fewer = h.fewer; stops = λ turns enough lt. deep_before _ (h.stops lt) }

  others_deep : {n : ℕ} {us u : List Lexeme} (t : Lexeme) (turns : ℕ) → length us < turns → sep t ≡ true
      → DeepListed sep item d n us u → d < n → TooDeep (length u) (further sep item turns (t ∷ us))
  unfolding further
  others_deep t zero le e h lt = absurd (omega arith)
  others_deep {us = us} t (suc turns) le e h lt =
      deep_as {S = item us >>= λ x. further sep item turns x.1 >>= λ y. Ok (x.0 ∷ y.0, y.1)} (rw e refl)
      (h.stops (λ x. turns) (λ a r less. omega (arith, le, less)) lt)

  pub deep_next_item : {m n : ℕ} {a : A} {t : Lexeme} {ts us u : List Lexeme} → Limited (item ts) d m a (t ∷ us)
      → length (t ∷ us) < length ts → sep t ≡ true → DeepListed sep item d n us u → DeepListed sep item d n ts u
  deep_next_item {m = m} {a = a} {t = t} {us = us} p less e h = record {
    fewer = omega (arith, less, h.fewer);
    stops = λ turns enough lt. elim (cases_lt d m) [
      | inl far ↦ deep_sooner (deep_before _ (p.beyond far)) (omega (arith, h.fewer))
      | inr near ↦ rw (p.within near)
          (deep_before _ (others_deep t (turns (a, t ∷ us)) (omega (arith, enough a (t ∷ us) less)) e h lt))
    ];
  }

  pub deep_list : {n : ℕ} {ts u : List Lexeme} → DeepListed sep item d n ts u → Deepened (list sep item ts) d n ts u
  unfolding list
  deep_list h = record {
    fewer = h.fewer;
    stops = λ lt. h.stops (λ x. length x.1) (λ a r less. omega arith) lt;
  }
