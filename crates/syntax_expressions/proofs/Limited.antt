-- What a parser answers on tokens that have a tree: the tree, or that it is nested too deep.
use Rattle.std.proofs.Common.{◌≡◌, ℕ, zero, suc, ◌-◌, ◌<◌, ◌≤◌, max, Bool, true, false, List, [], ◌∷◌, length, Option}
use Rattle.std.proofs.Common.{Some, None, Result, Ok, Err, refl, ◌∙◌, arith, inl, inr}
use Rattle.std.proofs.lemmas.Bool.{cases_lt}
use Rattle.syntax_lexer.specs.Token.{Lexeme}
use Rattle.syntax_trees.specs.declared.tree.Binary.{Binary}
use Rattle.syntax_trees.specs.Tree.{NameTree, ExpressionTree, binary}
use Rattle.syntax_trees.specs.Stop.{Stop, deep, TooDeep}
use Rattle.syntax_trees.specs.Parse.{◌>>=◌, Parse, head, further, list}
use Rattle.syntax_expressions.specs.Parse.{Level, whole, negation, complement, prefix, operand, arguments, chain}
use Rattle.syntax_expressions.specs.Parse.{nested, expression, logical_operand, factor, unary, primary, rest_of_call}
use Rattle.syntax_expressions.proofs.Chain.{chain_stop}

pub record Limited {A : Type 0} (R : Result (A × List Lexeme) Stop) (d n : ℕ) (a : A) (r : List Lexeme) : Type 0
  where
    pub within : n ≤ d → R ≡ Ok (a, r)
    pub beyond : d < n → TooDeep (suc (length r)) R

-- what was not read is not read further, and some token before is one before

pub deep_before : {A B : Type 0} {R : Result A Stop} {k : ℕ} (f : A → Result B Stop) → TooDeep k R
    → TooDeep k (R >>= f)
deep_before f h = record { left = h.left; stops = rw h.stops refl; enough = h.enough }

pub deep_sooner : {A : Type 0} {R : Result A Stop} {j k : ℕ} → TooDeep k R → j ≤ k → TooDeep j R
deep_sooner h le = record { left = h.left; stops = h.stops; enough = omega (arith, h.enough, le) }

pub deep_as : {A : Type 0} {R S : Result A Stop} {k : ℕ} → R ≡ S → TooDeep k S → TooDeep k R
deep_as e h = record { left = h.left; stops = e ∙ h.stops; enough = h.enough }

-- one parser after another
pub bound : {A B : Type 0} {R : Result (A × List Lexeme) Stop} {d m n : ℕ} {a : A} {b : B} {ts r : List Lexeme}
    (f : A × List Lexeme → Result (B × List Lexeme) Stop) → Limited R d m a ts → length r ≤ length ts → Limited (f (a, ts)) d n b r
    → Limited (R >>= f) d (max m n) b r
bound {d} {m} f p short q = record {
  within = λ h. rw (p.within (omega arith)) (q.within (omega arith));
  beyond = λ h. elim (cases_lt d m) [
    | inl lt ↦ deep_sooner (deep_before f (p.beyond lt)) (omega (arith, short))
    | inr le ↦ rw (p.within le) (q.beyond (omega arith))
  ];
}

-- what follows nests no deeper
pub then : {A B : Type 0} {R : Result (A × List Lexeme) Stop} {d m : ℕ} {a : A} {b : B} {ts r : List Lexeme}
    (f : A × List Lexeme → Result (B × List Lexeme) Stop) → Limited R d m a ts → length r ≤ length ts → f (a, ts) ≡ Ok (b, r)
    → Limited (R >>= f) d m b r
then f p short q = record {
  within = λ h. rw (p.within h) q;
  beyond = λ h. deep_sooner (deep_before f (p.beyond h)) (omega (arith, short));
}

pub at_once : {A : Type 0} {R : Result (A × List Lexeme) Stop} {d : ℕ} {a : A} {r : List Lexeme} → R ≡ Ok (a, r)
    → Limited R d 0 a r
at_once e = record { within = λ h. e; beyond = λ h. absurd (omega arith) }

pub same : {A : Type 0} {R S : Result (A × List Lexeme) Stop} {d n : ℕ} {a : A} {r : List Lexeme} → R ≡ S
    → Limited S d n a r → Limited R d n a r
same e p = record { within = λ h. e ∙ p.within h; beyond = λ h. deep_as e (p.beyond h) }

-- one nesting further in
inside : {n : ℕ} {e : ExpressionTree} {r : List Lexeme} (p : (ℕ → Parse ExpressionTree)) (l : Level) (left : ℕ)
    (ts : List Lexeme) (d : ℕ) → length r < left → ((k : ℕ) → nested (suc k) l left ts ≡ p k ts)
    → ((k : ℕ) → Limited (p k ts) k n e r) → Limited (nested d l left ts) d (suc n) e r
unfolding nested
inside p l left ts zero short same h =
    record { within = λ le. absurd (omega arith); beyond = λ lt. record { left = left; stops = refl; enough = short } }
inside p l left ts (suc d) short same h = record {
  within = λ le. same d ∙ (h d).within (omega arith);
  beyond = λ lt. deep_as (same d) ((h d).beyond (omega arith));
}

pub in_whole : {n : ℕ} {e : ExpressionTree} {r : List Lexeme} (left : ℕ) (ts : List Lexeme) (d : ℕ)
    → length r < left → ((k : ℕ) → Limited (expression (nested k) ts) k n e r) → Limited (nested d whole left ts) d (suc n) e r
unfolding nested
in_whole left ts d short h = inside (λ k. expression (nested k)) whole left ts d short (λ k. refl) h

pub in_negation : {n : ℕ} {e : ExpressionTree} {r : List Lexeme} (left : ℕ) (ts : List Lexeme) (d : ℕ)
    → length r < left → ((k : ℕ) → Limited (logical_operand (nested k) ts) k n e r) → Limited (nested d negation left ts) d (suc n) e r
unfolding nested
in_negation left ts d short h = inside (λ k. logical_operand (nested k)) negation left ts d short (λ k. refl) h

pub in_complement : {n : ℕ} {e : ExpressionTree} {r : List Lexeme} (left : ℕ) (ts : List Lexeme) (d : ℕ)
    → length r < left → ((k : ℕ) → Limited (factor (nested k) ts) k n e r) → Limited (nested d complement left ts) d (suc n) e r
unfolding nested
in_complement left ts d short h = inside (λ k. factor (nested k)) complement left ts d short (λ k. refl) h

pub in_prefix : {n : ℕ} {e : ExpressionTree} {r : List Lexeme} (left : ℕ) (ts : List Lexeme) (d : ℕ)
    → length r < left → ((k : ℕ) → Limited (unary (nested k) ts) k n e r) → Limited (nested d prefix left ts) d (suc n) e r
unfolding nested
in_prefix left ts d short h = inside (λ k. unary (nested k)) prefix left ts d short (λ k. refl) h

pub in_operand : {n : ℕ} {e : ExpressionTree} {r : List Lexeme} (left : ℕ) (ts : List Lexeme) (d : ℕ)
    → length r < left → ((k : ℕ) → Limited (primary (nested k) ts) k n e r) → Limited (nested d operand left ts) d (suc n) e r
unfolding nested
in_operand left ts d short h = inside (λ k. primary (nested k)) operand left ts d short (λ k. refl) h

pub in_arguments : {n : ℕ} {e : ExpressionTree} {r : List Lexeme} (f : NameTree) (left : ℕ) (ts : List Lexeme) (d : ℕ)
    → length r < left → ((k : ℕ) → Limited (rest_of_call (nested k) f ts) k n e r) → Limited (nested d (arguments f) left ts) d (suc n) e r
unfolding nested
in_arguments f left ts d short h = inside (λ k. rest_of_call (nested k) f) (arguments f) left ts d short (λ k. refl) h

-- ---- chains

-- after e the chain goes on at m
pub record Chained (ops : Lexeme → Option Binary) (p : Parse ExpressionTree)
    (R : Result (ExpressionTree × List Lexeme) Stop) (d n : ℕ) (e : ExpressionTree) (m : List Lexeme) : Type 0 where
  pub turns : ℕ
  pub enough : length m ≤ turns
  pub within : n ≤ d → R ≡ chain ops p turns e m
  pub beyond : d < n → TooDeep (suc (length m)) R

module _ (ops : Lexeme → Option Binary) (p : Parse ExpressionTree) where
  step_ok : (j : ℕ) (a b : ExpressionTree) (t : Lexeme) (m r : List Lexeme) (op : Binary) → 0 < j → ops t ≡ Some op
      → p m ≡ Ok (b, r) → chain ops p j a (t ∷ m) ≡ chain ops p (j - 1) (binary op a b) r
  unfolding chain
  step_ok zero a b t m r op lt o h = absurd (omega arith)
  step_ok (suc j) a b t m r op lt o h = let k : suc j - 1 ≡ j = omega arith in rw (o, h, k) refl

  step_err : (j : ℕ) (a : ExpressionTree) (t : Lexeme) (m : List Lexeme) (op : Binary) (f : Stop) → 0 < j
      → ops t ≡ Some op → p m ≡ Err f → chain ops p j a (t ∷ m) ≡ Err f
  unfolding chain
  step_err zero a t m op f lt o h = absurd (omega arith)
  step_err (suc j) a t m op f lt o h = rw (o, h) refl

  pub begins : {d n : ℕ} {e : ExpressionTree} {m : List Lexeme} (ts : List Lexeme) → Limited (p ts) d n e m
      → Chained ops p (p ts >>= λ x. chain ops p (length x.1) x.0 x.1) d n e m
  begins {m = m} ts h = record {
    turns = length m;
    enough = omega arith;
    within = λ le. rw (h.within le) refl;
    beyond = λ lt. deep_before _ (h.beyond lt);
  }

pub goes_on : {ops : Lexeme → Option Binary} {p : Parse ExpressionTree} {R : Result (ExpressionTree × List Lexeme)
    Stop} {d n k : ℕ} {a b : ExpressionTree} {t : Lexeme} {m r : List Lexeme} {op : Binary}
    → Chained ops p R d n a (t ∷ m) → ops t ≡ Some op → Limited (p m) d k b r → length r < length m
    → Chained ops p R d (max n k) (binary op a b) r
goes_on {ops} {p} {R} {d} {n} {k} {a} {b} {t} {m} {r} {op} c o q lt = record {
  turns = c.turns - 1;
  enough = omega (arith, c.enough);
  within = λ le. c.within (omega arith) ∙ step_ok ops p c.turns a b t m r op (omega (arith, c.enough)) o
      (q.within (omega arith));
  beyond = λ gt. elim (cases_lt d n) [
    | inl less ↦ deep_sooner (c.beyond less) (omega (arith, lt))
    | inr le ↦ (
        let far = q.beyond (omega arith) in
        record {
          left = far.left;
          stops = c.within le ∙ step_err ops p c.turns a t m op (deep far.left) (omega (arith, c.enough)) o far.stops;
          enough = far.enough;
        })
  ];
}

pub stops : {ops : Lexeme → Option Binary} {p : Parse ExpressionTree} {R : Result (ExpressionTree × List Lexeme)
    Stop} {d n : ℕ} {e : ExpressionTree} {r : List Lexeme} → Chained ops p R d n e r → ops (head r) ≡ None
    → Limited R d n e r
stops {ops} {p} {R} {d} {n} {e} {r} c o = record {
  within = λ le. c.within le ∙ chain_stop ops p c.turns e r o;
  beyond = c.beyond;
}

-- ---- lists

-- the items xs are read from ts on, and then r is left
pub record Listed {A : Type 0} (sep : Lexeme → Bool) (item : Parse A) (d n : ℕ) (ts : List Lexeme) (xs : List A)
    (r : List Lexeme) : Type 0 where
  pub first : A
  pub others : List A
  pub rest : List Lexeme
  pub own : ℕ
  pub theirs : ℕ
  pub is : xs ≡ first ∷ others
  pub deepest : n ≡ max own theirs
  pub shorter : length rest < length ts
  pub last : length r ≤ length rest
  pub at_first : Limited (item ts) d own first rest
  pub at_others : (turns : ℕ) → length rest ≤ turns → Limited (further sep item turns rest) d theirs others r

module _ {A : Type 0} (sep : Lexeme → Bool) (item : Parse A) (d : ℕ) where
  no_others : (r : List Lexeme) → sep (head r) ≡ false → (turns : ℕ) → Limited (further sep item turns r) d 0 [] r
  unfolding further
  no_others r e zero = at_once refl
  no_others r e (suc n) = at_once (rw e refl)

  some_others : {n k : ℕ} {a : A} {others : List A} {rest r : List Lexeme} (t : Lexeme) (m : List Lexeme) (turns : ℕ)
      → sep t ≡ true → Limited (item m) d n a rest → length r ≤ length rest
      → Limited (further sep item turns rest) d k others r
      → Limited (further sep item (suc turns) (t ∷ m)) d (max n k) (a ∷ others) r
  unfolding further
  some_others t m turns e p short q = same {S = item m >>= λ x. further sep item turns x.1 >>= λ y. Ok (x.0 ∷ y.0, y.1)}
      (rw e refl) (bound _ p short (then _ q (omega arith) refl))

  pub listed_last : {n : ℕ} {a : A} {r : List Lexeme} (ts : List Lexeme) → Limited (item ts) d n a r
      → length r < length ts → sep (head r) ≡ false → Listed sep item d (max n 0) ts (a ∷ []) r
  listed_last {n} {a} {r} ts p lt e = record {
    first = a;
    others = [];
    rest = r;
    own = n;
    theirs = 0;
    is = refl;
    deepest = refl;
    shorter = lt;
    last = omega arith;
    at_first = p;
    at_others = λ turns le. no_others r e turns;
  }

  pub listed_next : {n k : ℕ} {a : A} {xs : List A} {m r : List Lexeme} (ts : List Lexeme) (t : Lexeme)
      → Limited (item ts) d n a (t ∷ m) → length (t ∷ m) < length ts → sep t ≡ true → Listed sep item d k m xs r
      → Listed sep item d (max n k) ts (a ∷ xs) r
  listed_next {n} {k} {a} {xs} {m} {r} ts t p lt e l = record {
    first = a;
    others = xs;
    rest = t ∷ m;
    own = n;
    theirs = k;
    is = refl;
    deepest = refl;
    shorter = lt;
    last = omega (arith, l.shorter, l.last);
    at_first = p;
    at_others = λ turns le. go turns le;
  }
    where
      go : (turns : ℕ) → length (t ∷ m) ≤ turns → Limited (further sep item turns (t ∷ m)) d k xs r
      go zero le = absurd (omega arith)
      go (suc turns) le = rw (l.is, l.deepest)
          (some_others t m turns e l.at_first l.last (l.at_others turns (omega (arith, l.shorter))))

  pub listed_all : {n : ℕ} {xs : List A} {r : List Lexeme} (ts : List Lexeme) → Listed sep item d n ts xs r
      → Limited (list sep item ts) d n xs r
  unfolding list
  listed_all ts l = rw (l.is, l.deepest)
      (bound _ l.at_first l.last (then _ (l.at_others (length l.rest) (omega arith)) (omega arith) refl))
