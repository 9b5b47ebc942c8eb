-- The machine and a reading function go on together: where reading ends, the machine goes on with what is left, and
-- where reading finds a fault, it stops.
use Rattle.std.proofs.Common.{◌≡◌, ℕ, zero, suc, ◌≤◌, Bool, true, false, cond, List, [], ◌∷◌, length, Option, Some}
use Rattle.std.proofs.Common.{None, Result, Ok, Err, refl, sym, ◌∙◌, arith}
use Rattle.std.specs.Prelude.{if◌then◌else◌}
use Rattle.syntax_lexer.specs.declared.token.Sign.{Sign}
use Rattle.syntax_lexer.specs.declared.token.Word.{Word}
use Rattle.syntax_lexer.specs.Token.{Lexeme}
use Rattle.syntax_trees.specs.Stop.{Stop, unfit, deep}
use Rattle.syntax_trees.specs.Parse.{Parse, ◌>>=◌, head, tail, is_sign, is_word, expect, expect_word, further, list}
use Rattle.syntax_trees.specs.Parse.{as_long, repeated}
use Rattle.syntax.proofs.Frames.{Frame, token, word, set, Stack, given}
use Rattle.syntax.proofs.Machine.{shift, accepts, go_on, stop}

abbrev Held : {A : Type 0} → Option ℕ → (A → Bool) → Stack → List Lexeme → Result (A × List Lexeme) Stop → Type 0
Held x effect k ts (Ok r) = (x ≡ stop (effect r.0) k r.1) × (length r.1 ≤ length ts)
Held x effect k ts (Err (unfit n)) = x ≡ Some n
Held x effect k ts (Err (deep n)) = Unit {0}

-- Of x, what the machine answers: where R read something, the machine goes on with k and what is left, which is no
-- longer than ts, and with the effect of what was read; where R has no place for a token, it stops there. Of a token
-- that stands too deep nothing is said.
pub record Follows {A : Type 0} (x : Option ℕ) (effect : A → Bool) (k : Stack) (ts : List Lexeme)
    (R : Result (A × List Lexeme) Stop) : Type 0 where
  pub held : Held x effect k ts R

-- what is no expression has none
abbrev pub no_effect : {A : Type 0} → A → Bool
no_effect a = false

-- what the machine answers after a token
abbrev pub onward : List Lexeme → Option Stack → Option ℕ
onward m o = go_on (λ j. stop false j m) (suc (length m)) o

pub follows_read : {A : Type 0} {effect : A → Bool} {k : Stack} {ts : List Lexeme} {x : Option ℕ} (a : A)
    (r : List Lexeme) → x ≡ stop (effect a) k r → length r ≤ length ts → Follows x effect k ts (Ok (a, r))
follows_read a r e le = record { held = (e, le) }

pub follows_unfit : {A : Type 0} {effect : A → Bool} {k : Stack} {ts : List Lexeme} {x : Option ℕ} {n : ℕ}
    → x ≡ Some n → Follows x effect k ts (Err (unfit n))
follows_unfit e = record { held = e }

pub follows_deep : {A : Type 0} {effect : A → Bool} {k : Stack} {ts : List Lexeme} {x : Option ℕ} {n : ℕ}
    → Follows x effect k ts (Err (deep n))
follows_deep = record { held = tt }

-- the same of another answer that is the same, and of more tokens
pub follows_as : {A : Type 0} {effect : A → Bool} {k : Stack} {us ts : List Lexeme} {x y : Option ℕ}
    {R : Result (A × List Lexeme) Stop} → x ≡ y → length us ≤ length ts → Follows y effect k us R
    → Follows x effect k ts R
follows_as {R = Ok r} e le h = follows_read r.0 r.1 (e ∙ h.held.0) (omega (arith, h.held.1, le))
follows_as {R = Err (unfit n)} e le h = follows_unfit (e ∙ h.held)
follows_as {R = Err (deep n)} e le h = follows_deep

pub shorter : (ts : List Lexeme) → length (tail ts) ≤ length ts
shorter [] = omega arith
shorter (t ∷ m) = omega arith

-- the same of more tokens
pub longer : {A : Type 0} {e : A → Bool} {k : Stack} {x : Option ℕ} {R : Result (A × List Lexeme) Stop}
    (ts : List Lexeme) → Follows x e k (tail ts) R → Follows x e k ts R
longer ts h = follows_as {us = tail ts} refl (shorter ts) h

-- stacks that do the same with each token
pub stops_alike : (b c : Bool) (j k : Stack) → accepts b j ≡ accepts c k
    → ((t : Lexeme) → shift b j t ≡ shift c k t) → (ts : List Lexeme) → stop b j ts ≡ stop c k ts
unfolding stop
stops_alike b c j k at_end at_token [] = rw at_end refl
stops_alike b c j k at_end at_token (t ∷ m) = rw (at_token t) refl

-- one reading function after another
pub follows_then : {A B : Type 0} {e : A → Bool} {g : B → Bool} {j k : Stack} {ts : List Lexeme} {x : Option ℕ}
    {R : Result (A × List Lexeme) Stop} (f : A × List Lexeme → Result (B × List Lexeme) Stop) → Follows x e j ts R
    → ((a : A) (r : List Lexeme) → length r ≤ length ts → Follows (stop (e a) j r) g k r (f (a, r)))
    → Follows x g k ts (R >>= f)
follows_then {R = Ok r} f h next = follows_as h.held.0 h.held.1 (next r.0 r.1 h.held.1)
follows_then {R = Err (unfit n)} f h next = follows_unfit h.held
follows_then {R = Err (deep n)} f h next = follows_deep

-- the same of two that are read first
pub follows_twice : {A B C : Type 0} {e : A → Bool} {g : C → Bool} {j k : Stack} {ts : List Lexeme} {x : Option ℕ}
    {R : Result (A × List Lexeme) Stop} (f : A × List Lexeme → Result (B × List Lexeme) Stop)
    (h : B × List Lexeme → Result (C × List Lexeme) Stop) → Follows x e j ts R
    → ((a : A) (r : List Lexeme) → length r ≤ length ts → Follows (stop (e a) j r) g k r (f (a, r) >>= h))
    → Follows x g k ts ((R >>= f) >>= h)
follows_twice {R = Ok r} f h first next = follows_as first.held.0 first.held.1 (next r.0 r.1 first.held.1)
follows_twice {R = Err (unfit n)} f h first next = follows_unfit first.held
follows_twice {R = Err (deep n)} f h first next = follows_deep

-- by a test
pub follows_by : {A : Type 0} {effect : A → Bool} {k : Stack} {ts : List Lexeme} {C : Type 0} {o p : C}
    (F : C → Option ℕ) (b : Bool) (X Y : Result (A × List Lexeme) Stop)
    → (b ≡ true → Follows (F o) effect k ts X) → (b ≡ false → Follows (F p) effect k ts Y)
    → Follows (F (cond b o p)) effect k ts (cond b X Y)
follows_by F true X Y on off = on refl
follows_by F false X Y on off = off refl

-- by a table
pub follows_given : {A D : Type 0} {effect : A → Bool} {k : Stack} {ts : List Lexeme} {C : Type 0} {o p : C}
    (F : C → Option ℕ) (d : Option D) (X : Option D → Result (A × List Lexeme) Stop)
    → ((a : D) → d ≡ Some a → Follows (F o) effect k ts (X (Some a)))
    → (d ≡ None → Follows (F p) effect k ts (X None)) → Follows (F (given d o p)) effect k ts (X d)
follows_given F (Some a) X on off = on a refl
follows_given F None X on off = off refl

-- by a test that the machine does not make
pub follows_if : {A : Type 0} {effect : A → Bool} {k : Stack} {ts : List Lexeme} {x : Option ℕ} (b : Bool)
    (X Y : Result (A × List Lexeme) Stop) → (b ≡ true → Follows x effect k ts X) → (b ≡ false → Follows x effect k ts Y)
    → Follows x effect k ts (cond b X Y)
follows_if true X Y on off = on refl
follows_if false X Y on off = off refl

-- the bit is set after it
pub set_goes : (b v : Bool) (k : Stack) (ts : List Lexeme) → stop b (set v ∷ k) ts ≡ stop v k ts
unfolding stop shift accepts
set_goes b v k [] = refl
set_goes b v k (t ∷ m) = refl

pub follows_set : {A : Type 0} {e : A → Bool} {k : Stack} {ts : List Lexeme} {x : Option ℕ} {v : Bool}
    {R : Result (A × List Lexeme) Stop} → Follows x e (set v ∷ k) ts R → Follows x (λ a. v) k ts R
unfolding stop shift accepts
follows_set {R = Ok (a, [])} h = follows_read a [] h.held.0 h.held.1
follows_set {R = Ok (a, t ∷ m)} h = follows_read a (t ∷ m) h.held.0 h.held.1
follows_set {R = Err (unfit n)} h = follows_unfit h.held
follows_set {R = Err (deep n)} h = follows_deep

-- a tree is made of what was read
pub follows_made : {A B : Type 0} {e : A → Bool} {g : B → Bool} {k : Stack} {ts : List Lexeme} {x : Option ℕ}
    {R : Result (A × List Lexeme) Stop} (v : Bool) (make : A → B) → ((a : A) → v ≡ g (make a))
    → Follows x e (set v ∷ k) ts R → Follows x g k ts (R >>= λ y. Ok (make y.0, y.1))
follows_made {A} {B} {e} {g} {k} v make same h = follows_then _ h
    (λ a r le. follows_read (make a) r (set_goes (e a) v k r ∙ rw (sym (same a)) refl) (omega arith))

-- ---- tokens

-- a sign is taken whatever was read before it
pub blind : (c : Sign) (b : Bool) (k : Stack) (ts : List Lexeme) → stop b (token c ∷ k) ts ≡ stop false (token c ∷ k) ts
unfolding stop shift accepts
blind c b k [] = refl
blind c b k (t ∷ m) = refl

-- after a sign that must come
pub follows_expect : {A : Type 0} {e : A → Bool} {k : Stack} (c : Sign) (b : Bool) (j : Stack) (ts : List Lexeme)
    (f : List Lexeme → Result (A × List Lexeme) Stop)
    → ((r : List Lexeme) → length r ≤ length (tail ts) → Follows (stop false j r) e k r (f r))
    → Follows (stop b (token c ∷ j) ts) e k (tail ts) (expect c ts >>= f)
unfolding stop shift accepts expect
follows_expect {A} {e} {k} c b j [] f next = follows_unfit refl
follows_expect {A} {e} {k} c b j (t ∷ m) f next = go (is_sign c t)
  where
    go : (d : Bool) → Follows (onward m (cond d (Some j) None)) e k m
        (cond d (Ok m) (Err (unfit (suc (length m)))) >>= f)
    go true = next m (omega arith)
    go false = follows_unfit refl

-- the same of all tokens, and after a word
pub past : {A : Type 0} {e : A → Bool} {k : Stack} (c : Sign) (b : Bool) (j : Stack) (ts : List Lexeme)
    (f : List Lexeme → Result (A × List Lexeme) Stop) → ((r : List Lexeme) → Follows (stop false j r) e k r (f r))
    → Follows (stop b (token c ∷ j) ts) e k ts (expect c ts >>= f)
past c b j ts f next = longer ts (follows_expect c b j ts f (λ r h. next r))

pub past_word : {A : Type 0} {e : A → Bool} {k : Stack} (w : Word) (b : Bool) (j : Stack) (ts : List Lexeme)
    (f : List Lexeme → Result (A × List Lexeme) Stop) → ((r : List Lexeme) → Follows (stop false j r) e k r (f r))
    → Follows (stop b (word w ∷ j) ts) e k ts (expect_word w ts >>= f)
unfolding stop shift accepts expect_word
past_word w b j [] f next = follows_unfit refl
past_word {A} {e} {k} w b j (t ∷ m) f next = go (is_word w t)
  where
    go : (d : Bool) → Follows (onward m (cond d (Some j) None)) e k (t ∷ m)
        (cond d (Ok m) (Err (unfit (suc (length m)))) >>= f)
    go true = follows_as {us = m} refl (omega arith) (next m)
    go false = follows_unfit refl

-- ---- lists and loops

-- Items as long as the tokens begin one, with j on the stack where one more may come, i where one comes, and k after
-- them.
module _ {A : Type 0} (item : Parse A) (begins : List Lexeme → Bool) (i j k : Stack)
    (reads : (ts : List Lexeme) → Follows (stop false i ts) no_effect j (tail ts) (item ts))
    (splits : (ts : List Lexeme) → stop false j ts ≡ (if begins ts then stop false i ts else stop false k ts))
    (never : begins [] ≡ false) where
  ends_first : stop false j [] ≡ stop false k []
  ends_first = splits [] ∙ rw never refl

  pub as_long_follow : (n : ℕ) (ts : List Lexeme) → length ts ≤ n
      → Follows (stop false j ts) no_effect k ts (as_long begins item n ts)
  unfolding as_long
  as_long_follow zero [] le = follows_read [] [] ends_first (omega arith)
  as_long_follow zero (t ∷ m) le = absurd (omega (arith, le))
  as_long_follow (suc n) [] le = rw never (follows_read [] [] ends_first (omega arith))
  as_long_follow (suc n) (t ∷ m) le = follows_as (splits (t ∷ m)) (omega arith)
      (follows_by (λ x. x) (begins (t ∷ m)) _ _
      (λ is. follows_as {us = m} refl (omega arith)
      (follows_then _ (reads (t ∷ m))
      (λ a r h. follows_then _ (as_long_follow n r (omega (arith, le, h)))
      (λ ys u g. follows_read (a ∷ ys) u refl (omega arith)))))
      (λ is. follows_read {ts = t ∷ m} [] (t ∷ m) refl (omega arith)))

-- as long as the next token begins one
module _ {A : Type 0} (item : Parse A) (begins : Lexeme → Bool) (i j k : Stack)
    (reads : (ts : List Lexeme) → Follows (stop false i ts) no_effect j (tail ts) (item ts))
    (splits : (ts : List Lexeme) → stop false j ts ≡ (if begins (head ts) then stop false i ts else stop false k ts))
    (never : begins (head []) ≡ false) where
  pub repeated_follow : (n : ℕ) (ts : List Lexeme) → length ts ≤ n
      → Follows (stop false j ts) no_effect k ts (repeated begins item n ts)
  unfolding repeated
  repeated_follow n ts le = as_long_follow item (λ us. begins (head us)) i j k reads splits never n ts le

-- items with separators between them
module _ {A : Type 0} (item : Parse A) (first : Stack → Stack) (more : Frame)
    (reads : (k : Stack) (ts : List Lexeme) → Follows (stop false (first k) ts) no_effect k (tail ts) (item ts))
    (separates : Lexeme → Bool)
    (step : (k : Stack) (t : Lexeme)
    → shift false (more ∷ k) t ≡ (if separates t then Some (first (more ∷ k)) else shift false k t))
    (ends : (k : Stack) → accepts false (more ∷ k) ≡ accepts false k) (never : separates (head []) ≡ false) where
  -- {separator item}
  pub further_follow : (n : ℕ) (k : Stack) (ts : List Lexeme) → length ts ≤ n
      → Follows (stop false (more ∷ k) ts) no_effect k ts (further separates item n ts)
  unfolding stop further
  further_follow zero k [] le = rw (ends k) (follows_read [] [] refl (omega arith))
  further_follow zero k (t ∷ m) le = absurd (omega (arith, le))
  further_follow (suc n) k [] le = rw (ends k, never) (follows_read [] [] refl (omega arith))
  further_follow (suc n) k (t ∷ m) le = rw (step k t)
      (follows_by (onward m) (separates t) _ _
      (λ is. follows_as {us = m} refl (omega arith)
      (follows_then _ (follows_as refl (shorter m) (reads (more ∷ k) m))
      (λ a r h. follows_then _ (further_follow n k r (omega (arith, le, h)))
      (λ ys u g. follows_read (a ∷ ys) u refl (omega arith)))))
      (λ is. follows_read [] (t ∷ m) refl (omega arith)))

  -- item {separator item}
  pub list_follows : (k : Stack) (ts : List Lexeme)
      → Follows (stop false (first (more ∷ k)) ts) no_effect k (tail ts) (list separates item ts)
  unfolding list
  list_follows k ts = follows_then _ (reads (more ∷ k) ts)
      (λ a r h. follows_then _ (further_follow (length r) k r (omega arith))
      (λ ys s g. follows_read (a ∷ ys) s refl (omega arith)))
