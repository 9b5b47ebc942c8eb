-- The loops over items and statements, a turn at a time: what was read so far, and what is still to come.
use Rattle.std.proofs.Common.{◌≡◌, ℕ, zero, suc, ◌+◌, ◌-◌, ◌<◌, ◌≤◌, Bool, true, false, List, [], ◌∷◌, ◌++◌, Result, Ok}
use Rattle.std.proofs.Common.{Err, refl, sym, ap, ◌∙◌, arith}
use Rattle.std.specs.Prelude.{map, length}
use Rattle.syntax_lexer.specs.declared.token.Token.{Token}
use Rattle.syntax_lexer.specs.Token.{Lexeme, lexemes}
use Rattle.syntax_trees.specs.Stop.{Stop, stop_of}
use Rattle.syntax_trees.specs.declared.error.ParseError.{ParseError}
use Rattle.syntax_trees.specs.declared.error.ParseError.TheVariants as errors
use Rattle.syntax_trees.specs.Parse.{◌>>=◌, Fails, Parse, head, tail, further, list, as_long, repeated}

abbrev pub joined : {A : Type 0} → List A → Result (List A × List Lexeme) Stop → Result (List A × List Lexeme) Stop
joined front r = r >>= λ x. Ok (front ++ x.0, x.1)

pub joined_none : {A : Type 0} (r : Result (List A × List Lexeme) Stop) → joined [] r ≡ r
joined_none (Ok x) = refl
joined_none (Err f) = refl

append_none : {A : Type 0} (xs : List A) → xs ++ [] ≡ xs
append_none [] = refl
append_none (x ∷ xs) = ap (λ ys. x ∷ ys) (append_none xs)

map_push : {X A : Type 0} (view : X → A) (xs : List X) (x : X) (rest : List A)
    → map view xs ++ (view x ∷ rest) ≡ map view (xs ++ x ∷ []) ++ rest
map_push view [] x rest = refl
map_push view (y ∷ xs) x rest = ap (λ ys. view y ∷ ys) (map_push view xs x rest)

joined_more : {X A : Type 0} (view : X → A) (front : List X) (x : X) (r : Result (List A × List Lexeme) Stop)
    → joined (map view front) (r >>= λ y. Ok (view x ∷ y.0, y.1)) ≡ joined (map view (front ++ x ∷ [])) r
joined_more view front x (Ok y) = ap (λ z. Ok (z, y.1)) (map_push view front x y.0)
joined_more view front x (Err f) = refl

joined_last : {A : Type 0} (front : List A) (ts : List Lexeme) → joined front (Ok ([], ts)) ≡ Ok (front, ts)
joined_last front ts = ap (λ z. Ok (z, ts)) (append_none front)

module _ {X A : Type 0} (view : X → A) (begins : List Lexeme → Bool) (p : Parse A) where
  pub as_long_out : (n i : ℕ) (front : List X) (ts : List Lexeme) → n ≤ i
      → joined (map view front) (as_long begins p (n - i) ts) ≡ Ok (map view front, ts)
  unfolding as_long
  as_long_out n i front ts le = let k : n - i ≡ 0 = omega arith in rw k (joined_last (map view front) ts)

  pub as_long_done : (n : ℕ) (front : List X) (ts : List Lexeme) → begins ts ≡ false
      → joined (map view front) (as_long begins p n ts) ≡ Ok (map view front, ts)
  unfolding as_long
  as_long_done zero front ts e = joined_last (map view front) ts
  as_long_done (suc n) front ts e = rw e (joined_last (map view front) ts)

  pub as_long_more : (n i : ℕ) (front : List X) (ts : List Lexeme) (x : X) (r : List Lexeme) → i < n
      → begins ts ≡ true → p ts ≡ Ok (view x, r)
      → joined (map view front) (as_long begins p (n - i) ts)
      ≡ joined (map view (front ++ x ∷ [])) (as_long begins p (n - (i + 1)) r)
  unfolding as_long
  as_long_more n i front ts x r lt e h = let k : n - i ≡ suc (n - (i + 1)) = omega arith in
      rw (k, e, h) (joined_more view front x (as_long begins p (n - (i + 1)) r))

  pub as_long_fails : (e : ParseError) (n i : ℕ) (front : List X) (ts : List Lexeme)
      (total : Result (List A × List Lexeme) Stop) → i < n → begins ts ≡ true → Fails e (p ts)
      → joined (map view front) (as_long begins p (n - i) ts) ≡ total → Fails e total
  unfolding as_long
  as_long_fails errors.Memory n i front ts total lt c h so_far = tt
  as_long_fails (errors.Fault f count) n i front ts total lt c h so_far =
      let k : n - i ≡ suc (n - (i + 1)) = omega arith in
      let one : joined (map view front) (as_long begins p (n - i) ts) ≡ Err (stop_of f count) = rw (k, c, h) refl in
      sym so_far ∙ one

module _ {X A : Type 0} (view : X → A) (begins : Lexeme → Bool) (p : Parse A) where
  pub repeated_out : (n i : ℕ) (front : List X) (ts : List Lexeme) → n ≤ i
      → joined (map view front) (repeated begins p (n - i) ts) ≡ Ok (map view front, ts)
  unfolding repeated
  repeated_out n i front ts le = as_long_out view (λ us. begins (head us)) p n i front ts le

  pub repeated_done : (n : ℕ) (front : List X) (ts : List Lexeme) → begins (head ts) ≡ false
      → joined (map view front) (repeated begins p n ts) ≡ Ok (map view front, ts)
  unfolding repeated
  repeated_done n front ts e = as_long_done view (λ us. begins (head us)) p n front ts e

  pub repeated_more : (n i : ℕ) (front : List X) (ts : List Lexeme) (x : X) (r : List Lexeme) → i < n
      → begins (head ts) ≡ true → p ts ≡ Ok (view x, r)
      → joined (map view front) (repeated begins p (n - i) ts)
      ≡ joined (map view (front ++ x ∷ [])) (repeated begins p (n - (i + 1)) r)
  unfolding repeated
  repeated_more n i front ts x r lt e h = as_long_more view (λ us. begins (head us)) p n i front ts x r lt e h

  pub repeated_fails : (e : ParseError) (n i : ℕ) (front : List X) (ts : List Lexeme)
      (total : Result (List A × List Lexeme) Stop) → i < n → begins (head ts) ≡ true → Fails e (p ts)
      → joined (map view front) (repeated begins p (n - i) ts) ≡ total → Fails e total
  unfolding repeated
  repeated_fails e n i front ts total lt c h so_far = as_long_fails view (λ us. begins (head us)) p e n i front ts
      total lt c h so_far

  pub further_out : (n i : ℕ) (front : List X) (ts : List Lexeme) → n ≤ i
      → joined (map view front) (further begins p (n - i) ts) ≡ Ok (map view front, ts)
  unfolding further
  further_out n i front ts le = let k : n - i ≡ 0 = omega arith in rw k (joined_last (map view front) ts)

  pub further_done : (n : ℕ) (front : List X) (ts : List Lexeme) → begins (head ts) ≡ false
      → joined (map view front) (further begins p n ts) ≡ Ok (map view front, ts)
  unfolding further
  further_done zero front ts e = joined_last (map view front) ts
  further_done (suc n) front ts e = rw e (joined_last (map view front) ts)

  pub further_more : (n i : ℕ) (front : List X) (ts : List Lexeme) (x : X) (r : List Lexeme) → i < n
      → begins (head ts) ≡ true → p (tail ts) ≡ Ok (view x, r)
      → joined (map view front) (further begins p (n - i) ts)
      ≡ joined (map view (front ++ x ∷ [])) (further begins p (n - (i + 1)) r)
  unfolding further
  further_more n i front ts x r lt e h = let k : n - i ≡ suc (n - (i + 1)) = omega arith in
      rw (k, e, h) (joined_more view front x (further begins p (n - (i + 1)) r))

  pub further_fails : (e : ParseError) (n i : ℕ) (front : List X) (ts : List Lexeme)
      (total : Result (List A × List Lexeme) Stop) → i < n → begins (head ts) ≡ true → Fails e (p (tail ts))
      → joined (map view front) (further begins p (n - i) ts) ≡ total → Fails e total
  unfolding further
  further_fails errors.Memory n i front ts total lt c h so_far = tt
  further_fails (errors.Fault f count) n i front ts total lt c h so_far =
      let k : n - i ≡ suc (n - (i + 1)) = omega arith in
      let one : joined (map view front) (further begins p (n - i) ts) ≡ Err (stop_of f count) = rw (k, c, h) refl in
      sym so_far ∙ one

-- ---- the first item of a list

count : (ts : List Token) → length (lexemes ts) ≡ length ts
count [] = refl
count (t ∷ ts) = ap suc (count ts)

module _ {X A : Type 0} (view : X → A) (separates : Lexeme → Bool) (p : Parse A) where
  pub list_fails : (e : ParseError) (ts : List Lexeme) → Fails e (p ts) → Fails e (list separates p ts)
  unfolding list
  list_fails errors.Memory ts h = tt
  list_fails (errors.Fault f count) ts h = rw h refl

  pub list_begins : (ts : List Lexeme) (us : List Token) (x : X) → p ts ≡ Ok (view x, lexemes us)
      → joined (map view (x ∷ [])) (further separates p (length us - 0) (lexemes us)) ≡ list separates p ts
  unfolding list
  list_begins ts us x h =
      let all : length us - 0 ≡ length (lexemes us) = omega (arith, count us) in
      rw (all, h) refl
