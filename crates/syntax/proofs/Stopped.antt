-- Where the machine stops, it has not seen what comes later: it goes on from there with any tokens in their place.
use Rattle.std.proofs.Common.{◌≡◌, ℕ, Bool, true, false, cond, List, [], ◌∷◌, ◌++◌, length, Option, Some, None, refl}
use Rattle.std.proofs.Common.{sym, ap, ◌∙◌}
use Rattle.syntax_lexer.specs.declared.token.Position.{Position}
use Rattle.syntax_lexer.specs.Token.{Lexeme, end}
use Rattle.syntax.proofs.Frames.{Frame, last, Stack}
use Rattle.syntax.proofs.Machine.{on, stays_away, effect, shift, accepts, go_on, stop}
use Rattle.syntax.proofs.Machine.{Refuses}
use Rattle.syntax.proofs.StackWords.{Place, lends, Fits}
use Rattle.syntax.proofs.Kept.{kept}

-- The tokens before the place and from there on, so many, and the stack there, which refuses them.
pub record Stopped (k : Stack) (ts : List Lexeme) (left : ℕ) : Type 0 where
  pub front : List Lexeme
  pub rest : List Lexeme
  pub stack : Stack
  pub is : ts ≡ front ++ rest
  pub counts : length rest ≡ left
  pub fits : Fits false stack
  pub refuses : Refuses stack rest
  pub goes_on : (vs : List Lexeme) → stop false k (front ++ vs) ≡ stop false stack vs

jump : {A : Type 0} (x y : A) → Some x ≡ Some y → x ≡ y
jump x y e = cc

none_some : (j : Stack) → None ≡ Some j → j ≡ []
none_some j e = absurd cc

here : (k : Stack) (ts : List Lexeme) (n : ℕ) → Fits false k → Refuses k ts → length ts ≡ n → Stopped k ts n
here k ts n h refuses e =
    record {
      front = [];
      rest = ts;
      stack = k;
      is = refl;
      counts = e;
      fits = h;
      refuses = refuses;
      goes_on = λ vs. refl;
    }

one_more : (k j : Stack) (t : Lexeme) (ts : List Lexeme) (n : ℕ) → shift false k t ≡ Some j → Stopped j ts n
    → Stopped k (t ∷ ts) n
unfolding stop
one_more k j t ts n a w =
    record {
      front = t ∷ w.front;
      rest = w.rest;
      stack = w.stack;
      is = ap (λ us. t ∷ us) w.is;
      counts = w.counts;
      fits = w.fits;
      refuses = w.refuses;
      goes_on = λ vs. rw a (w.goes_on vs);
    }

pub stopped : (k : Stack) (ts : List Lexeme) (n : ℕ) → Fits false k → stop false k ts ≡ Some n → Stopped k ts n
unfolding stop
stopped k [] n h e = go (accepts false k) refl e
  where
    go : (b : Bool) → accepts false k ≡ b → cond b None (Some 0) ≡ Some n → Stopped k [] n
    go true a e = absurd cc
    go false a e = here k [] n h a (jump 0 n e)
stopped k (t ∷ ts) n h e = go (λ j. stopped j ts n) (shift false k t) refl e
  where
    go : ((j : Stack) → Fits false j → stop false j ts ≡ Some n → Stopped j ts n) → (o : Option Stack)
        → shift false k t ≡ o → go_on (λ j. stop false j ts) (length (t ∷ ts)) o ≡ Some n → Stopped k (t ∷ ts) n
    go again None a e = here k (t ∷ ts) n h a (jump (length (t ∷ ts)) n e)
    go again (Some j) a e = one_more k j t ts n a (again j (kept false false k j t a h) e)

-- ---- the end of a source

-- what a frame that takes no end makes of it
passed : (stays : Bool) (x other : Option Stack) (j : Stack) → x ≡ cond stays other None → x ≡ Some j
    → (other ≡ Some j → j ≡ []) → j ≡ []
passed true x other j a e again = again (sym a ∙ e)
passed false x other j a e again = none_some j (sym a ∙ e)

end_turn : (f : Frame) (c b : Bool) (p : Position) (k : Stack) (other : Option Stack) (j : Stack)
    → on f b (end p) k other ≡ Some j → Place c f k → (other ≡ Some j → j ≡ []) → j ≡ []
end_turn last c b p k other j e o again = sym (jump k j e) ∙ o
end_turn f c b p k other j e o again = passed (stays_away f b) (on f b (end p) k other) other j refl e again

-- nothing is to come after the end of a source
pub at_end : (c b : Bool) (k j : Stack) (p : Position) → Fits c k → shift b k (end p) ≡ Some j → j ≡ []
unfolding Fits shift
at_end c b [] j p h e = absurd cc
at_end c b (f ∷ k) j p h e = end_turn f c b p k (shift (effect f b) k (end p)) j e h.0
    (λ is. at_end (lends f) (effect f b) k j p h.1 is)
