-- What stands in parentheses after the words of statements: conditions, the parts of a `for`, and what an
-- `objectloop` goes over.
use Rattle.std.proofs.Common.{ℕ, zero, suc, Bool, true, false, cond, List, [], ◌∷◌, length, Some, None}
use Rattle.std.proofs.Common.{Result, Ok, Err, refl, arith}
use Rattle.std.specs.Prelude.{if◌then◌else◌}
use Rattle.syntax_lexer.specs.declared.token.Sign.{Sign}
use Rattle.syntax_lexer.specs.declared.token.Sign.TheVariants as s
use Rattle.syntax_lexer.specs.Token.{Lexeme, name}
use Rattle.syntax_trees.specs.Stop.{Stop, unfit}
use Rattle.syntax_trees.specs.Parse.{◌>>=◌, tail, is_sign}
use Rattle.syntax_expressions.specs.PartParse.{expect_name}
use Rattle.syntax_expressions.specs.Parse.{nested, expression}
use Rattle.syntax_statements.specs.PartGrammar.{has_effect, effect_or_none}
use Rattle.syntax_statements.specs.PartParse.{enclosed_condition, optional, optional_effect, heading, heading_in}
use Rattle.syntax_statements.specs.PartParse.{enclosed_heading, looped, looped_in, enclosed_loop}
use Rattle.syntax.proofs.Frames.{Stack, token, need}
use Rattle.syntax.proofs.Machine.{shift, accepts, stop}
use Rattle.syntax.proofs.Frames as frame
use Rattle.syntax.proofs.After.{Follows, no_effect, onward, follows_read, follows_unfit, follows_deep}
use Rattle.syntax.proofs.After.{follows_as}
use Rattle.syntax.proofs.After.{follows_then, follows_by, follows_expect}
use Rattle.syntax.proofs.After.{blind, longer, past}
use Rattle.syntax.proofs.Expressions.{expression_follows, condition_follows, whole_follows}

-- ---- conditions

pub enclosed_follows : (d : ℕ) (b : Bool) (k : Stack) (ts : List Lexeme)
    → Follows (stop b (frame.enclosed k) ts) no_effect k (tail ts) (enclosed_condition d ts)
unfolding enclosed_condition
enclosed_follows d b k ts = follows_expect s.OpenParenthesis b _ ts _
    (λ r h. longer r (follows_then _ (whole_follows d _ false _ r)
    (λ c u g. past s.CloseParenthesis (has_effect c) k u _ (λ v. follows_read c v refl (omega arith)))))

-- ---- the parts of a `for`

-- an expression that must have an effect, before a sign
pub need_follows : {A : Type 0} {e : A → Bool} {j : Stack} (b : Bool) (c : Sign) (k : Stack) (ts : List Lexeme)
    (R : Result (A × List Lexeme) Stop) → Follows (stop false (token c ∷ k) ts) e j ts R
    → Follows (stop b (need ∷ token c ∷ k) ts) e j ts (cond b R (Err (unfit (length ts))))
unfolding stop shift accepts
need_follows true c k [] R h = follows_as refl (omega arith) h
need_follows true c k (t ∷ m) R h = follows_as refl (omega arith) h
need_follows false c k [] R h = follows_unfit refl
need_follows false c k (t ∷ m) R h = follows_unfit refl

optional_follows : (d : ℕ) (c : Sign) (k : Stack) (ts : List Lexeme)
    → Follows (stop false (frame.optional c ∷ token c ∷ k) ts) no_effect (token c ∷ k) ts (optional d c ts)
unfolding stop shift accepts optional
optional_follows d c k [] = follows_then _ (longer [] (expression_follows d false (token c ∷ k) []))
    (λ e r h. follows_read (Some e) r (blind c (has_effect e) k r) (omega arith))
optional_follows d c k (t ∷ m) = follows_by (onward m) (is_sign c t) _ _
    (λ e. follows_read None (t ∷ m) refl (omega arith))
    (λ e. follows_then _ (longer (t ∷ m) (expression_follows d false (token c ∷ k) (t ∷ m)))
    (λ e r h. follows_read (Some e) r (blind c (has_effect e) k r) (omega arith)))

some_follows : (d : ℕ) (c : Sign) (k : Stack) (ts : List Lexeme)
    → Follows (stop false (frame.expression ∷ need ∷ token c ∷ k) ts) no_effect (token c ∷ k) ts
    ((expression (nested d) ts >>= λ x. Ok (Some x.0, x.1))
    >>= λ x. if effect_or_none x.0 then Ok x else Err (unfit (length x.1)))
some_follows d c k ts = follows_then {e = effect_or_none} _
    (follows_then _ (longer ts (expression_follows d false (need ∷ token c ∷ k) ts))
    (λ a r h. follows_read (Some a) r refl (omega arith)))
    (λ o r h. need_follows (effect_or_none o) c k r _ (follows_read o r refl (omega arith)))

effect_follows : (d : ℕ) (c : Sign) (k : Stack) (ts : List Lexeme)
    → Follows (stop false (frame.optional_effect c ∷ token c ∷ k) ts) no_effect (token c ∷ k) ts
    (optional_effect d c ts)
unfolding stop shift accepts optional optional_effect
effect_follows d c k [] = some_follows d c k []
effect_follows d c k (t ∷ m) = go (is_sign c t)
  where
    go : (b : Bool) → Follows (onward m (cond b (shift false (token c ∷ k) t)
        (shift false (frame.expression ∷ need ∷ token c ∷ k) t))) no_effect (token c ∷ k) (t ∷ m)
        ((cond b (Ok (None, t ∷ m)) (expression (nested d) (t ∷ m) >>= λ x. Ok (Some x.0, x.1)))
        >>= λ x. if effect_or_none x.0 then Ok x else Err (unfit (length x.1)))
    go true = follows_read None (t ∷ m) refl (omega arith)
    go false = some_follows d c k (t ∷ m)

heading_follows : (d : ℕ) (k : Stack) (ts : List Lexeme)
    → Follows (stop false (frame.heading k) ts) no_effect k ts (heading d ts)
unfolding heading
heading_follows d k ts = follows_then _ (effect_follows d s.Colon _ ts)
    (λ a r h. past s.Colon false _ r _
    (λ u. follows_then _ (optional_follows d s.Colon _ u)
    (λ b v g. past s.Colon false _ v _
    (λ y. follows_then _ (effect_follows d s.CloseParenthesis k y)
    (λ c z f. past s.CloseParenthesis false k z _ (λ o. follows_read _ o refl (omega arith)))))))

pub enclosed_heading_follows : (d : ℕ) (b : Bool) (k : Stack) (ts : List Lexeme)
    → Follows (stop b (token s.OpenParenthesis ∷ frame.heading k) ts) no_effect k (tail ts) (enclosed_heading d ts)
unfolding enclosed_heading
enclosed_heading_follows d b k ts = follows_expect s.OpenParenthesis b _ ts _ (λ r h. go d (length ts) r)
  where
    go : (n opening : ℕ) (r : List Lexeme)
        → Follows (stop false (frame.heading k) r) no_effect k r (heading_in n opening r)
    go zero opening r = follows_deep
    go (suc n) opening r = heading_follows n k r

-- ---- what an `objectloop` goes over

looped_follows : (d : ℕ) (k : Stack) (ts : List Lexeme)
    → Follows (stop false (frame.loop ∷ token s.CloseParenthesis ∷ k) ts) no_effect k ts (looped d ts)
unfolding stop shift accepts looped expect_name
looped_follows d k [] = follows_unfit refl
looped_follows d k (name n p ∷ m) =
    follows_then _ (longer (name n p ∷ m) (condition_follows d false (token s.CloseParenthesis ∷ k) (name n p ∷ m)))
    (λ e r h. past s.CloseParenthesis (has_effect e) k r _ (λ u. follows_read _ u refl (omega arith)))
looped_follows d k _ = follows_unfit refl

pub enclosed_loop_follows : (d : ℕ) (b : Bool) (k : Stack) (ts : List Lexeme)
    → Follows (stop b (token s.OpenParenthesis ∷ frame.loop ∷ token s.CloseParenthesis ∷ k) ts) no_effect k (tail ts)
    (enclosed_loop d ts)
unfolding enclosed_loop
enclosed_loop_follows d b k ts = follows_expect s.OpenParenthesis b _ ts _ (λ r h. go d (length ts) r)
  where
    go : (n opening : ℕ) (r : List Lexeme)
        → Follows (stop false (frame.loop ∷ token s.CloseParenthesis ∷ k) r) no_effect k r (looped_in n opening r)
    go zero opening r = follows_deep
    go (suc n) opening r = looped_follows n k r
