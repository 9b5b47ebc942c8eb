-- Where what is looked ahead is over, no more calls follow.
use Rattle.std.proofs.Common.{◌≡◌, ℕ, Bool, true, false, List, [], ◌∷◌, ◌++◌, None, refl, ap, ◌∙◌, if◌then◌else◌}
use Rattle.std.specs.Prelude.{◌&&◌, ◌||◌, not}
use Rattle.syntax_lexer.specs.declared.token.Sign.TheVariants as s
use Rattle.syntax_lexer.specs.Token.{Lexeme, head, position_of}
use Rattle.derive_tokens.specs.Tokens.{is_sign}
use Rattle.derive_tokens.specs.Names.{is_name, small_name}
use Rattle.derive_values.specs.Places.{Reading}
use Rattle.derive_statements.specs.FileNames.{FileNames}
use Rattle.derive_statements.specs.Lists.{ends_statement}
use Rattle.derive_expressions.specs.declared.heads.Ahead.{Ahead}
use Rattle.derive_expressions.specs.declared.heads.Ahead.TheVariants as aheads
use Rattle.derive_expressions.specs.Calls.{after_tokens, begun_as, first_as, heads_written}
use Rattle.derive_expressions.specs.Heads.{Chain, Head, at, chain_after, heads_from, heads_of, inside, is_over}
use Rattle.derive_expressions.specs.Roles.{is_called, is_cast, is_kin}
use Rattle.derive_expressions.proofs.Outcomes.{after_none}

either_way : (b : Bool) → (if b then at aheads.Over else at aheads.Over) ≡ at aheads.Over
either_way true = refl
either_way false = refl

over_from : (heads : List Head) (depth : ℕ) (h : Head) (ts : List Lexeme)
    → heads_from heads (record { ahead = aheads.Over; depth = depth; property = h }) ts ≡ heads
over_from heads depth h [] = refl
over_from heads depth h (t ∷ ts) =
    ap (λ (c : Chain). heads_from heads c ts) (either_way (ends_statement t)) ∙ over_from heads 0 None ts

by_ahead : (heads : List Head) (ahead : Ahead) (depth : ℕ) (h : Head) (ts : List Lexeme) → is_over ahead ≡ true
    → heads_from heads (record { ahead = ahead; depth = depth; property = h }) ts ≡ heads
by_ahead heads aheads.Over depth h ts e = over_from heads depth h ts
by_ahead heads aheads.Ended depth h ts e = absurd cc
by_ahead heads aheads.AtProperty depth h ts e = absurd cc
by_ahead heads aheads.AtBracket depth h ts e = absurd cc
by_ahead heads aheads.Inside depth h ts e = absurd cc

pub nothing_more : (heads : List Head) (c : Chain) (ts : List Lexeme) → is_over c.ahead ≡ true
    → heads_from heads c ts ≡ heads
nothing_more heads c ts e = by_ahead heads c.ahead c.depth c.property ts e

none_put : (hs : List Head) (b : Bool) → b ≡ false → (if b then [] ++ None ∷ [] else hs) ≡ hs
none_put hs false e = refl
none_put hs true e = absurd cc

over_after : (ends dot bracket : Bool) → dot ≡ false → bracket ≡ false
    → (if ends then at aheads.Over else if dot then at aheads.AtProperty else if bracket then inside 1
    else at aheads.Over) ≡ at aheads.Over
over_after true dot bracket d b = refl
over_after false false false d b = refl
over_after false true bracket d b = absurd cc
over_after false false true d b = absurd cc

-- after a name with neither a dot nor a bracket behind it
nothing_called : (ts : List Lexeme) → is_sign s.Dot (head ts) ≡ false → is_sign s.OpenParenthesis (head ts) ≡ false
    → heads_from [] (at aheads.Ended) ts ≡ []
nothing_called [] dot bracket = refl
nothing_called (t ∷ ts) dot bracket =
    ap (λ (hs : List Head). heads_from hs (chain_after (at aheads.Ended) t) ts)
    (none_put [] (is_sign s.OpenParenthesis t) bracket)
    ∙ ap (λ (c : Chain). heads_from [] c ts)
    (over_after (ends_statement t) (is_sign s.Dot t) (is_sign s.OpenParenthesis t) dot bracket)
    ∙ over_from [] 0 None ts

head_tests : (named dot bracketed called kin bracket cast : Bool) (h0 h1 h2 : List Head)
    → (if named then (dot || bracketed) else (kin || bracket)) ≡ false
    → (dot ≡ false → bracketed ≡ false → h1 ≡ [])
    → (if (if named then (bracketed && called) else kin) then h0 else if named then h1
    else if bracket && not cast then h2 else []) ≡ []
head_tests true false false called kin bracket cast h0 h1 h2 e f = f refl refl
head_tests true false true called kin bracket cast h0 h1 h2 e f = absurd cc
head_tests true true bracketed called kin bracket cast h0 h1 h2 e f = absurd cc
head_tests false dot bracketed called false false cast h0 h1 h2 e f = refl
head_tests false dot bracketed called false true cast h0 h1 h2 e f = absurd cc
head_tests false dot bracketed called true bracket cast h0 h1 h2 e f = absurd cc

no_heads : (names : FileNames) (r : Reading) (t : Lexeme) (rest : List Lexeme)
    → (if is_name t then (is_sign s.Dot (head rest) || is_sign s.OpenParenthesis (head rest))
    else (is_kin t || is_sign s.OpenParenthesis t)) ≡ false
    → heads_of names r t rest ≡ []
no_heads names r t rest e =
    head_tests (is_name t) (is_sign s.Dot (head rest)) (is_sign s.OpenParenthesis (head rest))
    (is_called names r (small_name t)) (is_kin t) (is_sign s.OpenParenthesis t) (is_cast rest)
    (heads_from [] (inside 0) rest) (heads_from [] (at aheads.Ended) rest) (heads_from [] (inside 1) rest) e
    (nothing_called rest)

-- where no call can follow a primary, its first token alone is put
pub nothing_begun : (names : FileNames) (messages : List (List ℕ)) (r : Reading) (t : Lexeme) (rest : List Lexeme)
    → (if is_name t then (is_sign s.Dot (head rest) || is_sign s.OpenParenthesis (head rest))
    else (is_kin t || is_sign s.OpenParenthesis t)) ≡ false
    → begun_as names messages r t rest ≡ first_as names r t rest
nothing_begun names messages r t rest e =
    ap (λ (hs : List Head). after_tokens (heads_written messages (position_of t) hs) (first_as names r t rest))
    (no_heads names r t rest e) ∙ after_none (first_as names r t rest)
