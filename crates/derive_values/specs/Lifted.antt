-- A routine in a property: `Object bag with before [ x; .. ];` stands for `before x__r1`, and for a routine of that name
-- after the object, which ends with `rfalse`.
use Rattle.std.specs.Prelude.{◌+◌, ◌||◌, ℕ, Bool, true, false, List, [], ◌∷◌, ◌++◌, if◌then◌else◌, codes}
use Rattle.syntax_lexer.specs.declared.token.Sign.TheVariants as s
use Rattle.syntax_lexer.specs.declared.token.Word.TheVariants as w
use Rattle.syntax_lexer.specs.Token.{Lexeme, name, reserved, sign, end, position_of}
use Rattle.derive_tokens.specs.Tokens.{is_sign, is_word, numbered}
use Rattle.derive_tokens.specs.Names.{is_name}
use Rattle.derive_values.specs.declared.lifting.Level.{Level}
use Rattle.derive_values.specs.declared.lifting.Level.TheVariants as levels

-- after the end of a directive, or of a routine, or else
abbrev pub after_directive : Level → Lexeme → Level
after_directive other t = if is_sign s.Semicolon t then levels.Between else other

abbrev pub after_bracket : Level → Level → Lexeme → Level
after_bracket closed other t = if is_sign s.CloseBracket t then closed else other

-- a directive of an object, or of a class, or of an object of a class
abbrev pub begins_object : Lexeme → Bool
begins_object t = is_word w.Object t || is_name t

-- the level after a token
abbrev pub level_after : Level → Lexeme → Level
level_after levels.Between t =
    if begins_object t then levels.Object else if is_sign s.OpenBracket t then levels.Routine
    else after_directive levels.Elsewhere t
level_after levels.Object t =
    if is_sign s.OpenBracket t then levels.Embedded else after_directive levels.Object t
level_after levels.Embedded t = after_bracket levels.Object levels.Embedded t
level_after levels.Routine t = after_bracket levels.Elsewhere levels.Routine t
level_after levels.Elsewhere t = after_directive levels.Elsewhere t

-- where a token stands, how many routines are lifted so far, and the tokens of those of the object that is being read
pub record Lifting : Type 0 where
  pub level : Level
  pub count : ℕ
  pub waiting : List Lexeme

abbrev pub own_name : ℕ → List ℕ
own_name k = numbered (codes "x__r") k

-- what a routine begins and ends with
abbrev pub beginning : ℕ → Lexeme → List Lexeme
beginning k bracket = bracket ∷ name (own_name k) (position_of bracket) ∷ []

abbrev pub ending : Lexeme → List Lexeme
ending bracket =
    reserved w.Rfalse (position_of bracket) ∷ sign s.Semicolon (position_of bracket) ∷ bracket
    ∷ sign s.Semicolon (position_of bracket) ∷ []

-- the bracket of a routine in a property opens
abbrev pub is_opened : Level → Lexeme → Bool
is_opened levels.Object t = is_sign s.OpenBracket t
is_opened _ t = false

abbrev pub is_embedded : Level → Bool
is_embedded levels.Embedded = true
is_embedded _ = false

abbrev pub is_end : Lexeme → Bool
is_end (end p) = true
is_end _ = false

abbrev pub waiting_after : Level → ℕ → List Lexeme → Lexeme → List Lexeme
waiting_after level count waiting t =
    if is_opened level t then waiting ++ beginning (count + 1) t
    else if is_embedded level then (if is_sign s.CloseBracket t then waiting ++ ending t else waiting ++ t ∷ [])
    else if is_sign s.Semicolon t then [] else waiting

abbrev pub count_after : Level → ℕ → Lexeme → ℕ
count_after level count t = if is_opened level t then count + 1 else count

abbrev pub lifting_after : Lifting → Lexeme → Lifting
lifting_after l t = record {
  level = level_after l.level t;
  count = count_after l.level l.count t;
  waiting = waiting_after l.level l.count l.waiting t;
}

-- what a token stands for
abbrev pub in_place : Lifting → Lexeme → List Lexeme
in_place l t =
    if is_end t then l.waiting ++ t ∷ []
    else if is_opened l.level t then name (own_name (l.count + 1)) (position_of t) ∷ []
    else if is_embedded l.level then []
    else if is_sign s.Semicolon t then t ∷ l.waiting else t ∷ []

abbrev pub lifted_from : Lifting → List Lexeme → List Lexeme
lifted_from l [] = []
lifted_from l (t ∷ ts) = in_place l t ++ lifted_from (lifting_after l t) ts

abbrev pub lifted : List Lexeme → List Lexeme
lifted ts = lifted_from (record { level = levels.Between; count = 0; waiting = [] }) ts
