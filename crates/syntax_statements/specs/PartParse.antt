-- Words of proofs: what statements are made of, read from left to right: functions from a list of tokens to a tree and
-- the tokens after it.
use Rattle.std.specs.Prelude.{◌&&◌, ◌-◌, ◌%◌, if◌then◌else◌, Bool, true, false, ℕ, zero, suc, List, ◌∷◌, length, Option}
use Rattle.std.specs.Prelude.{Some, None, Result, Ok, Err}
use Rattle.syntax_lexer.specs.declared.token.Position.{Position}
use Rattle.syntax_lexer.specs.declared.token.Sign.{Sign}
use Rattle.syntax_lexer.specs.declared.token.Sign.TheVariants as s
use Rattle.syntax_lexer.specs.declared.token.Word.TheVariants as w
use Rattle.syntax_lexer.specs.Token.{Lexeme, name, number, text, character, dictionary_word, reserved, sign}
use Rattle.syntax_lexer.specs.Token.{position_of}
use Rattle.syntax_trees.specs.declared.tree.Containment.TheVariants as containment
use Rattle.syntax_trees.specs.Tree.{NameTree, ExpressionTree, contained}
use Rattle.syntax_trees.specs.Tree as expressions
use Rattle.syntax_trees.specs.Stop.{Stop, unfit, deep}
use Rattle.syntax_trees.specs.Parse.{Parse, ◌>>=◌, head, tail, is_sign, is_word, expect, list, repeated}
use Rattle.syntax_expressions.specs.PartParse.{expect_name}
use Rattle.syntax_expressions.specs.Parse.{whole, nested, condition, expression}
use Rattle.syntax_statements.specs.PartTree.{LiteralTree, number_value, word_value, named_value, RangeTree}
use Rattle.syntax_statements.specs.PartTree.{PrintItemTree, text_item, character_item, number_item, FlagTree}
use Rattle.syntax_statements.specs.PartTree.{object_item, LoopTree, over_all, over_in, over_where}
use Rattle.syntax_statements.specs.PartViews.{HeadingTree}
use Rattle.syntax_statements.specs.PartGrammar.{effect_or_none}

-- ---- attributes of `give`

abbrev pub begins_flag : Lexeme → Bool
begins_flag (name _ _) = true
begins_flag (sign s.Tilde _) = true
begins_flag _ = false

unfoldable pub flag : Parse FlagTree
flag ts =
    if is_sign s.Tilde (head ts) then (expect_name (tail ts) >>= λ x. Ok ((false, x.0), x.1))
    else (expect_name ts >>= λ x. Ok ((true, x.0), x.1))

unfoldable pub flags : Parse (List FlagTree)
flags ts = flag ts >>= λ x. repeated begins_flag flag (length x.1) x.1 >>= λ y. Ok (x.0 ∷ y.0, y.1)

-- ---- what an `objectloop` goes over

-- the name that an expression is alone
abbrev pub name_alone : ExpressionTree → Option NameTree
name_alone (expressions.named n) = Some n
name_alone _ = None

-- the name before `in`
abbrev pub member : ExpressionTree → Option NameTree
member (contained containment.In a e) = name_alone a
member _ = None

-- what follows an `in`
abbrev pub holder : ExpressionTree → Option ExpressionTree
holder (contained op a e) = Some e
holder _ = None

abbrev pub loop_on : NameTree → ExpressionTree → Option NameTree → Option NameTree → Option ExpressionTree → LoopTree
loop_on x e (Some n) m h = over_all n
loop_on x e None (Some m) (Some h) = over_in m h
loop_on x e None _ _ = over_where x e

-- an expression in the parentheses of an `objectloop` tells over what it goes; the variable of a condition is its first
-- token
abbrev pub loop_of : NameTree → ExpressionTree → LoopTree
loop_of x e = loop_on x e (name_alone e) (member e) (holder e)

-- ---- values that are known before a story runs

abbrev pub negative_on : Lexeme → Parse LiteralTree
negative_on (number n p) ts = Ok (number_value ((65536 - n) % 65536), tail ts)
negative_on _ ts = Err (unfit (length ts))

abbrev pub value_on : Lexeme → Parse LiteralTree
value_on (number n p) ts = Ok (number_value n, tail ts)
value_on (character c p) ts = Ok (number_value c, tail ts)
value_on (dictionary_word f p) ts = Ok (word_value f, tail ts)
value_on (reserved w.True p) ts = Ok (number_value 1, tail ts)
value_on (reserved w.False p) ts = Ok (number_value 0, tail ts)
value_on (reserved w.Nothing p) ts = Ok (number_value 0, tail ts)
value_on (name n p) ts = Ok (named_value (record { text = n; position = p }), tail ts)
value_on (sign s.Minus p) ts = negative_on (head (tail ts)) (tail ts)
value_on _ ts = Err (unfit (length ts))

unfoldable pub known_value : Parse LiteralTree
known_value ts = value_on (head ts) ts

abbrev pub begins_value : Lexeme → Bool
begins_value (number _ _) = true
begins_value (character _ _) = true
begins_value (dictionary_word _ _) = true
begins_value (reserved w.True _) = true
begins_value (reserved w.False _) = true
begins_value (reserved w.Nothing _) = true
begins_value (name _ _) = true
begins_value (sign s.Minus _) = true
begins_value _ = false

unfoldable pub range : Parse RangeTree
range ts = do
  k ← known_value ts
  if is_word w.To (head k.1)
      then (known_value (tail k.1) >>= λ l. Ok (record { low = k.0; high = Some l.0 }, l.1))
      else Ok (record { low = k.0; high = None }, k.1)

unfoldable pub ranges : Parse (List RangeTree)
ranges ts = list (is_sign s.Comma) range ts

-- ---- what stands inside statements

-- after the token that opens a nesting, from which on so many are left, where so many may be opened
abbrev pub opened : {A : Type 0} → ℕ → ℕ → Result A Stop → Result A Stop
opened zero opening R = Err (deep opening)
opened (suc d) opening R = R

-- where d nestings more may be opened
module _ (d : ℕ) where
  -- `(char)` or `(object)`, and a value
  unfoldable pub cast : (Position → ExpressionTree → PrintItemTree) → Parse PrintItemTree
  cast make ts = opened d (length ts)
      (expect s.CloseParenthesis (tail (tail ts)) >>= λ r. expression (nested d) r
      >>= λ x. Ok (make (position_of (head r)) x.0, x.1))

  unfoldable pub value : Parse PrintItemTree
  value ts =
      if is_sign s.OpenParenthesis (head ts) && is_word w.Char (head (tail ts)) then cast character_item ts
      else if is_sign s.OpenParenthesis (head ts) && is_word w.Object (head (tail ts)) then cast object_item ts
      else (expression (nested d) ts >>= λ x. Ok (number_item (position_of (head ts)) x.0, x.1))

  abbrev pub item_on : Lexeme → Parse PrintItemTree
  item_on (text bytes p) ts = Ok (text_item bytes, tail ts)
  item_on _ ts = value ts

  unfoldable pub item : Parse PrintItemTree
  item ts = item_on (head ts) ts

  unfoldable pub items : Parse (List PrintItemTree)
  items ts = list (is_sign s.Comma) item ts

  -- a condition in parentheses
  unfoldable pub enclosed_condition : Parse ExpressionTree
  enclosed_condition ts = do
    r ← expect s.OpenParenthesis ts
    x ← nested d whole (length ts) r
    u ← expect s.CloseParenthesis x.1
    Ok (x.0, u)

  -- an expression, where that sign is not the next token
  unfoldable pub optional : Sign → Parse (Option ExpressionTree)
  optional s ts =
      if is_sign s (head ts) then Ok (None, ts)
      else (expression (nested d) ts >>= λ x. Ok (Some x.0, x.1))

  -- it must have an effect
  unfoldable pub optional_effect : Sign → Parse (Option ExpressionTree)
  optional_effect s ts = optional s ts >>= λ x. if effect_or_none x.0 then Ok x else Err (unfit (length x.1))

  -- the parts of a `for`, with the parenthesis after them
  unfoldable pub heading : Parse HeadingTree
  heading ts = do
    a ← optional_effect s.Colon ts
    k ← expect s.Colon a.1
    b ← optional s.Colon k
    l ← expect s.Colon b.1
    c ← optional_effect s.CloseParenthesis l
    r ← expect s.CloseParenthesis c.1
    Ok (record { before = a.0; test = b.0; after = c.0 }, r)

  -- what an `objectloop` goes over, with the parenthesis after it
  unfoldable pub looped : Parse LoopTree
  looped ts = do
    n ← expect_name ts
    x ← condition (nested d) ts
    r ← expect s.CloseParenthesis x.1
    Ok (loop_of n.0 x.0, r)

-- those parts in parentheses, where d nestings more may be opened
abbrev pub heading_in : ℕ → ℕ → Parse HeadingTree
heading_in zero opening ts = Err (deep opening)
heading_in (suc d) opening ts = heading d ts

unfoldable pub enclosed_heading : ℕ → Parse HeadingTree
enclosed_heading d ts = expect s.OpenParenthesis ts >>= λ r. heading_in d (length ts) r

-- the same of what an `objectloop` goes over
abbrev pub looped_in : ℕ → ℕ → Parse LoopTree
looped_in zero opening ts = Err (deep opening)
looped_in (suc d) opening ts = looped d ts

unfoldable pub enclosed_loop : ℕ → Parse LoopTree
enclosed_loop d ts = expect s.OpenParenthesis ts >>= λ r. looped_in d (length ts) r
