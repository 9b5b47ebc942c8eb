-- The grammar of what statements are made of: a relation between the tokens from a place on, the tree, and the tokens
-- after it, with one case for each alternative.
use Rattle.std.specs.Prelude.{◌≡◌, ◌-◌, ◌%◌, ℕ, max, Bool, true, false, List, [], ◌∷◌, Option, Some, None}
use Rattle.syntax_lexer.specs.declared.token.Position.{Position}
use Rattle.syntax_lexer.specs.declared.token.Sign.TheVariants as s
use Rattle.syntax_lexer.specs.declared.token.Word.TheVariants as w
use Rattle.syntax_lexer.specs.Token.{Lexeme, name, number, text, character, dictionary_word, reserved, sign}
use Rattle.syntax_lexer.specs.Token.{position_of}
use Rattle.syntax_trees.specs.declared.tree.Containment.TheVariants as containment
use Rattle.syntax_trees.specs.Tree.{ExpressionTree, named, call, parenthesised, step_before, step_after, contained}
use Rattle.syntax_trees.specs.Tree.{assign}
use Rattle.syntax_expressions.specs.Grammar.{IsE, IsE1, IsE3, nesting}
use Rattle.syntax_statements.specs.PartTree.{LiteralTree, number_value, word_value, named_value, RangeTree}
use Rattle.syntax_statements.specs.PartTree.{PrintItemTree, FlagTree, object_item, LoopTree, over_all, over_in}
use Rattle.syntax_statements.specs.PartTree.{over_where, text_item, character_item, number_item}

-- an expression that can stand alone: parentheses apart, its root is an assignment, a step or a call
abbrev pub has_effect : ExpressionTree → Bool
has_effect (call n es) = true
has_effect (step_before op p e) = true
has_effect (step_after e op p) = true
has_effect (assign a p b) = true
has_effect (parenthesised e) = has_effect e
has_effect _ = false

-- K = ["-"] number | char | word | name | "true" | "false" | "nothing"
pub data IsK : List Lexeme → LiteralTree → List Lexeme → Type 0 where
  k_number : {r : List Lexeme} {p : Position} {n : ℕ} → IsK (number n p ∷ r) (number_value n) r
  k_negative : {r : List Lexeme} {p q : Position} {n : ℕ}
      → IsK (sign s.Minus p ∷ number n q ∷ r) (number_value ((65536 - n) % 65536)) r
  k_character : {r : List Lexeme} {p : Position} {c : ℕ} → IsK (character c p ∷ r) (number_value c) r
  k_word : {r : List Lexeme} {p : Position} {s : List ℕ} → IsK (dictionary_word s p ∷ r) (word_value s) r
  k_true : {r : List Lexeme} {p : Position} → IsK (reserved w.True p ∷ r) (number_value 1) r
  k_false : {r : List Lexeme} {p : Position} → IsK (reserved w.False p ∷ r) (number_value 0) r
  k_nothing : {r : List Lexeme} {p : Position} → IsK (reserved w.Nothing p ∷ r) (number_value 0) r
  k_name : {r : List Lexeme} {p : Position} {n : List ℕ}
      → IsK (name n p ∷ r) (named_value (record { text = n; position = p })) r

-- Range = K ["to" K]
pub data IsRange : List Lexeme → RangeTree → List Lexeme → Type 0 where
  range_alone : {ts r : List Lexeme} {k : LiteralTree} → IsK ts k r → IsRange ts (record { low = k; high = None }) r
  range_to : {ts m r : List Lexeme} {p : Position} {k l : LiteralTree} → IsK ts k (reserved w.To p ∷ m) → IsK m l r
      → IsRange ts (record { low = k; high = Some l }) r

-- Range {"," Range}
pub data IsRanges : List Lexeme → List RangeTree → List Lexeme → Type 0 where
  ranges_last : {ts r : List Lexeme} {g : RangeTree} → IsRange ts g r → IsRanges ts (g ∷ []) r
  ranges_comma : {ts m r : List Lexeme} {p : Position} {g : RangeTree} {gs : List RangeTree}
      → IsRange ts g (sign s.Comma p ∷ m) → IsRanges m gs r → IsRanges ts (g ∷ gs) r

-- [E]
pub data IsOptional : List Lexeme → Option ExpressionTree → List Lexeme → Type 0 where
  optional_none : {r : List Lexeme} → IsOptional r None r
  optional_some : {ts r : List Lexeme} {e : ExpressionTree} → IsE ts e r → IsOptional ts (Some e) r

-- an expression that is absent or can stand alone
abbrev pub effect_or_none : Option ExpressionTree → Bool
effect_or_none None = true
effect_or_none (Some e) = has_effect e

-- a name, or a name and `in`: where an `objectloop` has such an expression in its parentheses, it is no condition
abbrev pub tells_objects : ExpressionTree → Bool
tells_objects (named n) = true
tells_objects (contained containment.In (named n) e) = true
tells_objects _ = false

-- Loop = name | name "in" E3 | E1, where the third begins with a name and is neither of the first two
pub data IsLoop : List Lexeme → LoopTree → List Lexeme → Type 0 where
  loop_all : {r : List Lexeme} {p : Position} {n : List ℕ}
      → IsLoop (name n p ∷ r) (over_all (record { text = n; position = p })) r
  loop_in : {m r : List Lexeme} {p q : Position} {n : List ℕ} {e : ExpressionTree} → IsE3 m e r
      → IsLoop (name n p ∷ reserved w.In q ∷ m) (over_in (record { text = n; position = p }) e) r
  loop_where : {m r : List Lexeme} {p : Position} {n : List ℕ} {e : ExpressionTree} → IsE1 (name n p ∷ m) e r
      → tells_objects e ≡ false → IsLoop (name n p ∷ m) (over_where (record { text = n; position = p }) e) r

-- Item = text | "(" "char" ")" E | "(" "object" ")" E | E
pub data IsItem : List Lexeme → PrintItemTree → List Lexeme → Type 0 where
  item_text : {r : List Lexeme} {p : Position} {bytes : List ℕ} → IsItem (text bytes p ∷ r) (text_item bytes) r
  item_character : {m r : List Lexeme} {t : Lexeme} {p q o : Position} {e : ExpressionTree} → IsE (t ∷ m) e r
      → IsItem (sign s.OpenParenthesis p ∷ reserved w.Char q ∷ sign s.CloseParenthesis o ∷ t ∷ m)
      (character_item (position_of t) e) r
  item_object : {m r : List Lexeme} {t : Lexeme} {p q o : Position} {e : ExpressionTree} → IsE (t ∷ m) e r
      → IsItem (sign s.OpenParenthesis p ∷ reserved w.Object q ∷ sign s.CloseParenthesis o ∷ t ∷ m)
      (object_item (position_of t) e) r
  item_number : {m r : List Lexeme} {t : Lexeme} {e : ExpressionTree} → IsE (t ∷ m) e r
      → IsItem (t ∷ m) (number_item (position_of t) e) r

-- Item {"," Item}
pub data IsItems : List Lexeme → List PrintItemTree → List Lexeme → Type 0 where
  items_last : {ts r : List Lexeme} {i : PrintItemTree} → IsItem ts i r → IsItems ts (i ∷ []) r
  items_comma : {ts m r : List Lexeme} {p : Position} {i : PrintItemTree} {is : List PrintItemTree}
      → IsItem ts i (sign s.Comma p ∷ m) → IsItems m is r → IsItems ts (i ∷ is) r

-- ["~"] name
pub data IsFlag : List Lexeme → FlagTree → List Lexeme → Type 0 where
  flag_given : {r : List Lexeme} {p : Position} {n : List ℕ}
      → IsFlag (name n p ∷ r) (true, record { text = n; position = p }) r
  flag_taken : {r : List Lexeme} {p q : Position} {n : List ℕ}
      → IsFlag (sign s.Tilde q ∷ name n p ∷ r) (false, record { text = n; position = p }) r

-- {["~"] name}
pub data IsFlags : List Lexeme → List FlagTree → List Lexeme → Type 0 where
  flags_none : {r : List Lexeme} → IsFlags r [] r
  flags_next : {ts m r : List Lexeme} {x : FlagTree} {xs : List FlagTree} → IsFlag ts x m → IsFlags m xs r
      → IsFlags ts (x ∷ xs) r

-- (["~"] name)+
pub data IsGiven : List Lexeme → List FlagTree → List Lexeme → Type 0 where
  given_first : {ts m r : List Lexeme} {x : FlagTree} {xs : List FlagTree} → IsFlag ts x m → IsFlags m xs r
      → IsGiven ts (x ∷ xs) r

abbrev pub item_nesting : PrintItemTree → ℕ
item_nesting (text_item s) = 0
item_nesting (character_item p e) = max 1 (nesting e)
item_nesting (object_item p e) = max 1 (nesting e)
item_nesting (number_item p e) = nesting e

abbrev pub items_nesting : List PrintItemTree → ℕ
items_nesting [] = 0
items_nesting (i ∷ is) = max (item_nesting i) (items_nesting is)

abbrev pub optional_nesting : Option ExpressionTree → ℕ
optional_nesting None = 0
optional_nesting (Some e) = nesting e
