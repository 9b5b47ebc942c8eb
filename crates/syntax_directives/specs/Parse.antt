-- Words of proofs: directives, read from left to right: functions from a list of tokens to a tree and the tokens after
-- it.
use Rattle.std.specs.Prelude.{◌-◌, ◌&&◌, if◌then◌else◌, Bool, true, false, ℕ, List, [], ◌∷◌, length, Option, Some, None}
use Rattle.std.specs.Prelude.{Result, Ok, Err}
use Rattle.syntax_lexer.specs.declared.token.Position.{Position}
use Rattle.syntax_lexer.specs.declared.token.Sign.TheVariants as s
use Rattle.syntax_lexer.specs.declared.token.Word.{Word}
use Rattle.syntax_lexer.specs.declared.token.Word.TheVariants as w
use Rattle.syntax_lexer.specs.Token.{Lexeme, name, text, reserved, sign, position_of}
use Rattle.syntax_trees.specs.Tree.{NameTree}
use Rattle.syntax_trees.specs.Stop.{Stop, unfit}
use Rattle.syntax_trees.specs.Parse.{Parse, ◌>>=◌, head, tail, is_sign, is_word, expect, as_long, repeated}
use Rattle.syntax_expressions.specs.PartParse.{is_name, expect_name}
use Rattle.syntax_statements.specs.PartParse.{known_value, begins_value}
use Rattle.syntax_statements.specs.Tree.{StatementTree}
use Rattle.syntax_statements.specs.Views.{trees_of}
use Rattle.syntax_statements.specs.Parse.{statements}
use Rattle.syntax_directives.specs.declared.tree.ArrayKind.{ArrayKind}
use Rattle.syntax_directives.specs.Tree.{ValueTree, ArrayTree, TextTree, PropertyTree, HeadTree, ObjectTree}
use Rattle.syntax_directives.specs.Tree.{RoutineTree, DirectiveTree, global, constant, array, attribute, property}
use Rattle.syntax_directives.specs.Tree.{object, routine}
use Rattle.syntax_directives.specs.Grammar.{weight_of, kind_of}

-- ---- names

unfoldable pub names : Parse (List NameTree)
names ts = repeated is_name expect_name (length ts) ts

-- ---- arrays

unfoldable pub array_value : Parse ValueTree
array_value ts = known_value ts >>= λ k. Ok (record { position = position_of (head ts); value = k.0 }, k.1)

unfoldable pub values : Parse (List ValueTree)
values ts = array_value ts >>= λ v. repeated begins_value array_value (length v.1) v.1 >>= λ vs. Ok (v.0 ∷ vs.0, vs.1)

abbrev pub kind_on : List Lexeme → Option ArrayKind → Result (ArrayKind × List Lexeme) Stop
kind_on ts None = Err (unfit (length ts))
kind_on ts (Some k) = Ok (k, tail ts)

unfoldable pub kind : Parse ArrayKind
kind ts = kind_on ts (kind_of (head ts))

unfoldable pub array_after : Parse ArrayTree
array_after ts = do
  n ← expect_name ts
  k ← kind n.1
  vs ← values k.1
  r ← expect s.Semicolon vs.1
  Ok (record { name = n.0; kind = k.0; values = vs.0 }, r)

-- ---- objects

-- where an arrow stands that comes next
unfoldable pub arrow : Parse Position
arrow ts = expect s.Arrow ts >>= λ r. Ok (position_of (head ts), r)

unfoldable pub arrows : Parse (List Position)
arrows ts = repeated (is_sign s.Arrow) arrow (length ts) ts

-- the text that comes next, if one does
abbrev pub short_on : Lexeme → Parse (Option TextTree)
short_on (text bytes p) ts = Ok (Some (record { bytes = bytes; position = p }), tail ts)
short_on _ ts = Ok (None, ts)

unfoldable pub short : Parse (Option TextTree)
short ts = short_on (head ts) ts

-- the name that comes next, if one does
abbrev pub parent_on : Lexeme → Parse (Option NameTree)
parent_on (name n p) ts = Ok (Some (record { text = n; position = p }), tail ts)
parent_on _ ts = Ok (None, ts)

-- a parent is named where no arrow stands
unfoldable pub parent : List Position → Parse (Option NameTree)
parent [] ts = parent_on (head ts) ts
parent (p ∷ ps) ts = Ok (None, ts)

unfoldable pub object_heading : Parse HeadTree
object_heading ts = do
  a ← arrows ts
  n ← expect_name a.1
  x ← short n.1
  o ← parent a.0 x.1
  Ok (record { arrows = a.0; name = n.0; short = x.0; parent = o.0 }, o.1)

-- the tokens after a comma, if one comes next
unfoldable pub past_comma : List Lexeme → List Lexeme
past_comma ts = if is_sign s.Comma (head ts) then tail ts else ts

unfoldable pub prop : Parse PropertyTree
prop ts = expect_name ts >>= λ n. values n.1 >>= λ vs. Ok (record { name = n.0; values = vs.0 }, vs.1)

-- another property comes next, after a comma
unfoldable pub lists_further : List Lexeme → Bool
lists_further ts = is_sign s.Comma (head ts) && is_name (head (tail ts))

unfoldable pub next_prop : Parse PropertyTree
next_prop ts = expect s.Comma ts >>= λ r. prop r

unfoldable pub props : Parse (List PropertyTree)
props ts = prop ts >>= λ x. as_long lists_further next_prop (length x.1) x.1 >>= λ xs. Ok (x.0 ∷ xs.0, xs.1)

unfoldable pub properties : Parse (List PropertyTree)
properties ts = if is_word w.With (head (past_comma ts)) then props (tail (past_comma ts)) else Ok ([], ts)

-- names, at least one
abbrev pub some_on : List NameTree → Parse (List NameTree)
some_on [] ts = Err (unfit (length ts))
some_on (n ∷ ns) ts = Ok (n ∷ ns, ts)

unfoldable pub some_names : Parse (List NameTree)
some_names ts = names ts >>= λ ns. some_on ns.0 ns.1

-- a comma may stand before `with` and `has` alone: the token after it does not fit
unfoldable pub attributes : Parse (List NameTree)
attributes ts =
    if is_word w.Has (head (past_comma ts)) then some_names (tail (past_comma ts))
    else if is_sign s.Comma (head ts) then Err (unfit (length (past_comma ts)))
    else Ok ([], ts)

unfoldable pub object_after : Parse ObjectTree
object_after ts = do
  h ← object_heading ts
  xs ← properties h.1
  ns ← attributes xs.1
  r ← expect s.Semicolon ns.1
  Ok (
    record {
      arrows = h.0.arrows;
      name = h.0.name;
      short = h.0.short;
      parent = h.0.parent;
      properties = xs.0;
      attributes = ns.0;
    },
    r,
  )

-- ---- abbreviations

-- the token is a text
abbrev pub is_text : Lexeme → Bool
is_text (text bytes p) = true
is_text _ = false

abbrev pub text_on : Lexeme → Parse TextTree
text_on (text bytes p) ts = Ok (record { bytes = bytes; position = p }, tail ts)
text_on _ ts = Err (unfit (length ts))

-- the text that comes next
unfoldable pub one_text : Parse TextTree
one_text ts = text_on (head ts) ts

-- texts, at least one
unfoldable pub texts : Parse (List TextTree)
texts ts = one_text ts >>= λ x. repeated is_text one_text (length x.1) x.1 >>= λ xs. Ok (x.0 ∷ xs.0, xs.1)

-- what follows `abbreviate`
unfoldable pub abbreviate_after : Parse (List TextTree)
abbreviate_after ts = texts ts >>= λ xs. expect s.Semicolon xs.1 >>= λ r. Ok (xs.0, r)

-- ---- directives, after their first token

unfoldable pub ended : DirectiveTree → Parse DirectiveTree
ended d ts = expect s.Semicolon ts >>= λ r. Ok (d, r)

unfoldable pub global_after : Parse DirectiveTree
global_after ts = do
  n ← expect_name ts
  if is_sign s.Assign (head n.1) then (known_value (tail n.1) >>= λ k. ended (global n.0 (Some k.0)) k.1)
      else ended (global n.0 None) n.1

unfoldable pub constant_after : Parse DirectiveTree
constant_after ts = do
  n ← expect_name ts
  m ← expect s.Assign n.1
  k ← known_value m
  ended (constant n.0 k.0) k.1

unfoldable pub attribute_after : Parse DirectiveTree
attribute_after ts = expect_name ts >>= λ n. ended (attribute n.0) n.1

unfoldable pub property_after : Parse DirectiveTree
property_after ts = do
  n ← expect_name ts
  if begins_value (head n.1) then (known_value n.1 >>= λ k. ended (property n.0 (Some k.0)) k.1)
      else ended (property n.0 None) n.1

-- the directive that begins with that word
unfoldable pub directive_of : Word → Parse DirectiveTree
directive_of w.Global ts = global_after (tail ts)
directive_of w.Constant ts = constant_after (tail ts)
directive_of w.Array ts = array_after (tail ts) >>= λ x. Ok (array x.0, x.1)
directive_of w.Attribute ts = attribute_after (tail ts)
directive_of w.Property ts = property_after (tail ts)
directive_of w.Object ts = object_after (tail ts) >>= λ x. Ok (object x.0, x.1)
directive_of _ ts = Err (unfit (length ts))

-- ---- directives

-- what a routine begins with, after its bracket: its name, its locals, and their `;`
unfoldable pub routine_heading : Parse (NameTree × List NameTree)
routine_heading ts = do
  n ← expect_name ts
  ns ← names n.1
  m ← expect s.Semicolon ns.1
  Ok ((n.0, ns.0), m)

-- the tokens after what closes a routine
unfoldable pub routine_end : List Lexeme → Result (List Lexeme) Stop
routine_end ts = expect s.CloseBracket ts >>= λ u. expect s.Semicolon u

-- where d nestings may be opened in a statement
module _ (d : ℕ) where
  -- the statements of a routine, with what closes it
  unfoldable pub routine_body : Parse (List StatementTree)
  routine_body ts = statements d ts >>= λ xs. routine_end xs.1 >>= λ r. Ok (xs.0, r)

  -- a routine, from its bracket on
  unfoldable pub routine_at : Parse RoutineTree
  routine_at ts = do
    n ← expect_name (tail ts)
    ns ← names n.1
    m ← expect s.Semicolon ns.1
    xs ← statements d m
    u ← expect s.CloseBracket xs.1
    r ← expect s.Semicolon u
    Ok (record { name = n.0; locals = ns.0; body = trees_of xs.0; weight = weight_of ts - weight_of r }, r)

  abbrev pub one_routine : Parse DirectiveTree
  one_routine ts = routine_at ts >>= λ x. Ok (routine x.0, x.1)

  abbrev pub directive_on : Lexeme → Parse DirectiveTree
  directive_on (reserved word p) ts = directive_of word ts
  directive_on (sign s.OpenBracket p) ts = one_routine ts
  directive_on _ ts = Err (unfit (length ts))

  unfoldable pub directive : Parse DirectiveTree
  directive ts = directive_on (head ts) ts
