-- The grammar of directives: a relation between the tokens from a place on, the tree, and the tokens after it, with one
-- case for each alternative.
use Rattle.std.specs.Prelude.{◌≡◌, ◌<◌, ◌+◌, ◌-◌, ◌*◌, ℕ, List, [], ◌∷◌, length, Option, Some, None}
use Rattle.syntax_lexer.specs.declared.token.Position.{Position}
use Rattle.syntax_lexer.specs.declared.token.Sign.TheVariants as s
use Rattle.syntax_lexer.specs.declared.token.Word.TheVariants as w
use Rattle.syntax_lexer.specs.Token.{Lexeme, name, text, reserved, sign, end, position_of}
use Rattle.syntax_trees.specs.Tree.{NameTree}
use Rattle.syntax_statements.specs.PartTree.{LiteralTree}
use Rattle.syntax_statements.specs.PartGrammar.{IsK}
use Rattle.syntax_statements.specs.Tree.{StatementTrees}
use Rattle.syntax_statements.specs.Grammar.{IsSs, body_nesting}
use Rattle.syntax_directives.specs.declared.tree.ArrayKind.{ArrayKind}
use Rattle.syntax_directives.specs.declared.tree.ArrayKind.TheVariants as kind
use Rattle.syntax_directives.specs.Tree.{ValueTree, TextTree, PropertyTree, HeadTree, DirectiveTree, global, constant}
use Rattle.syntax_directives.specs.Tree.{array, attribute, property, object, routine}

-- The weight of tokens: 32 for each but the end, and 3 for each byte between the quotes of a text

abbrev pub token_weight : Lexeme → ℕ
token_weight (text s p) = 32 + 3 * length s
token_weight (end p) = 0
token_weight _ = 32

abbrev pub weight_of : List Lexeme → ℕ
weight_of [] = 0
weight_of (t ∷ ts) = token_weight t + weight_of ts

-- {name}
pub data IsNames : List Lexeme → List NameTree → List Lexeme → Type 0 where
  names_stop : {r : List Lexeme} → IsNames r [] r
  names_next : {m r : List Lexeme} {p : Position} {n : List ℕ} {ns : List NameTree} → IsNames m ns r
      → IsNames (name n p ∷ m) (record { text = n; position = p } ∷ ns) r

-- K, with the position of its first token
pub data IsValue : List Lexeme → ValueTree → List Lexeme → Type 0 where
  v_value : {m r : List Lexeme} {t : Lexeme} {k : LiteralTree} → IsK (t ∷ m) k r
      → IsValue (t ∷ m) (record { position = position_of t; value = k }) r

-- {K}
pub data IsValues : List Lexeme → List ValueTree → List Lexeme → Type 0 where
  values_stop : {r : List Lexeme} → IsValues r [] r
  values_next : {ts m r : List Lexeme} {v : ValueTree} {vs : List ValueTree} → IsValue ts v m → IsValues m vs r
      → IsValues ts (v ∷ vs) r

-- the kind of array that a token names
abbrev pub kind_of : Lexeme → Option ArrayKind
kind_of (sign s.Arrow p) = Some kind.Bytes
kind_of (sign s.LongArrow p) = Some kind.Words
kind_of (reserved w.String p) = Some kind.String
kind_of (reserved w.Table p) = Some kind.Table
kind_of _ = None

-- {"->"}
pub data IsArrows : List Lexeme → List Position → List Lexeme → Type 0 where
  arrows_stop : {r : List Lexeme} → IsArrows r [] r
  arrows_next : {m r : List Lexeme} {p : Position} {ps : List Position} → IsArrows m ps r
      → IsArrows (sign s.Arrow p ∷ m) (p ∷ ps) r

-- [text]
pub data IsShortName : List Lexeme → Option TextTree → List Lexeme → Type 0 where
  short_none : {r : List Lexeme} → IsShortName r None r
  short_text : {r : List Lexeme} {p : Position} {bytes : List ℕ}
      → IsShortName (text bytes p ∷ r) (Some (record { bytes = bytes; position = p })) r

-- {"->"} name [text] | name [text] name
pub data IsHead : List Lexeme → HeadTree → List Lexeme → Type 0 where
  head_arrows : {ts m r : List Lexeme} {ps : List Position} {p : Position} {n : List ℕ} {x : Option TextTree}
      → IsArrows ts ps (name n p ∷ m) → IsShortName m x r
      → IsHead ts (record { arrows = ps; name = record { text = n; position = p }; short = x; parent = None }) r
  head_parent : {m r : List Lexeme} {p q : Position} {n k : List ℕ} {x : Option TextTree}
      → IsShortName m x (name k q ∷ r)
      → IsHead (name n p ∷ m) (record {
        arrows = [];
        name = record { text = n; position = p };
        short = x;
        parent = Some (record { text = k; position = q });
      }) r

-- Prop = name K+
pub data IsProp : List Lexeme → PropertyTree → List Lexeme → Type 0 where
  prop_values : {m r : List Lexeme} {p : Position} {n : List ℕ} {vs : List ValueTree} → IsValues m vs r
      → 0 < length vs
      → IsProp (name n p ∷ m) (record { name = record { text = n; position = p }; values = vs }) r

-- Prop {"," Prop}
pub data IsProps : List Lexeme → List PropertyTree → List Lexeme → Type 0 where
  props_last : {ts r : List Lexeme} {x : PropertyTree} → IsProp ts x r → IsProps ts (x ∷ []) r
  props_comma : {ts m r : List Lexeme} {p : Position} {x : PropertyTree} {xs : List PropertyTree}
      → IsProp ts x (sign s.Comma p ∷ m) → IsProps m xs r → IsProps ts (x ∷ xs) r

-- [","]
pub data IsComma : List Lexeme → List Lexeme → Type 0 where
  comma_none : {r : List Lexeme} → IsComma r r
  comma_one : {r : List Lexeme} {p : Position} → IsComma (sign s.Comma p ∷ r) r

-- [[","] "with" Prop {"," Prop}]
pub data IsProperties : List Lexeme → List PropertyTree → List Lexeme → Type 0 where
  properties_none : {r : List Lexeme} → IsProperties r [] r
  properties_with : {ts m r : List Lexeme} {p : Position} {xs : List PropertyTree}
      → IsComma ts (reserved w.With p ∷ m) → IsProps m xs r → IsProperties ts xs r

-- [[","] "has" name+]
pub data IsAttributes : List Lexeme → List NameTree → List Lexeme → Type 0 where
  attributes_none : {r : List Lexeme} → IsAttributes r [] r
  attributes_has : {ts m r : List Lexeme} {p : Position} {ns : List NameTree}
      → IsComma ts (reserved w.Has p ∷ m) → IsNames m ns r → 0 < length ns → IsAttributes ts ns r

-- Directive = "global" name ["=" K] ";" | "constant" name "=" K ";"
-- | "array" name ("->" | "-->" | "string" | "table") K+ ";" | "attribute" name ";" | "property" name [K] ";"
-- | "object" ({"->"} name [text] | name [text] name) [[","] "with" Prop {"," Prop}] [[","] "has" name+] ";"
-- | "[" name {name} ";" {S} "]" ";"
pub data IsDirective : List Lexeme → DirectiveTree → List Lexeme → Type 0 where
  d_global : {r : List Lexeme} {p q o : Position} {n : List ℕ}
      → IsDirective (reserved w.Global p ∷ name n q ∷ sign s.Semicolon o ∷ r)
      (global (record { text = n; position = q }) None) r
  d_global_value : {m r : List Lexeme} {p q o l : Position} {n : List ℕ} {k : LiteralTree}
      → IsK m k (sign s.Semicolon l ∷ r)
      → IsDirective (reserved w.Global p ∷ name n q ∷ sign s.Assign o ∷ m)
      (global (record { text = n; position = q }) (Some k)) r
  d_constant : {m r : List Lexeme} {p q o l : Position} {n : List ℕ} {k : LiteralTree}
      → IsK m k (sign s.Semicolon l ∷ r)
      → IsDirective (reserved w.Constant p ∷ name n q ∷ sign s.Assign o ∷ m)
      (constant (record { text = n; position = q }) k) r
  d_array : {m r : List Lexeme} {p q o : Position} {t : Lexeme} {n : List ℕ} {k : ArrayKind} {vs : List ValueTree}
      → kind_of t ≡ Some k → IsValues m vs (sign s.Semicolon o ∷ r) → 0 < length vs
      → IsDirective (reserved w.Array p ∷ name n q ∷ t ∷ m)
      (array (record { name = record { text = n; position = q }; kind = k; values = vs })) r
  d_attribute : {r : List Lexeme} {p q o : Position} {n : List ℕ}
      → IsDirective (reserved w.Attribute p ∷ name n q ∷ sign s.Semicolon o ∷ r)
      (attribute (record { text = n; position = q })) r
  d_property : {r : List Lexeme} {p q o : Position} {n : List ℕ}
      → IsDirective (reserved w.Property p ∷ name n q ∷ sign s.Semicolon o ∷ r)
      (property (record { text = n; position = q }) None) r
  d_property_value : {m r : List Lexeme} {p q o : Position} {n : List ℕ} {k : LiteralTree}
      → IsK m k (sign s.Semicolon o ∷ r)
      → IsDirective (reserved w.Property p ∷ name n q ∷ m)
      (property (record { text = n; position = q }) (Some k)) r
  d_object : {m k l r : List Lexeme} {p q : Position} {h : HeadTree} {xs : List PropertyTree} {ns : List NameTree}
      → IsHead m h k → IsProperties k xs l → IsAttributes l ns (sign s.Semicolon q ∷ r)
      → IsDirective (reserved w.Object p ∷ m) (object (record {
        arrows = h.arrows;
        name = h.name;
        short = h.short;
        parent = h.parent;
        properties = xs;
        attributes = ns;
      })) r
  d_routine : {m k r : List Lexeme} {p q o l j : Position} {n : List ℕ} {ns : List NameTree} {xs : StatementTrees}
      → IsNames m ns (sign s.Semicolon o ∷ k) → IsSs k xs (sign s.CloseBracket l ∷ sign s.Semicolon j ∷ r)
      → IsDirective (sign s.OpenBracket p ∷ name n q ∷ m) (routine (record {
        name =
            record { text = n; position = q };
        locals = ns;
        body = xs;
        weight = weight_of (sign s.OpenBracket p ∷ name n q ∷ m) - weight_of r;
      })) r

-- {text}
pub data IsTexts : List Lexeme → List TextTree → List Lexeme → Type 0 where
  texts_stop : {r : List Lexeme} → IsTexts r [] r
  texts_next : {m r : List Lexeme} {p : Position} {bytes : List ℕ} {xs : List TextTree} → IsTexts m xs r
      → IsTexts (text bytes p ∷ m) (record { bytes = bytes; position = p } ∷ xs) r

-- How deep a directive is nested

abbrev pub directive_nesting : DirectiveTree → ℕ
directive_nesting (routine r) = body_nesting r.body
directive_nesting _ = 0
