-- What stands in a directive stands at its tokens, and so do the rules that it breaks.
use Rattle.std.proofs.Common.{ℕ, List, [], ◌∷◌, Option, Some, None}
use Rattle.syntax_lexer.specs.declared.token.Position.{Position}
use Rattle.syntax_lexer.specs.Token.{Lexeme}
use Rattle.syntax_trees.specs.Tree.{NameTree}
use Rattle.syntax_directives.specs.Tree.{ValueTree, TextTree, PropertyTree, HeadTree, ObjectTree, RoutineTree}
use Rattle.syntax_directives.specs.Tree.{DirectiveTree, global, constant, array, attribute, property, object, routine}
use Rattle.syntax_directives.specs.Grammar.{IsNames, names_stop, names_next, v_value, IsValues, values_stop}
use Rattle.syntax_directives.specs.Grammar.{values_next, IsArrows, arrows_stop, arrows_next, IsShortName, short_none}
use Rattle.syntax_directives.specs.Grammar.{short_text, IsHead, head_arrows, head_parent, IsProp, prop_values, IsProps}
use Rattle.syntax_directives.specs.Grammar.{props_last, props_comma, IsComma, comma_none, comma_one, IsProperties}
use Rattle.syntax_directives.specs.Grammar.{properties_none, properties_with, IsAttributes, attributes_none}
use Rattle.syntax_directives.specs.Grammar.{attributes_has, IsDirective, d_global, d_global_value, d_constant, d_array}
use Rattle.syntax_directives.specs.Grammar.{d_attribute, d_property, d_property_value, d_object, d_routine, IsTexts}
use Rattle.syntax_directives.specs.Grammar.{texts_stop, texts_next}
use Rattle.meaning.specs.declared.enclosure.Enclosure.{Enclosure}
use Rattle.checker_values.specs.declared.binding.Binding.{Binding}
use Rattle.checker_statements.specs.Statements.{statements_breaches}
use Rattle.messages_diagnosis.proofs.Sounds.{Sounds, Stand, first, after}
use Rattle.messages_diagnosis.proofs.Names.{EachName}
use Rattle.messages_diagnosis.proofs.Values.{KnownAt, OptionalAt, known_K}
use Rattle.messages_diagnosis.proofs.StatementSounds.{sound_Ss}

module _ (P : Position → Type 0) where
  abbrev pub EachPosition : List Position → Type 0
  EachPosition [] = Unit {0}
  EachPosition (p ∷ ps) = P p × EachPosition ps

  abbrev pub EachValue : List ValueTree → Type 0
  EachValue [] = Unit {0}
  EachValue (v ∷ vs) = P v.position × KnownAt P v.value × EachValue vs

  abbrev pub EachText : List TextTree → Type 0
  EachText [] = Unit {0}
  EachText (t ∷ ts) = P t.position × EachText ts

  abbrev pub TextAt : Option TextTree → Type 0
  TextAt None = Unit {0}
  TextAt (Some t) = P t.position

  abbrev pub NameAt : Option NameTree → Type 0
  NameAt None = Unit {0}
  NameAt (Some n) = P n.position

  abbrev pub EachProperty : List PropertyTree → Type 0
  EachProperty [] = Unit {0}
  EachProperty (x ∷ xs) = P x.name.position × EachValue x.values × EachProperty xs

  pub record ObjectAt (o : ObjectTree) : Type 0 where
    pub arrows : EachPosition o.arrows
    pub name : P o.name.position
    pub short : TextAt o.short
    pub parent : NameAt o.parent
    pub properties : EachProperty o.properties
    pub attributes : EachName P o.attributes

  abbrev pub EachObject : List ObjectTree → Type 0
  EachObject [] = Unit {0}
  EachObject (o ∷ os) = ObjectAt o × EachObject os

  pub record RoutineAt (x : RoutineTree) : Type 0 where
    pub name : P x.name.position
    pub locals : EachName P x.locals
    pub body : (look : List ℕ → Option Binding) (around : Enclosure) → Sounds P (statements_breaches look around x.body)

  abbrev pub DirectiveAt : DirectiveTree → Type 0
  DirectiveAt (global n v) = P n.position × OptionalAt P v
  DirectiveAt (constant n v) = P n.position × KnownAt P v
  DirectiveAt (array a) = P a.name.position × EachValue a.values
  DirectiveAt (attribute n) = P n.position
  DirectiveAt (property n v) = P n.position × OptionalAt P v
  DirectiveAt (object o) = ObjectAt o
  DirectiveAt (routine x) = RoutineAt x

  -- what is read, and the tokens behind it
  record NamesIn (ns : List NameTree) (r : List Lexeme) : Type 0 where
    stands : EachName P ns
    rest : Stand P r

  record ValuesIn (vs : List ValueTree) (r : List Lexeme) : Type 0 where
    stands : EachValue vs
    rest : Stand P r

  record ArrowsIn (ps : List Position) (r : List Lexeme) : Type 0 where
    stands : EachPosition ps
    rest : Stand P r

  record ShortIn (x : Option TextTree) (r : List Lexeme) : Type 0 where
    stands : TextAt x
    rest : Stand P r

  record HeadIn (x : HeadTree) (r : List Lexeme) : Type 0 where
    arrows : EachPosition x.arrows
    name : P x.name.position
    short : TextAt x.short
    parent : NameAt x.parent
    rest : Stand P r

  record PropertiesIn (xs : List PropertyTree) (r : List Lexeme) : Type 0 where
    stands : EachProperty xs
    rest : Stand P r

  record PropertyIn (x : PropertyTree) (r : List Lexeme) : Type 0 where
    name : P x.name.position
    values : EachValue x.values
    rest : Stand P r

  pub record TextsIn (xs : List TextTree) (r : List Lexeme) : Type 0 where
    pub stands : EachText xs
    pub rest : Stand P r

  pub record DirectiveIn (d : DirectiveTree) (r : List Lexeme) : Type 0 where
    pub stands : DirectiveAt d
    pub rest : Stand P r

  names_in : {ts r : List Lexeme} {ns : List NameTree} → IsNames ts ns r → Stand P ts → NamesIn ns r
  names_in names_stop g = record { stands = tt; rest = g }
  names_in (names_next a) g =
      let l = names_in a (after g) in
      record { stands = (first g, l.stands); rest = l.rest }

  values_in : {ts r : List Lexeme} {vs : List ValueTree} → IsValues ts vs r → Stand P ts → ValuesIn vs r
  values_in values_stop g = record { stands = tt; rest = g }
  values_in (values_next (v_value a) b) g =
      let l = known_K P a g in
      let m = values_in b l.rest in
      record { stands = (first g, l.stands, m.stands); rest = m.rest }

  arrows_in : {ts r : List Lexeme} {ps : List Position} → IsArrows ts ps r → Stand P ts → ArrowsIn ps r
  arrows_in arrows_stop g = record { stands = tt; rest = g }
  arrows_in (arrows_next a) g =
      let l = arrows_in a (after g) in
      record { stands = (first g, l.stands); rest = l.rest }

  short_in : {ts r : List Lexeme} {x : Option TextTree} → IsShortName ts x r → Stand P ts → ShortIn x r
  short_in short_none g = record { stands = tt; rest = g }
  short_in short_text g = record { stands = first g; rest = after g }

  head_in : {ts r : List Lexeme} {x : HeadTree} → IsHead ts x r → Stand P ts → HeadIn x r
  head_in (head_arrows a b) g =
      let l = arrows_in a g in
      let m = short_in b (after l.rest) in
      record { arrows = l.stands; name = first l.rest; short = m.stands; parent = tt; rest = m.rest }
  head_in (head_parent b) g =
      let m = short_in b (after g) in
      record { arrows = tt; name = first g; short = m.stands; parent = first m.rest; rest = after m.rest }

  property_in : {ts r : List Lexeme} {x : PropertyTree} → IsProp ts x r → Stand P ts → PropertyIn x r
  property_in (prop_values a lt) g =
      let l = values_in a (after g) in
      record { name = first g; values = l.stands; rest = l.rest }

  props_in : {ts r : List Lexeme} {xs : List PropertyTree} → IsProps ts xs r → Stand P ts → PropertiesIn xs r
  props_in (props_last a) g =
      let l = property_in a g in
      record { stands = (l.name, l.values, tt); rest = l.rest }
  props_in (props_comma a b) g =
      let l = property_in a g in
      let m = props_in b (after l.rest) in
      record { stands = (l.name, l.values, m.stands); rest = m.rest }

  behind_comma : {ts r : List Lexeme} → IsComma ts r → Stand P ts → Stand P r
  behind_comma comma_none g = g
  behind_comma comma_one g = after g

  properties_in : {ts r : List Lexeme} {xs : List PropertyTree} → IsProperties ts xs r → Stand P ts
      → PropertiesIn xs r
  properties_in properties_none g = record { stands = tt; rest = g }
  properties_in (properties_with c a) g = props_in a (after (behind_comma c g))

  attributes_in : {ts r : List Lexeme} {ns : List NameTree} → IsAttributes ts ns r → Stand P ts → NamesIn ns r
  attributes_in attributes_none g = record { stands = tt; rest = g }
  attributes_in (attributes_has c a lt) g = names_in a (after (behind_comma c g))

  pub directive_in : {ts r : List Lexeme} {d : DirectiveTree} → IsDirective ts d r → Stand P ts → DirectiveIn d r
  directive_in d_global g = record { stands = (first (after g), tt); rest = after (after (after g)) }
  directive_in (d_global_value a) g =
      let l = known_K P a (after (after (after g))) in
      record { stands = (first (after g), l.stands); rest = after l.rest }
  directive_in (d_constant a) g =
      let l = known_K P a (after (after (after g))) in
      record { stands = (first (after g), l.stands); rest = after l.rest }
  directive_in (d_array o a lt) g =
      let l = values_in a (after (after (after g))) in
      record { stands = (first (after g), l.stands); rest = after l.rest }
  directive_in d_attribute g = record { stands = first (after g); rest = after (after (after g)) }
  directive_in d_property g = record { stands = (first (after g), tt); rest = after (after (after g)) }
  directive_in (d_property_value a) g =
      let l = known_K P a (after (after g)) in
      record { stands = (first (after g), l.stands); rest = after l.rest }
  directive_in (d_object a b c) g =
      let l = head_in a (after g) in
      let m = properties_in b l.rest in
      let n = attributes_in c m.rest in
      record {
        stands = record {
          arrows = l.arrows;
          name = l.name;
          short = l.short;
          parent = l.parent;
          properties = m.stands;
          attributes = n.stands;
        };
        rest = after n.rest;
      }
  directive_in (d_routine a b) g =
      let l = names_in a (after (after g)) in
      let body = after l.rest in
      record {
        stands = record {
          name = first (after g);
          locals = l.stands;
          body = λ look around. (sound_Ss P look b body).sounds around;
        };
        rest = after (after (sound_Ss P (λ n. None) b body).rest);
      }

  pub texts_in : {ts r : List Lexeme} {xs : List TextTree} → IsTexts ts xs r → Stand P ts → TextsIn xs r
  texts_in texts_stop g = record { stands = tt; rest = g }
  texts_in (texts_next a) g =
      let l = texts_in a (after g) in
      record { stands = (first g, l.stands); rest = l.rest }
