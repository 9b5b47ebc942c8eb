-- What is after a part of a directive weighs no more than what begins with that part.
use Rattle.std.proofs.Common.{◌≤◌, List, Option, arith}
use Rattle.syntax_lexer.specs.declared.token.Position.{Position}
use Rattle.syntax_lexer.specs.Token.{Lexeme}
use Rattle.syntax_trees.specs.Tree.{NameTree}
use Rattle.syntax_statements.specs.PartTree.{LiteralTree}
use Rattle.syntax_statements.specs.PartGrammar.{IsK, k_number, k_negative, k_character, k_word, k_true, k_false}
use Rattle.syntax_statements.specs.PartGrammar.{k_nothing, k_name}
use Rattle.syntax_directives.specs.Tree.{ValueTree, TextTree, HeadTree, PropertyTree}
use Rattle.syntax_directives.specs.Grammar.{weight_of, v_value, IsValues, values_stop, values_next, IsArrows}
use Rattle.syntax_directives.specs.Grammar.{arrows_stop, arrows_next, short_none, short_text, IsHead, IsShortName}
use Rattle.syntax_directives.specs.Grammar.{head_arrows, head_parent, IsProp, prop_values, IsProps, props_last}
use Rattle.syntax_directives.specs.Grammar.{props_comma, IsComma, comma_none, comma_one, IsProperties, properties_none}
use Rattle.syntax_directives.specs.Grammar.{properties_with, IsAttributes, attributes_none, attributes_has}
use Rattle.syntax_directives.proofs.SpelledStatements.{spelled_Names}
use Rattle.syntax_directives.proofs.Spelled.{weighs}

pub value_weight : {ts r : List Lexeme} {k : LiteralTree} → IsK ts k r → weight_of r ≤ weight_of ts
value_weight k_number = omega arith
value_weight k_negative = omega arith
value_weight k_character = omega arith
value_weight k_word = omega arith
value_weight k_true = omega arith
value_weight k_false = omega arith
value_weight k_nothing = omega arith
value_weight k_name = omega arith

pub values_weight : {ts r : List Lexeme} {vs : List ValueTree} → IsValues ts vs r → weight_of r ≤ weight_of ts
values_weight values_stop = omega arith
values_weight (values_next (v_value k) vs) = omega (arith, value_weight k, values_weight vs)

-- Objects

arrows_weight : {ts r : List Lexeme} {ps : List Position} → IsArrows ts ps r → weight_of r ≤ weight_of ts
arrows_weight arrows_stop = omega arith
arrows_weight (arrows_next a) = omega (arith, arrows_weight a)

short_weight : {ts r : List Lexeme} {x : Option TextTree} → IsShortName ts x r → weight_of r ≤ weight_of ts
short_weight short_none = omega arith
short_weight short_text = omega arith

pub head_weight : {ts r : List Lexeme} {h : HeadTree} → IsHead ts h r → weight_of r ≤ weight_of ts
head_weight (head_arrows a x) = omega (arith, arrows_weight a, short_weight x)
head_weight (head_parent x) = omega (arith, short_weight x)

comma_weight : {ts r : List Lexeme} → IsComma ts r → weight_of r ≤ weight_of ts
comma_weight comma_none = omega arith
comma_weight comma_one = omega arith

prop_weight : {ts r : List Lexeme} {x : PropertyTree} → IsProp ts x r → weight_of r ≤ weight_of ts
prop_weight (prop_values vs n) = omega (arith, values_weight vs)

props_weight : {ts r : List Lexeme} {xs : List PropertyTree} → IsProps ts xs r → weight_of r ≤ weight_of ts
props_weight (props_last x) = prop_weight x
props_weight (props_comma x xs) = omega (arith, prop_weight x, props_weight xs)

pub properties_weight : {ts r : List Lexeme} {xs : List PropertyTree} → IsProperties ts xs r
    → weight_of r ≤ weight_of ts
properties_weight properties_none = omega arith
properties_weight (properties_with c xs) = omega (arith, comma_weight c, props_weight xs)

pub attributes_weight : {ts r : List Lexeme} {ns : List NameTree} → IsAttributes ts ns r → weight_of r ≤ weight_of ts
attributes_weight attributes_none = omega arith
attributes_weight (attributes_has c ns n) = omega (arith, comma_weight c, weighs (spelled_Names ns))
