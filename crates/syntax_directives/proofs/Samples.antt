-- The definitions at worked examples.
use Rattle.std.proofs.Common.{ℕ, List, [], ◌∷◌, Option, Some, None, refl, arith}
use Rattle.std.specs.Prelude.{codes}
use Rattle.std.proofs.lemmas.List.Elements.{All-head}
use Rattle.syntax_lexer.specs.declared.token.Position.{Position}
use Rattle.syntax_lexer.specs.declared.token.Sign.TheVariants as s
use Rattle.syntax_lexer.specs.declared.token.Word.TheVariants as w
use Rattle.syntax_lexer.specs.Token.{name, number, text, dictionary_word, reserved, sign}
use Rattle.syntax_lexer.specs.Printable.{IsPrintable}
use Rattle.syntax_trees.specs.Tree.{NameTree}
use Rattle.syntax_statements.specs.PartTree.{LiteralTree, number_value, word_value, named_value}
use Rattle.syntax_statements.specs.PartGrammar.{k_number, k_negative, k_word, k_name}
use Rattle.syntax_statements.specs.Tree.{block, text_alone, stop, next}
use Rattle.syntax_directives.specs.declared.tree.ArrayKind.TheVariants as kind
use Rattle.syntax_directives.specs.Tree.{ValueTree, TextTree, HeadTree, global, array, object}
use Rattle.syntax_directives.specs.Grammar.{names_stop, names_next, v_value, values_stop, values_next, arrows_stop}
use Rattle.syntax_directives.specs.Grammar.{arrows_next, short_text, IsHead, head_arrows, prop_values, IsShortName}
use Rattle.syntax_directives.specs.Grammar.{props_last, props_comma, comma_none, comma_one, properties_with}
use Rattle.syntax_directives.specs.Grammar.{attributes_has, IsDirective, d_global_value, d_array, d_object}
use Rattle.syntax_directives.specs.Printable.{IsPrintableStatement}

abbrev p : Position
p = record { offset = 0; line = 1 }

abbrev the : List ℕ → NameTree
the letters = record { text = letters; position = p }

line_feed_does_not : IsPrintableStatement (block (next (text_alone (10 ∷ [])) stop)) → ⊥
line_feed_does_not h = let printable = All-head IsPrintable 10 [] h.0 in omega (arith, printable.0)

abbrev placed : LiteralTree → ValueTree
placed k = record { position = p; value = k }

-- array a --> n 2 -1; has three values
three_values : IsDirective
    (reserved w.Array p ∷ name (codes "a") p ∷ sign s.LongArrow p ∷ name (codes "n") p ∷ number 2 p ∷ sign s.Minus p
    ∷ number 1 p ∷ sign s.Semicolon p ∷ [])
    (array (record {
      name = the (codes "a");
      kind = kind.Words;
      values = placed (named_value (the (codes "n"))) ∷ placed (number_value 2) ∷ placed (number_value 65535) ∷ [];
    })) []
three_values = d_array refl
    (values_next (v_value k_name) (values_next (v_value k_number) (values_next (v_value k_negative) values_stop)))
    (omega arith)

-- global g = 'lamp'; begins as the word, and the word is its bytes as they stand between the quotes
word_first : IsDirective
    (reserved w.Global p ∷ name (codes "g") p ∷ sign s.Assign p ∷ dictionary_word (codes "lamp") p
    ∷ sign s.Semicolon p ∷ [])
    (global (the (codes "g")) (Some (word_value (codes "lamp")))) []
word_first = d_global_value k_word

-- object -> lamp "Lamp" with name 'lamp' 'light', size 5, has light; stands one deep, and its comma before `has` is no
-- part of the list before it
lamp_read : IsDirective
    (reserved w.Object p ∷ sign s.Arrow p ∷ name (codes "lamp") p ∷ text (codes "Lamp") p ∷ reserved w.With p
    ∷ name (codes "name") p ∷ dictionary_word (codes "lamp") p ∷ dictionary_word (codes "light") p ∷ sign s.Comma p
    ∷ name (codes "size") p ∷ number 5 p ∷ sign s.Comma p ∷ reserved w.Has p ∷ name (codes "light") p
    ∷ sign s.Semicolon p ∷ [])
    (object (record {
      arrows = p ∷ [];
      name = the (codes "lamp");
      short = Some (record { bytes = codes "Lamp"; position = p });
      parent = None;
      properties =
          record {
            name = the (codes "name");
            values = placed (word_value (codes "lamp")) ∷ placed (word_value (codes "light")) ∷ [];
          }
          ∷ record { name = the (codes "size"); values = placed (number_value 5) ∷ [] } ∷ [];
      attributes = the (codes "light") ∷ [];
    })) []
lamp_read = d_object (head_arrows (arrows_next arrows_stop) short_text)
    (properties_with comma_none
    (props_comma
    (prop_values (values_next (v_value k_word) (values_next (v_value k_word) values_stop)) (omega arith))
    (props_last (prop_values (values_next (v_value k_number) values_stop) (omega arith)))))
    (attributes_has comma_one (names_next names_stop) (omega arith))

-- object -> lamp box; is none: a parent is named only where no arrow stands
no_short : {x : Option TextTree}
    → IsShortName (name (codes "box") p ∷ sign s.Semicolon p ∷ []) x (sign s.Semicolon p ∷ [])
    → ⊥
no_short a = elim a [ ]

no_parent_after_arrows : (h : HeadTree)
    → IsHead (sign s.Arrow p ∷ name (codes "lamp") p ∷ name (codes "box") p ∷ sign s.Semicolon p ∷ []) h
    (sign s.Semicolon p ∷ []) → ⊥
no_parent_after_arrows h (head_arrows (arrows_next arrows_stop) b) = no_short b
