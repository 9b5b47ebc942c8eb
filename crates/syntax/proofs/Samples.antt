-- The definitions at worked examples.
use Rattle.std.proofs.Common.{◌≡◌, ℕ, ◌<◌, false, List, [], ◌∷◌, length, Err, refl, arith}
use Rattle.std.specs.Prelude.{codes}
use Rattle.syntax_lexer.specs.declared.token.Position.{Position}
use Rattle.syntax_lexer.specs.declared.token.Sign.TheVariants as s
use Rattle.syntax_lexer.specs.declared.token.Word.TheVariants as w
use Rattle.syntax_lexer.specs.Token.{Lexeme, name, number, text, dictionary_word, reserved, sign, end}
use Rattle.syntax_trees.specs.Tree.{NameTree, named}
use Rattle.syntax_trees.specs.Stop.{unfit}
use Rattle.syntax_statements.specs.PartTree.{text_item, number_item}
use Rattle.syntax_statements.specs.Tree.{print, read_line, give, stop, next}
use Rattle.syntax_directives.specs.Tree.{TextTree, DirectiveTree, attribute, routine}
use Rattle.syntax_directives.specs.Grammar.{d_attribute, IsTexts, texts_stop, texts_next}
use Rattle.syntax_directives.specs.Parse.{one_text, texts, abbreviate_after}
use Rattle.syntax.specs.Tree.{EntryTree}
use Rattle.syntax.specs.Grammar.{dictionary_words, IsEntry, e_directive, e_abbreviate, entries_stop, entries_next}
use Rattle.syntax.specs.Grammar.{IsProgram, program}
use Rattle.syntax.specs.Parse.{one_entry}
use Rattle.syntax.specs.Laws.{IsWeighed}

abbrev p : Position
p = record { offset = 0; line = 1 }

abbrev the : List ℕ → NameTree
the letters = record { text = letters; position = p }

-- [ Main a; print "no", a; read t w; ];
abbrev main : DirectiveTree
main = routine
    (record {
      name = the (codes "Main");
      locals = the (codes "a") ∷ [];
      body =
          next (print (text_item (codes "no") ∷ number_item p (named (the (codes "a"))) ∷ []))
          (next (read_line (the (codes "t")) (the (codes "w"))) stop);
      weight = 486;
    })

-- 15 tokens, and 2 bytes of a text
main_weighed : IsWeighed main
main_weighed = (0, omega arith, refl)

-- [ F; give o ~a; ]; has 10 tokens, and its tree does not count the `~`
taken_weighed : IsWeighed (routine
    (record {
      name = the (codes "F");
      locals = [];
      body = next (give p (named (the (codes "o"))) ((false, the (codes "a")) ∷ [])) stop;
      weight = 320;
    }))
taken_weighed = (1, omega arith, refl)

-- words are taken in order, each as often as it stands
words_taken : dictionary_words
    (dictionary_word (codes "b") p ∷ number 2 p ∷ dictionary_word (codes "a") p ∷ dictionary_word (codes "b") p ∷ [])
    ≡ codes "b" ∷ codes "a" ∷ codes "b" ∷ []
words_taken = refl

-- Abbreviate "in" "the "; Attribute light; Abbreviate "ing "; is one directive and three abbreviations, in order
abbrev quoted : List ℕ → TextTree
quoted letters = record { bytes = letters; position = p }

three_abbreviations : IsProgram
    (reserved w.Abbreviate p ∷ text (codes "in") p ∷ text (codes "the ") p ∷ sign s.Semicolon p
    ∷ reserved w.Attribute p ∷ name (codes "light") p ∷ sign s.Semicolon p ∷ reserved w.Abbreviate p
    ∷ text (codes "ing ") p ∷ sign s.Semicolon p ∷ end p ∷ [])
    (record {
      directives = attribute (the (codes "light")) ∷ [];
      abbreviations = quoted (codes "in") ∷ quoted (codes "the ") ∷ quoted (codes "ing ") ∷ [];
      end = p;
      weight = 350;
      words = [];
    })
three_abbreviations = program
    (entries_next (e_abbreviate (texts_next (texts_next texts_stop)) (omega arith))
    (entries_next (e_directive d_attribute)
    (entries_next (e_abbreviate (texts_next texts_stop) (omega arith)) entries_stop)))

-- Abbreviate; is none, and the fault is at its semicolon
no_texts : one_entry 100 (reserved w.Abbreviate p ∷ sign s.Semicolon p ∷ end p ∷ []) ≡ Err (unfit 2)
unfolding one_entry abbreviate_after texts one_text
no_texts = refl

no_entry : (e : EntryTree) (r : List Lexeme) → IsEntry (reserved w.Abbreviate p ∷ sign s.Semicolon p ∷ end p ∷ []) e r
    → ⊥
no_entry e r (e_abbreviate a lt) = no_text a lt
  where
    no_text : {xs : List TextTree} {o : Position} {m : List Lexeme}
        → IsTexts (sign s.Semicolon p ∷ end p ∷ []) xs (sign s.Semicolon o ∷ m) → 0 < length xs → ⊥
    no_text texts_stop lt = omega (arith, lt)
no_entry e r (e_directive a) = elim a [ ]
