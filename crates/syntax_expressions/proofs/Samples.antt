-- The definitions at worked examples.
use Rattle.std.proofs.Common.{[], ◌∷◌, refl}
use Rattle.std.specs.Prelude.{codes}
use Rattle.syntax_lexer.specs.declared.token.Position.{Position}
use Rattle.syntax_lexer.specs.declared.token.Sign.TheVariants as s
use Rattle.syntax_lexer.specs.declared.token.Word.TheVariants as w
use Rattle.syntax_lexer.specs.Token.{name, number, dictionary_word, reserved, sign}
use Rattle.syntax_trees.specs.declared.tree.Binary.TheVariants as op
use Rattle.syntax_trees.specs.declared.tree.Equality.TheVariants as equality
use Rattle.syntax_trees.specs.declared.tree.Prefix.TheVariants as prefix
use Rattle.syntax_trees.specs.declared.tree.Width.TheVariants as width
use Rattle.syntax_trees.specs.declared.tree.Containment.TheVariants as containment
use Rattle.syntax_trees.specs.declared.tree.ObjectTest.TheVariants as test
use Rattle.syntax_trees.specs.declared.tree.Relative.TheVariants as relative
use Rattle.syntax_trees.specs.Tree.{NameTree, constant, word, named, index, relative_of, property, property_length}
use Rattle.syntax_trees.specs.Tree.{property_entry, prefixed, binary, equal, contained, tested, none, more}
use Rattle.syntax_expressions.specs.Grammar.{IsE, e_plain, e1_plain, n1_plain, IsE2, e2_plain, e2_equal, e2_contained}
use Rattle.syntax_expressions.specs.Grammar.{e2_tested, choice_last, choice_or, e3_plain, e3_add, e4_plain, n4_plain}
use Rattle.syntax_expressions.specs.Grammar.{IsE5, e5_plain, e5_index, e5_entry, IsU, u_plain, u_minus, u_length}
use Rattle.syntax_expressions.specs.Grammar.{p_property, p_number, p_word, p_name, p_relative}

abbrev p : Position
p = record { offset = 0; line = 1 }

abbrev a : NameTree
a = record { text = codes "a"; position = p }

abbrev i : NameTree
i = record { text = codes "i"; position = p }

-- a->i + 1: 1 is added to the entry
entry_and_one : IsE
    (name (codes "a") p ∷ sign s.Arrow p ∷ name (codes "i") p ∷ sign s.Plus p ∷ number 1 p ∷ [])
    (binary op.Add (index a width.Byte (named i)) (constant 1)) []
entry_and_one = e_plain
    (e1_plain
    (n1_plain
    (e2_plain
    (e3_add (e3_plain (e4_plain (n4_plain (e5_index refl (u_plain p_name))))) refl
    (e4_plain (n4_plain (e5_plain (u_plain p_number))))))))

-- a-->-i
entry_at_negative : IsE5 (name (codes "a") p ∷ sign s.LongArrow p ∷ sign s.Minus p ∷ name (codes "i") p ∷ [])
    (index a width.Word (prefixed prefix.Minus (named i))) []
entry_at_negative = e5_index refl (u_minus (u_plain p_name))

-- i == 'up' or 'climb': the words are values, as their tokens have them
word_among_words : IsE2
    (name (codes "i") p ∷ sign s.Equal p ∷ dictionary_word (codes "up") p ∷ reserved w.Or p
    ∷ dictionary_word (codes "climb") p ∷ [])
    (equal equality.Equal (named i) (more (word (codes "up")) (more (word (codes "climb")) none))) []
word_among_words = e2_equal (e3_plain (e4_plain (n4_plain (e5_plain (u_plain p_name))))) refl
    (choice_or (e3_plain (e4_plain (n4_plain (e5_plain (u_plain p_word)))))
    (choice_last (e3_plain (e4_plain (n4_plain (e5_plain (u_plain p_word)))))))

-- a.i.#a: the length of a property of the property i of a
length_of_property : IsU
    (name (codes "a") p ∷ sign s.Dot p ∷ name (codes "i") p ∷ sign s.DotHash p ∷ name (codes "a") p ∷ [])
    (property_length (property (named a) i) a) []
length_of_property = u_length (p_property p_name)

-- a.&i-->1
word_of_property : IsE5
    (name (codes "a") p ∷ sign s.DotAmpersand p ∷ name (codes "i") p ∷ sign s.LongArrow p ∷ number 1 p ∷ [])
    (property_entry (named a) i (constant 1)) []
word_of_property = e5_entry p_name (u_plain p_number)

-- parent(a) in i
parent_in : IsE2
    (reserved w.Parent p ∷ sign s.OpenParenthesis p ∷ name (codes "a") p ∷ sign s.CloseParenthesis p
    ∷ reserved w.In p ∷ name (codes "i") p ∷ [])
    (contained containment.In (relative_of relative.Parent (named a)) (named i)) []
parent_in = e2_contained
    (e3_plain
    (e4_plain
    (n4_plain
    (e5_plain
    (u_plain
    (p_relative refl
    (e_plain
    (e1_plain (n1_plain (e2_plain (e3_plain (e4_plain (n4_plain (e5_plain (u_plain p_name)))))))))))))))
    refl (e3_plain (e4_plain (n4_plain (e5_plain (u_plain p_name)))))

-- a hasnt i
without : IsE2 (name (codes "a") p ∷ reserved w.Hasnt p ∷ name (codes "i") p ∷ []) (tested test.HasNot (named a) i) []
without = e2_tested (e3_plain (e4_plain (n4_plain (e5_plain (u_plain p_name))))) refl
