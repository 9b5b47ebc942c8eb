-- A file with an object, an attribute, a property and a global, for samples.
use Rattle.std.proofs.Common.{ℕ, List, [], ◌∷◌, Option}
use Rattle.std.specs.Prelude.{codes}
use Rattle.syntax_lexer.specs.declared.token.Position.{Position}
use Rattle.syntax_trees.specs.Tree.{NameTree, ExpressionTree, named}
use Rattle.checker_values.specs.declared.binding.Binding.{Binding}
use Rattle.checker_values.specs.declared.binding.Binding.TheVariants as bindings
use Rattle.checker_values.specs.Names.{key_of, in_table, Table, Seen}

-- the position of a token, by its number
abbrev pub p : ℕ → Position
p n = record { offset = n; line = 1 }

abbrev pub the : ℕ → List ℕ → NameTree
the n text = record { text = text; position = p n }

-- Object box; Attribute open; Property size; Global g;
abbrev pub table : Table
table = (key_of (codes "box"), bindings.Object 1)
    ∷ (key_of (codes "open"), bindings.Attribute 0)
    ∷ (key_of (codes "size"), bindings.Property 2)
    ∷ (key_of (codes "g"), bindings.Global 0)
    ∷ []

abbrev pub look : List ℕ → Option Binding
look name = in_table table (key_of name)

abbrev pub seen : Seen
seen = record { look = look; number = λ n. n }

abbrev pub box : ℕ → ExpressionTree
box n = named (the n (codes "box"))
