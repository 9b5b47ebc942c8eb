-- Known values: a name among them stands at a token, and the rules that it breaks are broken there.
use Rattle.std.proofs.Common.{ℕ, List, Option, Some, None}
use Rattle.std.specs.List.{flat_map}
use Rattle.syntax_lexer.specs.declared.token.Position.{Position}
use Rattle.syntax_lexer.specs.Token.{Lexeme}
use Rattle.syntax_statements.specs.PartTree.{LiteralTree, RangeTree, number_value, word_value, named_value}
use Rattle.syntax_statements.specs.PartGrammar.{IsK, k_number, k_negative, k_character, k_word, k_true, k_false}
use Rattle.syntax_statements.specs.PartGrammar.{k_nothing, k_name, IsRange, range_alone, range_to, IsRanges}
use Rattle.syntax_statements.specs.PartGrammar.{ranges_last, ranges_comma}
use Rattle.checker_values.specs.declared.binding.Binding.{Binding}
use Rattle.checker_values.specs.Names.{Table, key_of, in_table}
use Rattle.checker_values.specs.Literals.{literal_breaches, initial_breaches, named_breaches}
use Rattle.checker_statements.specs.Statements.{known_breaches, range_breaches}
use Rattle.messages_diagnosis.proofs.Sounds.{Sounds, nothing, join, Stand, first, after}
use Rattle.messages_diagnosis.proofs.Names.{constant_sounds, earlier_sounds}

module _ (P : Position → Type 0) where
  -- where the name is that a value may be
  abbrev pub KnownAt : LiteralTree → Type 0
  KnownAt (number_value n) = Unit {0}
  KnownAt (word_value s) = Unit {0}
  KnownAt (named_value n) = P n.position

  abbrev pub OptionalAt : Option LiteralTree → Type 0
  OptionalAt None = Unit {0}
  OptionalAt (Some k) = KnownAt k

  pub record Known (k : LiteralTree) (r : List Lexeme) : Type 0 where
    pub stands : KnownAt k
    pub rest : Stand P r

  pub known_K : {ts r : List Lexeme} {k : LiteralTree} → IsK ts k r → Stand P ts → Known k r
  known_K k_number g = record { stands = tt; rest = after g }
  known_K k_negative g = record { stands = tt; rest = after (after g) }
  known_K k_character g = record { stands = tt; rest = after g }
  known_K k_word g = record { stands = tt; rest = after g }
  known_K k_true g = record { stands = tt; rest = after g }
  known_K k_false g = record { stands = tt; rest = after g }
  known_K k_nothing g = record { stands = tt; rest = after g }
  known_K k_name g = record { stands = first g; rest = after g }

  pub literal_sounds : (whole : Table) (k : LiteralTree) → KnownAt k → Sounds P (literal_breaches whole k)
  literal_sounds whole (number_value n) h = nothing
  literal_sounds whole (word_value s) h = nothing
  literal_sounds whole (named_value n) h = constant_sounds n.position h (in_table whole (key_of n.text))

  pub initial_sounds : (whole : Table) (k : Option LiteralTree) → OptionalAt k → Sounds P (initial_breaches whole k)
  initial_sounds whole None h = nothing
  initial_sounds whole (Some k) h = literal_sounds whole k h

  pub named_sounds : (whole table : Table) (k : LiteralTree) → KnownAt k → Sounds P (named_breaches whole table k)
  named_sounds whole table (number_value n) h = nothing
  named_sounds whole table (word_value s) h = nothing
  named_sounds whole table (named_value n) h =
      earlier_sounds n.position h (in_table table (key_of n.text)) (in_table whole (key_of n.text))

  -- ---- values of cases
  module _ (look : List ℕ → Option Binding) where
    known_sounds : (k : LiteralTree) → KnownAt k → Sounds P (known_breaches look k)
    known_sounds (number_value n) h = nothing
    known_sounds (word_value s) h = nothing
    known_sounds (named_value n) h = constant_sounds n.position h (look n.text)

    pub record RangeSound (x : RangeTree) (r : List Lexeme) : Type 0 where
      pub sounds : Sounds P (range_breaches look x)
      pub rest : Stand P r

    pub record RangesSound (xs : List RangeTree) (r : List Lexeme) : Type 0 where
      pub sounds : Sounds P (flat_map (range_breaches look) xs)
      pub rest : Stand P r

    sound_Range : {ts r : List Lexeme} {x : RangeTree} → IsRange ts x r → Stand P ts → RangeSound x r
    sound_Range (range_alone {k = k} a) g =
        let l = known_K a g in
        record { sounds = join (known_sounds k l.stands) nothing; rest = l.rest }
    sound_Range (range_to {k = k} {l = j} a b) g =
        let l = known_K a g in
        let m = known_K b (after l.rest) in
        record { sounds = join (known_sounds k l.stands) (known_sounds j m.stands); rest = m.rest }

    pub sound_Ranges : {ts r : List Lexeme} {xs : List RangeTree} → IsRanges ts xs r → Stand P ts → RangesSound xs r
    sound_Ranges (ranges_last a) g =
        let l = sound_Range a g in
        record { sounds = join l.sounds nothing; rest = l.rest }
    sound_Ranges (ranges_comma a b) g =
        let l = sound_Range a g in
        let m = sound_Ranges b (after l.rest) in
        record { sounds = join l.sounds m.sounds; rest = m.rest }
