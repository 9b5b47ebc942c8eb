-- A name between the brackets of a rule.
use Rattle.std.proofs.Common.{◌≡◌, ℕ, true, List, Some, refl}
use Rattle.std.specs.Prelude.{◌&&◌, not, if◌then◌else◌}
use Rattle.syntax_lexer.specs.Token.{Lexeme, name, number, text, character, dictionary_word, reserved, sign, end, position_of}
use Rattle.derive_tokens.specs.Names.{is_among, is_name, name_of, small_name}
use Rattle.derive_values.specs.Places.{Reading}
use Rattle.derive_statements.specs.Prints.{call, known_rule, rule_of}

pub named_rule : (routines : List (List ℕ)) (r : Reading) (t : Lexeme) → is_name t ≡ true
    → rule_of routines r t
    ≡ (if is_among routines (small_name t) && not (is_among r.own (small_name t))
    then Some (call t) else known_rule routines (position_of t) (name_of t))
named_rule routines r (name n p) e = refl
named_rule routines r (number n p) e = absurd cc
named_rule routines r (text n p) e = absurd cc
named_rule routines r (character n p) e = absurd cc
named_rule routines r (dictionary_word n p) e = absurd cc
named_rule routines r (reserved n p) e = absurd cc
named_rule routines r (sign n p) e = absurd cc
named_rule routines r (end p) e = absurd cc
