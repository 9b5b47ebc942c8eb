-- Where what is looked ahead is settled, no more tokens change it.
use Rattle.std.proofs.Common.{◌≡◌, true, List, [], ◌∷◌, refl}
use Rattle.std.specs.List.{fold}
use Rattle.syntax_lexer.specs.Token.{Lexeme}
use Rattle.derive_sums.specs.Sums.{Shape, before, after, names_begin, name_read, or_read, found, none, shape_after}
use Rattle.derive_sums.specs.Sums.{is_settled}

found_stays : (operator : Lexeme) (ts : List Lexeme) → fold shape_after (found operator) ts ≡ found operator
found_stays operator [] = refl
found_stays operator (t ∷ ts) = found_stays operator ts

none_stays : (ts : List Lexeme) → fold shape_after none ts ≡ none
none_stays [] = refl
none_stays (t ∷ ts) = none_stays ts

pub no_change : (shape : Shape) (ts : List Lexeme) → is_settled shape ≡ true → fold shape_after shape ts ≡ shape
no_change (before n) ts e = absurd cc
no_change (after operator n) ts e = absurd cc
no_change (names_begin operator) ts e = absurd cc
no_change (name_read operator) ts e = absurd cc
no_change (or_read operator) ts e = absurd cc
no_change (found operator) ts e = found_stays operator ts
no_change none ts e = none_stays ts
