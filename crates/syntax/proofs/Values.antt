-- Values that are known before a story runs, and the ranges of a case.
use Rattle.std.proofs.Common.{Bool, false, List, [], ◌∷◌, Some, None, Ok, refl}
use Rattle.std.proofs.Common.{arith}
use Rattle.std.specs.Prelude.{if◌then◌else◌}
use Rattle.syntax_lexer.specs.declared.token.Sign.TheVariants as s
use Rattle.syntax_lexer.specs.declared.token.Word.TheVariants as w
use Rattle.syntax_lexer.specs.Token.{Lexeme, name, number, character, dictionary_word, reserved, sign}
use Rattle.syntax_trees.specs.Parse.{◌>>=◌, head, tail, is_sign, is_word}
use Rattle.syntax_statements.specs.PartTree.{LiteralTree, RangeTree}
use Rattle.syntax_statements.specs.PartParse.{negative_on, known_value, range, ranges}
use Rattle.syntax.proofs.Frames.{value, number_left, upper_left, ranges_left, Stack}
use Rattle.syntax.proofs.Machine.{shift, accepts}
use Rattle.syntax.proofs.Machine.{stop}
use Rattle.syntax.proofs.After.{Follows, no_effect, onward, follows_read, follows_unfit, follows_as, shorter}
use Rattle.syntax.proofs.After.{follows_then}
use Rattle.syntax.proofs.After.{follows_by, list_follows}

-- the number after `-`
negative_follows : (k : Stack) (ts : List Lexeme)
    → Follows (stop false (number_left ∷ k) ts) no_effect k ts (negative_on (head ts) ts)
unfolding stop shift accepts
negative_follows k [] = follows_unfit refl
negative_follows k (number n p ∷ m) = follows_read _ m refl (omega arith)
negative_follows k (name n p ∷ m) = follows_unfit refl
negative_follows k _ = follows_unfit refl

pub value_follows : (b : Bool) (k : Stack) (ts : List Lexeme)
    → Follows (stop b (value ∷ k) ts) no_effect k (tail ts) (known_value ts)
unfolding stop shift accepts known_value
value_follows b k [] = follows_unfit refl
value_follows b k (number n p ∷ m) = follows_read _ m refl (omega arith)
value_follows b k (character c p ∷ m) = follows_read _ m refl (omega arith)
value_follows b k (dictionary_word f p ∷ m) = follows_read _ m refl (omega arith)
value_follows b k (reserved w.True p ∷ m) = follows_read _ m refl (omega arith)
value_follows b k (reserved w.False p ∷ m) = follows_read _ m refl (omega arith)
value_follows b k (reserved w.Nothing p ∷ m) = follows_read _ m refl (omega arith)
value_follows b k (name n p ∷ m) = follows_read _ m refl (omega arith)
value_follows b k (sign s.Minus p ∷ m) = negative_follows k m
value_follows b k _ = follows_unfit refl

-- what may follow the lower value of a range
upper_follows : (k : Stack) (low : LiteralTree) (ts : List Lexeme)
    → Follows {A = RangeTree} (stop false (upper_left ∷ k) ts) no_effect k ts
    (if is_word w.To (head ts)
    then (known_value (tail ts) >>= λ l. Ok (record { low = low; high = Some l.0 }, l.1))
    else Ok (record { low = low; high = None }, ts))
unfolding stop shift accepts
upper_follows k low [] = follows_read _ [] refl (omega arith)
upper_follows k low (t ∷ m) = follows_by (onward m) (is_word w.To t) _ _
    (λ is. follows_as {us = m} refl (omega arith)
    (follows_then _ (follows_as refl (shorter m) (value_follows false k m))
    (λ l r h. follows_read (record { low = low; high = Some l }) r refl (omega arith))))
    (λ is. follows_read (record { low = low; high = None }) (t ∷ m) refl (omega arith))

pub range_follows : (k : Stack) (ts : List Lexeme)
    → Follows (stop false (value ∷ upper_left ∷ k) ts) no_effect k (tail ts) (range ts)
unfolding range
range_follows k ts = follows_then _ (value_follows false (upper_left ∷ k) ts) (λ l r h. upper_follows k l r)

pub ranges_follow : (k : Stack) (ts : List Lexeme)
    → Follows (stop false (value ∷ upper_left ∷ ranges_left ∷ k) ts) no_effect k (tail ts) (ranges ts)
unfolding shift accepts ranges
ranges_follow k ts = list_follows range (λ j. value ∷ upper_left ∷ j) ranges_left range_follows (is_sign s.Comma)
    (λ j t. refl) (λ j. refl) refl k ts
