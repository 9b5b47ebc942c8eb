-- Rows: of names, of values, of attributes, of arrows and of texts.
use Rattle.std.proofs.Common.{◌≡◌, ℕ, ◌≤◌, Bool, true, false, List, [], ◌∷◌, length, refl}
use Rattle.std.proofs.Common.{arith}
use Rattle.std.specs.Prelude.{if◌then◌else◌}
use Rattle.syntax_lexer.specs.declared.token.Sign.TheVariants as s
use Rattle.syntax_lexer.specs.declared.token.Word.TheVariants as w
use Rattle.syntax_lexer.specs.Token.{Lexeme, name, text, reserved, sign}
use Rattle.syntax_lexer.specs.Token.{position_of}
use Rattle.syntax_trees.specs.Parse.{head, tail, is_sign, repeated}
use Rattle.syntax_expressions.specs.PartParse.{is_name, expect_name}
use Rattle.syntax_statements.specs.PartParse as parts
use Rattle.syntax_statements.specs.PartParse.{begins_flag, flags, begins_value}
use Rattle.syntax_directives.specs.Parse.{names, array_value, values, arrow, is_text, one_text, texts}
use Rattle.syntax.proofs.Frames.{token, any_name, any_text, flag, flags_left, names_left, value}
use Rattle.syntax.proofs.Frames.{values_left, arrows_left}
use Rattle.syntax.proofs.Frames.{texts_left, Stack}
use Rattle.syntax.proofs.Machine.{shift, accepts, stop}
use Rattle.syntax.proofs.After.{Follows, no_effect, onward, follows_read, follows_unfit, follows_as, shorter}
use Rattle.syntax.proofs.After.{follows_then}
use Rattle.syntax.proofs.After.{follows_by, follows_expect, repeated_follow}
use Rattle.syntax.proofs.Expressions.{name_follows}
use Rattle.syntax.proofs.Values.{value_follows}

-- ---- names

more_names : (k : Stack) (ts : List Lexeme) → stop false (names_left ∷ k) ts
    ≡ (if is_name (head ts) then stop false (any_name ∷ names_left ∷ k) ts else stop false k ts)
unfolding stop shift accepts
more_names k [] = refl
more_names k (name n p ∷ m) = refl
more_names k (t ∷ m) = refl

pub names_follow : (k : Stack) (ts : List Lexeme)
    → Follows (stop false (names_left ∷ k) ts) no_effect k ts (names ts)
unfolding names
names_follow k ts = repeated_follow expect_name is_name (any_name ∷ names_left ∷ k) (names_left ∷ k) k
    (name_follows false (names_left ∷ k)) (more_names k) refl (length ts) ts (omega arith)

-- ---- values, each with where it stands

pub placed_follows : (k : Stack) (ts : List Lexeme)
    → Follows (stop false (value ∷ k) ts) no_effect k (tail ts) (array_value ts)
unfolding array_value
placed_follows k ts = follows_then _ (value_follows false k ts)
    (λ l r h. follows_read (record { position = position_of (head ts); value = l }) r refl (omega arith))

more_values : (k : Stack) (ts : List Lexeme) → stop false (values_left ∷ k) ts
    ≡ (if begins_value (head ts) then stop false (value ∷ values_left ∷ k) ts else stop false k ts)
unfolding stop shift accepts
more_values k [] = refl
more_values k (reserved w.True p ∷ m) = refl
more_values k (reserved w.False p ∷ m) = refl
more_values k (reserved w.Nothing p ∷ m) = refl
more_values k (sign s.Minus p ∷ m) = refl
more_values k (t ∷ m) = refl

pub values_follow : (k : Stack) (ts : List Lexeme)
    → Follows (stop false (value ∷ values_left ∷ k) ts) no_effect k (tail ts) (values ts)
unfolding values
values_follow k ts = follows_then _ (placed_follows (values_left ∷ k) ts)
    (λ v r h. follows_then _
    (repeated_follow array_value begins_value (value ∷ values_left ∷ k) (values_left ∷ k) k
    (placed_follows (values_left ∷ k)) (more_values k) refl (length r) r (omega arith))
    (λ vs u g. follows_read (v ∷ vs) u refl (omega arith)))

-- ---- attributes of `give`

flag_follows : (b : Bool) (k : Stack) (ts : List Lexeme)
    → Follows (stop b (flag ∷ k) ts) no_effect k (tail ts) (parts.flag ts)
unfolding stop shift accepts parts.flag expect_name
flag_follows b k [] = follows_unfit refl
flag_follows b k (t ∷ m) = follows_by (onward m) (is_sign s.Tilde t) _ _
    (λ is. follows_then _ (follows_as refl (shorter m) (name_follows false k m))
    (λ n r h. follows_read (false, n) r refl (omega arith)))
    (λ is. follows_then _ (name_follows false k (t ∷ m)) (λ n r h. follows_read (true, n) r refl (omega arith)))

more_flags : (k : Stack) (ts : List Lexeme) → stop false (flags_left ∷ k) ts
    ≡ (if begins_flag (head ts) then stop false (flag ∷ flags_left ∷ k) ts else stop false k ts)
unfolding stop shift accepts
more_flags k [] = refl
more_flags k (name n p ∷ m) = refl
more_flags k (sign s.Tilde p ∷ m) = refl
more_flags k (t ∷ m) = refl

pub flags_follow : (b : Bool) (k : Stack) (ts : List Lexeme)
    → Follows (stop b (flag ∷ flags_left ∷ k) ts) no_effect k (tail ts) (flags ts)
unfolding flags
flags_follow b k ts = follows_then _ (flag_follows b (flags_left ∷ k) ts)
    (λ f r h. follows_then _
    (repeated_follow parts.flag begins_flag (flag ∷ flags_left ∷ k) (flags_left ∷ k) k
    (flag_follows false (flags_left ∷ k)) (more_flags k) refl (length r) r (omega arith))
    (λ fs u g. follows_read (f ∷ fs) u refl (omega arith)))

-- ---- arrows

arrow_follows : (k : Stack) (ts : List Lexeme)
    → Follows (stop false (token s.Arrow ∷ k) ts) no_effect k (tail ts) (arrow ts)
unfolding arrow
arrow_follows k ts = follows_expect s.Arrow false k ts _
    (λ r h. follows_read (position_of (head ts)) r refl (omega (arith, h)))

more_arrows : (k : Stack) (ts : List Lexeme) → stop false (arrows_left ∷ k) ts
    ≡ (if is_sign s.Arrow (head ts) then stop false (token s.Arrow ∷ arrows_left ∷ k) ts else stop false k ts)
unfolding stop shift accepts
more_arrows k [] = refl
more_arrows k (sign s.Arrow p ∷ m) = refl
more_arrows k (t ∷ m) = refl

pub arrows_follow : (n : ℕ) (k : Stack) (ts : List Lexeme) → length ts ≤ n
    → Follows (stop false (arrows_left ∷ k) ts) no_effect k ts (repeated (is_sign s.Arrow) arrow n ts)
arrows_follow n k ts le = repeated_follow arrow (is_sign s.Arrow) (token s.Arrow ∷ arrows_left ∷ k) (arrows_left ∷ k) k
    (arrow_follows (arrows_left ∷ k)) (more_arrows k) refl n ts le

-- ---- texts

text_follows : (k : Stack) (ts : List Lexeme)
    → Follows (stop false (any_text ∷ k) ts) no_effect k (tail ts) (one_text ts)
unfolding stop shift accepts one_text
text_follows k [] = follows_unfit refl
text_follows k (text bytes p ∷ m) = follows_read _ m refl (omega arith)
text_follows k (name n p ∷ m) = follows_unfit refl
text_follows k _ = follows_unfit refl

more_texts : (k : Stack) (ts : List Lexeme) → stop false (texts_left ∷ k) ts
    ≡ (if is_text (head ts) then stop false (any_text ∷ texts_left ∷ k) ts else stop false k ts)
unfolding stop shift accepts
more_texts k [] = refl
more_texts k (text bytes p ∷ m) = refl
more_texts k (t ∷ m) = refl

pub texts_follow : (k : Stack) (ts : List Lexeme)
    → Follows (stop false (any_text ∷ texts_left ∷ k) ts) no_effect k (tail ts) (texts ts)
unfolding texts
texts_follow k ts = follows_then _ (text_follows (texts_left ∷ k) ts)
    (λ x r h. follows_then _
    (repeated_follow one_text is_text (any_text ∷ texts_left ∷ k) (texts_left ∷ k) k (text_follows (texts_left ∷ k))
    (more_texts k) refl (length r) r (omega arith))
    (λ xs u g. follows_read (x ∷ xs) u refl (omega arith)))
