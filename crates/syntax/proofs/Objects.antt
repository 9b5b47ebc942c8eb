-- Objects: their heads, properties and attributes. A comma may stand before each of the three words and names that
-- go on with them, and the machine is past it before it sees which comes.
use Rattle.std.proofs.Common.{◌≡◌, suc, Bool, true, false, cond, List, [], ◌∷◌, length, Some, None}
use Rattle.std.proofs.Common.{Err, refl, arith}
use Rattle.std.specs.Prelude.{if◌then◌else◌}
use Rattle.syntax_lexer.specs.declared.token.Sign.TheVariants as s
use Rattle.syntax_lexer.specs.declared.token.Word.TheVariants as w
use Rattle.syntax_lexer.specs.Token.{Lexeme, name, text, reserved, sign}
use Rattle.syntax_trees.specs.Stop.{unfit}
use Rattle.syntax_trees.specs.Parse.{tail, head, is_word, expect, as_long, repeated}
use Rattle.syntax_expressions.specs.PartParse.{expect_name}
use Rattle.syntax_directives.specs.Parse.{names, arrow, arrows, short, parent, object_heading, past_comma, prop}
use Rattle.syntax_directives.specs.Parse.{lists_further, next_prop, props, properties, some_names, attributes}
use Rattle.syntax_directives.specs.Parse.{object_after}
use Rattle.syntax.proofs.Frames.{Stack, token, word, any_name, short_left, parent_left}
use Rattle.syntax.proofs.Frames.{properties_after, attributes_left}
use Rattle.syntax.proofs.Frames.{props_left}
use Rattle.syntax.proofs.Frames.{names_left, value, values_left}
use Rattle.syntax.proofs.Machine.{shift, accepts, stop}
use Rattle.syntax.proofs.Frames as frame
use Rattle.syntax.proofs.After.{Follows, no_effect, onward, follows_read, follows_unfit, follows_as}
use Rattle.syntax.proofs.After.{follows_then, follows_twice, follows_expect, longer, past, as_long_follow}
use Rattle.syntax.proofs.Expressions.{name_follows}
use Rattle.syntax.proofs.Rows.{names_follow, values_follow, arrows_follow}

-- ---- heads

short_follows : (k : Stack) (ts : List Lexeme) → Follows (stop false (short_left ∷ k) ts) no_effect k ts (short ts)
unfolding stop shift accepts short
short_follows k [] = follows_read None [] refl (omega arith)
short_follows k (text bytes p ∷ m) = follows_read _ m refl (omega arith)
short_follows k (name n p ∷ m) = follows_read None _ refl (omega arith)
short_follows k _ = follows_read None _ refl (omega arith)

parent_follows : (k : Stack) (ts : List Lexeme)
    → Follows (stop false (parent_left ∷ k) ts) no_effect k ts (parent [] ts)
unfolding stop shift accepts parent
parent_follows k [] = follows_read None [] refl (omega arith)
parent_follows k (name n p ∷ m) = follows_read _ m refl (omega arith)
parent_follows k (text n p ∷ m) = follows_read None _ refl (omega arith)
parent_follows k _ = follows_read None _ refl (omega arith)

head_follows : (k : Stack) (ts : List Lexeme)
    → Follows (stop false (frame.object_heading ∷ k) ts) no_effect k ts (object_heading ts)
unfolding stop shift accepts object_heading arrows repeated as_long arrow expect expect_name parent
head_follows k [] = follows_unfit refl
head_follows k (name n p ∷ m) = follows_as {us = m} refl (omega arith)
    (follows_then _ (short_follows (parent_left ∷ k) m)
    (λ x r h. follows_then _ (parent_follows k r) (λ o u g. follows_read _ u refl (omega arith))))
head_follows k (sign s.Arrow p ∷ m) = follows_as {us = m} refl (omega arith)
    (follows_twice _ _ (arrows_follow (length m) (any_name ∷ short_left ∷ k) m (omega arith))
    (λ ps r h. longer r (follows_then _ (name_follows false (short_left ∷ k) r)
    (λ n u g. follows_then _ (short_follows k u) (λ x v f. follows_read _ v refl (omega arith))))))
head_follows k (text n p ∷ m) = follows_unfit refl
head_follows k _ = follows_unfit refl

-- ---- attributes

some_names_follow : (k : Stack) (ts : List Lexeme)
    → Follows (stop false (any_name ∷ names_left ∷ k) ts) no_effect k ts (some_names ts)
unfolding stop shift accepts some_names names repeated as_long expect_name
some_names_follow k [] = follows_unfit refl
some_names_follow k (name n p ∷ m) = follows_as {us = m} refl (omega arith)
    (follows_twice _ _ (names_follow k m)
    (λ ns r h. follows_read _ r refl (omega arith)))
some_names_follow k (text n p ∷ m) = follows_unfit refl
some_names_follow k _ = follows_unfit refl

-- after a comma
has_follows : (k : Stack) (m : List Lexeme)
    → Follows (stop false (word w.Has ∷ any_name ∷ names_left ∷ k) m) no_effect k m
    (if is_word w.Has (head m) then some_names (tail m) else Err (unfit (length m)))
unfolding stop shift accepts
has_follows k [] = follows_unfit refl
has_follows k (t ∷ m) = go (is_word w.Has t)
  where
    go : (b : Bool) → Follows (onward m (cond b (Some (any_name ∷ names_left ∷ k)) None)) no_effect k (t ∷ m)
        (cond b (some_names m) (Err (unfit (suc (length m)))))
    go true = follows_as {us = m} refl (omega arith) (some_names_follow k m)
    go false = follows_unfit refl

attributes_follow : (k : Stack) (ts : List Lexeme)
    → Follows (stop false (attributes_left ∷ k) ts) no_effect k ts (attributes ts)
unfolding stop shift accepts attributes past_comma
attributes_follow k [] = follows_read [] [] refl (omega arith)
attributes_follow k (sign s.Comma p ∷ m) = follows_as {us = m} refl (omega arith) (has_follows k m)
attributes_follow k (reserved w.Has p ∷ m) = follows_as {us = m} refl (omega arith) (some_names_follow k m)
attributes_follow k (name n p ∷ m) = follows_read [] _ refl (omega arith)
attributes_follow k _ = follows_read [] _ refl (omega arith)

-- ---- properties

prop_follows : (k : Stack) (ts : List Lexeme)
    → Follows (stop false (any_name ∷ value ∷ values_left ∷ k) ts) no_effect k (tail ts) (prop ts)
unfolding prop
prop_follows k ts = follows_then _ (name_follows false _ ts)
    (λ n r h. longer r (follows_then _ (values_follow k r) (λ vs u g. follows_read _ u refl (omega arith))))

next_prop_follows : (k : Stack) (ts : List Lexeme)
    → Follows (stop false (token s.Comma ∷ any_name ∷ value ∷ values_left ∷ k) ts) no_effect k (tail ts) (next_prop ts)
unfolding next_prop
next_prop_follows k ts = follows_expect s.Comma false _ ts _ (λ r h. longer r (prop_follows k r))

-- another property, or the attributes
further : (k : Stack) (ts : List Lexeme) → stop false (props_left ∷ attributes_left ∷ k) ts
    ≡ cond (lists_further ts)
    (stop false (token s.Comma ∷ any_name ∷ value ∷ values_left ∷ props_left ∷ attributes_left ∷ k) ts)
    (stop false (attributes_left ∷ k) ts)
unfolding stop shift accepts lists_further
further k [] = refl
further k (sign s.Comma p ∷ []) = refl
further k (sign s.Comma p ∷ name n q ∷ m) = refl
further k (sign s.Comma p ∷ reserved w.Has q ∷ m) = refl
further k (sign s.Comma p ∷ t ∷ m) = refl
further k (name n p ∷ m) = refl
further k _ = refl

props_follow : (k : Stack) (ts : List Lexeme)
    → Follows (stop false (any_name ∷ value ∷ values_left ∷ props_left ∷ attributes_left ∷ k) ts) no_effect
    (attributes_left ∷ k) ts (props ts)
unfolding props lists_further
props_follow k ts = longer ts (follows_then _ (prop_follows (props_left ∷ attributes_left ∷ k) ts)
    (λ x r h. follows_then _
    (as_long_follow next_prop lists_further
    (token s.Comma ∷ any_name ∷ value ∷ values_left ∷ props_left ∷ attributes_left ∷ k)
    (props_left ∷ attributes_left ∷ k) (attributes_left ∷ k)
    (next_prop_follows (props_left ∷ attributes_left ∷ k)) (further k) refl (length r) r (omega arith))
    (λ xs u g. follows_read _ u refl (omega arith))))

properties_follow : (k : Stack) (ts : List Lexeme)
    → Follows (stop false (properties_after ∷ attributes_left ∷ k) ts) no_effect (attributes_left ∷ k) ts
    (properties ts)
unfolding stop shift accepts properties past_comma
properties_follow k [] = follows_read [] [] refl (omega arith)
properties_follow k (sign s.Comma p ∷ []) = follows_read [] _ refl (omega arith)
properties_follow k (sign s.Comma p ∷ reserved w.With q ∷ m) =
    follows_as {us = m} refl (omega arith) (props_follow k m)
properties_follow k (sign s.Comma p ∷ reserved w.Has q ∷ m) = follows_read [] _ refl (omega arith)
properties_follow k (sign s.Comma p ∷ name n q ∷ m) = follows_read [] _ refl (omega arith)
properties_follow k (sign s.Comma p ∷ t ∷ m) = follows_read [] _ refl (omega arith)
properties_follow k (reserved w.With p ∷ m) = follows_as {us = m} refl (omega arith) (props_follow k m)
properties_follow k (name n p ∷ m) = follows_read [] _ refl (omega arith)
properties_follow k _ = follows_read [] _ refl (omega arith)

pub object_follows : (k : Stack) (ts : List Lexeme)
    → Follows (stop false (frame.object_heading ∷ properties_after ∷ attributes_left ∷ token s.Semicolon ∷ k) ts)
    no_effect k ts (object_after ts)
unfolding object_after
object_follows k ts = follows_then _ (head_follows _ ts)
    (λ h r a. follows_then _ (properties_follow _ r)
    (λ xs u b. follows_then _ (attributes_follow _ u)
    (λ ns v c. past s.Semicolon false k v _ (λ y. follows_read _ y refl (omega arith)))))
