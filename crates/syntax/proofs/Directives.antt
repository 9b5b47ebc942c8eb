-- Directives and abbreviations.
use Rattle.std.proofs.Common.{◌≡◌, ℕ, Bool, false, cond, List, [], ◌∷◌, Some, None}
use Rattle.std.proofs.Common.{refl, arith}
use Rattle.std.specs.Prelude.{if◌then◌else◌}
use Rattle.syntax_lexer.specs.declared.token.Sign.TheVariants as s
use Rattle.syntax_lexer.specs.declared.token.Word.TheVariants as w
use Rattle.syntax_lexer.specs.Token.{Lexeme, name, reserved, sign}
use Rattle.syntax_trees.specs.Tree.{NameTree}
use Rattle.syntax_trees.specs.Parse.{◌>>=◌, tail, head, is_sign, is_word}
use Rattle.syntax_statements.specs.PartParse.{known_value, begins_value}
use Rattle.syntax_directives.specs.Tree.{DirectiveTree, global, property}
use Rattle.syntax_directives.specs.Parse.{kind, array_after, abbreviate_after, ended, global_after}
use Rattle.syntax_directives.specs.Parse.{constant_after, attribute_after, property_after, directive_of, routine_at}
use Rattle.syntax_directives.specs.Parse.{directive}
use Rattle.syntax.proofs.Frames.{Stack, token, any_name, any_text, texts_left, names_left, value}
use Rattle.syntax.proofs.Frames.{values_left}
use Rattle.syntax.proofs.Frames.{value_left, initial_left, array_kind, statements_left, on_entry}
use Rattle.syntax.proofs.Machine.{shift}
use Rattle.syntax.proofs.Machine.{accepts, stop}
use Rattle.syntax.proofs.After.{Follows, no_effect, onward, follows_read, follows_unfit, follows_as}
use Rattle.syntax.proofs.After.{follows_then}
use Rattle.syntax.proofs.After.{follows_by}
use Rattle.syntax.proofs.Expressions.{name_follows}
use Rattle.syntax.proofs.Values.{value_follows}
use Rattle.syntax.proofs.Rows.{names_follow, values_follow, texts_follow}
use Rattle.syntax.proofs.After.{longer, past}
use Rattle.syntax.proofs.Statements.{statements_follow}
use Rattle.syntax.proofs.Objects.{object_follows}

ended_follows : (x : DirectiveTree) (b : Bool) (k : Stack) (ts : List Lexeme)
    → Follows (stop b (token s.Semicolon ∷ k) ts) no_effect k ts (ended x ts)
unfolding ended
ended_follows x b k ts = past s.Semicolon b k ts _ (λ r. follows_read x r refl (omega arith))

pub abbreviate_follows : (k : Stack) (ts : List Lexeme)
    → Follows (stop false (any_text ∷ texts_left ∷ token s.Semicolon ∷ k) ts) no_effect k ts (abbreviate_after ts)
unfolding abbreviate_after
abbreviate_follows k ts = longer ts (follows_then _ (texts_follow (token s.Semicolon ∷ k) ts)
    (λ xs r h. past s.Semicolon false k r _ (λ u. follows_read xs u refl (omega arith))))

-- ---- arrays

kind_follows : (k : Stack) (ts : List Lexeme)
    → Follows (stop false (array_kind ∷ k) ts) no_effect k (tail ts) (kind ts)
unfolding stop shift accepts kind
kind_follows k [] = follows_unfit refl
kind_follows k (sign s.Arrow p ∷ m) = follows_read _ m refl (omega arith)
kind_follows k (sign s.LongArrow p ∷ m) = follows_read _ m refl (omega arith)
kind_follows k (reserved w.String p ∷ m) = follows_read _ m refl (omega arith)
kind_follows k (reserved w.Table p ∷ m) = follows_read _ m refl (omega arith)
kind_follows k (name n p ∷ m) = follows_unfit refl
kind_follows k _ = follows_unfit refl

array_follows : (k : Stack) (ts : List Lexeme)
    → Follows (stop false (any_name ∷ array_kind ∷ value ∷ values_left ∷ token s.Semicolon ∷ k) ts) no_effect k ts
    (array_after ts)
unfolding array_after
array_follows k ts = longer ts (follows_then _ (name_follows false _ ts)
    (λ n r a. longer r (follows_then _ (kind_follows _ r)
    (λ c u b. longer u (follows_then _ (values_follow _ u)
    (λ vs v d. past s.Semicolon false k v _ (λ y. follows_read _ y refl (omega arith))))))))

-- ---- globals, constants, attributes and properties

initial_follows : (n : NameTree) (k : Stack) (ts : List Lexeme)
    → Follows (stop false (initial_left ∷ token s.Semicolon ∷ k) ts) no_effect k ts
    (if is_sign s.Assign (head ts) then (known_value (tail ts) >>= λ x. ended (global n (Some x.0)) x.1)
    else ended (global n None) ts)
unfolding stop shift accepts
initial_follows n k [] = ended_follows _ false k []
initial_follows n k (t ∷ m) = follows_by (onward m) (is_sign s.Assign t) _ _
    (λ is. follows_as {us = m} refl (omega arith)
    (longer m (follows_then _ (value_follows false (token s.Semicolon ∷ k) m) (λ x r h. ended_follows _ false k r))))
    (λ is. ended_follows _ false k (t ∷ m))

global_follows : (k : Stack) (ts : List Lexeme)
    → Follows (stop false (any_name ∷ initial_left ∷ token s.Semicolon ∷ k) ts) no_effect k ts (global_after ts)
unfolding global_after
global_follows k ts = longer ts (follows_then _ (name_follows false _ ts) (λ n r h. initial_follows n k r))

constant_follows : (k : Stack) (ts : List Lexeme)
    → Follows (stop false (any_name ∷ token s.Assign ∷ value ∷ token s.Semicolon ∷ k) ts) no_effect k ts
    (constant_after ts)
unfolding constant_after
constant_follows k ts = longer ts (follows_then _ (name_follows false _ ts)
    (λ n r a. past s.Assign false _ r _
    (λ m. longer m (follows_then _ (value_follows false _ m) (λ x u b. ended_follows _ false k u)))))

attribute_follows : (k : Stack) (ts : List Lexeme)
    → Follows (stop false (any_name ∷ token s.Semicolon ∷ k) ts) no_effect k ts (attribute_after ts)
unfolding attribute_after
attribute_follows k ts = longer ts (follows_then _ (name_follows false _ ts) (λ n r h. ended_follows _ false k r))

-- a value, or none
one_value : (k : Stack) (ts : List Lexeme) → stop false (value_left ∷ k) ts
    ≡ cond (begins_value (head ts)) (stop false (value ∷ k) ts) (stop false k ts)
unfolding stop shift accepts
one_value k [] = refl
one_value k (reserved w.True p ∷ m) = refl
one_value k (reserved w.False p ∷ m) = refl
one_value k (reserved w.Nothing p ∷ m) = refl
one_value k (sign s.Minus p ∷ m) = refl
one_value k (name n p ∷ m) = refl
one_value k _ = refl

default_follows : (n : NameTree) (k : Stack) (ts : List Lexeme)
    → Follows (stop false (value_left ∷ token s.Semicolon ∷ k) ts) no_effect k ts
    (if begins_value (head ts) then (known_value ts >>= λ x. ended (property n (Some x.0)) x.1)
    else ended (property n None) ts)
default_follows n k ts = follows_as {us = ts} (one_value (token s.Semicolon ∷ k) ts) (omega arith)
    (follows_by (λ x. x) (begins_value (head ts)) _ _
    (λ is. longer ts (follows_then _ (value_follows false (token s.Semicolon ∷ k) ts)
    (λ x r h. ended_follows _ false k r)))
    (λ is. ended_follows _ false k ts))

property_follows : (k : Stack) (ts : List Lexeme)
    → Follows (stop false (any_name ∷ value_left ∷ token s.Semicolon ∷ k) ts) no_effect k ts (property_after ts)
unfolding property_after
property_follows k ts = longer ts (follows_then _ (name_follows false _ ts) (λ n r h. default_follows n k r))

-- ---- routines

routine_follows : (d : ℕ) (k : Stack) (t : Lexeme) (m : List Lexeme)
    → Follows (stop false
    (any_name ∷ names_left ∷ token s.Semicolon ∷ statements_left ∷ token s.CloseBracket ∷ token s.Semicolon ∷ k) m)
    no_effect k m (routine_at d (t ∷ m))
unfolding routine_at
routine_follows d k t m = longer m (follows_then _ (name_follows false _ m)
    (λ n r a. follows_then _ (names_follow _ r)
    (λ ns u b. past s.Semicolon false _ u _
    (λ v. follows_then _ (statements_follow d _ v)
    (λ xs y c. past s.CloseBracket false _ y _
    (λ z. past s.Semicolon false k z _ (λ o. follows_read _ o refl (omega arith))))))))

-- a directive, by its first token
pub directive_follows : (d : ℕ) (k : Stack) (t : Lexeme) (m : List Lexeme) → is_word w.Abbreviate t ≡ false
    → Follows (onward m (on_entry t k)) no_effect k m (directive d (t ∷ m))
unfolding directive directive_of
directive_follows d k (sign s.OpenBracket p) m e = follows_then _ (routine_follows d k (sign s.OpenBracket p) m)
    (λ x r h. follows_read _ r refl (omega arith))
directive_follows d k (reserved w.Global p) m e = global_follows k m
directive_follows d k (reserved w.Constant p) m e = constant_follows k m
directive_follows d k (reserved w.Array p) m e = follows_then _ (array_follows k m)
    (λ x r h. follows_read _ r refl (omega arith))
directive_follows d k (reserved w.Attribute p) m e = attribute_follows k m
directive_follows d k (reserved w.Property p) m e = property_follows k m
directive_follows d k (reserved w.Object p) m e = follows_then _ (object_follows k m)
    (λ x r h. follows_read _ r refl (omega arith))
directive_follows d k (reserved w.Abbreviate p) m e = absurd cc
directive_follows d k (name n p) m e = follows_unfit refl
directive_follows d k _ m e = follows_unfit refl
