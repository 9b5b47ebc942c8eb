-- What follows an object: properties.
use Rattle.std.proofs.Common.{◌≡◌, ℕ, zero, suc, ◌+◌, ◌-◌, ◌<◌, ◌≤◌, ◌⊎◌, inl, inr, true, false, List, [], ◌∷◌, ◌++◌}
use Rattle.std.proofs.Common.{length, Result, Ok, Err, refl, sym, ◌∙◌, arith}
use Rattle.std.proofs.lemmas.List.{length-map}
use Rattle.syntax_lexer.specs.declared.token.Sign.TheVariants as s
use Rattle.syntax_lexer.specs.declared.token.Token.{Token}
use Rattle.syntax_lexer.specs.Token.{Lexeme, lexeme, lexemes}
use Rattle.syntax_trees.specs.declared.tree.Name.{Name}
use Rattle.syntax_trees.specs.Tree.{NameTree, ExpressionTree, property}
use Rattle.syntax_trees.specs.Views.{name_tree, propertied}
use Rattle.syntax_trees.specs.Stop.{Stop, stop_of}
use Rattle.syntax_trees.specs.declared.error.ParseError.{ParseError}
use Rattle.syntax_trees.specs.declared.error.ParseError.TheVariants as errors
use Rattle.syntax_trees.specs.Parse.{Fails, head, tail, is_sign}
use Rattle.syntax_expressions.specs.PartParse.{expect_name, properties, property_next}

-- ---- one property

pub property_named : (e : ExpressionTree) (ts r : List Lexeme) (n : NameTree) → expect_name ts ≡ Ok (n, r)
    → property_next e ts ≡ Ok (property e n, r)
unfolding property_next
property_named e ts r n h = rw h refl

pub property_unnamed : (fault : ParseError) (e : ExpressionTree) (ts : List Lexeme) → Fails fault (expect_name ts)
    → Fails fault (property_next e ts)
unfolding property_next
property_unnamed errors.Memory e ts h = tt
property_unnamed (errors.Fault f count) e ts h = rw h refl

propertied_push : (e : ExpressionTree) (ns : List Name) (n : Name)
    → propertied e (ns ++ n ∷ []) ≡ property (propertied e ns) (name_tree n)
propertied_push e [] n = refl
propertied_push e (m ∷ ns) n = propertied_push (property e (name_tree m)) ns n

-- ---- the loop over properties, a turn at a time

pub properties_stop : (n : ℕ) (e : ExpressionTree) (ts : List Lexeme) → is_sign s.Dot (head ts) ≡ false
    → properties n e ts ≡ Ok (e, ts)
unfolding properties
properties_stop zero e ts h = refl
properties_stop (suc n) e ts h = rw h refl

properties_done : (n i : ℕ) (e : ExpressionTree) (ts : List Lexeme) → n ≤ i → properties (n - i) e ts ≡ Ok (e, ts)
unfolding properties
properties_done n i e ts le = let k : n - i ≡ 0 = omega arith in rw k refl

properties_turn : (n i : ℕ) (e a : ExpressionTree) (ts us r : List Lexeme) → i < n
    → is_sign s.Dot (head ts) ≡ true → us ≡ tail ts → property_next e us ≡ Ok (a, r)
    → properties (n - i) e ts ≡ properties (n - (i + 1)) a r
unfolding properties
properties_turn n i e a ts us r lt h u g = let k : n - i ≡ suc (n - (i + 1)) = omega arith in rw (k, h, ← u, g) refl

pub properties_next : (n i : ℕ) (e : ExpressionTree) (ns : List Name) (x : Name) (ts us r : List Lexeme) → i < n
    → is_sign s.Dot (head ts) ≡ true → us ≡ tail ts → expect_name us ≡ Ok (name_tree x, r)
    → properties (n - i) (propertied e ns) ts ≡ properties (n - (i + 1)) (propertied e (ns ++ x ∷ [])) r
properties_next n i e ns x ts us r lt h u g = rw (propertied_push e ns x)
    (properties_turn n i (propertied e ns) (property (propertied e ns) (name_tree x)) ts us r lt h u
    (property_named (propertied e ns) us r (name_tree x) g))

-- where a name is missing
properties_broken : (fault : ParseError) (n i : ℕ) (e : ExpressionTree) (ts us : List Lexeme)
    (total : Result (ExpressionTree × List Lexeme) Stop) → i < n → is_sign s.Dot (head ts) ≡ true
    → us ≡ tail ts → Fails fault (property_next e us) → properties (n - i) e ts ≡ total → Fails fault total
unfolding properties
properties_broken errors.Memory n i e ts us total lt h u g so_far = tt
properties_broken (errors.Fault f count) n i e ts us total lt h u g so_far =
    let k : n - i ≡ suc (n - (i + 1)) = omega arith in
    let one : properties (n - i) e ts ≡ Err (stop_of f count) = rw (k, h, ← u, g) refl in
    sym so_far ∙ one

pub properties_fail : (fault : ParseError) (n i : ℕ) (e : ExpressionTree) (ts us : List Lexeme)
    (total : Result (ExpressionTree × List Lexeme) Stop) → i < n → is_sign s.Dot (head ts) ≡ true
    → us ≡ tail ts → Fails fault (expect_name us) → properties (n - i) e ts ≡ total → Fails fault total
properties_fail fault n i e ts us total lt h u g so_far =
    properties_broken fault n i e ts us total lt h u (property_unnamed fault e us g) so_far

-- the first turn, from the tokens of the code

pub properties_none : (e : ExpressionTree) (ts : List Lexeme) → is_sign s.Dot (head ts) ≡ false
    → properties (length ts) e ts ≡ Ok (e, ts)
properties_none e ts h = properties_stop (length ts) e ts h

begins : (e a : ExpressionTree) (ts : List Token) (us r : List Lexeme)
    → is_sign s.Dot (head (lexemes ts)) ≡ true → us ≡ tail (lexemes ts) → property_next e us ≡ Ok (a, r)
    → properties (length ts - 1) a r ≡ properties (length (lexemes ts)) e (lexemes ts)
unfolding properties
begins e a [] us r h u g = absurd cc
begins e a (t ∷ ts) us r h u g =
    let k : length (t ∷ ts) - 1 ≡ length (lexemes ts) = omega (arith, length-map ts lexeme) in
    rw (k, h, ← u, g) refl

pub properties_begin : (e : ExpressionTree) (x : Name) (ts : List Token) (us r : List Lexeme)
    → is_sign s.Dot (head (lexemes ts)) ≡ true → us ≡ tail (lexemes ts) → expect_name us ≡ Ok (name_tree x, r)
    → properties (length ts - 1) (propertied (property e (name_tree x)) []) r
    ≡ properties (length (lexemes ts)) e (lexemes ts)
properties_begin e x ts us r h u g = begins e (property e (name_tree x)) ts us r h u
    (property_named e us r (name_tree x) g)

begins_broken : (fault : ParseError) (e : ExpressionTree) (ts : List Token) (us : List Lexeme)
    → is_sign s.Dot (head (lexemes ts)) ≡ true → us ≡ tail (lexemes ts) → Fails fault (property_next e us)
    → Fails fault (properties (length (lexemes ts)) e (lexemes ts))
unfolding properties
begins_broken errors.Memory e ts us h u g = tt
begins_broken (errors.Fault f count) e [] us h u g = absurd cc
begins_broken (errors.Fault f count) e (t ∷ ts) us h u g = rw (h, ← u, g) refl

pub properties_begin_fails : (fault : ParseError) (e : ExpressionTree) (ts : List Token) (us : List Lexeme)
    → is_sign s.Dot (head (lexemes ts)) ≡ true → us ≡ tail (lexemes ts) → Fails fault (expect_name us)
    → Fails fault (properties (length (lexemes ts)) e (lexemes ts))
properties_begin_fails fault e ts us h u g = begins_broken fault e ts us h u (property_unnamed fault e us g)

-- where the loop ends, after all turns or at another token
pub properties_read : (n i : ℕ) (e : ExpressionTree) (r : List Lexeme)
    (total : Result (ExpressionTree × List Lexeme) Stop) → properties (n - i) e r ≡ total
    → (n ≤ i) ⊎ (is_sign s.Dot (head r) ≡ false) → total ≡ Ok (e, r)
properties_read n i e r total so_far (inl le) = sym so_far ∙ properties_done n i e r le
properties_read n i e r total so_far (inr h) = sym so_far ∙ properties_stop (n - i) e r h
