-- The arrows and the parent of an object, read one by one.
use Rattle.std.proofs.Common.{◌≡◌, ℕ, ◌+◌, ◌-◌, ◌<◌, ◌≤◌, true, false, List, [], ◌∷◌, ◌++◌, length, Some, None, Ok}
use Rattle.std.proofs.Common.{refl, sym, ap, subst, ◌∙◌, arith}
use Rattle.std.specs.Prelude.{map}
use Rattle.syntax_lexer.specs.declared.token.Position.{Position}
use Rattle.syntax_lexer.specs.declared.token.Sign.TheVariants as s
use Rattle.syntax_lexer.specs.Token.{Lexeme, name, position_of}
use Rattle.syntax_trees.specs.declared.tree.Name.{Name}
use Rattle.syntax_trees.specs.Views.{name_tree}
use Rattle.syntax_trees.specs.Parse.{head, tail, is_sign, expect, repeated}
use Rattle.syntax_trees.proofs.Loops.{joined, repeated_out, repeated_done, repeated_more}
use Rattle.syntax_expressions.specs.PartParse.{is_name}
use Rattle.syntax_directives.specs.Parse.{arrow, parent, parent_on}

itself : Position → Position
itself p = p

map_itself : (ps : List Position) → map itself ps ≡ ps
unfolding itself
map_itself [] = refl
map_itself (p ∷ ps) = ap (λ qs. p ∷ qs) (map_itself ps)

pub arrows_out : (n i : ℕ) (front : List Position) (ts : List Lexeme) → n ≤ i
    → joined front (repeated (is_sign s.Arrow) arrow (n - i) ts) ≡ Ok (front, ts)
arrows_out n i front ts le =
    subst (λ ps. joined ps (repeated (is_sign s.Arrow) arrow (n - i) ts) ≡ Ok (ps, ts)) (map_itself front)
    (repeated_out itself (is_sign s.Arrow) arrow n i front ts le)

pub arrows_done : (n : ℕ) (front : List Position) (ts : List Lexeme) → is_sign s.Arrow (head ts) ≡ false
    → joined front (repeated (is_sign s.Arrow) arrow n ts) ≡ Ok (front, ts)
arrows_done n front ts e =
    subst (λ ps. joined ps (repeated (is_sign s.Arrow) arrow n ts) ≡ Ok (ps, ts)) (map_itself front)
    (repeated_done itself (is_sign s.Arrow) arrow n front ts e)

arrow_read : (ts : List Lexeme) → is_sign s.Arrow (head ts) ≡ true → arrow ts ≡ Ok (position_of (head ts), tail ts)
unfolding arrow expect
arrow_read ts e = rw e refl

pub arrows_more : (n i : ℕ) (front : List Position) (ts : List Lexeme) → i < n → is_sign s.Arrow (head ts) ≡ true
    → joined front (repeated (is_sign s.Arrow) arrow (n - i) ts)
    ≡ joined (front ++ position_of (head ts) ∷ []) (repeated (is_sign s.Arrow) arrow (n - (i + 1)) (tail ts))
unfolding itself
arrows_more n i front ts lt e =
    let more = repeated_more itself (is_sign s.Arrow) arrow n i front ts (position_of (head ts)) (tail ts) lt e
    (arrow_read ts e) in
    ap (λ ps. joined ps (repeated (is_sign s.Arrow) arrow (n - i) ts)) (sym (map_itself front)) ∙ more
    ∙ ap (λ ps. joined ps (repeated (is_sign s.Arrow) arrow (n - (i + 1)) (tail ts)))
    (map_itself (front ++ position_of (head ts) ∷ []))

-- ---- the parent

pub parent_after_arrows : (ps : List Position) (ts : List Lexeme) → 0 < length ps → parent ps ts ≡ Ok (None, ts)
unfolding parent
parent_after_arrows [] ts lt = absurd (omega (arith, lt))
parent_after_arrows (p ∷ ps) ts lt = refl

no_arrows : (ps : List Position) (ts : List Lexeme) → length ps ≡ 0 → parent ps ts ≡ parent_on (head ts) ts
unfolding parent
no_arrows [] ts e = refl
no_arrows (p ∷ ps) ts e = absurd (omega (arith, e))

pub parent_found : (ps : List Position) (ts : List Lexeme) (n : Name) → length ps ≡ 0
    → head ts ≡ name n.text.now n.position → parent ps ts ≡ Ok (Some (name_tree n), tail ts)
parent_found ps ts n e h = no_arrows ps ts e ∙ ap (λ t. parent_on t ts) h

nobody : (ts : List Lexeme) (t : Lexeme) → is_name t ≡ false → parent_on t ts ≡ Ok (None, ts)
nobody ts (name n p) e = absurd cc
nobody ts _ e = refl

pub parent_absent : (ps : List Position) (ts : List Lexeme) → length ps ≡ 0 → is_name (head ts) ≡ false
    → parent ps ts ≡ Ok (None, ts)
parent_absent ps ts e h = no_arrows ps ts e ∙ nobody ts (head ts) h
