-- Names and values, one after another: what is read derives, and what derives is read. In them no token stands too
-- deep.
use Rattle.std.proofs.Common.{◌≡◌, ℕ, zero, suc, ◌<◌, ◌≤◌, true, false, List, [], ◌∷◌, length, Ok, refl, sym, subst}
use Rattle.std.proofs.Common.{arith}
use Rattle.syntax_lexer.specs.Token.{Lexeme, name}
use Rattle.syntax_trees.specs.Tree.{NameTree}
use Rattle.syntax_trees.specs.Parse.{head, as_long, repeated}
use Rattle.syntax_expressions.specs.PartParse.{is_name, expect_name}
use Rattle.syntax_expressions.proofs.Judged.{Judged, judged_read, judged_grammar, judged_then}
use Rattle.syntax_expressions.proofs.NamesRead.{name_judged}
use Rattle.syntax_statements.specs.PartParse.{known_value, begins_value}
use Rattle.syntax_statements.proofs.KnownValues.{known_judged, known_read, short_K, begins_K}
use Rattle.syntax_statements.proofs.SoundRows.{repeated_judged}
use Rattle.syntax_directives.specs.Tree.{ValueTree}
use Rattle.syntax_directives.specs.Grammar.{IsNames, names_stop, names_next, IsValue, v_value, IsValues, values_stop}
use Rattle.syntax_directives.specs.Grammar.{values_next}
use Rattle.syntax_directives.specs.Parse.{names, some_on, some_names, array_value, values}

-- ---- names

pub names_judged : (ts : List Lexeme) → Judged (λ ns r. IsNames ts ns r) (λ i. ⊥) (names ts)
unfolding names
names_judged ts =
    repeated_judged is_name expect_name (λ us n r. us ≡ name n.text n.position ∷ r)
    (λ us ns r. IsNames us ns r) (λ us i. ⊥) (λ us i. ⊥)
    (λ r. names_stop)
    (λ us n m ns r q l. subst (λ v. IsNames v (n ∷ ns) r) (sym q) (names_next l))
    (λ us i e x. x)
    (λ us n m i q x. x)
    name_judged (length ts) ts

turns_Names : {ts r : List Lexeme} {ns : List NameTree} → IsNames ts ns r → is_name (head r) ≡ false → (n : ℕ)
    → length ts ≤ n → repeated is_name expect_name n ts ≡ Ok (ns, r)
unfolding repeated as_long expect_name
turns_Names names_stop e zero le = refl
turns_Names names_stop e (suc n) le = rw e refl
turns_Names (names_next a) e zero le = absurd (omega arith)
turns_Names (names_next a) e (suc n) le = rw (turns_Names a e n (omega arith)) refl

pub names_read : {r : List Lexeme} {ns : List NameTree} (ts : List Lexeme) → IsNames ts ns r → is_name (head r) ≡ false
    → names ts ≡ Ok (ns, r)
unfolding names
names_read ts a e = turns_Names a e (length ts) (omega arith)

pub short_Names : {ts r : List Lexeme} {ns : List NameTree} → IsNames ts ns r → length r ≤ length ts
short_Names names_stop = omega arith
short_Names (names_next a) = omega (arith, short_Names a)

-- ---- names, at least one

some_judged : {ts : List Lexeme} (ns : List NameTree) (r : List Lexeme) → IsNames ts ns r
    → Judged (λ ms u. IsNames ts ms u × (0 < length ms)) (λ i. ⊥) (some_on ns r)
some_judged [] r a = judged_grammar
some_judged (n ∷ ns) r a = judged_read (n ∷ ns) r (a, omega arith)

pub some_names_judged : (ts : List Lexeme) → Judged (λ ns r. IsNames ts ns r × (0 < length ns)) (λ i. ⊥) (some_names ts)
unfolding some_names
some_names_judged ts = judged_then _ (names_judged ts) (λ ns r a. some_judged ns r a) (λ i x. x)

some_read : (ns : List NameTree) (r : List Lexeme) → 0 < length ns → some_on ns r ≡ Ok (ns, r)
some_read [] r lt = absurd (omega (arith, lt))
some_read (n ∷ ns) r lt = refl

pub some_names_read : {r : List Lexeme} {ns : List NameTree} (ts : List Lexeme) → IsNames ts ns r → 0 < length ns
    → is_name (head r) ≡ false → some_names ts ≡ Ok (ns, r)
unfolding some_names
some_names_read {r} {ns} ts a lt e = rw (names_read ts a e) (some_read ns r lt)

-- ---- values of arrays and properties

pub placed_judged : (ts : List Lexeme) → Judged (λ v r. IsValue ts v r) (λ i. ⊥) (array_value ts)
unfolding array_value known_value
placed_judged [] = judged_grammar
placed_judged (t ∷ m) = judged_then _ (known_judged (t ∷ m)) (λ k r h. judged_read _ r (v_value h)) (λ i x. x)

pub values_judged : (ts : List Lexeme) → Judged (λ vs r. IsValues ts vs r × (0 < length vs)) (λ i. ⊥) (values ts)
unfolding values
values_judged ts = judged_then _ (placed_judged ts)
    (λ v r h. judged_then _
    (repeated_judged begins_value array_value IsValue IsValues (λ us i. ⊥) (λ us i. ⊥)
    (λ u. values_stop)
    (λ us a m vs u q l. values_next q l)
    (λ us i e x. x)
    (λ us a m i q x. x)
    placed_judged (length r) r) (λ vs u l. judged_read (v ∷ vs) u (values_next h l, omega arith)) (λ i x. x))
    (λ i x. x)

begins_Value : {ts r : List Lexeme} {v : ValueTree} → IsValue ts v r → begins_value (head ts) ≡ true
begins_Value (v_value a) = begins_K a

placed_read : {ts r : List Lexeme} {v : ValueTree} → IsValue ts v r → array_value ts ≡ Ok (v, r)
unfolding array_value
placed_read (v_value a) = rw (known_read a) refl

pub short_Value : {ts r : List Lexeme} {v : ValueTree} → IsValue ts v r → length r < length ts
short_Value (v_value a) = short_K a

pub short_Values : {ts r : List Lexeme} {vs : List ValueTree} → IsValues ts vs r → length r ≤ length ts
short_Values values_stop = omega arith
short_Values (values_next a b) = omega (arith, short_Value a, short_Values b)

turns_Values : {ts r : List Lexeme} {vs : List ValueTree} → IsValues ts vs r → begins_value (head r) ≡ false
    → (n : ℕ) → length ts ≤ n → repeated begins_value array_value n ts ≡ Ok (vs, r)
unfolding repeated as_long
turns_Values values_stop e zero le = refl
turns_Values values_stop e (suc n) le = rw e refl
turns_Values (values_next a b) e zero le = absurd (omega (arith, short_Value a))
turns_Values (values_next a b) e (suc n) le =
    let rest = turns_Values b e n (omega (arith, short_Value a)) in
    rw (begins_Value a, placed_read a, rest) refl

pub values_read : {ts r : List Lexeme} {vs : List ValueTree} → IsValues ts vs r → 0 < length vs
    → begins_value (head r) ≡ false → values ts ≡ Ok (vs, r)
unfolding values
values_read values_stop lt e = absurd (omega arith)
values_read (values_next {m = m} a b) lt e = rw (placed_read a, turns_Values b e (length m) (omega arith)) refl
