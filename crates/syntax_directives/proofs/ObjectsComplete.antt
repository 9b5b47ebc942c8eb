-- What derives as an object is read as that object.
use Rattle.std.proofs.Common.{◌≡◌, ℕ, zero, suc, ◌≤◌, true, false, List, [], ◌∷◌, length, Option, None, Result, Ok}
use Rattle.std.proofs.Common.{refl, arith}
use Rattle.syntax_lexer.specs.declared.token.Position.{Position}
use Rattle.syntax_lexer.specs.declared.token.Sign.TheVariants as s
use Rattle.syntax_lexer.specs.declared.token.Word.TheVariants as w
use Rattle.syntax_lexer.specs.Token.{Lexeme, name, reserved, sign}
use Rattle.syntax_trees.specs.Tree.{NameTree}
use Rattle.syntax_trees.specs.Stop.{Stop}
use Rattle.syntax_trees.specs.Parse.{◌>>=◌, head, is_sign, is_word, expect, as_long, repeated}
use Rattle.syntax_expressions.specs.PartParse.{is_name, expect_name}
use Rattle.syntax_statements.specs.PartParse.{begins_value}
use Rattle.syntax_directives.specs.Tree.{TextTree, PropertyTree, HeadTree}
use Rattle.syntax_directives.specs.Grammar.{IsArrows, arrows_stop, arrows_next, short_none, short_text, IsHead}
use Rattle.syntax_directives.specs.Grammar.{IsShortName}
use Rattle.syntax_directives.specs.Grammar.{head_arrows, head_parent, IsProp, prop_values, IsProps, props_last}
use Rattle.syntax_directives.specs.Grammar.{props_comma, comma_none, comma_one, IsProperties, properties_none}
use Rattle.syntax_directives.specs.Grammar.{properties_with, IsAttributes, attributes_none, attributes_has}
use Rattle.syntax_directives.specs.Parse.{arrow, arrows, short_on, short, parent_on, parent, object_heading}
use Rattle.syntax_directives.specs.Parse.{past_comma, prop, lists_further, next_prop, props, properties, attributes}
use Rattle.syntax_directives.specs.Parse.{object_after}
use Rattle.syntax_directives.proofs.Lists.{some_names_read, values_read}
use Rattle.syntax_directives.proofs.ObjectsRead.{short_Prop}

-- ---- the tokens that end what stands before the lists of an object

data Ends : Lexeme → Type 0 where
  ends_comma : {p : Position} → Ends (sign s.Comma p)
  ends_semicolon : {p : Position} → Ends (sign s.Semicolon p)
  ends_with : {p : Position} → Ends (reserved w.With p)
  ends_has : {p : Position} → Ends (reserved w.Has p)

attributes_end : {l r : List Lexeme} {ns : List NameTree} {q : Position}
    → IsAttributes l ns (sign s.Semicolon q ∷ r) → Ends (head l)
attributes_end attributes_none = ends_semicolon
attributes_end (attributes_has comma_none a lt) = ends_has
attributes_end (attributes_has comma_one a lt) = ends_comma

properties_end : {k l r : List Lexeme} {xs : List PropertyTree} {ns : List NameTree} {q : Position}
    → IsProperties k xs l → IsAttributes l ns (sign s.Semicolon q ∷ r) → Ends (head k)
properties_end properties_none b = attributes_end b
properties_end (properties_with comma_none a) b = ends_with
properties_end (properties_with comma_one a) b = ends_comma

no_short : {t : Lexeme} (ts : List Lexeme) → Ends t → short_on t ts ≡ Ok (None, ts)
no_short ts ends_comma = refl
no_short ts ends_semicolon = refl
no_short ts ends_with = refl
no_short ts ends_has = refl

no_parent_on : {t : Lexeme} (ts : List Lexeme) → Ends t → parent_on t ts ≡ Ok (None, ts)
no_parent_on ts ends_comma = refl
no_parent_on ts ends_semicolon = refl
no_parent_on ts ends_with = refl
no_parent_on ts ends_has = refl

no_parent : (ps : List Position) (ts : List Lexeme) → Ends (head ts) → parent ps ts ≡ Ok (None, ts)
unfolding parent
no_parent [] ts e = no_parent_on ts e
no_parent (p ∷ ps) ts e = refl

no_value : {t : Lexeme} → Ends t → begins_value t ≡ false
no_value ends_comma = refl
no_value ends_semicolon = refl
no_value ends_with = refl
no_value ends_has = refl

-- ---- what derives is read

turns_Arrows : {ts r : List Lexeme} {ps : List Position} → IsArrows ts ps r → is_sign s.Arrow (head r) ≡ false
    → (n : ℕ) → length ts ≤ n → repeated (is_sign s.Arrow) arrow n ts ≡ Ok (ps, r)
unfolding repeated as_long arrow expect
turns_Arrows arrows_stop e zero le = refl
turns_Arrows arrows_stop e (suc n) le = rw e refl
turns_Arrows (arrows_next a) e zero le = absurd (omega arith)
turns_Arrows (arrows_next a) e (suc n) le = rw (turns_Arrows a e n (omega arith)) refl

arrows_read : {r : List Lexeme} {ps : List Position} (ts : List Lexeme) → IsArrows ts ps r
    → is_sign s.Arrow (head r) ≡ false → arrows ts ≡ Ok (ps, r)
unfolding arrows
arrows_read ts a e = turns_Arrows a e (length ts) (omega arith)

short_read : {ts r : List Lexeme} {x : Option TextTree} → IsShortName ts x r → short_on (head r) r ≡ Ok (None, r)
    → short ts ≡ Ok (x, r)
unfolding short
short_read short_none e = e
short_read short_text e = refl

heading_read : {ts r : List Lexeme} {h : HeadTree} → IsHead ts h r → Ends (head r) → object_heading ts ≡ Ok (h, r)
unfolding object_heading expect_name parent
heading_read {ts} {r} (head_arrows {ps = ps} a b) e = rw
    (arrows_read ts a refl, short_read b (no_short r e), no_parent ps r e) refl
heading_read {ts} (head_parent b) e = rw (arrows_read ts arrows_stop refl, short_read b refl) refl

prop_read : {ts r : List Lexeme} {x : PropertyTree} → IsProp ts x r → begins_value (head r) ≡ false
    → prop ts ≡ Ok (x, r)
unfolding prop expect_name
prop_read (prop_values a lt) e = rw (values_read a lt e) refl

begins_Props : {ts r : List Lexeme} {xs : List PropertyTree} → IsProps ts xs r → is_name (head ts) ≡ true
begins_Props (props_last (prop_values a lt)) = refl
begins_Props (props_comma (prop_values a lt) b) = refl

abbrev with_first : PropertyTree → List PropertyTree × List Lexeme → Result (List PropertyTree × List Lexeme) Stop
with_first x y = Ok (x ∷ y.0, y.1)

turns_Props : {ts r : List Lexeme} {xs : List PropertyTree} → IsProps ts xs r → begins_value (head r) ≡ false
    → lists_further r ≡ false → (n : ℕ) → length ts ≤ n
    → (prop ts >>= λ x. as_long lists_further next_prop n x.1 >>= with_first x.0) ≡ Ok (xs, r)
unfolding as_long next_prop expect lists_further
turns_Props (props_last a) e f zero le = rw (prop_read a e) refl
turns_Props (props_last a) e f (suc n) le = rw (prop_read a e, f) refl
turns_Props (props_comma a b) e f zero le = absurd (omega (arith, short_Prop a))
turns_Props (props_comma a b) e f (suc n) le =
    let rest = turns_Props b e f n (omega (arith, short_Prop a)) in
    rw (prop_read a refl, begins_Props b, rest) refl

others_stop : {x : PropertyTree} (r : List Lexeme) → lists_further r ≡ false
    → (as_long lists_further next_prop (length r) r >>= with_first x) ≡ Ok (x ∷ [], r)
unfolding as_long
others_stop [] f = refl
others_stop (t ∷ r) f = rw f refl

props_read : {r : List Lexeme} {xs : List PropertyTree} (ts : List Lexeme) → IsProps ts xs r
    → begins_value (head r) ≡ false → lists_further r ≡ false → props ts ≡ Ok (xs, r)
unfolding props as_long next_prop expect lists_further
props_read ts (props_last a) e f = rw (prop_read a e) (others_stop _ f)
props_read ts (props_comma {m = m} a b) e f =
    let rest = turns_Props b e f (length m) (omega arith) in
    rw (prop_read a refl, begins_Props b, rest) refl

no_more : {l r : List Lexeme} {ns : List NameTree} {q : Position} → IsAttributes l ns (sign s.Semicolon q ∷ r)
    → lists_further l ≡ false
unfolding lists_further
no_more attributes_none = refl
no_more (attributes_has comma_none a lt) = refl
no_more (attributes_has comma_one a lt) = refl

no_with : {l r : List Lexeme} {ns : List NameTree} {q : Position} → IsAttributes l ns (sign s.Semicolon q ∷ r)
    → is_word w.With (head (past_comma l)) ≡ false
unfolding past_comma
no_with attributes_none = refl
no_with (attributes_has comma_none a lt) = refl
no_with (attributes_has comma_one a lt) = refl

properties_read : {k l r : List Lexeme} {xs : List PropertyTree} {ns : List NameTree} {q : Position}
    → IsProperties k xs l → IsAttributes l ns (sign s.Semicolon q ∷ r) → properties k ≡ Ok (xs, l)
unfolding properties past_comma
properties_read properties_none b = rw (no_with b) refl
properties_read (properties_with {m = m} comma_none a) b = props_read m a (no_value (attributes_end b)) (no_more b)
properties_read (properties_with {m = m} comma_one a) b = props_read m a (no_value (attributes_end b)) (no_more b)

attributes_read : {l r : List Lexeme} {ns : List NameTree} {q : Position}
    → IsAttributes l ns (sign s.Semicolon q ∷ r) → attributes l ≡ Ok (ns, sign s.Semicolon q ∷ r)
unfolding attributes past_comma
attributes_read attributes_none = refl
attributes_read (attributes_has {m = m} comma_none a lt) = some_names_read m a lt refl
attributes_read (attributes_has {m = m} comma_one a lt) = some_names_read m a lt refl

pub object_read : {m k l r : List Lexeme} {q : Position} {h : HeadTree} {xs : List PropertyTree} {ns : List NameTree}
    → IsHead m h k → IsProperties k xs l → IsAttributes l ns (sign s.Semicolon q ∷ r)
    → object_after m ≡ Ok (
      record {
        arrows = h.arrows;
        name = h.name;
        short = h.short;
        parent = h.parent;
        properties = xs;
        attributes = ns;
      },
      r,
    )
unfolding object_after expect
object_read a b c = rw (heading_read a (properties_end b c), properties_read b c, attributes_read c) refl
