-- Where what is looked ahead is settled, no more tokens change it.
use Rattle.std.proofs.Common.{◌≡◌, ◌∙◌, ◌&&◌, ◌||◌, ◌++◌, ℕ, Bool, true, false, if◌then◌else◌, nat_lt, List, [], ◌∷◌}
use Rattle.std.proofs.Common.{refl, sym, ap, append-nil}
use Rattle.std.specs.List.{fold}
use Rattle.syntax_lexer.specs.Token.{Lexeme, position_of}
use Rattle.syntax_lexer.specs.declared.token.Position.{Position}
use Rattle.syntax_lexer.specs.declared.token.Sign.TheVariants as s
use Rattle.derive_tokens.specs.Tokens.{is_sign}
use Rattle.derive_statements.specs.Lists.{deeper, ends_statement}
use Rattle.derive_values.specs.declared.places.Scope.{Scope}
use Rattle.derive_entries.specs.declared.entries.Frame.{Frame}
use Rattle.derive_entries.specs.declared.operands.Part.{Part}
use Rattle.derive_entries.specs.declared.operands.Part.TheVariants as parts
use Rattle.derive_entries.specs.Arrays.{is_arrow}
use Rattle.derive_entries.specs.Entries.{begun_as, is_begun, routine_called}
use Rattle.derive_entries.specs.Operands.{Look, sought, indexed, taken, assigned, none, is_settled, look_after}
use Rattle.derive_entries.specs.Operands.{arrow_ahead, belongs, look_of, part_begun, part_within, takes_entry}

taken_stays : (arrow : Lexeme) (ts : List Lexeme) → fold look_after (taken arrow) ts ≡ taken arrow
taken_stays arrow [] = refl
taken_stays arrow (t ∷ ts) = taken_stays arrow ts

assigned_stays : (arrow : Lexeme) (ts : List Lexeme) → fold look_after (assigned arrow) ts ≡ assigned arrow
assigned_stays arrow [] = refl
assigned_stays arrow (t ∷ ts) = assigned_stays arrow ts

none_stays : (ts : List Lexeme) → fold look_after none ts ≡ none
none_stays [] = refl
none_stays (t ∷ ts) = none_stays ts

pub no_change : (look : Look) (ts : List Lexeme) → is_settled look ≡ true → fold look_after look ts ≡ look
no_change (sought part n) ts e = absurd cc
no_change (indexed arrow part n) ts e = absurd cc
no_change (taken arrow) ts e = taken_stays arrow ts
no_change (assigned arrow) ts e = assigned_stays arrow ts
no_change none ts e = none_stays ts

-- ---- where no sign of an entry comes before the end of the statement

one_sought : (found : Look → List Lexeme) (ends deep takes arrow ahead : Bool) (x y : Look)
    → (if ends then false else if arrow then true else ahead) ≡ false → (ahead ≡ false → found x ≡ []) → found none ≡ []
    → found (if ends then none else if deep then x else if takes && arrow then y else none) ≡ []
one_sought found true deep takes arrow ahead x y e on last = last
one_sought found false true takes true ahead x y e on last = absurd cc
one_sought found false true takes false ahead x y e on last = on e
one_sought found false false takes true ahead x y e on last = absurd cc
one_sought found false false true false ahead x y e on last = last
one_sought found false false false false ahead x y e on last = last

not_sought : (p : Position) (part : Part) (n : ℕ) (ts : List Lexeme) → arrow_ahead ts ≡ false
    → routine_called p (fold look_after (sought part n) ts) ≡ []
not_sought p part n [] e = refl
not_sought p part n (t ∷ ts) e =
    one_sought (λ (look : Look). routine_called p (fold look_after look ts)) (ends_statement t)
    (nat_lt 0 n || belongs part t) (takes_entry part) (is_arrow t) (arrow_ahead ts)
    (sought (part_within part n t) (deeper n t)) (indexed t parts.Before 0) e
    (not_sought p (part_within part n t) (deeper n t) ts) (ap (routine_called p) (none_stays ts))

begun_either : (p : Position) (bracket : Bool) (part : Part) (ts : List Lexeme) → arrow_ahead ts ≡ false
    → routine_called p (fold look_after (if bracket then sought parts.Read 1 else sought part 0) ts) ≡ []
begun_either p true part ts e = not_sought p parts.Read 1 ts e
begun_either p false part ts e = not_sought p part 0 ts e

only_if : (b : Bool) (us : List Lexeme) → us ≡ [] → (if b then us else []) ≡ []
only_if true us e = e
only_if false us e = refl

pub begun_none : (array : Bool) (scope : Scope) (f : Frame) (t : Lexeme) (rest : List Lexeme)
    → arrow_ahead rest ≡ false → begun_as array scope f t rest ≡ []
begun_none array scope f t rest e =
    only_if (is_begun scope f t rest) (routine_called (position_of t) (look_of array t rest))
    (begun_either (position_of t) (is_sign s.OpenParenthesis t) (part_begun array t) rest e)

pub none_begun : (array : Bool) (scope : Scope) (f : Frame) (t : Lexeme) (rest out : List Lexeme)
    → arrow_ahead rest ≡ false → out ≡ out ++ begun_as array scope f t rest
none_begun array scope f t rest out e =
    sym (ap (λ (us : List Lexeme). out ++ us) (begun_none array scope f t rest e) ∙ append-nil out)

neither : (ends arrow ahead : Bool) → (ends || arrow) ≡ false
    → (if ends then false else if arrow then true else ahead) ≡ ahead
neither true arrow ahead e = absurd cc
neither false true ahead e = absurd cc
neither false false ahead e = refl

-- Between such signs and ends it stays as it is.
pub same_ahead : (t : Lexeme) (ts : List Lexeme) → (ends_statement t || is_arrow t) ≡ false
    → arrow_ahead (t ∷ ts) ≡ arrow_ahead ts
same_ahead t ts e = neither (ends_statement t) (is_arrow t) (arrow_ahead ts) e
