-- The characters of a text are no computed constant, but for one alone; they stay as entries.
use Rattle.std.proofs.Common.{◌≡◌, ◌≤◌, ℕ, List, [], ◌∷◌, ◌++◌, None, Result, OnOk, Bor, length, refl, ap, sym, subst, ◌∙◌, arith}
use Rattle.std.specs.List.{fold}
use Rattle.syntax_lexer.specs.declared.token.Position.{Position}
use Rattle.syntax_lexer.specs.Token.{Lexeme}
use Rattle.derive_constants.specs.declared.parts.Values.{Values}
use Rattle.derive_constants.specs.declared.parts.Values.TheVariants as held
use Rattle.derive_constants.specs.Constants.{characters, one_or_entries}
use Rattle.derive_constants.specs.Held.{values_of}
use Rattle.derive_constants.specs.Entries.{entries_from, nothing}
use Rattle.derive_constants.specs.Values.{Known, value_in, reads, at_end, none}

stays_none : (known : Known) (ts : List Lexeme) → at_end (fold (reads known) none ts) ≡ None
stays_none known [] = refl
stays_none known (t ∷ ts) = stays_none known ts

pub many_are_none : (known : Known) (p : Position) (a b : ℕ) (bytes : List ℕ)
    → value_in known (characters p (a ∷ b ∷ bytes)) ≡ None
many_are_none known p a b bytes = stays_none known (characters p bytes)

entries_stay : (known : Known) (p : Position) (bytes : List ℕ)
    → entries_from known 0 nothing (characters p bytes) ≡ characters p bytes
entries_stay known p [] = refl
entries_stay known p (b ∷ bytes) = ap (λ ts. characters p (b ∷ []) ++ ts) (entries_stay known p bytes)

pub characters_stay : (known : Known) (p : Position) (bytes : List ℕ)
    → one_or_entries (value_in known (characters p bytes)) known (characters p bytes) ≡ characters p bytes
characters_stay known p [] = refl
characters_stay known p (b ∷ []) = refl
characters_stay known p (a ∷ b ∷ bytes) =
    ap (λ v. one_or_entries v known (characters p (a ∷ b ∷ bytes))) (many_are_none known p a b bytes)
    ∙ entries_stay known p (a ∷ b ∷ bytes)

-- two characters and more
pub many_none : (known : Known) (p : Position) (bytes : List ℕ) → 2 ≤ length bytes
    → value_in known (characters p bytes) ≡ None
many_none known p [] le = absurd (omega arith)
many_none known p (b ∷ []) le = absurd (omega arith)
many_none known p (a ∷ b ∷ bytes) le = many_are_none known p a b bytes

-- characters that are put
pub on_characters : {X E : Type 0} (result : Result X E) (out before : List Lexeme) (known : Known) (values : Values)
    (bytes : Bor (List ℕ)) (p : Position) → values ≡ held.Characters bytes p
    → OnOk result (out ≡ before ++ characters p bytes.now)
    → OnOk result (out
    ≡ before ++ one_or_entries (value_in known (values_of values)) known (values_of values))
on_characters result out before known values bytes p e h =
    let P : Values → Type 0 =
    λ v. OnOk result (out ≡ before ++ one_or_entries (value_in known (values_of v)) known (values_of v)) in
    let Q : List Lexeme → Type 0 = λ ts. OnOk result (out ≡ before ++ ts) in
    subst P (sym e) (subst Q (sym (characters_stay known p bytes.now)) h)
