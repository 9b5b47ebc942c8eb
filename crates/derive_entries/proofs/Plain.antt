-- Statements in which no entry is read, with their places in statements alike.
use Rattle.std.proofs.Common.{◌≡◌, ◌∙◌, ◌&&◌, ◌||◌, ◌==◌, ◌+◌, ℕ, Bool, true, false, List}
use Rattle.std.proofs.Common.{if◌then◌else◌, refl, sym, ap}
use Rattle.std.specs.Str.{bytes_eq}
use Rattle.std.proofs.lemmas.Slice.Eq.{bytes_eq-Decides}
use Rattle.syntax_lexer.specs.declared.token.Sign.{Sign}
use Rattle.syntax_lexer.specs.declared.token.Sign.TheVariants as s
use Rattle.syntax_lexer.specs.Spelling.{sign_spelling}
use Rattle.syntax_lexer.specs.Token.{Lexeme, name, number, text, character, dictionary_word, reserved, sign, end}
use Rattle.derive_tokens.specs.Tokens.{is_sign}
use Rattle.derive_values.specs.declared.places.Form.{Form}
use Rattle.derive_values.specs.declared.places.Form.TheVariants as forms
use Rattle.derive_values.specs.declared.places.Place.{Place}
use Rattle.derive_values.specs.declared.places.Place.TheVariants as spots
use Rattle.derive_values.specs.declared.places.Scope.{Scope}
use Rattle.derive_values.specs.declared.places.Scope.TheVariants as scopes
use Rattle.derive_values.specs.Places as values
use Rattle.derive_values.specs.Places.{own_after, place_after, place_within, scope_after}
use Rattle.derive_entries.specs.Arrays.{is_array}
use Rattle.derive_entries.specs.Operands.{is_operand}
use Rattle.derive_entries.specs.Plain.{ends_plain}
use Rattle.derive_entries.proofs.Rough.{alike}

-- ---- signs with which a statement ends are no others

none4 : (a b c d : Bool) → (a || (b || (c || d))) ≡ false
    → (a ≡ false) × ((b ≡ false) × ((c ≡ false) × (d ≡ false)))
none4 true b c d e = absurd cc
none4 false true c d e = absurd cc
none4 false false true d e = absurd cc
none4 false false false true e = absurd cc
none4 false false false false e = (refl, (refl, (refl, refl)))

either4 : (a b c d r : Bool) → (a ≡ true → r ≡ false) → (b ≡ true → r ≡ false) → (c ≡ true → r ≡ false)
    → (d ≡ true → r ≡ false) → (a || (b || (c || d))) ≡ true → r ≡ false
either4 true b c d r f g h i e = f refl
either4 false true c d r f g h i e = g refl
either4 false false true d r f g h i e = h refl
either4 false false false true r f g h i e = i refl
either4 false false false false r f g h i e = absurd cc

-- a sign that is one of these four
abbrev one_end : Sign → Bool
one_end v =
    bytes_eq (sign_spelling s.Semicolon) (sign_spelling v)
    || (bytes_eq (sign_spelling s.OpenBrace) (sign_spelling v)
    || (bytes_eq (sign_spelling s.CloseBrace) (sign_spelling v)
    || bytes_eq (sign_spelling s.CloseBracket) (sign_spelling v)))

other : (x y z : List ℕ) → bytes_eq y z ≡ false → bytes_eq x y ≡ true → bytes_eq x z ≡ false
other x y z e is = ap (λ (u : List ℕ). bytes_eq u z) ((bytes_eq-Decides x y).0 is) ∙ e

pub no_sign : (v : Sign) (t : Lexeme) → one_end v ≡ false → ends_plain t ≡ true → is_sign v t ≡ false
no_sign v (sign g p) h e =
    let x = sign_spelling g in
    let z = sign_spelling v in
    let k = none4 (bytes_eq (sign_spelling s.Semicolon) z) (bytes_eq (sign_spelling s.OpenBrace) z)
    (bytes_eq (sign_spelling s.CloseBrace) z) (bytes_eq (sign_spelling s.CloseBracket) z) h in
    either4 (bytes_eq x (sign_spelling s.Semicolon)) (bytes_eq x (sign_spelling s.OpenBrace))
    (bytes_eq x (sign_spelling s.CloseBrace)) (bytes_eq x (sign_spelling s.CloseBracket)) (bytes_eq x z)
    (other x (sign_spelling s.Semicolon) z k.0) (other x (sign_spelling s.OpenBrace) z k.1.0)
    (other x (sign_spelling s.CloseBrace) z k.1.1.0) (other x (sign_spelling s.CloseBracket) z k.1.1.1) e
no_sign v (name n p) h e = refl
no_sign v (number n p) h e = refl
no_sign v (text n p) h e = refl
no_sign v (character n p) h e = refl
no_sign v (dictionary_word n p) h e = refl
no_sign v (reserved w p) h e = refl
no_sign v (end p) h e = refl

pub no_operand : (t : Lexeme) → ends_plain t ≡ true → is_operand t ≡ false
no_operand (sign g p) e = refl
no_operand (name n p) e = absurd cc
no_operand (number n p) e = absurd cc
no_operand (text n p) e = absurd cc
no_operand (character n p) e = absurd cc
no_operand (dictionary_word n p) e = absurd cc
no_operand (reserved w p) e = absurd cc
no_operand (end p) e = absurd cc

pub no_array_there : (arrays own : List (List ℕ)) (scope : Scope) (t : Lexeme) → ends_plain t ≡ true
    → is_array arrays (record { scope = scope; own = own }) t ≡ false
no_array_there arrays own scope (sign g p) e = refl
no_array_there arrays own scope (name n p) e = absurd cc
no_array_there arrays own scope (number n p) e = refl
no_array_there arrays own scope (text n p) e = refl
no_array_there arrays own scope (character n p) e = refl
no_array_there arrays own scope (dictionary_word n p) e = refl
no_array_there arrays own scope (reserved w p) e = refl
no_array_there arrays own scope (end p) e = refl

-- ---- the scope behind them

four : (a b c k : Bool) → (a || (b || (c || k))) ≡ true → k ≡ false → (a || (b || (c || (false || false)))) ≡ true
four true b c k e f = refl
four false true c k e f = refl
four false false true k e f = refl
four false false false k e f = sym f ∙ e

within_end : (form : Form) (n : ℕ) (g : Sign) (p : _) → ends_plain (sign g p) ≡ true
    → is_sign s.CloseBracket (sign g p) ≡ false → place_within form n (sign g p) ≡ spots.Statement
within_end form n g p e f =
    let t = sign g p in
    ap (λ (b : Bool). if b || (is_sign s.Colon t && (n == 0)) then spots.Statement
    else if is_sign s.OpenParenthesis t then spots.Within form (n + 1)
    else if is_sign s.CloseParenthesis t then values.closed form n
    else if is_sign s.Comma t && (n == 0) then values.parted form else spots.Within form n)
    (four (is_sign s.Semicolon t) (is_sign s.OpenBrace t) (is_sign s.CloseBrace t) (is_sign s.CloseBracket t) e f)

place_end : (place : Place) (g : Sign) (p : _) → ends_plain (sign g p) ≡ true
    → is_sign s.CloseBracket (sign g p) ≡ false → place_after place (sign g p) ≡ spots.Statement
place_end spots.Statement g p e f = within_end forms.Plain 0 g p e f
place_end spots.Rule g p e f = within_end forms.Printing 1 g p e f
place_end (spots.Within form n) g p e f = within_end form n g p e f
place_end spots.Item g p e f =
    ap (λ (b : Bool). if b then spots.Rule else place_within forms.Printing 0 (sign g p))
    (no_sign s.OpenParenthesis (sign g p) refl e)
    ∙ within_end forms.Printing 0 g p e f

body_end : (close : Bool) (x y : Place) → (close ≡ false → x ≡ spots.Statement) → (close ≡ false → y ≡ spots.Statement)
    → (if close then scopes.Bare else scopes.Body x) ≡ (if close then scopes.Bare else scopes.Body y)
body_end true x y f g = refl
body_end false x y f g = ap (λ (z : Place). scopes.Body z) (f refl ∙ sym (g refl))

body_ends : (place : Place) (t : Lexeme) → ends_plain t ≡ true
    → scope_after (scopes.Body place) t ≡ scope_after (scopes.Body spots.Statement) t
body_ends place (sign g p) e =
    body_end (is_sign s.CloseBracket (sign g p)) (place_after place (sign g p)) (place_after spots.Statement (sign g p))
    (place_end place g p e) (place_end spots.Statement g p e)
body_ends place (name n p) e = absurd cc
body_ends place (number n p) e = absurd cc
body_ends place (text n p) e = absurd cc
body_ends place (character n p) e = absurd cc
body_ends place (dictionary_word n p) e = absurd cc
body_ends place (reserved w p) e = absurd cc
body_ends place (end p) e = absurd cc

end_alike : (scope : Scope) (t : Lexeme) → ends_plain t ≡ true → scope_after scope t ≡ scope_after (alike scope) t
end_alike (scopes.Body place) t e = body_ends place t e
end_alike scopes.Between t e = refl
end_alike scopes.Named t e = refl
end_alike scopes.Locals t e = refl
end_alike scopes.Head t e = refl
end_alike scopes.Property t e = refl
end_alike scopes.Words t e = refl
end_alike scopes.Worth t e = refl
end_alike scopes.Bare t e = refl

pub same_end : (a b : Scope) (t : Lexeme) → ends_plain t ≡ true → alike a ≡ alike b
    → scope_after a t ≡ scope_after b t
same_end a b t e is = end_alike a t e ∙ ap (λ (x : Scope). scope_after x t) is ∙ sym (end_alike b t e)
