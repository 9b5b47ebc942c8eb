-- What is read of a file for its arrays is the same with all places in statements alike.
use Rattle.std.proofs.Common.{◌≡◌, ◌∙◌, ◌&&◌, ℕ, Bool, true, false, List, [], ◌∷◌, if◌then◌else◌, refl, sym, ap}
use Rattle.syntax_lexer.specs.declared.token.Sign.TheVariants as s
use Rattle.syntax_lexer.specs.declared.token.Word.TheVariants as w
use Rattle.syntax_lexer.specs.Token.{Lexeme}
use Rattle.derive_tokens.specs.Tokens.{is_sign, is_word}
use Rattle.derive_tokens.specs.Names.{is_name, with_name_of}
use Rattle.derive_values.specs.declared.places.Place.{Place}
use Rattle.derive_values.specs.declared.places.Place.TheVariants as places
use Rattle.derive_values.specs.declared.places.Scope.{Scope}
use Rattle.derive_values.specs.declared.places.Scope.TheVariants as scopes
use Rattle.derive_values.specs.Places.{own_after, place_after, scope_after}
use Rattle.derive_entries.specs.declared.arrays.Keeping.{Keeping}
use Rattle.derive_entries.specs.declared.arrays.Keeping.TheVariants as keeps
use Rattle.derive_entries.specs.Arrays.{arrays_from, arrays_of, defines_other, is_array_kept, is_worth, keeping_after}
use Rattle.derive_entries.specs.Arrays.{names_kept, places_after, places_from}
use Rattle.derive_entries.specs.Rough.{array_noted, placing, rough_after}

-- a scope with one place for all
abbrev pub alike : Scope → Scope
alike (scopes.Body place) = scopes.Body places.Statement
alike scopes.Between = scopes.Between
alike scopes.Named = scopes.Named
alike scopes.Locals = scopes.Locals
alike scopes.Head = scopes.Head
alike scopes.Property = scopes.Property
alike scopes.Words = scopes.Words
alike scopes.Worth = scopes.Worth
alike scopes.Bare = scopes.Bare

ended : (b : Bool) (p q : Place)
    → alike (if b then scopes.Bare else scopes.Body p) ≡ alike (if b then scopes.Bare else scopes.Body q)
ended true p q = refl
ended false p q = refl

scope_alike : (scope : Scope) (t : Lexeme) → alike (scope_after scope t) ≡ alike (scope_after (alike scope) t)
scope_alike (scopes.Body place) t =
    ended (is_sign s.CloseBracket t) (place_after place t) (place_after places.Statement t)
scope_alike scopes.Between t = refl
scope_alike scopes.Named t = refl
scope_alike scopes.Locals t = refl
scope_alike scopes.Head t = refl
scope_alike scopes.Property t = refl
scope_alike scopes.Words t = refl
scope_alike scopes.Worth t = refl
scope_alike scopes.Bare t = refl

rough_alike : (scope : Scope) (t : Lexeme) → alike (rough_after scope t) ≡ alike (scope_after (alike scope) t)
rough_alike (scopes.Body place) t = ended (is_sign s.CloseBracket t) place (place_after places.Statement t)
rough_alike scopes.Between t = refl
rough_alike scopes.Named t = refl
rough_alike scopes.Locals t = refl
rough_alike scopes.Head t = refl
rough_alike scopes.Property t = refl
rough_alike scopes.Words t = refl
rough_alike scopes.Worth t = refl
rough_alike scopes.Bare t = refl

pub both_alike : (a b : Scope) (t : Lexeme) → alike a ≡ alike b → alike (rough_after a t) ≡ alike (scope_after b t)
both_alike a b t e = rough_alike a t ∙ ap (λ (x : Scope). alike (scope_after x t)) e ∙ sym (scope_alike b t)

worth_alike : (scope : Scope) → is_worth scope ≡ is_worth (alike scope)
worth_alike (scopes.Body place) = refl
worth_alike scopes.Between = refl
worth_alike scopes.Named = refl
worth_alike scopes.Locals = refl
worth_alike scopes.Head = refl
worth_alike scopes.Property = refl
worth_alike scopes.Words = refl
worth_alike scopes.Worth = refl
worth_alike scopes.Bare = refl

-- ---- arrays

-- the arrays that are found from here on
abbrev pub rough_arrays : List (List ℕ) → Scope → Bool → List Lexeme → List (List ℕ)
rough_arrays arrays scope named [] = arrays
rough_arrays arrays scope named (t ∷ ts) =
    rough_arrays (array_noted arrays scope named t) (rough_after scope t) (is_word w.Array t) ts

no_array_name : (k : Keeping) (t : Lexeme) (b : Bool) → is_name t ≡ b → false ≡ is_array_kept (names_kept k t)
no_array_name keeps.Read t true e =
    sym (ap (λ (b : Bool). is_array_kept (if b then keeps.Read else keeps.Nothing)) e)
no_array_name keeps.Read t false e =
    sym (ap (λ (b : Bool). is_array_kept (if b then keeps.Read else keeps.Nothing)) e)
no_array_name keeps.Nothing t b e = refl
no_array_name keeps.Array t b e = refl
no_array_name keeps.Other t b e = refl

kept_if : (array read other : Bool) (k : Keeping) → false ≡ is_array_kept k
    → array ≡ is_array_kept (if array then keeps.Array else if read then keeps.Read else if other then keeps.Other else k)
kept_if true read other k e = refl
kept_if false true other k e = refl
kept_if false false true k e = refl
kept_if false false false k e = e

array_kept : (k : Keeping) (t : Lexeme) → is_word w.Array t ≡ is_array_kept (keeping_after k t)
array_kept k t =
    kept_if (is_word w.Array t) (is_word w.Read t) (defines_other t) (names_kept k t) (no_array_name k t (is_name t) refl)

arrays_alike : (arrays : List (List ℕ)) (a b : Scope) (own : List (List ℕ)) (named : Bool) (k : Keeping)
    (ts : List Lexeme) → alike a ≡ alike b → named ≡ is_array_kept k
    → rough_arrays arrays a named ts ≡ arrays_from arrays (placing (record { scope = b; own = own }) k) ts
arrays_alike arrays a b own named k [] e kept = refl
arrays_alike arrays a b own named k (t ∷ ts) e kept =
    let worth = worth_alike a ∙ ap is_worth e ∙ sym (worth_alike b) in
    ap (λ (x : Bool). rough_arrays (if x && named then with_name_of arrays t else arrays) (rough_after a t)
    (is_word w.Array t) ts) worth
    ∙ ap (λ (x : Bool). rough_arrays (if is_worth b && x then with_name_of arrays t else arrays) (rough_after a t)
    (is_word w.Array t) ts) kept
    ∙ arrays_alike (array_noted arrays b (is_array_kept k) t) (rough_after a t) (scope_after b t) (own_after b t own)
    (is_word w.Array t) (keeping_after k t) ts (both_alike a b t e) (array_kept k t)

pub arrays_same : (ts : List Lexeme) → rough_arrays [] scopes.Between false ts ≡ arrays_of ts
arrays_same ts = arrays_alike [] scopes.Between scopes.Between [] false keeps.Nothing ts refl refl

-- ---- arrays that are values

-- those that are found from here on
abbrev pub rough_places :
    List (List ℕ) → List (List ℕ) → Scope → List (List ℕ) → Keeping → List Lexeme → List (List ℕ)
rough_places arrays places scope own k [] = places
rough_places arrays places scope own k (t ∷ ts) =
    rough_places arrays (places_after arrays places (placing (record { scope = scope; own = own }) k) t ts)
    (rough_after scope t) (own_after scope t own) (keeping_after k t) ts

place_alike : (arrays found : List (List ℕ)) (scope : Scope) (own : List (List ℕ)) (k : Keeping) (t : Lexeme)
    (ts : List Lexeme) → places_after arrays found (placing (record { scope = scope; own = own }) k) t ts
    ≡ places_after arrays found (placing (record { scope = alike scope; own = own }) k) t ts
place_alike arrays found (scopes.Body place) own k t ts = refl
place_alike arrays found scopes.Between own k t ts = refl
place_alike arrays found scopes.Named own k t ts = refl
place_alike arrays found scopes.Locals own k t ts = refl
place_alike arrays found scopes.Head own k t ts = refl
place_alike arrays found scopes.Property own k t ts = refl
place_alike arrays found scopes.Words own k t ts = refl
place_alike arrays found scopes.Worth own k t ts = refl
place_alike arrays found scopes.Bare own k t ts = refl

pub own_alike : (scope : Scope) (t : Lexeme) (own : List (List ℕ)) → own_after scope t own ≡ own_after (alike scope) t own
own_alike (scopes.Body place) t own = refl
own_alike scopes.Between t own = refl
own_alike scopes.Named t own = refl
own_alike scopes.Locals t own = refl
own_alike scopes.Head t own = refl
own_alike scopes.Property t own = refl
own_alike scopes.Words t own = refl
own_alike scopes.Worth t own = refl
own_alike scopes.Bare t own = refl

pub places_alike : (arrays found : List (List ℕ)) (a b : Scope) (own : List (List ℕ)) (k : Keeping) (ts : List Lexeme)
    → alike a ≡ alike b
    → rough_places arrays found a own k ts ≡ places_from arrays found (placing (record { scope = b; own = own }) k) ts
places_alike arrays found a b own k [] e = refl
places_alike arrays found a b own k (t ∷ ts) e =
    let step = place_alike arrays found a own k t ts
    ∙ ap (λ (x : Scope). places_after arrays found (placing (record { scope = x; own = own }) k) t ts) e
    ∙ sym (place_alike arrays found b own k t ts) in
    let kin = own_alike a t own ∙ ap (λ (x : Scope). own_after x t own) e ∙ sym (own_alike b t own) in
    ap (λ (x : List (List ℕ)). rough_places arrays x (rough_after a t) (own_after a t own) (keeping_after k t) ts) step
    ∙ ap (λ (x : List (List ℕ)). rough_places arrays
    (places_after arrays found (placing (record { scope = b; own = own }) k) t ts) (rough_after a t) x
    (keeping_after k t) ts) kin
    ∙ places_alike arrays (places_after arrays found (placing (record { scope = b; own = own }) k) t ts)
    (rough_after a t) (scope_after b t) (own_after b t own) (keeping_after k t) ts (both_alike a b t e)
