-- Where no address is a value, tokens and places stay.
use Rattle.std.proofs.Common.{◌≡◌, ◌∙◌, ◌&&◌, ◌++◌, ℕ, Bool, true, false, if◌then◌else◌, List, [], ◌∷◌}
use Rattle.std.proofs.Common.{refl, sym, ap, length, arith}
use Rattle.std.specs.List.{fold}
use Rattle.syntax_lexer.specs.declared.token.Sign.TheVariants as s
use Rattle.syntax_lexer.specs.Token.{Lexeme, head, position_of, sign}
use Rattle.derive_tokens.specs.Names.{is_name}
use Rattle.derive_values.specs.declared.places.Scope.{Scope}
use Rattle.derive_values.specs.declared.places.Scope.TheVariants as scopes
use Rattle.derive_values.specs.Places.{scope_after}
use Rattle.derive_values.specs.Values.{with_room}
use Rattle.derive_entries.specs.Arrays.{most_places}
use Rattle.derive_entries.specs.Entries.{entered}
use Rattle.derive_addresses.specs.Addresses.{Placed, addressed, addressed_from, begins_property, defined_of, in_object}
use Rattle.derive_addresses.specs.Addresses.{object_after, properties_from, properties_of, settled_by, takes_address}
use Rattle.derive_addresses.specs.Addresses.{places_from, takes_any, with_address, with_addresses, with_property}
use Rattle.derive_addresses.specs.Addresses.{words_text}

neither : (a b : Bool) → (if a then true else b) ≡ false → (a ≡ false) × (b ≡ false)
neither true b e = absurd cc
neither false b e = (refl, e)

no_name : (a b : Bool) → (a && (b && false)) ≡ false
no_name true true = refl
no_name true false = refl
no_name false b = refl

stays : (defined properties : List (List ℕ)) (ts : List Lexeme) → takes_any ts ≡ false
    → properties_from defined properties ts ≡ properties
stays defined properties [] e = refl
stays defined properties (t ∷ ts) e =
    let h = neither (takes_address t ts) (takes_any ts) e in
    ap (λ (b : Bool). properties_from defined (if b then with_property defined properties (head ts) else properties) ts) h.0
    ∙ stays defined properties ts h.1

pub none_used : (ts : List Lexeme) → takes_any ts ≡ false → [] ≡ properties_of ts
none_used ts e = sym (stays (defined_of ts) [] ts e)

no_words : (places : List (List ℕ)) (scope : Scope) (object : List ℕ) (ts : List Lexeme)
    → places_from [] scope object places ts ≡ places
no_words places scope object [] = refl
no_words places scope object (t ∷ ts) =
    ap (λ (b : Bool). places_from [] (scope_after scope t) (object_after scope object t)
    (if b then with_room most_places places (words_text object t) else places) ts)
    (no_name (begins_property scope) (is_name t))
    ∙ no_words places (scope_after scope t) (object_after scope object t) ts

-- Without such properties all places are arrays.
pub only_arrays : (properties arrays places : List (List ℕ)) (ts : List Lexeme) → properties ≡ properties_of ts
    → length properties ≡ 0 → places ≡ fold (with_room most_places) [] arrays → places ≡ with_addresses arrays ts
only_arrays [] arrays places ts e none is =
    is ∙ sym (no_words (fold (with_room most_places) [] arrays) scopes.Between [] ts)
    ∙ ap (λ (ps : List (List ℕ)).
    places_from ps scopes.Between [] (fold (with_room most_places) [] arrays) ts) e
only_arrays (p ∷ properties) arrays places ts e none is = absurd (omega (arith, none))

one : (places : List (List ℕ)) (scope : Scope) (object : List ℕ) (t : Lexeme) → in_object [] places scope object t ≡ t ∷ []
one places scope object t =
    ap (λ (b : Bool). if b then with_address [] places object t else t ∷ []) (no_name (begins_property scope) (is_name t))

same_from : (places : List (List ℕ)) (scope : Scope) (object : List ℕ) (ts : List Lexeme) → takes_any ts ≡ false
    → addressed_from [] places scope object false ts ≡ ts
same_from places scope object [] e = refl
same_from places scope object (t ∷ ts) e =
    let h = neither (takes_address t ts) (takes_any ts) e in
    ap (λ (b : Bool). (if b then sign s.Dot (position_of t) ∷ [] else in_object [] places scope object t)
    ++ addressed_from [] places (scope_after scope t) (object_after scope object t) b ts) h.0
    ∙ ap (λ (us : List Lexeme). us
    ++ addressed_from [] places (scope_after scope t) (object_after scope object t) false ts) (one places scope object t)
    ∙ ap (λ (us : List Lexeme). t ∷ us) (same_from places (scope_after scope t) (object_after scope object t) ts h.1)

same : (properties places : List (List ℕ)) (ts : List Lexeme) → properties ≡ properties_of ts → takes_any ts ≡ false
    → addressed properties places ts ≡ ts
same properties places ts e none =
    ap (λ (ps : List (List ℕ)). addressed ps places ts) (e ∙ sym (none_used ts none))
    ∙ same_from places scopes.Between [] ts none

-- the tokens of a file with places that are known
pub settled_with : (p q : Placed) (ts row us : List Lexeme) → p ≡ q → row ≡ addressed p.properties p.places ts
    → us ≡ entered p.arrays p.values row → us ≡ settled_by q ts
settled_with p q ts row us e r is =
    is ∙ ap (entered p.arrays p.values) r ∙ ap (λ (x : Placed). settled_by x ts) e

-- the same without addresses that are values
pub settled_plain : (p q : Placed) (ts us : List Lexeme) → p ≡ q → q.properties ≡ properties_of ts → takes_any ts ≡ false
    → us ≡ entered p.arrays p.values ts → us ≡ settled_by q ts
settled_plain p q ts us e props none is =
    is ∙ ap (λ (x : Placed). entered x.arrays x.values ts) e
    ∙ sym (ap (entered q.arrays q.values) (same q.properties q.places ts props none))
