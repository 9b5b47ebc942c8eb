-- Arrays that are values: none is found in a statement without names of arrays.
use Rattle.std.proofs.Common.{◌≡◌, ◌∙◌, ◌&&◌, ◌+◌, ◌-◌, ◌<◌, ◌≤◌, ℕ, zero, suc, Bool, true, false, not, List, [], ◌∷◌}
use Rattle.std.proofs.Common.{if◌then◌else◌, refl, sym, ap, subst, arith, length, drop, take, get_or}
use Rattle.std.specs.List.{list_all}
use Rattle.std.proofs.lemmas.Bool.{and_parts}
use Rattle.std.proofs.lemmas.List.{at_drop_more, drop-drop}
use Rattle.syntax_lexer.specs.Token.{Lexeme, head}
use Rattle.derive_tokens.specs.declared.piece.Piece.{Piece}
use Rattle.derive_tokens.specs.Pieces.{derived, derived_all}
use Rattle.derive_tokens.specs.Names.{is_among, is_name, small_name}
use Rattle.derive_values.specs.Places.{own_after, scope_after}
use Rattle.derive_values.specs.Values.{with_room}
use Rattle.derive_entries.specs.Arrays.{Placing, is_array, is_value, keeping_after, most_places, places_after, places_from}
use Rattle.derive_entries.specs.Arrays.{placing_after}
use Rattle.derive_entries.specs.Rough.{rough_after, rough_placing}
use Rattle.derive_entries.specs.Plain.{ends_plain, is_apart, is_bare, is_named_array, is_skipped}
use Rattle.derive_entries.proofs.Bare.{behind, by_last, denied, ends_of, last_is}
use Rattle.derive_entries.proofs.Plain.{no_array_there}
use Rattle.derive_entries.proofs.Rough.{both_alike, places_alike}
use Rattle.derive_entries.proofs.Without.{no_name}

pub places_on : (arrays found more whole : List (List ℕ)) (p q : Placing) (ps rest : List Piece) (at : ℕ) (d : Piece)
    → at < length ps → rest ≡ drop (at + 1) ps
    → more ≡ places_after arrays found p (derived (get_or ps at d)) (derived_all rest)
    → q ≡ placing_after p (derived (get_or ps at d)) → places_from arrays found p (derived_all (drop at ps)) ≡ whole
    → places_from arrays more q (derived_all (drop (at + 1) ps)) ≡ whole
places_on arrays found more whole p q ps rest at d lt is put step before =
    let t = derived (get_or ps at d) in
    let ts = derived_all (drop (at + 1) ps) in
    ap (λ (x : List (List ℕ)). places_from arrays x q ts) put
    ∙ ap (λ (x : Placing). places_from arrays (places_after arrays found p t (derived_all rest)) x ts) step
    ∙ ap (λ (us : List Piece). places_from arrays (places_after arrays found p t (derived_all us)) (placing_after p t) ts) is
    ∙ sym (at_drop_more (λ (xs : List Piece). places_from arrays found p (derived_all xs)) ps at d lt)
    ∙ before

same : (array : Bool) (found : List (List ℕ)) (p : Placing) (t : Lexeme) (ts : List Lexeme) → array ≡ false
    → (if is_value array p ts then with_room most_places found (small_name t) else found) ≡ found
same true found p t ts e = absurd cc
same false found p t ts e = refl

rough_on : (arrays found : List (List ℕ)) (p : Placing) (t : Lexeme) (ts : List Lexeme)
    → places_from arrays found (placing_after p t) ts ≡ places_from arrays found (rough_placing p t) ts
rough_on arrays found p t ts =
    let scope = p.reading.scope in
    let own = own_after scope t p.reading.own in
    let k = keeping_after p.keeping t in
    sym (places_alike arrays found (rough_after scope t) (scope_after scope t) own k ts (both_alike scope scope t refl))
    ∙ places_alike arrays found (rough_after scope t) (rough_after scope t) own k ts refl

skip_on : (arrays found : List (List ℕ)) (p : Placing) (n : ℕ) (ps : List Piece) → n < length ps
    → list_all (is_apart arrays) (derived_all (take n ps)) ≡ true → ends_plain (head (derived_all (drop n ps))) ≡ true
    → places_from arrays found p (derived_all ps)
    ≡ places_from arrays found (behind p n ps) (derived_all (drop (suc n) ps))
skip_on arrays found p n [] lt all ends = absurd (omega (arith, lt))
skip_on arrays found p zero (x ∷ ps) lt all ends =
    let t = derived x in
    ap (λ (v : List (List ℕ)). places_from arrays v (placing_after p t) (derived_all ps))
    (same (is_array arrays p.reading t) found p t (derived_all ps)
    (no_array_there arrays p.reading.own p.reading.scope t ends))
skip_on arrays found p (suc n) (x ∷ ps) lt all ends =
    let t = derived x in
    let h = and_parts (is_apart arrays t) (list_all (is_apart arrays) (derived_all (take n ps))) all in
    let k = and_parts (not (ends_plain t)) (not (is_named_array arrays t)) h.0 in
    ap (λ (v : List (List ℕ)). places_from arrays v (placing_after p t) (derived_all ps))
    (same (is_array arrays p.reading t) found p t (derived_all ps)
    (sym (no_name (is_name t) (is_among arrays (small_name t)) _ (denied (is_named_array arrays t) k.1))))
    ∙ rough_on arrays found p t (derived_all ps)
    ∙ skip_on arrays found (rough_placing p t) n ps (omega (arith, lt)) h.1 ends

skipped : (arrays found : List (List ℕ)) (p q : Placing) (n : ℕ) (ps : List Piece) → n < length ps
    → is_bare arrays p.reading.scope n ps ≡ true → q ≡ placing_after p (head (derived_all (drop n ps)))
    → places_from arrays found q (derived_all (drop (suc n) ps)) ≡ places_from arrays found p (derived_all ps)
skipped arrays found p q n ps lt bare step =
    let scope = p.reading.scope in
    let last = head (derived_all (drop n ps)) in
    let h = and_parts (list_all (is_apart arrays) (derived_all (take n ps)))
    (ends_plain last && is_skipped scope (head (derived_all ps)) last) bare in
    let i = and_parts (ends_plain last) (is_skipped scope (head (derived_all ps)) last) h.1 in
    let is = step ∙ sym (by_last scope p.reading.own p.keeping n ps (ends_of arrays n ps lt h.0 i.0) i.1) in
    ap (λ (x : Placing). places_from arrays found x (derived_all (drop (suc n) ps))) is
    ∙ sym (skip_on arrays found p n ps lt h.0 i.0)

at_last : (ps : List Piece) (at n : ℕ) (d : Piece) → at + n < length ps
    → derived (get_or ps (at + n) d) ≡ head (derived_all (drop n (drop at ps)))
at_last ps at n d lt =
    last_is ps (at + n) d lt ∙ ap (λ (xs : List Piece). head (derived_all xs)) (sym (drop-drop n at ps))

one_before : (count : ℕ) → 0 < count → (n : ℕ) × (count ≡ suc n)
one_before zero lt = absurd (omega (arith, lt))
one_before (suc n) lt = (n, refl)

pub places_skip : (arrays found whole : List (List ℕ)) (p q : Placing) (ps rest : List Piece) (at count : ℕ) (d : Piece)
    → 0 < count → count ≤ length rest → rest ≡ drop at ps → is_bare arrays p.reading.scope (count - 1) rest ≡ true
    → at + (count - 1) < length ps → q ≡ placing_after p (derived (get_or ps (at + (count - 1)) d))
    → places_from arrays found p (derived_all (drop at ps)) ≡ whole
    → places_from arrays found q (derived_all (drop (at + count) ps)) ≡ whole
places_skip arrays found whole p q ps rest at count d some le is bare lt step before =
    let n = count - 1 in
    let more : suc n ≡ count = omega (arith, some) in
    let within : n < length rest = omega (arith, some, le) in
    let inside : n < length (drop at ps) = subst (λ (xs : List Piece). n < length xs) is within in
    let same_bare : is_bare arrays p.reading.scope n (drop at ps) ≡ true =
    subst (λ (xs : List Piece). is_bare arrays p.reading.scope n xs ≡ true) is bare in
    let drops : drop (at + count) ps ≡ drop (suc n) (drop at ps) =
    ap (λ k. drop (at + k) ps) (sym more) ∙ sym (drop-drop (suc n) at ps) in
    ap (λ (xs : List Piece). places_from arrays found q (derived_all xs)) drops
    ∙ skipped arrays found p q n (drop at ps) inside same_bare
    (step ∙ ap (placing_after p) (at_last ps at n d lt))
    ∙ before
