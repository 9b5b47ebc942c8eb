-- Statements without names of arrays: their tokens stay, and the last one alone tells what is read behind them.
use Rattle.std.proofs.Common.{◌≡◌, ◌∙◌, ◌&&◌, ◌||◌, ◌==◌, ◌+◌, ◌-◌, ◌<◌, ◌≤◌, ◌++◌, ℕ, zero, suc, Bool, true, false, not}
use Rattle.std.proofs.Common.{List, [], ◌∷◌, if◌then◌else◌, refl, sym, ap, subst, arith, length, drop, take, get_or}
use Rattle.std.proofs.Common.{append_assoc}
use Rattle.std.specs.List.{list_all, list_any}
use Rattle.std.specs.Str.{bytes_eq}
use Rattle.std.specs.Char.{to_ascii_lowercase}
use Rattle.std.proofs.lemmas.Slice.Eq.{bytes_eq-Decides}
use Rattle.std.proofs.lemmas.Bool.{and_parts, eqb-false}
use Rattle.std.proofs.lemmas.List.{drop-drop, drop-take, length-map, map-append, take-append-drop, take-take, take_more, take_all}
use Rattle.std.proofs.lemmas.List.Folds.{list_all-append}
use Rattle.syntax_lexer.specs.declared.token.Position.{Position}
use Rattle.syntax_lexer.specs.declared.token.Sign.{Sign}
use Rattle.syntax_lexer.specs.declared.token.Sign.TheVariants as s
use Rattle.syntax_lexer.specs.declared.token.Word.TheVariants as w
use Rattle.syntax_lexer.specs.Token.{Lexeme, head, name, number, text, character, dictionary_word, reserved, sign, end}
use Rattle.syntax_lexer.specs.Token.{position_of}
use Rattle.derive_tokens.specs.declared.piece.Piece.{Piece}
use Rattle.derive_tokens.specs.Pieces.{derived, derived_all}
use Rattle.derive_tokens.specs.Tokens.{is_sign, is_word}
use Rattle.derive_tokens.specs.Names.{is_among, is_name, small, small_name}
use Rattle.derive_values.specs.declared.places.Place.{Place}
use Rattle.derive_values.specs.declared.places.Scope.{Scope}
use Rattle.derive_values.specs.declared.places.Scope.TheVariants as scopes
use Rattle.derive_values.specs.Places.{ended, gives_values, is_words, own_after, scope_after}
use Rattle.derive_entries.specs.declared.arrays.Keeping.{Keeping}
use Rattle.derive_entries.specs.declared.arrays.Keeping.TheVariants as keeps
use Rattle.derive_entries.specs.Arrays.{Placing, is_array, keeping_after, placing_after, valued_as}
use Rattle.derive_entries.specs.declared.entries.Frame.{Frame}
use Rattle.derive_entries.specs.Entries.{Entering, entered_from}
use Rattle.derive_entries.specs.Rough.{placing, rough_placing}
use Rattle.derive_entries.specs.Plain.{clear, ends_plain, is_apart, is_bare, is_like, is_named_array, is_skipped, quiet}
use Rattle.derive_entries.proofs.Plain.{no_array_there}
use Rattle.derive_entries.proofs.Quiet.{plain_from, plain_same}
use Rattle.derive_entries.proofs.Without.{no_name}

-- ---- names that are like none of the arrays

by_case : (n : ℕ) (b : Bool) → (n == n) ≡ b → b ≡ true
by_case n true e = refl
by_case n false e = absurd (eqb-false n n e refl)

same_true : (n : ℕ) → (n == n) ≡ true
same_true n = by_case n (n == n) refl

both : (a b : Bool) → a ≡ true → b ≡ true → (a && b) ≡ true
both true b e f = f
both false b e f = absurd cc

like_itself : (n : List ℕ) → is_like n (small n) ≡ true
like_itself [] = refl
like_itself (b ∷ bs) =
    both (length (b ∷ bs) == length (small (b ∷ bs))) (to_ascii_lowercase b == to_ascii_lowercase b)
    (ap (λ k. length (b ∷ bs) == k) (length-map (b ∷ bs) to_ascii_lowercase) ∙ same_true (length (b ∷ bs)))
    (same_true (to_ascii_lowercase b))

unlike : (n x : List ℕ) (b : Bool) → is_like n x ≡ false → bytes_eq (small n) x ≡ b → b ≡ false
unlike n x true e is =
    let like : is_like n x ≡ true = ap (is_like n) (sym ((bytes_eq-Decides (small n) x).0 is)) ∙ like_itself n in
    let f : false ≡ true = sym e ∙ like in
    absurd cc
unlike n x false e is = refl

neither : (a b : Bool) → (a || b) ≡ false → (a ≡ false) × (b ≡ false)
neither true b e = absurd cc
neither false b e = (refl, e)

none_like : (n : List ℕ) (arrays : List (List ℕ)) → list_any (is_like n) arrays ≡ false
    → is_among arrays (small n) ≡ false
none_like n [] e = refl
none_like n (x ∷ arrays) e =
    let h = neither (is_like n x) (list_any (is_like n) arrays) e in
    ap (λ (b : Bool). b || is_among arrays (small n)) (unlike n x (bytes_eq (small n) x) h.0 refl)
    ∙ none_like n arrays h.1

pub none_among : (n : List ℕ) (arrays : List (List ℕ)) (k : ℕ) → length arrays ≤ k
    → list_any (is_like n) (take k arrays) ≡ false → is_among arrays (small n) ≡ false
none_among n arrays k le e =
    none_like n arrays (ap (λ (xs : List (List ℕ)). list_any (is_like n) xs) (sym (take_all k arrays le)) ∙ e)

-- ---- tokens in the code

pub last_is : (ps : List Piece) (n : ℕ) (d : Piece) → n < length ps
    → derived (get_or ps n d) ≡ head (derived_all (drop n ps))
last_is [] n d lt = absurd (omega (arith, lt))
last_is (p ∷ ps) zero d lt = refl
last_is (p ∷ ps) (suc n) d lt = last_is ps n d (omega (arith, lt))

apart_is : (ends named : Bool) → ends ≡ false → named ≡ false → (not ends && not named) ≡ true
apart_is true named e f = absurd cc
apart_is false true e f = absurd cc
apart_is false false e f = refl

pub bare_more : (arrays : List (List ℕ)) (ps : List Piece) (at : ℕ) (d : Piece) → at < length ps
    → list_all (is_apart arrays) (derived_all (take at ps)) ≡ true
    → ends_plain (derived (get_or ps at d)) ≡ false → is_named_array arrays (derived (get_or ps at d)) ≡ false
    → list_all (is_apart arrays) (derived_all (take (at + 1) ps)) ≡ true
bare_more arrays ps at d lt before ends named =
    let t = derived (get_or ps at d) in
    ap (λ (xs : List Piece). list_all (is_apart arrays) (derived_all xs)) (take_more ps at d lt)
    ∙ ap (list_all (is_apart arrays)) (map-append derived (take at ps) (get_or ps at d ∷ []))
    ∙ list_all-append (is_apart arrays) (derived_all (take at ps)) (t ∷ [])
    ∙ both (list_all (is_apart arrays) (derived_all (take at ps))) (is_apart arrays t && true) before
    (both (is_apart arrays t) true (apart_is (ends_plain t) (is_named_array arrays t) ends named) refl)

pub bare_found : (arrays : List (List ℕ)) (scope : Scope) (ps : List Piece) (at : ℕ) (d : Piece) → at < length ps
    → list_all (is_apart arrays) (derived_all (take at ps)) ≡ true
    → ends_plain (derived (get_or ps at d)) ≡ true
    → is_skipped scope (head (derived_all ps)) (derived (get_or ps at d)) ≡ true
    → is_bare arrays scope (at + 1 - 1) ps ≡ true
bare_found arrays scope ps at d lt before ends skipped =
    let same : at ≡ at + 1 - 1 = omega arith in
    let is = last_is ps at d lt in
    subst (λ n. is_bare arrays scope n ps ≡ true) same
    (both (list_all (is_apart arrays) (derived_all (take at ps)))
    (ends_plain (head (derived_all (drop at ps)))
    && is_skipped scope (head (derived_all ps)) (head (derived_all (drop at ps)))) before
    (both (ends_plain (head (derived_all (drop at ps))))
    (is_skipped scope (head (derived_all ps)) (head (derived_all (drop at ps)))) (ap ends_plain (sym is) ∙ ends)
    (ap (is_skipped scope (head (derived_all ps))) (sym is) ∙ skipped)))

-- ---- the tokens stay

stays : (array : Bool) (places : List (List ℕ)) (p : Placing) (t : Lexeme) (ts : List Lexeme) → array ≡ false
    → valued_as array places p t ts ≡ t
stays true places p t ts e = absurd cc
stays false places p t ts e = refl

pub denied : (b : Bool) → not b ≡ true → b ≡ false
denied true e = absurd cc
denied false e = refl

-- after so many tokens, and the one behind them
abbrev pub behind : Placing → ℕ → List Piece → Placing
behind p zero ps = placing_after p (head (derived_all ps))
behind p (suc n) [] = p
behind p (suc n) (t ∷ ps) = behind (rough_placing p (derived t)) n ps

plain_on : (arrays places : List (List ℕ)) (p : Placing) (n : ℕ) (ps : List Piece) → n < length ps
    → list_all (is_apart arrays) (derived_all (take n ps)) ≡ true → ends_plain (head (derived_all (drop n ps))) ≡ true
    → plain_from arrays places p (derived_all ps)
    ≡ derived_all (take (suc n) ps) ++ entered_from arrays places (clear (behind p n ps)) (derived_all (drop (suc n) ps))
plain_on arrays places p n [] lt all ends = absurd (omega (arith, lt))
plain_on arrays places p zero (x ∷ ps) lt all ends =
    let t = derived x in
    let ts = derived_all ps in
    let array = is_array arrays p.reading t in
    ap (λ (u : Lexeme). u ∷ (if ends_plain t then entered_from arrays places (clear (placing_after p t)) ts
    else plain_from arrays places (rough_placing p t) ts))
    (stays array places p t ts (no_array_there arrays p.reading.own p.reading.scope t ends))
    ∙ ap (λ (b : Bool). t ∷ (if b then entered_from arrays places (clear (placing_after p t)) ts
    else plain_from arrays places (rough_placing p t) ts)) ends
plain_on arrays places p (suc n) (x ∷ ps) lt all ends =
    let t = derived x in
    let ts = derived_all ps in
    let array = is_array arrays p.reading t in
    let h = and_parts (is_apart arrays t) (list_all (is_apart arrays) (derived_all (take n ps))) all in
    let k = and_parts (not (ends_plain t)) (not (is_named_array arrays t)) h.0 in
    ap (λ (u : Lexeme). u ∷ (if ends_plain t then entered_from arrays places (clear (placing_after p t)) ts
    else plain_from arrays places (rough_placing p t) ts))
    (stays array places p t ts (sym (no_name (is_name t) (is_among arrays (small_name t)) _
    (denied (is_named_array arrays t) k.1))))
    ∙ ap (λ (b : Bool). t ∷ (if b then entered_from arrays places (clear (placing_after p t)) ts
    else plain_from arrays places (rough_placing p t) ts)) (denied (ends_plain t) k.0)
    ∙ ap (λ (us : List Lexeme). t ∷ us) (plain_on arrays places (rough_placing p t) n ps (omega (arith, lt)) h.1 ends)

-- ---- what is read behind them

abbrev at : Scope → List (List ℕ) → Keeping → Placing
at scope own k = placing (record { scope = scope; own = own }) k

nothing_kept : (k : Keeping) (g : Sign) (p : Position) → keeping_after k (sign g p) ≡ keeps.Nothing
nothing_kept keeps.Nothing g p = refl
nothing_kept keeps.Array g p = refl
nothing_kept keeps.Other g p = refl
nothing_kept keeps.Read g p = refl

no_more : (k : Keeping) (t : Lexeme) (l : Keeping) → ends_plain t ≡ true → keeping_after k t ≡ keeping_after l t
no_more k (sign g p) l e = nothing_kept k g p ∙ sym (nothing_kept l g p)
no_more k (name n p) l e = absurd cc
no_more k (number n p) l e = absurd cc
no_more k (text n p) l e = absurd cc
no_more k (character n p) l e = absurd cc
no_more k (dictionary_word n p) l e = absurd cc
no_more k (reserved w p) l e = absurd cc
no_more k (end p) l e = absurd cc

keep_as : (scope : Scope) (own : List (List ℕ)) (k l : Keeping) (t : Lexeme) → ends_plain t ≡ true
    → placing_after (at scope own k) t ≡ placing_after (at scope own l) t
keep_as scope own k l t e = ap (at (scope_after scope t) (own_after scope t own)) (no_more k t l e)

no_close : (t : Lexeme) → ends_plain t ≡ false → (is_sign s.Semicolon t ≡ false) × (is_sign s.CloseBracket t ≡ false)
no_close t e =
    let h = neither (is_sign s.Semicolon t)
    (is_sign s.OpenBrace t || (is_sign s.CloseBrace t || is_sign s.CloseBracket t)) e in
    let i = neither (is_sign s.OpenBrace t) (is_sign s.CloseBrace t || is_sign s.CloseBracket t) h.1 in
    (h.0, (neither (is_sign s.CloseBrace t) (is_sign s.CloseBracket t) i.1).1)

-- none of the first tokens ends a statement
abbrev pub Ends : ℕ → List Piece → Type 0
Ends n [] = ⊥
Ends zero (t ∷ ps) = ends_plain (derived t) ≡ true
Ends (suc n) (t ∷ ps) = (ends_plain (derived t) ≡ false) × Ends n ps

pub ends_of : (arrays : List (List ℕ)) (n : ℕ) (ps : List Piece) → n < length ps
    → list_all (is_apart arrays) (derived_all (take n ps)) ≡ true → ends_plain (head (derived_all (drop n ps))) ≡ true
    → Ends n ps
ends_of arrays n [] lt all ends = absurd (omega (arith, lt))
ends_of arrays zero (t ∷ ps) lt all ends = ends
ends_of arrays (suc n) (t ∷ ps) lt all ends =
    let h = and_parts (is_apart arrays (derived t)) (list_all (is_apart arrays) (derived_all (take n ps))) all in
    let k = and_parts (not (ends_plain (derived t))) (not (is_named_array arrays (derived t))) h.0 in
    (denied (ends_plain (derived t)) k.0, ends_of arrays n ps (omega (arith, lt)) h.1 ends)

last_ends : (n : ℕ) (ps : List Piece) → Ends n ps → ends_plain (head (derived_all (drop n ps))) ≡ true
last_ends n [] h = absurd h
last_ends zero (t ∷ ps) h = h
last_ends (suc n) (t ∷ ps) h = last_ends n ps h.1

in_body : (place : Place) (own : List (List ℕ)) (k : Keeping) (n : ℕ) (ps : List Piece) → Ends n ps
    → behind (at (scopes.Body place) own k) n ps
    ≡ placing_after (at (scopes.Body place) own k) (head (derived_all (drop n ps)))
in_body place own k n [] h = absurd h
in_body place own k zero (t ∷ ps) h = refl
in_body place own k (suc n) (t ∷ ps) h =
    let more = keeping_after k (derived t) in
    ap (λ (b : Bool). behind (at (if b then scopes.Bare else scopes.Body place) own more) n ps)
    (no_close (derived t) h.0).1
    ∙ in_body place own more n ps h.1
    ∙ keep_as (scopes.Body place) own more k (head (derived_all (drop n ps))) (last_ends n ps h.1)

-- ---- in a directive

abbrev is_inside : Scope → Bool
is_inside scopes.Head = true
is_inside scopes.Property = true
is_inside scopes.Words = true
is_inside scopes.Worth = true
is_inside scopes.Bare = true
is_inside _ = false

either : (b : Bool) (x y : Scope) → is_inside x ≡ true → is_inside y ≡ true → is_inside (if b then x else y) ≡ true
either true x y e f = e
either false x y e f = f

unended : (b : Bool) (x : Scope) → b ≡ false → is_inside x ≡ true → is_inside (if b then scopes.Between else x) ≡ true
unended true x e f = absurd cc
unended false x e f = f

inside_on : (scope : Scope) (t : Lexeme) → is_inside scope ≡ true → is_sign s.Semicolon t ≡ false
    → is_inside (scope_after scope t) ≡ true
inside_on scopes.Head t i e =
    unended (is_sign s.Semicolon t) (if is_sign s.Comma t || is_word w.With t then scopes.Property else scopes.Head) e
    (either (is_sign s.Comma t || is_word w.With t) scopes.Property scopes.Head refl refl)
inside_on scopes.Property t i e =
    unended (is_sign s.Semicolon t)
    (if is_word w.With t then scopes.Property else if is_words t then scopes.Words else scopes.Worth) e
    (either (is_word w.With t) scopes.Property (if is_words t then scopes.Words else scopes.Worth) refl
    (either (is_words t) scopes.Words scopes.Worth refl refl))
inside_on scopes.Words t i e =
    unended (is_sign s.Semicolon t) (if is_sign s.Comma t then scopes.Property else scopes.Words) e
    (either (is_sign s.Comma t) scopes.Property scopes.Words refl refl)
inside_on scopes.Worth t i e =
    unended (is_sign s.Semicolon t) (if is_sign s.Comma t then scopes.Property else scopes.Worth) e
    (either (is_sign s.Comma t) scopes.Property scopes.Worth refl refl)
inside_on scopes.Bare t i e = unended (is_sign s.Semicolon t) scopes.Bare e refl
inside_on scopes.Between t i e = absurd cc
inside_on scopes.Named t i e = absurd cc
inside_on scopes.Locals t i e = absurd cc
inside_on (scopes.Body place) t i e = absurd cc

begun_inside : (t : Lexeme) → is_sign s.OpenBracket t ≡ false → is_sign s.Semicolon t ≡ false
    → is_inside (scope_after scopes.Between t) ≡ true
begun_inside t opens e =
    ap (λ (b : Bool). is_inside (if b then scopes.Named else if is_word w.Object t then scopes.Head
    else if gives_values t then scopes.Worth else ended t scopes.Bare)) opens
    ∙ either (is_word w.Object t) scopes.Head (if gives_values t then scopes.Worth else ended t scopes.Bare) refl
    (either (gives_values t) scopes.Worth (ended t scopes.Bare) refl
    (unended (is_sign s.Semicolon t) scopes.Bare e refl))

own_inside : (scope : Scope) (t : Lexeme) (own : List (List ℕ)) → is_inside scope ≡ true → own_after scope t own ≡ own
own_inside scopes.Head t own i = refl
own_inside scopes.Property t own i = refl
own_inside scopes.Words t own i = refl
own_inside scopes.Worth t own i = refl
own_inside scopes.Bare t own i = refl
own_inside scopes.Between t own i = absurd cc
own_inside scopes.Named t own i = absurd cc
own_inside scopes.Locals t own i = absurd cc
own_inside (scopes.Body place) t own i = absurd cc

semicolon : (t : Lexeme) → is_sign s.Semicolon t ≡ true → t ≡ sign s.Semicolon (position_of t)
semicolon (sign s.Semicolon p) e = refl
semicolon _ e = absurd cc

inside_end : (scope : Scope) (own : List (List ℕ)) (k : Keeping) (p : Position) → is_inside scope ≡ true
    → placing_after (at scope own k) (sign s.Semicolon p) ≡ at scopes.Between own keeps.Nothing
inside_end scopes.Head own k p i = ap (at scopes.Between own) (nothing_kept k s.Semicolon p)
inside_end scopes.Property own k p i = ap (at scopes.Between own) (nothing_kept k s.Semicolon p)
inside_end scopes.Words own k p i = ap (at scopes.Between own) (nothing_kept k s.Semicolon p)
inside_end scopes.Worth own k p i = ap (at scopes.Between own) (nothing_kept k s.Semicolon p)
inside_end scopes.Bare own k p i = ap (at scopes.Between own) (nothing_kept k s.Semicolon p)
inside_end scopes.Between own k p i = absurd cc
inside_end scopes.Named own k p i = absurd cc
inside_end scopes.Locals own k p i = absurd cc
inside_end (scopes.Body place) own k p i = absurd cc

-- the end of a directive, whatever was read of it
ended_inside : (scope : Scope) (own : List (List ℕ)) (k : Keeping) (t : Lexeme) → is_inside scope ≡ true
    → is_sign s.Semicolon t ≡ true → placing_after (at scope own k) t ≡ at scopes.Between own keeps.Nothing
ended_inside scope own k t i e =
    ap (placing_after (at scope own k)) (semicolon t e) ∙ inside_end scope own k (position_of t) i

rough_inside : (scope : Scope) (own : List (List ℕ)) (k : Keeping) (t : Lexeme) → is_inside scope ≡ true
    → rough_placing (at scope own k) t ≡ at (scope_after scope t) own (keeping_after k t)
rough_inside scopes.Head own k t i = refl
rough_inside scopes.Property own k t i = refl
rough_inside scopes.Words own k t i = refl
rough_inside scopes.Worth own k t i = refl
rough_inside scopes.Bare own k t i = refl
rough_inside scopes.Between own k t i = absurd cc
rough_inside scopes.Named own k t i = absurd cc
rough_inside scopes.Locals own k t i = absurd cc
rough_inside (scopes.Body place) own k t i = absurd cc

inside : (scope : Scope) (own : List (List ℕ)) (k : Keeping) (n : ℕ) (ps : List Piece) → is_inside scope ≡ true
    → Ends n ps → is_sign s.Semicolon (head (derived_all (drop n ps))) ≡ true
    → behind (at scope own k) n ps ≡ at scopes.Between own keeps.Nothing
inside scope own k n [] i h e = absurd h
inside scope own k zero (t ∷ ps) i h e = ended_inside scope own k (derived t) i e
inside scope own k (suc n) (t ∷ ps) i h e =
    ap (λ (p : Placing). behind p n ps) (rough_inside scope own k (derived t) i)
    ∙ inside (scope_after scope (derived t)) own (keeping_after k (derived t)) n ps
    (inside_on scope (derived t) i (no_close (derived t) h.0).0) h.1 e

directive : (scope : Scope) (own : List (List ℕ)) (k : Keeping) (n : ℕ) (ps : List Piece) → is_inside scope ≡ true
    → Ends n ps → is_sign s.Semicolon (head (derived_all (drop n ps))) ≡ true
    → behind (at scope own k) n ps ≡ placing_after (at scope own k) (head (derived_all (drop n ps)))
directive scope own k n ps i h e =
    inside scope own k n ps i h e ∙ sym (ended_inside scope own k (head (derived_all (drop n ps))) i e)

between_end : (own : List (List ℕ)) (k : Keeping) (t : Lexeme) → is_sign s.Semicolon t ≡ true
    → placing_after (at scopes.Between own k) t ≡ at scopes.Between [] keeps.Nothing
between_end own k t e =
    ap (placing_after (at scopes.Between own k)) (semicolon t e)
    ∙ ap (at scopes.Between []) (nothing_kept k s.Semicolon (position_of t))

between : (own : List (List ℕ)) (k : Keeping) (n : ℕ) (ps : List Piece) → Ends n ps
    → is_sign s.Semicolon (head (derived_all (drop n ps))) ≡ true → is_sign s.OpenBracket (head (derived_all ps)) ≡ false
    → behind (at scopes.Between own k) n ps
    ≡ placing_after (at scopes.Between own k) (head (derived_all (drop n ps)))
between own k n [] h e opens = absurd h
between own k zero (t ∷ ps) h e opens = refl
between own k (suc n) (t ∷ ps) h e opens =
    inside (scope_after scopes.Between (derived t)) [] (keeping_after k (derived t)) n ps
    (begun_inside (derived t) opens (no_close (derived t) h.0).0) h.1 e
    ∙ sym (between_end own k (head (derived_all (drop n ps))) e)

pub by_last : (scope : Scope) (own : List (List ℕ)) (k : Keeping) (n : ℕ) (ps : List Piece) → Ends n ps
    → is_skipped scope (head (derived_all ps)) (head (derived_all (drop n ps))) ≡ true
    → behind (at scope own k) n ps ≡ placing_after (at scope own k) (head (derived_all (drop n ps)))
by_last scopes.Between own k n ps h e =
    let i = and_parts (is_sign s.Semicolon (head (derived_all (drop n ps))))
    (not (is_sign s.OpenBracket (head (derived_all ps)))) e in
    between own k n ps h i.0 (denied (is_sign s.OpenBracket (head (derived_all ps))) i.1)
by_last scopes.Named own k n ps h e = absurd cc
by_last scopes.Locals own k n ps h e = absurd cc
by_last (scopes.Body place) own k n ps h e = in_body place own k n ps h
by_last scopes.Head own k n ps h e = directive scopes.Head own k n ps refl h e
by_last scopes.Property own k n ps h e = directive scopes.Property own k n ps refl h e
by_last scopes.Words own k n ps h e = directive scopes.Words own k n ps refl h e
by_last scopes.Worth own k n ps h e = directive scopes.Worth own k n ps refl h e
by_last scopes.Bare own k n ps h e = directive scopes.Bare own k n ps refl h e

-- ---- in the code

over : (arrays places : List (List ℕ)) (p q : Placing) (ps : List Piece) (n : ℕ) (old new : List Lexeme)
    → suc n ≤ length ps → quiet 0 false (derived_all ps) ≡ true → is_bare arrays p.reading.scope n ps ≡ true
    → new ≡ old ++ derived_all (take (suc n) ps) → q ≡ placing_after p (head (derived_all (drop n ps)))
    → new ++ entered_from arrays places (clear q) (derived_all (drop (suc n) ps))
    ≡ old ++ entered_from arrays places (clear p) (derived_all ps)
over arrays places p q ps n old new le still bare put step =
    let scope = p.reading.scope in
    let last = head (derived_all (drop n ps)) in
    let h = and_parts (list_all (is_apart arrays) (derived_all (take n ps)))
    (ends_plain last && is_skipped scope (head (derived_all ps)) last) bare in
    let i = and_parts (ends_plain last) (is_skipped scope (head (derived_all ps)) last) h.1 in
    let lt : n < length ps = omega (arith, le) in
    let is = step ∙ sym (by_last scope p.reading.own p.keeping n ps (ends_of arrays n ps lt h.0 i.0) i.1) in
    let rest = derived_all (drop (suc n) ps) in
    ap (λ (us : List Lexeme). us ++ entered_from arrays places (clear q) rest) put
    ∙ append_assoc old (derived_all (take (suc n) ps)) (entered_from arrays places (clear q) rest)
    ∙ ap (λ (x : Placing). old ++ (derived_all (take (suc n) ps) ++ entered_from arrays places (clear x) rest)) is
    ∙ ap (λ (us : List Lexeme). old ++ us)
    (sym (plain_on arrays places p n ps lt h.0 i.0) ∙ plain_same arrays places p (derived_all ps) still)

bare_over : (arrays places : List (List ℕ)) (p q : Placing) (ps : List Piece) (count : ℕ) (old new : List Lexeme)
    → 0 < count → count ≤ length ps → quiet 0 false (derived_all ps) ≡ true
    → is_bare arrays p.reading.scope (count - 1) ps ≡ true
    → new ≡ old ++ derived_all (take count ps) → q ≡ placing_after p (head (derived_all (drop (count - 1) ps)))
    → new ++ entered_from arrays places (clear q) (derived_all (drop count ps))
    ≡ old ++ entered_from arrays places (clear p) (derived_all ps)
bare_over arrays places p q ps zero old new some le still bare put step = absurd (omega (arith, some))
bare_over arrays places p q ps (suc n) old new some le still bare put step =
    let same : suc n - 1 ≡ n = omega arith in
    over arrays places p q ps n old new le still
    (subst (λ k. is_bare arrays p.reading.scope k ps ≡ true) same bare) put
    (subst (λ k. q ≡ placing_after p (head (derived_all (drop k ps)))) same step)

pub statement_on : (arrays places : List (List ℕ)) (p q : Placing) (f : Frame) (fs : List Frame) (ps rest : List Piece)
    (at count : ℕ) (old new whole : List Lexeme) → record { placing = p; frame = f; outer = fs } ≡ clear p
    → rest ≡ drop at ps → 0 < count → count ≤ length rest → quiet 0 false (derived_all rest) ≡ true
    → is_bare arrays p.reading.scope (count - 1) rest ≡ true → new ≡ old ++ derived_all (take count rest)
    → q ≡ placing_after p (head (derived_all (drop (count - 1) rest)))
    → old ++ entered_from arrays places (record { placing = p; frame = f; outer = fs }) (derived_all (drop at ps)) ≡ whole
    → new ++ entered_from arrays places (record { placing = q; frame = f; outer = fs }) (derived_all (drop (at + count) ps))
    ≡ whole
statement_on arrays places p q f fs ps rest at count old new whole cleared is some le still bare put step before =
    ap (λ (e : Entering). new ++ entered_from arrays places (record { placing = q; frame = e.frame; outer = e.outer })
    (derived_all (drop (at + count) ps))) cleared
    ∙ ap (λ (xs : List Piece). new ++ entered_from arrays places (clear q) (derived_all xs)) (sym (drop-drop count at ps))
    ∙ ap (λ (xs : List Piece). new ++ entered_from arrays places (clear q) (derived_all (drop count xs))) (sym is)
    ∙ bare_over arrays places p q rest count old new some le still bare put step
    ∙ ap (λ (xs : List Piece). old ++ entered_from arrays places (clear p) (derived_all xs)) is
    ∙ ap (λ (e : Entering). old ++ entered_from arrays places e (derived_all (drop at ps))) (sym cleared)
    ∙ before
