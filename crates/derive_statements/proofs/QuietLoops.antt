-- Statements without `spaces` and `objectloop`.
use Rattle.std.proofs.Common.{◌≡◌, ◌<◌, ◌&&◌, ◌||◌, ◌++◌, ◌∙◌, ℕ, zero, suc, Bool, true, false, List, [], ◌∷◌, take, drop}
use Rattle.std.proofs.Common.{Option, Some, None, refl, ap, subst, sym}
use Rattle.std.specs.Prelude.{not, if◌then◌else◌, codes}
use Rattle.syntax_lexer.specs.declared.token.Word.TheVariants as w
use Rattle.syntax_lexer.specs.Token.{Lexeme, reserved, position_of, head}
use Rattle.derive_tokens.specs.declared.piece.Piece.{Piece}
use Rattle.derive_tokens.specs.Pieces.{derived_all}
use Rattle.derive_tokens.specs.Tokens.{is_named, is_word}
use Rattle.derive_values.specs.declared.places.Scope.{Scope}
use Rattle.derive_values.specs.declared.places.Scope.TheVariants as scopes
use Rattle.derive_values.specs.declared.places.Place.TheVariants as places
use Rattle.derive_values.specs.Places.{Reading, is_at_rest, own_after, reading_after, scope_after}
use Rattle.derive_values.specs.Values.{begins_operand}
use Rattle.derive_statements.specs.FileNames.{FileNames, is_defined}
use Rattle.derive_statements.specs.Lists.{at_statement}
use Rattle.derive_statements.specs.Loops.{begins_spaces, is_found, looped_from, spaces_begun, variable_in, variable_of}
use Rattle.derive_statements.specs.Quiet.{is_sought, quiet_run}
use Rattle.derive_statements.specs.declared.quiet.Seek.TheVariants as seeks
use Rattle.derive_statements.proofs.Stretches.{Quiet, at_home, home, is_kept, neither, off, quiet_found, rows, scope_ends}
use Rattle.derive_statements.proofs.Stretches.{scope_stays, unmet}

abbrev state : Scope → List (List ℕ) → Reading
state scope own = record { scope = scope; own = own }

-- nothing of this pass begins with the token
abbrev Silent : Scope → Lexeme → Type 0
Silent scope t = (at_statement (home scope) && (is_word w.Objectloop t || is_named (codes "spaces") t)) ≡ false

no_spaces : (names : FileNames) (scope : Scope) (own : List (List ℕ)) (t : Lexeme) (rest : List Lexeme) → Silent scope t
    → begins_spaces names (state scope own) t rest ≡ false
no_spaces names (scopes.Body place) own t rest e =
    let h = neither (is_word w.Objectloop t) (is_named (codes "spaces") t) e in
    ap
    (λ b. at_statement (scopes.Body place)
    && (b && (begins_operand (head rest) && not (is_defined names own (codes "spaces")))))
    h.1
    ∙ off (at_statement (scopes.Body place))
no_spaces names _ own t rest e = refl

no_way : (a : Bool) (v : Option Lexeme) → (if a && false then v else None) ≡ None
no_way true v = refl
no_way false v = refl

no_variable : (scope : Scope) (t : Lexeme) (rest : List Lexeme) → Silent scope t → variable_of scope t rest ≡ None
no_variable (scopes.Body place) t rest e =
    let h = neither (is_word w.Objectloop t) (is_named (codes "spaces") t) e in
    ap (λ b. if at_statement (scopes.Body place) && b then variable_in rest else None) h.0
    ∙ no_way (at_statement (scopes.Body place)) (variable_in rest)
no_variable _ t rest e = refl

none_either : (a : Bool) (v : Option Lexeme) → v ≡ None → (if a then v else v) ≡ None
none_either true v e = e
none_either false v e = e

-- what a token stands for, if nothing begins with it
one : (names : FileNames) (scope : Scope) (own : List (List ℕ)) (t : Lexeme) (ts : List Lexeme) → Silent scope t
    → looped_from names (state scope own) false None (t ∷ ts)
    ≡ t ∷ looped_from names (state (scope_after scope t) (own_after scope t own)) false None ts
one names scope own t ts e =
    let later : Bool → Option Lexeme → List Lexeme =
    λ b v. looped_from names (state (scope_after scope t) (own_after scope t own)) b (if at_statement scope then v else None)
    ts in
    let loops : Option Lexeme → List Lexeme =
    λ v. if is_found v then reserved w.For (position_of t) ∷ [] else t ∷ [] in
    ap
    (λ b. (if b then spaces_begun (position_of t) else loops (variable_of scope t ts))
    ++ later (b || false) (variable_of scope t ts))
    (no_spaces names scope own t ts e)
    ∙ ap (λ v. loops v ++ later false v) (no_variable scope t ts e)
    ∙ ap
    (λ v. t ∷ looped_from names (state (scope_after scope t) (own_after scope t own)) false v ts)
    (none_either (at_statement scope) None refl)

-- The locals of a routine do not matter between directives.
alike_between : (names : FileNames) (a b : List (List ℕ)) (ts : List Lexeme)
    → looped_from names (state scopes.Between a) false None ts ≡ looped_from names (state scopes.Between b) false None ts
alike_between names a b [] = refl
alike_between names a b (t ∷ ts) = refl

alike : (names : FileNames) (scope : Scope) (a b : List (List ℕ)) (ts : List Lexeme)
    → (at_statement (home scope) ≡ true → a ≡ b)
    → looped_from names (state (home scope) a) false None ts ≡ looped_from names (state (home scope) b) false None ts
alike names (scopes.Body place) a b ts e =
    ap (λ o. looped_from names (state (scopes.Body places.Statement) o) false None ts) (e refl)
alike names _ a b ts e = alike_between names a b ts

own_stays : (scope : Scope) (own : List (List ℕ)) (t : Lexeme) → at_statement (home scope) ≡ true
    → own_after scope t own ≡ own
own_stays (scopes.Body place) own t e = refl
own_stays _ own t e = absurd cc

looped_on : (names : FileNames) (scope : Scope) (own last : List (List ℕ)) (n : ℕ) (ts : List Lexeme)
    → is_kept scope ≡ true → (at_statement (home scope) ≡ true → own ≡ last) → Quiet seeks.Loop (home scope) n ts
    → looped_from names (state scope own) false None ts
    ≡ take (suc n) ts ++ looped_from names (state (home scope) last) false None (drop (suc n) ts)
looped_on names scope own last n [] kept same h = absurd h
looped_on names scope own last zero (t ∷ ts) kept same h =
    let next : List (List ℕ) = own_after scope t own in
    one names scope own t ts (unmet seeks.Loop (home scope) t ts h.0).1.1
    ∙ ap (λ x. t ∷ looped_from names (state x next) false None ts) (scope_ends scope t kept h.1)
    ∙ ap (λ (us : List Lexeme). t ∷ us) (alike names scope next last ts (λ is. own_stays scope own t is ∙ same is))
looped_on names scope own last (suc n) (t ∷ ts) kept same h =
    let not_met = unmet seeks.Loop (home scope) t ts h.0 in
    let stays = scope_stays scope t kept not_met.0 not_met.1.0 in
    one names scope own t ts not_met.1.1
    ∙ ap (λ (us : List Lexeme). t ∷ us)
    (looped_on names (scope_after scope t) (own_after scope t own) last n ts stays.0
    (λ is. let at : at_statement (home scope) ≡ true = sym (ap at_statement stays.1) ∙ is in
    own_stays scope own t at ∙ same at)
    (subst (λ x. Quiet seeks.Loop x n ts) (sym stays.1) h.1)
    ∙ ap (λ x. take (suc n) ts ++ looped_from names (state x last) false None (drop (suc n) ts)) stays.1)

rest_of : (names : FileNames) (scope : Scope) (own : List (List ℕ)) (n : ℕ) (ts : List Lexeme) → is_at_rest scope ≡ true
    → Quiet seeks.Loop scope n ts
    → take (suc n) ts ++ looped_from names (state scope own) false None (drop (suc n) ts)
    ≡ looped_from names (state scope own) false None ts
rest_of names scope own n ts rest h =
    let at = at_home scope rest in
    ap (λ x. take (suc n) ts ++ looped_from names (state x own) false None (drop (suc n) ts)) at.1
    ∙ sym (looped_on names scope own own n ts at.0 (λ is. refl) (subst (λ x. Quiet seeks.Loop x n ts) at.1 h))

over : (names : FileNames) (scope : Scope) (own : List (List ℕ)) (pieces : List Piece) (count : ℕ) (old new : List Lexeme)
    → is_at_rest scope ≡ true → 0 < count → count ≡ quiet_run seeks.Loop scope (derived_all pieces)
    → new ≡ old ++ derived_all (take count pieces)
    → new ++ looped_from names (state scope own) false None (derived_all (drop count pieces))
    ≡ old ++ looped_from names (state scope own) false None (derived_all pieces)
over names scope own pieces count old new rest lt e puts =
    let f : List Lexeme → List Lexeme = λ ts. looped_from names (state scope own) false None ts in
    let w = quiet_found seeks.Loop scope (derived_all pieces) count lt e in
    rows f pieces old new count puts
    (subst (λ n. take n (derived_all pieces) ++ f (drop n (derived_all pieces)) ≡ f (derived_all pieces))
    w.1.0 (rest_of names scope own w.0 (derived_all pieces) rest w.1.1))

pub looped_over : (names : FileNames) (r : Reading) (spaced : Bool) (variable : Option Lexeme) (pieces : List Piece)
    (count : ℕ) (old new : List Lexeme) → spaced ≡ false → variable ≡ None → is_at_rest r.scope ≡ true → 0 < count
    → count ≡ quiet_run seeks.Loop r.scope (derived_all pieces) → new ≡ old ++ derived_all (take count pieces)
    → new ++ looped_from names r spaced variable (derived_all (drop count pieces))
    ≡ old ++ looped_from names r spaced variable (derived_all pieces)
looped_over names r spaced variable pieces count old new not_spaced none rest lt e puts =
    let f : Bool → Option Lexeme → List Lexeme → List Lexeme = λ b v ts. looped_from names r b v ts in
    subst (λ b. new ++ f b variable (derived_all (drop count pieces)) ≡ old ++ f b variable (derived_all pieces))
    (sym not_spaced)
    (subst (λ v. new ++ f false v (derived_all (drop count pieces)) ≡ old ++ f false v (derived_all pieces)) (sym none)
    (over names r.scope r.own pieces count old new rest lt e puts))
