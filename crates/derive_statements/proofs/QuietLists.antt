-- Statements without a list that is introduced, and without a list of actions.
use Rattle.std.proofs.Common.{◌≡◌, ◌<◌, ◌&&◌, ◌||◌, ◌++◌, ◌∙◌, ℕ, zero, suc, Bool, true, false, List, [], ◌∷◌, take, drop}
use Rattle.std.proofs.Common.{refl, ap, subst, sym}
use Rattle.std.specs.Prelude.{◌==◌, if◌then◌else◌, codes}
use Rattle.syntax_lexer.specs.declared.token.Sign.{Sign}
use Rattle.syntax_lexer.specs.declared.token.Sign.TheVariants as s
use Rattle.syntax_lexer.specs.declared.token.Word.TheVariants as w
use Rattle.syntax_lexer.specs.Token.{Lexeme, name, reserved, sign, position_of}
use Rattle.derive_tokens.specs.declared.piece.Piece.{Piece}
use Rattle.derive_tokens.specs.Pieces.{derived_all}
use Rattle.derive_tokens.specs.Tokens.{is_sign}
use Rattle.derive_values.specs.declared.places.Scope.{Scope}
use Rattle.derive_values.specs.declared.places.Scope.TheVariants as scopes
use Rattle.derive_values.specs.declared.places.Place.TheVariants as places
use Rattle.derive_values.specs.Places.{is_at_rest, scope_after}
use Rattle.derive_statements.specs.Lists.{Listing, at_statement, begins_action, begins_list, deeper, ends_action, introduced_from}
use Rattle.derive_statements.specs.Lists.{is_before_header, is_in_header, is_listed, is_listed_from, is_loop_after, listed_from}
use Rattle.derive_statements.specs.Lists.{opens_block, opens_both, opens_first, opens_last}
use Rattle.derive_statements.specs.Quiet.{is_sought, quiet_run}
use Rattle.derive_statements.specs.declared.quiet.Seek.TheVariants as seeks
use Rattle.derive_statements.proofs.Stretches.{Quiet, at_home, home, is_kept, off, other_off, quiet_found, rows, scope_ends}
use Rattle.derive_statements.proofs.Stretches.{scope_stays, semicolon, unmet}

no_introduction : (scope : Scope) (t : Lexeme) (rest : List Lexeme)
    → (at_statement (home scope) && is_sought seeks.Introduction t rest) ≡ false → begins_list scope t rest ≡ false
no_introduction (scopes.Body place) t rest e =
    ap (λ b. at_statement (scopes.Body place) && b) e ∙ off (at_statement (scopes.Body place))
no_introduction _ t rest e = refl

introduced_one : (scope : Scope) (t : Lexeme) (ts : List Lexeme) → begins_list scope t ts ≡ false
    → introduced_from scope (t ∷ ts) ≡ t ∷ introduced_from (scope_after scope t) ts
introduced_one scope t ts e =
    ap
    (λ b. (if b then reserved w.PrintRet (position_of t) ∷ [] else []) ++ t ∷ introduced_from (scope_after scope t) ts)
    e

introduced_on : (scope : Scope) (n : ℕ) (ts : List Lexeme) → is_kept scope ≡ true
    → Quiet seeks.Introduction (home scope) n ts
    → introduced_from scope ts ≡ take (suc n) ts ++ introduced_from (home scope) (drop (suc n) ts)
introduced_on scope n [] kept h = absurd h
introduced_on scope zero (t ∷ ts) kept h =
    introduced_one scope t ts (no_introduction scope t ts (unmet seeks.Introduction (home scope) t ts h.0).1.1)
    ∙ ap (λ x. t ∷ introduced_from x ts) (scope_ends scope t kept h.1)
introduced_on scope (suc n) (t ∷ ts) kept h =
    let not = unmet seeks.Introduction (home scope) t ts h.0 in
    let stays = scope_stays scope t kept not.0 not.1.0 in
    introduced_one scope t ts (no_introduction scope t ts not.1.1)
    ∙ ap (λ (us : List Lexeme). t ∷ us)
    (introduced_on (scope_after scope t) n ts stays.0
    (subst (λ x. Quiet seeks.Introduction x n ts) (sym stays.1) h.1)
    ∙ ap (λ x. take (suc n) ts ++ introduced_from x (drop (suc n) ts)) stays.1)

introduced_rest : (scope : Scope) (n : ℕ) (ts : List Lexeme) → is_at_rest scope ≡ true
    → Quiet seeks.Introduction scope n ts
    → take (suc n) ts ++ introduced_from scope (drop (suc n) ts) ≡ introduced_from scope ts
introduced_rest scope n ts rest h =
    let at = at_home scope rest in
    ap (λ x. take (suc n) ts ++ introduced_from x (drop (suc n) ts)) at.1
    ∙ sym (introduced_on scope n ts at.0 (subst (λ x. Quiet seeks.Introduction x n ts) at.1 h))

pub introduced_over : (scope : Scope) (pieces : List Piece) (count : ℕ) (old new : List Lexeme)
    → is_at_rest scope ≡ true → 0 < count → count ≡ quiet_run seeks.Introduction scope (derived_all pieces)
    → new ≡ old ++ derived_all (take count pieces)
    → new ++ introduced_from scope (derived_all (drop count pieces)) ≡ old ++ introduced_from scope (derived_all pieces)
introduced_over scope pieces count old new rest lt e puts =
    let w = quiet_found seeks.Introduction scope (derived_all pieces) count lt e in
    rows (introduced_from scope) pieces old new count puts
    (subst
    (λ n. take n (derived_all pieces) ++ introduced_from scope (drop n (derived_all pieces))
    ≡ introduced_from scope (derived_all pieces))
    w.1.0 (introduced_rest scope w.0 (derived_all pieces) rest w.1.1))

-- ---- lists of actions

both_off : (b x : Bool) → x ≡ false → (if b then false else x) ≡ false
both_off true x e = refl
both_off false x e = e

no_list : (wanted : Sign) (at : Scope) (k n : ℕ) (ts : List Lexeme) → at_statement at ≡ true → Quiet seeks.List at n ts
    → is_listed_from wanted false k ts ≡ false
no_list wanted at k n [] is h = absurd h
no_list wanted at k zero (t ∷ ts) is h =
    ap (λ u. is_listed_from wanted false k (u ∷ ts)) (semicolon t h.1)
no_list wanted at k (suc n) (t ∷ ts) is h =
    let comma : is_sign s.Comma t ≡ false =
    other_off (at_statement at) (is_sign s.Comma t) is (unmet seeks.List at t ts h.0).1.1 in
    ap (λ b. if ends_action k t then false else is_listed_from wanted ((k == 0) && b) (deeper k t) ts) comma
    ∙ ap (λ b. if ends_action k t then false else is_listed_from wanted b (deeper k t) ts) (off (k == 0))
    ∙ both_off (ends_action k t) (is_listed_from wanted false (deeper k t) ts) (no_list wanted at (deeper k t) n ts is h.1)

-- no list begins with the token
abbrev Silent : Lexeme → List Lexeme → Type 0
Silent t ts =
    ((begins_action t && is_listed s.Semicolon (deeper 0 t) ts) ≡ false)
    × (((is_sign s.OpenParenthesis t && is_listed s.Colon 0 ts) ≡ false)
    × ((is_sign s.Colon t && is_listed s.CloseParenthesis 0 ts) ≡ false))

silent_end : (t : Lexeme) (ts : List Lexeme) → is_sign s.Semicolon t ≡ true → Silent t ts
silent_end t ts e = subst (λ u. Silent u ts) (sym (semicolon t e)) (refl, (refl, refl))

silent : (at : Scope) (n : ℕ) (t : Lexeme) (ts : List Lexeme) → at_statement at ≡ true → Quiet seeks.List at n ts
    → Silent t ts
silent at n t ts is h = (
  (ap (λ b. begins_action t && b) (no_list s.Semicolon at (deeper 0 t) n ts is h) ∙ off (begins_action t)),
  (
    (ap (λ b. is_sign s.OpenParenthesis t && b) (no_list s.Colon at 0 n ts is h) ∙ off (is_sign s.OpenParenthesis t)),
    (ap (λ b. is_sign s.Colon t && b) (no_list s.CloseParenthesis at 0 n ts is h) ∙ off (is_sign s.Colon t)),
  ),
)

abbrev reading : Scope → Bool → Listing
reading scope loop = record { scope = scope; loop = loop; listed = false }

no_block : (scope : Scope) (loop : Bool) (t : Lexeme) (ts : List Lexeme)
    → (at_statement (home scope) ≡ true → Silent t ts) → opens_block (reading scope loop) t ts ≡ false
no_block (scopes.Body place) loop t ts h =
    ap (λ b. at_statement (scopes.Body place) && b) (h refl).0 ∙ off (at_statement (scopes.Body place))
no_block _ loop t ts h = refl

no_both : (scope : Scope) (loop : Bool) (t : Lexeme) (ts : List Lexeme)
    → (at_statement (home scope) ≡ true → Silent t ts) → opens_both (reading scope loop) t ts ≡ false
no_both (scopes.Body place) loop t ts h =
    let q : Listing = reading (scopes.Body place) loop in
    let first : opens_first q t ts ≡ false =
    ap (λ b. is_before_header (scopes.Body place) && b) (h refl).1.0 ∙ off (is_before_header (scopes.Body place)) in
    let last : opens_last q t ts ≡ false =
    ap (λ b. is_in_header (scopes.Body place) && b) (h refl).1.1 ∙ off (is_in_header (scopes.Body place)) in
    ap (λ b. loop && (b || opens_last q t ts)) first ∙ ap (λ b. loop && b) last ∙ off loop
no_both _ loop t ts h = off loop

listed_one : (scope : Scope) (loop : Bool) (t : Lexeme) (ts : List Lexeme)
    → (at_statement (home scope) ≡ true → Silent t ts)
    → listed_from (reading scope loop) (t ∷ ts)
    ≡ t ∷ listed_from (reading (scope_after scope t) (is_loop_after (reading scope loop) t)) ts
listed_one scope loop t ts h =
    let q : Listing = reading scope loop in
    let next : Bool → Listing = λ b. record {
      scope = scope_after scope t;
      loop = is_loop_after (reading scope loop) t;
      listed = b;
    } in
    let begun : Bool → List Lexeme = λ b. if b
    then name (codes "x__both") (position_of t) ∷ sign s.OpenParenthesis (position_of t) ∷ [] else [] in
    ap
    (λ b. (if b then sign s.OpenBrace (position_of t) ∷ t ∷ [] else t ∷ begun (opens_both q t ts))
    ++ listed_from (next (b || (opens_both q t ts || false))) ts)
    (no_block scope loop t ts h)
    ∙ ap (λ b. (t ∷ begun b) ++ listed_from (next (b || false)) ts) (no_both scope loop t ts h)

alike_body : (a b : Bool) (ts : List Lexeme)
    → listed_from (reading (scopes.Body places.Statement) a) ts ≡ listed_from (reading (scopes.Body places.Statement) b) ts
alike_body a b [] = refl
alike_body true true (t ∷ ts) = refl
alike_body true false (t ∷ ts) = refl
alike_body false true (t ∷ ts) = refl
alike_body false false (t ∷ ts) = refl

alike : (scope : Scope) (a b : Bool) (ts : List Lexeme) → (at_statement (home scope) ≡ false → a ≡ b)
    → listed_from (reading (home scope) a) ts ≡ listed_from (reading (home scope) b) ts
alike (scopes.Body place) a b ts e = alike_body a b ts
alike _ a b ts e = ap (λ x. listed_from (reading scopes.Between x) ts) (e refl)

loop_stays : (scope : Scope) (loop : Bool) (t : Lexeme) → at_statement (home scope) ≡ false
    → is_loop_after (reading scope loop) t ≡ loop
loop_stays (scopes.Body place) loop t e = absurd cc
loop_stays _ loop t e = refl

listed_on : (scope : Scope) (loop last : Bool) (n : ℕ) (ts : List Lexeme) → is_kept scope ≡ true
    → (at_statement (home scope) ≡ false → loop ≡ last) → Quiet seeks.List (home scope) n ts
    → listed_from (reading scope loop) ts
    ≡ take (suc n) ts ++ listed_from (reading (home scope) last) (drop (suc n) ts)
listed_on scope loop last n [] kept same h = absurd h
listed_on scope loop last zero (t ∷ ts) kept same h =
    let next : Bool = is_loop_after (reading scope loop) t in
    listed_one scope loop t ts (λ is. silent_end t ts h.1)
    ∙ ap (λ x. t ∷ listed_from (reading x next) ts) (scope_ends scope t kept h.1)
    ∙ ap (λ (us : List Lexeme). t ∷ us) (alike scope next last ts (λ no. loop_stays scope loop t no ∙ same no))
listed_on scope loop last (suc n) (t ∷ ts) kept same h =
    let next : Bool = is_loop_after (reading scope loop) t in
    let not = unmet seeks.List (home scope) t ts h.0 in
    let stays = scope_stays scope t kept not.0 not.1.0 in
    listed_one scope loop t ts (λ is. silent (home scope) n t ts is h.1)
    ∙ ap (λ (us : List Lexeme). t ∷ us)
    (listed_on (scope_after scope t) next last n ts stays.0
    (λ no. let out : at_statement (home scope) ≡ false = sym (ap at_statement stays.1) ∙ no in
    loop_stays scope loop t out ∙ same out)
    (subst (λ x. Quiet seeks.List x n ts) (sym stays.1) h.1)
    ∙ ap (λ x. take (suc n) ts ++ listed_from (reading x last) (drop (suc n) ts)) stays.1)

listed_rest : (scope : Scope) (loop : Bool) (n : ℕ) (ts : List Lexeme) → is_at_rest scope ≡ true
    → Quiet seeks.List scope n ts
    → take (suc n) ts ++ listed_from (reading scope loop) (drop (suc n) ts) ≡ listed_from (reading scope loop) ts
listed_rest scope loop n ts rest h =
    let at = at_home scope rest in
    ap (λ x. take (suc n) ts ++ listed_from (reading x loop) (drop (suc n) ts)) at.1
    ∙ sym (listed_on scope loop loop n ts at.0 (λ no. refl) (subst (λ x. Quiet seeks.List x n ts) at.1 h))

over : (scope : Scope) (loop : Bool) (pieces : List Piece) (count : ℕ) (old new : List Lexeme)
    → is_at_rest scope ≡ true → 0 < count → count ≡ quiet_run seeks.List scope (derived_all pieces)
    → new ≡ old ++ derived_all (take count pieces)
    → new ++ listed_from (reading scope loop) (derived_all (drop count pieces))
    ≡ old ++ listed_from (reading scope loop) (derived_all pieces)
over scope loop pieces count old new rest lt e puts =
    let w = quiet_found seeks.List scope (derived_all pieces) count lt e in
    rows (listed_from (reading scope loop)) pieces old new count puts
    (subst
    (λ n. take n (derived_all pieces) ++ listed_from (reading scope loop) (drop n (derived_all pieces))
    ≡ listed_from (reading scope loop) (derived_all pieces))
    w.1.0 (listed_rest scope loop w.0 (derived_all pieces) rest w.1.1))

pub listed_over : (q : Listing) (pieces : List Piece) (count : ℕ) (old new : List Lexeme) → q.listed ≡ false
    → is_at_rest q.scope ≡ true → 0 < count → count ≡ quiet_run seeks.List q.scope (derived_all pieces)
    → new ≡ old ++ derived_all (take count pieces)
    → new ++ listed_from q (derived_all (drop count pieces)) ≡ old ++ listed_from q (derived_all pieces)
listed_over q pieces count old new not rest lt e puts =
    subst
    (λ b. new ++ listed_from (record { scope = q.scope; loop = q.loop; listed = b }) (derived_all (drop count pieces))
    ≡ old ++ listed_from (record { scope = q.scope; loop = q.loop; listed = b }) (derived_all pieces))
    (sym not) (over q.scope q.loop pieces count old new rest lt e puts)
