-- A statement without `or` has no alternatives.
use Rattle.std.proofs.Common.{◌≡◌, ◌<◌, ◌+◌, ◌-◌, ◌==◌, ◌&&◌, ◌||◌, ◌++◌, ◌∙◌, ℕ, zero, suc, Bool, true, false, List}
use Rattle.std.proofs.Common.{[], ◌∷◌, drop, take, refl, ap, sym, subst, arith, add-one}
use Rattle.std.specs.Prelude.{if◌then◌else◌, Option, None}
use Rattle.std.specs.List.{fold}
use Rattle.std.proofs.lemmas.Bool.{and_parts, eqb-true}
use Rattle.syntax_lexer.specs.declared.token.Sign.TheVariants as s
use Rattle.syntax_lexer.specs.declared.token.Position.{Position}
use Rattle.syntax_lexer.specs.Token.{Lexeme, sign, position_of}
use Rattle.derive_tokens.specs.declared.piece.Piece.{Piece}
use Rattle.derive_tokens.specs.Pieces.{derived_all}
use Rattle.derive_tokens.specs.Tokens.{is_sign}
use Rattle.derive_values.specs.declared.places.Scope.{Scope}
use Rattle.derive_values.specs.Places.{scope_after}
use Rattle.derive_tokens.specs.Names.{is_name}
use Rattle.derive_statements.specs.Lists.{deeper, ends_statement}
use Rattle.derive_operands.specs.declared.alternatives.Frame.{Frame}
use Rattle.derive_operands.specs.declared.alternatives.Frame.TheVariants as frames
use Rattle.derive_sums.specs.Sums.{Shape, before, after, names_begin, name_read, or_read, found, none, shape_after}
use Rattle.derive_sums.specs.Sums.{operator_in, is_operator, is_or, ends_sum, precedes_sum, takes_names}
use Rattle.derive_operands.specs.Alternatives.{Choosing, begun_operator, is_begun, choosing_after, with_key, keys_from}
use Rattle.derive_operands.specs.Alternatives.{chosen_as, chosen_from, first_frame, later_frames, outer_after, is_closed}
use Rattle.derive_operands.specs.Quiet.{Run, area_after, area_of, is_none, is_plain, passed_over, quiet_run, run, scope_at}
use Rattle.derive_operands.proofs.Rests.{derived_drop, quiet_rows}
use Rattle.derive_sums.proofs.Settled.{no_change}
use Rattle.derive_operands.proofs.Statements.{Quiet, quiet_found, scope_is, semicolon}

-- ---- nothing is found ahead

abbrev is_seeking : Shape → Bool
is_seeking (or_read operator) = false
is_seeking (found operator) = false
is_seeking _ = true

sought : (a b c d : Bool) (t : Lexeme) (n : ℕ)
    → is_seeking (if a then none else if b then (if d then names_begin t else after t 0) else if c then none else before n)
    ≡ true
sought true b c d t n = refl
sought false true c true t n = refl
sought false true c false t n = refl
sought false false true d t n = refl
sought false false false d t n = refl

later : (a b c : Bool) (t : Lexeme) (n : ℕ) → b ≡ false
    → is_seeking (if a then none else if b then found t else if c then none else after t n) ≡ true
later true b c t n e = refl
later false true c t n e = absurd cc
later false false true t n e = refl
later false false false t n e = refl

both_not : (a b : Bool) → b ≡ false → (a && b) ≡ false
both_not true b e = e
both_not false b e = refl

named : (b : Bool) (t : Lexeme) → is_seeking (if b then name_read t else none) ≡ true
named true t = refl
named false t = refl

unread : (b : Bool) (t : Lexeme) → b ≡ false → is_seeking (if b then or_read t else none) ≡ true
unread true t e = absurd cc
unread false t e = refl

seeks_on : (shape : Shape) (t : Lexeme) → is_or t ≡ false → is_seeking shape ≡ true
    → is_seeking (shape_after shape t) ≡ true
seeks_on (before n) t lacks e =
    sought (ends_statement t) ((n == 0) && is_operator t) ((n == 0) && (ends_sum t || is_or t)) (takes_names t) t
    (deeper n t)
seeks_on (after o n) t lacks e =
    later (ends_statement t) ((n == 0) && is_or t) ((n == 0) && ends_sum t) o (deeper n t)
    (both_not (n == 0) (is_or t) lacks)
seeks_on (names_begin o) t lacks e = named (is_name t) o
seeks_on (name_read o) t lacks e = unread (is_or t) o lacks
seeks_on (or_read o) t lacks e = absurd cc
seeks_on (found o) t lacks e = absurd cc
seeks_on none t lacks e = refl

stops : (shape : Shape) (p : Position) → is_seeking shape ≡ true → shape_after shape (sign s.Semicolon p) ≡ none
stops (before n) p e = refl
stops (after o n) p e = refl
stops (names_begin o) p e = refl
stops (name_read o) p e = refl
stops (or_read o) p e = absurd cc
stops (found o) p e = absurd cc
stops none p e = refl

stopped : (shape : Shape) (t : Lexeme) (ts : List Lexeme) → is_seeking shape ≡ true → is_sign s.Semicolon t ≡ true
    → operator_in (fold shape_after shape (t ∷ ts)) ≡ None
stopped shape t ts seeks e =
    ap (λ u. operator_in (fold shape_after (shape_after shape u) ts)) (semicolon t e)
    ∙ ap (λ x. operator_in (fold shape_after x ts)) (stops shape (position_of t) seeks)
    ∙ ap operator_in (no_change none ts refl)

unfound : (shape : Shape) (depth n : ℕ) (ts : List Lexeme) → is_seeking shape ≡ true → Quiet false depth n ts
    → operator_in (fold shape_after shape ts) ≡ None
unfound shape depth n [] seeks h = absurd h
unfound shape depth zero (t ∷ ts) seeks h = stopped shape t ts seeks h.1
unfound shape depth (suc n) (t ∷ ts) seeks h =
    unfound (shape_after shape t) (deeper depth t) n ts (seeks_on shape t h.0 seeks) h.1

-- ---- nothing is begun

abbrev closed_in : ℕ → List Frame
closed_in zero = []
closed_in (suc n) = frames.Closed ∷ closed_in n

abbrev state : Scope → Bool → Frame → List Frame → ℕ → Choosing
state scope begins frame outer passed =
    record { scope = scope; begins = begins; frame = frame; outer = outer; passed = passed }

-- no alternatives are read, in so many brackets
abbrev plain : Scope → Bool → ℕ → Choosing
plain scope begins depth = state scope begins frames.Closed (closed_in depth) 0

neither_way : (b : Bool) → ◌≡◌ {A = Option Lexeme} (if b then None else None) None
neither_way true = refl
neither_way false = refl

unbegun : (c : Choosing) (depth n : ℕ) (t : Lexeme) (ts : List Lexeme) → Quiet false depth n (t ∷ ts)
    → begun_operator c t ts ≡ None
unbegun c depth n t ts h =
    ap (λ (o : Option Lexeme). if is_begun c t ts then o else None) (unfound (before 0) depth n (t ∷ ts) refl h)
    ∙ neither_way (is_begun c t ts)

frame_on : (a b : Bool) (depth : ℕ)
    → (if a then frames.Closed else if b then first_frame (closed_in depth) else frames.Closed) ≡ frames.Closed
frame_on true b depth = refl
frame_on false true zero = refl
frame_on false true (suc depth) = refl
frame_on false false depth = refl

outer_on : (a b : Bool) (depth : ℕ)
    → (if a then frames.Closed ∷ closed_in depth else if b then later_frames (closed_in depth) else closed_in depth)
    ≡ closed_in (if a then depth + 1 else if b then depth - 1 else depth)
outer_on true b depth = ap closed_in (sym (add-one depth))
outer_on false true zero = refl
outer_on false true (suc depth) = let e : depth ≡ suc depth - 1 = omega arith in ap closed_in e
outer_on false false depth = refl

abbrev begins_on : Bool → Lexeme → Bool
begins_on begins t = precedes_sum t || (is_sign s.CloseParenthesis t && begins)

plain_on : (scope : Scope) (begins : Bool) (depth : ℕ) (t : Lexeme) (ts : List Lexeme)
    → choosing_after (plain scope begins depth) None t ts
    ≡ plain (scope_after scope t) (begins_on begins t) (deeper depth t)
plain_on scope begins depth t ts =
    ap
    (λ (f : Frame). state (scope_after scope t) (begins_on begins t) f (outer_after frames.Closed (closed_in depth) t) 0)
    (frame_on (is_sign s.OpenParenthesis t) (is_sign s.CloseParenthesis t) depth)
    ∙ ap (λ (fs : List Frame). state (scope_after scope t) (begins_on begins t) frames.Closed fs 0)
    (outer_on (is_sign s.OpenParenthesis t) (is_sign s.CloseParenthesis t) depth)

plain_end : (scope : Scope) (begins : Bool) (depth : ℕ) (t : Lexeme) → depth ≡ 0 → is_sign s.Semicolon t ≡ true
    → plain scope (begins_on begins t) (deeper depth t) ≡ plain scope true 0
plain_end scope begins depth t flat e =
    ap (λ u. plain scope (begins_on begins u) (deeper depth u)) (semicolon t e) ∙ ap (λ n. plain scope true n) flat

-- the scope after so many tokens, and one
abbrev scope_on : Scope → ℕ → List Lexeme → Scope
scope_on scope n ts = fold scope_after scope (take (suc n) ts)

-- ---- the lists of alternatives

keys_one : (keys : List (List ℕ)) (scope : Scope) (begins : Bool) (depth n : ℕ) (t : Lexeme) (ts : List Lexeme)
    → Quiet false depth n (t ∷ ts)
    → keys_from keys (plain scope begins depth) (t ∷ ts)
    ≡ keys_from keys (plain (scope_after scope t) (begins_on begins t) (deeper depth t)) ts
keys_one keys scope begins depth n t ts h =
    let c : Choosing = plain scope begins depth in
    ap (λ (o : Option Lexeme). keys_from (with_key keys o (t ∷ ts)) (choosing_after c o t ts) ts)
    (unbegun c depth n t ts h)
    ∙ ap (λ (x : Choosing). keys_from keys x ts) (plain_on scope begins depth t ts)

keys_on : (keys : List (List ℕ)) (scope : Scope) (begins : Bool) (depth n : ℕ) (ts : List Lexeme) → Quiet false depth n ts
    → keys_from keys (plain scope begins depth) ts ≡ keys_from keys (plain (scope_on scope n ts) true 0) (drop (suc n) ts)
keys_on keys scope begins depth n [] h = absurd h
keys_on keys scope begins depth zero (t ∷ ts) h =
    keys_one keys scope begins depth zero t ts h
    ∙ ap (λ (x : Choosing). keys_from keys x ts) (plain_end (scope_after scope t) begins depth t h.0 h.1)
keys_on keys scope begins depth (suc n) (t ∷ ts) h =
    keys_one keys scope begins depth (suc n) t ts h
    ∙ keys_on keys (scope_after scope t) (begins_on begins t) (deeper depth t) n ts h.1

-- ---- the tokens

chosen_one : (keys : List (List ℕ)) (scope : Scope) (begins : Bool) (depth n : ℕ) (t : Lexeme) (ts : List Lexeme)
    → Quiet false depth n (t ∷ ts)
    → chosen_from keys (plain scope begins depth) (t ∷ ts)
    ≡ t ∷ chosen_from keys (plain (scope_after scope t) (begins_on begins t) (deeper depth t)) ts
chosen_one keys scope begins depth n t ts h =
    let c : Choosing = plain scope begins depth in
    ap (λ (o : Option Lexeme). chosen_as keys c o t ts ++ chosen_from keys (choosing_after c o t ts) ts)
    (unbegun c depth n t ts h)
    ∙ ap (λ (x : Choosing). t ∷ chosen_from keys x ts) (plain_on scope begins depth t ts)

chosen_on : (keys : List (List ℕ)) (scope : Scope) (begins : Bool) (depth n : ℕ) (ts : List Lexeme)
    → Quiet false depth n ts
    → chosen_from keys (plain scope begins depth) ts
    ≡ take (suc n) ts ++ chosen_from keys (plain (scope_on scope n ts) true 0) (drop (suc n) ts)
chosen_on keys scope begins depth n [] h = absurd h
chosen_on keys scope begins depth zero (t ∷ ts) h =
    chosen_one keys scope begins depth zero t ts h
    ∙ ap (λ (x : Choosing). t ∷ chosen_from keys x ts) (plain_end (scope_after scope t) begins depth t h.0 h.1)
chosen_on keys scope begins depth (suc n) (t ∷ ts) h =
    chosen_one keys scope begins depth (suc n) t ts h
    ∙ ap (λ (us : List Lexeme). t ∷ us)
    (chosen_on keys (scope_after scope t) (begins_on begins t) (deeper depth t) n ts h.1)

-- ---- where no alternatives are read

closed_frame : (frame : Frame) → is_closed frame ≡ true → frame ≡ frames.Closed
closed_frame frames.Closed e = refl
closed_frame frames.Opened e = absurd cc
closed_frame frames.Listing e = absurd cc
closed_frame frames.Naming e = absurd cc

no_frames : (outer : List Frame) → is_none outer ≡ true → outer ≡ []
no_frames [] e = refl
no_frames (f ∷ fs) e = absurd cc

plain_now : (c : Choosing) → is_plain c ≡ true → c ≡ plain c.scope c.begins 0
plain_now c e =
    let b = and_parts (is_closed c.frame) ((c.passed == 0) && is_none c.outer) e in
    let d = and_parts (c.passed == 0) (is_none c.outer) b.1 in
    ap (λ (f : Frame). state c.scope c.begins f c.outer c.passed) (closed_frame c.frame b.0)
    ∙ ap (λ (fs : List Frame). state c.scope c.begins frames.Closed fs c.passed) (no_frames c.outer d.1)
    ∙ ap (λ n. state c.scope c.begins frames.Closed [] n) (eqb-true c.passed 0 d.0)

-- what is over after a run
abbrev Over : Choosing → List Lexeme → Run → Type 0
Over c ts r =
    (keys : List (List ℕ))
    → (keys_from keys (passed_over c (scope_at r.area)) (drop r.length ts) ≡ keys_from keys c ts)
    × (take r.length ts ++ chosen_from keys (passed_over c (scope_at r.area)) (drop r.length ts) ≡ chosen_from keys c ts)

over_plain : (scope : Scope) (begins : Bool) (n : ℕ) (ts : List Lexeme) → Quiet false 0 n ts
    → Over (plain scope begins 0) ts (run (suc n) (fold area_after (area_of scope) (take (suc n) ts)))
over_plain scope begins n ts h keys =
    let e = scope_is scope false 0 n ts h in (
      (ap (λ (x : Scope). keys_from keys (plain x true 0) (drop (suc n) ts)) e ∙ sym (keys_on keys scope begins 0 n ts h)),
      (ap (λ (x : Scope). take (suc n) ts ++ chosen_from keys (plain x true 0) (drop (suc n) ts)) e
          ∙ sym (chosen_on keys scope begins 0 n ts h)),
    )

over : (c : Choosing) (ts : List Lexeme) (r : Run) → is_plain c ≡ true → r ≡ quiet_run false (area_of c.scope) ts
    → 0 < r.length → Over c ts r
over c ts r e same lt =
    let more : 0 < (quiet_run false (area_of c.scope) ts).length = subst (λ (x : Run). 0 < x.length) same lt in
    let w = quiet_found false (area_of c.scope) ts more in
    subst (λ (x : Run). Over c ts x) (sym (same ∙ w.1.0))
    (subst (λ (x : Choosing). Over x ts (run (suc w.0) (fold area_after (area_of c.scope) (take (suc w.0) ts))))
    (sym (plain_now c e)) (over_plain c.scope c.begins w.0 ts w.1.1))

pub keys_over : (keys : List (List ℕ)) (c : Choosing) (pieces : List Piece) (r : Run) (scope : Scope)
    → scope ≡ scope_at r.area → is_plain c ≡ true → r ≡ quiet_run false (area_of c.scope) (derived_all pieces)
    → 0 < r.length
    → keys_from keys (passed_over c scope) (derived_all (drop r.length pieces)) ≡ keys_from keys c (derived_all pieces)
keys_over keys c pieces r scope place is e lt =
    ap (λ (x : Scope). keys_from keys (passed_over c x) (derived_all (drop r.length pieces))) place
    ∙ ap (λ (ts : List Lexeme). keys_from keys (passed_over c (scope_at r.area)) ts) (sym (derived_drop pieces r.length))
    ∙ (over c (derived_all pieces) r is e lt keys).0

pub chosen_over : (keys : List (List ℕ)) (c : Choosing) (pieces : List Piece) (r : Run) (scope : Scope)
    (old new : List Lexeme) → scope ≡ scope_at r.area → is_plain c ≡ true
    → r ≡ quiet_run false (area_of c.scope) (derived_all pieces) → 0 < r.length
    → new ≡ old ++ take r.length (derived_all pieces)
    → new ++ chosen_from keys (passed_over c scope) (derived_all (drop r.length pieces))
    ≡ old ++ chosen_from keys c (derived_all pieces)
chosen_over keys c pieces r scope old new place is e lt puts =
    ap (λ (x : Scope). new ++ chosen_from keys (passed_over c x) (derived_all (drop r.length pieces))) place
    ∙ quiet_rows (chosen_from keys (passed_over c (scope_at r.area))) pieces old new r.length
    (chosen_from keys c (derived_all pieces)) puts (over c (derived_all pieces) r is e lt keys).1
