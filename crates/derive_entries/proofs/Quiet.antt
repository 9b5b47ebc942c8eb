-- What a statement without entries stands for: its tokens, with numbers for arrays.
use Rattle.std.proofs.Common.{◌≡◌, ◌∙◌, ◌&&◌, ◌||◌, ◌==◌, ◌++◌, ℕ, Bool, true, false, not, List, [], ◌∷◌}
use Rattle.std.proofs.Common.{if◌then◌else◌, refl, sym, ap, arith, length, map}
use Rattle.std.specs.List.{list_all}
use Rattle.syntax_lexer.specs.declared.token.Sign.TheVariants as s
use Rattle.syntax_lexer.specs.Token.{Lexeme, name, number, text, character, dictionary_word, reserved, sign, end}
use Rattle.syntax_lexer.specs.Token.{position_of}
use Rattle.derive_tokens.specs.Tokens.{is_sign}
use Rattle.derive_statements.specs.Lists.{deeper, ends_statement}
use Rattle.derive_values.specs.declared.places.Scope.{Scope}
use Rattle.derive_values.specs.declared.places.Scope.TheVariants as scopes
use Rattle.derive_values.specs.Places.{own_after, scope_after}
use Rattle.derive_entries.specs.declared.arrays.Keeping.{Keeping}
use Rattle.derive_entries.specs.declared.entries.Frame.{Frame}
use Rattle.derive_entries.specs.declared.operands.Part.{Part}
use Rattle.derive_entries.specs.declared.operands.Part.TheVariants as parts
use Rattle.derive_entries.specs.Arrays.{Placing, is_array, is_arrow, keeping_after, placing_after, valued_as}
use Rattle.derive_entries.specs.Operands.{arrow_ahead, is_done, is_operand, is_prefix, look_of, part_after, part_begun}
use Rattle.derive_entries.specs.Operands.{part_on, takes_entry}
use Rattle.derive_entries.specs.Entries.{begun_as, entered_as, entered_from, entering_after}
use Rattle.derive_entries.specs.Entries.{first_frame, frame_after, frame_around, frame_moved, is_no_operand}
use Rattle.derive_entries.specs.Entries.{Entering, is_before, is_stop, later_frames, opened, outer_after, part_around, routine_called}
use Rattle.derive_entries.specs.Rough.{placing, rough_after, rough_placing}
use Rattle.derive_entries.specs.Plain.{clear, ends_plain, is_dot, quiet}
use Rattle.derive_entries.proofs.Plain.{no_array_there, no_operand, no_sign, same_end}
use Rattle.derive_entries.proofs.Rough.{alike, both_alike, own_alike}
use Rattle.derive_entries.proofs.Settled.{begun_none}
use Rattle.derive_entries.proofs.Frames.{after_undotted, all_next, around, around_undotted, frame_next, length_next, moved}
use Rattle.derive_entries.proofs.Frames.{next_part, next_parts, one_put, outer_next, still, undotted, undotted_next}

-- the tokens up to the end of the statement, and then those behind it
abbrev pub plain_from : List (List ℕ) → List (List ℕ) → Placing → List Lexeme → List Lexeme
plain_from arrays places p [] = []
plain_from arrays places p (t ∷ ts) =
    valued_as (is_array arrays p.reading t) places p t ts
    ∷ (if ends_plain t then entered_from arrays places (clear (placing_after p t)) ts
    else plain_from arrays places (rough_placing p t) ts)

-- ---- the end of a statement

no_arrow : (t : Lexeme) → ends_plain t ≡ true → is_arrow t ≡ false
no_arrow t e =
    ap (λ (b : Bool). b || is_sign s.LongArrow t) (no_sign s.Arrow t refl e) ∙ no_sign s.LongArrow t refl e

no_prefix : (t : Lexeme) → ends_plain t ≡ true → is_prefix t ≡ false
no_prefix t e =
    ap (λ (b : Bool). b || (is_sign s.Increment t || is_sign s.Decrement t)) (no_sign s.Minus t refl e)
    ∙ ap (λ (b : Bool). b || is_sign s.Decrement t) (no_sign s.Increment t refl e) ∙ no_sign s.Decrement t refl e

begun_end : (t : Lexeme) (part : Part) → ends_plain t ≡ true
    → (if is_operand t then part else if is_prefix t then parts.Signed else parts.Before) ≡ parts.Before
begun_end t part e =
    ap (λ (b : Bool). if b then part else if is_prefix t then parts.Signed else parts.Before) (no_operand t e)
    ∙ ap (λ (b : Bool). if b then parts.Signed else parts.Before) (no_prefix t e)

on_end : (d h a i e m : Bool) (part : Part) → d ≡ false → h ≡ false → a ≡ false → i ≡ false → e ≡ false → m ≡ false
    → part ≡ parts.Before
    → (if d || h then parts.Dotted else if a then parts.Words else if i || e then parts.Read
    else if m then parts.Before else part) ≡ parts.Before
on_end true h a i e m part p q r u v w k = absurd cc
on_end false true a i e m part p q r u v w k = absurd cc
on_end false false true i e m part p q r u v w k = absurd cc
on_end false false false true e m part p q r u v w k = absurd cc
on_end false false false false true m part p q r u v w k = absurd cc
on_end false false false false false true part p q r u v w k = refl
on_end false false false false false false part p q r u v w k = k

part_on_end : (t : Lexeme) → ends_plain t ≡ true → part_on false t ≡ parts.Before
part_on_end t e =
    on_end (is_sign s.Dot t) (is_sign s.DotHash t) (is_sign s.DotAmpersand t) (is_sign s.Increment t)
    (is_sign s.Decrement t) (is_sign s.Minus t) (part_begun false t) (no_sign s.Dot t refl e) (no_sign s.DotHash t refl e)
    (no_sign s.DotAmpersand t refl e) (no_sign s.Increment t refl e) (no_sign s.Decrement t refl e)
    (no_sign s.Minus t refl e) (begun_end t parts.Read e)

part_end : (part : Part) (t : Lexeme) → ends_plain t ≡ true → undotted part ≡ true
    → part_after false part t ≡ parts.Before
part_end parts.Before t e u = begun_end t parts.Read e
part_end parts.Signed t e u = begun_end t parts.Kept e
part_end parts.Read t e u = part_on_end t e
part_end parts.Kept t e u = part_on_end t e
part_end parts.Dotted t e u = absurd cc
part_end parts.Words t e u = absurd cc

begun_at_end : (array : Bool) (scope : Scope) (part : Part) (t : Lexeme) (ts : List Lexeme) → ends_plain t ≡ true
    → begun_as array scope (still part) t ts ≡ []
begun_at_end array scope part t ts e =
    ap (λ (b : Bool). if (if b then is_before part && not (is_no_operand scope ts)
    else is_operand t && (is_before part || is_done part))
    then routine_called (position_of t) (look_of array t ts) else []) (no_sign s.OpenParenthesis t refl e)
    ∙ ap (λ (b : Bool). if b && (is_before part || is_done part)
    then routine_called (position_of t) (look_of array t ts) else []) (no_operand t e)

empty : (dot : Bool) (ps : List Part) (n : ℕ) → n ≡ length ps → (not dot && (n == 0)) ≡ true
    → (dot ≡ false) × (ps ≡ [])
empty true ps n len e = absurd cc
empty false [] n len e = (refl, refl)
empty false (p ∷ ps) n len e = absurd (grind (arith, len, e))

plainly : (dot : Bool) (part : Part) → dot ≡ false → (dot || undotted part) ≡ true → undotted part ≡ true
plainly true part e u = absurd cc
plainly false part e u = u

ahead_case : (all ends arrow ahead x y : Bool) → (ends ≡ true → all ≡ true) → (y ≡ true → ahead ≡ false)
    → (if ends then x else if arrow then false else y) ≡ true → (if all then false else if arrow then true else ahead) ≡ false
ahead_case true ends arrow ahead x y s i q = refl
ahead_case false true arrow ahead x y s i q = let f : false ≡ true = s refl in absurd cc
ahead_case false false true ahead x y s i q = absurd cc
ahead_case false false false ahead x y s i q = i q

stops : (t : Lexeme) → ends_plain t ≡ true → ends_statement t ≡ true
stops (name n p) e = e
stops (number n p) e = e
stops (text n p) e = e
stops (character n p) e = e
stops (dictionary_word n p) e = e
stops (reserved w p) e = e
stops (sign g p) e = e
stops (end p) e = refl

quiet_ahead : (n : ℕ) (dot : Bool) (ts : List Lexeme) → quiet n dot ts ≡ true → arrow_ahead ts ≡ false
quiet_ahead n dot [] q = absurd cc
quiet_ahead n dot (t ∷ ts) q =
    ahead_case (ends_statement t) (ends_plain t) (is_arrow t) (arrow_ahead ts) (not dot && (n == 0))
    (quiet (deeper n t) (is_dot t) ts) (stops t) (quiet_ahead (deeper n t) (is_dot t) ts) q

quiet_next : (ends arrow x y : Bool) → ends ≡ false → (if ends then x else if arrow then false else y) ≡ true
    → (arrow ≡ false) × (y ≡ true)
quiet_next true arrow x y e q = absurd cc
quiet_next false true x y e q = absurd cc
quiet_next false false x y e q = (refl, q)

-- ---- statements

abbrev at : Scope → List (List ℕ) → Keeping → Placing
at scope own k = placing (record { scope = scope; own = own }) k

abbrev within : Placing → Frame → List Frame → Entering
within p f outer = record { placing = p; frame = f; outer = outer }

value_as : (arrays places : List (List ℕ)) (a : Scope) (own : List (List ℕ)) (k : Keeping) (t : Lexeme)
    (ts : List Lexeme) → valued_as (is_array arrays (at a own k).reading t) places (at a own k) t ts
    ≡ valued_as (is_array arrays (at (alike a) own k).reading t) places (at (alike a) own k) t ts
value_as arrays places (scopes.Body place) own k t ts = refl
value_as arrays places scopes.Between own k t ts = refl
value_as arrays places scopes.Named own k t ts = refl
value_as arrays places scopes.Locals own k t ts = refl
value_as arrays places scopes.Head own k t ts = refl
value_as arrays places scopes.Property own k t ts = refl
value_as arrays places scopes.Words own k t ts = refl
value_as arrays places scopes.Worth own k t ts = refl
value_as arrays places scopes.Bare own k t ts = refl

value_alike : (arrays places : List (List ℕ)) (a b : Scope) (own : List (List ℕ)) (k : Keeping) (t : Lexeme)
    (ts : List Lexeme) → alike a ≡ alike b
    → valued_as (is_array arrays (at b own k).reading t) places (at b own k) t ts
    ≡ valued_as (is_array arrays (at a own k).reading t) places (at a own k) t ts
value_alike arrays places a b own k t ts e =
    value_as arrays places b own k t ts
    ∙ ap (λ (x : Scope). valued_as (is_array arrays (at x own k).reading t) places (at x own k) t ts) (sym e)
    ∙ sym (value_as arrays places a own k t ts)

owned : (a b : Scope) (own : List (List ℕ)) (t : Lexeme) → alike a ≡ alike b → own_after b t own ≡ own_after a t own
owned a b own t e =
    own_alike b t own ∙ ap (λ (x : Scope). own_after x t own) (sym e) ∙ sym (own_alike a t own)

abbrev Same : List (List ℕ) → List (List ℕ) → List Lexeme → Type 0
Same arrays places ts = (a b : Scope) (own : List (List ℕ)) (k : Keeping) (part : Part) (ps : List Part) (n : ℕ)
    (dot : Bool) → alike a ≡ alike b → n ≡ length ps → (dot || undotted part) ≡ true → list_all undotted ps ≡ true
    → quiet n dot ts ≡ true → plain_from arrays places (at b own k) ts
    ≡ entered_from arrays places (within (at a own k) (still part) (map still ps)) ts

three : (arrays places : List (List ℕ)) (p q : Placing) (f g : Frame) (fs gs : List Frame) (ts : List Lexeme) → p ≡ q
    → f ≡ g → fs ≡ gs → entered_from arrays places (within p f fs) ts ≡ entered_from arrays places (within q g gs) ts
three arrays places p q f g fs gs ts e h i =
    ap (λ (x : Placing). entered_from arrays places (within x f fs) ts) e
    ∙ ap (λ (x : Frame). entered_from arrays places (within q x fs) ts) h
    ∙ ap (λ (x : List Frame). entered_from arrays places (within q g x) ts) i

put_on : (v w : Lexeme) (us vs ws : List Lexeme) → v ≡ w → us ≡ vs → ws ≡ w ∷ [] → v ∷ us ≡ ws ++ vs
put_on v w us vs ws e f g =
    ap (λ (x : Lexeme). x ∷ us) e ∙ ap (λ (x : List Lexeme). w ∷ x) f ∙ sym (ap (λ (x : List Lexeme). x ++ vs) g)

behind_end : (arrays places : List (List ℕ)) (a b : Scope) (own : List (List ℕ)) (k : Keeping) (part : Part)
    (ps : List Part) (array : Bool) (t : Lexeme) (ts : List Lexeme) → alike a ≡ alike b → ends_plain t ≡ true
    → undotted part ≡ true → ps ≡ [] → array ≡ false
    → entered_from arrays places (clear (placing_after (at b own k) t)) ts
    ≡ entered_from arrays places
    (entering_after array (within (at a own k) (still part) (map still ps)) t ts) ts
behind_end arrays places a b own k part ps array t ts e ends u none no_array =
    let opens = no_sign s.OpenParenthesis t refl ends in
    let closes = no_sign s.CloseParenthesis t refl ends in
    let move = moved (part_after array part t) (is_stop t) (is_arrow t) (takes_entry part && true) (no_arrow t ends) in
    let before = ap (λ (x : Bool). part_after x part t) no_array ∙ part_end part t ends u in
    three arrays places (placing_after (at b own k) t) (placing_after (at a own k) t) opened
    (frame_after array (still part) (map still ps) t) [] (outer_after a (still part) (map still ps) t ts) ts
    (ap (λ (x : Scope). at x (own_after b t own) (keeping_after k t)) (sym (same_end a b t ends e))
    ∙ ap (λ (x : List (List ℕ)). at (scope_after a t) x (keeping_after k t)) (owned a b own t e))
    (sym (ap (λ (x : Bool). if x then opened else if is_sign s.CloseParenthesis t then first_frame (map still ps)
    else frame_moved array (still part) t) opens
    ∙ ap (λ (x : Bool). if x then first_frame (map still ps) else frame_moved array (still part) t) closes
    ∙ move ∙ ap (λ (x : Part). still x) before))
    (sym (ap (λ (x : Bool). if x then frame_around a (still part) t ts ∷ map still ps
    else if is_sign s.CloseParenthesis t then later_frames (map still ps) else map still ps) opens
    ∙ ap (λ (x : Bool). if x then later_frames (map still ps) else map still ps) closes
    ∙ ap (map still) none))

behind_token : (arrays places : List (List ℕ)) (a b : Scope) (own : List (List ℕ)) (k : Keeping) (part : Part)
    (ps : List Part) (n : ℕ) (array : Bool) (t : Lexeme) (ts : List Lexeme) → alike a ≡ alike b → n ≡ length ps
    → list_all undotted ps ≡ true → is_arrow t ≡ false → quiet (deeper n t) (is_dot t) ts ≡ true
    → Same arrays places ts
    → plain_from arrays places (rough_placing (at b own k) t) ts
    ≡ entered_from arrays places
    (entering_after array (within (at a own k) (still part) (map still ps)) t ts) ts
behind_token arrays places a b own k part ps n array t ts e len all arrow q same =
    let opens = is_sign s.OpenParenthesis t in
    let closes = is_sign s.CloseParenthesis t in
    let after = part_after array part t in
    let outside = part_around a part ts in
    let move = moved after (is_stop t) (is_arrow t) (takes_entry part && true) arrow in
    same (scope_after a t) (rough_after b t) (own_after b t own) (keeping_after k t) (next_part opens closes after ps)
    (next_parts opens closes outside ps) (deeper n t) (is_dot t) (sym (both_alike b a t (sym e)))
    (length_next opens closes outside ps n len)
    (undotted_next opens closes (is_dot t) after ps (after_undotted array part t) all)
    (all_next opens closes outside ps (around_undotted (is_no_operand a ts) part) all) q
    ∙ three arrays places (at (scope_after a t) (own_after b t own) (keeping_after k t)) (placing_after (at a own k) t)
    (still (next_part opens closes after ps)) (frame_after array (still part) (map still ps) t)
    (map still (next_parts opens closes outside ps)) (outer_after a (still part) (map still ps) t ts) ts
    (ap (λ (x : List (List ℕ)). at (scope_after a t) x (keeping_after k t)) (owned a b own t e))
    (sym (frame_next opens closes (frame_moved array (still part) t) after ps move))
    (sym (outer_next opens closes (frame_around a (still part) t ts) outside ps (around outside (is_stop t))))

by_end : (arrays places : List (List ℕ)) (a b : Scope) (own : List (List ℕ)) (k : Keeping) (part : Part)
    (ps : List Part) (n : ℕ) (dot : Bool) (t : Lexeme) (ts : List Lexeme) (ends : Bool) → ends_plain t ≡ ends
    → alike a ≡ alike b → n ≡ length ps → (dot || undotted part) ≡ true → list_all undotted ps ≡ true
    → quiet n dot (t ∷ ts) ≡ true → Same arrays places ts
    → plain_from arrays places (at b own k) (t ∷ ts)
    ≡ entered_from arrays places (within (at a own k) (still part) (map still ps)) (t ∷ ts)
by_end arrays places a b own k part ps n dot t ts true ends e len u all q same =
    let array = is_array arrays (at a own k).reading t in
    let last = empty dot ps n len (sym (ap (λ (x : Bool). if x then not dot && (n == 0)
    else if is_arrow t then false else quiet (deeper n t) (is_dot t) ts) ends) ∙ q) in
    put_on (valued_as (is_array arrays (at b own k).reading t) places (at b own k) t ts)
    (valued_as array places (at a own k) t ts)
    (if ends_plain t then entered_from arrays places (clear (placing_after (at b own k) t)) ts
    else plain_from arrays places (rough_placing (at b own k) t) ts)
    (entered_from arrays places (entering_after array (within (at a own k) (still part) (map still ps)) t ts) ts)
    (entered_as array places (within (at a own k) (still part) (map still ps)) t ts)
    (value_alike arrays places a b own k t ts e)
    (ap (λ (x : Bool). if x then entered_from arrays places (clear (placing_after (at b own k) t)) ts
    else plain_from arrays places (rough_placing (at b own k) t) ts) ends
    ∙ behind_end arrays places a b own k part ps array t ts e ends (plainly dot part last.0 u) last.1
    (no_array_there arrays own a t ends))
    (one_put array places (at a own k) part (map still ps) t ts (no_arrow t ends) (begun_at_end array a part t ts ends))
by_end arrays places a b own k part ps n dot t ts false ends e len u all q same =
    let array = is_array arrays (at a own k).reading t in
    let next = quiet_next (ends_plain t) (is_arrow t) (not dot && (n == 0)) (quiet (deeper n t) (is_dot t) ts) ends q in
    put_on (valued_as (is_array arrays (at b own k).reading t) places (at b own k) t ts)
    (valued_as array places (at a own k) t ts)
    (if ends_plain t then entered_from arrays places (clear (placing_after (at b own k) t)) ts
    else plain_from arrays places (rough_placing (at b own k) t) ts)
    (entered_from arrays places (entering_after array (within (at a own k) (still part) (map still ps)) t ts) ts)
    (entered_as array places (within (at a own k) (still part) (map still ps)) t ts)
    (value_alike arrays places a b own k t ts e)
    (ap (λ (x : Bool). if x then entered_from arrays places (clear (placing_after (at b own k) t)) ts
    else plain_from arrays places (rough_placing (at b own k) t) ts) ends
    ∙ behind_token arrays places a b own k part ps n array t ts e len all next.0 next.1 same)
    (one_put array places (at a own k) part (map still ps) t ts next.0
    (begun_none array a (still part) t ts (quiet_ahead (deeper n t) (is_dot t) ts next.1)))

plain_alike : (arrays places : List (List ℕ)) (ts : List Lexeme) → Same arrays places ts
plain_alike arrays places [] a b own k part ps n dot e len u all q = absurd cc
plain_alike arrays places (t ∷ ts) a b own k part ps n dot e len u all q =
    by_end arrays places a b own k part ps n dot t ts (ends_plain t) refl e len u all q (plain_alike arrays places ts)

pub plain_same : (arrays places : List (List ℕ)) (p : Placing) (ts : List Lexeme) → quiet 0 false ts ≡ true
    → plain_from arrays places p ts ≡ entered_from arrays places (clear p) ts
plain_same arrays places p ts q =
    plain_alike arrays places ts p.reading.scope p.reading.scope p.reading.own p.keeping parts.Before [] 0 false refl refl
    refl refl q
