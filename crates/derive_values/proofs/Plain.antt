-- Tokens up to a routine in a property stay as they are.
use Rattle.std.proofs.Common.{◌≡◌, ◌+◌, ◌<◌, ◌∙◌, ℕ, Bool, true, false, List, [], ◌∷◌, ◌++◌, length, get_or, take, drop}
use Rattle.std.proofs.Common.{refl, ap, sym, arith, append_assoc, if◌then◌else◌}
use Rattle.std.proofs.lemmas.List.{at_drop_more, map-append, nil_from_length, take_more}
use Rattle.syntax_lexer.specs.declared.token.Sign.TheVariants as s
use Rattle.syntax_lexer.specs.Token.{Lexeme, name, position_of}
use Rattle.derive_tokens.specs.declared.piece.Piece.{Piece}
use Rattle.derive_tokens.specs.Pieces.{derived, derived_all}
use Rattle.derive_tokens.specs.Tokens.{is_sign}
use Rattle.derive_values.specs.declared.lifting.Level.{Level}
use Rattle.derive_values.specs.declared.lifting.Level.TheVariants as levels
use Rattle.derive_values.specs.Lifted.{Lifting, begins_object, beginning, ending, in_place, is_embedded, is_end}
use Rattle.derive_values.specs.Lifted.{is_opened, level_after, lifted_from, lifting_after, own_name}
use Rattle.derive_values.specs.Views.{Passes, settled}

abbrev placed : Bool → Bool → Bool → Bool → List Lexeme → Lexeme → List Lexeme
placed e o m d x t = if e then t ∷ [] else if o then x else if m then [] else if d then t ∷ [] else t ∷ []

placed_same : (e d : Bool) (x : List Lexeme) (t : Lexeme) → placed e false false d x t ≡ t ∷ []
placed_same true d x t = refl
placed_same false true x t = refl
placed_same false false x t = refl

abbrev waited : Bool → Bool → Bool → List Lexeme → List Lexeme → List Lexeme
waited o m d x y = if o then x else if m then y else if d then [] else []

waited_same : (d : Bool) (x y : List Lexeme) → waited false false d x y ≡ []
waited_same true x y = refl
waited_same false x y = refl

abbrev held : Level → ℕ → List Lexeme → Lifting
held level count waiting = record { level = level; count = count; waiting = waiting }

kept : (level : Level) (count : ℕ) (t : Lexeme) (ts : List Lexeme) → is_embedded level ≡ false
    → is_opened level t ≡ false
    → lifted_from (settled level count) (t ∷ ts) ≡ t ∷ lifted_from (settled (level_after level t) count) ts
kept level count t ts em op =
    let x : List Lexeme = name (own_name (count + 1)) (position_of t) ∷ [] in
    let y : List Lexeme = beginning (count + 1) t in
    let z : List Lexeme = if is_sign s.CloseBracket t then ending t else t ∷ [] in
    let d : Bool = is_sign s.Semicolon t in
    let later : Level = level_after level t in
    ap
    (λ (o : Bool). placed (is_end t) o (is_embedded level) d x t ++ lifted_from (held later
    (if o then count + 1 else count) (waited o (is_embedded level) d y z)) ts) op
    ∙ ap (λ (m : Bool). placed (is_end t) false m d x t ++ lifted_from (held later count (waited false m d y z)) ts) em
    ∙ ap (λ (u : List Lexeme). u ++ lifted_from (held later count (waited false false d y z)) ts)
    (placed_same (is_end t) d x t)
    ∙ ap (λ (w : List Lexeme). t ∷ lifted_from (held later count w) ts) (waited_same d y z)

-- ---- the level is not that of a routine in a property

after_between : (a b c : Bool)
    → is_embedded (if a then levels.Object else if b then levels.Routine
    else if c then levels.Between else levels.Elsewhere) ≡ false
after_between true b c = refl
after_between false true c = refl
after_between false false true = refl
after_between false false false = refl

after_object : (c : Bool) → is_embedded (if c then levels.Between else levels.Object) ≡ false
after_object true = refl
after_object false = refl

after_routine : (c : Bool) → is_embedded (if c then levels.Elsewhere else levels.Routine) ≡ false
after_routine true = refl
after_routine false = refl

after_elsewhere : (c : Bool) → is_embedded (if c then levels.Between else levels.Elsewhere) ≡ false
after_elsewhere true = refl
after_elsewhere false = refl

after_embedded : (c : Bool) → true ≡ false → is_embedded (if c then levels.Object else levels.Embedded) ≡ false
after_embedded true e = refl
after_embedded false e = e

pub outside_still : (level later : Level) (t : Lexeme) → later ≡ level_after level t → is_embedded level ≡ false
    → is_opened level t ≡ false → is_embedded later ≡ false
outside_still levels.Between later t l em op =
    ap is_embedded l ∙ after_between (begins_object t) (is_sign s.OpenBracket t) (is_sign s.Semicolon t)
outside_still levels.Object later t l em op =
    ap is_embedded l
    ∙ ap (λ b. is_embedded (if b then levels.Embedded else if is_sign s.Semicolon t then levels.Between
    else levels.Object)) op
    ∙ after_object (is_sign s.Semicolon t)
outside_still levels.Embedded later t l em op = ap is_embedded l ∙ after_embedded (is_sign s.CloseBracket t) em
outside_still levels.Routine later t l em op = ap is_embedded l ∙ after_routine (is_sign s.CloseBracket t)
outside_still levels.Elsewhere later t l em op = ap is_embedded l ∙ after_elsewhere (is_sign s.Semicolon t)

-- ---- one token more

pub passes_more : (start level later : Level) (pieces : List Piece) (at : ℕ) (d : Piece) → at < length pieces
    → is_embedded level ≡ false → is_opened level (derived (get_or pieces at d)) ≡ false
    → later ≡ level_after level (derived (get_or pieces at d)) → Passes start pieces at level
    → Passes start pieces (at + 1) later
passes_more start level later pieces at d lt em op l h count =
    let t : Lexeme = derived (get_or pieces at d) in
    let rest : List Lexeme = derived_all (drop (at + 1) pieces) in
    let others : List Lexeme = lifted_from (settled later count) rest in
    h count
    ∙ ap (λ (u : List Lexeme). derived_all (take at pieces) ++ u)
    (at_drop_more (λ xs. lifted_from (settled level count) (derived_all xs)) pieces at d lt
    ∙ kept level count t rest em op ∙ ap (λ x. t ∷ lifted_from (settled x count) rest) (sym l))
    ∙ sym (ap (λ u. derived_all u ++ others) (take_more pieces at d lt)
    ∙ ap (λ (u : List Lexeme). u ++ others) (map-append derived (take at pieces) (get_or pieces at d ∷ []))
    ∙ append_assoc (derived_all (take at pieces)) (t ∷ []) others)

-- the first token
pub one_on : (old new : List Lexeme) (before later : Lifting) (pieces : List Piece) (d : Piece) → 0 < length pieces
    → new ≡ old ++ in_place before (derived (get_or pieces 0 d))
    → later ≡ lifting_after before (derived (get_or pieces 0 d))
    → new ++ lifted_from later (derived_all (drop 1 pieces)) ≡ old ++ lifted_from before (derived_all pieces)
one_on old new before later [] d some n l = absurd (omega arith)
one_on old new before later (p ∷ ps) d some n l =
    ap (λ (u : List Lexeme). u ++ lifted_from later (derived_all ps)) n
    ∙ ap (λ x. (old ++ in_place before (derived p)) ++ lifted_from x (derived_all ps)) l
    ∙ append_assoc old (in_place before (derived p)) (lifted_from (lifting_after before (derived p)) (derived_all ps))

-- several tokens
pub run_on : (old new pieces : List Piece) (start level : Level) (count n : ℕ) (waiting : List Piece)
    → length waiting ≡ 0 → new ≡ old ++ take n pieces → Passes start pieces n level
    → derived_all new ++ lifted_from (held level count (derived_all waiting)) (derived_all (drop n pieces))
    ≡ derived_all old ++ lifted_from (held start count (derived_all waiting)) (derived_all pieces)
run_on old new pieces start level count n waiting w e h =
    let none : waiting ≡ [] = nil_from_length waiting w in
    ap (λ ps. derived_all new ++ lifted_from (held level count (derived_all ps)) (derived_all (drop n pieces))) none
    ∙ ap (λ ps. derived_all ps ++ lifted_from (settled level count) (derived_all (drop n pieces))) e
    ∙ ap (λ (u : List Lexeme). u ++ lifted_from (settled level count) (derived_all (drop n pieces)))
    (map-append derived old (take n pieces))
    ∙ append_assoc (derived_all old) (derived_all (take n pieces))
    (lifted_from (settled level count) (derived_all (drop n pieces)))
    ∙ ap (λ (u : List Lexeme). derived_all old ++ u) (sym (h count))
    ∙ ap (λ ps. derived_all old ++ lifted_from (held start count (derived_all ps)) (derived_all pieces)) (sym none)
