-- A token in frames without an index, and the frames behind it.
use Rattle.std.proofs.Common.{◌≡◌, ◌&&◌, ◌||◌, ◌+◌, ◌-◌, ◌++◌, ℕ, Bool, true, false, List, [], ◌∷◌}
use Rattle.std.proofs.Common.{if◌then◌else◌, refl, ap, arith, length, map}
use Rattle.std.specs.List.{list_all}
use Rattle.syntax_lexer.specs.declared.token.Sign.TheVariants as s
use Rattle.syntax_lexer.specs.Token.{Lexeme, sign}
use Rattle.syntax_lexer.specs.Token.{position_of}
use Rattle.derive_tokens.specs.Tokens.{is_sign}
use Rattle.derive_expressions.specs.Roles.{is_in_body}
use Rattle.derive_entries.specs.declared.entries.Frame.{Frame}
use Rattle.derive_entries.specs.declared.entries.Index.{Index}
use Rattle.derive_entries.specs.declared.entries.Index.TheVariants as indexes
use Rattle.derive_entries.specs.declared.operands.Part.{Part}
use Rattle.derive_entries.specs.declared.operands.Part.TheVariants as parts
use Rattle.derive_entries.specs.Arrays.{Placing, is_arrow, valued_as}
use Rattle.derive_entries.specs.Operands.{is_operand, is_prefix, part_after, part_begun}
use Rattle.derive_entries.specs.Operands.{part_closed, takes_entry}
use Rattle.derive_entries.specs.Entries.{begun_as, closing, entered_as}
use Rattle.derive_entries.specs.Entries.{first_frame}
use Rattle.derive_entries.specs.Entries.{is_stop, later_frames, opened}
use Rattle.derive_entries.specs.Plain.{is_dot}

abbrev pub still : Part → Frame
still part = record { part = part; index = indexes.Absent; sets = 0 }

abbrev pub undotted : Part → Bool
undotted parts.Dotted = false
undotted parts.Words = false
undotted _ = true

alone_put : (body stop arrow x : Bool) (begun : List Lexeme) (t c v : Lexeme) → arrow ≡ false → begun ≡ []
    → (if body then closing 0 t ++ closing (if stop then 0 else 0) t ++ begun
    ++ (if (arrow && x) || false then c else v) ∷ [] else v ∷ []) ≡ v ∷ []
alone_put false stop arrow x begun t c v e none = refl
alone_put true stop true x begun t c v e none = absurd cc
alone_put true true false x begun t c v e none = ap (λ (us : List Lexeme). us ++ v ∷ []) none
alone_put true false false x begun t c v e none = ap (λ (us : List Lexeme). us ++ v ∷ []) none

pub one_put : (array : Bool) (places : List (List ℕ)) (p : Placing) (part : Part) (outer : List Frame) (t : Lexeme)
    (ts : List Lexeme) → is_arrow t ≡ false → begun_as array p.reading.scope (still part) t ts ≡ []
    → entered_as array places (record { placing = p; frame = still part; outer = outer }) t ts
    ≡ valued_as array places p t ts ∷ []
one_put array places p part outer t ts e none =
    alone_put (is_in_body p.reading.scope) (is_stop t) (is_arrow t) (takes_entry part && true)
    (begun_as array p.reading.scope (still part) t ts) t (sign s.Comma (position_of t)) (valued_as array places p t ts)
    e none

abbrev framed : Part → Index → ℕ → Frame
framed part index sets = record { part = part; index = index; sets = sets }

pub moved : (part : Part) (stop arrow x : Bool) → arrow ≡ false
    → framed part (if arrow && x then indexes.Made else if arrow then indexes.Kept else indexes.Absent)
    (if stop then 0 else 0)
    ≡ still part
moved part stop true x e = absurd cc
moved part true false x e = refl
moved part false false x e = refl

pub around : (part : Part) (stop : Bool) → framed part indexes.Absent (if stop then 0 else 0) ≡ still part
around part true = refl
around part false = refl

-- ---- the frames behind it

abbrev pub next_part : Bool → Bool → Part → List Part → Part
next_part true closes part ps = parts.Before
next_part false true part [] = parts.Before
next_part false true part (p ∷ ps) = p
next_part false false part ps = part

abbrev pub next_parts : Bool → Bool → Part → List Part → List Part
next_parts true closes part ps = part ∷ ps
next_parts false true part [] = []
next_parts false true part (p ∷ ps) = ps
next_parts false false part ps = ps

pub frame_next : (opens closes : Bool) (f : Frame) (part : Part) (ps : List Part) → f ≡ still part
    → (if opens then opened else if closes then first_frame (map still ps) else f) ≡ still (next_part opens closes part ps)
frame_next true closes f part ps e = refl
frame_next false true f part [] e = refl
frame_next false true f part (p ∷ ps) e = refl
frame_next false false f part ps e = e

pub outer_next : (opens closes : Bool) (f : Frame) (part : Part) (ps : List Part) → f ≡ still part
    → (if opens then f ∷ map still ps else if closes then later_frames (map still ps) else map still ps)
    ≡ map still (next_parts opens closes part ps)
outer_next true closes f part ps e = ap (λ (x : Frame). x ∷ map still ps) e
outer_next false true f part [] e = refl
outer_next false true f part (p ∷ ps) e = refl
outer_next false false f part ps e = refl

pub length_next : (opens closes : Bool) (part : Part) (ps : List Part) (n : ℕ) → n ≡ length ps
    → (if opens then n + 1 else if closes then n - 1 else n) ≡ length (next_parts opens closes part ps)
length_next true closes part ps n e = omega (arith, e)
length_next false true part [] n e = omega (arith, e)
length_next false true part (p ∷ ps) n e = omega (arith, e)
length_next false false part ps n e = e

either_true : (a b : Bool) → b ≡ true → (a || b) ≡ true
either_true true b e = refl
either_true false b e = e

first_true : (a b : Bool) → (a && b) ≡ true → (a ≡ true) × (b ≡ true)
first_true true b e = (refl, e)
first_true false b e = absurd cc

pub undotted_next : (opens closes dot : Bool) (part : Part) (ps : List Part) → (dot || undotted part) ≡ true
    → list_all undotted ps ≡ true → (dot || undotted (next_part opens closes part ps)) ≡ true
undotted_next true closes dot part ps e all = either_true dot true refl
undotted_next false true dot part [] e all = either_true dot true refl
undotted_next false true dot part (p ∷ ps) e all =
    either_true dot (undotted p) (first_true (undotted p) (list_all undotted ps) all).0
undotted_next false false dot part ps e all = e

both_true : (a b : Bool) → a ≡ true → b ≡ true → (a && b) ≡ true
both_true true b e f = f
both_true false b e f = absurd cc

pub all_next : (opens closes : Bool) (part : Part) (ps : List Part) → undotted part ≡ true → list_all undotted ps ≡ true
    → list_all undotted (next_parts opens closes part ps) ≡ true
all_next true closes part ps e all = both_true (undotted part) (list_all undotted ps) e all
all_next false true part [] e all = refl
all_next false true part (p ∷ ps) e all = (first_true (undotted p) (list_all undotted ps) all).1
all_next false false part ps e all = all

pub around_undotted : (b : Bool) (part : Part) → undotted (if b then parts.Before else part_closed part) ≡ true
around_undotted true part = refl
around_undotted false parts.Before = refl
around_undotted false parts.Signed = refl
around_undotted false parts.Read = refl
around_undotted false parts.Kept = refl
around_undotted false parts.Dotted = refl
around_undotted false parts.Words = refl

begun_undotted : (array operand prefix : Bool)
    → undotted (if array then parts.Kept else if operand then parts.Read else if prefix then parts.Signed else parts.Before)
    ≡ true
begun_undotted true operand prefix = refl
begun_undotted false true prefix = refl
begun_undotted false false true = refl
begun_undotted false false false = refl

signed_undotted : (operand prefix : Bool)
    → undotted (if operand then parts.Kept else if prefix then parts.Signed else parts.Before) ≡ true
signed_undotted true prefix = refl
signed_undotted false true = refl
signed_undotted false false = refl

on_undotted : (d h a i e m : Bool) (part : Part) → undotted part ≡ true
    → ((d || (h || a)) || undotted (if d || h then parts.Dotted else if a then parts.Words
    else if i || e then parts.Read else if m then parts.Before else part)) ≡ true
on_undotted true h a i e m part k = refl
on_undotted false true a i e m part k = refl
on_undotted false false true i e m part k = refl
on_undotted false false false true e m part k = refl
on_undotted false false false false true m part k = refl
on_undotted false false false false false true part k = refl
on_undotted false false false false false false part k = k

pub after_undotted : (array : Bool) (part : Part) (t : Lexeme) → (is_dot t || undotted (part_after array part t)) ≡ true
after_undotted array parts.Before t =
    either_true (is_dot t) (undotted (part_after array parts.Before t))
    (begun_undotted array (is_operand t) (is_prefix t))
after_undotted array parts.Signed t =
    either_true (is_dot t) (undotted (part_after array parts.Signed t)) (signed_undotted (is_operand t) (is_prefix t))
after_undotted array parts.Read t =
    on_undotted (is_sign s.Dot t) (is_sign s.DotHash t) (is_sign s.DotAmpersand t) (is_sign s.Increment t)
    (is_sign s.Decrement t) (is_sign s.Minus t) (part_begun array t)
    (begun_undotted array (is_operand t) (is_prefix t))
after_undotted array parts.Kept t =
    on_undotted (is_sign s.Dot t) (is_sign s.DotHash t) (is_sign s.DotAmpersand t) (is_sign s.Increment t)
    (is_sign s.Decrement t) (is_sign s.Minus t) (part_begun array t)
    (begun_undotted array (is_operand t) (is_prefix t))
after_undotted array parts.Dotted t = either_true (is_dot t) true refl
after_undotted array parts.Words t = either_true (is_dot t) true refl
