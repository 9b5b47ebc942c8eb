-- Values, one token more.
use Rattle.std.proofs.Common.{◌⊎◌, ◌≡◌, ◌+◌, ◌<◌, ◌∙◌, ℕ, List, [], ◌∷◌, ◌++◌, Result, Ok, Err, length, get_or, take}
use Rattle.std.proofs.Common.{drop, set, ap, sym, arith}
use Rattle.std.proofs.lemmas.List.{at_drop_more, drop_more, drop-set-lt, map-append, take_more, take_more_set}
use Rattle.syntax_lexer.specs.declared.fault.PlacedFault.{PlacedFault}
use Rattle.syntax_lexer.specs.FaultNumbers.{no_memory}
use Rattle.syntax_lexer.specs.Placed.{nowhere}
use Rattle.syntax_lexer.specs.Token.{Lexeme}
use Rattle.derive_tokens.specs.declared.piece.Piece.{Piece}
use Rattle.derive_tokens.specs.Pieces.{derived, derived_all}
use Rattle.derive_tokens.specs.Tokens.{Outcome}
use Rattle.derive_values.specs.declared.uses.Use.{Use}
use Rattle.derive_values.specs.declared.uses.Use.TheVariants as uses
use Rattle.derive_values.specs.Places.{Reading, reading_after}
use Rattle.derive_values.specs.Values.{Numbers, put_first, use_of, value_of, valued_from}
use Rattle.derive_values.proofs.Outcomes.{put_all, put_on, put_stop}

-- the tokens after the one at a place
abbrev pub later : List (List ℕ) → Numbers → Reading → List Piece → ℕ → Piece → Outcome
later routines n r pieces at d =
    valued_from routines n (reading_after r (derived (get_or pieces at d))) (derived_all (drop (at + 1) pieces))

one : (routines : List (List ℕ)) (n : Numbers) (r : Reading) (pieces rest : List Piece) (at : ℕ) (d : Piece)
    (ts : List Lexeme) (whole : Outcome) (used : Use) → at < length pieces
    → put_all ts (valued_from routines n r (derived_all (drop at pieces))) ≡ whole → rest ≡ drop (at + 1) pieces
    → used ≡ use_of routines r (derived (get_or pieces at d)) (derived_all rest)
    → put_all ts (put_first (value_of n used (derived (get_or pieces at d))) (later routines n r pieces at d)) ≡ whole
one routines n r pieces rest at d ts whole used lt e after u =
    ap
    (λ (x : Use). put_all ts (put_first (value_of n x (derived (get_or pieces at d))) (later routines n r pieces at d)))
    (u ∙ ap (λ (xs : List Piece). use_of routines r (derived (get_or pieces at d)) (derived_all xs)) after)
    ∙ sym (at_drop_more (λ (xs : List Piece). put_all ts (valued_from routines n r (derived_all xs))) pieces at d lt)
    ∙ e

value_on : (routines : List (List ℕ)) (n : Numbers) (r : Reading) (pieces rest : List Piece) (at : ℕ) (d : Piece)
    (ts : List Lexeme) (v : Lexeme) (whole : Outcome) (used : Use) → at < length pieces
    → put_all ts (valued_from routines n r (derived_all (drop at pieces))) ≡ whole → rest ≡ drop (at + 1) pieces
    → used ≡ use_of routines r (derived (get_or pieces at d)) (derived_all rest)
    → value_of n used (derived (get_or pieces at d)) ≡ Ok v
    → put_all (ts ++ v ∷ []) (later routines n r pieces at d) ≡ whole
value_on routines n r pieces rest at d ts v whole used lt e after u h =
    sym (put_on ts v (later routines n r pieces at d))
    ∙ ap (λ (o : Result Lexeme PlacedFault). put_all ts (put_first o (later routines n r pieces at d))) (sym h)
    ∙ one routines n r pieces rest at d ts whole used lt e after u

pub value_stop : (routines : List (List ℕ)) (n : Numbers) (r : Reading) (pieces rest : List Piece) (at : ℕ) (d : Piece)
    (ts : List Lexeme) (fault : PlacedFault) (whole : Outcome) (used : Use) → at < length pieces
    → put_all ts (valued_from routines n r (derived_all (drop at pieces))) ≡ whole → rest ≡ drop (at + 1) pieces
    → used ≡ use_of routines r (derived (get_or pieces at d)) (derived_all rest)
    → (fault ≡ nowhere no_memory) ⊎ (value_of n used (derived (get_or pieces at d)) ≡ Err fault)
    → (fault ≡ nowhere no_memory) ⊎ (whole ≡ Err fault)
value_stop routines n r pieces rest at d ts fault whole used lt e after u h =
    put_stop fault ts (value_of n used (derived (get_or pieces at d))) (later routines n r pieces at d) whole
    (one routines n r pieces rest at d ts whole used lt e after u) h

-- ---- in place: the tokens from a place on are still those of the file

same_rest : (out pieces : List Piece) (at : ℕ) (d : Piece) → at < length out → at < length pieces
    → drop at out ≡ drop at pieces → get_or out at d ∷ drop (at + 1) out ≡ get_or pieces at d ∷ drop (at + 1) pieces
same_rest out pieces at d lo lp e = sym (drop_more out at d lo) ∙ e ∙ drop_more pieces at d lp

same_here : (out pieces : List Piece) (at : ℕ) (d : Piece) → at < length out → at < length pieces
    → drop at out ≡ drop at pieces → get_or out at d ≡ get_or pieces at d
same_here out pieces at d lo lp e = ap (λ xs. get_or xs 0 d) (same_rest out pieces at d lo lp e)

same_on : (out pieces : List Piece) (at : ℕ) (d : Piece) → length out ≡ length pieces → at < length pieces
    → drop at out ≡ drop at pieces → drop (at + 1) out ≡ drop (at + 1) pieces
same_on out pieces at d l lt e = ap (λ xs. drop 1 xs) (same_rest out pieces at d (omega (arith, l, lt)) lt e)

pub same_next : (out pieces : List Piece) (at : ℕ) → length out ≡ length pieces → at < length pieces
    → drop at out ≡ drop at pieces → drop (at + 1) out ≡ drop (at + 1) pieces
same_next out [] at l lt e = absurd (omega arith)
same_next out (p ∷ ps) at l lt e = same_on out (p ∷ ps) at p l lt e

pub same_set : (out pieces : List Piece) (at : ℕ) (d v : Piece) → length out ≡ length pieces → at < length pieces
    → drop at out ≡ drop at pieces → drop (at + 1) (set out at v) ≡ drop (at + 1) pieces
same_set out pieces at d v l lt e = drop-set-lt (at + 1) out at v (omega arith) ∙ same_on out pieces at d l lt e

front_kept : (out pieces : List Piece) (at : ℕ) (d : Piece) → length out ≡ length pieces → at < length pieces
    → drop at out ≡ drop at pieces
    → derived_all (take (at + 1) out) ≡ derived_all (take at out) ++ derived (get_or pieces at d) ∷ []
front_kept out pieces at d l lt e =
    ap derived_all (take_more out at d (omega (arith, l, lt)))
    ∙ map-append derived (take at out) (get_or out at d ∷ [])
    ∙ ap (λ x. derived_all (take at out) ++ derived x ∷ []) (same_here out pieces at d (omega (arith, l, lt)) lt e)

front_set : (out pieces : List Piece) (at : ℕ) (v : Piece) → length out ≡ length pieces → at < length pieces
    → derived_all (take (at + 1) (set out at v)) ≡ derived_all (take at out) ++ derived v ∷ []
front_set out pieces at v l lt =
    ap derived_all (take_more_set out at v (omega (arith, l, lt))) ∙ map-append derived (take at out) (v ∷ [])

kept_on : (routines : List (List ℕ)) (n : Numbers) (r : Reading) (out pieces rest : List Piece) (at : ℕ) (d : Piece)
    (whole : Outcome) (used : Use) → length out ≡ length pieces → at < length pieces → drop at out ≡ drop at pieces
    → put_all (derived_all (take at out)) (valued_from routines n r (derived_all (drop at pieces))) ≡ whole
    → rest ≡ drop (at + 1) pieces → used ≡ use_of routines r (derived (get_or pieces at d)) (derived_all rest)
    → used ≡ uses.Copied
    → put_all (derived_all (take (at + 1) out)) (later routines n r pieces at d) ≡ whole
kept_on routines n r out pieces rest at d whole used l lt same e after u k =
    ap (λ ts. put_all ts (later routines n r pieces at d)) (front_kept out pieces at d l lt same)
    ∙ value_on routines n r pieces rest at d (derived_all (take at out)) (derived (get_or pieces at d)) whole used lt e
    after u (ap (λ x. value_of n x (derived (get_or pieces at d))) k)

set_on : (routines : List (List ℕ)) (n : Numbers) (r : Reading) (out pieces rest : List Piece) (at : ℕ) (d v : Piece)
    (whole : Outcome) (used : Use) → length out ≡ length pieces → at < length pieces
    → put_all (derived_all (take at out)) (valued_from routines n r (derived_all (drop at pieces))) ≡ whole
    → rest ≡ drop (at + 1) pieces → used ≡ use_of routines r (derived (get_or pieces at d)) (derived_all rest)
    → value_of n used (derived (get_or pieces at d)) ≡ Ok (derived v)
    → put_all (derived_all (take (at + 1) (set out at v))) (later routines n r pieces at d) ≡ whole
set_on routines n r out pieces rest at d v whole used l lt e after u h =
    ap (λ ts. put_all ts (later routines n r pieces at d)) (front_set out pieces at v l lt)
    ∙ value_on routines n r pieces rest at d (derived_all (take at out)) (derived v) whole used lt e after u h

pub kept_in : (routines : List (List ℕ)) (n : Numbers) (r more : Reading) (out now pieces rest : List Piece) (at : ℕ)
    (d : Piece) (whole : Outcome) (used : Use) → length out ≡ length pieces → at < length pieces
    → drop at out ≡ drop at pieces
    → put_all (derived_all (take at out)) (valued_from routines n r (derived_all (drop at pieces))) ≡ whole
    → rest ≡ drop (at + 1) pieces → used ≡ use_of routines r (derived (get_or pieces at d)) (derived_all rest)
    → more ≡ reading_after r (derived (get_or pieces at d)) → now ≡ out → used ≡ uses.Copied
    → put_all (derived_all (take (at + 1) now)) (valued_from routines n more (derived_all (drop (at + 1) pieces)))
    ≡ whole
kept_in routines n r more out now pieces rest at d whole used l lt same e after u m o k =
    ap (λ xs. put_all (derived_all (take (at + 1) xs))
    (valued_from routines n more (derived_all (drop (at + 1) pieces)))) o
    ∙ ap (λ x. put_all (derived_all (take (at + 1) out))
    (valued_from routines n x (derived_all (drop (at + 1) pieces)))) m
    ∙ kept_on routines n r out pieces rest at d whole used l lt same e after u k

pub set_in : (routines : List (List ℕ)) (n : Numbers) (r more : Reading) (out now pieces rest : List Piece) (at : ℕ)
    (d v : Piece) (whole : Outcome) (used : Use) → length out ≡ length pieces → at < length pieces
    → put_all (derived_all (take at out)) (valued_from routines n r (derived_all (drop at pieces))) ≡ whole
    → rest ≡ drop (at + 1) pieces → used ≡ use_of routines r (derived (get_or pieces at d)) (derived_all rest)
    → more ≡ reading_after r (derived (get_or pieces at d)) → now ≡ set out at v
    → value_of n used (derived (get_or pieces at d)) ≡ Ok (derived v)
    → put_all (derived_all (take (at + 1) now)) (valued_from routines n more (derived_all (drop (at + 1) pieces)))
    ≡ whole
set_in routines n r more out now pieces rest at d v whole used l lt e after u m o h =
    ap (λ xs. put_all (derived_all (take (at + 1) xs))
    (valued_from routines n more (derived_all (drop (at + 1) pieces)))) o
    ∙ ap (λ x. put_all (derived_all (take (at + 1) (set out at v)))
    (valued_from routines n x (derived_all (drop (at + 1) pieces)))) m
    ∙ set_on routines n r out pieces rest at d v whole used l lt e after u h
