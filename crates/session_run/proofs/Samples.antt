-- Lines that were read, and what lines add to the transcript of their story, computed.
use Rattle.std.proofs.Common.{◌≡◌, true, false, None, Some, List, ℕ, [], ◌∷◌, codes, refl, inl, inr}
use Rattle.session.specs.Game.{Game, game_of}
use Rattle.session.specs.declared.mode.Mode.TheVariants.{Profile}
use Rattle.session_lines.specs.Standing.{nothing}
use Rattle.session_lines.specs.Transcript.{Typed, answer_of}
use Rattle.session_lines.specs.Files.{scripted}
use Rattle.session_run.specs.Acts.{adding, adding_if, script_acts}
use Rattle.session_run.specs.Ran.{LinesRead}

-- lines that were read

before_the_end : LinesRead (Some (99 ∷ [])) (97 ∷ 10 ∷ 98 ∷ []) (codes "a" ∷ [])
before_the_end = inl refl

at_the_end : LinesRead (Some []) (97 ∷ 10 ∷ 98 ∷ []) (codes "a" ∷ codes "b" ∷ [])
at_the_end = inr (refl, refl)

no_line_before_its_end : LinesRead (Some (99 ∷ [])) (97 ∷ 10 ∷ 98 ∷ []) (codes "a" ∷ codes "b" ∷ []) → ⊥
no_line_before_its_end (inl e) = cc
no_line_before_its_end (inr h) = let e : 99 ∷ [] ≡ [] = h.0 in cc

-- what is added

nothing_added : adding [] ≡ []
nothing_added = refl

line_added : adding (codes "look\n") ≡ scripted (codes "look\n") ∷ []
line_added = refl

if_on : adding_if true (codes "/undo") ≡ scripted (codes "/undo") ∷ []
if_on = refl

if_off : adding_if false (codes "/undo") ≡ []
if_off = refl

-- a command that changes nothing, and a line that is not taken, add nothing

abbrev game : Game
game = game_of Profile [] 0 None

abbrev line : List ℕ → Typed
line bytes = record { line = bytes; answer = []; refused = false }

nothing_undone : script_acts game nothing (line (codes "/undo")) ≡ []
unfolding script_acts
nothing_undone = refl

nothing_redone : script_acts game nothing (line (codes "/redo")) ≡ []
unfolding script_acts
nothing_redone = refl

not_taken : script_acts game nothing (line (9 ∷ [])) ≡ []
unfolding script_acts answer_of
not_taken = refl
