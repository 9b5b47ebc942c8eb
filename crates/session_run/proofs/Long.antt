-- A line of more than 1,000 bytes: it is refused, and adds nothing to the transcript.
use Rattle.std.proofs.Common.{◌≡◌, ℕ, ◌<◌, Bool, true, false, None, Some, Option, List, [], length, refl, ap, ◌∙◌, arith}
use Rattle.std.proofs.Common.{bytes_eq, nat_le, ◌&&◌, codes}
use Rattle.std.proofs.lemmas.Slice.Eq.{bytes_eq-Decides}
use Rattle.std.proofs.lemmas.Bool.Decides.{nat_tests}
use Rattle.std.specs.List.{list_all}
use Rattle.zcore_standard.specs.Input.{can_be_typed}
use Rattle.zcore_versions.specs.Versions.{Story}
use Rattle.session.specs.Modes.{loaded_in, is_typable_with}
use Rattle.session.specs.Asking.{asks_with}
use Rattle.session.specs.Game.{Game, is_typable_on, answer}
use Rattle.session_lines.specs.Standing.{Standing, longest_line, is_typable_byte}
use Rattle.session_lines.specs.Transcript.{note}
use Rattle.session_run.specs.Acts.{script_acts}
use Rattle.session_run.proofs.Replying.{IsForStory, at_line, line_refused, plain}
use Rattle.session_run.proofs.Scripting.{quiet_line}

unequal_at : (xs ys : List ℕ) → (length xs ≡ length ys → ⊥) → (b : Bool) → bytes_eq xs ys ≡ b → b ≡ false
unequal_at xs ys h true e = absurd (h (ap length ((bytes_eq-Decides xs ys).0 e)))
unequal_at xs ys h false e = refl

above : (n m : ℕ) → m < n → nat_le n m ≡ false
above n m h = grind (arith, nat_tests)

pub unequal : (xs ys : List ℕ) → (length xs ≡ length ys → ⊥) → bytes_eq xs ys ≡ false
unequal xs ys h = unequal_at xs ys h (bytes_eq xs ys) refl

long_with : (loaded : Option Story) (line : List ℕ) → longest_line < length line → is_typable_with loaded line ≡ false
long_with None line h = ap (λ b. b && list_all is_typable_byte line) (above (length line) longest_line h)
long_with (Some story) line h =
    ap (λ b. b && can_be_typed story.loaded.characters line) (above (length line) longest_line h)

pub long_untypable : (game : Game) (line : List ℕ) → longest_line < length line → is_typable_on game line ≡ false
long_untypable game line h = long_with (loaded_in game.mode game.story) line h

asks_not_with : (loaded : Option Story) (line : List ℕ) → longest_line < length line → asks_with loaded line ≡ false
asks_not_with None line h = refl
asks_not_with (Some story) line h = unequal line (codes "/status") (λ e. omega arith)

long_line : (game : Game) (line : List ℕ) → longest_line < length line → IsForStory game line
long_line game line h = record {
  undo = unequal line (codes "/undo") (λ e. omega arith);
  redo = unequal line (codes "/redo") (λ e. omega arith);
  asks = asks_not_with (loaded_in game.mode game.story) line h;
}

pub answer_long : (game : Game) (s : Standing) (line : List ℕ) → longest_line < length line
    → answer game s (plain line false) ≡ record { reply = note (codes "[Line refused.]"); standing = s }
answer_long game s line h =
    at_line game s (plain line false) (long_line game line h)
    ∙ line_refused game s (plain line false) (long_untypable game line h)

pub long_quiet : (game : Game) (s : Standing) (line : List ℕ) → longest_line < length line
    → script_acts game s (plain line false) ≡ []
long_quiet game s line h =
    quiet_line game s (plain line false) (record { reply = note (codes "[Line refused.]"); standing = s })
    (long_line game line h).undo (long_line game line h).redo (answer_long game s line h) refl
