-- What a story asks for that is asked with an empty line.
use Rattle.std.proofs.Common.{◌≡◌, ℕ, Bool, true, false, List, [], Option, None, Some, refl, ap, sym, ◌∙◌, inl, inr}
use Rattle.std.specs.Prelude.{is_some}
use Rattle.std.specs.Str.{chars, is_utf8}
use lib.Utf8.{encode}
use Rattle.zcore.specs.Turn.{is_waiting}
use Rattle.zcore_standard.specs.declared.save_form.Purpose.{Purpose}
use Rattle.zcore_versions.specs.Versions.{Story}
use Rattle.session.specs.Game.{Game, asked_for_on, is_typable_on, place_on}
use Rattle.session.specs.Given.{IsAskedFor}
use Rattle.session.specs.Modes.{is_typable_with, loaded_in}
use Rattle.session_lines.specs.Standing.{Standing}
use Rattle.play_json.specs.Names.{awaited_at}

-- an empty line can always be given
empty_with : (loaded : Option Story) → is_typable_with loaded [] ≡ true
unfolding is_utf8 chars encode
empty_with None = refl
empty_with (Some story) = refl

over_alike : (x y is_key : Bool) → awaited_at x is_key false ≡ awaited_at y is_key false
over_alike x y is_key = refl

pub asks_now : (game : Game) (s : Standing) (asked : Option Purpose) (is_key : Bool) → IsAskedFor game s [] asked
    → awaited_at (is_some asked) is_key (is_waiting (place_on game s.done))
    ≡ awaited_at (is_some (asked_for_on game s.done)) is_key (is_waiting (place_on game s.done))
asks_now game s (Some purpose) is_key h =
    ap (λ asked. awaited_at (is_some asked) is_key (is_waiting (place_on game s.done))) (sym h.0)
asks_now game s None is_key (inl e) =
    ap (λ asked. awaited_at (is_some asked) is_key (is_waiting (place_on game s.done))) (sym e)
asks_now game s None is_key (inr (inl e)) =
    let no : false ≡ true = sym e ∙ empty_with (loaded_in game.mode game.story) in cc
asks_now game s None is_key (inr (inr e)) =
    rw e (over_alike false (is_some (asked_for_on game s.done)) is_key)
