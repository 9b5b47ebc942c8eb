-- Lines that are UTF-8, and lines that are not.
use Rattle.std.proofs.Common.{◌≡◌, ℕ, List, [], refl, Bool, true, false}
use Rattle.std.specs.Prelude.{◌&&◌, if◌then◌else◌}
use Rattle.std.specs.List.{list_all}
use Rattle.std.specs.Str.{IsUtf8, chars, is_utf8}
use Rattle.std.proofs.lemmas.Str.{IsUtf8-from_is_utf8, is_utf8-from_IsUtf8}
use Rattle.zcore_standard.specs.Input.{is_typed, can_be_typed, text_typed}

no_text_at : (line : List ℕ) (b : Bool) → ¬ (IsUtf8 line) → is_utf8 line ≡ b → is_utf8 line ≡ false
no_text_at line true not e = absurd (not (IsUtf8-from_is_utf8 line e))
no_text_at line false not e = e

no_text : (line : List ℕ) → ¬ (IsUtf8 line) → is_utf8 line ≡ false
no_text line not = no_text_at line (is_utf8 line) not refl

pub can_text : (extra line : List ℕ) → IsUtf8 line → can_be_typed extra line ≡ list_all (is_typed extra) (chars line)
can_text extra line h = rw (is_utf8-from_IsUtf8 line h) refl

pub cannot : (extra line : List ℕ) → ¬ (IsUtf8 line) → can_be_typed extra line ≡ false
cannot extra line h = rw (no_text line h) refl

pub text_is : (line : List ℕ) → IsUtf8 line → text_typed line ≡ line
text_is line h = rw (is_utf8-from_IsUtf8 line h) refl

pub text_none : (line : List ℕ) → ¬ (IsUtf8 line) → text_typed line ≡ []
text_none line h = rw (no_text line h) refl
