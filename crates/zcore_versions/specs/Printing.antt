-- Texts of any version, and the opcodes that print them (Z-Machine Standards Document 1.1, sections 3 and 15).
use Rattle.std.specs.Prelude.{ℕ, if◌then◌else◌, List, [], ◌∷◌, ◌++◌, Result}
use Rattle.ztext.specs.Reading.{Cause}
use Rattle.zcore.specs.declared.next.Next.{Next}
use Rattle.zcore.specs.Effects.{read_text}
use Rattle.zcore.specs.Parts.{goes_on, give_back, test_return}
use Rattle.zcore.specs.State.{State, Out, ◌>>=◌}
use Rattle.zcore_standard.specs.Characters.{print_codes}
use Rattle.zcore_standard.specs.Texts.{alphabets_of, codes_at}
use Rattle.zcore_versions.specs.LockedTexts.{locked_codes_at}
use Rattle.zcore_versions.specs.Versions.{Story, locks_alphabets}

-- the codes of the text at an address, and the address after it
abbrev pub codes_in : Story → List ℕ → ℕ → Result (List ℕ × ℕ) Cause
codes_in story memory address =
    if locks_alphabets story.version then locked_codes_at story.version.number memory address
    else codes_at (alphabets_of story.loaded) memory address

unfoldable pub text_in : Story → ℕ → State → Out (List ℕ × ℕ)
text_in story address s = read_text (codes_in story s.memory address) s

-- print_addr
unfoldable pub print_text : Story → Next → ℕ → ℕ → State → Out Next
print_text story here after address = do
  text ← text_in story address
  _ ← print_codes story.loaded.characters text.0
  goes_on after here.fuel

-- print
unfoldable pub print_inline : Story → Next → ℕ → State → Out Next
print_inline story here after = do
  text ← text_in story after
  _ ← print_codes story.loaded.characters text.0
  goes_on text.1 here.fuel

-- print_ret
unfoldable pub print_return : Story → Next → ℕ → State → Out Next
print_return story here after = do
  text ← text_in story after
  _ ← test_return
  _ ← print_codes story.loaded.characters (text.0 ++ 13 ∷ [])
  give_back here.fuel 1
