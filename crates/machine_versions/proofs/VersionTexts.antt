-- Texts of versions from 3 on.
use Rattle.std.proofs.Common.{◌≡◌, ℕ, ap, false, cond}
use Rattle.zcore.specs.declared.next.Next.{Next}
use Rattle.zcore.specs.Effects.{read_text}
use Rattle.zcore.specs.Parts.{goes_on}
use Rattle.zcore.specs.State.{State, bound, ◌>>=◌}
use Rattle.zcore_standard.specs.Characters.{print_codes}
use Rattle.zcore_standard.specs.Loaded.{Loaded}
use Rattle.zcore_standard.specs.Texts.{alphabets_of, codes_at}
use Rattle.zcore_standard.specs.Printing.{any_text_at, print_any_address}
use Rattle.zcore_versions.specs.declared.version.StoryVersion.{StoryVersion}
use Rattle.zcore_versions.specs.LockedTexts.{locked_codes_at}
use Rattle.zcore_versions.specs.Printing.{text_in, print_text}
use Rattle.zcore_versions.specs.Versions.{locks_alphabets, versioned}

text_same : (loaded : Loaded) (version : StoryVersion) (address : ℕ) (s : State) → locks_alphabets version ≡ false
    → text_in (versioned loaded version) address s ≡ any_text_at (alphabets_of loaded) address s
unfolding text_in any_text_at
text_same loaded version address s unlocked =
    ap (λ b. read_text (cond b (locked_codes_at version.number s.memory address)
    (codes_at (alphabets_of loaded) s.memory address)) s) unlocked

pub text_printed : (loaded : Loaded) (version : StoryVersion) (here : Next) (after address : ℕ) (s : State)
    → locks_alphabets version ≡ false
    → print_text (versioned loaded version) here after address s ≡ print_any_address loaded here after address s
unfolding print_text print_any_address
text_printed loaded version here after address s unlocked =
    ap (λ o. bound o (λ text. print_codes loaded.characters text.0 >>= λ _. goes_on after here.fuel))
    (text_same loaded version address s unlocked)
