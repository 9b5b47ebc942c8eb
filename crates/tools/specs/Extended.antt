-- An extended source: the source of the profile that it stands for is compiled and played, or its fault is given.
use Rattle.std.specs.Prelude.{◌≡◌, ◌⊎◌, ℕ, List, Option, Result, Ok, Err}
use Rattle.zcore.specs.declared.header.Version.{Version}
use Rattle.story.specs.Refused.{Limits, tree_size_fault}
use Rattle.syntax_lexer.specs.FaultNumbers.{no_memory}
use Rattle.session.specs.Session.{Session}
use Rattle.session_run.specs.Ran.{Streams}
use Rattle.derive.specs.Passes.{Derived}
use Rattle.derive.specs.Extended.{Extends}
use Rattle.tools.specs.declared.pair.PairFault.{PairFault}
use Rattle.tools.specs.declared.pair.PairFault.TheVariants as faults
use Rattle.tools.specs.Headline.{IsUntouched, PairsBy}

abbrev pub PairsDerived : Derived → Limits → Version → ℕ → Option ℕ → Streams → Result Session PairFault → Type 0
PairsDerived (Ok text) limits version fuel keep io result = PairsBy limits text version fuel keep io result
PairsDerived (Err placed) limits version fuel keep io result =
    (result ≡ Err (faults.Source placed.fault)) × IsUntouched io

-- what an extended source and its lines come to, or memory is refused
abbrev pub PairsExtendedBy : Limits → List ℕ → Version → ℕ → Option ℕ → Streams → Result Session PairFault → Type 0
PairsExtendedBy limits source version fuel keep io result =
    ((derived : Derived) × (Extends source derived × PairsDerived derived limits version fuel keep io result))
    ⊎ ((result ≡ Err (faults.Source no_memory)) × IsUntouched io)

-- by the limits of weight
abbrev pub PairsExtended : List ℕ → Version → ℕ → Option ℕ → Streams → Result Session PairFault → Type 0
PairsExtended source version fuel keep io result = PairsExtendedBy tree_size_fault source version fuel keep io result
