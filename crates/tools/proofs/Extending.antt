-- An extended source comes to what the source of the profile comes to for which it stands.
use Rattle.std.proofs.Common.{◌≡◌, ◌⊎◌, ℕ, List, Option, Result, Ok, Err, ap, inl, inr, refl}
use Rattle.zcore.specs.declared.header.Version.{Version}
use Rattle.story.specs.Refused.{Limits}
use Rattle.syntax_lexer.specs.declared.fault.PlacedFault.{PlacedFault}
use Rattle.syntax_lexer.specs.FaultNumbers.{no_memory}
use Rattle.syntax_lexer.specs.Placed.{nowhere}
use Rattle.session.specs.Session.{Session}
use Rattle.session_run.specs.Ran.{Streams}
use Rattle.derive.specs.Extended.{Extends}
use Rattle.derive.specs.Passes.{Derived}
use Rattle.tools.specs.declared.pair.PairFault.{PairFault}
use Rattle.tools.specs.declared.pair.PairFault.TheVariants as faults
use Rattle.tools.specs.Headline.{IsUntouched, PairsBy}
use Rattle.tools.specs.Extended.{PairsExtendedBy}

pub pairs_text : (limits : Limits) (source text : List ℕ) (version : Version) (fuel : ℕ) (keep : Option ℕ) (io : Streams)
    (result : Result Session PairFault) → Extends source (Ok text) → PairsBy limits text version fuel keep io result
    → PairsExtendedBy limits source version fuel keep io result
pairs_text limits source text version fuel keep io result extends pairs =
    let derived : Derived = Ok text in inl (derived, (extends, pairs))

pub pairs_fault : (limits : Limits) (source : List ℕ) (version : Version) (fuel : ℕ) (keep : Option ℕ) (io : Streams)
    (placed : PlacedFault) → (placed ≡ nowhere no_memory) ⊎ Extends source (Err placed) → IsUntouched io
    → PairsExtendedBy limits source version fuel keep io (Err (faults.Source placed.fault))
pairs_fault limits source version fuel keep io placed (inl refused) untouched =
    inr (ap (λ (p : PlacedFault). Err (faults.Source p.fault)) refused, untouched)
pairs_fault limits source version fuel keep io placed (inr extends) untouched =
    let derived : Derived = Err placed in inl (derived, (extends, (refl, untouched)))
