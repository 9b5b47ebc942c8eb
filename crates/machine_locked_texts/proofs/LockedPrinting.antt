-- Texts of versions 1 and 2, read from memory.
use Rattle.std.proofs.Common.{◌≡◌, ℕ, List, Bool, true, cond, ap, sym}
use Rattle.zcore_standard.specs.Loaded.{Loaded}
use Rattle.zcore_standard.specs.Texts.{alphabets_of}
use Rattle.zcore_standard.specs.Texts.{codes_at}
use Rattle.zcore_versions.specs.declared.version.StoryVersion.{StoryVersion}
use Rattle.zcore_versions.specs.LockedTexts.{locked_codes_at}
use Rattle.zcore_versions.specs.Printing.{codes_in}
use Rattle.zcore_versions.specs.Versions.{locks_alphabets, versioned}

pub locked_read : (loaded : Loaded) (version : StoryVersion) (memory : List ℕ) (address : ℕ)
    → locks_alphabets version ≡ true
    → locked_codes_at version.number memory address ≡ codes_in (versioned loaded version) memory address
locked_read loaded version memory address locked =
    sym (ap (λ (b : Bool). cond b (locked_codes_at version.number memory address)
    (codes_at (alphabets_of loaded) memory address)) locked)
