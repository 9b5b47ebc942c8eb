-- What a writer that begins later holds, and what it does with a reply.
use Rattle.std.specs.Prelude.{◌≡◌, ℕ, List, length, Option, None, Result, Ok, ◌==◌, if◌then◌else◌}
use Rattle.session_keeping.specs.declared.later.Later.{Later}

-- the bytes of the writer that it passes on to, once it drops nothing more
abbrev pub later_contents : {W : Type 0} → (W → Option (List ℕ)) → Later W → Option (List ℕ)
later_contents known later = if later.left == 0 then known later.writer else None

-- how many replies it is still to drop
abbrev pub replies_left : {W : Type 0} → Later W → ℕ
replies_left later = later.left

-- a write took all bytes, and passed none on
abbrev pub DropsAll : {W E : Type 0} → W → W → List ℕ → Result ℕ E → Type 0
DropsAll before after bytes result = (after ≡ before) × (result ≡ Ok (length bytes))
