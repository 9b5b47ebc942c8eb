-- Operations that spend fuel by their bytes make the weight of a turn fall, and never wait.
use Rattle.std.proofs.Common.{◌≡◌, ℕ, ◌+◌, ◌-◌, ◌*◌, ◌≤◌, length, refl, arith}
use Rattle.std.specs.Prelude.{nat_le}
use Rattle.std.proofs.Math.Nat.{mul-le-mul_right}
use Rattle.zcore.specs.declared.next.Next.{Next}
use Rattle.zcore.specs.declared.place.Limit.TheVariants as limits
use Rattle.zcore.specs.State.{State, Out, done, ◌>>=◌}
use Rattle.zcore.specs.Turn.{weight}
use Rattle.zcore.proofs.KeepingReads.{Keeps, alike_same, chosen, done_value, never, tested}
use Rattle.zcore.proofs.FallsOfParts.{Falls, FallsFrom, falls_given}
use Rattle.zcore.proofs.WaitingTests.{Waits, waits_done, waits_limit, waits_either}
use Rattle.zcore_standard.specs.Fuel.{units, spend_for}

pub keeps_spend_for : (bytes fuel : ℕ) → Keeps (spend_for bytes fuel)
unfolding spend_for
keeps_spend_for bytes fuel s t a h = tested _ _ a s t s s _ (alike_same s s refl) h

-- no more is left than was there
abbrev pub LeavesOf : ℕ → (State → Out ℕ) → Type 0
LeavesOf fuel f = (s t : State) (left : ℕ) → f s ≡ done left t → left ≤ fuel

pub spend_for_leaves : (bytes fuel : ℕ) → LeavesOf fuel (spend_for bytes fuel)
unfolding spend_for
spend_for_leaves bytes fuel s t left h =
    chosen (left ≤ fuel) (nat_le (units bytes) fuel) _ _ left t
    (λ _ e. let v = done_value (fuel - units bytes) left s t e in omega arith)
    (λ _ e. absurd (never _ left s t e)) h

pub waits_spend_for : (bytes fuel : ℕ) → Waits (spend_for bytes fuel)
unfolding spend_for
waits_spend_for bytes fuel s t h = waits_either _ _ _ t (waits_done _ s t) (waits_limit limits.Fuel s t) h

-- with less fuel a step begins at a smaller weight

less_heft : (left fuel size rest : ℕ) → left ≤ fuel → left * (1002 * (size + 1)) + rest ≤ fuel * (1002 * (size + 1)) + rest
less_heft left fuel size rest p = let q = mul-le-mul_right (1002 * (size + 1)) p in omega arith

pub falls_less : (here next : Next) (left : ℕ) (s t : State) → left ≤ here.fuel
    → Falls (record here { fuel = left }) s next t → Falls here s next t
unfolding weight
falls_less here next left s t less falls =
    let one = falls.lighter.falls in
    let two = less_heft left here.fuel (length s.memory) (length s.frames * (length s.memory + 1)) less in
    record {
      lighter = record { falls = omega arith; memory = falls.lighter.memory; frames = falls.lighter.frames };
      behind = falls.behind;
    }

-- fuel is spent first
pub falls_spent : (here : Next) (f : State → Out ℕ) (k : ℕ → State → Out Next) → Keeps f → LeavesOf here.fuel f
    → ((left : ℕ) → FallsFrom (record here { fuel = left }) (k left)) → FallsFrom here (f >>= k)
falls_spent here f k keeps leaves rest =
    falls_given (λ left. left ≤ here.fuel) here f k keeps leaves
    (λ left less s t next inside h. falls_less here next left s t less (rest left s t next inside h))
