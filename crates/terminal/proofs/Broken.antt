-- Texts with lines broken, in parts.
use Rattle.std.proofs.Common.{◌≡◌, ℕ, zero, suc, List, [], ◌∷◌, ◌++◌, Option, arith, slice_index, refl, ap, sym, ◌∙◌}
use Rattle.std.proofs.Common.{inl, inr, append_assoc}
use Rattle.std.proofs.KnownBytes.{Appends-kept, Appends-nil, Appends-trans}
use Rattle.std.proofs.Math.Logic.{∥∥₁_map}
use Rattle.std.specs.Io.KnownBytes.{Keeps}
use Rattle.terminal.specs.Broken.{IsBroken, IsKept, WroteBroken}
use Rattle.terminal.specs.Passed.{PassedOn}

pub unbroken : (text : List ℕ) → IsBroken text text
unbroken text = record { long = refl; each = λ k. inl refl }

kept_twice : (a b c : ℕ) → IsKept a b → IsKept b c → IsKept a c
kept_twice a b c (inl first) (inl second) = inl (second ∙ first)
kept_twice a b c (inl first) (inr second) = inr (sym first ∙ second.0, second.1)
kept_twice a b c (inr first) (inl second) = inr (first.0, second ∙ first.1)
kept_twice a b c (inr first) (inr second) = inr (first.0, second.1)

pub broken_twice : (a b c : List ℕ) → IsBroken a b → IsBroken b c → IsBroken a c
broken_twice a b c first second = record {
  long = second.long ∙ first.long;
  each = λ k. kept_twice (slice_index a k) (slice_index b k) (slice_index c k) (first.each k) (second.each k);
}

each_put : (x y : ℕ) (a b : List ℕ) → IsKept x y → IsBroken a b → (k : ℕ)
    → IsKept (slice_index (x ∷ a) k) (slice_index (y ∷ b) k)
each_put x y a b first rest zero = first
each_put x y a b first rest (suc k) = rest.each k

put : (x y : ℕ) (a b : List ℕ) → IsKept x y → IsBroken a b → IsBroken (x ∷ a) (y ∷ b)
put x y a b first rest = record { long = ap suc rest.long; each = each_put x y a b first rest }

-- after the same text
pub broken_after : (text a b : List ℕ) → IsBroken a b → IsBroken (text ++ a) (text ++ b)
broken_after [] a b kept = kept
broken_after (x ∷ text) a b kept = put x x (text ++ a) (text ++ b) (inl refl) (broken_after text a b kept)

-- before the same text
pub broken_before : (a b text : List ℕ) → IsBroken a b → IsBroken (a ++ text) (b ++ text)
broken_before [] [] text kept = unbroken text
broken_before [] (y ∷ b) text kept = absurd (omega (arith, kept.long))
broken_before (x ∷ a) [] text kept = absurd (omega (arith, kept.long))
broken_before (x ∷ a) (y ∷ b) text kept = put x y (a ++ text) (b ++ text) (kept.each 0) (broken_before a b text (record {
  long = omega (arith, kept.long);
  each = λ k. kept.each (suc k);
}))

-- what a writer that breaks lines wrote

pub wrote_nothing : (held : Option (List ℕ)) → WroteBroken held held [] []
wrote_nothing held = record { passed = []; added = Appends-nil held; kept = unbroken [] }

pub wrote_more : (before after : Option (List ℕ)) (gathered written more : List ℕ) → WroteBroken before after gathered written
    → WroteBroken before after (gathered ++ more) (written ++ more)
wrote_more before after gathered written more wrote =
    let kept : IsBroken (written ++ more) ((wrote.passed ++ gathered) ++ more) =
    broken_before written (wrote.passed ++ gathered) more wrote.kept in
    record {
      passed = wrote.passed;
      added = wrote.added;
      kept = rw (sym (append_assoc wrote.passed gathered more)) kept;
    }

pub wrote_broken : (before after : Option (List ℕ)) (gathered broken written : List ℕ) → IsBroken gathered broken
    → WroteBroken before after gathered written → WroteBroken before after broken written
wrote_broken before after gathered broken written kept wrote = record {
  passed = wrote.passed;
  added = wrote.added;
  kept = broken_twice written (wrote.passed ++ gathered) (wrote.passed ++ broken) wrote.kept
      (broken_after wrote.passed gathered broken kept);
}

pub wrote_passed : (before now after : Option (List ℕ)) (gathered left written : List ℕ) → PassedOn now after gathered left
    → WroteBroken before now gathered written → WroteBroken before after left written
wrote_passed before now after gathered left written on wrote =
    let same : wrote.passed ++ gathered ≡ (wrote.passed ++ on.part) ++ left =
    ap (λ (t : List ℕ). wrote.passed ++ t) on.whole ∙ sym (append_assoc wrote.passed on.part left) in
    record {
      passed = wrote.passed ++ on.part;
      added = Appends-trans before now after wrote.passed on.part wrote.added on.added;
      kept = rw (sym same) wrote.kept;
    }

-- what the bytes and texts of a writer became

pub gathers : (before after : Option (List ℕ)) (old new old_written new_written more : List ℕ) → new ≡ old ++ more
    → new_written ≡ old_written ++ more → ∥ WroteBroken before after old old_written ∥₁
    → ∥ WroteBroken before after new new_written ∥₁
gathers before after old new old_written new_written more put told wrote =
    ∥∥₁_map wrote (λ w. rw (put, told) (wrote_more before after old old_written more w))

pub breaks : (before after : Option (List ℕ)) (old new written : List ℕ) → IsBroken old new
    → ∥ WroteBroken before after old written ∥₁ → ∥ WroteBroken before after new written ∥₁
breaks before after old new written kept wrote =
    ∥∥₁_map wrote (wrote_broken before after old new written kept)

pub passes : (before now after : Option (List ℕ)) (old new written : List ℕ) → PassedOn now after old new
    → ∥ WroteBroken before now old written ∥₁ → ∥ WroteBroken before after new written ∥₁
passes before now after old new written on wrote =
    ∥∥₁_map wrote (wrote_passed before now after old new written on)

pub rests : (before now after : Option (List ℕ)) (gathered written : List ℕ) → Keeps now after
    → ∥ WroteBroken before now gathered written ∥₁ → ∥ WroteBroken before after gathered written ∥₁
rests before now after gathered written kept wrote = ∥∥₁_map wrote (λ w. record {
  passed = w.passed;
  added = Appends-kept before now after w.passed w.added kept;
  kept = w.kept;
})
