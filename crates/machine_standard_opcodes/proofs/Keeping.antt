-- Parts of the profile's machine, with what this machine keeps besides.
use Rattle.std.proofs.Common.{◌≡◌, ℕ, List, ap, subst, Option, Result, Ok, Err}
use Rattle.journal.specs.Recording.{Recording}
use Rattle.zcore.specs.declared.standard_state.StandardState.{StandardState}
use Rattle.zcore.specs.declared.next.Next.{Next}
use Rattle.zcore.specs.Effects.{give_result}
use Rattle.zcore.specs.State.{State, Out}
use Rattle.zcore_standard.specs.Place.{Here, on, within}
use Rattle.zcore_standard.specs.Dice.{rolled, random}
use Rattle.machine_frames.specs.Contents.{Contents}
use Rattle.machine_frames.specs.Went.{Went, Told}
use Rattle.machine_frames.specs.declared.end.End.{End}
use Rattle.machine_frames.specs.declared.end.End.TheVariants as ends
use Rattle.machine_decoding.specs.Seen.{seen}

-- a part of the profile's machine, with all else as it is
pub went_within : {s t : Recording Contents} (r : Result Next End) (there : Here) (f : State → Out Next) → Went r s t f
    → Went (seen (on there) r) s t (λ x. within there (f x))
went_within (Ok a) there f w = record { did = (w.did.0, λ x. ap (within there) (w.did.1 x)) }
went_within (Err ends.Memory) there f w = record { did = w.did }
went_within (Err (ends.Stop p)) there f w = record { did = (w.did.0, λ x. ap (within there) (w.did.1 x)) }

pub told_within : {s t : Recording Contents} {x y : List ℕ} (r : Result Next End) (there : Here) (f : State → Out Next)
    → Told r s x t y f → Told (seen (on there) r) s x t y (λ z. within there (f z))
told_within (Ok a) there f w = record { told = (w.told.0, ap (within there) w.told.1) }
told_within (Err ends.Memory) there f w = record { told = w.told }
told_within (Err (ends.Stop p)) there f w = record { told = (w.told.0, ap (within there) w.told.1) }

-- random, with the number and the dice that were rolled
pub random_went : {s t : Recording Contents} (r : Result Next End) (here : Here) (after : ℕ) (result : Option ℕ)
    (range : ℕ) (x : ℕ × StandardState) → x ≡ rolled range here.standard_state → Went r s t (give_result here.next after result x.0)
    → Went (seen (on (record here { standard_state = x.1 })) r) s t (random here after result range)
unfolding random
random_went {s} {t} r here after result range x e w =
    subst (λ (y : ℕ × StandardState). Went (seen (on (record here { standard_state = x.1 })) r) s t
    (λ z. within (record here { standard_state = y.1 }) (give_result here.next after result y.0 z))) e
    (went_within r (record here { standard_state = x.1 }) (give_result here.next after result x.0) w)
