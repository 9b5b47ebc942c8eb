-- How long stories are.
use Rattle.std.proofs.Common.{◌≡◌, ℕ, ◌+◌, ◌*◌, ◌≤◌, List, [], ◌∷◌, ◌++◌, length, ap, ◌∙◌, arith}
use Rattle.std.specs.Prelude.{map, slice_index, slice_index_or}
use Rattle.std.specs.List.{All}
use Rattle.zcore.specs.declared.header.Version.{Version}
use Rattle.zcore.specs.declared.header.Version.TheVariants.{V5, V8}
use Rattle.zcore.specs.Header.{scale_of}
use Rattle.meaning.specs.Resolved.{RoutineOf}
use Rattle.meaning.specs.Places.{routines_place}
use Rattle.meaning.specs.Sizes.{greatest_weight, greatest_routine_weight}
use Rattle.code_drafts.specs.Addresses.{Sizes}
use Rattle.code.specs.HeldProgram.{sizes_of}
use Rattle.code.specs.Sizes.{routine_size, routines_size}
use Rattle.story_file.specs.Layout.{addresses_in, fault_texts, parts_from, story_of}
use Rattle.zcore.specs.Layout.{greatest_word}
use Rattle.story.specs.Laws.{StoriesAreShort, IsShortRoutine}
use Rattle.story_file.proofs.Parts.{parts_short, room_for}
use Rattle.story_file.proofs.Lengths.{sizes_are}
use Rattle.story.proofs.Reading.{laid_length}
use Rattle.story.proofs.PackedParts.{parts_of, text_lengths}

-- room for routines and then for the texts of faults
room_is : (sizes : Sizes) (rs : List RoutineOf)
    → room_for (map (routine_size sizes) rs ++ map length fault_texts) ≡ routines_size sizes rs + 273
room_is sizes [] = ap room_for text_lengths
room_is sizes (r ∷ rs) =
    let more : room_for (map (routine_size sizes) rs ++ map length fault_texts) ≡ routines_size sizes rs + 273 =
    room_is sizes rs in
    omega (arith, more)

fits : (version : Version) (place weight : ℕ) → place ≤ greatest_word → weight ≤ greatest_weight version
    → place + (weight + 273) ≤ 65535 * scale_of version
fits V5 place weight placed light = omega (arith, placed, light)
fits V8 place weight placed light = omega (arith, placed, light)

pub stories_are_short : StoriesAreShort
unfolding story_of
stories_are_short version p accepted placed light =
    let a = addresses_in (scale_of version) p in
    let sizes = sizes_of p in
    let long = laid_length version p (slice_index a.routines p.main) (parts_of sizes a p.routines)
    accepted.defaults.0 in
    let parts : length (parts_from (scale_of version) (routines_place p) (parts_of sizes a p.routines))
    ≤ room_for (map length (parts_of sizes a p.routines)) =
    parts_short version (routines_place p) (parts_of sizes a p.routines) in
    let room : room_for (map length (parts_of sizes a p.routines)) ≡ routines_size sizes p.routines + 273 =
    ap room_for (sizes_are sizes a p.routines) ∙ room_is sizes p.routines in
    omega (
      arith,
      long,
      parts,
      room,
      fits version (routines_place p) (routines_size sizes p.routines) placed light,
    )

-- routines that weigh at most 32,000 have code that jumps reach
pub all_short : (sizes : Sizes) (rs : List RoutineOf)
    → All (λ (r : RoutineOf). routine_size sizes r + 7 ≤ greatest_routine_weight) rs → All (IsShortRoutine sizes) rs
all_short sizes rs small k d within =
    let h : routine_size sizes (slice_index_or rs k d) + 7 ≤ greatest_routine_weight = small k d within in
    omega (arith, h)
