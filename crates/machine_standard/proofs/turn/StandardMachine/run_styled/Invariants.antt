use Rattle.std.proofs.Common.{◌≡◌, ℕ, drop, length}
use Rattle.zcore.specs.Turn.{ReachesBy, weight}
use Rattle.zcore_versions.specs.Machine.{any_step}
use Rattle.machine_frames.specs.States.{state_of}
use Rattle.machine_frames.specs.Went.{GoesOn}
use Rattle.machine_standard_windows.specs.TurnState.{place, Keeps}
use Rattle.machine_picture.specs.Drawing.{picture_of}
use Rattle.machine_picture.specs.Represented.{styles_of}
use Rattle.machine_standard.specs.Loads.{story_of}
use Rattle.machine_standard.specs.Playing.{LeadsScript, LeadsStyles, LeadsTo}
use Rattle.machine_standard.proofs.turn.StandardMachine.run_styled.Given as goal

abbrev pub invariant-steps : goal.invariant-steps
invariant-steps l = record {
  goes : GoesOn l.fn.store l.store;
  keeps : Keeps l.start l.fn.text.items l.text.items;
  reached : (n : ℕ) × ReachesBy (any_step (story_of l.self)) n (place l.fn.turn l.fn.first)
      (state_of l.fn.store.store (drop l.start l.fn.text.items)) (place l.turn l.here)
      (state_of l.store.store (drop l.start l.text.items));
  pictured : LeadsTo (story_of l.self) (place l.fn.turn l.fn.first)
      (state_of l.fn.store.store (drop l.start l.fn.text.items)) (picture_of l.fn.picture) (place l.turn l.here)
      (state_of l.store.store (drop l.start l.text.items)) (picture_of l.picture);
  scripted : LeadsScript (story_of l.self) (place l.fn.turn l.fn.first)
      (state_of l.fn.store.store (drop l.start l.fn.text.items)) l.fn.script.items (place l.turn l.here)
      (state_of l.store.store (drop l.start l.text.items)) l.script.items;
  long : length (styles_of l.styles).each ≡ length (drop l.start l.text.items);
  styled : LeadsStyles (story_of l.self) (place l.fn.turn l.fn.first)
      (state_of l.fn.store.store (drop l.start l.fn.text.items)) (styles_of l.fn.styles) (place l.turn l.here)
      (state_of l.store.store (drop l.start l.text.items)) (styles_of l.styles);
}

abbrev pub decreases-steps : goal.decreases-steps
decreases-steps l = weight l.here (state_of l.store.store (drop l.start l.text.items))
