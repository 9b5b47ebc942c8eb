use Rattle.std.proofs.Common.{◌≡◌, arith, length}
use Rattle.zcore.specs.Header.{static_base_of}
use Rattle.machine_frames.specs.Contents.{memory_of}
use Rattle.machine_standard.proofs.turn.StandardMachine.is_own_save.Goals as goal

pub is_save_of-requires : goal.is_save_of-requires
is_save_of-requires c =
    let long : length c.in-Some.story.now ≡ static_base_of (memory_of c.requires.0) =
    rw c.in-Some.ensures at c.requires.1.saves in
    omega (arith, long, c.requires.1.store.sound.static_base)
