use Rattle.std.proofs.Common.{◌≡◌, drop}
use Rattle.zcore_standard.specs.Streams.{between, characters_in}
use Rattle.machine_picture.specs.Begun.{IsBegun}
use Rattle.machine_picture.specs.Drawing.{picture_of}
use Rattle.machine_picture.specs.Picture.{drawn_beside}
use Rattle.machine_picture.proofs.picture.Picture.draw_others.Given as goal

abbrev pub invariant-loop-i : goal.invariant-loop-i
invariant-loop-i l = record {
  so_far : drawn_beside l.margin (characters_in l.begun (drop l.i l.bytes)) (picture_of l.self)
      ≡ drawn_beside l.margin (characters_in between l.bytes) (picture_of l.fn.self);
  begun : IsBegun l.begun;
}
