use Rattle.std.proofs.Common.{◌≡◌, arith, List, ℕ, take}
use Rattle.std.specs.Prelude.{IfSome}
use Rattle.iff_files.specs.Stories.{most_bytes}
use Rattle.play.proofs.Playing.{result_is_played, start_read}
use Rattle.play.proofs.reading.read_unpacked.Goals as goal

pub returns : goal.returns
returns g c =
    let read : IfSome (g.R.Read.remaining c.args.file) (λ bytes. c.read_to_end.new.buf.items ≡ take most_bytes bytes) =
    start_read most_bytes g.R.Read.remaining c.take.result c.args.file c.new-packed.result.items
    c.read_to_end.new.buf.items c.take.ensures.limit c.take.ensures.inner c.new-packed.ensures.items
    c.in_ok-read_to_end.ensures.bytes in
    result_is_played c.story_of.result (g.R.Read.remaining c.args.file) most_bytes c.read_to_end.new.buf.items
    (omega arith) read c.story_of.ensures
