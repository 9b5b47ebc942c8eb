use Rattle.std.proofs.Common.{◌≡◌, arith}
use Rattle.machine_frames.proofs.Steps.{went_err}
use Rattle.tables.specs.Standing.{listed_of}
use Rattle.machine_small_entries.proofs.Values.{default_read, byte_value, word_value}
use Rattle.machine_versions.proofs.properties.property_value.Goals as goal

pub returns-in-None : goal.returns-in-None
returns-in-None c = rw c.in-None.is
    (default_read c.args.header.now _ _ c.args.number _ c.requires.store c.default_place.ensures
    c.read_word_at.ensures)

pub returns-in_err-byte-in-1 : goal.returns-in_err-byte-in-1
returns-in_err-byte-in-1 c =
    let one : c.in-Some.property.size ≡ 1 = omega arith in
    rw c.in-Some.is
    (went_err _ c.from_residual.ensures.1
    (byte_value _ _ c.args.number (listed_of c.in-Some.property) one c.in_err-byte-in-1.ensures))

pub returns-in_ok-byte-in-1 : goal.returns-in_ok-byte-in-1
returns-in_ok-byte-in-1 c =
    let one : c.in-Some.property.size ≡ 1 = omega arith in
    rw c.in-Some.is (byte_value _ _ c.args.number (listed_of c.in-Some.property) one c.in_ok-byte-in-1.ensures)

pub returns-in_default : goal.returns-in_default
returns-in_default c =
    rw c.in-Some.is
    (word_value _ _ c.args.number (listed_of c.in-Some.property) (λ e. omega (arith, e))
    c.read_word_at-in_default.ensures)
