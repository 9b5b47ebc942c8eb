use Rattle.std.proofs.Common.{[], refl, arith}
use Rattle.ztext.proofs.Keys.{nothing_filled}
use Rattle.machine_versions_words.proofs.Locking.{key_small, spelled_is, spells_on}
use Rattle.machine_versions_words.proofs.locks.locked_characters.Goals as goal

pub loop-place-init : goal.loop-place-init
loop-place-init c = record {
  room = omega arith;
  lock = omega arith;
  so_far = record {
    zs = [];
    small = tt;
    filled_so_far = record { characters = nothing_filled; many = refl };
    rest = refl;
  };
}

pub loop-place-preserved : goal.loop-place-preserved
loop-place-preserved c =
    let on = spells_on c.args.version c.args.word.now c.loop-place.place c.loop-place.lock c.spelling-next.result.lock
    c.loop-place.count c.put_characters-count.result c.loop-place.characters c.put_characters-count.new.characters _
    c.loop-place.invariant.so_far c.spelling-next.ensures.small c.spelling-next.ensures.rest c.put_characters-count.ensures in
    record {
      room = omega (arith, on.filled_so_far.many);
      lock = c.spelling-next.ensures.lock;
      so_far = on;
    }

pub returns-clause-nine : goal.returns-clause-nine
returns-clause-nine c = spelled_is c.args.version c.args.word.now c.loop-place.place c.loop-place.lock c.loop-place.count _
    (omega (arith, c.loop-place-test.false)) c.loop-place.invariant.so_far

pub returns-clause-small : goal.returns-clause-small
returns-clause-small c = key_small c.args.version c.args.word.now c.loop-place.place c.loop-place.lock c.loop-place.count _
    c.loop-place.invariant.so_far
