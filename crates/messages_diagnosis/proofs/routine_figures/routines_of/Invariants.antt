use Rattle.std.proofs.Common.{◌≡◌, ◌≤◌, ◌-◌, ◌*◌, ◌^◌, take, drop, length}
use Rattle.std.specs.Prelude.{map}
use Rattle.meaning.specs.Places.{total}
use Rattle.messages_diagnosis.specs.Figures.{figures_in, ranked, size_of}
use Rattle.messages_diagnosis.proofs.routine_figures.routines_of.Given as goal

abbrev pub invariant-loop-behind : goal.invariant-loop-behind
invariant-loop-behind l = record {
  heaviest : l.heaviest.items
      ≡ take 10 (ranked (map (figures_in l.checked) (drop (length l.checked.routines - l.behind) l.checked.routines)));
  sum : l.size
      ≡ total (map size_of (map (figures_in l.checked)
      (drop (length l.checked.routines - l.behind) l.checked.routines)));
  bound : l.size ≤ l.behind * 2 ^ 64;
}
