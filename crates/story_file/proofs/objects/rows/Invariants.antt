use Rattle.std.proofs.Common.{◌≡◌, ◌+◌, ◌++◌, map, drop}
use Rattle.meaning.specs.Views.{object_of}
use Rattle.code.specs.Rows.{rows_from, rows_of, view_of}
use Rattle.story_file.proofs.objects.rows.Given as goal

abbrev pub invariant-loop-index : goal.invariant-loop-index
invariant-loop-index l =
    map view_of l.rows.items
    ++ rows_from (map object_of l.objects) (l.index + 1) (drop l.index (map object_of l.objects))
    ≡ rows_of (map object_of l.objects)
