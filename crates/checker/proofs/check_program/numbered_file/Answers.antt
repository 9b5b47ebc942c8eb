use Rattle.std.proofs.Common.{ℕ, List, Bor, refl, ap, ◌∙◌}
use Rattle.std.specs.Prelude.{map}
use Rattle.checker_values.specs.Keys.{keys_of}
use Rattle.checker_values.specs.Scope.{file_in}
use Rattle.checker.proofs.Numbered.{file_numbered}
use Rattle.checker.proofs.check_program.numbered_file.Goals as goal

pub returns-clause-file : goal.returns-clause-file
returns-clause-file c =
    file_numbered c.args.program.now c.deref.result.now c.deref-2.result.now c.deref-3.result.now
    (file_in c.in-Ok.first) c.in-Ok.first.table.entries c.in-Ok-gather.keys.items c.in-Ok-bytes_of_arrays.bytes
    c.listed_objects_size-objects.result c.dictionary_after.result
    c.in-Ok.ensures refl c.deref.ensures.value c.deref-2.ensures.value c.in-Ok-bytes_of_arrays.ensures.bytes
    c.listed_objects_size-objects.ensures.size c.dictionary_after.ensures.place c.deref-3.ensures.value
    c.in-Ok-gather.ensures.keys

pub returns-clause-keys : goal.returns-clause-keys
returns-clause-keys c =
    c.in-Ok-gather.ensures.keys
    ∙ ap (λ (ws : List (Bor (List ℕ))). keys_of (map (λ (w : Bor (List ℕ)). w.now) ws)) c.deref-3.ensures.value
