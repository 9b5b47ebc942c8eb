-- A `read`, by its two names.
use Rattle.std.proofs.Common.{◌≡◌, ℕ, ◌++◌, Option, ap, ◌∙◌}
use Rattle.syntax_trees.specs.Tree.{NameTree}
use Rattle.meaning.specs.Resolved as values
use Rattle.checker_values.specs.declared.binding.Binding.{Binding}
use Rattle.checker_values.specs.declared.noting.Tally.{Tally}
use Rattle.checker_values.specs.Names.{Seen}
use Rattle.checker_values.specs.Noted.{noted}
use Rattle.checker_values.proofs.Noted.{noted_two}
use Rattle.checker_values.specs.Expressions.{array_of_binding}
use Rattle.checker_values.specs.Walk.{IsWalked}
use Rattle.checker_statements.specs.Buffers.{buffer_breaches, same_breaches, read_breaches}

pub read_walked : (seen : Seen) (n m : NameTree) (first second : Option Binding) (a b : ℕ)
    {x y z w : Tally}
    → first ≡ seen.look n.text → second ≡ seen.look m.text → a ≡ array_of_binding first
    → b ≡ array_of_binding second → y ≡ noted x (buffer_breaches n.position first)
    → z ≡ noted y (buffer_breaches m.position second) → w ≡ noted z (same_breaches m.position first second)
    → IsWalked (read_breaches seen.look n m) x w (values.read_line a b)
    (values.read_line (array_of_binding (seen.look n.text)) (array_of_binding (seen.look m.text)))
read_walked seen n m first second a b {x = x} {y = y} {z = z} {w = w} f g i j h k l =
    let own = buffer_breaches n.position (seen.look n.text) in
    let other = buffer_breaches m.position (seen.look m.text) in
    let same = same_breaches m.position (seen.look n.text) (seen.look m.text) in
    record {
      value = ap (λ (c : ℕ). values.read_line c b) (i ∙ ap array_of_binding f)
          ∙ ap (λ (c : ℕ). values.read_line (array_of_binding (seen.look n.text)) c) (j ∙ ap array_of_binding g);
      breaches = noted_two x y w own (other ++ same)
          (h ∙ ap (λ (o : Option Binding). noted x (buffer_breaches n.position o)) f)
          (noted_two y z w other same (k ∙ ap (λ (o : Option Binding). noted y (buffer_breaches m.position o)) g)
          (l ∙ ap (λ (o : Option Binding). noted z (same_breaches m.position o second)) f
          ∙ ap (λ (o : Option Binding). noted z (same_breaches m.position (seen.look n.text) o)) g));
    }
