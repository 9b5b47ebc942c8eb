use Rattle.std.proofs.Common.{ℕ, List, ◌++◌, map, drop, take, ap, ◌∙◌}
use Rattle.std.specs.Global.{Vec}
use Rattle.story_file.specs.Layout.{fault_texts}
use Rattle.story_file.specs.Written.{bytes_in}
use Rattle.story_file.proofs.write.fault_texts.Goals as goal

-- the text of a number
abbrev line : ℕ → List (List ℕ)
line n = take 1 (drop n fault_texts)

pub returns : goal.returns
returns c =
    c.in-Ok-add_text-7.ensures
    ∙ ap (λ (z : List (List ℕ)). z ++ line 7) (c.in-Ok-add_text-6.ensures
    ∙ ap (λ (z : List (List ℕ)). z ++ line 6) (c.in-Ok-add_text-5.ensures
    ∙ ap (λ (z : List (List ℕ)). z ++ line 5) (c.in-Ok-add_text-4.ensures
    ∙ ap (λ (z : List (List ℕ)). z ++ line 4) (c.in-Ok-add_text-3.ensures
    ∙ ap (λ (z : List (List ℕ)). z ++ line 3) (c.in-Ok-add_text-2.ensures
    ∙ ap (λ (z : List (List ℕ)). z ++ line 2) (c.in-Ok-add_text.ensures
    ∙ ap (λ (z : List (List ℕ)). z ++ line 1)
    (c.in-Ok.ensures ∙ ap (λ (xs : List (Vec ℕ)). map bytes_in xs ++ line 0) c.new-texts.ensures.items)))))))
