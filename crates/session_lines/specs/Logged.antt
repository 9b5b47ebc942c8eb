-- How the logic stores acts.
use Rattle.std.specs.Prelude.{◌≡◌, ℕ, ◌==◌, cond, List, [], Option, None, refl}
use Rattle.std.specs.Coded.{Coded, code_by, coded×, coded_ℕ, coded_list, coded_option}
use Rattle.session_lines.specs.Files.{FileAct, looked, read, recalled, scripted, wrote}

-- an act by its kind and its parts
abbrev Parts : Type 0
Parts = ℕ × (List ℕ × (List ℕ × Option (List ℕ)))

abbrev to_parts : FileAct → Parts
to_parts (looked name seen) = (0, (name, ([], seen)))
to_parts (wrote name bytes) = (1, (name, (bytes, None)))
to_parts (read name bytes) = (2, (name, (bytes, None)))
to_parts (recalled given) = (3, (given, ([], None)))
to_parts (scripted bytes) = (4, (bytes, ([], None)))

abbrev from_parts : Parts → FileAct
from_parts p =
    cond (p.0 == 0) (looked p.1.0 p.1.1.1) (cond (p.0 == 1) (wrote p.1.0 p.1.1.0) (cond (p.0 == 2) (read p.1.0 p.1.1.0)
    (cond (p.0 == 3) (recalled p.1.0) (scripted p.1.0))))

pub from_to : (act : FileAct) → from_parts (to_parts act) ≡ act
from_to (looked name seen) = refl
from_to (wrote name bytes) = refl
from_to (read name bytes) = refl
from_to (recalled given) = refl
from_to (scripted bytes) = refl

abbrev pub acts_code : Coded (List FileAct)
acts_code =
    coded_list (code_by Parts
    (coded× coded_ℕ (coded× (coded_list coded_ℕ) (coded× (coded_list coded_ℕ) (coded_option (coded_list coded_ℕ)))))
    to_parts from_parts from_to)
