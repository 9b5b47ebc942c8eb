-- A text whose first three lines are known.
use Rattle.std.proofs.Common.{◌≡◌, ◌++◌, ◌∙◌, ℕ, List, [], ◌∷◌, ap, sym, codes}
use Rattle.std.proofs.lemmas.List.{append_assoc}
use Rattle.session_keeping.specs.Heading.{ended, heading_bytes}

-- a line, its end, and what follows
begun_by : (line rest : List ℕ) → line ++ 10 ∷ rest ≡ ended line ++ rest
begun_by line rest = sym (append_assoc line (10 ∷ []) rest)

pub three_lines : (text format story options lines after last : List ℕ) → text ≡ format ++ 10 ∷ after
    → format ≡ codes "play session 1" → after ≡ story ++ 10 ∷ last → last ≡ options ++ 10 ∷ lines
    → text ≡ heading_bytes story options ++ lines
three_lines text format story options lines after last first is second third =
    let two : after ≡ (ended story ++ ended options) ++ lines =
    second ∙ begun_by story last ∙ ap (λ l. ended story ++ l) (third ∙ begun_by options lines)
    ∙ sym (append_assoc (ended story) (ended options) lines) in
    first ∙ begun_by format after ∙ ap (λ f. ended f ++ after) is
    ∙ ap (λ l. ended (codes "play session 1") ++ l) two
    ∙ sym (append_assoc (ended (codes "play session 1")) (ended story ++ ended options) lines)
