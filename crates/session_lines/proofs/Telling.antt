-- Steps of writing a text.
use Rattle.std.proofs.Common.{◌≡◌, ℕ, ◌-◌, Option, List, ◌++◌, length, take, drop, ap, sym, ◌∙◌, subst}
use Rattle.std.proofs.Common.{append_assoc, take-append-drop, Result, Ok, Err}
use Rattle.std.proofs.Math.Seq.{take-length}
use Rattle.std.proofs.lemmas.List.{length-drop}
use Rattle.std.specs.Io.KnownBytes.{Appends}
use Rattle.std.proofs.KnownBytes.{Appends-trans}
use Rattle.session_lines.specs.Wrote.{WroteSome, WroteText}

-- the text was written up to the rest
pub record WrittenSoFar (old new : Option (List ℕ)) (text rest : List ℕ) : Type 0 where
  pub part : List ℕ
  pub whole : part ++ rest ≡ text
  pub wrote : Appends old new part

pub written_more : {a b c : Option (List ℕ)} {text rest : List ℕ} (n : ℕ) → WrittenSoFar a b text rest
    → Appends b c (take n rest) → WrittenSoFar a c text (drop n rest)
written_more {a} {b} {c} {text} {rest} n h p = record {
  part = h.part ++ take n rest;
  whole = append_assoc h.part (take n rest) (drop n rest) ∙ ap (λ x. h.part ++ x) (take-append-drop n rest) ∙ h.whole;
  wrote = Appends-trans a b c h.part (take n rest) h.wrote p;
}

pub written_on : {a b c : Option (List ℕ)} {text rest : List ℕ} (n : ℕ) → WrittenSoFar a b text rest
    → Appends b c (take n rest) → WrittenSoFar a c text (take (length rest - n) (drop n rest))
written_on {a} {b} {c} {text} {rest} n h p =
    let e : take (length rest - n) (drop n rest)
    ≡ drop n rest = ap (λ k. take k (drop n rest)) (sym (length-drop n rest)) ∙ take-length (drop n rest) in
    subst (WrittenSoFar a c text) (sym e) (written_more n h p)

-- two texts, one after the other
pub wrote_both : {A : Type 0} (a b c : Option (List ℕ)) (s t : List ℕ) (r : Result (Unit {0}) A) → Appends a b s
    → WroteText b c t r → WroteText a c (s ++ t) r
wrote_both a b c s t (Ok done) p q = Appends-trans a b c s t p q
wrote_both a b c s t (Err e) p q = record {
  part = s ++ q.part;
  rest = q.rest;
  whole = append_assoc s q.part q.rest ∙ ap (λ x. s ++ x) q.whole;
  wrote = Appends-trans a b c s q.part p q.wrote;
}

pub wrote_first : {a b : Option (List ℕ)} {s : List ℕ} (t : List ℕ) → WroteSome a b s → WroteSome a b (s ++ t)
wrote_first t q =
    record {
      part = q.part;
      rest = q.rest ++ t;
      whole = sym (append_assoc q.part q.rest t)
          ∙ ap (λ x. x ++ t) q.whole;
      wrote = q.wrote;
    }
