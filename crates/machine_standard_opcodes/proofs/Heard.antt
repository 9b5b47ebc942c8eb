-- How much of a text is heard.
use Rattle.std.proofs.Common.{◌≡◌, ◌≢◌, ◌≤◌, ◌-◌, ℕ, List, [], ◌∷◌, length, take, drop, min, inl, inr, refl, ap, sym, ◌∙◌, arith}
use Rattle.std.proofs.Common.{Option}
use Rattle.std.proofs.lemmas.Bool.{cases_lt}
use Rattle.std.proofs.lemmas.List.{length-drop, length-take, take-take, take_all}
use Rattle.zcore_standard.specs.Screen.{in_window, indent_in}
use Rattle.zcore_standard.specs.Streams.{heard}
use Rattle.zcore_standard.specs.Windows.{width}
use Rattle.zcore_standard.specs.declared.streams.Stream.{Stream}
use Rattle.zcore_standard.specs.declared.windows.Upper.{Upper}

-- so many bytes, and of them so many
pub take_both : (kept from now : ℕ) (text : List ℕ) → now ≡ min kept from → take now text ≡ take from (take kept text)
take_both kept from now text e =
    elim (cases_lt kept from) [
      | inl lt ↦
          let n : now ≡ kept = omega (arith, e, lt) in
          let le : length (take kept text) ≤ from = omega (arith, lt, length-take kept text) in
          ap (λ k. take k text) n ∙ sym (take_all from (take kept text) le)
      | inr ge ↦
          let n : now ≡ from = omega (arith, e, ge) in
          ap (λ k. take k text) n ∙ sym (take-take from kept text ge)
    ]

-- the part of a turn's text that is heard
pub heard_part : (streams there : List Stream) (text : List ℕ) (start count n : ℕ) → there ≡ streams → n ≡ count
    → ((t : List ℕ) → length t ≡ length text - start → take count t ≡ heard there t)
    → take n (drop start text) ≡ heard streams (drop start text)
heard_part streams there text start count n same size is =
    ap (λ k. take k (drop start text)) size ∙ is (drop start text) (length-drop start text)
    ∙ ap (λ l. heard l (drop start text)) same

-- a stream has no edge; elsewhere printing begins where the last line of the window ends

pub none_indented : (streams : List Stream) (upper : Option Upper) (text : List ℕ) → length streams ≢ 0
    → 0 ≡ indent_in streams upper text
none_indented [] upper text some = absurd (some refl)
none_indented (stream ∷ streams) upper text some = refl

pub indented : (streams : List Stream) (upper : Option Upper) (text : List ℕ) → length streams ≡ 0
    → width (in_window upper text) ≡ indent_in streams upper text
indented [] upper text none = refl
indented (stream ∷ streams) upper text none = absurd (omega (arith, none))
