-- Characters that can be printed.
use Rattle.std.proofs.Common.{◌≡◌, ◌==◌, ℕ, List, [], ◌∷◌, ◌++◌, length, Bool, true, false, refl, sym, ap, ◌∙◌, arith}
use Rattle.std.proofs.Common.{append_assoc}
use Rattle.std.specs.Prelude.{if◌then◌else◌, map, ◌&&◌}
use Rattle.std.specs.Global.{Vec}
use Rattle.std.specs.List.{filter, list_all}
use Rattle.std.proofs.lemmas.Bool.{false≢true, eqb-true}
use Rattle.std.proofs.lemmas.Bool.Decides.{nat_tests}
use Rattle.ztext.specs.Abbreviations.{encoded_with, spelled_behind}
use Rattle.ztext.specs.Alphabets.{is_printable, spelled, spelling_of}
use Rattle.ztext.specs.Text.{encoded}
use Rattle.ztext.specs.Words.{packed, padded}
use Rattle.zcore.specs.declared.instruction.Operation.TheVariants.{Print}
use Rattle.zcore.specs.InstructionBytes.{bytes_of}
use Rattle.code_drafts.specs.Bytes.{bytes_of_all}
use Rattle.meaning.specs.Places.{machine_character}
use Rattle.code_drafts.specs.Instructions.{plain}
use Rattle.code_instructions.specs.Instructions.{prints_itself}

-- what is kept can be printed
pub only_printable : (cs : List ℕ) → list_all is_printable (filter is_printable cs) ≡ true
only_printable [] = refl
only_printable (c ∷ cs) = go (only_printable cs) (is_printable c) refl
  where
    go : list_all is_printable (filter is_printable cs) ≡ true → (b : Bool) → is_printable c ≡ b
        → list_all is_printable (if b then c ∷ filter is_printable cs else filter is_printable cs) ≡ true
    go more true e = rw e more
    go more false e = more

-- Bytes that are printed as they are

both_parts : (p q more : Bool) → ((p && q) && more) ≡ true → (p ≡ true) × (q ≡ true) × (more ≡ true)
both_parts true true true e = (refl, refl, refl)
both_parts true true false e = absurd (false≢true e)
both_parts true false more e = absurd (false≢true e)
both_parts false q more e = absurd (false≢true e)

one_itself : (c : ℕ) (rest : List ℕ) → is_printable c ≡ true → (machine_character c == c) ≡ true
    → filter is_printable (machine_character c ∷ rest) ≡ c ∷ filter is_printable rest
one_itself c rest p same =
    ap (λ (n : ℕ). filter is_printable (n ∷ rest)) (eqb-true (machine_character c) c same)
    ∙ ap (λ (x : Bool). if x then c ∷ filter is_printable rest else filter is_printable rest) p

pub themselves : (cs : List ℕ) → list_all prints_itself cs ≡ true → filter is_printable (map machine_character cs) ≡ cs
themselves [] e = refl
themselves (c ∷ cs) e =
    let parts = both_parts (is_printable c) (machine_character c == c) (list_all prints_itself cs) e in
    one_itself c (map machine_character cs) parts.0 parts.1 ∙ ap (λ l. c ∷ l) (themselves cs parts.2)

-- Abbreviations that there are none of

none_behind : (cs : List ℕ) → spelled_behind [] 0 cs ≡ spelled cs
none_behind [] = refl
none_behind (c ∷ cs) = ap (λ zs. spelling_of c ++ zs) (none_behind cs)

none_used : (cs : List ℕ) → encoded cs ≡ encoded_with [] cs
unfolding encoded encoded_with
none_used cs = ap (λ zs. packed (padded zs)) (sym (none_behind cs))

pub without : (texts : List (Vec ℕ)) (abbreviations : List (List ℕ)) (cs : List ℕ) → true ≡ (length texts == 0)
    → map (λ (t : Vec ℕ). t.items) texts ≡ abbreviations → encoded cs ≡ encoded_with abbreviations cs
without [] abbreviations cs e are = none_used cs ∙ ap (λ given. encoded_with given cs) are
without (t ∷ ts) abbreviations cs e are =
    let none : length (t ∷ ts) ≡ 0 = grind (arith, e, nat_tests) in absurd (omega (arith, none))

-- The byte of `print`, and then a text
pub text_joined : (b b1 b2 text z zs : List ℕ) → b1 ≡ b ++ 178 ∷ [] → z ≡ text → text ≡ zs → b2 ≡ b1 ++ z
    → b2 ≡ b ++ (bytes_of_all (plain Print [] ∷ []) ++ zs)
unfolding bytes_of
text_joined b b1 b2 text z zs first same is more =
    more ∙ ap (λ l. l ++ z) first ∙ append_assoc b (178 ∷ []) z ∙ ap (λ l. b ++ 178 ∷ l) (same ∙ is)
