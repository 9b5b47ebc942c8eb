-- Where a text has the characters of its abbreviations.
use Rattle.std.proofs.Common.{◌≡◌, ℕ, zero, suc, ◌+◌, ◌-◌, ◌<◌, ◌≤◌, true, false, List, [], ◌∷◌, ◌++◌, length}
use Rattle.std.proofs.Common.{take, drop, get_or, Option, Some, None, Result, Ok, Err, refl, sym, ap, subst, ◌∙◌}
use Rattle.std.proofs.Common.{inl, inr, arith, eq-eqb}
use Rattle.std.specs.Prelude.{◌==◌, min, replicate, if◌then◌else◌, is_ok, OnOk}
use Rattle.std.proofs.lemmas.List.{take_all, take-take, take-append-le, length-take}
use Rattle.std.proofs.lemmas.Bool.{cases_lt, cases_eq, ne_eqb}
use Rattle.std.proofs.lemmas.List.{get_or-replicate, get_or_past, length-replicate, length-drop}
use Rattle.std.proofs.lemmas.List.{drop-append-le, take-append-drop}
use Rattle.ztext.specs.declared.expansions.Expansion.{Expansion}
use Rattle.ztext.specs.declared.expansions.Expansions.{Expansions}
use Rattle.ztext.specs.declared.fault.TextFault.{TextFault}
use Rattle.ztext.specs.declared.fault.TextFault.TheVariants as faults
use Rattle.ztext.specs.declared.reading.Named.{Named}
use Rattle.ztext.specs.Results.{◌>>=◌}
use Rattle.ztext.specs.Reading.{Cause, Abbreviation, Lower, reads}
use Rattle.ztext.specs.Words.{unpacked_text}
use Rattle.ztext.specs.Text.{read_with, refused, has_abbreviations, abbreviation_address, abbreviation}
use Rattle.ztext.specs.Faults.{FailsText}
use Rattle.ztext.specs.Expansions.{read_on, expanded, rest_of, ReadsOn, IsNamedWithin, place_of, Has, Keeps}
use Rattle.ztext.proofs.Fronts.{take_front, front_stays}
use Rattle.ztext.proofs.Loops.{fails_bind}

-- ---- an abbreviation that is read

abbrev ending : ℕ → List ℕ → Result (List ℕ × ℕ) Cause
ending after text = Ok (text, after)

alone : (most after : ℕ) (old : List ℕ) (r : Result (List ℕ) Cause)
    → (((r >>= ending after) >>= λ x. Ok x.0) >>= λ more. Ok (take most (old ++ more)))
    ≡ (r >>= λ more. Ok (take most (old ++ more)))
alone most after old (Ok x) = refl
alone most after old (Err f) = refl

in_table : (story : List ℕ) (number at : ℕ) → has_abbreviations story ≡ true → at ≡ abbreviation_address story number
    → abbreviation story number ≡ (read_with refused story at >>= λ x. Ok x.0)
unfolding abbreviation
in_table story number at table named =
    let out : abbreviation story number
    ≡ (read_with refused story (abbreviation_address story number) >>= λ x. Ok x.0) = rw table refl in
    out ∙ ap (λ k. read_with refused story k >>= λ x. Ok x.0) (sym named)

pub read_alone : (most : ℕ) (story bytes : List ℕ) (number at after : ℕ) (zs old : List ℕ)
    → has_abbreviations story ≡ true → at ≡ abbreviation_address story number
    → bytes ≡ drop at story → unpacked_text at bytes ≡ Ok (zs, after)
    → expanded (abbreviation story) most old number ≡ read_on refused most old zs
read_alone most story bytes number at after zs old table named from found =
    ap (λ r. r >>= λ more. Ok (take most (old ++ more))) (in_table story number at table named)
    ∙ ap (λ r. ((r >>= λ x. reads refused Lower x.0 >>= ending x.1) >>= λ x. Ok x.0)
    >>= λ more. Ok (take most (old ++ more))) (ap (unpacked_text at) (sym from) ∙ found)
    ∙ alone most after old (reads refused Lower zs)

-- a story without a table
pub no_table : (most : ℕ) (fault : TextFault) (story : List ℕ) (number : ℕ) (old : List ℕ)
    → fault ≡ faults.Abbreviation → has_abbreviations story ≡ false
    → FailsText fault (expanded (abbreviation story) most old number)
unfolding abbreviation
no_table most fault story number old named lost =
    let out : abbreviation story number ≡ Err Abbreviation = rw lost refl in
    subst (λ f. FailsText f (expanded (abbreviation story) most old number)) (sym named)
    (ap (λ r. r >>= λ more. Ok (take most (old ++ more))) out)

-- an abbreviation's text that does not end
pub nowhere_alone : (most : ℕ) (fault : TextFault) (story bytes : List ℕ) (number at : ℕ) (old : List ℕ)
    → has_abbreviations story ≡ true → at ≡ abbreviation_address story number
    → bytes ≡ drop at story → FailsText fault (unpacked_text at bytes)
    → FailsText fault (expanded (abbreviation story) most old number)
nowhere_alone most fault story bytes number at old table named from h =
    let there = subst (λ bs. FailsText fault (unpacked_text at bs)) from h in
    let read = fails_bind fault (unpacked_text at (drop at story))
    (λ x. reads refused Lower x.0 >>= λ text. Ok (text, x.1)) there in
    let first = fails_bind fault (read_with refused story at) (λ x. Ok x.0) read in
    fails_bind fault (abbreviation story number) (λ more. Ok (take most (old ++ more)))
    (subst (FailsText fault) (sym (in_table story number at table named)) first)

-- ---- what a text has of it

-- the characters that were added
pub more_of : (most : ℕ) (old now : List ℕ) (r : Result (List ℕ) Cause)
    → (r >>= λ more. Ok (take most (old ++ more))) ≡ Ok now
    → (more : List ℕ) × (r ≡ Ok more) × (now ≡ take most (old ++ more))
more_of most old now (Ok more) e =
    let there : Result (List ℕ) Cause → List ℕ = λ r. elim r [ Ok y ↦ y | Err f ↦ [] ] in
    (more, refl, sym (ap there e))
more_of most old now (Err f) e = absurd cc

-- as many of them as there is room for serve as well as all
pub enough : (most room : ℕ) (text more : List ℕ) → most ≤ length text + room
    → take most (text ++ take room more) ≡ take most (text ++ more)
enough zero room text more le = refl
enough (suc n) room (x ∷ xs) more le = ap (λ l. x ∷ l) (enough n room xs more (omega (arith, le)))
enough (suc n) room [] more le = take-take (suc n) room more (omega (arith, le))

-- a front, by what there is room for behind the first of two
front_apart : (most : ℕ) (old more : List ℕ) → length old ≤ most
    → take most (old ++ more) ≡ old ++ take (most - length old) more
front_apart most [] more le = ap (λ k. take k more) (omega arith)
front_apart zero (x ∷ xs) more le = absurd (omega (arith, le))
front_apart (suc n) (x ∷ xs) more le =
    let e : suc n - suc (length xs) ≡ n - length xs = omega arith in
    ap (λ l. x ∷ l) (front_apart n xs more (omega (arith, le))) ∙ ap (λ k. (x ∷ xs) ++ take k more) (sym e)

take_twice : (m n : ℕ) (l : List ℕ) → take m (take n l) ≡ take (min n m) l
take_twice m n l = elim (cases_lt n m) [
  | inl lt ↦ let e : min n m ≡ n = omega arith in
      take_all m (take n l) (omega (arith, lt, length-take n l)) ∙ ap (λ k. take k l) (sym e)
  | inr le ↦ let e : min n m ≡ m = omega arith in take-take m n l le ∙ ap (λ k. take k l) (sym e)
]

-- characters of a text that are added to it, as far as there is room
pub added : {E : Type 0} (result : Result (Unit {0}) E) (most start count many : ℕ) (old now : List ℕ)
    → length old ≤ most → many ≡ min count (most - length old)
    → now ≡ (if is_ok result then old ++ take (start + many - start) (drop start old) else old)
    → OnOk result (now ≡ take most (old ++ take count (drop start old)))
added (Err f) most start count many old now room size grown = tt
added (Ok u) most start count many old now room size grown =
    let part = drop start old in
    let e : start + many - start ≡ min count (most - length old) = omega (arith, size) in
    grown ∙ ap (λ k. old ++ take k part) e ∙ ap (λ l. old ++ l) (sym (take_twice (most - length old) count part))
    ∙ sym (front_apart most old (take count part) room)

behind : (most : ℕ) (old more : List ℕ) → length old ≤ most
    → drop (length old) (take most (old ++ more)) ≡ take (most - length old) more
behind most [] more le = ap (λ k. take k more) (omega arith)
behind zero (x ∷ xs) more le = absurd (omega (arith, le))
behind (suc n) (x ∷ xs) more le =
    let e : suc n - suc (length xs) ≡ n - length xs = omega arith in
    behind n xs more (omega (arith, le)) ∙ ap (λ k. take k more) (sym e)

-- the characters that were just added
has_new : (story : List ℕ) (most number : ℕ) (old now more : List ℕ) (place : Expansion) → length old ≤ most
    → abbreviation story number ≡ Ok more → now ≡ take most (old ++ more) → place.start ≡ length old
    → place.start + place.length ≡ length now → Has story most now number place
has_new story most number old now more place room read grown start end =
    let rest : drop (length old) now ≡ take (most - length old) more = ap (drop (length old)) grown
    ∙ behind most old more room in
    let kept : take place.length (drop (length old) now) ≡ take (most - length old) more =
    take_all place.length (drop (length old) now) (omega (arith, start, end, length-drop (length old) now)) ∙ rest in
    record {
      characters = more;
      read = read;
      within = omega (arith, end);
      kept = ap (λ k. take place.length (drop k now)) start ∙ kept ∙ ap (λ k. take (most - k) more) (sym start);
    }

pub grown_stays : (most : ℕ) (old now more : List ℕ) → length old ≤ most → now ≡ take most (old ++ more)
    → take (length old) now ≡ old
grown_stays most old now more room grown =
    front_stays most old old more now room (take_all (length old) old (omega arith)) grown

part_stays : (old now : List ℕ) (start count : ℕ) → take (length old) now ≡ old → start + count ≤ length old
    → take count (drop start now) ≡ take count (drop start old)
part_stays old now start count stays within =
    let rest = drop (length old) now in
    let whole : now ≡ old ++ rest = sym (ap (λ l. l ++ rest) (sym stays) ∙ take-append-drop (length old) now) in
    ap (λ l. take count (drop start l)) whole
    ∙ ap (take count) (drop-append-le start old rest (omega (arith, within)))
    ∙ take-append-le count (drop start old) rest (omega (arith, within, length-drop start old))

-- what stands there stays
has_still : (story : List ℕ) (most number : ℕ) (old now : List ℕ) (place : Expansion) → take (length old) now ≡ old
    → Has story most old number place → Has story most now number place
has_still story most number old now place stays has = record {
  characters = has.characters;
  read = has.read;
  within = (let n : length old ≡ min (length old) (length now) = ap length (sym stays) ∙ length-take (length old) now in
      omega (arith, n, has.within));
  kept = part_stays old now place.start place.length stays has.within ∙ has.kept;
}

-- flags of which none is set
none_set : (count i : ℕ) → get_or (replicate count false) i false ≡ false
none_set count i = elim (cases_lt i count) [
  | inl lt ↦ get_or-replicate count i false false lt
  | inr le ↦ get_or_past (replicate count false) i false (omega (arith, le, length-replicate count false))
]

pub nothing_known : (known : Expansions) → known.known ≡ replicate 96 false → (number : ℕ)
    → place_of known number ≡ None
nothing_known known none number =
    let place : Option Expansion = Some (get_or known.places number (record { start = 0; length = 0 })) in
    ap (λ flags. if get_or flags number false then place else None) none
    ∙ ap (λ b. if b then place else None) (none_set 96 number)

pub keeps_none : (story : List ℕ) (most : ℕ) (text : List ℕ) (known : Expansions)
    → ((number : ℕ) → place_of known number ≡ None) → Keeps story most text known
keeps_none story most text known none number place e =
    let lost : None ≡ Some place = sym (none number) ∙ e in
    absurd cc

pub keeps_still : (story : List ℕ) (most : ℕ) (old now : List ℕ) (known : Expansions)
    → take (length old) now ≡ old → Keeps story most old known → Keeps story most now known
keeps_still story most old now known stays keeps number place e =
    has_still story most number old now place stays (keeps number place e)

some_is : (x y : Expansion) → Some x ≡ Some y → x ≡ y
some_is x y e = cc

abbrev pub Notes : Expansions → Expansions → ℕ → Expansion → Type 0
Notes old new number place = (other : ℕ) → place_of new other
    ≡ (if other == number then Some place else place_of old other)

keeps_noted : (story : List ℕ) (most number : ℕ) (text : List ℕ) (old new : Expansions) (place : Expansion)
    → Has story most text number place → Notes old new number place → Keeps story most text old
    → Keeps story most text new
keeps_noted story most number text old new place has noted keeps other there e = elim (cases_eq other number) [
  | inl same ↦
      let is : place_of new other ≡ Some place = noted other
      ∙ ap (λ b. if b then Some place else place_of old other) (eq-eqb other number same) in
      subst (Has story most text other) (some_is place there (sym is ∙ e))
      (subst (λ k. Has story most text k place) (sym same) has)
  | inr not ↦
      let is : place_of new other ≡ place_of old other = noted other
      ∙ ap (λ b. if b then Some place else place_of old other) (ne_eqb other number not) in
      keeps other there (sym is ∙ e)
]

-- ---- the characters of an abbreviation, and what the text keeps then

on_front : (most : ℕ) (text : List ℕ) (r : Result (List ℕ) Cause)
    → (r >>= λ more. Ok (take most (take most text ++ more))) ≡ (r >>= λ more. Ok (take most (text ++ more)))
on_front most text (Ok more) = ap (λ l. Ok l) (take_front most text more)
on_front most text (Err f) = refl

-- no character goes
pub grown_long : (most : ℕ) (old now : List ℕ) (r : Result (List ℕ) Cause) → length old ≤ most
    → (r >>= λ more. Ok (take most (old ++ more))) ≡ Ok now → length old ≤ length now
grown_long most old now r room read =
    let m = more_of most old now r read in
    let stays = grown_stays most old now m.0 room m.2 in
    let n : length old ≡ min (length old) (length now) = ap length (sym stays) ∙ length-take (length old) now in
    omega (arith, n)

-- it was read, and where its characters stand is noted
pub keeps_new : (story : List ℕ) (most number : ℕ) (old now : List ℕ) (known new : Expansions)
    (place : Expansion) → length old ≤ most
    → expanded (abbreviation story) most old number ≡ Ok now → place.start ≡ length old
    → place.start + place.length ≡ length now → Notes known new number place → Keeps story most old known
    → Keeps story most now new
keeps_new story most number old now known new place room read start end noted keeps =
    let m = more_of most old now (abbreviation story number) read in
    keeps_noted story most number now known new place
    (has_new story most number old now m.0 place room m.1 m.2 start end) noted
    (keeps_still story most old now known (grown_stays most old now m.0 room m.2) keeps)

-- it was named before, and its characters are added once more
pub read_again : (story : List ℕ) (most number : ℕ) (old now : List ℕ) (place : Expansion) → length old ≤ most
    → Has story most old number place → now ≡ take most (old ++ take place.length (drop place.start old))
    → expanded (abbreviation story) most old number ≡ Ok now
read_again story most number old now place room has grown =
    ap (λ r. r >>= λ more. Ok (take most (old ++ more))) has.read
    ∙ ap (λ l. Ok l) (sym (grown ∙ ap (λ more. take most (old ++ more)) has.kept
    ∙ enough most (most - place.start) old has.characters (omega (arith, has.within))))

pub keeps_again : (story : List ℕ) (most : ℕ) (old now more : List ℕ) (known : Expansions)
    → length old ≤ most → now ≡ take most (old ++ more) → Keeps story most old known → Keeps story most now known
keeps_again story most old now more known room grown keeps =
    keeps_still story most old now known (grown_stays most old now more room grown) keeps

-- ---- a text that names one after another

abbrev pub IsNumbered : Option Named → Type 0
IsNumbered None = Unit {0}
IsNumbered (Some named) = named.number < 96

-- what is still read, where an abbreviation was met or the end
abbrev pub left_of : (ℕ → Result (List ℕ) Cause) → ℕ → List ℕ → List ℕ → Option Named → Result (List ℕ) Cause
left_of expand most text zs None = Ok text
left_of expand most text zs (Some named) = rest_of expand most text zs named

-- how many places may still name one
abbrev pub left_places : ℕ → Option Named → ℕ
left_places end None = 0
left_places end (Some named) = suc (end - named.after)

module _ (expand : ℕ → Result (List ℕ) Cause) (most : ℕ) (old new zs : List ℕ) (from : ℕ) (option : Option Named) where
  pub met : (named : Named) → option ≡ Some named → ReadsOn expand most old new zs from (Ok option)
      → read_on expand most old (drop from zs) ≡ rest_of expand most new zs named
  met named is h = subst (λ o. ReadsOn expand most old new zs from (Ok o)) is h

  pub ended : option ≡ None → ReadsOn expand most old new zs from (Ok option)
      → read_on expand most old (drop from zs) ≡ Ok new
  ended is h = subst (λ o. ReadsOn expand most old new zs from (Ok o)) is h

-- what stands behind an abbreviation was read up to the next one
pub passed : (expand : ℕ → Result (List ℕ) Cause) (most : ℕ) (old new zs : List ℕ) (from : ℕ) (option : Option Named)
    → ReadsOn expand most old new zs from (Ok option)
    → read_on expand most old (drop from zs) ≡ left_of expand most new zs option
passed expand most old new zs from None h = h
passed expand most old new zs from (Some named) h = h

pub numbered : (from end : ℕ) (option : Option Named) → IsNamedWithin from end option → IsNumbered option
numbered from end None h = tt
numbered from end (Some named) h = h.0

-- an abbreviation and the text behind it, by the characters that were added for it
pub rest_is : (expand : ℕ → Result (List ℕ) Cause) (most : ℕ) (old now zs : List ℕ) (named : Named)
    → expanded expand most old named.number ≡ Ok now
    → rest_of expand most old zs named ≡ read_on expand most now (drop named.after zs)
rest_is expand most old now zs named read =
    let m = more_of most old now (expand named.number) read in
    ap (λ r. r >>= λ more. read_on expand most (old ++ more) (drop named.after zs)) m.1
    ∙ sym (ap (λ l. read_on expand most l (drop named.after zs)) m.2
    ∙ on_front most (old ++ m.0) (reads expand Lower (drop named.after zs)))
