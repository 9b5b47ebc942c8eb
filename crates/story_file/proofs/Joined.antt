-- Bytes that follow one another make up the parts of a story.
use Rattle.std.proofs.Common.{◌≡◌, ℕ, zero, suc, ◌+◌, ◌-◌, ◌*◌, ◌<◌, ◌≤◌, List, [], ◌∷◌, ◌++◌, length, take, drop, map}
use Rattle.std.proofs.Common.{refl, sym, ap, ◌∙◌, arith, append_assoc, append-nil}
use Rattle.std.specs.Prelude.{◌/◌, ◌%◌, codes, replicate, slice_index_or, sum}
use Rattle.std.proofs.lemmas.List.{length-append, length-replicate}
use Rattle.std.specs.List.{flat_map, concat}
use Rattle.std.specs.Global.{Vec}
use Rattle.zcore.specs.InstructionBytes.{bytes_of}
use Rattle.ztext.specs.Text.{encoded}
use Rattle.ztext.specs.Words.{packed}
use Rattle.zcore.specs.declared.header.Version.{Version}
use Rattle.zcore.specs.Header.{scale_of, version_number}
use Rattle.meaning.specs.declared.places.Places.{Places}
use Rattle.meaning.specs.Places.{dictionary_end, filling_before}
use Rattle.zcore.specs.Layout.{header_size}
use Rattle.meaning.specs.Resolved.{ProgramOf}
use Rattle.code_drafts.specs.Addresses.{Addresses}
use Rattle.code.specs.HeldProgram.{start_code}
use Rattle.code.specs.Written.{CodeOf}
use Rattle.story_file.specs.Layout.{word, abbreviation_bytes, global_bytes, object_bytes, dictionary_bytes, low_bytes}
use Rattle.story_file.specs.Layout.{aligned, parts_from, header_of}
use Rattle.story_file.specs.Written.{bytes_in, code_part}
use Rattle.story_file.proofs.Parts.{aligned_above}

-- The header

abbrev first_words : Places → List ℕ
first_words at = 1 ∷ at.start ∷ at.start ∷ at.dictionary ∷ at.defaults ∷ at.globals ∷ at.dictionary ∷ 0 ∷ []

abbrev header_with : Places → ℕ → ℕ → ℕ → List ℕ
header_with at number long total =
    number ∷ 0 ∷ (flat_map word (first_words at)
    ++ (codes "000000" ++ (flat_map word (header_size ∷ long ∷ total ∷ []) ++ replicate 34 0)))

pub header_joined : (version : Version) (at : Places) (body b b1 b2 b3 b4 b5 b6 : List ℕ) (number long total : ℕ)
    → number ≡ version_number version → long ≡ (header_size + length body) / scale_of version
    → total ≡ sum body % 65536
    → b1 ≡ b ++ number ∷ [] → b2 ≡ b1 ++ 0 ∷ [] → b3 ≡ b2 ++ flat_map word (first_words at) → b4 ≡ b3 ++ codes "000000"
    → b5 ≡ b4 ++ flat_map word (header_size ∷ long ∷ total ∷ []) → b6 ≡ b5 ++ replicate 34 0
    → b6 ≡ b ++ header_of version at body
header_joined version at body b b1 b2 b3 b4 b5 b6 number long total en el et e1 e2 e3 e4 e5 e6 =
    let words = flat_map word (first_words at) in
    let more = flat_map word (header_size ∷ long ∷ total ∷ []) in
    let whole : b6 ≡ (((((b ++ number ∷ []) ++ 0 ∷ []) ++ words) ++ codes "000000") ++ more) ++ replicate 34 0 =
    e6 ∙ ap (λ z. z ++ replicate 34 0) (e5
    ∙ ap (λ z. z ++ more) (e4 ∙ ap (λ z. z ++ codes "000000") (e3
    ∙ ap (λ z. z ++ words) (e2 ∙ ap (λ z. z ++ 0 ∷ []) e1)))) in
    let flat : (((((b ++ number ∷ []) ++ 0 ∷ []) ++ words) ++ codes "000000") ++ more) ++ replicate 34 0 ≡ b
    ++ header_with at number long total = simp append_assoc in
    whole ∙ flat
    ∙ ap (λ n. b ++ header_with at n long total) en
    ∙ ap (λ n. b ++ header_with at (version_number version) n total) el
    ∙ ap (λ n. b ++ header_with at (version_number version) ((header_size + length body) / scale_of version) n) et

pub start_joined : (main : ℕ) (b b1 b2 b3 : List ℕ) → b1 ≡ b ++ 143 ∷ [] → b2 ≡ b1 ++ word main → b3 ≡ b2 ++ 186 ∷ []
    → b3 ≡ b ++ start_code main
unfolding bytes_of
start_joined main b b1 b2 b3 e1 e2 e3 =
    e3 ∙ ap (λ z. z ++ 186 ∷ []) (e2 ∙ ap (λ z. z ++ word main) e1) ∙ simp append_assoc

-- Globals

zeros : (n m : ℕ) → n ≤ m → flat_map word (take n (replicate m 0)) ≡ replicate (2 * n) 0
zeros zero m h = refl
zeros (suc n) zero h = absurd (omega arith)
zeros (suc n) (suc m) h =
    let e : suc (suc (2 * n)) ≡ 2 * suc n = omega arith in
    ap (λ z. 0 ∷ 0 ∷ z) (zeros n m (omega arith)) ∙ ap (λ k. replicate {A = ℕ} k 0) e

filled : (n m : ℕ) (globals : List ℕ) → length globals ≤ n → n ≤ m
    → flat_map word (take n (globals ++ replicate m 0)) ≡ flat_map word globals
    ++ replicate (2 * (n - length globals)) 0
filled n m [] few h =
    let e : n ≡ n - 0 = omega arith in
    zeros n m h ∙ ap (λ k. replicate {A = ℕ} (2 * k) 0) e
filled zero m (g ∷ gs) few h = absurd (omega arith)
filled (suc n) m (g ∷ gs) few h =
    let e : n - length gs ≡ suc n - suc (length gs) = omega arith in
    ap (λ z. word g ++ z) (filled n m gs (omega arith) (omega arith))
    ∙ ap (λ k. word g ++ (flat_map word gs ++ replicate {A = ℕ} (2 * k) 0)) e

pub globals_joined : (globals b b1 b2 : List ℕ) → length globals ≤ 240 → b1 ≡ b ++ flat_map word globals
    → b2 ≡ b1 ++ replicate (2 * (240 - length globals)) 0 → b2 ≡ b ++ global_bytes globals
globals_joined globals b b1 b2 few e1 e2 =
    e2 ∙ ap (λ z. z ++ replicate {A = ℕ} (2 * (240 - length globals)) 0) e1
    ∙ append_assoc b (flat_map word globals) (replicate {A = ℕ} (2 * (240 - length globals)) 0)
    ∙ ap (λ z. b ++ z) (sym (filled 240 240 globals few (omega arith)))

-- All that stands below the routines

empty_text : word 38053 ≡ encoded []
unfolding encoded packed
empty_text = refl

all_joined : (a x c d e f y t g b b1 b2 b3 b4 b5 b6 b7 b8 b9 : List ℕ) → b1 ≡ b ++ a → b2 ≡ b1 ++ x → b3 ≡ b2 ++ c
    → b4 ≡ b3 ++ d → b5 ≡ b4 ++ e → b6 ≡ b5 ++ f → b7 ≡ b6 ++ y → b8 ≡ b7 ++ t → b9 ≡ b8 ++ g
    → b9 ≡ b ++ (a ++ x ++ c ++ d ++ e ++ f ++ (y ++ t) ++ g)
all_joined a x c d e f y t g b b1 b2 b3 b4 b5 b6 b7 b8 b9 e1 e2 e3 e4 e5 e6 e7 e8 e9 =
    e9 ∙ ap (λ z. z ++ g) (e8 ∙ ap (λ z. z ++ t) (e7 ∙ ap (λ z. z ++ y) (e6 ∙ ap (λ z. z ++ f) (e5
    ∙ ap (λ z. z ++ e) (e4 ∙ ap (λ z. z ++ d) (e3 ∙ ap (λ z. z ++ c) (e2 ∙ ap (λ z. z ++ x) e1)))))))
    ∙ simp append_assoc

pub low_joined : (p : ProgramOf) (main : ℕ) (b b1 b2 b3 b4 b5 b6 b7 b8 b9 : List ℕ) → b1 ≡ b ++ abbreviation_bytes p
    → b2 ≡ b1 ++ word 38053 → b3 ≡ b2 ++ global_bytes p.globals → b4 ≡ b3 ++ concat p.arrays
    → b5 ≡ b4 ++ object_bytes p → b6 ≡ b5 ++ dictionary_bytes p.keys
    → b7 ≡ b6 ++ replicate (filling_before p.abbreviations (dictionary_end p)) 0
    → b8 ≡ b7 ++ flat_map encoded p.abbreviations → b9 ≡ b8 ++ start_code main
    → b9 ≡ b ++ low_bytes p main
low_joined p main b b1 b2 b3 b4 b5 b6 b7 b8 b9 e1 e2 e3 e4 e5 e6 e7 e8 e9 =
    all_joined (abbreviation_bytes p) (encoded []) (global_bytes p.globals) (concat p.arrays) (object_bytes p)
    (dictionary_bytes p.keys) (replicate (filling_before p.abbreviations (dictionary_end p)) 0)
    (flat_map encoded p.abbreviations) (start_code main) b b1 b2 b3 b4 b5 b6 b7 b8 b9
    e1 (e2 ∙ ap (λ z. b1 ++ z) empty_text) e3 e4 e5 e6 e7 e8 e9

-- Routines

-- a part after its filling
part_joined : (version : Version) (part b1 b2 b3 : List ℕ) (parts : List (List ℕ))
    → b2 ≡ b1 ++ replicate (aligned (scale_of version) (length b1) - (length b1)) 0 → b3 ≡ b2 ++ part
    → b3 ++ parts_from (scale_of version) (length b3) parts
    ≡ b1 ++ parts_from (scale_of version) (length b1) (part ∷ parts)
part_joined version part b1 b2 b3 parts e2 e3 =
    let at : ℕ = length b1 in
    let up : ℕ = aligned (scale_of version) at in
    let filling : List ℕ = replicate (up - at) 0 in
    let rest : List ℕ = parts_from (scale_of version) (up + length part) parts in
    let end : length b3 ≡ up + length part =
    omega (
      arith,
      ap length e2,
      ap length e3,
      length-append b1 filling,
      length-append b2 part,
      length-replicate {A = ℕ} (up - at) 0,
      aligned_above version at,
    ) in
    ap (λ n. b3 ++ parts_from (scale_of version) n parts) end
    ∙ ap (λ z. z ++ rest) (e3 ∙ ap (λ z. z ++ part) e2)
    ∙ ap (λ z. z ++ rest) (append_assoc b1 filling part) ∙ append_assoc b1 (filling ++ part) rest

pub routine_joined : (version : Version) (a : Addresses) (codes : List CodeOf) (i : ℕ) (code : CodeOf)
    (b b1 b2 b3 : List ℕ) → i < length codes → code ≡ slice_index_or codes i code
    → b2 ≡ b1 ++ replicate (aligned (scale_of version) (length b1) - (length b1)) 0
    → b3 ≡ b2 ++ code_part a code
    → ((parts : List (List ℕ)) → b1 ++ parts_from (scale_of version) (length b1)
    (map (code_part a) (drop i codes) ++ parts)
    ≡ b ++ parts_from (scale_of version) (length b) (map (code_part a) codes ++ parts))
    → (parts : List (List ℕ)) → b3 ++ parts_from (scale_of version) (length b3)
    (map (code_part a) (drop (i + 1) codes) ++ parts)
    ≡ b ++ parts_from (scale_of version) (length b) (map (code_part a) codes ++ parts)
routine_joined version a codes i code b b1 b2 b3 within is e2 e3 all parts =
    part_joined version (code_part a code) b1 b2 b3 (map (code_part a) (drop (i + 1) codes) ++ parts) e2 e3
    ∙ ap (λ (cs : List CodeOf). b1 ++ parts_from (scale_of version) (length b1) (map (code_part a) cs ++ parts))
    (sym (next codes i within is)) ∙ all parts
  where
    next : (xs : List CodeOf) (i : ℕ) → i < length xs → code ≡ slice_index_or xs i code
        → drop i xs ≡ code ∷ drop (i + 1) xs
    next [] i h is = absurd (omega (arith, h))
    next (x ∷ xs) zero h is = ap (λ z. z ∷ xs) (sym is)
    next (x ∷ xs) (suc i) h is =
        let j : suc i + 1 ≡ suc (i + 1) = omega arith in
        next xs i (omega (arith, h)) is ∙ ap (λ k. code ∷ drop k (x ∷ xs)) (sym j)

-- Texts

texts_end : (xs : List (Vec ℕ)) (i : ℕ) → length xs ≤ i → map bytes_in (drop i xs) ≡ []
texts_end [] zero h = refl
texts_end [] (suc i) h = refl
texts_end (x ∷ xs) zero h = absurd (omega (arith, h))
texts_end (x ∷ xs) (suc i) h = texts_end xs i (omega (arith, h))

pub text_added : (old new : List (Vec ℕ)) (text : Vec ℕ) (bytes : List ℕ) → new ≡ old ++ text ∷ [] → text.items ≡ bytes
    → map bytes_in new ≡ map bytes_in old ++ bytes ∷ []
text_added old new text bytes e t =
    ap (λ (xs : List (Vec ℕ)). map bytes_in xs) e ∙ all old ∙ ap (λ (b : List ℕ). map bytes_in old ++ b ∷ []) t
  where
    all : (xs : List (Vec ℕ)) → map bytes_in (xs ++ text ∷ []) ≡ map bytes_in xs ++ text.items ∷ []
    all [] = refl
    all (x ∷ xs) = ap (λ (bs : List (List ℕ)). x.items ∷ bs) (all xs)

pub texts_joined : (version : Version) (texts : List (Vec ℕ)) (i : ℕ) (b b2 b3 : List ℕ) → length texts ≤ i
    → ((parts : List (List ℕ)) → b2 ++ parts_from (scale_of version) (length b2)
    (map bytes_in (drop i texts) ++ parts)
    ≡ b ++ parts_from (scale_of version) (length b) (map bytes_in texts ++ parts))
    → b3 ≡ b2 ++ replicate (aligned (scale_of version) (length b2) - (length b2)) 0
    → b3 ≡ b ++ parts_from (scale_of version) (length b) (map bytes_in texts)
texts_joined version texts i b b2 b3 end all e3 =
    e3
    ∙ ap (λ (ps : List (List ℕ)). b2 ++ parts_from (scale_of version) (length b2) (ps ++ []))
    (sym (texts_end texts i end))
    ∙ all [] ∙ ap (λ (ps : List (List ℕ)). b ++ parts_from (scale_of version) (length b) ps)
    (append-nil (map bytes_in texts))
