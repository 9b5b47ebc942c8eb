-- What is read of a file, and what is played of it.
use Rattle.std.proofs.Common.{◌≡◌, ◌≤◌, ◌++◌, ◌∙◌, ℕ, List, [], take, refl, sym, ap, arith, subst, true, false}
use Rattle.std.proofs.Common.{Option, Some, None, Result, Ok, Err, inl, inr}
use Rattle.std.proofs.lemmas.Bool.{cases_Bool}
use Rattle.std.proofs.lemmas.List.{take-take}
use Rattle.std.specs.Global.{Vec}
use Rattle.std.specs.Io.Take.{take_remaining}
use Rattle.std.specs.Prelude.{IfOk, IfSome, option_map}
use Rattle.std.specs.declared.io.traits.Take.{Take}
use Rattle.iff_files.proofs.Cut.{is_blorb_cut, story_in_cut}
use Rattle.iff_files.specs.declared.blorb_fault.BlorbFault.{BlorbFault}
use Rattle.iff_files.specs.Stories.{is_blorb, most_bytes, story_in, unpacked}
use Rattle.play.specs.Filling.{without_filling}
use Rattle.play.specs.Reading.{IsPlayed, most_read}

-- what is read up to a limit, where nothing was read before, is the beginning of the reader's bytes
pub start_read : {R : Type 0} (n : ℕ) (remaining : R → Option (List ℕ)) (t : Take R) (file : R) (old new : List ℕ)
    → t.limit ≡ n → t.inner ≡ file → old ≡ [] → IfSome (take_remaining remaining t) (λ xs. new ≡ old ++ xs)
    → IfSome (remaining file) (λ bytes. new ≡ take n bytes)
start_read {R} n remaining t file old new limit inner empty read =
    go (remaining file)
    (subst (λ (f : R). IfSome (option_map (take t.limit) (remaining f)) (λ xs. new ≡ old ++ xs)) inner read)
  where
    go : (o : Option (List ℕ)) → IfSome (option_map (take t.limit) o) (λ xs. new ≡ old ++ xs)
        → IfSome o (λ bytes. new ≡ take n bytes)
    go None h = tt
    go (Some bytes) h = h ∙ ap (λ (l : List ℕ). l ++ take t.limit bytes) empty ∙ ap (λ k. take k bytes) limit

packed : (bytes : List ℕ) → is_blorb bytes ≡ true → unpacked bytes ≡ story_in bytes
packed bytes h = rw h refl

plain : (bytes : List ℕ) → is_blorb bytes ≡ false → unpacked bytes ≡ Ok bytes
plain bytes h = rw h refl

plain_cut : (n : ℕ) (bytes : List ℕ) (played : Result (Vec ℕ) BlorbFault) → most_read ≤ n
    → IsPlayed (Ok (take n bytes)) played → IsPlayed (Ok bytes) played
plain_cut n bytes (Ok story) h p = p ∙ ap without_filling (take-take most_read n bytes h)
plain_cut n bytes (Err fault) h p = p

pub played_cut : (n : ℕ) (bytes : List ℕ) (played : Result (Vec ℕ) BlorbFault) → most_bytes ≤ n
    → IsPlayed (unpacked (take n bytes)) played → IsPlayed (unpacked bytes) played
played_cut n bytes played h p =
    elim (cases_Bool (is_blorb bytes)) [
      | inl is ↦
          let cut : is_blorb (take n bytes) ≡ true = is_blorb_cut n bytes (omega arith) ∙ is in
          let same : unpacked (take n bytes) ≡ unpacked bytes =
          packed (take n bytes) cut ∙ story_in_cut n bytes h ∙ sym (packed bytes is) in
          subst (λ (u : Result (List ℕ) BlorbFault). IsPlayed u played) same p
      | inr other ↦
          let cut : is_blorb (take n bytes) ≡ false = is_blorb_cut n bytes (omega arith) ∙ other in
          let all : IsPlayed (Ok (take n bytes)) played =
          subst (λ (u : Result (List ℕ) BlorbFault). IsPlayed u played) (plain (take n bytes) cut) p in
          subst (λ (u : Result (List ℕ) BlorbFault). IsPlayed u played) (sym (plain bytes other))
          (plain_cut n bytes played (omega arith) all)
    ]

-- the same of what is known of a reader's bytes
pub read_is_played : (o : Option (List ℕ)) (n : ℕ) (read : List ℕ) (played : Result (Vec ℕ) BlorbFault) → most_bytes ≤ n
    → IfSome o (λ bytes. read ≡ take n bytes) → IsPlayed (unpacked read) played
    → IfSome o (λ bytes. IsPlayed (unpacked bytes) played)
read_is_played None n read played h e p = tt
read_is_played (Some bytes) n read played h e p =
    played_cut n bytes played h (subst (λ (l : List ℕ). IsPlayed (unpacked l) played) e p)

pub result_is_played : {E : Type 0} (r : Result (Result (Vec ℕ) BlorbFault) E) (o : Option (List ℕ)) (n : ℕ)
    (read : List ℕ) → most_bytes ≤ n → IfSome o (λ bytes. read ≡ take n bytes) → IfOk r (IsPlayed (unpacked read))
    → IfOk r (λ played. IfSome o (λ bytes. IsPlayed (unpacked bytes) played))
result_is_played (Ok played) o n read h e p = read_is_played o n read played h e p
result_is_played (Err error) o n read h e p = tt
