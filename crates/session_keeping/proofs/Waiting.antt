-- What is left of a reader's bytes while some of them wait.
use Rattle.std.proofs.Common.{◌≡◌, ◌+◌, ◌++◌, ◌∙◌, ℕ, List, [], Option, Some, None, length, take, drop, ap, sym}
use Rattle.std.proofs.Common.{arith, drop_of_length-le}
use Rattle.std.proofs.lemmas.List.{append_assoc, drop-drop, take-append-drop}
use Rattle.std.specs.Io.KnownBytes.{Consumes, IsAtEnd, Keeps}
use Rattle.session_keeping.specs.Waiting.{left_of}

-- bytes that were read wait, where none waited
pub read_waits : (given : ℕ) (before : List ℕ) (old new : Option (List ℕ)) (read : List ℕ) → drop given before ≡ []
    → Consumes old new read → Keeps (left_of given before old) (left_of 0 read new)
read_waits given before None new read none consumed = tt
read_waits given before (Some xs) None read none consumed = absurd consumed
read_waits given before (Some xs) (Some ys) read none consumed = sym consumed ∙ sym (ap (λ l. l ++ xs) none)

-- bytes that wait are given on
pub given_on : (given n : ℕ) (read : List ℕ) (reader : Option (List ℕ))
    → Consumes (left_of given read reader) (left_of (given + n) read reader) (take n (drop given read))
given_on given n read None = tt
given_on given n read (Some xs) =
    ap (λ l. l ++ xs) (sym (take-append-drop n (drop given read)))
    ∙ append_assoc (take n (drop given read)) (drop n (drop given read)) xs
    ∙ ap (λ l. take n (drop given read) ++ (l ++ xs)) (drop-drop n given read)

-- what is given on after nothing was lost
pub kept_and_given : (old new last : Option (List ℕ)) (bs : List ℕ) → Keeps old new → Consumes new last bs
    → Consumes old last bs
kept_and_given None new last bs kept consumed = tt
kept_and_given (Some xs) None last bs kept consumed = absurd kept
kept_and_given (Some xs) (Some ys) None bs kept consumed = absurd consumed
kept_and_given (Some xs) (Some ys) (Some zs) bs kept consumed = sym kept ∙ consumed

-- nothing is left where nothing waits and the reader is at its end
pub none_left : (given n : ℕ) (read : List ℕ) (reader : Option (List ℕ)) → length (drop given read) ≡ 0
    → IsAtEnd reader → IsAtEnd (left_of (given + n) read reader)
none_left given n read None none ended = tt
none_left given n read (Some xs) none ended =
    ap (λ l. l ++ xs) (sym (drop-drop n given read) ∙ drop_of_length-le (drop given read) {i = n} (omega (arith, none)))
    ∙ ended
