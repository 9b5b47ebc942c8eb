-- A dictionary behind dynamic memory stays as it is.
use Rattle.std.proofs.Common.{◌≡◌, ℕ, ◌+◌, ◌≤◌, length, drop, ap, sym, ◌∙◌, arith}
use Rattle.std.proofs.lemmas.List.{drop_at, length-drop, length-append}
use Rattle.zcore.specs.Header.{static_base_of, HasDictionaryHead, IsDictionary}
use Rattle.zcore.proofs.Searching.{dictionary_same, head_same}
use Rattle.machine_frames.specs.Contents.{Contents, memory_of}
use Rattle.machine_frames.specs.States.{IsSound}

-- what lies from static base on is the fixed part of a store
fixed_behind : (s : Contents) → IsSound s → drop (static_base_of (memory_of s)) (memory_of s) ≡ s.fixed
fixed_behind s sound = drop_at (drop 72559 s.cells) s.fixed (static_base_of (memory_of s))
    (omega (arith, length-drop 72559 s.cells, sound.size))

length_all : (s : Contents) → IsSound s → length (memory_of s) ≡ static_base_of (memory_of s) + length s.fixed
length_all s sound = omega
    (arith, length-append (drop 72559 s.cells) s.fixed, length-drop 72559 s.cells, sound.size)

-- what comes before the entries of a dictionary in the fixed part of one store does so in that of another
pub head_kept : (s t : Contents) (at : ℕ) → IsSound s → IsSound t → t.fixed ≡ s.fixed
    → static_base_of (memory_of t) ≡ static_base_of (memory_of s) → static_base_of (memory_of s) ≤ at
    → HasDictionaryHead (memory_of s) at → HasDictionaryHead (memory_of t) at
head_kept s t at sound kept fixed base behind head =
    let m = memory_of s in
    let n = memory_of t in
    let same : drop (static_base_of m) n ≡ drop (static_base_of m) m =
    ap (λ b. drop b n) (sym base) ∙ fixed_behind t kept ∙ fixed ∙ sym (fixed_behind s sound) in
    let long : length n ≡ length m = omega
    (arith, length_all t kept, length_all s sound, base, ap length fixed) in
    head_same m n (static_base_of m) same at behind long head

-- and a dictionary that lies in the fixed part of the one lies in that of the other
pub dictionary_kept : (s t : Contents) (at : ℕ) → IsSound s → IsSound t → t.fixed ≡ s.fixed
    → static_base_of (memory_of t) ≡ static_base_of (memory_of s) → static_base_of (memory_of s) ≤ at
    → IsDictionary (memory_of s) at → IsDictionary (memory_of t) at
dictionary_kept s t at sound kept fixed base behind d =
    let m = memory_of s in
    let n = memory_of t in
    let same : drop (static_base_of m) n ≡ drop (static_base_of m) m =
    ap (λ b. drop b n) (sym base) ∙ fixed_behind t kept ∙ fixed ∙ sym (fixed_behind s sound) in
    let long : length n ≡ length m = omega
    (arith, length_all t kept, length_all s sound, base, ap length fixed) in
    dictionary_same m n (static_base_of m) same at behind long d
