-- From version 4 on a word is looked up as by the Standard's machine of versions 5 and 8.
use Rattle.std.proofs.Common.{◌≡◌, ◌==◌, ℕ, zero, suc, ◌+◌, List, ◌++◌, true, false, cond, nat_le, refl, sym, ap, ◌∙◌, arith, drop}
use Rattle.std.proofs.Common.{take}
use Rattle.std.specs.Prelude.{replicate}
use Rattle.std.proofs.lemmas.Bool.Decides.{nat_tests}
use Rattle.byteorder.specs.Endian.{big_number}
use Rattle.ztext.specs.Words.{packed}
use Rattle.zcore.specs.Dictionary as profile
use Rattle.zcore.specs.Dictionary.{number_of_key}
use Rattle.zcore.specs.Header.{key_at, entry_length_of, first_entry}
use Rattle.zcore_standard.specs.Texts.{alphabets_of, spelled_by}
use Rattle.zcore_standard.specs.Words.{form_of, entry_with_form}
use Rattle.zcore_versions.specs.Keys.{entry_in, entry_of, entry_for, form_in, is_dictionary}
use Rattle.zcore_versions.specs.Versions.{Story, is_small, locks_alphabets}

entry_in_same : (memory : List ℕ) (at bytes count key : ℕ)
    → entry_in 6 memory at bytes count key ≡ profile.entry_in memory at bytes count key
unfolding key_at
entry_in_same memory at bytes zero key = refl
entry_in_same memory at bytes (suc count) key =
    ap (λ n. cond (big_number 6 (drop at memory) == key) at n) (entry_in_same memory (at + bytes) bytes count key)

entry_of_same : (memory : List ℕ) (dictionary key : ℕ)
    → entry_of 6 memory dictionary key ≡ profile.entry_of memory dictionary key
unfolding entry_of profile.entry_of
entry_of_same memory dictionary key =
    ap (λ n. cond (is_dictionary 6 memory dictionary) n 0)
    (entry_in_same memory (first_entry memory dictionary) (entry_length_of memory dictionary)
    (profile.entries_in memory dictionary) key)

large_locks_none : (n : ℕ) → nat_le n 3 ≡ false → nat_le n 2 ≡ false
large_locks_none n e = grind (arith, nat_tests)

pub entry_large : (story : Story) (memory : List ℕ) (dictionary : ℕ) (word : List ℕ) → is_small story.version ≡ false
    → entry_with_form (alphabets_of story.loaded) memory dictionary word ≡ entry_for story memory dictionary word
unfolding entry_for entry_with_form form_in form_of number_of_key
entry_large story memory dictionary word large =
    let none : locks_alphabets story.version ≡ false = large_locks_none story.version.number large in
    sym (rw (large, none) (entry_of_same memory dictionary
    (big_number 6 (packed (take 9 (spelled_by (alphabets_of story.loaded) word ++ replicate 9 5))))))

pub entry_small : (story : Story) (memory key : List ℕ) (dictionary entry : ℕ) (word : List ℕ)
    → is_small story.version ≡ true → key ≡ form_in story word → entry ≡ entry_of 4 memory dictionary (big_number 4 key)
    → entry ≡ entry_for story memory dictionary word
unfolding entry_for
entry_small story memory key dictionary entry word small is e =
    rw small (e ∙ ap (λ k. entry_of 4 memory dictionary (big_number 4 k)) is)
