-- Bytes that are replaced in place, one after another.
use Rattle.std.proofs.Common.{◌≡◌, ℕ, ◌+◌, ◌-◌, ◌<◌, List, [], ◌∷◌, ◌++◌, length, take, drop}
use Rattle.std.proofs.Common.{ap, sym, ◌∙◌, append_assoc, append-nil, arith, add-one, slice_index, suc, drop-cons}
use Rattle.std.specs.Prelude.{map, slice_set}
use Rattle.std.proofs.Math.Seq.{get_or-append_seam, set-append_seam, take-append_seam, drop-append_seam}
use Rattle.std.proofs.lemmas.List.{take_more, take_all, drop_all, length-append, length-map, map-append, length-take-le}
use Rattle.zcore_versions.specs.StatusLine.{joined, on_one_line}

pub joined_more : (old now : List ℕ) (i b : ℕ) → i < length old → now ≡ on_one_line (take i old) ++ drop i old
    → b ≡ joined (slice_index now i)
    → slice_set now i b ≡ on_one_line (take (i + 1) old) ++ drop (i + 1) old
joined_more old now i b lt is e =
    let x = slice_index old i in
    let front = map joined (take i old) in
    let rest = drop (suc i) old in
    let n : i ≡ length front = sym (length-map (take i old) joined ∙ length-take-le i old (omega (arith, lt))) in
    let seam : now ≡ front ++ x ∷ rest = is ∙ ap (λ l. front ++ l) (drop-cons old i 0 lt) in
    let read : slice_index now i ≡ x = ap (λ l. slice_index l i) seam
    ∙ ap (λ k. slice_index (front ++ x ∷ rest) k) n ∙ get_or-append_seam front x rest 0 in
    let wrote : slice_set now i b ≡ front ++ b ∷ rest = ap (λ l. slice_set l i b) seam
    ∙ ap (λ k. slice_set (front ++ x ∷ rest) k b) n ∙ set-append_seam front x rest b in
    let byte : b ≡ joined x = e ∙ ap joined read in
    let grown : map joined (take (i + 1) old) ≡ front ++ joined x ∷ [] = ap (map joined) (take_more old i 0 lt)
    ∙ map-append joined (take i old) (x ∷ []) in
    wrote ∙ ap (λ k. front ++ k ∷ rest) byte
    ∙ sym (ap (λ l. l ++ drop (i + 1) old) grown ∙ append_assoc front (joined x ∷ []) (drop (i + 1) old)
    ∙ ap (λ k. front ++ joined x ∷ drop k old) (add-one i))

-- the end of a text, whose lines were joined
pub joined_end : (old d cs row : List ℕ) (end count : ℕ) → d ≡ old ++ cs → end ≡ length old → count ≡ length d - end
    → row ≡ on_one_line (take count (drop end d)) → take end d ++ (row ++ drop count (drop end d)) ≡ old ++ on_one_line cs
joined_end old d cs row end count e n m is =
    let a : take end d ≡ old = ap (take end) e ∙ ap (λ k. take k (old ++ cs)) n ∙ take-append_seam old cs in
    let b : drop end d ≡ cs = ap (drop end) e ∙ ap (λ k. drop k (old ++ cs)) n ∙ drop-append_seam old cs in
    let l : count ≡ length cs = omega (arith, ap length e, length-append old cs, n, m) in
    let t : take count (drop end d) ≡ cs = ap (take count) b ∙ take_all count cs (omega (arith, l)) in
    let r : drop count (drop end d) ≡ [] = ap (drop count) b ∙ drop_all count cs (omega (arith, l)) in
    ap (λ front. front ++ (row ++ drop count (drop end d))) a ∙ ap (λ rest. old ++ (row ++ rest)) r
    ∙ ap (λ more. old ++ more) (append-nil row ∙ is ∙ ap on_one_line t)
