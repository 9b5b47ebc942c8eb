-- What a swap of one page does to a swap of all pages, whose entries stand as in PageEntries.
use Rattle.std.proofs.Common.{◌≡◌, ℕ, ◌+◌, ◌-◌, ◌*◌, List, [], ◌∷◌, ◌++◌, length, get_or}
use Rattle.std.proofs.Common.{take, drop, refl, ap, sym, ◌∙◌, arith, append_assoc}
use Rattle.std.specs.List.{range_with_len, zip}
use Rattle.std.proofs.lemmas.List.{take-append-drop, take_at, drop_at, drop-drop}
use Rattle.std.proofs.lemmas.List.{length-append, length-take-le, length-drop, take-take, drop-take}
use Rattle.std.proofs.lemmas.List.FromFn.{length-range_with_len}
use Rattle.std.proofs.lemmas.Slice.Zip.{length-zip}
use Rattle.journal.specs.Swap.{back, forward, Fits}
use Rattle.journal.specs.Pages.{page_entries}
use Rattle.journal.proofs.PageEntries.{HasPage, fits_row, length-put_row, length-row, page_part, put_row}
use Rattle.journal.proofs.Pages.{back-append}
use Rattle.journal.proofs.Steps.{GoneBack, GoneForward, length-entries}

-- swaps of entries one behind the other

back-append_entries : (c : List ℕ) (xs ys : List (ℕ × ℕ))
    → (back c (xs ++ ys)).entries ≡ (back (back c ys).cells xs).entries ++ (back c ys).entries
back-append_entries c [] ys = refl
back-append_entries c (x ∷ xs) ys =
    let value : List ℕ → ℕ × ℕ = λ z. (x.0, get_or z x.0 0) in
    ap (λ (z : List ℕ). value z ∷ (back c (xs ++ ys)).entries) (back-append c xs ys)
    ∙ ap (λ (z : List (ℕ × ℕ)). value (back (back c ys).cells xs).cells ∷ z) (back-append_entries c xs ys)

forward-append : (c : List ℕ) (xs ys : List (ℕ × ℕ))
    → (forward c (xs ++ ys)).cells ≡ (forward (forward c xs).cells ys).cells
forward-append c [] ys = refl
forward-append c (x ∷ xs) ys = forward-append _ xs ys

forward-append_entries : (c : List ℕ) (xs ys : List (ℕ × ℕ))
    → (forward c (xs ++ ys)).entries ≡ (forward c xs).entries ++ (forward (forward c xs).cells ys).entries
forward-append_entries c [] ys = refl
forward-append_entries c (x ∷ xs) ys = ap (λ (z : List (ℕ × ℕ)). (x.0, get_or c x.0 0) ∷ z)
    (forward-append_entries _ xs ys)

-- swaps of one page

take_part : (n m : ℕ) (xs : List (ℕ × ℕ)) → take (n + m) xs ≡ take n xs ++ take m (drop n xs)
take_part n m xs = sym (take-append-drop n (take (n + m) xs))
    ∙ ap (λ (t : List (ℕ × ℕ)). t ++ drop n (take (n + m) xs)) (take-take n (n + m) xs (omega arith))
    ∙ ap (λ (t : List (ℕ × ℕ)). take n xs ++ t) (drop-take n m xs)

-- the page's entries go back before those in front of them
pub page_gone_back : (n : ℕ) (b : ℕ → ℕ) (cs was c : List ℕ) (k start size p : ℕ) (x vs y row : List ℕ)
    → GoneBack n b cs was c k x vs → length was ≡ length cs → k ≡ start + size → HasPage cs vs p start size
    → length row ≡ length (take size (drop start vs))
    → y ≡ (back x (page_entries p (take size (drop start vs)))).cells
    → page_entries p row ≡ (back x (page_entries p (take size (drop start vs)))).entries
    → Fits n b (page_entries p row)
    → GoneBack n b cs was c start y (take start vs ++ (row ++ drop size (drop start vs)))
page_gone_back n b cs was c k start size p x vs y row g long end h same cells entries fits =
    let es : List (ℕ × ℕ) = zip cs was in
    let ys : List (ℕ × ℕ) = zip cs vs in
    let rest : List (ℕ × ℕ) = drop size (drop start es) in
    let ps : List (ℕ × ℕ) = take size (drop start es) in
    let behind : drop k es ≡ rest = ap (λ (t : ℕ). drop t es) end ∙ sym (drop-drop size start es) in
    let first : take k es ≡ take start es ++ ps = ap (λ (t : ℕ). take t es) end ∙ take_part start size es in
    let is : ys ≡ take start es ++ (ps ++ (back c rest).entries) = g.left
    ∙ ap (λ (t : List (ℕ × ℕ)). t ++ (back c (drop k es)).entries) first
    ∙ ap (λ (t : List (ℕ × ℕ)). (take start es ++ ps) ++ (back c t).entries) behind
    ∙ append_assoc (take start es) ps (back c rest).entries in
    let long_es : length es ≡ length cs = length-entries cs was long ∙ long in
    let long_start : length (take start es) ≡ start = length-take-le start es (omega (arith, long_es, h.within)) in
    let long_ps : length ps ≡ size = length-take-le size (drop start es)
    (omega (arith, length-drop start es, long_es, h.within)) in
    let from : drop start ys ≡ ps ++ (back c rest).entries = ap (λ (t : List (ℕ × ℕ)). drop start t) is
    ∙ drop_at (take start es) (ps ++ (back c rest).entries) start long_start in
    let page : page_entries p (take size (drop start vs)) ≡ ps = page_part cs vs p start size h
    ∙ ap (λ (t : List (ℕ × ℕ)). take size t) from ∙ take_at ps (back c rest).entries size long_ps in
    let now : x ≡ (back c rest).cells = g.now ∙ ap (λ (t : List (ℕ × ℕ)). (back c t).cells) behind in
    let split : drop start es ≡ ps ++ rest = sym (take-append-drop size (drop start es)) in
    let row_is : page_entries p row ≡ (back (back c rest).cells ps).entries = entries
    ∙ ap (λ (t : List (ℕ × ℕ)). (back x t).entries) page ∙ ap (λ (t : List ℕ). (back t ps).entries) now in
    record {
      now = cells ∙ ap (λ (t : List (ℕ × ℕ)). (back x t).cells) page ∙ ap (λ (t : List ℕ). (back t ps).cells) now
          ∙ sym (back-append c ps rest) ∙ sym (ap (λ (t : List (ℕ × ℕ)). (back c t).cells) split);
      left = put_row cs vs row p start size h same
          ∙ ap (λ (t : List (ℕ × ℕ)). t ++ (page_entries p row ++ drop size (drop start ys)))
          (ap (λ (t : List (ℕ × ℕ)). take start t) is
          ∙ take_at (take start es) (ps ++ (back c rest).entries) start long_start)
          ∙ ap (λ (t : List (ℕ × ℕ)). take start es ++ (t ++ drop size (drop start ys))) row_is
          ∙ ap (λ (t : List (ℕ × ℕ)). take start es ++ ((back (back c rest).cells ps).entries ++ t))
          (ap (λ (t : List (ℕ × ℕ)). drop size t) from ∙ drop_at ps (back c rest).entries size long_ps)
          ∙ ap (λ (t : List (ℕ × ℕ)). take start es ++ t) (sym (back-append_entries c ps rest))
          ∙ sym (ap (λ (t : List (ℕ × ℕ)). take start es ++ (back c t).entries) split);
      size = length-put_row cs vs row p start size h same;
      fits = fits_row n b cs vs row p start size h same g.fits fits;
    }

-- the page's entries go forward after those in front of them
pub page_gone_forward : (n : ℕ) (b : ℕ → ℕ) (cs was c : List ℕ) (start k size p : ℕ) (x vs y row : List ℕ)
    → GoneForward n b cs was c start x vs → length was ≡ length cs → k ≡ start + size → HasPage cs vs p start size
    → length row ≡ length (take size (drop start vs))
    → y ≡ (forward x (page_entries p (take size (drop start vs)))).cells
    → page_entries p row ≡ (forward x (page_entries p (take size (drop start vs)))).entries
    → Fits n b (page_entries p row)
    → GoneForward n b cs was c k y (take start vs ++ (row ++ drop size (drop start vs)))
page_gone_forward n b cs was c start k size p x vs y row g long end h same cells entries fits =
    let es : List (ℕ × ℕ) = zip cs was in
    let ys : List (ℕ × ℕ) = zip cs vs in
    let zs : List (ℕ × ℕ) = zip cs (take start vs ++ (row ++ drop size (drop start vs))) in
    let rest : List (ℕ × ℕ) = drop size (drop start es) in
    let ps : List (ℕ × ℕ) = take size (drop start es) in
    let rs : List (ℕ × ℕ) = page_entries p row in
    let behind : drop k es ≡ rest = ap (λ (t : ℕ). drop t es) end ∙ sym (drop-drop size start es) in
    let same_rest : drop size (drop start ys) ≡ rest = ap (λ (t : List (ℕ × ℕ)). drop size t) g.left in
    let page : page_entries p (take size (drop start vs)) ≡ ps = page_part cs vs p start size h
    ∙ ap (λ (t : List (ℕ × ℕ)). take size t) g.left in
    let split : drop start es ≡ ps ++ rest = sym (take-append-drop size (drop start es)) in
    let y_is : y ≡ (forward x ps).cells = cells ∙ ap (λ (t : List (ℕ × ℕ)). (forward x t).cells) page in
    let row_is : rs ≡ (forward x ps).entries = entries ∙ ap (λ (t : List (ℕ × ℕ)). (forward x t).entries) page in
    let long_ys : length ys ≡ length cs = length-entries cs vs h.long ∙ h.long in
    let long_row : length row ≡ size = same ∙ length-row cs vs p start size h in
    let cells_long : length (range_with_len (p * 64) (length row)) ≡ length row = length-range_with_len (p * 64)
    (length row) in
    let long_rs : length rs ≡ size = omega
    (arith, length-zip (range_with_len (p * 64) (length row)) row, cells_long, long_row) in
    let long_ys_first : length (take start ys) ≡ start = length-take-le start ys (omega (arith, long_ys, h.within)) in
    let long_first : length (take start ys ++ rs) ≡ k = omega
    (arith, length-append (take start ys) rs, long_ys_first, long_rs, end) in
    let is : zs ≡ (take start ys ++ rs) ++ rest = put_row cs vs row p start size h same
    ∙ ap (λ (t : List (ℕ × ℕ)). take start ys ++ (rs ++ t)) same_rest ∙ sym (append_assoc (take start ys) rs rest) in
    let first : take k zs ≡ take start ys ++ rs = ap (λ (t : List (ℕ × ℕ)). take k t) is
    ∙ take_at (take start ys ++ rs) rest k long_first in
    let after : (forward x (drop start es)).cells ≡ (forward y rest).cells =
    ap (λ (t : List (ℕ × ℕ)). (forward x t).cells) split ∙ forward-append x ps rest
    ∙ ap (λ (t : List ℕ). (forward t rest).cells) (sym y_is) in
    let after_entries : (forward x (drop start es)).entries ≡ rs ++ (forward y rest).entries =
    ap (λ (t : List (ℕ × ℕ)). (forward x t).entries) split ∙ forward-append_entries x ps rest
    ∙ ap (λ (t : List ℕ). (forward x ps).entries ++ (forward t rest).entries) (sym y_is)
    ∙ ap (λ (t : List (ℕ × ℕ)). t ++ (forward y rest).entries) (sym row_is) in
    record {
      now = ap (λ (t : List (ℕ × ℕ)). (forward y t).cells) behind ∙ sym after ∙ g.now;
      done = ap (λ (t : List (ℕ × ℕ)). take k zs ++ (forward y t).entries) behind
          ∙ ap (λ (t : List (ℕ × ℕ)). t ++ (forward y rest).entries) first
          ∙ append_assoc (take start ys) rs (forward y rest).entries
          ∙ ap (λ (t : List (ℕ × ℕ)). take start ys ++ t) (sym after_entries) ∙ g.done;
      left = ap (λ (t : List (ℕ × ℕ)). drop k t) is ∙ drop_at (take start ys ++ rs) rest k long_first ∙ sym behind;
      size = length-put_row cs vs row p start size h same;
      fits = fits_row n b cs vs row p start size h same g.fits fits;
    }
