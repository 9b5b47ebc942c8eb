-- Characters that are added to the text of a turn.
use Rattle.std.proofs.Common.{◌≡◌, ℕ, ◌+◌, ◌-◌, ◌/◌, ◌%◌, ◌<◌, ◌≤◌, true, false, List, [], ◌∷◌, ◌++◌, length, take, drop}
use Rattle.std.proofs.Common.{Option, Some, None, refl, ap, sym, ◌∙◌, subst, arith, append-nil, append_assoc}
use Rattle.std.specs.Prelude.{nat_le}
use Rattle.std.specs.List.{flat_map}
use Rattle.std.proofs.lemmas.Bool.{le-leb, lt-leb, lt-ltb, le-ltb, ne_eqb}
use Rattle.std.proofs.lemmas.Grind.{flat_map-append}
use Rattle.std.proofs.lemmas.List.{drop-append-le, length-append, length-drop, take_all, take-take}
use Rattle.std.proofs.Math.Seq.{take-append_seam}
use Rattle.zcore.specs.Layout.{text_limit}
use Rattle.zcore.specs.State.{State, Out, done, halt, bound, ◌>>=◌}
use Rattle.zcore_standard.specs.Characters.{extra_character, shown_by, print_each, print_codes}
use Rattle.zcore_standard.specs.Unicode.{is_ascii, is_printed, transcript_of, print_whole}
use Rattle.machine_opcodes.specs.Printed.{HasBegun, Grew}
use Rattle.machine_standard_texts.specs.declared.characters.Halt.{Halt}
use Rattle.machine_standard_texts.specs.declared.characters.Halt.TheVariants as halts
use Rattle.machine_standard_texts.specs.Put.{Extends, Prints, PrintsOn}

-- What is after a text

pub extends_still : (start : ℕ) (x : List ℕ) → HasBegun start x → Extends start x x
extends_still start x h = record { longer = omega arith; stays = take_all _ x (omega arith); within = h.within }

pub extends_by : (start : ℕ) (x y more : List ℕ) → length x - start + length more ≤ text_limit → HasBegun start x
    → y ≡ x ++ more → Extends start x y
extends_by start x y more le h e =
    let n : length y ≡ length x + length more = ap length e ∙ length-append x more in
    record {
      longer = omega (arith, n);
      stays = ap (take (length x)) e ∙ take-append_seam x more;
      within = omega (arith, n, h.begun);
    }

pub extends_after : {start : ℕ} {x y z : List ℕ} → Extends start x y → Extends start y z → Extends start x z
extends_after {start} {x} {y} {z} v w = record {
  longer = omega (arith, v.longer, w.longer);
  stays = sym (take-take (length x) (length y) z v.longer) ∙ ap (take (length x)) w.stays ∙ v.stays;
  within = w.within;
}

pub begun_by : {start : ℕ} {x y : List ℕ} → HasBegun start x → Extends start x y → HasBegun start y
begun_by h v = record { begun = omega (arith, h.begun, v.longer); within = v.within }

pub grew_by : {start : ℕ} {x y : List ℕ} → HasBegun start x → Extends start x y → Grew start x y
grew_by {start} {x} {y} h v = record {
  front = sym (take-take start (length x) y h.begun) ∙ ap (take start) v.stays;
  longer = v.longer;
  within = v.within;
}

pub grew_back : (start : ℕ) (was now : List ℕ) → now ≡ was → HasBegun start was → Grew start was now
grew_back start was now e h = record {
  front = ap (take start) e;
  longer = omega (arith, ap length e);
  within = omega (arith, ap length e, h.within);
}

-- The bytes of one character

pub whole_put : (start : ℕ) (x y bytes : List ℕ) → HasBegun start x → length x - start + length bytes ≤ text_limit
    → y ≡ x ++ bytes → Prints None (drop start x) (drop start y) (print_whole bytes)
unfolding print_whole
whole_put start x y bytes h le e =
    let long : length (drop start x) ≡ length x - start = length-drop start x in
    let n : nat_le (length (drop start x) + length bytes) text_limit ≡ true = le-leb _ _ (omega arith) in
    record { by = λ s. rw (n, e, drop-append-le start x bytes h.begun) refl }

pub whole_full : (start : ℕ) (x bytes : List ℕ) → text_limit < length x - start + length bytes
    → Prints (Some halts.Full) (drop start x) (drop start x) (print_whole bytes)
unfolding print_whole
whole_full start x bytes lt =
    let long : length (drop start x) ≡ length x - start = length-drop start x in
    let n : nat_le (length (drop start x) + length bytes) text_limit ≡ false = lt-leb _ _ (omega arith) in
    record { by = λ s. rw n refl }

pub no_memory : (x y : List ℕ) (f : State → Out (Unit {0})) → Prints (Some halts.Memory) x y f
no_memory x y f = record { by = tt }

-- another definition that does the same
pub prints_as : {x y : List ℕ} (h : Option Halt) (f g : State → Out (Unit {0})) → ((s : State) → g s ≡ f s)
    → Prints h x y f → Prints h x y g
prints_as None f g e w = record { by = λ s. e _ ∙ w.by s }
prints_as (Some halts.Full) f g e w = record { by = λ s. e _ ∙ w.by s }
prints_as (Some halts.Memory) f g e w = record { by = tt }

-- one part after another
pub prints_then : {x y z : List ℕ} (h : Option Halt) (f g : State → Out (Unit {0})) → Prints None x y f
    → Prints h y z g → Prints h x z (f >>= λ _. g)
prints_then None f g v w = record { by = λ s. ap (λ o. bound o (λ _. g)) (v.by s) ∙ w.by s }
prints_then (Some halts.Full) f g v w = record { by = λ s. ap (λ o. bound o (λ _. g)) (v.by s) ∙ w.by s }
prints_then (Some halts.Memory) f g v w = record { by = tt }

pub prints_no_further : {x y : List ℕ} (why : Halt) (f g : State → Out (Unit {0})) → Prints (Some why) x y f
    → Prints (Some why) x y (f >>= λ _. g)
prints_no_further halts.Full f g v = record { by = λ s. ap (λ o. bound o (λ _. g)) (v.by s) }
prints_no_further halts.Memory f g v = record { by = tt }

-- Characters one after another

bound_done : (o : Out (Unit {0})) → bound o (λ _. done tt) ≡ o
bound_done (done a s) = refl
bound_done (halt place s) = refl

pub each_one : (bytes : List ℕ) (s : State) → print_each (bytes ∷ []) s ≡ print_whole bytes s
unfolding print_each
each_one bytes s = bound_done (print_whole bytes s)

under : (o : Out (Unit {0})) (f g : State → Out (Unit {0})) → ((s : State) → f s ≡ g s)
    → bound o (λ _. f) ≡ bound o (λ _. g)
under (done a s) f g e = e s
under (halt place s) f g e = refl

bound_bound : (o : Out (Unit {0})) (f g : State → Out (Unit {0}))
    → bound o (λ _ s. bound (f s) (λ _. g)) ≡ bound (bound o (λ _. f)) (λ _. g)
bound_bound (done a s) f g = refl
bound_bound (halt place s) f g = refl

each_append : (cs ds : List (List ℕ)) (s : State)
    → print_each (cs ++ ds) s ≡ (print_each cs >>= λ _. print_each ds) s
unfolding print_each
each_append [] ds s = refl
each_append (c ∷ cs) ds s =
    under (print_whole c s) (print_each (cs ++ ds)) (λ t. bound (print_each cs t) (λ _. print_each ds))
    (λ t. each_append cs ds t)
    ∙ bound_bound (print_whole c s) (print_each cs) (print_each ds)

pub codes_append : (characters a b : List ℕ) (s : State)
    → print_codes characters (a ++ b) s ≡ (print_codes characters a >>= λ _. print_codes characters b) s
codes_append characters a b s =
    ap (λ l. print_each l s) (flat_map-append (shown_by characters) a b)
    ∙ each_append (flat_map (shown_by characters) a) (flat_map (shown_by characters) b) s

-- What one code prints

shown_put : {x y : List ℕ} (h : Option Halt) (characters : List ℕ) (code : ℕ) (cs : List (List ℕ))
    → shown_by characters code ≡ cs → Prints h x y (print_each cs) → Prints h x y (print_codes characters (code ∷ []))
shown_put h characters code cs e w = prints_as h (print_each cs) (print_codes characters (code ∷ []))
    (λ s. ap (λ l. print_each (l ++ []) s) e ∙ ap (λ l. print_each l s) (append-nil cs)) w

one_put : {x y : List ℕ} (h : Option Halt) (characters : List ℕ) (code : ℕ) (bytes : List ℕ)
    → shown_by characters code ≡ bytes ∷ [] → Prints h x y (print_whole bytes)
    → Prints h x y (print_codes characters (code ∷ []))
one_put h characters code bytes e w = shown_put h characters code (bytes ∷ []) e
    (prints_as h (print_whole bytes) (print_each (bytes ∷ [])) (each_one bytes) w)

pub ascii_put : {x y : List ℕ} (h : Option Halt) (characters : List ℕ) (code : ℕ) → is_ascii code ≡ true
    → 32 ≤ code → Prints h x y (print_whole (code ∷ [])) → Prints h x y (print_codes characters (code ∷ []))
ascii_put h characters code e le w = one_put h characters code (code ∷ [])
    (rw (
      ne_eqb code 0 (λ q. omega arith),
      ne_eqb code 9 (λ q. omega arith),
      ne_eqb code 11 (λ q. omega arith),
      ne_eqb code 13 (λ q. omega arith),
      e,
    ) refl) w

pub nothing_put : (characters x : List ℕ) (code : ℕ) → code ≡ 0
    → Prints None x x (print_codes characters (code ∷ []))
unfolding print_each
nothing_put characters x code e = shown_put None characters code [] (rw e refl) (record { by = λ s. refl })

pub tab_put : {x y : List ℕ} (h : Option Halt) (characters : List ℕ) (code : ℕ) → code ≡ 9
    → Prints h x y (print_whole (32 ∷ [])) → Prints h x y (print_codes characters (code ∷ []))
tab_put h characters code e w = one_put h characters code (32 ∷ []) (rw e refl) w

pub line_put : {x y : List ℕ} (h : Option Halt) (characters : List ℕ) (code : ℕ) → code ≡ 13
    → Prints h x y (print_whole (10 ∷ [])) → Prints h x y (print_codes characters (code ∷ []))
line_put h characters code e w = one_put h characters code (10 ∷ []) (rw e refl) w

pub extra_put : {x y : List ℕ} (h : Option Halt) (characters : List ℕ) (code extra : ℕ) → is_ascii code ≡ false
    → (code ≡ 0 → ⊥) → (code ≡ 9 → ⊥) → (code ≡ 11 → ⊥) → (code ≡ 13 → ⊥)
    → extra ≡ extra_character characters code
    → Prints h x y (print_whole (transcript_of extra)) → Prints h x y (print_codes characters (code ∷ []))
extra_put {x} {y} h characters code extra e zero tab space line is w = one_put h characters code
    (transcript_of (extra_character characters code))
    (rw (ne_eqb code 0 zero, ne_eqb code 9 tab, ne_eqb code 11 space, ne_eqb code 13 line, e) refl)
    (subst (λ k. Prints h x y (print_whole (transcript_of k))) is w)

pub two_put : {x y z : List ℕ} (h : Option Halt) → Prints None x y (print_whole (32 ∷ []))
    → Prints h y z (print_whole (32 ∷ [])) → Prints h x z (print_each ((32 ∷ []) ∷ (32 ∷ []) ∷ []))
unfolding print_each
two_put h v w = prints_then h (print_whole (32 ∷ [])) (print_each ((32 ∷ []) ∷ [])) v
    (prints_as h (print_whole (32 ∷ [])) (print_each ((32 ∷ []) ∷ [])) (each_one (32 ∷ [])) w)

pub first_halted : {x y : List ℕ} (why : Halt) → Prints (Some why) x y (print_whole (32 ∷ []))
    → Prints (Some why) x y (print_each ((32 ∷ []) ∷ (32 ∷ []) ∷ []))
unfolding print_each
first_halted why v = prints_no_further why (print_whole (32 ∷ [])) (print_each ((32 ∷ []) ∷ [])) v

-- the bytes of a Unicode character

pub one_is : (code : ℕ) → is_printed code ≡ true → code < 128 → code ∷ [] ≡ transcript_of code
one_is code e lt = rw (e, lt-ltb code 128 lt) refl

pub two_are : (code : ℕ) → is_printed code ≡ true → 128 ≤ code → code < 2048
    → (192 + code / 64) ∷ (128 + code % 64) ∷ [] ≡ transcript_of code
two_are code e le lt = rw (e, le-ltb code 128 le, lt-ltb code 2048 lt) refl

-- Codes after codes

pub on_none : (characters : List ℕ) (h : Option Halt) (x : List ℕ) → PrintsOn characters h h x x []
on_none characters h x = record {
  on = λ first printed w. subst (λ l. Prints h first x (print_codes characters l)) (sym (append-nil printed)) w;
}

pub on_then : {characters x y z : List ℕ} {a b c : Option Halt} (cs ds : List ℕ)
    → PrintsOn characters a b x y cs → PrintsOn characters b c y z ds → PrintsOn characters a c x z (cs ++ ds)
on_then {characters} {x} {y} {z} {a} {b} {c} cs ds v w = record {
  on = λ first printed p. subst (λ l. Prints c first z (print_codes characters l)) (append_assoc printed cs ds)
      (w.on first (printed ++ cs) (v.on first printed p));
}

pub on_code : (characters x y : List ℕ) (h : Option Halt) (code : ℕ)
    → Prints h x y (print_codes characters (code ∷ [])) → PrintsOn characters None h x y (code ∷ [])
on_code characters x y h code w = record {
  on = λ first printed p. prints_as h _ (print_codes characters (printed ++ code ∷ []))
      (codes_append characters printed (code ∷ []))
      (prints_then h (print_codes characters printed) (print_codes characters (code ∷ [])) p w);
}

pub on_halted : (characters x : List ℕ) (why : Halt) (codes : List ℕ)
    → PrintsOn characters (Some why) (Some why) x x codes
on_halted characters x why codes = record {
  on = λ first printed p. prints_as (Some why) _ (print_codes characters (printed ++ codes))
      (codes_append characters printed codes)
      (prints_no_further why (print_codes characters printed) (print_codes characters codes) p);
}

-- from nothing on
pub on_begun : {characters x y codes : List ℕ} (h : Option Halt) → PrintsOn characters None h x y codes
    → Prints h x y (print_codes characters codes)
unfolding print_each
on_begun {x = x} h w = w.on x [] (record { by = λ s. refl })
