-- The upper window in the text of a turn.
use Rattle.std.proofs.Common.{◌≡◌, ◌≢◌, ℕ, ◌+◌, ◌-◌, ◌<◌, ◌≤◌, List, ◌++◌, length, take, drop, replicate, min}
use Rattle.std.proofs.Common.{refl, ap, sym, ◌∙◌, subst, arith, Bool, false, Result, Ok, Err}
use Rattle.std.specs.Prelude.{◌==◌, if◌then◌else◌, is_ok, OnOk}
use Rattle.std.specs.List.{count_by}
use Rattle.std.proofs.lemmas.Bool.{eq-eqb, le-leb, lt-leb, ne_eqb}
use Rattle.std.proofs.lemmas.List.{append_assoc, drop-append-le, drop-take, length-append, length-drop, length-take-le}
use Rattle.std.proofs.lemmas.List.{length-replicate, length-take, take-append-drop, take-take, take_all}
use Rattle.journal.specs.Recording.{Recording}
use Rattle.zcore.specs.declared.next.Next.{Next}
use Rattle.zcore.specs.declared.place.Limit.TheVariants as limits
use Rattle.zcore.specs.declared.place.Place.TheVariants as places
use Rattle.zcore.specs.Layout.{text_limit}
use Rattle.zcore.specs.State.{State, Out, done}
use Rattle.zcore_standard.specs.declared.windows.Upper.{Upper}
use Rattle.zcore_standard.specs.Place.{Here}
use Rattle.zcore_standard.specs.Windows.{row_of, with_cursor, without_spaces, drawn, redraw, put_cursor}
use Rattle.zcore_standard.specs.Windows.{is_new_line, with_new_line, with_upper, show_text}
use Rattle.machine_frames.specs.Contents.{Contents}
use Rattle.machine_frames.specs.States.{state_of, IsSound}
use Rattle.machine_frames.specs.Went.{Told}
use Rattle.machine_frames.specs.declared.end.End.TheVariants as ends
use Rattle.machine_frames.proofs.Steps.{goes_on_still, told_halt}
use Rattle.machine_opcodes.specs.Printed.{HasBegun}
use Rattle.machine_standard_windows.specs.TurnState.{place, Keeps}
use Rattle.machine_standard_windows.specs.Drawn.{Redraws, Bounds, Way, Apart, place_at}
use Rattle.machine_standard_windows.specs.declared.turn_state.TurnState.{TurnState}
use Rattle.machine_standard_windows.proofs.TurnTexts.{text_cut, text_behind}
use Rattle.machine_standard_windows.proofs.TextLines.{lines_apart}

-- The text of a turn, of which the end changes

-- so many bytes of a list, and some more
take_more : (m n : ℕ) (xs : List ℕ) → m ≤ length xs → take (m + n) xs ≡ take m xs ++ take n (drop m xs)
take_more m n xs le =
    sym (take-append-drop m (take (m + n) xs))
    ∙ ap (λ l. l ++ drop m (take (m + n) xs)) (take-take m (m + n) xs (omega arith))
    ∙ ap (λ l. take m xs ++ l) (drop-take m n xs)

-- the text of the turn from a place on, and up to it
pub behind_is : (start from begin : ℕ) (x : List ℕ) → start ≤ length x → begin ≡ place_at start from x
    → drop begin x ≡ drop from (drop start x)
behind_is start from begin x begun is =
    ap (λ k. drop k x) is ∙ sym (text_behind start from (min from (length x - start)) x begun refl)

pub front_is : (start from begin : ℕ) (x : List ℕ) → start ≤ length x → begin ≡ place_at start from x
    → drop start (take begin x) ≡ take from (drop start x)
front_is start from begin x begun is =
    ap (λ k. drop start (take k x)) is ∙ text_cut start from (min from (length x - start)) x begun refl

-- what is after that place changes
pub text_changed : (start from begin n : ℕ) (x y z : List ℕ) → start ≤ length x → begin ≡ place_at start from x
    → y ≡ take (begin + n) x ++ z → drop start y ≡ take from (drop start x) ++ (take n (drop begin x) ++ z)
text_changed start from begin n x y z begun is e =
    let within : begin ≤ length x = omega (arith, is, begun) in
    let front : length (take begin x) ≡ begin = length-take-le begin x within in
    let tail : take (begin + n) x ++ z ≡ take begin x ++ (take n (drop begin x) ++ z) =
    ap (λ l. l ++ z) (take_more begin n x within) ∙ append_assoc (take begin x) (take n (drop begin x)) z in
    ap (drop start) (e ∙ tail)
    ∙ drop-append-le start (take begin x) (take n (drop begin x) ++ z) (omega (arith, front, is))
    ∙ ap (λ l. l ++ (take n (drop begin x) ++ z)) (front_is start from begin x begun is)

-- and the text stays which is before the turn's
pub keeps_changed : (start end : ℕ) (x y : List ℕ) → HasBegun start x → start ≤ end → end ≤ length x
    → take end y ≡ take end x → end ≤ length y → length y ≤ start + text_limit → Keeps start x y
keeps_changed start end x y h le within same begun few = record {
  front = sym (take-take start end y le) ∙ ap (take start) same ∙ take-take start end x le;
  begun = omega (arith, le, begun);
  within = few;
}

pub keeps_blanks : (start end more : ℕ) (x t y : List ℕ) → HasBegun start x → start ≤ end → end ≤ length x
    → t ≡ take end x → take (length t) y ≡ t → length y ≤ length t + more → end + more - start ≤ text_limit
    → Keeps start x y
keeps_blanks start end more x t y h after le cut same few room =
    let long : length t ≡ end = ap length cut ∙ length-take-le end x le in
    let front : take end y ≡ take end x = ap (λ n. take n y) (sym long) ∙ same ∙ cut in
    let enough : end ≤ length y = omega (arith, ap length front, length-take end y, length-take-le end x le) in
    keeps_changed start end x y h after le front enough (omega (arith, few, long, room, after))

pub keeps_apart : (start begin end more : ℕ) (x t y : List ℕ) → HasBegun start x → start ≤ begin → begin ≤ end
    → end ≤ length x → t ≡ take end x → take begin y ≡ take begin t → length t ≤ length y
    → length y ≤ length t + more → end + more - start ≤ text_limit → Keeps start x y
keeps_apart start begin end more x t y h first second le cut same longer few room =
    let long : length t ≡ end = ap length cut ∙ length-take-le end x le in
    keeps_changed start begin x y h first (omega (arith, second, le))
    (same ∙ ap (take begin) cut ∙ take-take begin end x second)
    (omega (arith, second, long, longer)) (omega (arith, few, long, room, first, second))

-- parts of a text

pub rest_is : (z x : List ℕ) (n : ℕ) → z ≡ x → take (length z - n) (drop n z) ≡ drop n x
rest_is z x n e =
    take_all (length z - n) (drop n z) (omega (arith, length-drop n z)) ∙ ap (drop n) e

pub part_is : (z x : List ℕ) (begin end n : ℕ) → z ≡ x → end ≡ begin + n
    → take (end - begin) (drop begin z) ≡ take n (drop begin x)
part_is z x begin end n e f =
    let k : end - begin ≡ n = omega (arith, f) in
    ap (λ m. take m (drop begin z)) k ∙ ap (λ l. take n (drop begin l)) e

pub front_part : (z x : List ℕ) (start begin : ℕ) → z ≡ x → start ≤ begin
    → take (begin - start) (drop start z) ≡ drop start (take begin x)
front_part z x start begin e le =
    let k : start + (begin - start) ≡ begin = omega (arith, le) in
    ap (λ l. take (begin - start) (drop start l)) e ∙ sym (drop-take start (begin - start) x)
    ∙ ap (λ m. drop start (take m x)) k

pub bare_in : (z x : List ℕ) (begin n : ℕ) → z ≡ x
    → take n (take (length z - begin) (drop begin z)) ≡ without_spaces (take (length z - begin) (drop begin z))
    → take n (drop begin x) ≡ without_spaces (drop begin x)
bare_in z x begin n e bare =
    let rest = rest_is z x begin e in
    ap (take n) (sym rest) ∙ bare ∙ ap without_spaces rest

-- The cursor

-- its row
pub row_is : (upper : Upper) (text : List ℕ) (start at count : ℕ) → start ≤ length text
    → at ≡ place_at start upper.mark text → count ≡ count_by is_new_line (take (length text - at) (drop at text))
    → upper.row + count ≡ row_of upper (drop start text)
unfolding row_of
row_is upper text start at count begun is e =
    ap (λ n. upper.row + n) (e ∙ ap (count_by is_new_line) (rest_is text text at refl
    ∙ behind_is start upper.mark at text begun is))

-- the text that is drawn, where the cursor goes over newlines and spaces
pub drawn_as : (start begin n lines spaces row column : ℕ) (upper : Upper) (b : Bool) (x y : List ℕ)
    → start ≤ length x → begin ≡ place_at start upper.from x
    → take n (drop begin x) ≡ without_spaces (drop begin x) → b ≡ (row_of upper (drop start x) == row)
    → with_cursor b column (take n (drop begin x))
    ≡ take n (drop begin x) ++ (replicate lines 10 ++ replicate spaces 32)
    → y ≡ take (begin + n) x ++ (replicate lines 10 ++ replicate spaces 32)
    → drop start y ≡ drawn upper row column (drop start x)
unfolding drawn
drawn_as start begin n lines spaces row column upper b x y begun is bare is_in_row way e =
    let behind = behind_is start upper.from begin x begun is in
    text_changed start upper.from begin n x y (replicate lines 10 ++ replicate spaces 32) begun is e
    ∙ ap (λ l. take upper.from (drop start x) ++ l)
    (sym way ∙ ap (λ l. with_cursor b column l) (bare ∙ ap without_spaces behind)
    ∙ ap (λ v. with_cursor v column (without_spaces (drop upper.from (drop start x)))) is_in_row)

pub bounds_are : (start begin end from n : ℕ) (x : List ℕ) → start ≤ length x → begin ≡ place_at start from x
    → end ≡ begin + n
    → take n (take (length x - begin) (drop begin x)) ≡ without_spaces (take (length x - begin) (drop begin x))
    → n ≤ length (take (length x - begin) (drop begin x)) → Bounds start begin end from x
bounds_are start begin end from n x begun at long bare le =
    let size : end - begin ≡ n = omega (arith, long) in
    let inside : n ≤ length x - begin = omega (arith, le, ap length (rest_is x x begin refl), length-drop begin x) in
    record {
      at = at;
      behind = omega (arith, long);
      within = omega (arith, long, inside, at, begun);
      bare = ap (λ k. take k (drop begin x)) size ∙ bare_in x x begin n refl bare;
    }

pub way_of : {start begin end : ℕ} (lines spaces row column now : ℕ) (upper : Upper) (b : Bool) (x : List ℕ)
    → Bounds start begin end upper.from x → b ≡ (now == row) → now ≡ row_of upper (drop start x)
    → with_cursor b column (take (end - begin) (drop begin x))
    ≡ take (end - begin) (drop begin x) ++ (replicate lines 10 ++ replicate spaces 32)
    → Way start (place_at start upper.from x) end lines spaces row column upper x
way_of {start} {begin} {end} lines spaces row column now upper b x bounds is counts way =
    subst (λ k. Way start k end lines spaces row column upper x) bounds.at (record {
      bounds = bounds;
      way = ap (λ c. with_cursor (c == row) column (take (end - begin) (drop begin x))) (sym counts)
          ∙ ap (λ c. with_cursor c column (take (end - begin) (drop begin x))) (sym is) ∙ way;
    })

pub way_in : {start end lines spaces row column : ℕ} {upper : Upper} {z x : List ℕ} → z ≡ x
    → Way start (place_at start upper.from z) end lines spaces row column upper z
    → Way start (place_at start upper.from x) end lines spaces row column upper x
way_in {start} {end} {lines} {spaces} {row} {column} {upper} e w =
    subst (λ l. Way start (place_at start upper.from l) end lines spaces row column upper l) e w

pub bounds_in : {start begin end from : ℕ} {z x : List ℕ} → z ≡ x → Bounds start begin end from z
    → Bounds start begin end from x
bounds_in {start} {begin} {end} {from} e w = subst (λ l. Bounds start begin end from l) e w

pub apart_in : {start begin end before after : ℕ} {z x : List ℕ} → z ≡ x → Apart start begin end before after z
    → Apart start begin end before after x
apart_in {start} {begin} {end} {before} {after} e w = subst (λ l. Apart start begin end before after l) e w

pub way_drawn : {start begin end lines spaces row column : ℕ} {upper : Upper} {x : List ℕ} (y : List ℕ)
    → start ≤ length x → Way start begin end lines spaces row column upper x
    → y ≡ take end x ++ (replicate lines 10 ++ replicate spaces 32)
    → drop start y ≡ drawn upper row column (drop start x)
way_drawn {start} {begin} {end} {lines} {spaces} {row} {column} {upper} {x} y begun w e =
    let size : begin + (end - begin) ≡ end = omega (arith, w.bounds.behind) in
    drawn_as start begin (end - begin) lines spaces row column upper (row_of upper (drop start x) == row) x y begun
    w.bounds.at w.bounds.bare refl w.way
    (e ∙ ap (λ k. take k x ++ (replicate lines 10 ++ replicate spaces 32)) (sym size))

length-way : (end lines spaces : ℕ) (x : List ℕ) → end ≤ length x
    → length (take end x ++ (replicate lines 10 ++ replicate spaces 32)) ≡ end + lines + spaces
length-way end lines spaces x le =
    omega (
      arith,
      length-append {A = ℕ} (take end x) (replicate lines 10 ++ replicate spaces 32),
      length-append {A = ℕ} (replicate lines 10) (replicate spaces 32),
      length-take-le {A = ℕ} end x le,
      length-replicate {A = ℕ} lines 10,
      length-replicate {A = ℕ} spaces 32,
    )

-- how long the turn's text is then
pub way_long : {start begin end lines spaces row column : ℕ} {upper : Upper} {x : List ℕ}
    → start ≤ length x → Way start begin end lines spaces row column upper x
    → length (drawn upper row column (drop start x)) ≡ end + lines + spaces - start
way_long {start} {begin} {end} {lines} {spaces} {row} {column} {upper} {x} begun w =
    let y = take end x ++ (replicate lines 10 ++ replicate spaces 32) in
    omega (
      arith,
      ap length (way_drawn y begun w refl),
      length-drop start y,
      length-way end lines spaces x w.bounds.within,
    )

pub cursor_put : (s : Recording Contents) (start begin end lines spaces row column long : ℕ) (upper : Upper)
    (x y : List ℕ) → IsSound s.store → start ≤ length x → Way start begin end lines spaces row column upper x
    → y ≡ take end x ++ (replicate lines 10 ++ replicate spaces 32) → long ≡ end + lines + spaces - start
    → long ≤ text_limit
    → Told (Ok (record { from = upper.from; mark = long; row = row })) s (drop start x) s (drop start y)
    (put_cursor upper row column)
unfolding put_cursor redraw
cursor_put s start begin end lines spaces row column long upper x y sound begun w e is few =
    let text = way_drawn y begun w e in
    let size : length (drawn upper row column (drop start x)) ≡ long = way_long begun w ∙ sym is in
    let room = le-leb (length (drawn upper row column (drop start x))) text_limit (omega (arith, size, few)) in
    let put : put_cursor upper row column (state_of s.store (drop start x))
    ≡ done (record { from = upper.from; mark = length (drawn upper row column (drop start x)); row = row })
    (state_of s.store (drawn upper row column (drop start x))) = rw room refl in
    record {
      told = (
        goes_on_still s sound,
        put ∙ ap (λ m. done (record { from = upper.from; mark = m; row = row })
            (state_of s.store (drawn upper row column (drop start x)))) size
            ∙ ap (λ l. done (record { from = upper.from; mark = long; row = row }) (state_of s.store l)) (sym text),
      );
    }

pub cursor_limited : (s : Recording Contents) (start begin end lines spaces row column : ℕ) (upper : Upper)
    (x : List ℕ) → IsSound s.store → start ≤ length x → Way start begin end lines spaces row column upper x
    → text_limit < end + lines + spaces - start
    → Told {A = Upper} (Err (ends.Stop (places.Limit limits.Text))) s (drop start x) s (drop start x)
    (put_cursor upper row column)
unfolding put_cursor redraw
cursor_limited s start begin end lines spaces row column upper x sound begun w lt =
    let size = way_long begun w in
    told_halt s (put_cursor upper row column) (drop start x) sound
    (rw (lt-leb (length (drawn upper row column (drop start x))) text_limit (omega (arith, size, lt))) refl)

-- The text that is shown

-- where it is empty
pub shown_none : {start begin end : ℕ} (upper : Upper) (x y : List ℕ) → start ≤ length x
    → Bounds start begin end upper.from x → end ≡ begin → y ≡ take begin x
    → drop start y ≡ with_upper upper (drop start x)
unfolding with_upper
shown_none {start} {begin} {end} upper x y begun w none e =
    let behind = behind_is start upper.from begin x begun w.at in
    let zero : end - begin ≡ 0 = omega (arith, none) in
    let empty : length (without_spaces (drop upper.from (drop start x))) ≡ 0 =
    ap length (sym (ap without_spaces behind) ∙ sym w.bare ∙ ap (λ k. take k (drop begin x)) zero) in
    rw (eq-eqb _ 0 empty) (ap (drop start) e ∙ front_is start upper.from begin x begun w.at)

-- what is shown, by the text before it and its own
shown_is : (upper : Upper) (x front bare : List ℕ) → front ≡ take upper.from x
    → bare ≡ without_spaces (drop upper.from x) → length bare ≢ 0
    → with_upper upper x ≡ with_new_line front ++ with_new_line bare
unfolding with_upper
shown_is upper x front bare a b some =
    let more : (length (without_spaces (drop upper.from x)) == 0) ≡ false =
    ne_eqb _ 0 (λ e. some (ap length b ∙ e)) in
    rw more (lines_apart (take upper.from x) (without_spaces (drop upper.from x))
    ∙ ap (λ l. with_new_line l ++ with_new_line (without_spaces (drop upper.from x))) (sym a)
    ∙ ap (λ l. with_new_line front ++ with_new_line l) (sym b))

pub apart_are : (start begin end before after : ℕ) (x : List ℕ) → start ≤ begin
    → with_new_line (take (begin - start) (drop start x)) ≡ take (begin - start) (drop start x) ++ replicate before 10
    → with_new_line (take (end - begin) (drop begin x)) ≡ take (end - begin) (drop begin x) ++ replicate after 10
    → Apart start begin end before after x
apart_are start begin end before after x le first second =
    let part = front_part x x start begin refl le in
    record {
      first = ap with_new_line (sym part) ∙ first ∙ ap (λ l. l ++ replicate before 10) part;
      second = second;
    }

pub lines_shown : {start begin end before after : ℕ} (upper : Upper) {x : List ℕ} (y : List ℕ) → start ≤ length x
    → begin < end → Bounds start begin end upper.from x → Apart start begin end before after x
    → y ≡ take begin x ++ (replicate before 10 ++ (take (end - begin) (drop begin x) ++ replicate after 10))
    → drop start y ≡ with_upper upper (drop start x)
lines_shown {start} {begin} {end} {before} {after} upper {x} y begun some b w e =
    let ahead = front_is start upper.from begin x begun b.at in
    let behind = behind_is start upper.from begin x begun b.at in
    let long = length-take-le begin x (omega (arith, some, b.within)) in
    let size = length-take-le (end - begin) (drop begin x) (omega (arith, b.within, length-drop begin x)) in
    let bare = take (end - begin) (drop begin x) in
    ap (drop start) e
    ∙ drop-append-le start (take begin x) (replicate before 10 ++ (bare ++ replicate after 10))
    (omega (arith, long, b.at))
    ∙ sym (append_assoc (drop start (take begin x)) (replicate before 10) (bare ++ replicate after 10))
    ∙ ap (λ l. l ++ (bare ++ replicate after 10)) (sym w.first)
    ∙ ap (λ l. with_new_line (drop start (take begin x)) ++ l) (sym w.second)
    ∙ sym (shown_is upper (drop start x) (drop start (take begin x)) bare ahead (b.bare ∙ ap without_spaces behind)
    (λ none. absurd (omega (arith, size, none, some))))

length-lines : (begin end before after : ℕ) (x : List ℕ) → begin < end → end ≤ length x
    → length (take begin x ++ (replicate before 10 ++ (take (end - begin) (drop begin x) ++ replicate after 10)))
    ≡ end + before + after
length-lines begin end before after x lt le =
    omega (
      arith,
      length-append {A = ℕ} (take begin x) (replicate before 10 ++ (take (end - begin) (drop begin x) ++ replicate after 10)),
      length-append {A = ℕ} (replicate before 10) (take (end - begin) (drop begin x) ++ replicate after 10),
      length-append {A = ℕ} (take (end - begin) (drop begin x)) (replicate after 10),
      length-take-le begin x (omega (arith, lt, le)),
      length-take-le (end - begin) (drop begin x) (omega (arith, le, length-drop begin x)),
      length-replicate {A = ℕ} before 10,
      length-replicate {A = ℕ} after 10,
      lt,
    )

pub lines_long : {start begin end before after : ℕ} (upper : Upper) {x : List ℕ} → start ≤ length x
    → begin < end → Bounds start begin end upper.from x → Apart start begin end before after x
    → length (with_upper upper (drop start x)) ≡ end + before + after - start
lines_long {start} {begin} {end} {before} {after} upper {x} begun some b w =
    let y = take begin x ++ (replicate before 10 ++ (take (end - begin) (drop begin x) ++ replicate after 10)) in
    omega (
      arith,
      ap length (lines_shown upper y begun some b w refl),
      length-drop start y,
      length-lines begin end before after x some b.within,
    )

pub text_shown : (s : Recording Contents) (x y : List ℕ) (upper : Upper) → IsSound s.store → y ≡ with_upper upper x
    → length y ≤ text_limit → Told (Ok tt) s x s y (show_text upper)
unfolding show_text redraw
text_shown s x y upper sound e few = record {
  told = (goes_on_still s sound, rw (sym e, le-leb (length y) text_limit few) refl);
}

pub show_limited : (s : Recording Contents) (x : List ℕ) (upper : Upper) → IsSound s.store
    → text_limit < length (with_upper upper x)
    → Told {A = Unit {0}} (Err (ends.Stop (places.Limit limits.Text))) s x s x (show_text upper)
unfolding show_text redraw
show_limited s x upper sound lt =
    told_halt s (show_text upper) x sound (rw (lt-leb (length (with_upper upper x)) text_limit lt) refl)

-- what was cut and was then put in lines of its own
pub apart_is : (begin end before after : ℕ) (x t y : List ℕ) → begin ≤ end → t ≡ take end x
    → y ≡ take begin t ++ (replicate before 10 ++ (drop begin t ++ replicate after 10))
    → y ≡ take begin x ++ (replicate before 10 ++ (take (end - begin) (drop begin x) ++ replicate after 10))
apart_is begin end before after x t y le cut e =
    let size : begin + (end - begin) ≡ end = omega (arith, le) in
    let front : take begin t ≡ take begin x = ap (take begin) cut ∙ take-take begin end x le in
    let back : drop begin t ≡ take (end - begin) (drop begin x) =
    ap (drop begin) cut ∙ ap (λ k. drop begin (take k x)) (sym size) ∙ drop-take begin (end - begin) x in
    e ∙ ap (λ l. l ++ (replicate before 10 ++ (drop begin t ++ replicate after 10))) front
    ∙ ap (λ l. take begin x ++ (replicate before 10 ++ (l ++ replicate after 10))) back

pub set_apart_is : {E : Type 0} (r : Result (Unit {0}) E) (at n m before after : ℕ) (x t y : List ℕ)
    → t ≡ take at x ++ (replicate before 10 ++ drop at x) → m ≡ length t → n ≡ m + after
    → y ≡ (if is_ok r then take n t ++ replicate (n - m) 10 else t)
    → OnOk r (y ≡ take at x ++ (replicate before 10 ++ (drop at x ++ replicate after 10)))
set_apart_is (Ok u) at n m before after x t y e size long items =
    let all : take n t ≡ t = take_all n t (omega (arith, long, size)) in
    let more : n - m ≡ after = omega (arith, long) in
    items ∙ ap (λ l. l ++ replicate (n - m) 10) (all ∙ e)
    ∙ ap (λ k. take at x ++ (replicate before 10 ++ drop at x) ++ replicate k 10) more
    ∙ append_assoc (take at x) (replicate before 10 ++ drop at x) (replicate after 10)
    ∙ ap (λ l. take at x ++ l) (append_assoc (replicate before 10) (drop at x) (replicate after 10))
set_apart_is (Err f) at n m before after x t y e size long items = tt

-- A part that changes the text and the place alone

pub redraws_told : (s : Recording Contents) (start : ℕ) (old new : TurnState) (x y : List ℕ) (f : Here → State → Out Here)
    (next : Next) → IsSound s.store → Redraws start old new x y f
    → Told (Ok (place new next)) s (drop start x) s (drop start y) (f (place old next))
redraws_told s start old new x y f next sound r = record {
  told = (goes_on_still s sound, r next (state_of s.store (drop start x)));
}
