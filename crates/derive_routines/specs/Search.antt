-- Routines that are made for values: `x__string` prints a text by its number, and `x__call` calls a routine by its number.
-- They find a value by halves among calls. No routine has more than 32 of these, so that none is too large (E32).
use Rattle.std.specs.Prelude.{◌+◌, ◌/◌, ◌==◌, ℕ, zero, suc, nat_lt, List, [], ◌∷◌, ◌++◌, length, take, drop, codes}
use Rattle.std.specs.Prelude.{if◌then◌else◌}
use Rattle.std.specs.Fmt.{decimal}

-- a value, and the routine that is called for it with so many arguments, after those that are skipped
pub record Arm : Type 0 where
  pub value : ℕ
  pub routine : List ℕ
  pub skipped : ℕ
  pub count : ℕ

-- what a search makes: the name of its routines, their locals, of which `x__v` is the value, what is done first, and the
-- notice for a value that is none
pub record Search : Type 0 where
  pub routine : List ℕ
  pub locals : List (List ℕ)
  pub first : List ℕ
  pub notice : List ℕ

-- names with a comma before each
abbrev pub after_commas : List (List ℕ) → List ℕ
after_commas [] = []
after_commas (n ∷ ns) = 44 ∷ n ++ after_commas ns

-- names with commas between them
abbrev pub parted : List (List ℕ) → List ℕ
parted [] = []
parted (n ∷ ns) = n ++ after_commas ns

-- names with a space before each
abbrev pub spaced : List (List ℕ) → List ℕ
spaced [] = []
spaced (n ∷ ns) = 32 ∷ n ++ spaced ns

abbrev pub arm_text : List (List ℕ) → Arm → List ℕ
arm_text locals a =
    codes "return " ++ a.routine ++ codes "(" ++ parted (take a.count (drop a.skipped locals)) ++ codes ");"

-- the value with which arms begin
abbrev pub first_value : List Arm → ℕ
first_value [] = 0
first_value (a ∷ arms) = a.value

-- the text of the arm with which they begin
abbrev pub first_arm_text : List (List ℕ) → List Arm → List ℕ
first_arm_text locals [] = []
first_arm_text locals (a ∷ arms) = arm_text locals a

-- a search among arms, in at most so many steps
abbrev pub by_halves : List (List ℕ) → ℕ → List Arm → List ℕ
by_halves locals zero arms = []
by_halves locals (suc steps) [] = []
by_halves locals (suc steps) (a ∷ []) = arm_text locals a
by_halves locals (suc steps) (a ∷ b ∷ arms) =
    let half : ℕ = length (a ∷ b ∷ arms) / 2 in
    codes "if(x__v<" ++ decimal (first_value (drop half (a ∷ b ∷ arms))) ++ codes "){"
    ++ by_halves locals steps (take half (a ∷ b ∷ arms)) ++ codes "}else{"
    ++ by_halves locals steps (drop half (a ∷ b ∷ arms)) ++ codes "}"

abbrev pub most_arms : ℕ
most_arms = 32

-- 32 arms are one after five halvings
abbrev pub most_steps : ℕ
most_steps = 6

-- the header of a routine
abbrev pub header : List ℕ → List (List ℕ) → List ℕ
header name locals = codes "[ " ++ name ++ spaced locals ++ codes ";"

-- ---- groups of 32 arms

abbrev pub group_count : ℕ → ℕ
group_count n = (n + 31) / most_arms

abbrev pub group_name : Search → ℕ → List ℕ
group_name search k = search.routine ++ decimal k

abbrev pub group_text : Search → ℕ → List Arm → List ℕ
group_text search k arms =
    header (group_name search k) search.locals ++ by_halves search.locals most_steps arms ++ codes "];"

-- the routines of so many groups, the first of which is the k-th
abbrev pub group_texts : Search → ℕ → ℕ → List Arm → List ℕ
group_texts search zero k arms = []
group_texts search (suc count) k arms =
    group_text search k (take most_arms arms) ++ group_texts search count (k + 1) (drop most_arms arms)

-- a group as an arm: its routine is called with all arguments
abbrev pub group_arm : Search → ℕ → List Arm → Arm
group_arm search k arms =
    record { value = first_value arms; routine = group_name search k; skipped = 0; count = length search.locals }

abbrev pub group_arms : Search → ℕ → ℕ → List Arm → List Arm
group_arms search zero k arms = []
group_arms search (suc count) k arms =
    group_arm search k (take most_arms arms) ∷ group_arms search count (k + 1) (drop most_arms arms)

-- ---- the routine that is called

abbrev pub range_start : ℕ → ℕ → List ℕ
range_start first count =
    codes "if(x__v>=" ++ decimal first ++ codes "&&x__v<" ++ decimal (first + count) ++ codes "){"

-- a text for values that are so many from a first on, if there are any
abbrev pub in_range : ℕ → ℕ → List ℕ → List ℕ
in_range first count text = if count == 0 then [] else range_start first count ++ text ++ codes "}"

-- the end of that routine: a value that is none is refused
abbrev pub refusal : List ℕ → List ℕ
refusal notice = codes "print \"" ++ notice ++ codes "\";quit;];"

abbrev pub top_text : Search → ℕ → ℕ → List Arm → List ℕ
top_text search first count arms =
    header search.routine search.locals ++ search.first
    ++ in_range first count (by_halves search.locals most_steps arms) ++ refusal search.notice

-- arms, groups of them, groups of these, and so on, in at most so many rounds; `k` counts the groups
abbrev pub levels : Search → ℕ → ℕ → ℕ → ℕ → List Arm → List ℕ
levels search first count zero k arms = top_text search first count arms
levels search first count (suc rounds) k arms =
    let groups : ℕ = group_count (length arms) in
    if nat_lt most_arms (length arms)
    then group_texts search groups k arms
    ++ levels search first count rounds (k + groups) (group_arms search groups k arms)
    else top_text search first count arms

-- 32,768 arms are 32 after two rounds
abbrev pub most_rounds : ℕ
most_rounds = 2

abbrev pub search_text : Search → ℕ → List Arm → List ℕ
search_text search first arms = levels search first (length arms) most_rounds 1 arms
