-- Blorb files, computed.
use Rattle.std.proofs.Common.{◌≡◌, ℕ, List, [], ◌∷◌, ◌++◌, length, take, replicate, Ok, Err, refl}
use Rattle.std.specs.Prelude.{codes}
use Rattle.iff_files.specs.Stories.{unpacked}
use Rattle.iff_files.specs.declared.blorb_fault.BlorbFault.TheVariants.{Damaged, NoProgram, OtherProgram}

-- a number below 256, in four bytes
abbrev four : ℕ → List ℕ
four n = 0 ∷ 0 ∷ 0 ∷ n ∷ []

abbrev chunk : List ℕ → List ℕ → List ℕ
chunk name content = name ++ four (length content) ++ content

-- a Blorb file of an index and what follows it
abbrev form : List ℕ → List ℕ → List ℕ
form index rest = chunk (codes "FORM") (codes "IFRS" ++ index ++ rest)

-- the entries of a picture and of a program, number 7, which starts at an address
abbrev picture : List ℕ
picture = codes "Pict" ++ four 1 ++ four 48

abbrev program : ℕ → List ℕ
program start = codes "Exec" ++ four 7 ++ four start

abbrev index : ℕ → List ℕ → List ℕ
index resources entries = chunk (codes "RIdx") (four resources ++ entries)

abbrev two : ℕ → List ℕ
two start = index 2 (picture ++ program start)

-- the index ends at 48; a picture of two bytes, then a program of three
abbrev chunks : List ℕ → List ℕ
chunks name = chunk (codes "PNG ") (1 ∷ 2 ∷ []) ++ chunk name (5 ∷ 6 ∷ 7 ∷ [])

abbrev story : List ℕ
story = form (two 58) (chunks (codes "ZCOD"))

plays : unpacked story ≡ Ok (5 ∷ 6 ∷ 7 ∷ [])
plays = refl

-- what follows the form is ignored
followed : unpacked (story ++ replicate 9 1) ≡ Ok (5 ∷ 6 ∷ 7 ∷ [])
followed = refl

-- other files, and other forms, are played as they are
no_blorb : unpacked (5 ∷ 1 ∷ []) ≡ Ok (5 ∷ 1 ∷ [])
no_blorb = refl

other_form : unpacked (chunk (codes "FORM") (codes "AIFF")) ≡ Ok (chunk (codes "FORM") (codes "AIFF"))
other_form = refl

cut_off : unpacked (take 68 story) ≡ Err Damaged
cut_off = refl

-- an index of one resource whose length is that of two, and one that ends after the form
wrong_count : unpacked (form (index 1 (picture ++ program 58)) (chunks (codes "ZCOD"))) ≡ Err Damaged
wrong_count = refl

long_index : unpacked (form (codes "RIdx" ++ four 16 ++ four 1) []) ≡ Err Damaged
long_index = refl

-- a program in the index, whose heading passes the end, or whose data do
in_index : unpacked (form (two 47) (chunks (codes "ZCOD"))) ≡ Err Damaged
in_index = refl

heading_past_end : unpacked (form (two 62) (chunks (codes "ZCOD"))) ≡ Err Damaged
heading_past_end = refl

data_past_end : unpacked (form (two 48) (codes "ZCOD" ++ four 14 ++ replicate 13 5)) ≡ Err Damaged
data_past_end = refl

data_to_end : unpacked (form (two 48) (codes "ZCOD" ++ four 13 ++ replicate 13 5)) ≡ Ok (replicate 13 5)
data_to_end = refl

no_program : unpacked (form (index 1 picture) (chunks (codes "ZCOD"))) ≡ Err NoProgram
no_program = refl

nothing_listed : unpacked (form (index 0 []) []) ≡ Err NoProgram
nothing_listed = refl

glulx : unpacked (form (two 58) (chunks (codes "GLUL"))) ≡ Err OtherProgram
glulx = refl

-- the first program counts
two_programs : unpacked (form (index 2 (program 48 ++ program 58)) (chunks (codes "ZCOD"))) ≡ Err OtherProgram
two_programs = refl
