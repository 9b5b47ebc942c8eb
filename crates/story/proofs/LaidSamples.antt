-- Small stories, computed: their objects and their words.
use Rattle.std.proofs.Common.{◌≡◌, [], ◌∷◌, ◌++◌, take, drop, refl}
use Rattle.std.specs.Prelude.{codes, replicate}
use Rattle.zcore.specs.declared.header.Version.TheVariants.{V5}
use Rattle.ztext.specs.Alphabets.{spelling_of}
use Rattle.zcore.specs.Dictionary.{number_of_key, entry_of}
use Rattle.zcore.specs.Header.{key_at}
use Rattle.zcore.specs.InstructionBytes.{bytes_of}
use Rattle.ztext.specs.Text.{encoded, key_of}
use Rattle.ztext.specs.Words.{packed}
use Rattle.meaning.specs.Resolved.{ProgramOf, number, number_of, print as prints, stop, next}
use Rattle.story_file.specs.Layout.{story_of}
use Rattle.story.proofs.Samples.{no_defaults}

-- an object within another:
--     Property weight 10; Object rock "rock" with weight 5;
--     Object -> lamp "Lamp" with name 7, weight 7 1000; [ Main; ];
-- where `name` is property 1 and `weight` 2, and the lamp has attributes 9 and 47
abbrev objects : ProgramOf
objects = record {
  globals = [];
  arrays = [];
  defaults = 0 ∷ 10 ∷ replicate 61 0;
  objects =
      record { parent = 0; name = codes "rock"; attributes = []; properties = (2, 5 ∷ []) ∷ [] }
      ∷ record {
        parent = 1;
        name = codes "Lamp";
        attributes = 9 ∷ 47 ∷ [];
        properties = (2, 7 ∷ 1000 ∷ []) ∷ (1, 7 ∷ []) ∷ [];
      } ∷ [];
  keys = [];
  abbreviations = [];
  routines = record { locals = 0; body = stop } ∷ [];
  main = 0;
}

-- the defaults at 738; the entries at 864 and 878, with parent, sibling, child and property table; the tables at 892,
-- where the name `rock` has two words, and at 901, where `Lamp` has two; and the dictionary, which begins at 916
objects_laid_out : take 185 (drop 738 (story_of V5 objects))
    ≡ (0 ∷ 0 ∷ 0 ∷ 10 ∷ []) ++ replicate 122 0
    ++ (0 ∷ 0 ∷ 0 ∷ 0 ∷ 0 ∷ 0 ∷ 0 ∷ 0 ∷ 0 ∷ 0 ∷ 0 ∷ 2 ∷ 3 ∷ 124 ∷ [])
    ++ (0 ∷ 64 ∷ 0 ∷ 0 ∷ 0 ∷ 1 ∷ 0 ∷ 1 ∷ 0 ∷ 0 ∷ 0 ∷ 0 ∷ 3 ∷ 133 ∷ [])
    ++ (2 ∷ 94 ∷ 136 ∷ 192 ∷ 165 ∷ 66 ∷ 0 ∷ 5 ∷ 0 ∷ [])
    ++ (2 ∷ 18 ∷ 38 ∷ 202 ∷ 165 ∷ 130 ∷ 132 ∷ 0 ∷ 7 ∷ 3 ∷ 232 ∷ 65 ∷ 0 ∷ 7 ∷ 0 ∷ [])
    ++ (3 ∷ 46 ∷ 44 ∷ 34 ∷ 9 ∷ 0 ∷ 0 ∷ [])
unfolding story_of bytes_of encoded packed spelling_of
objects_laid_out = refl

-- the code that begins at 923, the dictionary at 916, the defaults at 738
objects_header : take 12 (drop 4 (story_of V5 objects)) ≡ 3 ∷ 155 ∷ 3 ∷ 155 ∷ 3 ∷ 148 ∷ 2 ∷ 226 ∷ 1 ∷ 2 ∷ 3 ∷ 148 ∷ []
unfolding story_of bytes_of encoded packed spelling_of
objects_header = refl

-- `[ Main; print 'take', 'box'; ];`, of which `box` has the smaller key
abbrev words : ProgramOf
words = record {
  globals = [];
  arrays = [];
  defaults = no_defaults;
  objects = [];
  keys = 0x1E9D14A594A5 ∷ 0x64D028A594A5 ∷ [];
  abbreviations = [];
  routines = record {
    locals = 0;
    body = next (prints (number_of (number 880) ∷ number_of (number 871) ∷ [])) stop;
  } ∷ [];
  main = 0;
}

words_laid_out : take 25 (drop 864 (story_of V5 words))
    ≡ (3 ∷ 46 ∷ 44 ∷ 34 ∷ 9 ∷ 0 ∷ 2 ∷ [])
    ++ (30 ∷ 157 ∷ 20 ∷ 165 ∷ 148 ∷ 165 ∷ 0 ∷ 0 ∷ 0 ∷ [])
    ++ (100 ∷ 208 ∷ 40 ∷ 165 ∷ 148 ∷ 165 ∷ 0 ∷ 0 ∷ 0 ∷ [])
unfolding story_of bytes_of encoded packed spelling_of
words_laid_out = refl

-- the entries move the code that begins, which stands at 889; the dictionary stays at 864, the defaults at 738
words_header : take 12 (drop 4 (story_of V5 words)) ≡ 3 ∷ 121 ∷ 3 ∷ 121 ∷ 3 ∷ 96 ∷ 2 ∷ 226 ∷ 1 ∷ 2 ∷ 3 ∷ 96 ∷ []
unfolding story_of bytes_of encoded packed spelling_of
words_header = refl

-- the words are the keys of `box` and `take`, and are found where their numbers say
words_keys : number_of_key (key_of (codes "box")) ∷ number_of_key (key_of (codes "take")) ∷ [] ≡ words.keys
unfolding number_of_key key_of packed spelling_of
words_keys = refl

words_found : entry_of (story_of V5 words) 864 0x1E9D14A594A5 ∷ entry_of (story_of V5 words) 864 0x64D028A594A5 ∷ []
    ≡ 871 ∷ 880 ∷ []
unfolding story_of bytes_of encoded packed spelling_of entry_of key_at
words_found = refl
