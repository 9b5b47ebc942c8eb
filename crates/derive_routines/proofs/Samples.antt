-- The definitions at worked examples.
use Rattle.std.proofs.Common.{◌≡◌, [], ◌∷◌, refl}
use Rattle.std.specs.Prelude.{codes}
use Rattle.std.specs.Fmt.{digits}
use Rattle.derive_routines.specs.Search.{by_halves}
use Rattle.derive_routines.specs.Made.{or_text, key_words, text_arm}

three_arms :
    by_halves (codes "x__v" ∷ []) 6 (text_arm 1 ∷ text_arm 2 ∷ text_arm 3 ∷ [])
    ≡ codes "if(x__v<2){return x__t1();}else{if(x__v<3){return x__t2();}else{return x__t3();}}"
unfolding digits
three_arms = refl

neither : or_text 3 (key_words (codes "notin x__a1 x__a2"))
    ≡ codes "[ x__or3 x__o x__a1 x__a2;return ~~(x__o in x__a1||x__o in x__a2);];"
unfolding digits
neither = refl
