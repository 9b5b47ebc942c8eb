-- The words of a stack take the machine to its end.
use Rattle.std.proofs.Common.{subst, ◌≡◌, ℕ, Bool, true, false, cond, List, [], ◌∷◌, ◌++◌, length, Option, None, refl}
use Rattle.std.proofs.Common.{sym, ap, ◌∙◌}
use Rattle.std.proofs.lemmas.Bool.{eq-eqb}
use Rattle.syntax_lexer.specs.declared.token.Position.{Position}
use Rattle.syntax_lexer.specs.declared.token.Sign.{Sign}
use Rattle.syntax_lexer.specs.declared.token.Sign.TheVariants as s
use Rattle.syntax_lexer.specs.declared.token.Word.{Word}
use Rattle.syntax_lexer.specs.declared.token.Word.TheVariants as w
use Rattle.syntax_lexer.specs.Token.{Lexeme, name, reserved, sign}
use Rattle.syntax_trees.specs.Parse.{head, sign_number, word_number, is_sign, is_word}
use Rattle.syntax.proofs.Frames.{Frame, token, word, any_name, any_text, number_left, last, close}
use Rattle.syntax.proofs.Frames.{primary, unary, indexed, complement, product, sum, comparison}
use Rattle.syntax.proofs.Frames.{negation, condition, expression, arguments, name_after, array_after}
use Rattle.syntax.proofs.Frames.{properties_left, suffix_left, owned_left, scale_left, add_left}
use Rattle.syntax.proofs.Frames.{compare_left, or_left, logic_left, assign_left, arguments_left, set}
use Rattle.syntax.proofs.Frames.{need, value, upper_left, ranges_left, flag, flags_left, item}
use Rattle.syntax.proofs.Frames.{items_left}
use Rattle.syntax.proofs.Frames.{cast_after, optional, optional_effect, loop, returned, statement}
use Rattle.syntax.proofs.Frames.{statements_left, else_left, cases_left, otherwise_left, body_left}
use Rattle.syntax.proofs.Frames.{case_after, minus_after, names_left, values_left, value_left}
use Rattle.syntax.proofs.Frames.{initial_left, array_kind, object_heading, arrows_left, short_left}
use Rattle.syntax.proofs.Frames.{parent_left, properties_after, attributes_left, with_or_has}
use Rattle.syntax.proofs.Frames.{property_or_has, props_left, texts_left, entries_left, Stack}
use Rattle.syntax.proofs.Machine.{on, effect, shift, accepts, go_on, stop}
use Rattle.syntax.proofs.StackWords.{anywhere, word_of, words, ends_expression, ends_operand, ends_list}
use Rattle.syntax.proofs.StackWords.{ends_statements, Ends, rest_of_effect, Place, lends, Fits}

same_sign : (s : Sign) (p : Position) → is_sign s (sign s p) ≡ true
same_sign s p = eq-eqb (sign_number s) (sign_number s) refl

same_word : (w : Word) (p : Position) → is_word w (reserved w p) ≡ true
same_word w p = eq-eqb (word_number w) (word_number w) refl

never : {A : Type 0} → false ≡ true → A
never e = absurd cc

-- ---- frames that stay away

-- at the end of an operand, of a list, of statements
abbrev tails : Frame → Bool
tails name_after = true
tails array_after = true
tails properties_left = true
tails suffix_left = true
tails owned_left = true
tails scale_left = true
tails add_left = true
tails compare_left = true
tails or_left = true
tails logic_left = true
tails _ = false

abbrev lists : Frame → Bool
lists arguments_left = true
lists upper_left = true
lists ranges_left = true
lists flags_left = true
lists items_left = true
lists names_left = true
lists values_left = true
lists value_left = true
lists initial_left = true
lists short_left = true
lists parent_left = true
lists properties_after = true
lists attributes_left = true
lists props_left = true
lists texts_left = true
lists _ = false

abbrev bodies : Frame → Bool
bodies statements_left = true
bodies else_left = true
bodies cases_left = true
bodies otherwise_left = true
bodies body_left = true
bodies _ = false

module _ (b : Bool) (k : Stack) (p : Position) (other : Option Stack) where
  tail_at_assign : (f : Frame) → on f b (sign s.Assign p) k other ≡ cond (tails f) other (on f b (sign s.Assign p) k other)
  tail_at_assign name_after = refl
  tail_at_assign _ = refl

  tail_at_parenthesis : (f : Frame) → on f b (sign s.CloseParenthesis p) k other ≡ cond (tails f) other (on f b (sign s.CloseParenthesis p) k other)
  tail_at_parenthesis name_after = refl
  tail_at_parenthesis _ = refl

  tail_at_semicolon : (f : Frame) → on f b (sign s.Semicolon p) k other ≡ cond (tails f) other (on f b (sign s.Semicolon p) k other)
  tail_at_semicolon name_after = refl
  tail_at_semicolon _ = refl

  tail_at_colon : (f : Frame) → on f b (sign s.Colon p) k other ≡ cond (tails f) other (on f b (sign s.Colon p) k other)
  tail_at_colon name_after = refl
  tail_at_colon _ = refl

  tail_at_to : (f : Frame) → on f b (reserved w.To p) k other ≡ cond (tails f) other (on f b (reserved w.To p) k other)
  tail_at_to name_after = refl
  tail_at_to _ = refl

  tail_at_name : (n : List ℕ) (f : Frame) → on f b (name n p) k other ≡ cond (tails f) other (on f b (name n p) k other)
  tail_at_name n name_after = refl
  tail_at_name n _ = refl

  list_at_parenthesis : (f : Frame) → on f b (sign s.CloseParenthesis p) k other ≡ cond (lists f) other (on f b (sign s.CloseParenthesis p) k other)
  list_at_parenthesis arguments_left = refl
  list_at_parenthesis _ = refl

  list_at_semicolon : (f : Frame) → on f b (sign s.Semicolon p) k other ≡ cond (lists f) other (on f b (sign s.Semicolon p) k other)
  list_at_semicolon arguments_left = refl
  list_at_semicolon _ = refl

  list_at_colon : (f : Frame) → on f b (sign s.Colon p) k other ≡ cond (lists f) other (on f b (sign s.Colon p) k other)
  list_at_colon arguments_left = refl
  list_at_colon _ = refl

  body_at_brace : (f : Frame) → on f b (sign s.CloseBrace p) k other ≡ cond (bodies f) other (on f b (sign s.CloseBrace p) k other)
  body_at_brace statements_left = refl
  body_at_brace _ = refl

  body_at_bracket : (f : Frame) → on f b (sign s.CloseBracket p) k other ≡ cond (bodies f) other (on f b (sign s.CloseBracket p) k other)
  body_at_bracket statements_left = refl
  body_at_bracket _ = refl

  body_at_until : (f : Frame) → on f b (reserved w.Until p) k other ≡ cond (bodies f) other (on f b (reserved w.Until p) k other)
  body_at_until statements_left = refl
  body_at_until _ = refl

module _ (f : Frame) (b : Bool) (k : Stack) (other : Option Stack) where
  chosen : (c : Bool) (x : Option Stack) → c ≡ true → x ≡ cond c other x → x ≡ other
  chosen true x h e = e
  chosen false x h e = never h

  on_tail : (t : Lexeme) → tails f ≡ true → ends_operand t ≡ true → on f b t k other ≡ other
  on_tail (sign s.Assign p) h o = chosen (tails f) _ h (tail_at_assign b k p other f)
  on_tail (sign s.CloseParenthesis p) h o = chosen (tails f) _ h (tail_at_parenthesis b k p other f)
  on_tail (sign s.Semicolon p) h o = chosen (tails f) _ h (tail_at_semicolon b k p other f)
  on_tail (sign s.Colon p) h o = chosen (tails f) _ h (tail_at_colon b k p other f)
  on_tail (reserved w.To p) h o = chosen (tails f) _ h (tail_at_to b k p other f)
  on_tail (name n p) h o = chosen (tails f) _ h (tail_at_name b k p other n f)
  on_tail _ h o = absurd cc

  on_list : (t : Lexeme) → lists f ≡ true → ends_list t ≡ true → on f b t k other ≡ other
  on_list (sign s.CloseParenthesis p) h o = chosen (lists f) _ h (list_at_parenthesis b k p other f)
  on_list (sign s.Semicolon p) h o = chosen (lists f) _ h (list_at_semicolon b k p other f)
  on_list (sign s.Colon p) h o = chosen (lists f) _ h (list_at_colon b k p other f)
  on_list _ h o = absurd cc

  on_body : (t : Lexeme) → bodies f ≡ true → ends_statements t ≡ true → on f b t k other ≡ other
  on_body (sign s.CloseBrace p) h o = chosen (bodies f) _ h (body_at_brace b k p other f)
  on_body (sign s.CloseBracket p) h o = chosen (bodies f) _ h (body_at_bracket b k p other f)
  on_body (reserved w.Until p) h o = chosen (bodies f) _ h (body_at_until b k p other f)
  on_body _ h o = absurd cc

  on_assign : (t : Lexeme) → ends_expression t ≡ true → on assign_left b t k other ≡ other
  on_assign (sign s.CloseParenthesis p) o = refl
  on_assign (sign s.Semicolon p) o = refl
  on_assign (sign s.Colon p) o = refl
  on_assign (reserved w.To p) o = refl
  on_assign (name n p) o = refl
  on_assign _ o = absurd cc

abbrev onward : List Lexeme → Lexeme → Option Stack → Option ℕ
onward m t o = go_on (λ j. stop false j m) (length (t ∷ m)) o

module _ (f : Frame) (b : Bool) (k : Stack) where
  tail_away : (ts : List Lexeme) → tails f ≡ true → ends_operand (head ts) ≡ true
      → stop b (f ∷ k) ts ≡ stop (effect f b) k ts
  unfolding stop shift
  tail_away [] h o = absurd cc
  tail_away (t ∷ m) h o = ap (onward m t) (on_tail f b k (shift (effect f b) k t) t h o)

  list_away : (ts : List Lexeme) → lists f ≡ true → ends_list (head ts) ≡ true
      → stop b (f ∷ k) ts ≡ stop (effect f b) k ts
  unfolding stop shift
  list_away [] h o = absurd cc
  list_away (t ∷ m) h o = ap (onward m t) (on_list f b k (shift (effect f b) k t) t h o)

  body_away : (ts : List Lexeme) → bodies f ≡ true → ends_statements (head ts) ≡ true
      → stop b (f ∷ k) ts ≡ stop (effect f b) k ts
  unfolding stop shift
  body_away [] h o = absurd cc
  body_away (t ∷ m) h o = ap (onward m t) (on_body f b k (shift (effect f b) k t) t h o)

module _ (b : Bool) (k : Stack) where
  assign_away : (ts : List Lexeme) → ends_expression (head ts) ≡ true → stop b (assign_left ∷ k) ts ≡ stop b k ts
  unfolding stop shift
  assign_away [] o = absurd cc
  assign_away (t ∷ m) o = ap (onward m t) (on_assign assign_left b k (shift b k t) t o)

  need_away : (ts : List Lexeme) → stop true (need ∷ k) ts ≡ stop true k ts
  unfolding stop shift accepts
  need_away [] = refl
  need_away (t ∷ m) = refl

  pub set_away : (c : Bool) (ts : List Lexeme) → stop b (set c ∷ k) ts ≡ stop c k ts
  unfolding stop shift accepts
  set_away c [] = refl
  set_away c (t ∷ m) = refl

  case_away : (n : ℕ) (ts : List Lexeme) → head ts ≡ sign s.Assign anywhere → stop b (case_after n ∷ k) ts ≡ stop b k ts
  unfolding stop shift accepts
  case_away n [] e = absurd cc
  case_away n (t ∷ m) e = rw e refl

-- ---- after an operand

module _ (k : Stack) (ts : List Lexeme) (o : ends_operand (head ts) ≡ true) where
  after_primary : stop false (properties_left ∷ k) ts ≡ stop false k ts
  after_primary = tail_away properties_left false k ts refl o

  after_unary : stop false (properties_left ∷ suffix_left ∷ k) ts ≡ stop false k ts
  after_unary =
      tail_away properties_left false (suffix_left ∷ k) ts refl o ∙ tail_away suffix_left false k ts refl o

  after_complement : stop false (properties_left ∷ owned_left ∷ k) ts ≡ stop false k ts
  after_complement =
      tail_away properties_left false (owned_left ∷ k) ts refl o ∙ tail_away owned_left false k ts refl o

after_product : (k : Stack) (ts : List Lexeme) → ends_operand (head ts) ≡ true
    → stop false (properties_left ∷ owned_left ∷ scale_left ∷ k) ts ≡ stop false k ts
after_product k ts o = after_complement (scale_left ∷ k) ts o ∙ tail_away scale_left false k ts refl o

after_sum : (k : Stack) (ts : List Lexeme) → ends_operand (head ts) ≡ true
    → stop false (properties_left ∷ owned_left ∷ scale_left ∷ add_left ∷ k) ts ≡ stop false k ts
after_sum k ts o = after_product (add_left ∷ k) ts o ∙ tail_away add_left false k ts refl o

after_comparison : (k : Stack) (ts : List Lexeme) → ends_operand (head ts) ≡ true
    → stop false (properties_left ∷ owned_left ∷ scale_left ∷ add_left ∷ compare_left ∷ k) ts ≡ stop false k ts
after_comparison k ts o = after_sum (compare_left ∷ k) ts o ∙ tail_away compare_left false k ts refl o

after_condition : (k : Stack) (ts : List Lexeme) → ends_operand (head ts) ≡ true
    → stop false (properties_left ∷ owned_left ∷ scale_left ∷ add_left ∷ compare_left ∷ logic_left ∷ k) ts
    ≡ stop false k ts
after_condition k ts o = after_comparison (logic_left ∷ k) ts o ∙ tail_away logic_left false k ts refl o

what_ends : (t : Lexeme) → ends_expression t ≡ true → ends_operand t ≡ true
what_ends (sign s.CloseParenthesis p) o = refl
what_ends (sign s.Semicolon p) o = refl
what_ends (sign s.Colon p) o = refl
what_ends (reserved w.To p) o = refl
what_ends (name n p) o = refl
what_ends _ o = absurd cc

after_expression : (k : Stack) (ts : List Lexeme) → ends_expression (head ts) ≡ true
    → stop false
    (properties_left ∷ owned_left ∷ scale_left ∷ add_left ∷ compare_left ∷ logic_left ∷ assign_left ∷ k) ts
    ≡ stop false k ts
after_expression k ts o = after_condition (assign_left ∷ k) ts (what_ends (head ts) o) ∙ assign_away false k ts o

-- ---- one frame

abbrev Again : Bool → Stack → Type 0
Again c k = (b : Bool) → (c ≡ true → b ≡ true) → stop b k (words k) ≡ None

assigned_taken : (k : Stack) → Ends ends_expression k → Again true k
    → stop false
    (properties_left ∷ owned_left ∷ scale_left ∷ add_left ∷ compare_left ∷ logic_left ∷ assign_left ∷ set true ∷ k)
    (words k) ≡ None
assigned_taken k o again =
    after_expression (set true ∷ k) (words k) o ∙ set_away false k true (words k) ∙ again true (λ e. refl)

needed_taken : (c b : Bool) (k : Stack) → c ≡ true → (c ≡ true → b ≡ true) → Again false k
    → stop b (need ∷ k) (words k) ≡ None
needed_taken c b k e has again =
    subst (λ x. stop x (need ∷ k) (words k) ≡ None) (sym (has e)) (need_away true k (words k) ∙ again true never)

cast_away : (b : Bool) (k i : Stack)
    → k ≡ expression ∷ close ∷ properties_left ∷ owned_left ∷ scale_left ∷ add_left ∷ compare_left ∷ logic_left
    ∷ assign_left ∷ set false ∷ i
    → stop b (cast_after ∷ k) (words k) ≡ stop b k (words k)
unfolding stop shift accepts words
cast_away b k i is = rw is refl

minus_away : (b : Bool) (k i : Stack) → k ≡ unary ∷ set false ∷ rest_of_effect (cases_left ∷ i)
    → stop b (minus_after ∷ k) (words k) ≡ stop b k (words k)
unfolding stop shift accepts words
minus_away b k i is = rw is refl

optional_away : (b : Bool) (k i : Stack) (s : Sign) → k ≡ token s ∷ i
    → stop b (optional s ∷ k) (words k) ≡ stop b k (words k)
unfolding stop shift accepts words
optional_away b k i s is = rw (is, same_sign s anywhere) refl

effect_away : (b : Bool) (k i : Stack) (s : Sign) → k ≡ token s ∷ i
    → stop b (optional_effect s ∷ k) (words k) ≡ stop b k (words k)
unfolding stop shift accepts words
effect_away b k i s is = rw (is, same_sign s anywhere) refl

arrows_away : (b : Bool) (k i : Stack) → k ≡ any_name ∷ i → stop b (arrows_left ∷ k) (words k) ≡ stop b k (words k)
unfolding stop shift accepts words
arrows_away b k i is = rw is refl

entries_away : (b : Bool) (k i : Stack) → k ≡ last ∷ i → stop b (entries_left ∷ k) (words k) ≡ stop b k (words k)
unfolding stop shift accepts words
entries_away b k i is = rw is refl

array_ends : (k i : Stack) → k ≡ properties_left ∷ owned_left ∷ i → Fits false k → Ends ends_operand k
unfolding Fits words
array_ends k i is h =
    let g : Fits false (properties_left ∷ owned_left ∷ i) = subst (λ x. Fits false x) is h in
    let o : Ends ends_operand (properties_left ∷ owned_left ∷ i) = g.0 in
    subst (λ x. Ends ends_operand x) (sym is) o

cases_end : (k i : Stack) → k ≡ cases_left ∷ i → Fits false k → Ends ends_statements k
unfolding Fits words
cases_end k i is h =
    let g : Fits false (cases_left ∷ i) = subst (λ x. Fits false x) is h in
    let o : Ends ends_statements (cases_left ∷ i) = g.0 in
    subst (λ x. Ends ends_statements x) (sym is) o

turn_taken : (f : Frame) (c b : Bool) (k : Stack) → Place c f k → Fits (lends f) k → (c ≡ true → b ≡ true)
    → Again (lends f) k → stop b (f ∷ k) (word_of f ++ words k) ≡ None
unfolding stop shift accepts
turn_taken (token s) c b k o h has again = rw (same_sign s anywhere) (again false never)
turn_taken (word w) c b k o h has again = rw (same_word w anywhere) (again false never)
turn_taken any_name c b k o h has again = again false never
turn_taken any_text c b k o h has again = again false never
turn_taken number_left c b k o h has again = again false never
turn_taken last c b k o h has again = again false never
turn_taken value c b k o h has again = again false never
turn_taken flag c b k o h has again = again false never
turn_taken item c b k o h has again = again false never
turn_taken returned c b k o h has again = again false never
turn_taken statement c b k o h has again = again false never
turn_taken array_kind c b k o h has again = again false never
turn_taken arguments c b k o h has again = again false never
turn_taken close c b k o h has again = set_away false k b (words k) ∙ again b never
turn_taken primary c b k o h has again = after_primary k (words k) o ∙ again false never
turn_taken unary c b k o h has again = after_unary k (words k) o ∙ again false never
turn_taken indexed c b k o h has again = after_complement k (words k) o ∙ again false never
turn_taken complement c b k o h has again = after_complement k (words k) o ∙ again false never
turn_taken product c b k o h has again = after_product k (words k) o ∙ again false never
turn_taken sum c b k o h has again = after_sum k (words k) o ∙ again false never
turn_taken comparison c b k o h has again = after_comparison k (words k) o ∙ again false never
turn_taken negation c b k o h has again = after_comparison k (words k) o ∙ again false never
turn_taken condition c b k o h has again = after_condition k (words k) o ∙ again false never
turn_taken expression c b k o h has again = assigned_taken k o again
turn_taken assign_left c b k o h has again = assigned_taken k o again
turn_taken name_after c b k o h has again = tail_away name_after b k (words k) refl o ∙ again b never
turn_taken properties_left c b k o h has again = tail_away properties_left b k (words k) refl o ∙ again b never
turn_taken suffix_left c b k o h has again = tail_away suffix_left b k (words k) refl o ∙ again b never
turn_taken owned_left c b k o h has again = tail_away owned_left b k (words k) refl o ∙ again b never
turn_taken scale_left c b k o h has again = tail_away scale_left b k (words k) refl o ∙ again b never
turn_taken add_left c b k o h has again = tail_away add_left b k (words k) refl o ∙ again b never
turn_taken compare_left c b k o h has again = tail_away compare_left b k (words k) refl o ∙ again b never
turn_taken or_left c b k o h has again = tail_away or_left b k (words k) refl o ∙ again b never
turn_taken logic_left c b k o h has again = tail_away logic_left b k (words k) refl o ∙ again b never
turn_taken array_after c b k o h has again =
    tail_away array_after b k (words k) refl (array_ends k o.0 o.1 h) ∙ again b never
turn_taken arguments_left c b k o h has again = list_away arguments_left b k (words k) refl o ∙ again b never
turn_taken upper_left c b k o h has again = list_away upper_left b k (words k) refl o ∙ again b never
turn_taken ranges_left c b k o h has again = list_away ranges_left b k (words k) refl o ∙ again b never
turn_taken flags_left c b k o h has again = list_away flags_left b k (words k) refl o ∙ again b never
turn_taken items_left c b k o h has again = list_away items_left b k (words k) refl o ∙ again b never
turn_taken names_left c b k o h has again = list_away names_left b k (words k) refl o ∙ again b never
turn_taken values_left c b k o h has again = list_away values_left b k (words k) refl o ∙ again b never
turn_taken value_left c b k o h has again = list_away value_left b k (words k) refl o ∙ again b never
turn_taken initial_left c b k o h has again = list_away initial_left b k (words k) refl o ∙ again b never
turn_taken short_left c b k o h has again = list_away short_left b k (words k) refl o ∙ again b never
turn_taken parent_left c b k o h has again = list_away parent_left b k (words k) refl o ∙ again b never
turn_taken properties_after c b k o h has again = list_away properties_after b k (words k) refl o ∙ again b never
turn_taken attributes_left c b k o h has again = list_away attributes_left b k (words k) refl o ∙ again b never
turn_taken props_left c b k o h has again = list_away props_left b k (words k) refl o ∙ again b never
turn_taken texts_left c b k o h has again = list_away texts_left b k (words k) refl o ∙ again b never
turn_taken statements_left c b k o h has again = body_away statements_left b k (words k) refl o ∙ again b never
turn_taken else_left c b k o h has again = body_away else_left b k (words k) refl o ∙ again b never
turn_taken cases_left c b k o h has again = body_away cases_left b k (words k) refl o ∙ again b never
turn_taken otherwise_left c b k o h has again = body_away otherwise_left b k (words k) refl o ∙ again b never
turn_taken body_left c b k o h has again = body_away body_left b k (words k) refl (cases_end k o.0 o.1 h) ∙ again b never
turn_taken (set v) c b k o h has again = set_away b k v (words k) ∙ again v (λ e. e)
turn_taken need c b k o h has again = needed_taken c b k o.0 has again
turn_taken cast_after c b k o h has again = cast_away b k o.0 o.1 ∙ again b never
turn_taken (optional s) c b k o h has again = optional_away b k o.1.0 s o.1.1 ∙ again b never
turn_taken (optional_effect s) c b k o h has again = effect_away b k o.1.0 s o.1.1 ∙ again b never
turn_taken loop c b k o h has again =
    tail_away array_after false (properties_left ∷ owned_left ∷ scale_left ∷ add_left ∷ compare_left ∷ logic_left ∷ k)
    (words k) refl o ∙ after_condition k (words k) o ∙ again false never
turn_taken (case_after n) c b k o h has again = case_away b k n (words k) o.1 ∙ again b never
turn_taken minus_after c b k o h has again = minus_away b k o.0 o.1 ∙ again b never
turn_taken object_heading c b k o h has again =
    list_away short_left false (parent_left ∷ k) (words k) refl o ∙ list_away parent_left false k (words k) refl o
    ∙ again false never
turn_taken arrows_left c b k o h has again = arrows_away b k o.0 o.1 ∙ again b never
turn_taken with_or_has c b k o h has again =
    list_away values_left false (props_left ∷ k) (words k) refl o ∙ list_away props_left false k (words k) refl o
    ∙ again false never
turn_taken property_or_has c b k o h has again =
    list_away values_left false (props_left ∷ k) (words k) refl o ∙ list_away props_left false k (words k) refl o
    ∙ again false never
turn_taken entries_left c b k o h has again = entries_away b k o.0 o.1 ∙ again b never

pub taken_with : (c b : Bool) (k : Stack) → Fits c k → (c ≡ true → b ≡ true) → stop b k (words k) ≡ None
unfolding stop accepts words Fits
taken_with c b [] h has = refl
taken_with c b (f ∷ k) h has = turn_taken f c b k h.0 h.1 has (λ d e. taken_with (lends f) d k h.1 e)

pub taken : (k : Stack) → Fits false k → stop false k (words k) ≡ None
taken k h = taken_with false false k h (λ e. e)
