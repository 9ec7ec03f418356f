-- Words of a line, and a line without its carriage return.
use Rattle.std.proofs.Common.{◌≡◌, ◌≢◌, ℕ, suc, zero, ◌<◌, ◌≤◌, ◌==◌, nat_lt, Bool, true, false, List, [], ◌∷◌, ◌++◌, length, take, drop, get_or, filter, refl, sym, ap, ◌∙◌, arith, length-drop}
use Rattle.std.proofs.lemmas.List.{get_or-drop, length-take-le}
use Rattle.fine_model.specs.Script.{pieces, words, onto_first, without_return}
use Rattle.std.proofs.lemmas.Bool.Decides.{nat_tests}

abbrev is_some_piece : List ℕ → Bool
is_some_piece piece = nat_lt 0 (length piece)

pieces_space : (b : ℕ) (bs : List ℕ) → b ≡ 32 → pieces (b ∷ bs) ≡ [] ∷ pieces bs
unfolding pieces
pieces_space b bs e = rw e refl

pieces_letter : (b : ℕ) (bs : List ℕ) → b ≢ 32 → pieces (b ∷ bs) ≡ onto_first b (pieces bs)
unfolding pieces
pieces_letter b bs n = let e : (b == 32) ≡ false = grind (arith, nat_tests) in rw e refl

-- leading spaces do not matter
pub words_spaces : (k : ℕ) (line : List ℕ) → k ≤ length line → ((i : ℕ) → i < k → get_or line i 0 ≡ 32) → words line ≡ words (drop k line)
words_spaces zero line l h = refl
words_spaces (suc k) [] l h = refl
words_spaces (suc k) (b ∷ bs) l h =
    ap (filter is_some_piece) (pieces_space b bs (h 0 (omega arith))) ∙ words_spaces k bs (omega arith) (λ i m. h (suc i) (omega arith))

-- the first piece, and what the others give
pieces_word : (k : ℕ) (line : List ℕ) → k ≤ length line → ((i : ℕ) → i < k → get_or line i 0 ≢ 32) → (k < length line → get_or line k 0 ≡ 32)
    → (tail : List (List ℕ)) × (pieces line ≡ take k line ∷ tail) × (filter is_some_piece tail ≡ words (drop k line))
unfolding pieces
pieces_word zero [] l h then_ = ([], refl, refl)
pieces_word zero (b ∷ bs) l h then_ =
    let e = pieces_space b bs (then_ (omega arith)) in
    (pieces bs, e, sym (ap (filter is_some_piece) e))
pieces_word (suc k) [] l h then_ = absurd (omega arith)
pieces_word (suc k) (b ∷ bs) l h then_ =
    let r = pieces_word k bs (omega arith) (λ i m. h (suc i) (omega arith)) (λ m. then_ (omega arith)) in
    (r.0, pieces_letter b bs (h 0 (omega arith)) ∙ ap (onto_first b) r.1, r.2)

keeps_piece : (piece : List ℕ) (tail : List (List ℕ)) → is_some_piece piece ≡ true → filter is_some_piece (piece ∷ tail) ≡ piece ∷ filter is_some_piece tail
keeps_piece piece tail e = rw e refl

pub words_word : (k : ℕ) (line : List ℕ) → 0 < k → k ≤ length line → ((i : ℕ) → i < k → get_or line i 0 ≢ 32) → (k < length line → get_or line k 0 ≡ 32)
    → words line ≡ take k line ∷ words (drop k line)
words_word zero line p l h then_ = absurd (omega arith)
words_word (suc k) [] p l h then_ = absurd (omega arith)
words_word (suc k) (b ∷ bs) p l h then_ =
    let r = pieces_word (suc k) (b ∷ bs) l h then_ in
    let some : is_some_piece (take (suc k) (b ∷ bs)) ≡ true = grind (arith, nat_tests) in
    ap (filter is_some_piece) r.1 ∙ keeps_piece (take (suc k) (b ∷ bs)) r.0 some ∙ ap (λ t. take (suc k) (b ∷ bs) ∷ t) r.2

-- without a carriage return at its end
pub return_drops : (front : List ℕ) → without_return (front ++ 13 ∷ []) ≡ front
unfolding without_return
return_drops [] = refl
return_drops (x ∷ []) = refl
return_drops (x ∷ y ∷ front) = ap (λ t. x ∷ t) (return_drops (y ∷ front))

pub return_keeps : (front : List ℕ) (b : ℕ) → b ≢ 13 → without_return (front ++ b ∷ []) ≡ front ++ b ∷ []
unfolding without_return
return_keeps [] b n = let e : (b == 13) ≡ false = grind (arith, nat_tests) in rw e refl
return_keeps (x ∷ []) b n = ap (λ t. x ∷ t) (return_keeps [] b n)
return_keeps (x ∷ y ∷ front) b n = ap (λ t. x ∷ t) (return_keeps (y ∷ front) b n)

pub return_drops_at : (line front : List ℕ) (b : ℕ) → line ≡ front ++ b ∷ [] → b ≡ 13 → front ≡ without_return line
return_drops_at line front b e r = sym (ap without_return (e ∙ ap (λ c. front ++ c ∷ []) r) ∙ return_drops front)

pub return_keeps_at : (line front : List ℕ) (b : ℕ) → line ≡ front ++ b ∷ [] → b ≢ 13 → line ≡ without_return line
return_keeps_at line front b e n = e ∙ sym (ap without_return e ∙ return_keeps front b n)

pub return_none : (line : List ℕ) → length line ≡ 0 → line ≡ without_return line
unfolding without_return
return_none [] e = refl
return_none (b ∷ bs) e = absurd (omega arith)

pub words_blank : (k : ℕ) (line : List ℕ) → k ≤ length line → ((i : ℕ) → i < k → get_or line i 0 ≡ 32) → length (drop k line) ≡ 0 → words line ≡ []
unfolding pieces
words_blank k line l h e = words_spaces k line l h ∙ none (drop k line) e
  where
    none : (rest : List ℕ) → length rest ≡ 0 → words rest ≡ []
    none [] e = refl
    none (b ∷ bs) e = absurd (omega arith)

-- a word behind spaces, and what is behind it
pub words_next : (k n : ℕ) (line rest : List ℕ) → k ≤ length line → ((i : ℕ) → i < k → get_or line i 0 ≡ 32) → rest ≡ drop k line
    → (k < length line → get_or line k 0 ≢ 32) → 0 < length rest
    → n ≤ length rest → ((i : ℕ) → i < n → get_or rest i 0 ≢ 32) → (n < length rest → get_or rest n 0 ≡ 32)
    → (words line ≡ take n rest ∷ words (drop n rest)) × (0 < length (take n rest))
words_next k n line rest l h e first some w letters space =
    let there : k < length line = omega (arith, ap length e, length-drop k line) in
    let at : get_or rest 0 0 ≡ get_or line k 0 = ap (λ t. get_or t 0 0) e ∙ get_or-drop k line 0 0 ∙ ap (λ i. get_or line i 0) (omega arith) in
    let letter : 0 < n = letter_first n (λ z. first there (sym at ∙ ap (λ i. get_or rest i 0) (sym z) ∙ space (omega arith))) in
    (words_spaces k line l h ∙ ap words (sym e) ∙ words_word n rest letter w letters space, omega (arith, length-take-le n rest w))
  where
    letter_first : (n : ℕ) → (n ≡ 0 → ⊥) → 0 < n
    letter_first zero some_ = absurd (some_ refl)
    letter_first (suc n) some_ = omega arith
