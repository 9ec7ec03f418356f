-- Lines and scripts, by the grammar.
use Rattle.std.proofs.Common.{◌≡◌, ◌≢◌, ℕ, ◌+◌, ◌<◌, ◌≤◌, ◌==◌, nat_lt, if◌then◌else◌, Bool, true, false, List, [], ◌∷◌, ◌++◌, length, Some, None, Err, refl, ap, ◌∙◌, arith}
use Rattle.std.proofs.lemmas.Bool.Decides.{nat_tests}
use Rattle.fine_model.specs.Script.{lines, onto_first, script_from, Reading, line_added, meaning, many, too_long, bad_line}

abbrev pub AreLetters : List ℕ → Type 0
AreLetters [] = Unit {0}
AreLetters (b ∷ bs) = (b ≢ 10) × AreLetters bs

line_feed : (bs : List ℕ) → lines (10 ∷ bs) ≡ [] ∷ lines bs
unfolding lines
line_feed bs = refl

line_letter : (b : ℕ) (bs : List ℕ) → b ≢ 10 → lines (b ∷ bs) ≡ onto_first b (lines bs)
unfolding lines
line_letter b bs n = let e : (b == 10) ≡ false = grind (arith, nat_tests) in rw e refl

pub lines_feed : (line rest : List ℕ) → AreLetters line → lines (line ++ 10 ∷ rest) ≡ line ∷ lines rest
lines_feed [] rest h = line_feed rest
lines_feed (b ∷ bs) rest h = line_letter b (bs ++ 10 ∷ rest) h.0 ∙ ap (onto_first b) (lines_feed bs rest h.1)

onto_some : (b : ℕ) (ls : List (List ℕ)) → (front : List ℕ) × (more : List (List ℕ)) × (onto_first b ls ≡ (b ∷ front) ∷ more)
onto_some b [] = ([], [], refl)
onto_some b (l ∷ ls) = (l, ls, refl)

-- a first byte begins a line
pub lines_some : (b : ℕ) (bs : List ℕ) → (line : List ℕ) × (more : List (List ℕ)) × (lines (b ∷ bs) ≡ line ∷ more)
unfolding lines
lines_some b bs = by_test (b == 10)
  where
    by_test : (t : Bool) → (line : List ℕ) × (more : List (List ℕ)) × ((if t then [] ∷ lines bs else onto_first b (lines bs)) ≡ line ∷ more)
    by_test true = ([], lines bs, refl)
    by_test false = let r = onto_some b (lines bs) in (b ∷ r.0, r.1, r.2)

pub lines_long : (line rest : List ℕ) → AreLetters line → 0 < length line
    → (front : List ℕ) × (more : List (List ℕ)) × (lines (line ++ rest) ≡ (line ++ front) ∷ more)
lines_long [] rest h p = absurd (omega arith)
lines_long (b ∷ []) rest h p =
    let r = onto_some b (lines rest) in
    (r.0, r.1, line_letter b rest h.0 ∙ r.2)
lines_long (b ∷ c ∷ bs) rest h p =
    let r = lines_long (c ∷ bs) rest h.1 (omega arith) in
    (r.0, r.1, line_letter b (c ∷ bs ++ rest) h.0 ∙ ap (onto_first b) r.2)

pub lines_last : (line : List ℕ) → AreLetters line → 0 < length line → lines line ≡ line ∷ []
unfolding lines
lines_last [] h p = absurd (omega arith)
lines_last (b ∷ []) h p = line_letter b [] h.0
lines_last (b ∷ c ∷ bs) h p = line_letter b (c ∷ bs) h.0 ∙ ap (onto_first b) (lines_last (c ∷ bs) h.1 (omega arith))

pub script_step : (n : ℕ) (r s : Reading) (line : List ℕ) (more : List (List ℕ)) → n ≤ 1000000 → length line ≤ 512
    → line_added r (meaning line) ≡ Some s → script_from n r (line ∷ more) ≡ script_from (n + 1) s more
unfolding script_from
script_step n r s line more l k e =
    let few : nat_lt 1000000 n ≡ false = grind (arith, nat_tests) in
    let short : nat_lt 512 (length line) ≡ false = grind (arith, nat_tests) in
    rw (few, short, e) refl

pub script_bad : (n : ℕ) (r : Reading) (line : List ℕ) (more : List (List ℕ)) → n ≤ 1000000 → length line ≤ 512
    → line_added r (meaning line) ≡ None → script_from n r (line ∷ more) ≡ Err (bad_line n)
unfolding script_from
script_bad n r line more l k e =
    let few : nat_lt 1000000 n ≡ false = grind (arith, nat_tests) in
    let short : nat_lt 512 (length line) ≡ false = grind (arith, nat_tests) in
    rw (few, short, e) refl

pub script_long : (n : ℕ) (r : Reading) (line : List ℕ) (more : List (List ℕ)) → n ≤ 1000000 → 512 < length line
    → script_from n r (line ∷ more) ≡ Err (too_long n)
unfolding script_from
script_long n r line more l k =
    let few : nat_lt 1000000 n ≡ false = grind (arith, nat_tests) in
    let long : nat_lt 512 (length line) ≡ true = grind (arith, nat_tests) in
    rw (few, long) refl

pub script_many : (n : ℕ) (r : Reading) (line : List ℕ) (more : List (List ℕ)) → 1000000 < n
    → script_from n r (line ∷ more) ≡ Err (many n)
unfolding script_from
script_many n r line more l =
    let much : nat_lt 1000000 n ≡ true = grind (arith, nat_tests) in
    rw much refl
