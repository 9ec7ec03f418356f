-- The turns of a search by halves.
use Rattle.std.proofs.Common.{◌≡◌, ◌⊎◌, inl, inr, ℕ, zero, suc, ◌+◌, ◌-◌, ◌<◌, ◌≤◌, true, false, cond, List, Option, Some, None, Ok, Err, refl, sym, ap, ◌∙◌, arith}
use Rattle.std.specs.Prelude.{Result}
use Rattle.std.proofs.lemmas.Bool.{cases_lt, lt-ltb, le-ltb}
use Rattle.fine_model.specs.declared.Header.{Header}
use Rattle.fine_model.specs.declared.NodeId.{NodeId}
use Rattle.fine_model.specs.declared.Part.{Part}
use Rattle.fine_model.specs.Merge.{is_node_below}
use Rattle.fine_model.specs.Regions.{Image, body_in}
use Rattle.fine_model.specs.Seek.{entry_at, entry_between, entry_place, is_entry, middle_of, sought_entry, span_at, turn_at}
use Rattle.fine_model.proofs.Merging.NodeOrder.{below-asym}
use Rattle.fine_model.proofs.Merging.NodesIn.{is_node_below-self}
use Rattle.partition_index.specs.declared.entries.IndexEntry.{IndexEntry}
use Rattle.partition_index.specs.Entries.{model_of}
use Rattle.partition_index.specs.Search.{IfTold, IsEntryAt, IsNoEntryAt, MeetsBad}
use Rattle.partition_index.proofs.Looking.{each_told, told_as}

abbrev Answer : Type 0
Answer = Result (Option ℕ) ℕ

module _ (header : Header) (body : List ℕ) (id : NodeId) where
  -- nothing is left between two numbers
  pub turn_end : (n low high : ℕ) → high ≤ low → entry_between n header body id low high ≡ Ok None
  unfolding entry_between
  turn_end zero low high none = refl
  turn_end (suc n) low high none =
      ap (λ t. cond t (turn_at header body id (middle_of low high) (entry_between n header body id (middle_of low high + 1) high) (entry_between n header body id low (middle_of low high))) (Ok None)) (le-ltb low high none)

  -- one turn
  pub turn_on : (n low high : ℕ) → low < high
      → entry_between (suc n) header body id low high ≡ turn_at header body id (middle_of low high) (entry_between n header body id (middle_of low high + 1) high) (entry_between n header body id low (middle_of low high))
  unfolding entry_between
  turn_on n low high some =
      ap (λ t. cond t (turn_at header body id (middle_of low high) (entry_between n header body id (middle_of low high + 1) high) (entry_between n header body id low (middle_of low high))) (Ok None)) (lt-ltb low high some)

  -- as many turns as there are numbers are enough
  pub turns_same : (n m low high : ℕ) → high - low ≤ n → high - low ≤ m → entry_between n header body id low high ≡ entry_between m header body id low high
  unfolding entry_between
  turns_same zero m low high a b = sym (turn_end m low high (omega (arith, a)))
  turns_same (suc n) zero low high a b = turn_end (suc n) low high (omega (arith, b))
  turns_same (suc n) (suc m) low high a b =
      by (cases_lt low high) (λ some. turns_same n m (middle_of low high + 1) high (omega (arith, a, some)) (omega (arith, b, some))) (λ some. turns_same n m low (middle_of low high) (omega (arith, a, some)) (omega (arith, b, some)))
    where
      Same : ℕ → ℕ → Type 0
      Same low high = entry_between n header body id low high ≡ entry_between m header body id low high

      by : (low < high) ⊎ (high ≤ low) → (low < high → Same (middle_of low high + 1) high) → (low < high → Same low (middle_of low high)) → entry_between (suc n) header body id low high ≡ entry_between (suc m) header body id low high
      by (inl some) up down = turn_on n low high some ∙ (λ i. turn_at header body id (middle_of low high) (up some i) (down some i)) ∙ sym (turn_on m low high some)
      by (inr none) up down = turn_end (suc n) low high none ∙ sym (turn_end (suc m) low high none)

  -- ---- what the entry in the middle decides

  pub turn_bad : (i : ℕ) (above below : Answer) → is_entry header (entry_at header body i) ≡ false → turn_at header body id i above below ≡ Err (entry_place header i)
  turn_bad i above below bad = rw bad refl

  pub turn_up : (i : ℕ) (above below : Answer) → is_entry header (entry_at header body i) ≡ true → is_node_below (entry_at header body i).node id ≡ true → turn_at header body id i above below ≡ above
  turn_up i above below good low = rw (good, low) refl

  pub turn_down : (i : ℕ) (above below : Answer) → is_entry header (entry_at header body i) ≡ true → is_node_below id (entry_at header body i).node ≡ true → turn_at header body id i above below ≡ below
  turn_down i above below good high = rw (good, below-asym id (entry_at header body i).node high, high) refl

  pub turn_found : (i : ℕ) (above below : Answer) → is_entry header (entry_at header body i) ≡ true → (entry_at header body i).node ≡ id → turn_at header body id i above below ≡ Ok (Some i)
  turn_found i above below good same =
      let low : is_node_below (entry_at header body i).node id ≡ false = ap (λ n. is_node_below n id) same ∙ is_node_below-self id in
      let high : is_node_below id (entry_at header body i).node ≡ false = ap (is_node_below id) same ∙ is_node_below-self id in
      rw (good, low, high) refl

  -- ---- from one interval to the next, with as many turns as it has numbers

  abbrev pub Left : ℕ → ℕ → Answer
  Left low high = entry_between (high - low) header body id low high

  left_on : (low high : ℕ) → low < high → Left low high ≡ turn_at header body id (middle_of low high) (Left (middle_of low high + 1) high) (Left low (middle_of low high))
  left_on low high some =
      let n : ℕ = high - low - 1 in
      let more : high - low ≡ suc n = omega (arith, some) in
      let up = turns_same n (high - (middle_of low high + 1)) (middle_of low high + 1) high (omega (arith, some)) (omega arith) in
      let down = turns_same n (middle_of low high - low) low (middle_of low high) (omega (arith, some)) (omega arith) in
      ap (λ k. entry_between k header body id low high) more ∙ turn_on n low high some ∙ (λ i. turn_at header body id (middle_of low high) (up i) (down i))

  pub left_none : (low high : ℕ) → high ≤ low → Left low high ≡ Ok None
  left_none low high none = turn_end (high - low) low high none

  pub left_bad : (low high : ℕ) → low < high → is_entry header (entry_at header body (middle_of low high)) ≡ false → Left low high ≡ Err (entry_place header (middle_of low high))
  left_bad low high some bad = left_on low high some ∙ turn_bad (middle_of low high) (Left (middle_of low high + 1) high) (Left low (middle_of low high)) bad

  pub left_up : (low high : ℕ) → low < high → is_entry header (entry_at header body (middle_of low high)) ≡ true → is_node_below (entry_at header body (middle_of low high)).node id ≡ true → Left low high ≡ Left (middle_of low high + 1) high
  left_up low high some good lower = left_on low high some ∙ turn_up (middle_of low high) (Left (middle_of low high + 1) high) (Left low (middle_of low high)) good lower

  pub left_down : (low high : ℕ) → low < high → is_entry header (entry_at header body (middle_of low high)) ≡ true → is_node_below id (entry_at header body (middle_of low high)).node ≡ true → Left low high ≡ Left low (middle_of low high)
  left_down low high some good higher = left_on low high some ∙ turn_down (middle_of low high) (Left (middle_of low high + 1) high) (Left low (middle_of low high)) good higher

  pub left_found : (low high : ℕ) → low < high → is_entry header (entry_at header body (middle_of low high)) ≡ true → (entry_at header body (middle_of low high)).node ≡ id → Left low high ≡ Ok (Some (middle_of low high))
  left_found low high some good same = left_on low high some ∙ turn_found (middle_of low high) (Left (middle_of low high + 1) high) (Left low (middle_of low high)) good same

  -- ---- where the entries ascend

  -- up to the number of a node all entries may stand and name lower nodes, and from it on higher ones; but for its own, where there is one
  pub record AreAround (number own : ℕ) : Type 0 where
    pub good : (i : ℕ) → i < header.nodes → is_entry header (entry_at header body i) ≡ true
    pub below : (i : ℕ) → i < number → i < header.nodes → is_node_below (entry_at header body i).node id ≡ true
    pub at : (i : ℕ) → number ≤ i → i < number + own → (entry_at header body i).node ≡ id
    pub above : (i : ℕ) → number + own ≤ i → i < header.nodes → is_node_below id (entry_at header body i).node ≡ true

  abbrev pub answer : ℕ → ℕ → Answer
  answer number zero = Ok None
  answer number (suc own) = Ok (Some number)

  module _ (number own : ℕ) (around : AreAround number own) (few : own ≤ 1) where
    found_none : (n low high : ℕ) → high ≤ low → low ≤ number → number + own ≤ high → entry_between n header body id low high ≡ answer number own
    found_none n low high none left right = let no_own : own ≡ 0 = omega (arith, none, left, right) in turn_end n low high none ∙ sym (ap (answer number) no_own)

    found : (n low high : ℕ) → high - low ≤ n → low ≤ number → number + own ≤ high → high ≤ header.nodes → entry_between n header body id low high ≡ answer number own
    found zero low high enough left right up = found_none 0 low high (omega (arith, enough)) left right
    found (suc n) low high enough left right up =
        by (cases_lt low high) (λ some lower. found n (middle_of low high + 1) high (omega (arith, enough, some)) (omega (arith, lower)) right up)
        (λ some higher. found n low (middle_of low high) (omega (arith, enough, some)) left higher (omega (arith, some, up)))
      where
        i : ℕ
        i = middle_of low high

        above : Answer
        above = entry_between n header body id (i + 1) high

        below : Answer
        below = entry_between n header body id low i

        turned : i < header.nodes → (i < number → above ≡ answer number own) → (number + own ≤ i → below ≡ answer number own) → (i < number) ⊎ (number ≤ i) → (i < number + own) ⊎ (number + own ≤ i)
            → turn_at header body id i above below ≡ answer number own
        turned there up down (inl lower) rest = turn_up i above below (around.good i there) (around.below i lower there) ∙ up lower
        turned there up down (inr not_lower) (inl not_higher) =
            let one : own ≡ 1 = omega (arith, not_lower, not_higher, few) in
            let same : i ≡ number = omega (arith, not_lower, not_higher, few) in
            turn_found i above below (around.good i there) (around.at i not_lower not_higher) ∙ ap (λ k. Ok (Some k)) same ∙ sym (ap (answer number) one)
        turned there up down (inr not_lower) (inr higher) = turn_down i above below (around.good i there) (around.above i higher there) ∙ down higher

        by : (low < high) ⊎ (high ≤ low) → (low < high → i < number → above ≡ answer number own) → (low < high → number + own ≤ i → below ≡ answer number own) → entry_between (suc n) header body id low high ≡ answer number own
        by (inl some) up_on down_on = turn_on n low high some ∙ turned (omega (arith, some, up)) (up_on some) (down_on some) (cases_lt i number) (cases_lt i (number + own))
        by (inr none) up_on down_on = found_none (suc n) low high none left right

    pub around_sought : number + own ≤ header.nodes → sought_entry header body id ≡ answer number own
    around_sought within = found header.nodes 0 header.nodes (omega arith) (omega arith) within (omega arith)

-- ---- by what an eye tells

-- what is left of a search between two numbers comes to what the whole one does
abbrev pub IsLeft : Option Image → Part → NodeId → ℕ → ℕ → Type 0
IsLeft known p id low high = IfTold known p (λ body. sought_entry p.header body id ≡ Left p.header body id low high)

pub all_left : (known : Option Image) (p : Part) (id : NodeId) → IsLeft known p id 0 p.header.nodes
all_left known p id =
    each_told (λ image. sought_entry p.header (body_in image p.region p.header) id ≡ Left p.header (body_in image p.region p.header) id 0 p.header.nodes) known
    (λ image t. let all : p.header.nodes ≡ p.header.nodes - 0 = omega arith in ap (λ k. entry_between k p.header (body_in image p.region p.header) id 0 p.header.nodes) all)

pub comes_to_none : (known : Option Image) (p : Part) (id : NodeId) (low high : ℕ) → high ≤ low → IsLeft known p id low high → IfTold known p (λ body. sought_entry p.header body id ≡ Ok None)
comes_to_none known p id low high none is =
    each_told (λ image. sought_entry p.header (body_in image p.region p.header) id ≡ Ok None) known
    (λ image t. told_as (λ j. sought_entry p.header (body_in j p.region p.header) id ≡ Left p.header (body_in j p.region p.header) id low high) known image t is ∙ left_none p.header (body_in image p.region p.header) id low high none)

module _ (known : Option Image) (p : Part) (id : NodeId) (low high : ℕ) (some : low < high) (is : IsLeft known p id low high) where
  abbrev BodyOf : Image → List ℕ
  BodyOf image = body_in image p.region p.header

  left_of : (image : Image) → known ≡ Some image → sought_entry p.header (BodyOf image) id ≡ Left p.header (BodyOf image) id low high
  left_of image t = told_as (λ j. sought_entry p.header (BodyOf j) id ≡ Left p.header (BodyOf j) id low high) known image t is

  module _ (entry : IndexEntry) (e : IsEntryAt known p (middle_of low high) entry) where
    told_of : (image : Image) → known ≡ Some image → entry_at p.header (BodyOf image) (middle_of low high) ≡ model_of entry
    told_of image t = told_as (λ j. entry_at p.header (BodyOf j) (middle_of low high) ≡ model_of entry) known image t e.told

    good_of : (image : Image) → known ≡ Some image → is_entry p.header (entry_at p.header (BodyOf image) (middle_of low high)) ≡ true
    good_of image t = ap (is_entry p.header) (told_of image t) ∙ e.sound

    pub goes_up : is_node_below entry.node id ≡ true → IsLeft known p id (middle_of low high + 1) high
    goes_up lower =
        each_told (λ image. sought_entry p.header (BodyOf image) id ≡ Left p.header (BodyOf image) id (middle_of low high + 1) high) known
        (λ image t. left_of image t ∙ left_up p.header (BodyOf image) id low high some (good_of image t) (ap (λ m. is_node_below m.node id) (told_of image t) ∙ lower))

    pub goes_down : is_node_below id entry.node ≡ true → IsLeft known p id low (middle_of low high)
    goes_down higher =
        each_told (λ image. sought_entry p.header (BodyOf image) id ≡ Left p.header (BodyOf image) id low (middle_of low high)) known
        (λ image t. left_of image t ∙ left_down p.header (BodyOf image) id low high some (good_of image t) (ap (λ m. is_node_below id m.node) (told_of image t) ∙ higher))

    pub comes_to : entry.node ≡ id → IfTold known p (λ body. sought_entry p.header body id ≡ Ok (Some (middle_of low high)))
    comes_to same =
        each_told (λ image. sought_entry p.header (BodyOf image) id ≡ Ok (Some (middle_of low high))) known
        (λ image t. left_of image t ∙ left_found p.header (BodyOf image) id low high some (good_of image t) (ap (λ m. m.node) (told_of image t) ∙ same))

    pub comes_to_bad : (at : ℕ) → entry.node ≡ id → IfTold known p (λ body. span_at p.header body (middle_of low high) ≡ Err at) → MeetsBad known p id at
    comes_to_bad at same bad =
        each_told (λ image. (sought_entry p.header (BodyOf image) id ≡ Err at) ⊎ ((i : ℕ) × (sought_entry p.header (BodyOf image) id ≡ Ok (Some i)) × (span_at p.header (BodyOf image) i ≡ Err at))) known
        (λ image t. inr (middle_of low high, told_as (λ j. sought_entry p.header (BodyOf j) id ≡ Ok (Some (middle_of low high))) known image t (comes_to same), told_as (λ j. span_at p.header (BodyOf j) (middle_of low high) ≡ Err at) known image t bad))

  pub meets_none : (at : ℕ) → IsNoEntryAt known p (middle_of low high) at → MeetsBad known p id at
  meets_none at n =
      each_told (λ image. (sought_entry p.header (BodyOf image) id ≡ Err at) ⊎ ((i : ℕ) × (sought_entry p.header (BodyOf image) id ≡ Ok (Some i)) × (span_at p.header (BodyOf image) i ≡ Err at))) known
      (λ image t. inl (left_of image t ∙ left_bad p.header (BodyOf image) id low high some (told_as (λ j. is_entry p.header (entry_at p.header (BodyOf j) (middle_of low high)) ≡ false) known image t n.told) ∙ ap Err (sym n.place)))

-- an entry that was read names its node
pub named : (known : Option Image) (p : Part) (id : NodeId) (i : ℕ) (entry : IndexEntry) → IsEntryAt known p i entry → entry.node ≡ id → IfTold known p (λ body. (entry_at p.header body i).node ≡ id)
named known p id i entry e same =
    each_told (λ image. (entry_at p.header (body_in image p.region p.header) i).node ≡ id) known
    (λ image t. ap (λ m. m.node) (told_as (λ j. entry_at p.header (body_in j p.region p.header) i ≡ model_of entry) known image t e.told) ∙ same)
