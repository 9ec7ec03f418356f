-- The oldest young part as far as a walk from the youngest on has come.
use Rattle.std.proofs.Common.{◌≡◌, ◌∙◌, ℕ, ◌+◌, ◌*◌, ◌<◌, ◌≤◌, nat_le, Bool, true, false, ◌&&◌, if◌then◌else◌, List, [], ◌∷◌, ◌++◌, length, Option, Some, None, refl, sym, ap, arith, append-nil, append_assoc}
use Rattle.std.specs.List.{sum_by}
use Rattle.std.proofs.lemmas.List.Sums.{sum_by-append, sum_by-cons}
use Rattle.fine_model.specs.declared.Part.{Part}
use Rattle.merge_policy.specs.Figures.{part_len}
use Rattle.merge_policy.specs.Young.{is_young, young_from}

-- a part more is seen
pub one_more : (most : ℕ) (part : Part) (behind : List Part) (b : Bool) → is_young most part behind ≡ b → young_from most (part ∷ behind) ≡ (if b then Some part.header.range.first else young_from most behind)
unfolding young_from
one_more most part behind b is = ap (λ (t : Bool). if t then Some part.header.range.first else young_from most behind) is

too_long : (b c : Bool) (m n : ℕ) → n < m → (b && (c && nat_le m n)) ≡ false
too_long b c m n h = grind (arith, h)

-- where all that was seen and one part more are too long, so are those with more parts before them
pub none_longer : (most : ℕ) (front : List Part) (part : Part) (behind : List Part) → most < part_len part + sum_by part_len behind → young_from most (front ++ part ∷ behind) ≡ young_from most behind
unfolding young_from
none_longer most [] part behind long = one_more most part behind false (too_long (nat_le 3 (length behind)) (nat_le (2 * part_len part) (3 * sum_by part_len behind)) (part_len part + sum_by part_len behind) most long)
none_longer most (p ∷ front) part behind long =
    let all : sum_by part_len (front ++ part ∷ behind) ≡ sum_by part_len front + (part_len part + sum_by part_len behind) = sum_by-append part_len front (part ∷ behind) ∙ ap (λ n. sum_by part_len front + n) (sum_by-cons part_len part behind) in
    one_more most p (front ++ part ∷ behind) false
    (too_long (nat_le 3 (length (front ++ part ∷ behind))) (nat_le (2 * part_len p) (3 * sum_by part_len (front ++ part ∷ behind))) (part_len p + sum_by part_len (front ++ part ∷ behind)) most (omega (arith, all, long)))
    ∙ none_longer most front part behind long

-- the parts that were seen from the youngest on, their length and number, and the oldest young one of them
pub record IsSeen (most : ℕ) (parts left : List Part) (behind count : ℕ) (oldest : Option ℕ) : Type 0 where
  pub seen : List Part
  pub whole : parts ≡ left ++ seen
  pub behind_is : behind ≡ sum_by part_len seen
  pub within : behind ≤ most
  pub count_is : count ≡ length seen
  pub oldest_is : oldest ≡ young_from most seen

pub none_seen : (most : ℕ) (parts : List Part) → IsSeen most parts parts 0 0 None
unfolding young_from
none_seen most parts = record { seen = []; whole = sym (append-nil parts); behind_is = refl; within = omega arith; count_is = refl; oldest_is = refl }

-- a part that is too long with all that were seen ends the walk
pub seen_all : (most : ℕ) (parts left : List Part) (behind count : ℕ) (oldest : Option ℕ) (s : IsSeen most parts left behind count oldest) (before : List Part) (part : Part) → left ≡ before ++ part ∷ [] → (len : ℕ) → len ≡ part_len part → most < behind + len
    → oldest ≡ young_from most parts
seen_all most parts left behind count oldest s before part is len len_is long =
    s.oldest_is ∙ sym (none_longer most before part s.seen (let e = s.behind_is in omega (arith, e, long, len_is)))
    ∙ ap (young_from most) (sym (s.whole ∙ ap (λ ps. ps ++ s.seen) is ∙ append_assoc before (part ∷ []) s.seen))

fits : (b c : Bool) (m n : ℕ) → m ≤ n → (b && (c && nat_le m n)) ≡ (b && c)
fits true true m n h = grind (arith, h)
fits true false m n h = refl
fits false c m n h = refl

pub seen_more : (most : ℕ) (parts left : List Part) (behind count : ℕ) (oldest : Option ℕ) (s : IsSeen most parts left behind count oldest) (before : List Part) (part : Part) → left ≡ before ++ part ∷ [] → (len : ℕ) → len ≡ part_len part → behind + len ≤ most
    → (next : Option ℕ) → next ≡ (if nat_le 3 count && nat_le (2 * len) (3 * behind) then Some part.header.range.first else oldest) → IsSeen most parts before (behind + len) (count + 1) next
seen_more most parts left behind count oldest s before part is len len_is short next next_is = record {
  seen = part ∷ s.seen;
  whole = s.whole ∙ ap (λ ps. ps ++ s.seen) is ∙ append_assoc before (part ∷ []) s.seen;
  behind_is = let e = s.behind_is in let c = sum_by-cons part_len part s.seen in omega (arith, e, c, len_is);
  within = short;
  count_is = let e = s.count_is in omega (arith, e);
  oldest_is = next_is
      ∙ (λ i. if nat_le 3 (s.count_is i) && nat_le (2 * len_is i) (3 * s.behind_is i) then Some part.header.range.first else s.oldest_is i)
      ∙ ap (λ (t : Bool). if t then Some part.header.range.first else young_from most s.seen)
      (sym (fits (nat_le 3 (length s.seen)) (nat_le (2 * part_len part) (3 * sum_by part_len s.seen)) (part_len part + sum_by part_len s.seen) most (let e = s.behind_is in omega (arith, e, short, len_is))))
      ∙ sym (one_more most part s.seen (is_young most part s.seen) refl);
}
