-- One more pair is seen.
use Rattle.std.proofs.Common.{◌≡◌, ℕ, ◌<◌, ◌≤◌, nat_lt, Bool, true, false, if◌then◌else◌, List, [], ◌∷◌, ◌++◌, Option, Some, None, slice_get, IfSome, inl, inr, refl, sym, ap, subst, ◌∙◌, append_assoc, arith}
use Rattle.std.proofs.lemmas.Bool.{ltb-true, ltb-false}
use Rattle.std.specs.List.{AllByRecursion}
use Rattle.fine_model.specs.declared.Part.{Part}
use Rattle.fine_model.proofs.Ordered.Order.{all_map}
use Rattle.fine_model.proofs.Ordered.Sets.{all_append}
use Rattle.merge_policy.specs.declared.figures.Aim.{Aim}
use Rattle.merge_policy.specs.declared.figures.Aim.TheVariants as aim
use Rattle.merge_policy.specs.declared.policy.Choice.{Choice}
use Rattle.merge_policy.specs.Choices.{Question, IsBest, IsOlder, NoneServes, Picks, PicksBest, low_aims, neighbours, rank_for, serves_for, short_aims, with_next}
use Rattle.merge_policy.specs.Steps.{BestSoFar, IsBestChoice, better, choice_if, choice_of}

abbrev Pairs : Type 0
Pairs = List (Part × Part)

-- no better one, among the pairs that serve
abbrev NotBetter : Question → Aim → ℕ → Part × Part → Type 0
NotBetter q aim most other = serves_for q aim other ≡ true → most ≤ rank_for q aim other

abbrev Worse : Question → Aim → ℕ → Part × Part → Type 0
Worse q aim most other = serves_for q aim other ≡ true → most < rank_for q aim other

-- what holds of each of the pairs holds of a best one and of those around it
not_better : (q : Question) (aim : Aim) (pairs : Pairs) (two : Part × Part) (most : ℕ) → IsBest q aim pairs two → most ≤ rank_for q aim two → AllByRecursion (NotBetter q aim most) pairs
not_better q aim pairs two most best low =
    let older : AllByRecursion (NotBetter q aim most) best.before = all_map (NotBetter q aim (rank_for q aim two)) (NotBetter q aim most) (λ other no serves. let at : rank_for q aim two ≤ rank_for q aim other = no serves in omega arith) best.before best.older in
    let newer : AllByRecursion (NotBetter q aim most) best.behind = all_map (Worse q aim (rank_for q aim two)) (NotBetter q aim most) (λ other no serves. let at : rank_for q aim two < rank_for q aim other = no serves in omega arith) best.behind best.newer in
    subst (AllByRecursion (NotBetter q aim most)) (sym best.stands) (all_append (NotBetter q aim most) best.before (two ∷ best.behind) older ((λ serves. low), newer))

-- a best one stays the best before one that is worse or does not serve
stays : (q : Question) (aim : Aim) (pairs : Pairs) (choice : Choice) (two : Part × Part) → IsBestChoice q aim pairs choice → Worse q aim choice.rank two → IsBestChoice q aim (pairs ++ two ∷ []) choice
stays q aim pairs choice two is worse = record {
  two = is.two;
  best = record {
    before = is.best.before;
    behind = is.best.behind ++ two ∷ [];
    stands = ap (λ ps. ps ++ two ∷ []) is.best.stands ∙ append_assoc is.best.before (is.two ∷ is.best.behind) (two ∷ []);
    serving = is.best.serving;
    older = is.best.older;
    newer = all_append (Worse q aim (rank_for q aim is.two)) is.best.behind (two ∷ []) is.best.newer (subst (λ r. Worse q aim r two) is.rank worse, tt);
  };
  first = is.first;
  rank = is.rank;
}

-- one that serves is the best where none before it is better
becomes : (q : Question) (aim : Aim) (pairs : Pairs) (two : Part × Part) → serves_for q aim two ≡ true → AllByRecursion (NotBetter q aim (rank_for q aim two)) pairs → IsBestChoice q aim (pairs ++ two ∷ []) (record { first = two.0.header.range.first; rank = rank_for q aim two })
becomes q aim pairs two serves none = record {
  two = two;
  best = record { before = pairs; behind = []; stands = refl; serving = serves; older = none; newer = tt };
  first = refl;
  rank = refl;
}

pub with_one : (q : Question) (aim : Aim) (pairs : Pairs) (best : Option Choice) (two : Part × Part) → BestSoFar q aim pairs best → BestSoFar q aim (pairs ++ two ∷ []) (better best (choice_of q aim two))
with_one q aim pairs best two = by (serves_for q aim two) refl best
  where
    of_two : ℕ → (Part × Part) → Choice
    of_two r two = record { first = two.0.header.range.first; rank = r }

    closer : (choice : Choice) (b : Bool) → nat_lt choice.rank (rank_for q aim two) ≡ b → serves_for q aim two ≡ true → IsBestChoice q aim pairs choice → IsBestChoice q aim (pairs ++ two ∷ []) (if b then choice else record { first = two.0.header.range.first; rank = rank_for q aim two })
    closer choice true lower serves is = stays q aim pairs choice two is (λ _. ltb-true choice.rank (rank_for q aim two) lower)
    closer choice false lower serves is =
        let at : rank_for q aim two ≤ choice.rank = ltb-false choice.rank (rank_for q aim two) lower in
        becomes q aim pairs two serves (not_better q aim pairs is.two (rank_for q aim two) is.best (subst (λ r. rank_for q aim two ≤ r) is.rank at))

    by : (b : Bool) → serves_for q aim two ≡ b → (best : Option Choice) → BestSoFar q aim pairs best → BestSoFar q aim (pairs ++ two ∷ []) (better best (choice_if q aim two b))
    by false serves None none = all_append (λ other. serves_for q aim other ≡ false) pairs (two ∷ []) none (serves, tt)
    by false serves (Some choice) is = stays q aim pairs choice two is (λ yes. absurd (let e : false ≡ true = sym serves ∙ yes in cc))
    by true serves None none = becomes q aim pairs two serves (all_map (λ other. serves_for q aim other ≡ false) (NotBetter q aim (rank_for q aim two)) (λ other not yes. absurd (let e : false ≡ true = sym not ∙ yes in cc)) pairs none)
    by true serves (Some choice) is = closer choice (nat_lt choice.rank (rank_for q aim two)) refl serves is

pub with_front : (older newer : Part) (behind : List Part) → slice_get behind 0 ≡ Some newer → with_next older behind ≡ (older, newer) ∷ []
with_front older newer [] is = absurd cc
with_front older newer (part ∷ parts) is = let e : part ≡ newer = cc in ap (λ p. (older, p) ∷ []) e

-- a pair of neighbours stands in the chain
cut : (parts : List Part) (before behind : Pairs) (two : Part × Part) → neighbours parts ≡ before ++ two ∷ behind → (front rest : List Part) × (parts ≡ front ++ two.0 ∷ two.1 ∷ rest)
cut [] [] behind two is = absurd cc
cut [] (other ∷ before) behind two is = absurd cc
cut (part ∷ []) [] behind two is = absurd cc
cut (part ∷ []) (other ∷ before) behind two is = absurd cc
cut (part ∷ next ∷ parts) [] behind two is = let e : (part, next) ≡ two = cc in ([], parts, ap (λ t. t.0 ∷ t.1 ∷ parts) e)
cut (part ∷ next ∷ parts) (other ∷ before) behind two is =
    let left : neighbours (next ∷ parts) ≡ before ++ two ∷ behind = cc in
    let rest = cut (next ∷ parts) before behind two left in
    (part ∷ rest.0, rest.1, ap (λ ps. part ∷ ps) rest.2)

best_older : (q : Question) (aim : Aim) (parts : List Part) (first : ℕ) → PicksBest q aim (neighbours parts) first → IsOlder parts first
best_older q aim parts first picks =
    let there = cut parts picks.best.before picks.best.behind picks.two picks.best.stands in
    record { before = there.0; older = picks.two.0; newer = picks.two.1; behind = there.1; stands = there.2; is = picks.is }

-- what is picked is the first epoch of a part that is not the last
some_older : (q : Question) (parts : List Part) (aims : List Aim) (first : ℕ) → Picks q (neighbours parts) aims (Some first) → IsOlder parts first
some_older q parts [] first picks = absurd cc
some_older q parts (aim ∷ aims) first (inl best) = best_older q aim parts first best
some_older q parts (aim ∷ aims) first (inr others) = some_older q parts aims first others.1

pub picks_older : (q : Question) (parts : List Part) (aims : List Aim) (answer : Option ℕ) → Picks q (neighbours parts) aims answer → IfSome answer (IsOlder parts)
picks_older q parts aims None picks = tt
picks_older q parts aims (Some first) picks = some_older q parts aims first picks

abbrev aims_by : Bool → Bool → List Aim
aims_by low short = low_aims low ++ short_aims short

pub picks_none : (q : Question) (pairs : Pairs) (low short : Bool) (answer : Option ℕ) → Picks q pairs (aims_by low short) answer → low ≡ false → short ≡ false → answer ≡ None
picks_none q pairs true short answer picks l s = absurd cc
picks_none q pairs false true answer picks l s = absurd cc
picks_none q pairs false false answer picks l s = picks

pub none_fits : (q : Question) (pairs : Pairs) (low short : Bool) (answer : Option ℕ) → Picks q pairs (aims_by low short) answer → short ≡ true → answer ≡ None → NoneServes q aim.Fit pairs
none_fits q pairs low false answer picks s n = absurd cc
none_fits q pairs low true (Some first) picks s n = absurd cc
none_fits q pairs true true None picks s n = picks.1.1.1.0
none_fits q pairs false true None picks s n = picks.1.0
