-- The rows that calls push behind calls.
use Rattle.std.proofs.Common.{◌≡◌, List, [], ◌∷◌, ◌++◌, refl, sym, ap, ◌∙◌, append-nil, append_assoc, Ok, Err}
use Rattle.std.specs.Prelude.{Result}
use Rattle.fine_model.specs.Types.{Row, Why}
use Rattle.fine_model.specs.Pushed.{pushed, all_pushed, and_then}
use Rattle.fine_model.specs.Laws.{PushedBehind, PushedLast, PushedStops}

and_then_ok : (r : Result (List Row) Why) → and_then r (λ more. Ok ([] ++ more)) ≡ r
and_then_ok (Ok more) = refl
and_then_ok (Err why) = refl

twice : (r : Result (List Row) Why) (one own : List Row) → and_then (and_then r (λ more. Ok (own ++ more))) (λ more. Ok (one ++ more)) ≡ and_then r (λ more. Ok ((one ++ own) ++ more))
twice (Ok more) one own = ap Ok (sym (append_assoc one own more))
twice (Err why) one own = refl

-- what calls push behind calls
pub pushed_behind : PushedBehind
unfolding all_pushed
pushed_behind rows own [] ds is =
    let none : own ≡ [] = cc in
    sym (and_then_ok (all_pushed rows ds)) ∙ ap (λ rs. and_then (all_pushed rs ds) (λ more. Ok ([] ++ more))) (sym (append-nil rows)) ∙ ap (λ o. and_then (all_pushed (rows ++ o) ds) (λ more. Ok (o ++ more))) (sym none)
pushed_behind rows own (c ∷ cs) ds is = by (pushed rows c) is (λ one more is'. pushed_behind (rows ++ one) more cs ds is')
  where
    by : (r : Result (List Row) Why) → and_then r (λ one. and_then (all_pushed (rows ++ one) cs) (λ more. Ok (one ++ more))) ≡ Ok own
        → ((one more : List Row) → all_pushed (rows ++ one) cs ≡ Ok more → all_pushed (rows ++ one) (cs ++ ds) ≡ and_then (all_pushed ((rows ++ one) ++ more) ds) (λ rest. Ok (more ++ rest)))
        → and_then r (λ one. and_then (all_pushed (rows ++ one) (cs ++ ds)) (λ more. Ok (one ++ more))) ≡ and_then (all_pushed (rows ++ own) ds) (λ more. Ok (own ++ more))
    by (Err why) is rest = absurd cc
    by (Ok one) is rest = of (all_pushed (rows ++ one) cs) refl is
      where
        of : (r : Result (List Row) Why) → all_pushed (rows ++ one) cs ≡ r → and_then r (λ more. Ok (one ++ more)) ≡ Ok own
            → and_then (all_pushed (rows ++ one) (cs ++ ds)) (λ more. Ok (one ++ more)) ≡ and_then (all_pushed (rows ++ own) ds) (λ more. Ok (own ++ more))
        of (Err why) e is' = absurd cc
        of (Ok more) e is' =
            let joined : one ++ more ≡ own = cc in
            ap (λ r. and_then r (λ rest. Ok (one ++ rest))) (rest one more e)
            ∙ twice (all_pushed ((rows ++ one) ++ more) ds) one more
            ∙ ap (λ rs. and_then (all_pushed rs ds) (λ rest. Ok ((one ++ more) ++ rest))) (append_assoc rows one more)
            ∙ ap (λ o. and_then (all_pushed (rows ++ o) ds) (λ rest. Ok (o ++ rest))) joined

pub pushed_last : PushedLast
unfolding all_pushed
pushed_last rows own new cs c is one =
    pushed_behind rows own cs (c ∷ []) is
    ∙ ap (λ r. and_then (and_then r (λ n. and_then {A = List Row} {B = List Row} {E = Why} (Ok []) (λ more. Ok (n ++ more)))) (λ more. Ok (own ++ more))) one
    ∙ ap (λ n. Ok (own ++ n)) (append-nil new)

pub pushed_stops : PushedStops
unfolding all_pushed
pushed_stops rows own cs ds c why is err =
    pushed_behind rows own cs (c ∷ ds) is
    ∙ ap (λ r. and_then (and_then r (λ one. and_then (all_pushed ((rows ++ own) ++ one) ds) (λ more. Ok (one ++ more)))) (λ more. Ok (own ++ more))) err
