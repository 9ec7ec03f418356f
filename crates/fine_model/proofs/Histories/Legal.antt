-- What calls in order push, and what a legal history leaves.
use Rattle.std.proofs.Common.{◌≡◌, ℕ, zero, suc, ◌<◌, ◌≤◌, nat_le, Bool, true, false, cond, List, [], ◌∷◌, ◌++◌, length, take, slice_get, refl, sym, ap, ◌∙◌, subst, Some, Ok, Err, arith, append-nil, append_assoc, le-leb, le_trans}
use Rattle.std.specs.Prelude.{Result}
use Rattle.std.proofs.lemmas.Bool.{leb-true}
use Rattle.std.proofs.lemmas.Grind.{flat_map-append}
use Rattle.std.proofs.lemmas.List.{take-append-le}
use Rattle.std.proofs.lemmas.List.Sums.{take_while-cons}
use Rattle.fine_model.specs.Types.{Row, Why}
use Rattle.fine_model.specs.Map.{Pair, map_after}
use Rattle.fine_model.specs.Store.{answer, after_call, writes_of}
use Rattle.fine_model.specs.Pushed.{pushed, all_pushed, and_then}
use Rattle.fine_model.specs.Trees.{IsSound, map_of}
use Rattle.fine_model.specs.History.{Commit, IsNext, IsLegal, all_rows, all_writes, map_at, upto}
use Rattle.fine_model.specs.Laws.{AreSmall, HasMap, IsPushed, AllPushedLaw, LegalFront, LegalMap, FrontLaw, GrowthLaw}
use Rattle.fine_model.proofs.Histories.HistoryLaws.{map_after-append}
use Rattle.fine_model.proofs.Trees.SetLaw.{pushed_law}

nothing_more : (rows : List Row) → AreSmall rows → IsSound rows → IsPushed rows [] (map_of rows)
nothing_more rows small sound = record {
  has_map = record { sound = subst IsSound (sym (append-nil rows)) sound; map = ap map_of (append-nil rows) };
  small = subst AreSmall (sym (append-nil rows)) small;
}

-- more rows, on top of rows that were pushed
on_top : (rows one more : List Row) (m m' : List Pair) → IsPushed (rows ++ one) more m' → m' ≡ m → IsPushed rows (one ++ more) m
on_top rows one more m m' p e = record {
  has_map = subst (λ rs. HasMap rs m) (append_assoc rows one more) (subst (HasMap ((rows ++ one) ++ more)) e p.has_map);
  small = subst AreSmall (append_assoc rows one more) p.small;
}

pub all_pushed_law : AllPushedLaw
unfolding all_pushed writes_of map_after
all_pushed_law rows new [] small sound is = let e : [] ≡ new = cc in subst (λ r. IsPushed rows r (map_of rows)) e (nothing_more rows small sound)
all_pushed_law rows new (c ∷ cs) small sound is = by (pushed rows c) refl is (λ one more small' sound' is'. all_pushed_law (rows ++ one) more cs small' sound' is')
  where
    m : List Pair
    m = map_of rows

    by : (r : Result (List Row) Why) → pushed rows c ≡ r → and_then r (λ one. and_then (all_pushed (rows ++ one) cs) (λ more. Ok (one ++ more))) ≡ Ok new
        → ((one more : List Row) → AreSmall (rows ++ one) → IsSound (rows ++ one) → all_pushed (rows ++ one) cs ≡ Ok more
        → IsPushed (rows ++ one) more (map_after (map_of (rows ++ one)) (writes_of (map_of (rows ++ one)) cs)))
        → IsPushed rows new (map_after m ((answer m c).1 ++ writes_of (after_call m c) cs))
    by (Err why) e is rest = absurd (cc)
    by (Ok one) e is rest = of (all_pushed (rows ++ one) cs) refl is
      where
        first : IsPushed rows one (after_call m c)
        first = pushed_law rows one c small sound e

        of : (r : Result (List Row) Why) → all_pushed (rows ++ one) cs ≡ r → and_then r (λ more. Ok (one ++ more)) ≡ Ok new → IsPushed rows new (map_after m ((answer m c).1 ++ writes_of (after_call m c) cs))
        of (Err why) e' is' = absurd (cc)
        of (Ok more) e' is' =
            let f = first in let h = f.has_map in
            let joined : one ++ more ≡ new = cc in
            subst (λ r. IsPushed rows r (map_after m ((answer m c).1 ++ writes_of (after_call m c) cs))) joined
            (on_top rows one more (map_after m ((answer m c).1 ++ writes_of (after_call m c) cs)) (map_after (map_of (rows ++ one)) (writes_of (map_of (rows ++ one)) cs))
            (rest one more f.small h.sound e') (ap (λ n. map_after n (writes_of n cs)) h.map ∙ sym (map_after-append m (answer m c).1 (writes_of (after_call m c) cs))))

-- the items of a front
slice_get-front : {A : Type 0} (xs ys : List A) (k : ℕ) (x : A) → slice_get xs k ≡ Some x → (slice_get (xs ++ ys) k ≡ Some x) × (k < length xs)
slice_get-front [] ys k x is = absurd (cc)
slice_get-front (y ∷ xs) ys zero x is = (is, omega arith)
slice_get-front (y ∷ xs) ys (suc k) x is = let r = slice_get-front xs ys k x is in (r.0, let l = r.1 in omega (arith, l))

pub legal_front : LegalFront
legal_front first before after legal = record {
  each = λ k c is. let r = slice_get-front before after k c is in let l = r.1 in
      subst (λ h. IsNext first h c) (take-append-le k before after (omega (arith, l))) (legal.each k c r.0);
}

-- a history item by item, from its end
pub taken : {A : Type 0} (xs : List A) (n : ℕ) → n < length xs → (x : A) × (slice_get xs n ≡ Some x) × (take (suc n) xs ≡ take n xs ++ x ∷ [])
taken [] n h = absurd (omega (arith, h))
taken (x ∷ xs) zero h = (x, refl, refl)
taken (x ∷ xs) (suc n) h = let r = taken xs n (omega (arith, h)) in (r.0, r.1, ap (λ ys. x ∷ ys) r.2)

module _ (first : List Row) (small : AreSmall first) (sound : IsSound first) where
  pub legal_from : (history : List Commit) → IsLegal first history → (n : ℕ) → n ≤ length history → IsPushed first (all_rows (take n history)) (map_at first (take n history))
  unfolding map_after
  legal_from history legal zero h = nothing_more first small sound
  legal_from history legal (suc n) h = by (taken history n (omega (arith, h))) (legal_from history legal n (omega (arith, h)))
    where
      by : (c : Commit) × (slice_get history n ≡ Some c) × (take (suc n) history ≡ take n history ++ c ∷ []) → IsPushed first (all_rows (take n history)) (map_at first (take n history))
          → IsPushed first (all_rows (take (suc n) history)) (map_at first (take (suc n) history))
      by (c, is, more) before = subst (λ hs. IsPushed first (all_rows hs) (map_at first hs)) (sym more) one_more
        where
          past : List Commit
          past = take n history

          next : IsNext first past c
          next = legal.each n c is

          m : List Pair
          m = map_of (first ++ all_rows past)

          pushes : IsPushed (first ++ all_rows past) c.entry.rows (map_after m (writes_of m c.entry.calls))
          pushes = let h = before.has_map in all_pushed_law (first ++ all_rows past) c.entry.rows c.entry.calls before.small h.sound next.rows

          one_more : IsPushed first (all_rows (past ++ c ∷ [])) (map_at first (past ++ c ∷ []))
          one_more =
              let h = before.has_map in
              subst (λ rs. IsPushed first rs (map_at first (past ++ c ∷ []))) (sym (flat_map-append (λ d. d.entry.rows) past (c ∷ []) ∙ ap (λ rs. all_rows past ++ rs) (append-nil c.entry.rows)))
              (on_top first (all_rows past) c.entry.rows (map_at first (past ++ c ∷ [])) (map_after m (writes_of m c.entry.calls)) pushes
              (ap (λ x. map_after x (writes_of x c.entry.calls)) h.map ∙ ap (map_after (map_at first past)) (sym next.writes)
              ∙ sym (ap (map_after (map_of first)) (flat_map-append (λ d. d.entry.writes) past (c ∷ []) ∙ ap (λ ws. all_writes past ++ ws) (append-nil c.entry.writes))
              ∙ map_after-append (map_of first) (all_writes past) c.entry.writes)))

pub all_taken : {A : Type 0} (xs : List A) → take (length xs) xs ≡ xs
all_taken [] = refl
all_taken (x ∷ xs) = ap (λ ys. x ∷ ys) (all_taken xs)

pub legal_map : LegalMap
legal_map first history small sound legal =
    subst (λ h. IsPushed first (all_rows h) (map_at first h)) (all_taken history) (legal_from first small sound history legal (length history) (omega arith))

pub front_law : FrontLaw
unfolding upto
front_law [] e = ([], refl)
front_law (c ∷ history) e = by (nat_le c.epoch e) refl (front_law history e)
  where
    by : (b : Bool) → nat_le c.epoch e ≡ b → (rest : List Commit) × (history ≡ upto history e ++ rest) → (rest : List Commit) × (c ∷ history ≡ upto (c ∷ history) e ++ rest)
    by true is r = (r.0, ap (λ h. c ∷ h) r.1 ∙ ap (λ h. h ++ r.0) (sym (take_while-cons (λ d. nat_le d.epoch e) c history ∙ ap (λ b. cond b (c ∷ upto history e) []) is)))
    by false is r = (c ∷ history, ap (λ h. h ++ c ∷ history) (sym (take_while-cons (λ d. nat_le d.epoch e) c history ∙ ap (λ b. cond b (c ∷ upto history e) []) is)))

pub growth_law : GrowthLaw
unfolding upto
growth_law [] e e' h = ([], refl)
growth_law (c ∷ history) e e' h = by (nat_le c.epoch e) refl (growth_law history e e' h)
  where
    more : (f : ℕ) → upto (c ∷ history) f ≡ cond (nat_le c.epoch f) (c ∷ upto history f) []
    more f = take_while-cons (λ d. nat_le d.epoch f) c history

    by : (b : Bool) → nat_le c.epoch e ≡ b → (rest : List Commit) × (upto history e' ≡ upto history e ++ rest) → (rest : List Commit) × (upto (c ∷ history) e' ≡ upto (c ∷ history) e ++ rest)
    by true is r =
        let later : nat_le c.epoch e' ≡ true = le-leb c.epoch e' (le_trans (leb-true c.epoch e is) h) in
        (r.0, more e' ∙ ap (λ b. cond b (c ∷ upto history e') []) later ∙ ap (λ hs. c ∷ hs) r.1 ∙ ap (λ hs. hs ++ r.0) (sym (more e ∙ ap (λ b. cond b (c ∷ upto history e) []) is)))
    by false is r = (upto (c ∷ history) e', ap (λ hs. hs ++ upto (c ∷ history) e') (sym (more e ∙ ap (λ b. cond b (c ∷ upto history e) []) is)))
