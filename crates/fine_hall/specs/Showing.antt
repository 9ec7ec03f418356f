-- What a view shows goes on, whatever its count is, once the history has an item of a later epoch more.
use Rattle.std.proofs.Common.{◌≡◌, ℕ, ◌<◌, ◌≤◌, nat_le, List, [], ◌∷◌, ◌++◌, sym, ap, ◌∙◌, subst, Option, Some, None, false, arith}
use Rattle.std.specs.Prelude.{take_while, flat_map}
use Rattle.std.proofs.lemmas.List.Sums.{take_while-cons}
use Rattle.std.proofs.lemmas.Grind.{flat_map-append}
use Rattle.std.proofs.lemmas.List.{append-nil}
use Rattle.fine_model.specs.declared.Entry.{Entry}
use Rattle.fine_model.specs.History.{Commit, all_rows, upto}
use Rattle.fine_model.specs.Nodes.{Agrees}
use Rattle.fine_boxes.specs.Boxes.{ShowsMore, ShowsAnyway, Lower}
use Rattle.fine_places.specs.declared.model.Placed.{Placed}
use Rattle.fine_hall.specs.declared.turn.Turn.{Turn}
use Rattle.fine_hall.specs.Turns.{added, committed, commits}
use Rattle.fine_hall.specs.Laws.{ShowsTurns, IsAbove, IsAboveEpoch}

is_later : (u e : ℕ) → u < e → nat_le e u ≡ false
is_later u e l = grind arith

upto_last : (u : ℕ) (h : List Commit) (c : Commit) → nat_le c.epoch u ≡ false → take_while (λ (d : Commit). nat_le d.epoch u) (h ++ c ∷ []) ≡ take_while (λ (d : Commit). nat_le d.epoch u) h
upto_last u [] c l = grind (arith, take_while-cons (λ (d : Commit). nat_le d.epoch u) c [])
upto_last u (d ∷ h) c l = grind (arith, take_while-cons (λ (d : Commit). nat_le d.epoch u) d (h ++ c ∷ []), take_while-cons (λ (d : Commit). nat_le d.epoch u) d h, upto_last u h c l)

added_later : (u epoch : ℕ) (o : Option Entry) (h : List Commit) → IsAboveEpoch u epoch o → upto (h ++ (added o epoch ++ [])) u ≡ upto h u
unfolding upto
added_later u epoch None h l = ap (λ (k : List Commit). upto k u) (append-nil h)
added_later u epoch (Some entry) h l = upto_last u h (committed entry epoch) (is_later u epoch l)

pub upto_more : (u : ℕ) (log : List (Placed Turn)) (t : Placed Turn) → IsAbove u t.item → upto (commits (log ++ t ∷ [])) u ≡ upto (commits log) u
unfolding commits
upto_more u log t l =
    ap (λ h. upto h u) (flat_map-append (λ (p : Placed Turn). added p.item.entry p.item.epoch) log (t ∷ []))
    ∙ added_later u t.item.epoch t.item.entry (flat_map (λ (p : Placed Turn). added p.item.entry p.item.epoch) log) l

pub shows_more : ShowsMore ShowsTurns IsAbove
shows_more x log t v above shows = record {
  region_len = shows.region_len;
  since = shows.since;
  tells = λ e first b. let s = shows.tells e first b in (s.0, s.1, subst (λ h. Agrees s.0 (first ++ all_rows h)) (sym (upto_more v.upto log t above)) s.2);
}

pub shows_anyway : ShowsAnyway ShowsTurns
shows_anyway x log v n shows = record { region_len = shows.region_len; since = shows.since; tells = shows.tells }

lower : (a b epoch : ℕ) (o : Option Entry) → a ≤ b → IsAboveEpoch b epoch o → IsAboveEpoch a epoch o
lower a b epoch None le l = tt
lower a b epoch (Some entry) le l = omega (arith, le, l)

pub above_lower : Lower IsAbove
above_lower a b t le l = lower a b t.epoch t.entry le l
