-- A pass that sees more, and then more again.
use Rattle.std.proofs.Common.{◌≡◌, ℕ, ◌≤◌, ◌==◌, [], ◌++◌, refl, sym, ap, ◌∙◌, arith, append_assoc, append-nil, le_refl, le_trans}
use Rattle.std.proofs.lemmas.List.Elements.{filter-append}
use Rattle.fine_places.specs.declared.model.Placed.{Placed}
use Rattle.fine_places.specs.History as places
use Rattle.fine_places.specs.History.{by_seat}
use Rattle.fine_hall.specs.declared.turn.Turn.{Turn}
use Rattle.fine_hall.specs.declared.pass.Pass.{Pass}
use Rattle.fine_hall.specs.Passes.{turns, published, HasPlace}
use Rattle.fine_hall.specs.Halls.{SeesMore}

module _ {V : Type 0} where
  pub sees_itself : (p : Pass V) → SeesMore p p
  sees_itself p = record { longer = ([], sym (append-nil (turns p)), refl); same_own = refl; kept = λ j low holds. refl; whole = λ holds. refl; no_earlier = le_refl (published p) }

  pub sees_on : (p q r : Pass V) → q.number ≡ p.number → ((k : ℕ) → k ≤ places.room → HasPlace p k → HasPlace q k) → SeesMore p q → SeesMore q r → SeesMore p r
  sees_on p q r number still s t =
      let m = s.longer in let n = t.longer in
      record {
        longer = (m.0 ++ n.0, n.1 ∙ (ap (λ l. l ++ n.0) m.1 ∙ append_assoc (turns p) m.0 n.0), filter-append (λ (u : Placed Turn). u.seat == p.number) m.0 n.0 ∙ (ap (λ l. l ++ by_seat p.number n.0) m.2 ∙ (ap (λ a. by_seat a n.0) (sym number) ∙ n.2)));
        same_own = t.same_own ∙ s.same_own;
        kept = λ j low holds. s.kept j low holds ∙ t.kept j low (still j (omega (arith, low)) holds);
        whole = λ holds. t.whole (still places.room (le_refl places.room) holds) ∙ s.whole holds;
        no_earlier = le_trans s.no_earlier t.no_earlier;
      }
