-- A pass goes on once its front was read through.
use Rattle.std.proofs.Common.{◌≡◌, ℕ, ◌≤◌, Some, refl, sym, ap, ◌∙◌, subst, le_refl, le_trans}
use Rattle.fine_model.specs.declared.law.ViewState.{ViewState}
use Rattle.fine_model.specs.Views.{counting}
use Rattle.fine_hall.specs.declared.law.Beginning.{Beginning}
use Rattle.fine_hall.specs.declared.pass.Pass.{Pass}
use Rattle.fine_hall.specs.Passes.{known, reads, published, seen, front_of, HasFront, IsPass}
use Rattle.fine_hall.specs.Laws.{IsViewFor}
use Rattle.fine_hall.specs.EngineLaws.{FrontLaw, StaysUsed, UsedStays, UsedItself, UsedOn}
use Rattle.fine_hall.proofs.Seeing.{sees_itself}
use Rattle.fine_hall.proofs.Taking.{front_is}

module _ {V : Type 0} (view : V → ViewState) where
  used_front : (p : Pass V) (after : V) → HasFront view p → view after ≡ counting (front_of view p) (view after).faults → (front_of view p).faults ≤ (view after).faults → HasFront view (record p { front = Some after })
  unfolding known reads
  used_front p after f same up = record {
    note = f.note;
    one = f.one;
    seat = f.seat;
    still = f.still;
    there = after;
    is_there = refl;
    front = same ∙ ap (λ w. counting w (view after).faults) (front_is view p f ∙ f.front);
    no_lower = le_trans f.no_lower (subst (λ w. w.faults ≤ (view after).faults) (front_is view p f) up);
    place = f.place;
  }

  pub front_goes_on : FrontLaw view
  unfolding known reads
  front_goes_on z x p p' ok used = subst (IsPass view z x) (sym used.is) (record {
    table = ok.table;
    one = ok.one;
    about = ok.about;
    still = ok.still;
    alone = ok.alone;
    wide = ok.wide;
    few = ok.few;
    boxes = ok.boxes;
    words = ok.words;
    number = ok.number;
    lawful = ok.lawful;
    own = ok.own;
    front = used_front p used.after ok.front used.same used.no_lower;
    holder = λ h. let t = ok.holder h in (t.0, record { turn = t.1.turn; backs = t.1.backs; still = t.1.still; long = t.1.long; posted = t.1.posted; top = t.1.top; empty = t.1.empty });
  })

  -- ---- what stays

  shows_on : (x : Beginning) (p : Pass V) (v w : ViewState) (n : ℕ) → w ≡ counting v n → IsViewFor x (seen p) v → IsViewFor x (seen p) w
  shows_on x p v w n is s = subst (IsViewFor x (seen p)) (sym is) (record { region_len = s.region_len; since = s.since; tells = s.tells })

  stays_after : (x : Beginning) (p : Pass V) (after : V) → view after ≡ counting (front_of view p) (view after).faults → (front_of view p).faults ≤ (view after).faults → StaysUsed view x p (record p { front = Some after })
  unfolding known reads
  stays_after x p after same up = record {
    same_known = refl;
    same_reads = refl;
    same_number = refl;
    same_buffers = (refl, refl);
    front = same;
    no_lower = up;
    sees = let s = sees_itself p in record { longer = s.longer; same_own = s.same_own; kept = s.kept; whole = s.whole; no_earlier = s.no_earlier };
    ahead = λ a. record { shows = shows_on x p (front_of view p) (view after) (view after).faults same a.shows; reaches = subst (λ (v : ViewState). published p ≤ v.upto) (sym same) a.reaches };
    holder = λ t h. record { turn = h.turn; backs = h.backs; still = h.still; long = h.long; posted = h.posted; top = h.top; empty = h.empty };
  }

  pub used_stays : UsedStays view
  used_stays x p p' used = subst (StaysUsed view x p) (sym used.is) (stays_after x p used.after used.same used.no_lower)

  -- ---- several reads

  pub used_itself : UsedItself view
  used_itself z x p ok = let f = ok.front in record {
    after = f.there;
    is = λ i. record p { front = f.is_there i };
    same = ap (λ (v : ViewState). counting v (view f.there).faults) (sym (front_is view p f));
    no_lower = subst (λ (v : ViewState). (front_of view p).faults ≤ v.faults) (front_is view p f) (le_refl (front_of view p).faults);
  }

  pub used_on : UsedOn view
  used_on p q r s t =
      let mid : front_of view q ≡ view s.after = ap (front_of view) s.is in
      record {
        after = t.after;
        is = t.is ∙ ap (λ (u : Pass V). record u { front = Some t.after }) s.is;
        same = t.same ∙ ap (λ (v : ViewState). counting v (view t.after).faults) (mid ∙ s.same);
        no_lower = le_trans s.no_lower (subst (λ (v : ViewState). v.faults ≤ (view t.after).faults) mid t.no_lower);
      }
