-- What the rule of the mailboxes says of a table that ended.
use Rattle.std.proofs.Common.{◌≡◌, ◌≢◌, ℕ, ◌≤◌, List, [], ◌∷◌, map, length, slice_index, sum_by, Option, Some, None, sym, refl, ap, ◌∙◌, subst, arith}
use mathlib.Core.Option.{some}
use lib.ListN.{get_elem?}
use Rattle.atomic_table.specs.Table.{State}
use Rattle.fine_model.specs.declared.law.OpenedEye.{OpenedEye}
use Rattle.fine_model.specs.declared.law.ViewState.{ViewState}
use Rattle.fine_places.specs.declared.model.Placed.{Placed}
use Rattle.fine_places.specs.declared.model.Share.{Share}
use Rattle.fine_places.specs.declared.model.View.{View}
use Rattle.fine_places.specs.History.{room}
use Rattle.fine_boxes.specs.declared.model.BoxNote.{BoxNote}
use Rattle.fine_boxes.specs.declared.model.Reads.{Reads}
use Rattle.fine_boxes.specs.Boxes.{Keeps, slot, given_of, given_by}
use Rattle.fine_boxes.specs.Ends.{Ends}
use Rattle.fine_places.proofs.Lists.{all_map, not_some}
use Rattle.fine_boxes.proofs.Opening.{sum_only}

-- a seat with no number gave up nothing
none_given : {N : Type 0} (ms : List (BoxNote N)) (ps : List (Share N)) → ps ≡ [] → map (λ m. m.seat) ms ≡ map (λ p. p.seat) ps → sum_by (λ m. m.given_up) ms ≡ 0
none_given [] ps none e = refl
none_given (m ∷ ms) ps none e = absurd (let n = ap length e in let k = ap (λ l. length (map (λ (p : Share _). p.seat) l)) none in omega arith)

module _ {T X N : Type 0} (seats : X → ℕ) (view : T → Option ViewState) (board : T → List (Option OpenedEye)) (sealed : T → ℕ) (backs : T → List ℕ)
    (shows : X → List (Placed N) → ViewState → Type 0) (above : ℕ → N → Type 0) (returned : N → ℕ) (x : X) where
  pub boxes_end : (p : ℕ) (log : List (Placed N)) (s : State (Option T) (View X N (Reads N))) (id : ℕ) (v : View X N (Reads N)) (slots : List (Option T)) → Keeps seats view board sealed backs shows above returned x p log s
      → slice_index s.words room ≡ 0 → get_elem? s.views id ≡ some v → ((i : ℕ) (u : View X N (Reads N)) → i ≢ id → get_elem? s.views i ≡ some u → u.places.shares ≡ [])
      → ((k : ℕ) (y : Option T) → get_elem? s.homes k ≡ some (some y) → get_elem? slots k ≡ some y)
      → Ends seats view board sealed backs shows above returned x p log v slots
  boxes_end p log s id v slots r free at others homes =
      let h = r.home free in
      let o = h.ok in
      let k = r.each_view id v at in
      let total : given_by s.views ≡ given_of v.beside = sum_only (λ (u : View X N (Reads N)). given_of u.beside) s.views id v at
      (λ i u ne at'. none_given u.beside.notes u.places.shares (others i u ne at') (r.each_view i u at').numbers) in record {
        home = h.thing;
        at_room = homes room (Some h.thing) h.there;
        below = o.published;
        long = (o.long.0, o.long.2);
        cells = r.cells;
        each = λ i lt. let b = r.each_box i lt in record {
          apart = b.apart;
          thing = b.thing;
          there = homes (slot i (r.cells i).middle) (Some b.thing) b.there;
          is_middle = b.is_view;
          front_at = b.front_at;
          middle_at = b.middle_at;
          front_shows = b.front_shows;
          middle_shows = b.middle_shows;
          reaches = b.reaches;
          sealed_all = o.below i lt;
          empty_back = homes (slot i (r.cells i).back) None (o.emptied i lt (not_some None i refl));
          names = λ j le. o.names i j lt le;
        };
        numbers = k.numbers;
        notes = all_map (λ m q. record {
          i = q.i;
          number = q.number;
          within = q.here.within;
          front = q.here.front;
          marks = q.here.marks;
          first = q.here.first;
          upto = subst (λ (u : ViewState). u.upto ≤ sealed h.thing) q.here.front (o.below q.i q.here.within).0;
          emptied = λ e. let b = r.each_box q.i q.here.within in
              subst (λ (j : ℕ). get_elem? slots (slot q.i j) ≡ some None) (sym b.front_at.buffer ∙ ap (λ (u : ViewState). u.buffer) q.here.front) (homes (slot q.i (r.cells q.i).front) None (q.here.emptied e));
        }) v.beside.notes k.notes;
        counts = (let c = o.counts in omega arith);
      }
