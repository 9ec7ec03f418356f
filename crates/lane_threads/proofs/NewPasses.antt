-- Passes of a new hall, and how they come to parts.
use Rattle.std.proofs.Common.{◌≡◌, ⊎_elim, ℕ, ◌+◌, ◌<◌, List, [], ◌∷◌, ◌++◌, length, map, Some, sym, ap, subst, ◌∙◌, arith, length-append, append_assoc}
use Rattle.std.specs.Prelude.{slice_get, option_map}
use Rattle.std.proofs.lemmas.List.{append-nil, length-map, map-append}
use Rattle.std.proofs.lemmas.Option.{slice_get-map}
use mathlib.Core.Option.{some}
use lib.ListN.{get_elem?}
use Rattle.node_cache.specs.Cache.{Cache}
use Rattle.partition_hold.specs.Views.{ViewValue}
use Rattle.epoch_room.specs.Value.{RoomValue}
use Rattle.fine_model.proofs.Histories.HistoryLaws.{slice_get-push}
use Rattle.fine_hall.specs.Halls.{HallOf}
use Rattle.fine_hall.proofs.Gathering.{last_pass, rest_passes}
use Rattle.hall_rooms.specs.Rooms.{RoomPass}
use Rattle.lane_threads.specs.declared.worker.Part.{Part}
use Rattle.lane_threads.specs.declared.worker.Worker.{Worker}
use Rattle.lane_threads.specs.Beginning.{AreNewPasses, GetPasses, IsNewPass}

-- The first workers have their passes, which came from the end of the list; these parts have none yet, and these passes are left.
pub record GivesSoFar {Q D E : Type 0} (hall : HallOf RoomValue Cache ViewValue Q) (all left : List RoomPass) (parts : List Part) (workers : List (Worker D E)) (rest : List Part) : Type 0 where
  pub left_new : (i n : ℕ) (p : RoomPass) → get_elem? left i ≡ some p → n + i + 1 ≡ length all → IsNewPass hall (n + 1) p
  pub count : length left + length workers + 1 ≡ length all
  pub parts_are : map (λ (w : Worker D E). w.part) workers ++ rest ≡ parts
  pub each : (k : ℕ) (w : Worker D E) → slice_get workers k ≡ Some w → IsNewPass hall (k + 2) w.pass

longer : {A : Type 0} (l l' : List A) (a : A) → l ≡ l' ++ a ∷ [] → length l ≡ length l' + 1
longer l l' a is = ap length is ∙ length-append l' (a ∷ [])

module _ {Q : Type 0} (hall : HallOf RoomValue Cache ViewValue Q) where
  -- the pass at the end of the list is that of the seat 1
  pub first_given : (all left : List RoomPass) (first : RoomPass) → AreNewPasses hall all → all ≡ left ++ first ∷ [] → IsNewPass hall 1 first
  first_given all left first new is = let long = longer all left first is in new (length left) 0 first (last_pass all left first is) (omega (arith, long))

  module _ {D E : Type 0} where
    -- nothing was given yet but the first pass
    pub none_given : (all left : List RoomPass) (first : RoomPass) (parts : List Part) (workers : List (Worker D E)) (rest : List Part)
        → AreNewPasses hall all → all ≡ left ++ first ∷ [] → workers ≡ [] → rest ≡ parts → GivesSoFar hall all left parts workers rest
    none_given all left first parts workers rest new is none same =
        let long = longer all left first is in
        let empty : length workers ≡ 0 = ap length none in
        record {
          left_new = λ i n p at count. new i n p (rest_passes all left first i p is at) count;
          count = omega (arith, long, empty);
          parts_are = ap (λ l. map (λ (w : Worker D E). w.part) l ++ rest) none ∙ same;
          each = λ k w at. absurd (none_at k w (ap (λ l. slice_get l k) (sym none) ∙ at));
        }
      where
        none_at : (k : ℕ) (w : Worker D E) → slice_get [] k ≡ Some w → ⊥
        none_at k w at = absurd (let e = at in cc)

    -- the next part gets the last pass that is left
    pub one_given : (all left left' : List RoomPass) (pass : RoomPass) (parts : List Part) (workers workers' : List (Worker D E)) (rest rest' : List Part) (part : Part)
        → left ≡ left' ++ pass ∷ [] → rest ≡ part ∷ rest' → workers' ≡ workers ++ record { pass = pass; part = part } ∷ []
        → GivesSoFar hall all left parts workers rest → GivesSoFar hall all left' parts workers' rest'
    one_given all left left' pass parts workers workers' rest rest' part is next grown so_far =
        let long = longer left left' pass is in
        let more = longer workers' workers (record { pass = pass; part = part }) grown in
        let counted = so_far.count in
        record {
          left_new = λ i n p at count. so_far.left_new i n p (rest_passes left left' pass i p is at) count;
          count = omega (arith, long, more, counted);
          parts_are = ap (λ l. map (λ (w : Worker D E). w.part) l ++ rest') grown
              ∙ (ap (λ l. l ++ rest') (map-append (λ (w : Worker D E). w.part) workers (record { pass = pass; part = part } ∷ []))
              ∙ (append_assoc (map (λ (w : Worker D E). w.part) workers) (part ∷ []) rest'
              ∙ (ap (λ l. map (λ (w : Worker D E). w.part) workers ++ l) (sym next) ∙ so_far.parts_are)));
          each = λ k w at. ⊎_elim
              (λ before. so_far.each k w before.1)
              (λ last. subst (λ (w : Worker D E). IsNewPass hall (k + 2) w.pass) (sym last.1)
              (subst (λ n. IsNewPass hall n pass) (let e = last.0 in number k (length workers) e)
              (so_far.left_new (length left') (length workers + 1) pass (last_pass left left' pass is) (omega (arith, long, counted)))))
              (slice_get-push workers (record { pass = pass; part = part }) w k (ap (λ l. slice_get l k) (sym grown) ∙ at));
        }
      where
        number : (k n : ℕ) → k ≡ n → n + 1 + 1 ≡ k + 2
        number k n e = omega arith

    all_parts : (parts : List Part) (workers : List (Worker D E)) (rest : List Part) → rest ≡ [] → map (λ (w : Worker D E). w.part) workers ++ rest ≡ parts → map (λ (w : Worker D E). w.part) workers ≡ parts
    all_parts parts workers rest none are = sym (append-nil (map (λ (w : Worker D E). w.part) workers)) ∙ (ap (λ l. map (λ (w : Worker D E). w.part) workers ++ l) (sym none) ∙ are)

    -- all parts have their passes
    pub all_given : (all left : List RoomPass) (parts : List Part) (workers : List (Worker D E)) (rest : List Part) → rest ≡ [] → GivesSoFar hall all left parts workers rest → GetPasses hall parts workers
    all_given all left parts workers rest none so_far =
        let are = all_parts parts workers rest none so_far.parts_are in
        record {
          count = sym (length-map workers (λ (w : Worker D E). w.part)) ∙ ap length are;
          each = so_far.each;
          same = λ k w at. ap (λ l. slice_get l k) (sym are) ∙ (slice_get-map (λ (w : Worker D E). w.part) workers k ∙ ap (option_map (λ (w : Worker D E). w.part)) at);
        }

    -- and the pass behind them is the next one
    pub last_given : (all left left' : List RoomPass) (last : RoomPass) (parts : List Part) (workers : List (Worker D E)) (rest : List Part)
        → rest ≡ [] → left ≡ left' ++ last ∷ [] → GivesSoFar hall all left parts workers rest → IsNewPass hall (length parts + 2) last
    last_given all left left' last parts workers rest none is so_far =
        let long = longer left left' last is in
        let counted = so_far.count in
        let same = (all_given all left parts workers rest none so_far).count in
        subst (λ n. IsNewPass hall n last) (number (length workers) (length parts) same)
        (so_far.left_new (length left') (length workers + 1) last (last_pass left left' last is) (omega (arith, long, counted)))
      where
        number : (n k : ℕ) → n ≡ k → n + 1 + 1 ≡ k + 2
        number n k e = omega arith

    -- how many workers and parts are there
    pub how_many : (all left : List RoomPass) (parts : List Part) (workers : List (Worker D E)) (rest : List Part) → GivesSoFar hall all left parts workers rest → length workers + length rest ≡ length parts
    how_many all left parts workers rest so_far =
        let counted = length-append (map (λ (w : Worker D E). w.part) workers) rest in
        let mapped = length-map workers (λ (w : Worker D E). w.part) in
        let are = ap length so_far.parts_are in
        omega (arith, counted, mapped, are)

-- ---- a part of each item is moved to a list of its own

module _ {A B : Type 0} (part_of : A → B) where
  pub none_moved : (out : List B) (rest all : List A) → out ≡ [] → rest ≡ all → out ++ map part_of rest ≡ map part_of all
  none_moved out rest all none same = ap (λ l. l ++ map part_of rest) none ∙ ap (map part_of) same

  pub one_moved : (out out' : List B) (rest rest' : List A) (a : A) (all : List B) → rest ≡ a ∷ rest' → out' ≡ out ++ part_of a ∷ [] → out ++ map part_of rest ≡ all → out' ++ map part_of rest' ≡ all
  one_moved out out' rest rest' a all next grown before =
      ap (λ l. l ++ map part_of rest') grown ∙ (append_assoc out (part_of a ∷ []) (map part_of rest') ∙ (ap (λ l. out ++ map part_of l) (sym next) ∙ before))

  pub all_moved : (out : List B) (rest : List A) (all : List B) → rest ≡ [] → out ++ map part_of rest ≡ all → out ≡ all
  all_moved out rest all none before = sym (append-nil out) ∙ (ap (λ l. out ++ map part_of l) (sym none) ∙ before)

  pub room_for : (out : List B) (rest rest' : List A) (a : A) (all : List A) → rest ≡ a ∷ rest' → out ++ map part_of rest ≡ map part_of all → length out < length all
  room_for out rest rest' a all next before =
      let together = length-append out (map part_of rest) in
      let left = length-map rest part_of in
      let whole = length-map all part_of in
      let some = ap length next in
      let same = ap length before in
      omega (arith, together, left, whole, some, same)
