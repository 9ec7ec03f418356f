-- What is gathered as a hall ends.
use Rattle.std.specs.Prelude.{◌≡◌, ℕ, zero, suc, ◌+◌, ◌<◌, ◌≤◌, Bool, true, false, List, [], ◌∷◌, ◌++◌, reverse, flat_map, slice_index_or, Option, Some}
use Rattle.std.specs.List.{AllByRecursion, filter_map}
use Rattle.std.specs.declared.snapshot.Snapshot.{Snapshot}
use mathlib.Core.Option.{some}
use mathlib.Core.Option as maybe
use lib.ListN.{get_elem?}
use Rattle.fine_model.specs.declared.Entry.{Entry}
use Rattle.fine_places.specs.declared.model.Placed.{Placed}
use Rattle.fine_places.specs.History.{StartsWith}
use Rattle.fine_hall.specs.declared.turn.Turn.{Turn}
use Rattle.fine_hall.specs.declared.law.Load.{Load}
use Rattle.fine_hall.specs.declared.law.Load.TheVariants as load
use Rattle.fine_hall.specs.declared.pass.Pass.{Pass}
use Rattle.fine_hall.specs.Passes.{PassView, known, reads, turns}

-- ---- the passes

module _ {V : Type 0} where
  abbrev pub fronts_of : List (Pass V) → List V
  fronts_of passes = filter_map (λ p. p.front) passes

  -- A seat took over what these passes knew: their numbers and notes, in this order, and what each had seen of the turns and of the
  -- published number.
  pub record Gathers (passes : List (Pass V)) (v : PassView) : Type 0 where
    pub shares : v.places.shares ≡ flat_map (λ p. (known p).shares) passes
    pub notes : v.beside.notes ≡ flat_map (λ p. (reads p).notes) passes
    pub saw : (all : List (Placed Turn)) → StartsWith all v.places.seen → AllByRecursion (StartsWith all) v.places.fronts → AllByRecursion (λ p. StartsWith all (turns p)) passes
    pub no_earlier : AllByRecursion (λ p. (known p).published ≤ v.places.published) passes

  -- And their fronts came back.
  pub record GathersAll (passes : List (Pass V)) (before after : List V) (v : PassView) : Type 0 where
    pub done : List (Pass V)
    pub all : passes ≡ reverse done
    pub gathers : Gathers done v
    pub fronts : after ≡ before ++ fronts_of done

-- ---- the slots

-- of so many slots those below one were taken, and no others
pub record IsTakenTo (filled : List Bool) (count k : ℕ) : Type 0 where
  pub left : (j : ℕ) → k ≤ j → j < count → slice_index_or filled j false ≡ true
  pub gone : (j : ℕ) → j < k → slice_index_or filled j false ≡ false

module _ {R B V : Type 0} where
  -- the room lies in its slot
  abbrev pub HoldsRoom : R → List (Option (Load R B V)) → Type 0
  HoldsRoom room slots = (entry : Option (Snapshot Entry)) × (epoch : ℕ) × (backs : List ℕ) × (get_elem? slots 256 ≡ some (Some (load.Room room entry epoch backs)))

  abbrev pub view_in_slot : Option (Load R B V) → List V
  view_in_slot (Some (load.View v)) = v ∷ []
  view_in_slot _ = []

  abbrev pub view_found : maybe.Option (Option (Load R B V)) → List V
  view_found maybe.none = []
  view_found (maybe.some s) = view_in_slot s

  -- the views in so many slots, from one on
  abbrev pub views_from : List (Option (Load R B V)) → ℕ → ℕ → List V
  views_from slots from zero = []
  views_from slots from (suc n) = views_from slots from n ++ view_found (get_elem? slots (from + n))
