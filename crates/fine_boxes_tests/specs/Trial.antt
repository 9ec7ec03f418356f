-- The words of the tests: a table of one seat, whose views all show up to epoch 5.
use Rattle.std.specs.Prelude.{◌≡◌, false, ℕ, List, [], ◌∷◌, ◌==◌, if◌then◌else◌, Option, Some, None, Result, Ok, Err}
use mathlib.Core.Option.{some}
use lib.ListN.{get_elem?}
use Rattle.atomic_table.specs.Table.{Me}
use Rattle.fine_places.specs.declared.model.Placed.{Placed}
use Rattle.fine_places.specs.declared.model.View.{View}
use Rattle.fine_places.specs.History.{room}
use Rattle.fine_places.specs.Places.{share}
use Rattle.fine_boxes.specs.declared.model.Reads.{Reads}
use Rattle.fine_model.specs.declared.law.OpenedEye.{OpenedEye}
use Rattle.fine_model.specs.declared.law.ViewState.{ViewState}

abbrev pub an_eye : OpenedEye
an_eye = record { number = 0; regions = []; told = None }

abbrev pub state_in : ℕ → ViewState
state_in buffer = record { seat = 1; buffer = buffer; upto = 5; parts = []; region_len = 0; eye = an_eye; faults = 0 }

-- what the board names of a buffer, while the back is another or this
abbrev pub named_but : ℕ → ℕ → Option OpenedEye
named_but back buffer = if buffer == back then None else Some an_eye

-- a view is told by its buffer, the room by its back
abbrev pub trial_view : Result ℕ ℕ → Option ViewState
trial_view (Ok buffer) = Some (state_in buffer)
trial_view (Err back) = None

abbrev pub trial_board : Result ℕ ℕ → List (Option OpenedEye)
trial_board (Ok buffer) = []
trial_board (Err back) = named_but back 0 ∷ named_but back 1 ∷ named_but back 2 ∷ []

abbrev pub trial_backs : Result ℕ ℕ → List ℕ
trial_backs (Ok buffer) = []
trial_backs (Err back) = back ∷ []

abbrev pub TrialMe : Type 0
TrialMe = Me (Option (Result ℕ ℕ)) (View (Unit {0}) (Unit {0}) (Reads (Unit {0})))

-- the one seat of a table holds nothing, and has no slot in hand
pub record Rests (m : TrialMe) : Type 0 where
  pub about : m.0.places.about ≡ Some tt
  pub still : m.0.places.moving ≡ None
  pub hand : m.1 ≡ []
  pub before : List (Placed (Unit {0}))
  pub alone : m.0.places.shares ≡ share 1 before ∷ []
  pub vacant : get_elem? m.0.places.held room ≡ some false
