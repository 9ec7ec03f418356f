-- All steps that the rule of the mailboxes allows, and what it asks of the steps at the places.
use Rattle.std.specs.Prelude.{ℕ, List, Bool, Option}
use Rattle.fine_model.specs.declared.law.OpenedEye.{OpenedEye}
use Rattle.fine_model.specs.declared.law.ViewState.{ViewState}
use Rattle.fine_places.specs.declared.model.Placed.{Placed}
use Rattle.fine_boxes.specs.Boxes.{ShowsMore, ShowsAnyway, Lower}
use Rattle.fine_boxes.specs.Steps.{BoxesLaws, StepsLaw}
use Rattle.fine_boxes.specs.Placing.{boxes_stay, boxes_take, boxes_give, boxes_split, boxes_join}
use Rattle.fine_boxes.proofs.Looking.{looks, lands}
use Rattle.fine_boxes.proofs.Refreshing.{swaps}
use Rattle.fine_boxes.proofs.Posting.{fetches_back, posts, lands_back}
use Rattle.fine_boxes.proofs.Publishing.{publishes, reads}

module _ {T X N : Type 0} (seats : X → ℕ) (view : T → Option ViewState) (board : T → List (Option OpenedEye)) (sealed : T → ℕ) (backs : T → List ℕ)
    (shows : X → List (Placed N) → ViewState → Type 0) (above : ℕ → N → Type 0) (returned : N → ℕ) where
  pub boxes_laws : ShowsMore shows above → Lower above → BoxesLaws seats view board sealed backs shows above returned
  boxes_laws more lower = record {
    stays = boxes_stay seats view board sealed backs shows above returned;
    takes = boxes_take seats view board sealed backs shows above returned;
    gives = boxes_give seats view board sealed backs shows above returned more lower;
    splits = boxes_split seats view board sealed backs shows above returned;
    joins = boxes_join seats view board sealed backs shows above returned;
  }

  pub steps_law : ShowsAnyway shows → (legal : X → List (Placed N) → Type 0) (touches : ℕ → N → Bool) → StepsLaw seats view board sealed backs shows above returned legal touches
  steps_law anyway legal touches x slots id = record {
    looks = looks seats view board sealed backs shows above returned x legal touches slots id;
    swaps = swaps seats view board sealed backs shows above returned anyway x legal touches slots id;
    lands = lands seats view board sealed backs shows above returned x legal touches slots id;
    fetches_back = fetches_back seats view board sealed backs shows above returned x legal touches slots id;
    posts = posts seats view board sealed backs shows above returned x legal touches slots id;
    lands_back = lands_back seats view board sealed backs shows above returned x legal touches slots id;
    publishes = publishes seats view board sealed backs shows above returned x legal touches slots id;
    reads = reads seats view board sealed backs shows above returned x legal touches slots id;
  }
