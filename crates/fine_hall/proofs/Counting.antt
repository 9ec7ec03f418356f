-- How the epochs of a history are counted, and that none of them was sealed as the hall began.
use Rattle.std.proofs.Common.{ℕ, ◌+◌, ◌<◌, ◌≤◌, ◌==◌, List, [], ◌∷◌, ◌++◌, Option, Some, None, sym, ap, ◌∙◌, subst, ⊎_elim, arith}
use Rattle.std.specs.Prelude.{All, count_by}
use Rattle.std.proofs.lemmas.List.Elements.{All-append, All-cons, All-head, All-nil, All-tail, All-weaker}
use Rattle.fine_model.specs.declared.Entry.{Entry}
use Rattle.fine_model.specs.declared.NodeId.{NodeId}
use Rattle.fine_model.specs.Buckets.{IsUpTo, node_id}
use Rattle.fine_model.specs.History.{Commit}
use Rattle.fine_model.specs.Nodes.{Content}
use Rattle.fine_model.specs.Room.{IsSealedUpTo}
use Rattle.fine_model.proofs.Histories.Epochs.{all_upto, follow_push, none_wait, sealed_push, seals, waiting_push}
use Rattle.fine_hall.specs.declared.turn.Turn.{Turn}
use Rattle.fine_hall.specs.Turns.{added, committed, commits, IsOfOpenEpoch}
use Rattle.fine_hall.specs.EpochLaws.{CountsMore, CountsSealed, CountsStay, CountsAll, EpochsLater, NodesLater, BucketsLater}

-- ---- what a room counts

pub counts_more : CountsMore
counts_more x room room' history c counts next same more = record {
  follow = follow_push x.room.sealed room.sealed history c counts.follow counts.sealed next;
  sealed = subst (IsSealedUpTo x.room.sealed (history ++ c ∷ [])) (sym same) (sealed_push x.room.sealed room.sealed history c next);
  waiting = more ∙ (ap (λ n. n + 1) counts.waiting ∙ (sym (waiting_push history c (room.sealed + 1) next) ∙ ap (λ n. count_by (λ (d : Commit). d.epoch == n + 1) (history ++ c ∷ [])) (sym same)));
}

pub counts_sealed : CountsSealed
counts_sealed x room room' history counts some next none = record {
  follow = counts.follow;
  sealed = subst (IsSealedUpTo x.room.sealed history) (sym next) (seals x.room.sealed history room.sealed counts.follow counts.sealed (subst (λ n. 0 < n) counts.waiting some));
  waiting = none ∙ (none_wait x.room.sealed history room.sealed counts.follow counts.sealed ∙ ap (λ n. count_by (λ (d : Commit). d.epoch == n + 1) history) (sym next));
}

pub counts_stay : CountsStay
counts_stay x room room' history counts same still = record {
  follow = counts.follow;
  sealed = subst (IsSealedUpTo x.room.sealed history) (sym same) counts.sealed;
  waiting = still ∙ (counts.waiting ∙ ap (λ n. count_by (λ (d : Commit). d.epoch == n + 1) history) (sym same));
}

pub counts_all : CountsAll
counts_all x room history counts none = all_upto x.room.sealed history room.sealed counts.follow counts.sealed (sym none ∙ counts.waiting)

-- ---- none was sealed as the hall began

one_later : (n : ℕ) (t : Turn) (o : Option Entry) → n ≤ t.room.sealed → IsOfOpenEpoch t o → All (λ c. n < c.epoch) (added o t.epoch)
one_later n t None le at_open = All-nil (λ c. n < c.epoch)
one_later n t (Some entry) le at_open = All-cons (λ (c : Commit). n < c.epoch) (committed entry t.epoch) [] (omega (arith, le, at_open)) (All-nil (λ c. n < c.epoch))

pub epochs_later : EpochsLater
unfolding commits
epochs_later before [] r = All-nil (λ c. before.sealed < c.epoch)
epochs_later before (t ∷ ts) r =
    let up = r.0.becomes.sealed in
    All-append (λ (c : Commit). before.sealed < c.epoch) (added t.item.entry t.item.epoch) (commits ts) (one_later before.sealed t.item t.item.entry up r.0.open_epoch)
    (All-weaker (λ c. t.item.room.sealed < c.epoch) (λ c. before.sealed < c.epoch) (λ c h. omega (arith, h, up)) (commits ts) (epochs_later t.item.room ts r.1))

up_to_more : (low published : ℕ) (id : NodeId) (history : List Commit) → low ≤ published → IsUpTo low id history → IsUpTo published id history
up_to_more low published id [] le up = tt
up_to_more low published id (c ∷ cs) le up = ((λ on. let m = up.0 on in omega (arith, m, le)), up_to_more low published id cs le up.1)

none_later : (n low published : ℕ) (id : NodeId) (history : List Commit) → low ≤ n → All (λ c. n < c.epoch) history → IsUpTo low id history → IsUpTo published id history
none_later n low published id [] le all up = tt
none_later n low published id (c ∷ cs) le all up = (
  (λ on. let m = up.0 on in let h = All-head (λ (d : Commit). n < d.epoch) c cs all in absurd (omega (arith, m, h, le))),
  none_later n low published id cs le (All-tail (λ (d : Commit). n < d.epoch) c cs all) up.1,
)

pub nodes_later : NodesLater
nodes_later before turns id low published r either up = ⊎_elim
    (λ le. up_to_more low published id (commits turns) le up)
    (λ le. none_later before.sealed low published id (commits turns) le (epochs_later before turns r) up)
    either

module _ {B : Type 0} (bucket : B → ℕ) (cached : B → ℕ → Option (Content × ℕ)) (is_settled : B → Type 0) where
  pub buckets_later : BucketsLater bucket cached is_settled
  buckets_later log before turns k low published b r either s = record {
    number = s.number;
    settled = s.settled;
    nodes = s.nodes;
    absent = λ n none. nodes_later before turns (node_id k n) low published r either (s.absent n none);
  }
