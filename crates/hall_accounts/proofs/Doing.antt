-- What a pass committed after each end of a transaction, and what two passes committed on one hall.
use Rattle.std.proofs.Common.{◌≡◌, ℕ, ◌+◌, ◌==◌, ◌<◌, ◌≤◌, List, [], ◌∷◌, ◌++◌, All, Option, Some, None, refl, sym, ap, ◌∙◌, subst, append-nil}
use Rattle.std.specs.Prelude.{count_by}
use Rattle.std.proofs.lemmas.List.{map-append}
use Rattle.fine_model.specs.declared.Entry.{Entry}
use Rattle.fine_model.specs.declared.law.RoomState.{RoomState}
use Rattle.fine_model.specs.Buckets.{Began}
use Rattle.fine_model.specs.History.{Commit}
use Rattle.fine_places.specs.History.{by_seat}
use Rattle.node_cache.specs.Cache.{Cache}
use Rattle.partition_hold.specs.Views.{ViewValue}
use Rattle.epoch_room.specs.Steps.{appended}
use Rattle.epoch_room.specs.Value.{RoomValue}
use Rattle.fine_hall.specs.declared.law.Beginning.{Beginning}
use Rattle.fine_hall.specs.Turns.{added, committed, commits}
use Rattle.fine_hall.specs.Passes.{mine, own_turns, seen}
use Rattle.fine_hall.specs.Halls.{HallOf, turn_of}
use Rattle.fine_hall.proofs.Turning.{commits_one}
use Rattle.hall_rooms.specs.Rooms.{RoomPass}
use Rattle.hall_rooms.specs.Closing.{ClosesHall}
use Rattle.hall_rooms.specs.Turning.{SealsAndPosts, TakesTurn}
use Rattle.txn_draft.specs.Drafts.{entry_of}
use Rattle.txn_engine.specs.declared.txn.CommitFault.{CommitFault}
use Rattle.txn_engine.specs.declared.txn.Committed.{Committed}
use Rattle.txn_engine.specs.declared.txn.Txn.{Txn}
use Rattle.txn_engine.specs.Txns.{Commits, CommitsCounted, IsRefused}
use Rattle.hall_accounts.specs.declared.transfers.Ended.{Ended}
use Rattle.hall_accounts.specs.declared.transfers.Ended.TheVariants as ended
use Rattle.hall_accounts.specs.Doing.{Adds, AreMine, EndsTxn, IsRunOfTwo, IsKept, commit_of, commits_of}
use Rattle.hall_accounts.specs.Going.{StaysOwn}

module _ (p p' : RoomPass) where
  pub same_mine : StaysOwn p p' → mine p' ≡ mine p
  same_mine s = ap commits s.1

  turn_adds : (x : Beginning) (found room : RoomState) (entry : Option Entry) (epoch : ℕ) → TakesTurn x found entry epoch room p p' → mine p' ≡ mine p ++ added entry epoch
  turn_adds x found room entry epoch t = ap commits t.own_more ∙ commits_one (own_turns p) (record { seat = p.number; item = turn_of entry epoch room t.returned })

  turn_none : (x : Beginning) (found room : RoomState) → TakesTurn x found None 0 room p p' → mine p' ≡ mine p
  turn_none x found room t = turn_adds x found room None 0 t ∙ append-nil (mine p)

  pub commit_adds : (x : Beginning) (keep : ℕ) (t t' : Txn) (done : Committed) → Commits x keep t t' p p' done.stamp → done.entry ≡ entry_of t.draft → mine p' ≡ mine p ++ commit_of done ∷ []
  commit_adds x keep t t' done c is = turn_adds x c.found c.room (Some (entry_of t.draft)) done.stamp.epoch c.turn ∙ ap (λ (e : Entry). mine p ++ committed e done.stamp.epoch ∷ []) (sym is)

  -- as many wait as the pass saw entries of this epoch
  pub waits_are : (x : Beginning) (keep : ℕ) (t t' : Txn) (done : Committed) → CommitsCounted x keep t t' p p' done → done.waiting ≡ count_by (λ (c : Commit). c.epoch == done.stamp.epoch) (seen p')
  unfolding appended
  waits_are x keep t t' done c =
      let a = c.commits.appends in
      let sealed : c.commits.room.sealed ≡ c.commits.found.sealed = ap (λ (r : RoomState). r.sealed) a.2 ∙ ap (λ (r : RoomState). r.sealed) a.1 in
      c.waits ∙ (c.counts.waiting ∙ ap (λ n. count_by (λ (c : Commit). c.epoch == n) (seen p')) (ap (λ n. n + 1) sealed ∙ sym c.commits.epoch))

  pub refused_none : (x : Beginning) (t t' : Txn) (cause : CommitFault) → IsRefused x t t' p p' cause → mine p' ≡ mine p
  refused_none x t t' cause r = turn_none x r.room r.room r.turn

  pub seals_none : (x : Beginning) (r : _) → SealsAndPosts x p p' r → mine p' ≡ mine p
  seals_none x r s = turn_none x s.found s.room s.turn

  pub mine_kept : (kept kept' : List Committed) (end : Ended) → AreMine p kept → Adds p p' end → IsKept kept end kept' → AreMine p' kept'
  mine_kept kept kept' (ended.Committed done) are adds is = adds ∙ (ap (λ l. l ++ commit_of done ∷ []) are ∙ (sym (map-append commit_of kept (done ∷ [])) ∙ ap commits_of (sym is)))
  mine_kept kept kept' (ended.Refused fault) are adds is = adds ∙ (are ∙ ap commits_of (sym is))
  mine_kept kept kept' (ended.NoPlace cause) are adds is = adds ∙ (are ∙ ap commits_of (sym is))

-- behind calls that had no turn
adds_after : (p p' p'' : RoomPass) (end : Ended) → StaysOwn p p' → Adds p' p'' end → Adds p p'' end
adds_after p p' p'' (ended.Committed done) s adds = adds ∙ ap (λ l. l ++ commit_of done ∷ []) (same_mine p p' s)
adds_after p p' p'' (ended.Refused fault) s adds = adds ∙ same_mine p p' s
adds_after p p' p'' (ended.NoPlace cause) s adds = adds ∙ same_mine p p' s

pub ends_after : {Q : Type 0} (hall : HallOf RoomValue Cache ViewValue Q) (t : Txn) (p p' p'' : RoomPass) (end : Ended) → StaysOwn p p' → EndsTxn hall t p' p'' end → EndsTxn hall t p p'' end
ends_after hall t p p' p'' end s e = record { idle = (e.idle.0, e.idle.1 ∙ s.0); free = e.free; adds = adds_after p p' p'' end s e.adds }

pub none_mine : (p : RoomPass) → own_turns p ≡ [] → AreMine p []
unfolding commits
none_mine p none = ap commits none

module _ (x : Beginning) (one two : RoomPass) (room : RoomValue) (first second : List Committed) where
  pub is_run : x.seats ≡ 2 → one.number ≡ 1 → two.number ≡ 2 → Began x.log 0 [] → AreMine one first → AreMine two second → ClosesHall x (one ∷ two ∷ []) room → IsRunOfTwo first second room
  is_run seats one_is two_is began mine_one mine_two c = record {
    all = c.all;
    authors = subst (λ (n : ℕ). All (λ t. (0 < t.seat) × (t.seat ≤ n)) c.all) seats c.authors;
    legal = c.lawful.legal 0 [] began;
    did_first = ap commits (sym (c.parts 0 one refl ∙ ap (λ n. by_seat n c.all) one_is)) ∙ mine_one;
    did_second = ap commits (sym (c.parts 1 two refl ∙ ap (λ n. by_seat n c.all) two_is)) ∙ mine_two;
    places = c.places;
    stands = c.stands 0 [] began;
  }
