-- What a transaction leaves, but for the seal behind it.
use Rattle.std.proofs.Common.{◌≡◌, ◌≢◌, ℕ, ◌+◌, ◌≤◌, List, [], ◌∷◌, ◌++◌, length, refl, sym, ap, ◌∙◌, subst, Some, None, Ok, Err, arith}
use Rattle.std.specs.Prelude.{Result}
use Rattle.std.specs.List.{AllZip}
use Rattle.fine_model.specs.declared.Call.{Call}
use Rattle.fine_model.specs.declared.Ending.{Ending}
use Rattle.fine_model.specs.declared.Ending.TheVariants as ending
use Rattle.fine_model.specs.declared.Entry.{Entry}
use Rattle.fine_model.specs.declared.Outcome.{Outcome}
use Rattle.fine_model.specs.declared.Outcome.TheVariants as outcome
use Rattle.fine_model.specs.declared.RunFault.{RunFault}
use Rattle.fine_model.specs.declared.ScriptTxn.{ScriptTxn}
use Rattle.fine_model.specs.declared.Why.{Why}
use Rattle.fine_model.specs.declared.Why.TheVariants as why
use Rattle.fine_model.specs.declared.law.RoomState.{RoomState}
use Rattle.fine_model.specs.History.{Commit, all_rows}
use Rattle.fine_model.specs.Store.{IsReplyTo}
use Rattle.fine_model.proofs.Histories.Goings.{becomes_on}
use Rattle.txn_draft.specs.Drafts.{DraftValue}
use Rattle.epoch_room.specs.Meaning.{origin_of}
use Rattle.epoch_room.specs.Value.{RoomValue}
use Rattle.open_txn.specs.Buckets.{BucketsValue}
use Rattle.open_txn.specs.Opened.{AbortLaw, IsOpen, IsToUndo}
use Rattle.run_laws.specs.Runs.{IsReady, OfSound}
use Rattle.run_laws.specs.SoFar.{AreTold, KeepsFlag}
use Rattle.run_laws.specs.Turns.{RefusesBehind, commit_of, commits_of}
use Rattle.txn_runner.specs.Body.{Body, Goes, IsBetween, IsGoing, Stand, count_of}
use Rattle.txn_runner.specs.Steps.{Answers, HadNeedOf, IsEndOf, IsTried, Leaves, LeavesWell, MarksFull, Reads, TakesBack, Tries, TriesToCommit, WasInNeed, refused_as}
use Rattle.txn_runner.proofs.Answering.{few_later, goes_later, told_later}
use Rattle.txn_runner.proofs.Full.{flag_same}
use Rattle.txn_runner.proofs.Needs as needs
use Rattle.txn_runner.proofs.Steady.{same_history}

-- what reading leaves
reads_leave : (group : ℕ) (entry : RoomValue) (old new : Body) (history : List Commit) → IsBetween group entry old history → Reads old new → Leaves group entry old new history []
reads_leave group entry old new history b r = record {
  goes = same_history (Goes entry new) history (goes_later entry old new history b.going.goes r);
  few = few_later group old new history b.going.few r;
  becomes = r.later.becomes;
  ended = r.ended;
}

-- ---- a call was refused, or a fault came

pub fails_reading : (group : ℕ) (old new : Body) (d : DraftValue) (txn : ScriptTxn) (turn : ℕ) (fault : RunFault) → Answers group old new d txn.calls (Err fault) → Tries group old new txn turn (Err fault)
fails_reading group old new d txn turn fault a entry done ready b at =
    let left = a.1 entry (commits_of done) ready b in record { leaves = reads_leave group entry old new (commits_of done) b a.0; stand = left.0; in_need = λ n. (needs.read group entry (commits_of done) old new a.0 n).0; told = left.1; full = a.0.full }

aborted_is : (entry : RoomValue) (done : List Outcome) (txn : ScriptTxn) (new : Body) → txn.ending ≡ ending.Abort → IsTried entry done txn outcome.Aborted new
aborted_is entry done txn new is = record {
  is = is;
  number = tt;
  ran = λ (e : outcome.Aborted ≡ outcome.NotRun). let x = e in cc;
  replied = tt;
  committed = tt;
  refused = λ other (e : outcome.Aborted ≡ outcome.Refused other). absurd (let x = e in cc);
}

-- an abort that is refused is one
tried_as : (entry : RoomValue) (done : List Outcome) (txn : ScriptTxn) (word : Why) (new : Body) (end : Ending) → txn.ending ≡ end → OfSound entry (λ first e. RefusesBehind new.room.room (first ++ all_rows (commits_of done)) txn.calls word)
    → IsTried entry done txn (refused_as end word) new
tried_as entry done txn word new ending.Commit is refuses = record {
  is = is;
  number = tt;
  ran = λ (e : outcome.Refused word ≡ outcome.NotRun). let x = e in cc;
  replied = tt;
  committed = tt;
  refused = λ other (e : outcome.Refused word ≡ outcome.Refused other). let same : word ≡ other = (let x = e in cc) in subst (λ w. OfSound entry (λ first e. RefusesBehind new.room.room (first ++ all_rows (commits_of done)) txn.calls w)) same refuses;
}
tried_as entry done txn word new ending.Abort is refuses = aborted_is entry done txn new is

none_committed : (end : Ending) (word : Why) → commits_of (refused_as end word ∷ []) ≡ []
none_committed ending.Commit word = refl
none_committed ending.Abort word = refl

none_there : (end : Ending) (word : Why) → commit_of (refused_as end word) ≡ None
none_there ending.Commit word = refl
none_there ending.Abort word = refl

not_full : (end : Ending) (word : Why) → word ≢ why.Full → refused_as end word ≢ outcome.Refused why.Full
not_full ending.Commit word not = λ (e : outcome.Refused word ≡ outcome.Refused why.Full). not (let x = e in cc)
not_full ending.Abort word not = λ (e : outcome.Aborted ≡ outcome.Refused why.Full). let x = e in cc

-- the flag is as it was
marks_same : (group : ℕ) (entry : RoomValue) (old new : Body) (history : List Commit) (calls : List Call) (next : Outcome) → new.full ≡ old.full → next ≢ outcome.Refused why.Full → commit_of next ≡ None → MarksFull group entry old new history calls next
marks_same group entry old new history calls next same not none = record { flag = flag_same old.full new.full next same not none; full_need = λ is. absurd (not is) }

pub refuses_reading : (group : ℕ) (old new : Body) (d : DraftValue) (txn : ScriptTxn) (turn : ℕ) (word : Why) → Answers group old new d txn.calls (Ok (Some word)) → Tries group old new txn turn (Ok (refused_as txn.ending word))
refuses_reading group old new d txn turn word a entry done ready b at =
    let left = a.3 entry (commits_of done) ready b in (
      subst (LeavesWell group entry old new (commits_of done)) (sym (none_committed txn.ending word)) (record {
        leaves = reads_leave group entry old new (commits_of done) b a.0;
        stand = same_history (Stand entry new) (commits_of done) left.0;
        in_need = λ n. same_history (WasInNeed group entry new) (commits_of done) (needs.read group entry (commits_of done) old new a.0 n);
        told = told_later entry old new (commits_of done) b.going.goes b.going.told a.0 a.1;
      }),
      tried_as entry done txn word new txn.ending refl left.1,
      marks_same group entry old new (commits_of done) txn.calls (refused_as txn.ending word) a.0.full (not_full txn.ending word a.2) (none_there txn.ending word),
    )

-- ---- all were answered

module _ (abort : AbortLaw) (group : ℕ) (old mid : Body) (d : DraftValue) (txn : ScriptTxn) (turn : ℕ) (a : Answers group old mid d txn.calls (Ok None)) (new : Body) where
  going : (entry : RoomValue) (history : List Commit) → IsBetween group entry old history → IsGoing group entry mid history
  going entry history b = record { goes = goes_later entry old mid history b.going.goes a.0; few = few_later group old mid history b.going.few a.0; told = told_later entry old mid history b.going.goes b.going.told a.0 a.1 }

  sealed : mid.room.room.sealed ≡ old.room.room.sealed
  sealed = ap (λ (r : RoomState). r.sealed) a.0.later.room

  -- the script aborts it
  module _ (back : TakesBack mid new) (is : txn.ending ≡ ending.Abort) where
    room_same : new.room ≡ mid.room
    room_same = ap (λ (b : Body). b.room) back.rest

    aborted : (entry : RoomValue) (done : List Outcome) → IsReady entry → IsBetween group entry old (commits_of done)
        → LeavesWell group entry old new (commits_of done) [] × IsTried entry done txn outcome.Aborted new × MarksFull group entry old new (commits_of done) txn.calls outcome.Aborted
    aborted entry done ready b = (
      record {
        leaves = subst (λ x. Leaves group entry old x (commits_of done) []) (sym back.rest) (record {
          goes = record { room = left.goes.room; no_region = left.goes.no_region; stuck = left.goes.stuck; view = left.goes.view };
          few = left.few;
          becomes = left.becomes;
          ended = left.ended;
        });
        stand = same_history (Stand entry new) (commits_of done) stand;
        in_need = λ n. same_history (WasInNeed group entry new) (commits_of done)
            (subst (λ x. WasInNeed group entry x (commits_of done)) (sym back.rest) (let kept = needs.read group entry (commits_of done) old mid a.0 n in (kept.0, kept.1)));
        told = subst (λ (x : Body). AreTold entry x.room (count_of x) x.ended x.ended) (sym back.rest) (going entry (commits_of done) b).told;
      },
      aborted_is entry done txn new is,
      marks_same group entry old new (commits_of done) txn.calls outcome.Aborted (ap (λ (b : Body). b.full) back.rest ∙ a.0.full) (λ (e : outcome.Aborted ≡ outcome.Refused why.Full). let x = e in cc) refl,
    )
      where
        left : Leaves group entry old mid (commits_of done) []
        left = reads_leave group entry old mid (commits_of done) b a.0

        open_now : (taken : BucketsValue) × IsOpen (origin_of entry.entry) old.room.room.sealed (commits_of done) taken mid.buckets d
        open_now = a.3 entry (commits_of done) ready b

        to_undo : IsToUndo (origin_of entry.entry) old.room.room.sealed (commits_of done) open_now.0 mid.buckets
        to_undo = abort (origin_of entry.entry) old.room.room.sealed (commits_of done) open_now.0 mid.buckets d open_now.1

        stand : Stand entry new (commits_of done)
        stand =
            let same = ap (λ (r : RoomValue). r.room.sealed) room_same in
            let mids = sealed in
            back.buckets (origin_of entry.entry) old.room.room.sealed new.room.room.sealed (commits_of done) open_now.0 to_undo (omega (arith, same, mids)) (omega (arith, same))

    pub aborts : Tries group old new txn turn (Ok outcome.Aborted)
    aborts entry done ready b at = aborted entry done ready b

  -- it is committed, or refused
  module _ (lane : d.lane ≡ txn.lane) (of_turn : d.turn ≡ turn) (is : txn.ending ≡ ending.Commit) where
    later : (entry : RoomValue) (history more : List Commit) → Leaves group entry mid new history more → Leaves group entry old new history more
    later entry history more l = record { goes = l.goes; few = l.few; becomes = becomes_on old.room.room mid.room.room new.room.room a.0.later.becomes l.becomes; ended = l.ended ∙ a.0.ended }

    -- its outcome
    tried : (entry : RoomValue) (done : List Outcome) (next : Outcome) → turn ≡ length done + 1 → IsEndOf entry (commits_of done) d new next → IsTried entry done txn next new
    tried entry done (outcome.Committed place epoch e) at end = record {
      is = (is, ap (λ (x : Entry). x.lane) end.2 ∙ lane, ap (λ (x : Entry). x.calls) end.2 ∙ a.2.same);
      number = (end.0, ap (λ (x : Entry). x.turn) end.2 ∙ of_turn ∙ at, tt);
      ran = λ (e : outcome.Committed _ _ _ ≡ outcome.NotRun). let x = e in cc;
      replied = (subst (λ (x : Entry). AllZip IsReplyTo x.calls x.replies) (sym end.2) a.2.replied, tt);
      committed = ((end.1, ap (λ (x : Entry). x.lane) end.2 ∙ lane), tt);
      refused = λ other (e : outcome.Committed _ _ _ ≡ outcome.Refused other). absurd (let x = e in cc);
    }
    tried entry done (outcome.Refused word) at end = tried_as entry done txn word new ending.Commit is
        (subst (λ calls. OfSound entry (λ first e. RefusesBehind new.room.room (first ++ all_rows (commits_of done)) calls word)) a.2.same end)
    tried entry done outcome.Aborted at end = absurd end
    tried entry done outcome.NotRun at end = absurd end

    -- the flag was as it was behind the calls
    marks : (entry : RoomValue) (history : List Commit) (next : Outcome) → MarksFull group entry mid new history d.calls next → MarksFull group entry old new history txn.calls next
    marks entry history next m = record {
      flag = subst (λ full. KeepsFlag full new.full next) a.0.full m.flag;
      full_need = λ is not n. subst (HadNeedOf group entry history) a.2.same (m.full_need is (a.0.full ∙ not) (needs.read group entry history old mid a.0 n));
    }

    pub commits : (result : Result Outcome RunFault) → TriesToCommit group mid new d result → Tries group old new txn turn result
    commits (Ok next) t = λ entry done ready b at.
        let low : old.room.room.sealed ≤ mid.room.room.sealed = (let s = sealed in omega (arith, s)) in
        let open_now = a.3 entry (commits_of done) ready b in
        let ends = t entry (commits_of done) old.room.room.sealed open_now.0 ready (going entry (commits_of done) b) low open_now.1 in
        (record { leaves = later entry (commits_of done) (commits_of (next ∷ [])) ends.0.leaves; stand = ends.0.stand; in_need = λ n. ends.0.in_need (needs.read group entry (commits_of done) old mid a.0 n); told = ends.0.told }, tried entry done next at ends.1, marks entry (commits_of done) next ends.2)
    commits (Err fault) t = λ entry done ready b at.
        let low : old.room.room.sealed ≤ mid.room.room.sealed = (let s = sealed in omega (arith, s)) in
        let open_now = a.3 entry (commits_of done) ready b in
        let ends = t entry (commits_of done) old.room.room.sealed open_now.0 ready (going entry (commits_of done) b) low open_now.1 in
        record { leaves = later entry (commits_of done) [] ends.leaves; stand = ends.stand; in_need = λ n. ends.in_need (needs.read group entry (commits_of done) old mid a.0 n); told = ends.told; full = ends.full ∙ a.0.full }
