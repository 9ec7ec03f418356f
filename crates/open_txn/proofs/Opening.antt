-- The calls of a transaction on buckets that stand for a history.
use Rattle.std.proofs.Common.{◌≡◌, ℕ, List, [], ◌++◌, slice_get, Some, Result, Ok, Err, sym, ap, ◌∙◌, subst}
use Rattle.std.specs.Prelude.{IfErr, OnOk}
use Rattle.std.specs.List.{AllZip}
use Rattle.std.proofs.lemmas.Option.{same_Some}
use Rattle.fine_model.specs.declared.Call.{Call}
use Rattle.fine_model.specs.declared.Row.{Row}
use Rattle.fine_model.specs.declared.law.Origin.{Origin}
use Rattle.fine_model.specs.Buckets.{Began}
use Rattle.fine_model.specs.History.{Commit, all_rows}
use Rattle.fine_model.specs.Store.{IsReplyTo}
use Rattle.fine_model.proofs.Histories.Legal.{legal_map}
use Rattle.fine_model.proofs.Histories.Stated.{shown_small}
use Rattle.node_cache.specs.Cache.{Cache}
use Rattle.btree_nodes.specs.declared.fault.TreeFault.{TreeFault}
use Rattle.btree_nodes.specs.Trees.{Holds}
use Rattle.txn_draft.specs.Drafts.{DraftValue, FitsDraft, IsAnswered, blank}
use Rattle.txn_draft.specs.Uses.{IsUsed}
use Rattle.txn_draft.proofs.Lasting.{holds_law, serves_law}
use Rattle.txn_draft.proofs.Lawful.{blank_law, taken_law}
use Rattle.open_txn.specs.Buckets.{BucketsValue}
use Rattle.open_txn.specs.Opened.{AnswersCalls, HasCause, IsOpen, IsReady, IsRefusal, UseAll, TouchesOf}
use Rattle.open_txn.specs.Steps.{Advances, IsServed, Refuses}

module _ (tells : List Row → Type 0) (upper lane turn : ℕ) (v : BucketsValue) (d : DraftValue) (is_blank : d ≡ blank lane turn) where
  none : d.rows ≡ []
  none = ap (λ x. x.rows) is_blank

  module _ (log : Origin) (low : ℕ) (history : List Commit) (ready : IsReady tells upper log low v history) where
    rests : (k : ℕ) (b : Cache) → slice_get v.buckets k ≡ Some b → IsUsed low b b d.rows
    rests k b is = subst (IsUsed low b b) (sym none) (taken_law low b (ready.stand.each k b is).settled)

    used : UseAll low v v d.rows
    used = record {
      each = λ k t b is_t is_b. let same : b ≡ t = same_Some b t (sym is_b ∙ is_t) in subst (λ (x : Cache). IsUsed low t x d.rows) (sym same) (rests k t is_t);
      untouched = λ k t b is_t is_b flag. same_Some b t (sym is_b ∙ is_t);
    }

    served : (e : ℕ) (first : List Row) → Began log e first → IsServed tells (first ++ all_rows history) v d
    served e first began =
        let told = ready.told e first began in
        let legal = legal_map first history (shown_small log.region_len began.image e first began.shows) began.sound told.legal in record {
          serves = λ k b is. serves_law (λ (s : Unit {0}). tells) tt log k low upper e b b d.rows first told.known history began told.legal (ready.stand.each k b is) (rests k b is) ready.most told.is_told told.agrees;
          holds = λ k b is. subst (Holds b (first ++ all_rows history)) (sym none) (holds_law log k low e b first history began (ready.stand.each k b is));
          answered = subst (IsAnswered (first ++ all_rows history)) (sym is_blank) (blank_law lane turn (first ++ all_rows history) legal.small legal.has_map.sound);
        }

  module _ (tells' : List Row → Type 0) (v' : BucketsValue) (d' : DraftValue) (calls : List Call) (one : Advances tells tells' upper v v' d d' calls) where
    all_calls : d'.calls ≡ calls
    all_calls = one.behind ∙ ap (λ x. x.calls ++ calls) is_blank

    pub answers_calls : AnswersCalls calls d'
    answers_calls = record {
      not_failed = one.not_failed;
      same = all_calls;
      replied = subst (λ cs. AllZip IsReplyTo cs d'.replies) (sym all_calls) (subst (AllZip IsReplyTo calls) (sym (one.replied.behind ∙ ap (λ x. x.replies ++ one.replied.replies) is_blank)) one.replied.each);
      fits = one.fits (subst FitsDraft (sym is_blank) (record { fit = tt; here = tt }));
    }

    pub opens : (log : Origin) (low : ℕ) (history : List Commit) → IsReady tells upper log low v history → IsOpen log low history v v' d'
    opens log low history ready = record {
      stand = ready.stand;
      uses = one.uses low v (used log low history ready) ready.most;
      holds = λ e first began. (one.served (first ++ all_rows history) (served log low history ready e first began)).holds;
      answered = λ e first began. (one.served (first ++ all_rows history) (served log low history ready e first began)).answered;
    }

  pub refusal : (v' : BucketsValue) (calls : List Call) (fault : TreeFault) → Refuses tells upper v v' d calls fault → (log : Origin) (low : ℕ) (history : List Commit) → IsReady tells upper log low v history → IsRefusal log low history v v' calls fault
  refusal v' calls fault not_done log low history ready = record {
    to_undo = record {
      stand = ready.stand;
      undoes = not_done.undoes low v (used log low history ready) ready.most;
      restores = λ e first began. not_done.restores (first ++ all_rows history) (served log low history ready e first began);
    };
    cause = λ e first began. subst (λ (cs : List Call). HasCause (first ++ all_rows history) cs fault) (ap (λ x. x.calls ++ calls) is_blank) (not_done.cause (first ++ all_rows history) (served log low history ready e first began));
  }

  -- by cases of the answer
  module _ (tells' : List Row → Type 0) (v' : BucketsValue) (d' : DraftValue) (calls : List Call) where
    pub all_answered : (r : Result (Unit {0}) TreeFault) → OnOk r (Advances tells tells' upper v v' d d' calls) → OnOk r (AnswersCalls calls d')
    all_answered (Ok done) one = answers_calls tells' v' d' calls one
    all_answered (Err fault) one = tt

    pub all_open : (r : Result (Unit {0}) TreeFault) → OnOk r (Advances tells tells' upper v v' d d' calls)
        → OnOk r ((log : Origin) (low : ℕ) (history : List Commit) → IsReady tells upper log low v history → IsOpen log low history v v' d')
    all_open (Ok done) one = opens tells' v' d' calls one
    all_open (Err fault) one = tt

    pub all_refused : (r : Result (Unit {0}) TreeFault) → IfErr r (Refuses tells upper v v' d calls)
        → IfErr r (λ fault. (log : Origin) (low : ℕ) (history : List Commit) → IsReady tells upper log low v history → IsRefusal log low history v v' calls fault)
    all_refused (Ok done) h = tt
    all_refused (Err fault) h = refusal v' calls fault h

    pub all_touched : (r : Result (Unit {0}) TreeFault) → OnOk r (Advances tells tells' upper v v' d d' calls) → IfErr r (Refuses tells upper v v' d calls) → TouchesOf calls v v'
    all_touched (Ok done) one h = one.touches
    all_touched (Err fault) one h = h.touches
