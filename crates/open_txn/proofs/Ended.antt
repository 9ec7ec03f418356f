-- The laws of open transactions.
use Rattle.fine_model.proofs.Histories.Stated.{shown_small}
use Rattle.fine_model.proofs.Histories.HistoryLaws.{IsLegal-push}
use Rattle.txn_draft.specs.Drafts.{entry_of}
use Rattle.txn_draft.proofs.Lawful.{next_law}
use Rattle.open_txn.specs.Opened.{AbortLaw, FollowsLaw}

pub abort_law : AbortLaw
abort_law log low history taken now d o = record {
  stand = o.stand;
  undoes = record { each = λ k t b is_t is_b. (o.uses.each k t b is_t is_b).undoes; untouched = o.uses.untouched };
  restores = λ e first began k b is. (o.holds e first began k b is).restores;
}

pub follows_law : FollowsLaw
follows_law log low e epoch first history taken now d o began legal epochs =
    let next = next_law first history d epoch (shown_small log.region_len began.image e first began.shows) began.sound legal epochs (o.answered e first began) in
    record { next = next; legal = IsLegal-push first history (record { entry = entry_of d; epoch = epoch }) legal next }
