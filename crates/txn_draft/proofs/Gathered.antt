-- What a scan keeps from bucket to bucket.
use Rattle.std.proofs.Common.{◌≡◌, ℕ, ◌+◌, ◌<◌, List, [], ◌++◌, ⊎_elim, Ok, None, refl, sym, ap, subst, ◌∙◌, append-nil}
use Rattle.std.specs.Prelude.{take}
use Rattle.std.specs.Cmp.{IsStrictWeakOrder}
use Rattle.std.proofs.lemmas.Cmp.{nat_list_cmp_total, on_total}
use Rattle.std.proofs.lemmas.List.MinMax.{ranks_by}
use Rattle.fine_model.specs.declared.Call.TheVariants as call
use Rattle.fine_model.specs.declared.Reply.TheVariants as reply
use Rattle.fine_model.specs.declared.Row.{Row}
use Rattle.fine_model.specs.Map.{Pair, is_below, between}
use Rattle.fine_model.specs.Pushed.{pushed, push_of, call_push, within_limits}
use Rattle.fine_model.specs.ScanLaws.{IsKept}
use Rattle.fine_model.specs.Trees.{IsSound, tree_map}
use Rattle.fine_model.proofs.Ordered.KeptPairs.{kept_more, kept_cut, kept_all}
use Rattle.txn_draft.specs.Drafts.{DraftValue, IsAnswered, noted}
use Rattle.txn_draft.specs.Scans.{IsFirst, IsCut}
use Rattle.txn_draft.proofs.Answered.{answered_more}

pub pairs_ranked : IsStrictWeakOrder (λ (a b : Pair). is_below a.0 b.0)
pairs_ranked = ranks_by (on_total (λ (p : Pair). p.0) nat_list_cmp_total) (λ (r : Pair). r)

-- the pairs of the next bucket, and then maybe the first ones alone
pub gathered_on : (rows : List Row) (low high : List ℕ) (limit next : ℕ) (old mid new : List Pair) → IsSound rows → next < 256 → mid ≡ old ++ take limit (between low high (tree_map rows next)) → IsCut limit mid new
    → IsKept rows low high limit next old → IsKept rows low high limit (next + 1) new
gathered_on rows low high limit next old mid new sound below more cut kept =
    let longer : IsKept rows low high limit (next + 1) mid = subst (IsKept rows low high limit (next + 1)) (sym more) (kept_more rows low high limit next old sound below kept) in
    ⊎_elim (λ same. subst (IsKept rows low high limit (next + 1)) (sym same) longer)
    (λ first. subst (IsKept rows low high limit (next + 1)) (sym first.is) (kept_cut rows low high limit (next + 1) mid first.found longer first.sorted)) cut

scan_pushed : (rows : List Row) (low high : List ℕ) (limit : ℕ) → pushed rows (call.Scan low high limit) ≡ Ok []
unfolding push_of call_push within_limits
scan_pushed rows low high limit = refl

-- a scan that went through all buckets is answered
pub found_answered : (rows : List Row) (low high : List ℕ) (limit : ℕ) (d d' : DraftValue) (kept first : List Pair) → IsAnswered rows d → IsKept (rows ++ d.rows) low high limit 256 kept → IsFirst limit kept first
    → d' ≡ noted d (call.Scan low high limit) (reply.Found first) [] → IsAnswered rows d'
found_answered rows low high limit d d' kept first a is_kept is_first same =
    answered_more rows [] d d' (call.Scan low high limit) (reply.Found first, None) a
    (same ∙ ap (λ rs. noted (record d { rows = rs }) (call.Scan low high limit) (reply.Found first) []) (sym (ap (λ x. x.rows) same)))
    (ap (λ x. x.rows) same ∙ sym (append-nil d.rows)) (scan_pushed (rows ++ d.rows) low high limit)
    (ap (λ pairs. (reply.Found pairs, [])) is_first.is ∙ sym (kept_all (rows ++ d.rows) low high limit kept is_first.found a.leaves.has_map.sound is_kept is_first.sorted).reply)
