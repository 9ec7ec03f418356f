-- What loads of a view answer.
use Rattle.std.proofs.Common.{◌≡◌, ℕ, List, sym, subst}
use Rattle.std.specs.Prelude.{Any, Result, Err, IfErr, IsErrOf, MatchResult}
use Rattle.fine_model.specs.declared.FetchFault.{FetchFault}
use Rattle.fine_model.specs.declared.FetchFault.TheVariants as fetch_fault
use Rattle.fine_model.specs.declared.NodeId.{NodeId}
use Rattle.fine_model.specs.declared.Row.{Row}
use Rattle.node_fetch.specs.Fetched.{HasBadEntry, HasBadRow, NoDamage}
use Rattle.partition_index.specs.Parts.{CountsFaults}
use Rattle.partition_hold.specs.Sources.{Fails, tells_rows}
use Rattle.partition_hold.specs.Views.{ViewValue}

-- what a fetch that fails says is what a load says then
pub fetch_fails : {A : Type 0} (s t : ViewValue) (node : NodeId) (r : Result A FetchFault) (f : FetchFault) (P : List Row → A → Type 0) → r ≡ Err f → CountsFaults (IsErrOf r fetch_fault.Failed) s.eye t.eye
    → ((region at : ℕ) → IsErrOf r (fetch_fault.BadRow region at) → Any (λ p. HasBadRow s.eye.told s.region_len p node (record { region = region; at = at })) s.parts)
    → ((region at : ℕ) → IsErrOf r (fetch_fault.BadIndex region at) → Any (λ p. HasBadEntry s.eye.told s.region_len p (record { region = region; at = at })) s.parts)
    → ((rows : List Row) → tells_rows s rows → MatchResult r (P rows) NoDamage) → Fails s f t
fetch_fails s t node r fetch_fault.Failed P is counts row index exact = counts.rises is
fetch_fails s t node r (fetch_fault.BadRow region at) P is counts row index exact = (λ rows told. subst (λ x. MatchResult x (P rows) NoDamage) is (exact rows told), (node, row region at is))
fetch_fails s t node r (fetch_fault.BadIndex region at) P is counts row index exact = (λ rows told. subst (λ x. MatchResult x (P rows) NoDamage) is (exact rows told), index region at is)
fetch_fails s t node r fetch_fault.NoMemory P is counts row index exact = tt

pub err_fails : {A : Type 0} (r : Result A FetchFault) (f : FetchFault) (P : FetchFault → Type 0) → r ≡ Err f → P f → IfErr r P
err_fails r f P is p = subst (λ x. IfErr x P) (sym is) p
