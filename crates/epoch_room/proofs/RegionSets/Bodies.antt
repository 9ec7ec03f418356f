-- What the body of a part holds depends on the part's regions alone.
use Rattle.std.proofs.Common.{◌≡◌, ℕ, false, List, [], ◌∷◌, ◌++◌, drop, take, Some, None, refl, ap, ◌∙◌}
use Rattle.std.specs.Prelude.{Option, flat_map, nat_eq, option_map}
use Rattle.std.specs.List.{AllByRecursion, list_any}
use Rattle.fine_model.specs.declared.Header.{Header}
use Rattle.fine_model.specs.declared.Job.{Job}
use Rattle.fine_model.specs.Jobs.{held_by, held_for, taken_by}
use Rattle.fine_model.specs.Regions.{Image, region_of, body_in, body_start, continuations}
use Rattle.fine_model.proofs.Ordered.Order.{all_map}
use Rattle.log_disk.specs.Disk.{Told, BothTold}

pub body_same : (a b : Image) (lead : ℕ) (header : Header) → AllByRecursion (λ r. region_of b r ≡ region_of a r) (lead ∷ continuations header) → body_in b lead header ≡ body_in a lead header
unfolding body_in
body_same a b lead header same =
    ap (λ bytes. drop (body_start header.mark) bytes ++ flat_map (λ region. drop 1 (region_of b region)) (continuations header)) same.0
    ∙ ap (λ bytes. drop (body_start header.mark) (region_of a lead) ++ bytes) (rest (continuations header) same.1)
  where
    rest : (rs : List ℕ) → AllByRecursion (λ r. region_of b r ≡ region_of a r) rs → flat_map (λ region. drop 1 (region_of b region)) rs ≡ flat_map (λ region. drop 1 (region_of a region)) rs
    rest [] all = refl
    rest (r ∷ rs) all = ap (λ bytes. drop 1 bytes ++ flat_map (λ region. drop 1 (region_of b region)) rs) all.0 ∙ ap (λ bytes. drop 1 (region_of a r) ++ bytes) (rest rs all.1)

held_same : (a b : Image) (target written : ℕ) (header : Option Header) → AllByRecursion (λ r. region_of b r ≡ region_of a r) (taken_by target header) → held_by b target written header ≡ held_by a target written header
held_same a b target written None same = refl
held_same a b target written (Some header) same = ap (take written) (body_same a b target header same)

-- what a merge holds stays where its regions do
pub holds_still : (regions : List ℕ) (job : Job) (x y : Option Told) → AllByRecursion (λ r. list_any (nat_eq r) regions ≡ false) (taken_by job.target job.header)
    → BothTold (λ a b. (r : ℕ) → list_any (nat_eq r) regions ≡ false → region_of b.bytes r ≡ region_of a.bytes r) x y
    → held_for (option_map (λ (t : Told). t.bytes) y) job ≡ held_for (option_map (λ (t : Told). t.bytes) x) job
holds_still regions job None None apart alike = refl
holds_still regions job None (Some b) apart alike = absurd alike
holds_still regions job (Some a) None apart alike = absurd alike
holds_still regions job (Some a) (Some b) apart alike =
    ap (λ bytes. Some bytes) (held_same a.bytes b.bytes job.target job.written job.header (all_map (λ r. list_any (nat_eq r) regions ≡ false) (λ r. region_of b.bytes r ≡ region_of a.bytes r) (λ r h. alike r h) (taken_by job.target job.header) apart))
