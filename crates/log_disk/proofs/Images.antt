-- Images of a disk.
use Rattle.std.proofs.Common.{◌≡◌, ℕ, ◌<◌, List, [], length, get_or, sym, ap, ◌∙◌, arith}
use Rattle.std.specs.Prelude.{Any}
use Rattle.std.proofs.lemmas.Option.{unwrap_or-slice_get}
use Rattle.std.proofs.lemmas.List.{same_lists, get_or_default}
use Rattle.log_disk.specs.Disk.{Image, region_of, IsInSpan, Moment, IsImageAt}

none_in : {A : Type 0} (P : A → Type 0) (xs : List A) → xs ≡ [] → Any P xs → ⊥
none_in P xs empty any = let short : length xs ≡ 0 = ap length empty in omega (arith, any.2)

-- where nothing is unsynced, a crash leaves what the last sync left
pub only_synced : (moment : Moment) (image : Image) → moment.unsynced ≡ [] → IsImageAt moment image → image ≡ moment.synced
only_synced moment image none is = same_lists image moment.synced is.regions (λ r d h. here r d h)
  where
    bytes : (r k d : ℕ) → k < length (region_of image r) → get_or (region_of image r) k d ≡ get_or (region_of moment.synced r) k d
    bytes r k d h =
        get_or_default (region_of image r) k d 0 h ∙ is.elsewhere r k (none_in (IsInSpan r k) moment.unsynced none)
        ∙ get_or_default (region_of moment.synced r) k 0 d (omega (arith, h, is.lengths r))

    region : (r : ℕ) → region_of image r ≡ region_of moment.synced r
    region r = same_lists (region_of image r) (region_of moment.synced r) (is.lengths r) (λ k d h. bytes r k d h)

    here : (r : ℕ) (d : List ℕ) → r < length image → get_or image r d ≡ get_or moment.synced r d
    here r d h =
        get_or_default image r d [] h ∙ sym (unwrap_or-slice_get image r []) ∙ region r ∙ unwrap_or-slice_get moment.synced r []
        ∙ get_or_default moment.synced r [] d (omega (arith, h, is.regions))
