-- As long as an eye is open, its regions on the disk hold what it shows: laws for the crates above.
use Rattle.std.proofs.Common.{◌≡◌, ◌≢◌, ℕ, zero, suc, ◌+◌, ◌<◌, Bool, true, false, cond, List, [], ◌∷◌, length, get_or, Some, None, sym, ap, subst, ◌∙◌, inl, inr, arith}
use Rattle.std.specs.Prelude.{Option, All, Any, Contains, filter, not, ◌==◌}
use Rattle.std.proofs.lemmas.List.{get_or_default}
use Rattle.std.proofs.lemmas.Bool.{ne_eqb}
use Rattle.std.proofs.lemmas.List.Elements.{All-contains}
use Rattle.log_disk.specs.Disk.{Image, region_of, Told, Disk, Eye, OpenEye, BothTold, BothSee, SameOutside, IsUnseen, Writes, Syncs, Opens, Closes, HasSynced}
use Rattle.log_disk.specs.Moments.{SameSeen, IsOpenOn}
use Rattle.log_disk.proofs.Lists.{contains_left, contains_last}

-- an eye that was opened is open
pub opens_open : {regions : List ℕ} {eye : Eye} {old new : Disk} → Opens regions eye old new → IsOpenOn eye new
opens_open {regions} {eye} {old} {new} o = record {
  listed =
      subst (λ rs. Contains new.eyes (record { number = eye.number; regions = rs })) (sym o.of_regions.0)
      (subst (λ eyes. Contains eyes (record { number = eye.number; regions = regions })) (sym o.listed) (contains_last old.eyes (record { number = eye.number; regions = regions })));
  seen = subst (λ told. SameSeen eye.regions told eye.told) (sym o.told) (seen old.told eye.told o.sees);
}
  where
    seen : (told : Option Told) (image : Option Image) → BothSee told image → SameSeen eye.regions told image
    seen None None h = tt
    seen None (Some image) h = absurd h
    seen (Some told) None h = absurd h
    seen (Some told) (Some image) h = λ k d _. ap (λ i. region_of i (get_or eye.regions k d)) h

-- another eye that is opened
pub opens_kept : {regions : List ℕ} {eye other : Eye} {old new : Disk} → Opens regions other old new → IsOpenOn eye old → IsOpenOn eye new
opens_kept {regions} {eye} {other} {old} {new} o is = record {
  listed = subst (λ es. Contains es (record { number = eye.number; regions = eye.regions })) (sym o.listed) (contains_left old.eyes _ _ is.listed);
  seen = subst (λ t. SameSeen eye.regions t eye.told) (sym o.told) is.seen;
}

-- bytes that stay in the regions of an eye
seen_kept : (P : Told → Told → Type 0) (regions : List ℕ) (same : (a b : Told) → P a b → All (λ r. region_of b.bytes r ≡ region_of a.bytes r) regions)
    → (old new : Option Told) (image : Option Image) → BothTold P old new → SameSeen regions old image → SameSeen regions new image
seen_kept P regions same None None None p s = tt
seen_kept P regions same None None (Some image) p s = absurd s
seen_kept P regions same None (Some b) image p s = absurd p
seen_kept P regions same (Some a) None image p s = absurd p
seen_kept P regions same (Some a) (Some b) None p s = absurd s
seen_kept P regions same (Some a) (Some b) (Some image) p s = λ k d h. s k d h ∙ sym (same a b p k d h)

-- a write, which is never to a region of it
pub writes_kept : {region at : ℕ} {bytes : List ℕ} {failed : Type 0} {eye : Eye} {old new : Disk} → IsUnseen old region → Writes region at bytes failed old new → IsOpenOn eye old → IsOpenOn eye new
writes_kept {region} {at} {bytes} {failed} {eye} {old} {new} unseen w is = record {
  listed = subst (λ es. Contains es (record { number = eye.number; regions = eye.regions })) (sym w.beside.eyes) is.listed;
  seen =
      seen_kept (λ a b. SameOutside region at (at + length bytes) a.bytes b.bytes) eye.regions
      (λ a b same k d h. same.others (get_or eye.regions k d) (λ e. All-contains (λ (o : OpenEye). Contains o.regions region → ⊥) old.eyes (record { number = eye.number; regions = eye.regions }) unseen is.listed (k, h, get_or_default eye.regions k region d h ∙ e)))
      old.told new.told eye.told w.outside is.seen;
}

-- a sync
pub syncs_kept : {eye : Eye} {old new : Disk} → Syncs old new → IsOpenOn eye old → IsOpenOn eye new
syncs_kept {eye} {old} {new} s is = record {
  listed = subst (λ es. Contains es (record { number = eye.number; regions = eye.regions })) (sym s.beside.eyes) is.listed;
  seen = seen_kept (HasSynced old) eye.regions (λ a b synced k d h. bytes a b (get_or eye.regions k d) synced) old.told new.told eye.told s.time is.seen;
}
  where
    bytes : (a b : Told) (r : ℕ) → HasSynced old a b → region_of b.bytes r ≡ region_of a.bytes r
    bytes a b r (inl nothing) = ap (λ (t : Told). region_of t.bytes r) nothing.1
    bytes a b r (inr synced) = ap (λ i. region_of i r) synced.1

-- an element that a filter keeps
filter_has : {A : Type 0} (p : A → Bool) (xs : List A) (x : A) (k : ℕ) → p x ≡ true → k < length xs → get_or xs k x ≡ x → Contains (filter p xs) x
filter_has p [] x k t h e = absurd (omega (arith, h))
filter_has p (y ∷ ys) x zero t h e =
    subst (λ b. Contains (cond b (y ∷ filter p ys) (filter p ys)) x) (sym (ap p e ∙ t)) (0, omega arith, e)
filter_has p (y ∷ ys) x (suc k) t h e = either (p y) (filter p ys) (filter_has p ys x k t (omega (arith, h)) e)
  where
    either : (b : Bool) (zs : List _) → Contains zs x → Contains (cond b (y ∷ zs) zs) x
    either true zs c = (suc c.0, omega (arith, c.1), c.2)
    either false zs c = c

-- another eye that is closed
pub closes_kept : {eye other : Eye} {old new : Disk} → Closes other old new → eye.number ≢ other.number → IsOpenOn eye old → IsOpenOn eye new
closes_kept {eye} {other} {old} {new} c apart is = record {
  listed =
      subst (λ es. Contains es (record { number = eye.number; regions = eye.regions })) (sym c.listed)
      (filter_has (λ (e : OpenEye). not (e.number == other.number)) old.eyes _ is.listed.0 (ap not (ne_eqb eye.number other.number apart)) is.listed.1 is.listed.2);
  seen = subst (λ t. SameSeen eye.regions t eye.told) (sym c.told) is.seen;
}

-- an eye that is open can be closed, also once it was read through
pub closable : {eye : Eye} {disk : Disk} (now : Eye) → IsOpenOn eye disk → now.number ≡ eye.number → Any (λ e. e.number ≡ now.number) disk.eyes
closable {eye} now is same = (is.listed.0, record { number = eye.number; regions = eye.regions }, is.listed.1, is.listed.2, sym same)

-- an eye names the region at a place of its list
pub names_at : (named regions : List ℕ) (k region : ℕ) → named ≡ regions → k < length regions → get_or regions k region ≡ region → Contains named region
names_at named regions k region same h e = subst (λ rs. Contains rs region) (sym same) (k, h, e)
