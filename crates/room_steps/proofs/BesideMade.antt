-- What the live parts are made of behind a call that touches none of their regions.
use Rattle.std.proofs.Common.{◌≡◌, ◌∙◌, ℕ, zero, suc, ◌≤◌, false, List, [], ◌∷◌, ◌++◌, length, Option, Some, None, refl, sym, ap, subst, arith}
use Rattle.std.specs.Prelude.{Contains, IfSome, nat_eq, option_map}
use Rattle.std.specs.List.{AllByRecursion, list_any}
use Rattle.std.proofs.lemmas.List.Elements.{All-contains, All-from_recursion, Contains-append_left}
use Rattle.log_disk.specs.Disk.{BothTold, IsToldOf, Told, region_of}
use Rattle.fine_model.specs.declared.Part.{Part}
use Rattle.fine_model.specs.declared.law.RoomState.{RoomState}
use Rattle.fine_model.specs.Chain.{regions_of}
use Rattle.fine_model.specs.Regions.{HasHeader, Image}
use Rattle.fine_model.proofs.Ordered.Times.{times, times-append, times-same, times-tail}
use Rattle.damage_laws.specs.Made.{AreMadeOf}
use Rattle.damage_laws.specs.Places.{AreKeptOrGood, IsUnchanged}
use Rattle.epoch_room.specs.Gate.{KeepsBeside}
use Rattle.epoch_room.specs.Value.{RoomValue, all_regions}
use Rattle.epoch_room.specs.Whole.{IsWhole}
use Rattle.epoch_room.proofs.RegionSets.Freeing.{held_now}
use Rattle.room_steps.specs.Made.{MadeOn}
use Rattle.room_steps.proofs.JoinedMade.{all_good, none_made}
use Rattle.room_steps.proofs.MadeOn.{made_none}
use Rattle.room_steps.proofs.Stepping.{none_more}

-- ---- what a read gives

-- both are told, where a read of both gives bytes
pub record BothRead (R : Told → Told → Type 0) (x y : Option Told) (first last : Image) : Type 0 where
  pub was : Told
  pub now : Told
  pub is_was : x ≡ Some was
  pub is_now : y ≡ Some now
  pub first_is : was.bytes ≡ first
  pub last_is : now.bytes ≡ last
  pub related : R was now

pub bytes_are : (t : Told) (image : Image) → ◌≡◌ {A = Option Image} (Some t.bytes) (Some image) → t.bytes ≡ image
bytes_are t image e = cc

pub both_read : (R : Told → Told → Type 0) (x y : Option Told) (first last : Image) → BothTold R x y → option_map (λ (t : Told). t.bytes) x ≡ Some first → option_map (λ (t : Told). t.bytes) y ≡ Some last → BothRead R x y first last
both_read R (Some a) (Some b) first last r e f = record { was = a; now = b; is_was = refl; is_now = refl; first_is = bytes_are a first e; last_is = bytes_are b last f; related = r }
both_read R (Some a) None first last r e f = absurd r
both_read R None y first last r e f = absurd (let x = e in cc)

-- ---- the live parts beside the target

pub each_counted : (P : ℕ → Type 0) (rs : List ℕ) → ((r : ℕ) → 1 ≤ times r rs → P r) → AllByRecursion P rs
each_counted P [] f = tt
each_counted P (r ∷ rs) f = (f r (let s = times-same r rs in omega (arith, s)), each_counted P rs (λ s low. f s (let t = times-tail s r rs in omega (arith, low, t))))

pub in_parts : (p : Part) (parts : List Part) (r : ℕ) → Contains parts p → times r (regions_of p) ≤ times r (all_regions parts)
in_parts p [] r (k, low, is) = absurd (omega (arith, low))
in_parts p (q ∷ parts) r (zero, low, is) = let s = times-append r (regions_of q) (all_regions parts) in let e = ap (λ (x : Part). times r (regions_of x)) is in omega (arith, s, e)
in_parts p (q ∷ parts) r (suc k, low, is) = let s = times-append r (regions_of q) (all_regions parts) in let l = in_parts p parts r (k, omega (arith, low), is) in omega (arith, s, l)

-- ---- what a call touches

pub images : (o : RoomValue) → IsWhole o → (image : Image) → o.room.image ≡ Some image → option_map (λ (t : Told). t.bytes) o.disk.told ≡ Some image
images o w image is = sym (ap (λ (r : RoomState). r.image) w.of_disk) ∙ is

pub long_as : (o : RoomValue) → IsWhole o → (image : Image) → o.room.image ≡ Some image → length image ≡ o.disk.regions
long_as o w image is = by o.disk.told w.sound.told (images o w image is)
  where
    by : (t : Option Told) → IfSome t (IsToldOf o.disk) → option_map (λ (t : Told). t.bytes) t ≡ Some image → length image ≡ o.disk.regions
    by None told e = absurd (let x = e in cc)
    by (Some t) told e = ap length (sym (bytes_are t image e)) ∙ told.regions

module _ (old new : RoomValue) (was : IsWhole old) (whole : IsWhole new) (opened : old.room.is_shut ≡ false) (regions : new.disk.regions ≡ old.disk.regions) (touched : List ℕ)
    (apart : (p : Part) → Contains old.room.parts p → AllByRecursion (λ r. list_any (nat_eq r) touched ≡ false) (regions_of p)) (read : KeepsBeside touched old.disk new.disk) where
  module _ (first last : Image) (is_first : old.room.image ≡ Some first) (is_last : new.room.image ≡ Some last) where
    beside : BothRead (λ a b. (r : ℕ) → list_any (nat_eq r) touched ≡ false → region_of b.bytes r ≡ region_of a.bytes r) old.disk.told new.disk.told first last
    beside = both_read _ old.disk.told new.disk.told first last read (images old was first is_first) (images new whole last is_last)

    -- a live part has the bytes that it had
    pub unchanged : (p : Part) → Contains old.room.parts p → IsUnchanged old.room.region_len first last p
    unchanged p there = record {
      header = subst (λ n. HasHeader n first p.region p.header) (sym (ap (λ (r : RoomState). r.region_len) was.of_disk))
          (All-contains (λ (q : Part). HasHeader old.disk.region_len first q.region q.header) (old.room.parts ++ old.room.retired) p (All-from_recursion _ (old.room.parts ++ old.room.retired) (held_now old was (was.lost opened) first is_first).1.headers)
          (Contains-append_left old.room.parts old.room.retired p there));
      same = record { as_many = long_as new whole last is_last ∙ regions ∙ sym (long_as old was first is_first); same = each (regions_of p) (apart p there) };
    }
      where
        each : (rs : List ℕ) → AllByRecursion (λ r. list_any (nat_eq r) touched ≡ false) rs → AllByRecursion (λ r. region_of last r ≡ region_of first r) rs
        each [] all = tt
        each (r ∷ rs) all = (ap (λ i. region_of i r) (sym beside.last_is) ∙ beside.related r all.0 ∙ ap (λ i. region_of i r) beside.first_is, each rs all.1)

  -- where the live parts are the same, whatever came of what was touched
  pub kept_made : new.room.open_rows ≡ old.room.open_rows → new.room.parts ≡ old.room.parts → MadeOn old new
  kept_made rows parts = made_none old new rows (record {
    makes = λ entry first last at_entry sealed is_first is_last made.
        none_more old.room.region_len entry last at_entry sealed new.room.parts
        (subst (AreMadeOf old.room.region_len entry last at_entry sealed) (sym parts) (none_made old.room.region_len entry first last at_entry sealed old.room.parts (unchanged first last is_first is_last) made));
    good = λ entry first last at_entry is_first is_last good.
        subst (AreKeptOrGood old.room.region_len entry last at_entry) (sym parts) (all_good old.room.region_len entry first last at_entry old.room.parts (unchanged first last is_first is_last) good);
  })
