-- The open eyes name regions of parts alone, so what is written beside the parts changes nothing of what they show.
use Rattle.std.proofs.Common.{◌≡◌, ℕ, zero, suc, Bool, true, false, ◌||◌, List, [], ◌∷◌, ◌++◌, length, map, Some, None, refl, sym, ap, subst, ◌∙◌, arith, true≢false}
use Rattle.std.specs.Prelude.{Option, nat_eq, slice_get, option_map, Any, Contains}
use Rattle.std.specs.List.{AllByRecursion, list_any, range_with_len}
use Rattle.std.proofs.lemmas.Bool.{or_right}
use Rattle.std.proofs.lemmas.List.Elements.{All-contains, All-from_recursion, recursion_from_All}
use Rattle.std.proofs.lemmas.List.Folds.{list_any-append}
use Rattle.std.proofs.lemmas.List.Sorted.{All-permutation}
use Rattle.std.proofs.lemmas.Map.Views.{list_any-from_Contains}
use Rattle.fine_model.specs.declared.Part.{Part}
use Rattle.fine_model.specs.declared.law.OpenedEye.{OpenedEye}
use Rattle.fine_model.specs.declared.law.RoomState.{RoomState}
use Rattle.fine_model.specs.Boards.{Buffer, regions_by, set_of, posted, named, held_of}
use Rattle.fine_model.specs.Chain.{regions_of}
use Rattle.fine_model.specs.Regions.{Image, region_of}
use Rattle.fine_model.specs.Views.{SameSeen}
use Rattle.fine_model.proofs.Ordered.Nothing.{all_mapped, all_at}
use Rattle.fine_model.proofs.Ordered.Order.{all_map}
use Rattle.fine_model.proofs.Ordered.Sets.{all_pass}
use Rattle.log_disk.specs.Disk.{Told, Disk, OpenEye, BothTold, IsUnseen}
use Rattle.epoch_room.specs.Value.{all_regions}
use Rattle.epoch_room.specs.Whole.{AreOnBoard, BoardShows, NamesWhole}
use Rattle.epoch_room.proofs.RegionSets.Freeing.{nat_alike}

-- these regions are in none of these parts
abbrev pub AreBeside : List ℕ → List Part → Type 0
AreBeside regions parts = (r : ℕ) → list_any (nat_eq r) regions ≡ true → list_any (nat_eq r) (all_regions parts) ≡ false

pub one_beside : (region : ℕ) (parts : List Part) → list_any (nat_eq region) (all_regions parts) ≡ false → AreBeside (region ∷ []) parts
one_beside region parts none r there = subst (λ n. list_any (nat_eq n) (all_regions parts) ≡ false) (sym (is r region there)) none
  where
    is : (m n : ℕ) → (nat_eq m n || false) ≡ true → m ≡ n
    is m n h = grind (arith, h)

-- a region that an eye names is a part's
named_there : (parts : List Part) (r : ℕ) → Any (λ p. Contains (regions_of p) r) parts → list_any (nat_eq r) (all_regions parts) ≡ true
named_there [] r (k, p, low, is, there) = absurd (omega (arith, low))
named_there (q ∷ parts) r (zero, p, low, is, there) =
    list_any-append (nat_eq r) (regions_of q) (all_regions parts)
    ∙ ap (λ b. b || list_any (nat_eq r) (all_regions parts)) (list_any-from_Contains nat_alike r (regions_of q) (subst (λ (p : Part). Contains (regions_of p) r) (sym is) there))
named_there (q ∷ parts) r (suc k, p, low, is, there) =
    list_any-append (nat_eq r) (regions_of q) (all_regions parts) ∙ or_right (list_any (nat_eq r) (regions_of q)) _ (named_there parts r (k, p, omega (arith, low), is, there))

eye_of_parts : (parts : List Part) (eye : ℕ × List ℕ) → NamesWhole parts eye → AllByRecursion (λ r. list_any (nat_eq r) (all_regions parts) ≡ true) eye.1
eye_of_parts parts eye names =
    all_map (λ r. Any (λ p. Contains (regions_of p) r × AllByRecursion (Contains eye.1) (regions_of p)) parts) (λ r. list_any (nat_eq r) (all_regions parts) ≡ true)
    (λ r any. named_there parts r (any.0, any.1, any.2, any.3, any.4.0)) eye.1 names

-- no eye names a region that is in no part
eye_unnamed : (regions : List ℕ) (parts : List Part) (eye : ℕ × List ℕ) → AreBeside regions parts → NamesWhole parts eye → AllByRecursion (λ r. list_any (nat_eq r) regions ≡ false) eye.1
eye_unnamed regions parts eye beside names = all_map (λ r. list_any (nat_eq r) (all_regions parts) ≡ true) (λ r. list_any (nat_eq r) regions ≡ false) (λ r there. by r (list_any (nat_eq r) regions) refl there) eye.1 (eye_of_parts parts eye names)
  where
    by : (r : ℕ) (b : Bool) → list_any (nat_eq r) regions ≡ b → list_any (nat_eq r) (all_regions parts) ≡ true → list_any (nat_eq r) regions ≡ false
    by r false e there = e
    by r true e there = absurd (true≢false (sym there ∙ beside r e))

-- a set has no more than its list
set_within : (P : ℕ → Type 0) (regions : List ℕ) → AllByRecursion P regions → AllByRecursion P (set_of regions)
unfolding regions_by
set_within P regions all =
    all_map (λ r. list_any (nat_eq r) regions ≡ true) P (λ r there. all_at P r regions all there) (set_of regions) (all_pass (λ r. list_any (nat_eq r) regions) (range_with_len 0 64))

module _ (room : RoomState) (on_board : AreOnBoard room) (regions : List ℕ) (beside : AreBeside regions (room.parts ++ room.retired)) where
  all_unnamed : AllByRecursion (λ eye. AllByRecursion (λ r. list_any (nat_eq r) regions ≡ false) eye.1) room.eyes
  all_unnamed = all_map (NamesWhole (room.parts ++ room.retired)) (λ eye. AllByRecursion (λ r. list_any (nat_eq r) regions ≡ false) eye.1) (λ eye names. eye_unnamed regions (room.parts ++ room.retired) eye beside names) room.eyes on_board.of_parts

  pub unnamed_posted : AllByRecursion (λ eye. AllByRecursion (λ r. list_any (nat_eq r) regions ≡ false) eye.regions) (posted room.board)
  unnamed_posted = all_mapped P held_of (posted room.board) (recursion_from_All P (map held_of (posted room.board)) (All-permutation P (map named room.eyes) (map held_of (posted room.board)) on_board.eyes (All-from_recursion P (map named room.eyes) (mapped room.eyes all_unnamed))))
    where
      P : ℕ × List ℕ → Type 0
      P eye = AllByRecursion (λ r. list_any (nat_eq r) regions ≡ false) eye.1

      mapped : (eyes : List (ℕ × List ℕ)) → AllByRecursion P eyes → AllByRecursion P (map named eyes)
      mapped [] all = tt
      mapped (eye ∷ eyes) all = (set_within (λ r. list_any (nat_eq r) regions ≡ false) eye.1 all.0, mapped eyes all.1)

-- so the disk may be written there
pub unseen : (disk : Disk) (parts : List Part) (r : ℕ) → AllByRecursion (NamesWhole parts) (map (λ (eye : OpenEye). (eye.number, eye.regions)) disk.eyes) → list_any (nat_eq r) (all_regions parts) ≡ false → IsUnseen disk r
unseen disk parts r names none = All-from_recursion (λ (eye : OpenEye). Contains eye.regions r → ⊥) disk.eyes (each disk.eyes names)
  where
    one : (eye : OpenEye) → NamesWhole parts (eye.number, eye.regions) → Contains eye.regions r → ⊥
    one eye n there =
        let un = eye_unnamed (r ∷ []) parts (eye.number, eye.regions) (one_beside r parts none) n in
        let is = All-contains (λ q. list_any (nat_eq q) (r ∷ []) ≡ false) eye.regions r (All-from_recursion (λ q. list_any (nat_eq q) (r ∷ []) ≡ false) eye.regions un) there in
        itself r is
      where
        itself : (n : ℕ) → (nat_eq n n || false) ≡ false → ⊥
        itself n h = grind (arith, h)

    each : (eyes : List OpenEye) → AllByRecursion (NamesWhole parts) (map (λ (eye : OpenEye). (eye.number, eye.regions)) eyes) → AllByRecursion (λ (eye : OpenEye). Contains eye.regions r → ⊥) eyes
    each [] all = tt
    each (eye ∷ eyes) all = (one eye all.0, each eyes all.1)

-- ---- what the eyes show

abbrev pub AreAlike : List ℕ → Told → Told → Type 0
AreAlike regions a b = (length b.bytes ≡ length a.bytes) × ((r : ℕ) → list_any (nat_eq r) regions ≡ false → region_of b.bytes r ≡ region_of a.bytes r)

one_shows : (regions seen : List ℕ) (x y : Option Told) (told : Option Image) → BothTold (AreAlike regions) x y → AllByRecursion (λ r. list_any (nat_eq r) regions ≡ false) seen
    → SameSeen seen (option_map (λ (t : Told). t.bytes) x) told → SameSeen seen (option_map (λ (t : Told). t.bytes) y) told
one_shows regions seen None None told alike un same = same
one_shows regions seen None (Some b) told alike un same = absurd alike
one_shows regions seen (Some a) None told alike un same = absurd alike
one_shows regions seen (Some a) (Some b) None alike un same = same
one_shows regions seen (Some a) (Some b) (Some image) alike un same = record { as_many = same.as_many ∙ sym alike.0; same = each seen un same.same }
  where
    each : (rs : List ℕ) → AllByRecursion (λ r. list_any (nat_eq r) regions ≡ false) rs → AllByRecursion (λ r. region_of image r ≡ region_of a.bytes r) rs → AllByRecursion (λ r. region_of image r ≡ region_of b.bytes r) rs
    each [] un all = tt
    each (r ∷ rs) un all = (all.0 ∙ sym (alike.1 r un.0), each rs un.1 all.1)

pub still_shows : (regions : List ℕ) (x y : Option Told) (eyes : List OpenedEye) → BothTold (AreAlike regions) x y → AllByRecursion (λ eye. AllByRecursion (λ r. list_any (nat_eq r) regions ≡ false) eye.regions) eyes
    → AllByRecursion (λ eye. SameSeen eye.regions (option_map (λ (t : Told). t.bytes) x) eye.told) eyes → AllByRecursion (λ eye. SameSeen eye.regions (option_map (λ (t : Told). t.bytes) y) eye.told) eyes
still_shows regions x y [] alike un all = tt
still_shows regions x y (eye ∷ eyes) alike un all = (one_shows regions eye.regions x y eye.told alike un.0 all.0, still_shows regions x y eyes alike un.1 all.1)

-- what stands in a buffer is among what is filled
posted_at : (P : OpenedEye → Type 0) (board : List Buffer) (at : ℕ) (eye : OpenedEye) → AllByRecursion P (posted board) → slice_get board at ≡ Some (Some eye) → P eye
posted_at P [] at eye all is = absurd cc
posted_at P (None ∷ board) zero eye all is = absurd (let e : ◌≡◌ {A = Buffer} None (Some eye) = cc in cc)
posted_at P (Some first ∷ board) zero eye all is = let e : first ≡ eye = cc in subst P e all.0
posted_at P (None ∷ board) (suc at) eye all is = posted_at P board at eye all is
posted_at P (Some first ∷ board) (suc at) eye all is = posted_at P board at eye all.1 is

pub board_shows : BoardShows
board_shows value at eye whole is = posted_at (λ (eye : OpenedEye). SameSeen eye.regions value.room.image eye.told) value.room.board at eye whole.board.shows is
