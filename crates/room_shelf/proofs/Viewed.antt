-- A view that is out, or was made, and one that is taken back.
use Rattle.std.proofs.Common.{◌≡◌, ◌∙◌, ℕ, zero, suc, true, List, [], ◌∷◌, Option, Some, None, refl, sym, ap, subst, arith, true≢false}
use Rattle.std.specs.Prelude.{Contains, option_map, slice_get, slice_set}
use Rattle.std.specs.List.{AllByRecursion, list_all}
use Rattle.fine_model.specs.declared.law.RoomState.{RoomState}
use Rattle.fine_model.specs.Boards.{Buffer, buffer_at, is_empty, set_of}
use Rattle.fine_model.specs.Chain.{regions_of}
use Rattle.log_disk.specs.Disk.{Disk, Told}
use Rattle.partition_hold.specs.Views.{IsView, ViewValue, opened}
use Rattle.partition_hold.proofs.ViewLemmas.{view_names}
use Rattle.epoch_room.specs.Meaning.{Keeps}
use Rattle.epoch_room.specs.Value.{RoomValue, on}
use Rattle.epoch_room.specs.Views.{Views}
use Rattle.epoch_room.specs.Whole.{IsWhole}
use Rattle.epoch_room.proofs.Views.Boarding.{board_shows}
use Rattle.epoch_room.proofs.Views.Viewing.{empty_is}
use Rattle.fine_model.proofs.Histories.Goings.{becomes_itself}
use Rattle.room_shelf.specs.Shelves.{HasView, IsLater, IsOut, IsShelf, SeesLive, ShelfValue, seen_as, shelf, total}

-- ---- the state of the room

-- a state on a disk that tells and is what it was is the old one but for its board, its eyes and its counts
pub same_log : (o : RoomState) (board : List Buffer) (d e : Disk) (n : RoomState) → o ≡ on o d → e.told ≡ d.told → e.regions ≡ d.regions → e.region_len ≡ d.region_len → n ≡ on (record o { board = board }) e → n ≡ seen_as o n
same_log o board d e n of_disk told regions len is = subst (λ m. m ≡ seen_as o m) (sym is) (one ∙ two ∙ three ∙ ap (λ r. seen_as r x) (sym of_disk))
  where
    x : RoomState
    x = on (record o { board = board }) e

    one : x ≡ record x { region_len = d.region_len }
    one = ap (λ k. record x { region_len = k }) len

    two : record x { region_len = d.region_len } ≡ record x { region_len = d.region_len; regions = d.regions }
    two = ap (λ k. record x { region_len = d.region_len; regions = k }) regions

    three : record x { region_len = d.region_len; regions = d.regions } ≡ seen_as (on o d) x
    three = ap (λ (t : Option Told). record x { region_len = d.region_len; regions = d.regions; image = option_map (λ (u : Told). u.bytes) t }) told

-- ---- the board

none_at : {P : Type 0} (y : Buffer) → ◌≡◌ {A = Option Buffer} None (Some y) → P
none_at y e = absurd (let x = e in cc)

set_there : (board : List Buffer) (at : ℕ) (was x : Buffer) → slice_get board at ≡ Some was → slice_get (slice_set board at x) at ≡ Some x
set_there [] at was x is = none_at was is
set_there (b ∷ board) zero was x is = refl
set_there (b ∷ board) (suc at) was x is = set_there board at was x is

set_again : (board : List Buffer) (at : ℕ) (x : Buffer) → list_all is_empty board ≡ true → list_all is_empty (slice_set (slice_set board at x) at None) ≡ true
set_again [] at x all = all
set_again (None ∷ board) zero x all = all
set_again (None ∷ board) (suc at) x all = set_again board at x all
set_again (Some eye ∷ board) at x all = absurd (true≢false (sym all))

-- ---- what the view sees

pub sees_of : (room : RoomValue) (view : ViewValue) → IsWhole room → IsView view → IsOut room.room view → SeesLive room.room view.eye
sees_of room view whole is_view out = record {
  regions = set_of view.eye.regions;
  same = board_shows room (buffer_at view.seat view.buffer) (opened view.eye) whole out.posted;
  named = subst (λ ps. AllByRecursion (λ p. AllByRecursion (Contains (set_of view.eye.regions)) (regions_of p)) ps) out.parts (view_names view is_view);
  region_len = sym is_view.long ∙ out.region_len;
}

pub later_itself : (s : ShelfValue) → IsLater s s
later_itself s = record { room = refl; target = refl; entry = refl; told = refl; regions = refl; region_len = refl; stands = λ first e history h. h; becomes = becomes_itself s.room.room }

pub still_out : (room : RoomValue) (out : Option ViewValue) (view : ViewValue) → out ≡ Some view → IsShelf room.room out → IsWhole room → IsView view → HasView room out room view
still_out room out view is on_shelf whole is_view = subst (λ o. HasView room o room view) (sym is) (record {
  is_out = there;
  sees = sees_of room view whole is_view there;
  later = later_itself (shelf room (Some view));
  clean = record { count = refl; own = refl; shut = refl };
})
  where
    there : IsOut room.room view
    there = subst (IsShelf room.room) is on_shelf

pub made_out : (old : RoomValue) (out : Option ViewValue) (new : RoomValue) (view : ViewValue) → out ≡ None → IsShelf old.room out → IsWhole old → IsWhole new → IsView view → Views old new 1 view → Keeps old new → HasView old out new view
made_out old out new view is on_shelf whole whole_new is_view v keeps = subst (λ o. HasView old o new view) (sym is) (record {
  is_out = there;
  sees = sees_of new view whole_new is_view there;
  later = record {
    room = same;
    target = v.posts.1.target;
    entry = v.posts.1.entry;
    told = v.opens.told;
    regions = v.posts.1.regions;
    region_len = v.posts.1.region_len;
    stands = keeps.stands;
    becomes = keeps.becomes;
  };
  clean = record { count = count; own = v.posts.2.own_faults; shut = ap (λ (r : RoomState). r.is_shut) v.posts.1.room };
})
  where
    empty : list_all is_empty old.room.board ≡ true
    empty = subst (IsShelf old.room) is on_shelf

    board_is : new.room.board ≡ slice_set old.room.board (buffer_at 1 view.buffer) (Some (opened view.eye))
    board_is = ap (λ (r : RoomState). r.board) v.posts.1.room

    same : new.room ≡ seen_as old.room new.room
    same = same_log old.room (slice_set old.room.board (buffer_at 1 view.buffer) (Some (opened view.eye))) old.disk new.disk new.room whole.of_disk v.opens.told v.opens.others.0 v.opens.others.1 v.posts.1.room

    count : total (shelf new (Some view)) ≡ total (shelf old None)
    count = let a = v.opens.others.3 in let b = v.opens.fresh.0 in omega (arith, a, b)

    there : IsOut new.room view
    there = record {
      seat = v.of_seat;
      upto = v.upto ∙ sym (ap (λ (r : RoomState). r.sealed) same);
      parts = v.parts ∙ sym (ap (λ (r : RoomState). r.parts) same);
      region_len = v.region_len ∙ sym (ap (λ (r : RoomState). r.region_len) same);
      opened = ap (λ (r : RoomState). r.is_shut) v.posts.1.room ∙ v.posts.0;
      posted = subst (λ seat. slice_get new.room.board (buffer_at seat view.buffer) ≡ Some (Some (opened view.eye))) (sym v.of_seat)
          (ap (λ b. slice_get b (buffer_at 1 view.buffer)) board_is ∙ set_there old.room.board (buffer_at 1 view.buffer) None (Some (opened view.eye)) (empty_is old.room.board 1 view.buffer v.buffer));
      alone = subst (λ seat. list_all is_empty (slice_set new.room.board (buffer_at seat view.buffer) None) ≡ true) (sym v.of_seat)
          (ap (λ b. list_all is_empty (slice_set b (buffer_at 1 view.buffer) None)) board_is ∙ set_again old.room.board (buffer_at 1 view.buffer) (Some (opened view.eye)) empty);
    }
