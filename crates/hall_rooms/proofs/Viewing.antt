-- A view is made, or taken back.
use Rattle.std.proofs.Common.{◌≡◌, ◌⊎◌, inl, inr, ⊎_elim, ℕ, ◌+◌, ◌≤◌, nat_le, List, [], ◌∷◌, ◌++◌, Option, Some, None, Ok, Err, refl, sym, ap, ◌∙◌, subst, arith}
use Rattle.std.specs.Prelude.{Result, min, option_map, IfOk, Contains}
use Rattle.std.proofs.Math.Nat.{min-le_left, min-eq_left}
use Rattle.fine_places.proofs.Lists.{bool_cases}
use Rattle.fine_model.specs.declared.Row.{Row}
use Rattle.fine_model.specs.declared.law.RoomState.{RoomState}
use Rattle.fine_model.specs.Boards.{Buffer, set_of, regions_by}
use Rattle.fine_model.specs.Buckets.{Began}
use Rattle.fine_model.specs.Faults.{HasRisen, last_count}
use Rattle.fine_model.specs.Jobs.{KeepsJob}
use Rattle.fine_model.specs.Regions.{Image}
use Rattle.log_disk.specs.Disk.{BothTold, Disk, Told}
use Rattle.log_disk.specs.Moments.{Continues}
use Rattle.partition_hold.specs.Views.{ViewValue}
use Rattle.epoch_room.specs.Meaning.{Keeps, origin_of}
use Rattle.epoch_room.specs.Returns.{TakesBack}
use Rattle.epoch_room.specs.Steps.{shut_state}
use Rattle.epoch_room.specs.Value.{RoomValue, on}
use Rattle.epoch_room.specs.Views.{AgreesUpTo, Views, ViewsLog, ViewsOr}
use Rattle.epoch_room.specs.Whole.{IsWhole}
use Rattle.epoch_room.specs.declared.answers.RoomFault.{RoomFault}
use Rattle.epoch_room.specs.declared.answers.RoomFault.TheVariants as room_fault
use Rattle.hall_rooms.specs.Boards.{TakesBackAll, with_views}
use Rattle.hall_rooms.specs.Views.{FailsToSee, MakesView, MakesViewOr, with_eyes, with_faults}

-- ---- states

none : set_of [] ≡ []
unfolding regions_by
none = refl

abbrev bytes_of : Option Told → Option Image
bytes_of t = option_map (λ (u : Told). u.bytes) t

module _ (o n : RoomState) (d e : Disk) (of_disk : o ≡ on o d) (told : e.told ≡ d.told) (regions : e.regions ≡ d.regions) (len : e.region_len ≡ d.region_len) where
  -- a state that is f of the old one as the disk then was is f of the old one
  alone_by : (f : RoomState → RoomState → RoomState) (m : RoomState) → n ≡ m → m ≡ f (on o d) m → n ≡ f o n
  alone_by f m is one = subst (λ k. k ≡ f o k) (sym is) (one ∙ ap (λ r. f r m) (sym of_disk))

  pub eyes_alone : (board : List Buffer) → e.faults ≡ d.faults → e.own_faults ≡ d.own_faults → n ≡ on (record o { board = board }) e → n ≡ with_eyes o n
  eyes_alone board faults own is = alone_by with_eyes (on (record o { board = board }) e) is
      (λ i. record (on (record o { board = board }) e) { region_len = len i; regions = regions i; image = bytes_of (told i); faults = faults i; own_faults = own i })

  pub views_alone : (board : List Buffer) → e.given ≡ d.given → e.own_faults ≡ d.own_faults → n ≡ on (record o { board = board }) e → n ≡ with_views o n
  views_alone board given own is = alone_by with_views (on (record o { board = board }) e) is
      (λ i. record (on (record o { board = board }) e) { region_len = len i; regions = regions i; image = bytes_of (told i); given = given i; own_faults = own i })

  pub faults_alone : o.lost ≡ [] → n ≡ on (shut_state o []) e → n ≡ with_faults o n
  faults_alone lost is = alone_by with_faults (on (shut_state o []) e) is
      (λ i. record (on (shut_state o []) e) { region_len = len i; regions = regions i; image = bytes_of (told i); lost = (none ∙ sym lost) i })

-- ---- what the disk tells

told_now : (a b : Option Told) → BothTold Continues a b → (image : Image) → bytes_of a ≡ Some image → (t : Told) × (b ≡ Some t)
told_now None None c image is = absurd (let e : ◌≡◌ {A = Option Image} None (Some image) = is in cc)
told_now None (Some t) c image is = absurd c
told_now (Some s) None c image is = absurd c
told_now (Some s) (Some t) c image is = (t, refl)

-- where the log at entry was told, the disk tells its bytes
pub tells_still : (room : RoomValue) → IsWhole room → (e : ℕ) (first : List Row) → Began (origin_of room.entry) e first → (t : Told) × (room.disk.told ≡ Some t)
unfolding origin_of
tells_still room whole e first b = told_now room.entry.told room.disk.told whole.entry.time b.image b.told

-- ---- making a view

made : (old new : RoomValue) (seat : ℕ) (v : ViewValue) → IsWhole old → Views old new seat v → ViewsLog old v → Keeps old new → KeepsJob old.room new.room → MakesView old new seat v
made old new seat v whole s log keeps job = record {
  views = s;
  of_parts = s.opens.of_regions.0;
  clean = s.opens.fresh.0;
  is_new = λ had. s.opens.is_new (subst (λ (l : List ℕ). Contains l v.eye.number) (ap (λ (r : RoomState). r.given) whole.of_disk) had);
  given = ap (λ (r : RoomState). r.given) s.posts.1.room ∙ (s.opens.given ∙ ap (λ l. l ++ v.eye.number ∷ []) (sym (ap (λ (r : RoomState). r.given) whole.of_disk)));
  board = ap (λ (r : RoomState). r.board) s.posts.1.room;
  not_shut = s.posts.0;
  room = eyes_alone old.room new.room old.disk new.disk whole.of_disk s.opens.told s.opens.others.0 s.opens.others.1 _ s.opens.others.3 s.opens.others.4 s.posts.1.room;
  leaves = record { target = s.posts.1.target; entry = s.posts.1.entry; keeps = keeps; job = job };
  tells = λ e first history began stands. let t = tells_still old whole e first began in subst (λ o. AgreesUpTo o v first history) t.1 (log first e history stands);
}

fails : (old new : RoomValue) (seat : ℕ) → IsWhole old → ViewsOr old new seat (Err room_fault.Disk) → Keeps old new → KeepsJob old.room new.room → FailsToSee old new
fails old new seat whole s keeps job = record {
  was_open = s.0.0;
  is_shut = ap (λ (r : RoomState). r.is_shut) s.0.1.room;
  faults = subst (λ n. HasRisen n new.room.faults) (sym (ap (λ (r : RoomState). r.faults) whole.of_disk)) (subst (HasRisen old.disk.faults) (sym (ap (λ (r : RoomState). r.faults) s.0.1.room)) s.0.2.faults);
  own_faults = subst (λ n. HasRisen n new.room.own_faults) (sym (ap (λ (r : RoomState). r.own_faults) whole.of_disk)) (subst (HasRisen old.disk.own_faults) (sym (ap (λ (r : RoomState). r.own_faults) s.0.1.room)) s.0.2.own_faults);
  board = ap (λ (r : RoomState). r.board) s.0.1.room;
  room = faults_alone old.room new.room old.disk new.disk whole.of_disk s.1 s.0.1.regions s.0.1.region_len (whole.lost s.0.0) s.0.1.room;
  leaves = record { target = s.0.1.target; entry = s.0.1.entry; keeps = keeps; job = job };
}

pub made_or : (old new : RoomValue) (seat : ℕ) (r : Result ViewValue RoomFault) → IsWhole old → ViewsOr old new seat r → IfOk r (ViewsLog old) → Keeps old new → KeepsJob old.room new.room → MakesViewOr old new seat r
made_or old new seat (Ok v) whole s log keeps job = made old new seat v whole s log keeps job
made_or old new seat (Err room_fault.Disk) whole s log keeps job = fails old new seat whole s keeps job
made_or old new seat (Err (room_fault.Shut epoch)) whole s log keeps job = s
made_or old new seat (Err room_fault.NoMemory) whole s log keeps job = s

-- ---- taking it back

pub either : (a b : ℕ) → (a ≤ b) ⊎ (b ≤ a)
either a b = ⊎_elim (λ low. inl (grind (arith, low))) (λ high. inr (grind (arith, high))) (bool_cases (nat_le a b))

capped : (a f n : ℕ) → n ≡ min (a + f) last_count → (n ≤ a + f) × ((a + f ≤ n) ⊎ (last_count ≤ n))
capped a f n is = (let l = min-le_left (a + f) last_count in omega (arith, is, l), by (either (a + f) last_count))
  where
    by : (a + f ≤ last_count) ⊎ (last_count ≤ a + f) → (a + f ≤ n) ⊎ (last_count ≤ n)
    by (inl low) = inl (let e = min-eq_left low in omega (arith, is, e))
    by (inr high) = inr (grind (arith, is, high))

pub taken_back : (old new : RoomValue) (v : ViewValue) → IsWhole old → TakesBack old new v → Keeps old new → TakesBackAll v.eye.faults old new
taken_back old new v whole s keeps = record {
  room = views_alone old.room new.room old.disk new.disk whole.of_disk s.closes.told s.closes.others.0 s.closes.others.1 _ s.closes.given s.closes.others.3 s.room.room;
  target = s.room.target;
  entry = s.room.entry;
  keeps = keeps;
  high = counted.0;
  low = counted.1;
}
  where
    is : new.room.faults ≡ min (old.room.faults + v.eye.faults) last_count
    is = ap (λ (r : RoomState). r.faults) s.room.room ∙ (s.closes.faults ∙ ap (λ n. min (n + v.eye.faults) last_count) (sym (ap (λ (r : RoomState). r.faults) whole.of_disk)))

    counted : (new.room.faults ≤ old.room.faults + v.eye.faults) × ((old.room.faults + v.eye.faults ≤ new.room.faults) ⊎ (last_count ≤ new.room.faults))
    counted = capped old.room.faults v.eye.faults new.room.faults is
