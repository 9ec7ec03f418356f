-- What one call keeps and then another one, both keep.
use Rattle.std.proofs.Common.{◌≡◌, ◌⊎◌, ℕ, zero, suc, ◌≤◌, List, [], ◌∷◌, ◌++◌, length, drop, Some, None, refl, sym, ap, subst, ◌∙◌, inl, inr, arith, length-append}
use Rattle.std.specs.Prelude.{Any, Option, slice_get, slice_set}
use Rattle.fine_model.specs.declared.Row.{Row}
use Rattle.fine_model.specs.declared.law.RoomState.{RoomState}
use Rattle.fine_model.specs.Boards.{buffer_at}
use Rattle.fine_model.specs.History.{Commit, last_epoch}
use Rattle.fine_model.specs.Headline.{ShowsSome}
use Rattle.fine_model.proofs.Histories.Goings.{becomes_on}
use Rattle.log_disk.specs.Disk.{BothTold, Image, IsImageAt, IsImageSince, Moment, Told, clock_of}
use Rattle.log_disk.specs.Moments.{Continues}
use Rattle.log_disk.proofs.Times.{continued_later, continues_then}
use Rattle.epoch_room.specs.Meaning.{Keeps, ShownInside}
use Rattle.partition_hold.specs.Views.{ViewValue, opened}
use Rattle.epoch_room.specs.Returns.{IsPosted}
use Rattle.epoch_room.specs.Value.{RoomValue}
use Rattle.epoch_room.specs.Views.{Views}
use Rattle.epoch_room.proofs.Views.Viewing.{empty_is}

any_cons : {A : Type 0} (P : A → Type 0) (x : A) (xs : List A) → Any P xs → Any P (x ∷ xs)
any_cons P x xs any = (suc any.0, any.1, omega (arith, any.2), any.3, any.4)

any_split : {A : Type 0} (P : A → Type 0) (xs ys : List A) → Any P (xs ++ ys) → Any P xs ⊎ Any P ys
any_split P [] ys any = inr any
any_split P (x ∷ xs) ys (zero, z, low, is, h) = inl (zero, z, omega arith, is, h)
any_split P (x ∷ xs) ys (suc k, z, low, is, h) = elim (any_split P xs ys (k, z, omega (arith, low), is, h)) as (λ _. Any P (x ∷ xs) ⊎ Any P ys) [ inl a ↦ inl (any_cons P x xs a) | inr b ↦ inr b ]

any_behind : {A : Type 0} (P : A → Type 0) (xs ys : List A) → Any P ys → Any P (xs ++ ys)
any_behind P [] ys any = any
any_behind P (x ∷ xs) ys any = any_cons P x (xs ++ ys) (any_behind P xs ys any)

drop_front : {A : Type 0} (k : ℕ) (xs ys : List A) → k ≤ length xs → drop k (xs ++ ys) ≡ drop k xs ++ ys
drop_front zero xs ys few = refl
drop_front (suc k) [] ys few = absurd (omega (arith, few))
drop_front (suc k) (x ∷ xs) ys few = drop_front k xs ys (omega (arith, few))

-- an image since a moment was one at the end of the first run, or is one of the second
since_either : (k : ℕ) (b c : Told) → Continues b c → k ≤ clock_of b → (image : Image) → IsImageSince k c image → IsImageSince k b image ⊎ IsImageSince (clock_of b) c image
since_either k b c on low image since =
    let P : Moment → Type 0 = λ moment. IsImageAt moment image in
    let whole : List Moment = b.past ++ b.present ∷ [] in
    let long = length-append b.past (b.present ∷ []) in
    let then' : Any P (drop k whole ++ on.more) = subst (Any P) (ap (drop k) on.moments ∙ drop_front k whole on.more (omega (arith, low, long))) since in
    elim (any_split P (drop k whole) on.more then') as (λ _. IsImageSince k b image ⊎ IsImageSince (clock_of b) c image) [
      | inl a ↦ inl a
      | inr m ↦ inr (subst (Any P) (sym (ap (drop (clock_of b)) on.moments ∙ drop_front (clock_of b) whole on.more (omega (arith, long)))) (any_behind P (drop (clock_of b) whole) on.more m))
    ]

pub keeps_then : (a b c : RoomValue) → Keeps a b → Keeps b c → Keeps a c
keeps_then a b c f s = record {
  stands = λ first e history h. s.stands first e history (f.stands first e history h);
  inside = λ first e history h. on' first e history a.disk.told b.disk.told c.disk.told f.time s.time (f.inside first e history h) (s.inside first e history (f.stands first e history h));
  becomes = becomes_on a.room b.room c.room f.becomes s.becomes;
  time = continues_then a.disk b.disk c.disk f.time s.time;
}
  where
    wider : (first : List Row) (history : List Commit) (high : ℕ) (image : Image) → ShowsSome b.room.region_len first history b.room.sealed high image → ShowsSome a.room.region_len first history a.room.sealed high image
    wider first history high image some = subst (λ n. ShowsSome n first history a.room.sealed high image) f.becomes.region_len (record { e = some.e; rows = some.rows; shows = some.shows; from = omega (arith, some.from, f.becomes.sealed); to = some.to; agrees = some.agrees })

    on' : (first : List Row) (e : ℕ) (history : List Commit) (x y z : Option Told) → BothTold Continues x y → BothTold Continues y z → ShownInside a x y first e history → ShownInside b y z first e history → ShownInside a x z first e history
    on' first e history None y None p q u v = tt
    on' first e history None None (Some r) p q u v = absurd q
    on' first e history None (Some t) (Some r) p q u v = absurd p
    on' first e history (Some o) None z p q u v = absurd p
    on' first e history (Some o) (Some t) None p q u v = absurd q
    on' first e history (Some o) (Some t) (Some r) p q u v = λ image since.
        elim (since_either (clock_of o) t r q (continued_later o t p) image since) as (λ _. ShowsSome a.room.region_len first history a.room.sealed (last_epoch e history) image) [ inl earlier ↦ u image earlier | inr later ↦ wider first history (last_epoch e history) image (v image later) ]

-- ---- views

get_put : {A : Type 0} (xs : List A) (k : ℕ) (x y : A) → slice_get xs k ≡ Some y → slice_get (slice_set xs k x) k ≡ Some x
get_put {A} [] k x y is = absurd (let e : ◌≡◌ {A = Option A} None (Some y) = is in cc)
get_put (z ∷ xs) zero x y is = refl
get_put (z ∷ xs) (suc k) x y is = get_put xs k x y is

pub views_posted : (old new : RoomValue) (seat : ℕ) (view : ViewValue) → Views old new seat view → IsPosted new.room view
views_posted old new seat view v =
    let board : new.room.board ≡ slice_set old.room.board (buffer_at seat view.buffer) (Some (opened view.eye)) = ap (λ (r : RoomState). r.board) v.posts.1.room in
    ap (λ n. slice_get new.room.board (buffer_at n view.buffer)) v.of_seat ∙ ap (λ b. slice_get b (buffer_at seat view.buffer)) board
    ∙ get_put old.room.board (buffer_at seat view.buffer) (Some (opened view.eye)) None (empty_is old.room.board seat view.buffer v.buffer)
