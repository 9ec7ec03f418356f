-- Which images a crash may leave: laws for the crates above.
use Rattle.std.proofs.Common.{◌≡◌, ◌⊎◌, ℕ, ◌+◌, ◌≤◌, List, [], ◌∷◌, ◌++◌, length, get_or, drop, refl, sym, ap, subst, ◌∙◌, inl, inr, arith}
use Rattle.std.specs.Prelude.{Any}
use Rattle.std.proofs.lemmas.Bool.{cases_lt}
use Rattle.std.proofs.lemmas.List.{nil_from_length, length-map, length-append, drop-append-le, drop_at, get_or_append_left, get_or_at}
use Rattle.log_disk.specs.Disk.{Image, region_of, Span, Moment, IsImageAt, Told, Disk, clock_of, IsImageNow, IsImageSince, HasGoneOn, HasSynced, IsToldOf}
use Rattle.log_disk.specs.Moments.{LeavesOnly, IsLeft}
use Rattle.log_disk.proofs.Images.{only_synced}
use Rattle.log_disk.proofs.Writes.{any_left, any_last}

-- an element of a list or the one behind it
pub any_either : {A : Type 0} (P : A → Type 0) (xs : List A) (y : A) → Any P (xs ++ y ∷ []) → Any P xs ⊎ P y
any_either P xs y any =
    elim (cases_lt any.0 (length xs)) [
      | inl in' ↦ inl (any.0, any.1, in', sym (get_or_append_left xs (y ∷ []) any.1 any.0 in') ∙ any.3, any.4)
      | inr past ↦ inr (subst P (is_last (omega (arith, past, any.2, length-append xs (y ∷ [])))) any.4)
    ]
  where
    is_last : any.0 ≡ length xs → any.1 ≡ y
    is_last at = sym any.3 ∙ ap (λ k. get_or (xs ++ y ∷ []) k any.1) at ∙ get_or_at xs y [] any.1 (length xs) refl

-- an image now is one since each clock value that is not later
pub now_since : (clock : ℕ) (told : Told) (image : Image) → clock ≤ clock_of told → IsImageNow told image → IsImageSince clock told image
now_since clock told image h is =
    subst (Any (λ moment. IsImageAt moment image)) (sym (drop-append-le clock told.past (told.present ∷ []) h)) (any_last (λ moment. IsImageAt moment image) (drop clock told.past) told.present is)

-- since the last moment there are no others
pub only_now : (told : Told) (image : Image) → IsImageSince (clock_of told) told image → IsImageNow told image
only_now told image since =
    elim (any_either (λ moment. IsImageAt moment image) [] told.present (subst (Any (λ moment. IsImageAt moment image)) (drop_at told.past (told.present ∷ []) (length told.past) refl) since)) [
      | inl none ↦ absurd (omega (arith, none.2))
      | inr is ↦ is
    ]

-- the moments from a clock value on, once time has gone on
moments_on : (clock : ℕ) (old new : Told) (moment : Moment) → clock ≤ clock_of old → HasGoneOn old new moment
    → drop clock (new.past ++ new.present ∷ []) ≡ drop clock (old.past ++ old.present ∷ []) ++ new.present ∷ []
moments_on clock old new moment h gone =
    ap (λ past. drop clock (past ++ new.present ∷ [])) gone.0
    ∙ drop-append-le clock (old.past ++ old.present ∷ []) (new.present ∷ []) (omega (arith, h, length-append old.past (old.present ∷ [])))

-- The clock has moved by one.
pub clock_on : (old new : Told) (moment : Moment) → HasGoneOn old new moment → clock_of new ≡ clock_of old + 1
clock_on old new moment gone = ap length gone.0 ∙ length-append old.past (old.present ∷ [])

-- An image since a clock value was one before time went on, or is one now.
pub since_on : (clock : ℕ) (old new : Told) (moment : Moment) (image : Image) → clock ≤ clock_of old → HasGoneOn old new moment → IsImageSince clock new image
    → IsImageSince clock old image ⊎ IsImageNow new image
since_on clock old new moment image h gone since =
    any_either (λ m. IsImageAt m image) _ _ (subst (Any (λ m. IsImageAt m image)) (moments_on clock old new moment h gone) since)

-- and those before still are
pub since_kept : (clock : ℕ) (old new : Told) (moment : Moment) (image : Image) → clock ≤ clock_of old → HasGoneOn old new moment → IsImageSince clock old image → IsImageSince clock new image
since_kept clock old new moment image h gone since =
    subst (Any (λ m. IsImageAt m image)) (sym (moments_on clock old new moment h gone)) (any_left (λ m. IsImageAt m image) _ _ since)

-- After a sync that succeeded, a crash leaves what a read gives and nothing else.
pub synced_now : (disk : Disk) (old new : Told) (image : Image) → IsToldOf disk old → HasSynced disk old new → IsImageNow new image → image ≡ new.bytes
synced_now disk old new image told (inl nothing) is =
    let none : old.present.unsynced ≡ [] = nil_from_length old.present.unsynced (omega (arith, ap length told.unsynced, ap length nothing.0, length-map old.present.unsynced (λ (span : Span). span.region))) in
    let now : IsImageNow old image = subst (λ (t : Told). IsImageNow t image) nothing.1 is in
    only_synced old.present image none now ∙ sym (only_synced old.present old.bytes none told.image) ∙ ap (λ (t : Told). t.bytes) (sym nothing.1)
synced_now disk old new image told (inr synced) is =
    only_synced new.present image (ap (λ m. m.unsynced) synced.2.1) is ∙ ap (λ m. m.synced) synced.2.1 ∙ sym synced.1

-- a run that has not begun
pub leaves_none : (P : Image → Type 0) (told : Told) → IsLeft P told → LeavesOnly P told told
leaves_none P told left = record {
  later = omega arith;
  each = λ image since. left image (only_now told image since);
  before = λ clock image h since. inl since;
}

-- One more call, which leaves only images that have P.
pub leaves_more : (P : Image → Type 0) (old mid new : Told) (moment : Moment) → LeavesOnly P old mid → HasGoneOn mid new moment → IsLeft P new → LeavesOnly P old new
leaves_more P old mid new moment run gone left = record {
  later = omega (arith, run.later, clock_on mid new moment gone);
  each = λ image since. elim (since_on (clock_of old) mid new moment image run.later gone since) [ inl before ↦ run.each image before | inr now ↦ left image now ];
  before = λ clock image h since. elim (since_on clock mid new moment image (omega (arith, h, run.later)) gone since) [ inl before ↦ run.before clock image h before | inr now ↦ inr (left image now) ];
}

-- a run and one behind it
pub leaves_then : (P : Image → Type 0) (old mid new : Told) → LeavesOnly P old mid → LeavesOnly P mid new → LeavesOnly P old new
leaves_then P old mid new first second = record {
  later = omega (arith, first.later, second.later);
  each = λ image since. elim (second.before (clock_of old) image first.later since) [ inl before ↦ first.each image before | inr p ↦ p ];
  before = λ clock image h since. elim (second.before clock image (omega (arith, h, first.later)) since) [ inl before ↦ first.before clock image h before | inr p ↦ inr p ];
}

pub leaves_weaker : (P Q : Image → Type 0) (old new : Told) → ((image : Image) → P image → Q image) → LeavesOnly P old new → LeavesOnly Q old new
leaves_weaker P Q old new weaker run = record {
  later = run.later;
  each = λ image since. weaker image (run.each image since);
  before = λ clock image h since. elim (run.before clock image h since) [ inl before ↦ inl before | inr p ↦ inr (weaker image p) ];
}

-- and what a read gives is an image then
pub synced_is_now : (disk : Disk) (old new : Told) (image : Image) → IsToldOf disk old → HasSynced disk old new → image ≡ new.bytes → IsImageNow new image
synced_is_now disk old new image told (inl nothing) e =
    let bytes : image ≡ old.bytes = e ∙ ap (λ (t : Told). t.bytes) nothing.1 in
    subst (λ (t : Told). IsImageNow t image) (sym nothing.1) (subst (IsImageNow old) (sym bytes) told.image)
synced_is_now disk old new image told (inr synced) e = record {
  regions = ap length bytes;
  lengths = λ q. ap (λ i. length (region_of i q)) bytes;
  elsewhere = λ q at _. ap (λ i. get_or (region_of i q) at 0) bytes;
}
  where
    bytes : image ≡ new.present.synced
    bytes = e ∙ synced.1 ∙ ap (λ (m : Moment). m.synced) (sym synced.2.1)
