-- What a crash leaves, byte by byte and region by region.
use Rattle.std.proofs.Common.{◌≡◌, ℕ, zero, suc, ◌&&◌, nat_eq, nat_le, nat_lt, Bool, ◌+◌, ◌<◌, ◌≤◌, true, false, cond, ◌||◌, List, [], ◌∷◌, length, map, get_or, drop, set, refl, sym, ap, ◌∙◌, arith, add-one, inl, inr}
use Rattle.std.specs.List.{list_any, range_with_len}
use Rattle.std.proofs.lemmas.Bool.{cases_lt, cases_eq, true≢false}
use Rattle.std.proofs.lemmas.List.{get_or-drop, get_or-set_same, get_or-set_other, drop-drop, length-set}
use Rattle.std.proofs.lemmas.List.FromFn.{fill_by_all, length-map-range_with_len, get_or-map-range_with_len}
use Rattle.std.proofs.lemmas.Option.{unwrap_or-slice_get}
use Rattle.log_disk.specs.Disk.{Span, Moment, region_of}
use Rattle.log_disk.specs.Crash.{covers, is_pending, pending_in, picked_byte, pending_below, crash_byte, crash_region, crash_image}
use Rattle.log_disk.specs.MemDisk.{range_of}
use Rattle.log_disk.specs.declared.mem.Written.{Written}

pub pending_from_any : (written : List Written) (region at : ℕ) → list_any (λ w. covers region at (range_of w)) written ≡ is_pending (map range_of written) region at
unfolding is_pending
pending_from_any [] region at = refl
pending_from_any (w ∷ ws) region at = ap (λ b. covers region at (range_of w) || b) (pending_from_any ws region at)

pending_in-more : (spans : List Span) (region at : ℕ) → pending_in spans region (at + 1) ≡ pending_in spans region at + cond (is_pending spans region at) 1 0
unfolding pending_in
pending_in-more spans region at = rw add-one refl

-- the bytes of a region of which those below an offset took their picks
pub record PickedTo (spans : List Span) (region : ℕ) (picks was bytes rest : List ℕ) (at : ℕ) : Type 0 where
  pub behind : rest ≡ drop (pending_in spans region at) picks
  pub long : length bytes ≡ length was
  pub done : (k : ℕ) → k < at → get_or bytes k 0 ≡ picked_byte spans region (get_or was k 0) picks k
  pub left : (k : ℕ) → at ≤ k → get_or bytes k 0 ≡ get_or was k 0

pub PickedTo-none : (spans : List Span) (region : ℕ) (picks was : List ℕ) → PickedTo spans region picks was was picks 0
unfolding pending_in
PickedTo-none spans region picks was = record { behind = refl; long = refl; done = λ k h. absurd (omega (arith, h)); left = λ k h. refl }

module _ {spans : List Span} {region : ℕ} {picks was bytes rest : List ℕ} {at : ℕ} where
  pub PickedTo-skip : PickedTo spans region picks was bytes rest at → is_pending spans region at ≡ false → PickedTo spans region picks was bytes rest (at + 1)
  unfolding picked_byte
  PickedTo-skip p none = record {
    behind = p.behind ∙ ap (λ n. drop n picks) same;
    long = p.long;
    done = λ k h. elim (cases_lt k at) [ inl below ↦ p.done k below | inr past ↦ here k (omega arith) ];
    left = λ k h. p.left k (omega arith);
  }
    where
      same : pending_in spans region at ≡ pending_in spans region (at + 1)
      same = sym (pending_in-more spans region at ∙ ap (λ b. pending_in spans region at + cond b 1 0) none ∙ omega arith)

      here : (k : ℕ) → k ≡ at → get_or bytes k 0 ≡ picked_byte spans region (get_or was k 0) picks k
      here k e =
          p.left k (omega arith) ∙ sym (ap (λ b. cond b (get_or picks (pending_in spans region k) (get_or was k 0)) (get_or was k 0)) (ap (is_pending spans region) e ∙ none))

  pub PickedTo-pick : PickedTo spans region picks was bytes rest at → is_pending spans region at ≡ true → at < length bytes → (byte : ℕ) (behind : List ℕ) → byte ≡ get_or rest 0 (get_or bytes at 0)
      → behind ≡ drop 1 rest → PickedTo spans region picks was (set bytes at byte) behind (at + 1)
  unfolding picked_byte
  PickedTo-pick p some within byte behind b e = record {
    behind = e ∙ ap (drop 1) p.behind ∙ drop-drop 1 (pending_in spans region at) picks ∙ ap (λ n. drop n picks) more;
    long = length-set bytes at byte ∙ p.long;
    done = λ k h. elim (cases_eq k at) [ inl same ↦ here k same | inr other ↦ get_or-set_other bytes at k byte 0 other ∙ p.done k (omega arith) ];
    left = λ k h. let other : k ≡ at → ⊥ = λ same. omega arith in get_or-set_other bytes at k byte 0 other ∙ p.left k (omega arith);
  }
    where
      more : pending_in spans region at + 1 ≡ pending_in spans region (at + 1)
      more = sym (pending_in-more spans region at ∙ ap (λ x. pending_in spans region at + cond x 1 0) some)

      here : (k : ℕ) → k ≡ at → get_or (set bytes at byte) k 0 ≡ picked_byte spans region (get_or was k 0) picks k
      here k same =
          ap (λ n. get_or (set bytes at byte) n 0) same ∙ get_or-set_same bytes at byte 0 within ∙ b
          ∙ ap (λ xs. get_or xs 0 (get_or bytes at 0)) p.behind ∙ get_or-drop (pending_in spans region at) picks 0 (get_or bytes at 0)
          ∙ ap (λ n. get_or picks n (get_or bytes at 0)) (omega arith) ∙ ap (get_or picks (pending_in spans region at)) (p.left at (omega arith))
          ∙ ap (λ n. get_or picks (pending_in spans region n) (get_or was n 0)) (sym same)
          ∙ sym (ap (λ x. cond x (get_or picks (pending_in spans region k) (get_or was k 0)) (get_or was k 0)) (ap (is_pending spans region) same ∙ some))

picked_is : (m : Moment) (picks : List ℕ) (region k : ℕ) → picked_byte m.unsynced region (get_or (region_of m.synced region) k 0) (drop (pending_below m region) picks) k ≡ crash_byte m picks region k
unfolding picked_byte crash_byte
picked_is m picks region k =
    ap (λ x. cond (is_pending m.unsynced region k) x (get_or (region_of m.synced region) k 0)) (get_or-drop (pending_below m region) picks (pending_in m.unsynced region k) (get_or (region_of m.synced region) k 0))

-- a region whose bytes all took their picks
pub region_crashed : (m : Moment) (picks : List ℕ) (region : ℕ) (was bytes rest : List ℕ) → was ≡ region_of m.synced region → rest ≡ drop (pending_below m region) picks → length bytes ≡ length was
    → ((at : ℕ) → at < length was → get_or bytes at 0 ≡ picked_byte m.unsynced region (get_or was at 0) rest at) → bytes ≡ crash_region m picks region
unfolding crash_region
region_crashed m picks region was bytes rest here behind long each =
    fill_by_all (crash_byte m picks region) bytes (length (region_of m.synced region)) 0 (long ∙ ap length here) (λ k h. each k (omega (arith, h, ap length here)) ∙ same k)
  where
    same : (k : ℕ) → picked_byte m.unsynced region (get_or was k 0) rest k ≡ crash_byte m picks region k
    same k =
        ap (λ xs. picked_byte m.unsynced region (get_or was k 0) xs k) behind ∙ ap (λ xs. picked_byte m.unsynced region (get_or xs k 0) (drop (pending_below m region) picks) k) here
        ∙ picked_is m picks region k

pub pending_below-more : (m : Moment) (region : ℕ) → pending_below m (region + 1) ≡ pending_below m region + pending_in m.unsynced region (length (region_of m.synced region))
unfolding pending_below
pending_below-more m region = rw add-one refl

-- the picks behind one more region
pub rest_more : (m : Moment) (picks rest behind was : List ℕ) (region : ℕ) → was ≡ region_of m.synced region → rest ≡ drop (pending_below m region) picks
    → behind ≡ drop (pending_in m.unsynced region (length was)) rest → behind ≡ drop (pending_below m (region + 1)) picks
rest_more m picks rest behind was region here before now =
    now ∙ ap (drop (pending_in m.unsynced region (length was))) before ∙ drop-drop (pending_in m.unsynced region (length was)) (pending_below m region) picks
    ∙ ap (λ xs. drop (pending_below m region + pending_in m.unsynced region (length xs)) picks) here ∙ ap (λ n. drop n picks) (sym (pending_below-more m region))

pub nothing_below : (m : Moment) (picks : List ℕ) → picks ≡ drop (pending_below m 0) picks
unfolding pending_below
nothing_below m picks = refl

-- the image, once all regions are done
pub all_crashed : (m : Moment) (picks : List ℕ) (image : List (List ℕ)) (region : ℕ) → region ≡ length m.synced → image ≡ map (crash_region m picks) (range_with_len 0 region) → image ≡ crash_image m picks
unfolding crash_image
all_crashed m picks image region e is = is ∙ ap (λ n. map (crash_region m picks) (range_with_len 0 n)) e

pub length-crash_image : (m : Moment) (picks : List ℕ) → length (crash_image m picks) ≡ length m.synced
unfolding crash_image
length-crash_image m picks = length-map-range_with_len (crash_region m picks) 0 (length m.synced)

pub region_of-crash_image : (m : Moment) (picks : List ℕ) (region : ℕ) → region < length m.synced → region_of (crash_image m picks) region ≡ crash_region m picks region
unfolding crash_image
region_of-crash_image m picks region h =
    unwrap_or-slice_get (map (crash_region m picks) (range_with_len 0 (length m.synced))) region [] ∙ get_or-map-range_with_len (crash_region m picks) 0 (length m.synced) region region [] h (omega arith)

pub length-crash_region : (m : Moment) (picks : List ℕ) (region : ℕ) → length (crash_region m picks region) ≡ length (region_of m.synced region)
unfolding crash_region
length-crash_region m picks region = length-map-range_with_len (crash_byte m picks region) 0 (length (region_of m.synced region))

-- each region of the image has its length
pub crash_lengths : (m : Moment) (picks : List ℕ) (len : ℕ) → ((r : ℕ) → r < length m.synced → length (region_of m.synced r) ≡ len)
    → (r : ℕ) → r < length (crash_image m picks) → length (region_of (crash_image m picks) r) ≡ len
crash_lengths m picks len lengths r h =
    let within : r < length m.synced = omega (arith, h, length-crash_image m picks) in
    ap length (region_of-crash_image m picks r within) ∙ length-crash_region m picks r ∙ lengths r within

-- a region with no unsynced range has no pending byte
none_pending : (written : List Written) (region at : ℕ) → list_any (λ w. nat_eq w.region region) written ≡ false → is_pending (map range_of written) region at ≡ false
unfolding is_pending
none_pending [] region at e = refl
none_pending (w ∷ ws) region at e = both (nat_eq w.region region) _ e (none_pending ws region at)
  where
    both : (b : Bool) (c : Bool) → (b || c) ≡ false → (c ≡ false → list_any (covers region at) (map range_of ws) ≡ false)
        → (b && nat_le w.from at && nat_lt at w.end || list_any (covers region at) (map range_of ws)) ≡ false
    both true c h more = absurd (true≢false h)
    both false c h more = more h

none_pending_in : (spans : List Span) (region n : ℕ) → ((at : ℕ) → is_pending spans region at ≡ false) → pending_in spans region n ≡ 0
unfolding pending_in
none_pending_in spans region zero none = refl
none_pending_in spans region (suc n) none = rw (none n) (omega (arith, none_pending_in spans region n none))

pub nothing_picked : (written : List Written) (region was : ℕ) (picks : List ℕ) (at : ℕ) → list_any (λ w. nat_eq w.region region) written ≡ false → was ≡ picked_byte (map range_of written) region was picks at
unfolding picked_byte
nothing_picked written region was picks at none =
    sym (ap (λ b. cond b (get_or picks (pending_in (map range_of written) region at) was) was) (none_pending written region at none))

pub no_picks_taken : (written : List Written) (region n : ℕ) (picks : List ℕ) → list_any (λ w. nat_eq w.region region) written ≡ false → picks ≡ drop (pending_in (map range_of written) region n) picks
no_picks_taken written region n picks none =
    sym (ap (λ k. drop k picks) (none_pending_in (map range_of written) region n (λ at. none_pending written region at none)))
