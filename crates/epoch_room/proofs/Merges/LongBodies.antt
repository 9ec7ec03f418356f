-- Bytes of a part's body that are written by several calls.
use Rattle.std.proofs.Common.{◌≡◌, ℕ, zero, suc, ◌+◌, ◌<◌, ◌≤◌, Bool, true, false, List, [], ◌∷◌, ◌++◌, length, Ok, Err, Result, refl, sym, ap, subst, ◌∙◌, inl, inr, arith, append_assoc, drop, get_or, length-append, true≢false}
use Rattle.std.specs.Prelude.{OnErr, OnOk, flat_map, is_err, nat_eq}
use Rattle.std.specs.List.{AllByRecursion, list_any}
use Rattle.std.proofs.lemmas.Bool.{eqb-true}
use Rattle.std.proofs.lemmas.List.{drop_more}
use Rattle.std.proofs.lemmas.Map.Views.{Contains-from_any, list_any-from_Contains}
use Rattle.fine_model.specs.declared.Part.{Part}
use Rattle.fine_model.specs.declared.Row.{Row}
use Rattle.fine_model.specs.Chain.{regions_of}
use Rattle.fine_model.specs.ChainLaws.{DiffersBehind}
use Rattle.fine_model.specs.Regions.{Image, body_len}
use Rattle.fine_model.specs.RowBytes.{row_bytes, rows_bytes}
use Rattle.fine_model.proofs.Ordered.Nothing.{all_at}
use Rattle.log_disk.specs.Disk.{Disk, IsSound}
use Rattle.log_disk.specs.Moments.{LeavesOnly}
use Rattle.log_disk.specs.declared.refusal.DiskRefusal.{DiskRefusal}
use Rattle.log_disk.specs.declared.refusal.DiskRefusal.TheVariants as refusal
use Rattle.log_disk.proofs.Moments.{leaves_weaker}
use Rattle.log_disk.proofs.Steps.{both_weaker}
use Rattle.partition_index.proofs.Placed.{place_named}
use Rattle.epoch_room.specs.BodyWrites.{HasPlace, WritesBody, lying_in}
use Rattle.epoch_room.specs.RowWrites.{WritesFront, WritesFull, WritesRows}
use Rattle.epoch_room.specs.Gate.{DirtiesOnly, IsBehind, LeavesBehind, ReadsBehind}
use Rattle.epoch_room.proofs.Merges.BodyPieces.{all_lying, body_none, pieces, refused_body, still_place}
use Rattle.epoch_room.proofs.RegionSets.Freeing.{nat_alike}
use Rattle.epoch_room.proofs.RegionSets.Touching.{touches_wider}

-- ---- more regions

abbrev pub AreAmong : List ℕ → List ℕ → Type 0
AreAmong some all = AllByRecursion (λ r. list_any (nat_eq r) all ≡ true) some

module _ (some all : List ℕ) (among : AreAmong some all) where
  beside_some : (r : ℕ) → list_any (nat_eq r) all ≡ false → list_any (nat_eq r) some ≡ false
  beside_some r h = by (list_any (nat_eq r) some) refl
    where
      by : (b : Bool) → list_any (nat_eq r) some ≡ b → list_any (nat_eq r) some ≡ false
      by false e = e
      by true e = absurd (true≢false (sym (all_at (λ q. list_any (nat_eq q) all ≡ true) r some among e) ∙ h))

  pub differs_among : (a b : Image) → DiffersBehind some a b → DiffersBehind all a b
  differs_among a b differs = record { as_many = differs.as_many; others = λ r h. differs.others r (beside_some r h); lengths = differs.lengths; gates = differs.gates }

  pub reads_among : (old new : Disk) → ReadsBehind some old new → ReadsBehind all old new
  reads_among old new read = both_weaker (λ a b. DiffersBehind some a.bytes b.bytes) (λ a b. DiffersBehind all a.bytes b.bytes) (λ a b differs. differs_among a.bytes b.bytes differs) old.told new.told read

  pub leaves_among : (old new : Disk) → LeavesBehind some old new → LeavesBehind all old new
  leaves_among old new leaves =
      both_weaker (λ a b. LeavesOnly (IsBehind some a) a b) (λ a b. LeavesOnly (IsBehind all a) a b)
      (λ a b run. leaves_weaker (IsBehind some a) (IsBehind all a) a b (λ image is. record { was = is.was; is_was = is.is_was; differs = differs_among is.was image is.differs }) run) old.told new.told leaves

  pub dirties_among : (old new : Disk) → DirtiesOnly some old new → DirtiesOnly all old new
  dirties_among old new dirties k d h = elim (dirties k d h) [
    | inl was ↦ inl was
    | inr own ↦ inr (Contains-from_any (λ x y e. eqb-true x y e) _ all (all_at (λ q. list_any (nat_eq q) all ≡ true) _ some among (list_any-from_Contains nat_alike _ some own)))
  ]

  pub body_among_all : {result : Result (Unit {0}) DiskRefusal} (p : Part) (at : ℕ) (bytes : List ℕ) (old new : Disk) → WritesBody some p at bytes result old new → WritesBody all p at bytes result old new
  body_among_all p at bytes old new w = record {
    touches = touches_wider w.touches (dirties_among old new w.dirties);
    read = reads_among old new w.read;
    leaves = leaves_among old new w.leaves;
    done = w.done;
    some = w.some;
    kept = w.kept;
  }

-- what lies in a part's body lies in its regions
pub lying_among : (old : Disk) (p : Part) (at n : ℕ) → HasPlace old p → at + n ≤ body_len p.header → AreAmong (lying_in old.region_len p.region p.header at n) (regions_of p)
lying_among old p at n place within =
    all_lying (λ r. list_any (nat_eq r) (regions_of p) ≡ true) old.region_len p.region p.header at n within
    (λ k low. list_any-from_Contains nat_alike _ (regions_of p) (place_named old.region_len p k place.lies low))

-- ---- one call after the other

-- what was written of some bytes from an offset on, and what is left of them
pub record WrittenTo (p : Part) (at : ℕ) (bytes : List ℕ) (start now : Disk) (next : ℕ) (left : List ℕ) : Type 0 where
  pub done : List ℕ
  pub joined : done ++ left ≡ bytes
  pub place : next ≡ at + length done
  pub run : WritesBody (regions_of p) p at done (Ok tt) start now

pub written_none : (p : Part) (at : ℕ) (bytes : List ℕ) (start : Disk) → IsSound start → WrittenTo p at bytes start start at bytes
written_none p at bytes start sound = record { done = []; joined = refl; place = omega arith; run = body_none (regions_of p) p at [] start sound refl }

module _ (p : Part) (at : ℕ) (bytes : List ℕ) (start now : Disk) (place : HasPlace start p) (within : at + length bytes ≤ body_len p.header) (next : ℕ) (left : List ℕ) (w : WrittenTo p at bytes start now next left) where
  long : length w.done + length left ≡ length bytes
  long = sym (length-append w.done left) ∙ ap length w.joined

  pub place_now : HasPlace now p
  place_now = still_place (regions_of p) p at w.done [] start now now place (omega (arith, long, length-append w.done [], within)) w.run

  pub left_within : next + length left ≤ body_len p.header
  left_within = omega (arith, w.place, long, within)

  module _ (front back : List ℕ) (split : front ++ back ≡ left) (new : Disk) where
    front_long : length front + length back ≡ length left
    front_long = sym (length-append front back) ∙ ap length split

    pub front_within : next + length front ≤ body_len p.header
    front_within = omega (arith, left_within, front_long)

    second : {result : Result (Unit {0}) DiskRefusal} → WritesBody (regions_of p) p next front result now new → WritesBody (regions_of p) p (at + length w.done) front result now new
    second {result} s = subst (λ n. WritesBody (regions_of p) p n front result now new) w.place s

    both_within : at + length (w.done ++ front) ≤ body_len p.header
    both_within = omega (arith, length-append w.done front, long, front_long, within)

    pub written_more : {u : Unit {0}} → WritesBody (regions_of p) p next front (Ok u) now new → WrittenTo p at bytes start new (next + length front) back
    written_more s = record {
      done = w.done ++ front;
      joined = append_assoc w.done front back ∙ ap (λ xs. w.done ++ xs) split ∙ w.joined;
      place = omega (arith, w.place, length-append w.done front);
      run = pieces (regions_of p) p at w.done front start now new place both_within (Ok tt) w.run (second s);
    }

    pub written_refused : (e : DiskRefusal) → WritesBody (regions_of p) p next front (Err e) now new → WritesBody (regions_of p) p at bytes (Err e) start new
    written_refused e s =
        refused_body (regions_of p) p at (w.done ++ front) bytes e start new (omega (arith, length-append w.done front, long, front_long))
        (pieces (regions_of p) p at w.done front start now new place both_within (Err e) w.run (second s))

-- all of a body was to be written
pub as_rows : {result : Result (Unit {0}) DiskRefusal} (p : Part) (bytes : List ℕ) (old new : Disk) → WritesBody (regions_of p) p 0 bytes result old new → WritesRows p bytes result old new
as_rows p bytes old new w = record { touches = w.touches; read = w.read; leaves = w.leaves; done = w.done }

-- ---- blocks

-- a block that waits, or is full and was written
pub full_none : (p : Part) (at : ℕ) (block : List ℕ) (disk : Disk) → IsSound disk → WritesFull p at block block (Ok at) disk disk
full_none p at block disk sound = record { front = []; split = refl; place = omega arith; run = body_none (regions_of p) p at [] disk sound refl }

-- the next row is put behind a block
pub row_waits : (block row rest now : List ℕ) → now ≡ block ++ row → block ++ (row ++ rest) ≡ now ++ rest
row_waits block row rest now is = sym (append_assoc block row rest) ∙ ap (λ xs. xs ++ rest) (sym is)

-- the rows from the next one on
pub rows_left : (rows : List Row) (i : ℕ) (row : Row) → i < length rows → row ≡ get_or rows i row → rows_bytes (drop i rows) ≡ row_bytes row ++ rows_bytes (drop (i + 1) rows)
unfolding rows_bytes
rows_left rows i row low is = ap (flat_map row_bytes) (drop_more rows i row low ∙ ap (λ r. r ∷ drop (i + 1) rows) (sym is))

pub none_left : (rows : List Row) (i : ℕ) → length rows ≤ i → rows_bytes (drop i rows) ≡ []
unfolding rows_bytes
none_left [] zero few = refl
none_left [] (suc i) few = refl
none_left (r ∷ rows) zero few = absurd (omega (arith, few))
none_left (r ∷ rows) (suc i) few = none_left rows i (omega (arith, few))

module _ (p : Part) (bytes : List ℕ) (start mid : Disk) (at : ℕ) (rows : List Row) (index block now : List ℕ) where
  -- the next row is in the block
  pub row_taken : (i : ℕ) (row : Row) → i < length rows → row ≡ get_or rows i row → now ≡ block ++ row_bytes row → WrittenTo p 0 bytes start mid at (block ++ (rows_bytes (drop i rows) ++ index))
      → WrittenTo p 0 bytes start mid at (now ++ (rows_bytes (drop (i + 1) rows) ++ index))
  row_taken i row low is more w =
      subst (λ xs. WrittenTo p 0 bytes start mid at xs)
      (ap (λ xs. block ++ (xs ++ index)) (rows_left rows i row low is) ∙ ap (λ xs. block ++ xs) (append_assoc (row_bytes row) (rows_bytes (drop (i + 1) rows)) index)
      ∙ row_waits block (row_bytes row) (rows_bytes (drop (i + 1) rows) ++ index) now more) w

  -- no row is left, and the index is in the block
  pub index_taken : (i : ℕ) → length rows ≤ i → now ≡ block ++ index → WrittenTo p 0 bytes start mid at (block ++ (rows_bytes (drop i rows) ++ index)) → WrittenTo p 0 bytes start mid at now
  index_taken i few more w = subst (λ xs. WrittenTo p 0 bytes start mid at xs) (ap (λ xs. block ++ (xs ++ index)) (none_left rows i few) ∙ sym more) w

-- what a block has fits the body
pub full_within : (p : Part) (bytes : List ℕ) (start now : Disk) → HasPlace start p → 0 + length bytes ≤ body_len p.header → (at : ℕ) (block rest : List ℕ) → WrittenTo p 0 bytes start now at (block ++ rest) → at + length block ≤ body_len p.header
full_within p bytes start now place within at block rest w = let l = left_within p 0 bytes start now place within at (block ++ rest) w in omega (arith, l, length-append block rest)

-- all that is left is written, or refused
pub rows_done : (p : Part) (bytes : List ℕ) (start now new : Disk) → HasPlace start p → 0 + length bytes ≤ body_len p.header → (at : ℕ) (left : List ℕ) → WrittenTo p 0 bytes start now at left
    → (result : Result (Unit {0}) DiskRefusal) → WritesBody (regions_of p) p at left result now new → WritesRows p bytes result start new
rows_done p bytes start now new place within at left w result s =
    as_rows p bytes start new
    (subst (λ xs. WritesBody (regions_of p) p 0 xs result start new) w.joined
    (pieces (regions_of p) p 0 w.done left start now new place (omega (arith, ap length w.joined, within)) result w.run (subst (λ n. WritesBody (regions_of p) p n left result now new) w.place s)))

-- a call that did not fail
pub not_err : {E X : Type 0} (r : Result (Unit {0}) E) → is_err r ≡ false → OnOk r X → X
not_err (Ok u) e x = x
not_err (Err f) e x = absurd (true≢false e)

-- one that failed
pub is_err_then : {E X : Type 0} (r : Result (Unit {0}) E) → is_err r ≡ true → OnErr r X → X
is_err_then (Ok u) e x = absurd (true≢false (sym e))
is_err_then (Err f) e x = x

-- the front of the block is written
pub front_written : (p : Part) (bytes : List ℕ) (start mid new : Disk) → HasPlace start p → 0 + length bytes ≤ body_len p.header → (at next : ℕ) (block now rest : List ℕ) → WrittenTo p 0 bytes start mid at (block ++ rest)
    → WritesFront p at block now next mid new → WrittenTo p 0 bytes start new next (now ++ rest)
front_written p bytes start mid new place within at next block now rest w f =
    subst (λ n. WrittenTo p 0 bytes start new n (now ++ rest)) (sym f.place)
    (written_more p 0 bytes start mid place within at (block ++ rest) w f.front (now ++ rest) (sym (append_assoc f.front now rest) ∙ ap (λ xs. xs ++ rest) f.split) new f.run)

-- it was not
pub front_refused : (p : Part) (bytes : List ℕ) (start mid new : Disk) → HasPlace start p → 0 + length bytes ≤ body_len p.header → (at : ℕ) (block rest : List ℕ) → WrittenTo p 0 bytes start mid at (block ++ rest)
    → (e : DiskRefusal) → WritesBody (regions_of p) p at block (Err e) mid new → WritesRows p bytes (Err e) start new
front_refused p bytes start mid new place within at block rest w e f =
    as_rows p bytes start new (written_refused p 0 bytes start mid place within at (block ++ rest) w block rest refl new e f)
