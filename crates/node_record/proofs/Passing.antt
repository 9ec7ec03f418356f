-- Passing over a row: what stands behind what is read, and the frame of a row.
use Rattle.std.proofs.Common.{◌≡◌, ℕ, suc, ◌+◌, ◌-◌, ◌<◌, ◌≤◌, Bool, true, false, cond, leb, eqb, ◌&&◌, List, [], ◌∷◌, length, map, drop, Option, Some, None, Result, Ok, Err, refl, sym, ap, ◌∙◌, arith, true≢false}
use Rattle.std.specs.Prelude.{IfErr}
use Rattle.std.specs.List.{AllByRecursion}
use Rattle.fine_model.specs.declared.Mark.{Mark}
use Rattle.fine_model.specs.declared.Rec.{Rec}
use Rattle.fine_model.specs.declared.Rec.TheVariants as rec
use Rattle.fine_model.specs.declared.Row.{Row}
use Rattle.fine_model.specs.Map.{Pair, is_below, is_ascending}
use Rattle.fine_model.specs.Merge.{is_image}
use Rattle.fine_model.specs.RowBytes.{kind, key_bytes, pair_bytes, FitsKey, FitsPair, most_in_node}
use Rattle.node_record.specs.declared.front.Front.{Front}
use Rattle.node_record.specs.declared.fault.RowFault.{RowFault}
use Rattle.node_record.specs.declared.fault.RowFault.TheVariants as fault
use Rattle.node_record.specs.Reading.{◌>>=◌, behind, only, within, byte_at, key_at, pair_at, child_at, items_at, ascending_at, leaf_at, inner_at, body_at, front_at, row_at}
use Rattle.node_record.specs.Rows.{IsNoRowAt, IsFrameAt}
use Rattle.node_record.proofs.Readers.{IsBytes, IsBytes-drop, found, items_take}
use Rattle.node_record.proofs.RowsRead.{key_reader, row_pair_reader}
use Rattle.node_record.proofs.RowLaws.{Reads, reads, whole_gives, row_of, body_takes}

abbrev keys_of : List Pair → List (List ℕ)
keys_of pairs = map (λ p. p.0) pairs

-- ---- items whose keys ascend

-- of the keys behind the first, it is asked only that they ascend from it
pub pairs_step : (before : List ℕ) (n : ℕ) (bytes : List ℕ) (pair : Pair) (rest : List ℕ) → pair_at bytes ≡ Some (pair, rest) → is_below before pair.0 ≡ true
    → behind (ascending_at (map (λ p. p.0)) pair_at before (suc n) bytes) ≡ behind (ascending_at (map (λ p. p.0)) pair_at pair.0 n rest)
unfolding items_at
pairs_step before n bytes pair rest read below = ap (λ (r : Option (Pair × List ℕ)). behind (only test (r >>= λ first. items_at pair_at n first.1 >>= λ others. found (first.0 ∷ others.0) others.1))) read ∙ by (items_at pair_at n rest)
  where
    test : List Pair → Bool
    test pairs = is_ascending (before ∷ keys_of pairs)

    same : (b : Bool) (xs : List Pair × List ℕ) → behind (cond b (found (pair ∷ xs.0) xs.1) None) ≡ behind (cond b (found xs.0 xs.1) None)
    same true xs = refl
    same false xs = refl

    by : (r : Option (List Pair × List ℕ)) → behind (only test (r >>= λ others. found (pair ∷ others.0) others.1)) ≡ behind (only (λ pairs. is_ascending (pair.0 ∷ keys_of pairs)) r)
    by (Some xs) = ap (λ b. behind (cond (b && is_ascending (pair.0 ∷ keys_of xs.0)) (found (pair ∷ xs.0) xs.1) None)) below ∙ same (is_ascending (pair.0 ∷ keys_of xs.0)) xs
    by None = refl

-- the pairs of a leaf one after the other, as a loop passes over them
abbrev pub behind_pairs : List ℕ → ℕ → List ℕ → Option (List ℕ)
behind_pairs before n bytes = behind (ascending_at (map (λ p. p.0)) pair_at before n bytes)

no_pair : (before : List ℕ) (n : ℕ) (bytes : List ℕ) → pair_at bytes ≡ None → behind_pairs before (suc n) bytes ≡ None
unfolding items_at
no_pair before n bytes none = ap (λ (r : Option (Pair × List ℕ)). behind (only (λ pairs. is_ascending (before ∷ keys_of pairs)) (r >>= λ first. items_at pair_at n first.1 >>= λ others. found (first.0 ∷ others.0) others.1))) none

not_below : (before : List ℕ) (n : ℕ) (bytes : List ℕ) (pair : Pair) (rest : List ℕ) → pair_at bytes ≡ Some (pair, rest) → is_below before pair.0 ≡ false → behind_pairs before (suc n) bytes ≡ None
unfolding items_at
not_below before n bytes pair rest read below = ap (λ (r : Option (Pair × List ℕ)). behind (only test (r >>= λ first. items_at pair_at n first.1 >>= λ others. found (first.0 ∷ others.0) others.1))) read ∙ by (items_at pair_at n rest)
  where
    test : List Pair → Bool
    test pairs = is_ascending (before ∷ keys_of pairs)

    by : (r : Option (List Pair × List ℕ)) → behind (only test (r >>= λ others. found (pair ∷ others.0) others.1)) ≡ None
    by (Some xs) = ap (λ b. behind (cond (b && is_ascending (pair.0 ∷ keys_of xs.0)) (found (pair ∷ xs.0) xs.1) None)) below
    by None = refl

none_left : (before bytes : List ℕ) → behind_pairs before 0 bytes ≡ Some bytes
unfolding items_at
none_left before bytes = refl

module _ (before : List ℕ) (count i : ℕ) (bytes : List ℕ) (total : Option (List ℕ)) (so_far : behind_pairs before (count - i) bytes ≡ total) where
  pub pairs_go_on : (pair : Pair) (rest : List ℕ) → i < count → pair_at bytes ≡ Some (pair, rest) → is_below before pair.0 ≡ true → behind_pairs pair.0 (count - (i + 1)) rest ≡ total
  pairs_go_on pair rest lt read below =
      let k : count - i ≡ suc (count - (i + 1)) = omega arith in
      sym (ap (λ (n : ℕ). behind_pairs before n bytes) k ∙ pairs_step before (count - (i + 1)) bytes pair rest read below) ∙ so_far

  pub pairs_fail : i < count → pair_at bytes ≡ None → total ≡ None
  pairs_fail lt none =
      let k : count - i ≡ suc (count - (i + 1)) = omega arith in
      sym so_far ∙ ap (λ (n : ℕ). behind_pairs before n bytes) k ∙ no_pair before (count - (i + 1)) bytes none

  pub pairs_fall : (pair : Pair) (rest : List ℕ) → i < count → pair_at bytes ≡ Some (pair, rest) → is_below before pair.0 ≡ false → total ≡ None
  pairs_fall pair rest lt read below =
      let k : count - i ≡ suc (count - (i + 1)) = omega arith in
      sym so_far ∙ ap (λ (n : ℕ). behind_pairs before n bytes) k ∙ not_below before (count - (i + 1)) bytes pair rest read below

  pub pairs_done : count ≤ i → total ≡ Some bytes
  pairs_done le =
      let k : count - i ≡ 0 = omega arith in
      sym so_far ∙ ap (λ (n : ℕ). behind_pairs before n bytes) k ∙ none_left before bytes

-- an empty key stands before each key
first_key : (k : List ℕ) (ks : List (List ℕ)) → 1 ≤ length k → is_ascending ([] ∷ k ∷ ks) ≡ is_ascending (k ∷ ks)
first_key [] ks long = absurd (omega (arith, long))
first_key (b ∷ k) ks long = refl

ascend_keys : (keys : List (List ℕ)) → AllByRecursion FitsKey keys → is_ascending ([] ∷ keys) ≡ is_ascending keys
ascend_keys [] all = refl
ascend_keys (k ∷ ks) all = first_key k ks all.0.0

ascend_pairs : (pairs : List Pair) → AllByRecursion FitsPair pairs → is_ascending ([] ∷ keys_of pairs) ≡ is_ascending (keys_of pairs)
ascend_pairs [] all = refl
ascend_pairs (p ∷ ps) all = first_key p.0 (keys_of ps) all.0.0.0

-- a test of the same outcome, and another value
behind_only : {A B : Type 0} (make : A → B) (x : A × List ℕ) (b c : Bool) → c ≡ b → behind (cond b (found x.0 x.1) None >>= λ y. found (make y.0) y.1) ≡ behind (cond c (found x.0 x.1) None)
behind_only make x true true e = refl
behind_only make x false false e = refl
behind_only make x true false e = absurd (true≢false (sym e))
behind_only make x false true e = absurd (true≢false e)

abbrev count_at : List ℕ → Option (ℕ × List ℕ)
count_at bytes = only (within 0 most_in_node) (byte_at bytes)

pub leaf_behind : (bytes : List ℕ) (n : ℕ) (rest : List ℕ) → IsBytes rest → count_at bytes ≡ Some (n, rest) → behind (leaf_at bytes) ≡ behind (ascending_at (map (λ p. p.0)) pair_at [] n rest)
unfolding leaf_at
leaf_behind bytes n rest fits read = ap (λ (r : Option (ℕ × List ℕ)). behind (r >>= last)) read ∙ by (items_at pair_at n rest) refl
  where
    last : ℕ × List ℕ → Option (Rec × List ℕ)
    last n = only (λ pairs. is_ascending (keys_of pairs)) (items_at pair_at n.0 n.1) >>= λ pairs. found (rec.LeafImage pairs.0) pairs.1

    by : (r : Option (List Pair × List ℕ)) → items_at pair_at n rest ≡ r
        → behind (only (λ pairs. is_ascending (keys_of pairs)) r >>= λ pairs. found (rec.LeafImage pairs.0) pairs.1) ≡ behind (only (λ pairs. is_ascending ([] ∷ keys_of pairs)) r)
    by (Some xs) e = behind_only (λ pairs. rec.LeafImage pairs) xs (is_ascending (keys_of xs.0)) (is_ascending ([] ∷ keys_of xs.0)) (ascend_pairs xs.0 (items_take pair_at pair_bytes FitsPair row_pair_reader n rest xs.0 xs.1 fits e).2)
    by None e = refl

pub behind_some : {A : Type 0} (r : Option (A × List ℕ)) (rest : List ℕ) → behind r ≡ Some rest → (x : A) × (r ≡ Some (x, rest))
behind_some (Some x) rest e = let same : x.1 ≡ rest = cc in (x.0, ap (λ (t : List ℕ). found x.0 t) same)
behind_some None rest e = absurd cc

pub behind_none : {A : Type 0} (r : Option (A × List ℕ)) → behind r ≡ None → r ≡ None
behind_none (Some x) e = absurd cc
behind_none None e = refl

pub inner_behind : (bytes : List ℕ) (n : ℕ) (rest last : List ℕ) → IsBytes last → count_at bytes ≡ Some (n, rest) → behind (items_at child_at (n + 1) rest) ≡ Some last
    → behind (inner_at bytes) ≡ behind (ascending_at (λ keys. keys) key_at [] n last)
unfolding inner_at
inner_behind bytes n rest last fits read children =
    let kids = behind_some (items_at child_at (n + 1) rest) last children in
    ap (λ (r : Option (ℕ × List ℕ)). behind (r >>= λ n. items_at child_at (n.0 + 1) n.1 >>= λ kids. only is_ascending (items_at key_at n.0 kids.1) >>= λ seps. found (rec.InnerImage seps.0 kids.0) seps.1)) read
    ∙ ap (λ (r : Option (List ℕ × List ℕ)). behind (r >>= λ kids. only is_ascending (items_at key_at n kids.1) >>= λ seps. found (rec.InnerImage seps.0 kids.0) seps.1)) kids.1
    ∙ by kids.0 (items_at key_at n last) refl
  where
    by : (kids : List ℕ) (r : Option (List (List ℕ) × List ℕ)) → items_at key_at n last ≡ r
        → behind (only is_ascending r >>= λ seps. found (rec.InnerImage seps.0 kids) seps.1) ≡ behind (only (λ keys. is_ascending ([] ∷ keys)) r)
    by kids (Some xs) e = behind_only (λ seps. rec.InnerImage seps kids) xs (is_ascending xs.0) (is_ascending ([] ∷ xs.0)) (ascend_keys xs.0 (items_take key_at key_bytes FitsKey key_reader n last xs.0 xs.1 fits e).2)
    by kids None e = refl

-- ---- frames

image_of_kind : (r : Rec) → leb (kind r) 3 ≡ is_image r
image_of_kind (rec.HeadImage root next depth) = refl
image_of_kind _ = refl

pub if_err : {A E : Type 0} {P : Type 0} (r : Result A E) → P → IfErr r (λ _. P)
if_err (Ok x) p = tt
if_err (Err e) p = p

module _ (mark : Mark) (bytes : List ℕ) (at : ℕ) (within : at ≤ length bytes) (fits : IsBytes bytes) where
  no_row : row_at mark (drop at bytes) ≡ None → IsNoRowAt mark bytes at
  no_row none = (reads mark bytes at (Err (fault.Bad at)) within fits (refl, none)).bad.1

  pub no_front : front_at mark (drop at bytes) ≡ None → IsNoRowAt mark bytes at
  unfolding row_at
  no_front none = no_row (ap (λ (r : Option (Front × List ℕ)). r >>= λ front. body_at front.0.kind front.1 >>= λ change. cond (eqb (length front.1) (front.0.len + length change.1)) (found (row_of front.0 change.0) change.1) None) none)

  module _ (front : Front) (body : ℕ) (read : (body ≤ length bytes) × (front_at mark (drop at bytes) ≡ Some (front, drop body bytes))) where
    pub no_body : behind (body_at front.kind (drop body bytes)) ≡ None → IsNoRowAt mark bytes at
    unfolding row_at
    no_body none =
        no_row (ap (λ (r : Option (Front × List ℕ)). r >>= λ front. body_at front.0.kind front.1 >>= λ change. cond (eqb (length front.1) (front.0.len + length change.1)) (found (row_of front.0 change.0) change.1) None) read.1
        ∙ ap (λ (r : Option (Rec × List ℕ)). r >>= λ change. cond (eqb (length (drop body bytes)) (front.len + length change.1)) (found (row_of front change.0) change.1) None) (behind_none (body_at front.kind (drop body bytes)) none))

    module _ (end : ℕ) (passed : (end ≤ length bytes) × (behind (body_at front.kind (drop body bytes)) ≡ Some (drop end bytes))) where
      answers : (r : Rec) → body_at front.kind (drop body bytes) ≡ Some (r, drop end bytes) → (b : Bool) → eqb end (body + front.len) ≡ b → Reads mark bytes at (cond b (Ok (row_of front r, end)) (Err (fault.Bad at)))
      answers r is b e =
          let result : Bool → Result (Row × ℕ) RowFault = λ b. cond b (Ok (row_of front r, end)) (Err (fault.Bad at)) in
          reads mark bytes at (result b) within fits (whole_gives mark bytes at front body r end (result b) read passed.0 is (ap result (sym e)))

      pub is_frame : eqb end (body + front.len) ≡ true → IsFrameAt mark bytes at (record { node = front.node; version = front.version; is_image = leb front.kind 3; end = end })
      is_frame e =
          let r = behind_some (body_at front.kind (drop body bytes)) (drop end bytes) passed.1 in
          record {
            row = row_of front r.0;
            is_row = (answers r.0 r.1 true e).found;
            is_of = record {
              node = refl;
              version = refl;
              image = ap (λ k. leb k 3) (sym (body_takes front.kind (drop body bytes) r.0 (drop end bytes) (IsBytes-drop body bytes fits) r.1).of_kind) ∙ image_of_kind r.0;
            };
          }

      pub no_end : eqb end (body + front.len) ≡ false → IsNoRowAt mark bytes at
      no_end e =
          let r = behind_some (body_at front.kind (drop body bytes)) (drop end bytes) passed.1 in
          (answers r.0 r.1 false e).bad.1
