-- Reading a row is reading one of the grammar.
use Rattle.std.proofs.Common.{◌≡◌, ℕ, ◌+◌, ◌^◌, ◌<◌, ◌≤◌, Bool, true, leb, ◌&&◌, List, [], ◌∷◌, ◌++◌, map, length, Option, Some, ℤ, FitsSigned, refl, sym, ap, subst, ◌∙◌, append_assoc, arith, to_z-of_z}
use Rattle.std.specs.List.{flat_map}
use Rattle.std.specs.Int.{w16, w32, w64, to_be_bytes, cast_unsigned, cast_signed}
use Rattle.std.proofs.lemmas.Int.{of_z-to_z}
use Rattle.std.proofs.Math.Facts.{sfits_to_z}
use Rattle.std.proofs.lemmas.Bool.{leb-true, le-leb}
use Rattle.fine_model.specs.declared.Rec.{Rec}
use Rattle.fine_model.specs.declared.Rec.TheVariants as rec
use Rattle.fine_model.specs.Map.{Pair, is_ascending}
use Rattle.fine_model.specs.RowBytes.{key_bytes, value_bytes, pair_bytes, kind, body, FitsKey, FitsValue, FitsPair, FitsChild, FitsRec}
use Rattle.std.proofs.lemmas.Bool.{and_parts}
use Rattle.fine_model.proofs.Chain.Spelling.{small_bits}
use Rattle.node_record.specs.Reading.{◌>>=◌, only, within, text_at, byte_at, number_at, signed_at, key_at, value_at, pair_at, child_at, items_at, head_at, leaf_at, inner_at, put_at, keyed_at, tailed_at}
use Rattle.node_record.proofs.Readers.{IsBytes, bind_some, found, some_is, only_some, only_again, Takes, Takes-then, IsReader, text_takes, text_again, byte_reader, reader_16, reader_32, reader_64, only_reader, items_take, items_again, map_takes, map_again, pair_reader}

pub within_is : (low high n : ℕ) → within low high n ≡ true → (low ≤ n) × (n ≤ high)
within_is low high n h = let b = and_parts (leb low n) (leb n high) h in (leb-true low n b.0, leb-true n high b.1)

pub is_within : (low high n : ℕ) → low ≤ n → n ≤ high → within low high n ≡ true
is_within low high n a b = ap (λ x. x && leb n high) (le-leb low n a) ∙ le-leb n high b

-- ---- fields

len_reader : IsReader (λ bytes. only (within 1 64) (byte_at bytes)) (λ n. n ∷ []) (λ n. (1 ≤ n) × (n ≤ 64))
len_reader = only_reader byte_at (λ n. n ∷ []) (λ n. n < 256) byte_reader (within 1 64) (λ n. (1 ≤ n) × (n ≤ 64)) (λ n h t. within_is 1 64 n t) (λ n h. (omega (arith, h.1), is_within 1 64 n h.0 h.1))

count_reader : IsReader (λ bytes. only (within 0 32) (byte_at bytes)) (λ n. n ∷ []) (λ n. n ≤ 32)
count_reader = only_reader byte_at (λ n. n ∷ []) (λ n. n < 256) byte_reader (within 0 32) (λ n. n ≤ 32) (λ n h t. (within_is 0 32 n t).1) (λ n h. (omega (arith, h), is_within 0 32 n (omega arith) h))

depth_reader : IsReader (λ bytes. only (within 1 8) (byte_at bytes)) (λ n. n ∷ []) (λ n. (1 ≤ n) × (n ≤ 8))
depth_reader = only_reader byte_at (λ n. n ∷ []) (λ n. n < 256) byte_reader (within 1 8) (λ n. (1 ≤ n) × (n ≤ 8)) (λ n h t. within_is 1 8 n t) (λ n h. (omega (arith, h.1), is_within 1 8 n h.0 h.1))

value_len_reader : IsReader (λ bytes. only (within 1 256) (number_at w16 bytes)) (to_be_bytes w16) (λ n. (1 ≤ n) × (n ≤ 256))
value_len_reader = only_reader (number_at w16) (to_be_bytes w16) (λ n. n < 2 ^ 16) reader_16 (within 1 256) (λ n. (1 ≤ n) × (n ≤ 256)) (λ n h t. within_is 1 256 n t) (λ n h. (omega (arith, h.1), is_within 1 256 n h.0 h.1))

next_reader : IsReader (λ bytes. only (within 2 1048576) (number_at w32 bytes)) (to_be_bytes w32) (λ n. (2 ≤ n) × (n ≤ 1048576))
next_reader = only_reader (number_at w32) (to_be_bytes w32) (λ n. n < 2 ^ 32) reader_32 (within 2 1048576) (λ n. (2 ≤ n) × (n ≤ 1048576)) (λ n h t. within_is 2 1048576 n t) (λ n h. (omega (arith, h.1), is_within 2 1048576 n h.0 h.1))

child_reader : IsReader child_at (to_be_bytes w32) FitsChild
unfolding child_at
child_reader = only_reader (number_at w32) (to_be_bytes w32) (λ n. n < 2 ^ 32) reader_32 (within 1 1048575) FitsChild (λ n h t. let r = within_is 1 1048575 n t in (r.0, omega (arith, r.1))) (λ n h. (omega (arith, h.1), is_within 1 1048575 n h.0 (omega (arith, h.1))))

-- a text behind its length
module _ (one : List ℕ → Option (ℕ × List ℕ)) (f : ℕ → List ℕ) (P : ℕ → Type 0) (is : IsReader one f P) where
  behind_takes : (bytes text rest : List ℕ) → IsBytes bytes → (one bytes >>= λ n. text_at n.0 n.1) ≡ Some (text, rest) → Takes bytes (f (length text) ++ text) rest × P (length text)
  behind_takes bytes text rest fits e =
      let n = bind_some (one bytes) (λ n. text_at n.0 n.1) (text, rest) e in
      let first = is.takes bytes n.0.0 n.0.1 fits n.1 in
      let second = text_takes n.0.0 n.0.1 text rest first.0.rest_fits n.2 in
      subst (λ (m : ℕ). Takes bytes (f m ++ text) rest × P m) (sym second.1) (Takes-then bytes (f n.0.0) n.0.1 text rest first.0 second.0, first.1)

  behind_again : (text rest : List ℕ) → P (length text) → (one ((f (length text) ++ text) ++ rest) >>= λ n. text_at n.0 n.1) ≡ Some (text, rest)
  behind_again text rest fits =
      let last : ℕ × List ℕ → Option (List ℕ × List ℕ) = λ n. text_at n.0 n.1 in
      ap (λ (t : List ℕ). one t >>= last) (append_assoc (f (length text)) text rest) ∙ ap (λ (r : Option (ℕ × List ℕ)). r >>= last) (is.again (length text) (text ++ rest) fits) ∙ text_again text rest (length text) refl

pub key_reader : IsReader key_at key_bytes FitsKey
unfolding key_at
key_reader = record {
  takes = λ bytes key rest fits e. behind_takes (λ bytes. only (within 1 64) (byte_at bytes)) (λ n. n ∷ []) (λ n. (1 ≤ n) × (n ≤ 64)) len_reader bytes key rest fits e;
  again = λ key rest fits. behind_again (λ bytes. only (within 1 64) (byte_at bytes)) (λ n. n ∷ []) (λ n. (1 ≤ n) × (n ≤ 64)) len_reader key rest fits;
}

value_reader : IsReader value_at value_bytes FitsValue
unfolding value_at
value_reader = record {
  takes = λ bytes value rest fits e. behind_takes (λ bytes. only (within 1 256) (number_at w16 bytes)) (to_be_bytes w16) (λ n. (1 ≤ n) × (n ≤ 256)) value_len_reader bytes value rest fits e;
  again = λ value rest fits. behind_again (λ bytes. only (within 1 256) (number_at w16 bytes)) (to_be_bytes w16) (λ n. (1 ≤ n) × (n ≤ 256)) value_len_reader value rest fits;
}

pub row_pair_reader : IsReader pair_at pair_bytes FitsPair
unfolding pair_at
row_pair_reader = pair_reader key_at key_bytes FitsKey value_at value_bytes FitsValue key_reader value_reader

signed_fits : (n : ℕ) → n < 2 ^ 64 → FitsSigned w64 (cast_signed w64 n)
signed_fits n lt = sfits_to_z {w = w64} {n = n} (omega (arith, lt))

-- numbers with a sign
signed_reader : IsReader signed_at (λ z. to_be_bytes w64 (cast_unsigned w64 z)) (FitsSigned w64)
unfolding signed_at
signed_reader = record {
  takes = λ bytes z rest fits e.
      let m = map_takes (number_at w64) (to_be_bytes w64) (λ n. n < 2 ^ 64) (cast_signed w64) reader_64 bytes z rest fits e in
      let back : cast_unsigned w64 z ≡ m.part = ap (cast_unsigned w64) m.is ∙ of_z-to_z w64 m.part m.fits in
      (subst (λ (n : ℕ). Takes bytes (to_be_bytes w64 n) rest) (sym back) m.takes, subst (FitsSigned w64) (sym m.is) (signed_fits m.part m.fits));
  again = λ z rest fits.
      map_again (number_at w64) (to_be_bytes w64) (λ n. n < 2 ^ 64) (cast_signed w64) reader_64 (cast_unsigned w64 z) rest (small_bits z fits) ∙ ap (λ (y : ℤ). found y rest) (to_z-of_z fits);
}

-- ---- bodies

-- what is read is a body of a kind
pub record Body (bytes : List ℕ) (k : ℕ) (r : Rec) (rest : List ℕ) : Type 0 where
  pub takes : Takes bytes (body r) rest
  pub fits : FitsRec r
  pub of_kind : kind r ≡ k

pub put_takes : (bytes : List ℕ) (r : Rec) (rest : List ℕ) → IsBytes bytes → put_at bytes ≡ Some (r, rest) → Body bytes 4 r rest
unfolding put_at body
put_takes bytes r rest fits e =
    let m = map_takes pair_at pair_bytes FitsPair (λ p. rec.Put p.0 p.1) row_pair_reader bytes r rest fits e in
    subst (λ (x : Rec). Body bytes 4 x rest) (sym m.is) (record { takes = m.takes; fits = m.fits; of_kind = refl })

pub put_again : (key value rest : List ℕ) → FitsPair (key, value) → put_at (body (rec.Put key value) ++ rest) ≡ Some (rec.Put key value, rest)
unfolding put_at body
put_again key value rest fits = map_again pair_at pair_bytes FitsPair (λ p. rec.Put p.0 p.1) row_pair_reader (key, value) rest fits

-- rows of a key alone
pub keyed_takes : (make : List ℕ → Rec) (k : ℕ) → ((key : List ℕ) → body (make key) ≡ key_bytes key) → ((key : List ℕ) → FitsKey key → FitsRec (make key)) → ((key : List ℕ) → kind (make key) ≡ k)
    → (bytes : List ℕ) (r : Rec) (rest : List ℕ) → IsBytes bytes → keyed_at make bytes ≡ Some (r, rest) → Body bytes k r rest
unfolding keyed_at
keyed_takes make k spelled fit of_kind bytes r rest fits e =
    let m = map_takes key_at key_bytes FitsKey make key_reader bytes r rest fits e in
    subst (λ (x : Rec). Body bytes k x rest) (sym m.is) (record { takes = subst (λ (t : List ℕ). Takes bytes t rest) (sym (spelled m.part)) m.takes; fits = fit m.part m.fits; of_kind = of_kind m.part })

pub keyed_again : (make : List ℕ → Rec) → (key rest : List ℕ) → FitsKey key → keyed_at make (key_bytes key ++ rest) ≡ Some (make key, rest)
unfolding keyed_at
keyed_again make key rest fits = map_again key_at key_bytes FitsKey make key_reader key rest fits

-- rows of a key and a field behind it
pub tailed_takes : {A : Type 0} (one : List ℕ → Option (A × List ℕ)) (spells : A → List ℕ) (P : A → Type 0) → IsReader one spells P → (make : List ℕ → A → Rec) (k : ℕ)
    → ((key : List ℕ) (tail : A) → body (make key tail) ≡ key_bytes key ++ spells tail) → ((key : List ℕ) (tail : A) → FitsKey key → P tail → FitsRec (make key tail)) → ((key : List ℕ) (tail : A) → kind (make key tail) ≡ k)
    → (bytes : List ℕ) (r : Rec) (rest : List ℕ) → IsBytes bytes → tailed_at one make bytes ≡ Some (r, rest) → Body bytes k r rest
unfolding tailed_at
tailed_takes one spells P reader make k spelled fit of_kind bytes r rest fits e =
    let a = bind_some (key_at bytes) (λ key. one key.1 >>= λ n. found (make key.0 n.0) n.1) (r, rest) e in
    let first = key_reader.takes bytes a.0.0 a.0.1 fits a.1 in
    let m = map_takes one spells P (make a.0.0) reader a.0.1 r rest first.0.rest_fits a.2 in
    subst (λ (x : Rec). Body bytes k x rest) (sym m.is) (record {
      takes = subst (λ (t : List ℕ). Takes bytes t rest) (sym (spelled a.0.0 m.part)) (Takes-then bytes (key_bytes a.0.0) a.0.1 (spells m.part) rest first.0 m.takes);
      fits = fit a.0.0 m.part first.1 m.fits;
      of_kind = of_kind a.0.0 m.part;
    })

pub tailed_again : {A : Type 0} (one : List ℕ → Option (A × List ℕ)) (spells : A → List ℕ) (P : A → Type 0) → IsReader one spells P → (make : List ℕ → A → Rec) (key : List ℕ) (tail : A) (rest : List ℕ) → FitsKey key → P tail
    → tailed_at one make ((key_bytes key ++ spells tail) ++ rest) ≡ Some (make key tail, rest)
unfolding tailed_at
tailed_again one spells P reader make key tail rest fits small =
    let last : List ℕ × List ℕ → Option (Rec × List ℕ) = λ k. one k.1 >>= λ n. found (make k.0 n.0) n.1 in
    ap (λ (t : List ℕ). key_at t >>= last) (append_assoc (key_bytes key) (spells tail) rest) ∙ ap (λ (r : Option (List ℕ × List ℕ)). r >>= last) (key_reader.again key (spells tail ++ rest) fits)
    ∙ map_again one spells P (make key) reader tail rest small

pub link_takes : (bytes : List ℕ) (r : Rec) (rest : List ℕ) → IsBytes bytes → tailed_at child_at (λ key child. rec.Link key child) bytes ≡ Some (r, rest) → Body bytes 8 r rest
unfolding body
link_takes = tailed_takes child_at (to_be_bytes w32) FitsChild child_reader (λ key child. rec.Link key child) 8 (λ key child. refl) (λ key child h small. (h, small)) (λ key child. refl)

pub link_again : (key : List ℕ) (child : ℕ) (rest : List ℕ) → FitsKey key → FitsChild child → tailed_at child_at (λ key child. rec.Link key child) (body (rec.Link key child) ++ rest) ≡ Some (rec.Link key child, rest)
unfolding body
link_again = tailed_again child_at (to_be_bytes w32) FitsChild child_reader (λ key child. rec.Link key child)

pub plus_takes : (bytes : List ℕ) (r : Rec) (rest : List ℕ) → IsBytes bytes → tailed_at signed_at (λ key by. rec.Plus key by) bytes ≡ Some (r, rest) → Body bytes 9 r rest
unfolding body
plus_takes = tailed_takes signed_at (λ z. to_be_bytes w64 (cast_unsigned w64 z)) (FitsSigned w64) signed_reader (λ key by. rec.Plus key by) 9 (λ key by. refl) (λ key by h small. (h, small)) (λ key by. refl)

pub plus_again : (key : List ℕ) (by : ℤ) (rest : List ℕ) → FitsKey key → FitsSigned w64 by → tailed_at signed_at (λ key by. rec.Plus key by) (body (rec.Plus key by) ++ rest) ≡ Some (rec.Plus key by, rest)
unfolding body
plus_again = tailed_again signed_at (λ z. to_be_bytes w64 (cast_unsigned w64 z)) (FitsSigned w64) signed_reader (λ key by. rec.Plus key by)

abbrev next_at : List ℕ → Option (ℕ × List ℕ)
next_at bytes = only (within 2 1048576) (number_at w32 bytes)

abbrev depth_at : List ℕ → Option (ℕ × List ℕ)
depth_at bytes = only (within 1 8) (byte_at bytes)

pub head_takes : (bytes : List ℕ) (r : Rec) (rest : List ℕ) → IsBytes bytes → head_at bytes ≡ Some (r, rest) → Body bytes 1 r rest
unfolding head_at body
head_takes bytes r rest fits e =
    let a = bind_some (child_at bytes) (λ root. next_at root.1 >>= λ next. depth_at next.1 >>= λ depth. found (rec.HeadImage root.0 next.0 depth.0) depth.1) (r, rest) e in
    let b = bind_some (next_at a.0.1) (λ next. depth_at next.1 >>= λ depth. found (rec.HeadImage a.0.0 next.0 depth.0) depth.1) (r, rest) a.2 in
    let one = child_reader.takes bytes a.0.0 a.0.1 fits a.1 in
    let two = next_reader.takes a.0.1 b.0.0 b.0.1 one.0.rest_fits b.1 in
    let m = map_takes depth_at (λ n. n ∷ []) (λ n. (1 ≤ n) × (n ≤ 8)) (rec.HeadImage a.0.0 b.0.0) depth_reader b.0.1 r rest two.0.rest_fits b.2 in
    let both = Takes-then bytes (to_be_bytes w32 a.0.0) a.0.1 (to_be_bytes w32 b.0.0) b.0.1 one.0 two.0 in
    subst (λ (x : Rec). Body bytes 1 x rest) (sym m.is) (record {
      takes = Takes-then bytes (to_be_bytes w32 a.0.0 ++ to_be_bytes w32 b.0.0) b.0.1 (m.part ∷ []) rest both m.takes;
      fits = (one.1, two.1.0, two.1.1, m.fits.0, m.fits.1);
      of_kind = refl;
    })

pub head_again : (root next depth : ℕ) (rest : List ℕ) → FitsRec (rec.HeadImage root next depth) → head_at (body (rec.HeadImage root next depth) ++ rest) ≡ Some (rec.HeadImage root next depth, rest)
unfolding head_at body
head_again root next depth rest fits =
    let last : ℕ × List ℕ → Option (Rec × List ℕ) = λ r. next_at r.1 >>= λ n. depth_at n.1 >>= λ d. found (rec.HeadImage r.0 n.0 d.0) d.1 in
    let end : ℕ × List ℕ → Option (Rec × List ℕ) = λ n. depth_at n.1 >>= λ d. found (rec.HeadImage root n.0 d.0) d.1 in
    ap (λ (r : Option (ℕ × List ℕ)). r >>= last) (child_reader.again root (to_be_bytes w32 next ++ depth ∷ rest) fits.0)
    ∙ ap (λ (r : Option (ℕ × List ℕ)). r >>= end) (next_reader.again next (depth ∷ rest) (fits.1, fits.2))
    ∙ map_again depth_at (λ n. n ∷ []) (λ n. (1 ≤ n) × (n ≤ 8)) (rec.HeadImage root next) depth_reader depth rest (fits.3, fits.4)

abbrev count_at : List ℕ → Option (ℕ × List ℕ)
count_at bytes = only (within 0 32) (byte_at bytes)

abbrev ascend : List Pair → Bool
ascend pairs = is_ascending (map (λ p. p.0) pairs)

pub leaf_takes : (bytes : List ℕ) (r : Rec) (rest : List ℕ) → IsBytes bytes → leaf_at bytes ≡ Some (r, rest) → Body bytes 2 r rest
unfolding leaf_at body
leaf_takes bytes r rest fits e =
    let a = bind_some (count_at bytes) (λ n. only ascend (items_at pair_at n.0 n.1) >>= λ pairs. found (rec.LeafImage pairs.0) pairs.1) (r, rest) e in
    let b = bind_some (only ascend (items_at pair_at a.0.0 a.0.1)) (λ pairs. found (rec.LeafImage pairs.0) pairs.1) (r, rest) a.2 in
    let s = only_some ascend (items_at pair_at a.0.0 a.0.1) b.0 b.1 in
    let one = count_reader.takes bytes a.0.0 a.0.1 fits a.1 in
    let two = items_take pair_at pair_bytes FitsPair row_pair_reader a.0.0 a.0.1 b.0.0 b.0.1 one.0.rest_fits s.0 in
    let both = Takes-then bytes (a.0.0 ∷ []) a.0.1 (flat_map pair_bytes b.0.0) b.0.1 one.0 two.0 in
    subst (λ (y : Rec × List ℕ). Body bytes 2 y.0 y.1) (some_is (rec.LeafImage b.0.0, b.0.1) (r, rest) b.2) (record {
      takes = subst (λ (n : ℕ). Takes bytes (n ∷ flat_map pair_bytes b.0.0) b.0.1) (sym two.1) both;
      fits = (omega (arith, one.1, two.1), two.2, s.1);
      of_kind = refl;
    })

pub leaf_again : (pairs : List Pair) (rest : List ℕ) → FitsRec (rec.LeafImage pairs) → leaf_at (body (rec.LeafImage pairs) ++ rest) ≡ Some (rec.LeafImage pairs, rest)
unfolding leaf_at body
leaf_again pairs rest fits =
    let last : ℕ × List ℕ → Option (Rec × List ℕ) = λ n. only ascend (items_at pair_at n.0 n.1) >>= λ ps. found (rec.LeafImage ps.0) ps.1 in
    let end : List Pair × List ℕ → Option (Rec × List ℕ) = λ ps. found (rec.LeafImage ps.0) ps.1 in
    ap (λ (r : Option (ℕ × List ℕ)). r >>= last) (count_reader.again (length pairs) (flat_map pair_bytes pairs ++ rest) fits.0)
    ∙ ap (λ (r : Option (List Pair × List ℕ)). r >>= end) (only_again ascend pairs rest (items_at pair_at (length pairs) (flat_map pair_bytes pairs ++ rest)) (items_again pair_at pair_bytes FitsPair row_pair_reader pairs rest fits.1) fits.2)

pub inner_takes : (bytes : List ℕ) (r : Rec) (rest : List ℕ) → IsBytes bytes → inner_at bytes ≡ Some (r, rest) → Body bytes 3 r rest
unfolding inner_at body
inner_takes bytes r rest fits e =
    let a = bind_some (count_at bytes) (λ n. items_at child_at (n.0 + 1) n.1 >>= λ kids. only is_ascending (items_at key_at n.0 kids.1) >>= λ seps. found (rec.InnerImage seps.0 kids.0) seps.1) (r, rest) e in
    let b = bind_some (items_at child_at (a.0.0 + 1) a.0.1) (λ kids. only is_ascending (items_at key_at a.0.0 kids.1) >>= λ seps. found (rec.InnerImage seps.0 kids.0) seps.1) (r, rest) a.2 in
    let d = bind_some (only is_ascending (items_at key_at a.0.0 b.0.1)) (λ seps. found (rec.InnerImage seps.0 b.0.0) seps.1) (r, rest) b.2 in
    let s = only_some is_ascending (items_at key_at a.0.0 b.0.1) d.0 d.1 in
    let one = count_reader.takes bytes a.0.0 a.0.1 fits a.1 in
    let two = items_take child_at (to_be_bytes w32) FitsChild child_reader (a.0.0 + 1) a.0.1 b.0.0 b.0.1 one.0.rest_fits b.1 in
    let three = items_take key_at key_bytes FitsKey key_reader a.0.0 b.0.1 d.0.0 d.0.1 two.0.rest_fits s.0 in
    let both = Takes-then bytes (a.0.0 ∷ []) a.0.1 (flat_map (to_be_bytes w32) b.0.0) b.0.1 one.0 two.0 in
    let all = Takes-then bytes (a.0.0 ∷ flat_map (to_be_bytes w32) b.0.0) b.0.1 (flat_map key_bytes d.0.0) d.0.1 both three.0 in
    subst (λ (y : Rec × List ℕ). Body bytes 3 y.0 y.1) (some_is (rec.InnerImage d.0.0 b.0.0, d.0.1) (r, rest) d.2) (record {
      takes = subst (λ (n : ℕ). Takes bytes (n ∷ flat_map (to_be_bytes w32) b.0.0 ++ flat_map key_bytes d.0.0) d.0.1) (sym three.1) all;
      fits = (omega (arith, one.1, three.1), omega (arith, two.1, three.1), two.2, three.2, s.1);
      of_kind = refl;
    })

pub inner_again : (seps : List (List ℕ)) (kids : List ℕ) (rest : List ℕ) → FitsRec (rec.InnerImage seps kids) → inner_at (body (rec.InnerImage seps kids) ++ rest) ≡ Some (rec.InnerImage seps kids, rest)
unfolding inner_at body
inner_again seps kids rest fits =
    let last : ℕ × List ℕ → Option (Rec × List ℕ) = λ n. items_at child_at (n.0 + 1) n.1 >>= λ ks. only is_ascending (items_at key_at n.0 ks.1) >>= λ ss. found (rec.InnerImage ss.0 ks.0) ss.1 in
    let middle : List ℕ × List ℕ → Option (Rec × List ℕ) = λ ks. only is_ascending (items_at key_at (length seps) ks.1) >>= λ ss. found (rec.InnerImage ss.0 ks.0) ss.1 in
    let end : List (List ℕ) × List ℕ → Option (Rec × List ℕ) = λ ss. found (rec.InnerImage ss.0 kids) ss.1 in
    let tail = flat_map key_bytes seps ++ rest in
    let regrouped : (flat_map (to_be_bytes w32) kids ++ flat_map key_bytes seps) ++ rest ≡ flat_map (to_be_bytes w32) kids ++ (flat_map key_bytes seps ++ rest) = append_assoc (flat_map (to_be_bytes w32) kids) (flat_map key_bytes seps) rest in
    let counted : items_at child_at (length seps + 1) (flat_map (to_be_bytes w32) kids ++ (flat_map key_bytes seps ++ rest)) ≡ Some (kids, flat_map key_bytes seps ++ rest) =
    ap (λ (n : ℕ). items_at child_at n (flat_map (to_be_bytes w32) kids ++ (flat_map key_bytes seps ++ rest))) (sym fits.1) ∙ items_again child_at (to_be_bytes w32) FitsChild child_reader kids (flat_map key_bytes seps ++ rest) fits.2 in
    ap (λ (t : List ℕ). count_at (length seps ∷ t) >>= last) regrouped
    ∙ ap (λ (r : Option (ℕ × List ℕ)). r >>= last) (count_reader.again (length seps) (flat_map (to_be_bytes w32) kids ++ (flat_map key_bytes seps ++ rest)) fits.0)
    ∙ ap (λ (r : Option (List ℕ × List ℕ)). r >>= middle) counted
    ∙ ap (λ (r : Option (List (List ℕ) × List ℕ)). r >>= end) (only_again is_ascending seps rest (items_at key_at (length seps) (flat_map key_bytes seps ++ rest)) (items_again key_at key_bytes FitsKey key_reader seps rest fits.3) fits.4)
