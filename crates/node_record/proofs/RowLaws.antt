-- Reading a row is reading one of the grammar.
use Rattle.std.proofs.Common.{◌≡◌, ◌↔◌, ℕ, ◌+◌, ◌*◌, ◌^◌, ◌<◌, ◌≤◌, Bool, true, false, cond, leb, eqb, eq-eqb, ◌&&◌, not, List, [], ◌∷◌, ◌++◌, length, drop, Option, Some, None, Result, Ok, Err, refl, sym, ap, subst, ◌∙◌, append_assoc, arith, true≢false, length-append, length-drop}
use Rattle.std.specs.Prelude.{IfOk, IfErr}
use Rattle.std.specs.List.{flat_map, AllByRecursion}
use Rattle.std.proofs.lemmas.Option.{none-some}
use Rattle.std.specs.Int.{w16, w32, w64, to_be_bytes, cast_unsigned}
use Rattle.std.proofs.lemmas.Bool.{leb-true, le-leb, eqb-true}
use Rattle.fine_model.specs.declared.Mark.{Mark}
use Rattle.fine_model.specs.declared.Rec.{Rec}
use Rattle.fine_model.specs.declared.Rec.TheVariants as rec
use Rattle.fine_model.specs.declared.Row.{Row}
use Rattle.fine_model.specs.RowBytes.{greatest, last_kind, key_bytes, value_bytes, pair_bytes, kind, body, row_bytes, FitsKey, FitsPair, FitsChild, FitsRec, FitsRow, BeginsWithRow}
use Rattle.fine_model.proofs.Chain.Grammar.{row_long}
use Rattle.fine_model.proofs.Trees.FitPushed.{kind_few}
use Rattle.std.proofs.lemmas.Bool.{and_parts}
use Rattle.node_record.specs.declared.front.Front.{Front}
use Rattle.node_record.specs.declared.fault.RowFault.{RowFault}
use Rattle.node_record.specs.declared.fault.RowFault.TheVariants as fault
use Rattle.node_record.specs.Rows.{IsRowAt, IsFault, IsReadAgain}
use Rattle.node_record.specs.Reading.{signed_at, child_at, tailed_at, Gives, ◌>>=◌, only, within, byte_at, number_at, head_at, leaf_at, inner_at, put_at, keyed_at, body_at, fits_kind, front_at, row_at}
use Rattle.node_record.proofs.Changes.{not_true}
use Rattle.node_record.proofs.Readers.{IsBytes, IsBytes-drop, bind_some, found, some_is, Takes, Takes-then, IsReader, byte_reader, reader_16, reader_32, reader_64, only_reader, map_takes, map_again}
use Rattle.node_record.proofs.RowsRead.{within_is, is_within, Body, head_takes, head_again, leaf_takes, leaf_again, inner_takes, inner_again, put_takes, put_again, keyed_takes, keyed_again, link_takes, link_again, plus_takes, plus_again}

-- ---- bodies of all kinds

by_kind : {A : Type 0} (P : Type 0) (k n : ℕ) (x y z : Option A) → cond (eqb k n) x y ≡ z → (k ≡ n → x ≡ z → P) → (y ≡ z → P) → P
by_kind {A} P k n x y z e here else' = by (eqb k n) refl e
  where
    by : (b : Bool) → eqb k n ≡ b → cond b x y ≡ z → P
    by true is e = here (eqb-true k n is) e
    by false is e = else' e

pub body_takes : (k : ℕ) (bytes : List ℕ) (r : Rec) (rest : List ℕ) → IsBytes bytes → body_at k bytes ≡ Some (r, rest) → Body bytes k r rest
unfolding body_at body
body_takes k bytes r rest fits e =
    let at : (n : ℕ) → k ≡ n → Body bytes n r rest → Body bytes k r rest = λ n is b. subst (λ (m : ℕ). Body bytes m r rest) (sym is) b in
    by_kind (Body bytes k r rest) k 1 (head_at bytes) _ (Some (r, rest)) e (λ is e. at 1 is (head_takes bytes r rest fits e)) (λ e.
    by_kind (Body bytes k r rest) k 2 (leaf_at bytes) _ (Some (r, rest)) e (λ is e. at 2 is (leaf_takes bytes r rest fits e)) (λ e.
    by_kind (Body bytes k r rest) k 3 (inner_at bytes) _ (Some (r, rest)) e (λ is e. at 3 is (inner_takes bytes r rest fits e)) (λ e.
    by_kind (Body bytes k r rest) k 4 (put_at bytes) _ (Some (r, rest)) e (λ is e. at 4 is (put_takes bytes r rest fits e)) (λ e.
    by_kind (Body bytes k r rest) k 5 (keyed_at (λ key. rec.Del key) bytes) _ (Some (r, rest)) e (λ is e. at 5 is (keyed_takes (λ key. rec.Del key) 5 (λ key. refl) (λ key h. h) (λ key. refl) bytes r rest fits e)) (λ e.
    by_kind (Body bytes k r rest) k 6 (keyed_at (λ key. rec.CutLeaf key) bytes) _ (Some (r, rest)) e (λ is e. at 6 is (keyed_takes (λ key. rec.CutLeaf key) 6 (λ key. refl) (λ key h. h) (λ key. refl) bytes r rest fits e)) (λ e.
    by_kind (Body bytes k r rest) k 7 (keyed_at (λ key. rec.CutInner key) bytes) _ (Some (r, rest)) e (λ is e. at 7 is (keyed_takes (λ key. rec.CutInner key) 7 (λ key. refl) (λ key h. h) (λ key. refl) bytes r rest fits e)) (λ e.
    by_kind (Body bytes k r rest) k 8 (tailed_at child_at (λ key child. rec.Link key child) bytes) _ (Some (r, rest)) e (λ is e. at 8 is (link_takes bytes r rest fits e)) (λ e.
    by_kind (Body bytes k r rest) k 9 (tailed_at signed_at (λ key by. rec.Plus key by) bytes) None (Some (r, rest)) e (λ is e. at 9 is (plus_takes bytes r rest fits e)) (λ e. absurd cc)))))))))

body_again : (r : Rec) (rest : List ℕ) → FitsRec r → body_at (kind r) (body r ++ rest) ≡ Some (r, rest)
unfolding body_at body
body_again (rec.HeadImage root next depth) rest fits = head_again root next depth rest fits
body_again (rec.LeafImage pairs) rest fits = leaf_again pairs rest fits
body_again (rec.InnerImage seps kids) rest fits = inner_again seps kids rest fits
body_again (rec.Put key value) rest fits = put_again key value rest fits
body_again (rec.Del key) rest fits = keyed_again (λ key. rec.Del key) key rest fits
body_again (rec.CutLeaf key) rest fits = keyed_again (λ key. rec.CutLeaf key) key rest fits
body_again (rec.CutInner key) rest fits = keyed_again (λ key. rec.CutInner key) key rest fits
body_again (rec.Link key child) rest fits = link_again key child rest fits.0 fits.1
body_again (rec.Plus key by) rest fits = plus_again key by rest fits.0 fits.1

flat_short : {A : Type 0} (f : A → List ℕ) (P : A → Type 0) (most : ℕ) → ((x : A) → P x → length (f x) ≤ most) → (xs : List A) → AllByRecursion P xs → length (flat_map f xs) ≤ most * length xs
flat_short f P most short [] all = omega arith
flat_short f P most short (x ∷ xs) all = omega (arith, length-append (f x) (flat_map f xs), short x all.0, flat_short f P most short xs all.1)

pub body_short : (r : Rec) → FitsRec r → length (body r) ≤ 10337
unfolding body
body_short (rec.HeadImage root next depth) fits = omega arith
body_short (rec.LeafImage pairs) fits = omega (arith, fits.0, flat_short pair_bytes FitsPair 323 (λ p h. omega (arith, h.0.1, h.1.1, length-append (key_bytes p.0) (value_bytes p.1))) pairs fits.1)
body_short (rec.InnerImage seps kids) fits =
    omega (arith, fits.0, fits.1, length-append (flat_map (to_be_bytes w32) kids) (flat_map key_bytes seps), flat_short key_bytes FitsKey 65 (λ k h. omega (arith, h.1)) seps fits.3, flat_short (to_be_bytes w32) FitsChild 4 (λ k h. omega arith) kids fits.2)
body_short (rec.Put key value) fits = omega (arith, fits.0.1, fits.1.1, length-append (key_bytes key) (value_bytes value))
body_short (rec.Del key) fits = omega (arith, fits.1)
body_short (rec.CutLeaf key) fits = omega (arith, fits.1)
body_short (rec.CutInner key) fits = omega (arith, fits.1)
body_short (rec.Link key child) fits = omega (arith, fits.0.1, length-append (key_bytes key) (to_be_bytes w32 child))
body_short (rec.Plus key by) fits = omega (arith, fits.0.1, length-append (key_bytes key) (to_be_bytes w64 (cast_unsigned w64 by)))

-- ---- fronts

abbrev front_text : Front → List ℕ
front_text front = front.kind ∷ to_be_bytes w16 front.node.bucket ++ to_be_bytes w32 front.node.number ++ to_be_bytes w64 front.version ++ to_be_bytes w32 front.len

pub record FrontFits (mark : Mark) (front : Front) : Type 0 where
  pub kind : front.kind ≤ last_kind mark
  pub bucket : front.node.bucket ≤ 255
  pub number : front.node.number ≤ 1048575
  pub fits : fits_kind front.kind front.node.number ≡ true
  pub version_low : 1 ≤ front.version
  pub version_high : front.version ≤ greatest

tested : {A : Type 0} (one : List ℕ → Option (A × List ℕ)) (f : A → List ℕ) (P : A → Type 0) → IsReader one f P → (test : A → Bool) → IsReader (λ bytes. only test (one bytes)) f (λ x. P x × (test x ≡ true))
tested one f P is test = only_reader one f P is test (λ x. P x × (test x ≡ true)) (λ x h t. (h, t)) (λ x h. h)

abbrev bucket_at : List ℕ → Option (ℕ × List ℕ)
bucket_at bytes = only (within 0 255) (number_at w16 bytes)

abbrev version_at : List ℕ → Option (ℕ × List ℕ)
version_at bytes = only (within 1 greatest) (number_at w64 bytes)

module _ (mark : Mark) where
  abbrev kind_at : List ℕ → Option (ℕ × List ℕ)
  kind_at bytes = only (λ k. leb k (last_kind mark)) (byte_at bytes)

  abbrev node_at : ℕ → List ℕ → Option (ℕ × List ℕ)
  node_at kind bytes = only (λ n. leb n 1048575 && fits_kind kind n) (number_at w32 bytes)

  abbrev front_of : ℕ → ℕ → ℕ → ℕ → ℕ → Front
  front_of kind bucket number version len = record { kind = kind; node = record { bucket = bucket; number = number }; version = version; len = len }

  front_takes : (bytes : List ℕ) (front : Front) (rest : List ℕ) → IsBytes bytes → front_at mark bytes ≡ Some (front, rest) → Takes bytes (front_text front) rest × FrontFits mark front
  unfolding front_at
  front_takes bytes front rest fits e =
      let a = bind_some (kind_at bytes) (λ k. bucket_at k.1 >>= λ b. node_at k.0 b.1 >>= λ n. version_at n.1 >>= λ v. number_at w32 v.1 >>= λ l. found (front_of k.0 b.0 n.0 v.0 l.0) l.1) (front, rest) e in
      let b = bind_some (bucket_at a.0.1) (λ b. node_at a.0.0 b.1 >>= λ n. version_at n.1 >>= λ v. number_at w32 v.1 >>= λ l. found (front_of a.0.0 b.0 n.0 v.0 l.0) l.1) (front, rest) a.2 in
      let n = bind_some (node_at a.0.0 b.0.1) (λ n. version_at n.1 >>= λ v. number_at w32 v.1 >>= λ l. found (front_of a.0.0 b.0.0 n.0 v.0 l.0) l.1) (front, rest) b.2 in
      let v = bind_some (version_at n.0.1) (λ v. number_at w32 v.1 >>= λ l. found (front_of a.0.0 b.0.0 n.0.0 v.0 l.0) l.1) (front, rest) n.2 in
      let ra = (tested byte_at (λ k. k ∷ []) (λ k. k < 256) byte_reader (λ k. leb k (last_kind mark))).takes bytes a.0.0 a.0.1 fits a.1 in
      let rb = (tested (number_at w16) (to_be_bytes w16) (λ n. n < 2 ^ 16) reader_16 (within 0 255)).takes a.0.1 b.0.0 b.0.1 ra.0.rest_fits b.1 in
      let rn = (tested (number_at w32) (to_be_bytes w32) (λ n. n < 2 ^ 32) reader_32 (λ n. leb n 1048575 && fits_kind a.0.0 n)).takes b.0.1 n.0.0 n.0.1 rb.0.rest_fits n.1 in
      let rv = (tested (number_at w64) (to_be_bytes w64) (λ n. n < 2 ^ 64) reader_64 (within 1 greatest)).takes n.0.1 v.0.0 v.0.1 rn.0.rest_fits v.1 in
      let m = map_takes (number_at w32) (to_be_bytes w32) (λ n. n < 2 ^ 32) (front_of a.0.0 b.0.0 n.0.0 v.0.0) reader_32 v.0.1 front rest rv.0.rest_fits v.2 in
      let t1 = Takes-then bytes (a.0.0 ∷ []) a.0.1 (to_be_bytes w16 b.0.0) b.0.1 ra.0 rb.0 in
      let t2 = Takes-then bytes (a.0.0 ∷ to_be_bytes w16 b.0.0) b.0.1 (to_be_bytes w32 n.0.0) n.0.1 t1 rn.0 in
      let t3 = Takes-then bytes (a.0.0 ∷ to_be_bytes w16 b.0.0 ++ to_be_bytes w32 n.0.0) n.0.1 (to_be_bytes w64 v.0.0) v.0.1 t2 rv.0 in
      let t4 = Takes-then bytes (a.0.0 ∷ to_be_bytes w16 b.0.0 ++ to_be_bytes w32 n.0.0 ++ to_be_bytes w64 v.0.0) v.0.1 (to_be_bytes w32 m.part) rest t3 m.takes in
      let number = and_parts (leb n.0.0 1048575) (fits_kind a.0.0 n.0.0) rn.1.1 in
      let version = within_is 1 greatest v.0.0 rv.1.1 in
      subst (λ (x : Front). Takes bytes (front_text x) rest × FrontFits mark x) (sym m.is) (
        t4,
        record {
          kind = leb-true a.0.0 (last_kind mark) ra.1.1;
          bucket = (within_is 0 255 b.0.0 rb.1.1).1;
          number = leb-true n.0.0 1048575 number.0;
          fits = number.1;
          version_low = version.0;
          version_high = version.1;
        },
      )

  -- fewer bytes than stand before a body are no front
  pub front_short : (bytes : List ℕ) → IsBytes bytes → length bytes < 19 → front_at mark bytes ≡ None
  front_short bytes fits short = by (front_at mark bytes) refl
    where
      by : (read : Option (Front × List ℕ)) → front_at mark bytes ≡ read → read ≡ None
      by (Some x) is = let long = (front_takes bytes x.0 x.1 fits is).0.parts in absurd (omega (arith, short, ap length long, length-append (front_text x.0) x.1))
      by None is = refl

  front_again : (front : Front) (rest : List ℕ) → FrontFits mark front → front.kind < 256 → front.len < 2 ^ 32 → front_at mark (front_text front ++ rest) ≡ Some (front, rest)
  unfolding front_at
  front_again front rest fits small short =
      let k = front.kind in
      let b = front.node.bucket in
      let n = front.node.number in
      let v = front.version in
      let at_k : ℕ × List ℕ → Option (Front × List ℕ) = λ k. bucket_at k.1 >>= λ b. node_at k.0 b.1 >>= λ n. version_at n.1 >>= λ v. number_at w32 v.1 >>= λ l. found (front_of k.0 b.0 n.0 v.0 l.0) l.1 in
      let at_b : ℕ × List ℕ → Option (Front × List ℕ) = λ b. node_at front.kind b.1 >>= λ n. version_at n.1 >>= λ v. number_at w32 v.1 >>= λ l. found (front_of front.kind b.0 n.0 v.0 l.0) l.1 in
      let at_n : ℕ × List ℕ → Option (Front × List ℕ) = λ n. version_at n.1 >>= λ v. number_at w32 v.1 >>= λ l. found (front_of front.kind front.node.bucket n.0 v.0 l.0) l.1 in
      let at_v : ℕ × List ℕ → Option (Front × List ℕ) = λ v. number_at w32 v.1 >>= λ l. found (front_of front.kind front.node.bucket front.node.number v.0 l.0) l.1 in
      let tail_l = to_be_bytes w32 front.len ++ rest in
      let tail_v = to_be_bytes w64 v ++ tail_l in
      let tail_n = to_be_bytes w32 n ++ tail_v in
      let tail_b = to_be_bytes w16 b ++ tail_n in
      let both : (leb n 1048575 && fits_kind k n) ≡ true = ap (λ x. x && fits_kind k n) (le-leb n 1048575 fits.number) ∙ fits.fits in
      ap (λ (r : Option (ℕ × List ℕ)). r >>= at_k) ((tested byte_at (λ k. k ∷ []) (λ k. k < 256) byte_reader (λ k. leb k (last_kind mark))).again k tail_b (small, le-leb k (last_kind mark) fits.kind))
      ∙ ap (λ (r : Option (ℕ × List ℕ)). r >>= at_b) ((tested (number_at w16) (to_be_bytes w16) (λ n. n < 2 ^ 16) reader_16 (within 0 255)).again b tail_n (omega (arith, fits.bucket), is_within 0 255 b (omega arith) fits.bucket))
      ∙ ap (λ (r : Option (ℕ × List ℕ)). r >>= at_n) ((tested (number_at w32) (to_be_bytes w32) (λ n. n < 2 ^ 32) reader_32 (λ n. leb n 1048575 && fits_kind front.kind n)).again n tail_v (omega (arith, fits.number), both))
      ∙ ap (λ (r : Option (ℕ × List ℕ)). r >>= at_v) ((tested (number_at w64) (to_be_bytes w64) (λ n. n < 2 ^ 64) reader_64 (within 1 greatest)).again v tail_l (omega (arith, fits.version_high), is_within 1 greatest v fits.version_low fits.version_high))
      ∙ map_again (number_at w32) (to_be_bytes w32) (λ n. n < 2 ^ 32) (front_of front.kind front.node.bucket front.node.number front.version) reader_32 front.len rest short

-- ---- rows

-- only node 0 has head images
head_is : (kind number : ℕ) → fits_kind kind number ≡ true → (number ≡ 0) ↔ (kind ≡ 1)
head_is kind number h = by (eqb kind 1) (eqb number 0) refl refl h
  where
    by : (k n : Bool) → eqb kind 1 ≡ k → eqb number 0 ≡ n → cond k n (not n) ≡ true → (number ≡ 0) ↔ (kind ≡ 1)
    by true true ek en h = (λ _. eqb-true kind 1 ek, λ _. eqb-true number 0 en)
    by true false ek en h = absurd (true≢false (sym h))
    by false true ek en h = absurd (true≢false (sym h))
    by false false ek en h = (λ is. absurd (true≢false (sym (eq-eqb number 0 is) ∙ en)), λ is. absurd (true≢false (sym (eq-eqb kind 1 is) ∙ ek)))

head_from : (kind number : ℕ) → (number ≡ 0) ↔ (kind ≡ 1) → fits_kind kind number ≡ true
head_from kind number h = by (eqb kind 1) (eqb number 0) refl refl
  where
    by : (k n : Bool) → eqb kind 1 ≡ k → eqb number 0 ≡ n → cond k n (not n) ≡ true
    by true true ek en = refl
    by true false ek en = absurd (true≢false (sym (eq-eqb number 0 (h.1 (eqb-true kind 1 ek))) ∙ en))
    by false true ek en = absurd (true≢false (sym (eq-eqb kind 1 (h.0 (eqb-true number 0 en))) ∙ ek))
    by false false ek en = refl

kind_small : (r : Rec) → kind r < 256
kind_small r = let few = kind_few r in omega (arith, few)

passed : {A : Type 0} (b : Bool) (x y : A) → cond b (Some x) None ≡ Some y → (b ≡ true) × (x ≡ y)
passed true x y e = (refl, cc)
passed false x y e = absurd cc

abbrev pub row_of : Front → Rec → Row
row_of front r = record { node = front.node; version = front.version; rec = r }

abbrev joined : Front × List ℕ → Option (Row × List ℕ)
joined front = body_at front.0.kind front.1 >>= λ change. cond (eqb (length front.1) (front.0.len + length change.1)) (found (row_of front.0 change.0) change.1) None

pub row_takes : (mark : Mark) (bytes : List ℕ) (row : Row) (rest : List ℕ) → IsBytes bytes → row_at mark bytes ≡ Some (row, rest) → BeginsWithRow mark bytes row rest
unfolding row_at row_bytes
row_takes mark bytes row rest fits e =
    let a = bind_some (front_at mark bytes) joined (row, rest) e in
    let b = bind_some (body_at a.0.0.kind a.0.1) (λ change. cond (eqb (length a.0.1) (a.0.0.len + length change.1)) (found (row_of a.0.0 change.0) change.1) None) (row, rest) a.2 in
    let g = passed (eqb (length a.0.1) (a.0.0.len + length b.0.1)) (row_of a.0.0 b.0.0, b.0.1) (row, rest) b.2 in
    let f = front_takes mark bytes a.0.0 a.0.1 fits a.1 in
    let c = body_takes a.0.0.kind a.0.1 b.0.0 b.0.1 f.0.rest_fits b.1 in
    let len : a.0.0.len ≡ length (body b.0.0) = omega (arith, eqb-true _ _ g.0, ap length c.takes.parts, length-append (body b.0.0) b.0.1) in
    let both = (Takes-then bytes (front_text a.0.0) a.0.1 (body b.0.0) b.0.1 f.0 c.takes).parts in
    let spelled : bytes ≡ row_bytes (row_of a.0.0 b.0.0) ++ b.0.1 =
    both ∙ ap (λ (k : ℕ). ((k ∷ to_be_bytes w16 a.0.0.node.bucket ++ to_be_bytes w32 a.0.0.node.number ++ to_be_bytes w64 a.0.0.version ++ to_be_bytes w32 a.0.0.len) ++ body b.0.0) ++ b.0.1) (sym c.of_kind)
    ∙ ap (λ (n : ℕ). ((kind b.0.0 ∷ to_be_bytes w16 a.0.0.node.bucket ++ to_be_bytes w32 a.0.0.node.number ++ to_be_bytes w64 a.0.0.version ++ to_be_bytes w32 n) ++ body b.0.0) ++ b.0.1) len in
    subst (λ (y : Row × List ℕ). BeginsWithRow mark bytes y.0 y.1) g.1 (record {
      fits = record {
        of_format = subst (λ (k : ℕ). k ≤ last_kind mark) (sym c.of_kind) f.1.kind;
        bucket = omega (arith, f.1.bucket);
        number = omega (arith, f.1.number);
        head = subst (λ (k : ℕ). (a.0.0.node.number ≡ 0) ↔ (k ≡ 1)) (sym c.of_kind) (head_is a.0.0.kind a.0.0.node.number f.1.fits);
        version_low = f.1.version_low;
        version_high = f.1.version_high;
        rec = c.fits;
      };
      spelled = spelled;
    })

pub row_again : (mark : Mark) (row : Row) (rest : List ℕ) → FitsRow mark row → row_at mark (row_bytes row ++ rest) ≡ Some (row, rest)
unfolding row_at row_bytes
row_again mark row rest fits =
    let front : Front = record { kind = kind row.rec; node = row.node; version = row.version; len = length (body row.rec) } in
    let front_fits : FrontFits mark front = record {
      kind = fits.of_format;
      bucket = omega (arith, fits.bucket);
      number = omega (arith, fits.number);
      fits = head_from (kind row.rec) row.node.number fits.head;
      version_low = fits.version_low;
      version_high = fits.version_high;
    } in
    let test : eqb (length (body row.rec ++ rest)) (length (body row.rec) + length rest) ≡ true = eq-eqb _ _ (length-append (body row.rec) rest) in
    ap (λ (t : List ℕ). front_at mark t >>= joined) (append_assoc (front_text front) (body row.rec) rest)
    ∙ ap (λ (r : Option (Front × List ℕ)). r >>= joined) (front_again mark front (body row.rec ++ rest) front_fits (kind_small row.rec) (omega (arith, body_short row.rec fits.rec)))
    ∙ ap (λ (r : Option (Rec × List ℕ)). r >>= λ change. cond (eqb (length (body row.rec ++ rest)) (length (body row.rec) + length change.1)) (found (row_of front change.0) change.1) None) (body_again row.rec rest fits.rec)
    ∙ ap (λ (b : Bool). cond b (found row rest) None) test

-- ---- what reading answers

pub record Reads (mark : Mark) (bytes : List ℕ) (at : ℕ) (result : Result (Row × ℕ) RowFault) : Type 0 where
  pub found : IfOk result (λ x. IsRowAt mark bytes at x.0 x.1)
  pub bad : IfErr result (IsFault mark bytes at)
  pub again : IsReadAgain mark bytes at result

read_there : (mark : Mark) (bytes : List ℕ) (at : ℕ) (row : Row) (rest : List ℕ) → BeginsWithRow mark (drop at bytes) row rest → row_at mark (drop at bytes) ≡ Some (row, rest)
read_there mark bytes at row rest b = ap (row_at mark) b.spelled ∙ row_again mark row rest b.fits

pub reads : (mark : Mark) (bytes : List ℕ) (at : ℕ) (result : Result (Row × ℕ) RowFault) → at ≤ length bytes → IsBytes bytes → Gives (λ row. row) bytes at result (row_at mark (drop at bytes)) → Reads mark bytes at result
reads mark bytes at (Ok x) start fits given =
    let begins = row_takes mark (drop at bytes) x.0 (drop x.1 bytes) (IsBytes-drop at bytes fits) given.1 in
    record {
      found = record {
        begins = begins;
        ends = omega (arith, start, given.0, ap length begins.spelled, length-append (row_bytes x.0) (drop x.1 bytes), row_long x.0, length-drop at bytes, length-drop x.1 bytes);
        within = given.0;
      };
      bad = tt;
      again = λ row rest b.
          let same = some_is (x.0, drop x.1 bytes) (row, rest) (sym given.1 ∙ read_there mark bytes at row rest b) in
          (ap (λ (y : Row × List ℕ). y.0) same, ap (λ (y : Row × List ℕ). y.1) same);
    }
reads mark bytes at (Err (fault.Bad place)) start fits given = record {
  found = tt;
  bad = (given.0, record { none = λ row rest b. none-some (row, rest) (sym given.1 ∙ read_there mark bytes at row rest b) });
  again = λ row rest b. absurd (none-some (row, rest) (sym given.1 ∙ read_there mark bytes at row rest b));
}
reads mark bytes at (Err fault.NoMemory) start fits given = record { found = tt; bad = tt; again = λ row rest b. refl }

-- a front, and a body that ends where it ends or not, are what reading the list gives
pub whole_gives : (mark : Mark) (bytes : List ℕ) (at : ℕ) (front : Front) (start : ℕ) (r : Rec) (behind : ℕ) (result : Result (Row × ℕ) RowFault)
    → (start ≤ length bytes) × (front_at mark (drop at bytes) ≡ Some (front, drop start bytes)) → behind ≤ length bytes → body_at front.kind (drop start bytes) ≡ Some (r, drop behind bytes)
    → result ≡ cond (eqb behind (start + front.len)) (Ok (row_of front r, behind)) (Err (fault.Bad at)) → Gives (λ row. row) bytes at result (row_at mark (drop at bytes))
unfolding row_at
whole_gives mark bytes at front start r behind result read_front within read_body is = by (eqb behind (start + front.len)) refl is
  where
    read : (front_at mark (drop at bytes) >>= joined) ≡ cond (eqb (length (drop start bytes)) (front.len + length (drop behind bytes))) (found (row_of front r) (drop behind bytes)) None
    read = ap (λ (x : Option (Front × List ℕ)). x >>= joined) read_front.1 ∙ ap (λ (x : Option (Rec × List ℕ)). x >>= λ change. cond (eqb (length (drop start bytes)) (front.len + length change.1)) (found (row_of front change.0) change.1) None) read_body

    by : (b : Bool) → eqb behind (start + front.len) ≡ b → result ≡ cond b (Ok (row_of front r, behind)) (Err (fault.Bad at)) → Gives (λ row. row) bytes at result (front_at mark (drop at bytes) >>= joined)
    by true e is =
        let ends : behind ≡ start + front.len = eqb-true behind (start + front.len) e in
        let test : eqb (length (drop start bytes)) (front.len + length (drop behind bytes)) ≡ true = eq-eqb _ _ (omega (arith, within, read_front.0, length-drop start bytes, length-drop behind bytes)) in
        subst (λ (x : Result (Row × ℕ) RowFault). Gives (λ (row : Row). row) bytes at x (front_at mark (drop at bytes) >>= joined)) (sym is) (within, read ∙ ap (λ b. cond b (found (row_of front r) (drop behind bytes)) None) test)
    by false e is =
        let test : eqb (length (drop start bytes)) (front.len + length (drop behind bytes)) ≡ false = not_true _ (λ h.
        let same = eqb-true (length (drop start bytes)) (front.len + length (drop behind bytes)) h in
        true≢false (sym (eq-eqb behind (start + front.len) (omega (arith, same, within, read_front.0, length-drop start bytes, length-drop behind bytes))) ∙ e)) in
        subst (λ (x : Result (Row × ℕ) RowFault). Gives (λ (row : Row). row) bytes at x (front_at mark (drop at bytes) >>= joined)) (sym is) (refl, read ∙ ap (λ b. cond b (found (row_of front r) (drop behind bytes)) None) test)
