-- Parts, of which the newest one is looked at first.
use Rattle.std.proofs.Common.{◌≡◌, ℕ, zero, suc, ◌+◌, ◌<◌, ◌≤◌, Bool, true, false, ◌||◌, List, [], ◌∷◌, ◌++◌, length, Some, Ok, Err, refl, sym, ap, ◌∙◌, subst, arith, append_assoc, append-nil, length-append}
use Rattle.std.specs.Prelude.{Result, Option, Any, IfOk, IfErr, MatchResult, fold, slice_index_or}
use Rattle.std.specs.List.{AllByRecursion, list_any}
use Rattle.std.proofs.lemmas.Bool.{true≢false}
use Rattle.std.proofs.lemmas.List.Elements.{filter-append}
use Rattle.std.proofs.lemmas.List.Sums.{sum_by-append}
use Rattle.log_disk.specs.Disk.{Eye}
use Rattle.fine_model.specs.declared.Header.{Header}
use Rattle.fine_model.specs.declared.NodeId.{NodeId}
use Rattle.fine_model.specs.declared.Part.{Part}
use Rattle.fine_model.specs.declared.Row.{Row}
use Rattle.fine_model.specs.Merge.{is_image}
use Rattle.fine_model.specs.Nodes.{Content, base, step, replay, is_node, rows_of, content}
use Rattle.fine_model.specs.RowBytes.{row_len, rows_len, FitsRow, FitsRec, greatest}
use Rattle.fine_model.specs.Regions.{Image, HasHeader, IsSealed}
use Rattle.fine_model.specs.Chain.{AreRowsOf}
use Rattle.fine_model.specs.Seek.{most_taken}
use Rattle.fine_model.proofs.Trees.NodeLaws.{image_forgets, content-append}
use Rattle.fine_model.proofs.Ordered.Order.{all_map}
use Rattle.fine_model.proofs.Ordered.Zip.{all_left, all_right}
use Rattle.partition_index.specs.Parts.{SameEye, IsSeen}
use Rattle.partition_index.specs.Search.{TellsRows}
use Rattle.partition_index.proofs.Looking.{seen_same}
use Rattle.fine_model.specs.declared.FetchFault.{FetchFault}
use Rattle.fine_model.specs.declared.FetchFault.TheVariants as fault
use Rattle.node_fetch.specs.Fetched.{NoDamage, TellsParts, most_sought}

-- ---- lists with one more behind the last

pub any_front : {A : Type 0} (P : A → Type 0) (front back : List A) → Any P front → Any P (front ++ back)
any_front P front back any = record {
  0 = any.0;
  1 = any.1;
  2 = omega (arith, any.2, length-append front back);
  3 = at_front front back any.0 any.1 any.2 ∙ any.3;
  4 = any.4;
}
  where
    at_front : {A : Type 0} (xs ys : List A) (i : ℕ) (d : A) → i < length xs → slice_index_or (xs ++ ys) i d ≡ slice_index_or xs i d
    at_front [] ys i d here = absurd (omega (arith, here))
    at_front (x ∷ xs) ys zero d here = refl
    at_front (x ∷ xs) ys (suc i) d here = at_front xs ys i d (omega (arith, here))

pub fit_rows : (p : Part) (rows : List Row) → AllByRecursion (FitsRow p.header.mark) rows → AllByRecursion (λ row. FitsRec row.rec) rows
fit_rows p rows fit = all_map (FitsRow p.header.mark) (λ row. FitsRec row.rec) (λ row h. h.rec) rows fit

replay_low : (c : Content) (rows : List Row) → c.1 ≤ greatest → AllByRecursion (λ row. row.version ≤ greatest) rows → (replay c rows).1 ≤ greatest
unfolding replay step
replay_low c [] low all = low
replay_low c (row ∷ rows) low all = replay_low (step c row) rows all.0 all.1

pub version_low : (r : Result Content FetchFault) (c : Content) (rows : List Row) → IfOk r (λ after. after ≡ replay c rows) → c.1 ≤ greatest → AllByRecursion (λ row. row.version ≤ greatest) rows → IfOk r (λ after. after.1 ≤ greatest)
version_low (Ok after) c rows is low all = subst (λ (x : Content). x.1 ≤ greatest) (sym is) (replay_low c rows low all)
version_low (Err e) c rows is low all = tt

-- ---- rows that have an image

pub forgets : (c d : Content) (rows : List Row) → list_any (λ row. is_image row.rec) rows ≡ true → replay c rows ≡ replay d rows
unfolding replay
forgets c d [] h = absurd (true≢false (sym h))
forgets c d (row ∷ rows) h = by (is_image row.rec) refl h (forgets (step c row) (step d row) rows)
  where
    by : (t : Bool) → is_image row.rec ≡ t → (t || list_any (λ r. is_image r.rec) rows) ≡ true → (list_any (λ r. is_image r.rec) rows ≡ true → fold step (step c row) rows ≡ fold step (step d row) rows) → fold step (step c row) rows ≡ fold step (step d row) rows
    by true e h rest = ap (λ x. fold step x rows) (image_forgets c d row e)
    by false e h rest = rest h

-- ---- what an eye tells of parts

pub later_tells : (old new : Eye) (parts : List Part) (rows : List Row) → SameEye old new → TellsParts old parts rows → TellsParts new parts rows
later_tells old new parts rows same t = record {
  image = t.image;
  told = same.told ∙ t.told;
  headers = subst (λ len. AllByRecursion (λ p. HasHeader len t.image p.region p.header) parts) (sym same.region_len) t.headers;
  are_rows = subst (λ len. AreRowsOf len t.image parts rows) (sym same.region_len) t.are_rows;
}

pub later_seen : (old new : Eye) (parts : List Part) → SameEye old new → AllByRecursion (IsSeen old) parts → AllByRecursion (IsSeen new) parts
later_seen old new parts same seen = all_map (IsSeen old) (IsSeen new) (λ p. seen_same old new p same) parts seen

-- the rows of parts, and those of the newest one behind them
record LastRows (len : ℕ) (image : Image) (front : List Part) (p : Part) (rows : List Row) : Type 0 where
  before : List Row
  own : List Row
  whole : rows ≡ before ++ own
  are_before : AreRowsOf len image front before
  sealed : IsSealed len image p.region p.header.range own

last_rows : (len : ℕ) (image : Image) (front : List Part) (p : Part) (rows : List Row) → AreRowsOf len image (front ++ p ∷ []) rows → LastRows len image front p rows
unfolding AreRowsOf
last_rows len image [] p rows are = record { before = []; own = are.0; whole = are.2 ∙ ap (λ xs. are.0 ++ xs) are.4 ∙ append-nil are.0; are_before = refl; sealed = are.3 }
last_rows len image (q ∷ front) p rows are =
    let l = last_rows len image front p are.1 are.4 in
    record {
      before = are.0 ++ l.before;
      own = l.own;
      whole = are.2 ∙ ap (λ xs. are.0 ++ xs) l.whole ∙ sym (append_assoc are.0 l.before l.own);
      are_before = (are.0, l.before, refl, are.3, l.are_before);
      sealed = l.sealed;
    }

pub record TellsLast (eye : Eye) (front : List Part) (p : Part) (rows : List Row) : Type 0 where
  pub before : List Row
  pub own : List Row
  pub whole : rows ≡ before ++ own
  pub tells_before : TellsParts eye front before
  pub tells_own : TellsRows eye p own

pub tells_last : (eye : Eye) (parts front : List Part) (p : Part) (rows : List Row) → parts ≡ front ++ p ∷ [] → TellsParts eye parts rows → TellsLast eye front p rows
tells_last eye parts front p rows is t =
    let headers : AllByRecursion (λ q. HasHeader eye.region_len t.image q.region q.header) (front ++ p ∷ []) = subst (AllByRecursion (λ q. HasHeader eye.region_len t.image q.region q.header)) is t.headers in
    let l = last_rows eye.region_len t.image front p rows (subst (λ ps. AreRowsOf eye.region_len t.image ps rows) is t.are_rows) in
    let here = (all_right (λ q. HasHeader eye.region_len t.image q.region q.header) front (p ∷ []) headers).0 in
    let both : ◌≡◌ {A = Result (Option Header) ℕ} (Ok (Some l.sealed.header)) (Ok (Some p.header)) = sym l.sealed.has_header ∙ here in
    record {
      before = l.before;
      own = l.own;
      whole = l.whole;
      tells_before = record { image = t.image; told = t.told; headers = all_left (λ q. HasHeader eye.region_len t.image q.region q.header) front (p ∷ []) headers; are_rows = l.are_before };
      tells_own = record { image = t.image; told = t.told; sealed = l.sealed; of_part = cc };
    }

pub tells_none : (eye : Eye) (rows : List Row) → TellsParts eye [] rows → rows ≡ []
unfolding AreRowsOf
tells_none eye rows t = t.are_rows

-- ---- content and bytes, the newest part last

pub content_none : (id : NodeId) → content [] id ≡ base id
unfolding content replay
content_none id = refl

pub content_last : (rows before own : List Row) (id : NodeId) → rows ≡ before ++ own → content rows id ≡ replay (content before id) (rows_of id own)
content_last rows before own id is = ap (λ rs. content rs id) is ∙ content-append before own id

pub len_last : (rows before own : List Row) (id : NodeId) → rows ≡ before ++ own → rows_len (rows_of id rows) ≡ rows_len (rows_of id before) + rows_len (rows_of id own)
len_last rows before own id is = ap (λ rs. rows_len (rows_of id rs)) is ∙ ap rows_len (filter-append (λ r. is_node id r.node) before own) ∙ sum_by-append row_len (rows_of id before) (rows_of id own)

pub sought_last : (parts front : List Part) (p : Part) → parts ≡ front ++ p ∷ [] → most_sought parts ≡ most_sought front + most_taken p.header.nodes
sought_last parts front p is = ap most_sought is ∙ sum_by-append (λ q. most_taken q.header.nodes) front (p ∷ []) ∙ (let e : 0 + most_taken p.header.nodes ≡ most_taken p.header.nodes = omega arith in ap (λ n. most_sought front + n) e)

-- the node from the newest part alone, where its rows there have an image
pub content_by_image : (rows before own found : List Row) (id : NodeId) → rows ≡ before ++ own → found ≡ rows_of id own → list_any (λ row. is_image row.rec) found ≡ true → replay (base id) found ≡ content rows id
content_by_image rows before own found id is same image =
    forgets (base id) (content before id) found image ∙ ap (replay (content before id)) same ∙ sym (content_last rows before own id is)

pub content_on : (rows before own found : List Row) (id : NodeId) (c : Content) → rows ≡ before ++ own → found ≡ rows_of id own → c ≡ content before id → replay c found ≡ content rows id
content_on rows before own found id c is same e = ap (λ x. replay x found) e ∙ ap (replay (content before id)) same ∙ sym (content_last rows before own id is)

-- what the rows of the newest part may take
pub taken_newest : (eye : Eye) (mid : ℕ) (parts front : List Part) (p : Part) (rows : List Row) (id : NodeId) → parts ≡ front ++ p ∷ [] → TellsParts eye parts rows
    → ((own : List Row) → TellsRows eye p own → mid ≤ eye.taken + (most_taken p.header.nodes + rows_len (rows_of id own))) → mid ≤ eye.taken + (most_sought parts + rows_len (rows_of id rows))
taken_newest eye mid parts front p rows id is tells newest =
    let l = tells_last eye parts front p rows is tells in
    let a = newest l.own l.tells_own in
    omega (arith, a, sought_last parts front p is, len_last rows l.before l.own id l.whole)

-- and those of the parts before it, which are read after it
pub taken_all : (eye mid : Eye) (new : ℕ) (parts front : List Part) (p : Part) (rows : List Row) (id : NodeId) → parts ≡ front ++ p ∷ [] → SameEye eye mid → TellsParts eye parts rows
    → ((own : List Row) → TellsRows eye p own → mid.taken ≤ eye.taken + (most_taken p.header.nodes + rows_len (rows_of id own)))
    → ((before : List Row) → TellsParts mid front before → new ≤ mid.taken + (most_sought front + rows_len (rows_of id before))) → new ≤ eye.taken + (most_sought parts + rows_len (rows_of id rows))
taken_all eye mid new parts front p rows id is same tells newest others =
    let l = tells_last eye parts front p rows is tells in
    let a = newest l.own l.tells_own in
    let b = others l.before (later_tells eye mid front l.before same l.tells_before) in
    omega (arith, a, b, sought_last parts front p is, len_last rows l.before l.own id l.whole)

-- ---- answers

abbrev pub Answer : Type 0
Answer = Result Content FetchFault

pub after_exact : (r : Answer) (x y : Content) → IfOk r (λ a. a ≡ x) → IfErr r (λ e. e ≡ fault.NoMemory) → x ≡ y → MatchResult r (λ a. a ≡ y) NoDamage
after_exact (Ok a) x y ok err e = ok ∙ e
after_exact (Err f) x y ok err e = subst NoDamage (sym err) tt

pub err_exact : (r : Answer) (f : FetchFault) (y : Content) → r ≡ Err f → NoDamage f → MatchResult r (λ a. a ≡ y) NoDamage
err_exact r f y is h = subst (λ x. MatchResult x (λ a. a ≡ y) NoDamage) (sym is) h

pub fault_is : (r : Answer) (f g : FetchFault) → r ≡ Err f → r ≡ Err g → f ≡ g
fault_is r f g a b = let e : ◌≡◌ {A = Answer} (Err f) (Err g) = sym a ∙ b in cc
