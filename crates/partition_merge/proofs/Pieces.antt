-- Rows of one node that stay in the windows of two parts: what is told of them, and what they are merged into.
use Rattle.std.proofs.Common.{◌≡◌, ℕ, ◌+◌, ◌-◌, ◌≤◌, min, nat_le, nat_lt, Bool, true, false, cond, not, ◌==◌, ◌&&◌, ◌||◌, List, [], ◌∷◌, ◌++◌, length, drop, Option, Some, None, refl, sym, ap, ◌∙◌, subst, arith, eqb-true, append-nil, append_assoc, length-append, length-drop, length-take, true≢false}
use Rattle.std.specs.List.{AllByRecursion}
use Rattle.std.proofs.lemmas.Bool.{lt-leb, and_parts}
use Rattle.std.proofs.lemmas.List.{nil_from_length}
use Rattle.std.proofs.lemmas.List.Sums.{sum_by-append}
use Rattle.fine_model.specs.declared.NodeId.{NodeId}
use Rattle.fine_model.specs.declared.Node.TheVariants as node
use Rattle.fine_model.specs.declared.Part.{Part}
use Rattle.fine_model.specs.declared.Rec.{Rec}
use Rattle.fine_model.specs.declared.Rec.TheVariants as rec
use Rattle.fine_model.specs.declared.Row.{Row}
use Rattle.fine_model.specs.Map.{set}
use Rattle.fine_model.specs.Merge.{is_ordered, is_row_below, starts_afresh}
use Rattle.fine_model.specs.Nodes.{Content, base, changed, replay, step, step_node}
use Rattle.fine_model.specs.RowBytes.{FitsRow, body, kind, pair_bytes, row_bytes, row_len, rows_bytes, rows_len}
use Rattle.fine_model.proofs.Chain.Grammar.{rows_bytes-append}
use Rattle.fine_model.proofs.Ordered.Sets.{all_append}
use Rattle.node_fetch.specs.Spans.{AreFramesOf, ReadsAll, last_row}
use Rattle.node_fetch.specs.declared.frames.Frames.{Frames}
use Rattle.node_fetch.proofs.Reading.{below_version}
use Rattle.node_record.proofs.RowLaws.{body_short}
use Rattle.partition_merge.specs.declared.leaf.NodeImage.{NodeImage}
use Rattle.partition_merge.specs.declared.merger.Merger.{Merger}
use Rattle.partition_merge.specs.declared.piece.Found.{Found}
use Rattle.partition_merge.specs.declared.piece.Merged.TheVariants as merged
use Rattle.partition_merge.specs.declared.piece.Piece.{Piece}
use Rattle.partition_merge.specs.Leaves.{AreRows, IsImageOf}
use Rattle.partition_merge.specs.Merging.{merged_of}
use Rattle.partition_merge.specs.Pieces.{CanSpell, Holds, HoldsIn, IsMergedFrom, IsPieceOf, IsTallyOf, StandsIn, TellsAll, TellsOf, begins_with_put, both_ascend, both_len, bytes_at, may_fold, may_fold_from, merged_bytes, piece_len, piece_rows, span_bytes, span_of, tally_of}
use Rattle.partition_merge.specs.Windows.{WindowValue}
use Rattle.partition_merge.proofs.Joining.{merged_own}
use Rattle.partition_merge.proofs.Leaves.{by_kind}
use Rattle.partition_merge.proofs.Folding.{stay_broken, stay_image, stay_short, stay_stale}

-- ---- a single pair that is put

-- a change that puts a pair
abbrev pub puts : Rec → Bool
puts change = kind change == 4

begins_puts : (row : Row) (rest : List ℕ) → begins_with_put (row_bytes row ++ rest) ≡ puts row.rec
unfolding row_bytes
begins_puts row rest = refl

-- one pair that is put stays: its image is longer by the number of its pairs
module _ (id : NodeId) (row : Row) (key value : List ℕ) (is : row.rec ≡ rec.Put key value) where
  after : (old : Content) → base id ≡ old → replay (base id) (row ∷ []) ≡ (step_node old row.version (rec.Put key value), row.version)
  unfolding replay step
  after old e i = (step_node (e i) row.version (is i), row.version)

  longer : nat_le (row_len (record { node = id; version = row.version; rec = rec.LeafImage ((key, value) ∷ []) })) (rows_len (row ∷ [])) ≡ false
  unfolding body
  longer =
      let pair : List ℕ = pair_bytes (key, value) in
      let own : rows_len (row ∷ []) ≡ rows_len (record { node = row.node; version = row.version; rec = rec.Put key value } ∷ []) = λ i. rows_len (record { node = row.node; version = row.version; rec = is i } ∷ []) in
      let there : rows_len (record { node = row.node; version = row.version; rec = rec.Put key value } ∷ []) ≡ 19 + length pair = omega arith in
      let image : row_len (record { node = id; version = row.version; rec = rec.LeafImage ((key, value) ∷ []) }) ≡ 19 + (1 + length pair) = omega (arith, ap length (append-nil pair)) in
      lt-leb _ _ (omega (arith, own, there, image))

  on_leaf : (next : Bool) → (row.version == 1) ≡ next → base id ≡ (node.Leaf [], 0) → merged_of id (row ∷ []) ≡ row ∷ []
  unfolding changed set
  on_leaf true e leaf =
      stay_short id (row ∷ []) (node.Leaf ((key, value) ∷ []), row.version) (rec.LeafImage ((key, value) ∷ []))
      (sym (after (node.Leaf [], 0) leaf ∙ ap (λ t. (cond t (node.Leaf ((key, value) ∷ [])) node.Broken, row.version)) e)) refl longer
  on_leaf false e leaf =
      stay_broken id (row ∷ []) (node.Broken, row.version)
      (sym (after (node.Leaf [], 0) leaf ∙ ap (λ t. (cond t (node.Leaf ((key, value) ∷ [])) node.Broken, row.version)) e)) refl

  on_head : (next : Bool) → (row.version == 1) ≡ next → base id ≡ (node.Head 1 2 1, 0) → merged_of id (row ∷ []) ≡ row ∷ []
  unfolding changed
  on_head true e head = stay_broken id (row ∷ []) (node.Broken, row.version) (sym (after (node.Head 1 2 1, 0) head ∙ ap (λ t. (cond t node.Broken node.Broken, row.version)) e)) refl
  on_head false e head = stay_broken id (row ∷ []) (node.Broken, row.version) (sym (after (node.Head 1 2 1, 0) head ∙ ap (λ t. (cond t node.Broken node.Broken, row.version)) e)) refl

  from_base : (zero_is : Bool) → (id.number == 0) ≡ zero_is → merged_of id (row ∷ []) ≡ row ∷ []
  from_base true e = on_head (row.version == 1) refl (ap (λ t. cond t (node.Head 1 2 1, 0) (node.Leaf [], 0)) e)
  from_base false e = on_leaf (row.version == 1) refl (ap (λ t. cond t (node.Head 1 2 1, 0) (node.Leaf [], 0)) e)

put_stays : (id : NodeId) (row : Row) → puts row.rec ≡ true → merged_of id (row ∷ []) ≡ row ∷ []
put_stays id row put = let is = (by_kind row.rec).put (eqb-true (kind row.rec) 4 put) in from_base id row is.0.0 is.0.1 is.1 (id.number == 0) refl

-- ---- what a piece tells

-- it is what the frames of the rows tell
pub told_by_frames : (rows : List Row) (frames : Frames) (piece : Piece) → piece.first ≡ frames.first → piece.last ≡ frames.last → piece.is_image ≡ frames.is_image → piece.ascend ≡ frames.ascend → AreFramesOf rows (Some frames) → TellsAll rows piece
told_by_frames [] frames piece first last image ascend are = absurd are
told_by_frames (row ∷ rows) frames piece first last image ascend are =
    record { first = first ∙ are.first; last = last ∙ are.last; image = image ∙ are.image; ascend = ascend ∙ are.ascend }

-- ---- the bytes of a piece

-- where bytes are read to their end, they are those of the rows
all_spelled : (part : Part) (bytes : List ℕ) (id : NodeId) (count : ℕ) (rows : List Row) → ReadsAll part.header.mark bytes id count rows → bytes ≡ rows_bytes rows
all_spelled part bytes id count rows r =
    let none : drop (length bytes) bytes ≡ [] = nil_from_length (drop (length bytes) bytes) (omega (arith, length-drop (length bytes) bytes)) in
    r.so_far.spelled ∙ ap (λ xs. rows_bytes rows ++ xs) none ∙ append-nil (rows_bytes rows)

pub piece_spelled : (part : Part) (window : WindowValue) (id : NodeId) (piece : Option Piece) (rows : List Row) → Holds part window id piece rows → span_bytes window (span_of piece) ≡ rows_bytes rows
unfolding rows_bytes
piece_spelled part window id None rows h = sym (ap rows_bytes h)
piece_spelled part window id (Some piece) rows h = all_spelled part (bytes_at window piece.span) id piece.span.rows rows h.reads

pub piece_stands : (part : Part) (window : WindowValue) (id : NodeId) (piece : Option Piece) (rows : List Row) → Holds part window id piece rows → StandsIn window (span_of piece)
piece_stands part window id None rows h = tt
piece_stands part window id (Some piece) rows h = h.lies

pub both_spelled : (p q : Part) (v w : WindowValue) (id : NodeId) (older newer : Option Piece) (a b : List Row) → Holds p v id older a → Holds q w id newer b → span_bytes v (span_of older) ++ span_bytes w (span_of newer) ≡ rows_bytes (a ++ b)
both_spelled p q v w id older newer a b h k = (λ i. piece_spelled p v id older a h i ++ piece_spelled q w id newer b k i) ∙ sym (rows_bytes-append a b)

-- ---- which rows stay

-- the first of some rows, by a piece
module _ (part : Part) (window : WindowValue) (id : NodeId) (piece : Piece) (row : Row) (rows more : List Row) (h : IsPieceOf part window id piece (row ∷ rows)) where
  first : TellsOf row rows piece
  first = h.tells

  is_put : piece.is_put ≡ puts row.rec
  unfolding rows_bytes
  is_put = h.put ∙ ap begins_with_put (h.reads.so_far.spelled ∙ append_assoc (row_bytes row) (rows_bytes rows) (drop (length (bytes_at window piece.span)) (bytes_at window piece.span))) ∙ begins_puts row (rows_bytes rows ++ drop (length (bytes_at window piece.span)) (bytes_at window piece.span))

  afresh : starts_afresh (row ∷ (rows ++ more)) ≡ (piece.is_image || (piece.first == 1))
  afresh i = sym first.image i || (sym first.first i == 1)

  one_stays : length rows + length more ≡ 0 → (piece.is_image || piece.is_put) ≡ true → merged_of id (row ∷ (rows ++ more)) ≡ row ∷ (rows ++ more)
  one_stays alone stays = subst (λ xs. merged_of id (row ∷ xs) ≡ row ∷ xs) (sym none) (by piece.is_image refl stays)
    where
      none : rows ++ more ≡ []
      none = nil_from_length (rows ++ more) (omega (arith, alone, length-append rows more))

      by : (image : Bool) → piece.is_image ≡ image → (image || piece.is_put) ≡ true → merged_of id (row ∷ []) ≡ row ∷ []
      by true e stays = stay_image id row h.reads.so_far.of_node.0 (sym first.image ∙ e)
      by false e stays = put_stays id row (sym is_put ∙ stays)

  -- rows stay where the test says so
  first_stays : (count : ℕ) → (count ≡ 1 → length rows + length more ≡ 0) → may_fold_from count piece ≡ false → merged_of id (row ∷ (rows ++ more)) ≡ row ∷ (rows ++ more)
  first_stays count is test = by (piece.is_image || (piece.first == 1)) refl test
    where
      other : (b : Bool) → not b ≡ false → b ≡ true
      other true e = refl
      other false e = absurd (true≢false e)

      parts : (n : Bool) → (count == 1) ≡ n → (n && (piece.is_image || piece.is_put)) ≡ true → (count ≡ 1) × ((piece.is_image || piece.is_put) ≡ true)
      parts true e both = (eqb-true count 1 e, both)
      parts false e both = absurd (true≢false (sym both))

      by : (t : Bool) → (piece.is_image || (piece.first == 1)) ≡ t → (t && not ((count == 1) && (piece.is_image || piece.is_put))) ≡ false → merged_of id (row ∷ (rows ++ more)) ≡ row ∷ (rows ++ more)
      by true e test = let both = parts (count == 1) refl (other ((count == 1) && (piece.is_image || piece.is_put)) test) in one_stays (is both.0) both.1
      by false e test = stay_stale id (row ∷ (rows ++ more)) (afresh ∙ e)

-- how many rows a piece counts
pub rows_counted : (part : Part) (window : WindowValue) (id : NodeId) (piece : Option Piece) (rows : List Row) → Holds part window id piece rows → piece_rows piece ≡ length rows
rows_counted part window id None rows h = sym (ap length h)
rows_counted part window id (Some piece) rows h = sym h.reads.counted

pub both_stay : (p q : Part) (v w : WindowValue) (id : NodeId) (older newer : Option Piece) (a b : List Row) → Holds p v id older a → Holds q w id newer b → may_fold older newer ≡ false → merged_of id (a ++ b) ≡ a ++ b
both_stay p q v w id None None a b h k test = subst (λ xs. merged_of id xs ≡ xs) (sym ((λ i. h i ++ k i))) (stay_stale id [] refl)
both_stay p q v w id (Some older) newer [] b h k test = absurd (h.tells)
both_stay p q v w id (Some older) newer (row ∷ a) b h k test =
    first_stays p v id older row a b h _ (λ one. omega (arith, one, h.reads.counted, rows_counted q w id newer b k)) test
both_stay p q v w id None (Some newer) a [] h k test = absurd (k.tells)
both_stay p q v w id None (Some newer) a (row ∷ b) h k test =
    subst (λ xs. merged_of id xs ≡ xs) (ap (λ xs. row ∷ xs) (append-nil b) ∙ sym (ap (λ xs. xs ++ (row ∷ b)) h)) (first_stays q w id newer row b [] k newer.span.rows (λ one. omega (arith, one, k.reads.counted)) test)

-- ---- what is told of rows

-- rows of a node, and rows of it behind them, are in order
ordered_over : (id : NodeId) (x : Row) (xs : List Row) (y : Row) (ys : List Row) → x.node ≡ id → AllByRecursion (λ r. r.node ≡ id) xs → y.node ≡ id
    → is_ordered (x ∷ (xs ++ y ∷ ys)) ≡ ((is_ordered (x ∷ xs) && is_ordered (y ∷ ys)) && nat_lt (last_row x xs).version y.version)
ordered_over id x [] y ys own all same = ap (λ t. t && is_ordered (y ∷ ys)) (below_version x y (own ∙ sym same)) ∙ swap (nat_lt x.version y.version) (is_ordered (y ∷ ys))
  where
    swap : (a b : Bool) → (a && b) ≡ (b && a)
    swap true true = refl
    swap true false = refl
    swap false true = refl
    swap false false = refl
ordered_over id x (z ∷ xs) y ys own all same =
    ap (λ t. is_row_below x z && t) (ordered_over id z xs y ys all.0 all.1 same)
    ∙ group (is_row_below x z) (is_ordered (z ∷ xs)) (is_ordered (y ∷ ys)) (nat_lt (last_row z xs).version y.version)
  where
    group : (a b c d : Bool) → (a && ((b && c) && d)) ≡ (((a && b) && c) && d)
    group true b c d = refl
    group false b c d = refl

all_own : (part : Part) (window : WindowValue) (id : NodeId) (piece : Option Piece) (rows : List Row) → Holds part window id piece rows → AllByRecursion (λ r. r.node ≡ id) rows
all_own part window id None rows h = subst (AllByRecursion (λ r. r.node ≡ id)) (sym h) tt
all_own part window id (Some piece) rows h = h.reads.so_far.of_node

long_as : (part : Part) (window : WindowValue) (id : NodeId) (piece : Option Piece) (rows : List Row) → Holds part window id piece rows → piece_len piece ≡ rows_len rows
long_as part window id None rows h = sym (ap rows_len h)
long_as part window id (Some piece) rows h =
    let l = h.lies in
    let begins = l.begins in
    let order = l.order in
    let ends = l.ends in
    let count = piece.span.end - piece.span.at in
    let rest = drop (piece.span.at - window.from) window.bytes in
    let long : length (bytes_at window piece.span) ≡ count = omega (arith, length-take count rest, length-drop (piece.span.at - window.from) window.bytes, begins, order, ends) in
    sym long ∙ h.reads.so_far.place

-- how many bytes both have
pub both_long : (p q : Part) (v w : WindowValue) (id : NodeId) (older newer : Option Piece) (a b : List Row) → Holds p v id older a → Holds q w id newer b → both_len older newer ≡ min (rows_len (a ++ b)) 4294967295
both_long p q v w id older newer a b h k = omega (arith, long_as p v id older a h, long_as q w id newer b k, sum_by-append row_len a b)

ascend_as : (p q : Part) (v w : WindowValue) (id : NodeId) (older newer : Option Piece) (a b : List Row) → Holds p v id older a → Holds q w id newer b → both_ascend older newer ≡ is_ordered (a ++ b)
ascend_as p q v w id None None a b h k = sym (λ i. is_ordered (h i ++ k i))
ascend_as p q v w id None (Some newer) a [] h k = absurd (k.tells)
ascend_as p q v w id None (Some newer) a (y ∷ b) h k = k.tells.ascend ∙ sym (ap (λ xs. is_ordered (xs ++ y ∷ b)) h)
ascend_as p q v w id (Some older) newer [] b h k = absurd (h.tells)
ascend_as p q v w id (Some older) None (x ∷ a) b h k = h.tells.ascend ∙ ap is_ordered (sym (append-nil (x ∷ a))) ∙ sym (ap (λ ys. is_ordered (x ∷ a ++ ys)) k)
ascend_as p q v w id (Some older) (Some newer) (x ∷ a) [] h k = absurd (k.tells)
ascend_as p q v w id (Some older) (Some newer) (x ∷ a) (y ∷ b) h k =
    (λ i. (h.tells.ascend i && k.tells.ascend i) && nat_lt (h.tells.last i) (k.tells.first i))
    ∙ sym (ordered_over id x a y b h.reads.so_far.of_node.0 h.reads.so_far.of_node.1 k.reads.so_far.of_node.0)

pub both_tallied : (p q : Part) (v w : WindowValue) (id : NodeId) (older newer : Option Piece) (a b : List Row) → Holds p v id older a → Holds q w id newer b → 1 ≤ length (a ++ b) → IsTallyOf (a ++ b) (tally_of id older newer)
both_tallied p q v w id older newer a b h k some = record {
  own = all_append (λ r. r.node ≡ id) a b (all_own p v id older a h) (all_own q w id newer b k);
  some = some;
  rows_are = omega (arith, rows_counted p v id older a h, rows_counted q w id newer b k, length-append a b);
  area = both_long p q v w id older newer a b h k;
  ordered = ascend_as p q v w id older newer a b h k;
}

-- ---- what rows are merged into

-- where no image stands for rows, they stay in both windows
pub both_found : (spells : Bool) (m : Merger) (id : NodeId) (older newer : Option Piece) (a b : List Row) (found : Found) → HoldsIn m.older id older a → HoldsIn m.newer id newer b → 1 ≤ length (a ++ b) → merged_of id (a ++ b) ≡ a ++ b
    → found.tally ≡ tally_of id older newer → found.merged ≡ merged.Both (span_of older) (span_of newer) → IsMergedFrom spells m id (a ++ b) found
both_found spells m id older newer a b found h k some stays tally is =
    let p = m.older.part in
    let q = m.newer.part in
    let v = m.older.ahead.rows in
    let w = m.newer.ahead.rows in
    record {
      tally = subst (λ xs. IsTallyOf xs found.tally) (sym stays) (subst (IsTallyOf (a ++ b)) (sym tally) (both_tallied p q v w id older newer a b h k some));
      can_spell = subst (CanSpell m) (sym is) (piece_stands p v id older a h, piece_stands q w id newer b k);
      spelled = λ asked. ap (merged_bytes m) is ∙ both_spelled p q v w id older newer a b h k ∙ ap rows_bytes (sym stays);
    }

-- an image that stands for rows is spelled by itself
pub image_found : (spells : Bool) (m : Merger) (id : NodeId) (older newer : Option Piece) (a b : List Row) (image : NodeImage) (found : Found) → HoldsIn m.older id older a → HoldsIn m.newer id newer b
    → IsImageOf spells id (a ++ b) image.bytes.items image.len → found.tally.node ≡ id → found.tally.rows ≡ 1 → found.tally.area ≡ image.len → found.tally.ordered ≡ true → found.merged ≡ merged.Image image.bytes → IsMergedFrom spells m id (a ++ b) found
unfolding rows_bytes
image_found spells m id older newer a b image found h k of node rows area ordered is =
    let own : AllByRecursion (λ r. r.node ≡ id) (of.row ∷ []) = subst (AllByRecursion (λ r. r.node ≡ id)) of.joined
    (merged_own id (a ++ b) (all_append (λ r. r.node ≡ id) a b (all_own m.older.part m.older.ahead.rows id older a h) (all_own m.newer.part m.newer.ahead.rows id newer b k))) in
    record {
      tally = subst (λ xs. IsTallyOf xs found.tally) (sym of.joined) (record {
        own = (own.0 ∙ sym node, tt);
        some = omega arith;
        rows_are = rows;
        area = (let one : rows_len (of.row ∷ []) ≡ row_len of.row = omega arith in let long = of.long in let short = body_short of.row.rec of.fits in omega (arith, area, one, long, short));
        ordered = ordered;
      });
      can_spell = subst (CanSpell m) (sym is) tt;
      spelled = λ asked. ap (merged_bytes m) is ∙ of.spelled asked ∙ sym (append-nil (row_bytes of.row)) ∙ ap rows_bytes (sym of.joined);
    }

-- ---- what is folded as it is spelled

-- the bytes of a piece are its rows
pub piece_are_rows : (part : Part) (window : WindowValue) (id : NodeId) (piece : Option Piece) (rows : List Row) → Holds part window id piece rows → AreRows part.header.mark (span_bytes window (span_of piece)) rows
piece_are_rows part window id piece rows h = record { fit = fits piece h; spelled = piece_spelled part window id piece rows h }
  where
    fits : (piece : Option Piece) → Holds part window id piece rows → AllByRecursion (FitsRow part.header.mark) rows
    fits None h = subst (AllByRecursion (FitsRow part.header.mark)) (sym h) tt
    fits (Some piece) h = h.reads.so_far.fit

-- rows for which an image may stand need nothing before them
pub folds_afresh : (p q : Part) (v w : WindowValue) (id : NodeId) (older newer : Option Piece) (a b : List Row) → Holds p v id older a → Holds q w id newer b → may_fold older newer ≡ true → starts_afresh (a ++ b) ≡ true
folds_afresh p q v w id None None a b h k test = absurd (true≢false (sym test))
folds_afresh p q v w id (Some older) newer [] b h k test = absurd h.tells
folds_afresh p q v w id (Some older) newer (row ∷ a) b h k test = afresh p v id older row a b h ∙ (and_parts _ _ test).0
folds_afresh p q v w id None (Some newer) a [] h k test = absurd k.tells
folds_afresh p q v w id None (Some newer) a (row ∷ b) h k test = ap (λ xs. starts_afresh (xs ++ row ∷ b)) h ∙ ap (λ xs. starts_afresh (row ∷ xs)) (sym (append-nil b)) ∙ afresh q w id newer row b [] k ∙ (and_parts _ _ test).0
