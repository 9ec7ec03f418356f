-- Pairs that are put into the image of a leaf as they are spelled.
use Rattle.std.proofs.Common.{◌≡◌, ℕ, suc, ◌+◌, ◌<◌, ◌≤◌, ◌==◌, Bool, true, false, cond, List, [], ◌∷◌, ◌++◌, map, length, take, drop, get_or, Ok, Err, slice_set, min, refl, sym, ap, ◌∙◌, subst, arith, append_assoc, append-nil, take-append-drop, length-append, take_at, drop_at, eq-eqb, eqb-true, le-leb, length-set}
use Rattle.std.specs.Prelude.{IfOk, Result, filter, flat_map}
use Rattle.std.specs.Int.{from_be_bytes, w16, w32, w64}
use Rattle.std.specs.List.{AllByRecursion, insert, remove}
use Rattle.std.proofs.lemmas.List.{set_split, length-map, nil_from_length, take_all}
use Rattle.std.proofs.lemmas.List.Folds.{flat_map-map}
use Rattle.std.proofs.lemmas.Nat.{from_be_bytes-to_be_bytes_2, from_be_bytes-to_be_bytes_4, from_be_bytes-to_be_bytes_8}
use Rattle.fine_model.specs.declared.Mark.{Mark}
use Rattle.fine_model.specs.declared.Node.TheVariants as node
use Rattle.fine_model.specs.declared.NodeId.{NodeId}
use Rattle.fine_model.specs.declared.Rec.{Rec}
use Rattle.fine_model.specs.declared.Rec.TheVariants as rec
use Rattle.fine_model.specs.declared.Row.{Row}
use Rattle.fine_model.specs.Map.{Pair, is_ascending, is_below, pairs_above, pairs_below, set, unset}
use Rattle.fine_model.specs.Merge.{starts_afresh}
use Rattle.fine_model.specs.Nodes.{Content, base, changed, replay, step, step_node}
use Rattle.fine_model.specs.RowBytes.{FitsPair, FitsRec, FitsRow, body, key_bytes, kind, pair_bytes, row_bytes, row_len, rows_bytes, rows_len, value_bytes}
use Rattle.fine_model.proofs.Trees.GrowLeaf.{fits_leaf}
use Rattle.fine_model.proofs.Ordered.InOrder.{AreUp-filter, AreUp-from_ascending, AreUp-join, ascending_from_up, set_all, set_up}
use Rattle.fine_model.proofs.Ordered.Sets.{all_append, all_filter, all_pass}
use Rattle.fine_model.proofs.Trees.Small.{apart_pairs, exclusive, length-filter_le}
use Rattle.node_record.specs.Places.{BelongsAt, StandsAt}
use Rattle.node_record.proofs.Changes.{not_true}
use Rattle.node_record.proofs.RowLaws.{body_short}
use Rattle.partition_merge.specs.Leaves.{AreRows, IsChanged, IsImageOf, IsLeft, IsRowBefore, LeadsTo, SpellsLeaf, front, key_of}
use Rattle.partition_merge.proofs.Folding.{fold_row}

-- ---- rows and pairs at the front of bytes

-- the row with which bytes begin
pub row_split : (mark : Mark) (row : Row) (rest bytes head tail text behind : List ℕ) (version len : ℕ) → FitsRow mark row → bytes ≡ row_bytes row ++ rest → head ≡ take 19 bytes → tail ≡ drop 19 bytes
    → version ≡ from_be_bytes w64 (take 8 (drop 7 head)) → len ≡ from_be_bytes w32 (take 4 (drop 15 head)) → text ≡ take len tail → behind ≡ drop len tail → IsRowBefore row rest (get_or head 0 0) version text behind
unfolding row_bytes
row_split mark row rest bytes head tail text behind version len fits is h t v l x b =
    let before : head ≡ take 19 (row_bytes row ++ rest) = h ∙ ap (take 19) is in
    let after : tail ≡ body row.rec ++ rest = t ∙ ap (drop 19) is in
    let short = body_short row.rec fits.rec in
    let high = fits.version_high in
    let long : len ≡ length (body row.rec) = l ∙ ap (λ xs. from_be_bytes w32 (take 4 (drop 15 xs))) before ∙ from_be_bytes-to_be_bytes_4 (length (body row.rec)) (omega (arith, short)) in
    record {
      kind_same = ap (λ xs. get_or xs 0 0) before;
      version_same = v ∙ ap (λ xs. from_be_bytes w64 (take 8 (drop 7 xs))) before ∙ from_be_bytes-to_be_bytes_8 row.version (omega (arith, high));
      text_is = x ∙ (λ i. take (long i) (after i)) ∙ take_at (body row.rec) rest (length (body row.rec)) refl;
      behind_is = b ∙ (λ i. drop (long i) (after i)) ∙ drop_at (body row.rec) rest (length (body row.rec)) refl;
    }

-- the pair with which bytes begin
pub pair_split : (pair : Pair) (rest bytes value text behind : List ℕ) (first len : ℕ) → FitsPair pair → bytes ≡ pair_bytes pair ++ rest → first ≡ get_or bytes 0 0 → value ≡ drop (first + 1) bytes
    → len ≡ from_be_bytes w16 (take 2 value) → text ≡ take (first + 1 + 2 + len) bytes → behind ≡ drop (first + 1 + 2 + len) bytes → (text ≡ pair_bytes pair) × (behind ≡ rest)
pair_split pair rest bytes value text behind first len fits is f v l t b =
    let key : first ≡ length pair.0 = f ∙ ap (λ xs. get_or xs 0 0) is in
    let regrouped : pair_bytes pair ++ rest ≡ (length pair.0 ∷ pair.0) ++ (value_bytes pair.1 ++ rest) = ap (λ xs. length pair.0 ∷ xs) (append_assoc pair.0 (value_bytes pair.1) rest) in
    let one : length (length pair.0 ∷ pair.0) ≡ length pair.0 + 1 = omega arith in
    let after : value ≡ value_bytes pair.1 ++ rest = v ∙ (λ i. drop (key i + 1) (is i)) ∙ ap (drop (length pair.0 + 1)) regrouped ∙ drop_at (length pair.0 ∷ pair.0) (value_bytes pair.1 ++ rest) (length pair.0 + 1) one in
    let short = fits.1.1 in
    let long : len ≡ length pair.1 = l ∙ ap (λ xs. from_be_bytes w16 (take 2 xs)) after ∙ from_be_bytes-to_be_bytes_2 (length pair.1) (omega (arith, short)) in
    let both = length-append pair.0 (value_bytes pair.1) in
    let all : length (pair_bytes pair) ≡ length pair.0 + 1 + 2 + length pair.1 = omega (arith, both) in (
      t ∙ (λ i. take (key i + 1 + 2 + long i) (is i)) ∙ take_at (pair_bytes pair) rest (length pair.0 + 1 + 2 + length pair.1) all,
      b ∙ (λ i. drop (key i + 1 + 2 + long i) (is i)) ∙ drop_at (pair_bytes pair) rest (length pair.0 + 1 + 2 + length pair.1) all,
    )

-- no rows have no bytes alone
pub no_rows : (mark : Mark) (rows : List Row) → AreRows mark [] rows → rows ≡ []
unfolding rows_bytes row_bytes
no_rows mark [] are = refl
no_rows mark (row ∷ rows) are = absurd (omega (arith, ap length are.spelled))

-- ---- pairs in order

map_append : {A B : Type 0} (f : A → B) (xs ys : List A) → map f (xs ++ ys) ≡ map f xs ++ map f ys
map_append f [] ys = refl
map_append f (x ∷ xs) ys = ap (λ zs. f x ∷ zs) (map_append f xs ys)

key_of_pair : (pair : Pair) → key_of (pair_bytes pair) ≡ pair.0
key_of_pair pair = take_at pair.0 (value_bytes pair.1) (length pair.0) refl

keys_of_pairs : (pairs : List Pair) → map key_of (map pair_bytes pairs) ≡ map (λ p. p.0) pairs
keys_of_pairs [] = refl
keys_of_pairs (pair ∷ pairs) = λ i. key_of_pair pair i ∷ keys_of_pairs pairs i

filter_pairs : (p : List ℕ → Bool) (q : Pair → Bool) → ((pair : Pair) → p (pair_bytes pair) ≡ q pair) → (pairs : List Pair) → filter p (map pair_bytes pairs) ≡ map pair_bytes (filter q pairs)
filter_pairs p q same [] = refl
filter_pairs p q same (pair ∷ pairs) = ap (λ b. cond b (pair_bytes pair ∷ filter p (map pair_bytes pairs)) (filter p (map pair_bytes pairs))) (same pair) ∙ by (q pair) (filter_pairs p q same pairs)
  where
    by : (b : Bool) → filter p (map pair_bytes pairs) ≡ map pair_bytes (filter q pairs)
        → cond b (pair_bytes pair ∷ filter p (map pair_bytes pairs)) (filter p (map pair_bytes pairs)) ≡ map pair_bytes (cond b (pair ∷ filter q pairs) (filter q pairs))
    by true e = ap (λ xs. pair_bytes pair ∷ xs) e
    by false e = e

module _ {A : Type 0} (show : A → List ℕ) where
  keys_shown : (xs : List A) → map (λ x. key_of (show x)) xs ≡ map key_of (map show xs)
  keys_shown [] = refl
  keys_shown (x ∷ xs) = ap (λ ys. key_of (show x) ∷ ys) (keys_shown xs)

  filter_shown : (p : List ℕ → Bool) (xs : List A) → map show (filter (λ x. p (show x)) xs) ≡ filter p (map show xs)
  filter_shown p [] = refl
  filter_shown p (x ∷ xs) = by (p (show x)) (filter_shown p xs)
    where
      by : (b : Bool) → map show (filter (λ x. p (show x)) xs) ≡ filter p (map show xs)
          → map show (cond b (x ∷ filter (λ x. p (show x)) xs) (filter (λ x. p (show x)) xs)) ≡ cond b (show x ∷ filter p (map show xs)) (filter p (map show xs))
      by true e = ap (λ ys. show x ∷ ys) e
      by false e = e

  -- spelled pairs of a leaf are in the order of their keys
  pub in_order : (xs : List A) (pairs : List Pair) → SpellsLeaf (map show xs) pairs → is_ascending (map (λ x. key_of (show x)) xs) ≡ true
  in_order xs pairs leaf = ap is_ascending (keys_shown xs ∙ ap (map key_of) leaf.spelled ∙ keys_of_pairs pairs) ∙ leaf.fits.2

  -- the pairs with keys below a key, and those with keys above it
  module _ (xs : List A) (pairs : List Pair) (key : List ℕ) (leaf : SpellsLeaf (map show xs) pairs) where
    lower_shown : (below : List A) → filter (λ x. is_below (key_of (show x)) key) xs ≡ below → map show below ≡ map pair_bytes (pairs_below key pairs)
    lower_shown below low =
        ap (map show) (sym low) ∙ filter_shown (λ t. is_below (key_of t) key) xs ∙ ap (filter (λ t. is_below (key_of t) key)) leaf.spelled ∙ filter_pairs (λ t. is_below (key_of t) key) (λ p. is_below p.0 key) (λ p. ap (λ k. is_below k key) (key_of_pair p)) pairs

    higher_shown : (above : List A) → filter (λ x. is_below key (key_of (show x))) xs ≡ above → map show above ≡ map pair_bytes (pairs_above key pairs)
    higher_shown above high =
        ap (map show) (sym high) ∙ filter_shown (λ t. is_below key (key_of t)) xs ∙ ap (filter (λ t. is_below key (key_of t))) leaf.spelled ∙ filter_pairs (λ t. is_below key (key_of t)) (λ p. is_below key p.0) (λ p. ap (is_below key) (key_of_pair p)) pairs

  module _ (xs : List A) (pairs : List Pair) (key value : List ℕ) (item : A) (leaf : SpellsLeaf (map show xs) pairs) (fits : FitsPair (key, value)) (is : show item ≡ pair_bytes (key, value)) where
    set_shown : (below above : List A) → filter (λ x. is_below (key_of (show x)) key) xs ≡ below → filter (λ x. is_below key (key_of (show x))) xs ≡ above → map show (below ++ item ∷ above) ≡ map pair_bytes (set pairs key value)
    unfolding set
    set_shown below above low high =
        map_append show below (item ∷ above) ∙ (λ i. lower_shown xs pairs key leaf below low i ++ is i ∷ higher_shown xs pairs key leaf above high i) ∙ sym (map_append pair_bytes (pairs_below key pairs) ((key, value) ∷ pairs_above key pairs))

    -- what is put is a leaf where it is short enough
    put_leaf : (new : List A) → map show new ≡ map pair_bytes (set pairs key value) → length new ≤ 32 → SpellsLeaf (map show new) (set pairs key value)
    unfolding set
    put_leaf new spelled few = record {
      spelled = spelled;
      fits = (
        (let long : length (set pairs key value) ≡ length new = sym (length-map (set pairs key value) pair_bytes) ∙ sym (ap length spelled) ∙ length-map new show in omega (arith, long, few)),
        set_all (λ p. p.0) (key, value) pairs FitsPair fits leaf.fits.1,
        ascending_from_up (λ p. p.0) (set pairs key value) (set_up (λ p. p.0) (key, value) pairs (AreUp-from_ascending (λ p. p.0) pairs leaf.fits.2)),
      );
    }

    few_pairs : length xs ≤ 32
    few_pairs = let long : length xs ≡ length pairs = sym (length-map xs show) ∙ ap length leaf.spelled ∙ length-map pairs pair_bytes in let few = leaf.fits.0 in omega (arith, long, few)

    -- a pair in place of that with its key
    pub put_there : (sought : List ℕ) (i : ℕ) → sought ≡ key_of (show item) → StandsAt (λ x. key_of (show x)) sought xs i → SpellsLeaf (map show (slice_set xs i item)) (set pairs key value)
    put_there sought i same found =
        let at : StandsAt (λ x. key_of (show x)) key xs i = subst (λ k. StandsAt (λ x. key_of (show x)) k xs i) (same ∙ ap key_of is ∙ key_of_pair (key, value)) found in
        let few = few_pairs in
        put_leaf (slice_set xs i item) (ap (map show) (set_split xs i item at.within) ∙ set_shown (take i xs) (drop (suc i) xs) at.lower at.higher) (omega (arith, length-set xs i item, few))

    -- a pair more
    pub put_more : (sought : List ℕ) (i : ℕ) → sought ≡ key_of (show item) → BelongsAt (λ x. key_of (show x)) sought xs i → length xs < 32 → SpellsLeaf (map show (insert xs i item)) (set pairs key value)
    put_more sought i same found room =
        let at : BelongsAt (λ x. key_of (show x)) key xs i = subst (λ k. BelongsAt (λ x. key_of (show x)) k xs i) (same ∙ ap key_of is ∙ key_of_pair (key, value)) found in
        let parts : length (take i xs ++ drop i xs) ≡ length xs = ap length (take-append-drop i xs) in
        put_leaf (insert xs i item) (set_shown (take i xs) (drop i xs) at.lower at.higher) (omega (arith, length-append (take i xs) (item ∷ drop i xs), length-append (take i xs) (drop i xs), parts, room))

  -- a key that is spelled by itself
  module _ (xs : List A) (pairs : List Pair) (key text sought : List ℕ) (i : ℕ) (leaf : SpellsLeaf (map show xs) pairs) (is : text ≡ key_bytes key) (same : sought ≡ key_of text) where
    sought_is : sought ≡ key
    sought_is = same ∙ ap key_of is ∙ ap (λ t. take (length key) t) (sym (append-nil key)) ∙ take_at key [] (length key) refl

    -- the pairs below a key
    pub cut_leaf : filter (λ x. is_below (key_of (show x)) sought) xs ≡ take i xs → SpellsLeaf (map show (take i xs)) (pairs_below key pairs)
    cut_leaf lower = record {
      spelled = lower_shown xs pairs key leaf (take i xs) (subst (λ k. filter (λ x. is_below (key_of (show x)) k) xs ≡ take i xs) sought_is lower);
      fits = (
        (let few = leaf.fits.0 in omega (arith, few, length-filter_le (λ (p : Pair). is_below p.0 key) pairs)),
        all_filter FitsPair (λ p. is_below p.0 key) pairs leaf.fits.1,
        ascending_from_up (λ p. p.0) (pairs_below key pairs) (AreUp-filter (λ p. p.0) (λ p. is_below p.0 key) pairs (AreUp-from_ascending (λ p. p.0) pairs leaf.fits.2)),
      );
    }

    -- the pairs below a key and above it
    left_leaf : (below above new : List A) → filter (λ x. is_below (key_of (show x)) key) xs ≡ below → filter (λ x. is_below key (key_of (show x))) xs ≡ above → new ≡ below ++ above → SpellsLeaf (map show new) (unset pairs key)
    unfolding unset
    left_leaf below above new lower higher made =
        let up = AreUp-from_ascending (λ (p : Pair). p.0) pairs leaf.fits.2 in
        let few = leaf.fits.0 in
        record {
          spelled = ap (map show) made ∙ map_append show below above ∙ (λ j. lower_shown xs pairs key leaf below lower j ++ higher_shown xs pairs key leaf above higher j) ∙ sym (map_append pair_bytes (pairs_below key pairs) (pairs_above key pairs));
          fits = (
            omega (arith, few, exclusive (λ (p : Pair). is_below p.0 key) (λ p. is_below key p.0) pairs (apart_pairs key), length-append (pairs_below key pairs) (pairs_above key pairs)),
            all_append FitsPair (pairs_below key pairs) (pairs_above key pairs) (all_filter FitsPair (λ p. is_below p.0 key) pairs leaf.fits.1) (all_filter FitsPair (λ p. is_below key p.0) pairs leaf.fits.1),
            ascending_from_up (λ p. p.0) (pairs_below key pairs ++ pairs_above key pairs) (AreUp-join (λ p. p.0) key (pairs_below key pairs) (pairs_above key pairs) (AreUp-filter (λ p. p.0) (λ p. is_below p.0 key) pairs up) (all_pass (λ p. is_below p.0 key) pairs)
                (AreUp-filter (λ p. p.0) (λ p. is_below key p.0) pairs up) (all_pass (λ p. is_below key p.0) pairs)),
          );
        }

    pub removed_there : StandsAt (λ x. key_of (show x)) sought xs i → SpellsLeaf (map show (remove xs i)) (unset pairs key)
    removed_there found =
        let at : StandsAt (λ x. key_of (show x)) key xs i = subst (λ k. StandsAt (λ x. key_of (show x)) k xs i) sought_is found in
        left_leaf (take i xs) (drop (suc i) xs) (remove xs i) at.lower at.higher refl

    pub removed_none : BelongsAt (λ x. key_of (show x)) sought xs i → SpellsLeaf (map show xs) (unset pairs key)
    removed_none found =
        let at : BelongsAt (λ x. key_of (show x)) key xs i = subst (λ k. BelongsAt (λ x. key_of (show x)) k xs i) sought_is found in
        left_leaf (take i xs) (drop i xs) xs at.lower at.higher (sym (take-append-drop i xs))

-- ---- what rows change

-- what a change is by its kind: an image of a leaf, or one that puts a pair, deletes a key, or cuts a leaf
pub record ByKind (change : Rec) : Type 0 where
  pub image : kind change ≡ 2 → (pairs : List Pair) × (change ≡ rec.LeafImage pairs)
  pub put : kind change ≡ 4 → (pair : Pair) × (change ≡ rec.Put pair.0 pair.1)
  pub deletes : kind change ≡ 5 → (key : List ℕ) × (change ≡ rec.Del key)
  pub cuts : kind change ≡ 6 → (key : List ℕ) × (change ≡ rec.CutLeaf key)

pub by_kind : (change : Rec) → ByKind change
by_kind (rec.HeadImage root next depth) = record { image = λ e. absurd (omega (arith, e)); put = λ e. absurd (omega (arith, e)); deletes = λ e. absurd (omega (arith, e)); cuts = λ e. absurd (omega (arith, e)) }
by_kind (rec.LeafImage pairs) = record { image = λ e. (pairs, refl); put = λ e. absurd (omega (arith, e)); deletes = λ e. absurd (omega (arith, e)); cuts = λ e. absurd (omega (arith, e)) }
by_kind (rec.InnerImage seps kids) = record { image = λ e. absurd (omega (arith, e)); put = λ e. absurd (omega (arith, e)); deletes = λ e. absurd (omega (arith, e)); cuts = λ e. absurd (omega (arith, e)) }
by_kind (rec.Put key value) = record { image = λ e. absurd (omega (arith, e)); put = λ e. ((key, value), refl); deletes = λ e. absurd (omega (arith, e)); cuts = λ e. absurd (omega (arith, e)) }
by_kind (rec.Del key) = record { image = λ e. absurd (omega (arith, e)); put = λ e. absurd (omega (arith, e)); deletes = λ e. (key, refl); cuts = λ e. absurd (omega (arith, e)) }
by_kind (rec.CutLeaf key) = record { image = λ e. absurd (omega (arith, e)); put = λ e. absurd (omega (arith, e)); deletes = λ e. absurd (omega (arith, e)); cuts = λ e. (key, refl) }
by_kind (rec.CutInner key) = record { image = λ e. absurd (omega (arith, e)); put = λ e. absurd (omega (arith, e)); deletes = λ e. absurd (omega (arith, e)); cuts = λ e. absurd (omega (arith, e)) }
by_kind (rec.Link key child) = record { image = λ e. absurd (omega (arith, e)); put = λ e. absurd (omega (arith, e)); deletes = λ e. absurd (omega (arith, e)); cuts = λ e. absurd (omega (arith, e)) }
by_kind (rec.Plus key by) = record { image = λ e. absurd (omega (arith, e)); put = λ e. absurd (omega (arith, e)); deletes = λ e. absurd (omega (arith, e)); cuts = λ e. absurd (omega (arith, e)) }

-- what a change of each of these kinds leaves
pub put_changes : (old : List Pair) (change : Rec) (texts : List (List ℕ)) (pair : Pair) → change ≡ rec.Put pair.0 pair.1 → SpellsLeaf texts (set old pair.0 pair.1) → IsChanged old change texts
unfolding changed
put_changes old change texts pair is leaf = record { pairs = set old pair.0 pair.1; leaf = leaf; same = ap (changed (node.Leaf old)) is ∙ fits_leaf (set old pair.0 pair.1) leaf.fits.0 }

pub delete_changes : (old : List Pair) (change : Rec) (texts : List (List ℕ)) (key : List ℕ) → change ≡ rec.Del key → SpellsLeaf texts (unset old key) → IsChanged old change texts
unfolding changed
delete_changes old change texts key is leaf = record { pairs = unset old key; leaf = leaf; same = ap (changed (node.Leaf old)) is }

pub cut_changes : (old : List Pair) (change : Rec) (texts : List (List ℕ)) (key : List ℕ) → change ≡ rec.CutLeaf key → SpellsLeaf texts (pairs_below key old) → IsChanged old change texts
unfolding changed
cut_changes old change texts key is leaf = record { pairs = pairs_below key old; leaf = leaf; same = ap (changed (node.Leaf old)) is }

pub ok_map : {A E : Type 0} (P Q : A → Type 0) (r : Result A E) → ((a : A) → P a → Q a) → IfOk r P → IfOk r Q
ok_map P Q (Ok a) f p = f a p
ok_map P Q (Err e) f p = tt

-- a change that is no image stands behind its version
steps_from : (content : Content) (version : ℕ) (change : Rec) → 4 ≤ kind change → step_node content version change ≡ cond (version == content.1 + 1) (changed content.0 change) node.Broken
steps_from content version (rec.HeadImage root next depth) e = absurd (omega (arith, e))
steps_from content version (rec.LeafImage pairs) e = absurd (omega (arith, e))
steps_from content version (rec.InnerImage seps kids) e = absurd (omega (arith, e))
steps_from content version (rec.Put key value) e = refl
steps_from content version (rec.Del key) e = refl
steps_from content version (rec.CutLeaf key) e = refl
steps_from content version (rec.CutInner key) e = refl
steps_from content version (rec.Link key child) e = refl
steps_from content version (rec.Plus key by) e = refl

change_steps : (pairs new : List Pair) (version : ℕ) (row : Row) → 4 ≤ kind row.rec → row.version ≡ version + 1 → changed (node.Leaf pairs) row.rec ≡ node.Leaf new → step (node.Leaf pairs, version) row ≡ (node.Leaf new, row.version)
unfolding step
change_steps pairs new version row no_image next same =
    ap (λ n. (n, row.version)) (steps_from (node.Leaf pairs, version) row.version row.rec no_image ∙ ap (λ b. cond b (changed (node.Leaf pairs) row.rec) node.Broken) (eq-eqb row.version (version + 1) next) ∙ same)

image_steps : (content : Content) (row : Row) (pairs : List Pair) → row.rec ≡ rec.LeafImage pairs → step content row ≡ (node.Leaf pairs, row.version)
unfolding step
image_steps content row pairs is i = (step_node content row.version (is i), row.version)

-- what the row with which bytes begin changes
pub record ChangesNext (mark : Mark) (content : Content) (more : List Row) (texts : List (List ℕ)) (kind_is next : ℕ) (text behind : List ℕ) : Type 0 where
  pub pairs : List Pair
  pub leaf : SpellsLeaf texts pairs
  pub change : Rec
  pub fits : FitsRec change
  pub of_kind : kind_is ≡ kind change
  pub spelled : text ≡ body change
  pub leads : (new : List (List ℕ)) → IsChanged pairs change new → LeadsTo mark content new next behind more

pub changes_next : (mark : Mark) (content : Content) (more : List Row) (texts : List (List ℕ)) (left : List ℕ) (version kind_is next : ℕ) (text behind : List ℕ) → LeadsTo mark content texts version left more → length behind < length left
    → ((mark : Mark) (row : Row) (rest : List ℕ) → FitsRow mark row → left ≡ row_bytes row ++ rest → IsRowBefore row rest kind_is next text behind) → 4 ≤ kind_is → next ≡ version + 1 → ChangesNext mark content more texts kind_is next text behind
unfolding rows_bytes replay
changes_next mark content more texts left version kind_is next text behind leads shorter read no_image moves = by leads.rows leads.are_rows leads.same
  where
    by : (rows : List Row) → AreRows mark left rows → content ≡ replay (node.Leaf leads.pairs, version) (rows ++ more) → ChangesNext mark content more texts kind_is next text behind
    by [] are same = absurd (let none = ap length are.spelled in omega (arith, shorter, none))
    by (row ∷ rows) are same =
        let r = read mark row (rows_bytes rows) are.fit.0 are.spelled in
        let same_kind = r.kind_same in
        record {
          pairs = leads.pairs;
          leaf = leads.leaf;
          change = row.rec;
          fits = are.fit.0.rec;
          of_kind = same_kind;
          spelled = r.text_is;
          leads = λ new made. record {
            pairs = made.pairs;
            leaf = made.leaf;
            rows = rows;
            are_rows = record { fit = are.fit.1; spelled = r.behind_is };
            same = same ∙ ap (λ c. replay c (rows ++ more)) (change_steps leads.pairs made.pairs version row (omega (arith, same_kind, no_image)) (sym r.version_same ∙ moves) made.same)
                ∙ ap (λ v. replay (node.Leaf made.pairs, v) (rows ++ more)) (sym r.version_same);
          };
        }

-- ---- the pairs of an image

-- pairs of a leaf so far, and those behind them that bytes spell
pub record PairsLeft (pairs : List Pair) (texts : List (List ℕ)) (left : List ℕ) : Type 0 where
  pub rest : List Pair
  pub fit : AllByRecursion FitsPair rest
  pub spelled : left ≡ flat_map pair_bytes rest
  pub so_far : texts ++ map pair_bytes rest ≡ map pair_bytes pairs

pub first_pairs : (pairs : List Pair) (text left : List ℕ) (first : ℕ) → FitsRec (rec.LeafImage pairs) → text ≡ body (rec.LeafImage pairs) → text ≡ first ∷ left → PairsLeft pairs [] left
unfolding body
first_pairs pairs text left first fits is split = record {
  rest = pairs;
  fit = fits.1;
  spelled = ap (drop 1) (sym split ∙ is);
  so_far = refl;
}

pub more_pairs : {A : Type 0} (show : A → List ℕ) (pairs : List Pair) (xs new : List A) (item : A) (left behind : List ℕ) → PairsLeft pairs (map show xs) left → length behind < length left
    → ((pair : Pair) (rest : List ℕ) → FitsPair pair → left ≡ pair_bytes pair ++ rest → (show item ≡ pair_bytes pair) × (behind ≡ rest)) → new ≡ xs ++ item ∷ [] → PairsLeft pairs (map show new) behind
more_pairs {A} show pairs xs new item left behind so shorter read is = by so.rest so.fit so.spelled so.so_far
  where
    by : (rest : List Pair) → AllByRecursion FitsPair rest → left ≡ flat_map pair_bytes rest → map show xs ++ map pair_bytes rest ≡ map pair_bytes pairs → PairsLeft pairs (map show new) behind
    by [] fit spelled so_far = absurd (let none = ap length spelled in omega (arith, shorter, none))
    by (pair ∷ rest) fit spelled so_far =
        let r = read pair (flat_map pair_bytes rest) fit.0 spelled in
        record {
          rest = rest;
          fit = fit.1;
          spelled = r.1;
          so_far = ap (λ ys. ys ++ map pair_bytes rest) (ap (map show) is ∙ map_append show xs (item ∷ [])) ∙ append_assoc (map show xs) (show item ∷ []) (map pair_bytes rest) ∙ (λ i. map show xs ++ r.0 i ∷ map pair_bytes rest) ∙ so_far;
        }

pub all_pairs : (pairs : List Pair) (texts : List (List ℕ)) (left : List ℕ) → FitsRec (rec.LeafImage pairs) → PairsLeft pairs texts left → length left ≡ 0 → SpellsLeaf texts pairs
all_pairs pairs texts left fits so none = by so.rest so.spelled so.so_far
  where
    by : (rest : List Pair) → left ≡ flat_map pair_bytes rest → texts ++ map pair_bytes rest ≡ map pair_bytes pairs → SpellsLeaf texts pairs
    by [] spelled so_far = record { spelled = sym (append-nil texts) ∙ so_far; fits = fits }
    by (pair ∷ rest) spelled so_far = absurd (let long = ap length spelled in omega (arith, none, long))

-- ---- the leaf that rows leave

-- rows that are put into an empty leaf
pub begins_empty : (mark : Mark) (own more : List Row) (bytes : List ℕ) → AreRows mark bytes own → LeadsTo mark (replay (node.Leaf [], 0) (own ++ more)) [] 0 bytes more
begins_empty mark own more bytes are = record { pairs = []; leaf = record { spelled = refl; fits = (omega arith, tt, refl) }; rows = own; are_rows = are; same = refl }

-- rows that begin with an image
pub begins_image : (mark : Mark) (own more : List Row) (bytes : List ℕ) (kind_is version : ℕ) (text behind : List ℕ) (texts : List (List ℕ)) → AreRows mark bytes own → length behind < length bytes
    → ((mark : Mark) (row : Row) (rest : List ℕ) → FitsRow mark row → bytes ≡ row_bytes row ++ rest → IsRowBefore row rest kind_is version text behind) → kind_is ≡ 2
    → ((pairs : List Pair) → FitsRec (rec.LeafImage pairs) → text ≡ body (rec.LeafImage pairs) → SpellsLeaf texts pairs) → LeadsTo mark (replay (node.Leaf [], 0) (own ++ more)) texts version behind more
unfolding rows_bytes replay
begins_image mark [] more bytes kind_is version text behind texts are shorter read image leaf = absurd (let none = ap length are.spelled in omega (arith, shorter, none))
begins_image mark (row ∷ rows) more bytes kind_is version text behind texts are shorter read image leaf =
    let r = read mark row (rows_bytes rows) are.fit.0 are.spelled in
    let is = (by_kind row.rec).image (sym r.kind_same ∙ image) in
    record {
      pairs = is.0;
      leaf = leaf is.0 (subst FitsRec is.1 are.fit.0.rec) (r.text_is ∙ ap body is.1);
      rows = rows;
      are_rows = record { fit = are.fit.1; spelled = r.behind_is };
      same = ap (λ c. replay c (rows ++ more)) (image_steps (node.Leaf [], 0) row is.0 is.1) ∙ ap (λ v. replay (node.Leaf is.0, v) (rows ++ more)) (sym r.version_same);
    }

pub next_rows : (mark also : Mark) (content : Content) (texts : List (List ℕ)) (version : ℕ) (behind : List ℕ) (b : List Row) → LeadsTo mark content texts version [] b → AreRows also behind b → LeadsTo also content texts version behind []
next_rows mark also content texts version behind b leads are = record {
  pairs = leads.pairs;
  leaf = leads.leaf;
  rows = b;
  are_rows = are;
  same = leads.same ∙ ap (λ xs. replay (node.Leaf leads.pairs, version) (xs ++ b)) (no_rows mark leads.rows leads.are_rows) ∙ ap (replay (node.Leaf leads.pairs, version)) (sym (append-nil b));
}

pub is_left : (mark : Mark) (content : Content) (texts : List (List ℕ)) (version : ℕ) → LeadsTo mark content texts version [] [] → IsLeft content texts version
unfolding replay
is_left mark content texts version leads = record {
  pairs = leads.pairs;
  leaf = leads.leaf;
  same = leads.same ∙ ap (λ xs. replay (node.Leaf leads.pairs, version) (xs ++ [])) (no_rows mark leads.rows leads.are_rows);
}

-- no older rows come before newer ones
pub newer_alone : (mark : Mark) (a b : List Row) (older : List ℕ) → AreRows mark older a → length older ≡ 0 → b ++ a ≡ a ++ b
newer_alone mark a b older are none =
    let empty : a ≡ [] = no_rows mark a (record { fit = are.fit; spelled = sym (nil_from_length older none) ∙ are.spelled }) in
    ap (λ xs. b ++ xs) empty ∙ append-nil b ∙ sym (ap (λ xs. xs ++ b) empty)

-- ---- the image

flat_shown : {A : Type 0} (show : A → List ℕ) (xs : List A) (pairs : List Pair) → SpellsLeaf (map show xs) pairs → flat_map show xs ≡ flat_map pair_bytes pairs
flat_shown show xs pairs leaf = sym (flat_map-map (λ x. x) show xs) ∙ ap (flat_map (λ x. x)) leaf.spelled ∙ flat_map-map (λ x. x) pair_bytes pairs

-- the length of an image's body is what was summed up
pub body_summed : {A : Type 0} (show : A → List ℕ) (xs : List A) (pairs : List Pair) (i len : ℕ) → SpellsLeaf (map show xs) pairs → length xs ≤ i → len ≡ min (1 + length (flat_map show (take i xs))) 18446744073709551615
    → min len 4294967295 ≡ length (body (rec.LeafImage pairs))
unfolding body
body_summed show xs pairs i len leaf all is =
    let whole = ap (λ ys. length (flat_map show ys)) (take_all i xs all) in
    let same = ap length (flat_shown show xs pairs leaf) in
    let short = body_short (rec.LeafImage pairs) leaf.fits in
    omega (arith, is, whole, same, short)

-- five pieces behind bytes
pub pieces : (a v w x y z b c d e f : List ℕ) → b ≡ a ++ v → c ≡ b ++ w → d ≡ c ++ x → e ≡ d ++ y → f ≡ e ++ z → f ≡ a ++ (v ++ (w ++ (x ++ (y ++ z))))
pieces a v w x y z b c d e f p q r s t =
    t ∙ ap (λ k. k ++ z) (s ∙ ap (λ k. k ++ y) (r ∙ ap (λ k. k ++ x) (q ∙ ap (λ k. k ++ w) p)))
    ∙ append_assoc (((a ++ v) ++ w) ++ x) y z ∙ append_assoc ((a ++ v) ++ w) x (y ++ z) ∙ append_assoc (a ++ v) w (x ++ (y ++ z)) ∙ append_assoc a v (w ++ (x ++ (y ++ z)))

-- the pieces of an image are its spelling
pub image_spelled : {A : Type 0} (show : A → List ℕ) (xs : List A) (pairs : List Pair) (id : NodeId) (version len count : ℕ) (none first second third : List ℕ) → SpellsLeaf (map show xs) pairs → len ≡ length (body (rec.LeafImage pairs)) → count ≡ length xs
    → none ≡ [] → first ≡ none ++ front 2 id version len → second ≡ first ++ count ∷ [] → third ≡ second ++ flat_map show xs → third ≡ row_bytes (record { node = id; version = version; rec = rec.LeafImage pairs })
unfolding row_bytes body
image_spelled show xs pairs id version len count none first second third leaf long counted empty f s t =
    let many : count ≡ length pairs = counted ∙ sym (length-map xs show) ∙ ap length leaf.spelled ∙ length-map pairs pair_bytes in
    t ∙ ap (λ k. k ++ flat_map show xs) (s ∙ ap (λ k. k ++ count ∷ []) (f ∙ ap (λ k. k ++ front 2 id version len) empty))
    ∙ (λ i. (front 2 id version (long i) ++ many i ∷ []) ++ flat_shown show xs pairs leaf i)

-- the leaf that rows leave is the image that stands for them, if it is no longer
pub image_stands : (spells : Bool) (id : NodeId) (own : List Row) (texts : List (List ℕ)) (version most text_len len : ℕ) (bytes : List ℕ) → (id.number ≡ 0 → ⊥) → (left : IsLeft (replay (node.Leaf [], 0) own) texts version) → starts_afresh own ≡ true
    → text_len ≡ length (body (rec.LeafImage left.pairs)) → len ≡ min (text_len + 19) 4294967295 → (spells ≡ true → bytes ≡ row_bytes (record { node = id; version = version; rec = rec.LeafImage left.pairs })) → len ≤ most → most ≡ min (rows_len own) 4294967295
    → IsImageOf spells id own bytes len
image_stands spells id own texts version most text_len len bytes body_node left fresh text long spelled short is =
    let row : Row = record { node = id; version = version; rec = rec.LeafImage left.pairs } in
    let empty : base id ≡ (node.Leaf [], 0) = ap (λ b. cond b (node.Head 1 2 1, 0) (node.Leaf [], 0)) (other id.number body_node) in
    let content : (node.Leaf left.pairs, version) ≡ replay (base id) own = sym left.same ∙ ap (λ c. replay c own) (sym empty) in
    let few = body_short (rec.LeafImage left.pairs) left.leaf.fits in
    let all : len ≡ row_len row = omega (arith, text, long, few) in
    record {
      row = row;
      joined = fold_row id own (node.Leaf left.pairs, version) row content refl refl refl fresh (le-leb (row_len row) (rows_len own) (omega (arith, all, short, is)));
      fits = left.leaf.fits;
      long = all;
      spelled = spelled;
    }
  where
    other : (n : ℕ) → (n ≡ 0 → ⊥) → (n == 0) ≡ false
    other n h = not_true (n == 0) (λ e. h (eqb-true n 0 e))
