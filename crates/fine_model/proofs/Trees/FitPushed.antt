-- All rows that calls within bounds push are within bounds.
use Rattle.std.proofs.Common.{◌≡◌, ◌≢◌, ℕ, zero, suc, ◌+◌, ◌-◌, ◌≤◌, ◌==◌, nat_lt, not, Bool, true, false, cond, ◌||◌, IsTrue, List, [], ◌∷◌, ◌++◌, length, refl, sym, subst, Option, Some, None, Ok, Err, ℤ, ◌+ℤ◌, FitsSigned, w64, arith}
use Rattle.std.specs.Prelude.{Result, filter}
use Rattle.std.specs.List.{AllByRecursion, list_any}
use Rattle.std.proofs.lemmas.Bool.{or_parts, ltb-false}
use Rattle.std.proofs.lemmas.List.Elements.{All-from_recursion}
use Rattle.fine_model.specs.Types.{Rec, Row, Node, Call, Reply, Write, Why}
use Rattle.fine_model.specs.Types.rec
use Rattle.fine_model.specs.Types.node
use Rattle.fine_model.specs.Types.call
use Rattle.fine_model.specs.Types.write
use Rattle.fine_model.specs.Types.reply
use Rattle.fine_model.specs.Types.why
use Rattle.fine_model.specs.Types.mark
use Rattle.fine_model.specs.Map.{Pair, is_below, has}
use Rattle.fine_model.specs.NumberText.{number_text, is_i64}
use Rattle.fine_model.specs.Store.{number_at, sum_answer, add_answer, answer}
use Rattle.fine_model.specs.RowBytes.{greatest, kind, FitsKey, FitsPair, FitsChild, FitsRec, FitsRow}
use Rattle.fine_model.specs.Nodes.{Content}
use Rattle.fine_model.specs.Trees.{Bounds, whole, AllBetween, IsInner, IsSubtree, IsSound, bucket_of, nodes_of}
use Rattle.fine_model.specs.Pushed.{row_of, child_for, leaf_for, leaf_push, with_head, set_push, pairs_beside, add_push, call_push, push_of, within_limits, pushed, all_pushed, and_then, nothing_pushed, Push}
use Rattle.fine_model.specs.Bounds.{FitsCall}
use Rattle.fine_model.specs.Laws.{is_small, AreSmall}
use Rattle.fine_model.specs.BoundLaws.{FitsNode, PushedFits}
use Rattle.fine_model.proofs.Ordered.Order.{all_map}
use Rattle.fine_model.proofs.Ordered.Parts.{all_both}
use Rattle.fine_model.proofs.Ordered.Sets.{all_append}
use Rattle.fine_model.proofs.Trees.Small.{length-filter_le}
use Rattle.fine_model.proofs.Trees.Buckets.{HasTree, has_tree}
use Rattle.fine_model.proofs.Trees.CallLaw.{bucket_below, same_bucket}
use Rattle.fine_model.proofs.Trees.SetLaw.{IsBody, height, once, subtree, g, grows, pushed_law}
use Rattle.fine_model.proofs.Histories.Stated.{small_law}
use Rattle.fine_model.proofs.Ordered.Nothing.{any_none}
use Rattle.fine_model.proofs.Trees.Descent.{descend}
use Rattle.fine_model.proofs.Trees.NodeBounds.{text_fits, node_fits}
use Rattle.fine_model.proofs.Trees.FitGrown.{IsPushable, ArePushable, FitsSplit, FitsGrowth, body_row, Fits, leaf_fits, inner_fits}

-- rows that are pushed within the limits
pub record IsWithin (push : Push) (new : List Row) : Type 0 where
  pub next : push.next ≤ 1048576
  pub depth : push.depth ≤ 8
  pub versions : AllByRecursion (λ row. row.version ≤ greatest) push.rows
  pub rows : push.rows ≡ new

pub within : (push : Push) (new : List Row) → within_limits push ≡ Ok new → IsWithin push new
unfolding within_limits
within push new is = by (nat_lt 1048576 push.next || nat_lt 8 push.depth) refl (list_any (λ row. nat_lt greatest row.version) push.rows) refl is
  where
    by : (b : Bool) → (nat_lt 1048576 push.next || nat_lt 8 push.depth) ≡ b → (c : Bool) → list_any (λ row. nat_lt greatest row.version) push.rows ≡ c
        → cond {A = Result (List Row) Why} b (Err why.Bucket) (cond c (Err why.Number) (Ok push.rows)) ≡ Ok new → IsWithin push new
    by true e c f is = absurd (cc)
    by false e true f is = absurd (cc)
    by false e false f is =
        let n = or_parts (nat_lt 1048576 push.next) (nat_lt 8 push.depth) e in record {
          next = ltb-false 1048576 push.next n.0;
          depth = ltb-false 8 push.depth n.1;
          versions = all_map (λ row. nat_lt greatest row.version ≡ false) (λ row. row.version ≤ greatest) (λ row h. ltb-false greatest row.version h) push.rows (any_none (λ row. nat_lt greatest row.version) push.rows f);
          rows = cc;
        }

pub kind_few : (change : Rec) → kind change ≤ 9
kind_few (rec.HeadImage root next depth) = omega arith
kind_few _ = omega arith

row_fits : (row : Row) → IsPushable row → row.version ≤ greatest → FitsRow mark.Two row
row_fits row p high = record { of_format = kind_few row.rec; bucket = p.bucket; number = p.number; head = p.head; version_low = p.version; version_high = high; rec = p.rec }

-- ---- the leaf in which a key belongs has a number within bounds

module _ (bucket : ℕ) (nodes : ℕ → Content) (nodes_fit : (number : ℕ) → FitsNode (nodes number).0) (key : List ℕ) where
  kids_have : (P : ℕ → Type 0) (Q : Bounds → ℕ → Type 0) (each : (bounds : Bounds) (k : ℕ) → Q bounds k → P k) (bounds : Bounds) (seps : List (List ℕ)) (kids : List ℕ) → AllBetween Q bounds seps kids → AllByRecursion P kids
  unfolding AllBetween
  kids_have P Q each bounds [] [] all = tt
  kids_have P Q each bounds [] (k ∷ []) all = (each bounds k all, tt)
  kids_have P Q each bounds [] (k ∷ k' ∷ kids) all = absurd all
  kids_have P Q each bounds (s ∷ seps) [] all = tt
  kids_have P Q each bounds (s ∷ seps) (k ∷ kids) all = (each (record { low = bounds.low; high = Some s }) k all.0, kids_have P Q each (record { low = Some s; high = bounds.high }) seps kids all.1)

  child_has : (P : ℕ → Type 0) (Q : Bounds → ℕ → Type 0) (each : (bounds : Bounds) (k : ℕ) → Q bounds k → P k) (bounds : Bounds) (n : Node) → FitsNode n → IsInner Q bounds n → P (child_for key n) × FitsChild (child_for key n)
  child_has P Q each bounds (node.Inner seps kids) fits inner =
      let i = length (filter (λ sep. not (is_below key sep)) seps) in
      let l = length-filter_le (λ sep. not (is_below key sep)) seps in
      let m = fits.1 in
      (All-from_recursion P kids (kids_have P Q each bounds seps kids inner.1) i 0 (omega (arith, l, m)), All-from_recursion FitsChild kids fits.2 i 0 (omega (arith, l, m)))
  child_has P Q each bounds (node.Head root next depth) fits inner = absurd inner
  child_has P Q each bounds (node.Leaf pairs) fits inner = absurd inner
  child_has P Q each bounds node.Broken fits inner = absurd inner

  leaf_number : (height : ℕ) (bounds : Bounds) (number : ℕ) → IsSubtree height bucket nodes bounds number → FitsChild number → FitsChild (leaf_for height nodes key number)
  unfolding IsSubtree leaf_for
  leaf_number zero bounds number under fits = fits
  leaf_number (suc height) bounds number under fits =
      let c = child_has (λ k. FitsChild k → FitsChild (leaf_for height nodes key k)) (IsSubtree height bucket nodes) (λ b k s f. leaf_number height b k s f) bounds (nodes number).0 (nodes_fit number) under in
      c.0 c.1

-- ---- what a call pushes

module _ (rows : List Row) (fits : AllByRecursion (FitsRow mark.Two) rows) (small : AreSmall rows) (sound : IsSound rows) where
  module _ (key : List ℕ) where
    abbrev bucket : ℕ
    bucket = bucket_of key

    abbrev old : ℕ → Content
    old = nodes_of rows bucket

    nodes_fit : (number : ℕ) → FitsNode (old number).0
    nodes_fit number = node_fits mark.Two rows (record { bucket = bucket; number = number }) fits

    tree : HasTree bucket old (old 0).0
    tree = has_tree bucket old (old 0).0 (sound.fit bucket (bucket_below key))

    no_body : (t : HasTree bucket old (old 0).0) → IsBody (old 0).0 → ⊥
    no_body t body = subst IsBody t.is body

    head_fits : (t : HasTree bucket old (old 0).0) → FitsRec (rec.HeadImage t.root t.next t.depth)
    head_fits t = subst FitsNode t.is (nodes_fit 0)

    -- one row on the key's leaf
    one_row : (change : Rec) → kind change ≢ 1 → FitsRec change → ArePushable (leaf_push bucket old key change (old 0).0).rows
    unfolding leaf_push
    one_row change other fit =
        let t = tree in
        subst (λ n. ArePushable (leaf_push bucket old key change n).rows) (sym t.is)
        (let s = t.tree in
        let h = head_fits t in
        let c = leaf_number bucket old nodes_fit key (t.depth - 1) whole t.root s.subtree h.0 in
        (body_row bucket (bucket_below key) (leaf_for (t.depth - 1) old key t.root) ((old (leaf_for (t.depth - 1) old key t.root)).1 + 1) change c (omega arith) other fit, tt))

    module _ (value : List ℕ) (pair : FitsPair (key, value)) (t : HasTree bucket old (old 0).0) where
      some : 1 ≤ t.next
      some = let h = head_fits t in let n = h.1 in omega (arith, n)

      grown_fits : (g rows key value small sound t).next ≤ 1048576 → FitsGrowth (g rows key value small sound t)
      unfolding g
      grown_fits =
          descend rows bucket key value t.next (same_bucket key) small (Fits rows key value t.next small pair some nodes_fit (no_body t) (bucket_below key) (same_bucket key))
          (leaf_fits rows key value t.next small pair some nodes_fit (no_body t) (bucket_below key) (same_bucket key)) (inner_fits rows key value t.next small pair some nodes_fit (no_body t) (bucket_below key) (same_bucket key))
          (height rows key value small sound t) whole t.root (subtree rows key value small sound t) (same_bucket key) (once rows key value small sound t)

      ordered : t.next ≤ (g rows key value small sound t).next
      ordered = let gr = grows rows key value small sound t in gr.ordered

      -- the row of the head
      head_row : (root next depth : ℕ) → FitsRec (rec.HeadImage root next depth) → IsPushable (row_of bucket 0 ((old 0).1 + 1) (rec.HeadImage root next depth))
      head_row root next depth fit = record { bucket = bucket_below key; number = omega arith; head = (λ z. refl, λ k. refl); version = omega arith; rec = fit }

      abbrev push : Option (List ℕ × ℕ) → Push
      push s = with_head bucket (old 0).1 t.root t.next t.depth (g rows key value small sound t).rows (g rows key value small sound t).next s

      head_pushed : (s : Option (List ℕ × ℕ)) → (g rows key value small sound t).split ≡ s → (push s).next ≤ 1048576 → (push s).depth ≤ 8 → ArePushable (push s).rows
      unfolding with_head
      head_pushed None is enough few = by ((g rows key value small sound t).next == t.next) (grown_fits enough)
        where
          by : (b : Bool) → FitsGrowth (g rows key value small sound t)
              → ArePushable (cond b (g rows key value small sound t).rows ((g rows key value small sound t).rows ++ row_of bucket 0 ((old 0).1 + 1) (rec.HeadImage t.root (g rows key value small sound t).next t.depth) ∷ []))
          by true w = w.rows
          by false w =
              let h = head_fits t in let n = h.1 in let o = ordered in
              all_append IsPushable (g rows key value small sound t).rows _ w.rows (head_row t.root (g rows key value small sound t).next t.depth (h.0, omega (arith, n, o), enough, h.3, h.4), tt)
      head_pushed (Some split) is enough few =
          let w = grown_fits (omega (arith, enough)) in
          let s : FitsKey split.0 × FitsChild split.1 = subst FitsSplit is w.split in
          let h = head_fits t in let n = h.1 in let o = ordered in
          let child : FitsChild (g rows key value small sound t).next = (omega (arith, n, o), omega (arith, enough)) in
          all_append IsPushable (g rows key value small sound t).rows _ w.rows (
            body_row bucket (bucket_below key) (g rows key value small sound t).next 1 (rec.InnerImage (split.0 ∷ []) (t.root ∷ split.1 ∷ [])) child (omega arith) (λ k. absurd (omega (arith, k)))
                (omega arith, omega arith, (h.0, (s.1, tt)), (s.0, tt), refl),
            (head_row (g rows key value small sound t).next ((g rows key value small sound t).next + 1) (t.depth + 1) (child, omega (arith, n, o), enough, omega arith, few), tt),
          )

      tree_pushed : (set_push bucket old (key, value) (old 0).0).next ≤ 1048576 → (set_push bucket old (key, value) (old 0).0).depth ≤ 8 → ArePushable (set_push bucket old (key, value) (old 0).0).rows
      unfolding set_push g height
      tree_pushed =
          subst (λ n. (set_push bucket old (key, value) n).next ≤ 1048576 → (set_push bucket old (key, value) n).depth ≤ 8 → ArePushable (set_push bucket old (key, value) n).rows) (sym t.is)
          (head_pushed (g rows key value small sound t).split refl)

    set_pushed : (value : List ℕ) → FitsPair (key, value) → (set_push bucket old (key, value) (old 0).0).next ≤ 1048576 → (set_push bucket old (key, value) (old 0).0).depth ≤ 8 → ArePushable (set_push bucket old (key, value) (old 0).0).rows
    set_pushed value pair = tree_pushed value pair tree

    abbrev Pushes : Push → Type 0
    Pushes p = p.next ≤ 1048576 → p.depth ≤ 8 → ArePushable p.rows

    add_pushed : (by : ℤ) → FitsKey key → FitsSigned w64 by → (pairs : List Pair) (o : Option ℤ) → Pushes (add_push bucket old key by pairs (add_answer key o by).1)
    unfolding add_push add_answer sum_answer
    add_pushed by fit signed pairs None = λ enough few. tt
    add_pushed by fit signed pairs (Some n) = sums (is_i64 (n +ℤ by)) refl
      where
        there : (b : Bool) → is_i64 (n +ℤ by) ≡ true → Pushes (cond {A = Push} b (leaf_push bucket old key (rec.Plus key by) (old 0).0) (set_push bucket old (key, number_text (n +ℤ by)) (old 0).0))
        there true e = λ enough few. one_row (rec.Plus key by) (λ k. absurd (omega (arith, k))) (fit, signed)
        there false e = set_pushed (number_text (n +ℤ by)) (fit, text_fits (n +ℤ by) e)

        sums : (b : Bool) → is_i64 (n +ℤ by) ≡ b → Pushes (add_push bucket old key by pairs (cond {A = Reply × List Write} b (reply.Sum (n +ℤ by), write.Set key (number_text (n +ℤ by)) ∷ []) (reply.OutOfRange, [])).1)
        sums true e = there (has pairs key) e
        sums false e = λ enough few. tt

  call_pushed : (c : Call) → FitsCall c → (push_of rows c).next ≤ 1048576 → (push_of rows c).depth ≤ 8 → ArePushable (push_of rows c).rows
  unfolding push_of call_push answer
  call_pushed (call.Get key) fit = λ enough few. tt
  call_pushed (call.Put key value) fit = set_pushed key value fit
  call_pushed (call.Del key) fit = by (has (pairs_beside (nodes_of rows (bucket_of key)) key (nodes_of rows (bucket_of key) 0).0) key)
    where
      by : (b : Bool) → (cond {A = Push} b (leaf_push (bucket_of key) (nodes_of rows (bucket_of key)) key (rec.Del key) (nodes_of rows (bucket_of key) 0).0) nothing_pushed).next ≤ 1048576
          → (cond {A = Push} b (leaf_push (bucket_of key) (nodes_of rows (bucket_of key)) key (rec.Del key) (nodes_of rows (bucket_of key) 0).0) nothing_pushed).depth ≤ 8
          → ArePushable (cond {A = Push} b (leaf_push (bucket_of key) (nodes_of rows (bucket_of key)) key (rec.Del key) (nodes_of rows (bucket_of key) 0).0) nothing_pushed).rows
      by true = λ enough few. one_row key (rec.Del key) (λ k. absurd (omega (arith, k))) fit
      by false = λ enough few. tt
  call_pushed (call.Add key by) fit =
      add_pushed key by fit.0 fit.1 (pairs_beside (nodes_of rows (bucket_of key)) key (nodes_of rows (bucket_of key) 0).0) (number_at (pairs_beside (nodes_of rows (bucket_of key)) key (nodes_of rows (bucket_of key) 0).0) key)
  call_pushed (call.Scan low high limit) fit = λ enough few. tt

  one_call : (c : Call) (new : List Row) → FitsCall c → pushed rows c ≡ Ok new → AllByRecursion (FitsRow mark.Two) new
  one_call c new fit is =
      let w = within (push_of rows c) new is in
      subst (AllByRecursion (FitsRow mark.Two)) w.rows (all_both IsPushable (λ row. row.version ≤ greatest) (FitsRow mark.Two) row_fits (push_of rows c).rows (call_pushed c fit w.next w.depth) w.versions)

pub pushed_fits : PushedFits
unfolding all_pushed
pushed_fits rows new [] calls sound fits is = let e : [] ≡ new = cc in subst (AllByRecursion (FitsRow mark.Two)) e tt
pushed_fits rows new (c ∷ cs) calls sound fits is = by (pushed rows c) refl is (λ one more sound' fits' is'. pushed_fits (rows ++ one) more cs calls.1 sound' fits' is')
  where
    are_small : AreSmall rows
    are_small = record { each = all_map (FitsRow mark.Two) (λ row. IsTrue (is_small row.rec)) (λ row f. small_law mark.Two row f) rows fits }

    by : (r : Result (List Row) Why) → pushed rows c ≡ r → and_then r (λ one. and_then (all_pushed (rows ++ one) cs) (λ more. Ok (one ++ more))) ≡ Ok new
        → ((one more : List Row) → IsSound (rows ++ one) → AllByRecursion (FitsRow mark.Two) (rows ++ one) → all_pushed (rows ++ one) cs ≡ Ok more → AllByRecursion (FitsRow mark.Two) more)
        → AllByRecursion (FitsRow mark.Two) new
    by (Err why) e is rest = absurd (cc)
    by (Ok one) e is rest = of (all_pushed (rows ++ one) cs) refl is
      where
        of : (r : Result (List Row) Why) → all_pushed (rows ++ one) cs ≡ r → and_then r (λ more. Ok (one ++ more)) ≡ Ok new → AllByRecursion (FitsRow mark.Two) new
        of (Err why) e' is' = absurd (cc)
        of (Ok more) e' is' =
            let p = pushed_law rows one c are_small sound e in let h = p.has_map in
            let here = one_call rows fits are_small sound c one calls.0 e in
            let joined : one ++ more ≡ new = cc in
            subst (AllByRecursion (FitsRow mark.Two)) joined
            (all_append (FitsRow mark.Two) one more here (rest one more h.sound (all_append (FitsRow mark.Two) rows one fits here) e'))
