-- What a bucket stands for from one transaction to the next.
use Rattle.std.proofs.Common.{◌≡◌, ◌≢◌, ⊎_elim, ℕ, nat_le, ◌<◌, ◌≤◌, ◌==◌, Bool, true, false, true≢false, ◌||◌, cond, List, [], ◌∷◌, ◌++◌, Option, Some, None, is_some, option_map, refl, sym, ap, subst, ◌∙◌, append-nil, append_assoc, le_refl, le_trans, arith}
use Rattle.std.specs.Prelude.{All, IfSome, if◌then◌else◌, unwrap_or}
use Rattle.std.specs.List.{AllByRecursion, list_any}
use Rattle.std.proofs.lemmas.Bool.Decides.{leb_tells}
use Rattle.std.proofs.lemmas.List.Elements.{All-head, All-tail, filter-append}
use Rattle.fine_model.specs.declared.Node.TheVariants as node
use Rattle.fine_model.specs.declared.NodeId.{NodeId}
use Rattle.fine_model.specs.declared.Row.{Row}
use Rattle.fine_model.specs.declared.law.Origin.{Origin}
use Rattle.fine_model.specs.Buckets.{Began, IsNodeFor, IsUpTo, has_row_on, node_id}
use Rattle.fine_model.specs.History.{Commit, all_rows}
use Rattle.fine_model.specs.Nodes.{Content, content, is_node, replay, rows_of}
use Rattle.fine_model.specs.Trees.{nodes_of}
use Rattle.fine_model.proofs.Histories.Epochs.{rows_push}
use Rattle.fine_model.proofs.Trees.NodeLaws.{content-append, rows_of-append}
use Rattle.fine_model.proofs.Ordered.Order.{all_map, filter_none}
use Rattle.fine_model.proofs.Ordered.Sets.{all_append, all_filter}
use Rattle.fine_model.proofs.Merging.UpTo.{no_rows, same_content}
use Rattle.node_cache.specs.declared.cached.Cached.{Cached}
use Rattle.node_cache.specs.Cache.{Cache, IsResting, IsSaved, after, before, cached, original}
use Rattle.node_cache.specs.Entries.{stamped}
use Rattle.node_cache.specs.Given.{IsCached}
use Rattle.btree_nodes.specs.Trees.{Holds, Restores}
use Rattle.btree_nodes.proofs.Loads.{none_or_some}
use Rattle.btree_nodes.proofs.Steps.{given_is}
use Rattle.btree_nodes.proofs.Rested.{holds_at_rest}
use Rattle.txn_draft.specs.Drafts.{is_here}
use Rattle.txn_draft.specs.Laws.{AreElsewhere}
use Rattle.txn_draft.specs.Standing.{BesideLaw, EvictLaw, HoldsLaw, IsLeft, NewLaw, SameLaw, ServesLaw, SettleLaw, StandsFor, UndoLaw, UntouchedLaw, commits_in, has_row_in}
use Rattle.txn_draft.specs.Uses.{IsUsed, Undoes}

-- ---- rows on a node

some_same : {A : Type 0} (a b : A) → ◌≡◌ {A = Option A} (Some a) (Some b) → a ≡ b
some_same a b e = cc

none_some : {A P : Type 0} (a : A) → ◌≡◌ {A = Option A} None (Some a) → P
none_some a e = absurd cc

up_to : (p q : ℕ) (id : NodeId) (history : List Commit) → p ≤ q → IsUpTo p id history → IsUpTo q id history
up_to p q id history le up = all_map (λ c. has_row_on id c ≡ true → c.epoch ≤ p) (λ c. has_row_on id c ≡ true → c.epoch ≤ q) (λ c below on. le_trans (below on) le) history up

all_up_to : (e : ℕ) (id : NodeId) (history : List Commit) → All (λ d. d.epoch ≤ e) history → IsUpTo e id history
all_up_to e id [] all = tt
all_up_to e id (c ∷ cs) all = (λ on. All-head (λ (d : Commit). d.epoch ≤ e) c cs all, all_up_to e id cs (All-tail (λ (d : Commit). d.epoch ≤ e) c cs all))

-- what a row of some node has, that node has
of_row : (P : Row → Type 0) (Q : Type 0) (id : NodeId) → ((row : Row) → row.node ≡ id → P row → Q) → (rows : List Row) → AllByRecursion P rows → list_any (λ row. is_node id row.node) rows ≡ true → Q
of_row P Q id one [] all on = absurd (true≢false (sym on))
of_row P Q id one (row ∷ rows) all on = by (is_node id row.node) refl (of_row P Q id one rows all.1) on
  where
    same_id : (a b : NodeId) → is_node a b ≡ true → b ≡ a
    same_id a b is = let both : (b.bucket ≡ a.bucket) × (b.number ≡ a.number) = (grind (arith, is), grind (arith, is)) in λ i. record { bucket = both.0 i; number = both.1 i }

    by : (t : Bool) → is_node id row.node ≡ t → (list_any (λ r. is_node id r.node) rows ≡ true → Q) → t || list_any (λ r. is_node id r.node) rows ≡ true → Q
    by true is rest _ = one row (same_id id row.node is) all.0
    by false _ rest there = rest there

-- ---- a bucket node by node

-- what is kept of a node, or that nothing is, is right for a history
abbrev AtNode : Origin → NodeId → ℕ → List Commit → Option Cached → Type 0
AtNode log id p history None = IsUpTo p id history
AtNode log id p history (Some kept) = IsNodeFor log id ((kept.node, kept.version), kept.epoch) history

abbrev as_kept : Cached → Content × ℕ
as_kept kept = ((kept.node, kept.version), kept.epoch)

module _ (log : Origin) (k p : ℕ) (history : List Commit) where
  at_node : (b : Cache) → StandsFor log k p b history → (n : ℕ) → AtNode log (node_id k n) p history (cached b n)
  at_node b stands n = by (cached b n) refl
    where
      by : (o : Option Cached) → cached b n ≡ o → AtNode log (node_id k n) p history o
      by None is = stands.absent n (ap (option_map as_kept) is)
      by (Some kept) is = stands.nodes n (as_kept kept) (ap (option_map as_kept) is)

  stands_at : (b : Cache) → b.bucket ≡ k → IsResting b → ((n : ℕ) → AtNode log (node_id k n) p history (cached b n)) → StandsFor log k p b history
  stands_at b number resting each = record {
    number = number;
    settled = resting;
    nodes = λ n kept there. node (node_id k n) kept (cached b n) there (each n);
    absent = λ n none. gone (node_id k n) (cached b n) none (each n);
  }
    where
      node : (id : NodeId) (kept : Content × ℕ) (o : Option Cached) → option_map as_kept o ≡ Some kept → AtNode log id p history o → IsNodeFor log id kept history
      node id kept None is at = none_some kept is
      node id kept (Some x) is at = subst (λ (q : Content × ℕ). IsNodeFor log id q history) (some_same (as_kept x) kept is) at

      gone : (id : NodeId) (o : Option Cached) → option_map as_kept o ≡ None → AtNode log id p history o → IsUpTo p id history
      gone id None is at = at
      gone id (Some x) is at = none_some (as_kept x) (sym is)

  -- what is left of a node is right where what it was is
  left_at : (id : NodeId) (e : ℕ) (was new : Option Cached) → e ≤ p → IfSome new (λ kept. was ≡ Some kept) → IfSome was (λ kept. e < kept.epoch → new ≡ Some kept) → AtNode log id p history was → AtNode log id p history new
  left_at id e was (Some kept) le same all at = subst (AtNode log id p history) same at
  left_at id e None None le same all at = at
  left_at id e (Some kept) None le same all at = up_to kept.epoch p id history (le_trans low le) at.epoch
    where
      low : kept.epoch ≤ e
      low = ⊎_elim (λ (is : (nat_le kept.epoch e ≡ true) × (kept.epoch ≤ e)). is.1) (λ (is : (nat_le kept.epoch e ≡ false) × (e < kept.epoch)). none_some kept (all is.1)) (leb_tells kept.epoch e)

  left_stands : (e : ℕ) (was : ℕ → Option Cached) (old new : Cache) → e ≤ p → old.bucket ≡ k → IsLeft e was old new → ((n : ℕ) → AtNode log (node_id k n) p history (was n)) → StandsFor log k p new history
  left_stands e was old new le number left each = stands_at new (left.bucket ∙ number) left.resting (λ n. left_at (node_id k n) e (was n) (cached new n) le (left.same n) (left.kept n) (each n))

higher : (log : Origin) (id : NodeId) (low p : ℕ) (history : List Commit) (o : Option Cached) → low ≤ p → AtNode log id low history o → AtNode log id p history o
higher log id low p history None le at = up_to low p id history le at
higher log id low p history (Some kept) le at = at

-- ---- the laws

pub new_law : NewLaw
new_law log k p = stands_at log k p [] (record { bucket = k; nodes = []; saved = [] }) refl refl (λ n. tt)

pub holds_law : HoldsLaw
holds_law log k p e b first history began stands = holds_at_rest (first ++ all_rows history) b stands.settled (λ n. each n (cached b n) (at_node log k p history b stands n))
  where
    each : (n : ℕ) (o : Option Cached) → AtNode log (node_id k n) p history o → IfSome o (λ kept. (kept.node, kept.version) ≡ nodes_of (first ++ all_rows history) b.bucket n)
    each n None at = tt
    each n (Some kept) at = at.content e first began ∙ ap (λ j. nodes_of (first ++ all_rows history) j n) (sym stands.number)

pub evict_law : EvictLaw
evict_law log k p e b new history le stands left = left_stands log k p history e (cached b) b new le stands.number left (at_node log k p history b stands)

module _ (k n : ℕ) where
  abbrev id : NodeId
  id = node_id k n

  -- a commit without a row in the bucket has none on a node of it
  none_here : (c : Commit) → has_row_in k c ≡ false → has_row_on id c ≡ false
  none_here c none = go c.entry.rows none
    where
      go : (rows : List Row) → list_any (λ row. row.node.bucket == k) rows ≡ false → list_any (λ row. is_node id row.node) rows ≡ false
      go [] e = refl
      go (row ∷ rows) e = grind (arith, e, go rows)

  rows_in : (history : List Commit) → rows_of id (all_rows (commits_in k history)) ≡ rows_of id (all_rows history)
  rows_in [] = refl
  rows_in (c ∷ cs) = by (has_row_in k c) refl (rows_in cs)
    where
      by : (t : Bool) → has_row_in k c ≡ t → rows_of id (all_rows (commits_in k cs)) ≡ rows_of id (all_rows cs) → rows_of id (all_rows (cond t (c ∷ commits_in k cs) (commits_in k cs))) ≡ rows_of id (all_rows (c ∷ cs))
      by true is rest = rows_of-append id c.entry.rows (all_rows (commits_in k cs)) ∙ (ap (λ l. rows_of id c.entry.rows ++ l) rest ∙ sym (rows_of-append id c.entry.rows (all_rows cs)))
      by false is rest = rest ∙ sym (rows_of-append id c.entry.rows (all_rows cs) ∙ ap (λ l. l ++ rows_of id (all_rows cs)) (no_rows id c.entry.rows (none_here c is)))

  content_in : (first : List Row) (history : List Commit) → content (first ++ all_rows (commits_in k history)) id ≡ content (first ++ all_rows history) id
  content_in first history =
      content-append first (all_rows (commits_in k history)) id ∙ (ap (replay (content first id)) (rows_in history) ∙ sym (content-append first (all_rows history) id))

  narrow_up : (e : ℕ) (history : List Commit) → IsUpTo e id history → IsUpTo e id (commits_in k history)
  narrow_up e history up = all_filter (λ c. has_row_on id c ≡ true → c.epoch ≤ e) (has_row_in k) history up

  widen_up : (e : ℕ) (history : List Commit) → IsUpTo e id (commits_in k history) → IsUpTo e id history
  widen_up e [] up = tt
  widen_up e (c ∷ cs) up = by (has_row_in k c) refl up (widen_up e cs)
    where
      by : (t : Bool) → has_row_in k c ≡ t → IsUpTo e id (cond t (c ∷ commits_in k cs) (commits_in k cs)) → (IsUpTo e id (commits_in k cs) → IsUpTo e id cs) → IsUpTo e id (c ∷ cs)
      by true is up rest = (up.0, rest up.1)
      by false is up rest = (λ on. absurd (true≢false (sym on ∙ none_here c is)), rest up)

  -- what two histories have alike in the bucket is all that a node sees of them
  same_up : (e : ℕ) (history other : List Commit) → commits_in k other ≡ commits_in k history → IsUpTo e id history → IsUpTo e id other
  same_up e history other same up = widen_up e other (subst (IsUpTo e id) (sym same) (narrow_up e history up))

  content_same : (first : List Row) (history other : List Commit) → commits_in k other ≡ commits_in k history → content (first ++ all_rows history) id ≡ content (first ++ all_rows other) id
  content_same first history other same = sym (content_in first history) ∙ (ap (λ cs. content (first ++ all_rows cs) id) (sym same) ∙ content_in first other)

  same_at : (log : Origin) (p : ℕ) (history other : List Commit) (o : Option Cached) → commits_in k other ≡ commits_in k history → AtNode log id p history o → AtNode log id p other o
  same_at log p history other None same up = same_up p history other same up
  same_at log p history other (Some kept) same at = record {
    content = λ e first began. at.content e first began ∙ content_same first history other same;
    epoch = same_up kept.epoch history other same at.epoch;
  }

pub same_law : SameLaw
same_law log k p b history other same stands =
    stands_at log k p other b stands.number stands.settled (λ n. same_at k n log p history other (cached b n) same (at_node log k p history b stands n))

-- commits without a row in a bucket are none in it
none_in : (b : Cache) (cs : List Commit) → AllByRecursion (λ c. AreElsewhere b c.entry.rows) cs → commits_in b.bucket cs ≡ []
none_in b cs other = filter_none (has_row_in b.bucket) cs (all_map (λ c. AreElsewhere b c.entry.rows) (λ c. has_row_in b.bucket c ≡ false) (λ c away. none c.entry.rows away) cs other)
  where
    none : (rows : List Row) → AreElsewhere b rows → list_any (λ row. row.node.bucket == b.bucket) rows ≡ false
    none [] away = refl
    none (row ∷ rows) away = by (row.node.bucket == b.bucket) (λ is. grind (arith, is)) (none rows away.1)
      where
        by : (t : Bool) → (t ≡ true → row.node.bucket ≡ b.bucket) → list_any (λ r. r.node.bucket == b.bucket) rows ≡ false → t || list_any (λ r. r.node.bucket == b.bucket) rows ≡ false
        by true is rest = absurd (away.0 (is refl))
        by false is rest = rest

pub beside_law : BesideLaw
beside_law log k p b history more stands other = same_law log k p b history (history ++ more) same stands
  where
    same : commits_in k (history ++ more) ≡ commits_in k history
    same = filter-append (has_row_in k) history more ∙ (ap (λ cs. commits_in k history ++ cs) (subst (λ j. commits_in j more ≡ []) stands.number (none_in b more other)) ∙ append-nil (commits_in k history))

pub untouched_law : UntouchedLaw
untouched_law d b fits none =
    all_map (λ row. list_any (is_here row.node.bucket) d.calls ≡ true) (λ row. row.node.bucket ≢ b.bucket) (λ row here same. true≢false (sym here ∙ (ap (λ j. list_any (is_here j) d.calls) same ∙ none))) d.rows fits.here

-- a node that was not there when the bucket was taken has no row above the epoch that was published then
absent_then : (log : Origin) (k low : ℕ) (taken : Cache) (history : List Commit) (n : ℕ) → StandsFor log k low taken history → cached taken n ≡ None → IsUpTo low (node_id k n) history
absent_then log k low taken history n stands none = stands.absent n (ap (option_map as_kept) none)

pub serves_law : {S : Type 0} (tells : S → List Row → Type 0) → ServesLaw tells
serves_law tells source log k low upper e taken b own first known history began legal stands used le told agrees = record {
  known = known;
  is_told = told;
  each = λ n none. subst (λ j. (nodes_of rows j n).0 ≢ node.Broken → nodes_of known j n ≡ nodes_of rows j n) (sym (used.undoes.bucket ∙ stands.number)) (at n none);
}
  where
    rows : List Row
    rows = first ++ all_rows history

    was_none : (n : ℕ) → cached b n ≡ None → cached taken n ≡ None
    was_none n none = ⊎_elim (λ gone. gone) (λ here. absurd (true≢false (sym (used.there n here) ∙ ap is_some none))) (none_or_some (cached taken n))

    at : (n : ℕ) → cached b n ≡ None → (nodes_of rows k n).0 ≢ node.Broken → nodes_of known k n ≡ nodes_of rows k n
    at n none fine =
        let same = same_content low upper (node_id k n) first history le legal (absent_then log k low taken history n stands (was_none n none)) in
        agrees.same (node_id k n) (λ broken. fine (ap (λ (c : Content). c.0) (sym same) ∙ broken)) ∙ same

module _ (log : Origin) (k low p : ℕ) (taken b : Cache) (history : List Commit) (le : low ≤ p) (stands : StandsFor log k low taken history) (undoes : Undoes low taken b)
    (restores : (e : ℕ) (first : List Row) → Began log e first → Restores b (first ++ all_rows history)) where
  number_now : b.bucket ≡ k
  number_now = undoes.bucket ∙ stands.number

  before_at : (n : ℕ) → AtNode log (node_id k n) p history (before b n)
  before_at n = ⊎_elim
      (λ none. by (before b n) (undoes.loaded n none) (λ e first began. subst (λ j. IfSome (before b n) (λ kept. (kept.node, kept.version) ≡ nodes_of (first ++ all_rows history) j n)) number_now ((restores e first began).each n))
      (absent_then log k low taken history n stands none))
      (λ here. subst (AtNode log (node_id k n) p history) (sym (undoes.stays n here)) (higher log (node_id k n) low p history (cached taken n) le (at_node log k low history taken stands n)))
      (none_or_some (cached taken n))
    where
      by : (o : Option Cached) → IfSome o (λ kept. low ≤ kept.epoch) → ((e : ℕ) (first : List Row) → Began log e first → IfSome o (λ kept. (kept.node, kept.version) ≡ nodes_of (first ++ all_rows history) k n))
          → IsUpTo low (node_id k n) history → AtNode log (node_id k n) p history o
      by None late is up = up_to low p (node_id k n) history le up
      by (Some kept) late is up = record { content = is; epoch = up_to low kept.epoch (node_id k n) history late up }

pub undo_law : UndoLaw
undo_law log k low p e taken b new history le less stands undoes restores left =
    left_stands log k p history e (before b) b new less (undoes.bucket ∙ stands.number) left (before_at log k low p taken b history le stands undoes restores)

module _ (log : Origin) (k low p : ℕ) (taken b : Cache) (history : List Commit) (c : Commit) (le : low ≤ p) (epochs : All (λ d. d.epoch ≤ c.epoch) history)
    (stands : StandsFor log k low taken history) (used : IsUsed low taken b c.entry.rows) (holds : (e : ℕ) (first : List Row) → Began log e first → Holds b (first ++ all_rows history) c.entry.rows) where
  here_now : b.bucket ≡ k
  here_now = used.undoes.bucket ∙ stands.number

  -- a node on which the commit has a row was saved, and is cached
  on_node : (n : ℕ) → has_row_on (node_id k n) c ≡ true → IsSaved b n × IsCached b n
  on_node n on = of_row (λ row. row.node.bucket ≡ b.bucket → IsSaved b row.node.number × IsCached b row.node.number) (IsSaved b n × IsCached b n) (node_id k n)
      (λ row is named. subst (λ m. IsSaved b m × IsCached b m) (ap (λ id. id.number) is) (named (ap (λ id. id.bucket) is ∙ sym here_now))) c.entry.rows used.named on

  longer_up_to : (e n : ℕ) → IsUpTo e (node_id k n) history → (has_row_on (node_id k n) c ≡ true → c.epoch ≤ e) → IsUpTo e (node_id k n) (history ++ c ∷ [])
  longer_up_to e n up one = all_append (λ d. has_row_on (node_id k n) d ≡ true → d.epoch ≤ e) history (c ∷ []) up (one, tt)

  now_content : (n : ℕ) (kept : Cached) → cached b n ≡ Some kept → (e : ℕ) (first : List Row) → Began log e first → (kept.node, kept.version) ≡ nodes_of (first ++ all_rows (history ++ c ∷ [])) k n
  now_content n kept is e first began =
      sym (given_is b n kept is) ∙ ((holds e first began).same n (ap is_some is) ∙ (ap (λ j. nodes_of ((first ++ all_rows history) ++ c.entry.rows) j n) here_now
      ∙ ap (λ rows. nodes_of rows k n) (append_assoc first (all_rows history) c.entry.rows ∙ ap (λ rows. first ++ rows) (sym (rows_push history c)))))

  after_at : (n : ℕ) → AtNode log (node_id k n) p (history ++ c ∷ []) (after b c.epoch n)
  after_at n = by (original b n) (cached b n) refl refl
    where
      was : AtNode log (node_id k n) p history (before b n)
      was = before_at log k low p taken b history le stands used.undoes (λ e first began. (holds e first began).restores) n

      by : (s : Option (Option Cached)) (o : Option Cached) → original b n ≡ s → cached b n ≡ o → AtNode log (node_id k n) p (history ++ c ∷ []) (if is_some s then option_map (stamped c.epoch) o else o)
      by (Some s) (Some kept) saved is = record { content = now_content n kept is; epoch = longer_up_to c.epoch n (all_up_to c.epoch (node_id k n) history epochs) (λ on. le_refl c.epoch) }
      by (Some s) None saved is = absent is
        where
          absent : cached b n ≡ None → IsUpTo p (node_id k n) (history ++ c ∷ [])
          absent none = longer_up_to p n (up_to low p (node_id k n) history le (absent_then log k low taken history n stands (⊎_elim (λ gone. gone) (λ here. absurd (true≢false (sym (used.there n here) ∙ ap is_some none))) (none_or_some (cached taken n)))))
              (λ on. absurd (true≢false (sym (on_node n on).1 ∙ ap is_some none)))
      by None (Some kept) saved is = record {
        content = now_content n kept is;
        epoch = longer_up_to kept.epoch n (subst (AtNode log (node_id k n) p history) (λ i. unwrap_or (saved i) (is i)) was).epoch (λ on. absurd (true≢false (sym (on_node n on).0 ∙ ap is_some saved)));
      }
      by None None saved is = longer_up_to p n (subst (AtNode log (node_id k n) p history) (λ i. unwrap_or (saved i) (is i)) was) (λ on. absurd (true≢false (sym (on_node n on).0 ∙ ap is_some saved)))

pub settle_law : SettleLaw
settle_law log k low p e taken b new history c le less epochs stands used holds left =
    left_stands log k p (history ++ c ∷ []) e (after b c.epoch) b new less (used.undoes.bucket ∙ stands.number) left (after_at log k low p taken b history c le epochs stands used holds)
