-- What a bucket stands for is said by the entries in it.
use Rattle.std.proofs.Common.{◌≡◌, ◌⊎◌, ℕ, ◌<◌, ◌==◌, ◌||◌, ◌&&◌, Bool, true, false, true≢false, cond, List, [], ◌∷◌, ◌++◌, Option, Some, None, refl, sym, ap, ◌∙◌, subst, inl, inr, ⊎_elim, arith, eq-eqb, ne_eqb}
use Rattle.std.specs.List.{list_any}
use Rattle.std.proofs.lemmas.List.Elements.{filter-append}
use Rattle.std.proofs.lemmas.Grind.{flat_map-append}
use Rattle.fine_model.specs.declared.Entry.{Entry}
use Rattle.fine_model.specs.declared.Row.{Row}
use Rattle.fine_model.specs.declared.NodeId.{NodeId}
use Rattle.fine_model.specs.Nodes.{Content, content, replay, base, rows_of, is_node}
use Rattle.fine_model.specs.History.{Commit, all_rows}
use Rattle.fine_places.specs.declared.model.Placed.{Placed}
use Rattle.fine_places.specs.History as places
use Rattle.fine_places.specs.History.{touching}
use Rattle.fine_hall.specs.declared.turn.Turn.{Turn}
use Rattle.fine_hall.specs.declared.law.Beginning.{Beginning}
use Rattle.fine_hall.specs.Turns.{added, commits, is_in, is_some_in, in_bucket, touches_bucket}
use Rattle.fine_model.specs.Buckets.{IsUpTo, IsBucketFor, node_id}

pub bool_cases : (b : Bool) → (b ≡ true) ⊎ (b ≡ false)
bool_cases true = inl refl
bool_cases false = inr refl

pub or_right : (a b : Bool) → (a || b) ≡ false → b ≡ false
or_right true b e = absurd (true≢false e)
or_right false b e = e

pub or_left : (a b : Bool) → (a || b) ≡ false → a ≡ false
or_left true b e = absurd (true≢false e)
or_left false b e = refl

-- ---- the turns that touch a bucket

pub commits_more : (a b : List (Placed Turn)) → commits (a ++ b) ≡ commits a ++ commits b
unfolding commits
commits_more a b = flat_map-append (λ t. added t.item.entry t.item.epoch) a b

kept_commits : (b : Bool) (t : Placed Turn) (ts : List (Placed Turn)) → commits (cond b (t ∷ ts) ts) ≡ cond b (added t.item.entry t.item.epoch) [] ++ commits ts
unfolding commits
kept_commits true t ts = refl
kept_commits false t ts = refl

kept_added : (k : ℕ) (o : Option Entry) (epoch : ℕ) → cond (is_some_in k o) (added o epoch) [] ≡ in_bucket k (added o epoch)
kept_added k None epoch = refl
kept_added k (Some entry) epoch = refl

below : (k : ℕ) → k < places.room → (k == places.room) ≡ false
below k near = ne_eqb k places.room (λ e. omega arith)

pub commits_touching : (k : ℕ) → k < places.room → (turns : List (Placed Turn)) → commits (touching touches_bucket k turns) ≡ in_bucket k (commits turns)
unfolding commits
commits_touching k near [] = refl
commits_touching k near (t ∷ ts) =
    ap (λ b. commits (cond (b || touches_bucket k t.item) (t ∷ touching touches_bucket k ts) (touching touches_bucket k ts))) (below k near)
    ∙ (kept_commits (touches_bucket k t.item) t (touching touches_bucket k ts)
    ∙ ((λ i. kept_added k t.item.entry t.item.epoch i ++ commits_touching k near ts i)
    ∙ sym (filter-append (λ c. is_in k c.entry) (added t.item.entry t.item.epoch) (commits ts))))

-- ---- the rows on a node of a bucket

eqb_sym : (a b : ℕ) → (a == b) ≡ false → (b == a) ≡ false
eqb_sym a b e = ne_eqb b a (λ q. true≢false (sym (eq-eqb a b (sym q)) ∙ e))

not_node : (id : NodeId) (row : Row) → (row.node.bucket == id.bucket) ≡ false → is_node id row.node ≡ false
not_node id row e = ap (λ b. b && (id.number == row.node.number)) (eqb_sym row.node.bucket id.bucket e)

no_rows : (id : NodeId) (rows : List Row) → list_any (λ row. row.node.bucket == id.bucket) rows ≡ false → rows_of id rows ≡ []
no_rows id [] e = refl
no_rows id (row ∷ rows) e = ap (λ b. cond b (row ∷ rows_of id rows) (rows_of id rows)) (not_node id row (or_left (row.node.bucket == id.bucket) _ e)) ∙ no_rows id rows (or_right (row.node.bucket == id.bucket) _ e)

none_on : (id : NodeId) (rows : List Row) → list_any (λ row. row.node.bucket == id.bucket) rows ≡ false → list_any (λ row. is_node id row.node) rows ≡ false
none_on id [] e = refl
none_on id (row ∷ rows) e = ap (λ b. b || list_any (λ r. is_node id r.node) rows) (not_node id row (or_left (row.node.bucket == id.bucket) _ e)) ∙ none_on id rows (or_right (row.node.bucket == id.bucket) _ e)

pub no_row_in : (k : ℕ) (entry : Entry) → is_in k entry ≡ false → list_any (λ row. row.node.bucket == k) entry.rows ≡ false
unfolding is_in
no_row_in k entry e = or_right _ (list_any (λ row. row.node.bucket == k) entry.rows) e

-- an entry that is not in a bucket adds no row to its nodes
rows_beside : (id : NodeId) (history : List Commit) → rows_of id (all_rows history) ≡ rows_of id (all_rows (in_bucket id.bucket history))
rows_beside id [] = refl
rows_beside id (c ∷ cs) = filter-append (λ row. is_node id row.node) c.entry.rows (all_rows cs) ∙ ⊎_elim
    (λ e. (ap (λ l. rows_of id c.entry.rows ++ l) (rows_beside id cs) ∙ sym (filter-append (λ row. is_node id row.node) c.entry.rows (all_rows (in_bucket id.bucket cs))))
    ∙ ap (λ b. rows_of id (all_rows (cond b (c ∷ in_bucket id.bucket cs) (in_bucket id.bucket cs)))) (sym e))
    (λ e. (ap (λ l. l ++ rows_of id (all_rows cs)) (no_rows id c.entry.rows (no_row_in id.bucket c.entry e)) ∙ rows_beside id cs)
    ∙ ap (λ b. rows_of id (all_rows (cond b (c ∷ in_bucket id.bucket cs) (in_bucket id.bucket cs)))) (sym e))
    (bool_cases (is_in id.bucket c.entry))

pub content_beside : (first : List Row) (id : NodeId) (history : List Commit) → content (first ++ all_rows history) id ≡ content (first ++ all_rows (in_bucket id.bucket history)) id
unfolding content
content_beside first id history = ap (replay (base id)) (filter-append (λ row. is_node id row.node) first (all_rows history)
    ∙ (ap (λ l. rows_of id first ++ l) (rows_beside id history) ∙ sym (filter-append (λ row. is_node id row.node) first (all_rows (in_bucket id.bucket history)))))

-- histories with the same entries in a bucket leave the same content in each of its nodes
pub same_content : (k : ℕ) (h h' : List Commit) → in_bucket k h ≡ in_bucket k h' → (first : List Row) (n : ℕ) → content (first ++ all_rows h) (node_id k n) ≡ content (first ++ all_rows h') (node_id k n)
same_content k h h' same first n = content_beside first (node_id k n) h ∙ (ap (λ l. content (first ++ all_rows l) (node_id k n)) same ∙ sym (content_beside first (node_id k n) h'))

up_to_in : (e : ℕ) (id : NodeId) (history : List Commit) → IsUpTo e id history → IsUpTo e id (in_bucket id.bucket history)
up_to_in e id [] u = tt
up_to_in e id (c ∷ cs) u = go (is_in id.bucket c.entry) (up_to_in e id cs u.1)
  where
    go : (b : Bool) → IsUpTo e id (in_bucket id.bucket cs) → IsUpTo e id (cond b (c ∷ in_bucket id.bucket cs) (in_bucket id.bucket cs))
    go true v = (u.0, v)
    go false v = v

up_to_all : (e : ℕ) (id : NodeId) (history : List Commit) → IsUpTo e id (in_bucket id.bucket history) → IsUpTo e id history
up_to_all e id [] u = tt
up_to_all e id (c ∷ cs) u = ⊎_elim
    (λ q. let v = subst (λ b. IsUpTo e id (cond b (c ∷ in_bucket id.bucket cs) (in_bucket id.bucket cs))) q u in (v.0, up_to_all e id cs v.1))
    (λ q. let v = subst (λ b. IsUpTo e id (cond b (c ∷ in_bucket id.bucket cs) (in_bucket id.bucket cs))) q u in
    ((λ on. absurd (true≢false (sym on ∙ none_on id c.entry.rows (no_row_in id.bucket c.entry q)))), up_to_all e id cs v))
    (bool_cases (is_in id.bucket c.entry))

pub same_up_to : (e k n : ℕ) (h h' : List Commit) → in_bucket k h ≡ in_bucket k h' → IsUpTo e (node_id k n) h → IsUpTo e (node_id k n) h'
same_up_to e k n h h' same u = up_to_all e (node_id k n) h' (subst (IsUpTo e (node_id k n)) same (up_to_in e (node_id k n) h u))

-- what a bucket stands for it stands for after each history with the same entries in it
pub same_bucket : {B : Type 0} (bucket : B → ℕ) (cached : B → ℕ → Option (Content × ℕ)) (is_settled : B → Type 0) (x : Beginning) (k p : ℕ) (b : B) (h h' : List Commit) → in_bucket k h ≡ in_bucket k h'
    → IsBucketFor bucket cached is_settled x.log k p b h → IsBucketFor bucket cached is_settled x.log k p b h'
same_bucket bucket cached is_settled x k p b h h' same s = record {
  number = s.number;
  settled = s.settled;
  nodes = λ n kept there. let q = s.nodes n kept there in record {
    content = λ e first began. q.content e first began ∙ same_content k h h' same first n;
    epoch = same_up_to kept.1 k n h h' same q.epoch;
  };
  absent = λ n none. same_up_to p k n h h' same (s.absent n none);
}

-- what is in a bucket is in it again
pub in_again : (k : ℕ) (history : List Commit) → in_bucket k (in_bucket k history) ≡ in_bucket k history
in_again k [] = refl
in_again k (c ∷ cs) = ⊎_elim
    (λ e. ap (λ b. in_bucket k (cond b (c ∷ in_bucket k cs) (in_bucket k cs))) e ∙ (ap (λ b. cond b (c ∷ in_bucket k (in_bucket k cs)) (in_bucket k (in_bucket k cs))) e ∙ (ap (λ l. c ∷ l) (in_again k cs) ∙ ap (λ b. cond b (c ∷ in_bucket k cs) (in_bucket k cs)) (sym e))))
    (λ e. ap (λ b. in_bucket k (cond b (c ∷ in_bucket k cs) (in_bucket k cs))) e ∙ (in_again k cs ∙ ap (λ b. cond b (c ∷ in_bucket k cs) (in_bucket k cs)) (sym e)))
    (bool_cases (is_in k c.entry))

-- what lies at a bucket's place stands for the whole history as for what touches the place
pub for_all : {B : Type 0} (bucket : B → ℕ) (cached : B → ℕ → Option (Content × ℕ)) (is_settled : B → Type 0) (x : Beginning) (k p : ℕ) (b : B) (turns : List (Placed Turn)) → k < places.room
    → IsBucketFor bucket cached is_settled x.log k p b (commits (touching touches_bucket k turns)) → IsBucketFor bucket cached is_settled x.log k p b (commits turns)
for_all bucket cached is_settled x k p b turns near s = same_bucket bucket cached is_settled x k p b _ (commits turns) (ap (in_bucket k) (commits_touching k near turns) ∙ in_again k (commits turns)) s

pub for_touching : {B : Type 0} (bucket : B → ℕ) (cached : B → ℕ → Option (Content × ℕ)) (is_settled : B → Type 0) (x : Beginning) (k p : ℕ) (b : B) (turns : List (Placed Turn)) → k < places.room
    → IsBucketFor bucket cached is_settled x.log k p b (commits turns) → IsBucketFor bucket cached is_settled x.log k p b (commits (touching touches_bucket k turns))
for_touching bucket cached is_settled x k p b turns near s = same_bucket bucket cached is_settled x k p b (commits turns) _ (sym (ap (in_bucket k) (commits_touching k near turns) ∙ in_again k (commits turns))) s
