-- The order of rows from one list to the next.
use Rattle.std.proofs.Common.{◌≡◌, ◌≤◌, Bool, true, false, ◌&&◌, List, [], ◌∷◌, ◌++◌, length, Some, None, refl, sym, ap, ◌∙◌, subst, arith}
use Rattle.std.specs.Prelude.{Option}
use Rattle.std.specs.List.{AllByRecursion}
use Rattle.std.specs.Ordering.{nat_cmp, ordering_then, is_lt}
use Rattle.std.proofs.lemmas.Grind.{flat_map-append}
use Rattle.std.proofs.lemmas.List.{append-nil}
use Rattle.std.proofs.Math.Bool.{and_assoc}
use Rattle.fine_model.specs.declared.NodeId.{NodeId}
use Rattle.fine_model.specs.declared.Row.{Row}
use Rattle.fine_model.specs.Merge.{node_cmp, is_node_below, is_row_below, is_ordered}
use Rattle.fine_model.proofs.Ordered.Order.{less}
use Rattle.partition_merge.specs.Merging.{follows, last_node}
use Rattle.partition_merge.specs.Mergers.{all_of, are_apart}
use Rattle.partition_merge.proofs.Nodes.{names}
use Rattle.partition_merge.proofs.Ahead.{below_named}

lower_row : (a b : Row) → is_node_below a.node b.node ≡ true → is_row_below a b ≡ true
lower_row a b h = ap (λ o. is_lt (ordering_then o (nat_cmp a.version b.version))) (less (node_cmp a.node b.node) h)

-- rows and then rows of higher nodes are in order where both are
pub ordered_joined : (front rows : List Row) → follows (last_node front) rows ≡ true → is_ordered (front ++ rows) ≡ (is_ordered front && is_ordered rows)
ordered_joined [] rows up = refl
ordered_joined (a ∷ []) [] up = refl
ordered_joined (a ∷ []) (b ∷ rows) up = ap (λ t. t && is_ordered (b ∷ rows)) (lower_row a b up)
ordered_joined (a ∷ b ∷ front) rows up = ap (λ t. is_row_below a b && t) (ordered_joined (b ∷ front) rows up) ∙ sym (and_assoc (is_row_below a b) (is_ordered (b ∷ front)) (is_ordered rows))

-- ---- the last row

-- the last of two lists is that of the second, if this one has rows
pub last_joined : (front rows : List Row) → 1 ≤ length rows → last_node (front ++ rows) ≡ last_node rows
last_joined [] rows some = refl
last_joined (a ∷ []) [] some = absurd (omega (arith, some))
last_joined (a ∷ []) (b ∷ rows) some = refl
last_joined (a ∷ b ∷ front) rows some = last_joined (b ∷ front) rows some

-- the last one of rows of a node
pub last_own : (n : NodeId) (rows : List Row) → 1 ≤ length rows → AllByRecursion (λ r. r.node ≡ n) rows → last_node rows ≡ Some n
last_own n [] some own = absurd (omega (arith, some))
last_own n (a ∷ []) some own = ap Some own.0
last_own n (a ∷ b ∷ rows) some own = last_own n (b ∷ rows) (omega arith) own.1

-- ---- rows that are left

-- all of some rows are of higher nodes than one, if there is one
abbrev pub AreOver : Option NodeId → List Row → Type 0
AreOver None rows = Unit {0}
AreOver (Some id) rows = AllByRecursion (λ s. is_node_below id s.node ≡ true) rows

pub follows_over : (last : Option NodeId) (n : NodeId) (rows left : List Row) → AreOver last left → names n left ≡ true → AllByRecursion (λ r. r.node ≡ n) rows → follows last rows ≡ true
follows_over None n rows left over named own = refl
follows_over (Some id) n [] left over named own = refl
follows_over (Some id) n (r ∷ rows) left over named own = subst (λ k. is_node_below id k ≡ true) (sym own.0) (below_named id n left over named)

-- ---- lists of rows

pub all_pushed : (joins : List (List Row)) (rows : List Row) → all_of (joins ++ rows ∷ []) ≡ all_of joins ++ rows
all_pushed joins rows = flat_map-append (λ (xs : List Row). xs) joins (rows ∷ []) ∙ ap (λ xs. all_of joins ++ xs) (append-nil rows)

-- the node with which the last of some lists ends
abbrev pub last_of : Option NodeId → List (List Row) → Option NodeId
last_of last [] = last
last_of last (rows ∷ later) = last_of (last_node rows) later

pub last_pushed : (last : Option NodeId) (joins : List (List Row)) (rows : List Row) → last_of last (joins ++ rows ∷ []) ≡ last_node rows
last_pushed last [] rows = refl
last_pushed last (own ∷ joins) rows = last_pushed (last_node own) joins rows

and_true : (a : Bool) → (a && true) ≡ a
and_true true = refl
and_true false = refl

pub apart_pushed : (last : Option NodeId) (joins : List (List Row)) (rows : List Row) → are_apart last (joins ++ rows ∷ []) ≡ (are_apart last joins && follows (last_of last joins) rows)
apart_pushed last [] rows = and_true (follows last rows)
apart_pushed last (own ∷ joins) rows = ap (λ t. follows last own && t) (apart_pushed (last_node own) joins rows) ∙ sym (and_assoc (follows last own) (are_apart (last_node own) joins) (follows (last_of (last_node own) joins) rows))

-- a list more behind others
pub in_order : (last : Option NodeId) (joins : List (List Row)) (rows : List Row) → last ≡ last_node (all_of joins) → last ≡ last_of None joins
    → ((is_ordered (all_of joins) && are_apart None joins) && (follows last rows && is_ordered rows)) ≡ (is_ordered (all_of (joins ++ rows ∷ [])) && are_apart None (joins ++ rows ∷ []))
in_order last joins rows all each = by (follows last rows) refl
  where
    A : Bool
    A = is_ordered (all_of joins)

    B : Bool
    B = are_apart None joins

    later : Bool
    later = is_ordered (all_of (joins ++ rows ∷ []))

    apart : are_apart None (joins ++ rows ∷ []) ≡ (B && follows last rows)
    apart = apart_pushed None joins rows ∙ ap (λ l. B && follows l rows) (sym each)

    swap : (a b o : Bool) → ((a && b) && o) ≡ ((a && o) && (b && true))
    swap true true true = refl
    swap true true false = refl
    swap true false true = refl
    swap true false false = refl
    swap false b o = refl

    none : (a b x : Bool) → ((a && b) && false) ≡ (x && (b && false))
    none true true true = refl
    none true true false = refl
    none true false true = refl
    none true false false = refl
    none false true true = refl
    none false true false = refl
    none false false true = refl
    none false false false = refl

    by : (f : Bool) → follows last rows ≡ f → ((A && B) && (follows last rows && is_ordered rows)) ≡ (later && are_apart None (joins ++ rows ∷ []))
    by true e =
        ap (λ t. (A && B) && (t && is_ordered rows)) e ∙ swap A B (is_ordered rows)
        ∙ ap (λ t. t && (B && true)) (sym (ap is_ordered (all_pushed joins rows) ∙ ordered_joined (all_of joins) rows (sym (ap (λ l. follows l rows) all) ∙ e)))
        ∙ ap (λ t. later && t) (sym (apart ∙ ap (λ t. B && t) e))
    by false e = ap (λ t. (A && B) && (t && is_ordered rows)) e ∙ none A B later ∙ ap (λ t. later && t) (sym (apart ∙ ap (λ t. B && t) e))
