-- A change of a pair that is noted: the bucket is as if the number was saved before.
use Rattle.std.proofs.Common.{Result, Ok, Err, IfOk, ◌≡◌, ℕ, Bool, true, false, if◌then◌else◌, List, [], ◌∷◌, ◌++◌, reverse, Option, Some, None, option_map, unwrap_or, is_some, IfSome, nat_eq, eqb-true, refl, sym, ap, subst, ◌∙◌}
use Rattle.std.specs.List.{IsDistinct}
use Rattle.std.specs.Map.{keys_of, lookup, set_value}
use Rattle.std.proofs.lemmas.Map.Steps.{set_value_same}
use Rattle.std.specs.Bool.{OnTrue}
use Rattle.fine_model.specs.declared.list.NoMemory.{NoMemory}
use Rattle.fine_model.specs.declared.Node.TheVariants as node
use Rattle.fine_model.specs.declared.Row.{Row}
use Rattle.fine_model.specs.Trees.{pairs_of}
use Rattle.node_cache.specs.declared.cached.Cached.{Cached}
use Rattle.node_cache.specs.declared.original.Original.{Original}
use Rattle.node_cache.specs.declared.original.Original.TheVariants as original
use Rattle.node_cache.specs.declared.undo.Step.{Step}
use Rattle.node_cache.specs.declared.undo.UndoLog.{UndoLog}
use Rattle.node_cache.specs.Cache.{Cache, cached, saving, rewritten}
use Rattle.node_cache.specs.Undo.{CanTakeAll, all_back, back, latest_first, pushed, IsChangedBy}
use Rattle.node_cache.specs.Originals.{original_of, originals, with_change, noted_at, noted, Stands, IsKept}
use Rattle.node_cache.specs.Changing.{IsStep, IsNotedBy, IsChanged, IsPairChange, ChangesPair}
use Rattle.node_cache.proofs.Poured.{reverse-push}
use Rattle.node_cache.proofs.Restored.{found_last}
use Rattle.node_cache.proofs.Kept.{other_set, other_pushed, same_set, lookup_originals, originals_set, originals_pushed, stands_but}

first_changed : (old new : Cached) (saved saved' : List (ℕ × Original)) (row : Row) (n : IsNotedBy old new saved saved' row) → IsChangedBy new n.undo
first_changed old new saved saved' row n = record {
  leaf = n.step.leaf;
  can = subst (λ xs. CanTakeAll (n.undo.last ∷ reverse xs) (pairs_of new.node)) (sym n.first) (n.step.can, tt);
  was = ap (λ k. k.node) n.original ∙ n.step.was ∙ ap node.Leaf (sym n.step.back) ∙ ap (λ xs. node.Leaf (all_back (n.undo.last ∷ reverse xs) (pairs_of new.node))) (sym n.first);
  version = ap (λ k. k.version) n.original ∙ sym n.version;
  epoch = ap (λ k. k.epoch) n.original ∙ sym n.epoch;
}

later_changed : (s : Step) (old new : Cached) (row : Row) (known : UndoLog) → IsStep s old new row → IsChangedBy old known → IsChangedBy new (pushed known s)
later_changed s old new row known step by_known =
    let behind : reverse (known.earlier ++ known.last ∷ []) ≡ latest_first known = reverse-push known.earlier known.last in
    record {
      leaf = step.leaf;
      can = (step.can, subst (λ l. CanTakeAll l (back s (pairs_of new.node))) (sym behind) (subst (CanTakeAll (latest_first known)) (sym step.back) by_known.can));
      was = by_known.was ∙ ap (λ ps. node.Leaf (all_back (latest_first known) ps)) (sym step.back) ∙ ap (λ l. node.Leaf (all_back l (back s (pairs_of new.node)))) (sym behind);
      version = by_known.version;
      epoch = by_known.epoch;
    }

same_original : (o : Original) (undo : UndoLog) → original_of (with_change o undo) ≡ original_of o
same_original (original.Whole kept) undo = refl
same_original (original.Changed known) undo = refl

-- what was noted at a number, by what was there
module _ (k : ℕ) (undo : UndoLog) (saved : List (ℕ × Original)) where
  noted_none : lookup (nat_eq k) saved ≡ None → noted k undo saved ≡ saved ++ (k, original.Changed undo) ∷ []
  noted_none none = ap (λ o. noted_at o k undo saved) none

  noted_some : (o : Original) → lookup (nat_eq k) saved ≡ Some o → noted k undo saved ≡ set_value (nat_eq k) saved (with_change o undo)
  noted_some o some = ap (λ o. noted_at o k undo saved) some

  found_none : lookup (nat_eq k) saved ≡ None → lookup (nat_eq k) (noted k undo saved) ≡ Some (original.Changed undo)
  found_none none = ap (lookup (nat_eq k)) (noted_none none) ∙ found_last saved k (original.Changed undo) none

  found_some : (o : Original) → lookup (nat_eq k) saved ≡ Some o → lookup (nat_eq k) (noted k undo saved) ≡ Some (with_change o undo)
  found_some o some = ap (lookup (nat_eq k)) (noted_some o some) ∙ same_set (nat_eq k) saved (with_change o undo) (ap is_some some)

  other_noted : (q : ℕ) → nat_eq k q ≡ false → lookup (nat_eq q) (noted k undo saved) ≡ lookup (nat_eq q) saved
  other_noted q differs = by (lookup (nat_eq k) saved) refl
    where
      by : (o : Option Original) → lookup (nat_eq k) saved ≡ o → lookup (nat_eq q) (noted k undo saved) ≡ lookup (nat_eq q) saved
      by None is = ap (lookup (nat_eq q)) (noted_none is) ∙ other_pushed k q differs saved (original.Changed undo)
      by (Some o) is = ap (lookup (nat_eq q)) (noted_some o is) ∙ other_set k q differs saved (with_change o undo)

  same_originals : (o : Original) → lookup (nat_eq k) saved ≡ Some o → originals (noted k undo saved) ≡ originals saved
  same_originals o some =
      ap originals (noted_some o some) ∙ originals_set (nat_eq k) saved (with_change o undo) ∙ ap (set_value (nat_eq k) (originals saved)) (same_original o undo)
      ∙ set_value_same (nat_eq k) (originals saved) (original_of o) (lookup_originals (nat_eq k) saved ∙ ap (option_map original_of) some)

  -- the number is saved
  saving_is : (bucket : ℕ) (nodes : List (ℕ × Cached)) → lookup (nat_eq k) nodes ≡ Some undo.original.value
      → ◌≡◌ {A = Cache} (record { bucket = bucket; nodes = nodes; saved = originals (noted k undo saved) }) (saving (record { bucket = bucket; nodes = nodes; saved = originals saved }) k)
  saving_is bucket nodes there = by (lookup (nat_eq k) saved) refl
    where
      c : Cache
      c = record { bucket = bucket; nodes = nodes; saved = originals saved }

      by : (o : Option Original) → lookup (nat_eq k) saved ≡ o → ◌≡◌ {A = Cache} (record { bucket = bucket; nodes = nodes; saved = originals (noted k undo saved) }) (saving c k)
      by None is =
          (λ i. record { bucket = bucket; nodes = nodes; saved = (ap originals (noted_none is) ∙ originals_pushed saved k (original.Changed undo) ∙ ap (λ o. originals saved ++ (k, o) ∷ []) (sym there)) i })
          ∙ ap (λ (b : Bool). if b then c else record c { saved = c.saved ++ (k, cached c k) ∷ [] }) (sym (ap is_some (lookup_originals (nat_eq k) saved ∙ ap (option_map original_of) is)))
      by (Some o) is =
          (λ i. record { bucket = bucket; nodes = nodes; saved = same_originals o is i })
          ∙ ap (λ (b : Bool). if b then c else record c { saved = c.saved ++ (k, cached c k) ∷ [] }) (sym (ap is_some (lookup_originals (nat_eq k) saved ∙ ap (option_map original_of) is)))

module _ (nodes nodes' : List (ℕ × Cached)) (saved saved' : List (ℕ × Original)) (row : Row) (change : IsChanged nodes nodes' saved saved' row) where
  abbrev k : ℕ
  k = row.node.number

  abbrev undo : UndoLog
  undo = change.noted.undo

  found_new : lookup (nat_eq k) nodes' ≡ Some change.new
  found_new = ap (lookup (nat_eq k)) change.written ∙ same_set (nat_eq k) nodes change.new (ap is_some change.there)

  other_nodes : (q : ℕ) → nat_eq k q ≡ false → lookup (nat_eq q) nodes' ≡ lookup (nat_eq q) nodes
  other_nodes q differs = ap (lookup (nat_eq q)) change.written ∙ other_set k q differs nodes change.new

  other_saved : (q : ℕ) → nat_eq k q ≡ false → lookup (nat_eq q) saved' ≡ lookup (nat_eq q) saved
  other_saved q differs = ap (lookup (nat_eq q)) change.noted.entries ∙ other_noted k undo saved q differs

  pub kept_changed : IsKept nodes saved → IsDistinct nat_eq (keys_of nodes') → IsDistinct nat_eq (keys_of saved') → IsKept nodes' saved'
  kept_changed kept distinct once = record {
    distinct = distinct;
    once = once;
    stands = stands_but k nodes nodes' saved saved' kept other_nodes other_saved (here (lookup (nat_eq k) saved) refl (kept.stands k));
  }
    where
      at : (o : Original) → lookup (nat_eq k) saved' ≡ Some o → Stands o (Some change.new) → IfSome (lookup (nat_eq k) saved') (λ o. Stands o (lookup (nat_eq k) nodes'))
      at o found stands = subst (λ s. IfSome s (λ o. Stands o (lookup (nat_eq k) nodes'))) (sym found) (subst (Stands o) (sym found_new) stands)

      still : (o : Original) → Stands o (Some change.old) → Stands (with_change o undo) (Some change.new)
      still (original.Whole None) stands = tt
      still (original.Whole (Some was)) stands = refl
      still (original.Changed known) stands = later_changed undo.last change.old change.new row known change.noted.step stands

      here : (o : Option Original) → lookup (nat_eq k) saved ≡ o → IfSome o (λ o. Stands o (lookup (nat_eq k) nodes)) → IfSome (lookup (nat_eq k) saved') (λ o. Stands o (lookup (nat_eq k) nodes'))
      here None is h = at (original.Changed undo) (ap (lookup (nat_eq k)) change.noted.entries ∙ found_none k undo saved is) (first_changed change.old change.new saved saved' row change.noted)
      here (Some o) is h = at (with_change o undo) (ap (lookup (nat_eq k)) change.noted.entries ∙ found_some k undo saved o is) (still o (subst (Stands o) change.there h))

  pub is_pair_change : (bucket : ℕ) → IsPairChange (record { bucket = bucket; nodes = nodes; saved = originals saved }) (record { bucket = bucket; nodes = nodes'; saved = originals saved' }) row
  is_pair_change bucket =
      let there : lookup (nat_eq k) nodes ≡ Some undo.original.value = change.there ∙ ap Some (sym change.noted.original) in
      record {
        kept = change.old;
        there = change.there;
        leaf = change.noted.step.was;
        now = change.new;
        made = change.noted.step.made;
        epoch = change.noted.step.epoch;
        is = (λ i. record { bucket = bucket; nodes = change.written i; saved = originals (change.noted.entries i) }) ∙ ap (λ c. rewritten c k change.new) (saving_is k undo saved bucket nodes there);
      }

  pub before_changed : (q : ℕ) → unwrap_or (lookup (nat_eq q) (originals saved')) (lookup (nat_eq q) nodes') ≡ unwrap_or (lookup (nat_eq q) (originals saved)) (lookup (nat_eq q) nodes)
  before_changed q =
      ap (λ o. unwrap_or o (lookup (nat_eq q) nodes')) (lookup_originals (nat_eq q) saved')
      ∙ by (nat_eq k q) refl
      ∙ ap (λ o. unwrap_or o (lookup (nat_eq q) nodes)) (sym (lookup_originals (nat_eq q) saved))
    where
      Same : ℕ → Type 0
      Same n = unwrap_or (option_map original_of (lookup (nat_eq n) saved')) (lookup (nat_eq n) nodes') ≡ unwrap_or (option_map original_of (lookup (nat_eq n) saved)) (lookup (nat_eq n) nodes)

      here : (o : Option Original) → lookup (nat_eq k) saved ≡ o → Same k
      here None is =
          ap (λ o. unwrap_or (option_map original_of o) (lookup (nat_eq k) nodes')) (ap (lookup (nat_eq k)) change.noted.entries ∙ found_none k undo saved is)
          ∙ ap Some change.noted.original ∙ sym change.there
          ∙ sym (ap (λ o. unwrap_or (option_map original_of o) (lookup (nat_eq k) nodes)) is)
      here (Some o) is =
          ap (λ o. unwrap_or (option_map original_of o) (lookup (nat_eq k) nodes')) (ap (lookup (nat_eq k)) change.noted.entries ∙ found_some k undo saved o is)
          ∙ same_original o undo
          ∙ sym (ap (λ o. unwrap_or (option_map original_of o) (lookup (nat_eq k) nodes)) is)

      by : (b : Bool) → nat_eq k q ≡ b → Same q
      by true equal = subst Same (eqb-true k q equal) (here (lookup (nat_eq k) saved) refl)
      by false differs = λ i. unwrap_or (option_map original_of (other_saved q differs i)) (other_nodes q differs i)

-- ---- what the answer says

module _ (nodes nodes' : List (ℕ × Cached)) (saved saved' : List (ℕ × Original)) (row : Row) where
  pub kept_then : (r : Result Bool NoMemory) → ChangesPair r nodes nodes' saved saved' row → IsKept nodes saved → IsDistinct nat_eq (keys_of nodes') → IsDistinct nat_eq (keys_of saved') → IsKept nodes' saved'
  kept_then (Ok true) change kept distinct once = kept_changed nodes nodes' saved saved' row change.1 kept distinct once
  kept_then (Ok false) change kept distinct once = subst (IsKept nodes') (sym change.1.same_saved) (subst (λ ns. IsKept ns saved) (sym change.1.same_nodes) kept)
  kept_then (Err e) change kept distinct once = subst (IsKept nodes') (sym change.same_saved) (subst (λ ns. IsKept ns saved) (sym change.same_nodes) kept)

  pub changed_then : (bucket : ℕ) (r : Result Bool NoMemory) → ChangesPair r nodes nodes' saved saved' row
      → IfOk r (λ done. OnTrue done (IsPairChange (record { bucket = bucket; nodes = nodes; saved = originals saved }) (record { bucket = bucket; nodes = nodes'; saved = originals saved' }) row))
  changed_then bucket (Ok true) change = is_pair_change nodes nodes' saved saved' row change.1 bucket
  changed_then bucket (Ok false) change = tt
  changed_then bucket (Err e) change = tt

  pub before_then : (r : Result Bool NoMemory) → ChangesPair r nodes nodes' saved saved' row → (q : ℕ) → unwrap_or (lookup (nat_eq q) (originals saved')) (lookup (nat_eq q) nodes') ≡ unwrap_or (lookup (nat_eq q) (originals saved)) (lookup (nat_eq q) nodes)
  before_then (Ok true) change q = before_changed nodes nodes' saved saved' row change.1 q
  before_then (Ok false) change q = λ i. unwrap_or (lookup (nat_eq q) (originals (change.1.same_saved i))) (lookup (nat_eq q) (change.1.same_nodes i))
  before_then (Err e) change q = λ i. unwrap_or (lookup (nat_eq q) (originals (change.same_saved i))) (lookup (nat_eq q) (change.same_nodes i))

  -- all other nodes are as they were
  pub others_then : (r : Result Bool NoMemory) → ChangesPair r nodes nodes' saved saved' row → (q : ℕ) → nat_eq row.node.number q ≡ false → lookup (nat_eq q) nodes' ≡ lookup (nat_eq q) nodes
  others_then (Ok true) change q differs = other_nodes nodes nodes' saved saved' row change.1 q differs
  others_then (Ok false) change q differs = ap (lookup (nat_eq q)) change.1.same_nodes
  others_then (Err e) change q differs = ap (lookup (nat_eq q)) change.same_nodes
