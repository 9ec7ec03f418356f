use Rattle.std.proofs.Common.{refl, ◌≡◌, ◌⊎◌, ℕ, true, ◌∙◌, ◌+◌, ◌-◌, ◌*◌, ◌/◌, ◌<◌, sym, ap, subst, inl, inr, Ok, Err, Some, rules, arith, get_or}
use Rattle.fine_model.specs.Merge.{nodes_in, is_node_below}
use Rattle.std.specs.Prelude.{Option, Result}
use Rattle.fine_model.specs.Regions.{Image}
use Rattle.partition_index.specs.declared.entries.IndexEntry.{IndexEntry}
use Rattle.partition_index.specs.declared.entries.SeekFault.{SeekFault}
use Rattle.partition_index.specs.declared.entries.SeekFault.TheVariants as fault
use Rattle.partition_index.specs.declared.entries.Span.{Span}
use Rattle.partition_index.specs.Search.{IfTold, IsBadAt, IsNoEntryAt, IsSpanAt, IsEntryAt, sought}
use Rattle.partition_index.proofs.Looking.{seen_same, same_then}
use Rattle.partition_index.proofs.Exact.{holds_rows, only_failed, entry_exact, span_exact, there_in}
use Rattle.fine_model.specs.Seek.{binary_digits, middle_of, span_at}
use Rattle.fine_model.proofs.Merging.NodesIn.{exact_nodes}
use Rattle.partition_index.proofs.Halving.{all_left, comes_to, comes_to_bad, comes_to_none, goes_down, goes_up, meets_none, named}
use Rattle.partition_index.proofs.Narrowed.{spend, less_below, greater_above, narrow_up, narrow_down, narrowed_none, sought_some}
use Rattle.log_disk.specs.Disk.{Eye}
use Rattle.fine_model.specs.declared.Part.{Part}
use Rattle.partition_index.specs.Parts.{SameEye}
use Rattle.partition_index.proofs.search.seek.Given.{Over}
use Rattle.partition_index.proofs.search.seek.Goals.{After-node-1}
use Rattle.partition_index.proofs.search.seek.Goals as goal

back : (n : ℕ) → n ≡ n + 1 - 1
back n = omega arith

-- the entry in the middle of those that are left
record LooksAt (before now after : Eye) (part : Part) (low high : ℕ) (entry : IndexEntry) : Type 0 where
  there : low + (high - low) / 2 < part.header.nodes
  is_entry : IsEntryAt before.told part (low + (high - low) / 2) entry
  same : SameEye before after

looked_at : (g : Over) (c : After-node-1 g)
    → LooksAt (g.E.LogEye.state c.args.eye.now) (g.E.LogEye.state c.loop-low.eye) (g.E.LogEye.state c.read_entry.new.eye) c.args.part.now c.loop-low.low c.loop-low.high c.in_ok-entry.entry
looked_at g c =
    let state = g.E.LogEye.state in
    record {
      there = omega (arith, c.loop-low.invariant.within);
      is_entry = subst (λ known. IsEntryAt known c.args.part.now (c.loop-low.low + (c.loop-low.high - c.loop-low.low) / 2) c.in_ok-entry.entry) c.loop-low.invariant.same.told c.in_ok-entry.ensures.ok;
      same = same_then (state c.args.eye.now) (state c.loop-low.eye) (state c.read_entry.new.eye) c.loop-low.invariant.same c.in_ok-entry.ensures.eye.same;
    }

pub returns-in_err-entry-clause-exact : goal.returns-in_err-entry-clause-exact
returns-in_err-entry-clause-exact g c rows t =
    let eye = g.E.LogEye.state c.args.eye.now in
    let p = c.args.part.now in
    let same : c.from_residual.result ≡ Err c.in_err-entry.field-0.0 = search rules in
    inl (same ∙ ap Err (only_failed eye p rows c.in_err-entry.field-0.0 c.requires.seen t
    (λ at is. subst (λ known. IsBadAt known p at) c.loop-low.invariant.same.told (c.in_err-entry.ensures.bad at (ap Err is)))))

pub loop-low-preserved-in-Less : goal.loop-low-preserved-in-Less
loop-low-preserved-in-Less g c =
    let looked = looked_at g (goal.at.loop-low-preserved-in-Less g c).After-node-1 in
    record {
      order = omega arith;
      within = c.loop-low.invariant.within;
      same = looked.same;
      steady = search rules;
      taken = spend (14 * binary_digits c.args.part.now.header.nodes) (g.E.LogEye.state c.args.eye.now).taken (g.E.LogEye.state c.loop-low.eye).taken (g.E.LogEye.state c.read_entry.new.eye).taken (c.loop-low.high - c.loop-low.low) (c.loop-low.high - ((c.loop-low.low + (c.loop-low.high - c.loop-low.low) / 2) + 1)) (omega arith) (omega arith) (omega arith) c.loop-low.invariant.taken c.in_ok-entry.ensures.eye.taken;
      before = inr (c.in_ok-entry.entry, subst (λ i. IsEntryAt (g.E.LogEye.state c.args.eye.now).told c.args.part.now i c.in_ok-entry.entry) (back (c.loop-low.low + (c.loop-low.high - c.loop-low.low) / 2)) looked.is_entry, less_below c.in_ok-entry.entry.node c.args.node c.in-Less.ensures);
      behind = c.loop-low.invariant.behind;
      left = goes_up (g.E.LogEye.state c.args.eye.now).told c.args.part.now c.args.node c.loop-low.low c.loop-low.high c.loop-low-test.true c.loop-low.invariant.left c.in_ok-entry.entry looked.is_entry (less_below c.in_ok-entry.entry.node c.args.node c.in-Less.ensures);
      narrowed = λ rows t.
          (let entry = entry_exact (g.E.LogEye.state c.args.eye.now) c.args.part.now rows (c.loop-low.low + (c.loop-low.high - c.loop-low.low) / 2) c.in_ok-entry.entry c.args.node c.requires.seen t looked.there looked.is_entry in
          narrow_up rows c.args.node c.loop-low.low c.loop-low.high (c.loop-low.low + (c.loop-low.high - c.loop-low.low) / 2) c.args.node (c.loop-low.invariant.narrowed rows t) (omega arith) (there_in (g.E.LogEye.state c.args.eye.now) c.args.part.now rows (c.loop-low.low + (c.loop-low.high - c.loop-low.low) / 2) c.requires.seen t looked.there)
          (sym (ap (λ e. is_node_below e.node c.args.node) entry) ∙ less_below c.in_ok-entry.entry.node c.args.node c.in-Less.ensures));
    }

pub loop-low-preserved : goal.loop-low-preserved
loop-low-preserved g c =
    let looked = looked_at g (goal.at.loop-low-preserved g c).After-node-1 in
    record {
      order = omega arith;
      within = omega (arith, c.loop-low.invariant.within);
      same = looked.same;
      steady = search rules;
      taken = spend (14 * binary_digits c.args.part.now.header.nodes) (g.E.LogEye.state c.args.eye.now).taken (g.E.LogEye.state c.loop-low.eye).taken (g.E.LogEye.state c.read_entry.new.eye).taken (c.loop-low.high - c.loop-low.low) ((c.loop-low.low + (c.loop-low.high - c.loop-low.low) / 2) - c.loop-low.low) (omega arith) (omega arith) (omega arith) c.loop-low.invariant.taken c.in_ok-entry.ensures.eye.taken;
      before = c.loop-low.invariant.before;
      behind = inr (c.in_ok-entry.entry, looked.is_entry, greater_above c.in_ok-entry.entry.node c.args.node c.in-Greater.ensures);
      left = goes_down (g.E.LogEye.state c.args.eye.now).told c.args.part.now c.args.node c.loop-low.low c.loop-low.high c.loop-low-test.true c.loop-low.invariant.left c.in_ok-entry.entry looked.is_entry (greater_above c.in_ok-entry.entry.node c.args.node c.in-Greater.ensures);
      narrowed = λ rows t.
          (let entry = entry_exact (g.E.LogEye.state c.args.eye.now) c.args.part.now rows (c.loop-low.low + (c.loop-low.high - c.loop-low.low) / 2) c.in_ok-entry.entry c.args.node c.requires.seen t looked.there looked.is_entry in
          narrow_down rows c.args.node c.loop-low.low c.loop-low.high (c.loop-low.low + (c.loop-low.high - c.loop-low.low) / 2) c.args.node (c.loop-low.invariant.narrowed rows t) (there_in (g.E.LogEye.state c.args.eye.now) c.args.part.now rows (c.loop-low.low + (c.loop-low.high - c.loop-low.low) / 2) c.requires.seen t looked.there)
          (sym (ap (λ e. is_node_below c.args.node e.node) entry) ∙ greater_above c.in_ok-entry.entry.node c.args.node c.in-Greater.ensures));
    }

pub returns-in-Equal-clause-exact : goal.returns-in-Equal-clause-exact
returns-in-Equal-clause-exact g c rows t =
    let state = g.E.LogEye.state in
    let p = c.args.part.now in
    let l = c.loop-low in
    let middle = l.low + (l.high - l.low) / 2 in
    let there : middle < p.header.nodes = omega (arith, l.invariant.within) in
    let entry = entry_exact (state c.args.eye.now) p rows middle c.in_ok-entry.entry c.args.node c.requires.seen t there (subst (λ known. IsEntryAt known p middle c.in_ok-entry.entry) l.invariant.same.told c.in_ok-entry.ensures.ok) in
    let span = span_exact (state c.args.eye.now) p rows middle c.in_ok-span-in-Equal.span c.args.node c.requires.seen t there
    (subst (λ known. IsSpanAt known p middle c.in_ok-span-in-Equal.span) (c.read_entry.ensures.eye.same.told ∙ l.invariant.same.told) c.in_ok-span-in-Equal.ensures.ok) in
    let same : get_or (nodes_in rows) middle c.args.node ≡ c.args.node = sym (ap (λ e. e.node) entry) ∙ exact_nodes c.in_ok-entry.entry.node c.args.node (sym c.in-Equal.ensures) in
    inr (ap (λ s. Ok (Some s)) span ∙ ap Ok (sym (sought_some rows middle c.args.node (there_in (state c.args.eye.now) p rows middle c.requires.seen t there)) ∙ ap (sought rows) same))

pub span_of-requires-clause-asked : goal.span_of-requires-clause-asked
span_of-requires-clause-asked g c =
    let state = g.E.LogEye.state in
    record { seen = seen_same (state c.args.eye.now) (state c.read_entry.new.eye) c.args.part.now (same_then (state c.args.eye.now) (state c.loop-low.eye) (state c.read_entry.new.eye) c.loop-low.invariant.same c.read_entry.ensures.eye.same) c.requires.seen; region_len = search rules; there = omega (arith, c.loop-low.invariant.within) }

pub returns-in_err-span-in-Equal-clause-exact : goal.returns-in_err-span-in-Equal-clause-exact
returns-in_err-span-in-Equal-clause-exact g c rows t =
    let eye = g.E.LogEye.state c.args.eye.now in
    let p = c.args.part.now in
    let same : c.from_residual-in_err-span-in-Equal.result ≡ Err c.in_err-span-in-Equal.field-0.0 = search rules in
    inl (same ∙ ap Err (only_failed eye p rows c.in_err-span-in-Equal.field-0.0 c.requires.seen t
    (λ at is. subst (λ known. IsBadAt known p at) (c.read_entry.ensures.eye.same.told ∙ c.loop-low.invariant.same.told) (c.in_err-span-in-Equal.ensures.bad at (ap Err is)))))

pub returns-clause-exact : goal.returns-clause-exact
returns-clause-exact g c rows t =
    inr (ap Ok (sym (narrowed_none rows c.args.node c.loop-low.low c.loop-low.high (c.loop-low.invariant.narrowed rows t) c.loop-low-test.false)))

pub returns-clause-none : goal.returns-clause-none
returns-clause-none g c e =
    let l = c.loop-low in
    let known : Option Image = (g.E.LogEye.state c.args.eye.now).told in
    let met : l.high ≡ l.low = omega (arith, l.invariant.order, c.loop-low-test.false) in
    record {
      number = l.low;
      within = omega (arith, l.invariant.order, l.invariant.within);
      before = l.invariant.before;
      behind = subst (λ i. (i ≡ c.args.part.now.header.nodes) ⊎ ((entry : IndexEntry) × IsEntryAt known c.args.part.now i entry × (is_node_below c.args.node entry.node ≡ true))) met l.invariant.behind;
      sought = comes_to_none known c.args.part.now c.args.node l.low l.high c.loop-low-test.false l.invariant.left;
    }

pub returns-in_err-entry-clause-meets : goal.returns-in_err-entry-clause-meets
returns-in_err-entry-clause-meets g c at is =
    let known = (g.E.LogEye.state c.args.eye.now).told in
    let p = c.args.part.now in
    let l = c.loop-low in
    let same : c.from_residual.result ≡ Err c.in_err-entry.field-0.0 = search rules in
    let err : ◌≡◌ {A = Result (Option Span) SeekFault} (Err c.in_err-entry.field-0.0) (Err (fault.BadIndex at)) = sym same ∙ is in
    let bad : c.in_err-entry.field-0.0 ≡ fault.BadIndex at = cc in
    meets_none known p c.args.node l.low l.high c.loop-low-test.true l.invariant.left at (subst (λ known. IsNoEntryAt known p (middle_of l.low l.high) at) l.invariant.same.told (c.in_err-entry.ensures.none at (ap Err bad)))

pub returns-in_err-span-in-Equal-clause-meets : goal.returns-in_err-span-in-Equal-clause-meets
returns-in_err-span-in-Equal-clause-meets g c at is =
    let state = g.E.LogEye.state in
    let p = c.args.part.now in
    let l = c.loop-low in
    let middle = l.low + (l.high - l.low) / 2 in
    let same : c.from_residual-in_err-span-in-Equal.result ≡ Err c.in_err-span-in-Equal.field-0.0 = search rules in
    let err : ◌≡◌ {A = Result (Option Span) SeekFault} (Err c.in_err-span-in-Equal.field-0.0) (Err (fault.BadIndex at)) = sym same ∙ is in
    let bad : c.in_err-span-in-Equal.field-0.0 ≡ fault.BadIndex at = cc in
    comes_to_bad (state c.args.eye.now).told p c.args.node l.low l.high c.loop-low-test.true l.invariant.left c.in_ok-entry.entry (subst (λ known. IsEntryAt known p middle c.in_ok-entry.entry) l.invariant.same.told c.in_ok-entry.ensures.ok) at
    (exact_nodes c.in_ok-entry.entry.node c.args.node (sym c.in-Equal.ensures))
    (subst (λ known. IfTold known p (λ body. span_at p.header body middle ≡ Err at)) (c.read_entry.ensures.eye.same.told ∙ l.invariant.same.told) (c.in_err-span-in-Equal.ensures.none at (ap Err bad)))

pub returns-in-Equal-clause-span : goal.returns-in-Equal-clause-span
returns-in-Equal-clause-span g c =
    let known : Option Image = (g.E.LogEye.state c.args.eye.now).told in
    let p = c.args.part.now in
    let l = c.loop-low in
    let middle = l.low + (l.high - l.low) / 2 in
    let entry = subst (λ known. IsEntryAt known p middle c.in_ok-entry.entry) l.invariant.same.told c.in_ok-entry.ensures.ok in
    let same = exact_nodes c.in_ok-entry.entry.node c.args.node (sym c.in-Equal.ensures) in
    record {
      is_span = record {
        entry = middle;
        there = omega (arith, l.invariant.within);
        names = named known p c.args.node middle c.in_ok-entry.entry entry same;
        is_span = subst (λ known. IsSpanAt known p middle c.in_ok-span-in-Equal.span) (c.read_entry.ensures.eye.same.told ∙ l.invariant.same.told) c.in_ok-span-in-Equal.ensures.ok;
      };
      sought = comes_to known p c.args.node l.low l.high c.loop-low-test.true l.invariant.left c.in_ok-entry.entry entry same;
    }

pub loop-low-init : goal.loop-low-init
loop-low-init g c =
    let eye = g.E.LogEye.state c.args.eye.now in
    let p = c.args.part.now in
    let none : p.header.nodes - 0 ≡ p.header.nodes = omega arith in record {
      order = omega arith;
      within = omega arith;
      same = record { number = refl; regions = refl; region_len = refl; told = refl };
      steady = refl;
      taken = omega (arith, ap binary_digits none);
      before = inl refl;
      behind = inl refl;
      left = all_left eye.told p c.args.node;
      narrowed = λ rows t. record { below = λ k d low there. absurd (omega (arith, low)); above = λ k d high there. absurd (omega (arith, high, there, (holds_rows eye p rows c.requires.seen t).nodes)) };
    }
