use Rattle.std.proofs.Common.{◌≡◌, ◌<◌, ℕ, true, length, Some, option_copied, is_some, slice_get, sym, ap, subst, ◌∙◌}
use Rattle.fine_model.specs.declared.Node.TheVariants as node
use Rattle.fine_model.specs.Paths.{is_inner, place_among}
use Rattle.node_record.specs.Bounds.{FitsNode}
use Rattle.node_cache.specs.Cache.{cached}
use Rattle.btree_nodes.specs.declared.descent.Step.{Step}
use Rattle.node_cache.specs.Given.{given, IsCached}
use Rattle.btree_nodes.specs.Descent.{bounds_by, low_of, high_of, IsStep, AreKept}
use Rattle.btree_nodes.proofs.Steps.{given_is, place_within, stepped, low_kept, high_kept}
use Rattle.btree_nodes.proofs.descent.step_down.Goals as goal

pub at-child-requires : goal.at-child-requires
at-child-requires c =
    let b = c.args.bucket.now in
    let n = c.args.number in
    let kept = c.in_ok-node.field-0.now in
    let found : cached b n ≡ Some kept = sym c.peek.ensures ∙ ap option_copied c.in_ok-node.was in
    let fits = subst FitsNode c.in-Inner.is kept.fits in
    subst (λ (p : ℕ). p < length c.in-Inner.kids) (sym c.place_among-place.ensures) (place_within c.args.key.now c.in-Inner.seps c.in-Inner.kids fits)

pub returns-clause-step : goal.returns-clause-step
returns-clause-step c =
    let b = c.args.bucket.now in
    let n = c.args.number in
    let key = c.args.key.now in
    let seps = c.in-Inner.seps in
    let kids = c.in-Inner.kids in
    let kept = c.in_ok-node.field-0.now in
    let found : cached b n ≡ Some kept = sym c.peek.ensures ∙ ap option_copied c.in_ok-node.was in
    let is = ap (λ k. k.0) (given_is b n kept found) ∙ c.in-Inner.is in
    let fit : true ≡ is_inner (record { low = option_copied c.bound.result; high = option_copied c.bound-2.result }) c.args.next kept.node = c.if-not-is_fit_inner.ensures in
    let good : is_inner (bounds_by (given b) c.args.low c.args.high) c.args.next (node.Inner seps kids) ≡ true =
    (λ i. is_inner (record { low = sym c.bound.ensures i; high = sym c.bound-2.ensures i }) c.args.next (sym c.in-Inner.is i)) ∙ sym fit in
    let at = ap (slice_get kids) (sym c.place_among-place.ensures) ∙ c.at-child.ensures in
    let same : ◌≡◌ {A = Step} (record { number = c.at-child.result.now; low = low_of n (place_among key seps) c.args.low; high = high_of n (place_among key seps) (length seps) c.args.high })
    (record { number = c.at-child.result.now; low = c.low_bound.result; high = c.high_bound.result }) =
    λ i. record {
      number = c.at-child.result.now;
      low = (ap (λ p. low_of n p c.args.low) (sym c.place_among-place.ensures) ∙ sym c.low_bound.ensures) i;
      high = (ap (λ p. high_of n p (length seps) c.args.high) (sym c.place_among-place.ensures) ∙ ap (λ m. high_of n c.place_among-place.result m c.args.high) (sym c.len.ensures) ∙ sym c.high_bound.ensures) i;
    } in
    subst (λ s. IsStep (given b) c.args.next key (bounds_by (given b) c.args.low c.args.high) (given b n).0 s) same (stepped (given b) n seps kids is c.args.low c.args.high c.args.next c.at-child.result.now key good at)

pub returns-clause-kept : goal.returns-clause-kept
returns-clause-kept c =
    let b = c.args.bucket.now in
    let n = c.args.number in
    let found = sym c.peek.ensures ∙ ap option_copied c.in_ok-node.was in
    let here : IsCached b n = ap is_some found in (
      subst (AreKept b) (sym c.low_bound.ensures) (low_kept b n c.place_among-place.result c.args.low here c.requires.low),
      subst (AreKept b) (sym c.high_bound.ensures) (high_kept b n c.place_among-place.result c.len.result c.args.high here c.requires.high),
    )
