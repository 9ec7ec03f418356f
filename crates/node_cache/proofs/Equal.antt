-- Cached nodes with the same fields are equal: that they are within the format's bounds can be proved in one way alone.
use mathlib.Core.HLevel.{is_prop→PathP}
use Rattle.std.specs.Coded.{le_prop}
use Rattle.std.proofs.Common.{◌≡◌, ◌≤◌}
use Rattle.fine_model.specs.BoundLaws.{FitsNode}
use Rattle.fine_model.specs.RowBytes.{greatest}
use Rattle.node_cache.specs.declared.cached.Cached.{Cached}
use Rattle.node_cache.specs.Fits.{FitsNode-prop}

pub same_kept : (a b : Cached) → a.node ≡ b.node → a.version ≡ b.version → a.epoch ≡ b.epoch → a ≡ b
same_kept a b node version epoch = λ i. record {
  node = node i;
  version = version i;
  epoch = epoch i;
  fits = is_prop→PathP (λ i. FitsNode (node i)) (λ i. FitsNode-prop (node i)) a.fits b.fits i;
  in_range = is_prop→PathP (λ i. version i ≤ greatest) (λ i. le_prop) a.in_range b.in_range i;
}
