-- What contracts cite of the crates below, from one place. Declares nothing.
pub use Rattle.fine_model.specs.declared.Row.{Row}
pub use Rattle.fine_model.specs.declared.law.Origin.{Origin}
pub use Rattle.fine_model.specs.Bounds.{FitsCall}
pub use Rattle.fine_model.specs.History.{Commit}
pub use Rattle.fine_model.specs.Laws.{AreSmall}
pub use Rattle.fine_model.specs.Pushed.{key_of}
pub use Rattle.fine_model.specs.RowBytes.{FitsKey, FitsValue}
pub use Rattle.fine_model.specs.Trees.{IsSound, bucket_of}
pub use Rattle.node_cache.specs.Cache.{IsResting, cached}
pub use Rattle.btree_nodes.specs.Trees.{Holds, Serves}
pub use Rattle.txn_draft.specs.Drafts.{blank, is_scan}
