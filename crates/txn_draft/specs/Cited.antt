-- What contracts cite of the crates below, from one place. Declares nothing.
pub use Rattle.std.specs.Option.{option_to_list}
pub use Rattle.fine_model.specs.declared.Row.{Row}
pub use Rattle.fine_model.specs.Bounds.{FitsCall}
pub use Rattle.fine_model.specs.Map.{Pair}
pub use Rattle.fine_model.specs.Merge.{cost}
pub use Rattle.fine_model.specs.Pushed.{key_of}
pub use Rattle.fine_model.specs.RowBytes.{FitsKey, FitsValue, buckets}
pub use Rattle.fine_model.specs.ScanLaws.{IsKept}
pub use Rattle.fine_model.specs.Store.{answer, value_answer}
pub use Rattle.fine_model.specs.Trees.{IsSound, bucket_of}
pub use Rattle.node_cache.specs.Cache.{Cache}
pub use Rattle.node_cache.specs.Given.{IsLoaded}
pub use Rattle.btree_nodes.specs.Calls.{IsChange, IsFirstUnfitBetween, OnCleanAnswer, Reads, SoundReading}
pub use Rattle.btree_nodes.specs.Trees.{AreUsed, Holds, Serves, pairs_in}
pub use Rattle.btree_nodes.specs.Walks.{LoadsOnWalk, walk_in}
