-- The originals of a bucket as its code keeps them: the first one apart from the others.
use Rattle.std.specs.Prelude.{◌≡◌, ℕ, ◌++◌, nat_eq, List, None, IfSome}
use Rattle.std.specs.List.{IsDistinct}
use Rattle.std.specs.Map.{keys_of, lookup}
use Rattle.std.specs.Option.{option_to_list}
use Rattle.node_cache.specs.declared.original.Original.{Original}
use Rattle.node_cache.specs.declared.saved.Saved.{Saved}

-- all originals, in the order in which they were saved
abbrev pub saved_in : Saved → List (ℕ × Original)
saved_in s = option_to_list s.first ++ s.others.entries

-- a number stands once
pub record IsOnce (s : Saved) : Type 0 where
  pub others : IsDistinct nat_eq (keys_of s.others.entries)
  pub apart : IfSome s.first (λ p. lookup (nat_eq p.0) s.others.entries ≡ None)
