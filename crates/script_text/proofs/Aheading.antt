-- Bytes that are ahead.
use Rattle.std.proofs.Common.{◌≡◌, ℕ, List, [], Option, Some, None, refl}
use Rattle.script_text.specs.Streams.{before}

pub before_none : (o : Option (List ℕ)) → before [] o ≡ o
before_none None = refl
before_none (Some o) = refl
