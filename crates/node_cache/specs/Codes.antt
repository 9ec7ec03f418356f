-- How the logic stores what a bucket stands for. No clause reads these words, so a reader can skip them.
use Rattle.std.specs.Prelude.{ℕ, List, Option, refl}
use Rattle.std.specs.Coded.{Coded, code_by, coded×, coded_ℕ, coded_list, coded_option}
use Rattle.node_cache.specs.contracts.cached.Cached as kept
use Rattle.node_cache.specs.declared.cached.Cached.{Cached}
use Rattle.node_cache.specs.Cache.{Cache}

abbrev pub cache_code : Coded Cache
cache_code =
    code_by (ℕ × (List (ℕ × Cached) × List (ℕ × Option Cached)))
    (coded× coded_ℕ (coded× (coded_list (coded× coded_ℕ kept.the_row.coded)) (coded_list (coded× coded_ℕ (coded_option kept.the_row.coded)))))
    (λ c. (c.bucket, (c.nodes, c.saved)))
    (λ p. record { bucket = p.0; nodes = p.1.0; saved = p.1.1 })
    (λ _. refl)
