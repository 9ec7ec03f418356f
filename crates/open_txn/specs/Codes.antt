-- How the logic stores what the buckets stand for. No clause reads these words, so a reader can skip them.
use Rattle.std.specs.Prelude.{Bool, List, refl}
use Rattle.std.specs.Coded.{Coded, code_by, coded×, coded_bool, coded_list}
use Rattle.node_cache.specs.Cache.{Cache}
use Rattle.node_cache.specs.Codes.{cache_code}
use Rattle.open_txn.specs.Buckets.{BucketsValue}

abbrev pub buckets_code : Coded BucketsValue
buckets_code =
    code_by (List Cache × List Bool) (coded× (coded_list cache_code) (coded_list coded_bool)) (λ v. (v.buckets, v.touched)) (λ p. record { buckets = p.0; touched = p.1 }) (λ _. refl)
