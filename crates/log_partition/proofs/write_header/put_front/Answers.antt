use Rattle.std.proofs.Common.{◌≡◌, ◌+◌, ◌++◌, length, ap, subst, arith}
use Rattle.std.specs.Int.{to_be_bytes, w32, w64}
use Rattle.fine_model.specs.Regions.{mark_bytes}
use Rattle.log_partition.specs.Headers.{Holds, front}
use Rattle.log_partition.proofs.Fields.{regrouped, spelled, mark_long}
use Rattle.log_partition.proofs.write_header.put_front.Goals as goal

pub returns : goal.returns
unfolding front
returns c =
    λ text h.
    let header = c.args.header.now in
    let m = mark_bytes header.mark in
    let a = to_be_bytes w64 c.args.region_len in
    let b = to_be_bytes w64 header.range.first in
    let d = to_be_bytes w64 header.range.last in
    let e = to_be_bytes w32 header.rows in
    let f = to_be_bytes w32 header.nodes in
    let g = to_be_bytes w32 header.area in
    let h0 : Holds c.put.new.bytes (0 + length c.mark_bytes.result) (text ++ c.mark_bytes.result) = c.put.ensures text h in
    let four : 0 + length c.mark_bytes.result ≡ 4 = omega (arith, ap length c.mark_bytes.ensures, mark_long header.mark) in
    let h1 : Holds c.put.new.bytes 4 (text ++ m) = subst (λ x. Holds c.put.new.bytes 4 (text ++ x)) c.mark_bytes.ensures (subst (λ n. Holds c.put.new.bytes n (text ++ c.mark_bytes.result)) four h0) in
    let h2 = spelled c.put-2.new.bytes 4 (text ++ m) c.to_be_bytes.result a c.to_be_bytes.ensures (c.put-2.ensures (text ++ m) h1) in
    let h3 = spelled c.put-3.new.bytes 12 ((text ++ m) ++ a) c.to_be_bytes-2.result b c.to_be_bytes-2.ensures (c.put-3.ensures ((text ++ m) ++ a) h2) in
    let h4 = spelled c.put-4.new.bytes 20 (((text ++ m) ++ a) ++ b) c.to_be_bytes-3.result d c.to_be_bytes-3.ensures (c.put-4.ensures (((text ++ m) ++ a) ++ b) h3) in
    let h5 = spelled c.put-5.new.bytes 28 ((((text ++ m) ++ a) ++ b) ++ d) c.to_be_bytes-4.result e c.to_be_bytes-4.ensures (c.put-5.ensures ((((text ++ m) ++ a) ++ b) ++ d) h4) in
    let h6 = spelled c.put-6.new.bytes 32 (((((text ++ m) ++ a) ++ b) ++ d) ++ e) c.to_be_bytes-5.result f c.to_be_bytes-5.ensures (c.put-6.ensures (((((text ++ m) ++ a) ++ b) ++ d) ++ e) h5) in
    let h7 = spelled c.put-7.new.bytes 36 ((((((text ++ m) ++ a) ++ b) ++ d) ++ e) ++ f) c.to_be_bytes-6.result g c.to_be_bytes-6.ensures (c.put-7.ensures ((((((text ++ m) ++ a) ++ b) ++ d) ++ e) ++ f) h6) in
    subst (Holds c.put-7.new.bytes 40) (regrouped text m a b d e f g) h7
