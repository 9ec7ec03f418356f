use Rattle.std.proofs.Common.{◌≡◌, ◌≤◌, ◌∙◌, length, vec_len, rules, arith}
use Rattle.std.proofs.lemmas.Bool.{false≢true}
use Rattle.partition_merge.proofs.Streams.{all_over, front_long, range_read}
use Rattle.partition_merge.proofs.buffer.Buffer.read_on.Goals as goal

pub returns-clause-read : goal.returns-clause-read
returns-clause-read g c =
    let n = c.self.inside.len in
    let few : n ≤ vec_len c.self.inside.bytes = c.self.invariant in
    let long : length c.args.self.now ≡ n = front_long n c.self.inside.bytes.items c.args.self.now (omega (arith, few)) c.self.view_is in
    range_read (g.E.LogEye.state c.args.eye.now).told c.args.part.now c.args.at n c.args.more c.args.self.now _ c.read_behind.new.bytes long
    (all_over _ c.read_behind.new.bytes c.lengthen.new.bytes.items (search rules) (search rules))
    (c.read_behind.ensures.looks.bytes (λ f. false≢true (c.if-is_err-2.ensures.value ∙ f)))
