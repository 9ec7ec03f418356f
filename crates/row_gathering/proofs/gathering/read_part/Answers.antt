-- What was read is the part's body, behind the first bytes.
use Rattle.std.proofs.Common.{◌≡◌, ◌++◌, ℕ, List, length, drop, arith, rules, drop_at}
use Rattle.fine_model.specs.Regions.{body_len}
use Rattle.row_gathering.proofs.Bodies.{IsBodyOf, adds_rows, lacks_part}
use Rattle.row_gathering.proofs.gathering.read_part.Goals as goal

pub returns-clause-rows : goal.returns-clause-rows
returns-clause-rows g c good =
    let body : List ℕ = c.read.new.out in
    let rest : List ℕ = c.split_at_mut-body.result.1.now in
    let is : IsBodyOf (g.D.LogDisk.state c.args.disk.now) c.args.part.now body = search rules in
    let behind : drop c.args.start (c.split_at_mut-behind.result.0.now ++ (body ++ rest)) ≡ body ++ rest = drop_at c.split_at_mut-behind.result.0.now (body ++ rest) c.args.start c.split_at_mut-behind.ensures.front_len in
    adds_rows (g.D.LogDisk.state c.args.disk.now) c.args.part.now body c.requires.alone.one c.args.start (c.split_at_mut-behind.result.0.now ++ (body ++ rest)) c.args.keys.now.items c.test_body.new.keys.items rest behind is (c.in_ok-good.ensures.good good)

pub returns-clause-lacks : goal.returns-clause-lacks
returns-clause-lacks g c bad =
    let body : List ℕ = c.read.new.out in
    let is : IsBodyOf (g.D.LogDisk.state c.args.disk.now) c.args.part.now body = search rules in
    let long : length body ≡ body_len c.args.part.now.header = omega arith in
    lacks_part (g.D.LogDisk.state c.args.disk.now) c.args.part.now body c.requires.alone.one long (c.in_ok-good.ensures.bad bad) is
