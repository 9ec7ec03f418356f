use Rattle.std.proofs.Common.{◌≡◌, ◌<◌, length, take, subst, arith}
use Rattle.std.proofs.lemmas.List.{take_all}
use Rattle.partition_index.specs.Indexer.{Indexes}
use Rattle.log_partition.proofs.Keyed.{no_key, as_many, has_next, fed_next}
use Rattle.log_partition.proofs.encoding.put_index.Goals as goal

pub feed-requires : goal.feed-requires
feed-requires c =
    let here : c.loop-key.key-index < length c.args.keys.now = omega arith in
    let at = c.requires.at in
    has_next c.requires.bytes c.requires.rows c.args.keys.now c.loop-key.key-index no_key at.are here c.args.out.items c.loop-key.indexer at.rising at.within (c.loop-key.invariant.fed c.requires.bytes c.requires.rows at)
    (omega (arith, c.requires.room, c.loop-key.invariant.capacity))

pub loop-key-preserved : goal.loop-key-preserved
loop-key-preserved c =
    let here : c.loop-key.key-index < length c.args.keys.now = omega arith in
    record {
      fed = λ bytes rows at. fed_next bytes rows c.args.keys.now c.loop-key.key-index no_key at.are here c.args.out.items c.loop-key.indexer c.feed.new.self c.feed.ensures.rows at.rising (c.loop-key.invariant.fed bytes rows at);
      capacity = omega (arith, c.feed.ensures.capacity, c.loop-key.invariant.capacity);
    }

pub returns : goal.returns
returns c bytes rows at =
    let all : take c.loop-key.key-index rows ≡ rows = take_all c.loop-key.key-index rows (omega (arith, as_many bytes rows c.args.keys.now at.are)) in
    c.finish.ensures c.args.out.items rows (subst (λ rs. Indexes c.args.out.items rs c.loop-key.indexer) all (c.loop-key.invariant.fed bytes rows at))
