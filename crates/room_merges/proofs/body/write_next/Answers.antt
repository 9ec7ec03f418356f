use Rattle.std.proofs.Common.{◌≡◌, ℕ, List, Bool, true, false, Ok, Err, Result, sym, subst, ap, ◌∙◌}
use Rattle.std.specs.Prelude.{IfOk, IsErrOf, MatchResult}
use Rattle.fine_model.specs.declared.FetchFault.{FetchFault}
use Rattle.fine_model.specs.declared.FetchFault.TheVariants as fetch_fault
use Rattle.node_fetch.specs.Fetched.{NoDamage}
use Rattle.partition_index.specs.Parts.{CountsFaults}
use Rattle.partition_merge.specs.Blocks.{Gives}
use Rattle.partition_merge.specs.Joined.{GivesJoined}
use Rattle.room_merges.specs.Work.{WritesBlock}
use Rattle.room_merges.proofs.Working.{next_ended, next_refused, next_written}
use Rattle.room_merges.proofs.body.write_next.Goals as goal

pub returns-then-more : goal.returns-then-more
returns-then-more g c =
    let view' = c.next_block.new.self in
    let blocks' = c.next_block.new.blocks in
    let is : c.next_block.result ≡ Ok true = c.in-Ok.is ∙ ap (λ b. Ok b) c.if-more.true in
    next_written c.args.header c.args.room.now c.write_block.new.room c.args.view.now view' c.args.blocks.now blocks' c.args.job.now c.write_block.new.job c.write_block.result
    (record {
      same = c.next_block.ensures.same;
      steady = c.next_block.ensures.counts.else_same (λ failed. (let e : ◌≡◌ {A = Result Bool FetchFault} (Ok true) (Err fetch_fault.Failed) = sym is ∙ failed in cc));
      alike = c.next_block.ensures.blocks;
      kept = c.next_block.ensures.kept;
      some = c.next_block.ensures.some is;
      gives = λ handed a b ahead. subst (λ (r : Result Bool FetchFault). MatchResult r (Gives view'.eye blocks' handed a b) NoDamage) is (c.next_block.ensures.exact handed a b ahead);
      joined = λ start handed joined. subst (λ (r : Result Bool FetchFault). IfOk r (GivesJoined c.args.view.now.eye.told start blocks' handed)) is (c.next_block.ensures.joined start handed joined);
    })
    c.requires.writing
    (subst (λ (block : List ℕ). WritesBlock c.args.header block c.args.room.now c.write_block.new.room c.args.job.now c.write_block.new.job c.write_block.result) c.block.ensures c.write_block.ensures)

pub returns-else-more : goal.returns-else-more
returns-else-more g c =
    let view' = c.next_block.new.self in
    let blocks' = c.next_block.new.blocks in
    let is : c.next_block.result ≡ Ok false = c.in-Ok.is ∙ ap (λ b. Ok b) c.if-more.false in
    next_ended c.args.header c.args.room.now c.args.view.now view' c.args.blocks.now blocks' c.args.job.now c.counts-counts.ensures.whole c.requires.out c.next_block.ensures.same
    (c.next_block.ensures.counts.else_same (λ failed. (let e : ◌≡◌ {A = Result Bool FetchFault} (Ok false) (Err fetch_fault.Failed) = sym is ∙ failed in cc)))
    (λ handed a b ahead. subst (λ (r : Result Bool FetchFault). MatchResult r (Gives view'.eye blocks' handed a b) NoDamage) is (c.next_block.ensures.exact handed a b ahead))
    (λ start handed joined. subst (λ (r : Result Bool FetchFault). IfOk r (GivesJoined c.args.view.now.eye.told start blocks' handed)) is (c.next_block.ensures.joined start handed joined))
    c.requires.writing

pub returns-in-Err : goal.returns-in-Err
returns-in-Err g c =
    let view' = c.next_block.new.self in
    let blocks' = c.next_block.new.blocks in
    let fault = c.in-Err.fault in
    next_refused c.args.header c.args.room.now c.args.view.now view' c.args.blocks.now blocks' c.args.job.now fault c.counts-counts.ensures.whole c.requires.out c.next_block.ensures.same
    (subst (λ (r : Result Bool FetchFault). CountsFaults (IsErrOf r fetch_fault.Failed) c.args.view.now.eye view'.eye) c.in-Err.is c.next_block.ensures.counts)
    (λ region at bad. c.next_block.ensures.bad_row region at (c.in-Err.is ∙ ap (λ f. Err f) bad))
    (λ region at bad. c.next_block.ensures.bad_index region at (c.in-Err.is ∙ ap (λ f. Err f) bad))
    (λ handed a b ahead. subst (λ (r : Result Bool FetchFault). MatchResult r (Gives view'.eye blocks' handed a b) NoDamage) c.in-Err.is (c.next_block.ensures.exact handed a b ahead))
    c.requires.writing
