use Rattle.std.proofs.Common.{◌∙◌, ap}
use Rattle.fine_model.specs.Trees.{bucket_of}
use Rattle.txn_draft.specs.Drafts.{is_scan}
use Rattle.txn_engine.proofs.Answering.{all_buckets, answered_in, key_bucket, plain_call, scanned_in, traced_in}
use Rattle.txn_engine.proofs.reads.read.Goals as goal

pub scan_all-requires-clause-held : goal.scan_all-requires-clause-held
scan_all-requires-clause-held g c = all_buckets c.args.call.now c.args.locks.now (ap is_scan c.in-Scan.is) c.requires.held.0 c.requires.held.1

pub answer_in-requires : goal.answer_in-requires
answer_in-requires g c = record {
  «open» = c.requires.open;
  bucket = (c.bucket_of.ensures.value ∙ ap bucket_of c.key_of.ensures, c.bucket_of.ensures.range);
  held = key_bucket c.bucket_of.result c.args.call.now c.args.locks.now (c.bucket_of.ensures.value ∙ ap bucket_of c.key_of.ensures) c.bucket_of.ensures.range c.requires.held.0 c.requires.held.1;
  call = c.requires.call;
  no_scan = plain_call c.args.call.now (λ low high limit is. c.in_default.not-Scan low high limit is);
}

pub returns-in-Scan-clause-reads : goal.returns-in-Scan-clause-reads
returns-in-Scan-clause-reads g c = let scans = ap is_scan c.in-Scan.is in
    scanned_in c.args.front.now c.scan_all.new.front c.args.locks.now c.scan_all.new.locks c.args.draft.now c.scan_all.new.draft c.args.call.now c.scan_all.result c.requires.open
    (all_buckets c.args.call.now c.args.locks.now scans c.requires.held.0 c.requires.held.1) scans c.scan_all.ensures.scans

pub returns-in_default : goal.returns-in_default
returns-in_default g c = let e = c.answer_in.ensures in record {
  later = e.later;
  clean = e.clean;
  fails = e.fails;
  reads = answered_in c.args.front.now c.bucket_of.result c.bucket_of.ensures.range c.args.locks.now c.answer_in.new.locks c.args.draft.now c.answer_in.new.draft c.args.call.now c.answer_in.result c.requires.open
      (c.bucket_of.ensures.value ∙ ap bucket_of c.key_of.ensures) c.requires.held.1 (plain_call c.args.call.now (λ low high limit is. c.in_default.not-Scan low high limit is)) e.answers;
  traces = traced_in c.args.front.now c.bucket_of.result c.bucket_of.ensures.range c.args.locks.now c.answer_in.new.locks c.args.draft.now c.answer_in.new.draft c.args.call.now c.answer_in.result c.requires.open
      (c.bucket_of.ensures.value ∙ ap bucket_of c.key_of.ensures) c.requires.held.1 (plain_call c.args.call.now (λ low high limit is. c.in_default.not-Scan low high limit is)) e.answers;
}
