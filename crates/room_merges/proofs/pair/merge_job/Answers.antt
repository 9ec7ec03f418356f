use Rattle.std.proofs.Common.{◌≡◌, Ok, Err, Result, refl, sym, subst, ap, ◌∙◌}
use Rattle.std.specs.Prelude.{Contains, IsErrOf, MatchResult}
use Rattle.fine_model.specs.declared.FetchFault.{FetchFault}
use Rattle.fine_model.specs.declared.FetchFault.TheVariants as fetch_fault
use Rattle.fine_model.specs.Merge.{merged}
use Rattle.node_fetch.specs.Fetched.{NoDamage}
use Rattle.partition_index.specs.Parts.{CountsFaults}
use Rattle.partition_index.specs.Search.{TellsRows as TellsPart}
use Rattle.partition_merge.specs.declared.merger.Measure.{Measure}
use Rattle.partition_merge.specs.declared.merger.Merger.{Merger}
use Rattle.partition_merge.specs.Mergers.{IsMeasureOf, at_front, measure_of, start_of}
use Rattle.room_merges.specs.Merging.{Measures}
use Rattle.room_merges.proofs.Chained.{measure_is_told}
use Rattle.room_merges.proofs.Pairing.{job_measured, job_unmeasured}
use Rattle.room_merges.proofs.Working.{of_same, posted_then}
use Rattle.room_merges.proofs.pair.merge_job.Goals as goal

pub measure-requires : goal.measure-requires
measure-requires g c = record {
  older = subst (Contains c.args.view.now.parts) (sym c.new-merger.ensures.older) c.requires.fresh.older;
  newer = subst (Contains c.args.view.now.parts) (sym c.new-merger.ensures.newer) c.requires.fresh.newer;
  region_len = c.new-merger.ensures.region_len ∙ c.region_len.ensures;
}

pub merge_measured-requires-clause-fresh : goal.merge_measured-requires-clause-fresh
merge_measured-requires-clause-fresh g c κs within = record {
  out = c.requires.fresh.out;
  opened = c.requires.fresh.opened;
  is = c.requires.fresh.is;
  older = subst (λ ps. Contains ps c.args.job.now.older) (sym c.measure.ensures.same.parts) c.requires.fresh.older;
  newer = subst (λ ps. Contains ps c.args.job.now.newer) (sym c.measure.ensures.same.parts) c.requires.fresh.newer;
  posted = posted_then c.args.room.now.room c.args.room.now.room c.args.view.now c.measure.new.self refl c.measure.ensures.same c.requires.fresh.posted;
  region_len = c.measure.ensures.same.region_len ∙ c.requires.fresh.region_len;
}

pub merge_measured-requires-clause-counted : goal.merge_measured-requires-clause-counted
merge_measured-requires-clause-counted g c κs within = c.in-Ok.ensures.counted

pub merge_measured-requires-clause-measured : goal.merge_measured-requires-clause-measured
merge_measured-requires-clause-measured g c κs within =
    let view = c.args.view.now in
    let job = c.args.job.now in
    let measured : Measures view job.older job.newer c.in-Ok.measure =
    measure_is_told view job.older job.newer c.in-Ok.measure c.parts-parts.ensures.whole c.requires.fresh.older c.requires.fresh.newer
    (λ a b p q small. subst (λ (r : Result Measure FetchFault). MatchResult r (λ m. m ≡ measure_of (merged a b)) NoDamage) c.in-Ok.is
    (c.measure.ensures.exact a b (subst (λ part. TellsPart view.eye part a) (sym c.new-merger.ensures.older) p) (subst (λ part. TellsPart view.eye part b) (sym c.new-merger.ensures.newer) q) small)) in
    of_same view c.measure.new.self job job c.measure.ensures.same refl refl (λ a b. c.in-Ok.measure ≡ measure_of (merged a b)) measured

pub returns-in-Ok : goal.returns-in-Ok
returns-in-Ok g c =
    let view = c.args.view.now in
    let job = c.args.job.now in
    let is : c.new-merger.result ≡ at_front job.older job.newer view.region_len = c.new-merger.ensures.front ∙ ap (at_front job.older job.newer) c.region_len.ensures in
    let measured : Measures view job.older job.newer c.in-Ok.measure =
    measure_is_told view job.older job.newer c.in-Ok.measure c.parts-parts.ensures.whole c.requires.fresh.older c.requires.fresh.newer
    (λ a b p q small. subst (λ (r : Result Measure FetchFault). MatchResult r (λ m. m ≡ measure_of (merged a b)) NoDamage) c.in-Ok.is
    (c.measure.ensures.exact a b (subst (λ part. TellsPart view.eye part a) (sym c.new-merger.ensures.older) p) (subst (λ part. TellsPart view.eye part b) (sym c.new-merger.ensures.newer) q) small)) in
    job_measured c.args.room.now c.merge_measured.new.room view c.measure.new.self c.merge_measured.new.view (job.older, job.newer) c.merge_measured.new.job c.in-Ok.measure c.merge_measured.result c.measure.ensures.same
    (c.measure.ensures.counts.else_same (λ failed. (let e : ◌≡◌ {A = Result Measure FetchFault} (Ok c.in-Ok.measure) (Err fetch_fault.Failed) = sym c.in-Ok.is ∙ failed in cc)))
    (subst (λ (m : Merger). IsMeasureOf view.eye.told (start_of m) c.in-Ok.measure) is c.in-Ok.ensures.sums) measured c.merge_measured.ensures

pub returns-in-Err : goal.returns-in-Err
returns-in-Err g c =
    let view = c.args.view.now in
    let job = c.args.job.now in
    let fault = c.in-Err.fault in
    job_unmeasured c.args.room.now view c.measure.new.self c.new-merger.result job fault
    (record { whole = c.counts-counts.ensures.whole; is_view = c.parts-parts.ensures.whole; posted = c.requires.fresh.posted; region_len = c.requires.fresh.region_len }) c.requires.fresh.out c.requires.fresh.older c.requires.fresh.newer
    (c.new-merger.ensures.front ∙ ap (at_front job.older job.newer) c.region_len.ensures) c.measure.ensures.same
    (subst (λ (r : Result Measure FetchFault). CountsFaults (IsErrOf r fetch_fault.Failed) view.eye c.measure.new.self.eye) c.in-Err.is c.measure.ensures.counts)
    (λ region at bad. c.measure.ensures.bad_row region at (c.in-Err.is ∙ bad))
    (λ region at bad. c.measure.ensures.bad_index region at (c.in-Err.is ∙ bad))
    (λ a b p q small. subst (λ (r : Result Measure FetchFault). MatchResult r (λ m. m ≡ measure_of (merged a b)) NoDamage) c.in-Err.is (c.measure.ensures.exact a b p q small))
