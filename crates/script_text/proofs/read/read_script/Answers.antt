use Rattle.std.proofs.Common.{◌≡◌, arith, refl}
use Rattle.std.proofs.lemmas.Result.{IfOk-weaker, IfErr-weaker}
use Rattle.script_text.proofs.Following.{follows_start, ends_with, leaves_none, too_many, is_bad_line, follows_same}
use Rattle.script_text.proofs.read.read_script.Goals as goal

pub loop-number-init : goal.loop-number-init
loop-number-init g c = record {
  fits = c.new-progress.ensures.fits;
  follows = follows_start _ c.new-chunk.result _ c.new-chunk.ensures c.new-progress.ensures.empty;
  faults = refl;
}

pub returns-in-Ended-clause-script : goal.returns-in-Ended-clause-script
returns-in-Ended-clause-script g c =
    let t = rw c.in-Ended.is at c.in_ok-turn.ensures.ok in
    IfOk-weaker c.finish.result _ _ (λ script e. ends_with _ _ c.in-Ended.line _ _ (t.follows _ c.loop-number.invariant.follows) t.end.2 e) c.finish.ensures.ok

pub returns-in-Ended-clause-end : goal.returns-in-Ended-clause-end
returns-in-Ended-clause-end g c =
    let t = rw c.in-Ended.is at c.in_ok-turn.ensures.ok in
    IfOk-weaker c.finish.result _ _ (λ script e. leaves_none _ _ c.read_line.new.chunk c.in-Ended.line _ (t.follows _ c.loop-number.invariant.follows) t.end.2) c.finish.ensures.ok

pub returns-in-Ended-clause-refused : goal.returns-in-Ended-clause-refused
returns-in-Ended-clause-refused g c =
    let t = rw c.in-Ended.is at c.in_ok-turn.ensures.ok in
    IfErr-weaker c.finish.result _ _
    (λ fault e bytes s. is_bad_line fault c.in-Ended.line bytes e.0 (ends_with _ _ c.in-Ended.line _ _ (t.follows _ c.loop-number.invariant.follows) t.end.2 e.1 bytes s))
    c.finish.ensures.err

pub returns-in-None-clause-script : goal.returns-in-None-clause-script
returns-in-None-clause-script g c =
    let last : c.loop-number.number ≡ 1000001 = omega arith in
    let f = rw last at c.loop-number.invariant.follows in
    let t = rw c.in-None.is at c.in_ok-next.ensures.none in
    IfOk-weaker c.finish-in-None.result _ _ (λ script e. ends_with _ _ 1000001 _ _ (follows_same _ _ _ 1000001 _ t.0 f) t.1 e) c.finish-in-None.ensures.ok

pub returns-in-None-clause-end : goal.returns-in-None-clause-end
returns-in-None-clause-end g c =
    let last : c.loop-number.number ≡ 1000001 = omega arith in
    let f = rw last at c.loop-number.invariant.follows in
    let t = rw c.in-None.is at c.in_ok-next.ensures.none in
    IfOk-weaker c.finish-in-None.result _ _ (λ script e. leaves_none _ _ c.next.new.self 1000001 _ (follows_same _ _ _ 1000001 _ t.0 f) t.1) c.finish-in-None.ensures.ok

pub returns-in-None-clause-refused : goal.returns-in-None-clause-refused
returns-in-None-clause-refused g c =
    let last : c.loop-number.number ≡ 1000001 = omega arith in
    let f = rw last at c.loop-number.invariant.follows in
    let t = rw c.in-None.is at c.in_ok-next.ensures.none in
    IfErr-weaker c.finish-in-None.result _ _
    (λ fault e bytes s. is_bad_line fault 1000001 bytes e.0 (ends_with _ _ 1000001 _ _ (follows_same _ _ _ 1000001 _ t.0 f) t.1 e.1 bytes s))
    c.finish-in-None.ensures.err

pub returns-in-Some-clause-refused : goal.returns-in-Some-clause-refused
returns-in-Some-clause-refused g c =
    let last : c.loop-number.number ≡ 1000001 = omega arith in
    let f = rw last at c.loop-number.invariant.follows in
    let t = rw c.in-Some.is at c.in_ok-next.ensures.some in
    too_many _ _ _ c.in-Some.field-0 c.next.new.self 1000001 _ f (omega arith) t
