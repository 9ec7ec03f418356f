use Rattle.script_text.proofs.Following.{refuses_long, refuses_feed, refuses_last, goes_more, goes_last, some_bytes}
use Rattle.script_text.proofs.read.read_line.Goals as goal

pub returns-in-TooLong-clause-err : goal.returns-in-TooLong-clause-err
returns-in-TooLong-clause-err g c =
    let e = rw c.in-TooLong.is at c.in_ok-next_line.ensures.line in
    refuses_long c.args.number c.next_line.new.line _ _ _ c.requires.last c.in_ok-next_line.ensures.one e.0 e.1

pub returns-then-not-branch-clause-err : goal.returns-then-not-branch-clause-err
returns-then-not-branch-clause-err g c =
    let e = rw c.in-Feed.is at c.in_ok-next_line.ensures.line in
    let s = rw c.as_slice.ensures at c.in_ok-step-in-Feed.ensures.adds in
    refuses_feed c.args.number c.next_line.new.line _ _ _ c.requires.last c.in_ok-next_line.ensures.one e.0 e.1 (s.no_ c.if-not-branch.true)

pub returns-else-not-branch-clause-ok : goal.returns-else-not-branch-clause-ok
returns-else-not-branch-clause-ok g c =
    let e = rw c.in-Feed.is at c.in_ok-next_line.ensures.line in
    let s = rw c.as_slice.ensures at c.in_ok-step-in-Feed.ensures.adds in
    goes_more c.args.number c.next_line.new.line _ _ _ _ c.requires.last c.in_ok-next_line.ensures.one e.0 e.1 (s.yes_ c.if-not-branch.false)

pub returns-then-not-branch-2-clause-err : goal.returns-then-not-branch-2-clause-err
returns-then-not-branch-2-clause-err g c =
    let e = rw c.in-Input.is at c.in_ok-next_line.ensures.line in
    let s = rw c.as_slice-in-Input-2.ensures at c.in_ok-step-in-Input.ensures.adds in
    refuses_last c.args.number c.next_line.new.line _ _ _ c.requires.last c.in_ok-next_line.ensures.one (some_bytes _ _ c.as_slice-in-Input.ensures c.if-is_empty.ensures) e.0 e.1 e.2 (s.no_ c.if-not-branch-2.true)

pub returns-else-not-branch-2-clause-ok : goal.returns-else-not-branch-2-clause-ok
returns-else-not-branch-2-clause-ok g c =
    let e = rw c.in-Input.is at c.in_ok-next_line.ensures.line in
    let s = rw c.as_slice-in-Input-2.ensures at c.in_ok-step-in-Input.ensures.adds in
    goes_last c.args.number c.next_line.new.line _ _ _ _ c.requires.last c.in_ok-next_line.ensures.one (some_bytes _ _ c.as_slice-in-Input.ensures c.if-is_empty.ensures) e.0 e.1 e.2 (s.yes_ c.if-not-branch-2.false)
