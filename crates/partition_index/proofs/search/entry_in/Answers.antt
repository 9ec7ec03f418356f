use Rattle.std.proofs.Common.{arith, ◌≡◌, sym, subst}
use Rattle.fine_model.specs.Seek.{entry_at}
use Rattle.partition_index.specs.Entries.{model_of}
use Rattle.partition_index.specs.Search.{IfTold, IsBadAt, IsNoEntryAt}
use Rattle.partition_index.proofs.Entry.{told_entry, bad_entry, no_entry}
use Rattle.partition_index.proofs.search.entry_in.Goals as goal

pub returns-then-not-may_stand-clause-bad : goal.returns-then-not-may_stand-clause-bad
returns-then-not-may_stand-clause-bad c known range at is =
    let p = c.args.part.now in
    let same : c.entry_place.result ≡ at = cc in
    let told : IfTold known p (λ body. entry_at p.header body c.args.i ≡ model_of c.entry_of-entry.result) = told_entry known p c.args.i c.args.bytes c.entry_of-entry.result range (omega arith) c.entry_of-entry.ensures in
    subst (IsBadAt known p) same (bad_entry known p c.entry_place.result c.args.i c.entry_of-entry.result c.requires.there c.entry_place.ensures (sym c.if-not-may_stand.ensures) told)

pub returns-then-not-may_stand-clause-none : goal.returns-then-not-may_stand-clause-none
returns-then-not-may_stand-clause-none c known range at is =
    let p = c.args.part.now in
    let same : c.entry_place.result ≡ at = cc in
    let told : IfTold known p (λ body. entry_at p.header body c.args.i ≡ model_of c.entry_of-entry.result) = told_entry known p c.args.i c.args.bytes c.entry_of-entry.result range (omega arith) c.entry_of-entry.ensures in
    subst (IsNoEntryAt known p c.args.i) same (no_entry known p c.entry_place.result c.args.i c.entry_of-entry.result c.entry_place.ensures (sym c.if-not-may_stand.ensures) told)

pub returns-clause-ok : goal.returns-clause-ok
returns-clause-ok c known range = record {
  sound = sym c.if-not-may_stand.ensures;
  told = told_entry known c.args.part.now c.args.i c.args.bytes c.entry_of-entry.result range (omega arith) c.entry_of-entry.ensures;
}
