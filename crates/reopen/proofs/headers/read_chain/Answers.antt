-- The chain of the parts that were read.
use Rattle.std.proofs.Common.{◌≡◌, List, Result, Ok, Err, sym, subst}
use Rattle.std.specs.Prelude.{IfOk, IfErr}
use Rattle.std.proofs.lemmas.Result.{err_from_is_err_and}
use Rattle.fine_model.specs.declared.Part.{Part}
use Rattle.fine_model.specs.Chain.{apart, chain_of}
use Rattle.log_disk.specs.Disk.{Disk}
use Rattle.reopen.specs.declared.chain.Chain.{Chain}
use Rattle.reopen.specs.declared.fault.OpenFault.{OpenFault}
use Rattle.reopen.specs.Opening.{SeesParts, SeesChain, TellsDamage, IsDamage, Tells, beside}
use Rattle.reopen.proofs.Seeing.{chain_ok, shared_told, walk_told}
use Rattle.reopen.proofs.headers.read_chain.Goals as goal

pub returns-in_err-check_apart-clause-err : goal.returns-in_err-check_apart-clause-err
returns-in_err-check_apart-clause-err g c =
    let p = err_from_is_err_and c.from_residual-in_err-check_apart.result c.from_residual-in_err-check_apart.ensures.1 in
    rw (p.1, p.2) (λ _. shared_told (g.D.LogDisk.state c.args.disk.now) c.as_slice-parts.result.now c.in_err-check_apart.field-0.0 (subst (SeesParts (g.D.LogDisk.state c.args.disk.now)) (sym c.as_slice-parts.ensures) c.in_ok-sealed.ensures.ok) c.in_err-check_apart.ensures.err.1)

module _ (disk : Disk) (sealed : List Part) (sees : SeesParts disk sealed) (disjoint : apart sealed ≡ Ok sealed) where
  walk_ok : (r : Result Chain OpenFault) → IfOk r (λ found. (chain_of sealed ≡ Ok found.parts) × (found.retired ≡ beside found.parts sealed)) → IfOk r (SeesChain disk)
  walk_ok (Ok found) is = chain_ok disk sealed found sees disjoint is.0 is.1
  walk_ok (Err f) is = tt

  walk_err : (r : Result Chain OpenFault) → IfErr r (λ f. IsDamage f → Tells (chain_of sealed) f) → IfErr r (TellsDamage disk)
  walk_err (Ok found) is = tt
  walk_err (Err f) is = λ d. walk_told disk sealed f sees disjoint (is d)

pub returns-clause-ok : goal.returns-clause-ok
returns-clause-ok g c = walk_ok (g.D.LogDisk.state c.args.disk.now) c.as_slice-parts.result.now (subst (SeesParts (g.D.LogDisk.state c.args.disk.now)) (sym c.as_slice-parts.ensures) c.in_ok-sealed.ensures.ok) c.in_ok-check_apart.ensures.ok c.chain_of.result c.chain_of.ensures.ok

pub returns-clause-err : goal.returns-clause-err
returns-clause-err g c = walk_err (g.D.LogDisk.state c.args.disk.now) c.as_slice-parts.result.now (subst (SeesParts (g.D.LogDisk.state c.args.disk.now)) (sym c.as_slice-parts.ensures) c.in_ok-sealed.ensures.ok) c.in_ok-check_apart.ensures.ok c.chain_of.result c.chain_of.ensures.err
