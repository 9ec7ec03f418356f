use Rattle.std.proofs.Common.{◌≡◌, rules, string_bytes, subst}
use Rattle.std.proofs.lemmas.List.Elements.{All-push}
use Rattle.log_disk.specs.FileDisk.{IsAtPath}
use Rattle.log_disk.proofs.file.kept.KeptFiles.keep.Goals as goal

pub returns-then-eq-clause-at_path : goal.returns-then-eq-clause-at_path
returns-then-eq-clause-at_path c =
    let same : string_bytes c.args.file.path ≡ string_bytes c.args.path.now = search rules in
    rw c.push_reserved.ensures.items
    (All-push (IsAtPath (string_bytes c.args.path.now)) c.args.self.now.files.items c.args.file c.requires.at_path (subst (λ path. IsAtPath path c.args.file) same c.requires.opened))
