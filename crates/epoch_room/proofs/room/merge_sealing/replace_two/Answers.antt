use Rattle.std.proofs.Common.{◌≡◌, ◌+◌, ◌==◌, set, ap, ◌∙◌}
use Rattle.std.specs.List.{position_or_len, remove}
use Rattle.fine_model.specs.declared.Part.{Part}
use Rattle.epoch_room.proofs.Merges.Retired.{replaced_two}
use Rattle.epoch_room.proofs.room.merge_sealing.replace_two.Goals as goal

pub returns : goal.returns
returns c =
    let lead = c.args.lead in
    let parts = c.args.parts.now in
    let at : c.or_end-at.result ≡ position_or_len (λ p. p.region == lead) parts = c.or_end-at.ensures (λ p. p.region == lead) c.position_of_lead.ensures ∙ ap (position_or_len (λ (p : Part). p.region == lead)) c.as_slice-slice.ensures in
    c.remove-newer.ensures.items ∙ ap (λ ps. remove ps (c.or_end-at.result + 1)) c.replace-older.ensures.items ∙ ap (λ k. remove (set parts k c.args.part) (k + 1)) at ∙ replaced_two parts lead c.args.part c.requires
