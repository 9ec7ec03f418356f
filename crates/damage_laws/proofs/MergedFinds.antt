-- What a part is made of that is unchanged, or was sealed or gathered.
use Rattle.std.proofs.Common.{sym, subst, ◌∙◌}
use Rattle.fine_model.proofs.Trees.NodeLaws.{rows_of-append}
use Rattle.fine_model.specs.Nodes.{rows_of}
use Rattle.damage_laws.specs.Made.{BesideLaw, GatheredLaw, HasRows, KeptLaw, SealedLaw}
use Rattle.damage_laws.proofs.Kept.{found_law}

pub kept_law : KeptLaw
kept_law region_len entry now p u = record { each = λ id rows f. found_law region_len entry now p id rows u f }

pub sealed_law : SealedLaw
sealed_law region_len entry now p own rows has sealed same = record { each = λ id found f. f.exact rows has sealed ∙ same.of_each id }

pub beside_law : BesideLaw
beside_law region_len entry a b older newer of_a of_b = λ id. (rows_of id older, rows_of id newer, of_a id, of_b id, rows_of-append id older newer)

pub gathered_law : GatheredLaw
gathered_law region_len entry now m p own rows has sealed same are =
    record { each = λ id found f. subst (HasRows region_len entry id m) (sym (f.exact rows has sealed ∙ same.of_each id)) (are id) }
