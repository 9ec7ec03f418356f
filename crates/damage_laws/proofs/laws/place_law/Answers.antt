use Rattle.damage_laws.proofs.Kept.{body_law, place_law, found_law, row_blamed, entry_blamed}
use Rattle.damage_laws.proofs.laws.place_law.Goals as goal

pub returns : goal.returns
returns c = record { body = body_law; place = place_law; found = found_law; row = row_blamed; entry = entry_blamed }
