use Rattle.std.proofs.Common.{◌≡◌, ◌∙◌, [], Option, Some, None, refl, sym, ap, subst}
use Rattle.std.proofs.lemmas.Option.{none-some}
use Rattle.std.specs.List.{AllByRecursion}
use Rattle.log_disk.specs.Disk.{BothSee, Image, Told}
use Rattle.fine_model.specs.Chain.{AreRowsOf}
use Rattle.fine_model.specs.Regions.{HasHeader}
use Rattle.partition_hold.specs.Sources.{tells_rows}
use Rattle.partition_hold.specs.Views.{ViewValue}
use Rattle.partition_hold_tests.proofs.tests.empty_view.Goals as goal

seen : (told : Option Told) (t : Told) (image : Option Image) → told ≡ Some t → BothSee told image → (i : Image) × (image ≡ Some i)
seen None t image is sees = absurd (none-some t is)
seen (Some u) t (Some i) is sees = (i, refl)
seen (Some u) t None is sees = absurd sees

tells_none : (v : ViewValue) (image : Image) → v.parts ≡ [] → v.eye.told ≡ Some image → tells_rows v []
unfolding AreRowsOf
tells_none v image none told = record {
  image = image;
  is_told = told;
  headers = subst (AllByRecursion (λ p. HasHeader v.region_len image p.region p.header)) (sym none) tt;
  are_rows = subst (λ ps. AreRowsOf v.region_len image ps []) (sym none) refl;
}

pub returns : goal.returns
returns c =
    let s = seen c.in_ok-disk.disk.disk.told _ c.in_ok-eye.eye.eye.told (ap (λ d. d.disk.told) c.in_ok-disk.ensures) c.in_ok-eye.ensures.ok.sees in
    tells_none c.new-3.result s.0 (ap (λ v. v.parts) c.new-3.ensures.made ∙ c.new-2.ensures) (ap (λ v. v.eye.told) c.new-3.ensures.made ∙ s.1)
