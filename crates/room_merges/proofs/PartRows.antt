-- The rows of one part, among those of all.
use Rattle.std.proofs.Common.{ℕ, zero, suc, List, [], ◌∷◌, Option, refl, sym, subst, arith, append-nil}
use Rattle.std.specs.Prelude.{Contains}
use Rattle.std.specs.List.{AllByRecursion}
use Rattle.fine_model.specs.declared.Part.{Part}
use Rattle.fine_model.specs.declared.Row.{Row}
use Rattle.fine_model.specs.Chain.{AreRowsOf}
use Rattle.fine_model.specs.Regions.{HasHeader, Image}
use Rattle.fine_model.specs.Views.{TellsRowsOf}

own_rows : (region_len : ℕ) (image : Image) (parts : List Part) (p : Part) (rows : List Row) → AllByRecursion (λ q. HasHeader region_len image q.region q.header) parts → AreRowsOf region_len image parts rows → Contains parts p
    → (own : List Row) × HasHeader region_len image p.region p.header × AreRowsOf region_len image (p ∷ []) own
unfolding AreRowsOf
own_rows region_len image [] p rows headers are (k, within, is) = absurd (omega (arith, within))
own_rows region_len image (q ∷ parts) p rows headers are (zero, within, is) = (
  are.0,
  subst (λ (z : Part). HasHeader region_len image z.region z.header) is headers.0,
  subst (λ z. AreRowsOf region_len image (z ∷ []) are.0) is (are.0, [], sym (append-nil are.0), are.3, refl),
)
own_rows region_len image (q ∷ parts) p rows headers are (suc k, within, is) = own_rows region_len image parts p are.1 headers.1 are.4 (k, omega (arith, within), is)

-- who tells all of them tells each
pub own_told : (told : Option Image) (region_len : ℕ) (parts : List Part) (p : Part) (rows : List Row) → TellsRowsOf told region_len parts rows → Contains parts p → (own : List Row) × TellsRowsOf told region_len (p ∷ []) own
own_told told region_len parts p rows t there =
    let own = own_rows region_len t.image parts p rows t.headers t.are_rows there in
    (own.0, record { image = t.image; is_told = t.is_told; headers = (own.1, tt); are_rows = own.2 })
