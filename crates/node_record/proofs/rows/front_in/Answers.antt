use Rattle.std.proofs.Common.{◌≡◌, ◌+◌, ◌∙◌, Bool, true, false, cond, drop, Some, None, refl, sym, ap}
use Rattle.std.specs.Prelude.{slice_index, option_map}
use Rattle.std.specs.Bool.{then_some}
use Rattle.std.specs.Int.{from_be_bytes, w16, w32, w64}
use Rattle.node_record.proofs.FieldsRead.{front_of, front_read}
use Rattle.node_record.proofs.rows.front_in.Goals as goal

chosen : {A B : Type 0} (f : A → B) (holds : Bool) (x : A) → cond holds (Some (f x)) None ≡ option_map f (then_some holds x)
chosen f true x = refl
chosen f false x = refl

pub returns : goal.returns
returns c =
    let bytes = c.args.bytes.now in
    let front = front_of (slice_index bytes c.args.start) c.from_be_bytes.result c.from_be_bytes-2.result c.from_be_bytes-3.result c.from_be_bytes-4.result in
    let read = front_read c.args.mark front bytes c.args.start c.requires refl (c.from_be_bytes.ensures ∙ ap (from_be_bytes w16) c.part.ensures) (c.from_be_bytes-2.ensures ∙ ap (from_be_bytes w32) c.part-2.ensures)
    (c.from_be_bytes-3.ensures ∙ ap (from_be_bytes w64) c.part-3.ensures) (c.from_be_bytes-4.ensures ∙ ap (from_be_bytes w32) c.part-4.ensures) in
    read ∙ ap (λ (b : Bool). cond b (Some (front, drop (c.args.start + 19) bytes)) None) (sym c.is_front.ensures) ∙ chosen (λ f. (f, drop (c.args.start + 19) bytes)) c.is_front.result front ∙ ap (option_map (λ f. (f, drop (c.args.start + 19) bytes))) (sym c.then_some.ensures)
