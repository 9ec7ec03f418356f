use Rattle.std.proofs.Common.{◌≡◌, ◌-◌, set, refl, sym, ap, ◌∙◌}
use Rattle.fine_model.specs.declared.law.ViewState.{ViewState}
use Rattle.fine_boxes.specs.declared.model.Reads.{Reads}
use Rattle.fine_hall.specs.declared.turn.Turn.{Turn}
use Rattle.fine_hall.proofs.Passing.{reads_is}
use Rattle.fine_hall.proofs.Meaning.{is_view, view_state}
use Rattle.fine_hall.proofs.Mailing.{posting_pass, posts, as_posted, may_too}
use Rattle.fine_hall.proofs.mail.Hall+R+B+V.post.Goals as goal

pub unreachable-requires : goal.unreachable-requires
unreachable-requires g c =
    let t = c.requires.view in
    let told = c.post-load.ensures.posted t.0 (g.V.ViewLaw.state c.args.view) (ap (λ (y : Reads Turn). y.turn) (sym (reads_is c.args.pass.now _ c.take_seat-own.ensures.view)) ∙ t.1.turn) refl in
    is_view g.V.ViewLaw.state c.post-load.result.0 told.0 told.1 c.in_default.not-View

pub returns-clause-pass : goal.returns-clause-pass
returns-clause-pass g c =
    let number = c.give_seat.ensures.number ∙ c.take_seat-own.ensures.number in
    let table = c.give_seat.ensures.seat.0 ∙ (c.post-load.ensures.table.0 ∙ (c.take_seat-own.ensures.seat.0 ∙ c.requires.pass.table)) in
    let front : (c.give_seat.new.self.front ≡ c.args.pass.now.front) × (c.give_seat.new.self.buffer ≡ c.args.pass.now.buffer) = (c.give_seat.ensures.front.0 ∙ c.take_seat-own.ensures.front.0, c.give_seat.ensures.front.1 ∙ c.take_seat-own.ensures.front.1) in
    let t = c.requires.view in
    let told = c.post-load.ensures.posted t.0 (g.V.ViewLaw.state c.args.view) (ap (λ (y : Reads Turn). y.turn) (sym (reads_is c.args.pass.now _ c.take_seat-own.ensures.view)) ∙ t.1.turn) refl in
    let same = view_state g.V.ViewLaw.state c.post-load.result.0 told.0 c.in-View.old told.1 c.in-View.is in (
      posting_pass g.V.ViewLaw.state _ _ c.args.pass.now _ c.requires.pass c.take_seat-own.ensures.view (record c.give_seat.new.self { backs = set c.give_seat.new.self.backs (c.args.seat - 1) c.post-load.result.1 }) _ c.give_seat.ensures.view table number c.args.seat c.requires.seat.0 c.requires.seat.1
          t.0 t.1 (g.V.ViewLaw.state c.args.view) (g.V.ViewLaw.state c.in-View.old) t.2 (as_posted t.0 (c.args.seat - 1) _ _ _ c.take_seat-own.result.me.0 c.post-load.new.seat.me.0 same told.3) front
          (λ i. set ((c.give_seat.ensures.front.2 ∙ c.take_seat-own.ensures.front.2) i) (c.args.seat - 1) ((told.2 ∙ ap (λ (o : ViewState). o.buffer) (sym same)) i)),
      number,
    )

pub returns-clause-posts : goal.returns-clause-posts
returns-clause-posts g c = λ u h.
    let number = c.give_seat.ensures.number ∙ c.take_seat-own.ensures.number in
    let table = c.give_seat.ensures.seat.0 ∙ (c.post-load.ensures.table.0 ∙ (c.take_seat-own.ensures.seat.0 ∙ c.requires.pass.table)) in
    let front : (c.give_seat.new.self.front ≡ c.args.pass.now.front) × (c.give_seat.new.self.buffer ≡ c.args.pass.now.buffer) = (c.give_seat.ensures.front.0 ∙ c.take_seat-own.ensures.front.0, c.give_seat.ensures.front.1 ∙ c.take_seat-own.ensures.front.1) in
    let t = c.requires.view in
    let may = may_too _ c.args.seat c.args.pass.now t.0 u (g.V.ViewLaw.state c.args.view) t.1 h t.2 in
    let told = c.post-load.ensures.posted u (g.V.ViewLaw.state c.args.view) (ap (λ (y : Reads Turn). y.turn) (sym (reads_is c.args.pass.now _ c.take_seat-own.ensures.view)) ∙ h.turn) refl in
    let same = view_state g.V.ViewLaw.state c.post-load.result.0 told.0 c.in-View.old told.1 c.in-View.is in
    posts g.V.ViewLaw.state _ _ c.args.pass.now _ c.requires.pass c.take_seat-own.ensures.view (record c.give_seat.new.self { backs = set c.give_seat.new.self.backs (c.args.seat - 1) c.post-load.result.1 }) _ c.give_seat.ensures.view table number c.args.seat c.requires.seat.0 c.requires.seat.1
    u h (g.V.ViewLaw.state c.args.view) (g.V.ViewLaw.state c.in-View.old) may (as_posted u (c.args.seat - 1) _ _ _ c.take_seat-own.result.me.0 c.post-load.new.seat.me.0 same told.3) front
    (λ i. set ((c.give_seat.ensures.front.2 ∙ c.take_seat-own.ensures.front.2) i) (c.args.seat - 1) ((told.2 ∙ ap (λ (o : ViewState). o.buffer) (sym same)) i))
