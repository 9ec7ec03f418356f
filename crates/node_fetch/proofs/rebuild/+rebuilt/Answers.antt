use Rattle.std.proofs.Common.{rules, ◌≡◌, true, ◌∷◌, [], sym, ap, ◌∙◌, subst, Err}
use Rattle.std.specs.Prelude.{Any}
use Rattle.std.specs.List.{AllByRecursion, list_any}
use Rattle.std.proofs.lemmas.List.{nil_from_length}
use Rattle.std.proofs.lemmas.List.Quantifiers.{Any-push}
use Rattle.fine_model.specs.declared.Part.{Part}
use Rattle.fine_model.specs.declared.FetchFault.TheVariants as fault
use Rattle.fine_model.specs.Merge.{is_image}
use Rattle.fine_model.specs.Nodes.{content, replay}
use Rattle.node_fetch.specs.Fetched.{HasBadRow, HasBadEntry, TellsParts}
use Rattle.fine_model.proofs.Ordered.Zip.{all_left, all_right}
use Rattle.node_fetch.proofs.Parts.{any_front, fit_rows, later_tells, later_seen, tells_last, tells_none, content_none, content_by_image, content_on, taken_newest, taken_all, after_exact, err_exact, fault_is}
use Rattle.node_fetch.proofs.ReadBack.{replay_none, replay_image, replay_last, replay_same, after_is}
use Rattle.partition_index.specs.Parts.{IsSeen}
use Rattle.node_fetch.proofs.rebuild.+rebuilt.Goals as goal

pub part_rows-requires-clause-seen : goal.part_rows-requires-clause-seen
part_rows-requires-clause-seen g t c =
    let P : Part → Type 0 = IsSeen (g.E.LogEye.state c.args.eye.now) in
    (all_right P c.in-Some.older.now (c.in-Some.newest.now ∷ []) (subst (AllByRecursion P) c.in-Some.ensures.cases.0 c.requires.seen)).0

pub after-requires-clause-rows : goal.after-requires-clause-rows
after-requires-clause-rows g t c = fit_rows c.in-Some.newest.now c.in_ok-rows.rows c.in_ok-rows.ensures.fit

pub rebuilt-requires : goal.rebuilt-requires
rebuilt-requires g t c κs within =
    let P : Part → Type 0 = IsSeen (g.E.LogEye.state c.args.eye.now) in (
      search rules,
      (
        search rules,
        record {
          seen = later_seen (g.E.LogEye.state c.args.eye.now) (g.E.LogEye.state c.part_rows.new.eye) c.in-Some.older.now c.part_rows.ensures.eye.same
              (all_left P c.in-Some.older.now (c.in-Some.newest.now ∷ []) (subst (AllByRecursion P) c.in-Some.ensures.cases.0 c.requires.seen));
          len = c.requires.len ∙ sym c.part_rows.ensures.eye.same.region_len;
        },
      ),
    )

pub after-requires-2-clause-rows : goal.after-requires-2-clause-rows
after-requires-2-clause-rows g t c = fit_rows c.in-Some.newest.now c.in_ok-rows.rows c.in_ok-rows.ensures.fit

pub returns-in_default-clause-fetched : goal.returns-in_default-clause-fetched
returns-in_default-clause-fetched g t c = record {
  read =
      replay_none (g.E.LogEye.state c.args.eye.now) c.args.parts.now c.args.node c.base.result (nil_from_length c.args.parts.now c.in_default.ensures.cases) c.base.ensures.base;
  bad_row = search rules;
  bad_index = search rules;
  exact = λ rows tells.
      let none : c.args.parts.now ≡ [] = nil_from_length c.args.parts.now c.in_default.ensures.cases in
      let no_rows : rows ≡ [] = tells_none (g.E.LogEye.state c.args.eye.now) rows (subst (λ ps. TellsParts (g.E.LogEye.state c.args.eye.now) ps rows) none tells) in
      c.base.ensures.base ∙ sym (ap (λ rs. content rs c.args.node) no_rows ∙ content_none c.args.node);
  taken = search rules;
}

pub returns-in_err-rows-clause-fetched : goal.returns-in_err-rows-clause-fetched
returns-in_err-rows-clause-fetched g t c = record {
  read = search rules;
  bad_row = λ region at e.
      let P : Part → Type 0 = λ p. HasBadRow (g.E.LogEye.state c.args.eye.now).told c.args.region_len p c.args.node (record { region = region; at = at }) in
      let same : c.from_residual.result ≡ Err c.in_err-rows.field-0.0 = search rules in
      let here = c.in_err-rows.ensures.bad_row region at (ap Err (fault_is c.from_residual.result c.in_err-rows.field-0.0 (fault.BadRow region at) same e)) in
      subst (Any P) (sym c.in-Some.ensures.cases.0) (Any-push P c.in-Some.older.now c.in-Some.newest.now here);
  bad_index = λ region at e.
      let P : Part → Type 0 = λ p. HasBadEntry (g.E.LogEye.state c.args.eye.now).told c.args.region_len p (record { region = region; at = at }) in
      let same : c.from_residual.result ≡ Err c.in_err-rows.field-0.0 = search rules in
      let here = c.in_err-rows.ensures.bad_index region at (ap Err (fault_is c.from_residual.result c.in_err-rows.field-0.0 (fault.BadIndex region at) same e)) in
      subst (Any P) (sym c.in-Some.ensures.cases.0) (Any-push P c.in-Some.older.now c.in-Some.newest.now here);
  exact = λ rows tells.
      let l = tells_last (g.E.LogEye.state c.args.eye.now) c.args.parts.now c.in-Some.older.now c.in-Some.newest.now rows c.in-Some.ensures.cases.0 tells in
      let same : c.from_residual.result ≡ Err c.in_err-rows.field-0.0 = search rules in
      err_exact c.from_residual.result c.in_err-rows.field-0.0 (content rows c.args.node) same (c.in_err-rows.ensures.exact l.own l.tells_own);
  taken = λ rows tells. taken_newest (g.E.LogEye.state c.args.eye.now) (g.E.LogEye.state c.part_rows.new.eye).taken c.args.parts.now c.in-Some.older.now c.in-Some.newest.now rows c.args.node c.in-Some.ensures.cases.0 tells c.part_rows.ensures.taken;
}

pub returns-then-has_image-clause-fetched : goal.returns-then-has_image-clause-fetched
returns-then-has_image-clause-fetched g t c = record {
  read =
      let eye = g.E.LogEye.state c.args.eye.now in
      let image : list_any (λ row. is_image row.rec) c.in_ok-rows.rows ≡ true = search rules in
      after_is c.after.result eye c.args.parts.now c.args.node _ c.after.ensures.replay
      (λ found is. replay_image eye c.args.parts.now c.in-Some.older.now c.in-Some.newest.now c.args.node c.in_ok-rows.rows found c.in-Some.ensures.cases.0 c.in_ok-rows.ensures.read image
      (is ∙ ap (λ x. replay x c.in_ok-rows.rows) c.base-then-has_image.ensures.base));
  bad_row = search rules;
  bad_index = search rules;
  exact = λ rows tells.
      let l = tells_last (g.E.LogEye.state c.args.eye.now) c.args.parts.now c.in-Some.older.now c.in-Some.newest.now rows c.in-Some.ensures.cases.0 tells in
      let image : list_any (λ row. is_image row.rec) c.in_ok-rows.rows ≡ true = search rules in
      let own = c.in_ok-rows.ensures.exact l.own l.tells_own in
      after_exact c.after.result _ (content rows c.args.node) c.after.ensures.replay c.after.ensures.err
      (ap (λ x. replay x c.in_ok-rows.rows) c.base-then-has_image.ensures.base ∙ content_by_image rows l.before l.own c.in_ok-rows.rows c.args.node l.whole own image);
  taken = λ rows tells. taken_newest (g.E.LogEye.state c.args.eye.now) (g.E.LogEye.state c.part_rows.new.eye).taken c.args.parts.now c.in-Some.older.now c.in-Some.newest.now rows c.args.node c.in-Some.ensures.cases.0 tells c.part_rows.ensures.taken;
}

pub returns-in_err-before-clause-fetched : goal.returns-in_err-before-clause-fetched
returns-in_err-before-clause-fetched g t c = record {
  read = search rules;
  bad_row = λ region at e.
      let P : Part → Type 0 = λ p. HasBadRow (g.E.LogEye.state c.args.eye.now).told c.args.region_len p c.args.node (record { region = region; at = at }) in
      let same : c.from_residual-in_err-before.result ≡ Err c.in_err-before.field-0.0 = search rules in
      let there = c.in_err-before.ensures.fetched.bad_row region at (ap Err (fault_is c.from_residual-in_err-before.result c.in_err-before.field-0.0 (fault.BadRow region at) same e)) in
      let here : Any P c.in-Some.older.now = subst (λ told. Any (λ p. HasBadRow told c.args.region_len p c.args.node (record { region = region; at = at })) c.in-Some.older.now) c.part_rows.ensures.eye.same.told there in
      subst (Any P) (sym c.in-Some.ensures.cases.0) (any_front P c.in-Some.older.now (c.in-Some.newest.now ∷ []) here);
  bad_index = λ region at e.
      let P : Part → Type 0 = λ p. HasBadEntry (g.E.LogEye.state c.args.eye.now).told c.args.region_len p (record { region = region; at = at }) in
      let same : c.from_residual-in_err-before.result ≡ Err c.in_err-before.field-0.0 = search rules in
      let there = c.in_err-before.ensures.fetched.bad_index region at (ap Err (fault_is c.from_residual-in_err-before.result c.in_err-before.field-0.0 (fault.BadIndex region at) same e)) in
      let here : Any P c.in-Some.older.now = subst (λ told. Any (λ p. HasBadEntry told c.args.region_len p (record { region = region; at = at })) c.in-Some.older.now) c.part_rows.ensures.eye.same.told there in
      subst (Any P) (sym c.in-Some.ensures.cases.0) (any_front P c.in-Some.older.now (c.in-Some.newest.now ∷ []) here);
  exact = λ rows tells.
      let l = tells_last (g.E.LogEye.state c.args.eye.now) c.args.parts.now c.in-Some.older.now c.in-Some.newest.now rows c.in-Some.ensures.cases.0 tells in
      let same : c.from_residual-in_err-before.result ≡ Err c.in_err-before.field-0.0 = search rules in
      let later = later_tells (g.E.LogEye.state c.args.eye.now) (g.E.LogEye.state c.part_rows.new.eye) c.in-Some.older.now l.before c.part_rows.ensures.eye.same l.tells_before in
      err_exact c.from_residual-in_err-before.result c.in_err-before.field-0.0 (content rows c.args.node) same (c.in_err-before.ensures.fetched.exact l.before later);
  taken = λ rows tells.
      taken_all (g.E.LogEye.state c.args.eye.now) (g.E.LogEye.state c.part_rows.new.eye) (g.E.LogEye.state c.rebuilt.new.eye).taken c.args.parts.now c.in-Some.older.now c.in-Some.newest.now rows c.args.node c.in-Some.ensures.cases.0 c.part_rows.ensures.eye.same tells
      c.part_rows.ensures.taken c.rebuilt.ensures.fetched.taken;
}

pub returns-clause-fetched : goal.returns-clause-fetched
returns-clause-fetched g t c = record {
  read =
      let eye = g.E.LogEye.state c.args.eye.now in
      let before = replay_same eye (g.E.LogEye.state c.part_rows.new.eye) c.in-Some.older.now c.args.node c.in_ok-before.before c.part_rows.ensures.eye.same c.in_ok-before.ensures.fetched.read in
      after_is c.after-2.result eye c.args.parts.now c.args.node _ c.after-2.ensures.replay
      (λ found is. replay_last eye c.args.parts.now c.in-Some.older.now c.in-Some.newest.now c.args.node c.in_ok-rows.rows c.in_ok-before.before found c.in-Some.ensures.cases.0 c.in_ok-rows.ensures.read before is);
  bad_row = search rules;
  bad_index = search rules;
  exact = λ rows tells.
      let l = tells_last (g.E.LogEye.state c.args.eye.now) c.args.parts.now c.in-Some.older.now c.in-Some.newest.now rows c.in-Some.ensures.cases.0 tells in
      let own = c.in_ok-rows.ensures.exact l.own l.tells_own in
      let later = later_tells (g.E.LogEye.state c.args.eye.now) (g.E.LogEye.state c.part_rows.new.eye) c.in-Some.older.now l.before c.part_rows.ensures.eye.same l.tells_before in
      let before = c.in_ok-before.ensures.fetched.exact l.before later in
      after_exact c.after-2.result _ (content rows c.args.node) c.after-2.ensures.replay c.after-2.ensures.err
      (content_on rows l.before l.own c.in_ok-rows.rows c.args.node _ l.whole own before);
  taken = λ rows tells.
      taken_all (g.E.LogEye.state c.args.eye.now) (g.E.LogEye.state c.part_rows.new.eye) (g.E.LogEye.state c.rebuilt.new.eye).taken c.args.parts.now c.in-Some.older.now c.in-Some.newest.now rows c.args.node c.in-Some.ensures.cases.0 c.part_rows.ensures.eye.same tells
      c.part_rows.ensures.taken c.rebuilt.ensures.fetched.taken;
}
